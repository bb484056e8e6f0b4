-- What bytes ask for, or why they are no bundle.
use Rattle.std.specs.Prelude.{◌≡◌, ◌⊎◌, ◌||◌, ◌^◌, ⊤, ℕ, List, [], ◌∷◌, ◌++◌, codes, Bool, true, false, nat_lt, Option, Some, None, option_map, option_and_then, Result, Ok, Err, Any, AllPairs, if◌then◌else◌}
use Rattle.std.specs.Str.{is_utf8, bytes_eq}
use Rattle.serde_json.specs.Data.{Data, Items, no_items, item, Members, no_members, member}
use Rattle.serde_json.specs.Read.{read}
use Rattle.serde_json.specs.Find.{get, as_object, as_array, as_str, as_number, as_u64}
use Rattle.wgsl_path.specs.Paths.{path_text}
use Rattle.wgsl_path.specs.Reading.{PathResult, parts, path_of}
use Rattle.wgsl_path.specs.declared.path.PathOrigin.{PathOrigin}
use Rattle.wgsl_path.specs.declared.path.PathOrigin.TheVariants.{Absolute, Relative, Package}
use Rattle.wgsl_path.specs.declared.path.ModulePath.{ModulePath}
use Rattle.wesl_conditions.specs.declared.features.feature.Feature.{Feature}
use Rattle.wesl_conditions.specs.declared.features.feature.Feature.TheVariants.{Enable, Disable, Keep, Error}
use Rattle.wesl_conditions.specs.declared.features.feature.Features.{Features}
use Rattle.wesl_conditions.specs.Settings.{setting}
use Rattle.weslc_bundle.specs.declared.features.Flag.{Flag}
use Rattle.weslc_bundle.specs.declared.features.FeatureSettings.{FeatureSettings}
use Rattle.weslc_bundle.specs.declared.request.Command.{Command}
use Rattle.weslc_bundle.specs.declared.request.Command.TheVariants.{Link, Compile, Precompile, Run, Eval}
use Rattle.weslc_bundle.specs.declared.request.Key.{Key}
use Rattle.weslc_bundle.specs.declared.request.Key.TheVariants as key
use Rattle.weslc_bundle.specs.declared.request.Module.{Module}
use Rattle.weslc_bundle.specs.declared.request.Request.{Request}
use Rattle.weslc_bundle.specs.declared.bundle.Bundle.{Bundle}
use Rattle.weslc_bundle.specs.declared.request.BundleError.{BundleError}
use Rattle.weslc_bundle.specs.declared.request.BundleError.TheVariants.{NotAnObject, UnknownKey, Value, DuplicateModule, OutOfMemory}
use Rattle.weslc_compile.specs.Options.{Options}
use Rattle.weslc_run.specs.Mode.{Mode}
use Rattle.weslc_run.specs.Mode.TheVariants.{Lazy, Eager, Whole}
use Rattle.weslc_bundle.specs.Held.{Holds}

-- ---- answers

-- what is asked for, or the first fault
abbrev pub Asked : Type 0 → Type 0
Asked A = Result A BundleError

infixl 10 ◌>>=◌
abbrev pub ◌>>=◌ : {A B : Type 0} → Asked A → (A → Asked B) → Asked B
(Ok x) >>= f = f x
(Err e) >>= f = Err e

-- What is answered is meant, or memory was refused.
abbrev pub Answers : (A : Type 0) → Asked A → Asked A → Type 0
Answers A (Ok x) meant = meant ≡ Ok x
Answers A (Err e) meant = (e ≡ OutOfMemory) ⊎ (meant ≡ Err e)

-- what there has to be
abbrev pub required : {A : Type 0} → BundleError → Option A → Asked A
required fault None = Err fault
required fault (Some x) = Ok x

-- what stands at a key, or what it is where the key is missing
abbrev pub optional : {A : Type 0} → Key → A → (Data → Option A) → Option Data → Asked A
optional k default reads None = Ok default
optional k default reads (Some d) = required (Value k) (reads d)

-- ---- values

-- what each item is, if each is something
abbrev pub each : {A : Type 0} → (Data → Option A) → Items → Option (List A)
each reads no_items = Some []
each reads (item d ds) = option_and_then (λ x. option_map (λ xs. x ∷ xs) (each reads ds)) (reads d)

abbrev pub text_at : List ℕ → Data → Option (List ℕ)
text_at name d = option_and_then as_str (get name d)

abbrev pub command_of : List ℕ → Option Command
command_of name =
    if bytes_eq name (codes "link") then Some Link else if bytes_eq name (codes "compile") then Some Compile else if bytes_eq name (codes "precompile") then Some Precompile else if bytes_eq name (codes "run") then Some Run else if bytes_eq name (codes "eval") then Some Eval else None

abbrev pub unless_relative : PathOrigin → ModulePath → Option ModulePath
unless_relative Absolute path = Some path
unless_relative (Relative levels) path = None
unless_relative (Package name) path = Some path

abbrev pub not_relative : PathResult ModulePath → Option ModulePath
not_relative (Ok path) = unless_relative path.origin path
not_relative (Err e) = None

-- a path that is not relative
abbrev pub path_in : List ℕ → Option ModulePath
path_in text = not_relative (path_of (parts text))

-- a module at a path
abbrev pub module_at : ModulePath → List ℕ → Module
module_at path text = record { path = path; text = text }

abbrev pub has_two : Option Members → Bool
has_two (Some (member k d (member l e no_members))) = true
has_two _ = false

-- an object of exactly `path` and `text`
abbrev pub module_of : Data → Option Module
module_of d =
    if has_two (as_object d) then option_and_then (λ path. option_map (module_at path) (text_at (codes "text") d)) (option_and_then path_in (text_at (codes "path") d)) else None

abbrev pub modules_of : Data → Option (List Module)
modules_of d = option_and_then (each module_of) (as_array d)

abbrev pub names_of : Data → Option (List (List ℕ))
names_of d = option_and_then (each as_str) (as_array d)

abbrev pub u64_of : Data → Option ℕ
u64_of d = option_and_then as_u64 (as_number d)

abbrev pub if_u32 : ℕ → Option ℕ
if_u32 n = if nat_lt n (2 ^ 32) then Some n else None

abbrev pub u32_of : Data → Option ℕ
u32_of d = option_and_then if_u32 (u64_of d)

-- ---- feature flags

-- what a flag is set to, by its word
abbrev pub feature_named : List ℕ → Option Feature
feature_named word =
    if bytes_eq word (codes "enable") then Some Enable else if bytes_eq word (codes "disable") then Some Disable else if bytes_eq word (codes "keep") then Some Keep else if bytes_eq word (codes "error") then Some Error else None

abbrev pub feature_of : Data → Option Feature
feature_of d = option_and_then feature_named (as_str d)

abbrev pub flag_at : List ℕ → Feature → Flag
flag_at name feature = record { name = name; feature = feature }

-- Each member of an object is a flag.
abbrev pub flags_in : Members → Option (List Flag)
flags_in no_members = Some []
flags_in (member name d ms) = option_and_then (λ feature. option_map (λ flags. flag_at name feature ∷ flags) (flags_in ms)) (feature_of d)

abbrev pub flags_of : Data → Option (List Flag)
flags_of d = option_and_then flags_in (as_object d)

abbrev pub settings_of : List Flag → Feature → FeatureSettings
settings_of flags default = record { flags = flags; default = default }

-- what a flag is set to: as the last of its name is, else as the default says
abbrev pub set_to : List Flag → Feature → List ℕ → Feature
set_to [] default name = default
set_to (flag ∷ flags) default name = set_to flags (if bytes_eq name flag.name then flag.feature else default) name

-- Each flag is set so.
abbrev pub AreSet : FeatureSettings → Features → Type 0
AreSet settings features = (name : List ℕ) → setting features name ≡ set_to settings.flags settings.default name

-- ---- keys

abbrev pub key_name : Key → List ℕ
key_name key.Command = codes "command"
key_name key.Root = codes "root"
key_name key.Modules = codes "modules"
key_name key.Features = codes "features"
key_name key.DefaultFeature = codes "default_feature"
key_name key.Keep = codes "keep"
key_name key.Mode = codes "mode"
key_name key.MaxModules = codes "max_modules"
key_name key.MaxSteps = codes "max_steps"
key_name key.Entry = codes "entry"
key_name key.Inputs = codes "inputs"
key_name key.Bindings = codes "bindings"
key_name key.Overrides = codes "overrides"
key_name key.Expression = codes "expression"

abbrev pub is_call_key : List ℕ → Bool
is_call_key name =
    bytes_eq name (codes "command") || bytes_eq name (codes "root") || bytes_eq name (codes "modules")
    || bytes_eq name (codes "features") || bytes_eq name (codes "default_feature") || bytes_eq name (codes "keep") || bytes_eq name (codes "mode") || bytes_eq name (codes "max_modules") || bytes_eq name (codes "max_steps")

-- a key of what is handed to a run or an evaluation
abbrev pub is_run_key : List ℕ → Bool
is_run_key name =
    bytes_eq name (codes "entry") || bytes_eq name (codes "inputs") || bytes_eq name (codes "bindings") || bytes_eq name (codes "overrides") || bytes_eq name (codes "expression")

abbrev pub is_key : List ℕ → Bool
is_key name = is_call_key name || is_run_key name

-- the first key that is none; the members of an object stand in the byte order of their keys
abbrev pub unknown : Members → Option (List ℕ)
unknown no_members = None
unknown (member name d ms) = if is_key name then unknown ms else Some name

abbrev pub none_unknown : Option (List ℕ) → Asked ⊤
none_unknown None = Ok tt
none_unknown (Some name) = Err (UnknownKey name)

abbrev pub keys_known : Option Members → Asked ⊤
keys_known None = Err NotAnObject
keys_known (Some ms) = none_unknown (unknown ms)

abbrev pub command_at : Data → Asked Command
command_at d = required (Value key.Command) (option_and_then command_of (text_at (codes "command") d))

abbrev pub root_at : Data → Asked ModulePath
root_at d = required (Value key.Root) (option_and_then path_in (text_at (codes "root") d))

abbrev pub modules_at : Data → Asked (List Module)
modules_at d = required (Value key.Modules) (option_and_then modules_of (get (codes "modules") d))

abbrev pub flags_at : Data → Asked (List Flag)
flags_at d = optional key.Features [] flags_of (get (codes "features") d)

abbrev pub default_feature_at : Data → Asked Feature
default_feature_at d = optional key.DefaultFeature Disable feature_of (get (codes "default_feature") d)

unfoldable pub features_at : Data → Asked FeatureSettings
features_at d = do
  flags ← flags_at d
  default ← default_feature_at d
  Ok (settings_of flags default)

abbrev pub keep_at : Data → Asked (List (List ℕ))
keep_at d = optional key.Keep [] names_of (get (codes "keep") d)

-- a mode by its word
abbrev pub mode_named : List ℕ → Option Mode
mode_named word =
    if bytes_eq word (codes "lazy") then Some Lazy else if bytes_eq word (codes "eager") then Some Eager else if bytes_eq word (codes "whole") then Some Whole else None

abbrev pub mode_of : Data → Option Mode
mode_of d = option_and_then mode_named (as_str d)

abbrev pub mode_at : Data → Asked Mode
mode_at d = optional key.Mode Lazy mode_of (get (codes "mode") d)

abbrev pub max_modules_at : Data → Asked ℕ
max_modules_at d = optional key.MaxModules 256 u32_of (get (codes "max_modules") d)

abbrev pub max_steps_at : Data → Asked ℕ
max_steps_at d = optional key.MaxSteps 1000000 u64_of (get (codes "max_steps") d)

-- ---- the whole

-- The first fault is told: an unknown key, and then what is wrong with each key in this order.
unfoldable pub request_in : Data → Asked Request
request_in d = do
  _ ← keys_known (as_object d)
  command ← command_at d
  root ← root_at d
  modules ← modules_at d
  features ← features_at d
  keep ← keep_at d
  mode ← mode_at d
  max_modules ← max_modules_at d
  max_steps ← max_steps_at d
  Ok (record { command = command; root = root; modules = modules; features = features; keep = keep; mode = mode; max_modules = max_modules; max_steps = max_steps })

-- the value that bytes are, if they are UTF-8 and JSON
abbrev pub value_of : List ℕ → Option Data
value_of bytes = if is_utf8 bytes then read bytes else None

-- what a JSON object asks for
unfoldable pub request_of : List ℕ → Asked Request
request_of bytes = required NotAnObject (value_of bytes) >>= request_in

-- ---- what is handed to a run or an evaluation

-- The command needs the key.
abbrev pub IsNeeded : Command → Key → Type 0
IsNeeded Run key.Entry = ⊤
IsNeeded Eval key.Expression = ⊤
IsNeeded _ _ = ⊥

abbrev pub IsRunKey : Key → Type 0
IsRunKey key.Entry = ⊤
IsRunKey key.Inputs = ⊤
IsRunKey key.Bindings = ⊤
IsRunKey key.Overrides = ⊤
IsRunKey key.Expression = ⊤
IsRunKey _ = ⊥

-- Something stands at such a key, or it is missing and the command needs it.
abbrev pub MayBeWrong : Command → Data → Key → Type 0
MayBeWrong command d k = IsRunKey k × ((get (key_name k) d ≡ None) → IsNeeded command k)

-- the fault of such a key, behind all that is asked for
abbrev pub IsHandedFault : List ℕ → BundleError → Type 0
IsHandedFault bytes fault =
    (request : Request) × (d : Data) × (k : Key) × (request_of bytes ≡ Ok request) × (value_of bytes ≡ Some d) × MayBeWrong request.command d k × (fault ≡ Value k)

-- ---- paths

abbrev pub AtOnePath : Module → Module → Type 0
AtOnePath one other = path_text one.path ≡ path_text other.path

abbrev pub IsApart : List Module → Type 0
IsApart modules = AllPairs (λ one other. ¬ AtOnePath one other) modules

-- the first module that stands at the path of an earlier one is at this path
abbrev pub IsFirstTwice : List Module → ModulePath → Type 0
IsFirstTwice modules path =
    (before after : List Module) × (twice : Module) × (modules ≡ before ++ twice ∷ after) × (twice.path ≡ path)
    × IsApart before × Any (λ earlier. AtOnePath earlier twice) before

-- ---- bundles

-- The bytes ask for this, and no two modules stand at one path.
abbrev pub IsBundle : List ℕ → Request → Type 0
IsBundle bytes request = (request_of bytes ≡ Ok request) × IsApart request.modules

-- what the calls are asked for, where the feature flags are these
abbrev pub options_of : Request → Features → Options
options_of request features =
    record { features = features; keep = request.keep; mode = request.mode; max_modules = request.max_modules; max_steps = request.max_steps }

-- These are the options, with each flag set as it is asked for.
abbrev pub AreOptions : Request → Options → Type 0
AreOptions request options = (features : Features) × AreSet request.features features × (options ≡ options_of request features)

-- What is handed over is what is asked for.
abbrev pub HandsOver : Request → Bundle → Type 0
HandsOver request bundle =
    (bundle.command ≡ request.command) × (bundle.root ≡ request.root) × Holds bundle.resolver request.modules × AreOptions request bundle.options

-- The bytes have this fault; a path that is there twice comes last.
abbrev pub IsFault : List ℕ → BundleError → Type 0
IsFault bytes fault =
    (request_of bytes ≡ Err fault)
    ⊎ ((request : Request) × (path : ModulePath) × (request_of bytes ≡ Ok request) × IsFirstTwice request.modules path × (fault ≡ DuplicateModule path))
