-- What steps, starts and answers say, in the words of chains.
use Rattle.std.specs.Prelude.{◌≡◌, ⊤, ℕ, List, [], ◌∷◌, Option, Some, None, if◌then◌else◌, slice_get, string_bytes}
use Rattle.std.specs.Option.{option_map}
use Rattle.wgsl_path.specs.Paths.{path_text}
use Rattle.std.specs.BTreeMap as b
use Rattle.std.specs.HashMap.{get_by_text}
use Rattle.wesl_module_index.specs.declared.module.Meaning.{Meaning}
use Rattle.wesl_module_index.specs.declared.module.Meaning.TheVariants.{Declared, Imported}
use Rattle.wesl_module_index.specs.declared.module.Module.{Module}
use Rattle.wesl_module_index.specs.declared.module.ReferenceTarget.{ReferenceTarget}
use Rattle.wesl_module_index.specs.declared.module.ReferenceTarget.TheVariants as sought
use Rattle.wesl_module_index.specs.declared.modules.Modules.{Modules}
use Rattle.wesl_module_index.specs.Tables.{Import, symbol_named, import_at, place_number}
use Rattle.wesl_module_index.specs.Loaded.{home_of, module_at, place_at}
use Rattle.wesl_chains.specs.Outlines.{Name, Path, Symbol, Use, Outline, Finder}
use Rattle.wesl_chains.specs.Senses.{Sense, own, imported, bare, free, sense}
use Rattle.wesl_chains.specs.Chains.{Step, stands, leads, lacks, hides, unknown, Outcome, declared_at, unloaded, missing, private, Denotes}
use Rattle.wesl_name_resolution.specs.declared.denote.Link.{Link}
use Rattle.wesl_name_resolution.specs.declared.denote.Via.{Via}
use Rattle.wesl_name_resolution.specs.declared.denote.Step as code
use Rattle.wesl_name_resolution.specs.declared.denote.Step.TheVariants as step
use Rattle.wesl_name_resolution.specs.declared.denote.Denoted.{Denoted}
use Rattle.wesl_name_resolution.specs.declared.denote.Denoted.TheVariants as denoted
use Rattle.wesl_name_resolution.specs.declared.denote.Start.{Start}
use Rattle.wesl_name_resolution.specs.declared.denote.Start.TheVariants as start

-- ---- links and steps

abbrev pub symbol_of : Link → Symbol
symbol_of l = record { home = string_bytes l.target.now.printed_path; name = l.name.now }

abbrev pub published_symbol : Option Import → Option Symbol
published_symbol None = None
published_symbol (Some i) = if i.is_published then symbol_named i else None

abbrev pub import_in : Option Module → ℕ → Option Import
import_in None n = None
import_in (Some m) n = import_at m n

-- the symbol that an import leads to for other modules; none where it is one bare name, or not published
abbrev pub symbol_via : Modules → Via → Option Symbol
symbol_via ms via = published_symbol (import_in (slice_get ms.list.items via.«module») via.item)

abbrev pub step_of : Modules → code.Step → Step
step_of ms (step.Declared spot) = stands (place_at ms spot)
step_of ms (step.Leads via link) = leads (symbol_of link)
step_of ms step.Missing = lacks
step_of ms step.Private = hides
step_of ms step.Unloaded = unknown

-- A declaration that is found stands in the module in which it was sought; and an import that leads on leads to the link.
abbrev pub IsFoundIn : Modules → Path → code.Step → Type 0
IsFoundIn ms home (step.Declared spot) = home_of ms spot.«module» ≡ Some home
IsFoundIn ms home (step.Leads via link) = symbol_via ms via ≡ Some (symbol_of link)
IsFoundIn ms home step.Missing = ⊤
IsFoundIn ms home step.Private = ⊤
IsFoundIn ms home step.Unloaded = ⊤

-- what the scope of a module means by a name
abbrev pub meaning_in : Option Module → Name → Option Meaning
meaning_in None x = None
meaning_in (Some m) x = get_by_text m.scope x

-- the number of the module at a path, and what its scope means by a name
abbrev pub IsMeant : Modules → Symbol → ℕ → Meaning → Type 0
IsMeant ms s n meaning = (b.get_by_text ms.numbers s.home ≡ Some n) × (meaning_in (slice_get ms.list.items n) s.name ≡ Some meaning)

-- A declaration that is found, and an import that leads on, are what the scope of the module means by the name that is sought.
abbrev pub IsFoundAs : Modules → Symbol → code.Step → Type 0
IsFoundAs ms s (step.Declared spot) = IsMeant ms s spot.«module» (Declared spot.place)
IsFoundAs ms s (step.Leads via link) = IsMeant ms s via.«module» (Imported via.item)
IsFoundAs ms s step.Missing = ⊤
IsFoundAs ms s step.Private = ⊤
IsFoundAs ms s step.Unloaded = ⊤

-- a step by an import of a module
abbrev pub IsByImport : Via → code.Step → Type 0
IsByImport via (step.Declared spot) = ⊥
IsByImport via (step.Leads v link) = v ≡ via
IsByImport via step.Missing = ⊤
IsByImport via step.Private = ⊤
IsByImport via step.Unloaded = ⊥

-- ---- steps, by tables alone

abbrev pub symbol_step : Option Symbol → Step
symbol_step None = lacks
symbol_step (Some s) = leads s

abbrev pub item_step : Option Import → Step
item_step None = lacks
item_step (Some i) = if i.is_published then symbol_step (symbol_named i) else hides

abbrev pub meaning_step : Module → Option Meaning → Step
meaning_step m None = lacks
meaning_step m (Some (Declared k)) = stands (place_number m.places.items k)
meaning_step m (Some (Imported n)) = item_step (import_at m n)

abbrev pub module_step : Path → Option Module → Step
module_step x None = unknown
module_step x (Some m) = meaning_step m (get_by_text m.scope x)

abbrev pub next_in : Modules → Symbol → Step
next_in ms s = module_step s.name (module_at ms s.home)

-- ---- answers

abbrev pub declared_in : ℕ → Option Path → Option Outcome
declared_in k None = None
declared_in k (Some p) = Some (declared_at p k)

-- what an answer says; nothing, where the name is free
abbrev pub outcome_of : Modules → Denoted → Option Outcome
outcome_of ms (denoted.Declared spot) = declared_in (place_at ms spot) (home_of ms spot.«module»)
outcome_of ms (denoted.Unloaded link) = Some (unloaded (symbol_of link))
outcome_of ms (denoted.Missing path name) = Some (missing (record { home = path_text path.now; name = name.now }))
outcome_of ms (denoted.Private path name) = Some (private (record { home = path_text path.now; name = name.now }))
outcome_of ms denoted.Free = None

-- what a chain comes to that stops at a symbol with this step
abbrev pub StopsAs : Symbol → Step → Option Outcome → Type 0
StopsAs s (leads t) answer = ⊤
StopsAs s (stands k) answer = answer ≡ Some (declared_at s.home k)
StopsAs s lacks answer = answer ≡ Some (missing s)
StopsAs s hides answer = answer ≡ Some (private s)
StopsAs s unknown answer = answer ≡ Some (unloaded s)

-- a use comes to this; or its name is free, where there is none
abbrev pub IsDenoted : Finder → Path → Outline → Use → Option Outcome → Type 0
IsDenoted find p o u (Some r) = (ps : List Path) × Denotes find p o u ps r
IsDenoted find p o u None = sense o u ≡ free

-- ---- starts

-- where the search begins for what a use denotes: it is known at once, or a symbol is sought
pub data Beginning : Type 0 where
  known : Option Outcome → Beginning
  seeks : Symbol → Beginning

-- by what a use means in the module at a path
abbrev pub begins : Path → Sense → Beginning
begins p (own k) = known (Some (declared_at p k))
begins p (imported s) = seeks s
begins p (bare x) = known (Some (missing (record { home = p; name = x })))
begins p free = known None

abbrev pub beginning_of : Modules → Start → Beginning
beginning_of ms (start.Ends answer) = known (outcome_of ms answer)
beginning_of ms (start.Leads link) = seeks (symbol_of link)

-- a declaration at which a search ends at once is what a reference of the module means there
abbrev pub sought_in : Option Module → ℕ → Option ReferenceTarget
sought_in None r = None
sought_in (Some m) r = slice_get m.sought.items r

abbrev pub IsBegunAs : Modules → ℕ → ℕ → Start → Type 0
IsBegunAs ms number reference (start.Ends (denoted.Declared spot)) = (spot.«module» ≡ number) × (sought_in (slice_get ms.list.items number) reference ≡ Some (sought.Declared spot.place))
IsBegunAs ms number reference (start.Ends (denoted.Unloaded link)) = ⊤
IsBegunAs ms number reference (start.Ends (denoted.Missing path name)) = ⊤
IsBegunAs ms number reference (start.Ends (denoted.Private path name)) = ⊤
IsBegunAs ms number reference (start.Ends denoted.Free) = ⊤
IsBegunAs ms number reference (start.Leads link) = ⊤
