-- What a JSON object asks for, step by step.
use Rattle.std.proofs.Common.{◌≡◌, refl, ◌⊎◌, inl, inr, ℕ, List, Some, None, Ok}
use Rattle.std.specs.Prelude.{⊤}
use Rattle.serde_json.specs.Data.{Data}
use Rattle.serde_json.specs.Find.{as_object}
use Rattle.wgsl_path.specs.declared.path.ModulePath.{ModulePath}
use Rattle.wesl_conditions.specs.declared.features.feature.Feature.{Feature}
use Rattle.weslc_bundle.specs.declared.features.Flag.{Flag}
use Rattle.weslc_bundle.specs.declared.features.FeatureSettings.{FeatureSettings}
use Rattle.weslc_run.specs.Mode.{Mode}
use Rattle.weslc_bundle.specs.declared.request.Command.{Command}
use Rattle.weslc_bundle.specs.declared.request.Module.{Module}
use Rattle.weslc_bundle.specs.declared.request.Request.{Request}
use Rattle.weslc_bundle.specs.declared.request.BundleError.{BundleError}
use Rattle.weslc_bundle.specs.declared.request.BundleError.TheVariants.{NotAnObject, OutOfMemory}
use Rattle.weslc_bundle.specs.Bundles.{keys_known, command_at, root_at, modules_at, settings_of, flags_at, default_feature_at, features_at, keep_at, mode_at, max_modules_at, max_steps_at, request_in, value_of, request_of}
use Rattle.weslc_bundle.proofs.Answered.{Faults}

pub faults_keys : (d : Data) (e : BundleError) → Faults ⊤ e (keys_known (as_object d)) → Faults Request e (request_in d)
unfolding request_in
faults_keys d e (inl memory) = inl memory
faults_keys d e (inr is) = inr (rw is refl)

pub faults_command : (d : Data) (e : BundleError) (u : ⊤) → keys_known (as_object d) ≡ Ok u → Faults Command e (command_at d) → Faults Request e (request_in d)
unfolding request_in
faults_command d e u is_keys (inl memory) = inl memory
faults_command d e u is_keys (inr is) = inr (rw (is_keys, is) refl)

pub faults_root : (d : Data) (e : BundleError) (u : ⊤) (command : Command) → keys_known (as_object d) ≡ Ok u → command_at d ≡ Ok command → Faults ModulePath e (root_at d) → Faults Request e (request_in d)
unfolding request_in
faults_root d e u command is_keys is_command (inl memory) = inl memory
faults_root d e u command is_keys is_command (inr is) = inr (rw (is_keys, is_command, is) refl)

pub faults_modules : (d : Data) (e : BundleError) (u : ⊤) (command : Command) (root : ModulePath) → keys_known (as_object d) ≡ Ok u → command_at d ≡ Ok command → root_at d ≡ Ok root → Faults (List Module) e (modules_at d) → Faults Request e (request_in d)
unfolding request_in
faults_modules d e u command root is_keys is_command is_root (inl memory) = inl memory
faults_modules d e u command root is_keys is_command is_root (inr is) = inr (rw (is_keys, is_command, is_root, is) refl)

pub faults_features : (d : Data) (e : BundleError) (u : ⊤) (command : Command) (root : ModulePath) (modules : List Module) → keys_known (as_object d) ≡ Ok u → command_at d ≡ Ok command → root_at d ≡ Ok root → modules_at d ≡ Ok modules → Faults FeatureSettings e (features_at d) → Faults Request e (request_in d)
unfolding request_in
faults_features d e u command root modules is_keys is_command is_root is_modules (inl memory) = inl memory
faults_features d e u command root modules is_keys is_command is_root is_modules (inr is) = inr (rw (is_keys, is_command, is_root, is_modules, is) refl)

pub faults_keep : (d : Data) (e : BundleError) (u : ⊤) (command : Command) (root : ModulePath) (modules : List Module) (features : FeatureSettings) → keys_known (as_object d) ≡ Ok u → command_at d ≡ Ok command → root_at d ≡ Ok root → modules_at d ≡ Ok modules → features_at d ≡ Ok features → Faults (List (List ℕ)) e (keep_at d) → Faults Request e (request_in d)
unfolding request_in
faults_keep d e u command root modules features is_keys is_command is_root is_modules is_features (inl memory) = inl memory
faults_keep d e u command root modules features is_keys is_command is_root is_modules is_features (inr is) = inr (rw (is_keys, is_command, is_root, is_modules, is_features, is) refl)

pub faults_mode : (d : Data) (e : BundleError) (u : ⊤) (command : Command) (root : ModulePath) (modules : List Module) (features : FeatureSettings) (keep : List (List ℕ)) → keys_known (as_object d) ≡ Ok u → command_at d ≡ Ok command → root_at d ≡ Ok root → modules_at d ≡ Ok modules → features_at d ≡ Ok features → keep_at d ≡ Ok keep → Faults Mode e (mode_at d) → Faults Request e (request_in d)
unfolding request_in
faults_mode d e u command root modules features keep is_keys is_command is_root is_modules is_features is_keep (inl memory) = inl memory
faults_mode d e u command root modules features keep is_keys is_command is_root is_modules is_features is_keep (inr is) = inr (rw (is_keys, is_command, is_root, is_modules, is_features, is_keep, is) refl)

pub faults_max_modules : (d : Data) (e : BundleError) (u : ⊤) (command : Command) (root : ModulePath) (modules : List Module) (features : FeatureSettings) (keep : List (List ℕ)) (mode : Mode) → keys_known (as_object d) ≡ Ok u → command_at d ≡ Ok command → root_at d ≡ Ok root → modules_at d ≡ Ok modules → features_at d ≡ Ok features → keep_at d ≡ Ok keep → mode_at d ≡ Ok mode → Faults ℕ e (max_modules_at d) → Faults Request e (request_in d)
unfolding request_in
faults_max_modules d e u command root modules features keep mode is_keys is_command is_root is_modules is_features is_keep is_mode (inl memory) = inl memory
faults_max_modules d e u command root modules features keep mode is_keys is_command is_root is_modules is_features is_keep is_mode (inr is) = inr (rw (is_keys, is_command, is_root, is_modules, is_features, is_keep, is_mode, is) refl)

pub faults_max_steps : (d : Data) (e : BundleError) (u : ⊤) (command : Command) (root : ModulePath) (modules : List Module) (features : FeatureSettings) (keep : List (List ℕ)) (mode : Mode) (max_modules : ℕ) → keys_known (as_object d) ≡ Ok u → command_at d ≡ Ok command → root_at d ≡ Ok root → modules_at d ≡ Ok modules → features_at d ≡ Ok features → keep_at d ≡ Ok keep → mode_at d ≡ Ok mode → max_modules_at d ≡ Ok max_modules → Faults ℕ e (max_steps_at d) → Faults Request e (request_in d)
unfolding request_in
faults_max_steps d e u command root modules features keep mode max_modules is_keys is_command is_root is_modules is_features is_keep is_mode is_max_modules (inl memory) = inl memory
faults_max_steps d e u command root modules features keep mode max_modules is_keys is_command is_root is_modules is_features is_keep is_mode is_max_modules (inr is) = inr (rw (is_keys, is_command, is_root, is_modules, is_features, is_keep, is_mode, is_max_modules, is) refl)

pub request_whole : (d : Data) (u : ⊤) (command : Command) (root : ModulePath) (modules : List Module) (features : FeatureSettings) (keep : List (List ℕ)) (mode : Mode) (max_modules : ℕ) (max_steps : ℕ) → keys_known (as_object d) ≡ Ok u → command_at d ≡ Ok command → root_at d ≡ Ok root → modules_at d ≡ Ok modules → features_at d ≡ Ok features → keep_at d ≡ Ok keep → mode_at d ≡ Ok mode → max_modules_at d ≡ Ok max_modules → max_steps_at d ≡ Ok max_steps
    → request_in d ≡ Ok (record { command = command; root = root; modules = modules; features = features; keep = keep; mode = mode; max_modules = max_modules; max_steps = max_steps })
unfolding request_in
request_whole d u command root modules features keep mode max_modules max_steps is_keys is_command is_root is_modules is_features is_keep is_mode is_max_modules is_max_steps = rw (is_keys, is_command, is_root, is_modules, is_features, is_keep, is_mode, is_max_modules, is_max_steps) refl

-- ---- feature flags

pub faults_flags : (d : Data) (e : BundleError) → Faults (List Flag) e (flags_at d) → Faults FeatureSettings e (features_at d)
unfolding features_at
faults_flags d e (inl memory) = inl memory
faults_flags d e (inr is) = inr (rw is refl)

pub faults_default : (d : Data) (e : BundleError) (flags : List Flag) → flags_at d ≡ Ok flags → Faults Feature e (default_feature_at d) → Faults FeatureSettings e (features_at d)
unfolding features_at
faults_default d e flags is_flags (inl memory) = inl memory
faults_default d e flags is_flags (inr is) = inr (rw (is_flags, is) refl)

pub settings_whole : (d : Data) (flags : List Flag) (default : Feature) → flags_at d ≡ Ok flags → default_feature_at d ≡ Ok default → features_at d ≡ Ok (settings_of flags default)
unfolding features_at
settings_whole d flags default is_flags is_default = rw (is_flags, is_default) refl

-- ---- from bytes

pub request_value : (bytes : List ℕ) (d : Data) → value_of bytes ≡ Some d → request_of bytes ≡ request_in d
unfolding request_of
request_value bytes d is = rw is refl

pub faults_value : (bytes : List ℕ) (e : BundleError) → (e ≡ OutOfMemory) ⊎ ((e ≡ NotAnObject) × (value_of bytes ≡ None)) → Faults Request e (request_of bytes)
unfolding request_of
faults_value bytes e (inl memory) = inl memory
faults_value bytes e (inr h) = inr (rw (h.0, h.1) refl)
