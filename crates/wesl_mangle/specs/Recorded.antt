-- What is recorded of a module that was resolved.
use Rattle.std.specs.Prelude.{◌≡◌, ⊤, ℕ, List, Option, Some, Result, Ok, Err}
use Rattle.wgsl_path.specs.declared.path.ModulePath.{ModulePath}
use Rattle.wgsl_path.specs.Paths.{path_text}
use Rattle.wesl_resolve.specs.declared.source_map.BasicSourceMap.{BasicSourceMap}
use Rattle.wesl_resolve.specs.SourceMaps.{source_at, display_name_at, IsSet, IsKept}
use Rattle.wesl_resolvers.specs.declared.error.ResolveError.{ResolveError}
use Rattle.wesl_resolvers.specs.declared.error.ResolveError.TheVariants.{ModuleNotFound, Syntax, GaveUp, Condition, ConditionLeft, OutOfMemory}
use Rattle.wesl_resolvers.specs.Found.{Answer, not_found}

-- The text and the display name stand under the printed path, and the root's text is the default source; all else stays.
pub record IsRecorded (root path : ModulePath) (display_name : Option (List ℕ)) (text : List ℕ) (old new : BasicSourceMap) : Type 0 where
  pub is_text : IsSet (source_at old) (path_text path) (Some text) (source_at new)
  pub is_name : IsSet (display_name_at old) (path_text path) display_name (display_name_at new)
  pub of_root : path ≡ root → new.default_source ≡ Some text
  pub of_another : (path ≡ root → ⊥) → new.default_source ≡ old.default_source
  pub decls : new.decls ≡ old.decls

pub record IsUnchangedMap (old new : BasicSourceMap) : Type 0 where
  pub texts : IsKept (source_at old) (source_at new)
  pub names : IsKept (display_name_at old) (display_name_at new)
  pub default_source : new.default_source ≡ old.default_source
  pub decls : new.decls ≡ old.decls

-- memory aside, there is a text, or no module
abbrev pub TellsNoText : (Answer → Type 0) → ModulePath → Result Unit ResolveError → Type 0
TellsNoText found path (Ok x) = ⊤
TellsNoText found path (Err (ModuleNotFound p)) = (p ≡ path) × found not_found
TellsNoText found path (Err (Syntax p e)) = ⊥
TellsNoText found path (Err (GaveUp p r)) = ⊥
TellsNoText found path (Err (Condition p e)) = ⊥
TellsNoText found path (Err (ConditionLeft p)) = ⊥
TellsNoText found path (Err OutOfMemory) = ⊤
