-- What is recorded of the root, and of another module.
use Rattle.std.proofs.Common.{◌≡◌, sym, ◌∙◌, true≢false, ℕ, List, Bool, true, false, Option, Some}
use Rattle.std.specs.Prelude.{◌↔◌, IsTrue}
use Rattle.wgsl_path.specs.declared.path.ModulePath.{ModulePath}
use Rattle.wgsl_path.specs.Paths.{path_text}
use Rattle.wgsl_path.specs.Equality.{paths_Decide}
use Rattle.wgsl_path.specs.contracts.path.ModulePathPartialEq.TheImpl as paths
use Rattle.wesl_resolve.specs.declared.source_map.BasicSourceMap.{BasicSourceMap}
use Rattle.wesl_resolve.specs.SourceMaps.{source_at, display_name_at, IsSet}
use Rattle.wesl_mangle.specs.Recorded.{IsRecorded}

pub same_path : (p q : ModulePath) → IsTrue (paths.eq-value.it p q) ↔ (p ≡ q)
same_path p q = paths_Decide p q

module _ (root path : ModulePath) (display_name : Option (List ℕ)) (text : List ℕ) (old new : BasicSourceMap) (b : Bool) (tells : IsTrue b ↔ (path ≡ root)) where
  pub root_recorded : b ≡ true → IsSet (source_at old) (path_text path) (Some text) (source_at new) → IsSet (display_name_at old) (path_text path) display_name (display_name_at new)
      → new.default_source ≡ Some text → new.decls ≡ old.decls → IsRecorded root path display_name text old new
  root_recorded is a_text name default decls = record {
    is_text = a_text;
    is_name = name;
    of_root = λ _. default;
    of_another = λ another. absurd (another (tells.0 is));
    decls = decls;
  }

  pub other_recorded : b ≡ false → IsSet (source_at old) (path_text path) (Some text) (source_at new) → IsSet (display_name_at old) (path_text path) display_name (display_name_at new)
      → new.default_source ≡ old.default_source → new.decls ≡ old.decls → IsRecorded root path display_name text old new
  other_recorded is a_text name default decls = record {
    is_text = a_text;
    is_name = name;
    of_root = λ same. absurd (true≢false (sym (tells.1 same) ∙ is));
    of_another = λ _. default;
    decls = decls;
  }
