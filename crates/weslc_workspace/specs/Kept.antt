-- What is kept of a compilation, and what it is an answer of.
use Rattle.std.specs.Prelude.{◌≡◌, List, ℕ, String, true}
use Rattle.std.specs.HashSet.{HashSet, contains_text}
use Rattle.wgsl_path.specs.declared.path.ModulePath.{ModulePath}
use Rattle.wesl_conditions.specs.Settings.{setting}
use Rattle.core_link_spec.specs.Rounds.{Sources}
use Rattle.core_reach.specs.Alone.{only}
use Rattle.core_resolver.specs.Found.{at_text}
use Rattle.weslc_calls.specs.Options.{Options}
use Rattle.weslc_calls.specs.OfCore.{sources}
use Rattle.weslc_compile.specs.Whole.{Answer, IsAnswerFor}
use Rattle.weslc_workspace.specs.Held.{text_at}
use Rattle.weslc_workspace.specs.Fresh.{finds, texts_of}
use Rattle.weslc_workspace.specs.declared.modules.Modules.{Modules}

-- what the part finds in these modules
abbrev pub part_of : Modules → Options → Sources
part_of modules options = sources options.features (finds modules)

-- The same options: each flag is set alike, and all else is one.
pub record AreAlike (one other : Options) : Type 0 where
  pub flags : (n : List ℕ) → setting other.features n ≡ setting one.features n
  pub others : one ≡ record other { features = one.features }

-- Something was compiled with like options, of modules that have the same texts as these at the paths that it asked for. This is its answer,
-- for the modules at these paths alone.
pub record IsKept {Y S : Type 0} (modules : Modules) (root : ModulePath) (options : Options) (asked : HashSet (String Y) S) (answer : Answer) : Type 0 where
  pub before : Modules
  pub chosen : Options
  pub texts : (p : List ℕ) → contains_text asked p ≡ true → text_at modules p ≡ text_at before p
  pub alike : AreAlike chosen options
  pub answers : IsAnswerFor (only (contains_text asked) (part_of before chosen)) (at_text (texts_of before)) root chosen answer

-- It is an answer for these modules as they are, with like options.
pub record IsAnswer (modules : Modules) (root : ModulePath) (options : Options) (answer : Answer) : Type 0 where
  pub chosen : Options
  pub alike : AreAlike chosen options
  pub answers : IsAnswerFor (part_of modules chosen) (at_text (texts_of modules)) root chosen answer
