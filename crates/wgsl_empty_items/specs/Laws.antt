-- Laws of modules and blocks without their empty items.
use Rattle.std.specs.Prelude.{◌≡◌}
use Rattle.wgsl_statements.specs.declared.statement.CompoundStatementOf.{CompoundStatementOf}
use Rattle.wgsl_statements.specs.declared.statement.Statement.{Statement}
use Rattle.wgsl_statements.specs.View.{statement_tree, block_tree}
use Rattle.wgsl_declarations.specs.declared.unit.TranslationUnit.{TranslationUnit}
use Rattle.wgsl_declarations.specs.View.{unit_tree}
use Rattle.wgsl_empty_items.specs.Statements.{with_block, without_voids}
use Rattle.wgsl_empty_items.specs.Units.{unit_without_voids}
use Rattle.wgsl_empty_items.specs.Counts.{voids, in_block, voids_in_unit}

-- It stands for the same tree, so that it is printed alike.
abbrev pub TreeStays : Type 0
TreeStays = (u : TranslationUnit) → unit_tree (unit_without_voids u) ≡ unit_tree u

-- No empty item is left, at any depth.
abbrev pub NoneIsLeft : Type 0
NoneIsLeft = (u : TranslationUnit) → voids_in_unit (unit_without_voids u) ≡ 0

-- What was done once changes nothing when it is done again.
abbrev pub TwiceIsOnce : Type 0
TwiceIsOnce = (u : TranslationUnit) → unit_without_voids (unit_without_voids u) ≡ unit_without_voids u

-- The same of statements and blocks.
abbrev pub StatementTreeStays : Type 0
StatementTreeStays = (s : Statement) → statement_tree (without_voids s) ≡ statement_tree s

abbrev pub StatementTwiceIsOnce : Type 0
StatementTwiceIsOnce = (s : Statement) → without_voids (without_voids s) ≡ without_voids s

abbrev pub BlockTreeStays : Type 0
BlockTreeStays = (x : CompoundStatementOf Statement) → block_tree (with_block without_voids x) ≡ block_tree x

abbrev pub NoneIsLeftInBlock : Type 0
NoneIsLeftInBlock = (x : CompoundStatementOf Statement) → in_block voids (with_block without_voids x) ≡ 0

abbrev pub BlockTwiceIsOnce : Type 0
BlockTwiceIsOnce = (x : CompoundStatementOf Statement) → with_block without_voids (with_block without_voids x) ≡ with_block without_voids x
