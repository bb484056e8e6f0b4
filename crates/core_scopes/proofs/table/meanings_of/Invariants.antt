use Rattle.std.proofs.Common.{◌+◌, length}
use Rattle.core_syntax.specs.View.{unit_tree}
use Rattle.core_scopes.specs.Meanings.{entries}
use Rattle.core_scopes.proofs.TableLemmas.{Tabulated}
use Rattle.core_scopes.proofs.table.meanings_of.Given as goal

abbrev pub invariant-loop-import : goal.invariant-loop-import
invariant-loop-import l = Tabulated l.meanings (entries (unit_tree l.unit)) l.import-index

abbrev pub invariant-loop-place : goal.invariant-loop-place
invariant-loop-place l = Tabulated l.meanings (entries (unit_tree l.unit)) (length l.unit.imports + l.place)
