-- Lowering over tables of declarations and values is lowering over the unit's own.
use Rattle.std.proofs.Common.{◌≡◌, ℕ, List, sym, ap, ◌∙◌}
use Rattle.std.specs.Borrow.{Bor}
use Rattle.std.specs.HashMap.{HashMap}
use Rattle.core_syntax.specs.Tree.{UnitTree as Module}
use Rattle.core_syntax.specs.declared.declaration.GlobalDeclaration.{GlobalDeclaration}
use Rattle.wgsl_shader_type.specs.declared.literal.LiteralInstance.{LiteralInstance}
use Rattle.core_meaning.specs.ConstStage.{module_scope}
use Rattle.core_eval.specs.Scopes.{Declares, outside}
use Rattle.core_eval.specs.Start.{then_more, consts_of}
use Rattle.core_eval.specs.Starts.{HoldsThese}
use Rattle.core_eval.proofs.Tables.{scope_is}
use Rattle.core_lower_expressions.specs.Computed.{lowered_after, lowered_under}

pub lowered_with_tables : {S U : Type 0} (u : Module) (order : List ℕ) (declarations : HashMap (Bor (List ℕ)) (Bor GlobalDeclaration) S) (consts : HashMap (Bor (List ℕ)) LiteralInstance U)
    → Declares declarations u.declarations → HoldsThese consts (consts_of u.declarations order) → lowered_under (outside declarations consts) u.declarations ≡ lowered_after order u
lowered_with_tables u order declarations consts declares h =
    ap (λ s. lowered_under s u.declarations) (scope_is declarations consts u.declarations h.0 declares h.2)
    ∙ sym (ap (λ o. then_more o (λ cs. lowered_under (module_scope u.declarations cs) u.declarations)) h.1)
