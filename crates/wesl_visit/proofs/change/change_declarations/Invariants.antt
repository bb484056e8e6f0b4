use Rattle.std.proofs.Common.{◌≡◌, ◌≤◌, ℕ, length, get_or, map, take, Ok}
use Rattle.std.specs.List.{flat_map}
use Rattle.std.specs.Fn.{CalledAtMut}
use Rattle.wgsl_path.specs.declared.span.Spanned.{Spanned}
use Rattle.wgsl_declarations.specs.declared.declaration.GlobalDeclaration.{GlobalDeclaration}
use Rattle.wesl_visit_children.specs.Turns.{ChangedDeep}
use Rattle.wesl_visit.specs.Statements.{in_declaration_node, around_declaration_node, inside_by, around_by}
use Rattle.wesl_visit.proofs.change.change_declarations.Given as goal

abbrev pub invariant-loop-i : goal.invariant-loop-i
invariant-loop-i g l =
    goal.F-IsAlwaysCallable g l.f
    × ChangedDeep (inside_by l.deep) (around_by l.deep) (CalledAtMut g.F.FnMut) l.initial.f (flat_map in_declaration_node (take l.i l.initial.declarations)) (Ok tt) l.f
    (flat_map in_declaration_node (take l.i l.declarations))
    × (map around_declaration_node l.declarations ≡ map around_declaration_node l.initial.declarations) × (length l.declarations ≡ length l.initial.declarations)
    × ((k : ℕ) (d : Spanned GlobalDeclaration) → l.i ≤ k → get_or l.declarations k d ≡ get_or l.initial.declarations k d)
