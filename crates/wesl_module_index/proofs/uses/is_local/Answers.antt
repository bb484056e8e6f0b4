use Rattle.std.proofs.Common.{rules, ◌≡◌, ap, ◌∙◌, Some, None, slice_get}
use Rattle.std.specs.Option.{is_some}
use Rattle.wesl_module_index.proofs.Bits.{nothing}
use Rattle.wesl_module_index.proofs.Trails.{hides}
use Rattle.wesl_module_index.proofs.uses.is_local.Goals as goal

pub returns-then-is_none : goal.returns-then-is_none
returns-then-is_none c =
    let there : slice_get c.args.list.now.references.keys c.args.reference ≡ Some c.in-Some.reference.now = search rules in
    let none : c.in-Some.reference.now.path ≡ None = nothing c.in-Some.reference.now.path c.is_none.result c.is_none.ensures c.if-is_none.true in
    c.is_some.ensures ∙ ap is_some c.find.ensures
    ∙ hides c.args.list.now.names.keys c.args.list.now.references.keys c.args.list.now.apart c.args.list.now.named c.args.reference c.in-Some.reference.now there c.args.scopes.now.trail.items c.requires.locals none
