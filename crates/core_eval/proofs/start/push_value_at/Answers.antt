use Rattle.std.proofs.Common.{sym, refl, ap, ◌∙◌, subst, ◌≡◌, Some, None}
use Rattle.std.specs.Prelude.{slice_get}
use Rattle.std.specs.Option.{option_map}
use Rattle.std.proofs.lemmas.Option.{slice_get_past, slice_get_read, slice_get-map}
use Rattle.core_syntax.specs.View.{declaration_tree}
use Rattle.core_syntax.specs.declared.declaration.GlobalDeclaration.TheVariants.{Declaration as TheDeclaration, Function as TheFunction}
use Rattle.core_eval.specs.Start.{valued_at}
use Rattle.core_eval.specs.Starts.{Tells}
use Rattle.core_eval.specs.Scopes.{decls}
use Rattle.core_eval.proofs.start.push_value_at.Goals as goal

pub returns-in_default : goal.returns-in_default
returns-in_default c cs h k =
    let ns = c.args.nodes.now in
    let none : slice_get (decls ns) c.args.position ≡ None =
    slice_get-map (λ n. declaration_tree n.node) ns c.args.position ∙ ap (option_map (λ n. declaration_tree n.node)) (slice_get_past ns c.args.position c.in_default.ensures.lookup.3) in
    (cs, ap (valued_at (decls ns) cs) none, k)

pub returns-in-Declaration : goal.returns-in-Declaration
returns-in-Declaration c cs h k =
    let ns = c.args.nodes.now in
    let node = c.in-Some.node.now in
    let found = c.in-Some.ensures.lookup.3 in
    let stands : slice_get ns c.args.position ≡ Some node = slice_get_read ns _ c.args.position node refl found.0 (found.1 node) in
    let there : slice_get (decls ns) c.args.position ≡ Some (declaration_tree (TheDeclaration c.in-Declaration.d)) =
    slice_get-map (λ n. declaration_tree n.node) ns c.args.position
    ∙ ap (option_map (λ n. declaration_tree n.node)) stands
    ∙ ap (λ d. Some (declaration_tree d)) (sym c.node.ensures ∙ c.in-Declaration.is) in
    subst (λ o. Tells c.push_value.new.consts (valued_at (decls ns) cs o) c.push_value.result) (sym there) (c.push_value.ensures (decls ns) cs h k)

pub returns-in-Function : goal.returns-in-Function
returns-in-Function c cs h k =
    let ns = c.args.nodes.now in
    let node = c.in-Some.node.now in
    let found = c.in-Some.ensures.lookup.3 in
    let stands : slice_get ns c.args.position ≡ Some node = slice_get_read ns _ c.args.position node refl found.0 (found.1 node) in
    let there : slice_get (decls ns) c.args.position ≡ Some (declaration_tree (TheFunction c.in-Function.field-0)) =
    slice_get-map (λ n. declaration_tree n.node) ns c.args.position
    ∙ ap (option_map (λ n. declaration_tree n.node)) stands
    ∙ ap (λ d. Some (declaration_tree d)) (sym c.node.ensures ∙ c.in-Function.is) in
    (cs, ap (valued_at (decls ns) cs) there, k)
