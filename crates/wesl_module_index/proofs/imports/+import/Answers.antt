use Rattle.std.proofs.Common.{◌≡◌, ◌∙◌, sym, ap, subst, List}
use Rattle.std.proofs.lemmas.List.{take_all}
use Rattle.std.proofs.lemmas.Result.{err_from_is_err_and}
use Rattle.wgsl_declarations.specs.declared.imports.import.ImportOf.{ImportOf}
use Rattle.wgsl_declarations.specs.declared.imports.import.ImportContent.{ImportContent}
use Rattle.wgsl_declarations.specs.declared.imports.import.ImportContent.TheVariants.{Collection}
use Rattle.wgsl_declarations.specs.ImportsView.{content_tree}
use Rattle.wesl_chains.specs.Outlines.{Item}
use Rattle.wesl_linking_spec.specs.Outlining.{items_in}
use Rattle.wesl_module_index.specs.Naming.{AreGathered, IsRefused, nested_items}
use Rattle.wesl_module_index.proofs.Gathering.{kept_after, collection_items, collection_refused}
use Rattle.wesl_module_index.proofs.imports.+import.Goals as goal

pub add_content-returns-in_err-add_nested-in-Collection-clause-gathers : goal.add_content-returns-in_err-add_nested-in-Collection-clause-gathers
add_content-returns-in_err-add_nested-in-Collection-clause-gathers t c =
    let p = err_from_is_err_and c.from_residual.result c.from_residual.ensures.1 in
    let content : Collection c.as_slice-import-items.result.now ≡ c.args.content.now = ap (λ (xs : List (ImportOf ImportContent)). Collection xs) c.as_slice-import-items.ensures ∙ sym c.in-Collection.is in
    rw (p.1, p.2)
    (subst (λ (content : ImportContent). IsRefused c.args.names.now (items_in c.args.is_published c.args.«module».now (content_tree content)) c.in_err-add_nested-in-Collection.field-0.0) content
    (collection_refused c.args.is_published c.args.«module».now c.args.names.now c.loop-import.names c.as_slice-import-items.result.now c.loop-import.import-index c.import-item.result
    c.in_err-add_nested-in-Collection.field-0.0 c.loop-import-test.true c.import-item.is c.loop-import.invariant.1 c.in_err-add_nested-in-Collection.ensures.gathers))

pub add_content-returns-after-loop-import-clause-gathers : goal.add_content-returns-after-loop-import-clause-gathers
add_content-returns-after-loop-import-clause-gathers t c =
    let content : Collection c.as_slice-import-items.result.now ≡ c.args.content.now = ap (λ (xs : List (ImportOf ImportContent)). Collection xs) c.as_slice-import-items.ensures ∙ sym c.in-Collection.is in
    subst (λ (content : ImportContent). AreGathered c.args.names.now (items_in c.args.is_published c.args.«module».now (content_tree content)) c.loop-import.names) content
    (subst (λ (items : List Item). AreGathered c.args.names.now items c.loop-import.names)
    (ap (nested_items c.args.is_published c.args.«module».now) (take_all c.loop-import.import-index c.as_slice-import-items.result.now c.loop-import-test.false)
    ∙ sym (collection_items c.args.is_published c.args.«module».now c.as_slice-import-items.result.now))
    c.loop-import.invariant.1)

pub add_nested-returns-clause-target : goal.add_nested-returns-clause-target
add_nested-returns-clause-target t c =
    kept_after c.args.names.now c.add_content-2.new.names _ c.add_content-2.result c.args.target.now c.args.«module».now c.requires c.add_content-2.ensures.gathers
