use Rattle.std.proofs.Common.{rules, ◌≡◌, ap, ◌∙◌, List, Some, None, slice_get}
use Rattle.std.specs.Option.{option_map, option_copied}
use Rattle.std.specs.HashMap.{get_by_text}
use Rattle.wesl_module_index.specs.declared.module.Meaning.TheVariants.{Declared, Imported}
use Rattle.wesl_module_index.specs.declared.target.ImportItem.{ImportItem}
use Rattle.wesl_module_index.specs.Tables.{import_said}
use Rattle.wesl_module_index.proofs.Bits.{copied_map, item_at}
use Rattle.wesl_module_index.proofs.Sensing.{led}
use Rattle.wesl_module_index.proofs.module.import_of.Goals as goal

pub returns-in-Some-Imported : goal.returns-in-Some-Imported
returns-in-Some-Imported c = λ places o s.
    let key : c.as_str.result.now ≡ c.in-Package.name = search rules in
    let found : get_by_text c.args.names.now.scope c.as_str.result.now ≡ Some (Imported c.in-Some-Imported.item) = search rules in
    let item : option_copied c.get-in-Some-Imported.result ≡ slice_get c.args.names.now.items.items c.in-Some-Imported.item
    = item_at c.deref.result.now c.in-Some-Imported.item c.get-in-Some-Imported.result c.get-in-Some-Imported.ensures.lookup ∙ ap (λ (is : List ImportItem). slice_get is c.in-Some-Imported.item) c.deref.ensures.value in
    copied_map (import_said c.args.names.now.targets.items) c.get-in-Some-Imported.result
    ∙ ap (option_map (import_said c.args.names.now.targets.items)) item
    ∙ led c.args.names.now places o s c.args.path.now.origin c.in-Package.name c.as_str.result.now c.in-Package.is key (Some (Imported c.in-Some-Imported.item)) found

pub returns-in-Some-Declared : goal.returns-in-Some-Declared
returns-in-Some-Declared c = λ places o s.
    let key : c.as_str.result.now ≡ c.in-Package.name = search rules in
    let found : get_by_text c.args.names.now.scope c.as_str.result.now ≡ Some c.in-Some-Declared.field-0.now = search rules in
    let declared : c.in-Some-Declared.field-0.now ≡ Declared c.in-Some-Declared.field-0-0 = search rules in
    led c.args.names.now places o s c.args.path.now.origin c.in-Package.name c.as_str.result.now c.in-Package.is key (Some (Declared c.in-Some-Declared.field-0-0)) (found ∙ ap Some declared)

pub returns-in-None : goal.returns-in-None
returns-in-None c = λ places o s.
    let key : c.as_str.result.now ≡ c.in-Package.name = search rules in
    let found : get_by_text c.args.names.now.scope c.as_str.result.now ≡ None = search rules in
    led c.args.names.now places o s c.args.path.now.origin c.in-Package.name c.as_str.result.now c.in-Package.is key None found
