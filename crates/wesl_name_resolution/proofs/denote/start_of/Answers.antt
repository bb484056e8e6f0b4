use Rattle.std.proofs.Common.{◌≡◌, sym, ap, ◌∙◌, subst, Some, None, slice_get, ℕ, ◌<◌, ◌^◌, arith, rules}
use Rattle.std.proofs.lemmas.Grind.{common_steps}
use Rattle.std.specs.Prelude.{string_bytes}
use Rattle.std.specs.Option.{option_copied, option_map}
use Rattle.wesl_chains.specs.Outlines.{Path}
use Rattle.wesl_chains.proofs.Loops.{same_some}
use Rattle.wesl_module_index.specs.declared.module.Module.{Module}
use Rattle.wesl_module_index.specs.declared.module.ReferenceTarget.TheVariants.{Imported, Item, Free}
use Rattle.wesl_module_index.specs.Tables.{import_said, import_at, import_sense, sense_said}
use Rattle.wesl_module_index.specs.Loaded.{home_of}
use Rattle.wesl_name_resolution.specs.Links.{Beginning, known, seeks, begins, beginning_of}
use Rattle.wesl_name_resolution.proofs.Answered.{starts, read}
use Rattle.wesl_name_resolution.proofs.denote.start_of.Goals as goal

pub returns-in-Some-get-clause-starts : goal.returns-in-Some-get-clause-starts
returns-in-Some-get-clause-starts c =
    let m = c.in-Some.module.now in
    let is : slice_get c.args.modules.now.list.items c.args.number ≡ Some m = sym c.get.ensures ∙ ap option_copied c.in-Some.is in
    let fits : c.args.reference < 2 ^ 32 = first_of (search rules, grind (arith, common_steps)) in
    let e : slice_get m.sought.items c.args.reference ≡ Some (Imported c.in-Some-Imported.item) = read m.sought.items c.deref.result.now c.args.reference c.in-Some-Imported.field-0.now c.deref.ensures.value c.in-Some-Imported.ensures.lookup.3.0 c.in-Some-Imported.ensures.lookup.1 ∙ ap Some c.in-Some-Imported.field-0-is in
    let i : import_at m c.in-Some-Imported.item ≡ Some (import_said m.targets.items c.in-Some-get.item.now) = ap (option_map (import_said m.targets.items)) (read m.items.items c.deref-in-Some-Imported.result.now c.in-Some-Imported.item c.in-Some-get.item.now c.deref-in-Some-Imported.ensures.value c.in-Some-get.ensures.lookup.3.0 c.in-Some-get.ensures.lookup.1) in
    starts c.args.modules.now c.args.number c.args.reference m (beginning_of c.args.modules.now c.start_by.result) is fits (λ p h.
    let home : string_bytes m.target.printed_path ≡ p = same_some (ap (λ o. elim o [ Some x ↦ Some (string_bytes x.target.printed_path) | None ↦ None ]) (sym is) ∙ h) in
    c.start_by.ensures.starts c.args.modules.now ∙ ap (λ q. begins q (import_sense (Some (import_said m.targets.items c.in-Some-get.item.now)))) home
    ∙ ap (λ o. begins p (import_sense o)) (sym i) ∙ ap (λ g. begins p (sense_said m g)) (sym e))

pub returns-in-Some-Item-clause-starts : goal.returns-in-Some-Item-clause-starts
returns-in-Some-Item-clause-starts c =
    let m = c.in-Some.module.now in
    let is : slice_get c.args.modules.now.list.items c.args.number ≡ Some m = sym c.get.ensures ∙ ap option_copied c.in-Some.is in
    let fits : c.args.reference < 2 ^ 32 = first_of (search rules, grind (arith, common_steps)) in
    let e : slice_get m.sought.items c.args.reference ≡ Some (Item c.in-Some-Item.target c.in-Some-Item.name) = read m.sought.items c.deref.result.now c.args.reference c.in-Some-Item.field-0.now c.deref.ensures.value c.in-Some-Item.ensures.lookup.3.0 c.in-Some-Item.ensures.lookup.1 ∙ ap Some c.in-Some-Item.field-0-is in
    starts c.args.modules.now c.args.number c.args.reference m (seeks (record { home = string_bytes c.in-Some-Item.target.printed_path; name = c.as_str.result.now })) is fits (λ p h.
    ap (λ n. seeks (record { home = string_bytes c.in-Some-Item.target.printed_path; name = n })) c.as_str.ensures ∙ ap (λ g. begins p (sense_said m g)) (sym e))

pub returns-in-Some-get-clause-begun : goal.returns-in-Some-get-clause-begun
returns-in-Some-get-clause-begun c = c.start_by.ensures.begun c.args.modules.now c.args.number c.args.reference
