use Rattle.std.proofs.Common.{◌≡◌, sym, ap, ◌∙◌, Bor}
use Rattle.std.specs.Prelude.{string_bytes}
use Rattle.std.specs.Option.{option_map}
use Rattle.wgsl_path.specs.Joining.{with_names}
use Rattle.wgsl_path.specs.Paths.{path_text}
use Rattle.wesl_chains.specs.Senses.{item_as_module, meant_by, module_meant}
use Rattle.wesl_module_index.specs.declared.target.Target.{Target}
use Rattle.wesl_module_index.specs.Tables.{Import, import_said}
use Rattle.wesl_module_index.specs.Naming.{leading}
use Rattle.wgsl_path.specs.declared.path.ModulePath.{ModulePath}
use Rattle.wesl_module_index.proofs.Bits.{if_ok, copied_map}
use Rattle.wesl_module_index.proofs.Sensing.{some_leading, none_leading, item_behind, plain_path}
use Rattle.wesl_module_index.proofs.module.module_meant.Goals as goal

pub returns-in-Some : goal.returns-in-Some
returns-in-Some c = λ places o s.
    let lead = some_leading (leading o c.args.path.now.origin) (import_said c.args.names.now.targets.items c.in-Some.item.now) (c.in-Some.ensures places o s) in
    let home : option_map (λ (t : Bor Target). string_bytes t.now.printed_path) c.target_of-target.result ≡ option_map path_text lead.0.base
    = copied_map (λ (t : Target). string_bytes t.printed_path) c.target_of-target.result
    ∙ ap (option_map (λ (t : Target). string_bytes t.printed_path)) c.target_of-target.ensures
    ∙ ap (λ (i : Import). i.home) lead.2 in
    if_ok c.path_behind.result (λ path. path_text path ≡ path_text (with_names (item_as_module lead.0.base c.in-Some.item.now.name) c.args.path.now.components))
    (λ path. path_text path ≡ path_text (module_meant o c.args.path.now c.args.path.now.origin))
    (λ path is. is ∙ item_behind o c.args.path.now lead.0 c.in-Some.item.now.name lead.1 (ap (λ (i : Import). i.last) lead.2))
    (c.path_behind.ensures lead.0.base home)

pub returns-in-None : goal.returns-in-None
returns-in-None c = λ places o s.
    let none = none_leading (leading o c.args.path.now.origin) (c.in-None.ensures places o s) in
    if_ok c.meant.result (λ path. path ≡ meant_by c.args.names.now.path c.args.path.now c.args.path.now.origin)
    (λ path. path_text path ≡ path_text (module_meant o c.args.path.now c.args.path.now.origin))
    (λ path is.
    ap path_text
    (is ∙ ap (λ (own : ModulePath). meant_by own c.args.path.now c.args.path.now.origin) s.path ∙ sym (plain_path o c.args.path.now c.args.path.now.origin none)))
    c.meant.ensures
