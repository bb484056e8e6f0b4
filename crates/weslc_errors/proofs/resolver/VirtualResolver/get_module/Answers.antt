-- What the map has at a printed path the list has.
use Rattle.std.proofs.Common.{rules, ◌≡◌, sym, ◌∙◌, Some, None}
use Rattle.std.specs.Option.{option_map}
use Rattle.std.specs.HashMap.{get_by_text}
use Rattle.wgsl_path.specs.Paths.{path_text}
use Rattle.weslc_errors.proofs.Added.{text_found}
use Rattle.weslc_errors.proofs.resolver.VirtualResolver.get_module.Goals as goal

pub returns-in-Some : goal.returns-in-Some
returns-in-Some c =
    let there : option_map (λ m. m.text) (get_by_text c.args.self.now.modules (path_text c.args.path.now)) ≡ Some c.as_str-in-Some.result.now = search rules in
    sym (text_found c.args.self.now.modules.entries c.args.self.now.keyed (path_text c.args.path.now)) ∙ there

pub returns : goal.returns
returns c =
    let there : option_map (λ m. m.text) (get_by_text c.args.self.now.modules (path_text c.args.path.now)) ≡ None = search rules in
    (c.in_ok-clone_in-in-None.ensures, sym (text_found c.args.self.now.modules.entries c.args.self.now.keyed (path_text c.args.path.now)) ∙ there)
