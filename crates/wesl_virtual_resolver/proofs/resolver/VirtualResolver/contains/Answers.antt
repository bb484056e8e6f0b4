-- What the map has at a printed path the list has.
use Rattle.std.proofs.Common.{rules, ◌≡◌, ap, ◌∙◌}
use Rattle.std.specs.Option.{option_map, is_some}
use Rattle.std.specs.HashMap.{get_by_text}
use Rattle.wgsl_path.specs.Paths.{path_text}
use Rattle.wesl_virtual_resolver.proofs.Added.{text_found}
use Rattle.wesl_virtual_resolver.proofs.resolver.VirtualResolver.contains.Goals as goal

pub returns : goal.returns
returns c =
    let there : c.contains_key.result ≡ is_some (option_map (λ m. m.text) (get_by_text c.args.self.now.modules (path_text c.args.path.now))) = search rules in
    there ∙ ap is_some (text_found c.args.self.now.modules.entries c.args.self.now.keyed (path_text c.args.path.now))
