-- The text is recorded under the display name that the resolver has.
use Rattle.wgsl_path.specs.Paths.{path_text}
use Rattle.weslc_errors.proofs.Mapping.{adds_one, names_more}
use Rattle.weslc_errors.proofs.linking.add_source.Goals as goal

pub returns-clause-only : goal.returns-clause-only
returns-clause-only g c = adds_one c.args.recorded.now c.add_source.new.self c.args.path.now c.in_ok-text.text c.in_ok-add_source.ensures.text

pub returns-clause-names : goal.returns-clause-names
returns-clause-names g c =
    names_more (g.R.Resolver.display_names c.args.resolver.now) c.args.recorded.now c.add_source.new.self (path_text c.args.path.now) c.in_ok-text.text c.in_ok-name.name c.in_ok-name.ensures.name
    c.in_ok-add_source.ensures.text c.in_ok-add_source.ensures.display_name
