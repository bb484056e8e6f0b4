-- The map changes at this name alone.
use Rattle.std.proofs.Common.{ap, ◌∙◌}
use Rattle.std.specs.Option.{unwrap_or}
use Rattle.std.specs.Prelude.{string_bytes}
use Rattle.std.specs.Map.{lookup}
use Rattle.std.specs.Str.{bytes_eq}
use Rattle.wesl_conditions.proofs.Insertion.{found_after, chosen_default}
use Rattle.wesl_conditions.proofs.features.feature.Features.set.Goals as goal

pub returns-clause-set : goal.returns-clause-set
returns-clause-set c n =
    ap (λ es. unwrap_or (lookup (λ k. bytes_eq n (string_bytes k)) es) c.args.self.now.default) c.in_ok-insert.ensures.entries
    ∙ ap (λ o. unwrap_or o c.args.self.now.default) (found_after c.args.self.now.flags.entries c.args.name c.args.feature n)
    ∙ chosen_default (bytes_eq n (string_bytes c.args.name)) c.args.feature _ c.args.self.now.default
