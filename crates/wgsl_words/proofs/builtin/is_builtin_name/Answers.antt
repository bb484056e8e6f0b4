use Rattle.std.proofs.Common.{◌≡◌, true, sym, ap, ◌∙◌}
use Rattle.wgsl_words.specs.Names.{is_in}
use Rattle.wgsl_words.specs.Builtin.{builtin_names}
use Rattle.wgsl_words.proofs.Membership.{contains_from_in, in_from_contains}
use Rattle.wgsl_words.proofs.builtin.is_builtin_name.Goals as goal

pub returns : goal.returns
returns c =
    let is : c.is_known.result ≡ is_in c.args.name.now builtin_names = c.is_known.ensures ∙ ap (is_in c.args.name.now) c.builtin_names.ensures in
    ((λ t. contains_from_in c.args.name.now builtin_names (sym is ∙ t)), (λ h. is ∙ in_from_contains c.args.name.now builtin_names h))
