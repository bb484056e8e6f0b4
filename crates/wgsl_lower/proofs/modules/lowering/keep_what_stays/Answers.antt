-- What is kept passes the test.
use Rattle.std.proofs.Common.{rules, subst, sym}
use Rattle.std.proofs.lemmas.Fn.{filter_same}
use Rattle.std.proofs.lemmas.List.Elements.{filter_passes}
use Rattle.wgsl_lower.specs.Lowered.{stays, AllStay}
use Rattle.wgsl_lower.proofs.modules.lowering.keep_what_stays.Goals as goal

pub returns : goal.returns
returns c =
    subst AllStay (sym (filter_same _ (λ n. stays n.node) _ (λ x b f' k. search rules) _ _ c.retain_declarations.ensures)) (filter_passes (λ n. stays n.node) c.args.declarations.now)
