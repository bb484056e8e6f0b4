use Rattle.std.proofs.Common.{rules, of_calls}
use denote.Param.Always.{always_mut, mut_by}
use Rattle.wgsl_nodes.proofs.Turns.{in_turn}
use Rattle.wgsl_nodes.proofs.node.keep_in_place.Goals as goal

pub retain_mut-requires : goal.retain_mut-requires
retain_mut-requires g c = mut_by _ (λ s. always_mut g.F.FnMut s.0) (λ s a i. search (rules, of_calls)) (λ s a r t i e. search (rules, of_calls)) _ c.requires

pub returns : goal.returns
returns g c = in_turn _ _ (λ s. s.0) (λ s x b t y r. search rules) _ _ _ c.retain_mut.ensures
