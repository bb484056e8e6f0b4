-- What is told of a module, or of its refusal, is told of the unit of the part that it is.
use Rattle.wgsl_declarations.specs.View as whole_views
use Rattle.core_resolver.proofs.Telling.{unit_told, unit_refused, same_part, asks_told, asks_refused}
use Rattle.core_resolver.proofs.resolver.NarrowingResolverResolver.resolve_module.Goals as goal

pub returns-in-Ok-clause-unit : goal.returns-in-Ok-clause-unit
returns-in-Ok-clause-unit g c =
    unit_told (g.R.Resolver.answers c.args.self.now.resolver) c.args.path.now c.in_ok-own.own (whole_views.unit_tree c.in-Ok.unit) c.part_of.result c.in_ok-own.ensures.read c.in-Ok.ensures.unit c.part_of.ensures

pub returns-in-Ok-clause-same_answers : goal.returns-in-Ok-clause-same_answers
returns-in-Ok-clause-same_answers g c = same_part _ _ c.resolve_module.ensures.same_answers

pub returns-in-Ok-clause-asked : goal.returns-in-Ok-clause-asked
returns-in-Ok-clause-asked g c =
    asks_told (g.R.Resolver.asked c.args.self.now.resolver) (g.R.Resolver.asked c.resolve_module.new.self) c.args.path.now c.in_ok-own.own c.in-Ok.unit c.part_of.result c.in_ok-own.ensures.text c.in-Ok.ensures.asked

pub returns-clause-unit : goal.returns-clause-unit
returns-clause-unit g c =
    unit_refused (g.R.Resolver.answers c.args.self.now.resolver) c.args.path.now c.in_ok-own.own c.in-Err.error c.refused.result c.in_ok-own.ensures.read c.in-Err.ensures.unit c.refused.ensures

pub returns-clause-same_answers : goal.returns-clause-same_answers
returns-clause-same_answers g c = same_part _ _ c.resolve_module.ensures.same_answers

pub returns-clause-asked : goal.returns-clause-asked
returns-clause-asked g c =
    asks_refused (g.R.Resolver.asked c.args.self.now.resolver) (g.R.Resolver.asked c.resolve_module.new.self) c.args.path.now c.in_ok-own.own c.in-Err.error c.refused.result c.in_ok-own.ensures.text c.refused.ensures
    c.in-Err.ensures.asked
