use Rattle.std.proofs.Common.{◌≡◌, rules, arith, ◌++◌, ◌∷◌, []}
use Rattle.wesl_mark.specs.declared.scopes.Shadowing.{Shadowing}
use Rattle.wesl_mark.specs.declared.scopes.Entry.TheVariants.{Bound}
use Rattle.std.proofs.lemmas.Grind.{common_steps}
use Rattle.wesl_mark.specs.Trail.{nearest}
use Rattle.wesl_mark.proofs.Steps.{kept_bound, kept_same}
use Rattle.wesl_mark.proofs.scopes.bind.Goals as goal

pub returns-in_err-push-clause-kept : goal.returns-in_err-push-clause-kept
returns-in_err-push-clause-kept c = let e : c.args.trail.now.items ≡ c.push.new.self.items = search rules in kept_same _ _ e c.requires.kept

pub returns-clause-kept : goal.returns-clause-kept
returns-clause-kept c =
    let b : Shadowing = record { name = c.args.name; value = c.args.value; before = c.index-before.result.now } in
    let e : c.args.trail.now.items ++ Bound b ∷ [] ≡ c.push.new.self.items = search rules in
    let t = c.requires.table c.args.name in
    let was : c.index-before.result.now ≡ nearest c.args.name c.args.trail.now.items = grind (arith, common_steps, t) in
    kept_same _ _ e (kept_bound c.args.trail.now.items b c.requires.kept was)
