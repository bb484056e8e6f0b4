use Rattle.std.proofs.Common.{◌≡◌, rules, ◌++◌, ◌∷◌, []}
use Rattle.wesl_mark.specs.declared.scopes.Entry.TheVariants.{Start}
use Rattle.wesl_mark.proofs.Steps.{kept_start, kept_same}
use Rattle.wesl_mark.proofs.scopes.open.Goals as goal

pub returns-in_err-push-clause-kept : goal.returns-in_err-push-clause-kept
returns-in_err-push-clause-kept c = let e : c.args.trail.now.items ≡ c.push.new.self.items = search rules in kept_same _ _ e c.requires.kept

pub returns-clause-kept : goal.returns-clause-kept
returns-clause-kept c =
    let e : c.args.trail.now.items ++ Start ∷ [] ≡ c.push.new.self.items = search rules in
    kept_same _ _ e (kept_start c.args.trail.now.items c.requires.kept)
