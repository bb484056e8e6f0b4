use Rattle.std.proofs.Common.{◌≡◌, sym, ap, ◌∙◌, subst, [], ◌⊎◌, inl, inr}
use Rattle.wesl_module_index.specs.Loaded.{AreTabled}
use Rattle.wesl_chains.specs.Outlines.{Finder}
use Rattle.wesl_chains.specs.Chains.{next, outcome_at, missing, private, unloaded, here}
use Rattle.wesl_name_resolution.specs.Links.{symbol_of, step_of, IsFoundIn}
use Rattle.wesl_name_resolution.specs.Ends.{HasEnded}
use Rattle.wesl_name_resolution.proofs.ends.behind.Goals as goal

pub returns-in-Declared-clause-behind : goal.returns-in-Declared-clause-behind
returns-in-Declared-clause-behind c find tabled via =
    let found = subst (λ x. IsFoundIn c.args.modules.now (symbol_of c.args.link).home x) c.in-Declared.is c.found_at.ensures.found in
    let step = sym (c.found_at.ensures.step find tabled) ∙ ap (step_of c.args.modules.now) c.in-Declared.is in
    (symbol_of c.args.link, [], found, here, step)

pub returns-in-Missing : goal.returns-in-Missing
returns-in-Missing c = record {
  known = tt;
  leads = tt;
  behind = λ find tabled via. (symbol_of c.args.link, [], via, here, ended find tabled);
}
  where
    ended : (find : Finder) → AreTabled c.args.modules.now find → HasEnded find (symbol_of c.args.link)
    ended find tabled =
        let s = symbol_of c.args.link in
        let said = sym (c.found_at.ensures.step find tabled) in
        elim c.in-Missing.is [
          | inl a ↦ ([], missing s, ap (outcome_at s) (said ∙ ap (step_of c.args.modules.now) a))
          | inr b ↦ elim b [
            | inl p ↦ ([], private s, ap (outcome_at s) (said ∙ ap (step_of c.args.modules.now) p))
            | inr u ↦ ([], unloaded s, ap (outcome_at s) (said ∙ ap (step_of c.args.modules.now) u))
          ]
        ]
