use Rattle.std.proofs.Common.{rules, arith, ◌≡◌, sym, ap, ◌∙◌, subst, List, ℕ, Option, Some}
use Rattle.std.specs.HashMap.{get_by_text}
use Rattle.std.proofs.lemmas.Grind.{merely}
use Rattle.weslc_workspace.specs.Outcome.{IsToldOf}
use Rattle.weslc_workspace.proofs.Copied.{told_there}
use Rattle.weslc_workspace.proofs.asking.Asking.parse_now.Goals as goal

pub returns-in-Some-clause-unit : goal.returns-in-Some-clause-unit
returns-in-Some-clause-unit c =
    let told : IsToldOf (get_by_text c.args.self.now.modules.now.texts c.as_str.result.now) c.in-Some.parsed.now.parse.outcome =
    c.args.self.now.of_texts c.as_str.result.now c.in-Some.parsed.now (sym c.in-Some.ensures.value)
    in
    let there : get_by_text c.args.self.now.modules.now.texts c.as_str.result.now ≡ Some c.args.text.now =
    ap (λ (p : List ℕ). get_by_text c.args.self.now.modules.now.texts p) c.as_str.ensures.value ∙ c.requires
    in
    c.copy.ensures (Some c.args.text.now) (subst (λ (o : Option (List ℕ)). IsToldOf o c.in-Some.parsed.now.parse.outcome) there told)

pub returns-clause-unit : goal.returns-clause-unit
returns-clause-unit c =
    let same : c.as_str-2.result.now ≡ c.args.text.now = first_of (cc (c.as_str-2.ensures, c.in_ok-text.ensures), search rules, grind arith) in
    c.copy-copied.ensures (Some c.args.text.now)
    (told_there (Some c.args.text.now) c.as_str-2.result.now c.in_ok-parse.parse.outcome (ap (λ (t : List ℕ). Some t) (sym same)) (merely c.in_ok-parse.ensures))
