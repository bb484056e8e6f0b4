use Rattle.std.proofs.Common.{ℕ, List, [], get_or, subst, sym, ap, ◌∙◌}
use denote.Ref.{Bor}
use Rattle.std.specs.Option.{option_map}
use Rattle.core_syntax.specs.View.{declaration_tree}
use Rattle.core_scopes.specs.Outcomes.{loaded, home_of, outcome}
use Rattle.core_reach.specs.Missing.{TellsWhy}
use Rattle.core_rename.specs.Scopes.{texts}
use Rattle.core_reach.proofs.StageLemmas.{text_there}
use Rattle.core_reach.proofs.PresentLemmas.{one_present}
use Rattle.core_reach.proofs.FirstLemmas.{present_of, none_alone, first_alone}
use Rattle.core_reach.proofs.missing.missing_in.Goals as goal

pub loop-name-preserved : goal.loop-name-preserved
loop-name-preserved c =
    let d : Bor (List ℕ) = record { ref_ptr = (0, 0); now = [] } in
    let x = (get_or c.as_slice-name-items.result.now c.loop-name.name-index d).now in
    one_present (loaded c.args.modules.now) (home_of c.args.symbol.«module».now) c.as_slice-name-items.result.now c.loop-name.name-index
    x
    (text_there c.as_slice-name-items.result.now c.as_slice-name-items.result.now c.loop-name.name-index d (λ k. c.as_slice-name-items.result.now) c.loop-name-test.true)
    c.loop-name.invariant
    (present_of (outcome (loaded c.args.modules.now) (home_of c.args.symbol.«module».now) x)
    (subst (TellsWhy (outcome (loaded c.args.modules.now) (home_of c.args.symbol.«module».now) x)) c.in_default.is c.in_ok-error-in-Some.ensures))

pub returns-in-Some-2 : goal.returns-in-Some-2
returns-in-Some-2 c =
    let d : Bor (List ℕ) = record { ref_ptr = (0, 0); now = [] } in
    let x = (get_or c.as_slice-name-items.result.now c.loop-name.name-index d).now in
    first_alone (loaded c.args.modules.now) c.args.text.now c.args.symbol.place (home_of c.args.symbol.«module».now) c.requires (declaration_tree c.in-Some.declaration.now)
    (sym c.declaration.ensures ∙ ap (option_map (λ d. declaration_tree d.now)) c.in-Some.is)
    c.as_slice-name-items.result.now (ap texts c.as_slice-name-items.ensures.value ∙ c.in_ok-names-in-Some.ensures) c.loop-name.name-index c.loop-name.invariant
    x c.in-Some-2.error
    (text_there c.as_slice-name-items.result.now c.as_slice-name-items.result.now c.loop-name.name-index d (λ k. c.as_slice-name-items.result.now) c.loop-name-test.true)
    (subst (TellsWhy (outcome (loaded c.args.modules.now) (home_of c.args.symbol.«module».now) x)) c.in-Some-2.is c.in_ok-error-in-Some.ensures)

pub returns-after-loop-name : goal.returns-after-loop-name
returns-after-loop-name c =
    none_alone (loaded c.args.modules.now) c.args.text.now c.args.symbol.place (home_of c.args.symbol.«module».now) c.requires (declaration_tree c.in-Some.declaration.now)
    (sym c.declaration.ensures ∙ ap (option_map (λ d. declaration_tree d.now)) c.in-Some.is)
    c.as_slice-name-items.result.now (ap texts c.as_slice-name-items.ensures.value ∙ c.in_ok-names-in-Some.ensures) c.loop-name.name-index c.loop-name.invariant
    c.loop-name-test.false
