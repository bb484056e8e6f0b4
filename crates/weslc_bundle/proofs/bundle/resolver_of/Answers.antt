-- Each module that is added goes from what is left to what is held.
use Rattle.std.proofs.Common.{◌≡◌, [], ◌∷◌, ◌∙◌, List, ap, sym, length, arith, refl}
use Rattle.std.specs.Option.{option_or}
use Rattle.std.specs.Vec.Iter.{into_iter_items}
use Rattle.weslc_compile.specs.Stored.{text_at}
use Rattle.weslc_bundle.specs.declared.request.Module.{Module}
use Rattle.weslc_bundle.proofs.Held.{last_in, held_more, only_one}
use Rattle.weslc_bundle.proofs.bundle.resolver_of.Goals as goal

pub loop-module-preserved : goal.loop-module-preserved
loop-module-preserved c =
    let at = c.loop-module in
    let m = c.in-Some.module in
    let rest = into_iter_items c.next.new.self in
    let steps : into_iter_items at.module-iterator ≡ m ∷ rest = c.in-Some.ensures.steps.0 in
    record {
      held = λ p.
          held_more at.resolver c.add_module.new.self m rest c.in_ok-add_module.ensures.added p
          ∙ ap (λ (ms : List Module). option_or (last_in ms p) (text_at at.resolver p)) (sym steps) ∙ at.invariant.held p;
      left = let was = at.invariant.left in let gone = c.in-Some.ensures.steps.1 in let short = ap length steps in omega arith;
    }

nothing_left : {X : Type 0} (l : List X) → length l ≡ 0 → l ≡ []
nothing_left [] h = refl
nothing_left (x ∷ xs) h = absurd (omega arith)

pub returns : goal.returns
returns c p =
    let at = c.loop-module in
    let empty : into_iter_items at.module-iterator ≡ [] = nothing_left _ (sym at.invariant.left ∙ c.in-None.ensures.steps.0) in
    ap (λ (ms : List Module). option_or (last_in ms p) (text_at at.resolver p)) (sym empty) ∙ at.invariant.held p ∙ only_one c.args.modules c.requires p
