-- What becomes of an item, and what is true of it.
use Rattle.std.proofs.Common.{◌≡◌, refl, sym, ap, ◌∙◌, List, [], ◌∷◌, Bool, true, false, Option, Some, None}
use Rattle.std.specs.Prelude.{if◌then◌else◌}
use Rattle.wgsl_expressions.specs.AttributesTree.{Attr}
use Rattle.wgsl_expressions.specs.Tree.{Exp}
use Rattle.wesl_conditions.specs.declared.features.feature.Features.{Features}
use Rattle.wesl_conditions.specs.Conditions.{Choice, Admits, known, holds, simplified}
use Rattle.wesl_conditions.specs.Chains.{Mark, if_mark, elif_mark, else_mark, opens, is_true, HasAttributes, Standing, goes, stays, waits, standing}
use Rattle.wesl_conditions.proofs.MeaningLemmas.{known_holds, meaning_stays}

-- attributes can be read as they were put, and what is put last counts
pub record IsLawful {T : Type 0} (has : HasAttributes T) : Type 0 where
  pub reads : (new : List Attr) (x : T) → has.attributes (has.with_attributes new x) ≡ new
  pub puts : (new old : List Attr) (x : T) → has.with_attributes new (has.with_attributes old x) ≡ has.with_attributes new x

-- an open condition is what is left of the one condition that the item has
pub record IsOpen (features : Features) (ms : List Mark) (e : Exp) : Type 0 where
  pub mark : Mark
  pub single : ms ≡ mark ∷ []
  pub goes_on : opens ms ≡ true
  pub condition : Exp
  pub left : simplified features condition ≡ e
  pub unknown : known e ≡ None

-- what is known of the conditions of an item that waits
pub waiting : (features : Features) (ms : List Mark) (e : Exp) → standing features ms ≡ waits e → IsOpen features ms e
waiting features [] e h = absurd (cc)
waiting features (if_mark x ∷ []) e h = by (known (simplified features x)) refl h
  where
    by : (o : Option Bool) → known (simplified features x) ≡ o → elim o [ Some b ↦ (if b then stays else goes) | None ↦ waits (simplified features x) ] ≡ waits e → IsOpen features (if_mark x ∷ []) e
    by (Some true) is h = absurd (cc)
    by (Some false) is h = absurd (cc)
    by None is h =
        let same : simplified features x ≡ e = cc in
        record { mark = if_mark x; single = refl; goes_on = refl; condition = x; left = same; unknown = ap known (sym same) ∙ is }
waiting features (elif_mark x ∷ []) e h = by (known (simplified features x)) refl h
  where
    by : (o : Option Bool) → known (simplified features x) ≡ o → elim o [ Some b ↦ (if b then stays else goes) | None ↦ waits (simplified features x) ] ≡ waits e → IsOpen features (elif_mark x ∷ []) e
    by (Some true) is h = absurd (cc)
    by (Some false) is h = absurd (cc)
    by None is h =
        let same : simplified features x ≡ e = cc in
        record { mark = elif_mark x; single = refl; goes_on = refl; condition = x; left = same; unknown = ap known (sym same) ∙ is }
waiting features (else_mark ∷ []) e h = absurd (cc)
waiting features (if_mark x ∷ n ∷ ms) e h = absurd (cc)
waiting features (elif_mark x ∷ n ∷ ms) e h = absurd (cc)
waiting features (else_mark ∷ n ∷ ms) e h = absurd (cc)

module _ (features : Features) (choice : Choice) (admits : Admits features choice) where
  -- what becomes of an item agrees with whether it is true
  abbrev pub Fits : Bool → Standing → Type 0
  Fits b goes = b ≡ false
  Fits b stays = b ≡ true
  Fits b (waits e) = b ≡ holds choice e

  abbrev pub Agrees : List Mark → Standing → Type 0
  Agrees ms s = Fits (is_true choice ms) s

  of_condition : (x : Exp) (o : Option Bool) → known (simplified features x) ≡ o
      → Fits (holds choice x) (elim o [ Some b ↦ (if b then stays else goes) | None ↦ waits (simplified features x) ])
  of_condition x (Some true) is = sym (meaning_stays features choice admits x) ∙ known_holds features choice admits (simplified features x) true is
  of_condition x (Some false) is = sym (meaning_stays features choice admits x) ∙ known_holds features choice admits (simplified features x) false is
  of_condition x None is = sym (meaning_stays features choice admits x)

  pub agrees : (ms : List Mark) → Agrees ms (standing features ms)
  agrees [] = refl
  agrees (if_mark x ∷ []) = of_condition x (known (simplified features x)) refl
  agrees (elif_mark x ∷ []) = of_condition x (known (simplified features x)) refl
  agrees (else_mark ∷ []) = refl
  agrees (if_mark x ∷ n ∷ ms) = refl
  agrees (elif_mark x ∷ n ∷ ms) = refl
  agrees (else_mark ∷ n ∷ ms) = refl
