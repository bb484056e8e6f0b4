-- What an item's kind says of its conditions.
use Rattle.std.proofs.Common.{◌≡◌, refl, ap, ◌∙◌, List, [], ◌∷◌, map, Bool, true, false, ◌&&◌, Option, Some, None}
use Rattle.std.specs.Prelude.{if◌then◌else◌}
use Rattle.wgsl_expressions.specs.Tree.{Exp}
use Rattle.wgsl_expressions.specs.AttributesTree.{Attr, if_true, else_if}
use Rattle.wesl_conditions.specs.declared.features.feature.Features.{Features}
use Rattle.wesl_conditions.specs.declared.meaning.chain.Chain.{Chain}
use Rattle.wesl_conditions.specs.Conditions.{known, simplified}
use Rattle.wesl_conditions.specs.Chains.{Mark, if_mark, elif_mark, else_mark, marks, remarked, opens, continues, Standing, goes, stays, waits, standing}
use Rattle.wesl_conditions.specs.Seen.{item_fault}
use Rattle.wesl_conditions.specs.Walks.{start, chain_at, behind_standing, behind, standing_in, attributes_with, attributes_left}
use Rattle.wesl_cond_attributes.proofs.Rewriting.{reopened_waits}
use Rattle.wesl_cond_attributes.specs.declared.kind.Outlook.TheVariants.{Goes, Waits}
use Rattle.wesl_cond_attributes.specs.Kinds.{kind, kind_opens, kind_continues, chain_before, first_value, value_outlook, kind_outlook, outlook, chain_behind, first_condition_fault, kind_fault, reopened}

pub opens_by : (ms : List Mark) → kind_opens (kind ms) ≡ opens ms
opens_by [] = refl
opens_by (if_mark x ∷ []) = refl
opens_by (elif_mark x ∷ []) = refl
opens_by (else_mark ∷ []) = refl
opens_by (if_mark x ∷ n ∷ ms) = refl
opens_by (elif_mark x ∷ n ∷ ms) = refl
opens_by (else_mark ∷ n ∷ ms) = refl

pub continues_by : (ms : List Mark) → kind_continues (kind ms) ≡ continues ms
continues_by [] = refl
continues_by (if_mark x ∷ []) = refl
continues_by (elif_mark x ∷ []) = refl
continues_by (else_mark ∷ []) = refl
continues_by (if_mark x ∷ n ∷ ms) = refl
continues_by (elif_mark x ∷ n ∷ ms) = refl
continues_by (else_mark ∷ n ∷ ms) = refl

pub chain_by : (chain : Chain) (ms : List Mark) → chain_before chain (kind ms) ≡ chain_at chain ms
chain_by chain ms = ap (λ b. if chain.is_open && b then chain else start) (continues_by ms)

by_value : (o : Option Bool) (e : Exp) → value_outlook o ≡ outlook (elim o [ Some b ↦ (if b then stays else goes) | None ↦ waits e ])
by_value None e = refl
by_value (Some true) e = refl
by_value (Some false) e = refl

pub outlook_by : (features : Features) (ms : List Mark) → kind_outlook (kind ms) (first_value features ms) ≡ outlook (standing features ms)
outlook_by features [] = refl
outlook_by features (if_mark x ∷ []) = by_value (known (simplified features x)) (simplified features x)
outlook_by features (elif_mark x ∷ []) = by_value (known (simplified features x)) (simplified features x)
outlook_by features (else_mark ∷ []) = refl
outlook_by features (if_mark x ∷ n ∷ ms) = refl
outlook_by features (elif_mark x ∷ n ∷ ms) = refl
outlook_by features (else_mark ∷ n ∷ ms) = refl

pub outlook_there : (features : Features) (chain : Chain) (ms : List Mark)
    → (if (chain_at chain ms).is_decided then Goes else kind_outlook (kind ms) (first_value features ms)) ≡ outlook (standing_in features chain ms)
outlook_there features chain ms = by (chain_at chain ms).is_decided
  where
    by : (d : Bool) → (if d then Goes else kind_outlook (kind ms) (first_value features ms)) ≡ outlook (if d then goes else standing features ms)
    by true = refl
    by false = outlook_by features ms

behind_by : (more : Bool) (chain : Chain) (s : Standing) → chain_behind more chain (outlook s) ≡ behind_standing more chain s
behind_by more chain goes = refl
behind_by more chain stays = refl
behind_by more chain (waits e) = refl

pub behind_there : (features : Features) (chain : Chain) (ms : List Mark)
    → chain_behind (kind_opens (kind ms)) (chain_at chain ms) (outlook (standing_in features chain ms)) ≡ behind features chain ms
behind_there features chain ms = by (opens_by ms)
  where
    by : kind_opens (kind ms) ≡ opens ms → chain_behind (kind_opens (kind ms)) (chain_at chain ms) (outlook (standing_in features chain ms)) ≡ behind features chain ms
    by e = ap (λ o. chain_behind o (chain_at chain ms) (outlook (standing_in features chain ms))) e ∙ behind_by (opens ms) (chain_at chain ms) (standing_in features chain ms)

pub fault_by : (features : Features) (first : Bool) (ms : List Mark) → kind_fault (kind ms) first (first_condition_fault features ms) ≡ item_fault features first ms
fault_by features first [] = refl
fault_by features first (if_mark x ∷ []) = refl
fault_by features true (elif_mark x ∷ []) = refl
fault_by features false (elif_mark x ∷ []) = refl
fault_by features true (else_mark ∷ []) = refl
fault_by features false (else_mark ∷ []) = refl
fault_by features first (if_mark x ∷ n ∷ ms) = refl
fault_by features first (elif_mark x ∷ n ∷ ms) = refl
fault_by features first (else_mark ∷ n ∷ ms) = refl

-- what is left of the attributes of an item that waits
pub waits_left : (features : Features) (chain : Chain) (attributes : List Attr) (w : Bool) → outlook (standing_in features chain (marks attributes)) ≡ Waits
    → w ≡ (chain_at chain (marks attributes)).is_waiting → map (reopened w features) attributes ≡ attributes_left features chain attributes
waits_left features chain attributes w is same = by (chain_at chain (marks attributes)).is_decided (standing features (marks attributes)) refl is
  where
    by : (d : Bool) (s : Standing) → standing features (marks attributes) ≡ s → outlook (if d then goes else s) ≡ Waits
        → map (reopened w features) attributes ≡ attributes_with (chain_at chain (marks attributes)).is_waiting (if d then goes else s) attributes
    by true s e h = absurd (cc)
    by false goes e h = absurd (cc)
    by false stays e h = absurd (cc)
    by false (waits x) e h = reopened_waits w features attributes x e ∙ ap (λ b. remarked (if b then else_if x else if_true x) attributes) same
