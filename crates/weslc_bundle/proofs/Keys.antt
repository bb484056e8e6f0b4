-- The members of an object, and their keys.
use Rattle.std.proofs.Common.{◌≡◌, refl, ap, ◌∙◌, ℕ, suc, arith, List, [], ◌∷◌, length, Option, Some, None, false, nat_eq, if◌then◌else◌, String, Global, string_bytes}
use Rattle.std.proofs.lemmas.Bool.Decides.{nat_tests}
use Rattle.std.specs.Map.{keys_of}
use Rattle.serde_json.specs.Data.{Members}
use Rattle.serde_json.specs.View.{members_view}
use Rattle.serde_json.specs.declared.value.Value.{Value}
use Rattle.weslc_bundle.specs.Bundles.{has_two, is_key, unknown}

abbrev pub Entry : Type 0
Entry = String Global × Value

many : (n : ℕ) → nat_eq (suc (suc (suc n))) 2 ≡ false
many n = grind (arith, nat_tests)

pub two_members : (es : List Entry) (ms : Option Members) → Some (members_view es) ≡ ms → nat_eq (length es) 2 ≡ has_two ms
two_members es ms is = by_length es ∙ ap has_two is
  where
    by_length : (es : List Entry) → nat_eq (length es) 2 ≡ has_two (Some (members_view es))
    by_length [] = refl
    by_length (a ∷ []) = refl
    by_length (a ∷ b ∷ []) = refl
    by_length (a ∷ b ∷ c ∷ es) = many (length es)

-- the first of these keys that is none
abbrev pub unknown_name : List (String Global) → Option (List ℕ)
unknown_name [] = None
unknown_name (name ∷ names) = if is_key (string_bytes name) then unknown_name names else Some (string_bytes name)

pub unknown_of_keys : (es : List Entry) → unknown (members_view es) ≡ unknown_name (keys_of es)
unknown_of_keys [] = refl
unknown_of_keys (e ∷ es) = ap (λ later. if is_key (string_bytes e.0) then later else Some (string_bytes e.0)) (unknown_of_keys es)
