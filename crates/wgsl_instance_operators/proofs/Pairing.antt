-- Pairs of components, one after the other.
use Rattle.std.proofs.Common.{◌≡◌, refl, sym, ap, ◌∙◌, List, [], ◌∷◌, ◌++◌, Result, Ok, Err, append_assoc, append-nil, length}
use Rattle.std.proofs.lemmas.List.{nil_from_length}
use Rattle.wgsl_words.specs.declared.operators.BinaryOperator.{BinaryOperator}
use Rattle.wgsl_words.specs.declared.enumerations.words.ShaderStage.{ShaderStage}
use Rattle.wgsl_shader_type.specs.declared.error.Error.{Error}
use Rattle.wgsl_shader_type.specs.declared.literal.LiteralInstance.{LiteralInstance}
use Rattle.wgsl_scalar.specs.Operators as on_scalars
use Rattle.wgsl_instance.specs.Answer.{then_with}
use Rattle.wgsl_instance_operators.specs.Operators.{of_pairs}

abbrev pub prefixed : {B : Type 0} → List B → Result (List B) Error → Result (List B) Error
prefixed done (Ok ys) = Ok (done ++ ys)
prefixed done (Err e) = Err e

-- what is collected of pairs, where these values are done and these lists are left
abbrev pub IsPairing : ShaderStage → BinaryOperator → List LiteralInstance → List LiteralInstance → List LiteralInstance → List LiteralInstance → List LiteralInstance → Type 0
IsPairing s o xs ys done left right = of_pairs s o xs ys ≡ prefixed done (of_pairs s o left right)

from_none : (r : Result (List LiteralInstance) Error) → r ≡ prefixed [] r
from_none (Ok ys) = refl
from_none (Err e) = refl

pub pairing_begins : (s : ShaderStage) (o : BinaryOperator) (xs ys : List LiteralInstance) → IsPairing s o xs ys [] xs ys
pairing_begins s o xs ys = from_none (of_pairs s o xs ys)

further : (done : List LiteralInstance) (y : LiteralInstance) (r : Result (List LiteralInstance) Error) → prefixed done (then_with r (λ ys. Ok (y ∷ ys))) ≡ prefixed (done ++ y ∷ []) r
further done y (Ok ys) = ap Ok (sym (append_assoc done (y ∷ []) ys))
further done y (Err e) = refl

pub pairing_goes_on : (s : ShaderStage) (o : BinaryOperator) (xs ys done : List LiteralInstance) (x y z : LiteralInstance) (left right : List LiteralInstance)
    → on_scalars.binary_value s o x y ≡ Ok z → IsPairing s o xs ys done (x ∷ left) (y ∷ right) → IsPairing s o xs ys (done ++ z ∷ []) left right
pairing_goes_on s o xs ys done x y z left right e h =
    h ∙ ap (λ r. prefixed done (then_with r (λ z. then_with (of_pairs s o left right) (λ zs. Ok (z ∷ zs))))) e ∙ further done z (of_pairs s o left right)

pub pairing_fails : (s : ShaderStage) (o : BinaryOperator) (xs ys done : List LiteralInstance) (x y : LiteralInstance) (left right : List LiteralInstance) (e : Error)
    → on_scalars.binary_value s o x y ≡ Err e → IsPairing s o xs ys done (x ∷ left) (y ∷ right) → of_pairs s o xs ys ≡ Err e
pairing_fails s o xs ys done x y left right e fault h =
    h ∙ ap (λ r. prefixed done (then_with r (λ z. then_with (of_pairs s o left right) (λ zs. Ok (z ∷ zs))))) fault

no_right : (s : ShaderStage) (o : BinaryOperator) (left : List LiteralInstance) → of_pairs s o left [] ≡ Ok []
no_right s o [] = refl
no_right s o (x ∷ left) = refl

pub pairing_runs_out : (s : ShaderStage) (o : BinaryOperator) (xs ys done left right : List LiteralInstance) → length right ≡ 0 → IsPairing s o xs ys done left right → of_pairs s o xs ys ≡ Ok done
pairing_runs_out s o xs ys done left right e h =
    h ∙ ap (λ r. prefixed done (of_pairs s o left r)) (nil_from_length right e) ∙ ap (prefixed done) (no_right s o left) ∙ ap Ok (append-nil done)
