-- A struct's members, one after the other.
use Rattle.std.proofs.Common.{◌≡◌, refl, sym, ap, ◌∙◌, List, [], ◌∷◌, ◌++◌, Result, Ok, Err, append_assoc, append-nil, length}
use Rattle.std.proofs.lemmas.List.{nil_from_length}
use Rattle.wgsl_shader_type.specs.declared.error.Error.{Error}
use Rattle.wgsl_shader_type.specs.declared.tree.ShaderType.{ShaderType}
use Rattle.wgsl_shader_type.specs.declared.tree.StructMemberTypeOf.{StructMemberTypeOf}
use Rattle.wgsl_instance.specs.declared.tree.Instance.{Instance}
use Rattle.wgsl_instance.specs.Answer.{then_with, prefixed}
use Rattle.wgsl_instance.specs.Converted.{converted}
use Rattle.wgsl_instance_operators.specs.Built.{converted_members}

abbrev Members : Type 0
Members = List (StructMemberTypeOf ShaderType)

-- what the members become, where these values are done and these lists are left
abbrev pub IsFilling : Members → List Instance → List Instance → Members → List Instance → Type 0
IsFilling ms xs done left rest = converted_members ms xs ≡ prefixed done (converted_members left rest)

from_none : (r : Result (List Instance) Error) → r ≡ prefixed [] r
from_none (Ok ys) = refl
from_none (Err e) = refl

pub filling_begins : (ms : Members) (xs : List Instance) → IsFilling ms xs [] ms xs
filling_begins ms xs = from_none (converted_members ms xs)

further : (done : List Instance) (y : Instance) (r : Result (List Instance) Error) → prefixed done (then_with r (λ ys. Ok (y ∷ ys))) ≡ prefixed (done ++ y ∷ []) r
further done y (Ok ys) = ap Ok (sym (append_assoc done (y ∷ []) ys))
further done y (Err e) = refl

pub filling_goes_on : (ms : Members) (xs done : List Instance) (m : StructMemberTypeOf ShaderType) (x y : Instance) (left : Members) (rest : List Instance)
    → converted x m.ty ≡ Ok y → IsFilling ms xs done (m ∷ left) (x ∷ rest) → IsFilling ms xs (done ++ y ∷ []) left rest
filling_goes_on ms xs done m x y left rest e h =
    h ∙ ap (λ r. prefixed done (then_with r (λ y. then_with (converted_members left rest) (λ ys. Ok (y ∷ ys))))) e ∙ further done y (converted_members left rest)

pub filling_fails : (ms : Members) (xs done : List Instance) (m : StructMemberTypeOf ShaderType) (x : Instance) (left : Members) (rest : List Instance) (e : Error)
    → converted x m.ty ≡ Err e → IsFilling ms xs done (m ∷ left) (x ∷ rest) → converted_members ms xs ≡ Err e
filling_fails ms xs done m x left rest e fault h =
    h ∙ ap (λ r. prefixed done (then_with r (λ y. then_with (converted_members left rest) (λ ys. Ok (y ∷ ys))))) fault

no_rest : (left : Members) → converted_members left [] ≡ Ok []
no_rest [] = refl
no_rest (m ∷ left) = refl

pub filling_runs_out : (ms : Members) (xs done : List Instance) (left : Members) (rest : List Instance) → length rest ≡ 0 → IsFilling ms xs done left rest → converted_members ms xs ≡ Ok done
filling_runs_out ms xs done left rest e h =
    h ∙ ap (λ r. prefixed done (converted_members left r)) (nil_from_length rest e) ∙ ap (prefixed done) (no_rest left) ∙ ap Ok (append-nil done)

pub filling_ends : (ms : Members) (xs done rest : List Instance) → IsFilling ms xs done [] rest → converted_members ms xs ≡ Ok done
filling_ends ms xs done rest h = h ∙ ap Ok (append-nil done)
