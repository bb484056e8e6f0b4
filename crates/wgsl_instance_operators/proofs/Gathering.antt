-- Components gathered argument by argument.
use Rattle.std.proofs.Common.{◌≡◌, refl, sym, ap, ◌∙◌, List, [], ◌∷◌, ◌++◌, Result, Ok, Err, append_assoc, append-nil}
use Rattle.wgsl_shader_type.specs.declared.error.Error.{Error}
use Rattle.wgsl_shader_type.specs.declared.literal.LiteralInstance.{LiteralInstance}
use Rattle.wgsl_instance.specs.declared.tree.Instance.{Instance}
use Rattle.wgsl_instance.specs.Answer.{then_with, prefixed}
use Rattle.wgsl_instance_operators.specs.Built.{parts_of, all_parts}

-- what is gathered, where these components are done and these arguments are left
abbrev pub IsGathering : List Instance → List LiteralInstance → List Instance → Type 0
IsGathering args done left = all_parts args ≡ prefixed done (all_parts left)

from_none : (r : Result (List LiteralInstance) Error) → r ≡ prefixed [] r
from_none (Ok ys) = refl
from_none (Err e) = refl

pub gathering_begins : (args : List Instance) → IsGathering args [] args
gathering_begins args = from_none (all_parts args)

further : (done parts : List LiteralInstance) (r : Result (List LiteralInstance) Error) → prefixed done (then_with r (λ others. Ok (parts ++ others))) ≡ prefixed (done ++ parts) r
further done parts (Ok others) = ap Ok (sym (append_assoc done parts others))
further done parts (Err e) = refl

pub gathering_goes_on : (args : List Instance) (done : List LiteralInstance) (x : Instance) (left : List Instance) (parts : List LiteralInstance)
    → parts_of x ≡ Ok parts → IsGathering args done (x ∷ left) → IsGathering args (done ++ parts) left
gathering_goes_on args done x left parts e h =
    h ∙ ap (λ r. prefixed done (then_with r (λ parts. then_with (all_parts left) (λ others. Ok (parts ++ others))))) e ∙ further done parts (all_parts left)

pub gathering_fails : (args : List Instance) (done : List LiteralInstance) (x : Instance) (left : List Instance) (e : Error)
    → parts_of x ≡ Err e → IsGathering args done (x ∷ left) → all_parts args ≡ Err e
gathering_fails args done x left e fault h =
    h ∙ ap (λ r. prefixed done (then_with r (λ parts. then_with (all_parts left) (λ others. Ok (parts ++ others))))) fault

pub gathering_ends : (args : List Instance) (done : List LiteralInstance) → IsGathering args done [] → all_parts args ≡ Ok done
gathering_ends args done h = h ∙ ap Ok (append-nil done)
