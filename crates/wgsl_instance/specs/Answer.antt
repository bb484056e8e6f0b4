-- What a call answers: the value or the error that a definition gives, but for want of memory.
use Rattle.std.specs.Prelude.{◌≡◌, ◌⊎◌, List, [], ◌∷◌, ◌++◌, Option, Some, None, Result, Ok, Err, MatchResult}
use Rattle.wgsl_shader_type.specs.declared.error.Error.{Error}
use Rattle.wgsl_shader_type.specs.declared.error.Error.TheVariants.{OutOfMemory}

abbrev pub Answers : {A : Type 0} → Result A Error → Result A Error → Type 0
Answers wanted answer = MatchResult answer (λ value. wanted ≡ Ok value) (λ error. (error ≡ OutOfMemory) ⊎ (wanted ≡ Err error))

-- the value that is there, else this error
abbrev pub or_error : {A : Type 0} → Option A → Error → Result A Error
or_error (Some x) e = Ok x
or_error None e = Err e

-- what follows a value; an error stays
abbrev pub then_with : {A B : Type 0} → Result A Error → (A → Result B Error) → Result B Error
then_with (Ok x) f = f x
then_with (Err e) f = Err e

-- the values of a list's elements, or the first error
abbrev pub collected : {A B : Type 0} → (A → Result B Error) → List A → Result (List B) Error
collected f [] = Ok []
collected f (x ∷ xs) = then_with (f x) (λ y. then_with (collected f xs) (λ ys. Ok (y ∷ ys)))

-- these values before the others
abbrev pub prefixed : {B : Type 0} → List B → Result (List B) Error → Result (List B) Error
prefixed done (Ok ys) = Ok (done ++ ys)
prefixed done (Err e) = Err e

-- what is collected, where these values are done and this is left
abbrev pub IsCollecting : {A B : Type 0} → (A → Result B Error) → List A → List B → List A → Type 0
IsCollecting f xs done left = collected f xs ≡ prefixed done (collected f left)
