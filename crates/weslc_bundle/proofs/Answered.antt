-- Steps that answer what is meant, or that memory was refused.
use Rattle.std.proofs.Common.{◌≡◌, refl, sym, ap, ◌∙◌, ◌⊎◌, inl, inr, Option, Some, None, Ok, Err, List, ℕ, Bool, true, false, if◌then◌else◌}
use Rattle.std.specs.Str.{is_utf8, IsUtf8}
use Rattle.std.proofs.lemmas.Str.{is_utf8-from_IsUtf8, IsUtf8-from_is_utf8}
use Rattle.serde_json.specs.Data.{Data}
use Rattle.serde_json.specs.Read.{read}
use Rattle.weslc_bundle.specs.Bundles.{Asked, ◌>>=◌, required, value_of}
use Rattle.weslc_bundle.specs.declared.request.BundleError.{BundleError}
use Rattle.weslc_bundle.specs.declared.request.BundleError.TheVariants.{OutOfMemory}

-- what an error says: memory was refused, or this is meant
abbrev pub Faults : (A : Type 0) → BundleError → Asked A → Type 0
Faults A e meant = (e ≡ OutOfMemory) ⊎ (meant ≡ Err e)

pub some_required : {A : Type 0} → (fault : BundleError) (o : Option A) (x : A) → required fault o ≡ Ok x → o ≡ Some x
some_required fault None x is = cc
some_required fault (Some y) x is = cc

-- a fault of a part is the fault of the whole
pub faults_whole : {A B : Type 0} → (fault e : BundleError) (o : Option A) (p : Option B) → (o ≡ None → p ≡ None) → Faults A e (required fault o) → Faults B e (required fault p)
faults_whole fault e o p none (inl memory) = inl memory
faults_whole fault e None p none (inr is) = inr (ap (required fault) (none refl) ∙ cc)
faults_whole fault e (Some x) p none (inr is) = absurd (cc)

pub faults_of : {A : Type 0} {e : BundleError} {meant : Asked A} → Err e ≡ meant → Faults A e meant
faults_of is = inr (sym is)

-- a fault of the first step is the fault of both
pub faults_first : {A B : Type 0} → (e : BundleError) (meant : Asked A) (f : A → Asked B) → Faults A e meant → Faults B e (meant >>= f)
faults_first e meant f (inl memory) = inl memory
faults_first e meant f (inr is) = inr (ap (λ m. m >>= f) is)

-- ---- the value of bytes

pub value_read : (bytes : List ℕ) (o : Option Data) → IsUtf8 bytes → read bytes ≡ o → value_of bytes ≡ o
value_read bytes o text is = rw (is_utf8-from_IsUtf8 bytes text) is

pub value_refused : (bytes : List ℕ) → (IsUtf8 bytes → ⊥) → value_of bytes ≡ None
value_refused bytes never = by_test (is_utf8 bytes) refl
  where
    by_test : (b : Bool) → is_utf8 bytes ≡ b → (if b then read bytes else None) ≡ None
    by_test true is = absurd (never (IsUtf8-from_is_utf8 bytes is))
    by_test false is = refl
