-- What is held after one more place.
use Rattle.std.proofs.Common.{◌≡◌, refl, sym, ap, ◌∙◌, subst, ℕ, zero, suc, ◌<◌, List, [], ◌∷◌, ◌++◌, arith, Bool, true, false, Some, None, get_or, length}
use Rattle.std.specs.Prelude.{if◌then◌else◌, slice_get, string_bytes, nat_eq}
use Rattle.std.specs.Str.{bytes_eq}
use Rattle.std.specs.String.{string_cmp}
use Rattle.std.specs.Ordering.{nat_cmp}
use Rattle.std.specs.Cmp.{unsigned_ties}
use Rattle.std.specs.List.{All, Contains}
use Rattle.std.specs.BTreeMap.{BTreeMap, get, get_by_text, Updates, is_at}
use Rattle.std.specs.declared.string.String.{String}
use Rattle.std.specs.declared.alloc.Global.{Global}
use Rattle.std.proofs.lemmas.Map.Text.{btree_map_updates_text}
use Rattle.std.specs.Option.{IsSome}
use Rattle.std.proofs.lemmas.Bool.{eqb-true}
use Rattle.std.proofs.lemmas.List.Elements.{All-push}
use denote.Ref.{Bor}
use Rattle.core_scopes.specs.declared.denote.Symbol.{Symbol as Found}
use Rattle.core_reach.specs.declared.linking.Linking.{Linking}
use Rattle.core_link_spec.specs.Occurrences.{Name}
use Rattle.core_link_spec.specs.Modules.{Path}
use Rattle.core_rename.specs.Scopes.{texts}
use Rattle.core_reach.specs.Closing.{HeldNames, name_among, held_at, Holds, LeadsTo, IsReached, IsSound}
use Rattle.wgsl_base.proofs.Members.{same_bytes, get_map, to_contains}

pub holds : (old mid new : HeldNames) (places more : BTreeMap ℕ Name) (key : String Global) (m : Path) (place : ℕ) (name : Name)
    → ((k : ℕ) → get nat_cmp places k ≡ held_at old m k)
    → ((n : Path) → get_by_text mid n ≡ (if bytes_eq m n then None else get_by_text old n))
    → Updates nat_cmp places more place (Some name) → string_bytes key ≡ m → Updates string_cmp mid new key (Some more) → Holds old m place name new
holds old mid new places more key m place name taken others added is put = λ n k. at n k (bytes_eq m n) refl
  where
    found : (n : Path) → get_by_text new n ≡ (if bytes_eq m n then Some more else get_by_text mid n)
    found n = btree_map_updates_text (string_bytes key) mid new (Some more) put n ∙ ap (λ t. if bytes_eq t n then Some more else get_by_text mid n) is

    at : (n : Path) (k : ℕ) (b : Bool) → bytes_eq m n ≡ b
        → held_at new n k ≡ (if b then (if nat_eq place k then Some name else held_at old n k) else held_at old n k)
    at n k true e =
        let same : m ≡ n = same_bytes m n e in
        ap (λ o. name_among o k) (found n ∙ ap (λ b. if b then Some more else get_by_text mid n) e)
        ∙ added.0 k
        ∙ ap (λ o. if is_at (nat_cmp place) k then Some name else o) (taken k ∙ ap (λ t. held_at old t k) same)
        ∙ ap (λ b. if b then Some name else held_at old n k) (sym (unsigned_ties place k))
    at n k false e =
        ap (λ o. name_among o k)
        (found n ∙ ap (λ b. if b then Some more else get_by_text mid n) e ∙ others n ∙ ap (λ b. if b then None else get_by_text old n) e)

pub at_default : {A : Type 0} (xs : List A) (i : ℕ) (d : A) → i < length xs → slice_get xs i ≡ Some (get_or xs i d)
at_default [] i d h = absurd (omega arith)
at_default (x ∷ xs) zero d h = refl
at_default (x ∷ xs) (suc i) d h = let less : i < length xs = omega arith in at_default xs i d less

pub text_contained : (xs : List (Bor (List ℕ))) (i : ℕ) (d : Bor (List ℕ)) → i < length xs → Contains (texts xs) (get_or xs i d).now
text_contained xs i d h = to_contains (texts xs) i (get_or xs i d).now (get_map (λ (t : Bor (List ℕ)). t.now) xs i (get_or xs i d) (at_default xs i d h))

pub held_there : {A : Type 0} (P : A → Type 0) (xs ys : List A) (at : ℕ) (x : A) → xs ≡ ys → at < length xs → x ≡ get_or xs at x → All P ys → P x
held_there P xs ys at x e h is all = subst P (sym is) (subst (All P) (sym e) all at x h)

pub sound_more : (l : Linking) (old new : HeldNames) (xs ys : List Found) (s : Found) (name : Name)
    → IsReached l s → IsSound l old xs → Holds old (string_bytes s.«module».now.printed_path) s.place name new → ys ≡ xs ++ s ∷ [] → IsSound l new ys
sound_more l old new xs ys s name reached sound holds e = (
  λ m k some. at m k (bytes_eq (string_bytes s.«module».now.printed_path) m) (nat_eq s.place k) refl refl (subst IsSome (holds m k) some),
  subst (All (IsReached l)) (sym e) (All-push (IsReached l) xs s sound.1 reached),
)
  where
    at : (m : Path) (k : ℕ) (b c : Bool) → bytes_eq (string_bytes s.«module».now.printed_path) m ≡ b → nat_eq s.place k ≡ c
        → IsSome (if b then (if c then Some name else held_at old m k) else held_at old m k) → LeadsTo l m k
    at m k true true is here some =
        subst (λ n. LeadsTo l n k) (same_bytes (string_bytes s.«module».now.printed_path) m is)
        (subst (λ n. LeadsTo l (string_bytes s.«module».now.printed_path) n) (eqb-true s.place k here) reached)
    at m k true false is here some = sound.0 m k some
    at m k false c is here some = sound.0 m k some
