-- The names that several held symbols have, one more at a time.
use Rattle.std.proofs.Common.{◌≡◌, refl, sym, ap, ◌∙◌, subst, ℕ, ◌+◌, ◌<◌, List, [], ◌∷◌, ◌++◌, take, get_or, length, Bool, true, false, ◌||◌, ◌&&◌, cond, Some, None}
use Rattle.std.specs.Prelude.{if◌then◌else◌, is_some}
use Rattle.std.specs.Str.{bytes_eq}
use Rattle.std.specs.Cmp.Lexicographic.{nat_list_eq_equiv}
use Rattle.std.specs.HashMap.{HashMap, UpdatesBy}
use Rattle.std.proofs.lemmas.Map.Text.{hash_map_updates_str}
use Rattle.std.proofs.lemmas.List.{take_more, map-append}
use Rattle.std.proofs.lemmas.List.Folds.{list_any-append}
use denote.Ref.{Bor}
use Rattle.core_link_spec.specs.Occurrences.{Name, is_among}
use Rattle.core_rename.specs.Scopes.{texts}
use Rattle.core_link.specs.Clashing.{is_twice, sharing_in, sharing_at}
use Rattle.core_scopes.proofs.ScopeLemmas.{same_name, self_name}

turned : (y n a t : Bool) → ((y && (a || (n || false))) || ((n && a) || t)) ≡ ((n && (y || a)) || ((y && a) || t))
turned false n a t = refl
turned true true true t = refl
turned true true false t = refl
turned true false true t = refl
turned true false false t = refl

among_push : (x : Name) (ns : List Name) (n : Name) → is_among x (ns ++ n ∷ []) ≡ (is_among x ns || (bytes_eq x n || false))
among_push x ns n = list_any-append (λ z. bytes_eq x z) ns (n ∷ [])

twice_push : (x : Name) (ns : List Name) (n : Name) → is_twice x (ns ++ n ∷ []) ≡ ((bytes_eq x n && is_among x ns) || is_twice x ns)
twice_push x [] n = refl
twice_push x (y ∷ ns) n =
    (λ k. (bytes_eq x y && among_push x ns n k) || twice_push x ns n k)
    ∙ turned (bytes_eq x y) (bytes_eq x n) (is_among x ns) (is_twice x ns)

kept : (y a t : Bool) → (a || t) ≡ a → ((y || a) || ((y && a) || t)) ≡ (y || a)
kept true a t e = refl
kept false a t e = e

-- what stands twice stands
pub twice_among : (x : Name) (ns : List Name) → (is_among x ns || is_twice x ns) ≡ is_among x ns
twice_among x [] = refl
twice_among x (y ∷ ns) = kept (bytes_eq x y) (is_among x ns) (is_twice x ns) (twice_among x ns)

pub known_if : (a t : Bool) → a ≡ is_some (if a then Some t else None)
known_if true t = refl
known_if false t = refl

or_true : (a : Bool) → (a || true) ≡ true
or_true true = refl
or_true false = refl

or_none : (a : Bool) → (a || false) ≡ a
or_none true = refl
or_none false = refl

one_more : (x n : Name) (ns : List Name) → sharing_in (ns ++ n ∷ []) x ≡ cond (bytes_eq n x) (Some (is_some (sharing_in ns n))) (sharing_in ns x)
one_more x n ns = at (bytes_eq n x) refl
  where
    among : is_among n (ns ++ n ∷ []) ≡ true
    among = among_push n ns n ∙ ap (λ b. is_among n ns || (b || false)) (self_name n) ∙ or_true (is_among n ns)

    twice : is_twice n (ns ++ n ∷ []) ≡ is_some (sharing_in ns n)
    twice = twice_push n ns n ∙ ap (λ b. (b && is_among n ns) || is_twice n ns) (self_name n) ∙ twice_among n ns ∙ known_if (is_among n ns) (is_twice n ns)

    here : sharing_in (ns ++ n ∷ []) n ≡ Some (is_some (sharing_in ns n))
    here = λ k. if among k then Some (twice k) else None

    at : (b : Bool) → bytes_eq n x ≡ b → sharing_in (ns ++ n ∷ []) x ≡ cond b (Some (is_some (sharing_in ns n))) (sharing_in ns x)
    at true e = subst (λ t. sharing_in (ns ++ n ∷ []) t ≡ Some (is_some (sharing_in ns n))) (same_name n x e) here
    at false e =
        let other : bytes_eq x n ≡ false = nat_list_eq_equiv.symm x n ∙ e in
        let among_as : is_among x (ns ++ n ∷ []) ≡ is_among x ns = among_push x ns n ∙ ap (λ b. is_among x ns || (b || false)) other ∙ or_none (is_among x ns) in
        let twice_as : is_twice x (ns ++ n ∷ []) ≡ is_twice x ns = twice_push x ns n ∙ ap (λ b. (b && is_among x ns) || is_twice x ns) other in
        λ k. if among_as k then Some (twice_as k) else None

pub shared_step : {S : Type 0} (old new : HashMap (Bor (List ℕ)) Bool S) (names : List (Bor (List ℕ))) (i : ℕ) (d : Bor (List ℕ)) (b : Bool) → sharing_at old ≡ sharing_in (texts (take i names))
    → i < length names → b ≡ is_some (sharing_at old (get_or names i d).now)
    → UpdatesBy (λ x y. bytes_eq x.now y.now) (λ k. bytes_eq (get_or names i d).now k.now) old new (Some b)
    → sharing_at new ≡ sharing_in (texts (take (i + 1) names))
shared_step old new names i d b before less there updates = λ k x. all x k
  where
    key : Name
    key = (get_or names i d).now

    texts_more : texts (take i names) ++ key ∷ [] ≡ texts (take (i + 1) names)
    texts_more = sym (map-append (λ (t : Bor (List ℕ)). t.now) (take i names) (get_or names i d ∷ [])) ∙ ap texts (sym (take_more names i d less))

    all : (x : Name) → sharing_at new x ≡ sharing_in (texts (take (i + 1) names)) x
    all x =
        hash_map_updates_str key old new (Some b) updates x
        ∙ (λ k. cond (bytes_eq key x) (Some (there k)) (before k x))
        ∙ (λ k. cond (bytes_eq key x) (Some (is_some (before k key))) (sharing_in (texts (take i names)) x))
        ∙ sym (one_more x key (texts (take i names)))
        ∙ ap (λ l. sharing_in l x) texts_more
