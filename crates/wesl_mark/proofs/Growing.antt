-- What marks say once the tables of their numbers grow.
use Rattle.std.proofs.Common.{◌≡◌, refl, sym, ap, ◌∙◌, ℕ, suc, zero, ◌<◌, ◌≤◌, ◌-◌, ◌&&◌, ◌++◌, ◌∷◌, [], List, Bool, true, false, true≢false, arith, append_assoc, length, map, slice_get, nat_lt, Option, Some, None}
use Rattle.std.specs.Prelude.{String, string_bytes, option_map, unwrap_or}
use Rattle.std.specs.List.{list_all, flat_map}
use Rattle.std.specs.declared.alloc.Global.{Global}
use Rattle.std.proofs.lemmas.Bool.Decides.{Decides-ltb}
use Rattle.std.proofs.lemmas.List.{append-nil, map-append}
use Rattle.std.proofs.lemmas.List.Folds.{list_all-append}
use Rattle.std.proofs.lemmas.Option.{slice_get_within, slice_get-get_or}
use Rattle.wesl_mark.specs.declared.names.Reference.{Reference}
use Rattle.wesl_mark.specs.declared.mark.Mark.{Mark}
use Rattle.wesl_mark.specs.declared.mark.Mark.TheVariants.{Enter, Leave, Local, Declared, Member, Occurs}
use Rattle.wesl_mark.specs.declared.mark.MarkList.{MarkList}
use Rattle.wesl_mark.specs.Marks.{Name, name_at, text_at, path_of, name_of, Said, local, declared, member, occurrence, said_by, flat_of, is_within, AreWithin, AreNamed, Keeps}
use Rattle.wesl_mark.specs.Lists.{says, flats, Grows, OnlyGrows}
use Rattle.wesl_mark.proofs.Interned.{named_within, keeps_unchanged}

below : (a b : ℕ) → nat_lt a b ≡ true → a < b
below a b h = (Decides-ltb a b).0 h

is_below : (a b : ℕ) → a < b → nat_lt a b ≡ true
is_below a b h = (Decides-ltb a b).1 h

-- a table that keeps what it has is no shorter
pub keeps_length : {T : Type 0} (old new : List T) → Keeps old new → length old ≤ length new
keeps_length [] new keeps = omega arith
keeps_length (x ∷ xs) new keeps =
    let last : length xs < length (x ∷ xs) = omega arith in
    let there = slice_get_within new (length xs) _ (keeps (length xs) last ∙ slice_get-get_or (x ∷ xs) (length xs) x last) in
    omega (arith, there)

within_more : (a b c : ℕ) → b ≤ c → nat_lt a b ≡ true → nat_lt a c ≡ true
within_more a b c le h = let lt = below a b h in is_below a c (omega (arith, lt, le))

pub name_kept : (old new : List (String Global)) → Keeps old new → (n : ℕ) (x : Name) → name_at old n ≡ Some x → name_at new n ≡ Some x
name_kept old new keeps n x h = ap (option_map string_bytes) (keeps n (named_within old n x h)) ∙ h

pub reference_kept : (old new : List Reference) → Keeps old new → (n : ℕ) (r : Reference) → slice_get old n ≡ Some r → slice_get new n ≡ Some r
reference_kept old new keeps n r h = keeps n (slice_get_within old n r h) ∙ h

text_kept : (old new : List (String Global)) → Keeps old new → (n : ℕ) → nat_lt n (length old) ≡ true → text_at new n ≡ text_at old n
text_kept old new keeps n h = ap (λ s. unwrap_or (option_map string_bytes s) []) (keeps n (below n (length old) h))

both : (a b : Bool) → (a && b) ≡ true → (a ≡ true) × (b ≡ true)
both true b e = (refl, e)
both false b e = absurd (true≢false (sym e))

and : (a b : Bool) → a ≡ true → b ≡ true → (a && b) ≡ true
and a b e f = ap (λ c. c && b) e ∙ f

-- an element of a list passes what all of it pass
at : {A : Type 0} (p : A → Bool) (xs : List A) (n : ℕ) (x : A) → list_all p xs ≡ true → slice_get xs n ≡ Some x → p x ≡ true
at p [] n x all e = absurd (cc)
at p (y ∷ ys) zero x all e = let same : y ≡ x = cc in ap p (sym same) ∙ (both (p y) (list_all p ys) all).0
at p (y ∷ ys) (suc n) x all e = at p ys n x (both (p y) (list_all p ys) all).1 e

-- what passes one test passes another
pub all_weaker : {A : Type 0} (p q : A → Bool) → ((x : A) → p x ≡ true → q x ≡ true) → (xs : List A) → list_all p xs ≡ true → list_all q xs ≡ true
all_weaker p q so [] h = refl
all_weaker p q so (x ∷ xs) h = let parts = both (p x) (list_all p xs) h in and (q x) (list_all q xs) (so x parts.0) (all_weaker p q so xs parts.1)

pub named_kept : (names more : List (String Global)) (references : List Reference) → Keeps names more → AreNamed names references → AreNamed more references
named_kept names more references keeps h =
    all_weaker (λ r. nat_lt r.name (length names)) (λ r. nat_lt r.name (length more)) (λ r. within_more r.name (length names) (length more) (keeps_length names more keeps)) references h

pub reference_within : (xs : List Reference) (n : ℕ) (r : Reference) → slice_get xs n ≡ Some r → nat_lt n (length xs) ≡ true
reference_within xs n r h = is_below n (length xs) (slice_get_within xs n r h)

within_kept_one : (a b c d : ℕ) → a ≤ b → c ≤ d → (m : Mark) → is_within a c m ≡ true → is_within b d m ≡ true
within_kept_one a b c d le more Enter h = refl
within_kept_one a b c d le more Leave h = refl
within_kept_one a b c d le more (Local name symbol) h = within_more name a b le h
within_kept_one a b c d le more (Declared name symbol) h = within_more name a b le h
within_kept_one a b c d le more (Member name) h = within_more name a b le h
within_kept_one a b c d le more (Occurs r symbol arguments is_custom is_templated) h = within_more r c d more h

pub within_kept : (names more : List (String Global)) (references others : List Reference) (marks : List Mark) → Keeps names more → Keeps references others
    → AreWithin names references marks → AreWithin more others marks
within_kept names more references others marks keeps kept h =
    all_weaker (is_within (length names) (length references)) (is_within (length more) (length others))
    (within_kept_one (length names) (length more) (length references) (length others) (keeps_length names more keeps) (keeps_length references others kept)) marks h

pub within_push : (names : List (String Global)) (references : List Reference) (marks : List Mark) (m : Mark)
    → AreWithin names references marks → is_within (length names) (length references) m ≡ true → AreWithin names references (marks ++ m ∷ [])
within_push names references marks m h one =
    list_all-append (is_within (length names) (length references)) marks (m ∷ [])
    ∙ and (list_all (is_within (length names) (length references)) marks) (is_within (length names) (length references) m && true) h
    (and (is_within (length names) (length references) m) true one refl)

-- a mark says the same
said_kept : (names more : List (String Global)) (references others : List Reference) → Keeps names more → Keeps references others → AreNamed names references
    → (m : Mark) → is_within (length names) (length references) m ≡ true → said_by more others m ≡ said_by names references m
said_kept names more references others keeps kept named Enter h = refl
said_kept names more references others keeps kept named Leave h = refl
said_kept names more references others keeps kept named (Local name symbol) h = ap (λ x. local x symbol) (text_kept names more keeps name h)
said_kept names more references others keeps kept named (Declared name symbol) h = ap (λ x. declared x symbol) (text_kept names more keeps name h)
said_kept names more references others keeps kept named (Member name) h = ap member (text_kept names more keeps name h)
said_kept names more references others keeps kept named (Occurs r symbol arguments is_custom is_templated) h =
    ap (λ o. occurrence (path_of o) (name_of more o) symbol arguments is_custom is_templated) (kept r (below r (length references) h))
    ∙ ap (λ x. occurrence (path_of (slice_get references r)) x symbol arguments is_custom is_templated) (same_name (slice_get references r) refl)
  where
    same_name : (o : Option Reference) → slice_get references r ≡ o → name_of more o ≡ name_of names o
    same_name None e = refl
    same_name (Some x) e = text_kept names more keeps x.name (at (λ y. nat_lt y.name (length names)) references r x named e)

pub all_said_kept : (names more : List (String Global)) (references others : List Reference) → Keeps names more → Keeps references others → AreNamed names references
    → (marks : List Mark) → AreWithin names references marks → map (said_by more others) marks ≡ map (said_by names references) marks
all_said_kept names more references others keeps kept named [] h = refl
all_said_kept names more references others keeps kept named (m ∷ ms) h =
    let parts = both (is_within (length names) (length references) m) (list_all (is_within (length names) (length references)) ms) h in
    ap (λ s. s ∷ map (said_by more others) ms) (said_kept names more references others keeps kept named m parts.0)
    ∙ ap (λ ss. said_by names references m ∷ ss) (all_said_kept names more references others keeps kept named ms parts.1)

-- ---- lists of marks

pub refl_keeps : {T : Type 0} (xs : List T) → Keeps xs xs
refl_keeps xs n lt = refl

-- what grew grows on
grows_more : (old new : MarkList) → Keeps old.names.keys new.names.keys → Keeps old.references.keys new.references.keys → (more : List Said) → says new ≡ says old ++ more
    → OnlyGrows old new
grows_more old new keeps kept more e first grown = record {
  names = λ n x h. name_kept old.names.keys new.names.keys keeps n x (grown.names n x h);
  references = λ n r h. reference_kept old.references.keys new.references.keys kept n r (grown.references n r h);
  marks = (grown.marks.0 ++ more, e ∙ ap (λ s. s ++ more) grown.marks.1 ∙ append_assoc (says first) grown.marks.0 more);
}

pub grows_itself : (l : MarkList) → Grows l l
grows_itself l = record { names = λ n x h. h; references = λ n r h. h; marks = ([], sym (append-nil (says l))) }

-- where the tables alone grow, the marks say the same
pub same_says : (old new : MarkList) → Keeps old.names.keys new.names.keys → Keeps old.references.keys new.references.keys → new.marks.items ≡ old.marks.items → says new ≡ says old
unfolding says
same_says old new keeps kept e =
    ap (map (said_by new.names.keys new.references.keys)) e
    ∙ all_said_kept old.names.keys new.names.keys old.references.keys new.references.keys keeps kept old.named old.marks.items old.within

pub same_flats : (old new : MarkList) → Keeps old.names.keys new.names.keys → Keeps old.references.keys new.references.keys → new.marks.items ≡ old.marks.items → flats new ≡ flats old
unfolding flats
same_flats old new keeps kept e = ap (flat_map flat_of) (same_says old new keeps kept e)

pub grows_by_tables : (old new : MarkList) → Keeps old.names.keys new.names.keys → Keeps old.references.keys new.references.keys → new.marks.items ≡ old.marks.items → OnlyGrows old new
grows_by_tables old new keeps kept e = grows_more old new keeps kept [] (same_says old new keeps kept e ∙ sym (append-nil (says old)))

pub grows_by_mark : (old new : MarkList) (m : Mark) → new.names.keys ≡ old.names.keys → new.references.keys ≡ old.references.keys → new.marks.items ≡ old.marks.items ++ m ∷ [] → OnlyGrows old new
unfolding says
grows_by_mark old new m same_names same_references e =
    grows_more old new (keeps_unchanged old.names.keys new.names.keys same_names) (keeps_unchanged old.references.keys new.references.keys same_references)
    (said_by old.names.keys old.references.keys m ∷ [])
    (ap (λ names. map (said_by names new.references.keys) new.marks.items) same_names
    ∙ ap (λ references. map (said_by old.names.keys references) new.marks.items) same_references
    ∙ ap (map (said_by old.names.keys old.references.keys)) e
    ∙ map-append (said_by old.names.keys old.references.keys) old.marks.items (m ∷ []))
