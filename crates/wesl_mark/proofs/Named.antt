-- The names of references stay names where a reference to a name is put in.
use Rattle.std.proofs.Common.{◌≡◌, refl, ap, ◌∙◌, ◌<◌, ◌&&◌, ◌++◌, ◌∷◌, [], List, Bool, true, false, if◌then◌else◌, length, nat_lt}
use Rattle.std.specs.Prelude.{String}
use Rattle.std.specs.List.{list_all, list_any}
use Rattle.std.specs.declared.alloc.Global.{Global}
use Rattle.std.proofs.lemmas.Bool.Decides.{Decides-ltb}
use Rattle.std.proofs.lemmas.List.Folds.{list_all-append}
use Rattle.indexmap.specs.IndexSet.{insert_key}
use Rattle.wesl_mark.specs.declared.names.Reference.{Reference}
use Rattle.wesl_mark.specs.Marks.{AreNamed}

pub named_unchanged : (names : List (String Global)) (old new : List Reference) → new ≡ old → AreNamed names old → AreNamed names new
named_unchanged names old new e h = ap (list_all (λ r. nat_lt r.name (length names))) e ∙ h

and : (a b : Bool) → a ≡ true → b ≡ true → (a && b) ≡ true
and a b e f = ap (λ c. c && b) e ∙ f

pub named_by_insert : (eq : Reference → Reference → Bool) (names : List (String Global)) (old new : List Reference) (r : Reference) → new ≡ insert_key eq old r → r.name < length names
    → AreNamed names old → AreNamed names new
named_by_insert eq names old new r e below h = by (list_any (eq r) old) e
  where
    by : (b : Bool) → new ≡ (if b then old else old ++ r ∷ []) → AreNamed names new
    by true same = named_unchanged names old new same h
    by false more =
        ap (list_all (λ x. nat_lt x.name (length names))) more ∙ list_all-append (λ x. nat_lt x.name (length names)) old (r ∷ [])
        ∙ and (list_all (λ x. nat_lt x.name (length names)) old) (nat_lt r.name (length names) && true) h (and (nat_lt r.name (length names)) true ((Decides-ltb r.name (length names)).1 below) refl)
