-- `is_in` is membership.
use Rattle.std.proofs.Common.{◌≡◌, List, true, refl, sym, ap, ◌∙◌}
use Rattle.std.specs.List.{Contains}
use Rattle.std.specs.Str.{bytes_eq}
use Rattle.std.proofs.lemmas.List.Folds.{Any-from_list_any, list_any_at}
use Rattle.std.proofs.lemmas.List.{get_or_default}
use Rattle.std.proofs.lemmas.Slice.Eq.{bytes_eq-Decides}
use Rattle.wgsl_words.specs.Names.{Name, is_in}

pub contains_from_in : (x : Name) (xs : List Name) → is_in x xs ≡ true → Contains xs x
contains_from_in x xs h =
    let any = Any-from_list_any (bytes_eq x) xs h in
    let same = (bytes_eq-Decides x any.1).0 any.4 in
    (any.0, any.2, get_or_default xs any.0 x any.1 any.2 ∙ any.3 ∙ sym same)

pub in_from_contains : (x : Name) (xs : List Name) → Contains xs x → is_in x xs ≡ true
in_from_contains x xs c = list_any_at (bytes_eq x) xs c.0 x c.1 (ap (bytes_eq x) c.2 ∙ (bytes_eq-Decides x x).1 refl)
