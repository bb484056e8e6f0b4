-- Loaded modules have one first clash, or none.
use Rattle.std.proofs.Common.{◌≡◌, ◌⊎◌, inl, inr, List, [], ◌∷◌, ◌++◌, map, refl, sym, ◌∙◌, subst, Contains}
use Rattle.std.proofs.lemmas.List.Elements.{Contains-append_left, Contains-append_right, Contains-append_cases}
use Rattle.core_syntax.specs.Tree.{Decl}
use Rattle.core_syntax.specs.Names.{declared_name}
use Rattle.core_link_spec.specs.Occurrences.{Name, names_before, names_behind, names_in_body, locals}
use Rattle.core_link_spec.specs.Modules.{Path, Symbol, Modules, IsFree, IsDeclaration, Denotes, Reached}
use Rattle.core_link_spec.specs.Names.{IsPrinted}
use Rattle.core_link_spec.specs.Linked.{IsShared, Clashes, shared, hidden, captured}
use Rattle.core_link_spec.specs.Loaded.{AreLoaded, IsClashFree}
use Rattle.core_link_spec.specs.Clashing.{IsFirst, Mention, occurs, declares, mentions, MentionClashes, occurrence, own, DeclarationClashes, ModuleClashes, IsFirstClash}
use Rattle.core_modules_meaning.specs.Agreement.{ClashesAreOne}
use Rattle.wgsl_base.proofs.Members.{first_in, in_cases, from_map}
use Rattle.core_modules_meaning.proofs.Order.{order_once}
use Rattle.core_modules_meaning.proofs.Splits.{Splits, at_one_place, before, behind, splits}
use Rattle.core_modules_meaning.proofs.Symbols.{one_unit, printed_once, free_denotes_none}
use Rattle.core_modules_meaning.proofs.Exists.{denotes_once}

-- ---- the first of a list

-- where each clashes as one name alone, so does the list
first_once : {A : Type 0} (C : A → Name → Type 0) → ((a : A) (y z : Name) → C a y → C a z → y ≡ z) → (xs : List A) (y z : Name) → IsFirst C xs y → IsFirst C xs z → y ≡ z
first_once {A = A} C once xs y z f g = at (splits f.before f.one f.behind g.before g.one g.behind (sym f.whole ∙ g.whole))
  where
    later : (as' bs mid : List A) (a : A) → as' ≡ bs ++ a ∷ mid → Contains as' a
    later as' bs mid a s = subst (λ l. Contains l a) (sym s) (Contains-append_right bs (a ∷ mid) a (first_in a mid))

    at : Splits f.before f.one g.before g.one → y ≡ z
    at (at_one_place s t) = once g.one y z (subst (λ a. C a y) t f.clashes) g.clashes
    at (before mid s) = absurd (g.none_before f.one y (later g.before f.before mid f.one s) f.clashes)
    at (behind mid s) = absurd (f.none_before g.one z (later f.before g.before mid g.one s) g.clashes)

first_stands : {A : Type 0} (C : A → Name → Type 0) (xs : List A) (y : Name) → (f : IsFirst C xs y) → Contains xs f.one
first_stands C xs y f = subst (λ l. Contains l f.one) (sym f.whole) (Contains-append_right f.before (f.one ∷ f.behind) f.one (first_in f.one f.behind))

module _ (modules : Modules) (root : Path) (keep : List Name) where
  clash_of : (m : Path) (hiding : List Name) (x y : Name) → MentionClashes modules root keep m (occurs hiding x) y → Clashes modules root keep m hiding x y
  clash_of m hiding x y (occurrence c) = c

  own_printed : (m : Path) (x y : Name) → MentionClashes modules root keep m (declares x) y → IsPrinted modules root (record { home = m; name = x }) y
  own_printed m x y (own p h) = p

  own_shared : (m : Path) (x y : Name) → MentionClashes modules root keep m (declares x) y → IsShared modules root keep y
  own_shared m x y (own p h) = h

  -- ---- one first clash

  -- what a name is in the linked unit: the printed name of what it denotes, or itself where it is free
  data Reads (m : Path) (x y : Name) : Type 0 where
    as_symbol : (s : Symbol) → Denotes modules m x s → IsPrinted modules root s y → Reads m x y
    as_itself : IsFree modules m x → y ≡ x → Reads m x y

  reads : (m : Path) (hiding : List Name) (x y : Name) → Clashes modules root keep m hiding x y → Reads m x y
  reads m hiding x y (shared {s = s} d p h) = as_symbol s d p
  reads m hiding x y (hidden {s = s} d p h) = as_symbol s d p
  reads m hiding x _ (captured f t) = as_itself f refl

  module _ (loaded : AreLoaded modules root keep) where
    reads_once : (m : Path) (x y z : Name) → Reads m x y → Reads m x z → y ≡ z
    reads_once m x y z (as_symbol s d p) (as_symbol t e q) =
        let same : t ≡ s = denotes_once modules root keep loaded m x t s e d in
        printed_once modules root keep loaded s y z p (subst (λ w. IsPrinted modules root w z) same q)
    reads_once m x y z (as_symbol s d p) (as_itself f e) = absurd (free_denotes_none modules root keep loaded m x s f d)
    reads_once m x y z (as_itself f e) (as_symbol s d p) = absurd (free_denotes_none modules root keep loaded m x s f d)
    reads_once m x y z (as_itself f e) (as_itself g h) = e ∙ sym h

    mention_once : (m : Path) (w : Mention) (y z : Name) → MentionClashes modules root keep m w y → MentionClashes modules root keep m w z → y ≡ z
    mention_once m _ y z (occurrence {locals = hiding} {x = x} c) d = reads_once m x y z (reads m hiding x y c) (reads m hiding x z (clash_of m hiding x z d))
    mention_once m _ y z (own {x = x} p h) d = printed_once modules root keep loaded (record { home = m; name = x }) y z p (own_printed m x z d)

    declaration_once : (m : Path) (d : Decl) (y z : Name) → DeclarationClashes modules root keep m d y → DeclarationClashes modules root keep m d z → y ≡ z
    declaration_once m d y z f g = first_once (MentionClashes modules root keep m) (mention_once m) (mentions d) y z f.first g.first

    module_once : (m : Path) (y z : Name) → ModuleClashes modules root keep m y → ModuleClashes modules root keep m z → y ≡ z
    module_once m y z f g =
        let same : f.unit ≡ g.unit = one_unit modules root keep loaded m f.unit g.unit f.is_module g.is_module in
        first_once (DeclarationClashes modules root keep m) (declaration_once m) g.unit.declarations y z
        (subst (λ u. IsFirst (DeclarationClashes modules root keep m) u.declarations y) same f.first) g.first

    first_clash_once : (y z : Name) → IsFirstClash modules root keep y → IsFirstClash modules root keep z → y ≡ z
    first_clash_once y z f g =
        let same : f.order ≡ g.order = order_once modules root f.order g.order f.in_order g.in_order in
        first_once (ModuleClashes modules root keep) module_once g.order y z (subst (λ ps. IsFirst (ModuleClashes modules root keep) ps y) same f.first) g.first

  -- ---- or none

  module _ (free : IsClashFree modules root keep) where
    mention_never : (s : Symbol) (d : Decl) (w : Mention) (y : Name) → Reached modules root keep s → IsDeclaration modules s d → Contains (mentions d) w → MentionClashes modules root keep s.home w y → ⊥
    mention_never s d w y r i c clash =
        at (Contains-append_cases (map (occurs []) (names_before d)) (declares (declared_name d) ∷ (map (occurs []) (names_behind d) ++ map (occurs (locals d)) (names_in_body d))) w c)
      where
        outside : (xs : List Name) → ((x : Name) → Contains xs x → Contains (names_before d ++ names_behind d) x) → Contains (map (occurs []) xs) w → ⊥
        outside xs there h =
            let x = from_map (occurs []) xs w h in
            free.outside s d x.0 y r i (there x.0 x.1) (clash_of s.home [] x.0 y (subst (λ z. MentionClashes modules root keep s.home z y) (sym x.2) clash))

        inside : Contains (map (occurs (locals d)) (names_in_body d)) w → ⊥
        inside h =
            let x = from_map (occurs (locals d)) (names_in_body d) w h in
            free.inside s d x.0 y r i x.1 (clash_of s.home (locals d) x.0 y (subst (λ z. MentionClashes modules root keep s.home z y) (sym x.2) clash))

        behind_own : Contains (map (occurs []) (names_behind d)) w ⊎ Contains (map (occurs (locals d)) (names_in_body d)) w → ⊥
        behind_own (inl h) = outside (names_behind d) (λ x e. Contains-append_right (names_before d) (names_behind d) x e) h
        behind_own (inr h) = inside h

        from_own : (declares (declared_name d) ≡ w) ⊎ Contains (map (occurs []) (names_behind d) ++ map (occurs (locals d)) (names_in_body d)) w → ⊥
        from_own (inl e) = free.unshared y (own_shared s.home (declared_name d) y (subst (λ z. MentionClashes modules root keep s.home z y) (sym e) clash))
        from_own (inr h) = behind_own (Contains-append_cases (map (occurs []) (names_behind d)) (map (occurs (locals d)) (names_in_body d)) w h)

        at : Contains (map (occurs []) (names_before d)) w
            ⊎ Contains (declares (declared_name d) ∷ (map (occurs []) (names_behind d) ++ map (occurs (locals d)) (names_in_body d))) w → ⊥
        at (inl h) = outside (names_before d) (λ x e. Contains-append_left (names_before d) (names_behind d) x e) h
        at (inr h) = from_own (in_cases (declares (declared_name d)) (map (occurs []) (names_behind d) ++ map (occurs (locals d)) (names_in_body d)) w h)

    never_first : (y : Name) → IsFirstClash modules root keep y → ⊥
    never_first y f =
        let m = f.first.one in
        let there = f.first.clashes in
        let d = there.first.one in
        let held = there.first.clashes in
        let s : Symbol = record { home = m; name = declared_name d } in
        let is : IsDeclaration modules s d =
        record { unit = there.unit; is_module = there.is_module; stands = first_stands (DeclarationClashes modules root keep m) there.unit.declarations y there.first; name = refl } in
        mention_never s d held.first.one y held.reached is (first_stands (MentionClashes modules root keep m) (mentions d) y held.first) held.first.clashes

pub clashes_are_one : ClashesAreOne
clashes_are_one = record {
  once = λ modules root keep y z loaded. first_clash_once modules root keep loaded y z;
  never = λ modules root keep y loaded free. never_first modules root keep free y;
}
