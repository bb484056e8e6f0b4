-- The premises of the laws are met by two modules.
use Rattle.std.proofs.Common.{◌≡◌, ◌⊎◌, inl, inr, List, [], ◌∷◌, ◌++◌, Option, Some, Bool, true, false, refl, sym, ap, ◌∙◌, subst, Contains, codes}
use Rattle.std.specs.Prelude.{if◌then◌else◌}
use Rattle.std.specs.Str.{bytes_eq}
use Rattle.std.proofs.lemmas.List.Elements.{Contains-append_left, Contains-append_right}
use Rattle.wgsl_path.specs.declared.path.ModulePath.{ModulePath}
use Rattle.wgsl_path.specs.Paths.{path_text}
use Rattle.core_syntax.specs.Tree.{Decl, Imp, UnitTree}
use Rattle.wgsl_shader_type.specs.declared.literal.LiteralInstance.TheVariants as V
use Rattle.wgsl_shader_type.specs.declared.tree.ShaderType.TheVariants as type
use Rattle.wgsl_scalar.specs.declared.scalar.IntegerType.TheVariants.{U32}
use Rattle.wgsl_instance.specs.declared.tree.Instance.TheVariants as v
use Rattle.core_computations.specs.Machine.{pure, bind}
use Rattle.core_computations.specs.Loops.{Returned}
use Rattle.core_programs.specs.Computing.{used}
use Rattle.core_programs.specs.Names.{Name}
use Rattle.core_programs.specs.Names.{Symbol as ProgramSymbol}
use Rattle.core_programs.specs.Calls.{handed_back, ended}
use Rattle.core_programs.specs.Programs.{Known, world, Mentions, Reaches, mention, onward, IsOrderOf}
use Rattle.core_programs.specs.Runs.{Handed, started, entered, allowed}
use Rattle.core_programs.proofs.Scalars.{used_literal}
use Rattle.core_programs.proofs.Converting.{own as own_type}
use Rattle.core_order.specs.Order.{none_left, starts}
use Rattle.core_order.specs.Order.{nothing_left as nothing_left_over, leaves}
use Rattle.core_link_spec.specs.Occurrences.{occurrences, locals, names_before, names_behind, names_in_body}
use Rattle.core_link_spec.specs.Modules.{Path, Symbol, IsModule, Declares, Imports, local_name, IsFree, IsDeclaration, Denotes, own, imported, Reached, kept, onto}
use Rattle.core_link_spec.specs.Names.{IsPrinted, stays, is_mangled}
use Rattle.core_link_spec.specs.Rounds.{AreDistinct, no_names, another, one_path, scope_names}
use Rattle.core_link_spec.specs.Linked.{IsNaming, nothing_left, takes, IsInOrder, IsLinkedModule, no_module, a_module, IsLinked, IsShared, IsTaken, Clashes, shared, hidden, captured}
use Rattle.core_link_spec.specs.Loaded.{AreLoaded, IsClashFree}
use Rattle.core_modules_meaning.specs.SourcePrograms.{of_none, of_more}
use Rattle.core_modules_meaning.specs.Example.{const_of_two, entry_of, root_path, other_path, import_of_two, root_unit, other_unit, two_modules, linked_unit, entry, the_two, the_program, PremisesAreMet}
use Rattle.wgsl_base.proofs.Members.{first_in, later_in, in_cases, in_none, same_bytes, bytes_same}
use Rattle.core_modules_meaning.proofs.Symbols.{printed_once}
use Rattle.core_modules_meaning.specs.SourcePrograms.{sources}
use Rattle.core_modules_meaning.proofs.Exists.{sources_are}
use Rattle.core_modules_meaning.proofs.Existing.{program_is}

differ : (x y : Name) → bytes_eq x y ≡ false → x ≡ y → ⊥
differ x y f e = let t : bytes_eq x y ≡ true = ap (bytes_eq x) (sym e) ∙ bytes_same x in let c : true ≡ false = sym t ∙ f in absurd (cc)

only_one : {A : Type 0} (y x : A) → Contains (y ∷ []) x → y ≡ x
only_one y x c = at (in_cases y [] x c)
  where
    at : (y ≡ x) ⊎ Contains [] x → y ≡ x
    at (inl e) = e
    at (inr d) = absurd (in_none x d)

abbrev the_root : Path
the_root = codes "package"

abbrev the_other : Path
the_other = codes "package::m"

abbrev keeps : List Name
keeps = codes "g" ∷ []

abbrev sg : Symbol
sg = record { home = the_root; name = codes "g" }

abbrev st : Symbol
st = record { home = the_other; name = codes "two" }

module_cases : (a : ModulePath × UnitTree) → Contains two_modules a → ((root_path, root_unit) ≡ a) ⊎ ((other_path, other_unit) ≡ a)
module_cases a c = at (in_cases (root_path, root_unit) ((other_path, other_unit) ∷ []) a c)
  where
    at : ((root_path, root_unit) ≡ a) ⊎ Contains ((other_path, other_unit) ∷ []) a → ((root_path, root_unit) ≡ a) ⊎ ((other_path, other_unit) ≡ a)
    at (inl e) = inl e
    at (inr d) = inr (only_one (other_path, other_unit) a d)

abbrev text_of : ModulePath × UnitTree → Path
text_of a = path_text a.0

abbrev unit_of_pair : ModulePath × UnitTree → UnitTree
unit_of_pair a = a.1

root_unit_is : (u : UnitTree) → IsModule two_modules the_root u → root_unit ≡ u
root_unit_is u i = at (i.path, u) (module_cases (i.path, u) i.stands) i.printed
  where
    at : (a : ModulePath × UnitTree) → ((root_path, root_unit) ≡ a) ⊎ ((other_path, other_unit) ≡ a) → path_text a.0 ≡ the_root → root_unit ≡ a.1
    at a (inl e) p = ap unit_of_pair e
    at a (inr e) p = absurd (differ the_other the_root refl (ap text_of e ∙ p))

other_unit_is : (u : UnitTree) → IsModule two_modules the_other u → other_unit ≡ u
other_unit_is u i = at (i.path, u) (module_cases (i.path, u) i.stands) i.printed
  where
    at : (a : ModulePath × UnitTree) → ((root_path, root_unit) ≡ a) ⊎ ((other_path, other_unit) ≡ a) → path_text a.0 ≡ the_other → other_unit ≡ a.1
    at a (inl e) p = absurd (differ the_root the_other refl (ap text_of e ∙ p))
    at a (inr e) p = ap unit_of_pair e

other_stands : Contains two_modules (other_path, other_unit)
other_stands = later_in (other_path, other_unit) (root_path, root_unit) ((other_path, other_unit) ∷ []) (first_in (other_path, other_unit) [])

root_module : IsModule two_modules the_root root_unit
root_module = record { path = root_path; stands = first_in (root_path, root_unit) ((other_path, other_unit) ∷ []); printed = refl }

other_module : IsModule two_modules the_other other_unit
other_module = record { path = other_path; stands = other_stands; printed = refl }

-- ---- what names denote

data InRoot (x : Name) (s : Symbol) : Type 0 where
  the_entry : codes "g" ≡ x → s ≡ sg → InRoot x s
  the_const : codes "two" ≡ x → s ≡ st → InRoot x s

abbrev path_of : Imp → Option ModulePath
path_of i = i.path

in_root : (x : Name) (s : Symbol) → Denotes two_modules the_root x s → InRoot x s
in_root x _ (own {u = u} i d) =
    let e : codes "g" ≡ x = only_one (codes "g") x (subst (λ v. Declares v x) (sym (root_unit_is u i)) d) in
    the_entry e (ap (λ z. record { home = the_root; name = z }) (sym e))
in_root x s (imported {u = u} ii j d) =
    let i = ii.is_import in
    let which : import_of_two ≡ ii.import = only_one import_of_two ii.import (subst (λ v. Contains v.imports ii.import) (sym (root_unit_is i.unit i.is_module)) i.stands) in
    let somes : Some other_path ≡ Some ii.path = ap path_of which ∙ ii.is_path in
    let paths : other_path ≡ ii.path = some_same somes in
    the_const (ap local_name which ∙ i.local)
    (ap (λ z. record { home = z; name = s.name }) (sym (ap path_text paths ∙ ii.home)) ∙ ap (λ z. record { home = the_other; name = z }) (sym (ap (λ (z : Imp). z.item) which ∙ ii.item)))
  where
    some_same : {A : Type 0} {a b : A} → Some a ≡ Some b → a ≡ b
    some_same e = cc

record InOther (x : Name) (s : Symbol) : Type 0 where
  name : codes "two" ≡ x
  symbol : s ≡ st

in_other : (x : Name) (s : Symbol) → Denotes two_modules the_other x s → InOther x s
in_other x _ (own {u = u} i d) =
    let e : codes "two" ≡ x = only_one (codes "two") x (subst (λ v. Declares v x) (sym (other_unit_is u i)) d) in
    record { name = e; symbol = ap (λ z. record { home = the_other; name = z }) (sym e) }
in_other x s (imported {u = u} ii j d) =
    let i = ii.is_import in
    absurd (in_none ii.import (subst (λ v. Contains v.imports ii.import) (sym (other_unit_is i.unit i.is_module)) i.stands))

-- ---- what is reached

entry_declared : (s : Symbol) (d : Decl) → s ≡ sg → IsDeclaration two_modules s d → entry_of (codes "two") ≡ d
entry_declared s d e i = only_one (entry_of (codes "two")) d (subst (λ v. Contains v.declarations d) (sym (root_unit_is i.unit (subst (λ z. IsModule two_modules z.home i.unit) e i.is_module))) i.stands)

const_declared : (s : Symbol) (d : Decl) → s ≡ st → IsDeclaration two_modules s d → const_of_two (codes "two") ≡ d
const_declared s d e i = only_one (const_of_two (codes "two")) d (subst (λ v. Contains v.declarations d) (sym (other_unit_is i.unit (subst (λ z. IsModule two_modules z.home i.unit) e i.is_module))) i.stands)

data Held (s : Symbol) : Type 0 where
  is_entry : s ≡ sg → Held s
  is_const : s ≡ st → Held s

reached_held : (s : Symbol) → Reached two_modules the_root keeps s → Held s
reached_held _ (kept {x = x} c) = is_entry (ap (λ z. record { home = the_root; name = z }) (sym (only_one (codes "g") x c)))
reached_held t (onto {s = s} {d = d} {x = x} r i o den) = from (reached_held s r)
  where
    root_case : s ≡ sg → InRoot x t → Held t
    root_case e (the_entry n f) = is_entry f
    root_case e (the_const n f) = is_const f

    from : Held s → Held t
    from (is_entry e) = root_case e (in_root x t (subst (λ z. Denotes two_modules z.home x t) e den))
    from (is_const e) = is_const (in_other x t (subst (λ z. Denotes two_modules z.home x t) e den)).symbol

entry_reached : Reached two_modules the_root keeps sg
entry_reached = kept (first_in (codes "g") [])

two_denoted : Denotes two_modules the_root (codes "two") st
two_denoted = imported {u = other_unit} (record {
  import = import_of_two;
  is_import = record { unit = root_unit; is_module = root_module; undeclared = λ c. differ (codes "g") (codes "two") refl (only_one (codes "g") (codes "two") c); stands = first_in import_of_two []; local = refl };
  path = other_path;
  is_path = refl;
  home = refl;
  item = refl;
}) other_module (first_in (codes "two") [])

entry_declares : IsDeclaration two_modules sg (entry_of (codes "two"))
entry_declares = record { unit = root_unit; is_module = root_module; stands = first_in (entry_of (codes "two")) []; name = refl }

const_reached : Reached two_modules the_root keeps st
const_reached = onto {x = codes "two"} entry_reached entry_declares (later_in (codes "two") (codes "u32") (codes "two" ∷ []) (first_in (codes "two") [])) two_denoted

-- ---- loaded

root_free : (x : Name) → bytes_eq (codes "g") x ≡ false → bytes_eq (codes "two") x ≡ false → IsFree two_modules the_root x
root_free x a b = record {
  unit = root_unit;
  is_module = root_module;
  undeclared = λ c. differ (codes "g") x a (only_one (codes "g") x c);
  unimported = λ c. differ (codes "two") x b (only_one (codes "two") x c);
}

names_of_entry : (x : Name) → Contains (occurrences (entry_of (codes "two"))) x → (codes "u32" ≡ x) ⊎ (codes "two" ≡ x)
names_of_entry x c = at (in_cases (codes "u32") (codes "two" ∷ []) x c)
  where
    at : (codes "u32" ≡ x) ⊎ Contains (codes "two" ∷ []) x → (codes "u32" ≡ x) ⊎ (codes "two" ≡ x)
    at (inl e) = inl e
    at (inr d) = inr (only_one (codes "two") x d)

names_of_const : (x : Name) → Contains (occurrences (const_of_two (codes "two"))) x → ⊥
names_of_const x c = in_none x c

all_loaded : AreLoaded two_modules the_root keeps
all_loaded = record {
  apart = λ a b c d e. both a b e (module_cases a c) (module_cases b d);
  distinct = λ a c. names a (module_cases a c);
  kept = λ x c. (root_unit, root_module, c);
  resolved = λ s d x r i c. resolve s d x i c (reached_held s r);
}
  where
    both : (a b : ModulePath × UnitTree) → path_text a.0 ≡ path_text b.0 → ((root_path, root_unit) ≡ a) ⊎ ((other_path, other_unit) ≡ a) → ((root_path, root_unit) ≡ b) ⊎ ((other_path, other_unit) ≡ b) → a ≡ b
    both a b e (inl f) (inl g) = sym f ∙ g
    both a b e (inl f) (inr g) = absurd (differ the_root the_other refl (ap text_of f ∙ e ∙ sym (ap text_of g)))
    both a b e (inr f) (inl g) = absurd (differ the_other the_root refl (ap text_of f ∙ e ∙ sym (ap text_of g)))
    both a b e (inr f) (inr g) = sym f ∙ g

    names : (a : ModulePath × UnitTree) → ((root_path, root_unit) ≡ a) ⊎ ((other_path, other_unit) ≡ a) → AreDistinct (scope_names a.1)
    names a (inl e) = subst (λ z. AreDistinct (scope_names z.1)) e (another {x = codes "g"} {xs = codes "two" ∷ []} (another {x = codes "two"} {xs = []} no_names (in_none (codes "two"))) (λ c. differ (codes "two") (codes "g") refl (only_one (codes "two") (codes "g") c)))
    names a (inr e) = subst (λ z. AreDistinct (scope_names z.1)) e (another {x = codes "two"} {xs = []} no_names (in_none (codes "two")))

    in_entry : (s : Symbol) (x : Name) → s ≡ sg → (codes "u32" ≡ x) ⊎ (codes "two" ≡ x) → ((t : Symbol) × Denotes two_modules s.home x t) ⊎ IsFree two_modules s.home x
    in_entry s x e (inl f) = inr (subst (λ z. IsFree two_modules z.home x) (sym e) (subst (IsFree two_modules the_root) f (root_free (codes "u32") refl refl)))
    in_entry s x e (inr f) = inl (st, subst (λ z. Denotes two_modules z.home x st) (sym e) (subst (λ z. Denotes two_modules the_root z st) f two_denoted))

    resolve : (s : Symbol) (d : Decl) (x : Name) → IsDeclaration two_modules s d → Contains (occurrences d) x → Held s → ((t : Symbol) × Denotes two_modules s.home x t) ⊎ IsFree two_modules s.home x
    resolve s d x i c (is_entry e) = in_entry s x e (names_of_entry x (subst (λ z. Contains (occurrences z) x) (sym (entry_declared s d e i)) c))
    resolve s d x i c (is_const e) = absurd (names_of_const x (subst (λ z. Contains (occurrences z) x) (sym (const_declared s d e i)) c))

-- ---- names

const_printed : IsPrinted two_modules the_root st (codes "package_m_two")
const_printed = is_mangled {s = st} {path = other_path} {u = other_unit} (differ the_other the_root refl) other_stands refl

held_name : (s : Symbol) (y : Name) → Held s → IsPrinted two_modules the_root s y → ((s ≡ sg) × (codes "g" ≡ y)) ⊎ ((s ≡ st) × (codes "package_m_two" ≡ y))
held_name s y (is_entry e) p = inl (e, printed_once two_modules the_root keeps all_loaded sg (codes "g") y stays (subst (λ z. IsPrinted two_modules the_root z y) e p))
held_name s y (is_const e) p = inr (e, printed_once two_modules the_root keeps all_loaded st (codes "package_m_two") y const_printed (subst (λ z. IsPrinted two_modules the_root z y) e p))

none_shared : (x : Name) → IsShared two_modules the_root keeps x → ⊥
none_shared x h = at (held_name h.one x (reached_held h.one h.one_held) h.one_printed) (held_name h.other x (reached_held h.other h.other_held) h.other_printed)
  where
    at : ((h.one ≡ sg) × (codes "g" ≡ x)) ⊎ ((h.one ≡ st) × (codes "package_m_two" ≡ x)) → ((h.other ≡ sg) × (codes "g" ≡ x)) ⊎ ((h.other ≡ st) × (codes "package_m_two" ≡ x)) → ⊥
    at (inl a) (inl b) = h.differ (a.0 ∙ sym b.0)
    at (inl a) (inr b) = differ (codes "g") (codes "package_m_two") refl (a.1 ∙ sym b.1)
    at (inr a) (inl b) = differ (codes "g") (codes "package_m_two") refl (b.1 ∙ sym a.1)
    at (inr a) (inr b) = h.differ (a.0 ∙ sym b.0)

not_taken : (x : Name) → bytes_eq (codes "g") x ≡ false → bytes_eq (codes "package_m_two") x ≡ false → IsTaken two_modules the_root keeps x → ⊥
not_taken x a b h = at (held_name h.symbol x (reached_held h.symbol h.held) h.printed)
  where
    at : ((h.symbol ≡ sg) × (codes "g" ≡ x)) ⊎ ((h.symbol ≡ st) × (codes "package_m_two" ≡ x)) → ⊥
    at (inl e) = differ (codes "g") x a e.1
    at (inr e) = differ (codes "package_m_two") x b e.1

-- no name that occurs clashes, where no locals are
none_clashes : (s : Symbol) (d : Decl) (x y : Name) → Held s → IsDeclaration two_modules s d → Contains (occurrences d) x → Clashes two_modules the_root keeps s.home [] x y → ⊥
none_clashes s d x y h i c (shared den p k) = none_shared y k
none_clashes s d x y h i c (hidden den p k) = let f : false ≡ true = k in absurd (cc)
none_clashes s d x _ (is_const e) i c (captured f k) = names_of_const x (subst (λ z. Contains (occurrences z) x) (sym (const_declared s d e i)) c)
none_clashes s d x _ (is_entry e) i c (captured f k) = at (names_of_entry x (subst (λ z. Contains (occurrences z) x) (sym (entry_declared s d e i)) c))
  where
    at : (codes "u32" ≡ x) ⊎ (codes "two" ≡ x) → ⊥
    at (inl g) = not_taken (codes "u32") refl refl (subst (IsTaken two_modules the_root keeps) (sym g) k)
    at (inr g) = not_taken (codes "two") refl refl (subst (IsTaken two_modules the_root keeps) (sym g) k)

no_locals : (s : Symbol) (d : Decl) → Held s → IsDeclaration two_modules s d → locals d ≡ []
no_locals s d (is_entry e) i = ap locals (sym (entry_declared s d e i))
no_locals s d (is_const e) i = ap locals (sym (const_declared s d e i))

clash_free : IsClashFree two_modules the_root keeps
clash_free = record {
  unshared = none_shared;
  outside = λ s d x y r i c k. none_clashes s d x y (reached_held s r) i (Contains-append_left (names_before d ++ names_behind d) (names_in_body d) x c) k;
  inside = λ s d x y r i c k. none_clashes s d x y (reached_held s r) i (Contains-append_right (names_before d ++ names_behind d) (names_in_body d) x c)
      (subst (λ l. Clashes two_modules the_root keeps s.home l x y) (no_locals s d (reached_held s r) i) k);
}

-- ---- linked

abbrev new : Name → Name
new x = if bytes_eq x (codes "two") then codes "package_m_two" else x

stays_if : (x : Name) → (x ≡ codes "two" → ⊥) → new x ≡ x
stays_if x n = at (bytes_eq x (codes "two")) refl
  where
    at : (b : Bool) → bytes_eq x (codes "two") ≡ b → (if b then codes "package_m_two" else x) ≡ x
    at true e = absurd (n (same_bytes x (codes "two") e))
    at false e = refl

root_naming : IsNaming two_modules the_root the_root new
root_naming = record { denoting = λ x s den. named x s (in_root x s den); free = λ x f. stays_if x (λ e. free x f e) }
  where
    named : (x : Name) (s : Symbol) → InRoot x s → IsPrinted two_modules the_root s (new x)
    named x s (the_entry n e) = subst (λ z. IsPrinted two_modules the_root z (new x)) (sym e) (subst (λ z. IsPrinted two_modules the_root sg (new z)) n stays)
    named x s (the_const n e) = subst (λ z. IsPrinted two_modules the_root z (new x)) (sym e) (subst (λ z. IsPrinted two_modules the_root st (new z)) n const_printed)

    free : (x : Name) → IsFree two_modules the_root x → x ≡ codes "two" → ⊥
    free x f e = f.unimported (subst (λ u. Imports u x) (root_unit_is f.unit f.is_module) (subst (Contains (codes "two" ∷ [])) (sym e) (first_in (codes "two") [])))

other_naming : IsNaming two_modules the_root the_other new
other_naming = record { denoting = λ x s den. named x s (in_other x s den); free = λ x f. stays_if x (λ e. free x f e) }
  where
    named : (x : Name) (s : Symbol) → InOther x s → IsPrinted two_modules the_root s (new x)
    named x s h = subst (λ z. IsPrinted two_modules the_root z (new x)) (sym h.symbol) (subst (λ z. IsPrinted two_modules the_root st (new z)) h.name const_printed)

    free : (x : Name) → IsFree two_modules the_other x → x ≡ codes "two" → ⊥
    free x f e = f.undeclared (subst (λ u. Declares u x) (other_unit_is f.unit f.is_module) (subst (Contains (codes "two" ∷ [])) (sym e) (first_in (codes "two") [])))

in_order : IsInOrder two_modules the_root (the_root ∷ the_other ∷ [])
in_order = record {
  others = the_other ∷ [];
  root_first = refl;
  ascending = one_path;
  not_root = λ c. differ the_other the_root refl (only_one the_other the_root c);
  each = λ p. (λ c. c, λ c. c);
}

root_linked : IsLinkedModule two_modules the_root keeps the_root (entry_of (codes "package_m_two") ∷ [])
root_linked = record {
  unit = root_unit;
  is_module = root_module;
  new = new;
  naming = root_naming;
  held = entry_of (codes "two") ∷ [];
  selected = takes entry_reached nothing_left;
  whole = refl;
}

other_linked : IsLinkedModule two_modules the_root keeps the_other (const_of_two (codes "package_m_two") ∷ [])
other_linked = record {
  unit = other_unit;
  is_module = other_module;
  new = new;
  naming = other_naming;
  held = const_of_two (codes "two") ∷ [];
  selected = takes const_reached nothing_left;
  whole = refl;
}

is_linked : IsLinked two_modules the_root keeps linked_unit
is_linked = record {
  no_imports = refl;
  order = the_root ∷ the_other ∷ [];
  in_order = in_order;
  declares = a_module {ds = entry_of (codes "package_m_two") ∷ []} {es = const_of_two (codes "package_m_two") ∷ []} root_linked
      (a_module {ds = const_of_two (codes "package_m_two") ∷ []} {es = []} other_linked no_module);
}

-- ---- the run

abbrev two_symbol : ProgramSymbol
two_symbol = record { home = the_other; called = codes "two" }

abbrev two_known : Known
two_known = (two_symbol, v.Literal (V.U32 2)) ∷ []

-- the const mentions nothing
no_mention : (s : ProgramSymbol) → Mentions the_program two_symbol s → ⊥
no_mention s m = let d : const_of_two (codes "two") ≡ m.declaration = cc (m.declares) in absurd (in_none m.name (subst (λ z. Contains (occurrences z) m.name) (sym d) m.occurs))

alone : (s : ProgramSymbol) → Reaches the_program two_symbol s → ⊥
alone s (mention m) = no_mention _ m
alone s (onward m r) = no_mention _ m

the_order : IsOrderOf the_program (two_symbol ∷ [])
the_order = record {
  progress = record { begun = two_symbol ∷ []; started = two_symbol ∷ [] };
  comes = starts [] (λ c. in_none two_symbol c) (leaves (alone two_symbol) nothing_left_over) none_left none_left;
  whole = refl;
}

literal_used : bind (pure (v.Literal (V.U32 2))) used ≡ pure (v.Literal (V.U32 2))
literal_used = used_literal (V.U32 2)

started_so : started the_program 1 [] (two_symbol ∷ []) ≡ pure two_known
started_so = ap (λ m. bind m (λ x. pure ((two_symbol, x) ∷ []))) literal_used

returned_so : handed_back (codes "g") (Some type.U32) (Some (v.Literal (V.U32 2))) ≡ pure (Some (v.Literal (V.U32 2)))
returned_so = own_type (codes "g") U32 tt (V.U32 2) refl

entered_so : (handed : Handed) → entered (world the_program two_known 1 the_root) (codes "g") (Some (entry_of (codes "two"))) handed ≡ pure (Some (v.Literal (V.U32 2)))
entered_so handed =
    ap (λ m. bind (bind (bind m (λ x. handed_back (codes "g") (Some type.U32) (Some x))) (λ y. pure (Returned y))) (ended (codes "g") (Some type.U32))) literal_used
    ∙ ap (λ m. bind (bind m (λ y. pure (Returned y))) (ended (codes "g") (Some type.U32))) returned_so

pub premises_are_met : PremisesAreMet
premises_are_met = record {
  linked_well = record { loaded = all_loaded; clash_free = clash_free; linked = is_linked };
  program = program_is two_modules the_root keeps all_loaded (sources two_modules (entry ∷ the_two ∷ [])) (sources_are two_modules the_root keeps all_loaded (entry ∷ the_two ∷ []) (record {
    order = the_root ∷ the_other ∷ [];
    in_order = in_order;
    are_held = of_more {ss = st ∷ []} root_unit (entry_of (codes "two") ∷ []) root_module (takes entry_reached nothing_left)
        (of_more {ss = []} other_unit (const_of_two (codes "two") ∷ []) other_module (takes const_reached nothing_left) of_none);
  }));
  ends_well = λ handed. record {
    order = two_symbol ∷ [];
    is_order = the_order;
    bound = 1;
    last = allowed 0;
    ends = (λ k. bind (started_so k) (λ known. entered (world the_program known 1 the_root) (codes "g") (Some (entry_of (codes "two"))) handed) (allowed 0)) ∙ (λ k. entered_so handed k (allowed 0));
  };
}
