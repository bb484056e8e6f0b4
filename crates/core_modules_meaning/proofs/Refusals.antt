-- The first refusal is one.
use Rattle.std.proofs.Common.{◌≡◌, ℕ, zero, suc, ◌<◌, ◌⊎◌, inl, inr, List, map, Some, None, refl, sym, ap, ◌∙◌, subst, arith, Contains, slice_get, is_eq}
use Rattle.std.specs.Ordering.{nat_cmp, ordering_reverse}
use Rattle.std.specs.Cmp.Lexicographic.{slice_cmp}
use Rattle.std.specs.declared.cmp.Ordering.{Ordering}
use Rattle.std.specs.declared.cmp.Ordering.TheVariants.{Less, Equal, Greater}
use Rattle.std.proofs.lemmas.Cmp.{nat_list_cmp_total}
use Rattle.std.proofs.lemmas.Map.Text.{is_eq-slice_cmp}
use Rattle.wgsl_path.specs.Paths.{path_text}
use Rattle.core_syntax.specs.Tree.{Imp, UnitTree}
use Rattle.core_syntax.specs.Names.{declared_name}
use Rattle.core_link_spec.specs.Occurrences.{Name, occurrences}
use Rattle.core_link_spec.specs.Modules.{Path, Symbol, Modules, IsModule, Imports, local_name, IsImport, IsImported, IsMissing, lacking, bare, IsPrivate}
use Rattle.core_link_spec.specs.Rounds.{LoadError, missing_decl, private, scope_names, IsBefore, IsRefusedAt, StandsBefore, by_module, by_declaration, by_occurrence, IsFirstRefused}
use Rattle.wgsl_base.proofs.Members.{same_bytes}
use Rattle.core_modules_meaning.proofs.Distinct.{once_of, once_left, once_same}
use Rattle.core_modules_meaning.proofs.Loading.{Apart}

-- ---- places

nat_cases : (a b : ℕ) → ((a < b) ⊎ (a ≡ b)) ⊎ (b < a)
nat_cases zero zero = inl (inr refl)
nat_cases zero (suc b) = inl (inl (omega arith))
nat_cases (suc a) zero = inr (omega arith)
nat_cases (suc a) (suc b) = at (nat_cases a b)
  where
    at : ((a < b) ⊎ (a ≡ b)) ⊎ (b < a) → ((suc a < suc b) ⊎ (suc a ≡ suc b)) ⊎ (suc b < suc a)
    at (inl (inl l)) = inl (inl (omega arith))
    at (inl (inr e)) = inl (inr (ap suc e))
    at (inr l) = inr (omega arith)

data PathCases (m n : Path) : Type 0 where
  path_first : IsBefore m n → PathCases m n
  path_same : m ≡ n → PathCases m n
  path_last : IsBefore n m → PathCases m n

path_cases : (m n : Path) → PathCases m n
path_cases m n = at (slice_cmp nat_cmp m n) refl
  where
    at : (o : Ordering) → slice_cmp nat_cmp m n ≡ o → PathCases m n
    at Less e = path_first e
    at Equal e = path_same (same_bytes m n (sym (is_eq-slice_cmp m n) ∙ ap is_eq e))
    at Greater e = path_last (nat_list_cmp_total.antisymm n m ∙ ap ordering_reverse e)

data Places (m : Path) (d o : ℕ) (n : Path) (e p : ℕ) : Type 0 where
  earlier : StandsBefore m d o n e p → Places m d o n e p
  same_place : m ≡ n → d ≡ e → o ≡ p → Places m d o n e p
  later : StandsBefore n e p m d o → Places m d o n e p

places : (m : Path) (d o : ℕ) (n : Path) (e p : ℕ) → Places m d o n e p
places m d o n e p = by (path_cases m n)
  where
    in_declaration : m ≡ n → d ≡ e → ((o < p) ⊎ (o ≡ p)) ⊎ (p < o) → Places m d o n e p
    in_declaration s t (inl (inl l)) = earlier (subst (λ z. StandsBefore m d o z e p) s (subst (λ z. StandsBefore m d o m z p) t (by_occurrence l)))
    in_declaration s t (inl (inr f)) = same_place s t f
    in_declaration s t (inr l) = later (subst (λ z. StandsBefore z e p m d o) s (subst (λ z. StandsBefore m z p m d o) t (by_occurrence l)))

    in_module : m ≡ n → ((d < e) ⊎ (d ≡ e)) ⊎ (e < d) → Places m d o n e p
    in_module s (inl (inl l)) = earlier (subst (λ z. StandsBefore m d o z e p) s (by_declaration l))
    in_module s (inl (inr t)) = in_declaration s t (nat_cases o p)
    in_module s (inr l) = later (subst (λ z. StandsBefore z e p m d o) s (by_declaration l))

    by : PathCases m n → Places m d o n e p
    by (path_first b) = earlier (by_module b)
    by (path_same s) = in_module s (nat_cases d e)
    by (path_last b) = later (by_module b)

-- ---- a refusal at a place

module _ (modules : Modules) (root : Path) (keep : List Name) (apart : Apart modules) where
  one : (m : Path) (u v : UnitTree) → IsModule modules m u → IsModule modules m v → u ≡ v
  one m u v i j = ap (λ z. z.1) (apart.apart (i.path, u) (j.path, v) i.stands j.stands (i.printed ∙ sym j.printed))

  import_once : (m : Path) (x : Name) (i j : Imp) → IsImport modules m x i → IsImport modules m x j → i ≡ j
  import_once m x i j a b =
      let same : b.unit ≡ a.unit = one m b.unit a.unit b.is_module a.is_module in
      let names = once_left (map local_name a.unit.imports) (map declared_name a.unit.declarations) (once_of (scope_names a.unit) (apart.distinct (a.is_module.path, a.unit) a.is_module.stands)) in
      once_same local_name a.unit.imports names i j a.stands (subst (λ u. Contains u.imports j) same b.stands) (a.local ∙ sym b.local)

  target_once : (m : Path) (x : Name) (s t : Symbol) → IsImported modules m x s → IsImported modules m x t → s ≡ t
  target_once m x s t a b =
      let imports : a.import ≡ b.import = import_once m x a.import b.import a.is_import b.is_import in
      let somes : Some a.path ≡ Some b.path = sym a.is_path ∙ ap (λ i. i.path) imports ∙ b.is_path in
      let paths : a.path ≡ b.path = cc in
      ap (λ z. record { home = z; name = s.name }) (sym a.home ∙ ap path_text paths ∙ b.home)
      ∙ ap (λ z. record { home = t.home; name = z }) (sym a.item ∙ ap (λ i. i.item) imports ∙ b.item)

  data Kind (m : Path) (x : Name) (s : Symbol) (r : LoadError) : Type 0 where
    is_lacking : IsImported modules m x s → (u : UnitTree) → IsModule modules s.home u → (Imports u s.name → ⊥) → r ≡ missing_decl s.home s.name → Kind m x s r
    is_private : IsImported modules m x s → (u : UnitTree) → IsModule modules s.home u → Imports u s.name → r ≡ private s.home s.name → Kind m x s r
    is_bare : (i : Imp) → IsImport modules m x i → i.path ≡ None → r ≡ missing_decl m i.item → Kind m x s r

  missing_kind : (m : Path) (x : Name) (s : Symbol) (r : LoadError) → IsMissing modules m x s → r ≡ missing_decl s.home s.name → Kind m x s r
  missing_kind m x s r (lacking {u = u} i j d k) e = is_lacking i u j k e
  missing_kind m x _ r (bare {i = i} h p) e = is_bare i h p e

  kind_of : (m : Path) (x : Name) (s : Symbol) (r : LoadError) → (IsMissing modules m x s × (r ≡ missing_decl s.home s.name)) ⊎ (IsPrivate modules m x s × (r ≡ private s.home s.name)) → Kind m x s r
  kind_of m x s r (inl w) = missing_kind m x s r w.0 w.1
  kind_of m x s r (inr w) = is_private w.0.imported w.0.unit w.0.is_module w.0.only_imported w.1

  not_bare : (m : Path) (x : Name) (s : Symbol) (i : Imp) → IsImported modules m x s → IsImport modules m x i → i.path ≡ None → ⊥
  not_bare m x s i a b e =
      let imports : a.import ≡ i = import_once m x a.import i a.is_import b in
      let no : Some a.path ≡ None = sym a.is_path ∙ ap (λ i. i.path) imports ∙ e in absurd (cc)

  not_both : (m : Path) (x : Name) (s t : Symbol) (u v : UnitTree) → IsImported modules m x s → IsModule modules s.home u → (Imports u s.name → ⊥) → IsImported modules m x t → IsModule modules t.home v → Imports v t.name → ⊥
  not_both m x s t u v a i n b j c =
      let same : t ≡ s = target_once m x t s b a in
      let units : v ≡ u = one s.home v u (subst (λ z. IsModule modules z.home v) same j) i in
      n (subst (λ z. Imports z s.name) units (subst (λ z. Imports v z.name) same c))

  kinds_same : (m : Path) (x : Name) (s t : Symbol) (r q : LoadError) → Kind m x s r → Kind m x t q → r ≡ q
  kinds_same m x s t r q (is_lacking a u i n e) (is_lacking b v j k f) = e ∙ ap (λ z. missing_decl z.home z.name) (target_once m x s t a b) ∙ sym f
  kinds_same m x s t r q (is_lacking a u i n e) (is_private b v j c f) = absurd (not_both m x s t u v a i n b j c)
  kinds_same m x s t r q (is_lacking a u i n e) (is_bare k b p f) = absurd (not_bare m x s k a b p)
  kinds_same m x s t r q (is_private a u i c e) (is_lacking b v j n f) = absurd (not_both m x t s v u b j n a i c)
  kinds_same m x s t r q (is_private a u i c e) (is_private b v j d f) = e ∙ ap (λ z. private z.home z.name) (target_once m x s t a b) ∙ sym f
  kinds_same m x s t r q (is_private a u i c e) (is_bare k b p f) = absurd (not_bare m x s k a b p)
  kinds_same m x s t r q (is_bare k a p e) (is_lacking b v j n f) = absurd (not_bare m x t k b a p)
  kinds_same m x s t r q (is_bare k a p e) (is_private b v j c f) = absurd (not_bare m x t k b a p)
  kinds_same m x s t r q (is_bare k a p e) (is_bare l b o f) = e ∙ ap (λ i. missing_decl m i.item) (import_once m x k l a b) ∙ sym f

  refused_once : (m : Path) (d o : ℕ) (r q : LoadError) → IsRefusedAt modules root keep m d o r → IsRefusedAt modules root keep m d o q → r ≡ q
  refused_once m d o r q a b =
      let units : a.unit ≡ b.unit = one m a.unit b.unit a.is_module b.is_module in
      let there : Some a.stands ≡ Some b.stands = sym a.is_there ∙ ap (λ u. slice_get u.declarations d) units ∙ b.is_there in
      let same : a.stands ≡ b.stands = cc in
      let occur : Some a.name ≡ Some b.name = sym a.occurs ∙ ap (λ z. slice_get (occurrences z) o) same ∙ b.occurs in
      let names : a.name ≡ b.name = cc in
      kinds_same m b.name a.target b.target r q (subst (λ z. Kind m z a.target r) names (kind_of m a.name a.target r a.why)) (kind_of m b.name b.target q b.why)

  pub first_once : (r q : LoadError) → IsFirstRefused modules root keep r → IsFirstRefused modules root keep q → r ≡ q
  first_once r q a b = at (places a.home a.declaration a.occurrence b.home b.declaration b.occurrence)
    where
      at : Places a.home a.declaration a.occurrence b.home b.declaration b.occurrence → r ≡ q
      at (earlier k) = absurd (b.first a.home a.declaration a.occurrence r a.refused k)
      at (later k) = absurd (a.first b.home b.declaration b.occurrence q b.refused k)
      at (same_place s t u) = refused_once b.home b.declaration b.occurrence r q
          (subst (λ z. IsRefusedAt modules root keep z b.declaration b.occurrence r) s (subst (λ z. IsRefusedAt modules root keep a.home z b.occurrence r) t (subst (λ z. IsRefusedAt modules root keep a.home a.declaration z r) u a.refused))) b.refused
