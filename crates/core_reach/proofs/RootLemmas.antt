-- The root's round: what it starts from, and the first kept name that the root doesn't declare.
use Rattle.std.proofs.Common.{◌≡◌, sym, ap, ◌∙◌, ℕ, zero, suc, ◌<◌, inl, inr, ⊎_elim, true, false, List, [], ◌∷◌, ◌++◌, Some, None, arith}
use Rattle.std.specs.Prelude.{slice_get, string_bytes}
use Rattle.std.specs.Ordering.{nat_cmp, is_eq}
use Rattle.std.specs.Cmp.Lexicographic.{slice_cmp}
use Rattle.std.specs.Map.{lookup}
use Rattle.std.specs.BTreeMap.{get_by_text}
use Rattle.core_link_spec.specs.Occurrences.{Name}
use Rattle.core_link_spec.specs.Modules.{Path}
use Rattle.core_link_spec.specs.Rounds.{missing_decl}
use Rattle.core_scopes.specs.declared.error.ImportError.{ImportError}
use Rattle.core_scopes.specs.Outcomes.{symbol_at, Loaded, item_at, loaded}
use Rattle.wgsl_base.proofs.Members.{from_contains}
use Rattle.core_reach.specs.declared.linking.Linking.{Linking}
use Rattle.core_reach.specs.Stages.{AskedNames, name_asked}
use Rattle.core_reach.specs.Closing.{HeldNames}
use Rattle.core_reach.specs.Closed.{HoldsNothing, IsFirstUndeclared, RefusesRoot}
use Rattle.core_reach.specs.Underway.{NamesAll, IsConsistent, LacksKept}
use Rattle.core_reach.proofs.StageLemmas.{KeptBelow}

pub names_nothing : (l : Linking) (held : HeldNames) → HoldsNothing held → NamesAll l held
names_nothing l held nothing m place y e = let both : None ≡ Some y = sym (nothing m place) ∙ e in absurd (cc)

pub asks_nothing : (l : Linking) (held : HeldNames) (asked : AskedNames) → asked.entries ≡ [] → NamesAll l held → IsConsistent l held asked
asks_nothing l held asked empty named = record {
  named = named;
  asked_at = λ s e. let both : false ≡ true = ap (λ o. name_asked o s.name) (sym (none s.home)) ∙ e in absurd (cc);
  by_name = λ p a e. let both : None ≡ Some a = sym (none p) ∙ e in absurd (cc);
  by_import = λ p a e. let both : None ≡ Some a = sym (none p) ∙ e in absurd (cc);
}
  where
    none : (p : Path) → get_by_text asked p ≡ None
    none p = ap (lookup (λ k. is_eq (slice_cmp nat_cmp p (string_bytes k)))) empty

-- ---- the names before one

split_at : (xs : List Name) (n : ℕ) (x : Name) → slice_get xs n ≡ Some x
    → (before : List Name) × (behind : List Name) × (xs ≡ before ++ x ∷ behind) × ((i : ℕ) (y : Name) → slice_get before i ≡ Some y → (i < n) × (slice_get xs i ≡ Some y))
split_at [] n x e = absurd (cc)
split_at (y ∷ xs) zero x e = ([], xs, (let same : y ≡ x = cc in ap (λ z. z ∷ xs) same), λ i z f. absurd (cc))
split_at (y ∷ xs) (suc n) x e = let s = split_at xs n x e in (y ∷ s.0, s.1, ap (λ l. y ∷ l) s.2, at s.0 s.3)
  where
    at : (before : List Name) → ((i : ℕ) (z : Name) → slice_get before i ≡ Some z → (i < n) × (slice_get xs i ≡ Some z))
        → (i : ℕ) (z : Name) → slice_get (y ∷ before) i ≡ Some z → (i < suc n) × (slice_get (y ∷ xs) i ≡ Some z)
    at before s zero z f = (omega arith, f)
    at before s (suc i) z f = let r = s i z f in let less : i < n = r.0 in (omega arith, r.1)

first_undeclared : (find : Loaded) (root : Path) (keep : List Name) (held : HeldNames) (n : ℕ) (x : Name) → slice_get keep n ≡ Some x → KeptBelow find root keep held n
    → ((m : Path) (place : ℕ) → item_at (record { home = root; name = x }) (find root) ≡ symbol_at m place → ⊥) → IsFirstUndeclared find root keep x
first_undeclared find root keep held n x is below undeclared =
    let s = split_at keep n x is in
    record {
      before = s.0;
      behind = s.1;
      whole = s.2;
      declared = λ y c. let p = from_contains s.0 y c in let r = s.3 p.0 y p.1 in let k = below p.0 y r.0 r.1 in (k.0, k.1, k.2);
      undeclared = undeclared;
    }

pub refused_kept : (l : Linking) (path : Path) (now held : HeldNames) (n : ℕ) (x : Name) (e : ImportError) → path ≡ l.root.now → slice_get l.keep.now n ≡ Some x
    → KeptBelow (loaded l.modules.now) l.root.now l.keep.now held n → LacksKept l path x e → RefusesRoot l.modules.now l.root.now l.keep.now now e
refused_kept l path now held n x e root is below lacks = ⊎_elim
    (λ memory. inl (inl memory))
    (λ other. inr (
      x,
      first_undeclared (loaded l.modules.now) l.root.now l.keep.now held n x is below other.1,
      (missing_decl path x, other.0, ap (λ p. missing_decl p x) root),
    ))
    lacks
