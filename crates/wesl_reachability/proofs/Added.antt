-- Places at which reaching begins, one by one.
use Rattle.std.proofs.Common.{◌≡◌, refl, sym, ap, ◌∙◌, subst, ℕ, zero, suc, ◌+◌, ◌<◌, ◌≤◌, ◌⊎◌, inl, inr, List, [], ◌∷◌, ◌++◌, length, Option, Some, None, Bool, true, false, arith}
use Rattle.std.specs.Prelude.{slice_get}
use Rattle.std.specs.List.{Contains}
use Rattle.std.specs.HashMap.{get_by_text}
use Rattle.std.proofs.lemmas.List.Elements.{Contains-append_left, Contains-append_right, Contains-append_cases, Contains-push, Contains-push_cases}
use Rattle.wgsl_base.proofs.Members.{first_in, in_cases, in_none}
use Rattle.wesl_chains.specs.Outlines.{Name}
use Rattle.wesl_chains.proofs.Loops.{same_some}
use Rattle.wesl_module_index.specs.declared.module.Module.{Module}
use Rattle.wesl_module_index.specs.declared.module.Meaning.{Meaning}
use Rattle.wesl_module_index.specs.declared.module.Meaning.TheVariants.{Declared, Imported}
use Rattle.wesl_module_index.specs.declared.modules.DeclarationId.{DeclarationId}
use Rattle.wesl_reachability.specs.Holding.{spot_of, Answers}
use Rattle.wesl_reachability.specs.Starts.{AreAll, IsPlaceFrom, IsEntryPoint, StandsAsEntryPoint, IsNamed, AddsPlaces, AddsIf, spots_of}

less_or : (a b : ℕ) → a < b + 1 → (a < b) ⊎ (a ≡ b)
less_or zero zero h = inr refl
less_or zero (suc b) h = inl (omega arith)
less_or (suc a) zero h = absurd (omega (arith, h))
less_or (suc a) (suc b) h = elim (less_or a b (omega (arith, h))) [ inl f ↦ inl (omega (arith, f)) | inr f ↦ inr (ap suc f) ]

get_less : {X : Type 0} (xs : List X) (i : ℕ) (x : X) → slice_get xs i ≡ Some x → i < length xs
get_less [] i x is = absurd (cc)
get_less (y ∷ xs) zero x is = omega arith
get_less (y ∷ xs) (suc i) x is = let h = get_less xs i x is in omega (arith, h)

-- ---- so many places of a module

pub adds_none : (number : ℕ) (old : List DeclarationId) → AddsPlaces number 0 old old
adds_none number old = record { only = λ s c. inl c; old_ones = λ s c. c; added = λ s e less. absurd (omega (arith, less)) }

pub adds_more : (number n : ℕ) (old mid : List DeclarationId) → AddsPlaces number n old mid → AddsPlaces number (n + 1) old (mid ++ spot_of number n ∷ [])
adds_more number n old mid a = record {
  only = λ s c. elim (Contains-push_cases mid (spot_of number n) s c) [
    | inl d ↦ elim (a.only s d) [ inl e ↦ inl e | inr e ↦ (let l = e.1 in inr (e.0, omega (arith, l))) ]
    | inr e ↦ (let f : n ≡ s.place = ap (λ x. x.place) e in inr (sym (ap (λ x. x.«module») e), omega (arith, f)))
  ];
  old_ones = λ s c. Contains-append_left mid (spot_of number n ∷ []) s (a.old_ones s c);
  added = λ s e less. elim (less_or s.place n less) [
    | inl l ↦ Contains-append_left mid (spot_of number n ∷ []) s (a.added s e l)
    | inr f ↦ subst (λ x. Contains (mid ++ spot_of number n ∷ []) x) (λ i. record { «module» = sym e i; place = sym f i }) (Contains-push mid (spot_of number n))
  ];
}

-- ---- the places of modules from a number on, below another

abbrev pub AreBetween : List Module → ℕ → ℕ → List DeclarationId → Type 0
AreBetween ms first n spots = AreAll spots (λ s. IsPlaceFrom ms first s × (s.«module» < n))

pub between_none : (ms : List Module) (first : ℕ) → AreBetween ms first first []
between_none ms first = record { only = λ s c. absurd (in_none s c); all = λ s p. let b = p.0.behind in let l = p.1 in absurd (omega (arith, b, l)) }

pub between_more : (ms : List Module) (first n : ℕ) (one : Module) (old new : List DeclarationId) → first ≤ n → slice_get ms n ≡ Some one → AreBetween ms first n old → AddsPlaces n (length one.places.items) old new → AreBetween ms first (n + 1) new
between_more ms first n one old new behind is b a = record {
  only = λ s c. elim (a.only s c) [
    | inl d ↦ (let x = b.only s d in let l = x.1 in (x.0, omega (arith, l)))
    | inr e ↦ (let f = e.0 in (
      record { behind = omega (arith, behind, f); table = one; is_module = ap (slice_get ms) e.0 ∙ is; within = e.1 },
      omega (arith, f),
    ))
  ];
  all = λ s p. elim (less_or s.«module» n p.1) [
    | inl l ↦ a.old_ones s (b.all s (p.0, l))
    | inr e ↦ (let same : p.0.table ≡ one = same_some (sym p.0.is_module ∙ ap (slice_get ms) e ∙ is) in a.added s e (subst (λ (m : Module). s.place < length m.places.items) same p.0.within))
  ];
}

pub between_all : (ms : List Module) (first n : ℕ) (spots : List DeclarationId) → length ms ≤ n → AreBetween ms first n spots → AreAll spots (IsPlaceFrom ms first)
between_all ms first n spots enough b = record {
  only = λ s c. (b.only s c).0;
  all = λ s p. let l = get_less ms s.«module» p.table p.is_module in b.all s (p, omega (arith, l, enough));
}

-- ---- entry points

abbrev pub AreEntryPoints : Module → ℕ → List DeclarationId → Type 0
AreEntryPoints root n spots = AreAll spots (λ s. IsEntryPoint root s × (s.place < n))

pub no_entry_points : (root : Module) → AreEntryPoints root 0 []
no_entry_points root = record { only = λ s c. absurd (in_none s c); all = λ s p. let l = p.1 in absurd (omega (arith, l)) }

pub entry_points_more : (root : Module) (n : ℕ) (old new : List DeclarationId) (b : Bool) → Answers b (StandsAsEntryPoint root.places.items n) → AddsIf (spot_of 0 n) b old new → AreEntryPoints root n old → AreEntryPoints root (n + 1) new
entry_points_more root n old new true is e a = subst (λ l. AreEntryPoints root (n + 1) l) (sym e) (record {
  only = λ s c. elim (Contains-push_cases old (spot_of 0 n) s c) [
    | inl d ↦ (let x = a.only s d in let l = x.1 in (x.0, omega (arith, l)))
    | inr f ↦ (let g : n ≡ s.place = ap (λ x. x.place) f in (record { in_root = sym (ap (λ x. x.«module») f); stands = subst (λ k. StandsAsEntryPoint root.places.items k) g is }, omega (arith, g)))
  ];
  all = λ s p. elim (less_or s.place n p.1) [
    | inl l ↦ Contains-append_left old (spot_of 0 n ∷ []) s (a.all s (p.0, l))
    | inr f ↦ subst (λ x. Contains (old ++ spot_of 0 n ∷ []) x) (λ i. record { «module» = sym p.0.in_root i; place = sym f i }) (Contains-push old (spot_of 0 n))
  ];
})
entry_points_more root n old new false is e a = subst (λ l. AreEntryPoints root (n + 1) l) (sym e) (record {
  only = λ s c. let x = a.only s c in let l = x.1 in (x.0, omega (arith, l));
  all = λ s p. elim (less_or s.place n p.1) [
    | inl l ↦ a.all s (p.0, l)
    | inr f ↦ absurd (is (subst (λ k. StandsAsEntryPoint root.places.items k) f p.0.stands))
  ];
})

pub all_entry_points : (root : Module) (n : ℕ) (spots : List DeclarationId) → length root.places.items ≤ n → AreEntryPoints root n spots → AreAll spots (IsEntryPoint root)
all_entry_points root n spots enough a = record {
  only = λ s c. (a.only s c).0;
  all = λ s p. let l = get_less root.places.items s.place p.stands.place p.stands.is_there in a.all s (p, omega (arith, l, enough));
}

-- ---- names

pub no_names : (root : Module) → AreAll [] (IsNamed root [])
no_names root = record { only = λ s c. absurd (in_none s c); all = λ s p. absurd (in_none p.name p.is_one) }

named_by : (s : DeclarationId) (o : Option Meaning) → Contains (spots_of o) s → (s.«module» ≡ 0) × (o ≡ Some (Declared s.place))
named_by s None c = absurd (in_none s c)
named_by s (Some (Imported k)) c = absurd (in_none s c)
named_by s (Some (Declared k)) c = elim (in_cases (spot_of 0 k) [] s c) [
  | inl e ↦ (sym (ap (λ x. x.«module») e), ap (λ x. Some (Declared x.place)) e)
  | inr d ↦ absurd (in_none s d)
]

pub names_more : (root : Module) (names : List Name) (x : Name) (old new : List DeclarationId) → new ≡ old ++ spots_of (get_by_text root.scope x) → AreAll old (IsNamed root names) → AreAll new (IsNamed root (names ++ x ∷ []))
names_more root names x old new e a = subst (λ l. AreAll l (IsNamed root (names ++ x ∷ []))) (sym e) (record {
  only = λ s c. elim (Contains-append_cases old (spots_of (get_by_text root.scope x)) s c) [
    | inl d ↦ (let y = a.only s d in record { in_root = y.in_root; name = y.name; is_one = Contains-append_left names (x ∷ []) y.name y.is_one; declares = y.declares })
    | inr d ↦ (let y = named_by s (get_by_text root.scope x) d in record { in_root = y.0; name = x; is_one = Contains-push names x; declares = y.1 })
  ];
  all = λ s p. elim (Contains-push_cases names x p.name p.is_one) [
    | inl d ↦ Contains-append_left old (spots_of (get_by_text root.scope x)) s (a.all s (record { in_root = p.in_root; name = p.name; is_one = d; declares = p.declares }))
    | inr f ↦ Contains-append_right old (spots_of (get_by_text root.scope x)) s
        (subst (λ o. Contains (spots_of o) s) (sym (ap (get_by_text root.scope) f ∙ p.declares)) (subst (λ y. Contains (y ∷ []) s) (λ i. record { «module» = p.in_root i; place = s.place }) (first_in s [])))
  ];
})
