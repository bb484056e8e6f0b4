-- A program, and a plain unit in which each held symbol stands renamed: what ends well in the one ends well in the other.
use Rattle.std.proofs.Common.{◌≡◌, ◌↔◌, ℕ, List, ◌∷◌, map, Option, Some, None, Bool, true, false, refl, sym, ap, ◌∙◌, subst, Contains}
use Rattle.std.specs.Prelude.{◌&&◌, if◌then◌else◌}
use Rattle.std.specs.Str.{bytes_eq}
use Rattle.core_syntax.specs.Tree.{Decl, variable, function}
use Rattle.core_syntax.specs.Names.{declared_name}
use Rattle.wgsl_base.proofs.Members.{in_map, from_map, same_bytes, bytes_same}
use Rattle.wgsl_instance.specs.declared.tree.Instance.{Instance}
use Rattle.core_computations.specs.Machine.{State, Outcome, Done, Failed, Deep, tick, read, loaded, write, fresh}
use Rattle.core_computations.specs.Lift.{Lift, Same, KeptThroughout}
use Rattle.core_computations.specs.Compare.{Extends, ExtendsAt, EndsLikewise}
use Rattle.core_computations.proofs.Kept.{kept_extends}
use Rattle.core_programs.specs.Faults.{Fault}
use Rattle.core_programs.specs.Computing.{M}
use Rattle.core_programs.specs.Names.{Name, Symbol, is_same}
use Rattle.core_programs.specs.Programs.{Program, Mentions, Reaches, mention, onward, is_value, values_among, here}
use Rattle.core_programs.specs.Runs.{Handed, run, allowed, EndsWell, find_decl, here_if, plain}
use Rattle.core_link_spec.specs.Occurrences.{occurrences}
use Rattle.core_link_spec.specs.Linked.{renamed_declaration}
use Rattle.core_modules_meaning.proofs.Orders.{Both, no_more, one_more, Ordered, ordered}
use Rattle.core_modules_meaning.proofs.Renaming.{Means, of_symbol, of_none, Stands, InOrder, none_left, next, runs_alike}
use Rattle.core_modules_meaning.proofs.Occurring.{of_declaration, has_meaning}

some_one : {A : Type 0} {x y : A} → Some x ≡ Some y → x ≡ y
some_one e = cc

-- ---- symbols by their texts

same_symbol : (s t : Symbol) → is_same s t ≡ true → s ≡ t
same_symbol s t e = at (bytes_eq s.home t.home) (bytes_eq s.called t.called) refl refl e
  where
    at : (a b : Bool) → bytes_eq s.home t.home ≡ a → bytes_eq s.called t.called ≡ b → (a && b) ≡ true → s ≡ t
    at true true h n e = λ i. record { home = same_bytes s.home t.home h i; called = same_bytes s.called t.called n i }
    at true false h n e = absurd (cc)
    at false b h n e = absurd (cc)

symbol_same : (s : Symbol) → is_same s s ≡ true
symbol_same s = (λ i. bytes_same s.home i && bytes_eq s.called s.called) ∙ bytes_same s.called

-- ---- a relation read from the other side

abbrev Forth : Lift Fault
Forth A B S m n = Extends Fault Same A B S m n

abbrev Back : Lift Fault
Back A B S m n = Extends Fault Same B A (λ y x. S x y) n m

forth : KeptThroughout Fault Same (λ A B S m n. Extends Fault Same A B S m n)
forth = kept_extends Fault Same

turned : (A : Type 0) (m n : M A) → Extends Fault Same A A Same m n → Extends Fault Same A A (λ y x. x ≡ y) m n
turned A m n r = record { from = λ s t cells left. at (m s) (n t) (r.from s t cells left) }
  where
    at : (o q : Outcome Fault A) → ExtendsAt Fault Same A A Same o q → ExtendsAt Fault Same A A (λ y x. x ≡ y) o q
    at (Done x s) q b = record { answer = b.answer; state = b.state; ends = b.ends; alike = sym b.alike; cells = b.cells; steps = b.steps }
    at (Failed f) q b = record { fault = b.fault; fails = b.fails; alike = b.alike }
    at Deep q b = tt

back : KeptThroughout Fault Same (λ A B S m n. Extends Fault Same B A (λ y x. S x y) n m)
back = record {
  kept = record {
    pure_of = λ A B S x y h. forth.kept.pure_of B A (λ b a. S a b) y x h;
    fail_of = λ A B S f g h. forth.kept.fail_of B A (λ b a. S a b) g f (sym h);
    going_on = λ A B C D S T m n f g r h. forth.kept.going_on B A D C (λ b a. S a b) (λ d c. T c d) n m g f r (λ y x s. h x y s);
    tick_of = λ f g h. turned (Unit {0}) (tick g) (tick f) (forth.kept.tick_of g f (sym h));
    read_of = λ f g r h. turned Instance (read g r) (read f r) (forth.kept.read_of g f r (λ e. sym (h e)));
    loaded_of = λ f g x h. turned Instance (loaded g x) (loaded f x) (forth.kept.loaded_of g f x (λ e. sym (h e)));
    scoped_of = λ A B S m n r. forth.kept.scoped_of B A (λ b a. S a b) n m r;
  };
  deep_of = λ A B S. forth.deep_of B A (λ b a. S a b);
  write_of = λ f g r x h. turned (Unit {0}) (write g r x) (write f r x) (forth.write_of g f r x (λ e. sym (h e)));
  fresh_of = λ x. turned ℕ (fresh x) (fresh x) (forth.fresh_of x);
}

answered : (o : Outcome Fault (Option Instance)) (a b : Option Instance) (s : State) → o ≡ Done a s → a ≡ b → o ≡ Done b s
answered o a b s e f = subst (λ z. o ≡ Done z s) f e

-- ---- the unit

module _ (p : Program) (ds : List Decl) (IsHeld : Symbol → Name → Type 0) (stands : (s : Symbol) (y : Name) → IsHeld s y → Stands p ds IsHeld s y)
    (unique : (s t : Symbol) (y : Name) → IsHeld s y → IsHeld t y → s ≡ t) where
  -- a held symbol and its own of the unit
  pub record Named (s t : Symbol) : Type 0 where
    pub name : Name
    pub is : t ≡ here name
    pub held : IsHeld s name

  one_name : (s : Symbol) (y z : Name) → IsHeld s y → IsHeld s z → y ≡ z
  one_name s y z h k = sym (stands s y h).printed ∙ (stands s z k).printed

  one : (s t u : Symbol) → Named s t → Named s u → t ≡ u
  one s t u a b = a.is ∙ ap here (one_name s a.name b.name a.held b.held) ∙ sym b.is

  other : (s w t : Symbol) → Named s t → Named w t → s ≡ w
  other s w t a b = let e : a.name ≡ b.name = ap (λ z. z.called) (sym a.is ∙ b.is) in unique s w b.name (subst (IsHeld s) e a.held) b.held

  apart : (s t : Symbol) (y z : Name) → IsHeld s y → IsHeld t z → is_same s t ≡ is_same (here y) (here z)
  apart s t y z h k = at (is_same s t) (is_same (here y) (here z)) refl refl
    where
      at : (a b : Bool) → is_same s t ≡ a → is_same (here y) (here z) ≡ b → is_same s t ≡ is_same (here y) (here z)
      at true true e f = e ∙ sym f
      at false false e f = e ∙ sym f
      at true false e f =
          let same : s ≡ t = same_symbol s t e in
          let names : y ≡ z = one_name t y z (subst (λ x. IsHeld x y) same h) k in
          e ∙ sym (ap (λ x. is_same (here y) (here x)) (sym names) ∙ symbol_same (here y))
      at false true e f =
          let names : y ≡ z = ap (λ x. x.called) (same_symbol (here y) (here z) f) in
          let same : s ≡ t = unique s t z (subst (IsHeld s) names h) k in
          ap (λ x. is_same s x) (sym same) ∙ symbol_same s ∙ sym f

  -- ---- chains of mentions

  pub record Steps (s w : Symbol) (y : Name) : Type 0 where
    pub name : Name
    pub held : IsHeld w name
    pub there : Mentions (plain ds) (here y) (here name)

  mentions_there : (s w : Symbol) (y : Name) → IsHeld s y → Mentions p s w → Steps s w y
  mentions_there s w y h m = at (has_meaning st.new (Means p ds IsHeld s.home st.new) st.declaration st.fits m.name occurs)
    where
      st : Stands p ds IsHeld s y
      st = stands s y h

      same : m.declaration ≡ (stands s y h).declaration
      same = let d : p.item s ≡ Some m.declaration = m.declares in let e : p.item s ≡ Some (stands s y h).declaration = (stands s y h).item in cc

      occurs : Contains (occurrences (stands s y h).declaration) m.name
      occurs = subst (λ d. Contains (occurrences d) m.name) same m.occurs

      at : Means p ds IsHeld s.home (stands s y h).new m.name → Steps s w y
      at (of_symbol v den held) =
          let e : p.denotes s.home m.name ≡ Some w = m.denotes in
          let is : v ≡ w = cc in
          record {
            name = (stands s y h).new m.name;
            held = subst (λ z. IsHeld z ((stands s y h).new m.name)) is held;
            there = record {
              declaration = renamed_declaration (stands s y h).new (stands s y h).declaration;
              declares = (stands s y h).found;
              name = (stands s y h).new m.name;
              occurs = subst (λ l. Contains l ((stands s y h).new m.name)) (sym (of_declaration (stands s y h).new (Means p ds IsHeld s.home (stands s y h).new) (stands s y h).declaration (stands s y h).fits))
                  (in_map (stands s y h).new (occurrences (stands s y h).declaration) m.name occurs);
              denotes = ap (here_if ((stands s y h).new m.name)) (stands v ((stands s y h).new m.name) held).found;
            };
          }
      at (of_none den none stays) = let e : p.denotes s.home m.name ≡ Some w = m.denotes in absurd (cc)

  pub record StepsBack (s t : Symbol) : Type 0 where
    pub symbol : Symbol
    pub named : Named symbol t
    pub there : Mentions p s symbol

  mentions_back : (s t : Symbol) (y : Name) → IsHeld s y → Mentions (plain ds) (here y) t → StepsBack s t
  mentions_back s t y h m = at (has_meaning (stands s y h).new (Means p ds IsHeld s.home (stands s y h).new) (stands s y h).declaration (stands s y h).fits x c)
    where
      same : m.declaration ≡ renamed_declaration (stands s y h).new (stands s y h).declaration
      same = let d : find_decl y ds ≡ Some m.declaration = m.declares in let e : find_decl y ds ≡ Some (renamed_declaration (stands s y h).new (stands s y h).declaration) = (stands s y h).found in cc

      within : Contains (map (stands s y h).new (occurrences (stands s y h).declaration)) m.name
      within = subst (λ l. Contains l m.name) (of_declaration (stands s y h).new (Means p ds IsHeld s.home (stands s y h).new) (stands s y h).declaration (stands s y h).fits)
          (subst (λ d. Contains (occurrences d) m.name) same m.occurs)

      x : Name
      x = (from_map (stands s y h).new (occurrences (stands s y h).declaration) m.name within).0

      c : Contains (occurrences (stands s y h).declaration) x
      c = (from_map (stands s y h).new (occurrences (stands s y h).declaration) m.name within).1

      is : (stands s y h).new x ≡ m.name
      is = (from_map (stands s y h).new (occurrences (stands s y h).declaration) m.name within).2

      at : Means p ds IsHeld s.home (stands s y h).new x → StepsBack s t
      at (of_symbol v den held) =
          let e : here_if ((stands s y h).new x) (find_decl ((stands s y h).new x) ds) ≡ Some (here ((stands s y h).new x)) = ap (here_if ((stands s y h).new x)) (stands v ((stands s y h).new x) held).found in
          let f : here_if ((stands s y h).new x) (find_decl ((stands s y h).new x) ds) ≡ Some t = subst (λ z. here_if z (find_decl z ds) ≡ Some t) (sym is) m.denotes in
          let target : t ≡ here ((stands s y h).new x) = some_one (sym f ∙ e) in
          record {
            symbol = v;
            named = record { name = (stands s y h).new x; is = target; held = held };
            there = record { declaration = (stands s y h).declaration; declares = (stands s y h).item; name = x; occurs = c; denotes = den };
          }
      at (of_none den none stays) =
          let f : here_if m.name (find_decl m.name ds) ≡ Some t = m.denotes in
          let g : find_decl m.name ds ≡ None = subst (λ z. find_decl z ds ≡ None) (sym stays ∙ is) none in
          let k : here_if m.name None ≡ Some t = subst (λ o. here_if m.name o ≡ Some t) g f in
          absurd (cc)

  pub record ReachesThere (w : Symbol) (y : Name) : Type 0 where
    pub name : Name
    pub held : IsHeld w name
    pub there : Reaches (plain ds) (here y) (here name)

  reaches_there : (s w : Symbol) (y : Name) → IsHeld s y → Reaches p s w → ReachesThere w y
  reaches_there s w y h (mention m) = let a = mentions_there s w y h m in record { name = a.name; held = a.held; there = mention a.there }
  reaches_there s w y h (onward {t = u} m rest) =
      let a = mentions_there s u y h m in
      let b = reaches_there u w a.name a.held rest in
      record { name = b.name; held = b.held; there = onward a.there b.there }

  pub record ReachesBack (s u : Symbol) : Type 0 where
    pub symbol : Symbol
    pub named : Named symbol u
    pub there : Reaches p s symbol

  reaches_back : (s t u : Symbol) → Named s t → Reaches (plain ds) t u → ReachesBack s u
  reaches_back s t u n (mention m) = let a = mentions_back s u n.name n.held (subst (λ z. Mentions (plain ds) z u) n.is m) in record { symbol = a.symbol; named = a.named; there = mention a.there }
  reaches_back s t u n (onward {t = v} m rest) =
      let a = mentions_back s v n.name n.held (subst (λ z. Mentions (plain ds) z v) n.is m) in
      let b = reaches_back a.symbol v u a.named rest in
      record { symbol = b.symbol; named = b.named; there = onward a.there b.there }

  reach : (s w t u : Symbol) → Named s t → Named w u → Reaches p s w ↔ Reaches (plain ds) t u
  reach s w t u a b = (
    λ r. let k = reaches_there s w a.name a.held r in
        subst (λ z. Reaches (plain ds) z u) (sym a.is) (subst (λ z. Reaches (plain ds) (here a.name) z) (ap here (one_name w k.name b.name k.held b.held) ∙ sym b.is) k.there),
    λ r. let k = reaches_back s t u a r in subst (λ z. Reaches p s z) (other k.symbol w u k.named b) k.there,
  )

  -- ---- the start

  values_alike : (ss ts : List Symbol) → Both Named ss ts → Both Named (values_among p ss) (values_among (plain ds) ts)
  values_alike ss ts no_more = no_more
  values_alike ss ts (one_more {x = s} {y = t} {xs = ss'} {ys = ts'} n rest) = at (is_value (p.item s)) (is_value (find_decl t.called ds)) both (values_alike ss' ts' rest)
    where
      both : is_value (p.item s) ≡ is_value (find_decl t.called ds)
      both =
          ap is_value (stands s n.name n.held).item ∙ kind (stands s n.name n.held).new (stands s n.name n.held).declaration
          ∙ sym (ap is_value (ap (λ z. find_decl z.called ds) n.is ∙ (stands s n.name n.held).found))
        where
          kind : (new : Name → Name) (d : Decl) → is_value (Some d) ≡ is_value (Some (renamed_declaration new d))
          kind new (variable a k x ty e) = refl
          kind new (function a f ps r ty b) = refl

      at : (a b : Bool) → a ≡ b → Both Named (values_among p ss') (values_among (plain ds) ts')
          → Both Named (if a then s ∷ values_among p ss' else values_among p ss') (if b then t ∷ values_among (plain ds) ts' else values_among (plain ds) ts')
      at true true e more = one_more n more
      at false false e more = more
      at true false e more = absurd (cc)
      at false true e more = absurd (cc)

  in_order : (ss ts : List Symbol) → Both Named ss ts → InOrder p ds IsHeld stands ss ts
  in_order ss ts no_more = none_left
  in_order ss ts (one_more {x = s} {y = t} {xs = ss'} {ys = ts'} n rest) = subst (λ z. InOrder p ds IsHeld stands (s ∷ ss') (z ∷ ts')) (sym n.is) (next s n.name n.held (in_order ss' ts' rest))

  both_back : (ss ts : List Symbol) → Both Named ss ts → Both (λ t s. Named s t) ts ss
  both_back ss ts no_more = no_more
  both_back ss ts (one_more {xs = ss'} {ys = ts'} n rest) = one_more n (both_back ss' ts' rest)

  -- ---- runs

  module _ (held_lists : Both Named p.held (map (λ d. here (declared_name d)) ds)) (s : Symbol) (y : Name) (held : IsHeld s y) (handed : Handed) (n : ℕ) (answer : Option Instance) where
    all_values : Both Named (values_among p p.held) (values_among (plain ds) (map (λ d. here (declared_name d)) ds))
    all_values = values_alike p.held (map (λ d. here (declared_name d)) ds) held_lists

    pub ends_there : EndsWell p s handed n answer → EndsWell (plain ds) (here y) handed n answer
    ends_there e =
        let o : Ordered Named (Reaches p) (Reaches (plain ds)) one other reach (values_among p p.held) (values_among (plain ds) (map (λ d. here (declared_name d)) ds)) all_values e.order =
        ordered Named (Reaches p) (Reaches (plain ds)) one other reach (values_among p p.held) (values_among (plain ds) (map (λ d. here (declared_name d)) ds)) all_values e.order e.is_order in
        let r : Extends Fault Same (Option Instance) (Option Instance) Same (run p e.bound e.order s handed) (run (plain ds) e.bound o.corresponding (here y) handed) =
        runs_alike p ds IsHeld stands Forth forth apart e.bound e.order o.corresponding (in_order e.order o.corresponding o.in_order) s y held handed in
        let same : (allowed n).cells ≡ (allowed n).cells = refl in
        let left : (allowed n).left ≡ (allowed n).left = refl in
        let b : EndsLikewise Fault (Option Instance) (Option Instance) Same (λ l. e.last.left ≡ l) answer e.last (run (plain ds) e.bound o.corresponding (here y) handed (allowed n)) =
        subst (λ q. ExtendsAt Fault Same (Option Instance) (Option Instance) Same q (run (plain ds) e.bound o.corresponding (here y) handed (allowed n))) e.ends (r.from (allowed n) (allowed n) same left) in
        record { order = o.corresponding; is_order = o.is_order; bound = e.bound; last = b.state; ends = answered (run (plain ds) e.bound o.corresponding (here y) handed (allowed n)) b.answer answer b.state b.ends (sym b.alike) }

    pub ends_back : EndsWell (plain ds) (here y) handed n answer → EndsWell p s handed n answer
    ends_back e =
        let values : Both (λ t s. Named s t) (values_among (plain ds) (map (λ d. here (declared_name d)) ds)) (values_among p p.held) = both_back (values_among p p.held) (values_among (plain ds) (map (λ d. here (declared_name d)) ds)) all_values in
        let o : Ordered (λ t s. Named s t) (Reaches (plain ds)) (Reaches p) (λ t s w a b. other s w t a b) (λ t u s a b. one s t u a b) (λ t u s w a b. ((reach s w t u a b).1, (reach s w t u a b).0)) (values_among (plain ds) (map (λ d. here (declared_name d)) ds)) (values_among p p.held) values e.order =
        ordered (λ t s. Named s t) (Reaches (plain ds)) (Reaches p) (λ t s w a b. other s w t a b) (λ t u s a b. one s t u a b) (λ t u s w a b. ((reach s w t u a b).1, (reach s w t u a b).0)) (values_among (plain ds) (map (λ d. here (declared_name d)) ds)) (values_among p p.held) values e.order e.is_order in
        let r : Extends Fault Same (Option Instance) (Option Instance) (λ b a. a ≡ b) (run (plain ds) e.bound e.order (here y) handed) (run p e.bound o.corresponding s handed) =
        runs_alike p ds IsHeld stands Back back apart e.bound o.corresponding e.order (in_order o.corresponding e.order (forward e.order o.corresponding o.in_order)) s y held handed in
        let same : (allowed n).cells ≡ (allowed n).cells = refl in
        let left : (allowed n).left ≡ (allowed n).left = refl in
        let b : EndsLikewise Fault (Option Instance) (Option Instance) (λ b a. a ≡ b) (λ l. e.last.left ≡ l) answer e.last (run p e.bound o.corresponding s handed (allowed n)) =
        subst (λ q. ExtendsAt Fault Same (Option Instance) (Option Instance) (λ b a. a ≡ b) q (run p e.bound o.corresponding s handed (allowed n))) e.ends (r.from (allowed n) (allowed n) same left) in
        record { order = o.corresponding; is_order = o.is_order; bound = e.bound; last = b.state; ends = answered (run p e.bound o.corresponding s handed (allowed n)) b.answer answer b.state b.ends b.alike }
      where
        forward : (ts ss : List Symbol) → Both (λ t s. Named s t) ts ss → Both Named ss ts
        forward ts ss no_more = no_more
        forward ts ss (one_more {xs = ts'} {ys = ss'} m rest) = one_more m (forward ts' ss' rest)
