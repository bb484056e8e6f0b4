-- Seeking what was asked for in newly loaded modules.
use Rattle.std.proofs.Common.{◌≡◌, refl, sym, ap, ◌∙◌, subst, zero, ◌⊎◌, inl, inr, ⊎_elim, Bool, true, List, [], ◌∷◌, map, Option, Some, None}
use Rattle.std.specs.Option.{option_map}
use Rattle.std.specs.List.{Contains}
use Rattle.std.proofs.lemmas.List.{append-nil}
use Rattle.wgsl_base.proofs.Members.{later_in, to_contains}
use Rattle.core_link_spec.specs.Occurrences.{Name}
use Rattle.core_link_spec.specs.Modules.{Path, Symbol}
use Rattle.core_scopes.specs.declared.denote.Symbol.{Symbol as Place}
use Rattle.core_scopes.specs.declared.denote.Item.{Item}
use Rattle.core_scopes.specs.declared.denote.Item.TheVariants as item
use Rattle.core_scopes.specs.Meanings.{Known, declared, imported, bare, known}
use Rattle.core_scopes.specs.Outcomes.{unloaded, item_in, item_at, item_outcome, home_of, loaded}
use Rattle.core_reach.specs.declared.linking.Linking.{Linking}
use Rattle.core_reach.specs.Closing.{HeldNames}
use Rattle.core_reach.specs.Following.{Stage, Handled, Moves}
use Rattle.core_reach.specs.Stages.{place_of, stage}
use Rattle.core_reach.specs.Underway.{IsSought}
use Rattle.core_reach.proofs.FollowLemmas.{handled_moves}
use Rattle.core_reach.proofs.PresentLemmas.{DoneBut}

pub moves_missing : (held : HeldNames) (asked : Symbol → Bool) (missing : Bool) (reached : List Place) → Moves (stage held asked missing reached) (stage held asked true reached)
moves_missing held asked missing reached = record {
  stays_held = λ m k h. h;
  stays_asked = λ s h. h;
  stays_missing = λ h. refl;
  more = [];
  behind = sym (append-nil (map place_of reached));
  tracked = λ m k h. inl h;
}

in_loaded : (m : Path) (u v : Symbol) (o : Option Known) → unloaded v ≡ item_in m u o → ⊥
in_loaded m u v None e = absurd (cc)
in_loaded m u v (Some (declared j)) e = absurd (cc)
in_loaded m u v (Some (imported w)) e = absurd (cc)
in_loaded m u v (Some (bare w)) e = absurd (cc)

-- what is not declared where it is sought is noted
pub unfound_sought : (l : Linking) (t : Stage) (home : Path) (x : Name) (i : Item) → (i ≡ item.Imported) ⊎ ((i ≡ item.Absent) ⊎ (i ≡ item.Unloaded))
    → item_outcome (record { home = home; name = x }) i ≡ item_at (record { home = home; name = x }) (loaded l.modules.now home) → t.is_missing ≡ true → IsSought l t home x
unfound_sought l t home x i cases is sure m there = ⊎_elim
    (λ e. subst (Handled t) (ap (item_outcome u) (sym e) ∙ is) sure)
    (λ more. ⊎_elim
    (λ e. subst (Handled t) (ap (item_outcome u) (sym e) ∙ is) sure)
    (λ e. absurd (in_loaded (home_of m).0 u u (known (home_of m).1 x) (ap (item_outcome u) (sym e) ∙ is ∙ ap (λ o. item_at u (option_map home_of o)) there)))
    more)
    cases
  where
    u : Symbol
    u = record { home = home; name = x }

pub sought_moves : (l : Linking) (s t : Stage) (home : Path) (x : Name) → Moves s t → IsSought l s home x → IsSought l t home x
sought_moves l s t home x moves sought m there = handled_moves s t (item_at (record { home = home; name = x }) (loaded l.modules.now home)) moves (sought m there)

-- ---- what is left to seek

pub done_more : {A : Type 0} (P Q : A → Type 0) (left all : List A) → ((x : A) → P x → Q x) → DoneBut P left all → DoneBut Q left all
done_more P Q left all more done x c = ⊎_elim (λ p. inl (more x p)) (λ l. inr l) (done x c)

abbrev pub AreAmong : {A : Type 0} → List A → List A → Type 0
AreAmong {A} left all = (x : A) → Contains left x → Contains all x

pub first_among : {A : Type 0} (left rest all : List A) (y : A) → left ≡ y ∷ rest → AreAmong left all → Contains all y
first_among left rest all y e among = among y (subst (λ l. Contains l y) (sym e) (to_contains (y ∷ rest) zero y refl))

pub rest_among : {A : Type 0} (left rest all : List A) (y : A) → left ≡ y ∷ rest → AreAmong left all → AreAmong rest all
rest_among left rest all y e among x c = among x (subst (λ l. Contains l x) (sym e) (later_in x y rest c))
