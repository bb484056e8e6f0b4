-- What stands at the places of loaded modules.
use Rattle.std.specs.Prelude.{◌∷◌, [], Bool, true, false, if◌then◌else◌, slice_get}
use Rattle.std.specs.Option.{option_map}
use Rattle.std.specs.Str.{bytes_eq}
use Rattle.std.proofs.Common.{◌≡◌, refl, subst, ℕ, Option, Some, None}
use Rattle.std.proofs.lemmas.Slice.Eq.{bytes_eq-Decides}
use Rattle.std.proofs.lemmas.Option.{none-some}
use Rattle.wesl_chains.specs.Outlines.{Name, Path, Entry, Outline}
use Rattle.wesl_chains.proofs.Loops.{same_some}
use Rattle.wesl_linking_spec.specs.Outlining.{outline_of}
use Rattle.wesl_linking_spec.specs.Sources.{canonical, Modules, unit_at, finder}
use Rattle.wesl_linking_spec.specs.Written.{Mangler, entry_printed, printed_in, printed}

module _ (P : Path → ℕ → Outline → Entry → Type 0) where
  abbrev EachOf : Path → Outline → Type 0
  EachOf m o = (k : ℕ) (e : Entry) → slice_get o.entries k ≡ Some e → P m k o e

  -- it is true of each place of these modules
  abbrev pub EachPlace : Modules → Type 0
  EachPlace [] = Unit {0}
  EachPlace (x ∷ ms) = EachOf x.0 (outline_of (canonical x.0) x.1) × EachPlace ms

  in_module : (ms : Modules) → EachPlace ms → (m : Path) (o : Outline) → finder ms m ≡ Some o → EachOf m o
  in_module [] each m o h = absurd (none-some o h)
  in_module (x ∷ ms) each m o h = at (bytes_eq x.0 m) refl h (in_module ms each.1 m o)
    where
      at : (b : Bool) → bytes_eq x.0 m ≡ b → option_map (outline_of (canonical m)) (if b then Some x.1 else unit_at ms m) ≡ Some o → (finder ms m ≡ Some o → EachOf m o) → EachOf m o
      at true same found on =
          let is : x.0 ≡ m = (bytes_eq-Decides x.0 m).0 same in
          subst (EachOf m) (same_some found) (subst (λ y. EachOf y (outline_of (canonical y) x.1)) is each.0)
      at false other found on = on found

  pub at_place : (ms : Modules) → EachPlace ms → (m : Path) (o : Outline) (k : ℕ) (e : Entry) → finder ms m ≡ Some o → slice_get o.entries k ≡ Some e → P m k o e
  at_place ms each m o k e h stands = in_module ms each m o h k e stands

-- where there is a printed name, something stands that has it
pub record Printed (ms : Modules) (root : Path) (mangler : Mangler) (m : Path) (k : ℕ) (y : Name) : Type 0 where
  pub outline : Outline
  pub entry : Entry
  pub is_module : finder ms m ≡ Some outline
  pub stands_there : slice_get outline.entries k ≡ Some entry
  pub its_name : entry_printed ms root mangler m outline.path (Some entry) ≡ Some y

pub printed_there : (ms : Modules) (root : Path) (mangler : Mangler) (m : Path) (k : ℕ) (y : Name) → printed ms root mangler m k ≡ Some y → Printed ms root mangler m k y
printed_there ms root mangler m k y is = at (finder ms m) refl is
  where
    inside : (o : Outline) → finder ms m ≡ Some o → (x : Option Entry) → slice_get o.entries k ≡ x → entry_printed ms root mangler m o.path x ≡ Some y → Printed ms root mangler m k y
    inside o h None stands named = absurd (none-some y named)
    inside o h (Some e) stands named = record { outline = o; entry = e; is_module = h; stands_there = stands; its_name = named }

    at : (x : Option Outline) → finder ms m ≡ x → printed_in ms root mangler m x k ≡ Some y → Printed ms root mangler m k y
    at None h named = absurd (none-some y named)
    at (Some o) h named = inside o h (slice_get o.entries k) refl named
