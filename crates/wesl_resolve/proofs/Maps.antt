-- A map by text in which one entry is set.
use Rattle.std.proofs.Common.{◌≡◌, ℕ, Bool, true, false, List, Option, refl, sym, ap, ◌∙◌}
use Rattle.std.specs.Bool.{if◌then◌else◌}
use Rattle.std.specs.Str.{bytes_eq}
use Rattle.std.specs.String.{string_bytes, string_eq}
use Rattle.std.specs.declared.string.String.{String}
use Rattle.std.specs.declared.alloc.Global.{Global}
use Rattle.std.specs.HashMap.{HashMap, get_by_text, Updates}
use Rattle.std.proofs.lemmas.Map.Text.{hash_map_updates_text}
use Rattle.wesl_resolve.specs.SourceMaps.{IsSet}

module _ {A B : Type 0} (f : Option A → Option B) where
  of_if : (b : Bool) (x y : Option A) → f (if b then x else y) ≡ (if b then f x else f y)
  of_if true x y = refl
  of_if false x y = refl

  -- whatever is read of the entries
  pub set_by_insert : {S : Type 0} (old new : HashMap (String Global) A S) (key : String Global) (x : List ℕ) (value : Option A) → string_bytes key ≡ x → Updates string_eq old new key value
      → IsSet (λ y. f (get_by_text old y)) x (f value) (λ y. f (get_by_text new y))
  set_by_insert old new key x value is updates y =
      let at = hash_map_updates_text (string_bytes key) old new value updates y in
      let moved = ap f at ∙ of_if (bytes_eq (string_bytes key) y) value (get_by_text old y) in
      rw (sym is) moved
