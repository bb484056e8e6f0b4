-- A list with one element changed, and a value with one part changed.
use Rattle.std.proofs.Common.{◌≡◌, refl, sym, ap, ◌∙◌, subst, ℕ, ◌<◌, ◌≤◌, Bool, List, [], ◌∷◌, length, get_or, Option, Some, None}
use Rattle.std.specs.Prelude.{slice_get, slice_set, unwrap_or, option_and_then}
use Rattle.std.specs.Option.{is_some}
use Rattle.std.proofs.lemmas.Option.{slice_get_read, slice_get_past}
use Rattle.std.proofs.lemmas.List.{set-get_or}
use Rattle.wgsl_shader_type.specs.declared.literal.LiteralInstance.{LiteralInstance}
use Rattle.wgsl_instance.specs.declared.tree.StructInstanceOf.{StructInstanceOf}
use Rattle.wgsl_instance.specs.declared.tree.ArrayInstanceOf.{ArrayInstanceOf}
use Rattle.wgsl_instance.specs.declared.tree.VecInstance.{VecInstance}
use Rattle.wgsl_instance.specs.declared.tree.Step.{Step}
use Rattle.wgsl_instance.specs.declared.tree.Step.TheVariants.{Member, Element, Component}
use Rattle.wgsl_instance.specs.declared.tree.Instance.{Instance, roll-Instance, out-Instance, roll-out-Instance}
use Rattle.wgsl_instance.specs.declared.tree.Instance.TheVariants as v
use Rattle.wgsl_instance.specs.declared.tree.Instance.TheOpen.{Instance-F}
use Rattle.wgsl_memory.specs.Places.{scalar_layer, put_scalar, changed, changed_from, set_to, put_at_path, put_layer, change_literal, literal_layer, literal_of, in_vector}

module _ {A : Type 0} (F : A → Option A) (xs : List A) (i : ℕ) where
  pub changed_past : length xs ≤ i → changed F i xs ≡ None
  changed_past past = ap (changed_from F xs i) (slice_get_past xs i past)

  pub changed_within : (x : A) → slice_get xs i ≡ Some x → changed F i xs ≡ set_to xs i (F x)
  changed_within x e = ap (changed_from F xs i) e

  set_some : (o : Option A) → is_some o ≡ is_some (set_to xs i o)
  set_some (Some y) = refl
  set_some None = refl

  pub there_within : (n : ℕ) (x : A) (b : Bool) → n ≡ length xs → i < n → x ≡ get_or xs i x → b ≡ is_some (F x) → b ≡ is_some (changed F i xs)
  there_within n x b is within read h = h ∙ set_some (F x) ∙ ap is_some (sym (changed_within x (slice_get_read xs n i x is within read)))

  set_value : (x : A) (o : Option A) → x ≡ get_or xs i x → slice_set xs i (unwrap_or o x) ≡ unwrap_or (set_to xs i o) xs
  set_value x (Some y) read = refl
  set_value x None read = ap (slice_set xs i) read ∙ set-get_or xs i x

  pub value_within : (n : ℕ) (x new : A) → n ≡ length xs → i < n → x ≡ get_or xs i x → new ≡ unwrap_or (F x) x → slice_set xs i new ≡ unwrap_or (changed F i xs) xs
  value_within n x new is within read h =
      ap (slice_set xs i) h ∙ set_value x (F x) read ∙ ap (λ o. unwrap_or o xs) (sym (changed_within x (slice_get_read xs n i x is within read)))

changed_alike : {A : Type 0} (F G : A → Option A) (xs : List A) (i : ℕ) → ((x : A) → F x ≡ G x) → (o : Option A) → changed_from F xs i o ≡ changed_from G xs i o
changed_alike F G xs i e (Some x) = ap (set_to xs i) (e x)
changed_alike F G xs i e None = refl

-- a component that becomes a known scalar
scalar_put : (i : ℕ) (F : Instance → Option Instance) (o : Option LiteralInstance) → ((x : LiteralInstance) → change_literal F x ≡ o) → (x : Instance-F Instance) → put_layer F (Component i) x ≡ scalar_layer i o x
scalar_put i F o e (Instance-F.Vec w) = ap (in_vector w) (changed_alike (change_literal F) (λ _. o) w.components i e (slice_get w.components i))
scalar_put i F o e x = refl

pub component_put : (i : ℕ) (path : List Step) (new whole : Instance) (o : Option LiteralInstance)
    → ((x : LiteralInstance) → change_literal (put_at_path path new) x ≡ o) → put_at_path (Component i ∷ path) new whole ≡ put_scalar i o whole
component_put i path new whole o e = scalar_put i (put_at_path path new) o e (out-Instance whole)

-- a scalar has no parts
deeper : (step : Step) (F : Instance → Option Instance) (x : LiteralInstance) → put_layer F step (out-Instance (v.Literal x)) ≡ None
deeper (Member i) F x = ap (put_layer F (Member i)) (v.outs-Literal x)
deeper (Element i) F x = ap (put_layer F (Element i)) (v.outs-Literal x)
deeper (Component i) F x = ap (put_layer F (Component i)) (v.outs-Literal x)

pub no_deeper : (path : List Step) (new : Instance) (x : LiteralInstance) (step : Step) (rest : List Step) → path ≡ step ∷ rest → change_literal (put_at_path path new) x ≡ None
no_deeper path new x step rest e = (λ k. change_literal (put_at_path (e k) new) x) ∙ ap (option_and_then literal_of) (deeper step (put_at_path rest new) x)

pub scalar_there : (path : List Step) (new : Instance) (x : LiteralInstance) → path ≡ [] → change_literal (put_at_path path new) x ≡ literal_of new
scalar_there path new x e = λ k. change_literal (put_at_path (e k) new) x

-- a step that a value hasn't
member_of : (F : Instance → Option Instance) (i : ℕ) (x : Instance-F Instance) → ((s : StructInstanceOf Instance) → roll-Instance x ≡ v.Struct s → ⊥) → put_layer F (Member i) x ≡ None
member_of F i (Instance-F.Struct s) other = absurd (other s (v.rolls-Struct s))
member_of F i x other = refl

pub no_member : (path : List Step) (new whole : Instance) (i : ℕ) → ((s : StructInstanceOf Instance) → whole ≡ v.Struct s → ⊥) → put_at_path (Member i ∷ path) new whole ≡ None
no_member path new whole i other = member_of (put_at_path path new) i (out-Instance whole) (λ s e. other s (sym (roll-out-Instance whole) ∙ e))

element_of : (F : Instance → Option Instance) (i : ℕ) (x : Instance-F Instance) → ((a : ArrayInstanceOf Instance) → roll-Instance x ≡ v.Array a → ⊥) → put_layer F (Element i) x ≡ None
element_of F i (Instance-F.Array a) other = absurd (other a (v.rolls-Array a))
element_of F i x other = refl

pub no_element : (path : List Step) (new whole : Instance) (i : ℕ) → ((a : ArrayInstanceOf Instance) → whole ≡ v.Array a → ⊥) → put_at_path (Element i ∷ path) new whole ≡ None
no_element path new whole i other = element_of (put_at_path path new) i (out-Instance whole) (λ a e. other a (sym (roll-out-Instance whole) ∙ e))
