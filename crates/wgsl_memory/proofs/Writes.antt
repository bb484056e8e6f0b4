-- What a write leaves: the value at its place, and every place apart from it.
use Rattle.std.proofs.Common.{◌≡◌, ◌≢◌, refl, sym, ap, ◌∙◌, subst, ℕ, ◌<◌, ◌≤◌, ◌==◌, Bool, true, false, cond, List, [], ◌∷◌, ◌++◌, length, get_or, Option, Some, None, Result, Ok, Err, ◌⊎◌, inl, inr, true≢false}
use Rattle.std.specs.Prelude.{slice_get, slice_set, option_and_then}
use Rattle.std.specs.Option.{is_some}
use Rattle.std.specs.Result.{is_ok}
use Rattle.std.specs.Bool.{Decides}
use Rattle.std.specs.Cmp.{unsigned_Decides}
use Rattle.std.proofs.lemmas.Option.{slice_get_past, slice_get_within, slice_get-get_or}
use Rattle.std.proofs.lemmas.List.{length-set, get_or-set_same, get_or-set_other}
use Rattle.std.proofs.lemmas.Bool.{cases_lt}
use Rattle.wgsl_shader_type.specs.declared.error.Error.{Error}
use Rattle.wgsl_shader_type.specs.declared.error.Error.TheVariants.{NotRead, NotWrite}
use Rattle.wgsl_shader_type.specs.declared.literal.LiteralInstance.{LiteralInstance}
use Rattle.wgsl_instance.specs.declared.tree.StructInstanceOf.{StructInstanceOf}
use Rattle.wgsl_instance.specs.declared.tree.ArrayInstanceOf.{ArrayInstanceOf}
use Rattle.wgsl_instance.specs.declared.tree.VecInstance.{VecInstance}
use Rattle.wgsl_instance.specs.declared.tree.RefInstance.{RefInstance}
use Rattle.wgsl_instance.specs.declared.tree.Step.{Step}
use Rattle.wgsl_instance.specs.declared.tree.Step.TheVariants.{Member, Element, Component}
use Rattle.wgsl_instance.specs.declared.tree.Instance.{Instance, roll-Instance, out-Instance, roll-out-Instance, out-roll-Instance}
use Rattle.wgsl_instance.specs.declared.tree.Instance.TheVariants as v
use Rattle.wgsl_instance.specs.declared.tree.Instance.TheOpen.{Instance-F}
use Rattle.wgsl_instance.specs.contracts.tree.StepPartialEq.TheImpl as step
use Rattle.wgsl_instance.specs.Equality.{steps_decide}
use Rattle.wgsl_instance.specs.Answer.{or_error}
use Rattle.wgsl_memory.specs.Places.{as_literal, literal_layer, literal_of, changed, changed_from, set_to, in_struct, in_array, in_vector, change_literal, put_layer, put_at_path, part, part_layer, at_path, place, put_place, no_place, is_write, has_stored_type, type_fault, written, written_value, read_value, loaded, loaded_layer, is_read}
use Rattle.wgsl_memory.specs.Laws.{WrittenIsThere, OthersStay, LoadedTwiceIsOnce, IsBeginning, AreApart, IsNoReference, HoldsNoReference}

-- ---- plain facts

nothing : {A G : Type 0} (x : A) → None ≡ Some x → G
nothing x h = absurd (true≢false (sym (ap is_some h)))

inside : {A : Type 0} (x y : A) → Some x ≡ Some y → x ≡ y
inside x y h = cc

abbrev IsOkOf : {A : Type 0} → Result A Error → A → Type 0
IsOkOf r x = r ≡ Ok x

same_ok : {A : Type 0} (x y : A) → IsOkOf (Ok x) y → x ≡ y
same_ok x y h = cc

not_ok : {A G : Type 0} (e : Error) (y : A) → IsOkOf (Err e) y → G
not_ok e y h = absurd (true≢false (sym (ap is_ok h)))

abbrev is_reference : {A : Type 0} → Instance-F A → Bool
is_reference (Instance-F.Ref r) = true
is_reference x = false

other : (z : Instance-F Instance) (r : RefInstance) → roll-Instance z ≡ v.Ref r → is_reference z ≡ false → ⊥
other z r e h = true≢false (sym (ap is_reference (v.outs-Ref r)) ∙ ap (λ x. is_reference (out-Instance x)) (sym e) ∙ ap is_reference (out-roll-Instance z) ∙ h)

decided : {P : Type 0} (b : Bool) → Decides b P → P ⊎ (P → ⊥)
decided true d = inl (d.0 refl)
decided false d = inr (λ p. true≢false (sym (d.1 p)))

steps_equal : (a b : Step) → (a ≡ b) ⊎ (a ≢ b)
steps_equal a b = decided (step.eq-value.it a b) (steps_decide a b)

numbers_equal : (a b : ℕ) → (a ≡ b) ⊎ (a ≢ b)
numbers_equal a b = decided (a == b) (unsigned_Decides a b)

-- ---- a list after a change of one element

module _ {A : Type 0} (xs : List A) (i : ℕ) (y : A) where
  pub get_same : i < length xs → slice_get (slice_set xs i y) i ≡ Some y
  get_same within =
      slice_get-get_or (slice_set xs i y) i y (subst (λ n. i < n) (sym (length-set xs i y)) within)
      ∙ ap Some (get_or-set_same xs i y y within)

  pub get_other : (j : ℕ) → j ≢ i → slice_get (slice_set xs i y) j ≡ slice_get xs j
  get_other j other = by_range (cases_lt j (length xs))
    where
      by_range : (j < length xs) ⊎ (length xs ≤ j) → slice_get (slice_set xs i y) j ≡ slice_get xs j
      by_range (inl within) =
          slice_get-get_or (slice_set xs i y) j y (subst (λ n. j < n) (sym (length-set xs i y)) within)
          ∙ ap Some (get_or-set_other xs i j y y other)
          ∙ sym (slice_get-get_or xs j y within)
      by_range (inr past) = slice_get_past (slice_set xs i y) j (subst (λ n. n ≤ j) (sym (length-set xs i y)) past) ∙ sym (slice_get_past xs j past)

-- what a change made: of which element, and what
record Change {A : Type 0} (F : A → Option A) (xs : List A) (i : ℕ) (ys : List A) : Type 0 where
  old : A
  new : A
  there : slice_get xs i ≡ Some old
  made : F old ≡ Some new
  is : ys ≡ slice_set xs i new

change_of : {A : Type 0} (F : A → Option A) (xs ys : List A) (i : ℕ) → changed F i xs ≡ Some ys → Change F xs i ys
change_of {A} F xs ys i h = at_element (slice_get xs i) refl h
  where
    set_from : (x : A) → slice_get xs i ≡ Some x → (o : Option A) → F x ≡ o → set_to xs i o ≡ Some ys → Change F xs i ys
    set_from x e (Some y) f h = record { old = x; new = y; there = e; made = f; is = sym (inside (slice_set xs i y) ys h) }
    set_from x e None f h = nothing ys h

    at_element : (o : Option A) → slice_get xs i ≡ o → changed_from F xs i o ≡ Some ys → Change F xs i ys
    at_element (Some x) e h = set_from x e (F x) refl h
    at_element None e h = nothing ys h

-- ---- a value after a change of one part

-- what a change of a part made
record Put (F : Instance → Option Instance) (step : Step) (whole made : Instance) : Type 0 where
  old : Instance
  new : Instance
  there : part step whole ≡ Some old
  changes : F old ≡ Some new
  now_there : part step made ≡ Some new
  others : (other : Step) → other ≢ step → part other made ≡ part other whole

-- the value that holds a scalar
scalar_is : (x : Instance) (c : LiteralInstance) → literal_of x ≡ Some c → x ≡ v.Literal c
scalar_is x c h = sym (roll-out-Instance x) ∙ by_layer (out-Instance x) h
  where
    by_layer : (y : Instance-F Instance) → literal_layer y ≡ Some c → roll-Instance y ≡ v.Literal c
    by_layer (Instance-F.Literal d) h = v.rolls-Literal d ∙ ap v.Literal (inside d c h)
    by_layer (Instance-F.Struct s) h = nothing c h
    by_layer (Instance-F.Array s) h = nothing c h
    by_layer (Instance-F.Vec s) h = nothing c h
    by_layer (Instance-F.Ptr s) h = nothing c h
    by_layer (Instance-F.Ref s) h = nothing c h
    by_layer (Instance-F.Deferred s) h = nothing c h

record Scalar (F : Instance → Option Instance) (old new : LiteralInstance) : Type 0 where
  value : Instance
  made : F (v.Literal old) ≡ Some value
  is : value ≡ v.Literal new

scalar_change : (F : Instance → Option Instance) (old new : LiteralInstance) → change_literal F old ≡ Some new → Scalar F old new
scalar_change F old new h = from_option (F (v.Literal old)) refl h
  where
    from_option : (o : Option Instance) → F (v.Literal old) ≡ o → option_and_then literal_of o ≡ Some new → Scalar F old new
    from_option (Some y) e h = record { value = y; made = e; is = scalar_is y new h }
    from_option None e h = nothing new h

part_rolled : (step : Step) (x : Instance-F Instance) → part step (roll-Instance x) ≡ part_layer step x
part_rolled step x = ap (part_layer step) (out-roll-Instance x)

-- steps of one kind at other positions
member_other : (i j : ℕ) → Member j ≢ Member i → j ≢ i
member_other i j other e = other (ap Member e)

element_other : (i j : ℕ) → Element j ≢ Element i → j ≢ i
element_other i j other e = other (ap Element e)

component_other : (i j : ℕ) → Component j ≢ Component i → j ≢ i
component_other i j other e = other (ap Component e)

struct_put : (F : Instance → Option Instance) (i : ℕ) (s : StructInstanceOf Instance) (xs : List Instance) → Change F s.members i xs
    → Put F (Member i) (roll-Instance (Instance-F.Struct s)) (v.Struct (record { ty = s.ty; members = xs }))
struct_put F i s xs c = record {
  old = c.old;
  new = c.new;
  there = part_rolled (Member i) (Instance-F.Struct s) ∙ c.there;
  changes = c.made;
  now_there = at_new (Member i) ∙ ap (λ ys. slice_get ys i) c.is ∙ get_same s.members i c.new (slice_get_within s.members i c.old c.there);
  others = λ step other. at_new step ∙ by_step step other ∙ sym (part_rolled step (Instance-F.Struct s));
}
  where
    at_new : (step : Step) → part step (v.Struct (record { ty = s.ty; members = xs })) ≡ part_layer step (Instance-F.Struct (record { ty = s.ty; members = xs }))
    at_new step = ap (part_layer step) (v.outs-Struct (record { ty = s.ty; members = xs }))

    by_step : (step : Step) → step ≢ Member i → part_layer step (Instance-F.Struct (record { ty = s.ty; members = xs })) ≡ part_layer step (Instance-F.Struct s)
    by_step (Member j) other = ap (λ ys. slice_get ys j) c.is ∙ get_other s.members i c.new j (member_other i j other)
    by_step (Element j) other = refl
    by_step (Component j) other = refl

array_put : (F : Instance → Option Instance) (i : ℕ) (a : ArrayInstanceOf Instance) (xs : List Instance) → Change F a.components i xs
    → Put F (Element i) (roll-Instance (Instance-F.Array a)) (v.Array (record { element = a.element; components = xs; runtime_sized = a.runtime_sized }))
array_put F i a xs c = record {
  old = c.old;
  new = c.new;
  there = part_rolled (Element i) (Instance-F.Array a) ∙ c.there;
  changes = c.made;
  now_there = at_new (Element i) ∙ ap (λ ys. slice_get ys i) c.is ∙ get_same a.components i c.new (slice_get_within a.components i c.old c.there);
  others = λ step other. at_new step ∙ by_step step other ∙ sym (part_rolled step (Instance-F.Array a));
}
  where
    at_new : (step : Step) → part step (v.Array (record { element = a.element; components = xs; runtime_sized = a.runtime_sized }))
        ≡ part_layer step (Instance-F.Array (record { element = a.element; components = xs; runtime_sized = a.runtime_sized }))
    at_new step = ap (part_layer step) (v.outs-Array (record { element = a.element; components = xs; runtime_sized = a.runtime_sized }))

    by_step : (step : Step) → step ≢ Element i
        → part_layer step (Instance-F.Array (record { element = a.element; components = xs; runtime_sized = a.runtime_sized })) ≡ part_layer step (Instance-F.Array a)
    by_step (Element j) other = ap (λ ys. slice_get ys j) c.is ∙ get_other a.components i c.new j (element_other i j other)
    by_step (Member j) other = refl
    by_step (Component j) other = refl

vector_put : (F : Instance → Option Instance) (i : ℕ) (w : VecInstance) (xs : List LiteralInstance) → Change (change_literal F) w.components i xs
    → Put F (Component i) (roll-Instance (Instance-F.Vec w)) (v.Vec (record { ty = w.ty; components = xs }))
vector_put F i w xs c = record {
  old = v.Literal c.old;
  new = made.value;
  there = part_rolled (Component i) (Instance-F.Vec w) ∙ ap as_literal c.there;
  changes = made.made;
  now_there = at_new (Component i) ∙ ap (λ ys. as_literal (slice_get ys i)) c.is
      ∙ ap as_literal (get_same w.components i c.new (slice_get_within w.components i c.old c.there)) ∙ ap Some (sym made.is);
  others = λ step other. at_new step ∙ by_step step other ∙ sym (part_rolled step (Instance-F.Vec w));
}
  where
    made : Scalar F c.old c.new
    made = scalar_change F c.old c.new c.made

    at_new : (step : Step) → part step (v.Vec (record { ty = w.ty; components = xs })) ≡ part_layer step (Instance-F.Vec (record { ty = w.ty; components = xs }))
    at_new step = ap (part_layer step) (v.outs-Vec (record { ty = w.ty; components = xs }))

    by_step : (step : Step) → step ≢ Component i → part_layer step (Instance-F.Vec (record { ty = w.ty; components = xs })) ≡ part_layer step (Instance-F.Vec w)
    by_step (Component j) other = ap (λ ys. as_literal (slice_get ys j)) c.is ∙ ap as_literal (get_other w.components i c.new j (component_other i j other))
    by_step (Member j) other = refl
    by_step (Element j) other = refl

-- a put, from the change of the list that it is
by_struct : (F : Instance → Option Instance) (i : ℕ) (s : StructInstanceOf Instance) (made : Instance) (o : Option (List Instance)) → changed F i s.members ≡ o → in_struct s o ≡ Some made
    → Put F (Member i) (roll-Instance (Instance-F.Struct s)) made
by_struct F i s made (Some xs) e h = subst (Put F (Member i) (roll-Instance (Instance-F.Struct s))) (inside (v.Struct (record { ty = s.ty; members = xs })) made h) (struct_put F i s xs (change_of F s.members xs i e))
by_struct F i s made None e h = nothing made h

by_array : (F : Instance → Option Instance) (i : ℕ) (a : ArrayInstanceOf Instance) (made : Instance) (o : Option (List Instance)) → changed F i a.components ≡ o → in_array a o ≡ Some made
    → Put F (Element i) (roll-Instance (Instance-F.Array a)) made
by_array F i a made (Some xs) e h =
    subst (Put F (Element i) (roll-Instance (Instance-F.Array a))) (inside (v.Array (record { element = a.element; components = xs; runtime_sized = a.runtime_sized })) made h) (array_put F i a xs (change_of F a.components xs i e))
by_array F i a made None e h = nothing made h

by_vector : (F : Instance → Option Instance) (i : ℕ) (w : VecInstance) (made : Instance) (o : Option (List LiteralInstance)) → changed (change_literal F) i w.components ≡ o → in_vector w o ≡ Some made
    → Put F (Component i) (roll-Instance (Instance-F.Vec w)) made
by_vector F i w made (Some xs) e h =
    subst (Put F (Component i) (roll-Instance (Instance-F.Vec w))) (inside (v.Vec (record { ty = w.ty; components = xs })) made h) (vector_put F i w xs (change_of (change_literal F) w.components xs i e))
by_vector F i w made None e h = nothing made h

put_rolled : (F : Instance → Option Instance) (step : Step) (x : Instance-F Instance) (made : Instance) → put_layer F step x ≡ Some made → Put F step (roll-Instance x) made
put_rolled F (Member i) (Instance-F.Struct s) made h = by_struct F i s made (changed F i s.members) refl h
put_rolled F (Element i) (Instance-F.Array a) made h = by_array F i a made (changed F i a.components) refl h
put_rolled F (Component i) (Instance-F.Vec w) made h = by_vector F i w made (changed (change_literal F) i w.components) refl h
put_rolled F step x made h = nothing made h

put_of : (F : Instance → Option Instance) (step : Step) (whole made : Instance) → put_layer F step (out-Instance whole) ≡ Some made → Put F step whole made
put_of F step whole made h = subst (λ x. Put F step x made) (roll-out-Instance whole) (put_rolled F step (out-Instance whole) made h)

-- ---- paths

pub put_there : (path : List Step) (new whole made : Instance) → put_at_path path new whole ≡ Some made → at_path path made ≡ Some new
put_there [] new whole made h = sym h
put_there (step ∷ path) new whole made h =
    let p = put_of (put_at_path path new) step whole made h in
    ap (option_and_then (at_path path)) p.now_there ∙ put_there path new p.old p.new p.changes

deeper : (step : Step) (path path' : List Step) → (IsBeginning (step ∷ path) (step ∷ path') → ⊥) → IsBeginning path path' → ⊥
deeper step path path' apart b = apart (b.0, ap (λ p. step ∷ p) b.1)

-- past one step, where what is shown of shorter paths is given
step_apart : (F : Instance → Option Instance) (step step' : Step) (path : List Step) (whole made : Instance) (p : Put F step whole made)
    → (step' ≡ step → at_path path p.new ≡ at_path path p.old) → (step' ≡ step) ⊎ (step' ≢ step)
    → option_and_then (at_path path) (part step' made) ≡ option_and_then (at_path path) (part step' whole)
step_apart F step step' path whole made p shorter (inr different) = ap (option_and_then (at_path path)) (p.others step' different)
step_apart F step step' path whole made p shorter (inl e) =
    ap (λ s. option_and_then (at_path path) (part s made)) e
    ∙ ap (option_and_then (at_path path)) p.now_there
    ∙ shorter e
    ∙ ap (option_and_then (at_path path)) (sym p.there)
    ∙ ap (λ s. option_and_then (at_path path) (part s whole)) (sym e)

pub put_apart : (path path' : List Step) (new whole made : Instance) → put_at_path path new whole ≡ Some made
    → (IsBeginning path path' → ⊥) → (IsBeginning path' path → ⊥) → at_path path' made ≡ at_path path' whole
put_apart [] path' new whole made h apart apart' = absurd (apart (path', refl))
put_apart (step ∷ path) [] new whole made h apart apart' = absurd (apart' (step ∷ path, refl))
put_apart (step ∷ path) (step' ∷ path') new whole made h apart apart' =
    let p = put_of (put_at_path path new) step whole made h in
    step_apart (put_at_path path new) step step' path' whole made p
    (λ e. put_apart path path' new p.old p.new p.changes
    (deeper step path path' (subst (λ s. IsBeginning (step ∷ path) (s ∷ path') → ⊥) e apart))
    (deeper step path' path (subst (λ s. IsBeginning (s ∷ path') (step ∷ path) → ⊥) e apart')))
    (steps_equal step' step)

-- ---- memory

-- what a write that isn't refused is
write_is : (memory after : List Instance) (r : RefInstance) (x : Instance) → written memory r x ≡ Ok after → put_place memory r x ≡ Some after
write_is memory after r x h = by_access (is_write r.access) h
  where
    by_place : (o : Option (List Instance)) → or_error o (no_place memory r) ≡ Ok after → o ≡ Some after
    by_place (Some m) h = ap Some (same_ok m after h)
    by_place None h = not_ok (no_place memory r) after h

    by_type : (b : Bool) → cond b (or_error (put_place memory r x) (no_place memory r)) (Err (type_fault r x)) ≡ Ok after → put_place memory r x ≡ Some after
    by_type true h = by_place (put_place memory r x) h
    by_type false h = not_ok (type_fault r x) after h

    by_access : (b : Bool) → cond b (written_value memory r x) (Err NotWrite) ≡ Ok after → put_place memory r x ≡ Some after
    by_access true h = by_type (has_stored_type r x) h
    by_access false h = not_ok NotWrite after h

pub written_is_there : WrittenIsThere
written_is_there memory after r x h =
    let c = change_of (put_at_path r.path x) memory after r.cell (write_is memory after r x h) in
    ap (λ m. option_and_then (at_path r.path) (slice_get m r.cell)) c.is
    ∙ ap (option_and_then (at_path r.path)) (get_same memory r.cell c.new (slice_get_within memory r.cell c.old c.there))
    ∙ put_there r.path x c.old c.new c.made

pub others_stay : OthersStay
others_stay memory after r s x h apart = by_cells (numbers_equal s.cell r.cell)
  where
    c : Change (put_at_path r.path x) memory r.cell after
    c = change_of (put_at_path r.path x) memory after r.cell (write_is memory after r x h)

    paths_apart : r.cell ≡ s.cell → AreApart r s → (IsBeginning r.path s.path → ⊥) × (IsBeginning s.path r.path → ⊥)
    paths_apart e (inl cells) = absurd (cells e)
    paths_apart e (inr paths) = paths

    by_cells : (s.cell ≡ r.cell) ⊎ (s.cell ≢ r.cell) → place after s ≡ place memory s
    by_cells (inr different) =
        ap (λ m. option_and_then (at_path s.path) (slice_get m s.cell)) c.is
        ∙ ap (option_and_then (at_path s.path)) (get_other memory r.cell c.new s.cell different)
    by_cells (inl e) =
        let paths = paths_apart (sym e) apart in
        ap (λ m. option_and_then (at_path s.path) (slice_get m s.cell)) c.is
        ∙ ap (λ n. option_and_then (at_path s.path) (slice_get (slice_set memory r.cell c.new) n)) e
        ∙ ap (option_and_then (at_path s.path)) (get_same memory r.cell c.new (slice_get_within memory r.cell c.old c.there))
        ∙ put_apart r.path s.path x c.old c.new c.made paths.0 paths.1
        ∙ ap (option_and_then (at_path s.path)) (sym c.there)
        ∙ ap (λ n. option_and_then (at_path s.path) (slice_get memory n)) (sym e)

-- ---- loads

settled : (memory : List Instance) (y : Instance) (z : Instance-F Instance) → IsNoReference (roll-Instance z) → loaded_layer memory y z ≡ Ok y
settled memory y (Instance-F.Ref r) none = absurd (none r (v.rolls-Ref r))
settled memory y z none = refl

loaded_none : (memory : List Instance) (y : Instance) → IsNoReference y → loaded memory y ≡ Ok y
loaded_none memory y none = settled memory y (out-Instance y) (λ r e. none r (sym (roll-out-Instance y) ∙ e))

read_is : (memory : List Instance) (r : RefInstance) (y : Instance) → read_value memory r ≡ Ok y → place memory r ≡ Some y
read_is memory r y h = by_access (is_read r.access) h
  where
    by_place : (o : Option Instance) → or_error o (no_place memory r) ≡ Ok y → o ≡ Some y
    by_place (Some z) h = ap Some (same_ok z y h)
    by_place None h = not_ok (no_place memory r) y h

    by_access : (b : Bool) → cond b (or_error (place memory r) (no_place memory r)) (Err NotRead) ≡ Ok y → place memory r ≡ Some y
    by_access true h = by_place (place memory r) h
    by_access false h = not_ok NotRead y h

by_value : (memory : List Instance) (z : Instance-F Instance) (y : Instance) → HoldsNoReference memory → loaded_layer memory (roll-Instance z) z ≡ Ok y → loaded memory y ≡ Ok y
by_value memory (Instance-F.Ref r) y holds h = loaded_none memory y (holds r y (read_is memory r y h))
by_value memory (Instance-F.Literal a) y holds h = loaded_none memory y (λ r e. other (Instance-F.Literal a) r (same_ok (roll-Instance (Instance-F.Literal a)) y h ∙ e) refl)
by_value memory (Instance-F.Struct a) y holds h = loaded_none memory y (λ r e. other (Instance-F.Struct a) r (same_ok (roll-Instance (Instance-F.Struct a)) y h ∙ e) refl)
by_value memory (Instance-F.Array a) y holds h = loaded_none memory y (λ r e. other (Instance-F.Array a) r (same_ok (roll-Instance (Instance-F.Array a)) y h ∙ e) refl)
by_value memory (Instance-F.Vec a) y holds h = loaded_none memory y (λ r e. other (Instance-F.Vec a) r (same_ok (roll-Instance (Instance-F.Vec a)) y h ∙ e) refl)
by_value memory (Instance-F.Ptr a) y holds h = loaded_none memory y (λ r e. other (Instance-F.Ptr a) r (same_ok (roll-Instance (Instance-F.Ptr a)) y h ∙ e) refl)
by_value memory (Instance-F.Deferred a) y holds h = loaded_none memory y (λ r e. other (Instance-F.Deferred a) r (same_ok (roll-Instance (Instance-F.Deferred a)) y h ∙ e) refl)

pub loaded_twice : LoadedTwiceIsOnce
loaded_twice memory x y holds h =
    by_value memory (out-Instance x) y holds (ap (λ z. loaded_layer memory z (out-Instance x)) (roll-out-Instance x) ∙ h)
