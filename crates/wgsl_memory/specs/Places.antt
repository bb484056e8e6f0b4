-- Memory is a list of values, and a reference is a place in it: a cell, and a path from its value to a part (WGSL, "Memory Locations", "Memory Views").
use Rattle.std.specs.Prelude.{ℕ, ◌^◌, ◌-◌, min, ℤ, pos, Bool, true, false, List, [], ◌∷◌, length, Option, Some, None, Result, Ok, Err, option_and_then, slice_get, slice_set, if◌then◌else◌}
use Rattle.wgsl_words.specs.declared.enumerations.address.AccessMode.{AccessMode}
use Rattle.wgsl_words.specs.declared.enumerations.address.AccessMode.TheVariants.{Read, Write, ReadWrite}
use Rattle.wgsl_shader_type.specs.declared.error.Error.{Error}
use Rattle.wgsl_shader_type.specs.declared.error.Error.TheVariants.{NotRead, NotWrite, OutOfBounds, WriteRefType}
use Rattle.wgsl_shader_type.specs.declared.literal.LiteralInstance.{LiteralInstance}
use Rattle.wgsl_shader_type.specs.Alike as types
use Rattle.wgsl_instance.specs.declared.tree.StructInstanceOf.{StructInstanceOf}
use Rattle.wgsl_instance.specs.declared.tree.ArrayInstanceOf.{ArrayInstanceOf}
use Rattle.wgsl_instance.specs.declared.tree.VecInstance.{VecInstance}
use Rattle.wgsl_instance.specs.declared.tree.Step.{Step}
use Rattle.wgsl_instance.specs.declared.tree.Step.TheVariants.{Member, Element, Component}
use Rattle.wgsl_instance.specs.declared.tree.RefInstance.{RefInstance}
use Rattle.wgsl_instance.specs.declared.tree.Instance.{Instance, out-Instance}
use Rattle.wgsl_instance.specs.declared.tree.Instance.TheVariants as v
use Rattle.wgsl_instance.specs.declared.tree.Instance.TheOpen.{Instance-F}
use Rattle.wgsl_instance.specs.Answer.{or_error}
use Rattle.wgsl_instance.specs.Typed.{type_of}
use Rattle.wgsl_instance.specs.Zero.{Made}

-- ---- parts of values

abbrev pub as_literal : Option LiteralInstance → Option Instance
as_literal (Some x) = Some (v.Literal x)
as_literal None = None

abbrev pub part_layer : Step → Instance-F Instance → Option Instance
part_layer (Member i) (Instance-F.Struct s) = slice_get s.members i
part_layer (Element i) (Instance-F.Array a) = slice_get a.components i
part_layer (Component i) (Instance-F.Vec w) = as_literal (slice_get w.components i)
part_layer step x = None

-- the part of a value at a step, if it is there
abbrev pub part : Step → Instance → Option Instance
part step x = part_layer step (out-Instance x)

-- The part of a value at the end of a path, if it is there.
abbrev pub at_path : List Step → Instance → Option Instance
at_path [] x = Some x
at_path (step ∷ path) x = option_and_then (at_path path) (part step x)

abbrev pub literal_layer : {A : Type 0} → Instance-F A → Option LiteralInstance
literal_layer (Instance-F.Literal x) = Some x
literal_layer x = None

-- the scalar that a value is
abbrev pub literal_of : Instance → Option LiteralInstance
literal_of x = literal_layer (out-Instance x)

abbrev pub set_to : {A : Type 0} → List A → ℕ → Option A → Option (List A)
set_to xs i (Some x) = Some (slice_set xs i x)
set_to xs i None = None

abbrev pub changed_from : {A : Type 0} → (A → Option A) → List A → ℕ → Option A → Option (List A)
changed_from change xs i (Some x) = set_to xs i (change x)
changed_from change xs i None = None

-- a list with a change of the element at this position, if that is there and can be changed
abbrev pub changed : {A : Type 0} → (A → Option A) → ℕ → List A → Option (List A)
changed change i xs = changed_from change xs i (slice_get xs i)

abbrev pub in_struct : StructInstanceOf Instance → Option (List Instance) → Option Instance
in_struct s (Some xs) = Some (v.Struct (record { ty = s.ty; members = xs }))
in_struct s None = None

abbrev pub in_array : ArrayInstanceOf Instance → Option (List Instance) → Option Instance
in_array a (Some xs) = Some (v.Array (record { element = a.element; components = xs; runtime_sized = a.runtime_sized }))
in_array a None = None

abbrev pub in_vector : VecInstance → Option (List LiteralInstance) → Option Instance
in_vector w (Some xs) = Some (v.Vec (record { ty = w.ty; components = xs }))
in_vector w None = None

-- a component is changed to a scalar
abbrev pub change_literal : (Instance → Option Instance) → LiteralInstance → Option LiteralInstance
change_literal change x = option_and_then literal_of (change (v.Literal x))

abbrev pub put_layer : (Instance → Option Instance) → Step → Instance-F Instance → Option Instance
put_layer change (Member i) (Instance-F.Struct s) = in_struct s (changed change i s.members)
put_layer change (Element i) (Instance-F.Array a) = in_array a (changed change i a.components)
put_layer change (Component i) (Instance-F.Vec w) = in_vector w (changed (change_literal change) i w.components)
put_layer change step x = None

abbrev pub scalar_layer : ℕ → Option LiteralInstance → Instance-F Instance → Option Instance
scalar_layer i new (Instance-F.Vec w) = in_vector w (changed (λ _. new) i w.components)
scalar_layer i new x = None

-- a vector with another scalar at this component
abbrev pub put_scalar : ℕ → Option LiteralInstance → Instance → Option Instance
put_scalar i new x = scalar_layer i new (out-Instance x)

-- A value with another part at the end of a path, if that place is there.
abbrev pub put_at_path : List Step → Instance → Instance → Option Instance
put_at_path [] new x = Some new
put_at_path (step ∷ path) new x = put_layer (put_at_path path new) step (out-Instance x)

-- ---- memory

abbrev pub is_read : AccessMode → Bool
is_read Write = false
is_read access = true

abbrev pub is_write : AccessMode → Bool
is_write Read = false
is_write access = true

-- what stands at the place that a reference names
abbrev pub place : List Instance → RefInstance → Option Instance
place memory r = option_and_then (at_path r.path) (slice_get memory r.cell)

-- memory with another value at that place
abbrev pub put_place : List Instance → RefInstance → Instance → Option (List Instance)
put_place memory r new = changed (put_at_path r.path new) r.cell memory

-- a number of a cell in an error, where it is at most the largest `i64`
abbrev pub cell_number : ℕ → ℤ
cell_number n = pos (min n (2 ^ 63 - 1))

-- The error where a place isn't there. No reference of this memory has it.
abbrev pub no_place : List Instance → RefInstance → Error
no_place memory r = OutOfBounds (cell_number r.cell) r.ty (length memory)

-- What is read through a reference.
abbrev pub read_value : List Instance → RefInstance → Made
read_value memory r = if is_read r.access then or_error (place memory r) (no_place memory r) else Err NotRead

abbrev pub type_fault : RefInstance → Instance → Error
type_fault r new = WriteRefType (type_of new) r.ty

abbrev pub has_stored_type : RefInstance → Instance → Bool
has_stored_type r new = types.same (type_of new) r.ty

abbrev pub written_value : List Instance → RefInstance → Instance → Result (List Instance) Error
written_value memory r new =
    if has_stored_type r new then or_error (put_place memory r new) (no_place memory r) else Err (type_fault r new)

-- Memory after a value is written through a reference.
abbrev pub written : List Instance → RefInstance → Instance → Result (List Instance) Error
written memory r new = if is_write r.access then written_value memory r new else Err NotWrite

abbrev pub loaded_layer : List Instance → Instance → Instance-F Instance → Made
loaded_layer memory x (Instance-F.Ref r) = read_value memory r
loaded_layer memory x y = Ok x

-- The value of an expression where it is used: of a reference, what it refers to (WGSL, "Load Rule").
abbrev pub loaded : List Instance → Instance → Made
loaded memory x = loaded_layer memory x (out-Instance x)
