-- References to members, components and elements of what a reference refers to (WGSL, "Composite Value Decomposition Expressions").
use Rattle.std.specs.Prelude.{ℕ, ◌||◌, ℤ, pos, Bool, List, [], ◌∷◌, ◌++◌, length, Option, Some, None, Result, Ok, Err, option_and_then, slice_get, if◌then◌else◌}
use Rattle.wgsl_shader_type.specs.declared.error.Error.{Error}
use Rattle.wgsl_shader_type.specs.declared.error.Error.TheVariants as error
use Rattle.wgsl_shader_type.specs.declared.tree.StructMemberTypeOf.{StructMemberTypeOf}
use Rattle.wgsl_shader_type.specs.declared.tree.ShaderType.{ShaderType, out-ShaderType}
use Rattle.wgsl_shader_type.specs.declared.tree.ShaderType.TheOpen.{ShaderType-F}
use Rattle.wgsl_instance.specs.declared.tree.RefInstance.{RefInstance}
use Rattle.wgsl_instance.specs.declared.tree.Step.{Step}
use Rattle.wgsl_instance.specs.declared.tree.Step.TheVariants.{Member, Element, Component}
use Rattle.wgsl_instance.specs.declared.tree.Instance.{Instance, out-Instance}
use Rattle.wgsl_instance.specs.declared.tree.Instance.TheOpen.{Instance-F}
use Rattle.wgsl_instance.specs.Parts.{is_xyzw, is_rgba, letter_index, in_range, member_position, no_component}
use Rattle.wgsl_memory.specs.Places.{place, no_place}

abbrev pub Viewed : Type 0
Viewed = Result RefInstance Error

-- a reference to a part of what a reference refers to
abbrev pub stepped : RefInstance → Step → ShaderType → RefInstance
stepped r step t = record { cell = r.cell; path = r.path ++ step ∷ []; ty = t; space = r.space; access = r.access }

abbrev pub member_at : RefInstance → List ℕ → ℕ → Option (StructMemberTypeOf ShaderType) → Viewed
member_at r name i (Some m) = Ok (stepped r (Member i) m.ty)
member_at r name i None = Err (no_component r.ty name)

abbrev pub member_found : RefInstance → List ℕ → List (StructMemberTypeOf ShaderType) → Option ℕ → Viewed
member_found r name ms (Some i) = member_at r name i (slice_get ms i)
member_found r name ms None = Err (no_component r.ty name)

-- a part at this index, of so many
abbrev pub part_view : RefInstance → (ℕ → Step) → ShaderType → ℕ → ℤ → Option ℕ → Viewed
part_view r step t n index (Some i) = Ok (stepped r (step i) t)
part_view r step t n index None = Err (error.OutOfBounds index r.ty n)

abbrev pub element_view : RefInstance → (ℕ → Step) → ShaderType → ℕ → ℤ → Viewed
element_view r step t n index = part_view r step t n index (in_range index n)

abbrev pub is_letter : ℕ → Bool
is_letter c = is_xyzw c || is_rgba c

-- the letter that a name is, if it is one that names a component
abbrev pub one_letter : List ℕ → Option ℕ
one_letter (c ∷ []) = if is_letter c then Some c else None
one_letter name = None

abbrev pub letter_view_at : RefInstance → ShaderType → ℕ → List ℕ → Option ℕ → Viewed
letter_view_at r t n name (Some c) = element_view r Component t n (pos (letter_index c))
letter_view_at r t n name None = Err (no_component r.ty name)

abbrev pub letter_view : RefInstance → ShaderType → ℕ → List ℕ → Viewed
letter_view r t n name = letter_view_at r t n name (one_letter name)

abbrev pub member_view_at : RefInstance → List ℕ → ShaderType-F ShaderType → Viewed
member_view_at r name (ShaderType-F.Struct s) = member_found r name s.members (member_position name s.members)
member_view_at r name (ShaderType-F.Vec n t) = letter_view r t n name
member_view_at r name x = Err (no_component r.ty name)

-- A reference to a member of a struct, or to a component of a vector. More than one letter gives no reference.
abbrev pub member_view : RefInstance → List ℕ → Viewed
member_view r name = member_view_at r name (out-ShaderType r.ty)

abbrev pub count_layer : {A : Type 0} → Instance-F A → Option ℕ
count_layer (Instance-F.Array a) = Some (length a.components)
count_layer x = None

-- how many elements the array that a value is has
abbrev pub count_in : Instance → Option ℕ
count_in x = count_layer (out-Instance x)

abbrev pub counted_view : List Instance → RefInstance → ShaderType → ℤ → Option ℕ → Viewed
counted_view memory r t index (Some n) = element_view r Element t n index
counted_view memory r t index None = Err (no_place memory r)

abbrev pub array_view : List Instance → RefInstance → ShaderType → Option ℕ → ℤ → Viewed
array_view memory r t (Some n) index = element_view r Element t n index
array_view memory r t None index = counted_view memory r t index (option_and_then count_in (place memory r))

abbrev pub index_view_at : List Instance → RefInstance → ℤ → ShaderType-F ShaderType → Viewed
index_view_at memory r index (ShaderType-F.Array t n) = array_view memory r t n index
index_view_at memory r index (ShaderType-F.Vec n t) = element_view r Component t n index
index_view_at memory r index x = Err (error.NotIndexable r.ty)

-- A reference to an element of an array, or to a component of a vector. An array without a count has as many elements as the value in memory.
abbrev pub index_view : List Instance → RefInstance → ℤ → Viewed
index_view memory r index = index_view_at memory r index (out-ShaderType r.ty)
