-- Whether two values are equal, as a test.
use Rattle.std.specs.Prelude.{◌==◌, Bool, true, false, ◌&&◌}
use Rattle.std.specs.Bool.{beq}
use Rattle.std.specs.Cmp.Lexicographic.{pointwise}
use Rattle.wgsl_words.specs.contracts.enumerations.address.AddressSpacePartialEq.TheImpl as space
use Rattle.wgsl_words.specs.contracts.enumerations.address.AccessModePartialEq.TheImpl as access
use Rattle.wgsl_shader_type.specs.contracts.literal.LiteralInstancePartialEq.TheImpl as literal
use Rattle.wgsl_scalar.specs.contracts.scalar.ScalarTypePartialEq.TheImpl as scalar
use Rattle.wgsl_instance.specs.contracts.tree.StepPartialEq.TheImpl as step
use Rattle.wgsl_shader_type.specs.Alike as types
use Rattle.wgsl_instance.specs.declared.tree.StructInstanceOf.{StructInstanceOf}
use Rattle.wgsl_instance.specs.declared.tree.ArrayInstanceOf.{ArrayInstanceOf}
use Rattle.wgsl_instance.specs.declared.tree.VecInstance.{VecInstance}
use Rattle.wgsl_instance.specs.declared.tree.RefInstance.{RefInstance}
use Rattle.wgsl_instance.specs.declared.tree.PtrInstance.{PtrInstance}
use Rattle.wgsl_instance.specs.declared.tree.Instance.{Instance, out-Instance, fold-Instance}
use Rattle.wgsl_instance.specs.declared.tree.Instance.TheOpen.{Instance-F}

abbrev pub same_reference : RefInstance → RefInstance → Bool
same_reference x y =
    (x.cell == y.cell) && pointwise step.eq-value.it x.path y.path && types.same x.ty y.ty && space.eq-value.it x.space y.space && access.eq-value.it x.access y.access

abbrev pub same_pointer : PtrInstance → PtrInstance → Bool
same_pointer x y = same_reference x.reference y.reference

abbrev pub same_vector : VecInstance → VecInstance → Bool
same_vector x y = scalar.eq-value.it x.ty y.ty && pointwise literal.eq-value.it x.components y.components

abbrev pub same_struct : {A B : Type 0} → (A → B → Bool) → StructInstanceOf A → StructInstanceOf B → Bool
same_struct E x y = types.same_struct types.same x.ty y.ty && pointwise E x.members y.members

abbrev pub same_array : {A B : Type 0} → (A → B → Bool) → ArrayInstanceOf A → ArrayInstanceOf B → Bool
same_array E x y = beq x.runtime_sized y.runtime_sized && types.same x.element y.element && pointwise E x.components y.components

abbrev pub same_layer : {A B : Type 0} → (A → B → Bool) → Instance-F A → Instance-F B → Bool
same_layer E (Instance-F.Literal x) (Instance-F.Literal y) = literal.eq-value.it x y
same_layer E (Instance-F.Struct x) (Instance-F.Struct y) = same_struct E x y
same_layer E (Instance-F.Array x) (Instance-F.Array y) = same_array E x y
same_layer E (Instance-F.Vec x) (Instance-F.Vec y) = same_vector x y
same_layer E (Instance-F.Ptr x) (Instance-F.Ptr y) = same_pointer x y
same_layer E (Instance-F.Ref x) (Instance-F.Ref y) = same_reference x y
same_layer E (Instance-F.Deferred x) (Instance-F.Deferred y) = types.same x y
same_layer E _ _ = false

-- Values are equal where their variants, and what these hold, are.
abbrev pub same : Instance → Instance → Bool
same = fold-Instance (Instance → Bool) (λ x t. same_layer (λ test y. test y) x (out-Instance t))
