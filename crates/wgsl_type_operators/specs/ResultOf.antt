-- The result of an operator, computed by the operands' shapes. That it is what `Operator` says, `Candidates` of the proofs shows.
use Rattle.std.specs.Prelude.{ℕ, ◌==◌, ◌&&◌, not, Option, Some, None, option_and_then, if◌then◌else◌}
use Rattle.wgsl_shader_type.specs.AddressSpace.{AddressSpace}
use Rattle.wgsl_shader_type.specs.AddressSpace.TheVariants.{Handle}
use Rattle.wgsl_shader_type.specs.AccessMode.{AccessMode}
use Rattle.wgsl_words.specs.declared.operators.BinaryOperator.{BinaryOperator}
use Rattle.wgsl_words.specs.declared.operators.UnaryOperator.{UnaryOperator}
use Rattle.wgsl_words.specs.declared.operators.UnaryOperator.TheVariants.{AddressOf, Indirection}
use Rattle.wgsl_shader_type.specs.declared.tree.ShaderType.{ShaderType, out-ShaderType}
use Rattle.wgsl_shader_type.specs.declared.tree.ShaderType.TheVariants as type
use Rattle.wgsl_shader_type.specs.declared.tree.ShaderType.TheOpen.{ShaderType-F}
use Rattle.wgsl_shader_type.specs.declared.error.Error.{Error}
use Rattle.wgsl_shader_type.specs.declared.error.Error.TheVariants as error
use Rattle.wgsl_shader_type.specs.Class.{is_integer}
use Rattle.wgsl_shader_type.specs.Rank.{converts, common_of}
use Rattle.wgsl_type_operators.specs.Operator.{takes, gives, is_shift, is_arithmetic, is_logical, unary_takes}

abbrev pub if_taken : BinaryOperator → ShaderType → Option ShaderType
if_taken operator t = if takes operator t then Some (gives operator t) else None

-- of scalars
abbrev pub component : BinaryOperator → ShaderType → ShaderType → Option ShaderType
component operator left right =
    if is_shift operator then (if is_integer left && converts right type.U32 then Some left else None) else option_and_then (if_taken operator) (common_of left right)

abbrev pub in_vector : ℕ → Option ShaderType → Option ShaderType
in_vector n None = None
in_vector n (Some t) = Some (type.Vec n t)

abbrev pub by_shape : BinaryOperator → ShaderType → ShaderType → ShaderType-F ShaderType → ShaderType-F ShaderType → Option ShaderType
by_shape operator left right (ShaderType-F.Vec n a) (ShaderType-F.Vec m b) = if (n == m) && not (is_logical operator) then in_vector n (component operator a b) else None
by_shape operator left right (ShaderType-F.Vec n a) y = if is_arithmetic operator then in_vector n (component operator a right) else None
by_shape operator left right x (ShaderType-F.Vec m b) = if is_arithmetic operator then in_vector m (component operator left b) else None
by_shape operator left right x y = component operator left right

abbrev pub binary_result : BinaryOperator → ShaderType → ShaderType → Option ShaderType
binary_result operator left right = by_shape operator left right (out-ShaderType left) (out-ShaderType right)

abbrev pub address_of : AddressSpace → ShaderType → AccessMode → Option ShaderType
address_of Handle stored access = None
address_of space stored access = Some (type.Ptr space stored access)

abbrev pub referenced : UnaryOperator → AddressSpace → ShaderType → AccessMode → Option ShaderType
referenced AddressOf space stored access = address_of space stored access
referenced _ space stored access = None

abbrev pub pointed : UnaryOperator → AddressSpace → ShaderType → AccessMode → Option ShaderType
pointed Indirection space stored access = Some (type.Ref space stored access)
pointed _ space stored access = None

abbrev pub unary_shape : UnaryOperator → ShaderType → ShaderType-F ShaderType → Option ShaderType
unary_shape operator operand (ShaderType-F.Ref space stored access) = referenced operator space stored access
unary_shape operator operand (ShaderType-F.Ptr space stored access) = pointed operator space stored access
unary_shape operator operand (ShaderType-F.Vec n component) = if unary_takes operator component then Some operand else None
unary_shape operator operand x = if unary_takes operator operand then Some operand else None

abbrev pub unary_result : UnaryOperator → ShaderType → Option ShaderType
unary_result operator operand = unary_shape operator operand (out-ShaderType operand)

-- what is refused: a pointer into the handle space, or an operand that the operator doesn't take
abbrev pub unary_fault_at : UnaryOperator → ShaderType → ShaderType-F ShaderType → Error
unary_fault_at AddressOf operand (ShaderType-F.Ref Handle stored access) = error.PtrHandle
unary_fault_at operator operand x = error.Unary operator operand

abbrev pub unary_fault : UnaryOperator → ShaderType → Error
unary_fault operator operand = unary_fault_at operator operand (out-ShaderType operand)
