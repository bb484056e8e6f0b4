-- What constructors take and make (WGSL, "Value Constructor Built-in Functions", "Zero Value Built-in Function").
use Rattle.std.specs.Prelude.{◌≡◌, ◌≢◌, ℕ, Bool, true, false, ◌==◌, ◌&&◌, ◌||◌, nat_lt, List, [], ◌∷◌, length, map, sum, Option, Some, None, Result, MatchResult, All, ◌⊎◌, IsTrue, if◌then◌else◌, codes}
use Rattle.std.specs.List.{list_all}
use Rattle.std.specs.Option.{option_map}
use Rattle.wgsl_shader_type.specs.declared.tree.StructMemberTypeOf.{StructMemberTypeOf}
use Rattle.wgsl_shader_type.specs.declared.tree.ShaderType.{ShaderType, out-ShaderType}
use Rattle.wgsl_shader_type.specs.declared.tree.ShaderType.TheVariants as type
use Rattle.wgsl_shader_type.specs.declared.tree.ShaderType.TheOpen.{ShaderType-F}
use Rattle.wgsl_shader_type.specs.declared.error.Error.{Error}
use Rattle.wgsl_shader_type.specs.declared.error.Error.TheVariants as error
use Rattle.wgsl_shader_type.specs.declared.literal.TpltParam.{TpltParam}
use Rattle.wgsl_shader_type.specs.Class.{is_scalar}
use Rattle.wgsl_shader_type.specs.Rank.{converts}
use Rattle.wgsl_shader_type.specs.Conversion.{Converts, IsCommonType}
use Rattle.wgsl_types.specs.declared.template.VecTemplate.{VecTemplate}
use Rattle.wgsl_types.specs.declared.template.ArrayTemplate.{ArrayTemplate}
use Rattle.wgsl_types.specs.declared.names.BuiltinName.{BuiltinName}
use Rattle.wgsl_types.specs.declared.names.BuiltinName.TheVariants as name
use Rattle.wgsl_types.specs.declared.constructor.Constructor.{Constructor}
use Rattle.wgsl_types.specs.declared.constructor.Constructor.TheVariants as constructor
use Rattle.wgsl_types.specs.Template.{vector_reading, array_reading, IsTemplateArgs, IsArrayTemplateFault}

-- ---- structs

-- The first of the arguments that doesn't convert to its member's type, with that type.
abbrev pub misfit : List (StructMemberTypeOf ShaderType) → List ShaderType → Option (ShaderType × ShaderType)
misfit (member ∷ members) (arg ∷ args) = if converts arg member.ty then misfit members args else Some (member.ty, arg)
misfit _ _ = None

-- A struct takes a value for each member, each of which converts, or nothing for its zero value.
abbrev pub FitStruct : List (StructMemberTypeOf ShaderType) → List ShaderType → Type 0
FitStruct members args = (args ≡ []) ⊎ ((length members ≡ length args) × (misfit members args ≡ None))

abbrev pub is_misfit : Option (ShaderType × ShaderType) → Error → Type 0
is_misfit None fault = ⊥
is_misfit (Some pair) fault = fault ≡ error.ParamType pair.0 pair.1

-- What is refused: another number of values, or else the first that doesn't convert.
abbrev pub IsStructFault : List ℕ → List (StructMemberTypeOf ShaderType) → List ShaderType → Error → Type 0
IsStructFault name members args fault = (args ≢ []) × (
    ((length members ≢ length args) × (fault ≡ error.ParamCount name (length members) (length args)))
    ⊎ ((length members ≡ length args) × is_misfit (misfit members args) fault))

-- ---- scalars

-- A scalar takes one scalar, or nothing for its zero value.
abbrev pub takes_one : List ShaderType → Bool
takes_one [] = true
takes_one (arg ∷ []) = is_scalar arg
takes_one _ = false

-- ---- vectors

abbrev pub component_layer : ShaderType → ShaderType-F ShaderType → ShaderType
component_layer t (ShaderType-F.Vec n component) = component
component_layer t x = t

-- The type of the components that an argument brings: a vector's, or its own.
abbrev pub component_of : ShaderType → ShaderType
component_of t = component_layer t (out-ShaderType t)

abbrev pub count_layer : {A : Type 0} → ShaderType-F A → ℕ
count_layer (ShaderType-F.Vec n component) = n
count_layer x = 1

-- How many components it brings: a vector's, or one.
abbrev pub count_of : ShaderType → ℕ
count_of t = count_layer (out-ShaderType t)

-- One component for all of a vector's, or as many as it has.
abbrev pub fills : ℕ → List ShaderType → Bool
fills n [] = false
fills n (arg ∷ []) = (count_of arg == 1) || (count_of arg == n)
fills n args = sum (map count_of args) == n

-- Arguments are the parts of a vector where they fill it with scalars.
abbrev pub are_parts : ℕ → List ShaderType → Bool
are_parts n args = fills n args && list_all (λ arg. is_scalar (component_of arg)) args

-- one whole vector
abbrev pub is_whole : ℕ → List ShaderType → Bool
is_whole n (arg ∷ []) = count_of arg == n
is_whole n _ = false

-- What a vector takes whose components' type is given: nothing for its zero value, or parts that convert to that type, or one whole vector, which is cast to it as a scalar's constructor casts a scalar.
abbrev pub FitComponent : ℕ → ShaderType → List ShaderType → Type 0
FitComponent n component args = (args ≡ []) ⊎ (IsTrue (are_parts n args) × (IsTrue (is_whole n args) ⊎ All (λ arg. Converts (component_of arg) component) args))

-- The components' type where none is given: AbstractInt without arguments, or else the parts' common type.
abbrev pub IsComponent : ℕ → List ShaderType → ShaderType → Type 0
IsComponent n args component = ((args ≡ []) × (component ≡ type.AbstractInt)) ⊎ (IsTrue (are_parts n args) × IsCommonType (map component_of args) component)

abbrev pub HasNoComponent : ℕ → List ShaderType → Type 0
HasNoComponent n args = (component : ShaderType) → IsComponent n args component → ⊥

-- The vector that a constructor makes, with a template or without one.
abbrev pub IsVectorMade : ℕ → Option VecTemplate → List ShaderType → ShaderType → Type 0
IsVectorMade n (Some template) args made = (made ≡ type.Vec n template.component) × FitComponent n template.component args
IsVectorMade n None args made = (component : ShaderType) × (made ≡ type.Vec n component) × IsComponent n args component

-- ---- arrays

-- How many elements an array has whose template gives a count or none, made of so many arguments: those of the count, of which none make the zero value, or else as many as there are. There is one at least.
abbrev pub array_length : Option ℕ → ℕ → Option ℕ
array_length None given = if nat_lt 0 given then Some given else None
array_length (Some n) given = if nat_lt 0 n && ((given == 0) || (given == n)) then Some n else None

-- The array that a constructor makes: at the template's type, to which every argument converts, or at the arguments' common type.
abbrev pub IsArrayMade : Option ArrayTemplate → List ShaderType → ShaderType → Type 0
IsArrayMade (Some template) args made = (n : ℕ) × (array_length template.count (length args) ≡ Some n) × (made ≡ type.Array template.element (Some n)) × All (λ arg. Converts arg template.element) args
IsArrayMade None args made = (common : ShaderType) × (made ≡ type.Array common (Some (length args))) × IsCommonType args common

abbrev pub is_count_zero : Option ℕ → Bool
is_count_zero None = false
is_count_zero (Some n) = n == 0

-- An array of no elements, which isn't supported: of nothing, without a template or with one of the count 0.
abbrev pub is_of_none : Option ArrayTemplate → List ShaderType → Bool
is_of_none None [] = true
is_of_none (Some template) [] = is_count_zero template.count
is_of_none _ _ = false

-- ---- calls

-- a call that no constructor takes
abbrev pub call : List ℕ → Option (List TpltParam) → List ShaderType → Error
call text template args = error.Signature (record { name = text; tplt = template; args = args })

-- What an array's constructor refuses.
abbrev pub array_fault : List ℕ → Option (List TpltParam) → Option ArrayTemplate → List ShaderType → Error
array_fault text params template args = if is_of_none template args then error.Todo (codes "array") else call text params args

-- The constructor that a name stands for, with a template or without one.
abbrev pub named_constructor : BuiltinName → Option (List TpltParam) → Option Constructor
named_constructor (name.Scalar t) None = Some (constructor.Scalar t)
named_constructor (name.Vector n (Some component)) None = Some (constructor.Vector n (Some (record { component = component })))
named_constructor (name.Vector n None) None = Some (constructor.Vector n None)
named_constructor (name.Vector n None) (Some params) = option_map (λ component. constructor.Vector n (Some (record { component = component }))) (vector_reading params)
named_constructor name.Array None = Some (constructor.Array None)
named_constructor name.Array (Some params) = option_map (λ template. constructor.Array (Some template)) (array_reading params)
named_constructor _ _ = None

-- What is refused where a name stands for none.
abbrev pub IsNameFault : List ℕ → BuiltinName → Option (List TpltParam) → Error → Type 0
IsNameFault text (name.Scalar t) template fault = fault ≡ error.UnexpectedTemplate text
IsNameFault text (name.Vector n (Some component)) template fault = fault ≡ error.UnexpectedTemplate text
IsNameFault text (name.Vector n None) template fault = IsTemplateArgs (codes "vec") fault
IsNameFault text name.Array None fault = ⊥
IsNameFault text name.Array (Some params) fault = IsArrayTemplateFault params fault
IsNameFault text name.Pointer template fault = fault ≡ error.UnknownType text
IsNameFault text name.LeftOut template fault = fault ≡ error.Todo text
IsNameFault text name.Unknown template fault = fault ≡ error.UnknownType text

-- The type that a constructor makes of arguments.
abbrev pub IsMadeBy : Constructor → List ShaderType → ShaderType → Type 0
IsMadeBy (constructor.Scalar t) args made = (made ≡ t) × IsTrue (takes_one args)
IsMadeBy (constructor.Vector n template) args made = IsVectorMade n template args made
IsMadeBy (constructor.Array template) args made = IsArrayMade template args made

abbrev pub MakesNothing : Constructor → List ShaderType → Type 0
MakesNothing by args = (made : ShaderType) → IsMadeBy by args made → ⊥

-- What is refused where it makes none.
abbrev pub made_fault : List ℕ → Option (List TpltParam) → Constructor → List ShaderType → Error
made_fault text params (constructor.Array template) args = array_fault text params template args
made_fault text params _ args = call text params args

-- The answer of a constructor that was found.
abbrev pub AnswersMade : List ℕ → Option (List TpltParam) → Constructor → List ShaderType → Result ShaderType Error → Type 0
AnswersMade text params by args answer = MatchResult answer
    (IsMadeBy by args)
    (λ fault. (fault ≡ error.OutOfMemory) ⊎ (MakesNothing by args × (fault ≡ made_fault text params by args)))

-- The answer to a call: what the constructor of that name makes.
abbrev pub AnswersCall : List ℕ → BuiltinName → Option (List TpltParam) → List ShaderType → Result ShaderType Error → Type 0
AnswersCall text builtin params args answer = MatchResult answer
    (λ made. (by : Constructor) × (named_constructor builtin params ≡ Some by) × IsMadeBy by args made)
    (λ fault. (fault ≡ error.OutOfMemory)
    ⊎ (((named_constructor builtin params ≡ None) × IsNameFault text builtin params fault)
    ⊎ ((by : Constructor) × (named_constructor builtin params ≡ Some by) × MakesNothing by args × (fault ≡ made_fault text params by args))))
