-- How a value and a type are written (this project's own): a negative number in parentheses, the least numbers by a constructor or a
-- difference, types in full.
use Rattle.std.specs.Prelude.{◌≡◌, ◌⊎◌, ⊤, ℕ, suc, ◌^◌, pos, negsuc, nat_eq, nat_lt, Bool, true, false, if◌then◌else◌, List, [], ◌∷◌, ◌++◌, map, length, Option, Some, None, option_map, option_and_then, Result, Ok, Err, codes}
use Rattle.std.specs.Fmt.{decimal}
use Rattle.wgsl_base.specs.declared.items.error.OrOutOfMemory.{OrOutOfMemory}
use Rattle.wgsl_base.specs.declared.items.error.OrOutOfMemory.TheVariants.{Error, OutOfMemory}
use Rattle.wgsl_words.specs.declared.operators.UnaryOperator.TheVariants.{Negation}
use Rattle.wgsl_words.specs.declared.operators.BinaryOperator.TheVariants.{Subtraction}
use Rattle.wgsl_words.specs.Texts.{address_space_text, access_mode_text}
use Rattle.wgsl_words.specs.declared.enumerations.address.AddressSpace.{AddressSpace}
use Rattle.wgsl_words.specs.declared.enumerations.address.AddressSpace.TheVariants.{Storage}
use Rattle.wgsl_words.specs.declared.enumerations.address.AccessMode.{AccessMode}
use Rattle.wgsl_expressions.specs.declared.expression.LiteralExpression.{LiteralExpression}
use Rattle.wgsl_expressions.specs.declared.expression.LiteralExpression.TheVariants as l
use Rattle.wgsl_expressions.specs.declared.expression.Expression.{Expression}
use Rattle.wgsl_expressions.specs.declared.expression.TemplateArgOf.{TemplateArgOf}
use Rattle.wgsl_expressions.specs.View.{node_tree}
use Rattle.wgsl_expressions.specs.Tree.{Exp, literal, parenthesized, unary, binary, call, named, Exps, exps, Typ, simple, templated}
use Rattle.wgsl_shader_type.specs.declared.literal.LiteralInstance.{LiteralInstance}
use Rattle.wgsl_shader_type.specs.declared.literal.LiteralInstance.TheVariants as v
use Rattle.wgsl_shader_type.specs.declared.error.Error as error
use Rattle.wgsl_shader_type.specs.declared.error.Error.TheVariants as errors
use Rattle.wgsl_shader_type.specs.declared.tree.ShaderType.{ShaderType, fold-ShaderType}
use Rattle.wgsl_shader_type.specs.declared.tree.ShaderType.TheOpen.{ShaderType-F}
use Rattle.wgsl_instance.specs.declared.tree.VecInstance.{VecInstance}
use Rattle.wgsl_instance.specs.declared.tree.Instance.{Instance, fold-Instance}
use Rattle.wgsl_instance.specs.declared.tree.Instance.TheOpen.{Instance-F}

-- a name alone
abbrev pub name_alone : List ℕ → Typ
name_alone name = simple None name

abbrev pub argument_tree : TemplateArgOf Expression → Exp
argument_tree a = node_tree a.expression

-- a call by a name alone
abbrev pub call_of : List ℕ → List Exp → Exp
call_of name xs = call (name_alone name) (exps xs)

-- a name with template arguments
abbrev pub template_of : List ℕ → List Exp → Typ
template_of name xs = templated None name (exps xs)

-- `-number`
abbrev pub negated : LiteralExpression → Exp
negated x = unary Negation (literal x)

-- `(-9223372036854775807 - 1)`, since 9223372036854775808 is no literal
abbrev pub least_abstract : Exp
least_abstract = parenthesized (binary Subtraction (negated (l.AbstractInt (pos 9223372036854775807))) (literal (l.AbstractInt (pos 1))))

-- `i32(-2147483648)`, since 2147483648i is no literal
abbrev pub least_signed : Exp
least_signed = call_of (codes "i32") (negated (l.AbstractInt (pos 2147483648)) ∷ [])

-- The last case of each type of numbers doesn't come: no number of the type is as low.
abbrev pub literal_exp : LiteralInstance → Exp
literal_exp (v.Bool b) = literal (l.Bool b)
literal_exp (v.AbstractInt (pos n)) = literal (l.AbstractInt (pos n))
literal_exp (v.AbstractInt (negsuc n)) =
    if nat_eq n 9223372036854775807 then least_abstract
    else if nat_lt n 9223372036854775807 then parenthesized (negated (l.AbstractInt (pos (suc n))))
    else literal (l.AbstractInt (negsuc n))
literal_exp (v.I32 (pos n)) = literal (l.I32 (pos n))
literal_exp (v.I32 (negsuc n)) =
    if nat_eq n 2147483647 then least_signed
    else if nat_lt n 2147483647 then parenthesized (negated (l.I32 (pos (suc n))))
    else literal (l.I32 (negsuc n))
literal_exp (v.U32 n) = literal (l.U32 n)

-- all of them, if each is there
abbrev pub all_of : {A : Type 0} → List (Option A) → Option (List A)
all_of [] = Some []
all_of (x ∷ xs) = option_and_then (λ y. option_map (λ ys. y ∷ ys) (all_of xs)) x

-- as `vec2(1u, 2u)`
abbrev pub vector_exp : VecInstance → Exp
vector_exp w = call_of (codes "vec" ++ decimal (length w.components)) (map literal_exp w.components)

abbrev pub layer : Instance-F (Option Exp) → Option Exp
layer (Instance-F.Literal x) = Some (literal_exp x)
layer (Instance-F.Struct s) = option_map (call_of s.ty.name) (all_of s.members)
layer (Instance-F.Array a) = option_map (call_of (codes "array")) (all_of a.components)
layer (Instance-F.Vec w) = Some (vector_exp w)
layer (Instance-F.Ptr p) = None
layer (Instance-F.Ref r) = None
layer (Instance-F.Deferred t) = None

-- The expression that is written for a value. A pointer, a reference and a value of which only the type is known have none, and so has
-- nothing that holds one.
abbrev pub written : Instance → Option Exp
written = fold-Instance (Option Exp) layer

-- What is written, seen as a tree, but for want of memory; it is an error exactly where nothing is.
abbrev pub Writes : {A B E : Type 0} → (A → B) → Option B → Result A (OrOutOfMemory E) → Type 0
Writes see meant (Ok x) = meant ≡ Some (see x)
Writes see meant (Err (Error e)) = meant ≡ None
Writes see meant (Err OutOfMemory) = ⊤

-- The same, where the error tells the type that is not written.
abbrev pub IsWritten : {A B : Type 0} → (A → B) → Option B → Result A error.Error → Type 0
IsWritten see meant (Ok x) = meant ≡ Some (see x)
IsWritten see meant (Err e) = (e ≡ errors.OutOfMemory) ⊎ (meant ≡ None)

-- ---- types

-- the number of elements, where a literal can say it
abbrev pub count_exp : ℕ → Option Exp
count_exp n = if nat_lt n (2 ^ 63) then Some (literal (l.AbstractInt (pos n))) else None

abbrev pub counts : Option Exp → List Exp
counts None = []
counts (Some count) = count ∷ []

abbrev pub array_typ : Typ → Option ℕ → Option Typ
array_typ element None = Some (template_of (codes "array") (named element ∷ []))
array_typ element (Some n) = option_map (λ count. template_of (codes "array") (named element ∷ count ∷ [])) (count_exp n)

-- The access mode of a pointer is written in the storage space alone.
abbrev pub access_exps : AddressSpace → AccessMode → List Exp
access_exps Storage access = named (name_alone (access_mode_text access)) ∷ []
access_exps _ access = []

abbrev pub pointer_typ : AddressSpace → AccessMode → Typ → Typ
pointer_typ space access stored = template_of (codes "ptr") (named (name_alone (address_space_text space)) ∷ named stored ∷ access_exps space access)

abbrev pub vector_typ : ℕ → Typ → Typ
vector_typ n component = template_of (codes "vec" ++ decimal n) (named component ∷ [])

abbrev pub type_layer : ShaderType-F (Option Typ) → Option Typ
type_layer ShaderType-F.Bool = Some (name_alone (codes "bool"))
type_layer ShaderType-F.AbstractInt = None
type_layer ShaderType-F.AbstractFloat = None
type_layer ShaderType-F.I32 = Some (name_alone (codes "i32"))
type_layer ShaderType-F.U32 = Some (name_alone (codes "u32"))
type_layer ShaderType-F.F32 = Some (name_alone (codes "f32"))
type_layer ShaderType-F.F16 = Some (name_alone (codes "f16"))
type_layer (ShaderType-F.Struct s) = Some (name_alone s.name)
type_layer (ShaderType-F.Array element n) = option_and_then (λ e. array_typ e n) element
type_layer (ShaderType-F.Vec n component) = option_map (vector_typ n) component
type_layer (ShaderType-F.Ptr space stored access) = option_map (pointer_typ space access) stored
type_layer (ShaderType-F.Ref space stored access) = None

-- The type as it is written, in full. References and abstract types have no form, and so has nothing that holds one.
abbrev pub type_written : ShaderType → Option Typ
type_written = fold-ShaderType (Option Typ) type_layer
