-- The built-in names of types, and what each stands for (WGSL, "Predeclared Types and Type-Generators Summary", "Predeclared Type Aliases").
use Rattle.std.specs.Prelude.{◌≡◌, ℕ, List, [], ◌∷◌, map, Option, Some, None, Result, MatchResult, Bool, true, false, ◌⊎◌, codes, if◌then◌else◌}
use Rattle.std.specs.Option.{option_map}
use Rattle.std.specs.Str.{bytes_eq}
use Rattle.wgsl_words.specs.Names.{Name, is_in}
use Rattle.wgsl_words.specs.Builtin.{value_types, other_types}
use Rattle.wgsl_shader_type.specs.declared.tree.ShaderType.{ShaderType}
use Rattle.wgsl_shader_type.specs.declared.tree.ShaderType.TheVariants as type
use Rattle.wgsl_shader_type.specs.declared.error.Error.{Error}
use Rattle.wgsl_shader_type.specs.declared.error.Error.TheVariants as error
use Rattle.wgsl_shader_type.specs.declared.literal.TpltParam.{TpltParam}
use Rattle.wgsl_types.specs.declared.names.BuiltinName.{BuiltinName}
use Rattle.wgsl_types.specs.declared.names.BuiltinName.TheVariants as name
use Rattle.wgsl_types.specs.Template.{vector_reading, array_reading, pointer_reading, IsTemplateArgs, IsMissingTemplate, IsArrayTemplateFault}

-- What each type with values here stands for; that these are the types of the table of built-in names, `laws` says.
abbrev pub supported_names : List (Name × BuiltinName)
supported_names =
    (codes "bool", name.Scalar type.Bool) ∷ (codes "i32", name.Scalar type.I32) ∷ (codes "u32", name.Scalar type.U32)
    ∷ (codes "vec2", name.Vector 2 None) ∷ (codes "vec3", name.Vector 3 None) ∷ (codes "vec4", name.Vector 4 None)
    ∷ (codes "vec2i", name.Vector 2 (Some type.I32)) ∷ (codes "vec2u", name.Vector 2 (Some type.U32))
    ∷ (codes "vec3i", name.Vector 3 (Some type.I32)) ∷ (codes "vec3u", name.Vector 3 (Some type.U32))
    ∷ (codes "vec4i", name.Vector 4 (Some type.I32)) ∷ (codes "vec4u", name.Vector 4 (Some type.U32))
    ∷ (codes "array", name.Array) ∷ (codes "ptr", name.Pointer) ∷ []

abbrev pub SupportedNamesAreValueTypes : Type 0
SupportedNamesAreValueTypes = map (λ entry. entry.0) supported_names ≡ value_types

-- what a table gives a text, or else `other`
abbrev pub listed : {A : Type 0} → A → List (List ℕ × A) → List ℕ → A
listed other [] text = other
listed other (entry ∷ entries) text = if bytes_eq text entry.0 then entry.1 else listed other entries text

abbrev pub builtin_name : List ℕ → BuiltinName
builtin_name text = listed (if is_in text other_types then name.LeftOut else name.Unknown) supported_names text

-- The names with constructors: scalars, vectors and arrays.
abbrev pub has_constructor : BuiltinName → Bool
has_constructor (name.Scalar t) = true
has_constructor (name.Vector n component) = true
has_constructor name.Array = true
has_constructor _ = false

-- The type that a name stands for, with a template or without one.
abbrev pub named_type : BuiltinName → Option (List TpltParam) → Option ShaderType
named_type (name.Scalar t) None = Some t
named_type (name.Vector n (Some component)) None = Some (type.Vec n component)
named_type (name.Vector n None) (Some params) = option_map (λ component. type.Vec n component) (vector_reading params)
named_type name.Array (Some params) = option_map (λ made. type.Array made.element made.count) (array_reading params)
named_type name.Pointer (Some params) = option_map (λ made. type.Ptr made.space made.stored made.access) (pointer_reading params)
named_type _ _ = None

-- What is refused where a name stands for none: a template that is too much, is missing, or can't be read, and a name that is left out, or isn't built in.
abbrev pub IsTypeFault : List ℕ → BuiltinName → Option (List TpltParam) → Error → Type 0
IsTypeFault text (name.Scalar t) template fault = fault ≡ error.UnexpectedTemplate text
IsTypeFault text (name.Vector n (Some component)) template fault = fault ≡ error.UnexpectedTemplate text
IsTypeFault text (name.Vector n None) None fault = IsMissingTemplate (codes "vec") fault
IsTypeFault text (name.Vector n None) (Some params) fault = IsTemplateArgs (codes "vec") fault
IsTypeFault text name.Array None fault = IsMissingTemplate (codes "array") fault
IsTypeFault text name.Array (Some params) fault = IsArrayTemplateFault params fault
IsTypeFault text name.Pointer None fault = IsMissingTemplate (codes "ptr") fault
IsTypeFault text name.Pointer (Some params) fault = IsTemplateArgs (codes "ptr") fault
IsTypeFault text name.LeftOut template fault = fault ≡ error.Todo text
IsTypeFault text name.Unknown template fault = fault ≡ error.UnknownType text

abbrev pub AnswersType : List ℕ → BuiltinName → Option (List TpltParam) → Result ShaderType Error → Type 0
AnswersType text builtin template answer = MatchResult answer
    (λ made. named_type builtin template ≡ Some made)
    (λ fault. (fault ≡ error.OutOfMemory) ⊎ ((named_type builtin template ≡ None) × IsTypeFault text builtin template fault))
