-- What the arguments of a template make (WGSL, "Type generators and their parameters").
use Rattle.std.specs.Prelude.{◌≡◌, ℕ, ℤ, pos, List, [], ◌∷◌, Option, Some, None, Bool, true, false, ◌==◌, nat_lt, codes, if◌then◌else◌}
use Rattle.wgsl_words.specs.declared.enumerations.address.AddressSpace.TheVariants.{Storage}
use Rattle.wgsl_words.specs.declared.enumerations.address.Enumerant.TheVariants as enumerant
use Rattle.wgsl_words.specs.Texts.{default_access}
use Rattle.wgsl_shader_type.specs.declared.tree.ShaderType.{ShaderType}
use Rattle.wgsl_shader_type.specs.Class.{is_scalar}
use Rattle.wgsl_shader_type.specs.declared.error.Error.{Error}
use Rattle.wgsl_shader_type.specs.declared.error.Error.TheVariants as error
use Rattle.wgsl_shader_type.specs.declared.literal.LiteralInstance.{LiteralInstance}
use Rattle.wgsl_shader_type.specs.declared.literal.LiteralInstance.TheVariants as literal
use Rattle.wgsl_shader_type.specs.declared.literal.TpltParam.{TpltParam}
use Rattle.wgsl_shader_type.specs.declared.literal.TpltParam.TheVariants.{Ty, Instance, Enumerant}
use Rattle.wgsl_types.specs.declared.template.ArrayTemplate.{ArrayTemplate}
use Rattle.wgsl_types.specs.declared.template.PtrTemplate.{PtrTemplate}

-- a vector: one scalar type
abbrev pub vector_reading : List TpltParam → Option ShaderType
vector_reading (Ty t ∷ []) = if is_scalar t then Some t else None
vector_reading _ = None

-- the whole number above 0 that a literal is
abbrev pub positive : ℤ → Option ℕ
positive (pos n) = if nat_lt 0 n then Some n else None
positive _ = None

abbrev pub count_reading : LiteralInstance → Option ℕ
count_reading (literal.AbstractInt n) = positive n
count_reading (literal.I32 n) = positive n
count_reading (literal.U32 n) = positive (pos n)
count_reading (literal.Bool b) = None

-- an array: a type and, after it, a count above 0, if there is one
abbrev pub counted : ShaderType → Option ℕ → Option ArrayTemplate
counted t None = None
counted t (Some n) = Some (record { element = t; count = Some n })

abbrev pub array_reading : List TpltParam → Option ArrayTemplate
array_reading (Ty t ∷ []) = Some (record { element = t; count = None })
array_reading (Ty t ∷ Instance l ∷ []) = counted t (count_reading l)
array_reading _ = None

-- a pointer: an address space and a type and, in the storage space, an access mode, if there is one
abbrev pub pointer_reading : List TpltParam → Option PtrTemplate
pointer_reading (Enumerant (enumerant.AddressSpace space) ∷ Ty t ∷ []) = Some (record { space = space; stored = t; access = default_access space })
pointer_reading (Enumerant (enumerant.AddressSpace Storage) ∷ Ty t ∷ Enumerant (enumerant.AccessMode access) ∷ []) = Some (record { space = Storage; stored = t; access = access })
pointer_reading _ = None

-- ---- what is refused

abbrev pub IsTemplateArgs : List ℕ → Error → Type 0
IsTemplateArgs what (error.TemplateArgs of) = of.now ≡ what
IsTemplateArgs what _ = ⊥

abbrev pub IsMissingTemplate : List ℕ → Error → Type 0
IsMissingTemplate what (error.MissingTemplate of) = of.now ≡ what
IsMissingTemplate what _ = ⊥

abbrev pub is_zero : LiteralInstance → Bool
is_zero (literal.AbstractInt (pos n)) = n == 0
is_zero (literal.I32 (pos n)) = n == 0
is_zero (literal.U32 n) = n == 0
is_zero _ = false

-- a type and the count 0
abbrev pub counts_zero : List TpltParam → Bool
counts_zero (Ty t ∷ Instance l ∷ []) = is_zero l
counts_zero _ = false

-- An array of no elements isn't supported; any other list that makes no array isn't a template of one.
abbrev pub array_template_fault : Bool → Error → Type 0
array_template_fault true fault = fault ≡ error.Todo (codes "array")
array_template_fault false fault = IsTemplateArgs (codes "array") fault

abbrev pub IsArrayTemplateFault : List TpltParam → Error → Type 0
IsArrayTemplateFault params fault = array_template_fault (counts_zero params) fault
