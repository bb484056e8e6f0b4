-- How a type is written (WGSL, "Types"; `AbstractInt` and `AbstractFloat`, and references, which no module can write, in this project's own way).
use Rattle.std.specs.Prelude.{ℕ, List, [], ◌++◌, Option, Some, None, codes}
use Rattle.std.specs.Fmt.{decimal}
use Rattle.wgsl_words.specs.Texts.{address_space_text, access_mode_text}
use Rattle.wgsl_words.specs.declared.enumerations.address.AddressSpace.{AddressSpace}
use Rattle.wgsl_words.specs.declared.enumerations.address.AddressSpace.TheVariants.{Storage}
use Rattle.wgsl_words.specs.declared.enumerations.address.AccessMode.{AccessMode}
use Rattle.wgsl_shader_type.specs.declared.tree.ShaderType.{ShaderType, fold-ShaderType}
use Rattle.wgsl_shader_type.specs.declared.tree.ShaderType.TheOpen.{ShaderType-F}

abbrev pub count_text : Option ℕ → List ℕ
count_text None = []
count_text (Some n) = codes ", " ++ decimal n

-- The access mode of a pointer is written in the storage space alone, the one space that leaves a choice.
abbrev pub pointer_access_text : AddressSpace → AccessMode → List ℕ
pointer_access_text Storage access = codes ", " ++ access_mode_text access
pointer_access_text _ access = []

-- the text of a type, from the texts of its parts
abbrev pub layer_text : ShaderType-F (List ℕ) → List ℕ
layer_text ShaderType-F.Bool = codes "bool"
layer_text ShaderType-F.AbstractInt = codes "AbstractInt"
layer_text ShaderType-F.AbstractFloat = codes "AbstractFloat"
layer_text ShaderType-F.I32 = codes "i32"
layer_text ShaderType-F.U32 = codes "u32"
layer_text ShaderType-F.F32 = codes "f32"
layer_text ShaderType-F.F16 = codes "f16"
layer_text (ShaderType-F.Struct s) = s.name
layer_text (ShaderType-F.Array element n) = codes "array<" ++ element ++ count_text n ++ codes ">"
layer_text (ShaderType-F.Vec n component) = codes "vec" ++ decimal n ++ codes "<" ++ component ++ codes ">"
layer_text (ShaderType-F.Ptr space stored access) =
    codes "ptr<" ++ address_space_text space ++ codes ", " ++ stored ++ pointer_access_text space access ++ codes ">"
layer_text (ShaderType-F.Ref space stored access) =
    codes "ref<" ++ address_space_text space ++ codes ", " ++ stored ++ codes ", " ++ access_mode_text access ++ codes ">"

abbrev pub type_text : ShaderType → List ℕ
type_text = fold-ShaderType (List ℕ) layer_text
