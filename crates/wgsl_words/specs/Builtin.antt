-- The predeclared names of WGSL that a unit may use without declaring them: types and type generators ("Predeclared Types and
-- Type-Generators Summary"), and enumerants ("Predeclared enumerants"). Built-in functions and the address space `handle`,
-- which no text writes, are left out (this project's choice).
use Rattle.std.specs.Prelude.{List, [], ◌∷◌, ◌++◌, codes}
use Rattle.wgsl_words.specs.Names.{Name}

-- types and type generators whose values are computed
abbrev pub value_types : List Name
value_types =
    codes "bool" ∷ codes "i32" ∷ codes "u32" ∷ codes "vec2" ∷ codes "vec3" ∷ codes "vec4" ∷ codes "vec2i" ∷
    codes "vec2u" ∷ codes "vec3i" ∷ codes "vec3u" ∷ codes "vec4i" ∷ codes "vec4u" ∷ codes "array" ∷ codes "ptr" ∷ []

-- other types and type generators
abbrev pub other_types : List Name
other_types =
    codes "f32" ∷ codes "f16" ∷ codes "vec2f" ∷ codes "vec2h" ∷ codes "vec3f" ∷ codes "vec3h" ∷ codes "vec4f" ∷
    codes "vec4h" ∷ codes "mat2x2" ∷ codes "mat2x3" ∷ codes "mat2x4" ∷ codes "mat3x2" ∷ codes "mat3x3" ∷
    codes "mat3x4" ∷ codes "mat4x2" ∷ codes "mat4x3" ∷ codes "mat4x4" ∷ codes "mat2x2f" ∷ codes "mat2x2h" ∷
    codes "mat2x3f" ∷ codes "mat2x3h" ∷ codes "mat2x4f" ∷ codes "mat2x4h" ∷ codes "mat3x2f" ∷ codes "mat3x2h" ∷
    codes "mat3x3f" ∷ codes "mat3x3h" ∷ codes "mat3x4f" ∷ codes "mat3x4h" ∷ codes "mat4x2f" ∷ codes "mat4x2h" ∷
    codes "mat4x3f" ∷ codes "mat4x3h" ∷ codes "mat4x4f" ∷ codes "mat4x4h" ∷ codes "atomic" ∷ codes "sampler" ∷
    codes "sampler_comparison" ∷ codes "texture_1d" ∷ codes "texture_2d" ∷ codes "texture_2d_array" ∷
    codes "texture_3d" ∷ codes "texture_cube" ∷ codes "texture_cube_array" ∷ codes "texture_multisampled_2d" ∷
    codes "texture_depth_multisampled_2d" ∷ codes "texture_external" ∷ codes "texture_storage_1d" ∷
    codes "texture_storage_2d" ∷ codes "texture_storage_2d_array" ∷ codes "texture_storage_3d" ∷
    codes "texture_depth_2d" ∷ codes "texture_depth_2d_array" ∷ codes "texture_depth_cube" ∷
    codes "texture_depth_cube_array" ∷ []

-- address spaces and access modes
abbrev pub storage_words : List Name
storage_words =
    codes "function" ∷ codes "private" ∷ codes "workgroup" ∷ codes "uniform" ∷ codes "storage" ∷ codes "read" ∷
    codes "write" ∷ codes "read_write" ∷ []

-- texel formats
abbrev pub texel_formats : List Name
texel_formats =
    codes "rgba8unorm" ∷ codes "rgba8snorm" ∷ codes "rgba8uint" ∷ codes "rgba8sint" ∷ codes "rgba16uint" ∷
    codes "rgba16sint" ∷ codes "rgba16float" ∷ codes "r32uint" ∷ codes "r32sint" ∷ codes "r32float" ∷
    codes "rg32uint" ∷ codes "rg32sint" ∷ codes "rg32float" ∷ codes "rgba32uint" ∷ codes "rgba32sint" ∷
    codes "rgba32float" ∷ codes "bgra8unorm" ∷ []

abbrev pub builtin_names : List Name
builtin_names = value_types ++ other_types ++ storage_words ++ texel_formats
