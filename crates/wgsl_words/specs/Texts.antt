-- How the words and signs of WGSL's enumerations are written.
use Rattle.std.specs.Prelude.{◌≡◌, ◌≢◌, ℕ, List, Option, Some, None, Result, MatchResult, codes}
use Rattle.wgsl_words.specs.declared.enumerations.address.AddressSpace.{AddressSpace}
use Rattle.wgsl_words.specs.declared.enumerations.address.AddressSpace.TheVariants as address_space
use Rattle.wgsl_words.specs.declared.enumerations.address.AccessMode.{AccessMode}
use Rattle.wgsl_words.specs.declared.enumerations.address.AccessMode.TheVariants as access_mode
use Rattle.wgsl_words.specs.declared.enumerations.builtin.BuiltinValue.{BuiltinValue}
use Rattle.wgsl_words.specs.declared.enumerations.builtin.BuiltinValue.TheVariants as builtin_value
use Rattle.wgsl_words.specs.declared.enumerations.words.DiagnosticSeverity.{DiagnosticSeverity}
use Rattle.wgsl_words.specs.declared.enumerations.words.DiagnosticSeverity.TheVariants as diagnostic_severity
use Rattle.wgsl_words.specs.declared.enumerations.words.InterpolationType.{InterpolationType}
use Rattle.wgsl_words.specs.declared.enumerations.words.InterpolationType.TheVariants as interpolation_type
use Rattle.wgsl_words.specs.declared.enumerations.words.InterpolationSampling.{InterpolationSampling}
use Rattle.wgsl_words.specs.declared.enumerations.words.InterpolationSampling.TheVariants as interpolation_sampling
use Rattle.wgsl_words.specs.declared.enumerations.words.ShaderStage.{ShaderStage}
use Rattle.wgsl_words.specs.declared.enumerations.words.ShaderStage.TheVariants as shader_stage
use Rattle.wgsl_words.specs.declared.enumerations.words.AssignmentOperator.{AssignmentOperator}
use Rattle.wgsl_words.specs.declared.enumerations.words.AssignmentOperator.TheVariants as assignment_operator
use Rattle.wgsl_words.specs.declared.enumerations.address.Enumerant.{Enumerant}
use Rattle.wgsl_words.specs.declared.enumerations.address.Enumerant.TheVariants as enumerant

-- A word is read exactly where a value has it for its text: `spelled` gives each value its text, or nothing where no text names it.
abbrev pub ParsesExactly : {T E : Type 0} → (T → Option (List ℕ)) → List ℕ → Result T E → Type 0
ParsesExactly {T} spelled text result = MatchResult result (λ value. spelled value ≡ Some text) (λ _. (value : T) → spelled value ≢ Some text)

-- An address space (WGSL, "Address spaces").
abbrev pub address_space_text : AddressSpace → List ℕ
address_space_text address_space.Function = codes "function"
address_space_text address_space.Private = codes "private"
address_space_text address_space.Workgroup = codes "workgroup"
address_space_text address_space.Uniform = codes "uniform"
address_space_text address_space.Storage = codes "storage"
address_space_text address_space.Handle = codes "handle"

abbrev pub address_space_spelled : AddressSpace → Option (List ℕ)
address_space_spelled address_space.Function = Some (address_space_text address_space.Function)
address_space_spelled address_space.Private = Some (address_space_text address_space.Private)
address_space_spelled address_space.Workgroup = Some (address_space_text address_space.Workgroup)
address_space_spelled address_space.Uniform = Some (address_space_text address_space.Uniform)
address_space_spelled address_space.Storage = Some (address_space_text address_space.Storage)
address_space_spelled address_space.Handle = None

-- An access mode (WGSL, "Memory access mode").
abbrev pub access_mode_text : AccessMode → List ℕ
access_mode_text access_mode.Read = codes "read"
access_mode_text access_mode.Write = codes "write"
access_mode_text access_mode.ReadWrite = codes "read_write"

abbrev pub access_mode_spelled : AccessMode → Option (List ℕ)
access_mode_spelled value = Some (access_mode_text value)

-- A built-in value of a shader stage (WGSL, "Built-in inputs and outputs").
abbrev pub builtin_value_text : BuiltinValue → List ℕ
builtin_value_text builtin_value.VertexIndex = codes "vertex_index"
builtin_value_text builtin_value.InstanceIndex = codes "instance_index"
builtin_value_text builtin_value.ClipDistances = codes "clip_distances"
builtin_value_text builtin_value.Position = codes "position"
builtin_value_text builtin_value.FrontFacing = codes "front_facing"
builtin_value_text builtin_value.FragDepth = codes "frag_depth"
builtin_value_text builtin_value.SampleIndex = codes "sample_index"
builtin_value_text builtin_value.SampleMask = codes "sample_mask"
builtin_value_text builtin_value.LocalInvocationId = codes "local_invocation_id"
builtin_value_text builtin_value.LocalInvocationIndex = codes "local_invocation_index"
builtin_value_text builtin_value.GlobalInvocationId = codes "global_invocation_id"
builtin_value_text builtin_value.WorkgroupId = codes "workgroup_id"
builtin_value_text builtin_value.NumWorkgroups = codes "num_workgroups"
builtin_value_text builtin_value.SubgroupInvocationId = codes "subgroup_invocation_id"
builtin_value_text builtin_value.SubgroupSize = codes "subgroup_size"

abbrev pub builtin_value_spelled : BuiltinValue → Option (List ℕ)
builtin_value_spelled value = Some (builtin_value_text value)

-- A severity of a diagnostic (WGSL, "Diagnostics").
abbrev pub diagnostic_severity_text : DiagnosticSeverity → List ℕ
diagnostic_severity_text diagnostic_severity.Error = codes "error"
diagnostic_severity_text diagnostic_severity.Warning = codes "warning"
diagnostic_severity_text diagnostic_severity.Info = codes "info"
diagnostic_severity_text diagnostic_severity.Off = codes "off"

abbrev pub diagnostic_severity_spelled : DiagnosticSeverity → Option (List ℕ)
diagnostic_severity_spelled value = Some (diagnostic_severity_text value)

-- How a value is interpolated between vertices (WGSL, "Interpolation").
abbrev pub interpolation_type_text : InterpolationType → List ℕ
interpolation_type_text interpolation_type.Perspective = codes "perspective"
interpolation_type_text interpolation_type.Linear = codes "linear"
interpolation_type_text interpolation_type.Flat = codes "flat"

abbrev pub interpolation_type_spelled : InterpolationType → Option (List ℕ)
interpolation_type_spelled value = Some (interpolation_type_text value)

-- Where a value is sampled for interpolation (WGSL, "Interpolation").
abbrev pub interpolation_sampling_text : InterpolationSampling → List ℕ
interpolation_sampling_text interpolation_sampling.Center = codes "center"
interpolation_sampling_text interpolation_sampling.Centroid = codes "centroid"
interpolation_sampling_text interpolation_sampling.Sample = codes "sample"
interpolation_sampling_text interpolation_sampling.First = codes "first"
interpolation_sampling_text interpolation_sampling.Either = codes "either"

abbrev pub interpolation_sampling_spelled : InterpolationSampling → Option (List ℕ)
interpolation_sampling_spelled value = Some (interpolation_sampling_text value)

-- When an expression is evaluated: as the shader module is created, as the pipeline is, or as the shader runs (WGSL, "Shader lifecycle").
-- No text of WGSL writes a stage, so it prints under its own name.
abbrev pub shader_stage_text : ShaderStage → List ℕ
shader_stage_text shader_stage.Const = codes "Const"
shader_stage_text shader_stage.Override = codes "Override"
shader_stage_text shader_stage.Exec = codes "Exec"

abbrev pub shader_stage_spelled : ShaderStage → Option (List ℕ)
shader_stage_spelled value = Some (shader_stage_text value)

-- The sign of an assignment (WGSL, "Assignment statement").
abbrev pub assignment_operator_text : AssignmentOperator → List ℕ
assignment_operator_text assignment_operator.Equal = codes "="
assignment_operator_text assignment_operator.PlusEqual = codes "+="
assignment_operator_text assignment_operator.MinusEqual = codes "-="
assignment_operator_text assignment_operator.TimesEqual = codes "*="
assignment_operator_text assignment_operator.DivisionEqual = codes "/="
assignment_operator_text assignment_operator.ModuloEqual = codes "%="
assignment_operator_text assignment_operator.AndEqual = codes "&="
assignment_operator_text assignment_operator.OrEqual = codes "|="
assignment_operator_text assignment_operator.XorEqual = codes "^="
assignment_operator_text assignment_operator.ShiftRightAssign = codes ">>="
assignment_operator_text assignment_operator.ShiftLeftAssign = codes "<<="

abbrev pub assignment_operator_spelled : AssignmentOperator → Option (List ℕ)
assignment_operator_spelled value = Some (assignment_operator_text value)

-- An enumerant is one of these two (WGSL, "Predeclared enumerants").
abbrev pub enumerant_text : Enumerant → List ℕ
enumerant_text (enumerant.AccessMode mode) = access_mode_text mode
enumerant_text (enumerant.AddressSpace space) = address_space_text space

abbrev pub enumerant_spelled : Enumerant → Option (List ℕ)
enumerant_spelled (enumerant.AccessMode mode) = access_mode_spelled mode
enumerant_spelled (enumerant.AddressSpace space) = address_space_spelled space

-- The access mode of a variable whose declaration names none (WGSL, "Address spaces").
abbrev pub default_access : AddressSpace → AccessMode
default_access address_space.Function = access_mode.ReadWrite
default_access address_space.Private = access_mode.ReadWrite
default_access address_space.Workgroup = access_mode.ReadWrite
default_access address_space.Uniform = access_mode.Read
default_access address_space.Storage = access_mode.Read
default_access address_space.Handle = access_mode.Read
