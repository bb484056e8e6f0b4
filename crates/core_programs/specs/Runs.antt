-- The start of a program, and its runs (WGSL, "Entry Points", "User-defined Inputs and Outputs").
use Rattle.std.specs.Prelude.{◌≡◌, ℕ, ℤ, pos, negsuc, ◌^◌, nat_lt, List, [], ◌∷◌, ◌++◌, Option, Some, None, Bool, true, false, Ok, Err, if◌then◌else◌, map}
use Rattle.std.specs.Str.{bytes_eq}
use Rattle.core_syntax.specs.Tree.{Attr, fragment, location, Param, Decl, variable, function, UnitTree}
use Rattle.core_syntax.specs.Names.{declared_name}
use Rattle.wgsl_words.specs.declared.enumerations.words.ShaderStage.TheVariants.{Const, Exec}
use Rattle.wgsl_shader_type.specs.declared.error.Error.TheVariants.{Conversion, ConvOverflow, ParamType, NotScalar}
use Rattle.wgsl_shader_type.specs.declared.literal.LiteralInstance.{LiteralInstance}
use Rattle.wgsl_shader_type.specs.declared.literal.LiteralInstance.TheVariants as scalar
use Rattle.wgsl_shader_type.specs.declared.tree.ShaderType.{ShaderType}
use Rattle.wgsl_shader_type.specs.declared.tree.ShaderType.TheVariants as type
use Rattle.wgsl_shader_type.specs.Alike as types
use Rattle.wgsl_scalar.specs.Scalars.{number}
use Rattle.wgsl_instance.specs.declared.tree.Instance.{Instance, out-Instance}
use Rattle.wgsl_instance.specs.declared.tree.Instance.TheOpen.{Instance-F}
use Rattle.wgsl_instance.specs.Typed.{type_of}
use Rattle.core_computations.specs.Machine.{State, Done, pure, fail, bind}
use Rattle.core_programs.specs.Faults.{Operation, NegativeAttr, OfName, UnknownDecl, NotEntrypoint, InvalidEntrypointParam, MissingUserInput}
use Rattle.core_programs.specs.Computing.{M, Checked, at_once, used}
use Rattle.core_programs.specs.Names.{Name, Symbol, Has, Env}
use Rattle.core_programs.specs.Meaning.{World, type_written, value}
use Rattle.core_programs.specs.Calls.{const_in, body_of}
use Rattle.core_programs.specs.Programs.{Program, Known, world, IsOrderOf, here}

-- ---- the start

-- these values in turn, each known to those behind it
abbrev pub started : Program → ℕ → Known → List Symbol → M Known
started p k known [] = pure known
started p k known (s ∷ rest) = bind (const_in (world p known k s.home) (p.printed s) (p.item s)) (λ v. started p k (known ++ (s, v) ∷ []) rest)

-- ---- entry points

-- what is handed in: values, by location
pub record Handed : Type 0 where
  pub inputs : ℕ → Option Instance

abbrev pub natural : LiteralInstance → ℤ → Checked ℕ
natural v (pos n) = if nat_lt n (2 ^ 32) then Ok n else Err (Operation (ConvOverflow v type.U32))
natural v (negsuc n) = Err (NegativeAttr (negsuc n))

abbrev pub scalar_number : LiteralInstance → Checked ℕ
scalar_number (scalar.Bool b) = Err (Operation (Conversion type.Bool type.U32))
scalar_number v = natural v (number v)

abbrev pub number_layer : Instance → Instance-F Instance → Checked ℕ
number_layer x (Instance-F.Literal v) = scalar_number v
number_layer x y = Err (Operation (NotScalar (type_of x)))

-- the number of an attribute
abbrev pub attribute_number : Instance → Checked ℕ
attribute_number x = number_layer x (out-Instance x)

-- the location of a parameter, by its first attribute of that kind
abbrev pub location_of : World → Name → List Attr → M ℕ
location_of w x [] = fail (OfName InvalidEntrypointParam x)
location_of w x (fragment ∷ rest) = location_of w x rest
location_of w x (location e ∷ rest) = bind (bind (value w Const [] e) used) (λ v. at_once (attribute_number v))

-- it has the parameter's own type
abbrev pub input_at : Name → ℕ → ShaderType → Option Instance → M Instance
input_at x n t None = fail (OfName (MissingUserInput n) x)
input_at x n t (Some v) = if types.same (type_of v) t then pure v else fail (Operation (ParamType t (type_of v)))

abbrev pub inputs_bound : World → Handed → List Param → M Env
inputs_bound w handed [] = pure []
inputs_bound w handed (p ∷ ps) =
    bind (location_of w p.name p.attributes) (λ n. bind (type_written w p.type) (λ t. bind (input_at p.name n t (handed.inputs n)) (λ v.
    bind (inputs_bound w handed ps) (λ env. pure ((p.name, Has v) ∷ env)))))

-- an entry point has a stage
abbrev pub has_stage : List Attr → Bool
has_stage [] = false
has_stage (fragment ∷ rest) = true
has_stage (location e ∷ rest) = has_stage rest

abbrev pub entered : World → Name → Option Decl → Handed → M (Option Instance)
entered w f (Some (function attributes g parameters return_attributes type body)) handed =
    if has_stage attributes then bind (inputs_bound w handed parameters) (body_of w Exec f type body.statements) else fail (OfName NotEntrypoint f)
entered w f (Some (variable attributes kind x type e)) handed = fail (OfName NotEntrypoint f)
entered w f None handed = fail (OfName UnknownDecl f)

-- ---- runs

-- the start in an order, then the entry point, which is no step. At most k calls are inside one another
abbrev pub run : Program → ℕ → List Symbol → Symbol → Handed → M (Option Instance)
run p k order s handed = bind (started p k [] order) (λ known. entered (world p known k s.home) (p.printed s) (p.item s) handed)

-- no cells, and so many steps
abbrev pub allowed : ℕ → State
allowed n = record { cells = []; left = n }

-- It ends well with this answer, within n steps for start and entry point together.
pub record EndsWell (p : Program) (s : Symbol) (handed : Handed) (n : ℕ) (answer : Option Instance) : Type 0 where
  pub order : List Symbol
  pub is_order : IsOrderOf p order
  pub bound : ℕ
  pub last : State
  pub ends : run p bound order s handed (allowed n) ≡ Done answer last

-- ---- a plain unit

-- the first declaration of a name
abbrev pub find_decl : Name → List Decl → Option Decl
find_decl x [] = None
find_decl x (d ∷ ds) = if bytes_eq x (declared_name d) then Some d else find_decl x ds

abbrev pub here_if : Name → Option Decl → Option Symbol
here_if x (Some d) = Some (here x)
here_if x None = None

-- each global name is a symbol of its own
abbrev pub plain : List Decl → Program
plain ds = record {
  held = map (λ d. here (declared_name d)) ds;
  item = λ s. find_decl s.called ds;
  printed = λ s. s.called;
  denotes = λ m x. here_if x (find_decl x ds);
}

abbrev pub program_of : UnitTree → Program
program_of u = plain u.declarations
