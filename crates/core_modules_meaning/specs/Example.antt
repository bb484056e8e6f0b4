-- Two modules whose names meet the premises of the laws: a const of one is imported and returned by the other's entry point.
use Rattle.std.specs.Prelude.{[], ◌∷◌, Some, None, codes}
use Rattle.wgsl_path.specs.declared.path.ModulePath.{ModulePath}
use Rattle.wgsl_path.specs.declared.path.PathOrigin.TheVariants.{Absolute}
use Rattle.core_syntax.specs.declared.expression.LiteralExpression.TheVariants as L
use Rattle.core_syntax.specs.declared.declaration.DeclarationKind.TheVariants.{Const}
use Rattle.core_syntax.specs.Tree.{literal, named, simple, fragment, returning, Decl, variable, function, Imp, UnitTree}
use Rattle.wgsl_shader_type.specs.declared.literal.LiteralInstance.TheVariants as V
use Rattle.wgsl_instance.specs.declared.tree.Instance.TheVariants as v
use Rattle.core_programs.specs.Names.{Name, Symbol}
use Rattle.core_programs.specs.Programs.{Program}
use Rattle.core_programs.specs.Runs.{Handed, EndsWell}
use Rattle.core_link_spec.specs.Modules.{Modules}
use Rattle.core_modules_meaning.specs.SourcePrograms.{Symbol as PathSymbol, sources}
use Rattle.core_modules_meaning.specs.Executions.{program_by_texts, IsProgramIn}
use Rattle.core_modules_meaning.specs.Runs.{AreLinkedWell}

-- `const two = 2u;` under a name
abbrev pub const_of_two : Name → Decl
const_of_two x = variable [] Const x None (Some (literal (L.U32 2)))

-- `@fragment fn g() -> u32 { return two; }`, where `two` has a name
abbrev pub entry_of : Name → Decl
entry_of x = function (fragment ∷ []) (codes "g") [] [] (Some (simple None (codes "u32"))) (record { attributes = []; statements = returning [] (Some (named (simple None x))) ∷ [] })

abbrev pub root_path : ModulePath
root_path = record { origin = Absolute; components = [] }

abbrev pub other_path : ModulePath
other_path = record { origin = Absolute; components = codes "m" ∷ [] }

-- `import package::m::two;`
abbrev pub import_of_two : Imp
import_of_two = record { attributes = []; path = Some other_path; item = codes "two"; rename = None }

abbrev pub root_unit : UnitTree
root_unit = record { imports = import_of_two ∷ []; declarations = entry_of (codes "two") ∷ [] }

abbrev pub other_unit : UnitTree
other_unit = record { imports = []; declarations = const_of_two (codes "two") ∷ [] }

abbrev pub two_modules : Modules
two_modules = (root_path, root_unit) ∷ (other_path, other_unit) ∷ []

abbrev pub linked_unit : UnitTree
linked_unit = record { imports = []; declarations = entry_of (codes "package_m_two") ∷ const_of_two (codes "package_m_two") ∷ [] }

abbrev pub entry : PathSymbol
entry = record { home = root_path; called = codes "g" }

abbrev pub the_two : PathSymbol
the_two = record { home = other_path; called = codes "two" }

abbrev pub the_program : Program
the_program = program_by_texts two_modules (codes "package") (sources two_modules (entry ∷ the_two ∷ []))

abbrev pub the_entry : Symbol
the_entry = record { home = codes "package"; called = codes "g" }

-- they are linked well into that unit, they have that program, and a run ends well with 2, without a step
pub record PremisesAreMet : Type 0 where
  pub linked_well : AreLinkedWell two_modules (codes "package") (codes "g" ∷ []) linked_unit
  pub program : IsProgramIn two_modules (codes "package") (codes "g" ∷ []) the_program
  pub ends_well : (handed : Handed) → EndsWell the_program the_entry handed 0 (Some (v.Literal (V.U32 2)))
