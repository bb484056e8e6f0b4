-- What some packages are linked into, and why others are not.
use Rattle.std.specs.Prelude.{◌≡◌, ℕ, List, [], ◌∷◌, Option, Some, None, true, false, if◌then◌else◌, codes, slice_get}
use Rattle.std.specs.Str.{bytes_eq}
use Rattle.wgsl_skeleton.specs.ExpressionsTree as e
use Rattle.wgsl_skeleton.specs.AttributesTree as a
use Rattle.wgsl_skeleton.specs.StatementsTree as t
use Rattle.wgsl_skeleton.specs.ImportsTree as i
use Rattle.wgsl_skeleton.specs.ImportsTree.{Directive}
use Rattle.wgsl_skeleton.specs.DeclarationsTree as d
use Rattle.wgsl_skeleton.specs.DeclarationsTree.{Decl, UnitTree}
use Rattle.wgsl_skeleton.specs.Occurrences.{Occurrence, occurrences}
use Rattle.wgsl_skeleton.specs.Trees.{declaration_node}
use Rattle.wgsl_skeleton.specs.Renaming.{Naming}
use Rattle.wesl_chains.specs.Outlines.{Name, Path}
use Rattle.wesl_linking_spec.specs.Outlining.{outline_of}
use Rattle.wesl_linking_spec.specs.Sources.{Answer, unit_of, not_found, Sources, canonical, Modules, unit_at}
use Rattle.wesl_linking_spec.specs.Loading.{too_many_modules, missing_decl}
use Rattle.wesl_linking_spec.specs.Asks.{Asks}
use Rattle.wesl_linking_spec.specs.Written.{IsWrittenDirective}
use Rattle.wesl_linking_spec.specs.Linked.{Held, DeclarationId, FirstOfEqual}
use Rattle.wesl_linking_spec.specs.Clashing.{Clashes}
use Rattle.wesl_linking_spec.specs.Linking.{Mode, lazy, eager, Request, not_loaded, IsLinkedFrom, RefusesToLink, HeldAfterStripping}
use Rattle.wesl_linking_spec.specs.Valid.{Call, calls, duplicate, undefined_symbol, param_count, IsMiscalled, IsFirstFault}
use Rattle.wesl_linking_spec.specs.Examples.{package_path, name, behind_path, call_of, const_of, parameter, returning, calling, function_of, marked, import_of, member, underlined, faulty_unit}

abbrev pub root : Path
root = codes "package"

abbrev pub m : Path
m = codes "package::m"

abbrev pub unit_of_declarations : List Decl → UnitTree
unit_of_declarations ds = record { imports = []; directives = []; declarations = ds }

-- ---- a package: import package::m::two; const a = two; | package::m: const two = u;

abbrev pub root_tree : UnitTree
root_tree = record { imports = import_of [] (package_path (codes "m" ∷ [])) (codes "two") ∷ []; directives = []; declarations = const_of (codes "a") (name (codes "two")) ∷ [] }

abbrev pub m_tree : UnitTree
m_tree = unit_of_declarations (const_of (codes "two") (name (codes "u")) ∷ [])

abbrev pub both : Modules
both = (root, root_tree) ∷ (m, m_tree) ∷ []

abbrev answer_of : Option UnitTree → Answer
answer_of None = not_found
answer_of (Some u) = unit_of u

abbrev pub sources : Sources
sources p a = a ≡ answer_of (unit_at both p)

-- these names are kept, and so many modules may be loaded
abbrev pub request : Mode → List Name → ℕ → Request
request mode asked max = record { root = root; asked = asked; mode = mode; max_modules = max }

-- const a = package_m_two; const package_m_two = u;
abbrev pub linked_tree : UnitTree
linked_tree = unit_of_declarations (const_of (codes "a") (name (codes "package_m_two")) ∷ const_of (codes "package_m_two") (name (codes "u")) ∷ [])

abbrev pub LinkedExample : Type 0
LinkedExample = IsLinkedFrom (request lazy (codes "a" ∷ []) 2) sources underlined linked_tree

-- both modules are asked for
abbrev pub AskedExample : Type 0
AskedExample = Asks sources root (codes "a" ∷ []) false 2 root × Asks sources root (codes "a" ∷ []) false 2 m

-- one module too many; and a name that the root lacks, in eager mode too
abbrev pub RefusedExample : Type 0
RefusedExample = RefusesToLink (request lazy (codes "a" ∷ []) 1) sources underlined (not_loaded (too_many_modules m))
    × RefusesToLink (request eager (codes "a" ∷ codes "b" ∷ []) 1) sources underlined (not_loaded (missing_decl root (codes "b")))

-- what is stripped is stripped of what was held
abbrev pub StrippedExample : Type 0
StrippedExample = HeldAfterStripping both root (codes "a" ∷ []) (Held both root [] true) m 0

-- ---- the root uses a name in the attributes of a body: const a = u; fn g(a: u32) @my(a) {}

abbrev pub with_attribute : Modules
with_attribute = (root, unit_of_declarations (const_of (codes "a") (name (codes "u")) ∷ d.function [] (codes "g") (parameter (codes "a") (codes "u32") ∷ []) [] None (t.block (marked (codes "a") ∷ []) t.nil) ∷ [])) ∷ []

-- ---- a directive holds what it uses, and the assertions of its module: @my(k) enable y; const k = u; const_assert u;

abbrev pub directed_tree : UnitTree
directed_tree = record { imports = []; directives = i.enabling (marked (codes "k") ∷ []) (codes "y" ∷ []) ∷ []; declarations = const_of (codes "k") (name (codes "u")) ∷ d.assertion [] (name (codes "u")) ∷ [] }

abbrev pub directed : Modules
directed = (root, m_tree) ∷ (m, directed_tree) ∷ []

abbrev pub HeldExample : Type 0
HeldExample = Held with_attribute root (codes "g" ∷ []) false root 0 × Held directed root [] false m 1 × Held directed root [] false m 2

-- ---- directives that are written alike stand once

abbrev two_renamed : Naming
two_renamed path x = if bytes_eq x (codes "two") then codes "package_m_two" else x

abbrev pub enabling_by : e.Exp → Directive
enabling_by x = i.enabling (a.custom (codes "my") (Some (x ∷ [])) ∷ []) (codes "y" ∷ [])

abbrev pub at_spot : Path → DeclarationId × Directive
at_spot p = ((p, 0), enabling_by (name (codes "package_m_two")))

abbrev pub DirectiveExample : Type 0
DirectiveExample = IsWrittenDirective two_renamed (enabling_by (behind_path (package_path (codes "m" ∷ [])) (codes "two"))) (enabling_by (name (codes "package_m_two")))
    × IsWrittenDirective two_renamed (enabling_by (name (codes "two"))) (enabling_by (name (codes "package_m_two")))
    × FirstOfEqual (at_spot root ∷ at_spot m ∷ []) (at_spot root ∷ [])

-- ---- names that are read otherwise than meant

-- fn g(y: u32) { return package::y; }
abbrev pub hiding : Decl
hiding = function_of (codes "g") (parameter (codes "y") (codes "u32") ∷ []) (returning (behind_path (package_path []) (codes "y")) ∷ [])

abbrev pub hiding_tree : UnitTree
hiding_tree = unit_of_declarations (const_of (codes "y") (name (codes "u")) ∷ hiding ∷ [])

abbrev pub hidden_use : Occurrence
hidden_use = record { path = Some (package_path []); name = codes "y"; locals = codes "y" ∷ [] }

-- fn max() {} | package::m: fn f() { max(); }
abbrev pub capturing : Decl
capturing = function_of (codes "f") [] (calling (codes "max") ∷ [])

abbrev pub captured : Modules
captured = (root, unit_of_declarations (function_of (codes "max") [] [] ∷ [])) ∷ (m, unit_of_declarations (capturing ∷ [])) ∷ []

abbrev pub captured_use : Occurrence
captured_use = record { path = None; name = codes "max"; locals = [] }

abbrev pub ClashExample : Type 0
ClashExample = (slice_get (occurrences [] (declaration_node hiding)) 1 ≡ Some hidden_use)
    × Clashes ((root, hiding_tree) ∷ []) root underlined (Held ((root, hiding_tree) ∷ []) root (codes "g" ∷ []) false) root (outline_of (canonical root) hiding_tree) hidden_use (codes "y")
    × (slice_get (occurrences [] (declaration_node capturing)) 0 ≡ Some captured_use)
    × Clashes captured root underlined (Held captured root (codes "max" ∷ []) false) m (outline_of (canonical m) (unit_of_declarations (capturing ∷ []))) captured_use (codes "max")

-- ---- first faults

-- const k = u; fn g() { k(); zzz(); }: what is undefined is told before what is no function
abbrev pub undefined_unit : UnitTree
undefined_unit = unit_of_declarations (const_of (codes "k") (name (codes "u")) ∷ function_of (codes "g") [] (calling (codes "k") ∷ calling (codes "zzz") ∷ []) ∷ [])

-- alias A = S; struct S { a: t, b: t } const c = A(u);
abbrev pub alias_unit : UnitTree
alias_unit = unit_of_declarations (d.alias [] (codes "A") (e.simple None (codes "S")) ∷ d.structure [] (codes "S") (member (codes "a") ∷ member (codes "b") ∷ [])
    ∷ const_of (codes "c") (call_of (codes "A") (name (codes "u") ∷ [])) ∷ [])

abbrev pub alias_call : Call
alias_call = record { callee = record { path = None; name = codes "A"; locals = [] }; is_templated = false; count = 1 }

abbrev pub FaultExample : Type 0
FaultExample = IsFirstFault faulty_unit [] duplicate 1 (codes "p") × IsFirstFault undefined_unit (codes "u" ∷ []) undefined_symbol 1 (codes "zzz")
    × (calls [] (declaration_node (const_of (codes "c") (call_of (codes "A") (name (codes "u") ∷ [])))) ≡ alias_call ∷ []) × IsMiscalled alias_unit alias_call param_count
