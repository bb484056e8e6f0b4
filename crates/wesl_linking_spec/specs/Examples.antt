-- What the definitions compute of some modules and declarations.
use Rattle.std.specs.Prelude.{◌≡◌, ℕ, List, [], ◌∷◌, ◌++◌, map, Some, None, Bool, true, false, codes}
use Rattle.std.specs.List.{flat_map}
use Rattle.wesl_chains.specs.ModulePath.{ModulePath}
use Rattle.wesl_chains.specs.PathOrigin.TheVariants.{Absolute, Relative, Package}
use Rattle.wgsl_skeleton.specs.DeclarationKind.TheVariants.{Const, Let}
use Rattle.wgsl_skeleton.specs.ExpressionsTree as e
use Rattle.wgsl_skeleton.specs.ExpressionsTree.{Exp, exps}
use Rattle.wgsl_skeleton.specs.AttributesTree as a
use Rattle.wgsl_skeleton.specs.ImportsTree as i
use Rattle.wgsl_skeleton.specs.SimpleStatementsTree as s
use Rattle.wgsl_skeleton.specs.StatementsTree as t
use Rattle.wgsl_skeleton.specs.DeclarationsTree as d
use Rattle.wgsl_skeleton.specs.DeclarationsTree.{Decl, UnitTree}
use Rattle.wgsl_skeleton.specs.Occurrences.{occurrences, is_among}
use Rattle.wgsl_skeleton.specs.Trees.{declaration_node}
use Rattle.wgsl_skeleton.specs.Renaming.{Naming}
use Rattle.wesl_chains.specs.Outlines.{Name, Use, Outline, scope_names}
use Rattle.wesl_chains.specs.Senses.{sense, own, imported, free}
use Rattle.wesl_linking_spec.specs.Outlining.{uses_in, outline_of, nodes_of}
use Rattle.wesl_linking_spec.specs.Sources.{canonical}
use Rattle.wesl_linking_spec.specs.Loading.{kept_names}
use Rattle.wesl_linking_spec.specs.Written.{written, called, Mangler, printed}
use Rattle.wesl_linking_spec.specs.Clashing.{Mention, occurs, declares, declaration_mentions}
use Rattle.wesl_linking_spec.specs.Valid.{duplicates_of, undefined_in, Call, calls, rows}

-- ---- trees

abbrev pub package_path : List Name → ModulePath
package_path xs = record { origin = Absolute; components = xs }

abbrev pub package_named : Name → ModulePath
package_named p = record { origin = Package p; components = [] }

abbrev pub name : Name → Exp
name x = e.named (e.simple None x)

abbrev pub behind_path : ModulePath → Name → Exp
behind_path p x = e.named (e.simple (Some p) x)

abbrev pub call_of : Name → List Exp → Exp
call_of x xs = e.call (e.simple None x) (exps xs)

abbrev pub const_of : Name → Exp → Decl
const_of x value = d.variable [] Const x None (Some value)

abbrev pub parameter : Name → Name → d.Param
parameter x type = record { attributes = []; name = x; type = e.simple None type }

abbrev pub statements : List t.Stm → t.Stms
statements [] = t.nil
statements (x ∷ xs) = t.cons x (statements xs)

abbrev pub block_of : List t.Stm → t.Block
block_of xs = t.block [] (statements xs)

abbrev pub returning : Exp → t.Stm
returning x = t.simple (s.returning [] (Some x))

abbrev pub calling : Name → t.Stm
calling x = t.simple (s.calling [] (e.simple None x) e.nil)

abbrev pub let_of : Name → Exp → t.Stm
let_of x value = t.simple (s.declaring [] Let x None (Some value))

abbrev pub ignored : Exp → t.Stm
ignored x = t.simple (s.declaring [] Let (codes "ignored") None (Some x))

-- a function without a result
abbrev pub function_of : Name → List d.Param → List t.Stm → Decl
function_of x parameters xs = d.function [] x parameters [] None (block_of xs)

-- an attribute that is not WGSL's, with a name in it
abbrev pub marked : Name → a.Attr
marked x = a.custom (codes "my") (Some (name x ∷ []))

abbrev pub import_of : List a.Attr → ModulePath → Name → i.Importing
import_of attributes m x = record { attributes = attributes; path = Some m; content = i.item x None }

-- ---- paths

-- a path in the own package, one in another package, and texts that are no paths
abbrev pub CanonicalExample : Type 0
CanonicalExample = map canonical (codes "package::a::b" ∷ codes "p::q" ∷ codes "" ∷ codes "a::super" ∷ [])
    ≡ package_path (codes "a" ∷ codes "b" ∷ []) ∷ record { origin = Package (codes "p"); components = codes "q" ∷ [] } ∷ package_named (codes "")
    ∷ package_named (codes "a::super") ∷ []

-- ---- a module at package::r::s:
-- import package::m::{x as y, n::z}; @publish import super::k::w; import b; enable f16;
-- @fragment fn main() {} const c = y; const_assert z;
abbrev pub module_tree : UnitTree
module_tree = record {
  imports = record { attributes = []; path = Some (package_path (codes "m" ∷ [])); content = i.collection (i.imps (record { path = []; content = i.item (codes "x") (Some (codes "y")) } ∷ record { path = codes "n" ∷ []; content = i.item (codes "z") None } ∷ [])) }
      ∷ import_of (a.publish ∷ []) (record { origin = Relative 1; components = codes "k" ∷ [] }) (codes "w")
      ∷ record { attributes = []; path = None; content = i.item (codes "b") None } ∷ [];
  directives = i.enabling [] (codes "f16" ∷ []) ∷ [];
  declarations = d.function (a.fragment ∷ []) (codes "main") [] [] None (block_of []) ∷ const_of (codes "c") (name (codes "y")) ∷ d.assertion [] (name (codes "z")) ∷ [];
}

abbrev outline : Outline
outline = outline_of (package_path (codes "r" ∷ codes "s" ∷ [])) module_tree

abbrev pub ScopeExample : Type 0
ScopeExample = scope_names outline ≡ codes "y" ∷ codes "z" ∷ codes "w" ∷ codes "b" ∷ codes "main" ∷ codes "c" ∷ []

abbrev pub plain : Name → Use
plain x = record { path = None; name = x }

abbrev pub behind : ModulePath → Name → Use
behind p x = record { path = Some p; name = x }

-- places count directives first; items of lists and of relative imports have full paths
abbrev pub SenseExample : Type 0
SenseExample = map (sense outline) (plain (codes "c") ∷ plain (codes "y") ∷ plain (codes "z") ∷ plain (codes "w") ∷ plain (codes "u") ∷ [])
    ≡ own 2 ∷ imported (record { home = codes "package::m"; name = codes "x" }) ∷ imported (record { home = codes "package::m::n"; name = codes "z" })
    ∷ imported (record { home = codes "package::r::k"; name = codes "w" }) ∷ free ∷ []

-- where no name is asked for, entry points are kept
abbrev pub KeptExample : Type 0
KeptExample = (kept_names [] outline ≡ codes "main" ∷ []) × (kept_names (codes "c" ∷ []) outline ≡ codes "c" ∷ [])

-- ---- what declarations use

-- fn g(a: u32) @my(a) {}: the attributes of a body are read without the parameters
abbrev pub with_body_attribute : Decl
with_body_attribute = d.function [] (codes "g") (parameter (codes "a") (codes "u32") ∷ []) [] None (t.block (marked (codes "a") ∷ []) t.nil)

-- fn g(two: u32) { return two; }
abbrev with_local : Decl
with_local = function_of (codes "g") (parameter (codes "two") (codes "u32") ∷ []) (returning (name (codes "two")) ∷ [])

-- fn g(m: u32) { return m::x; return m; }: a local hides no first name of a path
abbrev with_local_path : Decl
with_local_path = function_of (codes "g") (parameter (codes "m") (codes "u32") ∷ []) (returning (behind_path (package_named (codes "m")) (codes "x")) ∷ returning (name (codes "m")) ∷ [])

-- const c = package::f<package::a>(package::b);
abbrev with_template : Decl
with_template = const_of (codes "c") (e.call (e.templated (Some (package_path [])) (codes "f") (exps (behind_path (package_path []) (codes "a") ∷ []))) (exps (behind_path (package_path []) (codes "b") ∷ [])))

abbrev pub UsesExample : Type 0
UsesExample = map (λ x. uses_in (declaration_node x)) (with_body_attribute ∷ with_local ∷ with_local_path ∷ with_template ∷ [])
    ≡ (plain (codes "u32") ∷ plain (codes "a") ∷ []) ∷ (plain (codes "u32") ∷ []) ∷ (plain (codes "u32") ∷ behind (package_named (codes "m")) (codes "x") ∷ [])
    ∷ (behind (package_path []) (codes "f") ∷ behind (package_path []) (codes "a") ∷ behind (package_path []) (codes "b") ∷ []) ∷ []

-- @my(gone) import package::n::y; fn g() {}: attributes of imports use nothing
abbrev pub ImportExample : Type 0
ImportExample = flat_map (λ x. x.uses) (outline_of (package_path []) (record { imports = import_of (marked (codes "gone") ∷ []) (package_path (codes "n" ∷ [])) (codes "y") ∷ []; directives = []; declarations = function_of (codes "g") [] [] ∷ [] })).entries
    ≡ []

-- ---- writing

-- fn f(p: T) { let x = package::m::x(p); g<y>(x); }
abbrev pub written_before : Decl
written_before = function_of (codes "f") (parameter (codes "p") (codes "T") ∷ [])
    (let_of (codes "x") (e.call (e.simple (Some (package_path (codes "m" ∷ []))) (codes "x")) (exps (name (codes "p") ∷ [])))
    ∷ t.simple (s.calling [] (e.templated None (codes "g") (exps (name (codes "y") ∷ []))) (exps (name (codes "x") ∷ []))) ∷ [])

abbrev pub written_after : Decl
written_after = function_of (codes "F") (parameter (codes "p") (codes "TT") ∷ [])
    (let_of (codes "x") (e.call (e.simple None (codes "_")) (exps (name (codes "p") ∷ [])))
    ∷ t.simple (s.calling [] (e.templated None (codes "gg") (exps (name (codes "yy") ∷ []))) (exps (name (codes "x") ∷ []))) ∷ [])

-- each name with a path is called `_`, any other is doubled
abbrev new_names : Naming
new_names (Some p) x = codes "_"
new_names None x = x ++ x

-- locals stay, paths go, and what is called `_` is read as nothing
abbrev pub WritingExample : Type 0
WritingExample = declaration_node written_after ≡ called (codes "F") (written new_names (declaration_node written_before))

-- the names of a path and of an item, each behind `_`
abbrev pub underlined : Mangler
underlined path x = codes "package" ++ flat_map (λ part. 95 ∷ part) (path.components ++ x ∷ [])

abbrev constant_in : Name → UnitTree
constant_in x = record { imports = []; directives = []; declarations = const_of x (name (codes "u")) ∷ [] }

-- the root's names stay, also where it is no package's root
abbrev pub PrintedExample : Type 0
PrintedExample = map (λ m. printed ((codes "package::z", constant_in (codes "k")) ∷ (codes "package", constant_in (codes "q")) ∷ []) (codes "package::z") underlined m 0) (codes "package::z" ∷ codes "package" ∷ codes "package::y" ∷ [])
    ≡ Some (codes "k") ∷ Some (codes "package_q") ∷ None ∷ []

-- ---- mentions

abbrev mention_text : Mention → Name
mention_text (occurs o) = o.name
mention_text declares = codes "."

-- @size(n) const k: t = v;
abbrev pub MentionExample : Type 0
MentionExample = map mention_text (declaration_mentions (d.variable (a.byte_size (name (codes "n")) ∷ []) Const (codes "k") (Some (e.simple None (codes "t"))) (Some (name (codes "v")))))
    ≡ codes "n" ∷ codes "." ∷ codes "t" ∷ codes "v" ∷ []

-- fn g() { let q = two; let package_m_two = q; let r = two; }: the local is in scope behind its own statement alone
abbrev pub HiddenExample : Type 0
HiddenExample = map {B = Name × Bool} (λ o. (o.name, is_among (codes "package_m_two") o.locals))
    (occurrences [] (declaration_node (function_of (codes "g") [] (let_of (codes "q") (name (codes "two")) ∷ let_of (codes "package_m_two") (name (codes "q")) ∷ let_of (codes "r") (name (codes "two")) ∷ []))))
    ≡ (codes "two", false) ∷ (codes "q", false) ∷ (codes "two", true) ∷ []

-- ---- faults

abbrev pub member : Name → d.Member
member x = record { attributes = []; name = x; type = e.simple None (codes "t") }

abbrev let_called : Name → t.Stm
let_called x = let_of x (call_of (codes "h") (name (codes "x") ∷ call_of (codes "k") [] ∷ []))

-- @my(u) fn f(p: T) { let p = h(x, k()); { let p = h(x, k()); } let q = h(x, k()); }
abbrev pub faulty : Decl
faulty = d.function (marked (codes "u") ∷ []) (codes "f") (parameter (codes "p") (codes "T") ∷ []) [] None
    (block_of (let_called (codes "p") ∷ t.compound_statement (block_of (let_called (codes "p") ∷ [])) ∷ let_called (codes "q") ∷ []))

-- fn g() { loop { let a = u; continuing { let a = u; break if a; } } }: the scope of `continuing` is its own
abbrev looping : Decl
looping = function_of (codes "g") []
    (t.loop_statement [] (block_of (let_of (codes "a") (name (codes "u")) ∷ []))
    (t.continuing_statement [] (block_of (let_of (codes "a") (name (codes "u")) ∷ [])) (Some (record { attributes = []; condition = name (codes "a") }))) ∷ [])

abbrev pub DuplicateExample : Type 0
DuplicateExample = map (λ x. duplicates_of (declaration_node x)) (faulty ∷ d.structure [] (codes "s") (member (codes "a") ∷ member (codes "b") ∷ member (codes "a") ∷ []) ∷ looping ∷ [])
    ≡ (codes "p" ∷ []) ∷ (codes "a" ∷ []) ∷ [] ∷ []

-- const x = k; fn f(p: T) .. as above; const k = x;
abbrev pub faulty_unit : UnitTree
faulty_unit = record { imports = []; directives = []; declarations = const_of (codes "x") (name (codes "k")) ∷ faulty ∷ const_of (codes "k") (name (codes "x")) ∷ [] }

-- names in attributes that are not WGSL's may be undefined
abbrev pub UndefinedExample : Type 0
UndefinedExample = map (undefined_in faulty_unit (codes "T" ∷ [])) (nodes_of faulty_unit) ≡ [] ∷ (codes "h" ∷ codes "h" ∷ codes "h" ∷ []) ∷ [] ∷ []

abbrev pub RowsExample : Type 0
RowsExample = rows faulty_unit ≡ (2 ∷ []) ∷ (0 ∷ 2 ∷ 0 ∷ 2 ∷ 0 ∷ 2 ∷ []) ∷ (0 ∷ []) ∷ []

abbrev call_text : Call → Name × ℕ × Bool
call_text c = (c.callee.name, c.count, c.is_templated)

-- a name behind a path calls nothing of a plain unit, and a callee comes before what is called in its arguments
abbrev pub CallExample : Type 0
CallExample = map (λ x. map call_text (calls [] (declaration_node x))) (written_before ∷ const_of (codes "c") (call_of (codes "h") (name (codes "x") ∷ call_of (codes "k") [] ∷ [])) ∷ [])
    ≡ ((codes "g", 1, true) ∷ []) ∷ ((codes "h", 2, false) ∷ (codes "k", 0, false) ∷ []) ∷ []
