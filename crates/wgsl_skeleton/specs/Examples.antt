-- What occurs in some declarations.
use Rattle.std.specs.Prelude.{◌≡◌, ◌≢◌, List, [], ◌∷◌, map, Some, None, codes}
use Rattle.wgsl_words.specs.declared.operators.BinaryOperator.TheVariants.{LessThan, Equality}
use Rattle.wgsl_words.specs.declared.enumerations.words.AssignmentOperator.TheVariants.{Equal}
use Rattle.wgsl_path.specs.declared.path.PathOrigin.TheVariants.{Absolute}
use Rattle.wgsl_declarations.specs.DeclarationKind.TheVariants.{Let, Var, Const}
use Rattle.wgsl_expressions.specs.Tree as e
use Rattle.wgsl_expressions.specs.Tree.{Exp, Typ, exps}
use Rattle.wgsl_expressions.specs.AttributesTree as a
use Rattle.wgsl_declarations.specs.SimpleStatementsTree as s
use Rattle.wgsl_declarations.specs.StatementsTree as t
use Rattle.wgsl_declarations.specs.StatementsTree.{Stm, Stms, Block}
use Rattle.wgsl_declarations.specs.Tree as d
use Rattle.wgsl_declarations.specs.Tree.{Decl}
use Rattle.wgsl_skeleton.specs.Skeleton.{Name}
use Rattle.wgsl_skeleton.specs.Occurrences.{occurrences, outside}
use Rattle.wgsl_skeleton.specs.Trees.{type_node, declaration_node}

-- the names that occur in a declaration and are no local's, in text order
abbrev pub names_in : Decl → List Name
names_in x = map (λ o. o.name) (outside (occurrences [] (declaration_node x)))

abbrev name : Name → Exp
name x = e.named (e.simple None x)

-- package::x
abbrev from_package : Name → Exp
from_package x = e.named (e.simple (Some (record { origin = Absolute; components = [] })) x)

abbrev plain : Name → Typ
plain x = e.simple None x

abbrev statements : List Stm → Stms
statements [] = t.nil
statements (x ∷ xs) = t.cons x (statements xs)

abbrev block : List Stm → Block
block xs = t.block [] (statements xs)

abbrev let_of : Name → Exp → Stm
let_of x value = t.simple (s.declaring [] Let x None (Some value))

abbrev assigned : Exp → Exp → Stm
assigned x y = t.simple (s.assignment [] Equal x y)

abbrev function_of : Name → List Stm → Decl
function_of parameter xs = d.function [] (codes "f") (record { attributes = []; name = parameter; type = plain (codes "T") } ∷ []) [] None (block xs)

-- fn f(p: T) { for (var i = a; i < p; i++) { let q = i; } q = i; }
abbrev pub with_for : Decl
with_for = function_of (codes "p")
    (t.for_statement [] (t.present (t.simple (s.declaring [] (Var None) (codes "i") None (Some (name (codes "a"))))))
    (Some (e.binary LessThan (name (codes "i")) (name (codes "p")))) (t.present (t.simple (s.increment [] (name (codes "i")))))
    (block (let_of (codes "q") (name (codes "i")) ∷ []))
    ∷ assigned (name (codes "q")) (name (codes "i")) ∷ [])

-- fn f(p: T) { loop { let r = b; continuing { let c = r; break if c == r; } } r = c; }
abbrev pub with_loop : Decl
with_loop = function_of (codes "p")
    (t.loop_statement [] (block (let_of (codes "r") (name (codes "b")) ∷ []))
    (t.continuing_statement [] (block (let_of (codes "c") (name (codes "r")) ∷ []))
    (Some (record { attributes = []; condition = e.binary Equality (name (codes "c")) (name (codes "r")) })))
    ∷ assigned (name (codes "r")) (name (codes "c")) ∷ [])

-- fn f(p: T) { let x = x; { let y = x; } x = y; _ = package::x; }
abbrev pub with_blocks : Decl
with_blocks = function_of (codes "p")
    (let_of (codes "x") (name (codes "x")) ∷ t.compound_statement (block (let_of (codes "y") (name (codes "x")) ∷ [])) ∷ assigned (name (codes "x")) (name (codes "y"))
    ∷ assigned (name (codes "_")) (from_package (codes "x")) ∷ [])

-- @if(flag) @size(n) const k: array<v, m> = package::x.member;
abbrev pub with_attributes : Decl
with_attributes = d.variable (a.if_true (name (codes "flag")) ∷ a.byte_size (name (codes "n")) ∷ []) Const (codes "k")
    (Some (e.templated None (codes "array") (exps (name (codes "v") ∷ name (codes "m") ∷ []))))
    (Some (e.component (from_package (codes "x")) (codes "member")))

-- fn f(p: T) @my(p) { q = p; }
abbrev pub with_body_attributes : Decl
with_body_attributes = d.function [] (codes "f") (record { attributes = []; name = codes "p"; type = plain (codes "T") } ∷ []) [] None
    (t.block (a.custom (codes "my") (Some (name (codes "p") ∷ [])) ∷ []) (statements (assigned (name (codes "q")) (name (codes "p")) ∷ [])))

-- x, and x with an empty template list, which no text has
abbrev pub with_no_list : Typ
with_no_list = e.simple None (codes "x")

abbrev pub with_empty_list : Typ
with_empty_list = e.templated None (codes "x") e.nil

-- the header of `for` shares its body's scope, which ends with the statement
abbrev pub ForExample : Type 0
ForExample = names_in with_for ≡ codes "T" ∷ codes "a" ∷ codes "q" ∷ codes "i" ∷ []

-- `continuing` is inside the loop's body, and `break if` inside `continuing`
abbrev pub LoopExample : Type 0
LoopExample = names_in with_loop ≡ codes "T" ∷ codes "b" ∷ codes "r" ∷ codes "c" ∷ []

-- a local is in scope behind its statement, up to the end of the block; `_` denotes nothing, and a name behind a path no local
abbrev pub BlockExample : Type 0
BlockExample = names_in with_blocks ≡ codes "T" ∷ codes "x" ∷ codes "y" ∷ codes "x" ∷ []

-- a flag of a condition and the name of a member denote nothing; what stands in template lists does
abbrev pub AttributeExample : Type 0
AttributeExample = names_in with_attributes ≡ codes "n" ∷ codes "array" ∷ codes "v" ∷ codes "m" ∷ codes "x" ∷ []

-- the attributes of a function's body are outside of the parameters' scope
abbrev pub BodyExample : Type 0
BodyExample = names_in with_body_attributes ≡ codes "T" ∷ codes "p" ∷ codes "q" ∷ []

-- an empty template list is told from none
abbrev pub EmptyListExample : Type 0
EmptyListExample = type_node with_no_list ≢ type_node with_empty_list
