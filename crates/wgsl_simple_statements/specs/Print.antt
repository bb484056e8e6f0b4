-- How statements that hold no other statement are printed (this project's own layout).
use Rattle.std.specs.Prelude.{ℕ, List, [], ◌∷◌, ◌++◌, Option, Some, None, codes}
use Rattle.wgsl_expressions.specs.AddressSpace.{AddressSpace}
use Rattle.wgsl_expressions.specs.AccessMode.{AccessMode}
use Rattle.wgsl_expressions.specs.EnumerationsTexts.{address_space_text, access_mode_text, assignment_operator_text}
use Rattle.wgsl_expressions.specs.Tree.{Exp, call, Typ}
use Rattle.wgsl_expressions.specs.Print.{commas, exp_text, typ_text}
use Rattle.wgsl_expressions.specs.AttributesTree.{Attr}
use Rattle.wgsl_expressions.specs.AttributesPrint.{attrs_text}
use Rattle.wgsl_simple_statements.specs.declared.declaration.DeclarationKind.{DeclarationKind}
use Rattle.wgsl_simple_statements.specs.declared.declaration.DeclarationKind.TheVariants as kinds
use Rattle.wgsl_simple_statements.specs.Tree.{Simple, assignment, increment, decrement, breaking, continuing, returning, discarding, calling, asserting, declaring, BreakIf, Selector, default_selector, selected}

abbrev pub access_text : Option AccessMode → List ℕ
access_text None = []
access_text (Some mode) = codes ", " ++ access_mode_text mode

abbrev pub space_text : Option (AddressSpace × Option AccessMode) → List ℕ
space_text None = []
space_text (Some (space, access)) = codes "<" ++ address_space_text space ++ access_text access ++ codes ">"

-- what a declaration begins with
abbrev pub kind_text : DeclarationKind → List ℕ
kind_text kinds.Const = codes "const"
kind_text kinds.Override = codes "override"
kind_text kinds.Let = codes "let"
kind_text (kinds.Var space) = codes "var" ++ space_text space

abbrev pub annotation_text : Option Typ → List ℕ
annotation_text None = []
annotation_text (Some t) = codes ": " ++ typ_text t

abbrev pub initializer_text : Option Exp → List ℕ
initializer_text None = []
initializer_text (Some x) = codes " = " ++ exp_text x

abbrev pub value_text : Option Exp → List ℕ
value_text None = []
value_text (Some x) = codes " " ++ exp_text x

abbrev pub asserted_text : Exp → List ℕ
asserted_text x = codes "const_assert " ++ exp_text x

abbrev pub declared_text : DeclarationKind → List ℕ → Option Typ → Option Exp → List ℕ
declared_text kind name type value = kind_text kind ++ codes " " ++ name ++ annotation_text type ++ initializer_text value

-- a statement up to its `;`
abbrev pub simple_text : Simple → List ℕ
simple_text (assignment attributes o x y) = attrs_text attributes ++ exp_text x ++ codes " " ++ assignment_operator_text o ++ codes " " ++ exp_text y
simple_text (increment attributes x) = attrs_text attributes ++ exp_text x ++ codes "++"
simple_text (decrement attributes x) = attrs_text attributes ++ exp_text x ++ codes "--"
simple_text (breaking attributes) = attrs_text attributes ++ codes "break"
simple_text (continuing attributes) = attrs_text attributes ++ codes "continue"
simple_text (returning attributes value) = attrs_text attributes ++ codes "return" ++ value_text value
simple_text (discarding attributes) = attrs_text attributes ++ codes "discard"
simple_text (calling attributes t xs) = attrs_text attributes ++ exp_text (call t xs)
simple_text (asserting attributes x) = attrs_text attributes ++ asserted_text x
simple_text (declaring attributes kind name type value) = attrs_text attributes ++ (declared_text kind name type value)

-- a statement as a line
abbrev pub simple_line : Simple → List ℕ
simple_line s = simple_text s ++ codes ";\n"

-- up to its `;`
abbrev pub break_if_text : BreakIf → List ℕ
break_if_text b = attrs_text b.attributes ++ codes "break if " ++ exp_text b.condition

abbrev pub selector_text : Selector → List ℕ
selector_text default_selector = codes "default"
selector_text (selected x) = exp_text x

-- what a clause of `switch` begins with: `default` alone, or `case` and its selectors
abbrev pub case_head : List Selector → List ℕ
case_head (default_selector ∷ []) = codes "default"
case_head selectors = codes "case " ++ commas selector_text selectors
