-- The parts that productions pass on, and lists of parts. Where parts do not fit, it is nothing.
use Rattle.std.specs.Prelude.{ℕ, List, [], ◌∷◌, ◌++◌}
use Rattle.wgsl_path.specs.declared.span.Spanned.{Spanned}
use Rattle.wgsl_expressions.specs.declared.expression.Expression.{Expression}
use Rattle.wgsl_declarations.specs.Attribute.{Attribute}
use Rattle.wgsl_declarations.specs.CaseSelector.{CaseSelector}
use Rattle.wgsl_declarations.specs.Statement.{Statement}
use Rattle.wgsl_declarations.specs.ElseIfClauseOf.{ElseIfClauseOf}
use Rattle.wgsl_declarations.specs.SwitchClauseOf.{SwitchClauseOf}
use Rattle.wgsl_declarations.specs.declared.imports.import.ImportContent.{ImportContent}
use Rattle.wgsl_declarations.specs.declared.imports.import.ImportOf.{ImportOf}
use Rattle.wgsl_declarations.specs.declared.imports.import.ImportStatement.{ImportStatement}
use Rattle.wgsl_declarations.specs.declared.imports.directive.GlobalDirective.{GlobalDirective}
use Rattle.wgsl_declarations.specs.declared.declaration.GlobalDeclaration.{GlobalDeclaration}
use Rattle.wgsl_declarations.specs.declared.declaration.StructMember.{StructMember}
use Rattle.wgsl_declarations.specs.declared.declaration.FormalParameter.{FormalParameter}
use Rattle.wgsl_semantic_values.specs.declared.part.Part.{Part}
use Rattle.wgsl_semantic_values.specs.declared.part.Part.TheVariants as part

-- the one part
abbrev pub pass : List Part → Part
pass (x ∷ []) = x
pass _ = part.Absent

-- a list of one
abbrev pub started : Part → Part
started (part.Expression x) = part.Expressions (x ∷ [])
started (part.Attribute x) = part.Attributes (x ∷ [])
started (part.Statement x) = part.Statements (x ∷ [])
started (part.ElseIf x) = part.ElseIfs (x ∷ [])
started (part.Clause x) = part.Clauses (x ∷ [])
started (part.Selector x) = part.Selectors (x ∷ [])
started (part.Tree x) = part.Trees (x ∷ [])
started (part.Text x) = part.Texts (x ∷ [])
started (part.Import x) = part.Imports (x ∷ [])
started (part.Directive x) = part.Directives (x ∷ [])
started (part.Global x) = part.Globals (x ∷ [])
started (part.Member x) = part.Members (x ∷ [])
started (part.Parameter x) = part.Parameters (x ∷ [])
started _ = part.Absent

abbrev pub make_first : List Part → Part
make_first parts = started (pass parts)

-- ---- lists with one more

abbrev pub more_expressions : List (Spanned Expression) → Part → Part
more_expressions xs (part.Expression x) = part.Expressions (xs ++ x ∷ [])
more_expressions xs _ = part.Absent

abbrev pub more_attributes : List (Spanned Attribute) → Part → Part
more_attributes xs (part.Attribute x) = part.Attributes (xs ++ x ∷ [])
more_attributes xs _ = part.Absent

abbrev pub more_statements : List (Spanned Statement) → Part → Part
more_statements xs (part.Statement x) = part.Statements (xs ++ x ∷ [])
more_statements xs _ = part.Absent

abbrev pub more_else_ifs : List (ElseIfClauseOf Statement) → Part → Part
more_else_ifs xs (part.ElseIf x) = part.ElseIfs (xs ++ x ∷ [])
more_else_ifs xs _ = part.Absent

abbrev pub more_clauses : List (SwitchClauseOf Statement) → Part → Part
more_clauses xs (part.Clause x) = part.Clauses (xs ++ x ∷ [])
more_clauses xs _ = part.Absent

abbrev pub more_selectors : List CaseSelector → Part → Part
more_selectors xs (part.Selector x) = part.Selectors (xs ++ x ∷ [])
more_selectors xs _ = part.Absent

abbrev pub more_trees : List (ImportOf ImportContent) → Part → Part
more_trees xs (part.Tree x) = part.Trees (xs ++ x ∷ [])
more_trees xs _ = part.Absent

abbrev pub more_texts : List (List ℕ) → Part → Part
more_texts xs (part.Text x) = part.Texts (xs ++ x ∷ [])
more_texts xs _ = part.Absent

abbrev pub more_imports : List ImportStatement → Part → Part
more_imports xs (part.Import x) = part.Imports (xs ++ x ∷ [])
more_imports xs _ = part.Absent

abbrev pub more_directives : List GlobalDirective → Part → Part
more_directives xs (part.Directive x) = part.Directives (xs ++ x ∷ [])
more_directives xs _ = part.Absent

abbrev pub more_globals : List (Spanned GlobalDeclaration) → Part → Part
more_globals xs (part.Global x) = part.Globals (xs ++ x ∷ [])
more_globals xs _ = part.Absent

abbrev pub more_members : List (Spanned StructMember) → Part → Part
more_members xs (part.Member x) = part.Members (xs ++ x ∷ [])
more_members xs _ = part.Absent

abbrev pub more_parameters : List FormalParameter → Part → Part
more_parameters xs (part.Parameter x) = part.Parameters (xs ++ x ∷ [])
more_parameters xs _ = part.Absent

abbrev pub joined : Part → Part → Part
joined (part.Expressions xs) x = more_expressions xs x
joined (part.Attributes xs) x = more_attributes xs x
joined (part.Statements xs) x = more_statements xs x
joined (part.ElseIfs xs) x = more_else_ifs xs x
joined (part.Clauses xs) x = more_clauses xs x
joined (part.Selectors xs) x = more_selectors xs x
joined (part.Trees xs) x = more_trees xs x
joined (part.Texts xs) x = more_texts xs x
joined (part.Imports xs) x = more_imports xs x
joined (part.Directives xs) x = more_directives xs x
joined (part.Globals xs) x = more_globals xs x
joined (part.Members xs) x = more_members xs x
joined (part.Parameters xs) x = more_parameters xs x
joined _ x = part.Absent

-- a list and the part behind it
abbrev pub longer : Part → List Part → Part
longer list parts = joined list (pass parts)

abbrev pub make_more : List Part → Part
make_more (list ∷ parts) = longer list parts
make_more [] = part.Absent
