-- What is printed of statements, declarations and modules.
use Rattle.std.specs.Prelude.{ℕ, List}
use Rattle.wgsl_templates.specs.declared.meaning.token.TemplateToken.{TemplateToken}
use Rattle.wgsl_print_laws.specs.Layout.{IsTextOf}
use Rattle.wgsl_statements.specs.Tree.{Stm}
use Rattle.wgsl_statements.specs.Print.{stm_text}
use Rattle.wgsl_declarations.specs.Tree.{Decl, UnitTree}
use Rattle.wgsl_declarations.specs.Print.{decl_text, unit_text}
use Rattle.wgsl_print_laws.specs.Printable.{AreSpelled}
use Rattle.wgsl_print_laws.specs.Statements.{StmTokens}
use Rattle.wgsl_print_laws.specs.Declarations.{DeclTokens, UnitTokens}

-- The printed text of a statement at a level is laid out as the statement's tokens.
abbrev pub StatementsAreLaidOut : Type 0
StatementsAreLaidOut = (s : Stm) (ts : List TemplateToken) → StmTokens s ts → AreSpelled ts → (level : ℕ) → IsTextOf ts (stm_text level s)

-- So is that of a declaration.
abbrev pub DeclarationsAreLaidOut : Type 0
DeclarationsAreLaidOut = (d : Decl) (ts : List TemplateToken) → DeclTokens d ts → AreSpelled ts → IsTextOf ts (decl_text d)

-- And that of a module.
abbrev pub ModulesAreLaidOut : Type 0
ModulesAreLaidOut = (u : UnitTree) (ts : List TemplateToken) → UnitTokens u ts → AreSpelled ts → IsTextOf ts (unit_text u)
