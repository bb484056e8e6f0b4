-- What is printed of a module is laid out as its tokens.
use Rattle.std.proofs.Common.{refl, sym, ℕ, List, [], ◌++◌, append_assoc, append-nil, subst}
use Rattle.std.specs.List.{flat_map}
use Rattle.wgsl_templates.specs.declared.meaning.token.TemplateToken.{TemplateToken}
use Rattle.wgsl_print_laws.specs.Layout.{IsLaidOut, at_the_end}
use Rattle.wgsl_declarations.specs.ImportsPrint.{importing_text, directive_text}
use Rattle.wgsl_declarations.specs.Print.{decl_text, unit_text}
use Rattle.wgsl_declarations.specs.Tree.{UnitTree}
use Rattle.wgsl_print_laws.specs.Printable.{AreSpelled}
use Rattle.wgsl_print_laws.proofs.Expressions.{Run}
use Rattle.wgsl_print_laws.proofs.DirectiveLines.{directive_run}
use Rattle.wgsl_print_laws.proofs.Imports.{nothing_run, import_run}
use Rattle.wgsl_print_laws.specs.Declarations.{RowTokens, row_end, row_and, UnitTokens, a_unit}
use Rattle.wgsl_print_laws.specs.ModulesLaws.{ModulesAreLaidOut}
use Rattle.wgsl_print_laws.proofs.Runs.{any_rest, and_then, run_as_text, parted}
use Rattle.wgsl_print_laws.proofs.Declarations.{decl_run}

row_run : {A : Type 0} {has : A → List TemplateToken → Type 0} (text : A → List ℕ) → ((x : A) (ts : List TemplateToken) → has x ts → AreSpelled ts → Run any_rest ts (text x))
    → {xs : List A} {ts : List TemplateToken} → RowTokens has xs ts → AreSpelled ts → Run any_rest ts (flat_map text xs)
row_run text run row_end s = nothing_run
row_run text run (row_and {x = x} {ts = ts} {us = us} h k) s = let (first, others) = parted ts us s in and_then (run x ts h first) (row_run text run k others)

pub unit_run : (u : UnitTree) (ts : List TemplateToken) → UnitTokens u ts → AreSpelled ts → Run any_rest ts (unit_text u)
unit_run u _ (a_unit {ts = ts} {us = us} {vs = vs} h k l) s =
    let (first, others) = parted ts (us ++ vs) s in
    let (second, third) = parted us vs others in
    run_as_text (sym (append_assoc (flat_map importing_text u.imports) (flat_map directive_text u.directives) (flat_map decl_text u.declarations)))
    (and_then (row_run importing_text import_run h first) (and_then (row_run directive_text directive_run k second) (row_run decl_text decl_run l third)))

pub modules_are_laid_out : ModulesAreLaidOut
modules_are_laid_out u ts h s =
    let p = unit_run u ts h s in record {
      characters = p.characters;
      are_scalars = p.spells.scalars;
      spell = p.spells.encodes;
      laid_out = (let P : List ℕ × List TemplateToken → Type 0 = λ x. IsLaidOut x.0 x.1 in subst P (λ i. (append-nil p.characters i, append-nil ts i)) (p.lays.lays [] [] refl at_the_end));
    }
