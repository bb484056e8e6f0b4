-- What is printed of a directive is laid out as its tokens.
use Rattle.std.proofs.Common.{◌≡◌, refl, sym, ◌∙◌, subst, ℕ, List, [], ◌∷◌, ◌++◌, append_assoc, append-nil, codes}
use Rattle.wgsl_token.specs.declared.token.Fixed.TheVariants as f
use Rattle.wgsl_templates.specs.declared.meaning.token.TemplateToken.{TemplateToken}
use Rattle.wgsl_print_laws.specs.Layout.{IsLaidOut, at_the_end}
use Rattle.wgsl_expressions.specs.AttributesPrint.{attrs_text}
use Rattle.wgsl_expressions.specs.AttributesTree.{Attr}
use Rattle.wgsl_declarations.specs.ImportsPrint.{setting_text, names_text, directive_text}
use Rattle.wgsl_declarations.specs.ImportsTree.{Directive}
use Rattle.wgsl_print_laws.specs.Tokens.{mark}
use Rattle.wgsl_print_laws.specs.Printable.{AreSpelled}
use Rattle.wgsl_print_laws.specs.Directives.{names_tokens, setting_tokens, HasTokens, of_diagnostic, of_enable, of_requires}
use Rattle.wgsl_print_laws.specs.Imports.{AttributesTokens}
use Rattle.wgsl_print_laws.specs.TreesLaws.{DirectivesAreLaidOut}
use Rattle.wgsl_print_laws.proofs.Signs.{begins_with_none}
use Rattle.wgsl_print_laws.proofs.Expressions.{Run, run_then, run_as, leaf_run, free, are_front, are_behind}
use Rattle.wgsl_print_laws.proofs.Directives.{enable_leaf, requires_leaf, setting_run, names_line}
use Rattle.wgsl_print_laws.proofs.Imports.{attributes_run}

-- a line behind its attributes
attributed_line : {ts : List TemplateToken} {line : List ℕ} (xs : List Attr) (us : List TemplateToken) → AttributesTokens xs us → AreSpelled (us ++ ts) → Run (begins_with_none []) ts line → Run (begins_with_none []) (us ++ ts) (attrs_text xs ++ line)
attributed_line {ts = ts} xs us h s q = run_then (attributes_run xs us h (are_front us ts s)) q (λ rest ok. free (q.characters ++ rest))

four : (a b c d : List ℕ) → ((a ++ b) ++ c) ++ d ≡ a ++ (b ++ (c ++ d))
four a b c d = append_assoc (a ++ b) c d ∙ append_assoc a b (c ++ d)

pub directive_run : (d : Directive) (ts : List TemplateToken) → HasTokens d ts → AreSpelled ts → Run (begins_with_none []) ts (directive_text d)
directive_run _ _ (of_diagnostic {attributes = xs} {us = us} h severity {rule = rule} {ts = ts} is) s =
    let rest : List TemplateToken = setting_tokens severity ts ++ (mark f.Semicolon ∷ []) in
    run_as refl (sym (append_assoc (attrs_text xs) (setting_text severity rule) (codes ";\n"))) (attributed_line xs us h s (setting_run severity rule ts is (are_behind us rest s)))
directive_run _ _ (of_enable {attributes = xs} {us = us} h names) s =
    let rest : List TemplateToken = mark f.Enable ∷ (names_tokens names ++ (mark f.Semicolon ∷ [])) in
    run_as refl (sym (four (attrs_text xs) (codes "enable ") (names_text names) (codes ";\n"))) (attributed_line xs us h s (names_line names (leaf_run enable_leaf) (are_behind us rest s).1))
directive_run _ _ (of_requires {attributes = xs} {us = us} h names) s =
    let rest : List TemplateToken = mark f.Requires ∷ (names_tokens names ++ (mark f.Semicolon ∷ [])) in
    run_as refl (sym (four (attrs_text xs) (codes "requires ") (names_text names) (codes ";\n"))) (attributed_line xs us h s (names_line names (leaf_run requires_leaf) (are_behind us rest s).1))

pub directives_are_laid_out : DirectivesAreLaidOut
directives_are_laid_out d ts h s =
    let p = directive_run d ts h s in record {
      characters = p.characters;
      are_scalars = p.spells.scalars;
      spell = p.spells.encodes;
      laid_out = (let P : List ℕ × List TemplateToken → Type 0 = λ x. IsLaidOut x.0 x.1 in subst P (λ i. (append-nil p.characters i, append-nil ts i)) (p.lays.lays [] [] refl at_the_end));
    }
