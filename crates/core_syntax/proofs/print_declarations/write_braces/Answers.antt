use Rattle.std.proofs.Common.{◌≡◌, ◌∙◌, sym, ap, [], length}
use Rattle.std.proofs.lemmas.Bool.{eqb-false}
use Rattle.core_syntax.proofs.Texts.{braces_lines}
use Rattle.core_syntax.proofs.print_declarations.write_braces.Goals as goal

pub returns-else-is_empty : goal.returns-else-is_empty
returns-else-is_empty g c =
    let filled : c.args.statements.now ≡ [] → ⊥ = λ e. eqb-false (length c.args.statements.now) 0 (sym c.is_empty.ensures ∙ c.if-is_empty.false) (ap length e) in
    rw (braces_lines c.args.level c.args.statements.now filled) c.write_lines.ensures
