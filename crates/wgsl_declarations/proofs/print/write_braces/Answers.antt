use Rattle.std.proofs.Common.{◌≡◌, ◌∙◌, sym, ap, [], length}
use Rattle.std.proofs.lemmas.Bool.{eqb-false}
use Rattle.wgsl_declarations.proofs.Texts.{member_lines}
use Rattle.wgsl_declarations.proofs.print.write_braces.Goals as goal

pub returns-else-is_empty : goal.returns-else-is_empty
returns-else-is_empty g c =
    let filled : c.args.members.now ≡ [] → ⊥ = λ e. eqb-false (length c.args.members.now) 0 (sym c.is_empty.ensures ∙ c.if-is_empty.false) (ap length e) in
    rw (member_lines c.args.members.now filled) c.write_lines.ensures
