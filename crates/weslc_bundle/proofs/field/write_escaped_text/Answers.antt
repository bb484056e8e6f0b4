use Rattle.std.proofs.Common.{sym, ap, subst, ◌∙◌, ◌++◌, ◌∷◌, [], map-id, rules}
use Rattle.std.specs.List.{flat_map}
use Rattle.std.specs.Fmt.{HasWritten}
use Rattle.std.proofs.lemmas.Grind.{flat_map-append, put_two}
use Rattle.std.proofs.lemmas.List.{append-nil}
use Rattle.std.proofs.lemmas.Iterator.{YieldsList-from_chars}
use Rattle.std.proofs.lemmas.Iterator.Consumers.{YieldsList-end}
use Rattle.weslc_bundle.specs.Fields.{escaped_char}
use Rattle.weslc_bundle.proofs.field.write_escaped_text.Goals as goal

pub loop-c-preserved : goal.loop-c-preserved
loop-c-preserved g c = λ plain.
    let before = c.loop-c.invariant plain in
    let more : HasWritten g.W.Write.write_str_gives c.loop-c.out (escaped_char c.in-Some.c) c.write_escaped.new.out = search (rules, c.write_escaped.ensures, before.plain) in
    put_two g.W.Write.write_str_gives _ _ _ (flat_map escaped_char c.loop-c.yielded) (escaped_char c.in-Some.c) _ before more
    (ap (λ t. flat_map escaped_char c.loop-c.yielded ++ t) (sym (append-nil (escaped_char c.in-Some.c))) ∙ sym (flat_map-append escaped_char c.loop-c.yielded (c.in-Some.c ∷ [])))

pub returns : goal.returns
returns g c = λ plain ok.
    let end = YieldsList-end (YieldsList-from_chars c.args.text.now c.utf8.text cc) c.loop-c.yielded _ c.loop-c.yielded_by _ _ c.in-None.is c.next.ensures.steps in
    subst (λ t. HasWritten g.W.Write.write_str_gives c.args.out.now (flat_map escaped_char t) c.loop-c.out) (sym (map-id c.loop-c.yielded) ∙ end.0) (c.loop-c.invariant plain)
