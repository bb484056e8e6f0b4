use Rattle.std.proofs.Common.{ℕ, List, true, subst, sym, ap, ◌∙◌}
use Rattle.std.specs.Prelude.{string_bytes}
use Rattle.std.specs.HashSet.{UpdatesBy}
use Rattle.std.specs.Str.{bytes_eq}
use Rattle.std.specs.String.{string_eq}
use Rattle.wgsl_path.specs.Paths.{path_text}
use Rattle.weslc_workspace.proofs.Noted.{noted, noted_more, noted_then}
use Rattle.weslc_workspace.proofs.asking.Asking.note.Goals as goal

pub invariant_of-self : goal.invariant_of-self
invariant_of-self c = record {
  of_texts = c.args.self.now.of_texts;
  noted = noted_more c.insert.result (string_bytes c.in_ok-printed.printed) c.args.self.now.requests c.args.self.now.asked c.insert.new.self c.insert.ensures.updates c.insert.ensures.err c.args.self.now.noted;
}

pub invariant_of-self-2 : goal.invariant_of-self-2
invariant_of-self-2 c = record {
  of_texts = c.args.self.now.of_texts;
  noted = noted_then c.push.result c.in_ok-path.path c.args.self.now.requests c.push.new.self c.args.self.now.asked c.insert.new.self
      (subst (λ (t : List ℕ). UpdatesBy string_eq (λ k. bytes_eq t (string_bytes k)) c.args.self.now.asked c.insert.new.self true) (c.in_ok-printed.ensures.ok ∙ sym (ap path_text c.in_ok-path.ensures)) c.in_ok-insert.ensures.updates)
      c.push.ensures.ok c.push.ensures.err c.args.self.now.noted;
}

pub returns-clause-noted : goal.returns-clause-noted
returns-clause-noted c = noted (path_text c.args.path.now) c.args.self.now.asked c.insert.new.self
    (subst (λ (t : List ℕ). UpdatesBy string_eq (λ k. bytes_eq t (string_bytes k)) c.args.self.now.asked c.insert.new.self true) c.in_ok-printed.ensures.ok c.in_ok-insert.ensures.updates)
