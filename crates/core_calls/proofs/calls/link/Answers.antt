-- The text is that of the linked unit, which keeps what the sources mean.
use Rattle.std.proofs.Common.{inr}
use Rattle.std.specs.Prelude.{string_bytes}
use Rattle.wgsl_path.specs.Paths.{path_text}
use Rattle.core_syntax.specs.View.{unit_tree}
use Rattle.weslc_errors.proofs.Texts.{linked_text}
use Rattle.core_calls.proofs.calls.link.Goals as goal

pub returns-in-Ok-clause-text : goal.returns-in-Ok-clause-text
returns-in-Ok-clause-text g c =
    linked_text (g.R.Resolver.answers c.args.resolver.now) (path_text c.args.root.now) c.args.options.now.keep c.args.options.now.max_modules (unit_tree c.in_ok-unit.field-0.unit) c.in_ok-unit.ensures.unit
    (string_bytes c.in-Ok.text) c.in-Ok.ensures.0 c.in-Ok.ensures.1

pub returns-in-Err-Unprintable-clause-refusal : goal.returns-in-Err-Unprintable-clause-refusal
returns-in-Err-Unprintable-clause-refusal g c =
    inr (record {
      linked = unit_tree c.in_ok-unit.field-0.unit;
      from = c.in_ok-unit.ensures.unit;
      name = c.in-Err-Unprintable.name;
      unprintable = rw c.in-Err-Unprintable.field-0-is at c.in-Err-Unprintable.ensures;
      told = c.unprintable.ensures;
    })
