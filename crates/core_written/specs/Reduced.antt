-- What lowering makes of an expression: its value, if it has one, and what is written for it.
use Rattle.std.specs.Prelude.{Option, Some, None, Ok}
use Rattle.core_syntax.specs.Tree.{Exp}
use Rattle.core_syntax.specs.View.{node_tree}
use Rattle.wgsl_shader_type.specs.declared.literal.LiteralInstance.{LiteralInstance}
use Rattle.core_meaning.specs.Values.{Checked, and_then}
use Rattle.core_meaning.specs.Written.{written}
use Rattle.core_written.specs.declared.name.Reduced.{Reduced as CodeReduced}
use Rattle.core_written.specs.declared.name.Reduced.TheVariants.{Value, Parts}

pub record Reduced : Type 0 where
  pub value : Option LiteralInstance
  pub text : Exp

abbrev pub known : LiteralInstance → Reduced
known v = record { value = Some v; text = written v }

abbrev pub rewritten : Exp → Reduced
rewritten d = record { value = None; text = d }

-- what code holds
abbrev pub reduction : CodeReduced → Reduced
reduction (Value v) = known v
reduction (Parts n) = rewritten (node_tree n)

abbrev pub reduced_to : Checked (Option LiteralInstance) → Checked Exp → Checked Reduced
reduced_to v d = and_then v (λ o. and_then d (λ e. Ok (record { value = o; text = e })))
