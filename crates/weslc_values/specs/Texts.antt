-- The text of a value.
use Rattle.std.specs.Prelude.{ℕ, List, Option, option_map}
use Rattle.wgsl_expressions.specs.Print.{exp_text}
use Rattle.wgsl_instance.specs.declared.tree.Instance.{Instance}
use Rattle.wgsl_to_expr.specs.Written.{written}

-- the text of the expression that is written for a value
abbrev pub value_text : Instance → Option (List ℕ)
value_text x = option_map exp_text (written x)

abbrev pub itself : List ℕ → List ℕ
itself text = text
