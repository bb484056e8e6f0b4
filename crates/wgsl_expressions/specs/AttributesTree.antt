-- Attributes without places.
use Rattle.std.specs.Prelude.{ℕ, List, Option}
use Rattle.wgsl_words.specs.declared.enumerations.builtin.BuiltinValue.{BuiltinValue}
use Rattle.wgsl_words.specs.declared.enumerations.words.DiagnosticSeverity.{DiagnosticSeverity}
use Rattle.wgsl_words.specs.declared.enumerations.words.InterpolationType.{InterpolationType}
use Rattle.wgsl_words.specs.declared.enumerations.words.InterpolationSampling.{InterpolationSampling}
use Rattle.wgsl_expressions.specs.Tree.{Exp}

-- an attribute (WGSL, "Attributes"; WESL, "Conditional Translation" and "Imports")
pub data Attr : Type 0 where
  align : Exp → Attr
  binding : Exp → Attr
  blend_src : Exp → Attr
  builtin : BuiltinValue → Attr
  constant : Attr
  diagnostic : DiagnosticSeverity → List ℕ → Attr
  group : Exp → Attr
  id_number : Exp → Attr
  interpolate : InterpolationType → Option InterpolationSampling → Attr
  invariant : Attr
  location : Exp → Attr
  must_use : Attr
  byte_size : Exp → Attr
  workgroup_size : Exp → Option Exp → Option Exp → Attr
  vertex : Attr
  fragment : Attr
  compute : Attr
  publish : Attr
  if_true : Exp → Attr
  else_if : Exp → Attr
  otherwise : Attr
  -- an attribute of any other name, maybe with arguments
  custom : List ℕ → Option (List Exp) → Attr
