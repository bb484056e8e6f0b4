-- A statement without its empty items, opened.
use Rattle.std.proofs.Common.{◌≡◌}
use Rattle.wgsl_statements.specs.declared.statement.Statement.{Statement, out-Statement}
use Rattle.wgsl_statements.specs.declared.statement.Statement.TheOpen.{Statement-F}
use Rattle.wgsl_statements.specs.declared.statement.Statement.TheVariants as code
use Rattle.wgsl_empty_items.specs.Statements.{with_block, with_if, with_switch, with_loop, with_for, with_while, layer}

module _ {A : Type 0} (f : A → Statement) where
  abbrev pub opened : Statement-F A → Statement-F Statement
  opened Statement-F.Void = Statement-F.Void
  opened (Statement-F.Compound x) = Statement-F.Compound (with_block f x)
  opened (Statement-F.Assignment x) = Statement-F.Assignment x
  opened (Statement-F.Increment x) = Statement-F.Increment x
  opened (Statement-F.Decrement x) = Statement-F.Decrement x
  opened (Statement-F.If x) = Statement-F.If (with_if f x)
  opened (Statement-F.Switch x) = Statement-F.Switch (with_switch f x)
  opened (Statement-F.Loop x) = Statement-F.Loop (with_loop f x)
  opened (Statement-F.For x) = Statement-F.For (with_for f x)
  opened (Statement-F.While x) = Statement-F.While (with_while f x)
  opened (Statement-F.Break x) = Statement-F.Break x
  opened (Statement-F.Continue x) = Statement-F.Continue x
  opened (Statement-F.Return x) = Statement-F.Return x
  opened (Statement-F.Discard x) = Statement-F.Discard x
  opened (Statement-F.FunctionCall x) = Statement-F.FunctionCall x
  opened (Statement-F.ConstAssert x) = Statement-F.ConstAssert x
  opened (Statement-F.Declaration x) = Statement-F.Declaration x

  pub out_layer : (x : Statement-F A) → out-Statement (layer f x) ≡ opened x
  out_layer Statement-F.Void = code.outs-Void
  out_layer (Statement-F.Compound x) = code.outs-Compound (with_block f x)
  out_layer (Statement-F.Assignment x) = code.outs-Assignment x
  out_layer (Statement-F.Increment x) = code.outs-Increment x
  out_layer (Statement-F.Decrement x) = code.outs-Decrement x
  out_layer (Statement-F.If x) = code.outs-If (with_if f x)
  out_layer (Statement-F.Switch x) = code.outs-Switch (with_switch f x)
  out_layer (Statement-F.Loop x) = code.outs-Loop (with_loop f x)
  out_layer (Statement-F.For x) = code.outs-For (with_for f x)
  out_layer (Statement-F.While x) = code.outs-While (with_while f x)
  out_layer (Statement-F.Break x) = code.outs-Break x
  out_layer (Statement-F.Continue x) = code.outs-Continue x
  out_layer (Statement-F.Return x) = code.outs-Return x
  out_layer (Statement-F.Discard x) = code.outs-Discard x
  out_layer (Statement-F.FunctionCall x) = code.outs-FunctionCall x
  out_layer (Statement-F.ConstAssert x) = code.outs-ConstAssert x
  out_layer (Statement-F.Declaration x) = code.outs-Declaration x
