-- The attributes of statements, and the name that a statement declares. A `;` alone has neither.
use Rattle.std.specs.Prelude.{List, Option, Some, None}
use Rattle.wgsl_path.specs.declared.ident.Ident.{Ident}
use Rattle.wgsl_path.specs.declared.span.Spanned.{Spanned}
use Rattle.wgsl_expressions.specs.declared.attributes.attribute.Attribute.{Attribute}
use Rattle.wgsl_statements.specs.declared.statement.Statement.{Statement, out-Statement}
use Rattle.wgsl_statements.specs.declared.statement.Statement.TheOpen.{Statement-F}
use Rattle.wgsl_statements.specs.declared.statement.Statement.TheVariants as code

abbrev pub name_in : {A : Type 0} → Statement-F A → Option Ident
name_in (Statement-F.Declaration x) = Some (x.ident)
name_in _ = None

abbrev pub attributes_in : {A : Type 0} → Statement-F A → Option (List (Spanned Attribute))
attributes_in Statement-F.Void = None
attributes_in (Statement-F.Compound x) = Some (x.attributes)
attributes_in (Statement-F.Assignment x) = Some (x.attributes)
attributes_in (Statement-F.Increment x) = Some (x.attributes)
attributes_in (Statement-F.Decrement x) = Some (x.attributes)
attributes_in (Statement-F.If x) = Some (x.attributes)
attributes_in (Statement-F.Switch x) = Some (x.attributes)
attributes_in (Statement-F.Loop x) = Some (x.attributes)
attributes_in (Statement-F.For x) = Some (x.attributes)
attributes_in (Statement-F.While x) = Some (x.attributes)
attributes_in (Statement-F.Break x) = Some (x.attributes)
attributes_in (Statement-F.Continue x) = Some (x.attributes)
attributes_in (Statement-F.Return x) = Some (x.attributes)
attributes_in (Statement-F.Discard x) = Some (x.attributes)
attributes_in (Statement-F.FunctionCall x) = Some (x.attributes)
attributes_in (Statement-F.ConstAssert x) = Some (x.attributes)
attributes_in (Statement-F.Declaration x) = Some (x.attributes)

abbrev pub with_in : Statement-F Statement → List (Spanned Attribute) → Statement
with_in Statement-F.Void attributes = code.Void
with_in (Statement-F.Compound x) attributes = code.Compound (record x { attributes = attributes })
with_in (Statement-F.Assignment x) attributes = code.Assignment (record x { attributes = attributes })
with_in (Statement-F.Increment x) attributes = code.Increment (record x { attributes = attributes })
with_in (Statement-F.Decrement x) attributes = code.Decrement (record x { attributes = attributes })
with_in (Statement-F.If x) attributes = code.If (record x { attributes = attributes })
with_in (Statement-F.Switch x) attributes = code.Switch (record x { attributes = attributes })
with_in (Statement-F.Loop x) attributes = code.Loop (record x { attributes = attributes })
with_in (Statement-F.For x) attributes = code.For (record x { attributes = attributes })
with_in (Statement-F.While x) attributes = code.While (record x { attributes = attributes })
with_in (Statement-F.Break x) attributes = code.Break (record x { attributes = attributes })
with_in (Statement-F.Continue x) attributes = code.Continue (record x { attributes = attributes })
with_in (Statement-F.Return x) attributes = code.Return (record x { attributes = attributes })
with_in (Statement-F.Discard x) attributes = code.Discard (record x { attributes = attributes })
with_in (Statement-F.FunctionCall x) attributes = code.FunctionCall (record x { attributes = attributes })
with_in (Statement-F.ConstAssert x) attributes = code.ConstAssert (record x { attributes = attributes })
with_in (Statement-F.Declaration x) attributes = code.Declaration (record x { attributes = attributes })

abbrev pub statement_name : Statement → Option Ident
statement_name s = name_in (out-Statement s)

abbrev pub statement_attributes : Statement → Option (List (Spanned Attribute))
statement_attributes s = attributes_in (out-Statement s)

abbrev pub statement_with : Statement → List (Spanned Attribute) → Statement
statement_with s attributes = with_in (out-Statement s) attributes
