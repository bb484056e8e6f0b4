-- What the productions of value declarations, and of statements that hold no other, make of their parts. Where parts do not fit, it is
-- nothing.
use Rattle.std.specs.Prelude.{List, [], ◌∷◌, Option, Some, None}
use Rattle.wgsl_path.specs.declared.span.Spanned.{Spanned}
use Rattle.wgsl_words.specs.declared.enumerations.words.AssignmentOperator.{AssignmentOperator}
use Rattle.wgsl_expressions.specs.declared.expression.Expression.{Expression}
use Rattle.wgsl_declarations.specs.DeclarationKind.{DeclarationKind}
use Rattle.wgsl_declarations.specs.DeclarationKind.TheVariants as kind
use Rattle.wgsl_declarations.specs.Statement.TheVariants as statement
use Rattle.wgsl_semantic_values.specs.declared.part.TypedName.{TypedName}
use Rattle.wgsl_semantic_values.specs.declared.part.Part.{Part}
use Rattle.wgsl_semantic_values.specs.declared.part.Part.TheVariants as part
use Rattle.wgsl_semantic_values.specs.declared.label.ValueLabel.{ValueLabel}
use Rattle.wgsl_semantic_values.specs.declared.label.ValueLabel.TheVariants as value
use Rattle.wgsl_semantic_values.specs.declared.label.PlainLabel.{PlainLabel}
use Rattle.wgsl_semantic_values.specs.declared.label.PlainLabel.TheVariants as label
use Rattle.wgsl_semantic_values.specs.Reading.{expression_in}

-- ---- declarations of values

abbrev pub typed : List Part → Part
typed (part.Ident x ∷ []) = part.Typed (record { ident = x; ty = None })
typed _ = part.Absent

abbrev pub typed_as : List Part → Part
typed_as (part.Ident x ∷ part.Type ty ∷ []) = part.Typed (record { ident = x; ty = Some ty })
typed_as _ = part.Absent

-- a declaration, before its attributes are known
abbrev pub declared : DeclarationKind → TypedName → Option (Spanned Expression) → Part
declared kind x initializer = part.Declaration (record { attributes = []; kind = kind; ident = x.ident; ty = x.ty; initializer = initializer })

abbrev pub var : List Part → Part
var (part.Kind kind ∷ part.Typed x ∷ []) = declared kind x None
var _ = part.Absent

abbrev pub var_set : List Part → Part
var_set (part.Kind kind ∷ part.Typed x ∷ part.Expression initializer ∷ []) = declared kind x (Some initializer)
var_set _ = part.Absent

-- what is no variable: its name, and what it is
abbrev pub value_set : DeclarationKind → List Part → Part
value_set kind (part.Typed x ∷ part.Expression initializer ∷ []) = declared kind x (Some initializer)
value_set kind _ = part.Absent

abbrev pub override_alone : List Part → Part
override_alone (part.Typed x ∷ []) = declared kind.Override x None
override_alone _ = part.Absent

abbrev pub assertion : List Part → Part
assertion (part.Expression x ∷ []) = part.Assertion (record { attributes = []; expression = x })
assertion _ = part.Absent

abbrev pub make_value : ValueLabel → List Part → Part
make_value value.Typed parts = typed parts
make_value value.TypedAs parts = typed_as parts
make_value value.Var parts = var parts
make_value value.VarSet parts = var_set parts
make_value value.Const parts = value_set kind.Const parts
make_value value.Let parts = value_set kind.Let parts
make_value value.Override parts = override_alone parts
make_value value.OverrideSet parts = value_set kind.Override parts
make_value value.Assertion parts = assertion parts

-- ---- statements, without their `;`

abbrev pub called_statement : List Part → Part
called_statement (part.Call call ∷ []) = part.Plain (statement.FunctionCall (record { attributes = []; call = call }))
called_statement _ = part.Absent

abbrev pub assignment : AssignmentOperator → List Part → Part
assignment o (part.Expression l ∷ part.Expression r ∷ []) = part.Plain (statement.Assignment (record { attributes = []; operator = o; lhs = l; rhs = r }))
assignment o _ = part.Absent

abbrev pub increment : List Part → Part
increment (part.Expression x ∷ []) = part.Plain (statement.Increment (record { attributes = []; expression = x }))
increment _ = part.Absent

abbrev pub decrement : List Part → Part
decrement (part.Expression x ∷ []) = part.Plain (statement.Decrement (record { attributes = []; expression = x }))
decrement _ = part.Absent

abbrev pub break_alone : List Part → Part
break_alone [] = part.Plain (statement.Break (record { attributes = [] }))
break_alone _ = part.Absent

abbrev pub continue_alone : List Part → Part
continue_alone [] = part.Plain (statement.Continue (record { attributes = [] }))
continue_alone _ = part.Absent

abbrev pub discard : List Part → Part
discard [] = part.Plain (statement.Discard (record { attributes = [] }))
discard _ = part.Absent

-- the value may be absent
abbrev pub return_value : List Part → Part
return_value (x ∷ []) = part.Plain (statement.Return (record { attributes = []; expression = expression_in x }))
return_value _ = part.Absent

abbrev pub local : List Part → Part
local (part.Declaration declaration ∷ []) = part.Plain (statement.Declaration declaration)
local _ = part.Absent

abbrev pub asserted : List Part → Part
asserted (part.Assertion assertion ∷ []) = part.Plain (statement.ConstAssert assertion)
asserted _ = part.Absent

abbrev pub make_plain : PlainLabel → List Part → Part
make_plain label.CalledStatement parts = called_statement parts
make_plain (label.Assignment o) parts = assignment o parts
make_plain label.Increment parts = increment parts
make_plain label.Decrement parts = decrement parts
make_plain label.Break parts = break_alone parts
make_plain label.Continue parts = continue_alone parts
make_plain label.Return parts = return_value parts
make_plain label.Discard parts = discard parts
make_plain label.Local parts = local parts
make_plain label.Asserted parts = asserted parts
