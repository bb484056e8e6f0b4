-- The grammar of WGSL and of imports (WGSL, "Grammar"; imports are WESL's).
use Rattle.std.specs.Prelude.{List, [], ◌∷◌}
use Rattle.wgsl_words.specs.declared.operators.UnaryOperator.TheVariants as u
use Rattle.wgsl_words.specs.declared.operators.BinaryOperator.TheVariants as o
use Rattle.wgsl_words.specs.declared.enumerations.words.AssignmentOperator.TheVariants as a
use Rattle.wgsl_token.specs.declared.token.Fixed.{Fixed}
use Rattle.wgsl_token.specs.declared.token.Fixed.TheVariants as f
use Rattle.wgsl_parser_table.specs.Label.{Label}
use Rattle.wgsl_parser_table.specs.Label.TheVariants as l
use Rattle.wgsl_parser_table.specs.NameLabel.TheVariants as name
use Rattle.wgsl_parser_table.specs.ExpressionLabel.TheVariants as exp
use Rattle.wgsl_parser_table.specs.AttributeLabel.TheVariants as attr
use Rattle.wgsl_parser_table.specs.ValueLabel.TheVariants as val
use Rattle.wgsl_parser_table.specs.PlainLabel.TheVariants as plain
use Rattle.wgsl_parser_table.specs.StatementLabel.TheVariants as stm
use Rattle.wgsl_parser_table.specs.ClauseLabel.TheVariants as part
use Rattle.wgsl_parser_table.specs.ImportLabel.TheVariants as imp
use Rattle.wgsl_parser_table.specs.DirectiveLabel.TheVariants as dir
use Rattle.wgsl_parser_table.specs.DeclarationLabel.TheVariants as decl
use Rattle.wgsl_grammar_tables.specs.Nonterminals as n
use Rattle.wgsl_grammar_tables.specs.Nonterminals.{Nonterminal}

-- A token: a mark that stands there, one that is a literal, one that is a kind of declaration, one that may be absent, a word, a literal, a reserved word, or what opens and closes a template list.
-- Or phrases: one, one or none, some in a row, those or none, a list with commas, one that may be absent. Or a part that is always absent.
pub data Piece : Type 0 where
  mark : Fixed → Piece
  truth : Fixed → Piece
  kind : Fixed → Piece
  may_mark : Fixed → Piece
  word : Piece
  literal : Piece
  reserved : Piece
  opens : Piece
  closes : Piece
  one : Nonterminal → Piece
  may : Nonterminal → Piece
  some : Nonterminal → Piece
  any : Nonterminal → Piece
  listed : Nonterminal → Piece
  any_listed : Nonterminal → Piece
  lacking : Piece

pub record Line : Type 0 where
  pub label : Label
  pub left : Nonterminal
  pub right : List Piece

abbrev row : Label → Nonterminal → List Piece → Line
row label left right = record { label = label; left = left; right = right }

-- what stands some times in a row
abbrev pub repeated : List Nonterminal
repeated = n.Attribute ∷ n.ElseIf ∷ n.Clause ∷ n.Statement ∷ n.Import ∷ n.Directive ∷ n.Declaration ∷ []

-- what stands in a list with commas
abbrev pub separated : List Nonterminal
separated = n.Item ∷ n.Expression ∷ n.Selector ∷ n.Tree ∷ n.Extension ∷ n.Member ∷ n.Parameter ∷ []

-- what a parser can begin with
abbrev pub begun : List Nonterminal
begun = n.Module ∷ n.Expression ∷ n.Statement ∷ n.Declaration ∷ n.Directive ∷ n.Import ∷ n.Kind ∷ []

abbrev pub lines : List Line
lines =
    -- names
    row (l.Name name.NameAlone) n.Name (word ∷ []) ∷
    row (l.Name name.NameAbove) n.Name (one n.Ups ∷ word ∷ []) ∷
    row (l.Name name.NameInPackage) n.Name (mark f.Package ∷ mark f.PathSeparator ∷ word ∷ []) ∷
    row (l.Name name.NameWithin) n.Name (one n.Name ∷ mark f.PathSeparator ∷ word ∷ []) ∷
    row (l.Name name.OneUp) n.Ups (mark f.Super ∷ mark f.PathSeparator ∷ []) ∷
    row (l.Name name.FurtherUp) n.Ups (one n.Ups ∷ mark f.Super ∷ mark f.PathSeparator ∷ []) ∷
    row (l.Name name.Simple) n.Simple (one n.Name ∷ []) ∷
    row (l.Name name.Templated) n.Templated (one n.Name ∷ opens ∷ listed n.Item ∷ closes ∷ []) ∷
    row l.Pass n.TypeExpression (one n.Simple ∷ []) ∷
    row l.Pass n.TypeExpression (one n.Templated ∷ []) ∷
    row (l.Name name.Simple) n.Callee (one n.Name ∷ []) ∷
    row (l.Name name.Templated) n.Callee (one n.Name ∷ opens ∷ listed n.Item ∷ closes ∷ []) ∷
    -- operands
    row (l.Name name.Call) n.Call (one n.Callee ∷ mark f.ParenLeft ∷ any_listed n.Expression ∷ mark f.ParenRight ∷ []) ∷
    row (l.Expression exp.ALiteral) n.Primary (literal ∷ []) ∷
    row (l.Expression exp.ALiteral) n.Primary (truth f.True ∷ []) ∷
    row (l.Expression exp.ALiteral) n.Primary (truth f.False ∷ []) ∷
    row (l.Expression exp.Named) n.Primary (one n.TypeExpression ∷ []) ∷
    row (l.Expression exp.Called) n.Primary (one n.Call ∷ []) ∷
    row (l.Expression exp.Parenthesized) n.Primary (mark f.ParenLeft ∷ one n.Expression ∷ mark f.ParenRight ∷ []) ∷
    row l.Pass n.Singular (one n.Primary ∷ []) ∷
    row (l.Expression exp.Component) n.Singular (one n.Singular ∷ mark f.Period ∷ word ∷ []) ∷
    row (l.Expression exp.Indexed) n.Singular (one n.Singular ∷ mark f.BracketLeft ∷ one n.Expression ∷ mark f.BracketRight ∷ []) ∷
    row l.Pass n.Unary (one n.Singular ∷ []) ∷
    row (l.Expression (exp.Unary u.LogicalNegation)) n.Unary (mark f.Bang ∷ one n.Unary ∷ []) ∷
    row (l.Expression (exp.Unary u.Negation)) n.Unary (mark f.Minus ∷ one n.Unary ∷ []) ∷
    row (l.Expression (exp.Unary u.BitwiseComplement)) n.Unary (mark f.Tilde ∷ one n.Unary ∷ []) ∷
    row (l.Expression (exp.Unary u.Indirection)) n.Unary (mark f.Star ∷ one n.Unary ∷ []) ∷
    row (l.Expression (exp.Unary u.AddressOf)) n.Unary (mark f.And ∷ one n.Unary ∷ []) ∷
    -- operators
    row l.Pass n.Product (one n.Unary ∷ []) ∷
    row (l.Expression (exp.Binary o.Multiplication)) n.Product (one n.Product ∷ mark f.Star ∷ one n.Unary ∷ []) ∷
    row (l.Expression (exp.Binary o.Division)) n.Product (one n.Product ∷ mark f.ForwardSlash ∷ one n.Unary ∷ []) ∷
    row (l.Expression (exp.Binary o.Remainder)) n.Product (one n.Product ∷ mark f.Modulo ∷ one n.Unary ∷ []) ∷
    row l.Pass n.Sum (one n.Product ∷ []) ∷
    row (l.Expression (exp.Binary o.Addition)) n.Sum (one n.Sum ∷ mark f.Plus ∷ one n.Product ∷ []) ∷
    row (l.Expression (exp.Binary o.Subtraction)) n.Sum (one n.Sum ∷ mark f.Minus ∷ one n.Product ∷ []) ∷
    row l.Pass n.Shift (one n.Sum ∷ []) ∷
    row (l.Expression (exp.Binary o.ShiftLeft)) n.Shift (one n.Unary ∷ mark f.ShiftLeft ∷ one n.Unary ∷ []) ∷
    row (l.Expression (exp.Binary o.ShiftRight)) n.Shift (one n.Unary ∷ mark f.ShiftRight ∷ one n.Unary ∷ []) ∷
    row l.Pass n.Relational (one n.Shift ∷ []) ∷
    row (l.Expression (exp.Binary o.LessThan)) n.Relational (one n.Shift ∷ mark f.LessThan ∷ one n.Shift ∷ []) ∷
    row (l.Expression (exp.Binary o.LessThanEqual)) n.Relational (one n.Shift ∷ mark f.LessThanEqual ∷ one n.Shift ∷ []) ∷
    row (l.Expression (exp.Binary o.GreaterThan)) n.Relational (one n.Shift ∷ mark f.GreaterThan ∷ one n.Shift ∷ []) ∷
    row (l.Expression (exp.Binary o.GreaterThanEqual)) n.Relational (one n.Shift ∷ mark f.GreaterThanEqual ∷ one n.Shift ∷ []) ∷
    row (l.Expression (exp.Binary o.Equality)) n.Relational (one n.Shift ∷ mark f.EqualEqual ∷ one n.Shift ∷ []) ∷
    row (l.Expression (exp.Binary o.Inequality)) n.Relational (one n.Shift ∷ mark f.NotEqual ∷ one n.Shift ∷ []) ∷
    row (l.Expression (exp.Binary o.BitwiseAnd)) n.Ands (one n.Unary ∷ mark f.And ∷ one n.Unary ∷ []) ∷
    row (l.Expression (exp.Binary o.BitwiseAnd)) n.Ands (one n.Ands ∷ mark f.And ∷ one n.Unary ∷ []) ∷
    row (l.Expression (exp.Binary o.BitwiseXor)) n.Xors (one n.Unary ∷ mark f.Xor ∷ one n.Unary ∷ []) ∷
    row (l.Expression (exp.Binary o.BitwiseXor)) n.Xors (one n.Xors ∷ mark f.Xor ∷ one n.Unary ∷ []) ∷
    row (l.Expression (exp.Binary o.BitwiseOr)) n.Ors (one n.Unary ∷ mark f.Or ∷ one n.Unary ∷ []) ∷
    row (l.Expression (exp.Binary o.BitwiseOr)) n.Ors (one n.Ors ∷ mark f.Or ∷ one n.Unary ∷ []) ∷
    row (l.Expression (exp.Binary o.ShortCircuitAnd)) n.AllOf (one n.Relational ∷ mark f.AndAnd ∷ one n.Relational ∷ []) ∷
    row (l.Expression (exp.Binary o.ShortCircuitAnd)) n.AllOf (one n.AllOf ∷ mark f.AndAnd ∷ one n.Relational ∷ []) ∷
    row (l.Expression (exp.Binary o.ShortCircuitOr)) n.AnyOf (one n.Relational ∷ mark f.OrOr ∷ one n.Relational ∷ []) ∷
    row (l.Expression (exp.Binary o.ShortCircuitOr)) n.AnyOf (one n.AnyOf ∷ mark f.OrOr ∷ one n.Relational ∷ []) ∷
    row l.Pass n.Item (one n.Relational ∷ []) ∷
    row l.Pass n.Item (one n.Ands ∷ []) ∷
    row l.Pass n.Item (one n.Xors ∷ []) ∷
    row l.Pass n.Item (one n.Ors ∷ []) ∷
    row l.Pass n.Expression (one n.Item ∷ []) ∷
    row l.Pass n.Expression (one n.AllOf ∷ []) ∷
    row l.Pass n.Expression (one n.AnyOf ∷ []) ∷
    -- attributes
    row (l.Attribute attr.Word) n.Word (word ∷ []) ∷
    row (l.Attribute attr.ReservedWord) n.Word (reserved ∷ []) ∷
    row (l.Attribute (attr.Keyword f.Alias)) n.Word (mark f.Alias ∷ []) ∷
    row (l.Attribute (attr.Keyword f.Break)) n.Word (mark f.Break ∷ []) ∷
    row (l.Attribute (attr.Keyword f.Case)) n.Word (mark f.Case ∷ []) ∷
    row (l.Attribute (attr.Keyword f.Const)) n.Word (mark f.Const ∷ []) ∷
    row (l.Attribute (attr.Keyword f.ConstAssert)) n.Word (mark f.ConstAssert ∷ []) ∷
    row (l.Attribute (attr.Keyword f.Continue)) n.Word (mark f.Continue ∷ []) ∷
    row (l.Attribute (attr.Keyword f.Continuing)) n.Word (mark f.Continuing ∷ []) ∷
    row (l.Attribute (attr.Keyword f.Default)) n.Word (mark f.Default ∷ []) ∷
    row (l.Attribute (attr.Keyword f.Diagnostic)) n.Word (mark f.Diagnostic ∷ []) ∷
    row (l.Attribute (attr.Keyword f.Discard)) n.Word (mark f.Discard ∷ []) ∷
    row (l.Attribute (attr.Keyword f.Else)) n.Word (mark f.Else ∷ []) ∷
    row (l.Attribute (attr.Keyword f.Enable)) n.Word (mark f.Enable ∷ []) ∷
    row (l.Attribute (attr.Keyword f.False)) n.Word (mark f.False ∷ []) ∷
    row (l.Attribute (attr.Keyword f.Fn)) n.Word (mark f.Fn ∷ []) ∷
    row (l.Attribute (attr.Keyword f.For)) n.Word (mark f.For ∷ []) ∷
    row (l.Attribute (attr.Keyword f.If)) n.Word (mark f.If ∷ []) ∷
    row (l.Attribute (attr.Keyword f.Let)) n.Word (mark f.Let ∷ []) ∷
    row (l.Attribute (attr.Keyword f.Loop)) n.Word (mark f.Loop ∷ []) ∷
    row (l.Attribute (attr.Keyword f.Override)) n.Word (mark f.Override ∷ []) ∷
    row (l.Attribute (attr.Keyword f.Requires)) n.Word (mark f.Requires ∷ []) ∷
    row (l.Attribute (attr.Keyword f.Return)) n.Word (mark f.Return ∷ []) ∷
    row (l.Attribute (attr.Keyword f.Struct)) n.Word (mark f.Struct ∷ []) ∷
    row (l.Attribute (attr.Keyword f.Switch)) n.Word (mark f.Switch ∷ []) ∷
    row (l.Attribute (attr.Keyword f.True)) n.Word (mark f.True ∷ []) ∷
    row (l.Attribute (attr.Keyword f.Var)) n.Word (mark f.Var ∷ []) ∷
    row (l.Attribute (attr.Keyword f.While)) n.Word (mark f.While ∷ []) ∷
    row (l.Attribute (attr.Keyword f.Import)) n.Word (mark f.Import ∷ []) ∷
    row (l.Attribute (attr.Keyword f.Package)) n.Word (mark f.Package ∷ []) ∷
    row (l.Attribute (attr.Keyword f.Super)) n.Word (mark f.Super ∷ []) ∷
    row (l.Attribute (attr.Keyword f.As)) n.Word (mark f.As ∷ []) ∷
    row (l.Attribute attr.Arguments) n.Arguments (mark f.ParenLeft ∷ any_listed n.Expression ∷ mark f.ParenRight ∷ []) ∷
    row (l.Attribute attr.Attribute) n.Attribute (mark f.Attr ∷ one n.Word ∷ lacking ∷ []) ∷
    row l.Pass n.Attribute (one n.ClosedAttribute ∷ []) ∷
    -- one with parentheses, and some of which the last has them: before what begins with a parenthesis there stand no others
    row (l.Attribute attr.Attribute) n.ClosedAttribute (mark f.Attr ∷ one n.Word ∷ one n.Arguments ∷ []) ∷
    row l.First n.ClosedAttributes (one n.ClosedAttribute ∷ []) ∷
    row l.More n.ClosedAttributes (some n.Attribute ∷ one n.ClosedAttribute ∷ []) ∷
    -- declared values
    row (l.Attribute attr.VarKind) n.VarHead (mark f.Var ∷ []) ∷
    row (l.Attribute attr.VarIn) n.VarHead (mark f.Var ∷ opens ∷ listed n.Item ∷ closes ∷ []) ∷
    row (l.Value val.Typed) n.Typed (word ∷ []) ∷
    row (l.Value val.TypedAs) n.Typed (word ∷ mark f.Colon ∷ one n.TypeExpression ∷ []) ∷
    row (l.Value val.Var) n.Var (one n.VarHead ∷ one n.Typed ∷ []) ∷
    row (l.Value val.VarSet) n.Var (one n.VarHead ∷ one n.Typed ∷ mark f.Equal ∷ one n.Expression ∷ []) ∷
    row (l.Value val.Const) n.Const (mark f.Const ∷ one n.Typed ∷ mark f.Equal ∷ one n.Expression ∷ []) ∷
    row (l.Value val.Let) n.Let (mark f.Let ∷ one n.Typed ∷ mark f.Equal ∷ one n.Expression ∷ []) ∷
    row (l.Value val.Override) n.Override (mark f.Override ∷ one n.Typed ∷ []) ∷
    row (l.Value val.OverrideSet) n.Override (mark f.Override ∷ one n.Typed ∷ mark f.Equal ∷ one n.Expression ∷ []) ∷
    row l.Pass n.Local (one n.Var ∷ []) ∷
    row l.Pass n.Local (one n.Const ∷ []) ∷
    row l.Pass n.Local (one n.Let ∷ []) ∷
    row (l.Value val.Assertion) n.Assertion (mark f.ConstAssert ∷ one n.Expression ∷ []) ∷
    -- what is assigned to, and what changes it: what begins with no parenthesis, and what does
    row (l.Expression (exp.Unary u.Indirection)) n.OpenPlace (mark f.Star ∷ one n.Place ∷ []) ∷
    row (l.Expression (exp.Unary u.AddressOf)) n.OpenPlace (mark f.And ∷ one n.Place ∷ []) ∷
    row l.Pass n.OpenPlace (one n.Target ∷ []) ∷
    row (l.Expression exp.PlaceName) n.Target (one n.Name ∷ []) ∷
    row (l.Expression exp.Component) n.Target (one n.Target ∷ mark f.Period ∷ word ∷ []) ∷
    row (l.Expression exp.Indexed) n.Target (one n.Target ∷ mark f.BracketLeft ∷ one n.Expression ∷ mark f.BracketRight ∷ []) ∷
    row (l.Expression exp.Parenthesized) n.EnclosedPlace (mark f.ParenLeft ∷ one n.Place ∷ mark f.ParenRight ∷ []) ∷
    row (l.Expression exp.Component) n.EnclosedPlace (one n.EnclosedPlace ∷ mark f.Period ∷ word ∷ []) ∷
    row (l.Expression exp.Indexed) n.EnclosedPlace (one n.EnclosedPlace ∷ mark f.BracketLeft ∷ one n.Expression ∷ mark f.BracketRight ∷ []) ∷
    row l.Pass n.Place (one n.OpenPlace ∷ []) ∷
    row l.Pass n.Place (one n.EnclosedPlace ∷ []) ∷
    row (l.Expression exp.Underscore) n.Phony (mark f.Underscore ∷ []) ∷
    row (l.Plain plain.CalledStatement) n.Update (one n.Call ∷ []) ∷
    row (l.Plain (plain.Assignment a.Equal)) n.Update (one n.OpenPlace ∷ mark f.Equal ∷ one n.Expression ∷ []) ∷
    row (l.Plain (plain.Assignment a.PlusEqual)) n.Update (one n.OpenPlace ∷ mark f.PlusEqual ∷ one n.Expression ∷ []) ∷
    row (l.Plain (plain.Assignment a.MinusEqual)) n.Update (one n.OpenPlace ∷ mark f.MinusEqual ∷ one n.Expression ∷ []) ∷
    row (l.Plain (plain.Assignment a.TimesEqual)) n.Update (one n.OpenPlace ∷ mark f.TimesEqual ∷ one n.Expression ∷ []) ∷
    row (l.Plain (plain.Assignment a.DivisionEqual)) n.Update (one n.OpenPlace ∷ mark f.DivisionEqual ∷ one n.Expression ∷ []) ∷
    row (l.Plain (plain.Assignment a.ModuloEqual)) n.Update (one n.OpenPlace ∷ mark f.ModuloEqual ∷ one n.Expression ∷ []) ∷
    row (l.Plain (plain.Assignment a.AndEqual)) n.Update (one n.OpenPlace ∷ mark f.AndEqual ∷ one n.Expression ∷ []) ∷
    row (l.Plain (plain.Assignment a.OrEqual)) n.Update (one n.OpenPlace ∷ mark f.OrEqual ∷ one n.Expression ∷ []) ∷
    row (l.Plain (plain.Assignment a.XorEqual)) n.Update (one n.OpenPlace ∷ mark f.XorEqual ∷ one n.Expression ∷ []) ∷
    row (l.Plain (plain.Assignment a.ShiftRightAssign)) n.Update (one n.OpenPlace ∷ mark f.ShiftRightAssign ∷ one n.Expression ∷ []) ∷
    row (l.Plain (plain.Assignment a.ShiftLeftAssign)) n.Update (one n.OpenPlace ∷ mark f.ShiftLeftAssign ∷ one n.Expression ∷ []) ∷
    row (l.Plain (plain.Assignment a.Equal)) n.Update (one n.Phony ∷ mark f.Equal ∷ one n.Expression ∷ []) ∷
    row (l.Plain plain.Increment) n.Update (one n.OpenPlace ∷ mark f.PlusPlus ∷ []) ∷
    row (l.Plain plain.Decrement) n.Update (one n.OpenPlace ∷ mark f.MinusMinus ∷ []) ∷
    row (l.Plain (plain.Assignment a.Equal)) n.EnclosedUpdate (one n.EnclosedPlace ∷ mark f.Equal ∷ one n.Expression ∷ []) ∷
    row (l.Plain (plain.Assignment a.PlusEqual)) n.EnclosedUpdate (one n.EnclosedPlace ∷ mark f.PlusEqual ∷ one n.Expression ∷ []) ∷
    row (l.Plain (plain.Assignment a.MinusEqual)) n.EnclosedUpdate (one n.EnclosedPlace ∷ mark f.MinusEqual ∷ one n.Expression ∷ []) ∷
    row (l.Plain (plain.Assignment a.TimesEqual)) n.EnclosedUpdate (one n.EnclosedPlace ∷ mark f.TimesEqual ∷ one n.Expression ∷ []) ∷
    row (l.Plain (plain.Assignment a.DivisionEqual)) n.EnclosedUpdate (one n.EnclosedPlace ∷ mark f.DivisionEqual ∷ one n.Expression ∷ []) ∷
    row (l.Plain (plain.Assignment a.ModuloEqual)) n.EnclosedUpdate (one n.EnclosedPlace ∷ mark f.ModuloEqual ∷ one n.Expression ∷ []) ∷
    row (l.Plain (plain.Assignment a.AndEqual)) n.EnclosedUpdate (one n.EnclosedPlace ∷ mark f.AndEqual ∷ one n.Expression ∷ []) ∷
    row (l.Plain (plain.Assignment a.OrEqual)) n.EnclosedUpdate (one n.EnclosedPlace ∷ mark f.OrEqual ∷ one n.Expression ∷ []) ∷
    row (l.Plain (plain.Assignment a.XorEqual)) n.EnclosedUpdate (one n.EnclosedPlace ∷ mark f.XorEqual ∷ one n.Expression ∷ []) ∷
    row (l.Plain (plain.Assignment a.ShiftRightAssign)) n.EnclosedUpdate (one n.EnclosedPlace ∷ mark f.ShiftRightAssign ∷ one n.Expression ∷ []) ∷
    row (l.Plain (plain.Assignment a.ShiftLeftAssign)) n.EnclosedUpdate (one n.EnclosedPlace ∷ mark f.ShiftLeftAssign ∷ one n.Expression ∷ []) ∷
    row (l.Plain plain.Increment) n.EnclosedUpdate (one n.EnclosedPlace ∷ mark f.PlusPlus ∷ []) ∷
    row (l.Plain plain.Decrement) n.EnclosedUpdate (one n.EnclosedPlace ∷ mark f.MinusMinus ∷ []) ∷
    -- statements
    row (l.Plain plain.Break) n.Plain (mark f.Break ∷ []) ∷
    row (l.Plain plain.Continue) n.Plain (mark f.Continue ∷ []) ∷
    row (l.Plain plain.Return) n.Plain (mark f.Return ∷ may n.Expression ∷ []) ∷
    row (l.Plain plain.Discard) n.Plain (mark f.Discard ∷ []) ∷
    row (l.Plain plain.Local) n.Plain (one n.Local ∷ []) ∷
    row l.Pass n.Plain (one n.Update ∷ []) ∷
    row (l.Plain plain.Asserted) n.Plain (one n.Assertion ∷ []) ∷
    row (l.Plain plain.Local) n.First (one n.Local ∷ []) ∷
    row l.Pass n.First (one n.Update ∷ []) ∷
    row l.Pass n.First (one n.EnclosedUpdate ∷ []) ∷
    row (l.Statement stm.Header) n.Initializer (one n.First ∷ []) ∷
    row (l.Statement stm.Header) n.Next (one n.Update ∷ []) ∷
    row (l.Statement stm.Header) n.Next (one n.EnclosedUpdate ∷ []) ∷
    row (l.Statement stm.VoidStatement) n.Statement (mark f.Semicolon ∷ []) ∷
    row (l.Statement stm.PlainStatement) n.Statement (any n.Attribute ∷ one n.Plain ∷ mark f.Semicolon ∷ []) ∷
    row (l.Statement stm.PlainStatement) n.Statement (may n.ClosedAttributes ∷ one n.EnclosedUpdate ∷ mark f.Semicolon ∷ []) ∷
    row (l.Statement stm.Compound) n.Statement (one n.Block ∷ []) ∷
    row (l.Statement stm.If) n.Statement (any n.Attribute ∷ mark f.If ∷ one n.Expression ∷ one n.Block ∷ any n.ElseIf ∷ may n.Else ∷ []) ∷
    row (l.Clause part.ElseIf) n.ElseIf (mark f.Else ∷ mark f.If ∷ one n.Expression ∷ one n.Block ∷ []) ∷
    row l.Pass n.Else (mark f.Else ∷ one n.Block ∷ []) ∷
    row (l.Statement stm.Switch) n.Statement (any n.Attribute ∷ mark f.Switch ∷ one n.Expression ∷ any n.Attribute ∷ mark f.BraceLeft ∷ some n.Clause ∷ mark f.BraceRight ∷ []) ∷
    row (l.Statement stm.Loop) n.Statement (any n.Attribute ∷ mark f.Loop ∷ any n.Attribute ∷ mark f.BraceLeft ∷ any n.Statement ∷ may n.Continuing ∷ mark f.BraceRight ∷ []) ∷
    row (l.Statement stm.For) n.Statement (any n.Attribute ∷ mark f.For ∷ mark f.ParenLeft ∷ may n.Initializer ∷ mark f.Semicolon ∷ may n.Expression ∷ mark f.Semicolon ∷ may n.Next ∷ mark f.ParenRight ∷ one n.Block ∷ []) ∷
    row (l.Statement stm.While) n.Statement (any n.Attribute ∷ mark f.While ∷ one n.Expression ∷ one n.Block ∷ []) ∷
    row (l.Clause part.Block) n.Block (any n.Attribute ∷ mark f.BraceLeft ∷ any n.Statement ∷ mark f.BraceRight ∷ []) ∷
    row (l.Clause part.DefaultSelector) n.Selector (mark f.Default ∷ []) ∷
    row (l.Clause part.Selector) n.Selector (one n.Expression ∷ []) ∷
    row (l.Clause part.Case) n.Clause (mark f.Case ∷ listed n.Selector ∷ may_mark f.Colon ∷ one n.Block ∷ []) ∷
    row (l.Clause part.Default) n.Clause (mark f.Default ∷ may_mark f.Colon ∷ one n.Block ∷ []) ∷
    row (l.Clause part.Continuing) n.Continuing (mark f.Continuing ∷ any n.Attribute ∷ mark f.BraceLeft ∷ any n.Statement ∷ may n.BreakIf ∷ mark f.BraceRight ∷ []) ∷
    row (l.Clause part.BreakIf) n.BreakIf (mark f.Break ∷ mark f.If ∷ one n.Expression ∷ mark f.Semicolon ∷ []) ∷
    -- imports
    row (l.Import imp.FromPackage) n.Source (word ∷ mark f.PathSeparator ∷ []) ∷
    row (l.Import imp.FromOwn) n.Source (mark f.Package ∷ mark f.PathSeparator ∷ []) ∷
    row (l.Import imp.FromAbove) n.Source (one n.Ups ∷ []) ∷
    row (l.Import imp.FromWithin) n.Source (one n.Source ∷ word ∷ mark f.PathSeparator ∷ []) ∷
    row (l.Import imp.FirstStep) n.Path (word ∷ mark f.PathSeparator ∷ []) ∷
    row (l.Import imp.NextStep) n.Path (one n.Path ∷ word ∷ mark f.PathSeparator ∷ []) ∷
    row (l.Import imp.Item) n.Content (word ∷ []) ∷
    row (l.Import imp.Renamed) n.Content (word ∷ mark f.As ∷ word ∷ []) ∷
    row (l.Import imp.Collection) n.Content (mark f.BraceLeft ∷ listed n.Tree ∷ mark f.BraceRight ∷ []) ∷
    row (l.Import imp.Tree) n.Tree (may n.Path ∷ one n.Content ∷ []) ∷
    row (l.Import imp.Import) n.Import (any n.Attribute ∷ mark f.Import ∷ may n.Source ∷ one n.Content ∷ mark f.Semicolon ∷ []) ∷
    -- directives
    row (l.Directive dir.Rule) n.Rule (word ∷ []) ∷
    row (l.Directive dir.RuleOf) n.Rule (word ∷ mark f.Period ∷ word ∷ []) ∷
    row (l.Directive dir.Diagnostic) n.Control (mark f.Diagnostic ∷ mark f.ParenLeft ∷ word ∷ mark f.Comma ∷ one n.Rule ∷ may_mark f.Comma ∷ mark f.ParenRight ∷ []) ∷
    row (l.Directive dir.Control) n.Directive (any n.Attribute ∷ one n.Control ∷ mark f.Semicolon ∷ []) ∷
    row (l.Directive dir.Extension) n.Extension (word ∷ []) ∷
    row (l.Directive dir.Enable) n.Directive (any n.Attribute ∷ mark f.Enable ∷ listed n.Extension ∷ mark f.Semicolon ∷ []) ∷
    row (l.Directive dir.Requires) n.Directive (any n.Attribute ∷ mark f.Requires ∷ listed n.Extension ∷ mark f.Semicolon ∷ []) ∷
    -- declarations of a module
    row (l.Declaration decl.VoidDeclaration) n.Declaration (mark f.Semicolon ∷ []) ∷
    row (l.Declaration decl.Global) n.Declaration (any n.Attribute ∷ one n.Var ∷ mark f.Semicolon ∷ []) ∷
    row (l.Declaration decl.Global) n.Declaration (any n.Attribute ∷ one n.Override ∷ mark f.Semicolon ∷ []) ∷
    row (l.Declaration decl.Global) n.Declaration (any n.Attribute ∷ one n.Const ∷ mark f.Semicolon ∷ []) ∷
    row (l.Declaration decl.Alias) n.Declaration (any n.Attribute ∷ mark f.Alias ∷ word ∷ mark f.Equal ∷ one n.TypeExpression ∷ mark f.Semicolon ∷ []) ∷
    row (l.Declaration decl.GlobalAssertion) n.Declaration (any n.Attribute ∷ one n.Assertion ∷ mark f.Semicolon ∷ []) ∷
    row (l.Declaration decl.Struct) n.Declaration (any n.Attribute ∷ mark f.Struct ∷ word ∷ mark f.BraceLeft ∷ listed n.Member ∷ mark f.BraceRight ∷ []) ∷
    row (l.Declaration decl.Member) n.Member (any n.Attribute ∷ word ∷ mark f.Colon ∷ one n.TypeExpression ∷ []) ∷
    row (l.Declaration decl.Function) n.Declaration (any n.Attribute ∷ mark f.Fn ∷ word ∷ mark f.ParenLeft ∷ any_listed n.Parameter ∷ mark f.ParenRight ∷ may n.Result ∷ one n.Block ∷ []) ∷
    row (l.Declaration decl.Parameter) n.Parameter (any n.Attribute ∷ word ∷ mark f.Colon ∷ one n.TypeExpression ∷ []) ∷
    row (l.Declaration decl.Result) n.Result (mark f.Arrow ∷ any n.Attribute ∷ one n.TypeExpression ∷ []) ∷
    row (l.Declaration decl.Module) n.Module (any n.Import ∷ any n.Directive ∷ any n.Declaration ∷ []) ∷
    -- kinds of declarations, alone
    row l.Pass n.Kind (kind f.Const ∷ []) ∷
    row l.Pass n.Kind (kind f.Override ∷ []) ∷
    row l.Pass n.Kind (kind f.Let ∷ []) ∷
    row l.Pass n.Kind (one n.VarHead ∷ []) ∷
    []
