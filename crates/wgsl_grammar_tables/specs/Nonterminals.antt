-- The nonterminals of the grammar, and their numbers.
use Rattle.std.specs.Prelude.{ℕ}

pub data Nonterminal : Type 0 where
  Name : Nonterminal
  Ups : Nonterminal
  Simple : Nonterminal
  Templated : Nonterminal
  TypeExpression : Nonterminal
  Callee : Nonterminal
  Call : Nonterminal
  Primary : Nonterminal
  Singular : Nonterminal
  Unary : Nonterminal
  Product : Nonterminal
  Sum : Nonterminal
  Shift : Nonterminal
  Relational : Nonterminal
  Ands : Nonterminal
  Xors : Nonterminal
  Ors : Nonterminal
  AllOf : Nonterminal
  AnyOf : Nonterminal
  Item : Nonterminal
  Expression : Nonterminal
  Word : Nonterminal
  Arguments : Nonterminal
  Attribute : Nonterminal
  ClosedAttribute : Nonterminal
  ClosedAttributes : Nonterminal
  VarHead : Nonterminal
  Typed : Nonterminal
  Var : Nonterminal
  Const : Nonterminal
  Let : Nonterminal
  Override : Nonterminal
  Local : Nonterminal
  Assertion : Nonterminal
  OpenPlace : Nonterminal
  Target : Nonterminal
  EnclosedPlace : Nonterminal
  Place : Nonterminal
  Phony : Nonterminal
  Update : Nonterminal
  EnclosedUpdate : Nonterminal
  Plain : Nonterminal
  First : Nonterminal
  Initializer : Nonterminal
  Next : Nonterminal
  Statement : Nonterminal
  ElseIf : Nonterminal
  Else : Nonterminal
  Block : Nonterminal
  Selector : Nonterminal
  Clause : Nonterminal
  Continuing : Nonterminal
  BreakIf : Nonterminal
  Source : Nonterminal
  Path : Nonterminal
  Content : Nonterminal
  Tree : Nonterminal
  Import : Nonterminal
  Rule : Nonterminal
  Control : Nonterminal
  Directive : Nonterminal
  Extension : Nonterminal
  Declaration : Nonterminal
  Member : Nonterminal
  Parameter : Nonterminal
  Result : Nonterminal
  Module : Nonterminal
  Kind : Nonterminal

abbrev pub number : Nonterminal → ℕ
number Name = 0
number Ups = 1
number Simple = 2
number Templated = 3
number TypeExpression = 4
number Callee = 5
number Call = 6
number Primary = 7
number Singular = 8
number Unary = 9
number Product = 10
number Sum = 11
number Shift = 12
number Relational = 13
number Ands = 14
number Xors = 15
number Ors = 16
number AllOf = 17
number AnyOf = 18
number Item = 19
number Expression = 20
number Word = 21
number Arguments = 22
number Attribute = 23
number ClosedAttribute = 24
number ClosedAttributes = 25
number VarHead = 26
number Typed = 27
number Var = 28
number Const = 29
number Let = 30
number Override = 31
number Local = 32
number Assertion = 33
number OpenPlace = 34
number Target = 35
number EnclosedPlace = 36
number Place = 37
number Phony = 38
number Update = 39
number EnclosedUpdate = 40
number Plain = 41
number First = 42
number Initializer = 43
number Next = 44
number Statement = 45
number ElseIf = 46
number Else = 47
number Block = 48
number Selector = 49
number Clause = 50
number Continuing = 51
number BreakIf = 52
number Source = 53
number Path = 54
number Content = 55
number Tree = 56
number Import = 57
number Rule = 58
number Control = 59
number Directive = 60
number Extension = 61
number Declaration = 62
number Member = 63
number Parameter = 64
number Result = 65
number Module = 66
number Kind = 67
