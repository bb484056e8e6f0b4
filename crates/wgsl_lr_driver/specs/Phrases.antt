-- The grammar: its rules, and what tokens and phrases stand for.
use Rattle.std.specs.Prelude.{◌≡◌, ℕ, ◌+◌, Bool, true, false, if◌then◌else◌, List, Option, Some, None}
use Rattle.wgsl_templates.specs.declared.meaning.token.SpannedTemplateToken.{SpannedTemplateToken}
use Rattle.wgsl_grammar_tables.specs.Grammars.{Grammar}
use Rattle.wgsl_grammar_tables.specs.Machine.{Tables}
use Rattle.wgsl_grammar_tables.specs.Listed.{rule_at, tables}
use Rattle.wgsl_grammar_tables.specs.Decoded.{listed}
use Rattle.wgsl_grammar_tables.specs.Starts.{start}
use Rattle.wgsl_grammar_tables.specs.Classes.{class_of}
use Rattle.wgsl_grammar_tables.specs.Labels.{label_at, pattern_at}
use Rattle.wgsl_semantic_values.specs.declared.part.Part.{Part}
use Rattle.wgsl_semantic_values.specs.declared.part.Part.TheVariants.{Absent}
use Rattle.wgsl_semantic_values.specs.declared.label.Label.{Label}
use Rattle.wgsl_semantic_values.specs.declared.label.Label.TheVariants as l
use Rattle.wgsl_semantic_values.specs.declared.label.NameLabel.{NameLabel}
use Rattle.wgsl_semantic_values.specs.declared.label.NameLabel.TheVariants as name
use Rattle.wgsl_semantic_values.specs.declared.label.ImportLabel.{ImportLabel}
use Rattle.wgsl_semantic_values.specs.declared.label.ImportLabel.TheVariants as imports
use Rattle.wgsl_semantic_values.specs.declared.label.ExpressionLabel.{ExpressionLabel}
use Rattle.wgsl_semantic_values.specs.declared.label.ExpressionLabel.TheVariants as expression
use Rattle.wgsl_semantic_values.specs.declared.label.StatementLabel.{StatementLabel}
use Rattle.wgsl_semantic_values.specs.declared.label.StatementLabel.TheVariants as statement
use Rattle.wgsl_semantic_values.specs.declared.label.ClauseLabel.{ClauseLabel}
use Rattle.wgsl_semantic_values.specs.declared.label.ClauseLabel.TheVariants as clause
use Rattle.wgsl_lr_driver.specs.Leaves as leaves
use Rattle.wgsl_lr_driver.specs.declared.phrase.Phrase.{Phrase}
use Rattle.wgsl_lr_driver.specs.declared.gather.Extent.{Extent}
use Rattle.wgsl_lr_driver.specs.Gathering.{either, extent_from, chosen}
use Rattle.wgsl_lr_driver.specs.declared.driver.Start.{Start}
use Rattle.wgsl_lr_driver.specs.declared.driver.Start.TheVariants.{Module, Expression, Statement, Declaration, Directive, Import, Kind}
use Rattle.wgsl_reduce_actions.specs.Making as making
use Rattle.wgsl_lr_driver.specs.Failures.{failure_in, made_failed}

-- a token at its place
abbrev pub leaf : SpannedTemplateToken → Phrase Part
leaf k = record { part = leaves.leaf k.token; span = k.span; last = k.span; failure = None; depth = 0 }

-- Names and their paths nest nothing, but for templates. A call nests as the expression or the statement that it is.
abbrev pub name_nests : NameLabel → Bool
name_nests name.Templated = true
name_nests _ = false

abbrev pub import_nests : ImportLabel → Bool
import_nests imports.Collection = true
import_nests imports.Tree = true
import_nests imports.Import = true
import_nests _ = false

-- Nor do lists, and productions that make nothing new.
abbrev pub nests : Label → Bool
nests l.Pass = false
nests l.First = false
nests l.More = false
nests (l.Name k) = name_nests k
nests (l.Import k) = import_nests k
nests _ = true

-- How many levels a node that nests is: a call, a statement, and the braces round statements, which `loop` and `continuing` have of their own, are two each.
abbrev pub expression_levels : ExpressionLabel → ℕ
expression_levels expression.Called = 2
expression_levels _ = 1

abbrev pub statement_levels : StatementLabel → ℕ
statement_levels statement.Loop = 4
statement_levels _ = 2

abbrev pub clause_levels : ClauseLabel → ℕ
clause_levels clause.Block = 2
clause_levels clause.Continuing = 2
clause_levels _ = 1

-- Any other node is one.
abbrev pub levels : Label → ℕ
levels (l.Expression k) = expression_levels k
levels (l.Statement k) = statement_levels k
levels (l.Clause k) = clause_levels k
levels _ = 1

-- what a production makes of some phrases, with this extent and these parts; of none it makes nothing
abbrev pub made : Label → Option Extent → List Part → Phrase Part
made label None parts = record { part = Absent; span = record { start = 0; end = 0 }; last = record { start = 0; end = 0 }; failure = None; depth = 0 }
made label (Some e) parts = record {
  part = making.make label e.span parts;
  span = e.span;
  last = e.last;
  failure = either e.failure (failure_in label parts (making.make label e.span parts) e.last);
  depth = if nests label then e.depth + levels label else e.depth;
}

abbrev pub make : ℕ → List (Phrase Part) → Phrase Part
make p xs = made (label_at p) (extent_from None xs) (chosen Absent (pattern_at p) xs)

-- WGSL, "Grammar", and WESL's imports
abbrev pub grammar : Grammar SpannedTemplateToken (Phrase Part)
grammar = record { class_of = λ k. class_of k.token; leaf = leaf; rule = rule_at listed; make = make }

-- the number of a start
abbrev pub number : Start → ℕ
number Module = 0
number Expression = 1
number Statement = 2
number Declaration = 3
number Directive = 4
number Import = 5
number Kind = 6

abbrev pub tables_of : Start → Tables
tables_of s = tables listed (start (number s))

-- A rule that makes nothing new of this phrase keeps it: the check that is made again of its part doesn't fail.
abbrev pub IsKept : Phrase Part → Type 0
IsKept x = made_failed l.Pass x.part ≡ None
