-- Which conditions an item has, what becomes of it by them, and what is left of an open one.
use Rattle.std.specs.Prelude.{List, [], ◌∷◌, Bool, true, false, ◌&&◌, Option, Some, None, if◌then◌else◌}
use Rattle.wgsl_expressions.specs.Tree.{Exp}
use Rattle.wgsl_expressions.specs.AttributesTree.{Attr, if_true, else_if}
use Rattle.wesl_conditions.specs.declared.features.feature.Features.{Features}
use Rattle.wesl_conditions.specs.declared.features.error.CondCompError.{CondCompError}
use Rattle.wesl_conditions.specs.declared.features.error.CondCompError.TheVariants.{NoPrecedingIf, DuplicateIf}
use Rattle.wesl_conditions.specs.declared.meaning.chain.Chain.{Chain}
use Rattle.wesl_conditions.specs.Conditions.{known, simplified, condition_fault}
use Rattle.wesl_conditions.specs.Chains.{Mark, if_mark, elif_mark, else_mark, Standing, goes, stays, waits}
use Rattle.wesl_conditions.specs.Walks.{start}
use Rattle.wesl_cond_attributes.specs.declared.kind.Kind.{Kind}
use Rattle.wesl_cond_attributes.specs.declared.kind.Kind.TheVariants.{Plain, If, Elif, Else, Several}
use Rattle.wesl_cond_attributes.specs.declared.kind.Outlook.{Outlook}
use Rattle.wesl_cond_attributes.specs.declared.kind.Outlook.TheVariants.{Goes, Stays, Waits}

-- ---- which conditions an item has

abbrev pub mark_kind : Option Mark → Kind
mark_kind None = Plain
mark_kind (Some (if_mark x)) = If
mark_kind (Some (elif_mark x)) = Elif
mark_kind (Some else_mark) = Else

abbrev pub kind : List Mark → Kind
kind [] = Plain
kind (m ∷ []) = mark_kind (Some m)
kind (m ∷ n ∷ ms) = Several

abbrev pub both_kinds : Kind → Kind → Kind
both_kinds Plain other = other
both_kinds one Plain = one
both_kinds one other = Several

-- a kind, and conditions behind it
abbrev pub with_more : Kind → List Mark → Kind
with_more Plain ms = kind ms
with_more one [] = one
with_more one (m ∷ ms) = Several

-- whether a chain may go on behind such an item
abbrev pub kind_opens : Kind → Bool
kind_opens If = true
kind_opens Elif = true
kind_opens _ = false

-- whether such an item may go on with a chain
abbrev pub kind_continues : Kind → Bool
kind_continues Plain = false
kind_continues If = false
kind_continues _ = true

abbrev pub chain_before : Chain → Kind → Chain
chain_before chain k = if chain.is_open && kind_continues k then chain else start

-- ---- what becomes of an item

-- the truth value of the first condition that has an expression
abbrev pub first_value : Features → List Mark → Option Bool
first_value features [] = None
first_value features (if_mark x ∷ ms) = known (simplified features x)
first_value features (elif_mark x ∷ ms) = known (simplified features x)
first_value features (else_mark ∷ ms) = first_value features ms

abbrev pub value_outlook : Option Bool → Outlook
value_outlook (Some true) = Stays
value_outlook (Some false) = Goes
value_outlook None = Waits

abbrev pub kind_outlook : Kind → Option Bool → Outlook
kind_outlook If value = value_outlook value
kind_outlook Elif value = value_outlook value
kind_outlook _ value = Stays

abbrev pub outlook : Standing → Outlook
outlook goes = Goes
outlook stays = Stays
outlook (waits e) = Waits

abbrev pub chain_behind : Bool → Chain → Outlook → Chain
chain_behind more chain Goes = record { is_open = more; is_waiting = chain.is_waiting; is_decided = chain.is_decided }
chain_behind more chain Stays = record { is_open = more; is_waiting = chain.is_waiting; is_decided = true }
chain_behind more chain Waits = record { is_open = more; is_waiting = true; is_decided = chain.is_decided }

-- ---- what is left of an open condition: `@if` of the first of a chain, `@elif` of a later one

abbrev pub open_as : Bool → Exp → Attr
open_as waiting e = if waiting then else_if e else if_true e

abbrev pub reopened : Bool → Features → Attr → Attr
reopened waiting features (if_true x) = open_as waiting (simplified features x)
reopened waiting features (else_if x) = open_as waiting (simplified features x)
reopened waiting features a = a

-- ---- the first error of an item's conditions

-- the first error of the first condition that has an expression
abbrev pub first_condition_fault : Features → List Mark → Option CondCompError
first_condition_fault features [] = None
first_condition_fault features (if_mark x ∷ ms) = condition_fault features x
first_condition_fault features (elif_mark x ∷ ms) = condition_fault features x
first_condition_fault features (else_mark ∷ ms) = first_condition_fault features ms

-- the error of an item, by its kind, whether it is the first of a chain, and the error of its expression
abbrev pub kind_fault : Kind → Bool → Option CondCompError → Option CondCompError
kind_fault Plain first fault = None
kind_fault If first fault = fault
kind_fault Elif true fault = Some NoPrecedingIf
kind_fault Elif false fault = fault
kind_fault Else true fault = Some NoPrecedingIf
kind_fault Else false fault = None
kind_fault Several first fault = Some DuplicateIf
