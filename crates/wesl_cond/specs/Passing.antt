-- The first error of lists, item by item.
use Rattle.std.specs.Prelude.{◌≡◌, ◌⊎◌, List, [], ◌∷◌, Option, Some, None, Result, Ok, Err}
use Rattle.std.specs.List.{cons_option}
use Rattle.std.specs.Option.{option_or, option_map}
use Rattle.wgsl_path.specs.declared.span.Spanned.{Spanned}
use Rattle.wgsl_statements.specs.declared.statement.Statement.{Statement}
use Rattle.wgsl_statements.specs.Tree.{Stm}
use Rattle.wgsl_statements.specs.View.{statement_tree}
use Rattle.wesl_conditions.specs.declared.features.feature.Features.{Features}
use Rattle.wesl_conditions.specs.declared.features.error.CondCompError.{CondCompError}
use Rattle.wesl_conditions.specs.declared.features.error.CondCompError.TheVariants.{OutOfMemory}
use Rattle.wesl_conditions.specs.Chains.{marks_of, HasAttributes}
use Rattle.wesl_conditions.specs.Seen.{Seen}
use Rattle.wesl_conditions.specs.Walks.{checked}
use Rattle.wesl_conditions.specs.Trees.{of_statements}
use Rattle.wesl_conditions.specs.Faults.{statement_fault}
use Rattle.wesl_cond_items.specs.Check.{Check}

-- An item is passed, or a `;`, which is none; or this is the first error of the list, or memory was refused.
abbrev pub Passes : Features → Check → Option Seen → Result Unit CondCompError → Check → Type 0
Passes features before item (Ok x) after =
    (xs : List Seen) → checked features before.chain before.inside (cons_option item xs) ≡ checked features after.chain after.inside xs
Passes features before item (Err error) after =
    ((xs : List Seen) → checked features before.chain before.inside (cons_option item xs) ≡ Some error) ⊎ (error ≡ OutOfMemory)

-- an item as an error sees it
abbrev pub see : {T : Type 0} → HasAttributes T → (T → Option CondCompError) → T → Seen
see has inside x = record { conditions = marks_of has x; inside = inside x }

abbrev pub see_statement : Features → Option Stm → Option Seen
see_statement features o = option_map (see of_statements (statement_fault features)) o

abbrev pub see_node : Features → Spanned Statement → Option Seen
see_node features n = see_statement features (statement_tree n.node)

abbrev pub inside_statement : Features → Option Stm → Option CondCompError
inside_statement features None = None
inside_statement features (Some s) = statement_fault features s

-- the first of some errors
abbrev pub first_of : List (Option CondCompError) → Option CondCompError
first_of [] = None
first_of (o ∷ os) = option_or o (first_of os)
