-- The first error of a list of items: of each chain its own conditions come first, and then what is inside the items that stay.
use Rattle.std.specs.Prelude.{List, [], ◌∷◌, Bool, true, false, Option, Some, None}
use Rattle.std.specs.Option.{option_or}
use Rattle.wesl_conditions.specs.declared.features.feature.Features.{Features}
use Rattle.wesl_conditions.specs.declared.features.error.CondCompError.{CondCompError}
use Rattle.wesl_conditions.specs.declared.features.error.CondCompError.TheVariants.{NoPrecedingIf, DuplicateIf}
use Rattle.wesl_conditions.specs.Conditions.{condition_fault}
use Rattle.wesl_conditions.specs.Chains.{Mark, if_mark, elif_mark, else_mark, chains, goes, stays, waits, standing}

-- the first error of an item's own condition; the first item of a chain has `@if`, or no condition
abbrev pub mark_fault : Features → Bool → Mark → Option CondCompError
mark_fault features first (if_mark x) = condition_fault features x
mark_fault features true (elif_mark x) = Some NoPrecedingIf
mark_fault features true else_mark = Some NoPrecedingIf
mark_fault features false (elif_mark x) = condition_fault features x
mark_fault features false else_mark = None

abbrev pub item_fault : Features → Bool → List Mark → Option CondCompError
item_fault features first [] = None
item_fault features first (m ∷ []) = mark_fault features first m
item_fault features first (m ∷ n ∷ ms) = Some DuplicateIf

-- an item as an error sees it: its conditions, and the first error inside it
pub record Seen : Type 0 where
  pub conditions : List Mark
  pub inside : Option CondCompError

-- the first error of the conditions of a chain
abbrev pub conditions_fault : Features → Bool → List Seen → Option CondCompError
conditions_fault features first [] = None
conditions_fault features first (x ∷ xs) = option_or (item_fault features first x.conditions) (conditions_fault features false xs)

-- the first error inside the items of a chain that stay
abbrev pub inside_fault : Features → List Seen → Option CondCompError
inside_fault features [] = None
inside_fault features (x ∷ xs) =
    elim (standing features x.conditions) [
      | goes ↦ inside_fault features xs
      | stays ↦ x.inside
      | waits e ↦ option_or x.inside (inside_fault features xs)
    ]

abbrev pub chain_fault : Features → List Seen → Option CondCompError
chain_fault features xs = option_or (conditions_fault features true xs) (inside_fault features xs)

abbrev pub first_fault : Features → List (List Seen) → Option CondCompError
first_fault features [] = None
first_fault features (c ∷ cs) = option_or (chain_fault features c) (first_fault features cs)

-- the first error of a list
abbrev pub list_fault : Features → List Seen → Option CondCompError
list_fault features xs = first_fault features (chains (λ x. x.conditions) xs)
