-- Chains of conditions: `@if`, any `@elif` and at most one `@else`, on neighbours in a list (WESL, "Conditional Translation").
-- Empty items (a `;` alone) are not in these lists.
use Rattle.std.specs.Prelude.{List, [], ◌∷◌, map, filter_map, Bool, true, false, not, ◌&&◌, Option, Some, None, if◌then◌else◌}
use Rattle.std.specs.List.{filter, flat_map}
use Rattle.wgsl_expressions.specs.Tree.{Exp}
use Rattle.wgsl_expressions.specs.AttributesTree.{Attr, if_true, else_if, otherwise}
use Rattle.wesl_conditions.specs.declared.features.feature.Features.{Features}
use Rattle.wesl_conditions.specs.Conditions.{Choice, known, holds, simplified}

-- an attribute that is a condition
pub data Mark : Type 0 where
  if_mark : Exp → Mark
  elif_mark : Exp → Mark
  else_mark : Mark

abbrev pub mark : Attr → Option Mark
mark (if_true x) = Some (if_mark x)
mark (else_if x) = Some (elif_mark x)
mark otherwise = Some else_mark
mark _ = None

abbrev pub is_marked : Option Mark → Bool
is_marked None = false
is_marked (Some m) = true

abbrev pub is_condition : Attr → Bool
is_condition a = is_marked (mark a)

-- the conditions among the attributes of an item: none, one, or several, which is an error
abbrev pub marks : List Attr → List Mark
marks attributes = filter_map mark attributes

-- ---- chains

-- whether a chain may go on behind an item
abbrev pub opens : List Mark → Bool
opens (if_mark x ∷ []) = true
opens (elif_mark x ∷ []) = true
opens _ = false

-- whether an item may go on with a chain
abbrev pub continues : List Mark → Bool
continues [] = false
continues (if_mark x ∷ []) = false
continues _ = true

-- what has attributes
pub record HasAttributes (T : Type 0) : Type 0 where
  pub attributes : T → List Attr
  pub with_attributes : List Attr → T → T

-- an item before a list of chains: it belongs to the first chain if that goes on with it
abbrev pub join : {T : Type 0} → (T → List Mark) → T → List (List T) → List (List T)
join of x [] = (x ∷ []) ∷ []
join of x ([] ∷ chains) = (x ∷ []) ∷ chains
join of x ((y ∷ ys) ∷ chains) = if opens (of x) && continues (of y) then (x ∷ y ∷ ys) ∷ chains else (x ∷ []) ∷ (y ∷ ys) ∷ chains

-- a list as its chains; an item without a condition is one of its own
abbrev pub chains : {T : Type 0} → (T → List Mark) → List T → List (List T)
chains of [] = []
chains of (x ∷ xs) = join of x (chains of xs)

-- ---- attributes without conditions, and with another one

abbrev pub unmarked : List Attr → List Attr
unmarked attributes = filter (λ a. not (is_condition a)) attributes

abbrev pub remarked : Attr → List Attr → List Attr
remarked new attributes = map (λ a. if is_condition a then new else a) attributes

module _ {T : Type 0} (has : HasAttributes T) where
  abbrev pub marks_of : T → List Mark
  marks_of x = marks (has.attributes x)

  abbrev pub bare : T → T
  bare x = has.with_attributes (unmarked (has.attributes x)) x

  abbrev pub marked : Attr → T → T
  marked a x = has.with_attributes (remarked a (has.attributes x)) x

-- ---- what a list means under a choice

-- whether an item is true: its condition is, or it has none but `@else`
abbrev pub is_true : Choice → List Mark → Bool
is_true choice (if_mark x ∷ []) = holds choice x
is_true choice (elif_mark x ∷ []) = holds choice x
is_true choice _ = true

-- a chain means its first true item, without the condition, or nothing
abbrev pub first_true : {T : Type 0} → HasAttributes T → Choice → List T → List T
first_true has choice [] = []
first_true has choice (x ∷ xs) = if is_true choice (marks_of has x) then bare has x ∷ [] else first_true has choice xs

-- a list means what its chains mean
abbrev pub chosen : Choice → {T : Type 0} → HasAttributes T → List T → List T
chosen choice has items = flat_map (first_true has choice) (chains (marks_of has) items)

-- ---- what features leave of a list

-- what becomes of an item: it goes, it is true, or its condition is still open
pub data Standing : Type 0 where
  goes : Standing
  stays : Standing
  waits : Exp → Standing

abbrev pub standing_of : Exp → Standing
standing_of x = elim (known x) [ Some b ↦ (if b then stays else goes) | None ↦ waits x ]

abbrev pub standing : Features → List Mark → Standing
standing features (if_mark x ∷ []) = standing_of (simplified features x)
standing features (elif_mark x ∷ []) = standing_of (simplified features x)
standing features _ = stays

-- False items go. A true item ends its chain: it loses its condition, or has `@else` behind an open one. The first open item has `@if`,
-- later ones have `@elif`.
abbrev pub left_of_chain : {T : Type 0} → HasAttributes T → Features → Bool → List T → List T
left_of_chain has features waiting [] = []
left_of_chain has features waiting (x ∷ xs) =
    elim (standing features (marks_of has x)) [
      | goes ↦ left_of_chain has features waiting xs
      | stays ↦ (if waiting then marked has otherwise x else bare has x) ∷ []
      | waits e ↦ marked has (if waiting then else_if e else if_true e) x ∷ left_of_chain has features true xs
    ]

-- of a list what is left of its chains
abbrev pub left : Features → {T : Type 0} → HasAttributes T → List T → List T
left features has items = flat_map (left_of_chain has features false) (chains (marks_of has) items)
