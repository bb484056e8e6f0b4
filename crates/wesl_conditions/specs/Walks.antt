-- Lists of items walked through from left to right, with what is known of the chain so far. What is found so is what `Chains` and
-- `Faults` say of the chains as a whole.
use Rattle.std.specs.Prelude.{◌≡◌, List, [], ◌∷◌, Bool, true, false, ◌&&◌, cond, Option, Some, None, if◌then◌else◌}
use Rattle.std.specs.Option.{option_or}
use Rattle.wgsl_expressions.specs.AttributesTree.{Attr, if_true, else_if, otherwise}
use Rattle.wesl_conditions.specs.declared.features.feature.Features.{Features}
use Rattle.wesl_conditions.specs.declared.features.error.CondCompError.{CondCompError}
use Rattle.wesl_conditions.specs.declared.meaning.chain.Chain.{Chain}
use Rattle.wesl_conditions.specs.Chains.{Mark, marks, marks_of, opens, continues, unmarked, remarked, HasAttributes, Standing, goes, stays, waits, standing}
use Rattle.wesl_conditions.specs.Seen.{item_fault, Seen}

-- before any item
abbrev pub start : Chain
start = record { is_open = false; is_waiting = false; is_decided = false }

-- whether an item goes on with the chain before it
abbrev pub goes_on : Chain → List Mark → Bool
goes_on chain ms = chain.is_open && continues ms

-- the chain that an item belongs to, as far as it is known before the item
abbrev pub chain_at : Chain → List Mark → Chain
chain_at chain ms = if goes_on chain ms then chain else start

-- an item behind a true one goes
abbrev pub standing_in : Features → Chain → List Mark → Standing
standing_in features chain ms = if (chain_at chain ms).is_decided then goes else standing features ms

abbrev pub behind_standing : Bool → Chain → Standing → Chain
behind_standing more chain goes = record { is_open = more; is_waiting = chain.is_waiting; is_decided = chain.is_decided }
behind_standing more chain stays = record { is_open = more; is_waiting = chain.is_waiting; is_decided = true }
behind_standing more chain (waits e) = record { is_open = more; is_waiting = true; is_decided = chain.is_decided }

-- what is known behind an item
abbrev pub behind : Features → Chain → List Mark → Chain
behind features chain ms = behind_standing (opens ms) (chain_at chain ms) (standing_in features chain ms)

abbrev pub is_left : Standing → Bool
is_left goes = false
is_left stays = true
is_left (waits e) = true

-- the attributes with which an item is left
abbrev pub attributes_with : Bool → Standing → List Attr → List Attr
attributes_with waiting goes attributes = attributes
attributes_with waiting stays attributes = if waiting then remarked otherwise attributes else unmarked attributes
attributes_with waiting (waits e) attributes = remarked (if waiting then else_if e else if_true e) attributes

abbrev pub attributes_left : Features → Chain → List Attr → List Attr
attributes_left features chain attributes =
    attributes_with (chain_at chain (marks attributes)).is_waiting (standing_in features chain (marks attributes)) attributes

-- what is left of a list, from a chain on
abbrev pub settled : Features → {T : Type 0} → HasAttributes T → Chain → List T → List T
settled features has chain [] = []
settled features has chain (x ∷ xs) =
    cond (is_left (standing_in features chain (marks_of has x)))
    (has.with_attributes (attributes_left features chain (has.attributes x)) x ∷ settled features has (behind features chain (marks_of has x)) xs)
    (settled features has (behind features chain (marks_of has x)) xs)

abbrev pub inside_of : Standing → Seen → Option CondCompError
inside_of goes x = None
inside_of stays x = x.inside
inside_of (waits e) x = x.inside

-- the first error of a list, from a chain on, where this was the first inside the chain's items that stay
abbrev pub checked : Features → Chain → Option CondCompError → List Seen → Option CondCompError
checked features chain inside [] = inside
checked features chain inside (x ∷ xs) =
    if goes_on chain x.conditions
    then option_or (item_fault features false x.conditions)
    (checked features (behind features chain x.conditions) (option_or inside (inside_of (standing_in features chain x.conditions) x)) xs)
    else option_or inside (option_or (item_fault features true x.conditions)
    (checked features (behind features chain x.conditions) (inside_of (standing_in features chain x.conditions) x) xs))

-- What becomes of an item, or of a `;`, which is none: whether it is kept, the chain behind it, and what is left of it.
abbrev pub Settles : Features → {T : Type 0} → HasAttributes T → Chain → Option T → Bool → Chain → Option T → Type 0
Settles features has chain None kept after new = (kept ≡ true) × (after ≡ chain) × (new ≡ None)
Settles features has chain (Some x) kept after new =
    (kept ≡ is_left (standing_in features chain (marks_of has x))) × (after ≡ behind features chain (marks_of has x))
    × (new ≡ Some (has.with_attributes (attributes_left features chain (has.attributes x)) x))
