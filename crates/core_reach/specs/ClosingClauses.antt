-- What the functions of a closing say, in terms of what they are given.
use Rattle.std.specs.Prelude.{◌≡◌, Bool, true, false, [], Some, if◌then◌else◌, string_bytes, slice_get}
use Rattle.std.specs.Str.{bytes_eq}
use Rattle.core_syntax.specs.Tree.{Decl}
use Rattle.core_syntax.specs.View.{unit_tree}
use Rattle.core_syntax.specs.Names.{declared_name}
use Rattle.wesl_resolve.specs.Mangling.{mangled}
use Rattle.core_link_spec.specs.Occurrences.{Name}
use Rattle.core_link_spec.specs.Modules.{Path, Symbol}
use Rattle.core_scopes.specs.declared.error.ImportError.{ImportError}
use Rattle.core_scopes.specs.declared.denote.Symbol.{Symbol as Place}
use Rattle.core_scopes.specs.Outcomes.{loaded}
use Rattle.core_reach.specs.declared.linking.Linking.{Linking}
use Rattle.core_reach.specs.declared.closing.Found.{Found}
use Rattle.core_reach.specs.Closing.{HeldNames}
use Rattle.core_reach.specs.Stages.{AskedNames, asks, stage}
use Rattle.core_reach.specs.Following.{Stage, IsFollowed, AllFollowed}
use Rattle.core_reach.specs.Resolved.{LoadedModules, IsKeyed}
use Rattle.core_reach.specs.Closed.{IsClosed, IsLoadedOn, RefusesClosing, RefusesRoot}
use Rattle.core_reach.specs.Underway.{IsConsistent, IsUnderway, IsFinished}

-- the stage of a closing: what is held, and what was found so far
abbrev pub found_stage : HeldNames → Found → Stage
found_stage held found = stage held (asks found.asked) found.is_missing found.reached.items

abbrev pub IsInOrder : Linking → HeldNames → Found → Type 0
IsInOrder l held found = IsConsistent l held found.asked

abbrev pub IsFoundUnderway : Linking → HeldNames → Found → Type 0
IsFoundUnderway l held found = IsUnderway l held found.asked found.is_missing found.reached.items

abbrev pub IsFoundFinished : Linking → HeldNames → Found → Type 0
IsFoundFinished l held found = IsFinished l held found.asked found.is_missing found.reached.items

abbrev pub ClosesOn : Linking → HeldNames → AskedNames → Type 0
ClosesOn l held asked = IsClosed l.modules.now l.root.now l.keep.now held asked

abbrev pub RefusesOn : Linking → HeldNames → ImportError → Type 0
RefusesOn l held e = RefusesClosing l.modules.now l.root.now l.keep.now held e

abbrev pub RefusesRootOn : Linking → HeldNames → ImportError → Type 0
RefusesRootOn l held e = RefusesRoot l.modules.now l.root.now l.keep.now held e

-- this holds where a round was closed and what it asked for is loaded now
abbrev pub AfterLoading : LoadedModules → Linking → HeldNames → AskedNames → Type 0 → Type 0
AfterLoading old l held asked Says = IsKeyed l.modules.now → IsClosed old l.root.now l.keep.now held asked → IsLoadedOn old asked l.modules.now → Says

-- all that is held is followed, and nothing is missing
abbrev pub AllFollowedOn : Linking → HeldNames → AskedNames → Type 0
AllFollowedOn l held asked = AllFollowed (loaded l.modules.now) (stage held (asks asked) false [])

abbrev pub IsFollowedAt : Linking → Stage → Place → Type 0
IsFollowedAt l s place = IsFollowed (loaded l.modules.now) s (string_bytes place.«module».now.printed_path) place.place

-- the printed name of a declaration: the root's names stay
abbrev pub NamesPlace : Path → Place → Name → Type 0
NamesPlace root s name = (d : Decl) → slice_get (unit_tree s.«module».now.unit).declarations s.place ≡ Some d
    → name ≡ (if bytes_eq (string_bytes s.«module».now.printed_path) root then declared_name d else mangled s.«module».now.path (declared_name d))

-- what was asked for, and this item
abbrev pub asks_too : Path → Name → AskedNames → Symbol → Bool
asks_too path item asked s = if bytes_eq path s.home then (if bytes_eq item s.name then true else asks asked s) else asks asked s
