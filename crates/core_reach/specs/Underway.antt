-- What holds while a closing goes on.
use Rattle.std.specs.Prelude.{◌≡◌, ◌⊎◌, ℕ, List, Some, Bool, true, string_bytes, slice_get}
use Rattle.std.specs.List.{Contains}
use Rattle.std.specs.BTreeMap.{get_by_text}
use Rattle.std.specs.BTreeSet.{BTreeSet}
use Rattle.std.specs.declared.string.String.{String}
use Rattle.std.specs.declared.alloc.Global.{Global}
use Rattle.core_syntax.specs.Tree.{Decl}
use Rattle.core_syntax.specs.View.{unit_tree}
use Rattle.core_link_spec.specs.Occurrences.{Name}
use Rattle.core_link_spec.specs.Modules.{Path, Symbol}
use Rattle.core_link_spec.specs.Rounds.{missing_decl}
use Rattle.core_scopes.specs.declared.error.ImportError.{ImportError}
use Rattle.core_scopes.specs.declared.error.ImportError.TheVariants.{OutOfMemory}
use Rattle.core_scopes.specs.declared.module.Module.{Module}
use Rattle.core_scopes.specs.declared.denote.Symbol.{Symbol as Place}
use Rattle.core_scopes.specs.Outcomes.{symbol_at, item_at, loaded}
use Rattle.core_reach.specs.declared.linking.Linking.{Linking}
use Rattle.core_reach.specs.Reach.{KeepsAll}
use Rattle.core_reach.specs.Following.{Stage, Handled, FollowedTo, AllFollowed}
use Rattle.core_reach.specs.Stages.{AskedNames, asks, stage}
use Rattle.core_reach.specs.Closing.{HeldNames, held_at, LeadsTo, AllReached, IsSound}
use Rattle.core_reach.specs.Missing.{refusal_of}
use Rattle.core_reach.specs.Resolved.{LoadedModules, IsKeyed}
use Rattle.core_reach.specs.Closed.{AreNamed, AreAskedByName, AreAskedByImport, IsAskedAt}

-- a declaration of a module that stands under its own printed path
pub record IsPlaced (ms : LoadedModules) (s : Place) : Type 0 where
  pub home : get_by_text ms (string_bytes s.«module».now.printed_path) ≡ Some s.«module».now
  pub declaration : Decl
  pub stands : slice_get (unit_tree s.«module».now.unit).declarations s.place ≡ Some declaration

-- what is held has its printed name
abbrev pub NamesAll : Linking → HeldNames → Type 0
NamesAll l held = AreNamed l.modules.now l.root.now (held_at held)

-- what is held has its printed name, and what is asked for occurs in what is reached, is not loaded, and is named by an import
pub record IsConsistent (l : Linking) (held : HeldNames) (asked : AskedNames) : Type 0 where
  pub named : NamesAll l held
  pub asked_at : (s : Symbol) → asks asked s ≡ true → IsAskedAt (loaded l.modules.now) l.root.now l.keep.now s
  pub by_name : AreAskedByName asked
  pub by_import : AreAskedByImport l.modules.now asked

-- what a closing goes on from: what was reached in this round is still to be followed
pub record IsUnderway (l : Linking) (held : HeldNames) (asked : AskedNames) (missing : Bool) (reached : List Place) : Type 0 where
  pub keyed : IsKeyed l.modules.now
  pub sound : IsSound l held reached
  pub in_order : IsConsistent l held asked
  pub kept : KeepsAll (loaded l.modules.now) l.root.now l.keep.now (held_at held)
  pub followed : FollowedTo (loaded l.modules.now) (stage held (asks asked) missing reached) 0

-- what it comes to: all that is held is followed
pub record IsFinished (l : Linking) (held : HeldNames) (asked : AskedNames) (missing : Bool) (reached : List Place) : Type 0 where
  pub sound : AllReached l held
  pub in_order : IsConsistent l held asked
  pub kept : KeepsAll (loaded l.modules.now) l.root.now l.keep.now (held_at held)
  pub followed : AllFollowed (loaded l.modules.now) (stage held (asks asked) missing reached)

-- where an item is declared, it is reached
abbrev pub LeadsOn : Linking → Path → Name → Type 0
LeadsOn l home x = (m : Path) (place : ℕ) → item_at (record { home = home; name = x }) (loaded l.modules.now home) ≡ symbol_at m place → LeadsTo l m place

-- an item that is sought in a loaded module is held, or it is noted that it is missing
abbrev pub IsSought : Linking → Stage → Path → Name → Type 0
IsSought l s home x = (m : Module) → get_by_text l.modules.now home ≡ Some m → Handled s (item_at (record { home = home; name = x }) (loaded l.modules.now home))

abbrev pub EachName : (Name → Type 0) → BTreeSet (String Global) → Type 0
EachName P names = (k : String Global) → Contains names.keys k → P (string_bytes k)

-- why a kept name is not reached, memory aside: the root doesn't declare it
abbrev pub LacksKept : Linking → Path → Name → ImportError → Type 0
LacksKept l path x e =
    (e ≡ OutOfMemory)
    ⊎ ((refusal_of e ≡ Some (missing_decl path x)) × ((m : Path) (place : ℕ) → item_at (record { home = l.root.now; name = x }) (loaded l.modules.now l.root.now) ≡ symbol_at m place → ⊥))
