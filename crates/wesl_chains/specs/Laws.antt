-- Laws of chains and of what is reached.
use Rattle.std.specs.Prelude.{◌≡◌, ◌<◌, List, length, Bool}
use Rattle.std.specs.List.{Contains}
use Rattle.wesl_chains.specs.Outlines.{Name, Path, Symbol, Use, Outline, Finder}
use Rattle.wesl_chains.specs.Chains.{next, leads, Outcome, Leads, Loops, Ends, Denotes}
use Rattle.wesl_chains.specs.Closings.{Stage, Handled, IsClosed, HoldsAll, Extends, Grows, SeeksAsked}

-- a chain comes to one thing, by the same modules
abbrev pub EndsAreOne : Type 0
EndsAreOne = (find : Finder) (s : Symbol) (ps qs : List Path) (r t : Outcome) → Ends find s ps r → Ends find s qs t → (ps ≡ qs) × (r ≡ t)

-- a name denotes one thing
abbrev pub DenotesIsOne : Type 0
DenotesIsOne = (find : Finder) (m : Path) (o : Outline) (u : Use) (ps qs : List Path) (r t : Outcome) → Denotes find m o u ps r → Denotes find m o u qs t → (ps ≡ qs) × (r ≡ t)

-- these are all the symbols to which imports lead
abbrev pub AreTargets : Finder → List Symbol → Type 0
AreTargets find targets = (s t : Symbol) → next find s ≡ leads t → Contains targets t

-- a chain that is longer than they are many never ends
abbrev pub LongChainsLoop : Type 0
LongChainsLoop = (find : Finder) (targets : List Symbol) → AreTargets find targets → (s t : Symbol) (ps : List Path) → Leads find s ps t → length targets < length ps → Loops find s

-- each chain comes to something
abbrev pub ChainsEnd : Type 0
ChainsEnd = (find : Finder) (targets : List Symbol) → AreTargets find targets → (s : Symbol) → (ps : List Path) × (r : Outcome) × Ends find s ps r

-- a search that is done holds all that is reached
abbrev pub ClosedHoldsAll : Type 0
ClosedHoldsAll = (find : Finder) (root : Path) (kept : List Name) (all_begin : Bool) (st : Stage) → IsClosed find root kept all_begin st → HoldsAll find root kept all_begin st

-- Names that were handled stay so when more modules are loaded, nothing is forgotten, and what was asked for is sought on: chains that
-- were pending and end now, that wait on, and that turn out to be endless.
abbrev pub HandledOnward : Type 0
HandledOnward = (before after : Finder) → Extends before after → (old new : Stage) → Grows old new → SeeksAsked after old new
    → (m : Path) (o : Outline) (u : Use) → Handled before old m o u → Handled after new m o u
