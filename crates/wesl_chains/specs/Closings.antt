-- What a search for all that is reached knows, and when it is done.
use Rattle.std.specs.Prelude.{◌≡◌, ℕ, List, Some, Bool, true}
use Rattle.std.specs.List.{Contains}
use Rattle.wesl_chains.specs.Outlines.{Name, Path, Symbol, Use, assertion, Entry, Outline, Finder}
use Rattle.wesl_chains.specs.Chains.{Outcome, declared_at, unloaded, missing, private, Ends, Denotes}
use Rattle.wesl_chains.specs.Reaching.{IsAt, Begins, Reached, IsPassedThrough}

-- what is held, which modules were passed through, which symbols of modules that are not loaded are asked for, each with the modules that
-- chains to it passed, and whether some name denotes nothing
pub record Stage : Type 0 where
  pub held : Path → ℕ → Bool
  pub passed : Path → Bool
  pub asked : Symbol → Bool
  pub pending : Symbol → Path → Bool
  pub lacks_some : Bool

-- a chain by these modules has come to this, and the stage knows
abbrev pub Arrives : Stage → List Path → Outcome → Type 0
Arrives st ps (declared_at n j) = (st.held n j ≡ true) × ((q : Path) → Contains ps q → st.passed q ≡ true)
Arrives st ps (unloaded t) = (st.asked t ≡ true) × ((q : Path) → Contains ps q → st.pending t q ≡ true)
Arrives st ps (missing t) = st.lacks_some ≡ true
Arrives st ps (private t) = st.lacks_some ≡ true

-- a name that a module uses was looked up, and the stage knows what came of it
abbrev pub Handled : Finder → Stage → Path → Outline → Use → Type 0
Handled find st m o u = (ps : List Path) (r : Outcome) → Denotes find m o u ps r → Arrives st ps r

module _ (find : Finder) (root : Path) (kept : List Name) (all_begin : Bool) (st : Stage) where
  -- the search is done
  pub record IsClosed : Type 0 where
    pub begun : (m : Path) (k : ℕ) → Begins find root kept all_begin m k → st.held m k ≡ true
    pub rooted : st.passed root ≡ true
    pub asserting : (m : Path) (k : ℕ) (o : Outline) (e : Entry) → st.passed m ≡ true → IsAt find m k o e → e.kind ≡ assertion → st.held m k ≡ true
    pub followed : (m : Path) (k : ℕ) (o : Outline) (e : Entry) (u : Use) → st.held m k ≡ true → IsAt find m k o e → Contains e.uses u → Handled find st m o u

  -- it holds all that is reached
  pub record HoldsAll : Type 0 where
    pub holds : (m : Path) (k : ℕ) → Reached find root kept all_begin m k → st.held m k ≡ true
    pub passes : (m : Path) → IsPassedThrough find root kept all_begin m → st.passed m ≡ true

-- ---- rounds

-- more modules are loaded: those that were stay as they are
abbrev pub Extends : Finder → Finder → Type 0
Extends old new = (m : Path) (o : Outline) → old m ≡ Some o → new m ≡ Some o

-- nothing is forgotten, but what was asked for
pub record Grows (old new : Stage) : Type 0 where
  pub held : (m : Path) (k : ℕ) → old.held m k ≡ true → new.held m k ≡ true
  pub passed : (m : Path) → old.passed m ≡ true → new.passed m ≡ true
  pub lacks_some : old.lacks_some ≡ true → new.lacks_some ≡ true

-- what a chain that was pending has come to, with the modules that were passed before
abbrev pub ArrivesFrom : Stage → Symbol → Stage → List Path → Outcome → Type 0
ArrivesFrom old s new ps (declared_at n j) = (new.held n j ≡ true) × ((q : Path) → Contains ps q → new.passed q ≡ true) × ((q : Path) → old.pending s q ≡ true → new.passed q ≡ true)
ArrivesFrom old s new ps (unloaded t) = (new.asked t ≡ true) × ((q : Path) → Contains ps q → new.pending t q ≡ true) × ((q : Path) → old.pending s q ≡ true → new.pending t q ≡ true)
ArrivesFrom old s new ps (missing t) = new.lacks_some ≡ true
ArrivesFrom old s new ps (private t) = new.lacks_some ≡ true

-- all that was asked for is sought in the modules that are loaded now
abbrev pub SeeksAsked : Finder → Stage → Stage → Type 0
SeeksAsked find old new = (s : Symbol) → old.asked s ≡ true → (ps : List Path) (r : Outcome) → Ends find s ps r → ArrivesFrom old s new ps r
