-- What is reached in loaded modules, which modules are passed on the way, what is asked for, and what is refused.
use Rattle.std.specs.Prelude.{◌≡◌, ℕ, ◌<◌, List, Some, Bool, true, false, slice_get}
use Rattle.std.specs.List.{Contains}
use Rattle.std.specs.Ordering.{nat_cmp}
use Rattle.std.specs.Cmp.Lexicographic.{slice_cmp}
use Rattle.std.specs.declared.cmp.Ordering.TheVariants.{Less}
use Rattle.wesl_chains.specs.Outlines.{Name, Path, Symbol, Use, directive, assertion, Entry, Outline, Finder}
use Rattle.wesl_chains.specs.Chains.{Outcome, declared_at, unloaded, missing, private, Denotes}

-- at a place of a loaded module stands this directive or declaration
pub record IsAt (find : Finder) (m : Path) (k : ℕ) (o : Outline) (e : Entry) : Type 0 where
  pub is_module : find m ≡ Some o
  pub stands_there : slice_get o.entries k ≡ Some e

-- Where reaching begins: at each directive; at the declarations of the root that are kept; everywhere, if all begin.
pub data Begins (find : Finder) (root : Path) (kept : List Name) (all_begin : Bool) (m : Path) (k : ℕ) : Type 0 where
  a_directive : {o : Outline} {e : Entry} → IsAt find m k o e → e.kind ≡ directive → Begins find root kept all_begin m k
  a_kept_name : {o : Outline} {e : Entry} {x : Name} → IsAt find m k o e → m ≡ root → Contains kept x → e.name ≡ Some x → Begins find root kept all_begin m k
  any_place : {o : Outline} {e : Entry} → IsAt find m k o e → all_begin ≡ true → Begins find root kept all_begin m k

module _ (find : Finder) (root : Path) (kept : List Name) (all_begin : Bool) where
  mutual
    -- a place is reached by finitely many names that are used; the assertions of a module are, where a chain passes through it
    pub data Reached : Path → ℕ → Type 0 where
      begins : {m : Path} {k : ℕ} → Begins find root kept all_begin m k → Reached m k
      onward : {m n : Path} {k j : ℕ} {o : Outline} {e : Entry} {u : Use} {ps : List Path} → Reached m k → IsAt find m k o e → Contains e.uses u
          → Denotes find m o u ps (declared_at n j) → Reached n j
      asserted : {m : Path} {k : ℕ} {o : Outline} {e : Entry} → IsPassedThrough m → IsAt find m k o e → e.kind ≡ assertion → Reached m k

    -- the root is passed through, and each module that a finished chain passes
    pub data IsPassedThrough : Path → Type 0 where
      the_root : IsPassedThrough root
      by_chain : {m n p : Path} {k j : ℕ} {o : Outline} {e : Entry} {u : Use} {ps : List Path} → Reached m k → IsAt find m k o e → Contains e.uses u
          → Denotes find m o u ps (declared_at n j) → Contains ps p → IsPassedThrough p

  -- a module that is not loaded, to which a name leads that is used at a place that is reached
  pub record IsAsked (p : Path) : Type 0 where
    pub home : Path
    pub place : ℕ
    pub outline : Outline
    pub entry : Entry
    pub is_at : IsAt find home place outline entry
    pub reached : Reached home place
    pub occurring : Use
    pub used : Contains entry.uses occurring
    pub target : Symbol
    pub passed : List Path
    pub unfinished : Denotes find home outline occurring passed (unloaded target)
    pub is_home : target.home ≡ p

-- names that denote nothing
abbrev pub denotes_nothing : Outcome → Bool
denotes_nothing (declared_at n j) = false
denotes_nothing (unloaded s) = false
denotes_nothing (missing s) = true
denotes_nothing (private s) = true

-- at a place that is reached, the name that is used there as number `i` comes to nothing
pub record IsRefusedAt (find : Finder) (root : Path) (kept : List Name) (all_begin : Bool) (m : Path) (k i : ℕ) (r : Outcome) : Type 0 where
  pub outline : Outline
  pub entry : Entry
  pub is_at : IsAt find m k outline entry
  pub reached : Reached find root kept all_begin m k
  pub occurring : Use
  pub used : slice_get entry.uses i ≡ Some occurring
  pub passed : List Path
  pub comes : Denotes find m outline occurring passed r
  pub nothing : denotes_nothing r ≡ true

-- byte order of printed paths
abbrev pub IsBefore : Path → Path → Type 0
IsBefore p q = slice_cmp nat_cmp p q ≡ Less

-- what is used earlier: in a module whose printed path is earlier, then at an earlier place, then earlier in the text of that place
pub data StandsBefore (m : Path) (k i : ℕ) : Path → ℕ → ℕ → Type 0 where
  by_module : {n : Path} {j h : ℕ} → IsBefore m n → StandsBefore m k i n j h
  by_place : {j h : ℕ} → k < j → StandsBefore m k i m j h
  by_use : {h : ℕ} → i < h → StandsBefore m k i m k h
