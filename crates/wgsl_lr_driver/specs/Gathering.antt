-- The parts of a row, and the extent of a phrase that is made of others.
use Rattle.std.specs.Prelude.{◌≡◌, ℕ, zero, suc, max, ◌==◌, if◌then◌else◌, List, [], ◌∷◌, Option, Some, None}
use Rattle.wgsl_path.specs.Paths.{across}
use Rattle.wgsl_base.specs.Tops.{without_first}
use Rattle.wgsl_grammar_tables.specs.declared.shift_reduce.machine.Entry.{Entry}
use Rattle.wgsl_grammar_tables.specs.Machine.{popped}
use Rattle.wgsl_lr_driver.specs.declared.phrase.Failure.{Failure}
use Rattle.wgsl_lr_driver.specs.declared.phrase.Phrase.{Phrase}
use Rattle.wgsl_lr_driver.specs.declared.gather.Extent.{Extent}

abbrev pub either : Option Failure → Option Failure → Option Failure
either None other = other
either (Some f) other = Some f

module _ {P : Type 0} where
  abbrev pub extent_of : Phrase P → Extent
  extent_of x = record { span = x.span; last = x.last; failure = x.failure; depth = x.depth }

  -- the extent of what goes on with a phrase
  abbrev pub joined : Option Extent → Phrase P → Extent
  joined None x = extent_of x
  joined (Some e) x = record { span = across e.span x.span; last = x.last; failure = either e.failure x.failure; depth = max e.depth x.depth }

  -- from the first of some phrases to the last
  abbrev pub extent_from : Option Extent → List (Phrase P) → Option Extent
  extent_from e [] = e
  extent_from e (x ∷ xs) = extent_from (Some (joined e x)) xs

  abbrev pub part_first : P → List (Phrase P) → P
  part_first absent [] = absent
  part_first absent (x ∷ xs) = x.part

  -- the parts that a pattern chooses, where `absent` stands for what is left out
  abbrev pub chosen : P → List ℕ → List (Phrase P) → List P
  chosen absent [] xs = []
  chosen absent (c ∷ cs) xs =
      if c == 0 then absent ∷ chosen absent cs xs else if c == 1 then chosen absent cs (without_first xs) else part_first absent xs ∷ chosen absent cs (without_first xs)

  -- the extent of what begins with a phrase and goes on so
  abbrev pub begun : Phrase P → Option Extent → Extent
  begun x None = extent_of x
  begun x (Some e) = record { span = across x.span e.span; last = e.last; failure = either x.failure e.failure; depth = max x.depth e.depth }

  -- So many phrases were taken from a stack, in which the lowest of them still has its place: their extent, and the parts that a pattern
  -- chooses of them.
  pub record IsGathered (absent : P) (count : ℕ) (pattern : List ℕ) (old new : List (Entry (Phrase P))) (extent : Extent) (parts : List P) : Type 0 where
    pub values : List (Phrase P)
    pub taken : popped count old [] ≡ (without_first new, values)
    pub extents : Some extent ≡ extent_from None values
    pub chose : parts ≡ chosen absent pattern values

  -- the stack that phrases are left to be taken from: where none is left, it is what stands below the lowest of those that were taken
  abbrev pub below_taken : ℕ → List (Entry (Phrase P)) → List (Entry (Phrase P))
  below_taken zero es = without_first es
  below_taken (suc n) es = es

  -- Of so many phrases some are left to take, and the places at the end of a pattern were done.
  pub record Gathers (absent : P) (count : ℕ) (old : List (Entry (Phrase P))) (done : List ℕ) (left : ℕ) (new : List (Entry (Phrase P))) (extent : Option Extent) (parts : List P) : Type 0 where
    pub values : List (Phrase P)
    pub taken : popped left (below_taken left new) values ≡ popped count old []
    pub extents : extent ≡ extent_from None values
    pub chose : parts ≡ chosen absent done values

  -- One more place was done.
  abbrev pub Takes : P → ℕ → ℕ → ℕ → List (Entry (Phrase P)) → List (Entry (Phrase P)) → Option Extent → Option Extent → List P → List P → Type 0
  Takes absent place n m es fs from to before behind =
      (count : ℕ) (old : List (Entry (Phrase P))) (done : List ℕ) → Gathers absent count old done n es from before → Gathers absent count old (place ∷ done) m fs to behind
