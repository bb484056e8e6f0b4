-- What the chains of the examples come to.
use Rattle.std.specs.Prelude.{◌∷◌, [], Some, None, codes, false}
use Rattle.std.specs.List.{Contains}
use Rattle.std.proofs.Common.{refl, arith}
use Rattle.wesl_chains.specs.Outlines.{Path, Symbol, Use, Entry, other, assertion}
use Rattle.wesl_chains.specs.Chains.{declared_at, here, onto, Loops, comes_to, is_endless, Denotes, by_item}
use Rattle.wesl_chains.specs.Reaching.{IsAt, Reached, IsPassedThrough, begins, a_kept_name, onward, asserted, by_chain}
use Rattle.wesl_chains.specs.Examples.{entry_of, plain, root_outline, m_outline, two, three, ring, kept, ReexportExample, RingExample, PassedExample, AskedExample}

abbrev root : Path
root = codes "package"

abbrev m : Path
m = codes "package::m"

abbrev n : Path
n = codes "package::n"

abbrev use_x : Use
use_x = plain (codes "x")

abbrev a_entry : Entry
a_entry = entry_of other (Some (codes "a")) (use_x ∷ [])

abbrev x_in : Path → Symbol
x_in home = record { home = home; name = codes "x" }

used : Contains a_entry.uses use_x
used = (0, omega arith, refl)

-- ---- all are loaded

pub reexport : ReexportExample
reexport = comes_to {t = x_in n} {ps = m ∷ []} {more = n ∷ []} (onto refl here) refl

at_root : IsAt three root 0 root_outline a_entry
at_root = record { is_module = refl; stands_there = refl }

at_m : IsAt three m 0 m_outline (entry_of assertion None [])
at_m = record { is_module = refl; stands_there = refl }

a_reached : Reached three root kept false root 0
a_reached = begins (a_kept_name at_root refl (0, omega arith, refl) refl)

denotes_x : Denotes three root root_outline use_x (m ∷ n ∷ []) (declared_at n 0)
denotes_x = by_item {s = x_in m} refl reexport

m_passed : IsPassedThrough three root kept false m
m_passed = by_chain a_reached at_root used denotes_x (0, omega arith, refl)

pub passed : PassedExample
passed = (m_passed, asserted m_passed at_m refl, onward a_reached at_root used denotes_x)

-- ---- one is not

at_root_of_two : IsAt two root 0 root_outline a_entry
at_root_of_two = record { is_module = refl; stands_there = refl }

pub asked : AskedExample
asked = record {
  home = root;
  place = 0;
  outline = root_outline;
  entry = a_entry;
  is_at = at_root_of_two;
  reached = begins (a_kept_name at_root_of_two refl (0, omega arith, refl) refl);
  occurring = use_x;
  used = used;
  target = x_in n;
  passed = m ∷ [];
  unfinished = by_item {s = x_in m} refl (comes_to {t = x_in n} {ps = m ∷ []} {more = []} (onto refl here) refl);
  is_home = refl;
}

-- ---- a ring

at_root_of_ring : IsAt ring root 0 root_outline a_entry
at_root_of_ring = record { is_module = refl; stands_there = refl }

ring_loops : Loops ring (x_in m)
ring_loops = record { there = x_in m; before = []; onward = here; first = m; more = n ∷ []; back = onto refl (onto refl here) }

pub refused : RingExample
refused = (
  is_endless ring_loops,
  record {
    outline = root_outline;
    entry = a_entry;
    is_at = at_root_of_ring;
    reached = begins (a_kept_name at_root_of_ring refl (0, omega arith, refl) refl);
    occurring = use_x;
    used = refl;
    passed = [];
    comes = by_item {s = x_in m} refl (is_endless ring_loops);
    nothing = refl;
  },
)
