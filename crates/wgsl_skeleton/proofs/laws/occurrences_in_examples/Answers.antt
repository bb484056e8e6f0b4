use Rattle.std.proofs.Common.{◌≡◌, refl, ap, ℕ, arith}
use Rattle.wgsl_skeleton.specs.Skeleton.{Node, occurrence, Nodes, nil, cons}
use Rattle.wgsl_skeleton.proofs.laws.occurrences_in_examples.Goals as goal

pub returns-clause-header : goal.returns-clause-header
returns-clause-header c = refl

pub returns-clause-continuing : goal.returns-clause-continuing
returns-clause-continuing c = refl

pub returns-clause-block : goal.returns-clause-block
returns-clause-block c = refl

pub returns-clause-attributes : goal.returns-clause-attributes
returns-clause-attributes c = refl

pub returns-clause-body : goal.returns-clause-body
returns-clause-body c = refl

-- how many nodes stand in a list, and below an occurrence
abbrev count : Nodes → ℕ
count nil = 0
count (cons n rest) = 1

abbrev arguments_of : Node → ℕ
arguments_of (occurrence path x arguments) = count arguments
arguments_of n = 0

pub returns-clause-lists : goal.returns-clause-lists
returns-clause-lists c e = apart (ap arguments_of e)
  where
    apart : ◌≡◌ {A = ℕ} 0 1 → ⊥
    apart h = omega arith
