use Rattle.std.proofs.Common.{◌≡◌, ◌++◌}
use Rattle.wesl_resolve.specs.Mangling.{more_supers}
use Rattle.wesl_resolve.proofs.mangle.push_supers.Given as goal

abbrev pub invariant-loop-level : goal.invariant-loop-level
invariant-loop-level l = l.name ≡ l.initial.name ++ more_supers l._level
