use Rattle.std.proofs.Common.{◌≡◌, ◌++◌, map}
use Rattle.core_link.proofs.rounds.Resolutions.paths.Given as goal

-- the paths of the modules so far, and those that are left
abbrev pub invariant-loop-module : goal.invariant-loop-module
invariant-loop-module l = map (λ p. p.now) l.paths.items ++ map (λ e. e.1.path) l.module-iterator ≡ map (λ e. e.1.path) l.self.modules.entries
