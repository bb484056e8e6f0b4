use Rattle.std.proofs.Common.{◌≡◌, ◌++◌, map}
use Rattle.weslc_errors.specs.Stored.{path_and_text, texts_added}
use Rattle.weslc_errors.proofs.resolver.VirtualResolver.modules.Given as goal

-- what was listed, and what is left
abbrev pub invariant-loop-module : goal.invariant-loop-module
invariant-loop-module l = map (λ m. (m.0.now, m.1.now)) l.modules.items ++ map path_and_text l.module-iterator ≡ texts_added l.self
