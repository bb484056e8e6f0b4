use Rattle.std.proofs.Common.{◌≡◌, drop}
use Rattle.wgsl_instance.specs.Parts.{ends_in_component, ends_after}
use Rattle.wgsl_instance.proofs.part.ends_in_component.Given as goal

abbrev pub invariant-loop-step : goal.invariant-loop-step
invariant-loop-step l = ends_in_component l.path ≡ ends_after l.ends (drop l.step-index l.path)
