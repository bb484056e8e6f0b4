use Rattle.std.proofs.Common.{◌≡◌, ◌++◌, take}
use Rattle.wgsl_path.specs.Paths.{origin_text, components_text}
use Rattle.weslc_workspace.proofs.printed.behind_path.Given as goal

abbrev pub invariant-loop-component : goal.invariant-loop-component
invariant-loop-component l = l.fn.text ≡ (origin_text l.path.origin ++ components_text (take l.component-index l.component-items)) ++ l.rest
