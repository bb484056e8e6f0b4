use Rattle.std.proofs.Common.{◌≡◌, ◌++◌, take}
use Rattle.wesl_resolve.specs.Mangling.{mangled_origin, escaped_parts}
use Rattle.wesl_resolve.proofs.mangle.push_path.Given as goal

abbrev pub invariant-loop-component : goal.invariant-loop-component
invariant-loop-component l = l.name ≡ l.fn.name ++ mangled_origin l.path.origin ++ escaped_parts (take l.component-index l.component-items)
