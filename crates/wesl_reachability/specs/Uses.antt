-- What a place uses.
use Rattle.std.specs.Prelude.{ℕ, List, [], Option, Some, None, slice_get, Vec}
use Rattle.std.specs.declared.alloc.Global.{Global}
use Rattle.wesl_module_index.specs.declared.module.Module.{Module}

abbrev pub references_of : Option (Vec ℕ Global) → List ℕ
references_of None = []
references_of (Some uses) = uses.items

-- the references of a place of a module
abbrev pub uses_in : Option Module → ℕ → List ℕ
uses_in None k = []
uses_in (Some one) k = references_of (slice_get one.uses.items k)
