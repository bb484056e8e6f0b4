-- Modules that are stored by their printed paths.
use Rattle.std.specs.Prelude.{◌≡◌, ℕ, List, Some, slice_get, string_bytes}
use Rattle.std.specs.declared.string.String.{String}
use Rattle.std.specs.declared.alloc.Global.{Global}
use Rattle.wgsl_path.specs.Paths.{path_text}
use Rattle.wesl_virtual_resolver.specs.declared.resolver.VirtualModule.{VirtualModule}

-- each stands under its own printed path
abbrev pub AreKeyed : List (String Global × VirtualModule) → Type 0
AreKeyed entries = (i : ℕ) (key : String Global) (m : VirtualModule) → slice_get entries i ≡ Some (key, m) → string_bytes key ≡ path_text m.path
