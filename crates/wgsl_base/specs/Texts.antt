-- The bytes of a text, in place or on the heap.
use Rattle.std.specs.Prelude.{ℕ, List, string_bytes}
use Rattle.wgsl_base.specs.declared.items.text.Storage.{Storage}
use Rattle.wgsl_base.specs.declared.items.text.Storage.TheVariants.{Short, Long}

abbrev pub storage_bytes : Storage → List ℕ
storage_bytes (Short text _) = text.bytes
storage_bytes (Long text) = string_bytes text
