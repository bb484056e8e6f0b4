-- What an error says where memory's own says nothing.
use Rattle.std.specs.Prelude.{⊤}
use Rattle.wgsl_base.specs.declared.items.error.OrOutOfMemory.{OrOutOfMemory}
use Rattle.wgsl_base.specs.declared.items.error.OrOutOfMemory.TheVariants.{Error, OutOfMemory}

-- this of the error, unless memory was refused
abbrev pub UnlessOutOfMemory : {E : Type 0} → (E → Type 0) → OrOutOfMemory E → Type 0
UnlessOutOfMemory P (Error e) = P e
UnlessOutOfMemory P OutOfMemory = ⊤
