-- Refusals that are told of another path.
use Rattle.std.specs.Prelude.{◌≡◌, ◌⊎◌}
use Rattle.wgsl_path.specs.declared.path.ModulePath.{ModulePath}
use Rattle.wesl_resolvers.specs.declared.error.ResolveError.{ResolveError}
use Rattle.wesl_resolvers.specs.declared.error.ResolveError.TheVariants.{ModuleNotFound, Syntax, GaveUp, Condition, ConditionLeft, OutOfMemory}

-- the same refusal, of this path
abbrev pub told_at : ModulePath → ResolveError → ResolveError
told_at path (ModuleNotFound p) = ModuleNotFound path
told_at path (Syntax p e) = Syntax path e
told_at path (GaveUp p r) = GaveUp path r
told_at path (Condition p e) = Condition path e
told_at path (ConditionLeft p) = ConditionLeft path
told_at path OutOfMemory = OutOfMemory

-- that, or memory was refused
abbrev pub ToldOf : ModulePath → ResolveError → ResolveError → Type 0
ToldOf path e told = (told ≡ told_at path e) ⊎ (told ≡ OutOfMemory)

abbrev pub NotFoundAt : ModulePath → ResolveError → Type 0
NotFoundAt path told = (told ≡ ModuleNotFound path) ⊎ (told ≡ OutOfMemory)
