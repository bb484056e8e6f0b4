-- Faults of texts, as a resolver tells them.
use Rattle.std.specs.Prelude.{◌≡◌, ⊤, None}
use Rattle.wgsl_path.specs.declared.path.ModulePath.{ModulePath}
use Rattle.wgsl_token.specs.declared.fault.error.Error.{Error}
use Rattle.wgsl_token.specs.Errors.{refusal_of}
use Rattle.wesl_resolvers.specs.declared.error.ResolveError.{ResolveError}
use Rattle.wesl_resolvers.specs.declared.error.ResolveError.TheVariants.{ModuleNotFound, Syntax, GaveUp, Condition, ConditionLeft, OutOfMemory}

-- the fault, of the module at the path; or the parser gave up, or memory was refused
abbrev pub RefusedAs : ModulePath → Error → ResolveError → Type 0
RefusedAs path e (Syntax p f) = (p ≡ path) × (f ≡ e) × (refusal_of e ≡ None)
RefusedAs path e (GaveUp p r) = p ≡ path
RefusedAs path e OutOfMemory = ⊤
RefusedAs path e (ModuleNotFound p) = ⊥
RefusedAs path e (Condition p f) = ⊥
RefusedAs path e (ConditionLeft p) = ⊥
