-- What comes of a module whose conditions are decided.
use Rattle.std.proofs.Common.{◌≡◌, refl, sym, ap, ◌∙◌, Bool, true, false, ◌⊎◌, inl, inr, Option, Some, None}
use Rattle.wgsl_declarations.specs.Tree.{UnitTree}
use Rattle.wesl_conditions.specs.declared.features.error.CondCompError.{CondCompError}
use Rattle.wesl_resolvers.specs.Found.{Answer, unit_of, conditioned, left_open}
use Rattle.wesl_cond_left.specs.Open.{unit_open}
use Rattle.wesl_preprocess.specs.Conditions.{left_whole, decided_by}

pub whole : (fault : Option CondCompError) (left new : UnitTree) → fault ≡ None → new ≡ left → unit_open new ≡ false → decided_by fault left ≡ unit_of new
whole fault left new none is closed = rw (none, sym is, closed) refl

pub left_there : (fault : Option CondCompError) (left new : UnitTree) → fault ≡ None → new ≡ left → unit_open new ≡ true → decided_by fault left ≡ left_open
left_there fault left new none is there = rw (none, sym is, there) refl

pub faulty : (fault : Option CondCompError) (left : UnitTree) (e : CondCompError) → fault ≡ Some e → decided_by fault left ≡ conditioned e
faulty fault left e is = rw is refl
