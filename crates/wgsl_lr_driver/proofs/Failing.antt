-- The first of failures.
use Rattle.std.proofs.Common.{◌≡◌, refl, Option, Some, None}
use Rattle.wgsl_lr_driver.specs.declared.phrase.Failure.{Failure}
use Rattle.wgsl_lr_driver.specs.Gathering.{either}

pub either_either : (a b c : Option Failure) → either (either a b) c ≡ either a (either b c)
either_either None b c = refl
either_either (Some f) b c = refl

pub either_none : (a : Option Failure) → either a None ≡ a
either_none None = refl
either_none (Some f) = refl
