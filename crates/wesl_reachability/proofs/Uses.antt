-- The references of a place are followed.
use Rattle.std.proofs.Common.{◌≡◌, sym, subst, Some, Bool}
use Rattle.std.specs.Prelude.{slice_get}
use Rattle.std.specs.List.{Contains}
use Rattle.wesl_module_index.specs.declared.modules.Modules.{Modules}
use Rattle.wesl_module_index.specs.declared.modules.DeclarationId.{DeclarationId}
use Rattle.wesl_reachability.specs.Cells.{Rows}
use Rattle.wesl_reachability.specs.Uses.{references_of, uses_in}
use Rattle.wesl_reachability.specs.Closing.{AreFollowed, IsFollowed}

pub is_followed : (ms : Modules) (flags : Rows Bool) (spot : DeclarationId) → AreFollowed flags spot.«module» (uses_in (slice_get ms.list.items spot.«module») spot.place) → IsFollowed ms flags spot
is_followed ms flags spot a one uses is are r c room = a r (subst (λ o. Contains (uses_in o spot.place) r) (sym is) (subst (λ o. Contains (references_of o) r) (sym are) c)) room
