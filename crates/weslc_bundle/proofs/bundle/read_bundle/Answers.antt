use Rattle.std.proofs.Common.{refl}
use Rattle.std.proofs.lemmas.Result.{err_from_is_err_and}
use Rattle.weslc_bundle.proofs.HandedKeys.{fault_told, no_bundle, twice_told, twice_none}
use Rattle.weslc_bundle.proofs.bundle.read_bundle.Goals as goal

pub resolver_of-requires : goal.resolver_of-requires
resolver_of-requires c = rw c.as_slice.ensures at c.in_ok-check_paths.ensures.apart

pub returns-in_err-asked-clause-fault : goal.returns-in_err-asked-clause-fault
returns-in_err-asked-clause-fault c =
    let p = err_from_is_err_and c.from_residual.result c.from_residual.ensures.1 in
    rw (p.1, p.2) (fault_told _ _ c.in_err-asked.ensures.fault)

pub returns-in_err-asked-clause-only : goal.returns-in_err-asked-clause-only
returns-in_err-asked-clause-only c =
    let p = err_from_is_err_and c.from_residual.result c.from_residual.ensures.1 in
    rw (p.1, p.2) (no_bundle _ _ c.in_err-asked.ensures.fault)

pub returns-in_err-check_paths-clause-fault : goal.returns-in_err-check_paths-clause-fault
returns-in_err-check_paths-clause-fault c =
    let p = err_from_is_err_and c.from_residual-in_err-check_paths.result c.from_residual-in_err-check_paths.ensures.1 in
    rw (p.1, p.2) (twice_told _ c.in_ok-asked.asked.request _ c.in_ok-asked.ensures.asked (rw c.as_slice.ensures at c.in_err-check_paths.ensures.twice))

pub returns-in_err-check_paths-clause-only : goal.returns-in_err-check_paths-clause-only
returns-in_err-check_paths-clause-only c =
    let p = err_from_is_err_and c.from_residual-in_err-check_paths.result c.from_residual-in_err-check_paths.ensures.1 in
    rw (p.1, p.2) (twice_none _ c.in_ok-asked.asked.request _ c.in_ok-asked.ensures.asked (rw c.as_slice.ensures at c.in_err-check_paths.ensures.twice))

pub returns-clause-bundle : goal.returns-clause-bundle
returns-clause-bundle c = (
  c.in_ok-asked.asked.request,
  (c.in_ok-asked.ensures.asked, rw c.as_slice.ensures at c.in_ok-check_paths.ensures.apart),
  (refl, refl, c.in_ok-resolver.ensures, (c.in_ok-features.features, c.in_ok-features.ensures, refl)),
)
