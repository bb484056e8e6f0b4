use Rattle.weslc_bundle.proofs.HandedKeys.{wrong_told}
use Rattle.weslc_bundle.proofs.handed.read_handed.Goals as goal

pub returns-in-Err-Error : goal.returns-in-Err-Error
returns-in-Err-Error c = wrong_told _ _ _ _ _ c.needed_by.ensures c.key_of.ensures (rw c.in-Err-Error.field-0-is at c.in-Err-Error.ensures)
