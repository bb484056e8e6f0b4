use Rattle.core_programs.proofs.Cells.{calls_leave_cells as law}
use Rattle.core_programs.proofs.laws.calls_leave_cells.Goals as goal

pub returns : goal.returns
returns c p known k stage f xs from after answer is = law p known k stage f xs from after answer is
