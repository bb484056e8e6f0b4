use Rattle.wgsl_print_laws.proofs.OptionalMarks as commas
use Rattle.wgsl_print_laws.proofs.layout.laws.laid_out_but_for_optional_marks.Goals as goal

pub returns : goal.returns
returns c = commas.laid_out_but_for_optional_marks
