use Rattle.wgsl_print_laws.proofs.Marked as marked
use Rattle.wgsl_print_laws.proofs.layout.laws.laid_out_as_its_tokens.Goals as goal

pub returns : goal.returns
returns c = marked.laid_out_as_its_tokens
