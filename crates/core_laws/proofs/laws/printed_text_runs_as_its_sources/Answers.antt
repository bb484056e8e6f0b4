use Rattle.core_laws.proofs.Runs.{printed_text_runs_as_its_sources}
use Rattle.core_laws.proofs.laws.printed_text_runs_as_its_sources.Goals as goal

pub returns : goal.returns
returns c = printed_text_runs_as_its_sources
