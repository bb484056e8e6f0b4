use Rattle.core_laws.proofs.Runs.{linked_text_runs_as_its_sources}
use Rattle.core_laws.proofs.laws.linked_text_runs_as_its_sources.Goals as goal

pub returns : goal.returns
returns c = linked_text_runs_as_its_sources
