use Rattle.core_laws.proofs.Runs.{compiled_text_runs_as_its_sources}
use Rattle.core_laws.proofs.laws.compiled_text_runs_as_its_sources.Goals as goal

pub returns : goal.returns
returns c = compiled_text_runs_as_its_sources
