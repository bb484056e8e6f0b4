use Rattle.std.specs.Prelude.{string_bytes}
use Rattle.wesl_resolve.specs.SourceMaps.{decl_at}
use Rattle.core_link.proofs.RecordLemmas.{all_told}
use Rattle.core_link.proofs.rounds.Resolutions.add_decls.Goals as goal

pub returns-clause-told : goal.returns-clause-told
returns-clause-told c = λ keep r.
    all_told c.args.self.now.modules (string_bytes c.args.self.now.root) keep c.args.self.now.held r c.record_held.ensures.ordered
    (decl_at c.args.map.now) (decl_at c.record_held.new.map) c.in_ok-record_held.ensures.recorded
