use Rattle.std.proofs.Common.{◌≡◌, subst, []}
use Rattle.std.specs.Prelude.{string_bytes, OnOk}
use Rattle.wesl_reachability.specs.Closing.{Seeks}
use Rattle.wesl_reachability.proofs.closing.Closing.seek_pending.Goals as goal

pub returns : goal.returns
returns c =
    let p = c.args.pending.now in
    subst (λ n. OnOk c.seek.result (Seeks c.args.modules.now (record { home = string_bytes p.target.printed_path; name = n }, p.before) [] c.args.self.now c.seek.new.self)) c.as_str.ensures c.seek.ensures.seeks
