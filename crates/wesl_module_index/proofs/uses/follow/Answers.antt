use Rattle.std.proofs.Common.{ap, ◌++◌, map, subst, sym}
use Rattle.wgsl_skeleton.specs.Flats.{replayed}
use Rattle.wesl_mark.specs.Marks.{said_by, flat_of}
use Rattle.wesl_module_index.specs.Uses.{read_at, Follows}
use Rattle.wesl_mark.specs.declared.mark.Mark.{Mark}
use Rattle.wesl_module_index.proofs.Trails.{trail_left}
use Rattle.wesl_module_index.proofs.uses.follow.Goals as goal

pub returns-in-Leave-clause-follows : goal.returns-in-Leave-clause-follows
returns-in-Leave-clause-follows c =
    let left = trail_left c.args.list.now.names.keys c.args.scopes.now.trail.items c.leave.new.self.trail.items c.leave.ensures in
    subst (λ (m : Mark). Follows c.args.list.now (flat_of (said_by c.args.list.now.names.keys c.args.list.now.references.keys m)) c.args.scopes.now.trail.items c.args.uses.now.items c.leave.new.self.trail.items c.args.uses.now.items)
    (sym c.in-Leave.is)
    (record { uses = λ rest. ap (λ t. map (read_at c.args.list.now) c.args.uses.now.items ++ replayed rest t) left; trail = left })
