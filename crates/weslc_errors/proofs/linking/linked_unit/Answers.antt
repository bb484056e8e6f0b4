-- The unit is the linked one.
use Rattle.wgsl_path.specs.Paths.{path_text}
use Rattle.core_syntax.specs.View.{unit_tree}
use Rattle.weslc_errors.proofs.Loading.{linked, linked_and_told}
use Rattle.core_reach.specs.Alone.{only}
use Rattle.weslc_errors.proofs.linking.linked_unit.Goals as goal

pub returns-clause-unit : goal.returns-clause-unit
returns-clause-unit g c =
    linked (g.R.Resolver.answers c.args.resolver.now) (path_text c.args.root.now) c.args.options.now.keep c.args.options.now.max_modules c.in_ok-resolutions.resolutions c.in_ok-resolutions.ensures.tables
    (unit_tree c.in_ok-unit.unit) c.in_ok-unit.ensures.linked

pub returns-clause-told : goal.returns-clause-told
returns-clause-told g c =
    linked_and_told (g.R.Resolver.answers c.args.resolver.now) (path_text c.args.root.now) c.args.options.now.keep c.args.options.now.max_modules c.in_ok-resolutions.resolutions c.in_ok-resolutions.ensures.tables
    (unit_tree c.in_ok-unit.unit) c.in_ok-unit.ensures.linked c.in_ok-resolutions.map c.in_ok-resolutions.ensures.decls

pub returns-clause-alone_told : goal.returns-clause-alone_told
returns-clause-alone_told g c = λ inside within.
    linked_and_told (only inside (g.R.Resolver.answers c.args.resolver.now)) (path_text c.args.root.now) c.args.options.now.keep c.args.options.now.max_modules c.in_ok-resolutions.resolutions
    (c.in_ok-resolutions.ensures.alone_tables inside within) (unit_tree c.in_ok-unit.unit) c.in_ok-unit.ensures.linked c.in_ok-resolutions.map c.in_ok-resolutions.ensures.decls
