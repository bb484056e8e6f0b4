use Rattle.std.proofs.Common.{◌≡◌, drop}
use Rattle.std.specs.List.{list_any}
use Rattle.wesl_link.specs.EntryPoints.{is_stage_node}
use Rattle.wesl_link.proofs.syntax_util.has_stage.Given as goal

abbrev pub invariant-loop-attribute : goal.invariant-loop-attribute
invariant-loop-attribute l = list_any is_stage_node (drop l.attribute-index l.attributes) ≡ list_any is_stage_node l.attributes
