use Rattle.std.proofs.Common.{◌≡◌, sym, ◌∙◌, ◌+◌, arith}
use Rattle.wesl_name_resolution.specs.declared.denote.Via.{Via}
use Rattle.wesl_reachability.proofs.Onward.{follows_first, is_the_last, turns, goes_on, too_far}
use Rattle.wesl_reachability.proofs.links.Links.last.Goals as goal

pub loop-link-init : goal.loop-link-init
loop-link-init c = follows_first c.args.modules.now c.args.self.now.onward.items c.args.first

pub returns-then-stays : goal.returns-then-stays
returns-then-stays c =
    is_the_last c.args.modules.now c.args.self.now.onward.items c.args.first c.loop-link.at c.loop-link.self.onward.items c.loop-link._link c.loop-link.invariant
    (sym c.behind-next.ensures ∙ c.is_same-stays.ensures.same c.if-stays.true)

pub returns-then-turns : goal.returns-then-turns
returns-then-turns c =
    turns c.args.modules.now c.args.self.now.onward.items c.args.first c.loop-link.at c.loop-link.self.onward.items c.loop-link._link c.loop-link.invariant
    c.behind-next.result c.behind-behind.result c.behind-next.ensures c.behind-behind.ensures (c.is_same-stays.ensures.other c.if-stays.false) (c.is_same-turns.ensures.same c.if-turns.true)

pub loop-link-preserved : goal.loop-link-preserved
loop-link-preserved c =
    goes_on c.args.modules.now c.args.self.now.onward.items c.args.first c.loop-link.at c.loop-link.self.onward.items c.loop-link._link c.loop-link.invariant
    c.behind-next.result c.behind-behind.result c.behind-next.ensures c.behind-behind.ensures (c.is_same-stays.ensures.other c.if-stays.false) (c.is_same-turns.ensures.other c.if-turns.false)
    c.lead.new.self.onward.items c.lead.ensures

pub returns-else-turns : goal.returns-else-turns
returns-else-turns c =
    too_far c.args.modules.now c.args.self.now.onward.items c.args.first c.behind-behind.result c.lead.new.self.onward.items (c.loop-link._link + 1)
    (goes_on c.args.modules.now c.args.self.now.onward.items c.args.first c.loop-link.at c.loop-link.self.onward.items c.loop-link._link c.loop-link.invariant
    c.behind-next.result c.behind-behind.result c.behind-next.ensures c.behind-behind.ensures (c.is_same-stays.ensures.other c.if-stays.false) (c.is_same-turns.ensures.other c.if-turns.false)
    c.lead.new.self.onward.items c.lead.ensures)
    c.item_count-link-end.result c.item_count-link-end.ensures (omega arith)
