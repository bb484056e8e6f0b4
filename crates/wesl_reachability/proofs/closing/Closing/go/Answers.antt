use Rattle.std.proofs.Common.{◌≡◌, refl, sym, ap, ◌∙◌, subst, true, false}
use Rattle.wesl_name_resolution.specs.Links.{symbol_of}
use Rattle.wesl_reachability.specs.Closing.{JoinsOn}
use Rattle.wesl_reachability.proofs.Goes.{seeks_declared, seeks_unloaded, seeks_lacks, seeks_hides, seeks_joined}
use Rattle.wesl_reachability.proofs.closing.Closing.go.Goals as goal

pub returns-in_ok-arrive-in-Declared-clause-seeks : goal.returns-in_ok-arrive-in-Declared-clause-seeks
returns-in_ok-arrive-in-Declared-clause-seeks c =
    seeks_declared c.args.modules.now c.args.self.now _ (symbol_of c.args.link) c.args.before c.in-Declared.spot c.pass_before.new.holding
    c.in-Declared.ensures.step c.in-Declared.ensures.named c.in_ok-pass_before-in-Declared.ensures c.in_ok-arrive-in-Declared.ensures refl refl refl

pub returns-in_ok-ask-in-Unloaded-clause-seeks : goal.returns-in_ok-ask-in-Unloaded-clause-seeks
returns-in_ok-ask-in-Unloaded-clause-seeks c = seeks_unloaded c.args.modules.now c.args.self.now _ (symbol_of c.args.link) c.args.before c.in-Unloaded.ensures.step c.in_ok-ask-in-Unloaded.ensures refl refl refl refl

pub returns-in-Missing-clause-seeks : goal.returns-in-Missing-clause-seeks
returns-in-Missing-clause-seeks c = seeks_lacks c.args.modules.now c.args.self.now _ (symbol_of c.args.link, c.args.before) refl refl refl refl refl c.in-Missing.ensures.step

pub returns-in-Private-clause-seeks : goal.returns-in-Private-clause-seeks
returns-in-Private-clause-seeks c = seeks_hides c.args.modules.now c.args.self.now _ (symbol_of c.args.link, c.args.before) refl refl refl refl refl c.in-Private.ensures.step

pub returns-then-goes-clause-leads : goal.returns-then-goes-clause-leads
returns-then-goes-clause-leads c = λ find t. sym (c.in-Leads.ensures.step find t)

pub returns-then-goes-clause-seeks : goal.returns-then-goes-clause-seeks
returns-then-goes-clause-seeks c =
    seeks_joined c.args.modules.now c.args.self.now c.join.new.self (symbol_of c.args.link) (symbol_of c.in-Leads.next) c.args.before c.in-Leads.via true c.in-Leads.ensures.named c.in-Leads.ensures.found c.in-Leads.ensures.step
    (subst (λ b. JoinsOn c.args.modules.now c.args.before c.in-Leads.via b c.args.self.now c.join.new.self) c.if-goes.true c.in_ok-goes-in-Leads.ensures.joins)

pub returns-else-goes-clause-seeks : goal.returns-else-goes-clause-seeks
returns-else-goes-clause-seeks c =
    seeks_joined c.args.modules.now c.args.self.now c.join.new.self (symbol_of c.args.link) (symbol_of c.in-Leads.next) c.args.before c.in-Leads.via false c.in-Leads.ensures.named c.in-Leads.ensures.found c.in-Leads.ensures.step
    (subst (λ b. JoinsOn c.args.modules.now c.args.before c.in-Leads.via b c.args.self.now c.join.new.self) c.if-goes.false c.in_ok-goes-in-Leads.ensures.joins)
