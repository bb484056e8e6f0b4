use Rattle.std.proofs.Common.{refl, sym, ◌∙◌, inr}
use Rattle.wesl_module_index.specs.declared.error.ImportError.TheVariants.{DuplicateSymbol}
use Rattle.wesl_module_index.proofs.Scopes.{scope_added, scope_has, lacks_name}
use Rattle.wesl_module_index.proofs.imports.Names.add.Goals as goal

pub returns-then-contains_key : goal.returns-then-contains_key
returns-then-contains_key c = inr (
  λ k. DuplicateSymbol (c.in_ok-path.ensures k) (c.in_ok-name.ensures k),
  λ ns s. scope_has c.args.self.now.scope ns c.args.name.now (sym c.contains_key.ensures ∙ c.if-contains_key.true) s,
)

pub returns : goal.returns
returns c = record {
  path = refl;
  targets = refl;
  items = refl;
  scope = λ ns s.
      scope_added c.args.self.now.scope c.put.new.scope ns c.args.name.now c.args.meaning (lacks_name _ (sym c.contains_key.ensures ∙ c.if-contains_key.false)) c.in_ok-put.ensures s;
}
