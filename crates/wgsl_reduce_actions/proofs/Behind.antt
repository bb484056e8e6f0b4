-- A statement that can have no attributes stays as it is.
use Rattle.std.proofs.Common.{◌≡◌, refl, sym, ap, ◌∙◌, List, None}
use Rattle.wgsl_path.specs.declared.span.Spanned.{Spanned}
use Rattle.wgsl_expressions.specs.declared.attributes.attribute.Attribute.{Attribute}
use Rattle.wgsl_statements.specs.declared.statement.Statement.{Statement, roll-Statement, out-Statement, roll-out-Statement}
use Rattle.wgsl_statements.specs.declared.statement.Statement.TheOpen.{Statement-F}
use Rattle.wgsl_statements.specs.declared.statement.Statement.TheVariants.{rolls-Void}
use Rattle.wgsl_nodes.specs.Statements.{attributes_in, with_in, statement_attributes, statement_with}

pub without : (s : Statement) (xs : List (Spanned Attribute)) → statement_attributes s ≡ None → statement_with s xs ≡ s
without s xs none = go (out-Statement s) refl none
  where
    go : (z : Statement-F Statement) → out-Statement s ≡ z → attributes_in z ≡ None → with_in z xs ≡ s
    go Statement-F.Void is e = sym rolls-Void ∙ ap roll-Statement (sym is) ∙ roll-out-Statement s
    go _ is e = absurd cc
