-- What pruning leaves alone: all of a declaration but the body of a function.
use Rattle.std.specs.Prelude.{[]}
use Rattle.wgsl_path.specs.declared.span.Spanned.{Spanned}
use Rattle.wgsl_declarations.specs.declared.declaration.Function.{Function}
use Rattle.wgsl_declarations.specs.declared.declaration.GlobalDeclaration.{GlobalDeclaration}
use Rattle.wgsl_declarations.specs.declared.declaration.GlobalDeclaration.TheVariants as code

-- a function with no statements
abbrev pub without_statements : Function → Function
without_statements x = record {
  attributes = x.attributes;
  ident = x.ident;
  parameters = x.parameters;
  return_attributes = x.return_attributes;
  return_type = x.return_type;
  body = record { attributes = x.body.attributes; statements = [] };
}

-- all of a declaration but the statements of a function's body
abbrev pub around_body : GlobalDeclaration → GlobalDeclaration
around_body (code.Function x) = code.Function (without_statements x)
around_body x = x

abbrev pub around_body_node : Spanned GlobalDeclaration → Spanned GlobalDeclaration
around_body_node n = record { node = around_body n.node; span = n.span }
