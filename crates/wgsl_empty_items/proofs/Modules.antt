-- Modules without their empty items.
use Rattle.std.proofs.Common.{◌≡◌, refl, ap, ◌+◌, List, [], ◌∷◌}
use Rattle.std.specs.Option.{option_map}
use Rattle.std.specs.Prelude.{map}
use Rattle.wgsl_path.specs.declared.span.Spanned.{Spanned}
use Rattle.wgsl_expressions.specs.View.{type_tree}
use Rattle.wgsl_expressions.specs.AttributesView.{attributes_tree}
use Rattle.wgsl_declarations.specs.ImportsView.{importing_tree, directive_tree}
use Rattle.wgsl_declarations.specs.declared.declaration.GlobalDeclaration.{GlobalDeclaration}
use Rattle.wgsl_declarations.specs.declared.declaration.GlobalDeclaration.TheVariants as code
use Rattle.wgsl_declarations.specs.Tree.{function}
use Rattle.wgsl_declarations.specs.View.{declarations_tree, variable_tree, alias_tree, structure_tree, parameter_tree, assertion_tree}
use Rattle.wgsl_statements.specs.View.{statement_tree}
use Rattle.wgsl_empty_items.specs.Statements.{without_voids}
use Rattle.wgsl_empty_items.specs.Units.{node_without_voids, kept_declarations}
use Rattle.wgsl_empty_items.specs.Counts.{voids_in_declarations}
use Rattle.wgsl_empty_items.specs.Laws.{TreeStays, NoneIsLeft, TwiceIsOnce, StatementTreeStays, StatementTwiceIsOnce, BlockTreeStays, NoneIsLeftInBlock, BlockTwiceIsOnce}
use Rattle.wgsl_empty_items.proofs.Staying as staying
use Rattle.wgsl_empty_items.proofs.Leaving as leaving
use Rattle.wgsl_empty_items.proofs.Twice as twice

pub statement_tree_stays : StatementTreeStays
statement_tree_stays s = staying.tree_stays s

pub statement_twice_is_once : StatementTwiceIsOnce
statement_twice_is_once s = twice.twice_is_once s

pub block_tree_stays : BlockTreeStays
block_tree_stays x = staying.block_stays without_voids statement_tree staying.tree_stays x

pub none_is_left_in_block : NoneIsLeftInBlock
none_is_left_in_block x = leaving.block_none without_voids leaving.few_are_left x

pub block_twice_is_once : BlockTwiceIsOnce
block_twice_is_once x = twice.block_twice without_voids twice.twice_is_once x

abbrev all : List (Spanned GlobalDeclaration) → List (Spanned GlobalDeclaration)
all ns = kept_declarations (map node_without_voids ns)

declarations_stay : (ns : List (Spanned GlobalDeclaration)) → declarations_tree (all ns) ≡ declarations_tree ns
declarations_stay [] = refl
declarations_stay (n ∷ ns) = at n.node (declarations_stay ns)
  where
    at : (d : GlobalDeclaration) → declarations_tree (all ns) ≡ declarations_tree ns → declarations_tree (all (record { node = d; span = n.span } ∷ ns)) ≡ declarations_tree (record { node = d; span = n.span } ∷ ns)
    at code.Void rest = rest
    at (code.Declaration x) rest = ap (λ z. variable_tree x ∷ z) rest
    at (code.TypeAlias x) rest = ap (λ z. alias_tree x ∷ z) rest
    at (code.Struct x) rest = ap (λ z. structure_tree x ∷ z) rest
    at (code.Function x) rest = λ k.
        function (attributes_tree x.attributes) x.ident.name (map parameter_tree x.parameters) (attributes_tree x.return_attributes)
        (option_map type_tree x.return_type) (block_tree_stays x.body k) ∷ rest k
    at (code.ConstAssert x) rest = ap (λ z. assertion_tree x ∷ z) rest

pub tree_stays : TreeStays
tree_stays u = ap (λ z. record { imports = map importing_tree u.imports; directives = map directive_tree u.global_directives; declarations = z }) (declarations_stay u.global_declarations)

none_left : (ns : List (Spanned GlobalDeclaration)) → voids_in_declarations (all ns) ≡ 0
none_left [] = refl
none_left (n ∷ ns) = at n.node (none_left ns)
  where
    at : (d : GlobalDeclaration) → voids_in_declarations (all ns) ≡ 0 → voids_in_declarations (all (record { node = d; span = n.span } ∷ ns)) ≡ 0
    at code.Void rest = rest
    at (code.Declaration x) rest = λ k. 0 + rest k
    at (code.TypeAlias x) rest = λ k. 0 + rest k
    at (code.Struct x) rest = λ k. 0 + rest k
    at (code.Function x) rest = λ k. none_is_left_in_block x.body k + rest k
    at (code.ConstAssert x) rest = λ k. 0 + rest k

pub none_is_left : NoneIsLeft
none_is_left u = none_left u.global_declarations

all_twice : (ns : List (Spanned GlobalDeclaration)) → all (all ns) ≡ all ns
all_twice [] = refl
all_twice (n ∷ ns) = at n.node (all_twice ns)
  where
    at : (d : GlobalDeclaration) → all (all ns) ≡ all ns → all (all (record { node = d; span = n.span } ∷ ns)) ≡ all (record { node = d; span = n.span } ∷ ns)
    at code.Void rest = rest
    at (code.Declaration x) rest = ap (λ z. record { node = code.Declaration x; span = n.span } ∷ z) rest
    at (code.TypeAlias x) rest = ap (λ z. record { node = code.TypeAlias x; span = n.span } ∷ z) rest
    at (code.Struct x) rest = ap (λ z. record { node = code.Struct x; span = n.span } ∷ z) rest
    at (code.Function x) rest = λ k.
        record {
          node = code.Function (record {
            attributes = x.attributes;
            ident = x.ident;
            parameters = x.parameters;
            return_attributes = x.return_attributes;
            return_type = x.return_type;
            body = block_twice_is_once x.body k;
          });
          span = n.span;
        } ∷ rest k
    at (code.ConstAssert x) rest = ap (λ z. record { node = code.ConstAssert x; span = n.span } ∷ z) rest

pub twice_is_once : TwiceIsOnce
twice_is_once u = ap (λ z. record { imports = u.imports; global_directives = u.global_directives; global_declarations = z }) (all_twice u.global_declarations)
