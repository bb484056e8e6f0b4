-- A list of statements, as what is left of it.
use Rattle.std.proofs.Common.{◌≡◌, refl, sym, ap, ◌∙◌, List, [], ◌∷◌, map, filter_map, Option, Some, None}
use Rattle.std.specs.List.{cons_option}
use Rattle.std.specs.Option.{option_map}
use Rattle.wgsl_path.specs.declared.span.Spanned.{Spanned}
use Rattle.wgsl_expressions.specs.declared.attributes.attribute.Attribute.{Attribute}
use Rattle.wgsl_expressions.specs.AttributesView.{attributes_tree}
use Rattle.wgsl_statements.specs.declared.statement.Statement.{Statement}
use Rattle.wgsl_statements.specs.Tree.{Stm, cons, block}
use Rattle.wgsl_statements.specs.View.{stms, statement_tree, statements_tree}
use Rattle.wesl_conditions.specs.declared.features.feature.Features.{Features}
use Rattle.wesl_conditions.specs.Chains.{left}
use Rattle.wesl_conditions.specs.Seen.{Seen}
use Rattle.wesl_conditions.specs.Trees.{of_statements, from_list, in_each}
use Rattle.wesl_conditions.specs.Faults.{statement_fault, seen_statements}
use Rattle.wesl_cond.specs.Leaving.{statement_left, block_left}
use Rattle.wesl_cond.specs.Passing.{see, see_node}

abbrev node_stm : Spanned Statement → Option Stm
node_stm n = statement_tree n.node

-- as a list, and as a list of statements
stms_of : (os : List (Option Stm)) → stms os ≡ from_list (filter_map (λ o. o) os)
stms_of [] = refl
stms_of (None ∷ os) = stms_of os
stms_of (Some s ∷ os) = ap (cons s) (stms_of os)

filter_of_map : (ns : List (Spanned Statement)) → filter_map node_stm ns ≡ filter_map (λ o. o) (map node_stm ns)
filter_of_map [] = refl
filter_of_map (n ∷ ns) = ap (cons_option (node_stm n)) (filter_of_map ns)

pub statements_as_list : (ns : List (Spanned Statement)) → statements_tree ns ≡ from_list (filter_map node_stm ns)
statements_as_list ns = stms_of (map node_stm ns) ∙ ap from_list (sym (filter_of_map ns))

-- inside each of them
each_left : (features : Features) (ss : List Stm) → in_each (λ T has items. left features has items) (from_list ss) ≡ map (statement_left features) ss
each_left features [] = refl
each_left features (s ∷ ss) = ap (λ t. statement_left features s ∷ t) (each_left features ss)

filter_left : (features : Features) (os : List (Option Stm))
    → filter_map (λ o. o) (map (option_map (statement_left features)) os) ≡ map (statement_left features) (filter_map (λ o. o) os)
filter_left features [] = refl
filter_left features (None ∷ os) = filter_left features os
filter_left features (Some s ∷ os) = ap (λ t. statement_left features s ∷ t) (filter_left features os)

-- a block whose statements were settled inside, and then as a list
pub block_of_list : (features : Features) (attributes : List (Spanned Attribute)) (old middle new : List (Spanned Statement))
    → map node_stm middle ≡ map (option_map (statement_left features)) (map node_stm old)
    → filter_map node_stm new ≡ left features of_statements (filter_map node_stm middle)
    → block (attributes_tree attributes) (statements_tree new) ≡ block_left features (block (attributes_tree attributes) (statements_tree old))
block_of_list features attributes old middle new inside list =
    ap (block (attributes_tree attributes))
    (statements_as_list new
    ∙ ap from_list (list ∙ ap (left features of_statements)
    (filter_of_map middle ∙ ap (filter_map (λ o. o)) inside ∙ filter_left features (map node_stm old)
    ∙ sym (ap (in_each (λ T has items. left features has items)) (statements_as_list old) ∙ each_left features (filter_map node_stm old)
    ∙ ap (map (statement_left features)) (filter_of_map old)))))

-- ---- as errors see them

pub seen_nodes : (features : Features) (ns : List (Spanned Statement)) → seen_statements features (statements_tree ns) ≡ filter_map (see_node features) ns
seen_nodes features [] = refl
seen_nodes features (n ∷ ns) = by (node_stm n) (seen_nodes features ns)
  where
    by : (o : Option Stm) → seen_statements features (stms (map node_stm ns)) ≡ filter_map (see_node features) ns
        → seen_statements features (stms (o ∷ map node_stm ns)) ≡ cons_option (option_map (see of_statements (statement_fault features)) o) (filter_map (see_node features) ns)
    by None rest = rest
    by (Some s) rest = ap (λ t. see of_statements (statement_fault features) s ∷ t) rest

-- the same of a list of any items
pub seen_items : {X T : Type 0} (tree : X → Option T) (view : T → Seen) (xs : List X)
    → map view (filter_map tree xs) ≡ filter_map (λ x. option_map view (tree x)) xs
seen_items tree view [] = refl
seen_items {X} {T} tree view (x ∷ xs) = by (tree x) (seen_items tree view xs)
  where
    by : (o : Option T) → map view (filter_map tree xs) ≡ filter_map (λ x. option_map view (tree x)) xs
        → map view (cons_option o (filter_map tree xs)) ≡ cons_option (option_map view o) (filter_map (λ x. option_map view (tree x)) xs)
    by None rest = rest
    by (Some t) rest = ap (λ ts. view t ∷ ts) rest
