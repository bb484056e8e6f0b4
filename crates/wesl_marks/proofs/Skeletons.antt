-- What each kind of tree says is its skeleton laid flat.
use Rattle.std.proofs.Common.{◌≡◌, refl, sym, ap, ◌∙◌, List, [], ◌∷◌, ◌++◌, map, codes, Option, Some, None, Bool, true, false, append_assoc}
use Rattle.std.specs.Prelude.{if◌then◌else◌}
use Rattle.std.specs.List.{flat_map}
use Rattle.std.specs.Str.{bytes_eq}
use Rattle.std.proofs.lemmas.List.{append-nil}
use Rattle.wgsl_path.specs.declared.path.ModulePath.{ModulePath}
use Rattle.wgsl_expressions.specs.Tree as e
use Rattle.wgsl_expressions.specs.Tree.{Exp, Exps, Typ}
use Rattle.wgsl_expressions.specs.AttributesTree as a
use Rattle.wgsl_expressions.specs.AttributesTree.{Attr}
use Rattle.wgsl_declarations.specs.SimpleStatementsTree as s
use Rattle.wgsl_declarations.specs.SimpleStatementsTree.{Simple, BreakIf, Selector}
use Rattle.wgsl_declarations.specs.StatementsTree as t
use Rattle.wgsl_declarations.specs.StatementsTree.{Stm, Stms, Block, Elses, Clauses, Continuing, Part}
use Rattle.wgsl_declarations.specs.Tree as d
use Rattle.wgsl_declarations.specs.Tree.{Member, Param, Decl}
use Rattle.wgsl_skeleton.specs.Skeleton as l
use Rattle.wgsl_skeleton.specs.Skeleton.{Name, Node, occurrence, local, Nodes, nil, cons}
use Rattle.wgsl_skeleton.specs.Trees as tree
use Rattle.wgsl_skeleton.specs.Trees.{nodes, then_nodes, leaf, named_node, exp_node, exp_nodes, type_node, attribute_node, attributes_node, simple_nodes, selector_node, if_break, statement_nodes, statements_nodes, block_node, elses_node, clause_nodes, continuing_node, part_nodes, member_node, parameter_node, declaration_node}
use Rattle.wgsl_skeleton.specs.Flats.{Flat, enters, leaves, declares, occurs, flat, all_flat}
use Rattle.wesl_marks.specs.Laid.{in_name, in_exp, in_exps, in_typ, in_option, if_exp, if_typ, in_attr, in_attrs, in_simple, in_break_if, in_selector, in_header, in_stm, in_stms, in_block, in_elses, in_clauses, in_continuing, in_part, in_member, in_param, in_signature, in_decl}

-- ---- lists

then_flat : (xs ys : Nodes) → all_flat (then_nodes xs ys) ≡ all_flat xs ++ all_flat ys
then_flat nil ys = refl
then_flat (cons n rest) ys = ap (λ more. flat n ++ more) (then_flat rest ys) ∙ sym (append_assoc (flat n) (all_flat rest) (all_flat ys))

mapped : {A : Type 0} (f : A → Node) (g : A → List Flat) → ((x : A) → flat (f x) ≡ g x) → (xs : List A) → all_flat (nodes (map f xs)) ≡ flat_map g xs
mapped f g each [] = refl
mapped f g each (x ∷ xs) = ap (λ more. more ++ all_flat (nodes (map f xs))) (each x) ∙ ap (λ more. g x ++ more) (mapped f g each xs)

-- ---- expressions

laid_name : (path : Option ModulePath) (x : Name) → flat (named_node path x nil) ≡ in_name path x
laid_name None x = by (bytes_eq x (codes "_"))
  where
    by : (b : Bool) → flat (if b then leaf l.underscore else occurrence None x nil) ≡ (if b then [] else occurs None x ∷ [])
    by true = refl
    by false = refl
laid_name (Some path) x = refl

mutual
  laid_exp : (x : Exp) → flat (exp_node x) ≡ in_exp x
  laid_exp (e.literal v) = refl
  laid_exp (e.parenthesized x) = simp (laid_exp x, append-nil)
  laid_exp (e.component x name) = simp (laid_exp x, append-nil)
  laid_exp (e.indexed x y) = simp (laid_exp x, laid_exp y, append-nil)
  laid_exp (e.unary o x) = simp (laid_exp x, append-nil)
  laid_exp (e.binary o x y) = simp (laid_exp x, laid_exp y, append-nil)
  laid_exp (e.call type xs) = simp (laid_type type, laid_exps xs)
  laid_exp (e.named type) = laid_type type

  laid_exps : (xs : Exps) → all_flat (exp_nodes xs) ≡ in_exps xs
  laid_exps e.nil = refl
  laid_exps (e.cons x xs) = simp (laid_exp x, laid_exps xs)

  laid_type : (x : Typ) → flat (type_node x) ≡ in_typ x
  laid_type (e.simple path x) = laid_name path x
  laid_type (e.templated path x xs) = simp (laid_exps xs, append-nil)

laid_optional : (x : Option Exp) → flat (tree.if_exp x) ≡ if_exp x
laid_optional None = refl
laid_optional (Some x) = simp (laid_exp x, append-nil)

laid_optional_type : (x : Option Typ) → flat (tree.if_type x) ≡ if_typ x
laid_optional_type None = refl
laid_optional_type (Some x) = simp (laid_type x, append-nil)

-- ---- attributes

laid_attribute : (x : Attr) → flat (attribute_node x) ≡ in_attr x
laid_attribute (a.align x) = simp (laid_exp x, append-nil)
laid_attribute (a.binding x) = simp (laid_exp x, append-nil)
laid_attribute (a.blend_src x) = simp (laid_exp x, append-nil)
laid_attribute (a.builtin value) = refl
laid_attribute a.constant = refl
laid_attribute (a.diagnostic severity rule) = refl
laid_attribute (a.group x) = simp (laid_exp x, append-nil)
laid_attribute (a.id_number x) = simp (laid_exp x, append-nil)
laid_attribute (a.interpolate type sampling) = refl
laid_attribute a.invariant = refl
laid_attribute (a.location x) = simp (laid_exp x, append-nil)
laid_attribute a.must_use = refl
laid_attribute (a.byte_size x) = simp (laid_exp x, append-nil)
laid_attribute (a.workgroup_size x y z) = simp (laid_exp x, laid_optional y, laid_optional z, append-nil, append_assoc)
laid_attribute a.vertex = refl
laid_attribute a.fragment = refl
laid_attribute a.compute = refl
laid_attribute a.publish = refl
laid_attribute (a.if_true x) = refl
laid_attribute (a.else_if x) = refl
laid_attribute a.otherwise = refl
laid_attribute (a.custom x None) = refl
laid_attribute (a.custom x (Some xs)) = simp (mapped exp_node in_exp laid_exp xs, append-nil)

pub laid_attributes : (xs : List Attr) → flat (attributes_node xs) ≡ in_attrs xs
laid_attributes xs = mapped attribute_node in_attr laid_attribute xs

-- ---- statements

laid_simple : (x : Simple) → all_flat (nodes (simple_nodes x)) ≡ in_simple x
laid_simple (s.assignment attributes o x y) = simp (laid_attributes attributes, laid_exp x, laid_exp y, append-nil, append_assoc)
laid_simple (s.increment attributes x) = simp (laid_attributes attributes, laid_exp x, append-nil)
laid_simple (s.decrement attributes x) = simp (laid_attributes attributes, laid_exp x, append-nil)
laid_simple (s.breaking attributes) = simp (laid_attributes attributes, append-nil)
laid_simple (s.continuing attributes) = simp (laid_attributes attributes, append-nil)
laid_simple (s.returning attributes value) = simp (laid_attributes attributes, laid_optional value, append-nil)
laid_simple (s.discarding attributes) = simp (laid_attributes attributes, append-nil)
laid_simple (s.calling attributes type xs) = simp (laid_attributes attributes, laid_type type, laid_exps xs, append-nil)
laid_simple (s.asserting attributes x) = simp (laid_attributes attributes, laid_exp x, append-nil)
laid_simple (s.declaring attributes kind x type value) = simp (laid_attributes attributes, laid_optional_type type, laid_optional value, append-nil, append_assoc)

laid_selector : (x : Selector) → flat (selector_node x) ≡ in_selector x
laid_selector s.default_selector = refl
laid_selector (s.selected x) = laid_exp x

laid_break : (b : Option BreakIf) → all_flat (if_break b) ≡ in_option in_break_if b
laid_break None = refl
laid_break (Some b) = simp (laid_attributes b.attributes, laid_exp b.condition, append-nil)

header : (x y z : List Flat) → in_header x y z ≡ x ++ (y ++ z)
unfolding in_header
header x y z = append_assoc x y z

in_scope : (x y : List Flat) → x ++ ((enters ∷ (y ++ leaves ∷ [])) ++ []) ≡ ((x ++ (enters ∷ [])) ++ y) ++ (leaves ∷ [])
in_scope x y = simp (append-nil, append_assoc)

mutual
  laid_statement : (x : Stm) → all_flat (statement_nodes x) ≡ in_stm x
  laid_statement (t.simple x) = laid_simple x
  laid_statement (t.compound_statement b) = simp (laid_block b, append-nil)
  laid_statement (t.if_statement attributes x b elses) = simp (laid_attributes attributes, laid_exp x, laid_block b, laid_elses elses, append-nil, append_assoc)
  laid_statement (t.switch_statement attributes x body_attributes clauses) =
      simp (laid_attributes attributes, laid_exp x, laid_attributes body_attributes, laid_clauses clauses, append-nil, append_assoc)
  laid_statement (t.loop_statement attributes (t.block body_attributes xs) continuing) =
      simp (then_flat, laid_attributes attributes, laid_attributes body_attributes, laid_statements xs, laid_continuing continuing, append-nil, append_assoc)
  laid_statement (t.for_statement attributes initializer condition update (t.block body_attributes xs)) =
      simp (then_flat, header, laid_attributes attributes, laid_part initializer, laid_optional condition, laid_part update, laid_attributes body_attributes, laid_statements xs, append-nil, append_assoc)
  laid_statement (t.while_statement attributes x b) = simp (laid_attributes attributes, laid_exp x, laid_block b, append-nil, append_assoc)

  laid_statements : (xs : Stms) → all_flat (statements_nodes xs) ≡ in_stms xs
  laid_statements t.nil = refl
  laid_statements (t.cons x rest) = simp (then_flat, laid_statement x, laid_statements rest)

  laid_block : (b : Block) → flat (block_node b) ≡ in_block b
  laid_block (t.block attributes xs) =
      ap (λ x. x ++ ((enters ∷ (all_flat (statements_nodes xs) ++ leaves ∷ [])) ++ [])) (laid_attributes attributes)
      ∙ ap (λ x. in_attrs attributes ++ ((enters ∷ (x ++ leaves ∷ [])) ++ [])) (laid_statements xs)
      ∙ in_scope (in_attrs attributes) (in_stms xs)

  laid_elses : (x : Elses) → flat (elses_node x) ≡ in_elses x
  laid_elses t.no_else = refl
  laid_elses (t.else_clause b) = simp (laid_block b, append-nil)
  laid_elses (t.else_if_clause x b more) = simp (laid_exp x, laid_block b, laid_elses more, append-nil, append_assoc)

  laid_clauses : (x : Clauses) → all_flat (clause_nodes x) ≡ in_clauses x
  laid_clauses t.no_clauses = refl
  laid_clauses (t.switch_clause selectors b more) = simp (mapped selector_node in_selector laid_selector selectors, laid_block b, laid_clauses more, append-nil, append_assoc)

  laid_continuing : (x : Continuing) → flat (continuing_node x) ≡ in_continuing x
  laid_continuing t.no_continuing = refl
  laid_continuing (t.continuing_statement attributes (t.block block_attributes xs) breaks) =
      simp (then_flat, laid_attributes attributes, laid_attributes block_attributes, laid_statements xs, laid_break breaks, append-nil, append_assoc)

  laid_part : (x : Part) → all_flat (part_nodes x) ≡ in_part x
  laid_part t.absent = refl
  laid_part (t.present x) = laid_statement x

-- ---- declarations

laid_member : (x : Member) → flat (member_node x) ≡ in_member x
laid_member x = simp (laid_attributes x.attributes, laid_type x.type, append-nil)

laid_parameter : (x : Param) → flat (parameter_node x) ≡ in_param x
laid_parameter x = simp (laid_attributes x.attributes, laid_type x.type, append-nil)

laid_locals : (xs : List Param) → all_flat (nodes (map (λ p. local p.name) xs)) ≡ map (λ p. declares p.name) xs
laid_locals [] = refl
laid_locals (x ∷ xs) = ap (λ more. declares x.name ∷ more) (laid_locals xs)

signature : (attributes : List Attr) (params : List Param) (result_attributes : List Attr) (result : Option Typ)
    → in_signature attributes params result_attributes result ≡ in_attrs attributes ++ (flat_map in_param params ++ (in_attrs result_attributes ++ if_typ result))
unfolding in_signature
signature attributes params result_attributes result = simp append_assoc

pub laid_declaration : (x : Decl) → flat (declaration_node x) ≡ in_decl x
laid_declaration (d.variable attributes kind x type value) = simp (laid_attributes attributes, laid_optional_type type, laid_optional value, append-nil, append_assoc)
laid_declaration (d.alias attributes x type) = simp (laid_attributes attributes, laid_type type, append-nil)
laid_declaration (d.structure attributes x members) = simp (laid_attributes attributes, mapped member_node in_member laid_member members)
laid_declaration (d.function attributes x parameters result_attributes result (t.block body_attributes xs)) =
    simp (then_flat, signature, laid_attributes attributes, mapped parameter_node in_param laid_parameter parameters, laid_attributes result_attributes, laid_optional_type result, laid_attributes body_attributes, laid_locals parameters, laid_statements xs, append-nil, append_assoc)
laid_declaration (d.assertion attributes x) = simp (laid_attributes attributes, laid_exp x, append-nil)
