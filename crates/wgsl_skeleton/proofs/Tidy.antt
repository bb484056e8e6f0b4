-- In skeletons of declarations locals stand in lists of scopes alone.
use Rattle.std.proofs.Common.{List, [], ◌∷◌, map, Option, Some, None, Bool, true, false, codes}
use Rattle.std.specs.Prelude.{if◌then◌else◌}
use Rattle.std.specs.Str.{bytes_eq}
use Rattle.wgsl_expressions.specs.Tree as e
use Rattle.wgsl_expressions.specs.Tree.{Exp, Exps, Typ}
use Rattle.wgsl_expressions.specs.AttributesTree as a
use Rattle.wgsl_expressions.specs.AttributesTree.{Attr}
use Rattle.wgsl_declarations.specs.SimpleStatementsTree as s
use Rattle.wgsl_declarations.specs.SimpleStatementsTree.{Simple, BreakIf, Selector}
use Rattle.wgsl_declarations.specs.StatementsTree as t
use Rattle.wgsl_declarations.specs.StatementsTree.{Stm, Stms, Block, Elses, Clauses, Continuing, Part}
use Rattle.wgsl_declarations.specs.Tree as d
use Rattle.wgsl_declarations.specs.Tree.{Member, Param}
use Rattle.wgsl_skeleton.specs.Skeleton as l
use Rattle.wgsl_skeleton.specs.Skeleton.{Name, Node, occurrence, local, scope, node, Nodes, nil, cons}
use Rattle.wgsl_skeleton.specs.Trees.{nodes, then_nodes, leaf, list, exp_node, exp_nodes, type_node, if_exp, if_type, attribute_node, attributes_node, simple_nodes, selector_node, if_break, statement_nodes, statements_nodes, block_node, inside_nodes, elses_node, clause_nodes, loop_nodes, continuing_node, part_nodes, member_node, parameter_node}
use Rattle.wgsl_skeleton.specs.Flats.{IsNoLocal, IsTidy, AreTidy, AreTidyParts, DeclarationsAreTidy}

-- a node that may stand in any list
abbrev Fine : Node → Type 0
Fine n = IsNoLocal n × IsTidy n

none : AreTidyParts nil
none = tt

with_one : (n : Node) (rest : Nodes) → Fine n → AreTidyParts rest → AreTidyParts (cons n rest)
with_one n rest h k = (h.0, h.1, k)

one : (n : Node) → Fine n → AreTidyParts (cons n nil)
one n h = with_one n nil h tt

two : (n m : Node) → Fine n → Fine m → AreTidyParts (cons n (cons m nil))
two n m h k = with_one n (cons m nil) h (one m k)

three : (n m o : Node) → Fine n → Fine m → Fine o → AreTidyParts (cons n (cons m (cons o nil)))
three n m o h k i = with_one n (cons m (cons o nil)) h (two m o k i)

-- any list is that of a scope
for_scopes : (ns : Nodes) → AreTidyParts ns → AreTidy ns
for_scopes nil h = tt
for_scopes (cons n rest) h = (h.1, for_scopes rest h.2)

then_tidy : (xs ys : Nodes) → AreTidy xs → AreTidy ys → AreTidy (then_nodes xs ys)
then_tidy nil ys h k = k
then_tidy (cons n rest) ys h k = (h.0, then_tidy rest ys h.1 k)

-- nodes that are made of the elements of a list
mapped : {A : Type 0} (f : A → Node) → ((x : A) → Fine (f x)) → (xs : List A) → AreTidyParts (nodes (map f xs))
mapped f each [] = tt
mapped f each (x ∷ xs) = with_one (f x) (nodes (map f xs)) (each x) (mapped f each xs)

-- ---- expressions

named_fine : (b : Bool) (x : Name) → Fine (if b then leaf l.underscore else occurrence None x nil)
named_fine true x = (tt, tt)
named_fine false x = (tt, tt)

mutual
  exp_fine : (x : Exp) → Fine (exp_node x)
  exp_fine (e.literal v) = (tt, tt)
  exp_fine (e.parenthesized x) = (tt, one (exp_node x) (exp_fine x))
  exp_fine (e.component x name) = (tt, one (exp_node x) (exp_fine x))
  exp_fine (e.indexed x y) = (tt, two (exp_node x) (exp_node y) (exp_fine x) (exp_fine y))
  exp_fine (e.unary o x) = (tt, one (exp_node x) (exp_fine x))
  exp_fine (e.binary o x y) = (tt, two (exp_node x) (exp_node y) (exp_fine x) (exp_fine y))
  exp_fine (e.call type xs) = (tt, with_one (type_node type) (exp_nodes xs) (type_fine type) (exps_fine xs))
  exp_fine (e.named type) = type_fine type

  exps_fine : (xs : Exps) → AreTidyParts (exp_nodes xs)
  exps_fine e.nil = tt
  exps_fine (e.cons x xs) = with_one (exp_node x) (exp_nodes xs) (exp_fine x) (exps_fine xs)

  type_fine : (x : Typ) → Fine (type_node x)
  type_fine (e.simple None x) = named_fine (bytes_eq x (codes "_")) x
  type_fine (e.simple (Some path) x) = (tt, tt)
  type_fine (e.templated path x xs) = (tt, (tt, exps_fine xs, tt))

if_exp_fine : (x : Option Exp) → Fine (if_exp x)
if_exp_fine None = (tt, tt)
if_exp_fine (Some x) = (tt, one (exp_node x) (exp_fine x))

if_type_fine : (x : Option Typ) → Fine (if_type x)
if_type_fine None = (tt, tt)
if_type_fine (Some x) = (tt, one (type_node x) (type_fine x))

-- ---- attributes

attribute_fine : (x : Attr) → Fine (attribute_node x)
attribute_fine (a.align x) = (tt, one (exp_node x) (exp_fine x))
attribute_fine (a.binding x) = (tt, one (exp_node x) (exp_fine x))
attribute_fine (a.blend_src x) = (tt, one (exp_node x) (exp_fine x))
attribute_fine (a.builtin value) = (tt, tt)
attribute_fine a.constant = (tt, tt)
attribute_fine (a.diagnostic severity rule) = (tt, tt)
attribute_fine (a.group x) = (tt, one (exp_node x) (exp_fine x))
attribute_fine (a.id_number x) = (tt, one (exp_node x) (exp_fine x))
attribute_fine (a.interpolate type sampling) = (tt, tt)
attribute_fine a.invariant = (tt, tt)
attribute_fine (a.location x) = (tt, one (exp_node x) (exp_fine x))
attribute_fine a.must_use = (tt, tt)
attribute_fine (a.byte_size x) = (tt, one (exp_node x) (exp_fine x))
attribute_fine (a.workgroup_size x y z) = (tt, three (exp_node x) (if_exp y) (if_exp z) (exp_fine x) (if_exp_fine y) (if_exp_fine z))
attribute_fine a.vertex = (tt, tt)
attribute_fine a.fragment = (tt, tt)
attribute_fine a.compute = (tt, tt)
attribute_fine a.publish = (tt, tt)
attribute_fine (a.if_true x) = (tt, tt)
attribute_fine (a.else_if x) = (tt, tt)
attribute_fine a.otherwise = (tt, tt)
attribute_fine (a.custom x None) = (tt, tt)
attribute_fine (a.custom x (Some xs)) = (tt, one (list (map exp_node xs)) (tt, mapped exp_node exp_fine xs))

attributes_fine : (xs : List Attr) → Fine (attributes_node xs)
attributes_fine xs = (tt, mapped attribute_node attribute_fine xs)

-- ---- statements

simple_tidy : (x : Simple) → AreTidy (nodes (simple_nodes x))
simple_tidy (s.assignment attributes o x y) = (three (attributes_node attributes) (exp_node x) (exp_node y) (attributes_fine attributes) (exp_fine x) (exp_fine y), tt)
simple_tidy (s.increment attributes x) = (two (attributes_node attributes) (exp_node x) (attributes_fine attributes) (exp_fine x), tt)
simple_tidy (s.decrement attributes x) = (two (attributes_node attributes) (exp_node x) (attributes_fine attributes) (exp_fine x), tt)
simple_tidy (s.breaking attributes) = (one (attributes_node attributes) (attributes_fine attributes), tt)
simple_tidy (s.continuing attributes) = (one (attributes_node attributes) (attributes_fine attributes), tt)
simple_tidy (s.returning attributes value) = (two (attributes_node attributes) (if_exp value) (attributes_fine attributes) (if_exp_fine value), tt)
simple_tidy (s.discarding attributes) = (one (attributes_node attributes) (attributes_fine attributes), tt)
simple_tidy (s.calling attributes type xs) =
    (with_one (attributes_node attributes) (cons (type_node type) (exp_nodes xs)) (attributes_fine attributes) (with_one (type_node type) (exp_nodes xs) (type_fine type) (exps_fine xs)), tt)
simple_tidy (s.asserting attributes x) = (two (attributes_node attributes) (exp_node x) (attributes_fine attributes) (exp_fine x), tt)
simple_tidy (s.declaring attributes kind x type value) =
    (three (attributes_node attributes) (if_type type) (if_exp value) (attributes_fine attributes) (if_type_fine type) (if_exp_fine value), (tt, tt))

selector_fine : (x : Selector) → Fine (selector_node x)
selector_fine s.default_selector = (tt, tt)
selector_fine (s.selected x) = exp_fine x

break_tidy : (b : Option BreakIf) → AreTidy (if_break b)
break_tidy None = tt
break_tidy (Some b) = (two (attributes_node b.attributes) (exp_node b.condition) (attributes_fine b.attributes) (exp_fine b.condition), tt)

-- a scope in a list
scoped : (inside : Nodes) → AreTidy inside → Fine (scope inside)
scoped inside h = (tt, h)

mutual
  statement_tidy : (x : Stm) → AreTidy (statement_nodes x)
  statement_tidy (t.simple x) = simple_tidy x
  statement_tidy (t.compound_statement b) = ((block_fine b).1, tt)
  statement_tidy (t.if_statement attributes x b elses) = (
    with_one (attributes_node attributes) (cons (exp_node x) (cons (block_node b) (cons (elses_node elses) nil))) (attributes_fine attributes)
        (three (exp_node x) (block_node b) (elses_node elses) (exp_fine x) (block_fine b) (elses_fine elses)),
    tt,
  )
  statement_tidy (t.switch_statement attributes x body_attributes clauses) = (
    with_one (attributes_node attributes) (cons (exp_node x) (cons (attributes_node body_attributes) (clause_nodes clauses))) (attributes_fine attributes)
        (with_one (exp_node x) (cons (attributes_node body_attributes) (clause_nodes clauses)) (exp_fine x)
        (with_one (attributes_node body_attributes) (clause_nodes clauses) (attributes_fine body_attributes) (clauses_fine clauses))),
    tt,
  )
  statement_tidy (t.loop_statement attributes b continuing) =
      (with_one (attributes_node attributes) (loop_nodes b (continuing_node continuing)) (attributes_fine attributes) (loop_fine b (continuing_node continuing) (continuing_fine continuing)), tt)
  statement_tidy (t.for_statement attributes initializer condition update b) = (
    two (attributes_node attributes) (scope (then_nodes (part_nodes initializer) (cons (if_exp condition) (then_nodes (part_nodes update) (inside_nodes b))))) (attributes_fine attributes) (
      tt,
      then_tidy (part_nodes initializer) (cons (if_exp condition) (then_nodes (part_nodes update) (inside_nodes b))) (part_tidy initializer)
          ((if_exp_fine condition).1, then_tidy (part_nodes update) (inside_nodes b) (part_tidy update) (inside_tidy b)),
    ),
    tt,
  )
  statement_tidy (t.while_statement attributes x b) =
      (three (attributes_node attributes) (exp_node x) (block_node b) (attributes_fine attributes) (exp_fine x) (block_fine b), tt)

  statements_tidy : (xs : Stms) → AreTidy (statements_nodes xs)
  statements_tidy t.nil = tt
  statements_tidy (t.cons x rest) = then_tidy (statement_nodes x) (statements_nodes rest) (statement_tidy x) (statements_tidy rest)

  block_fine : (b : Block) → Fine (block_node b)
  block_fine (t.block attributes xs) = (tt, two (attributes_node attributes) (scope (statements_nodes xs)) (attributes_fine attributes) (scoped (statements_nodes xs) (statements_tidy xs)))

  inside_tidy : (b : Block) → AreTidy (inside_nodes b)
  inside_tidy (t.block attributes xs) = ((attributes_fine attributes).1, statements_tidy xs)

  elses_fine : (x : Elses) → Fine (elses_node x)
  elses_fine t.no_else = (tt, tt)
  elses_fine (t.else_clause b) = (tt, one (block_node b) (block_fine b))
  elses_fine (t.else_if_clause x b more) = (tt, three (exp_node x) (block_node b) (elses_node more) (exp_fine x) (block_fine b) (elses_fine more))

  clauses_fine : (x : Clauses) → AreTidyParts (clause_nodes x)
  clauses_fine t.no_clauses = tt
  clauses_fine (t.switch_clause selectors b more) =
      with_one (node l.switch_clause (cons (list (map selector_node selectors)) (cons (block_node b) nil))) (clause_nodes more)
      (tt, two (list (map selector_node selectors)) (block_node b) (tt, mapped selector_node selector_fine selectors) (block_fine b)) (clauses_fine more)

  loop_fine : (b : Block) (n : Node) → Fine n → AreTidyParts (loop_nodes b n)
  loop_fine (t.block attributes xs) n h =
      two (attributes_node attributes) (scope (then_nodes (statements_nodes xs) (cons n nil))) (attributes_fine attributes) (tt, then_tidy (statements_nodes xs) (cons n nil) (statements_tidy xs) (h.1, tt))

  continuing_fine : (x : Continuing) → Fine (continuing_node x)
  continuing_fine t.no_continuing = (tt, tt)
  continuing_fine (t.continuing_statement attributes (t.block block_attributes xs) breaks) = (
    tt,
    three (attributes_node attributes) (attributes_node block_attributes) (scope (then_nodes (statements_nodes xs) (if_break breaks))) (attributes_fine attributes) (attributes_fine block_attributes)
        (tt, then_tidy (statements_nodes xs) (if_break breaks) (statements_tidy xs) (break_tidy breaks)),
  )

  part_tidy : (x : Part) → AreTidy (part_nodes x)
  part_tidy t.absent = tt
  part_tidy (t.present x) = statement_tidy x

-- ---- declarations

member_fine : (x : Member) → Fine (member_node x)
member_fine x = (tt, two (attributes_node x.attributes) (type_node x.type) (attributes_fine x.attributes) (type_fine x.type))

parameter_fine : (x : Param) → Fine (parameter_node x)
parameter_fine x = (tt, two (attributes_node x.attributes) (type_node x.type) (attributes_fine x.attributes) (type_fine x.type))

locals_tidy : (xs : List Param) → AreTidy (nodes (map (λ p. local p.name) xs))
locals_tidy [] = tt
locals_tidy (x ∷ xs) = (tt, locals_tidy xs)

pub declarations_are_tidy : DeclarationsAreTidy
declarations_are_tidy (d.variable attributes kind x type value) =
    (tt, three (attributes_node attributes) (if_type type) (if_exp value) (attributes_fine attributes) (if_type_fine type) (if_exp_fine value))
declarations_are_tidy (d.alias attributes x type) = (tt, two (attributes_node attributes) (type_node type) (attributes_fine attributes) (type_fine type))
declarations_are_tidy (d.structure attributes x members) =
    (tt, with_one (attributes_node attributes) (nodes (map member_node members)) (attributes_fine attributes) (mapped member_node member_fine members))
declarations_are_tidy (d.function attributes x parameters result_attributes result (t.block body_attributes xs)) =
    let inside : Nodes = then_nodes (nodes (map (λ p. local p.name) parameters)) (statements_nodes xs) in (
      tt,
      with_one (attributes_node attributes) (cons (list (map parameter_node parameters)) (cons (attributes_node result_attributes) (cons (if_type result) (cons (attributes_node body_attributes) (cons (scope inside) nil)))))
          (attributes_fine attributes)
          (with_one (list (map parameter_node parameters)) (cons (attributes_node result_attributes) (cons (if_type result) (cons (attributes_node body_attributes) (cons (scope inside) nil)))) (tt, mapped parameter_node parameter_fine parameters)
          (with_one (attributes_node result_attributes) (cons (if_type result) (cons (attributes_node body_attributes) (cons (scope inside) nil))) (attributes_fine result_attributes)
          (three (if_type result) (attributes_node body_attributes) (scope inside) (if_type_fine result) (attributes_fine body_attributes)
          (tt, then_tidy (nodes (map (λ p. local p.name) parameters)) (statements_nodes xs) (locals_tidy parameters) (statements_tidy xs))))),
    )
declarations_are_tidy (d.assertion attributes x) = (tt, two (attributes_node attributes) (exp_node x) (attributes_fine attributes) (exp_fine x))
