-- The names that occur in a declaration (WGSL, "Declaration and Scope": a parameter is in scope in its function's body, and
-- the types and attributes of parameters and results are read in the scope of the module).
use Rattle.std.specs.Prelude.{ℕ, List, [], ◌∷◌, ◌++◌, map, Option, Some, None, Bool, if◌then◌else◌}
use Rattle.std.specs.List.{flat_map, list_any}
use Rattle.std.specs.Str.{bytes_eq}
pub use Rattle.core_syntax.specs.Names.{declared_name}
use Rattle.core_syntax.specs.Tree.{Exp, literal, parenthesized, unary, binary, call, named, Exps, nil, cons, Typ, simple, templated, Attr, fragment, location, Stm, returning, Block, Param, Decl, variable, function}

abbrev pub Name : Type 0
Name = List ℕ

abbrev pub is_among : Name → List Name → Bool
is_among x names = list_any (λ y. bytes_eq x y) names

-- the name, unless a local of that name hides it
abbrev pub unless_local : List Name → Name → List Name
unless_local locals x = if is_among x locals then [] else x ∷ []

-- In text order, the names that occur and that none of these locals hides. A name behind a path names its module itself.
abbrev mutual
  pub in_expression : List Name → Exp → List Name
  in_expression locals (literal l) = []
  in_expression locals (parenthesized x) = in_expression locals x
  in_expression locals (unary o x) = in_expression locals x
  in_expression locals (binary o x y) = in_expression locals x ++ in_expression locals y
  in_expression locals (call t xs) = in_type locals t ++ in_expressions locals xs
  in_expression locals (named t) = in_type locals t

  pub in_expressions : List Name → Exps → List Name
  in_expressions locals nil = []
  in_expressions locals (cons x xs) = in_expression locals x ++ in_expressions locals xs

  pub in_type : List Name → Typ → List Name
  in_type locals (simple None x) = unless_local locals x
  in_type locals (simple (Some path) x) = []
  in_type locals (templated None x arguments) = unless_local locals x ++ in_expressions locals arguments
  in_type locals (templated (Some path) x arguments) = in_expressions locals arguments

abbrev pub in_some : {A : Type 0} → (A → List Name) → Option A → List Name
in_some f (Some x) = f x
in_some f None = []

abbrev pub in_attribute : List Name → Attr → List Name
in_attribute locals fragment = []
in_attribute locals (location x) = in_expression locals x

abbrev pub in_attributes : List Name → List Attr → List Name
in_attributes locals attributes = flat_map (in_attribute locals) attributes

abbrev pub in_statement : List Name → Stm → List Name
in_statement locals (returning attributes x) = in_attributes locals attributes ++ in_some (in_expression locals) x

abbrev pub in_block : List Name → Block → List Name
in_block locals b = in_attributes locals b.attributes ++ flat_map (in_statement locals) b.statements

abbrev pub in_parameter : Param → List Name
in_parameter p = in_attributes [] p.attributes ++ in_type [] p.type

abbrev pub parameter_names : List Param → List Name
parameter_names parameters = map (λ p. p.name) parameters

-- the names that occur in a declaration before its own name: in its attributes
abbrev pub names_before : Decl → List Name
names_before (variable attributes kind x type initializer) = in_attributes [] attributes
names_before (function attributes x parameters return_attributes type body) = in_attributes [] attributes

-- those behind it, in the scope of the module
abbrev pub names_behind : Decl → List Name
names_behind (variable attributes kind x type initializer) = in_some (in_type []) type ++ in_some (in_expression []) initializer
names_behind (function attributes x parameters return_attributes type body) =
    flat_map in_parameter parameters ++ in_attributes [] return_attributes ++ in_some (in_type []) type

-- the locals of a declaration's body: a function's parameters
abbrev pub locals : Decl → List Name
locals (variable attributes kind x type initializer) = []
locals (function attributes x parameters return_attributes type body) = parameter_names parameters

-- those in its body, that none of its locals hides
abbrev pub names_in_body : Decl → List Name
names_in_body (variable attributes kind x type initializer) = []
names_in_body (function attributes x parameters return_attributes type body) = in_block (parameter_names parameters) body

-- the names that occur in a declaration and denote something beyond it, in text order
abbrev pub occurrences : Decl → List Name
occurrences d = names_before d ++ names_behind d ++ names_in_body d
