-- What names declare and what they denote in a unit of one module (WGSL, "Declaration and Scope").
use Rattle.std.specs.Prelude.{ℕ, List, [], ◌∷◌, ◌++◌, map, length, ◌+◌, position, Option, Some, None, if◌then◌else◌}
use Rattle.std.specs.List.{flat_map}
use Rattle.std.specs.Str.{bytes_eq}
use Rattle.wgsl_path.specs.declared.path.ModulePath.{ModulePath}
use Rattle.core_syntax.specs.Tree.{Exp, literal, parenthesized, unary, binary, call, named, Exps, nil, cons, Typ, simple, templated, Attr, fragment, location, Stm, returning, Block, Param, Decl, variable, function, UnitTree}
use Rattle.core_syntax.specs.Names.{declared_name}
-- another name for it, which crates above use
pub use Rattle.core_syntax.specs.Names.{declared_name as name_of}
pub use Rattle.wgsl_words.specs.Names.{Name, is_in}
use Rattle.core_validate.specs.declared.place.Meaning.{Meaning}
use Rattle.core_validate.specs.declared.place.Meaning.TheVariants.{Local, Global, Free}
use Rattle.core_validate.specs.declared.place.Place.{Place}
use Rattle.core_validate.specs.declared.place.Row.{Row}

-- ---- what is declared

-- the names of a function's parameters
abbrev pub parameters_of : Decl → List Name
parameters_of (variable attributes kind name type initializer) = []
parameters_of (function attributes name parameters result_attributes result body) = map (λ p. p.name) parameters

-- the names that a unit declares, in text order
abbrev pub names : UnitTree → List Name
names unit = map declared_name unit.declarations

-- ---- what a name denotes

abbrev pub global_or_free : Option ℕ → Meaning
global_or_free (Some position) = Global position
global_or_free None = Free

-- The nearest local of that name, else the unit's first declaration of that name, by its position in the unit; else the
-- name is free. `global` says where the unit declares a name.
abbrev pub denoted : (Name → Option ℕ) → List Name → Name → Meaning
denoted global locals x = if is_in x locals then Local else global_or_free (global x)

-- ---- where names occur

abbrev pub count : Exps → ℕ
count nil = 0
count (cons e es) = 1 + count es

-- Each occurrence of a name in text order, with what it denotes: types, callees (with how many arguments) and identifiers.
-- A callee stands before its arguments. A name behind the path of another module is no name of this unit.
module _ (global : Name → Option ℕ) (locals : List Name) where
  abbrev pub place_of : Name → Option ℕ → Place
  place_of x arguments = record { name = x; arguments = arguments; meaning = denoted global locals x }

  abbrev pub name_places : Option ModulePath → Name → Option ℕ → List Place
  name_places None x arguments = place_of x arguments ∷ []
  name_places (Some path) x arguments = []

  abbrev mutual
    pub exp_places : Exp → List Place
    exp_places (literal l) = []
    exp_places (parenthesized e) = exp_places e
    exp_places (unary operator e) = exp_places e
    exp_places (binary operator a b) = exp_places a ++ exp_places b
    exp_places (call callee arguments) = type_places (Some (count arguments)) callee ++ all_places arguments
    exp_places (named t) = type_places None t

    pub all_places : Exps → List Place
    all_places nil = []
    all_places (cons e es) = exp_places e ++ all_places es

    pub type_places : Option ℕ → Typ → List Place
    type_places arguments (simple path x) = name_places path x arguments
    type_places arguments (templated path x es) = name_places path x arguments ++ all_places es

  abbrev pub attribute_places : Attr → List Place
  attribute_places fragment = []
  attribute_places (location e) = exp_places e

  abbrev pub attributes_places : List Attr → List Place
  attributes_places = flat_map attribute_places

  abbrev pub maybe_type_places : Option Typ → List Place
  maybe_type_places None = []
  maybe_type_places (Some t) = type_places None t

  abbrev pub maybe_exp_places : Option Exp → List Place
  maybe_exp_places None = []
  maybe_exp_places (Some e) = exp_places e

  abbrev pub statement_places : Stm → List Place
  statement_places (returning attributes value) = attributes_places attributes ++ maybe_exp_places value

  abbrev pub parameter_places : Param → List Place
  parameter_places p = attributes_places p.attributes ++ type_places None p.type

-- All of a function but its body is read in module scope.
abbrev pub head_places : (Name → Option ℕ) → List Attr → List Param → List Attr → Option Typ → List Place
head_places global attributes parameters result_attributes result =
    attributes_places global [] attributes ++ flat_map (parameter_places global []) parameters
    ++ attributes_places global [] result_attributes ++ maybe_type_places global [] result

-- The parameters are in scope in the body, its attributes included.
abbrev pub body_places : (Name → Option ℕ) → List Name → Block → List Place
body_places global locals body = attributes_places global locals body.attributes ++ flat_map (statement_places global locals) body.statements

-- the occurrences in a declaration
abbrev pub decl_places : (Name → Option ℕ) → Decl → List Place
decl_places global (variable attributes kind name type initializer) =
    attributes_places global [] attributes ++ maybe_type_places global [] type ++ maybe_exp_places global [] initializer
decl_places global (function attributes name parameters result_attributes result body) =
    head_places global attributes parameters result_attributes result ++ body_places global (map (λ p. p.name) parameters) body

-- where a unit declares a name first
abbrev pub global_of : UnitTree → Name → Option ℕ
global_of unit x = position (bytes_eq x) (names unit)

-- how many parameters a function has; a value has none
abbrev pub arity : Decl → Option ℕ
arity (variable attributes kind name type initializer) = None
arity (function attributes name parameters result_attributes result body) = Some (length parameters)

-- what a declaration declares, and what occurs in it
abbrev pub row_of : (Name → Option ℕ) → Decl → Row
row_of global d = record { name = declared_name d; parameters = arity d; places = decl_places global d }

abbrev pub rows : UnitTree → List Row
rows unit = map (row_of (global_of unit)) unit.declarations
