-- The one unit that loaded modules are linked into, and the first of its names that is read otherwise than meant.
use Rattle.std.specs.Prelude.{◌≡◌, ◌≢◌, List, [], ◌∷◌, ◌++◌, map, Some, None, if◌then◌else◌, ◌↔◌, IsTrue}
use Rattle.std.specs.Option.{option_map}
use Rattle.std.specs.List.{Contains}
use Rattle.wgsl_path.specs.Paths.{path_text}
use Rattle.core_syntax.specs.Tree.{Exp, literal, parenthesized, unary, binary, call, named, Exps, nil, cons, Typ, simple, templated, Attr, fragment, location, Stm, returning, Block, Param, Decl, variable, function, UnitTree}
use Rattle.core_syntax.specs.Names.{declared_name}
use Rattle.core_link_spec.specs.Occurrences.{Name, is_among, parameter_names}
use Rattle.core_link_spec.specs.Modules.{Path, Symbol, Modules, IsModule, IsFree, Denotes, Reached}
use Rattle.core_link_spec.specs.Names.{IsPrinted}
use Rattle.core_link_spec.specs.Rounds.{IsAscending}

-- Renaming: every name that no local hides takes its new one

module _ (new : Name → Name) where
  abbrev pub new_name : List Name → Name → Name
  new_name locals x = if is_among x locals then x else new x

  abbrev mutual
    pub renamed : List Name → Exp → Exp
    renamed locals (literal l) = literal l
    renamed locals (parenthesized x) = parenthesized (renamed locals x)
    renamed locals (unary o x) = unary o (renamed locals x)
    renamed locals (binary o x y) = binary o (renamed locals x) (renamed locals y)
    renamed locals (call t xs) = call (renamed_type locals t) (all_renamed locals xs)
    renamed locals (named t) = named (renamed_type locals t)

    pub all_renamed : List Name → Exps → Exps
    all_renamed locals nil = nil
    all_renamed locals (cons x xs) = cons (renamed locals x) (all_renamed locals xs)

    pub renamed_type : List Name → Typ → Typ
    renamed_type locals (simple None x) = simple None (new_name locals x)
    renamed_type locals (simple (Some path) x) = simple (Some path) x
    renamed_type locals (templated None x arguments) = templated None (new_name locals x) (all_renamed locals arguments)
    renamed_type locals (templated (Some path) x arguments) = templated (Some path) x (all_renamed locals arguments)

  abbrev pub renamed_attribute : List Name → Attr → Attr
  renamed_attribute locals fragment = fragment
  renamed_attribute locals (location x) = location (renamed locals x)

  abbrev pub renamed_attributes : List Name → List Attr → List Attr
  renamed_attributes locals attributes = map (renamed_attribute locals) attributes

  abbrev pub renamed_statement : List Name → Stm → Stm
  renamed_statement locals (returning attributes x) = returning (renamed_attributes locals attributes) (option_map (renamed locals) x)

  abbrev pub renamed_block : List Name → Block → Block
  renamed_block locals b = record { attributes = renamed_attributes locals b.attributes; statements = map (renamed_statement locals) b.statements }

  abbrev pub renamed_parameter : Param → Param
  renamed_parameter p = record { attributes = renamed_attributes [] p.attributes; name = p.name; type = renamed_type [] p.type }

  -- a declaration under its new name
  abbrev pub renamed_declaration : Decl → Decl
  renamed_declaration (variable attributes kind x type initializer) =
      variable (renamed_attributes [] attributes) kind (new x) (option_map (renamed_type []) type) (option_map (renamed []) initializer)
  renamed_declaration (function attributes x parameters return_attributes type body) =
      function (renamed_attributes [] attributes) (new x) (map renamed_parameter parameters) (renamed_attributes [] return_attributes)
      (option_map (renamed_type []) type) (renamed_block (parameter_names parameters) body)

-- the new names of a module: what denotes a symbol takes the symbol's printed name, and what is free stays
pub record IsNaming (modules : Modules) (root m : Path) (new : Name → Name) : Type 0 where
  pub denoting : (x : Name) (s : Symbol) → Denotes modules m x s → IsPrinted modules root s (new x)
  pub free : (x : Name) → IsFree modules m x → new x ≡ x

-- What is held

-- the elements of a list that some fact is true of, in its order
pub data Selects {A : Type 0} (P : A → Type 0) : List A → List A → Type 0 where
  nothing_left : Selects P [] []
  takes : {x : A} {xs ys : List A} → P x → Selects P xs ys → Selects P (x ∷ xs) (x ∷ ys)
  leaves : {x : A} {xs ys : List A} → (P x → ⊥) → Selects P xs ys → Selects P (x ∷ xs) ys

-- the loaded modules in the order of the linked unit: the root, then the others in byte order of their printed paths
pub record IsInOrder (modules : Modules) (root : Path) (order : List Path) : Type 0 where
  pub others : List Path
  pub root_first : order ≡ root ∷ others
  pub ascending : IsAscending others
  pub not_root : Contains others root → ⊥
  pub each : (p : Path) → Contains order p ↔ Contains (map (λ m. path_text m.0) modules) p

module _ (modules : Modules) (root : Path) (keep : List Name) where
  -- a module's held declarations, in text order, each under its printed name and with every occurrence renamed
  pub record IsLinkedModule (m : Path) (declarations : List Decl) : Type 0 where
    pub unit : UnitTree
    pub is_module : IsModule modules m unit
    pub new : Name → Name
    pub naming : IsNaming modules root m new
    pub held : List Decl
    pub selected : Selects (λ d. Reached modules root keep (record { home = m; name = declared_name d })) unit.declarations held
    pub whole : declarations ≡ map (renamed_declaration new) held

  pub data AreLinkedModules : List Path → List Decl → Type 0 where
    no_module : AreLinkedModules [] []
    a_module : {m : Path} {ms : List Path} {ds es : List Decl} → IsLinkedModule m ds → AreLinkedModules ms es → AreLinkedModules (m ∷ ms) (ds ++ es)

  -- the linked unit: no imports, and what is held
  pub record IsLinked (unit : UnitTree) : Type 0 where
    pub no_imports : unit.imports ≡ []
    pub order : List Path
    pub in_order : IsInOrder modules root order
    pub declares : AreLinkedModules order unit.declarations

  -- Names that are read otherwise than meant

  -- two held symbols have this printed name
  pub record IsShared (name : Name) : Type 0 where
    pub one : Symbol
    pub other : Symbol
    pub differ : one ≢ other
    pub one_held : Reached modules root keep one
    pub other_held : Reached modules root keep other
    pub one_printed : IsPrinted modules root one name
    pub other_printed : IsPrinted modules root other name

  -- some held symbol has this printed name
  pub record IsTaken (name : Name) : Type 0 where
    pub symbol : Symbol
    pub held : Reached modules root keep symbol
    pub printed : IsPrinted modules root symbol name

  -- An occurrence with these locals clashes as this name: it denotes a symbol whose printed name is shared, or hidden by a
  -- local; or it is free, and some symbol takes its name.
  pub data Clashes (m : Path) (locals : List Name) (x : Name) : Name → Type 0 where
    shared : {s : Symbol} {y : Name} → Denotes modules m x s → IsPrinted modules root s y → IsShared y → Clashes m locals x y
    hidden : {s : Symbol} {y : Name} → Denotes modules m x s → IsPrinted modules root s y → IsTrue (is_among y locals) → Clashes m locals x y
    captured : IsFree modules m x → IsTaken x → Clashes m locals x x
