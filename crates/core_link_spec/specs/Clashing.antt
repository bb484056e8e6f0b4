-- The first name of the linked unit that is read otherwise than meant (our order: that of the linked unit's text).
use Rattle.std.specs.Prelude.{◌≡◌, List, [], ◌∷◌, ◌++◌, map}
use Rattle.std.specs.List.{Contains}
use Rattle.core_syntax.specs.Tree.{Decl, UnitTree}
use Rattle.core_syntax.specs.Names.{declared_name}
use Rattle.core_link_spec.specs.Occurrences.{Name, names_before, names_behind, names_in_body, locals}
use Rattle.core_link_spec.specs.Modules.{Path, Symbol, Modules, IsModule, Reached}
use Rattle.core_link_spec.specs.Names.{IsPrinted}
use Rattle.core_link_spec.specs.Linked.{IsInOrder, IsShared, Clashes}

-- the first of a list that clashes does so as this name
pub record IsFirst {A : Type 0} (C : A → Name → Type 0) (xs : List A) (y : Name) : Type 0 where
  pub before : List A
  pub one : A
  pub behind : List A
  pub whole : xs ≡ before ++ one ∷ behind
  pub none_before : (a : A) (z : Name) → Contains before a → C a z → ⊥
  pub clashes : C one y

-- a name that stands in a declaration: an occurrence where these locals are in scope, or the name that it declares
pub data Mention : Type 0 where
  occurs : List Name → Name → Mention
  declares : Name → Mention

-- in text order: the attributes, the declared name, what stands behind it, the body
abbrev pub mentions : Decl → List Mention
mentions d = map (occurs []) (names_before d) ++ declares (declared_name d) ∷ (map (occurs []) (names_behind d) ++ map (occurs (locals d)) (names_in_body d))

module _ (modules : Modules) (root : Path) (keep : List Name) where
  -- an occurrence clashes, or the printed name of the declaration is shared
  pub data MentionClashes (m : Path) : Mention → Name → Type 0 where
    occurrence : {locals : List Name} {x y : Name} → Clashes modules root keep m locals x y → MentionClashes m (occurs locals x) y
    own : {x y : Name} → IsPrinted modules root (record { home = m; name = x }) y → IsShared modules root keep y → MentionClashes m (declares x) y

  -- a held declaration, by its first name that clashes
  pub record DeclarationClashes (m : Path) (d : Decl) (y : Name) : Type 0 where
    pub reached : Reached modules root keep (record { home = m; name = declared_name d })
    pub first : IsFirst (MentionClashes m) (mentions d) y

  -- a module, by its first declaration that clashes
  pub record ModuleClashes (m : Path) (y : Name) : Type 0 where
    pub unit : UnitTree
    pub is_module : IsModule modules m unit
    pub first : IsFirst (DeclarationClashes m) unit.declarations y

  -- the linked unit, by the first module that clashes
  pub record IsFirstClash (y : Name) : Type 0 where
    pub order : List Path
    pub in_order : IsInOrder modules root order
    pub first : IsFirst ModuleClashes order y
