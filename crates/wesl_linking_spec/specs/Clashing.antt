-- Names of the linked unit that are read otherwise than meant, where the unit is read by scope alone; the first of them in the order of the
-- unit's text. A directive that is left out, since an equal one stands before it, is not read.
use Rattle.std.specs.Prelude.{◌≡◌, ◌≢◌, ℕ, List, [], ◌∷◌, ◌++◌, map, slice_get, Option, Some, None, true, false}
use Rattle.std.specs.List.{Contains}
use Rattle.wgsl_skeleton.specs.ImportsTree.{Directive}
use Rattle.wgsl_skeleton.specs.DeclarationsTree.{Decl, UnitTree}
use Rattle.wgsl_skeleton.specs.Skeleton.{Node, node, cons}
use Rattle.wgsl_skeleton.specs.Occurrences.{Occurrence, occurrences, all_occurrences, is_among, denotes_local}
use Rattle.wgsl_skeleton.specs.Trees.{declaration_node}
use Rattle.wesl_chains.specs.Outlines.{Name, Path, Outline}
use Rattle.wesl_chains.specs.Senses.{sense, free}
use Rattle.wesl_chains.specs.Chains.{declared_at, Denotes}
use Rattle.wesl_linking_spec.specs.Outlining.{as_use, directive_node, name_of, outline_of}
use Rattle.wesl_linking_spec.specs.Sources.{canonical, Modules, unit_at, finder}
use Rattle.wesl_linking_spec.specs.Written.{Mangler, printed}
use Rattle.wesl_linking_spec.specs.Linked.{DeclarationId}

-- the first of a list that clashes does so as this name
pub record IsFirst {A : Type 0} (C : A → Name → Type 0) (xs : List A) (y : Name) : Type 0 where
  pub before : List A
  pub one : A
  pub behind : List A
  pub whole : xs ≡ before ++ one ∷ behind
  pub none_before : (a : A) (z : Name) → Contains before a → C a z → ⊥
  pub clashes : C one y

-- a name that stands in a directive or a declaration: an occurrence, or the name that is declared there
pub data Mention : Type 0 where
  occurs : Occurrence → Mention
  declares : Mention

abbrev pub declared_mention : Option Name → List Mention
declared_mention None = []
declared_mention (Some x) = declares ∷ []

-- In text order: the attributes, which are the first part of a declaration's skeleton, the declared name, what stands behind it.
abbrev pub mentions_of : Option Name → Node → List Mention
mentions_of x (node label (cons attributes rest)) = map occurs (occurrences [] attributes) ++ declared_mention x ++ map occurs (all_occurrences [] rest)
mentions_of x n = map occurs (occurrences [] n)

abbrev pub directive_mentions : Directive → List Mention
directive_mentions d = map occurs (occurrences [] (directive_node d))

abbrev pub declaration_mentions : Decl → List Mention
declaration_mentions d = mentions_of (name_of d) (declaration_node d)

-- of each place of a unit
abbrev pub unit_mentions : UnitTree → List (List Mention)
unit_mentions u = map directive_mentions u.directives ++ map declaration_mentions u.declarations

module _ (ms : Modules) (root : Path) (mangler : Mangler) (held : Path → ℕ → Type 0) where
  -- two held declarations have this printed name
  pub record IsShared (y : Name) : Type 0 where
    pub one : DeclarationId
    pub another : DeclarationId
    pub differ : one ≢ another
    pub one_held : held one.0 one.1
    pub another_held : held another.0 another.1
    pub one_printed : printed ms root mangler one.0 one.1 ≡ Some y
    pub another_printed : printed ms root mangler another.0 another.1 ≡ Some y

  -- a held declaration has it
  pub record IsTaken (y : Name) : Type 0 where
    pub spot : DeclarationId
    pub is_held : held spot.0 spot.1
    pub its_name : printed ms root mangler spot.0 spot.1 ≡ Some y

  -- An occurrence clashes as this name: it denotes a declaration whose printed name is shared, or hidden by a local that is in scope
  -- there; or it is free, and some declaration takes its name.
  pub data Clashes (m : Path) (o : Outline) (c : Occurrence) (y : Name) : Type 0 where
    shared : {ps : List Path} {n : Path} {j : ℕ} → denotes_local c ≡ false → Denotes (finder ms) m o (as_use c) ps (declared_at n j)
        → printed ms root mangler n j ≡ Some y → IsShared y → Clashes m o c y
    hidden : {ps : List Path} {n : Path} {j : ℕ} → denotes_local c ≡ false → Denotes (finder ms) m o (as_use c) ps (declared_at n j)
        → printed ms root mangler n j ≡ Some y → is_among y c.locals ≡ true → Clashes m o c y
    captured : denotes_local c ≡ false → sense o (as_use c) ≡ free → IsTaken y → y ≡ c.name → Clashes m o c y

  -- an occurrence clashes, or the printed name of the declaration at the place is shared
  pub data MentionClashes (m : Path) (k : ℕ) (o : Outline) : Mention → Name → Type 0 where
    an_occurrence : {c : Occurrence} {y : Name} → Clashes m o c y → MentionClashes m k o (occurs c) y
    own_name : {y : Name} → printed ms root mangler m k ≡ Some y → IsShared y → MentionClashes m k o declares y

  -- a place of a module, by its first mention that clashes
  pub record SpotClashes (p : DeclarationId) (y : Name) : Type 0 where
    pub unit : UnitTree
    pub is_module : unit_at ms p.0 ≡ Some unit
    pub mentions : List Mention
    pub stands : slice_get (unit_mentions unit) p.1 ≡ Some mentions
    pub first : IsFirst (MentionClashes p.0 p.1 (outline_of (canonical p.0) unit)) mentions y

  -- the first clash of a unit that comes from these spots
  abbrev pub IsFirstClash : List DeclarationId → Name → Type 0
  IsFirstClash origins y = IsFirst SpotClashes origins y

  abbrev pub NoneClashes : List DeclarationId → Type 0
  NoneClashes origins = (p : DeclarationId) (y : Name) → Contains origins p → SpotClashes p y → ⊥
