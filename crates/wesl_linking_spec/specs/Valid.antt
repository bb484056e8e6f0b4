-- The first fault of a linked unit that needs no values, over skeletons: faults of one kind before those of the next, each kind in text
-- order. A fault names its place in `nodes_of`: directives, then declarations. The unit is plain: names stand behind no paths.
use Rattle.std.specs.Prelude.{◌≡◌, ℕ, ◌+◌, ◌<◌, List, [], ◌∷◌, ◌++◌, map, length, slice_get, ◌==◌, ◌||◌, not, Option, Some, None, Bool, true, false, if◌then◌else◌}
use Rattle.std.specs.List.{Contains, filter, filter_map}
use Rattle.wesl_chains.specs.ModulePath.{ModulePath}
use Rattle.wgsl_skeleton.specs.ExpressionsTree.{Exps, simple, templated}
use Rattle.wgsl_skeleton.specs.AttributesTree.{Attr}
use Rattle.wgsl_skeleton.specs.DeclarationsTree.{Decl, variable, alias, structure, function, UnitTree}
use Rattle.wgsl_skeleton.specs.Skeleton as l
use Rattle.wgsl_skeleton.specs.Skeleton.{Node, occurrence, local, scope, node, Nodes, nil, cons}
use Rattle.wgsl_skeleton.specs.Occurrences.{Occurrence, behind, occurrences, is_among, denotes_local, outside}
use Rattle.wesl_cycles.specs.Rings.{IsFirstOnRing}
use Rattle.wesl_chains.specs.Outlines.{Name, Entry, is_named, place_from}
use Rattle.wesl_linking_spec.specs.Outlining.{name_of, entries_of, nodes_of}

-- the kinds of faults, in the order in which they are told
pub data FaultKind : Type 0 where
  duplicate undefined_symbol not_callable param_count cycle : FaultKind

-- ---- Duplicate: two locals of one scope, two members of one structure: the second is told

abbrev pub if_among : Name → List Name → List Name
if_among x seen = if is_among x seen then x ∷ [] else []

abbrev mutual
  pub duplicates : Node → List Name
  duplicates (occurrence path x arguments) = []
  duplicates (local x) = []
  duplicates (scope inside) = twice_in [] inside
  duplicates (node label inside) = all_duplicates inside

  pub all_duplicates : Nodes → List Name
  all_duplicates nil = []
  all_duplicates (cons n rest) = duplicates n ++ all_duplicates rest

  -- in a scope that has these locals so far
  pub twice_in : List Name → Nodes → List Name
  twice_in seen nil = []
  twice_in seen (cons (local x) rest) = if_among x seen ++ twice_in (x ∷ seen) rest
  twice_in seen (cons n rest) = duplicates n ++ twice_in seen rest

abbrev pub member_label : l.Label → List Name
member_label (l.member x) = x ∷ []
member_label _ = []

abbrev pub member_name : Node → List Name
member_name (node label inside) = member_label label
member_name _ = []

-- the members of a structure, in order
abbrev pub member_names : Nodes → List Name
member_names nil = []
member_names (cons n rest) = member_name n ++ member_names rest

-- those that stand a second time
abbrev pub again : List Name → List Name → List Name
again seen [] = []
again seen (x ∷ xs) = if_among x seen ++ again (x ∷ seen) xs

abbrev pub duplicates_of : Node → List Name
duplicates_of (node (l.structure x) inside) = again [] (member_names inside)
duplicates_of n = duplicates n

-- ---- UndefinedSymbol: what no local hides, nothing declares and the table lacks, outside of custom attributes

abbrev mutual
  -- as `occurrences`, but nothing in a custom attribute
  pub plain_uses : List Name → Node → List Occurrence
  plain_uses locals (occurrence path x arguments) = record { path = path; name = x; locals = locals } ∷ all_plain_uses locals arguments
  plain_uses locals (local x) = []
  plain_uses locals (scope inside) = all_plain_uses locals inside
  plain_uses locals (node (l.custom x) inside) = []
  plain_uses locals (node label inside) = all_plain_uses locals inside

  pub all_plain_uses : List Name → Nodes → List Occurrence
  all_plain_uses locals nil = []
  all_plain_uses locals (cons n rest) = plain_uses locals n ++ all_plain_uses (behind locals n) rest

abbrev pub without_path : Option ModulePath → Name → Option Name
without_path None x = Some x
without_path (Some path) x = None

-- the names that no local hides and that stand behind no path
abbrev pub outer_names : List Occurrence → List Name
outer_names os = filter_map (λ o. without_path o.path o.name) (outside os)

abbrev pub declared_names : UnitTree → List Name
declared_names u = filter_map name_of u.declarations

abbrev pub undefined_in : UnitTree → List Name → Node → List Name
undefined_in u table n = filter (λ x. not (is_among x (declared_names u) || is_among x table)) (outer_names (plain_uses [] n))

-- ---- NotCallable, ParamCount: what is called, with so many arguments, in the order of the callees

pub record Call : Type 0 where
  pub callee : Occurrence
  pub is_templated : Bool
  pub count : ℕ

abbrev pub is_some_node : Nodes → Bool
is_some_node nil = false
is_some_node (cons n rest) = true

abbrev pub node_count : Nodes → ℕ
node_count nil = 0
node_count (cons n rest) = node_count rest + 1

-- a callee and its arguments; `_` calls nothing, nor does a name behind a path
abbrev pub call_of : List Name → Node → Nodes → List Call
call_of locals (occurrence None x arguments) xs =
    record { callee = record { path = None; name = x; locals = locals }; is_templated = is_some_node arguments; count = node_count xs } ∷ []
call_of locals n xs = []

abbrev mutual
  pub calls : List Name → Node → List Call
  calls locals (node l.call (cons callee xs)) = call_of locals callee xs ++ calls locals callee ++ all_calls locals xs
  calls locals (node l.calling (cons attributes (cons callee xs))) = calls locals attributes ++ call_of locals callee xs ++ calls locals callee ++ all_calls locals xs
  calls locals (occurrence path x arguments) = all_calls locals arguments
  calls locals (local x) = []
  calls locals (scope inside) = all_calls locals inside
  calls locals (node label inside) = all_calls locals inside

  pub all_calls : List Name → Nodes → List Call
  all_calls locals nil = []
  all_calls locals (cons n rest) = calls locals n ++ all_calls (behind locals n) rest

-- the first declaration of a name
abbrev pub declaration_among : Name → List Decl → Option Decl
declaration_among x [] = None
declaration_among x (d ∷ ds) = if is_named x (name_of d) then Some d else declaration_among x ds

abbrev pub declaration_of : UnitTree → Name → Option Decl
declaration_of u x = declaration_among x u.declarations

abbrev pub is_alias : Decl → Bool
is_alias (alias attributes x type) = true
is_alias _ = false

abbrev pub is_variable : Decl → Bool
is_variable (variable attributes kind x type value) = true
is_variable _ = false

-- whether it may have so many arguments: a function exactly its parameters, a structure none or its members, anything else whatever it is given
abbrev pub accepts : Decl → ℕ → Bool
accepts (function attributes x parameters result_attributes result body) n = n == length parameters
accepts (structure attributes x members) n = (n == 0) || (n == length members)
accepts _ n = true

-- what a callee stands for: along aliases of names without template arguments; aliases in a ring stand for nothing
pub data StandsFor (u : UnitTree) : Name → Bool → Decl → Type 0 where
  itself : {x : Name} {t : Bool} {d : Decl} → declaration_of u x ≡ Some d → is_alias d ≡ false → StandsFor u x t d
  onward : {x y : Name} {attributes : List Attr} {d : Decl} → declaration_of u x ≡ Some (alias attributes x (simple None y)) → StandsFor u y false d → StandsFor u x false d
  behind_template : {x y : Name} {attributes : List Attr} {xs : Exps} {d : Decl} → declaration_of u x ≡ Some (alias attributes x (templated None y xs))
      → StandsFor u y true d → StandsFor u x false d

pub data IsMiscalled (u : UnitTree) (c : Call) : FaultKind → Type 0 where
  a_local : denotes_local c.callee ≡ true → IsMiscalled u c not_callable
  a_value : {d : Decl} → denotes_local c.callee ≡ false → StandsFor u c.callee.name c.is_templated d → is_variable d ≡ true → IsMiscalled u c not_callable
  a_count : {d : Decl} → denotes_local c.callee ≡ false → StandsFor u c.callee.name c.is_templated d → accepts d c.count ≡ false → IsMiscalled u c param_count

-- ---- Cycle: a chain of uses leads a declaration back to itself

-- the places that the names in a skeleton denote
abbrev pub row_of : UnitTree → Node → List ℕ
row_of u n = filter_map (λ x. place_from 0 x (entries_of u)) (outer_names (occurrences [] n))

abbrev pub rows : UnitTree → List (List ℕ)
rows u = map (row_of u) (nodes_of u)

-- the name that a place declares
pub record IsNameAt (u : UnitTree) (k : ℕ) (x : Name) : Type 0 where
  pub entry : Entry
  pub stands : slice_get (entries_of u) k ≡ Some entry
  pub name : entry.name ≡ Some x

-- ---- the first: the kinds in this order, each at its first place

-- of lists, one for each node: the first that has an element, by its first
pub record IsFirstIn {A : Type 0} (f : Node → List A) (ns : List Node) (k : ℕ) (x : A) : Type 0 where
  pub at : Node
  pub stands : slice_get ns k ≡ Some at
  pub more : List A
  pub first : f at ≡ x ∷ more
  pub none_before : (j : ℕ) (n : Node) → j < k → slice_get ns j ≡ Some n → f n ≡ []

abbrev pub Nowhere : {A : Type 0} → (Node → List A) → List Node → Type 0
Nowhere f ns = (n : Node) → Contains ns n → f n ≡ []

-- at a place, the call of this number is wrong
pub record IsMiscalledAt (u : UnitTree) (k i : ℕ) (c : Call) (e : FaultKind) : Type 0 where
  pub at : Node
  pub stands : slice_get (nodes_of u) k ≡ Some at
  pub calls_it : slice_get (calls [] at) i ≡ Some c
  pub miscalled : IsMiscalled u c e

pub record IsFirstMiscalled (u : UnitTree) (k : ℕ) (c : Call) (e : FaultKind) : Type 0 where
  pub number : ℕ
  pub is_wrong : IsMiscalledAt u k number c e
  pub none_before : (j i : ℕ) (b : Call) (z : FaultKind) → j < k → IsMiscalledAt u j i b z → ⊥
  pub none_there : (i : ℕ) (b : Call) (z : FaultKind) → i < number → IsMiscalledAt u k i b z → ⊥

abbrev pub NoneMiscalled : UnitTree → Type 0
NoneMiscalled u = (k i : ℕ) (c : Call) (e : FaultKind) → IsMiscalledAt u k i c e → ⊥

pub data IsFirstFault (u : UnitTree) (table : List Name) : FaultKind → ℕ → Name → Type 0 where
  is_duplicate : {k : ℕ} {x : Name} → IsFirstIn duplicates_of (nodes_of u) k x → IsFirstFault u table duplicate k x
  is_undefined : {k : ℕ} {x : Name} → Nowhere duplicates_of (nodes_of u) → IsFirstIn (undefined_in u table) (nodes_of u) k x → IsFirstFault u table undefined_symbol k x
  is_miscalled : {k : ℕ} {c : Call} {e : FaultKind} → Nowhere duplicates_of (nodes_of u) → Nowhere (undefined_in u table) (nodes_of u) → IsFirstMiscalled u k c e
      → IsFirstFault u table e k c.callee.name
  is_ring : {k : ℕ} {x : Name} → Nowhere duplicates_of (nodes_of u) → Nowhere (undefined_in u table) (nodes_of u) → NoneMiscalled u → IsFirstOnRing (rows u) k
      → IsNameAt u k x → IsFirstFault u table cycle k x
