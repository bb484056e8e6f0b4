-- What the lowered unit declares.
use Rattle.std.specs.Prelude.{◌≡◌, List, [], ◌∷◌, map, Bool, true, false}
use Rattle.core_syntax.specs.Tree.{Decl, variable, function, UnitTree}
use Rattle.core_syntax.specs.Names.{declared_name}
use Rattle.core_link_spec.specs.Occurrences.{Name}
use Rattle.core_link_spec.specs.Modules.{Path, Symbol, Modules, Declares, IsDeclaration}
use Rattle.core_link_spec.specs.Rounds.{AreDistinct}
use Rattle.core_modules_meaning.specs.Declared.{IsHeldAs}
use Rattle.core_laws.specs.Compiled.{AreCompiled}

abbrev pub is_function : Decl → Bool
is_function (variable attributes kind x type e) = false
is_function (function attributes f parameters return_attributes type body) = true

-- the functions, in the order of the list
abbrev pub functions_of : List Decl → List Decl
functions_of [] = []
functions_of (variable attributes kind x type e ∷ ds) = functions_of ds
functions_of (function attributes f parameters return_attributes type body ∷ ds) = function attributes f parameters return_attributes type body ∷ functions_of ds

module _ (modules : Modules) (root : Path) (keep : List Name) where
  -- a symbol of a function
  pub record IsFunctionOf (s : Symbol) : Type 0 where
    pub declaration : Decl
    pub declares : IsDeclaration modules s declaration
    pub function : is_function declaration ≡ true

  -- the held functions, each once under its printed name, in the order of the linked unit: no other declaration and no import
  pub record DeclaresHeldFunctions (linked lowered : UnitTree) : Type 0 where
    pub no_imports : lowered.imports ≡ []
    pub functions : functions_of lowered.declarations ≡ lowered.declarations
    pub in_order : map declared_name lowered.declarations ≡ map declared_name (functions_of linked.declarations)
    pub each : (s : Symbol) (y : Name) → IsHeldAs modules root keep s y → IsFunctionOf s → Declares lowered y
    pub only : (y : Name) → Declares lowered y → (s : Symbol) × IsHeldAs modules root keep s y × IsFunctionOf s
    pub once : AreDistinct (map declared_name lowered.declarations)

abbrev pub CompiledUnitsDeclareHeldFunctions : Type 0
CompiledUnitsDeclareHeldFunctions = (modules : Modules) (root : Path) (keep : List Name) (lowered : UnitTree) (c : AreCompiled modules root keep lowered)
    → DeclaresHeldFunctions modules root keep c.linked lowered
