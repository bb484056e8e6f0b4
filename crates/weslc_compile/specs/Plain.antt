-- Compiled texts, whatever the modules use.
use Rattle.std.specs.Prelude.{◌≡◌, ℕ, List, [], Bool, true, false, not}
use Rattle.std.specs.List.{All}
use Rattle.wgsl_declarations.specs.Tree.{Decl, variable, alias, structure, function, assertion, UnitTree}
use Rattle.wgsl_lower.specs.Lowered.{is_const}
use Rattle.weslc_calls.specs.Derivable.{SaysTree}

-- a variable, an override, a structure or a function: no const, alias or assertion
abbrev pub stays : Decl → Bool
stays (variable attributes kind name type value) = not (is_const kind)
stays (alias attributes name type) = false
stays (structure attributes name members) = true
stays (function attributes name params result_attributes result body) = true
stays (assertion attributes x) = false

-- The text is read as a module, which has no imports, and of whose declarations none is a const, an alias or an assertion.
pub record IsPlain (text : List ℕ) : Type 0 where
  pub unit : UnitTree
  pub says : SaysTree text unit
  pub no_imports : unit.imports ≡ []
  pub all_stay : All (λ d. stays d ≡ true) unit.declarations
