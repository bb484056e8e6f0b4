-- What a text says, where it is parsed: it says nothing else.
use Rattle.std.proofs.Common.{◌≡◌, refl, sym, ap, ◌∙◌, subst, ◌⊎◌, inl, inr, List, ℕ, Option, Some, None, Result, Err}
use Rattle.wgsl_path.specs.declared.path.ModulePath.{ModulePath}
use Rattle.wgsl_token.specs.declared.fault.error.Error.{Error}
use Rattle.wgsl_token.specs.Errors.{IsRefusal}
use Rattle.wgsl_declarations.specs.Tree.{UnitTree}
use Rattle.wgsl_declarations.specs.View.{unit_tree}
use Rattle.wgsl_read_back.specs.Texts.{IsModuleFault}
use Rattle.wgsl_read_back.proofs.Once.{module_fault_once, module_apart}
use Rattle.wgsl_read_back.proofs.One.{texts_have_one_module}
use Rattle.wesl_resolvers.specs.Found.{Answer, unit_of, not_found, faulty, conditioned, left_open, TellsUnit}
use Rattle.wesl_resolvers.specs.declared.error.ResolveError.{ResolveError}
use Rattle.wesl_resolvers.specs.declared.error.ResolveError.TheVariants.{ModuleNotFound, Syntax, GaveUp, Condition, ConditionLeft, OutOfMemory}
use Rattle.wesl_virtual_resolver.specs.Refused.{RefusedAs}
use Rattle.wesl_virtual_resolver.specs.Stored.{IsTextOf, Says, SaysOnly, found_in}

-- what a text says is found where it was added
found_there : (o : Option (List ℕ)) (text : List ℕ) (a : Answer) → o ≡ Some text → SaysOnly text a → found_in o a
found_there o text a is only = rw is only

module _ (text : List ℕ) where
  says_unit : (u : UnitTree) → IsTextOf text u → SaysOnly text (unit_of u)
  says_unit u is = record { says = is; only = only }
    where
      only : (b : Answer) → Says text b → b ≡ unit_of u
      only (unit_of v) other = ap unit_of (sym other.tree ∙ ap unit_tree (texts_have_one_module text other.unit is.unit other.parsed is.parsed) ∙ is.tree)
      only not_found none = absurd none
      only (faulty e) fault = absurd (module_apart text is.unit is.parsed e fault)
      only (conditioned e) none = absurd none
      only left_open none = absurd none

  says_fault : (error : Error) → IsModuleFault text error → SaysOnly text (faulty error)
  says_fault error is = record { says = is; only = only }
    where
      only : (b : Answer) → Says text b → b ≡ faulty error
      only (unit_of v) other = absurd (module_apart text other.unit other.parsed error is)
      only not_found none = absurd none
      only (faulty e) fault = ap faulty (module_fault_once text error e is fault)
      only (conditioned e) none = absurd none
      only left_open none = absurd none

  module _ (o : Option (List ℕ)) (added : o ≡ Some text) where
    pub unit_there : (u : UnitTree) → IsTextOf text u → found_in o (unit_of u)
    unit_there u is = found_there o text (unit_of u) added (says_unit u is)

    pub fault_there : (error : Error) → IsModuleFault text error → found_in o (faulty error)
    fault_there error is = found_there o text (faulty error) added (says_fault error is)

    -- what is told of a fault
    pub refused_there : (path : ModulePath) (e : Error) (told : ResolveError) → IsModuleFault text e ⊎ IsRefusal e → RefusedAs path e told → TellsUnit (found_in o) path (Err told)
    refused_there path e (Syntax p f) (inl fault) is = (is.0, subst (λ x. found_in o (faulty x)) (sym is.1) (fault_there e fault))
    refused_there path e (Syntax p f) (inr (r, gave_up)) is = let wrong : Some r ≡ None = sym gave_up ∙ is.2 in absurd (cc)
    refused_there path e (GaveUp p r) fault is = is
    refused_there path e OutOfMemory fault is = tt
    refused_there path e (ModuleNotFound p) fault is = absurd is
    refused_there path e (Condition p f) fault is = absurd is
    refused_there path e (ConditionLeft p) fault is = absurd is
