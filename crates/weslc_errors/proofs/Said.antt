-- What a text says, where it is parsed: it says nothing else.
use Rattle.std.proofs.Common.{◌≡◌, refl, ap, List, ℕ, Option, Some}
use Rattle.wgsl_token.specs.declared.fault.error.Error.{Error}
use Rattle.core_syntax.specs.Tree.{UnitTree}
use Rattle.core_laws.specs.ParserTexts.{IsModuleFault}
use Rattle.core_laws.proofs.Once.{module_fault_once}
use Rattle.core_unit.specs.Texts.{IsUnitOfCore, IsBeyondCore}
use Rattle.core_unit.proofs.Whole.{texts_have_one_unit, texts_are_one_thing}
use Rattle.wesl_resolve.specs.Found.{Answer, unit_of, not_found, faulty, unsupported}
use Rattle.weslc_errors.specs.Stored.{Says, SaysOnly, found_in}

-- what a text says is found where it was added
found_there : (o : Option (List ℕ)) (text : List ℕ) (a : Answer) → o ≡ Some text → SaysOnly text a → found_in o a
found_there o text a is only = rw is only

module _ (text : List ℕ) where
  says_unit : (u : UnitTree) → IsUnitOfCore text u → SaysOnly text (unit_of u)
  says_unit u is = record { says = is; only = only }
    where
      only : (b : Answer) → Says text b → b ≡ unit_of u
      only (unit_of v) other = ap unit_of (texts_have_one_unit text v u other.is_text is.is_text)
      only not_found none = absurd none
      only (faulty e) fault = absurd (texts_are_one_thing.1 text u e is fault)
      only unsupported beyond = absurd (texts_are_one_thing.0 text u is beyond)

  says_fault : (error : Error) → IsModuleFault text error → SaysOnly text (faulty error)
  says_fault error is = record { says = is; only = only }
    where
      only : (b : Answer) → Says text b → b ≡ faulty error
      only (unit_of v) other = absurd (texts_are_one_thing.1 text v error other is)
      only not_found none = absurd none
      only (faulty e) fault = ap faulty (module_fault_once text error e is fault)
      only unsupported beyond = absurd (texts_are_one_thing.2 text error beyond is)

  says_unsupported : IsBeyondCore text → SaysOnly text unsupported
  says_unsupported is = record { says = is; only = only }
    where
      only : (b : Answer) → Says text b → b ≡ unsupported
      only (unit_of v) other = absurd (texts_are_one_thing.0 text v other is)
      only not_found none = absurd none
      only (faulty e) fault = absurd (texts_are_one_thing.2 text e is fault)
      only unsupported again = refl

  module _ (o : Option (List ℕ)) (added : o ≡ Some text) where
    pub unit_there : (u : UnitTree) → IsUnitOfCore text u → found_in o (unit_of u)
    unit_there u is = found_there o text (unit_of u) added (says_unit u is)

    pub fault_there : (error : Error) → IsModuleFault text error → found_in o (faulty error)
    fault_there error is = found_there o text (faulty error) added (says_fault error is)

    pub unsupported_there : IsBeyondCore text → found_in o unsupported
    unsupported_there is = found_there o text unsupported added (says_unsupported is)
