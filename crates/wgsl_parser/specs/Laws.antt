-- That the parser's answer of a module's text is the only one.
use Rattle.std.specs.Prelude.{◌≡◌, ℕ, List, Ok}
use Rattle.wgsl_lr_driver.specs.TranslationUnit.{TranslationUnit}
use Rattle.wgsl_token.specs.declared.fault.error.Error.{Error}
use Rattle.wgsl_parser.specs.Texts.{IsModuleFault, ParsesModule}

-- Of two faults of a text the one is the other, and a text that is a module has no fault.
abbrev pub ModuleTextsHaveOneAnswer : Type 0
ModuleTextsHaveOneAnswer =
    ((text : List ℕ) (e f : Error) → IsModuleFault text e → IsModuleFault text f → f ≡ e)
    × ((text : List ℕ) (unit : TranslationUnit) → ParsesModule text (Ok unit) → (e : Error) → IsModuleFault text e → ⊥)
