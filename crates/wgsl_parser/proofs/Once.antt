-- A text that is no module has one fault, and a module has none.
use Rattle.std.proofs.Common.{◌≡◌, ◌∙◌, refl, sym, ap, subst, ℕ, false, Some, None, List, length, inl, inr, Ok, Err}
use Rattle.wgsl_templates.proofs.Once.{lexed_once}
use Rattle.wgsl_lr_driver.specs.TranslationUnit.{TranslationUnit}
use Rattle.wgsl_lr_driver.specs.Part.TheVariants as part
use Rattle.wgsl_lr_driver.specs.declared.driver.Start.TheVariants.{Module}
use Rattle.wgsl_lr_driver.specs.declared.answer.Unread.{Unread}
use Rattle.wgsl_lr_driver.specs.declared.answer.Unread.TheVariants.{Refused, Failed, FailedAtEnd, Unexpected}
use Rattle.wgsl_lr_driver.specs.Readings.{Reads, is_refused}
use Rattle.wgsl_lr_driver.proofs.Once.{unread_once, read_apart}
use Rattle.wgsl_token.specs.declared.fault.error.Error.{Error}
use Rattle.wgsl_token.specs.Errors.{refusal_of}
use Rattle.wgsl_parser.specs.Errors.{error_of}
use Rattle.wgsl_parser.proofs.Told.{refused_told}
use Rattle.wgsl_parser.specs.Texts.{IsParsed, IsModuleFault, ParsesModule}

-- A fault has a reason in the text: the parser did not give up.
told_so : (n : ℕ) (r : Unread) → refusal_of (error_of n r) ≡ None → is_refused r ≡ false
told_so n (Refused r) told = let wrong : Some r ≡ None = sym (refused_told r) ∙ told in absurd cc
told_so n (Failed f) told = refl
told_so n (FailedAtEnd f) told = refl
told_so n (Unexpected next) told = refl

reason_told : (text : List ℕ) (e : Error) (h : IsModuleFault text e) → is_refused h.fault.reason ≡ false
reason_told text e h = told_so (length text) h.fault.reason (sym (ap refusal_of h.fault.same) ∙ h.told)

pub module_fault_once : (text : List ℕ) (e f : Error) → IsModuleFault text e → IsModuleFault text f → f ≡ e
module_fault_once text e f h k =
    let tokens : k.fault.tokens ≡ h.fault.tokens = lexed_once text k.fault.tokens h.fault.tokens k.fault.lexed h.fault.lexed in
    let unread : Reads Module h.fault.tokens (Err k.fault.reason) = subst (λ l. Reads Module l (Err k.fault.reason)) tokens k.fault.unread in
    let reason : k.fault.reason ≡ h.fault.reason = unread_once Module h.fault.tokens h.fault.reason k.fault.reason h.fault.unread unread (reason_told text e h) (reason_told text f k) in
    k.fault.same ∙ ap (error_of (length text)) reason ∙ sym h.fault.same

parsed_apart : (text : List ℕ) (unit : TranslationUnit) → IsParsed Module text (part.Module unit) → (e : Error) → IsModuleFault text e → ⊥
parsed_apart text unit p e h =
    let tokens : h.fault.tokens ≡ p.tokens = lexed_once text h.fault.tokens p.tokens h.fault.lexed p.lexed in
    let unread : Reads Module p.tokens (Err h.fault.reason) = subst (λ l. Reads Module l (Err h.fault.reason)) tokens h.fault.unread in
    read_apart Module p.tokens (part.Module unit) h.fault.reason p.part unread (reason_told text e h)

pub module_apart : (text : List ℕ) (unit : TranslationUnit) → ParsesModule text (Ok unit) → (e : Error) → IsModuleFault text e → ⊥
module_apart text unit (inl parsed) e h = parsed_apart text unit parsed e h
module_apart text unit (inr empty) e h = h.some empty.0
