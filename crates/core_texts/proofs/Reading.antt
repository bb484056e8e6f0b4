-- What is parsed of a text, and that it is one thing.
use Rattle.std.proofs.Common.{◌≡◌, inl, inr, sym, ap, ◌∙◌, ℕ, List, true, false, Some, None, Result, Ok, Err}
use Rattle.std.specs.Prelude.{IfOk}
use Rattle.wgsl_token.specs.Errors.{refusal_of}
use Rattle.wgsl_token.specs.declared.fault.error.Error.{Error}
use Rattle.wgsl_declarations.specs.declared.unit.TranslationUnit.{TranslationUnit as Module}
use Rattle.wgsl_declarations.specs.View as whole
use Rattle.wgsl_check_unit.specs.Texts.{ParsesModule, IsModuleFault}
use Rattle.core_syntax.specs.declared.unit.TranslationUnit.{TranslationUnit}
use Rattle.core_syntax.specs.View.{unit_tree}
use Rattle.core_widening.specs.InCore.{is_unit}
use Rattle.core_widening.specs.Narrowing.{Narrows}
use Rattle.core_widening.specs.Places.{places}
use Rattle.core_widening.specs.ModulePlaces as whole_places
use Rattle.core_widening.specs.NarrowError.{NarrowError}
use Rattle.core_widening.specs.NarrowError.TheVariants as narrowing
use Rattle.core_widening.proofs.Lying.{one_unit}
use Rattle.core_texts.specs.declared.error.PartError.{PartError}
use Rattle.core_texts.specs.declared.error.PartError.TheVariants as refusal
use Rattle.core_texts.specs.Texts.{Parses, Finds, StandsIn, of_narrowing}

pub found : (module_ : Module) (u : TranslationUnit) → Narrows (whole.unit_tree module_) (Ok u) → is_unit (unit_tree u) ≡ true → Finds module_ (Ok u)
found m u is there = (is, there)

pub more_than_part : (module_ : Module) (u : TranslationUnit) → Narrows (whole.unit_tree module_) (Ok u) → is_unit (unit_tree u) ≡ false → Finds module_ (Err refusal.Unsupported)
more_than_part m u is not_there v lies v_in =
    let same : v ≡ unit_tree u = one_unit v (unit_tree u) (lies ∙ sym is) in
    let wrong : is_unit v ≡ false = ap is_unit same ∙ not_there in absurd (cc)

pub none_found : (module_ : Module) (e : NarrowError) → Narrows (whole.unit_tree module_) (Err e) → Finds module_ (Err (of_narrowing e))
none_found m narrowing.Unsupported none = λ v lies _. none v lies
none_found m narrowing.OutOfMemory none = tt

pub parsed : (text : List ℕ) (module_ : Module) (r : Result TranslationUnit PartError) → ParsesModule text (Ok module_) → Finds module_ r → Parses text r
parsed text m (Ok u) says (is, there) = record { is_text = record { unit = m; says = says; tree = sym is }; in_core = there }
parsed text m (Err (refusal.Syntax e)) says wrong = absurd wrong
parsed text m (Err refusal.Unsupported) says none = record { unit = m; says = says; beyond = none }
parsed text m (Err refusal.OutOfMemory) says none = tt
parsed text m (Err (refusal.GaveUp r)) says wrong = absurd wrong

pub stands : (text : List ℕ) (module_ : Module) (r : Result TranslationUnit PartError) → ParsesModule text (Ok module_) → IfOk r (λ u. places u ≡ whole_places.places module_)
    → IfOk r (StandsIn text)
stands text m (Ok u) says same = record { unit = m; says = says; same_places = same }
stands text m (Err e) says same = tt

-- an error that does not say that the parser gave up is the fault of the text
pub whole_fault : (text : List ℕ) (e : Error) → refusal_of e ≡ None → ParsesModule text (Err e) → IsModuleFault text e
whole_fault text e other (inl fault) = fault
whole_fault text e other (inr (r, gave_up)) = let wrong : Some r ≡ None = sym gave_up ∙ other in absurd (cc)
