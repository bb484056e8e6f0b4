-- Faults are told of texts that are not blank, and no fault is that the parser gave up.
use Rattle.std.proofs.Common.{◌≡◌, ◌∙◌, refl, sym, ap, subst, ℕ, nat_lt, Bool, true, false, if◌then◌else◌, List, [], length, inl, inr, Some, None, Result, Ok, Err}
use Rattle.wgsl_path.specs.declared.span.Span.{Span}
use Rattle.wgsl_token.specs.declared.token.Fixed.{Fixed}
use Rattle.wgsl_token.specs.declared.token.Fixed.TheVariants as f
use Rattle.wgsl_token.specs.declared.token.Token.TheVariants as t
use Rattle.wgsl_templates.specs.declared.meaning.token.TemplateToken.{TemplateToken}
use Rattle.wgsl_templates.specs.declared.meaning.token.TemplateToken.TheVariants.{Plain}
use Rattle.wgsl_templates.specs.declared.meaning.token.SpannedTemplateToken.{SpannedTemplateToken}
use Rattle.wgsl_templates.specs.Tokens.{IsLexed}
use Rattle.wgsl_templates.proofs.Once.{lexed_once}
use Rattle.wgsl_lr_driver.specs.TranslationUnit.{TranslationUnit}
use Rattle.wgsl_lr_driver.specs.declared.phrase.Failure.{Failure}
use Rattle.wgsl_lr_driver.specs.declared.phrase.Check.{Check}
use Rattle.wgsl_lr_driver.specs.declared.phrase.Check.TheVariants as check
use Rattle.wgsl_lr_driver.specs.declared.driver.Start.TheVariants.{Module}
use Rattle.wgsl_lr_driver.specs.declared.answer.Unread.{Unread}
use Rattle.wgsl_lr_driver.specs.declared.answer.Unread.TheVariants.{Refused, Failed, FailedAtEnd, Unexpected}
use Rattle.wgsl_lr_driver.specs.Readings.{Reads}
use Rattle.wgsl_token.specs.declared.fault.error.Refusal.{Refusal}
use Rattle.wgsl_token.specs.declared.fault.error.Refusal.TheVariants as gave_up
use Rattle.wgsl_token.specs.Errors.{refused, refusal_by, refusal_of}
use Rattle.wgsl_token.specs.declared.fault.error.Error.{Error}
use Rattle.wgsl_parser.specs.Errors.{kind_of_check, kind_of_fixed, kind_of_token, failed, failed_at_end, unexpected, error_of}
use Rattle.wgsl_parser.specs.Texts.{ParsesTokens, ParsesModule, TellsModule}

pub refused_told : (r : Refusal) → refusal_of (refused r) ≡ Some r
refused_told gave_up.OutOfMemory = refl
refused_told (gave_up.TooDeep span) = refl
refused_told gave_up.Misfit = refl
refused_told gave_up.TooManySteps = refl

check_told : (c : Check) (span : Span) → refusal_by (kind_of_check c) span ≡ None
check_told check.Attribute span = refl
check_told check.DiagnosticSeverity span = refl
check_told check.VarTemplate span = refl

fixed_told : (k : Fixed) (span : Span) → refusal_by (kind_of_fixed k) span ≡ None
fixed_told f.Import span = refl
fixed_told f.Package span = refl
fixed_told f.Super span = refl
fixed_told f.As span = refl
fixed_told _ span = refl

token_told : (k : TemplateToken) (span : Span) → refusal_by (kind_of_token k) span ≡ None
token_told (Plain t.Invalid) span = refl
token_told (Plain (t.Reserved word)) span = refl
token_told (Plain (t.Fixed k)) span = fixed_told k span
token_told _ span = refl

at_end_told : (n : ℕ) (f : Failure) (b : Bool) → nat_lt f.span.end n ≡ b → refusal_of (failed_at_end n f) ≡ None
at_end_told n f true is = ap (λ b. refusal_of (if b then failed f else unexpected n None)) is ∙ check_told f.check f.span
at_end_told n f false is = ap (λ b. refusal_of (if b then failed f else unexpected n None)) is

-- ---- a reason by which tokens were not read

by_kind : (n : ℕ) (tokens : List SpannedTemplateToken) (e : Error) (r : Unread) → (tokens ≡ [] → ⊥) → Reads Module tokens (Err r) → e ≡ error_of n r → refusal_of (error_of n r) ≡ None → TellsModule n tokens (Err e)
by_kind n tokens e r some h same told = inl (record { some = some; reason = r; unread = h; same = same; told = ap refusal_of same ∙ told })

by_reason : (n : ℕ) (tokens : List SpannedTemplateToken) (e : Error) (r : Unread) → (tokens ≡ [] → ⊥) → Reads Module tokens (Err r) → e ≡ error_of n r → TellsModule n tokens (Err e)
by_reason n tokens e (Refused r) some h same = inr (r, ap refusal_of same ∙ refused_told r)
by_reason n tokens e (Failed f) some h same = by_kind n tokens e (Failed f) some h same (check_told f.check f.span)
by_reason n tokens e (FailedAtEnd f) some h same = by_kind n tokens e (FailedAtEnd f) some h same (at_end_told n f (nat_lt f.span.end n) refl)
by_reason n tokens e (Unexpected None) some h same = by_kind n tokens e (Unexpected None) some h same refl
by_reason n tokens e (Unexpected (Some k)) some h same = by_kind n tokens e (Unexpected (Some k)) some h same (token_told k.token k.span)

pub fault_said : (n : ℕ) (tokens : List SpannedTemplateToken) (e : Error) → (tokens ≡ [] → ⊥) → ParsesTokens Module n tokens (Err e) → TellsModule n tokens (Err e)
fault_said n tokens e some h = by_reason n tokens e h.0 some h.1 h.2

-- what is said of a text by its tokens
pub module_said : (text : List ℕ) (tokens : List SpannedTemplateToken) (r : Result TranslationUnit Error) → IsLexed text tokens → TellsModule (length text) tokens r → ParsesModule text r
module_said text tokens (Ok unit) lexed (inl part) = inl (record { tokens = tokens; lexed = lexed; part = part })
module_said text tokens (Ok unit) lexed (inr empty) = inr (subst (λ l. IsLexed text l) empty.0 lexed, empty.1)
module_said text tokens (Err e) lexed (inl fault) =
    inl (record {
      fault = record { tokens = tokens; lexed = lexed; reason = fault.reason; unread = fault.unread; same = fault.same };
      some = λ blank. fault.some (lexed_once text tokens [] lexed blank);
      told = fault.told;
    })
module_said text tokens (Err e) lexed (inr memory) = inr memory
