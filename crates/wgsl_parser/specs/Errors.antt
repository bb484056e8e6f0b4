-- The fault of a text, by why its tokens were not read.
use Rattle.std.specs.Prelude.{ℕ, nat_lt, if◌then◌else◌, Option, Some, None}
use Rattle.wgsl_token.specs.declared.token.Fixed.{Fixed}
use Rattle.wgsl_token.specs.declared.token.Fixed.TheVariants as f
use Rattle.wgsl_token.specs.declared.token.Token.TheVariants as t
use Rattle.wgsl_templates.specs.declared.meaning.token.TemplateToken.{TemplateToken}
use Rattle.wgsl_templates.specs.declared.meaning.token.TemplateToken.TheVariants.{Plain}
use Rattle.wgsl_templates.specs.declared.meaning.token.SpannedTemplateToken.{SpannedTemplateToken}
use Rattle.wgsl_lr_driver.specs.declared.phrase.Check.{Check}
use Rattle.wgsl_lr_driver.specs.declared.phrase.Check.TheVariants as check
use Rattle.wgsl_lr_driver.specs.declared.phrase.Failure.{Failure}
use Rattle.wgsl_lr_driver.specs.declared.answer.Unread.{Unread}
use Rattle.wgsl_lr_driver.specs.declared.answer.Unread.TheVariants.{Refused, Failed, FailedAtEnd, Unexpected}
use Rattle.wgsl_token.specs.declared.fault.error.ErrorKind.{ErrorKind}
use Rattle.wgsl_token.specs.declared.fault.error.ErrorKind.TheVariants as kind
use Rattle.wgsl_token.specs.declared.fault.error.Error.{Error}
use Rattle.wgsl_token.specs.Errors.{refused}

abbrev pub kind_of_check : Check → ErrorKind
kind_of_check check.Attribute = kind.Attribute
kind_of_check check.DiagnosticSeverity = kind.DiagnosticSeverity
kind_of_check check.VarTemplate = kind.VarTemplate

-- The words of imports are reserved where the grammar doesn't name them.
abbrev pub kind_of_fixed : Fixed → ErrorKind
kind_of_fixed f.Import = kind.ReservedWord
kind_of_fixed f.Package = kind.ReservedWord
kind_of_fixed f.Super = kind.ReservedWord
kind_of_fixed f.As = kind.ReservedWord
kind_of_fixed _ = kind.UnexpectedToken

abbrev pub kind_of_token : TemplateToken → ErrorKind
kind_of_token (Plain t.Invalid) = kind.InvalidToken
kind_of_token (Plain (t.Reserved word)) = kind.ReservedWord
kind_of_token (Plain (t.Fixed k)) = kind_of_fixed k
kind_of_token _ = kind.UnexpectedToken

-- at the next token, or at the end of a text of this length
abbrev pub unexpected : ℕ → Option SpannedTemplateToken → Error
unexpected length None = record { kind = kind.UnexpectedEof; span = record { start = length; end = length } }
unexpected length (Some k) = record { kind = kind_of_token k.token; span = k.span }

abbrev pub failed : Failure → Error
failed f = record { kind = kind_of_check f.check; span = f.span }

-- Of a check and a text that end together the end of the text is told.
abbrev pub failed_at_end : ℕ → Failure → Error
failed_at_end length f = if nat_lt f.span.end length then failed f else unexpected length None

abbrev pub error_of : ℕ → Unread → Error
error_of length (Refused r) = refused r
error_of length (Failed f) = failed f
error_of length (FailedAtEnd f) = failed_at_end length f
error_of length (Unexpected next) = unexpected length next
