-- Faults of texts, and what is told of them.
use Rattle.std.specs.Prelude.{◌≡◌, ℕ, Option, Some, None, List, ◌++◌, codes}
use Rattle.std.specs.Fmt.{decimal}
use Rattle.wgsl_path.specs.declared.span.Span.{Span}
use Rattle.wgsl_token.specs.declared.fault.error.ErrorKind.{ErrorKind}
use Rattle.wgsl_token.specs.declared.fault.error.ErrorKind.TheVariants as kind
use Rattle.wgsl_token.specs.declared.fault.error.Error.{Error}
use Rattle.wgsl_token.specs.declared.fault.error.Refusal.{Refusal}
use Rattle.wgsl_token.specs.declared.fault.error.Refusal.TheVariants as refusal

-- memory was refused, which has no place in the text
abbrev pub out_of_memory : Error
out_of_memory = record { kind = kind.OutOfMemory; span = record { start = 0; end = 0 } }

-- why a parser gave up, as it is told: what is nested too deep has its place, and the others have none
abbrev pub refused : Refusal → Error
refused refusal.OutOfMemory = out_of_memory
refused (refusal.TooDeep span) = record { kind = kind.TooDeep; span = span }
refused refusal.Misfit = record { kind = kind.Misfit; span = record { start = 0; end = 0 } }
refused refusal.TooManySteps = record { kind = kind.TooManySteps; span = record { start = 0; end = 0 } }

-- why the parser gave up, where a kind says so, at its place; any other kind is that of a fault of the text
abbrev pub refusal_by : ErrorKind → Span → Option Refusal
refusal_by kind.InvalidToken span = None
refusal_by kind.ReservedWord span = None
refusal_by kind.UnexpectedToken span = None
refusal_by kind.UnexpectedEof span = None
refusal_by kind.ExtraToken span = None
refusal_by kind.DiagnosticSeverity span = None
refusal_by kind.Attribute span = None
refusal_by kind.VarTemplate span = None
refusal_by kind.TooDeep span = Some (refusal.TooDeep span)
refusal_by kind.Misfit span = Some refusal.Misfit
refusal_by kind.TooManySteps span = Some refusal.TooManySteps
refusal_by kind.OutOfMemory span = Some refusal.OutOfMemory

abbrev pub refusal_of : Error → Option Refusal
refusal_of e = refusal_by e.kind e.span

-- the parser gave up, which says nothing of the text but that it may be nested too deep
abbrev pub IsRefusal : Error → Type 0
IsRefusal e = (r : Refusal) × (refusal_of e ≡ Some r)

-- what is told of a fault of a kind
abbrev pub message : ErrorKind → List ℕ
message kind.InvalidToken = codes "invalid token"
message kind.ReservedWord = codes "reserved word"
message kind.UnexpectedToken = codes "unexpected token"
message kind.UnexpectedEof = codes "unexpected end of the text"
message kind.ExtraToken = codes "extra token"
message kind.DiagnosticSeverity = codes "invalid severity of a diagnostic"
message kind.Attribute = codes "invalid arguments of an attribute"
message kind.VarTemplate = codes "invalid template of `var`"
message kind.TooDeep = codes "nested too deep"
message kind.Misfit = codes "parts that fit no production"
message kind.TooManySteps = codes "too many steps of the parser"
message kind.OutOfMemory = codes "out of memory"

-- and where it is
abbrev pub error_text : Error → List ℕ
error_text e = message e.kind ++ codes " at " ++ decimal e.span.start ++ codes ".." ++ decimal e.span.end
