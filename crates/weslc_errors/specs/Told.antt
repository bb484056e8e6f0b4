-- What errors are about, and which error is told for a refusal.
use Rattle.std.specs.Prelude.{◌≡◌, ⊤, ℕ, List, codes, Option, Some, None}
use Rattle.wgsl_path.specs.declared.path.ModulePath.{ModulePath}
use Rattle.wesl_resolve.specs.declared.error.ResolveError.{ResolveError}
use Rattle.wesl_resolve.specs.declared.error.ResolveError.TheVariants as resolve
use Rattle.core_link_spec.specs.Occurrences.{Name}
use Rattle.core_scopes.specs.declared.error.ImportError.{ImportError}
use Rattle.core_scopes.specs.declared.error.ImportError.TheVariants as import
use Rattle.core_meaning.specs.declared.fault.Fault.{Fault}
use Rattle.core_meaning.specs.declared.fault.Fault.TheVariants.{StepLimit, Operation, Deferred, NegativeAttr, Name as Named}
use Rattle.core_validate.specs.declared.error.ValidateFault.{ValidateFault}
use Rattle.core_laws.specs.DeclarationFault.{DeclarationFault}
use Rattle.core_unit.specs.declared.error.UnitRefusal.{UnitRefusal}
use Rattle.core_unit.specs.declared.error.UnitRefusal.TheVariants as of
use Rattle.core_link.specs.Recording.{Source, Telling}
use Rattle.weslc_errors.specs.declared.error.ErrorContext.{ErrorContext}
use Rattle.weslc_errors.specs.declared.error.ResolveKind.{ResolveKind}
use Rattle.weslc_errors.specs.declared.error.ImportKind.{ImportKind}
use Rattle.weslc_errors.specs.declared.error.ResolveKind.TheVariants.{ModuleNotFound}
use Rattle.weslc_errors.specs.declared.error.ImportKind.TheVariants.{DuplicateSymbol, MissingDecl, Private}
use Rattle.weslc_errors.specs.declared.error.CompileError.{CompileError}
use Rattle.weslc_errors.specs.declared.error.CompileError.TheVariants.{TooManyModules, Resolve, Syntax, Unsupported, Import, Condition, ConditionLeft, NameClash, Validate, UnclearName, Eval, Unprintable, GaveUp, OutOfMemory}

-- ---- what an error is about

abbrev pub about_module : ModulePath → ErrorContext
about_module m = record { «module» = Some m; decl = None; name = None }

-- a name that is sought in a module, or that stands twice there
abbrev pub about_item : ModulePath → Name → ErrorContext
about_item m x = record { «module» = Some m; decl = None; name = Some x }

-- of the linked unit, with a name if there is one
abbrev pub about_maybe : Option Name → ErrorContext
about_maybe x = record { «module» = None; decl = None; name = x }

abbrev pub about_name : Name → ErrorContext
about_name x = about_maybe (Some x)

-- a declaration of the linked unit, by what is told of its name: the module that has it and its name there
abbrev pub about_declaration : Option Source → Option Name → ErrorContext
about_declaration (Some v) x = record { «module» = Some v.0; decl = Some v.1; name = x }
about_declaration None x = record { «module» = None; decl = None; name = x }

-- what an error is about, if it is about something
abbrev pub context_of : CompileError → Option ErrorContext
context_of (TooManyModules c) = Some c
context_of (Resolve c kind) = Some c
context_of (Syntax c fault) = Some c
context_of (Unsupported c) = Some c
context_of (Import c kind) = Some c
context_of (NameClash c) = Some c
context_of (Validate c kind) = Some c
context_of (Condition c kind) = Some c
context_of (ConditionLeft c) = Some c
context_of (UnclearName c) = Some c
context_of (Eval c fault) = Some c
context_of (Unprintable c) = Some c
context_of (GaveUp c r) = Some c
context_of OutOfMemory = None

-- the words of what is wrong with an import or a module
abbrev pub resolve_text : ResolveKind → List ℕ
resolve_text ModuleNotFound = codes "ModuleNotFound"

abbrev pub import_text : ImportKind → List ℕ
import_text DuplicateSymbol = codes "DuplicateSymbol"
import_text MissingDecl = codes "MissingDecl"
import_text Private = codes "Private"

-- ---- the error for what a resolver, or loading, refuses

abbrev pub of_resolving : ResolveError → CompileError
of_resolving (resolve.ModuleNotFound m) = Resolve (about_module m) ModuleNotFound
of_resolving (resolve.Syntax m f) = Syntax (about_module m) f
of_resolving (resolve.Unsupported m) = Unsupported (about_module m)
of_resolving (resolve.GaveUp m r) = GaveUp (about_module m) r
of_resolving resolve.OutOfMemory = OutOfMemory

abbrev pub of_loading : ImportError → CompileError
of_loading (import.TooManyModules m) = TooManyModules (about_module m)
of_loading (import.Resolve e) = of_resolving e
of_loading (import.DuplicateSymbol m x) = Import (about_item m x) DuplicateSymbol
of_loading (import.MissingDecl m x) = Import (about_item m x) MissingDecl
of_loading (import.Private m x) = Import (about_item m x) Private
of_loading import.OutOfMemory = OutOfMemory

-- ---- refusals of a linked unit

-- the name that a fault is about
abbrev pub fault_name : Fault → Option Name
fault_name StepLimit = None
fault_name (Operation f) = None
fault_name (Deferred t) = None
fault_name (NegativeAttr z) = None
fault_name (Named f x) = Some x

-- memory aside, what is said of a refusal of a unit: its kind, the declaration and the name concerned
abbrev pub TellsOfFault : Telling → ValidateFault → CompileError → Type 0
TellsOfFault tell f (Validate c kind) = (kind ≡ f.kind) × (c ≡ about_declaration (tell f.declaration) (Some f.name))
TellsOfFault tell f OutOfMemory = ⊤
TellsOfFault tell f _ = ⊥

abbrev pub TellsOfEvaluation : Telling → DeclarationFault → CompileError → Type 0
TellsOfEvaluation tell r (Eval c fault) = (fault ≡ r.fault) × (c ≡ about_declaration (tell r.declaration) (fault_name r.fault))
TellsOfEvaluation tell r OutOfMemory = ⊤
TellsOfEvaluation tell r _ = ⊥

abbrev pub Tells : Telling → UnitRefusal → CompileError → Type 0
Tells tell (of.Validate f) e = TellsOfFault tell f e
Tells tell (of.UnclearName x) e = e ≡ UnclearName (about_name x)
Tells tell (of.Eval r) e = TellsOfEvaluation tell r e
Tells tell (of.Unprintable x) e = e ≡ Unprintable (about_maybe x)
Tells tell (of.GaveUp r) e = e ≡ GaveUp (about_maybe None) r
Tells tell of.OutOfMemory e = e ≡ OutOfMemory
