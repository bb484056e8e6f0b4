-- Why a program goes wrong: the faults that evaluation tells.
pub use Rattle.core_meaning.specs.declared.fault.Fault.{Fault}
pub use Rattle.core_meaning.specs.declared.fault.Fault.TheVariants.{StepLimit, Operation, Deferred, NegativeAttr, Name as OfName}
pub use Rattle.core_meaning.specs.declared.fault.NameFault.{NameFault}
pub use Rattle.core_meaning.specs.declared.fault.NameFault.TheVariants.{UnknownDecl, NotAccessible, NotConst, CyclicDecl, Todo, NotType, NotCallable, UninitConst, UnexpectedTemplate, Signature, ParamCount, Void, NoReturn, UnexpectedReturn, ReturnType, NotEntrypoint, InvalidEntrypointParam, MissingUserInput}
