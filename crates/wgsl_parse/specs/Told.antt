-- Errors with the text that they are about.
use Rattle.std.specs.Prelude.{ℕ, List, ◌++◌, codes}
use Rattle.wgsl_token.specs.declared.fault.error.Error.{Error}
use Rattle.wgsl_token.specs.Errors.{error_text}
use Rattle.wgsl_parse.specs.Snippets.{snippet_text}
use Rattle.wgsl_parse.specs.declared.errors.ErrorWithSource.{ErrorWithSource}

abbrev pub with_source : Error → List ℕ → ErrorWithSource
with_source e text = record { error = e; source = text }

-- the error's message, and below it what is shown of its place in the text
abbrev pub told_text : Error → List ℕ → List ℕ
told_text e text = error_text e ++ codes "\n" ++ snippet_text text e.span
