-- What a tree says of names, laid out flat in the order of its text.
use Rattle.std.specs.Prelude.{ℕ, List, Option}
use Rattle.wgsl_path.specs.declared.path.ModulePath.{ModulePath}

-- a scope starts, or the innermost one ends; a local is in scope from here up to the end of the innermost scope; a name occurs
pub data Flat : Type 0 where
  enters : Flat
  leaves : Flat
  declares : List ℕ → Flat
  occurs : Option ModulePath → List ℕ → Flat
