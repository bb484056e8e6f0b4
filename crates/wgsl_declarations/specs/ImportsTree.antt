-- Imports and directives without places.
use Rattle.std.specs.Prelude.{ℕ, List, [], ◌∷◌, Option}
use Rattle.wgsl_expressions.specs.DiagnosticSeverity.{DiagnosticSeverity}
use Rattle.wgsl_expressions.specs.ModulePath.{ModulePath}
use Rattle.wgsl_expressions.specs.AttributesTree.{Attr}

mutual
  -- what an import takes (WESL, "Imports"): an item, maybe under another name, or imports in braces
  pub data Content : Type 0 where
    item : List ℕ → Option (List ℕ) → Content
    collection : Imps → Content

  -- a list of imports in braces: the names that lead further, and what is taken from there
  pub data Imps : Type 0 where
    nil : Imps
    cons : List (List ℕ) → Content → Imps → Imps

-- an import in braces
pub record Imp : Type 0 where
  pub path : List (List ℕ)
  pub content : Content

abbrev pub imps : List Imp → Imps
imps [] = nil
imps (i ∷ is) = cons i.path i.content (imps is)

-- an import statement
pub record Importing : Type 0 where
  pub attributes : List Attr
  pub path : Option ModulePath
  pub content : Content

-- a directive (WGSL, "Directives")
pub data Directive : Type 0 where
  diagnostic : List Attr → DiagnosticSeverity → List ℕ → Directive
  enabling : List Attr → List (List ℕ) → Directive
  requiring : List Attr → List (List ℕ) → Directive
