-- Which bodies are cleared.
use Rattle.std.specs.Prelude.{List, [], ◌∷◌, Option, Some, None, Bool, true, false, not, ◌&&◌, ◌||◌}
use Rattle.core_syntax.specs.Tree.{Attr, Typ, Block, Param}
use Rattle.core_programs.specs.Runs.{has_stage}

-- a stage stands before a parameter
abbrev pub any_stage : List Param → Bool
any_stage [] = false
any_stage (p ∷ ps) = has_stage p.attributes || any_stage ps

-- In the part, a function that is lowered names nothing but consts, its parameters and constructors, and attributes stand before it, its
-- parameters and its result alone. So it is const by the rule unless one of these attributes is a stage, and without a result it does nothing.
abbrev pub does_nothing : List Attr → List Param → Option Typ → Bool
does_nothing attributes parameters (Some t) = false
does_nothing attributes parameters None = not (has_stage attributes) && not (any_stage parameters)

-- a body without its statements, where its function does nothing
abbrev pub cleared : Bool → Block → Block
cleared true b = record { attributes = b.attributes; statements = [] }
cleared false b = b
