-- What the text of a path is read as.
use denote.Ref.{Bor}
use Rattle.std.specs.Prelude.{◌≡◌, ◌⊎◌, ◌&&◌, ◌==◌, ℕ, suc, List, [], ◌∷◌, ◌++◌, codes, Option, Some, None, Result, Ok, Err, if◌then◌else◌}
use Rattle.std.specs.Str.{bytes_eq}
use Rattle.wgsl_path.specs.declared.path.PathOrigin.{PathOrigin}
use Rattle.wgsl_path.specs.declared.path.PathOrigin.TheVariants.{Absolute, Relative, Package}
use Rattle.wgsl_path.specs.declared.path.ModulePath.{ModulePath}
use Rattle.wgsl_path.specs.declared.reading.ModulePathParseError.{ModulePathParseError}
use Rattle.wgsl_path.specs.declared.reading.ModulePathParseError.TheVariants.{Empty, MisplacedPackage, MisplacedSelf, MisplacedSuper, OutOfMemory}

-- A text is cut at each `::`, from left to right; this much of its first part was read before.
abbrev pub parts_behind : List ℕ → List ℕ → List (List ℕ)
parts_behind part [] = part ∷ []
parts_behind part (c ∷ []) = (part ++ c ∷ []) ∷ []
parts_behind part (c ∷ d ∷ cs) = if (c == 58) && (d == 58) then part ∷ parts_behind [] cs else parts_behind (part ++ c ∷ []) (d ∷ cs)

-- the parts of a text between `::`
abbrev pub parts : List ℕ → List (List ℕ)
parts text = parts_behind [] text

abbrev pub PathResult : Type 0 → Type 0
PathResult A = Result A ModulePathParseError

-- a name behind the origin: not empty, and none of the words of origins
abbrev pub component_of : List ℕ → PathResult (List ℕ)
component_of part =
    if bytes_eq part (codes "") then Err Empty
    else if bytes_eq part (codes "package") then Err MisplacedPackage
    else if bytes_eq part (codes "self") then Err MisplacedSelf
    else if bytes_eq part (codes "super") then Err MisplacedSuper
    else Ok part

abbrev pub then_read : {A B : Type 0} → PathResult A → (A → PathResult B) → PathResult B
then_read (Ok x) f = f x
then_read (Err e) f = Err e

-- the names behind the origin, or what is wrong with the first that is none
abbrev pub components_of : List (List ℕ) → PathResult (List (List ℕ))
components_of [] = Ok []
components_of (part ∷ rest) = then_read (component_of part) (λ name. then_read (components_of rest) (λ names. Ok (name ∷ names)))

abbrev pub path_behind : PathOrigin → List (List ℕ) → PathResult ModulePath
path_behind origin rest = then_read (components_of rest) (λ components. Ok (record { origin = origin; components = components }))

-- behind so many `super`: more of them, or names
abbrev pub path_above : ℕ → List (List ℕ) → PathResult ModulePath
path_above levels [] = path_behind (Relative levels) []
path_above levels (part ∷ rest) = if bytes_eq part (codes "super") then path_above (suc levels) rest else path_behind (Relative levels) (part ∷ rest)

-- A path is `package`, `self`, one or more `super`, or a package's name; then names.
abbrev pub path_of : List (List ℕ) → PathResult ModulePath
path_of [] = Err Empty
path_of (part ∷ rest) =
    if bytes_eq part (codes "") then Err Empty
    else if bytes_eq part (codes "package") then path_behind Absolute rest
    else if bytes_eq part (codes "self") then path_behind (Relative 0) rest
    else if bytes_eq part (codes "super") then path_above 1 rest
    else path_behind (Package part) rest

-- the parts of what stands behind a part
abbrev pub left_parts : Option (Bor (List ℕ)) → List (List ℕ)
left_parts None = []
left_parts (Some rest) = parts rest.now

-- What is meant goes on from what was read; or it is refused so, or memory was refused.
abbrev pub Continues : (A B : Type 0) → PathResult A → PathResult B → (A → PathResult B) → Type 0
Continues A B (Ok x) meant further = meant ≡ further x
Continues A B (Err e) meant further = (e ≡ OutOfMemory) ⊎ (meant ≡ Err e)

-- What is answered is meant, or memory was refused.
abbrev pub Answers : (A : Type 0) → PathResult A → PathResult A → Type 0
Answers A answer meant = Continues A A answer meant (λ x. Ok x)
