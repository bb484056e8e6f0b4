-- Which of several prefixes serves a path: the longest with which it starts, and of several of that length the last.
use Rattle.std.specs.Prelude.{ℕ, zero, suc, ◌+◌, List, [], ◌∷◌, length, drop, Bool, true, false, ◌&&◌, leb, nat_eq, Option, Some, None, if◌then◌else◌}
use Rattle.std.specs.Str.{bytes_eq}
use Rattle.wgsl_path.specs.declared.path.PathOrigin.{PathOrigin}
use Rattle.wgsl_path.specs.declared.path.PathOrigin.TheVariants.{Absolute, Relative, Package}
use Rattle.wgsl_path.specs.declared.path.ModulePath.{ModulePath}
use Rattle.wesl_router.specs.declared.choice.Served.{Served}

abbrev pub is_same_origin : PathOrigin → PathOrigin → Bool
is_same_origin Absolute Absolute = true
is_same_origin (Relative n) (Relative m) = nat_eq n m
is_same_origin (Package x) (Package y) = bytes_eq x y
is_same_origin Absolute (Relative m) = false
is_same_origin Absolute (Package y) = false
is_same_origin (Relative n) Absolute = false
is_same_origin (Relative n) (Package y) = false
is_same_origin (Package x) Absolute = false
is_same_origin (Package x) (Relative m) = false

-- names begin with others
abbrev pub begin : List (List ℕ) → List (List ℕ) → Bool
begin names [] = true
begin [] (f ∷ first) = false
begin (n ∷ names) (f ∷ first) = bytes_eq n f && begin names first

-- a path starts with another: the origin is the same, and the names begin with the other's
abbrev pub starts : ModulePath → ModulePath → Bool
starts path prefix = is_same_origin path.origin prefix.origin && begin path.components prefix.components

-- a prefix of so many names is as long as the best so far, if there is one
abbrev pub is_no_shorter : Option Served → ℕ → Bool
is_no_shorter None names = true
is_no_shorter (Some best) names = leb best.names names

-- the best so far, and one more prefix at this place
abbrev pub better : ModulePath → ℕ → Option Served → ModulePath → Option Served
better path place best prefix =
    if starts path prefix && is_no_shorter best (length prefix.components) then Some (record { place = place; names = length prefix.components }) else best

-- the best of these, which stand from this place on, and of what was the best before
abbrev pub best_from : ModulePath → ℕ → Option Served → List ModulePath → Option Served
best_from path place best [] = best
best_from path place best (prefix ∷ prefixes) = best_from path (suc place) (better path place best prefix) prefixes

abbrev pub best_of : ModulePath → List ModulePath → Option Served
best_of path prefixes = best_from path zero None prefixes

-- what stands behind so many names, as a path from the root
abbrev pub rest_behind : ℕ → ModulePath → ModulePath
rest_behind names path = record { origin = Absolute; components = drop names path.components }
