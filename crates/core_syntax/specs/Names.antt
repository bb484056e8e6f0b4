-- The names that declarations declare (WGSL, "Declaration and Scope").
use Rattle.std.specs.Prelude.{ℕ, List}
use Rattle.core_syntax.specs.Tree.{Decl, variable, function}

-- the name that a declaration declares
abbrev pub declared_name : Decl → List ℕ
declared_name (variable attributes kind x type initializer) = x
declared_name (function attributes f parameters return_attributes type body) = f
