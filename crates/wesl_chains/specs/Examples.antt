-- What names mean in some modules, and what chains come to.
use Rattle.std.specs.Prelude.{◌≡◌, List, [], ◌∷◌, map, Option, Some, None, Bool, true, false, if◌then◌else◌, codes}
use Rattle.std.specs.Str.{bytes_eq}
use Rattle.wgsl_path.specs.declared.path.ModulePath.{ModulePath}
use Rattle.wgsl_path.specs.declared.path.PathOrigin.TheVariants.{Absolute, Relative, Package}
use Rattle.wesl_chains.specs.Outlines.{Name, Path, Symbol, Item, Use, Kind, assertion, other, Entry, Outline, Finder, scope_names}
use Rattle.wesl_chains.specs.Senses.{sense, own, imported, bare, free}
use Rattle.wesl_chains.specs.Chains.{next, stands, leads, lacks, hides, unknown, declared_at, missing, Ends}
use Rattle.wesl_chains.specs.Reaching.{Reached, IsPassedThrough, IsAsked, IsRefusedAt, IsBefore, StandsBefore}

abbrev package_path : List Name → ModulePath
package_path xs = record { origin = Absolute; components = xs }

abbrev other_package : Name → ModulePath
other_package p = record { origin = Package p; components = [] }

abbrev item_of : Bool → Name → Option ModulePath → Name → Item
item_of published local base last = record { local = local; base = base; last = last; is_published = published }

-- a declaration that uses these names
abbrev pub entry_of : Kind → Option Name → List Use → Entry
entry_of kind name uses = record { kind = kind; name = name; uses = uses }

abbrev pub plain : Name → Use
plain x = record { path = None; name = x }

abbrev behind : ModulePath → Name → Use
behind p x = record { path = Some p; name = x }

abbrev symbol : Path → Name → Symbol
symbol p x = record { home = p; name = x }

-- ---- a module at package::r::s:
-- import package::m::x as y; @publish import super::k::w; import foo as b; import package::m; import m::z; @publish import foo as d;
-- const c = 1;
abbrev outline : Outline
outline = record {
  path = package_path (codes "r" ∷ codes "s" ∷ []);
  items = item_of false (codes "y") (Some (package_path (codes "m" ∷ []))) (codes "x") ∷ item_of true (codes "w") (Some (package_path (codes "r" ∷ codes "k" ∷ []))) (codes "w")
      ∷ item_of false (codes "b") None (codes "foo") ∷ item_of false (codes "m") (Some (package_path [])) (codes "m")
      ∷ item_of false (codes "z") (Some (other_package (codes "m"))) (codes "z") ∷ item_of true (codes "d") None (codes "foo") ∷ [];
  entries = entry_of other (Some (codes "c")) [] ∷ [];
}

abbrev pub ScopeExample : Type 0
ScopeExample = scope_names outline ≡ codes "y" ∷ codes "w" ∷ codes "b" ∷ codes "m" ∷ codes "z" ∷ codes "d" ∷ codes "c" ∷ []

-- Names without a path: a declaration, imports, one of a bare name, one whose package is called as an import (paths of imports are full),
-- and one that is free. Names behind a path: imports stand for their full path there, also one of a bare name; a first name that is no
-- import is a package's; `super` and `package` count from the module's own path, and no own import hides what stands behind `package`.
abbrev pub SenseExample : Type 0
SenseExample = map (sense outline) (plain (codes "c") ∷ plain (codes "y") ∷ plain (codes "w") ∷ plain (codes "b") ∷ plain (codes "z") ∷ plain (codes "u")
    ∷ behind (record { origin = Package (codes "y"); components = codes "o" ∷ [] }) (codes "v") ∷ behind (other_package (codes "b")) (codes "v")
    ∷ behind (other_package (codes "m")) (codes "v") ∷ behind (other_package (codes "p")) (codes "v")
    ∷ behind (record { origin = Relative 1; components = [] }) (codes "v") ∷ behind (package_path []) (codes "y") ∷ [])
    ≡ own 0 ∷ imported (symbol (codes "package::m") (codes "x")) ∷ imported (symbol (codes "package::r::k") (codes "w")) ∷ bare (codes "foo")
    ∷ imported (symbol (codes "m") (codes "z")) ∷ free
    ∷ imported (symbol (codes "package::m::x::o") (codes "v")) ∷ imported (symbol (codes "foo") (codes "v"))
    ∷ imported (symbol (codes "package::m") (codes "v")) ∷ imported (symbol (codes "p") (codes "v"))
    ∷ imported (symbol (codes "package::r") (codes "v")) ∷ imported (symbol (codes "package") (codes "y")) ∷ []

abbrev among : List (Path × Outline) → Finder
among [] p = None
among (x ∷ xs) p = if bytes_eq x.0 p then Some x.1 else among xs p

abbrev at_module : Name → Symbol
at_module x = symbol (codes "package::r::s") x

-- what other modules find there: a declaration, a published import, one that is not published, a published one of a bare name, nothing; and
-- a module that is not loaded
abbrev pub StepExample : Type 0
StepExample = map (next (among ((codes "package::r::s", outline) ∷ []))) (at_module (codes "c") ∷ at_module (codes "w") ∷ at_module (codes "y") ∷ at_module (codes "d") ∷ at_module (codes "u")
    ∷ symbol (codes "package") (codes "c") ∷ [])
    ≡ stands 0 ∷ leads (symbol (codes "package::r::k") (codes "w")) ∷ hides ∷ lacks ∷ lacks ∷ unknown ∷ []

-- paths go by their bytes, and a module that is earlier counts before a place that is
abbrev pub OrderExample : Type 0
OrderExample = IsBefore (codes "package::a::b") (codes "package::a_") × StandsBefore (codes "package::a") 7 7 (codes "package::m") 0 0

-- ---- modules that take x from one another

-- a module with an import of x, published or not, and these declarations
abbrev with_x : Name → Bool → Name → List Entry → Outline
with_x at published m entries = record { path = package_path (at ∷ []); items = item_of published (codes "x") (Some (package_path (m ∷ []))) (codes "x") ∷ []; entries = entries }

-- import package::m::x; const a = x;
abbrev pub root_outline : Outline
root_outline = record {
  path = package_path [];
  items = item_of false (codes "x") (Some (package_path (codes "m" ∷ []))) (codes "x") ∷ [];
  entries = entry_of other (Some (codes "a")) (plain (codes "x") ∷ []) ∷ [];
}

-- @publish import package::n::x; const_assert true;
abbrev pub m_outline : Outline
m_outline = with_x (codes "m") true (codes "n") (entry_of assertion None [] ∷ [])

-- const x = 1;
abbrev pub n_outline : Outline
n_outline = record { path = package_path (codes "n" ∷ []); items = []; entries = entry_of other (Some (codes "x")) [] ∷ [] }

abbrev pub two : Finder
two = among ((codes "package", root_outline) ∷ (codes "package::m", m_outline) ∷ [])

abbrev pub three : Finder
three = among ((codes "package", root_outline) ∷ (codes "package::m", m_outline) ∷ (codes "package::n", n_outline) ∷ [])

-- m takes it from n, and n from m
abbrev pub ring : Finder
ring = among ((codes "package", root_outline) ∷ (codes "package::m", m_outline) ∷ (codes "package::n", with_x (codes "n") true (codes "m") []) ∷ [])

abbrev pub kept : List Name
kept = codes "a" ∷ []

-- a published import leads on; its module is passed
abbrev pub ReexportExample : Type 0
ReexportExample = Ends three (symbol (codes "package::m") (codes "x")) (codes "package::m" ∷ codes "package::n" ∷ []) (declared_at (codes "package::n") 0)

-- of a chain in a ring the first name is missing, and the place where it is used is refused
abbrev pub RingExample : Type 0
RingExample = Ends ring (symbol (codes "package::m") (codes "x")) [] (missing (symbol (codes "package::m") (codes "x")))
    × IsRefusedAt ring (codes "package") kept false (codes "package") 0 0 (missing (symbol (codes "package::m") (codes "x")))

-- the assertion of a module is reached that only a chain passes through
abbrev pub PassedExample : Type 0
PassedExample = IsPassedThrough three (codes "package") kept false (codes "package::m") × Reached three (codes "package") kept false (codes "package::m") 0
    × Reached three (codes "package") kept false (codes "package::n") 0

-- the module is asked for to which the chain leads
abbrev pub AskedExample : Type 0
AskedExample = IsAsked two (codes "package") kept false (codes "package::n")
