-- What a call asks for between is among what it asks for.
use Rattle.std.proofs.Common.{◌≡◌, sym, subst, ◌++◌, map, Bool, Some, None}
use Rattle.std.specs.List.{Contains}
use Rattle.std.proofs.lemmas.List.Elements.{Contains-append_right}
use Rattle.wgsl_path.specs.Paths.{path_text}
use Rattle.core_link_spec.specs.Modules.{Path}
use Rattle.core_reach.specs.Alone.{AsksInside}
use Rattle.wesl_resolvers.specs.Found.{Asked}
use Rattle.wesl_load.specs.Asked.{StayAsked}
use Rattle.weslc_calls.specs.OfCore.{texts_asked}
use Rattle.weslc_compile.specs.Whole.{AllInside}

pub inside_between : (inside : Path → Bool) (between after : Asked) → StayAsked between after → AllInside inside after → AllInside inside between
inside_between inside between after stay all p is = all p (stay p is)

pub asks_inside : (inside : Path → Bool) (before between : Asked) → AllInside inside between → AsksInside inside (texts_asked before) (texts_asked between)
asks_inside inside before None all ps has p there = all p tt
asks_inside inside None (Some paths) all ps has p there = let wrong : Some (map path_text paths) ≡ None = has in absurd (cc)
asks_inside inside (Some first) (Some paths) all ps has p there =
    let both : Some (map path_text paths) ≡ Some (map path_text first ++ ps) = has in
    let same : map path_text paths ≡ map path_text first ++ ps = cc in
    all p (subst (λ l. Contains l p) (sym same) (Contains-append_right (map path_text first) ps p there))

-- what a resolver that was lent was asked for
pub asked_there : {X : Type 0} (asked : X → Asked) (before : Asked) (now last : X) → now ≡ last → StayAsked before (asked now) → StayAsked before (asked last)
asked_there asked before now last same stay = subst (λ x. StayAsked before (asked x)) same stay
