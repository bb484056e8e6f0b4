-- What was asked for stays so where one more is, or none.
use Rattle.std.proofs.Common.{◌≡◌, sym, subst, inl, inr, List, map, Result, Some, None}
use Rattle.std.specs.List.{Contains}
use Rattle.std.proofs.lemmas.List.{map-append}
use Rattle.std.proofs.lemmas.List.Elements.{Contains-append_left}
use Rattle.wgsl_path.specs.declared.path.ModulePath.{ModulePath}
use Rattle.wgsl_path.specs.Paths.{path_text}
use Rattle.wgsl_declarations.specs.declared.unit.TranslationUnit.{TranslationUnit}
use Rattle.wesl_resolvers.specs.Found.{Asked, HasAsked, AsksFor}
use Rattle.wesl_resolvers.specs.declared.error.ResolveError.{ResolveError}
use Rattle.wesl_load.specs.Asked.{IsAsked, StayAsked}

more_asked : (before : Asked) (paths : List ModulePath) (after : Asked) → HasAsked before paths after → StayAsked before after
more_asked None paths after has p is = subst (λ (a : Asked). IsAsked a p) (sym has) is
more_asked (Some qs) paths after has p is =
    subst (λ (a : Asked). IsAsked a p) (sym has)
    (subst (λ l. Contains l p) (sym (map-append path_text qs paths)) (Contains-append_left (map path_text qs) (map path_text paths) p is))

pub one_asked : (before : Asked) (path : ModulePath) (result : Result TranslationUnit ResolveError) (after : Asked) → AsksFor before path result after → StayAsked before after
one_asked before path result after (inl has) = more_asked before _ after has
one_asked before path result after (inr none) = subst (StayAsked before) (sym none.1) (λ p is. is)

pub none_asked : (before after : Asked) → after ≡ before → StayAsked before after
none_asked before after same = subst (StayAsked before) (sym same) (λ p is. is)
