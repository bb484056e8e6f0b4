use Rattle.std.proofs.Common.{◌≡◌, refl, ap, ◌∙◌, subst, length, List, false}
use Rattle.std.specs.Prelude.{replicate}
use Rattle.wesl_mark.specs.declared.place.Place.{Place}
use Rattle.wesl_mark.specs.declared.place.Kind.TheVariants.{Directive}
use Rattle.wesl_reachability.specs.Holding.{TakesIn, ReachesKind}
use Rattle.wesl_reachability.specs.Joining.{TakesImports}
use Rattle.wesl_reachability.proofs.Held.{map_ok}
use Rattle.wesl_reachability.proofs.closing.Closing.take_in_module.Goals as goal

pub returns : goal.returns
returns c =
    let one = c.args.«module».now in
    let old = c.args.self.now in
    map_ok c.reach_directives.result (λ r. record {
      mid = c.take_in.new.self;
      taken = subst (λ n. TakesIn n old.holding c.take_in.new.self) (c.len.ensures ∙ one.places.ok.0) c.in_ok-take_in.ensures;
      directives = subst (λ (l : List Place). ReachesKind c.args.number l Directive (length l) c.take_in.new.self c.reach_directives.new.self) c.as_slice.ensures.value r;
      flags = c.in_ok-flags.field-0;
      followed = c.in_ok-push.ensures.items;
      unset = c.in_ok-flags.ensures ∙ ap (λ n. replicate n false) c.reference_count.ensures;
      imports = subst (λ n. TakesImports c.args.number n old.chains c.take_in-2.new.self) (c.len-2.ensures ∙ one.items.ok.0) c.in_ok-take_in-2.ensures;
      done = refl;
      asked = refl;
      missing = refl;
    }) c.reach_directives.ensures
