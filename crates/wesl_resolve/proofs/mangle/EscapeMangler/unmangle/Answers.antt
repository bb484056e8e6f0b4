use denote.Ref.{Bor}
use Rattle.std.proofs.Common.{◌≡◌, List, [], ◌∷◌, ◌++◌, ℕ, Option, subst}
use Rattle.wesl_resolve.specs.Unmangling.{IsRead, behind, origin_name}
use Rattle.wesl_resolve.specs.Mangling.{escaped_parts}
use Rattle.wesl_resolve.proofs.Items.{first_named, rest_named, some_behind, whole_item}
use Rattle.wesl_resolve.proofs.mangle.EscapeMangler.unmangle.Goals as goal

pub returns-in_default : goal.returns-in_default
returns-in_default c path item plain is =
    let reads = first_named path item c.args.name.now c.in_ok-first.field-0 c.in_ok-first.ensures.reads plain is in
    let Read : Option (List ℕ × Option (Bor (List ℕ))) → Type 0 = IsRead (origin_name path.origin) (escaped_parts (path.components ++ item ∷ [])) in
    absurd (subst Read c.in_default.is reads)

pub returns-in_default-2 : goal.returns-in_default-2
returns-in_default-2 c path item plain is =
    let reads = first_named path item c.args.name.now c.in_ok-first.field-0 c.in_ok-first.ensures.reads plain is in
    let Read : Option (List ℕ × Option (Bor (List ℕ))) → Type 0 = IsRead (origin_name path.origin) (escaped_parts (path.components ++ item ∷ [])) in
    let first = subst Read c.in-Some.is reads in
    let rest = rest_named path item (behind c.in-Some.rest) c.in_ok-components.field-0 c.in_ok-components.ensures plain first.1 in
    let none = c.in_default-2.is in
    cc

pub returns-in_default-pop : goal.returns-in_default-pop
returns-in_default-pop c path item plain is =
    let reads = first_named path item c.args.name.now c.in_ok-first.field-0 c.in_ok-first.ensures.reads plain is in
    let Read : Option (List ℕ × Option (Bor (List ℕ))) → Type 0 = IsRead (origin_name path.origin) (escaped_parts (path.components ++ item ∷ [])) in
    let first = subst Read c.in-Some.is reads in
    let rest = rest_named path item (behind c.in-Some.rest) c.in_ok-components.field-0 c.in_ok-components.ensures plain first.1 in
    let some = c.in-Some-2.is in
    let empty = c.in_default-pop.ensures.0 in
    let nothing : [] ≡ path.components ++ item ∷ [] = cc in
    absurd (some_behind path.components item nothing)

pub returns : goal.returns
returns c path item plain is =
    let reads = first_named path item c.args.name.now c.in_ok-first.field-0 c.in_ok-first.ensures.reads plain is in
    let Read : Option (List ℕ × Option (Bor (List ℕ))) → Type 0 = IsRead (origin_name path.origin) (escaped_parts (path.components ++ item ∷ [])) in
    let first = subst Read c.in-Some.is reads in
    let rest = rest_named path item (behind c.in-Some.rest) c.in_ok-components.field-0 c.in_ok-components.ensures plain first.1 in
    let some = c.in-Some-2.is in
    let last = c.in-Some-pop.ensures in
    let origin = c.origin_of.ensures path.origin plain.origin first.0 in
    let made = c.new.ensures in
    let behind_origin : path.components ++ item ∷ [] ≡ c.pop.new.self ++ c.in-Some-pop.item ∷ [] = cc in
    let whole = whole_item path item c.in-Some-pop.item c.origin_of.result c.pop.new.self origin behind_origin in
    cc
