-- What uses mean, by the names of a module.
use Rattle.std.proofs.Common.{◌≡◌, refl, sym, ap, ◌∙◌, ℕ, List, [], ◌∷◌, ◌++◌, Option, Some, None, append_assoc}
use Rattle.std.specs.Prelude.{codes}
use Rattle.std.specs.Option.{option_map}
use Rattle.std.specs.HashMap.{get_by_text}
use Rattle.wgsl_path.specs.declared.path.ModulePath.{ModulePath}
use Rattle.wgsl_path.specs.declared.path.PathOrigin.{PathOrigin}
use Rattle.wgsl_path.specs.declared.path.PathOrigin.TheVariants.{Absolute, Relative, Package}
use Rattle.wgsl_path.specs.Joining.{with_names}
use Rattle.wgsl_path.specs.Paths.{path_text, origin_text, components_text}
use Rattle.wesl_mark.specs.declared.place.Place.{Place}
use Rattle.wesl_chains.specs.Outlines.{Name, Item, Outline, item_named, place_of}
use Rattle.wesl_chains.specs.Senses.{own, free, base_sense, item_sense, name_sense, item_as_module, unless_imported, module_meant, meant_by, sense}
use Rattle.wesl_module_index.specs.declared.imports.Names.{Names}
use Rattle.wesl_module_index.specs.declared.module.Meaning.{Meaning}
use Rattle.wesl_module_index.specs.declared.module.Meaning.TheVariants.{Declared, Imported}
use Rattle.wesl_module_index.specs.Tables.{Import, import_of, import_by, place_by, item_by, place_number, symbol_sense, import_sense}
use Rattle.wesl_module_index.specs.Naming.{SayNames, leading}
use Rattle.wesl_module_index.proofs.Items.{flat_append}

-- ---- names without a path

none_of : {A B : Type 0} (f : A → B) (o : Option A) → option_map f o ≡ None → o ≡ None
none_of f None e = refl
none_of f (Some x) e = absurd (cc)

pub free_sense : (n : Names) (x : Name) (places : List Place) (o : Outline) → SayNames n places o → get_by_text n.scope x ≡ None → free ≡ sense o (record { path = None; name = x })
free_sense n x places o s e =
    let nowhere : place_of x o ≡ None = sym (s.declared x) ∙ ap (place_by places) e in
    let none : item_named x o.items ≡ None = none_of import_of (item_named x o.items) (sym (s.imported x) ∙ ap (item_by n.targets.items n.items.items) e) in
    sym (ap (name_sense o x) nowhere ∙ ap item_sense none)

pub own_sense : (n : Names) (x : Name) (k : ℕ) (places : List Place) (o : Outline) → SayNames n places o → get_by_text n.scope x ≡ Some (Declared k)
    → own (place_number places k) ≡ sense o (record { path = None; name = x })
own_sense n x k places o s e =
    let here : place_of x o ≡ Some (place_number places k) = sym (s.declared x) ∙ ap (place_by places) e in
    sym (ap (name_sense o x) here)

base_named : (b : Option ModulePath) (x : Name) → symbol_sense x (option_map (λ p. record { home = p; name = x }) (option_map path_text b)) ≡ base_sense b x
base_named None x = refl
base_named (Some p) x = refl

item_named_so : (i : Option Item) → import_sense (option_map import_of i) ≡ item_sense i
item_named_so None = refl
item_named_so (Some i) = base_named i.base i.last

pub import_sense_said : (n : Names) (x : Name) (k : ℕ) (places : List Place) (o : Outline) → SayNames n places o → get_by_text n.scope x ≡ Some (Imported k)
    → import_sense (import_by n.targets.items n.items.items k) ≡ sense o (record { path = None; name = x })
import_sense_said n x k places o s e =
    let nowhere : place_of x o ≡ None = sym (s.declared x) ∙ ap (place_by places) e in
    let it : import_by n.targets.items n.items.items k ≡ option_map import_of (item_named x o.items) = sym (ap (item_by n.targets.items n.items.items) e) ∙ s.imported x in
    ap import_sense it ∙ item_named_so (item_named x o.items) ∙ sym (ap (name_sense o x) nowhere)

-- ---- names behind a path

longer_text : (p : ModulePath) (xs : List Name) → path_text (with_names p xs) ≡ path_text p ++ components_text xs
longer_text p xs =
    ap (λ t. origin_text p.origin ++ t) (flat_append (λ x. codes "::" ++ x) p.components xs)
    ∙ sym (append_assoc (origin_text p.origin) (components_text p.components) (components_text xs))

pub same_text : (p q : ModulePath) (xs : List Name) → path_text p ≡ path_text q → path_text (with_names p xs) ≡ path_text (with_names q xs)
same_text p q xs e = longer_text p xs ∙ ap (λ t. t ++ components_text xs) e ∙ sym (longer_text q xs)

-- the path of an item whose target is this
pub bare_path : (base : Option ModulePath) (x : Name) → None ≡ option_map path_text base → path_text (record { origin = Package x; components = [] }) ≡ path_text (item_as_module base x)
bare_path None x e = refl
bare_path (Some b) x e = absurd (cc)

pub behind_target : (t : ModulePath) (printed : List ℕ) (base : Option ModulePath) (x : Name) → path_text t ≡ printed → Some printed ≡ option_map path_text base
    → path_text (with_names t (x ∷ [])) ≡ path_text (item_as_module base x)
behind_target t printed None x is e = absurd (cc)
behind_target t printed (Some b) x is e = let same : printed ≡ path_text b = cc in same_text t b (x ∷ []) (is ∙ same)

pub imported_path : (o : Outline) (written : ModulePath) (origin : PathOrigin) (i : Item) → leading o origin ≡ Some i
    → module_meant o written origin ≡ with_names (item_as_module i.base i.last) written.components
imported_path o written Absolute i e = absurd (cc)
imported_path o written (Relative n) i e = absurd (cc)
imported_path o written (Package p) i e = ap (unless_imported written) e

pub plain_path : (o : Outline) (written : ModulePath) (origin : PathOrigin) → leading o origin ≡ None → module_meant o written origin ≡ meant_by o.path written origin
plain_path o written Absolute e = refl
plain_path o written (Relative n) e = refl
plain_path o written (Package p) e = ap (unless_imported written) e

pub some_leading : (lead : Option Item) (j : Import) → Some j ≡ option_map import_of lead → (i : Item) × (lead ≡ Some i) × (j ≡ import_of i)
some_leading None j e = absurd (cc)
some_leading (Some i) j e = let same : j ≡ import_of i = cc in (i, refl, same)

pub none_leading : (lead : Option Item) → None ≡ option_map import_of lead → lead ≡ None
none_leading None e = refl
none_leading (Some i) e = absurd (cc)

-- ---- imports before paths

pub led : (n : Names) (places : List Place) (o : Outline) → SayNames n places o → (origin : PathOrigin) (p key : Name) → origin ≡ Package p → key ≡ p → (m : Option Meaning) → get_by_text n.scope key ≡ m
    → item_by n.targets.items n.items.items m ≡ option_map import_of (leading o origin)
led n places o s origin p key is same m e =
    ap (item_by n.targets.items n.items.items) (sym e) ∙ s.imported key ∙ ap (λ q. option_map import_of (item_named q o.items)) same
    ∙ ap (λ r. option_map import_of (leading o r)) (sym is)

-- names behind the path of an item are behind the outline's item
pub item_behind : (o : Outline) (written : ModulePath) (i : Item) (x : Name) → leading o written.origin ≡ Some i → x ≡ i.last
    → path_text (with_names (item_as_module i.base x) written.components) ≡ path_text (module_meant o written written.origin)
item_behind o written i x lead same =
    ap (λ y. path_text (with_names (item_as_module i.base y) written.components)) same ∙ ap path_text (sym (imported_path o written written.origin i lead))
