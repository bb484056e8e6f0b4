-- Modules are linked into one unit.
use Rattle.std.proofs.Common.{◌≡◌, ◌⊎◌, inl, inr, List, [], ◌∷◌, ◌++◌, map, Option, Some, None, Bool, true, false, refl, sym, ap, ◌∙◌, subst, Contains, flat_map, option_map}
use Rattle.std.specs.Prelude.{if◌then◌else◌}
use Rattle.std.proofs.lemmas.List.Elements.{Contains-append_left, Contains-append_right}
use Rattle.core_syntax.specs.Tree.{Exp, Exps, literal, parenthesized, unary, binary, call, named, nil, cons, Typ, simple, templated, Attr, fragment, location, Stm, returning, Block, Param, Decl, variable, function, UnitTree as Module}
use Rattle.core_syntax.specs.Names.{declared_name}
use Rattle.core_link_spec.specs.Occurrences.{Name, is_among, unless_local, in_expression, in_expressions, in_type, in_some, in_attribute, in_attributes, in_statement, in_block, in_parameter, parameter_names, occurrences}
use Rattle.core_link_spec.specs.Modules.{Path, Symbol, Modules, IsModule, IsFree, Denotes, Reached}
use Rattle.core_link_spec.specs.Linked.{new_name, renamed, all_renamed, renamed_type, renamed_attribute, renamed_attributes, renamed_statement, renamed_block, renamed_parameter, renamed_declaration, IsNaming, Selects, IsLinkedModule, AreLinkedModules, no_module, a_module, IsLinked}
use Rattle.core_link_spec.specs.Loaded.{AreLoaded}
use Rattle.core_modules_meaning.specs.SourcePrograms.{declared_symbol}
use Rattle.core_modules_meaning.specs.Unique.{LinkedUnitsAreOne}
use Rattle.wgsl_base.proofs.Members.{first_in}
use Rattle.core_modules_meaning.proofs.Order.{order_once}
use Rattle.core_modules_meaning.proofs.Symbols.{selected_from, selected_once, one_unit, printed_once, named_as}

-- ---- new names that agree on what occurs rename alike

module _ (new other : Name → Name) where
  abbrev Agree : List Name → Type 0
  Agree xs = (x : Name) → Contains xs x → new x ≡ other x

  left : (xs ys : List Name) → Agree (xs ++ ys) → Agree xs
  left xs ys h x c = h x (Contains-append_left xs ys x c)

  right : (xs ys : List Name) → Agree (xs ++ ys) → Agree ys
  right xs ys h x c = h x (Contains-append_right xs ys x c)

  name_same : (hiding : List Name) (x : Name) → Agree (unless_local hiding x) → new_name new hiding x ≡ new_name other hiding x
  name_same hiding x h = at (is_among x hiding) h
    where
      at : (b : Bool) → Agree (if b then [] else x ∷ []) → (if b then x else new x) ≡ (if b then x else other x)
      at true g = refl
      at false g = g x (first_in x [])

  module _ (hiding : List Name) where
    mutual
      exp_same : (e : Exp) → Agree (in_expression hiding e) → renamed new hiding e ≡ renamed other hiding e
      exp_same (literal l) h = refl
      exp_same (parenthesized e) h = ap parenthesized (exp_same e h)
      exp_same (unary o e) h = ap (unary o) (exp_same e h)
      exp_same (binary o a b) h =
          ap (λ z. binary o z (renamed new hiding b)) (exp_same a (left (in_expression hiding a) (in_expression hiding b) h))
          ∙ ap (binary o (renamed other hiding a)) (exp_same b (right (in_expression hiding a) (in_expression hiding b) h))
      exp_same (call t es) h =
          ap (λ z. call z (all_renamed new hiding es)) (typ_same t (left (in_type hiding t) (in_expressions hiding es) h))
          ∙ ap (call (renamed_type other hiding t)) (exps_same es (right (in_type hiding t) (in_expressions hiding es) h))
      exp_same (named t) h = ap named (typ_same t h)

      exps_same : (es : Exps) → Agree (in_expressions hiding es) → all_renamed new hiding es ≡ all_renamed other hiding es
      exps_same nil h = refl
      exps_same (cons e es) h =
          ap (λ z. cons z (all_renamed new hiding es)) (exp_same e (left (in_expression hiding e) (in_expressions hiding es) h))
          ∙ ap (cons (renamed other hiding e)) (exps_same es (right (in_expression hiding e) (in_expressions hiding es) h))

      typ_same : (t : Typ) → Agree (in_type hiding t) → renamed_type new hiding t ≡ renamed_type other hiding t
      typ_same (simple None x) h = ap (simple None) (name_same hiding x h)
      typ_same (simple (Some path) x) h = refl
      typ_same (templated None x es) h =
          ap (λ z. templated None z (all_renamed new hiding es)) (name_same hiding x (left (unless_local hiding x) (in_expressions hiding es) h))
          ∙ ap (templated None (new_name other hiding x)) (exps_same es (right (unless_local hiding x) (in_expressions hiding es) h))
      typ_same (templated (Some path) x es) h = ap (templated (Some path) x) (exps_same es h)

    attribute_same : (a : Attr) → Agree (in_attribute hiding a) → renamed_attribute new hiding a ≡ renamed_attribute other hiding a
    attribute_same fragment h = refl
    attribute_same (location e) h = ap location (exp_same e h)

    some_same : (e : Option Exp) → Agree (in_some (in_expression hiding) e) → option_map (renamed new hiding) e ≡ option_map (renamed other hiding) e
    some_same None h = refl
    some_same (Some e) h = ap Some (exp_same e h)

    some_type_same : (t : Option Typ) → Agree (in_some (in_type hiding) t) → option_map (renamed_type new hiding) t ≡ option_map (renamed_type other hiding) t
    some_type_same None h = refl
    some_type_same (Some t) h = ap Some (typ_same t h)

  -- of each in turn
  all_same : {A : Type 0} (names : A → List Name) (f g : A → A) → ((a : A) → Agree (names a) → f a ≡ g a) → (as' : List A) → Agree (flat_map names as') → map f as' ≡ map g as'
  all_same names f g one [] h = refl
  all_same names f g one (a ∷ rest) h =
      ap (λ z. z ∷ map f rest) (one a (left (names a) (flat_map names rest) h)) ∙ ap (λ l. g a ∷ l) (all_same names f g one rest (right (names a) (flat_map names rest) h))

  attributes_same : (hiding : List Name) (as' : List Attr) → Agree (in_attributes hiding as') → renamed_attributes new hiding as' ≡ renamed_attributes other hiding as'
  attributes_same hiding as' h = all_same (in_attribute hiding) (renamed_attribute new hiding) (renamed_attribute other hiding) (attribute_same hiding) as' h

  statement_same : (hiding : List Name) (s : Stm) → Agree (in_statement hiding s) → renamed_statement new hiding s ≡ renamed_statement other hiding s
  statement_same hiding (returning as' e) h =
      ap (λ z. returning z (option_map (renamed new hiding) e)) (attributes_same hiding as' (left (in_attributes hiding as') (in_some (in_expression hiding) e) h))
      ∙ ap (returning (renamed_attributes other hiding as')) (some_same hiding e (right (in_attributes hiding as') (in_some (in_expression hiding) e) h))

  block_same : (hiding : List Name) (b : Block) → Agree (in_block hiding b) → renamed_block new hiding b ≡ renamed_block other hiding b
  block_same hiding b h =
      ap (λ z. record { attributes = z; statements = map (renamed_statement new hiding) b.statements }) (attributes_same hiding b.attributes (left (in_attributes hiding b.attributes) (flat_map (in_statement hiding) b.statements) h))
      ∙ ap (λ z. record { attributes = renamed_attributes other hiding b.attributes; statements = z })
      (all_same (in_statement hiding) (renamed_statement new hiding) (renamed_statement other hiding) (statement_same hiding) b.statements (right (in_attributes hiding b.attributes) (flat_map (in_statement hiding) b.statements) h))

  parameter_same : (p : Param) → Agree (in_parameter p) → renamed_parameter new p ≡ renamed_parameter other p
  parameter_same p h =
      ap (λ z. record { attributes = z; name = p.name; type = renamed_type new [] p.type }) (attributes_same [] p.attributes (left (in_attributes [] p.attributes) (in_type [] p.type) h))
      ∙ ap (λ z. record { attributes = renamed_attributes other [] p.attributes; name = p.name; type = z }) (typ_same [] p.type (right (in_attributes [] p.attributes) (in_type [] p.type) h))

  declaration_same : (d : Decl) → new (declared_name d) ≡ other (declared_name d) → Agree (occurrences d) → renamed_declaration new d ≡ renamed_declaration other d
  declaration_same (variable as' kind x t e) n h =
      let outside = left (in_attributes [] as' ++ (in_some (in_type []) t ++ in_some (in_expression []) e)) [] h in
      let behind = right (in_attributes [] as') (in_some (in_type []) t ++ in_some (in_expression []) e) outside in
      ap (λ z. variable z kind (new x) (option_map (renamed_type new []) t) (option_map (renamed new []) e)) (attributes_same [] as' (left (in_attributes [] as') (in_some (in_type []) t ++ in_some (in_expression []) e) outside))
      ∙ ap (λ z. variable (renamed_attributes other [] as') kind z (option_map (renamed_type new []) t) (option_map (renamed new []) e)) n
      ∙ ap (λ z. variable (renamed_attributes other [] as') kind (other x) z (option_map (renamed new []) e)) (some_type_same [] t (left (in_some (in_type []) t) (in_some (in_expression []) e) behind))
      ∙ ap (variable (renamed_attributes other [] as') kind (other x) (option_map (renamed_type other []) t)) (some_same [] e (right (in_some (in_type []) t) (in_some (in_expression []) e) behind))
  declaration_same (function as' x ps rs t b) n h =
      let B : List Name = flat_map in_parameter ps ++ in_attributes [] rs ++ in_some (in_type []) t in
      let body = right (in_attributes [] as' ++ B) (in_block (parameter_names ps) b) h in
      let outside = left (in_attributes [] as' ++ B) (in_block (parameter_names ps) b) h in
      let behind = right (in_attributes [] as') B outside in
      let typed = right (flat_map in_parameter ps ++ in_attributes [] rs) (in_some (in_type []) t) behind in
      let rest = left (flat_map in_parameter ps ++ in_attributes [] rs) (in_some (in_type []) t) behind in
      ap (λ z. function z (new x) (map (renamed_parameter new) ps) (renamed_attributes new [] rs) (option_map (renamed_type new []) t) (renamed_block new (parameter_names ps) b)) (attributes_same [] as' (left (in_attributes [] as') B outside))
      ∙ ap (λ z. function (renamed_attributes other [] as') z (map (renamed_parameter new) ps) (renamed_attributes new [] rs) (option_map (renamed_type new []) t) (renamed_block new (parameter_names ps) b)) n
      ∙ ap (λ z. function (renamed_attributes other [] as') (other x) z (renamed_attributes new [] rs) (option_map (renamed_type new []) t) (renamed_block new (parameter_names ps) b))
      (all_same in_parameter (renamed_parameter new) (renamed_parameter other) parameter_same ps (left (flat_map in_parameter ps) (in_attributes [] rs) rest))
      ∙ ap (λ z. function (renamed_attributes other [] as') (other x) (map (renamed_parameter other) ps) z (option_map (renamed_type new []) t) (renamed_block new (parameter_names ps) b)) (attributes_same [] rs (right (flat_map in_parameter ps) (in_attributes [] rs) rest))
      ∙ ap (λ z. function (renamed_attributes other [] as') (other x) (map (renamed_parameter other) ps) (renamed_attributes other [] rs) z (renamed_block new (parameter_names ps) b)) (some_type_same [] t typed)
      ∙ ap (function (renamed_attributes other [] as') (other x) (map (renamed_parameter other) ps) (renamed_attributes other [] rs) (option_map (renamed_type other []) t)) (block_same (parameter_names ps) b body)

-- ---- the unit

map_same : (f g : Decl → Decl) (ds : List Decl) → ((d : Decl) → Contains ds d → f d ≡ g d) → map f ds ≡ map g ds
map_same f g [] h = refl
map_same f g (d ∷ ds) h = ap (λ z. z ∷ map f ds) (h d (first_in d ds)) ∙ ap (λ l. g d ∷ l) (map_same f g ds (λ e c. h e (Contains-append_right (d ∷ []) ds e c)))

module _ (modules : Modules) (root : Path) (keep : List Name) (loaded : AreLoaded modules root keep) where
  -- two namings of a module agree on what occurs in a reached declaration
  namings_agree : (m : Path) (u : Module) (new other : Name → Name) → IsModule modules m u → IsNaming modules root m new → IsNaming modules root m other
      → (d : Decl) → Contains u.declarations d → Reached modules root keep (declared_symbol m d) → renamed_declaration new d ≡ renamed_declaration other d
  namings_agree m u new other i n o d c r =
      declaration_same new other d
      (printed_once modules root keep loaded (declared_symbol m d) (new (declared_name d)) (other (declared_name d)) (named_as modules root keep loaded m u new d i n c) (named_as modules root keep loaded m u other d i o c))
      (λ x k. at x (loaded.resolved (declared_symbol m d) d x r (record { unit = u; is_module = i; stands = c; name = refl }) k))
    where
      at : (x : Name) → ((t : Symbol) × Denotes modules m x t) ⊎ IsFree modules m x → new x ≡ other x
      at x (inl t) = printed_once modules root keep loaded t.0 (new x) (other x) (n.denoting x t.0 t.1) (o.denoting x t.0 t.1)
      at x (inr f) = n.free x f ∙ sym (o.free x f)

  module_same : (m : Path) (ds es : List Decl) → IsLinkedModule modules root keep m ds → IsLinkedModule modules root keep m es → ds ≡ es
  module_same m ds es k l =
      let P : Decl → Type 0 = λ d. Reached modules root keep (declared_symbol m d) in
      let units : k.unit ≡ l.unit = one_unit modules root keep loaded m k.unit l.unit k.is_module l.is_module in
      let same : k.held ≡ l.held = selected_once P l.unit.declarations k.held l.held (subst (λ u. Selects P u.declarations k.held) units k.selected) l.selected in
      k.whole
      ∙ map_same (renamed_declaration k.new) (renamed_declaration l.new) k.held (λ d c.
      let s = selected_from P k.unit.declarations k.held k.selected d c in
      namings_agree m k.unit k.new l.new k.is_module k.naming l.naming d s.0 s.1)
      ∙ ap (map (renamed_declaration l.new)) same
      ∙ sym l.whole

  modules_same : (order : List Path) (ds es : List Decl) → AreLinkedModules modules root keep order ds → AreLinkedModules modules root keep order es → ds ≡ es
  modules_same [] _ _ no_module no_module = refl
  modules_same (m ∷ ms) _ _ (a_module {ds = ds} {es = es} k rest) (a_module {ds = ds'} {es = es'} l others) =
      ap (λ z. z ++ es) (module_same m ds ds' k l) ∙ ap (λ z. ds' ++ z) (modules_same ms es es' rest others)

  unit_same : (u v : Module) → IsLinked modules root keep u → IsLinked modules root keep v → u ≡ v
  unit_same u v a b =
      let orders : a.order ≡ b.order = order_once modules root a.order b.order a.in_order b.in_order in
      let declarations : u.declarations ≡ v.declarations = modules_same b.order u.declarations v.declarations (subst (λ o. AreLinkedModules modules root keep o u.declarations) orders a.declares) b.declares in
      ap (λ z. record { imports = z; declarations = u.declarations }) (a.no_imports ∙ sym b.no_imports) ∙ ap (λ z. record { imports = v.imports; declarations = z }) declarations

pub linked_units_are_one : LinkedUnitsAreOne
linked_units_are_one modules root keep u v loaded a b = unit_same modules root keep loaded u v a b
