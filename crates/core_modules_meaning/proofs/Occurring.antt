-- The names that occur in a renamed declaration are the new names of those that occur in it.
use Rattle.std.proofs.Common.{◌≡◌, ◌⊎◌, inl, inr, List, [], ◌∷◌, ◌++◌, map, Option, Some, None, Bool, true, false, refl, sym, ap, ◌∙◌, Contains, flat_map, option_map}
use Rattle.std.specs.Prelude.{if◌then◌else◌}
use Rattle.std.proofs.lemmas.List.Elements.{Contains-append_cases}
use Rattle.wgsl_base.proofs.Members.{first_in}
use Rattle.core_syntax.specs.Tree.{Exp, Exps, literal, parenthesized, unary, binary, call, named, nil, cons, Typ, simple, templated, Attr, fragment, location, Stm, returning, Param, Decl, variable, function}
use Rattle.core_programs.specs.Names.{Name}
use Rattle.core_link_spec.specs.Occurrences.{is_among, unless_local, in_expression, in_expressions, in_type, in_some, in_attributes, in_statement, in_block, in_parameter, parameter_names, names_before, names_behind, names_in_body, occurrences}
use Rattle.core_link_spec.specs.Linked.{new_name, renamed, all_renamed, renamed_type, renamed_attributes, renamed_statement, renamed_block, renamed_parameter, renamed_declaration}
use Rattle.core_modules_meaning.proofs.Renaming.{Fit, DeclFits, left, right}

map_append : {A B : Type 0} (f : A → B) (xs ys : List A) → map f (xs ++ ys) ≡ map f xs ++ map f ys
map_append f [] ys = refl
map_append f (x ∷ xs) ys = ap (λ l. f x ∷ l) (map_append f xs ys)

module _ (new : Name → Name) (Q : Name → Type 0) where
  -- two parts
  joined : (xs ys xs' ys' : List Name) → xs' ≡ map new xs → ys' ≡ map new ys → xs' ++ ys' ≡ map new (xs ++ ys)
  joined xs ys xs' ys' e f = (λ i. e i ++ f i) ∙ sym (map_append new xs ys)

  module _ (hiding : List Name) where
    of_name : (x : Name) → Fit new Q hiding (unless_local hiding x) → unless_local hiding (new_name new hiding x) ≡ map new (unless_local hiding x)
    of_name x fit = at (is_among x hiding) refl fit
      where
        at : (b : Bool) → is_among x hiding ≡ b → Fit new Q hiding (if b then [] else x ∷ []) → unless_local hiding (if b then x else new x) ≡ map new (if b then [] else x ∷ [])
        at true e f = ap (λ c. if c then [] else x ∷ []) e
        at false e f = ap (λ c. if c then [] else new x ∷ []) ((f x (first_in x [])).1 e)

    mutual
      of_expression : (e : Exp) → Fit new Q hiding (in_expression hiding e) → in_expression hiding (renamed new hiding e) ≡ map new (in_expression hiding e)
      of_expression (literal l) f = refl
      of_expression (parenthesized e) f = of_expression e f
      of_expression (unary o e) f = of_expression e f
      of_expression (binary o a b) f = joined (in_expression hiding a) (in_expression hiding b) _ _ (of_expression a (left new Q hiding _ _ f)) (of_expression b (right new Q hiding (in_expression hiding a) _ f))
      of_expression (call t es) f = joined (in_type hiding t) (in_expressions hiding es) _ _ (of_type t (left new Q hiding _ _ f)) (of_expressions es (right new Q hiding (in_type hiding t) _ f))
      of_expression (named t) f = of_type t f

      of_expressions : (es : Exps) → Fit new Q hiding (in_expressions hiding es) → in_expressions hiding (all_renamed new hiding es) ≡ map new (in_expressions hiding es)
      of_expressions nil f = refl
      of_expressions (cons e es) f = joined (in_expression hiding e) (in_expressions hiding es) _ _ (of_expression e (left new Q hiding _ _ f)) (of_expressions es (right new Q hiding (in_expression hiding e) _ f))

      of_type : (t : Typ) → Fit new Q hiding (in_type hiding t) → in_type hiding (renamed_type new hiding t) ≡ map new (in_type hiding t)
      of_type (simple None x) f = of_name x f
      of_type (simple (Some path) x) f = refl
      of_type (templated None x es) f = joined (unless_local hiding x) (in_expressions hiding es) _ _ (of_name x (left new Q hiding _ _ f)) (of_expressions es (right new Q hiding (unless_local hiding x) _ f))
      of_type (templated (Some path) x es) f = of_expressions es f

    of_attributes : (a : List Attr) → Fit new Q hiding (in_attributes hiding a) → in_attributes hiding (renamed_attributes new hiding a) ≡ map new (in_attributes hiding a)
    of_attributes [] f = refl
    of_attributes (fragment ∷ rest) f = of_attributes rest f
    of_attributes (location e ∷ rest) f = joined (in_expression hiding e) (in_attributes hiding rest) _ _ (of_expression e (left new Q hiding _ _ f)) (of_attributes rest (right new Q hiding (in_expression hiding e) _ f))

    of_some_type : (t : Option Typ) → Fit new Q hiding (in_some (in_type hiding) t) → in_some (in_type hiding) (option_map (renamed_type new hiding) t) ≡ map new (in_some (in_type hiding) t)
    of_some_type None f = refl
    of_some_type (Some t) f = of_type t f

    of_some_expression : (e : Option Exp) → Fit new Q hiding (in_some (in_expression hiding) e) → in_some (in_expression hiding) (option_map (renamed new hiding) e) ≡ map new (in_some (in_expression hiding) e)
    of_some_expression None f = refl
    of_some_expression (Some e) f = of_expression e f

    of_statements : (ss : List Stm) → Fit new Q hiding (flat_map (in_statement hiding) ss) → flat_map (in_statement hiding) (map (renamed_statement new hiding) ss) ≡ map new (flat_map (in_statement hiding) ss)
    of_statements [] f = refl
    of_statements (returning a e ∷ rest) f =
        let own : Fit new Q hiding (in_statement hiding (returning a e)) = left new Q hiding (in_statement hiding (returning a e)) (flat_map (in_statement hiding) rest) f in
        joined (in_statement hiding (returning a e)) (flat_map (in_statement hiding) rest) _ _
        (joined (in_attributes hiding a) (in_some (in_expression hiding) e) _ _ (of_attributes a (left new Q hiding (in_attributes hiding a) (in_some (in_expression hiding) e) own)) (of_some_expression e (right new Q hiding (in_attributes hiding a) (in_some (in_expression hiding) e) own)))
        (of_statements rest (right new Q hiding (in_statement hiding (returning a e)) _ f))

  of_parameters : (ps : List Param) → Fit new Q [] (flat_map in_parameter ps) → flat_map in_parameter (map (renamed_parameter new) ps) ≡ map new (flat_map in_parameter ps)
  of_parameters [] f = refl
  of_parameters (p ∷ ps) f =
      let own : Fit new Q [] (in_parameter p) = left new Q [] (in_parameter p) (flat_map in_parameter ps) f in
      joined (in_parameter p) (flat_map in_parameter ps) _ _
      (joined (in_attributes [] p.attributes) (in_type [] p.type) _ _ (of_attributes [] p.attributes (left new Q [] (in_attributes [] p.attributes) (in_type [] p.type) own)) (of_type [] p.type (right new Q [] (in_attributes [] p.attributes) (in_type [] p.type) own)))
      (of_parameters ps (right new Q [] (in_parameter p) (flat_map in_parameter ps) f))

  same_names : (ps : List Param) → parameter_names (map (renamed_parameter new) ps) ≡ parameter_names ps
  same_names [] = refl
  same_names (p ∷ ps) = ap (λ l. p.name ∷ l) (same_names ps)

  before : (d : Decl) → DeclFits new Q d → names_before (renamed_declaration new d) ≡ map new (names_before d)
  before (variable a kind x t e) f = of_attributes [] a f.before
  before (function a g ps r t b) f = of_attributes [] a f.before

  behind : (d : Decl) → DeclFits new Q d → names_behind (renamed_declaration new d) ≡ map new (names_behind d)
  behind (variable a kind x t e) f =
      joined (in_some (in_type []) t) (in_some (in_expression []) e) _ _ (of_some_type [] t (left new Q [] (in_some (in_type []) t) (in_some (in_expression []) e) f.behind)) (of_some_expression [] e (right new Q [] (in_some (in_type []) t) (in_some (in_expression []) e) f.behind))
  behind (function a g ps r t b) f =
      let first : Fit new Q [] (flat_map in_parameter ps ++ in_attributes [] r) = left new Q [] (flat_map in_parameter ps ++ in_attributes [] r) (in_some (in_type []) t) f.behind in
      joined (flat_map in_parameter ps ++ in_attributes [] r) (in_some (in_type []) t) _ _
      (joined (flat_map in_parameter ps) (in_attributes [] r) _ _ (of_parameters ps (left new Q [] (flat_map in_parameter ps) (in_attributes [] r) first)) (of_attributes [] r (right new Q [] (flat_map in_parameter ps) (in_attributes [] r) first)))
      (of_some_type [] t (right new Q [] (flat_map in_parameter ps ++ in_attributes [] r) (in_some (in_type []) t) f.behind))

  in_body : (d : Decl) → DeclFits new Q d → names_in_body (renamed_declaration new d) ≡ map new (names_in_body d)
  in_body (variable a kind x t e) f = refl
  in_body (function a g ps r t b) f =
      ap (λ l. in_block l (renamed_block new (parameter_names ps) b)) (same_names ps)
      ∙ joined (in_attributes (parameter_names ps) b.attributes) (flat_map (in_statement (parameter_names ps)) b.statements) _ _
      (of_attributes (parameter_names ps) b.attributes (left new Q (parameter_names ps) (in_attributes (parameter_names ps) b.attributes) (flat_map (in_statement (parameter_names ps)) b.statements) f.in_body))
      (of_statements (parameter_names ps) b.statements (right new Q (parameter_names ps) (in_attributes (parameter_names ps) b.attributes) (flat_map (in_statement (parameter_names ps)) b.statements) f.in_body))

  pub of_declaration : (d : Decl) → DeclFits new Q d → occurrences (renamed_declaration new d) ≡ map new (occurrences d)
  of_declaration d f =
      joined (names_before d ++ names_behind d) (names_in_body d) (names_before (renamed_declaration new d) ++ names_behind (renamed_declaration new d)) (names_in_body (renamed_declaration new d))
      (joined (names_before d) (names_behind d) (names_before (renamed_declaration new d)) (names_behind (renamed_declaration new d)) (before d f) (behind d f)) (in_body d f)

  -- each occurrence has a meaning
  pub has_meaning : (d : Decl) → DeclFits new Q d → (x : Name) → Contains (occurrences d) x → Q x
  has_meaning d f x c = by_part (Contains-append_cases (names_before d ++ names_behind d) (names_in_body d) x c)
    where
      by_head : Contains (names_before d) x ⊎ Contains (names_behind d) x → Q x
      by_head (inl a) = (f.before x a).0
      by_head (inr a) = (f.behind x a).0

      by_part : Contains (names_before d ++ names_behind d) x ⊎ Contains (names_in_body d) x → Q x
      by_part (inl a) = by_head (Contains-append_cases (names_before d) (names_behind d) x a)
      by_part (inr a) = (f.in_body x a).0
