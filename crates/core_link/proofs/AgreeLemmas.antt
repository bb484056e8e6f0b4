-- Renaming looks at no other names than those that occur.
use Rattle.std.proofs.Common.{◌≡◌, refl, ap, List, [], ◌∷◌, ◌++◌, map, Bool, true, false, Option, Some, None}
use Rattle.std.specs.Prelude.{if◌then◌else◌}
use Rattle.std.specs.Option.{option_map}
use Rattle.std.specs.List.{Contains, flat_map}
use Rattle.core_syntax.specs.Tree.{Exp, literal, parenthesized, unary, binary, call, named, Exps, nil, cons, Typ, simple, templated, Attr, fragment, location, Stm, returning, Block, Param, Decl, variable, function}
use Rattle.core_link_spec.specs.Occurrences.{Name, is_among, unless_local, in_expression, in_expressions, in_type, in_some, in_attribute, in_attributes, in_statement, in_block, in_parameter, parameter_names, occurrences, declared_name}
use Rattle.core_link_spec.specs.Linked.{new_name, renamed, all_renamed, renamed_type, renamed_attribute, renamed_attributes, renamed_statement, renamed_block, renamed_parameter, renamed_declaration}
use Rattle.core_scopes.proofs.ScopeLemmas.{append_left, append_right}
use Rattle.wgsl_base.proofs.Members.{to_contains, from_contains}

module _ (f g : Name → Name) where
  abbrev pub Agree : List Name → Type 0
  Agree xs = (x : Name) → Contains xs x → f x ≡ g x

  left : (xs ys : List Name) → Agree (xs ++ ys) → Agree xs
  left xs ys same x c = let p = from_contains xs x c in same x (to_contains (xs ++ ys) p.0 x (append_left xs ys p.0 x p.1))

  right : (xs ys : List Name) → Agree (xs ++ ys) → Agree ys
  right xs ys same x c = let p = from_contains ys x c in let q = append_right xs ys p.0 x p.1 in same x (to_contains (xs ++ ys) q.0 x q.1)

  here : (locals : List Name) (x : Name) → Agree (unless_local locals x) → new_name f locals x ≡ new_name g locals x
  here locals x same = at (is_among x locals) same
    where
      at : (b : Bool) → Agree (if b then [] else x ∷ []) → (if b then x else f x) ≡ (if b then x else g x)
      at true same = refl
      at false same = same x (to_contains (x ∷ []) 0 x refl)

  mutual
    same_expression : (locals : List Name) (x : Exp) → Agree (in_expression locals x) → renamed f locals x ≡ renamed g locals x
    same_expression locals (literal l) same = refl
    same_expression locals (parenthesized x) same = ap parenthesized (same_expression locals x same)
    same_expression locals (unary o x) same = ap (unary o) (same_expression locals x same)
    same_expression locals (binary o x y) same = λ k. binary o
        (same_expression locals x (left (in_expression locals x) (in_expression locals y) same) k)
        (same_expression locals y (right (in_expression locals x) (in_expression locals y) same) k)
    same_expression locals (call t xs) same = λ k. call
        (same_type locals t (left (in_type locals t) (in_expressions locals xs) same) k)
        (same_expressions locals xs (right (in_type locals t) (in_expressions locals xs) same) k)
    same_expression locals (named t) same = ap named (same_type locals t same)

    same_expressions : (locals : List Name) (xs : Exps) → Agree (in_expressions locals xs) → all_renamed f locals xs ≡ all_renamed g locals xs
    same_expressions locals nil same = refl
    same_expressions locals (cons x xs) same = λ k. cons
        (same_expression locals x (left (in_expression locals x) (in_expressions locals xs) same) k)
        (same_expressions locals xs (right (in_expression locals x) (in_expressions locals xs) same) k)

    same_type : (locals : List Name) (t : Typ) → Agree (in_type locals t) → renamed_type f locals t ≡ renamed_type g locals t
    same_type locals (simple None x) same = ap (simple None) (here locals x same)
    same_type locals (simple (Some path) x) same = refl
    same_type locals (templated None x arguments) same = λ k. templated None
        (here locals x (left (unless_local locals x) (in_expressions locals arguments) same) k)
        (same_expressions locals arguments (right (unless_local locals x) (in_expressions locals arguments) same) k)
    same_type locals (templated (Some path) x arguments) same = ap (templated (Some path) x) (same_expressions locals arguments same)

  same_maybe : {A : Type 0} (names : A → List Name) (h i : A → A) → ((x : A) → Agree (names x) → h x ≡ i x) → (o : Option A) → Agree (in_some names o)
      → option_map h o ≡ option_map i o
  same_maybe names h i each None same = refl
  same_maybe names h i each (Some x) same = ap Some (each x same)

  same_each : {A : Type 0} (names : A → List Name) (h i : A → A) → ((x : A) → Agree (names x) → h x ≡ i x) → (xs : List A) → Agree (flat_map names xs) → map h xs ≡ map i xs
  same_each names h i each [] same = refl
  same_each names h i each (x ∷ xs) same = λ k.
      each x (left (names x) (flat_map names xs) same) k ∷ same_each names h i each xs (right (names x) (flat_map names xs) same) k

  same_attribute : (locals : List Name) (a : Attr) → Agree (in_attribute locals a) → renamed_attribute f locals a ≡ renamed_attribute g locals a
  same_attribute locals fragment same = refl
  same_attribute locals (location x) same = ap location (same_expression locals x same)

  same_attributes : (locals : List Name) (attributes : List Attr) → Agree (in_attributes locals attributes) → renamed_attributes f locals attributes ≡ renamed_attributes g locals attributes
  same_attributes locals attributes same = same_each (in_attribute locals) (renamed_attribute f locals) (renamed_attribute g locals) (same_attribute locals) attributes same

  same_statement : (locals : List Name) (s : Stm) → Agree (in_statement locals s) → renamed_statement f locals s ≡ renamed_statement g locals s
  same_statement locals (returning attributes x) same = λ k. returning
      (same_attributes locals attributes (left (in_attributes locals attributes) (in_some (in_expression locals) x) same) k)
      (same_maybe (in_expression locals) (renamed f locals) (renamed g locals) (same_expression locals) x (right (in_attributes locals attributes) (in_some (in_expression locals) x) same) k)

  same_block : (locals : List Name) (b : Block) → Agree (in_block locals b) → renamed_block f locals b ≡ renamed_block g locals b
  same_block locals b same = λ k. record {
    attributes = same_attributes locals b.attributes (left (in_attributes locals b.attributes) (flat_map (in_statement locals) b.statements) same) k;
    statements = same_each (in_statement locals) (renamed_statement f locals) (renamed_statement g locals) (same_statement locals) b.statements
        (right (in_attributes locals b.attributes) (flat_map (in_statement locals) b.statements) same) k;
  }

  same_parameter : (p : Param) → Agree (in_parameter p) → renamed_parameter f p ≡ renamed_parameter g p
  same_parameter p same = λ k. record {
    attributes = same_attributes [] p.attributes (left (in_attributes [] p.attributes) (in_type [] p.type) same) k;
    name = p.name;
    type = same_type [] p.type (right (in_attributes [] p.attributes) (in_type [] p.type) same) k;
  }

  pub same_declaration : (d : Decl) → f (declared_name d) ≡ g (declared_name d) → Agree (occurrences d) → renamed_declaration f d ≡ renamed_declaration g d
  same_declaration (variable attributes kind x type initializer) name same =
      let a = in_attributes [] attributes in
      let t = in_some (in_type []) type in
      let e = in_some (in_expression []) initializer in
      let outside : Agree (a ++ (t ++ e)) = left (a ++ (t ++ e)) [] same in
      let both : Agree (t ++ e) = right a (t ++ e) outside in
      λ k. variable (same_attributes [] attributes (left a (t ++ e) outside) k) kind (name k)
      (same_maybe (in_type []) (renamed_type f []) (renamed_type g []) (same_type []) type (left t e both) k)
      (same_maybe (in_expression []) (renamed f []) (renamed g []) (same_expression []) initializer (right t e both) k)
  same_declaration (function attributes x parameters return_attributes type body) name same =
      let a = in_attributes [] attributes in
      let p = flat_map in_parameter parameters in
      let r = in_attributes [] return_attributes in
      let t = in_some (in_type []) type in
      let b = in_block (parameter_names parameters) body in
      let outside : Agree (a ++ ((p ++ r) ++ t)) = left (a ++ ((p ++ r) ++ t)) b same in
      let signature : Agree ((p ++ r) ++ t) = right a ((p ++ r) ++ t) outside in
      let front : Agree (p ++ r) = left (p ++ r) t signature in
      λ k. function (same_attributes [] attributes (left a ((p ++ r) ++ t) outside) k) (name k)
      (same_each in_parameter (renamed_parameter f) (renamed_parameter g) same_parameter parameters (left p r front) k)
      (same_attributes [] return_attributes (right p r front) k)
      (same_maybe (in_type []) (renamed_type f []) (renamed_type g []) (same_type []) type (right (p ++ r) t signature) k)
      (same_block (parameter_names parameters) body (right (a ++ ((p ++ r) ++ t)) b same) k)
