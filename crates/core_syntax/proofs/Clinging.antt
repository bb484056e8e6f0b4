-- Which texts an operator clings to.
use Rattle.std.proofs.Common.{◌≡◌, refl, sym, ◌∙◌, ℕ, ◌+◌, ◌^◌, ◌<◌, ◌≤◌, ◌/◌, ◌%◌, false, List, [], ◌∷◌, ◌++◌, append_assoc, Option, Some, None, codes, arith, ℤ, pos, negsuc}
use Rattle.std.specs.Int.Signed.{lt_z, mag}
use Rattle.std.proofs.lemmas.Bool.{ne_eqb, le-ltb}
use Rattle.std.proofs.lemmas.List.{append-nil}
use Rattle.std.specs.List.{flat_map}
use Rattle.std.specs.Fmt.{decimal, signed_decimal}
use Rattle.std.proofs.lemmas.Fmt.{decimal_by_steps}
use Rattle.wgsl_words.specs.declared.operators.UnaryOperator.{UnaryOperator}
use Rattle.wgsl_words.specs.declared.operators.UnaryOperator.TheVariants.{LogicalNegation, Negation, BitwiseComplement, AddressOf, Indirection}
use Rattle.wgsl_path.specs.declared.path.ModulePath.{ModulePath}
use Rattle.wgsl_path.specs.declared.path.PathOrigin.TheVariants.{Package}
use Rattle.wgsl_path.specs.Paths.{path_text}
use Rattle.core_syntax.specs.declared.expression.Expression.{Expression}
use Rattle.core_syntax.specs.declared.expression.FunctionCallOf.{FunctionCallOf}
use Rattle.core_syntax.specs.declared.expression.TemplateArgOf.{TemplateArgOf}
use Rattle.core_syntax.specs.View.{typed, tree, call_layer, type_tree}
use Rattle.core_syntax.specs.Print.{clings, exp_text, typ_text, angled, qualifier_text}

nothing_clings : (o : UnaryOperator) → clings o [] ≡ false
nothing_clings LogicalNegation = refl
nothing_clings Negation = refl
nothing_clings BitwiseComplement = refl
nothing_clings AddressOf = refl
nothing_clings Indirection = refl

-- only the first character counts
first_clings : (o : UnaryOperator) (c : ℕ) (xs ys : List ℕ) → clings o (c ∷ xs) ≡ clings o (c ∷ ys)
first_clings LogicalNegation c xs ys = refl
first_clings Negation c xs ys = refl
first_clings BitwiseComplement c xs ys = refl
first_clings AddressOf c xs ys = refl
first_clings Indirection c xs ys = refl

-- what no operator clings to may follow
front_clings : (o : UnaryOperator) (xs ys : List ℕ) → clings o ys ≡ false → clings o (xs ++ ys) ≡ clings o xs
front_clings o [] ys calm = calm ∙ sym (nothing_clings o)
front_clings o (x ∷ xs) ys calm = first_clings o x (xs ++ ys) xs

colon_clings : (o : UnaryOperator) (rest : List ℕ) → clings o (58 ∷ rest) ≡ false
colon_clings LogicalNegation rest = refl
colon_clings Negation rest = refl
colon_clings BitwiseComplement rest = refl
colon_clings AddressOf rest = refl
colon_clings Indirection rest = refl

paren_clings : (o : UnaryOperator) (rest : List ℕ) → clings o (40 ∷ rest) ≡ false
paren_clings LogicalNegation rest = refl
paren_clings Negation rest = refl
paren_clings BitwiseComplement rest = refl
paren_clings AddressOf rest = refl
paren_clings Indirection rest = refl

suffix_i : (o : UnaryOperator) → clings o (codes "i") ≡ false
suffix_i LogicalNegation = refl
suffix_i Negation = refl
suffix_i BitwiseComplement = refl
suffix_i AddressOf = refl
suffix_i Indirection = refl

suffix_u : (o : UnaryOperator) → clings o (codes "u") ≡ false
suffix_u LogicalNegation = refl
suffix_u Negation = refl
suffix_u BitwiseComplement = refl
suffix_u AddressOf = refl
suffix_u Indirection = refl

components_cling : (o : UnaryOperator) (components : List (List ℕ)) → clings o (flat_map (λ c. codes "::" ++ c) components) ≡ false
components_cling o [] = nothing_clings o
components_cling o (c ∷ cs) = colon_clings o _

pub package_clings : (o : UnaryOperator) (name : List ℕ) (components : List (List ℕ))
    → let path : ModulePath = record { origin = Package name; components = components } in
    clings o (path_text path ++ codes "::") ≡ clings o name
package_clings o name components =
    front_clings o (name ++ flat_map (λ c. codes "::" ++ c) components) (codes "::") (colon_clings o _)
    ∙ front_clings o name (flat_map (λ c. codes "::" ++ c) components) (components_cling o components)

qualified : (o : UnaryOperator) (xs name : List ℕ) → clings o ((xs ++ codes "::") ++ name) ≡ clings o (xs ++ codes "::")
qualified o [] name = first_clings o 58 _ _
qualified o (x ∷ xs) name = first_clings o x _ _

templated_so : (o : UnaryOperator) (xs name args : List ℕ) → clings o ((xs ++ codes "::") ++ name ++ args) ≡ clings o (xs ++ codes "::")
templated_so o [] name args = first_clings o 58 _ _
templated_so o (x ∷ xs) name args = first_clings o x _ _

pub qualified_clings : (o : UnaryOperator) (path : ModulePath) (name : List ℕ) (args : Option (List (TemplateArgOf Expression)))
    → clings o (typ_text (typed tree (Some path) name args)) ≡ clings o (qualifier_text (Some path))
qualified_clings o path name None = qualified o (path_text path) name
qualified_clings o path name (Some args) = templated_so o (path_text path) name _

called : (o : UnaryOperator) (xs args : List ℕ) → clings o (xs ++ codes "(" ++ args ++ codes ")") ≡ clings o xs
called o [] args = paren_clings o _ ∙ sym (nothing_clings o)
called o (x ∷ xs) args = first_clings o x _ _

pub call_clings : (o : UnaryOperator) (x : FunctionCallOf Expression) → clings o (exp_text (call_layer tree x)) ≡ clings o (typ_text (type_tree x.ty))
call_clings o x = called o (typ_text (type_tree x.ty)) _

pub i_clings : (o : UnaryOperator) (xs : List ℕ) → clings o (xs ++ codes "i") ≡ clings o xs
i_clings o xs = front_clings o xs (codes "i") (suffix_i o)

pub u_clings : (o : UnaryOperator) (xs : List ℕ) → clings o (xs ++ codes "u") ≡ clings o xs
u_clings o xs = front_clings o xs (codes "u") (suffix_u o)

digit_clings : (o : UnaryOperator) (n : ℕ) (rest : List ℕ) → n < 10 → clings o ((48 + n) ∷ rest) ≡ false
digit_clings LogicalNegation n rest small = refl
digit_clings Negation n rest small = ne_eqb (48 + n) 45 (λ e. omega arith)
digit_clings BitwiseComplement n rest small = refl
digit_clings AddressOf n rest small = ne_eqb (48 + n) 38 (λ e. omega arith)
digit_clings Indirection n rest small = refl

abbrev Calm : UnaryOperator → ℕ → List ℕ → Type 0
Calm o n ds = (rest : List ℕ) → clings o (ds ++ rest) ≡ false

pub decimal_clings : (o : UnaryOperator) (n : ℕ) → n < 2 ^ 64 → clings o (decimal n) ≡ false
decimal_clings o n small = rw (append-nil (decimal n)) at (decimal_by_steps (Calm o) one more n small [])
  where
    one : (n : ℕ) → n < 10 → Calm o n ((48 + n) ∷ [])
    one n small rest = digit_clings o n rest small

    more : (n : ℕ) (ds : List ℕ) → 10 ≤ n → Calm o (n / 10) ds → Calm o n (ds ++ ((48 + n % 10) ∷ []))
    more n ds large calm rest = rw (append_assoc ds ((48 + n % 10) ∷ []) rest) (calm ((48 + n % 10) ∷ rest))

pub minus_clings : (n : ℤ) → mag n < 2 ^ 64 → lt_z n (pos 0) ≡ clings Negation (signed_decimal n)
minus_clings (pos k) small = le-ltb k 0 (omega arith) ∙ sym (decimal_clings Negation k small)
minus_clings (negsuc k) small = refl

pub others_cling : (o : UnaryOperator) (n : ℤ) → mag n < 2 ^ 64 → (o ≡ Negation → ⊥) → false ≡ clings o (signed_decimal n)
others_cling LogicalNegation n small other = refl
others_cling Negation n small other = absurd (other refl)
others_cling BitwiseComplement n small other = refl
others_cling AddressOf (pos k) small other = sym (decimal_clings AddressOf k small)
others_cling AddressOf (negsuc k) small other = refl
others_cling Indirection n small other = refl

bracket_clings : (o : UnaryOperator) (rest : List ℕ) → clings o (angled rest) ≡ false
unfolding angled
bracket_clings LogicalNegation rest = refl
bracket_clings Negation rest = refl
bracket_clings BitwiseComplement rest = refl
bracket_clings AddressOf rest = refl
bracket_clings Indirection rest = refl

pub plain_clings : (o : UnaryOperator) (name : List ℕ) (args : Option (List (TemplateArgOf Expression)))
    → clings o (typ_text (typed tree None name args)) ≡ clings o name
plain_clings o name None = refl
plain_clings o [] (Some args) = bracket_clings o _ ∙ sym (nothing_clings o)
plain_clings o (c ∷ name) (Some args) = first_clings o c _ name
