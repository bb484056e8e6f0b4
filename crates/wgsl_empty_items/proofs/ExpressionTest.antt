-- A test of two trees of expressions that tells whether they are one.
use Rattle.std.proofs.Common.{◌≡◌, refl, sym, ap, subst, ℕ, Bool, true, false, ◌&&◌, List, Option, true≢false}
use Rattle.std.specs.Bool.{Decides}
use Rattle.std.specs.Option.{option_eq}
use Rattle.std.specs.Str.{bytes_eq}
use Rattle.std.specs.Cmp.{first_so, second_so}
use Rattle.std.proofs.lemmas.Slice.Eq.{bytes_eq-Decides}
use Rattle.std.proofs.lemmas.Bool.Decides.{Decides-int_eq, Decides-eqb}
use Rattle.std.specs.Cmp.{booleans_Decides}
use denote.Enum.Bare.{same_true, true_same}
use Rattle.wgsl_words.specs.contracts.operators.UnaryOperator.{the_type as unary_type}
use Rattle.wgsl_words.specs.contracts.operators.BinaryOperator.{the_type as binary_type}
use Rattle.wgsl_words.specs.contracts.operators.UnaryOperatorPartialEq.TheImpl as u
use Rattle.wgsl_words.specs.contracts.operators.BinaryOperatorPartialEq.TheImpl as b
use Rattle.wgsl_path.specs.declared.path.ModulePath.{ModulePath}
use Rattle.wgsl_path.specs.contracts.path.ModulePathPartialEq.TheImpl as path
use Rattle.wgsl_path.specs.Equality.{paths_Decide}
use Rattle.wgsl_expressions.specs.contracts.expression.LiteralExpressionPartialEq.TheImpl as lit
use Rattle.wgsl_expressions.specs.declared.expression.LiteralExpression.{LiteralExpression}
use Rattle.wgsl_expressions.specs.declared.expression.LiteralExpression.TheVariants as l
use Rattle.wgsl_expressions.specs.Tree.{Exp, literal, parenthesized, component, indexed, unary, binary, call, named, Exps, nil, cons, Typ, simple, templated}
use Rattle.wgsl_empty_items.proofs.Parts.{option_decides}

literal_true : (x y : LiteralExpression) → lit.eq-value.it x y ≡ true → x ≡ y
literal_true (l.Bool x) (l.Bool y) h = ap l.Bool ((booleans_Decides x y).0 h)
literal_true (l.AbstractInt x) (l.AbstractInt y) h = ap l.AbstractInt ((Decides-int_eq x y).0 h)
literal_true (l.AbstractFloat x) (l.AbstractFloat y) h = ap l.AbstractFloat ((bytes_eq-Decides x y).0 h)
literal_true (l.I32 x) (l.I32 y) h = ap l.I32 ((Decides-int_eq x y).0 h)
literal_true (l.U32 x) (l.U32 y) h = ap l.U32 ((Decides-eqb x y).0 h)
literal_true (l.F32 x) (l.F32 y) h = ap l.F32 ((bytes_eq-Decides x y).0 h)
literal_true (l.F16 x) (l.F16 y) h = ap l.F16 ((bytes_eq-Decides x y).0 h)
literal_true x y h = absurd (true≢false (sym h))

literal_self : (x : LiteralExpression) → lit.eq-value.it x x ≡ true
literal_self (l.Bool x) = (booleans_Decides x x).1 refl
literal_self (l.AbstractInt x) = (Decides-int_eq x x).1 refl
literal_self (l.AbstractFloat x) = (bytes_eq-Decides x x).1 refl
literal_self (l.I32 x) = (Decides-int_eq x x).1 refl
literal_self (l.U32 x) = (Decides-eqb x x).1 refl
literal_self (l.F32 x) = (bytes_eq-Decides x x).1 refl
literal_self (l.F16 x) = (bytes_eq-Decides x x).1 refl

pub literals_decide : (x y : LiteralExpression) → Decides (lit.eq-value.it x y) (x ≡ y)
literals_decide x y = (literal_true x y, λ same. subst (λ z. lit.eq-value.it x z ≡ true) same (literal_self x))

abbrev mutual
  pub same_exp : Exp → Exp → Bool
  same_exp (literal x) (literal y) = lit.eq-value.it x y
  same_exp (parenthesized x) (parenthesized y) = same_exp x y
  same_exp (component x n) (component y m) = same_exp x y && bytes_eq n m
  same_exp (indexed x i) (indexed y j) = same_exp x y && same_exp i j
  same_exp (unary o x) (unary p y) = u.eq-value.it o p && same_exp x y
  same_exp (binary o x i) (binary p y j) = b.eq-value.it o p && (same_exp x y && same_exp i j)
  same_exp (call t xs) (call s ys) = same_typ t s && same_exps xs ys
  same_exp (named t) (named s) = same_typ t s
  same_exp _ _ = false

  pub same_exps : Exps → Exps → Bool
  same_exps nil nil = true
  same_exps (cons x xs) (cons y ys) = same_exp x y && same_exps xs ys
  same_exps _ _ = false

  pub same_typ : Typ → Typ → Bool
  same_typ (simple p n) (simple q m) = option_eq path.eq-value.it p q && (bytes_eq n m && true)
  same_typ (templated p n xs) (templated q m ys) = option_eq path.eq-value.it p q && (bytes_eq n m && same_exps xs ys)
  same_typ (simple p n) (templated q m ys) = option_eq path.eq-value.it p q && (bytes_eq n m && false)
  same_typ (templated p n xs) (simple q m) = option_eq path.eq-value.it p q && (bytes_eq n m && false)

path_true : (p q : Option ModulePath) → option_eq path.eq-value.it p q ≡ true → p ≡ q
path_true p q = (option_decides path.eq-value.it paths_Decide p q).0

path_self : (p : Option ModulePath) → option_eq path.eq-value.it p p ≡ true
path_self p = (option_decides path.eq-value.it paths_Decide p p).1 refl

module _ (p q : Option ModulePath) (n m : List ℕ) (r : Bool) (h : (option_eq path.eq-value.it p q && (bytes_eq n m && r)) ≡ true) where
  rest : (bytes_eq n m && r) ≡ true
  rest = second_so (option_eq path.eq-value.it p q) (bytes_eq n m && r) h

  of_path : p ≡ q
  of_path = path_true p q (first_so (option_eq path.eq-value.it p q) (bytes_eq n m && r) h)

  of_name : n ≡ m
  of_name = (bytes_eq-Decides n m).0 (first_so (bytes_eq n m) r rest)

  of_arguments : r ≡ true
  of_arguments = second_so (bytes_eq n m) r rest

mutual
  exp_true : (x y : Exp) → same_exp x y ≡ true → x ≡ y
  exp_true (literal x) (literal y) h = ap literal (literal_true x y h)
  exp_true (parenthesized x) (parenthesized y) h = ap parenthesized (exp_true x y h)
  exp_true (component x n) (component y m) h = λ i.
      component (exp_true x y (first_so (same_exp x y) (bytes_eq n m) h) i) ((bytes_eq-Decides n m).0 (second_so (same_exp x y) (bytes_eq n m) h) i)
  exp_true (indexed x a) (indexed y c) h = λ i.
      indexed (exp_true x y (first_so (same_exp x y) (same_exp a c) h) i) (exp_true a c (second_so (same_exp x y) (same_exp a c) h) i)
  exp_true (unary o x) (unary p y) h = λ i.
      unary (same_true unary_type (search) o p (first_so (u.eq-value.it o p) (same_exp x y) h) i) (exp_true x y (second_so (u.eq-value.it o p) (same_exp x y) h) i)
  exp_true (binary o x a) (binary p y c) h =
      let both = second_so (b.eq-value.it o p) (same_exp x y && same_exp a c) h in
      λ i. binary (same_true binary_type (search) o p (first_so (b.eq-value.it o p) (same_exp x y && same_exp a c) h) i)
      (exp_true x y (first_so (same_exp x y) (same_exp a c) both) i) (exp_true a c (second_so (same_exp x y) (same_exp a c) both) i)
  exp_true (call t xs) (call s ys) h = λ i.
      call (typ_true t s (first_so (same_typ t s) (same_exps xs ys) h) i) (exps_true xs ys (second_so (same_typ t s) (same_exps xs ys) h) i)
  exp_true (named t) (named s) h = ap named (typ_true t s h)
  exp_true x y h = absurd (true≢false (sym h))

  exps_true : (xs ys : Exps) → same_exps xs ys ≡ true → xs ≡ ys
  exps_true nil nil h = refl
  exps_true (cons x xs) (cons y ys) h = λ i.
      cons (exp_true x y (first_so (same_exp x y) (same_exps xs ys) h) i) (exps_true xs ys (second_so (same_exp x y) (same_exps xs ys) h) i)
  exps_true xs ys h = absurd (true≢false (sym h))

  typ_true : (t s : Typ) → same_typ t s ≡ true → t ≡ s
  typ_true (simple p n) (simple q m) h = λ i. simple (of_path p q n m true h i) (of_name p q n m true h i)
  typ_true (templated p n xs) (templated q m ys) h = λ i.
      templated (of_path p q n m (same_exps xs ys) h i) (of_name p q n m (same_exps xs ys) h i) (exps_true xs ys (of_arguments p q n m (same_exps xs ys) h) i)
  typ_true (simple p n) (templated q m ys) h = absurd (true≢false (sym (of_arguments p q n m false h)))
  typ_true (templated p n xs) (simple q m) h = absurd (true≢false (sym (of_arguments p q n m false h)))

mutual
  exp_self : (x : Exp) → same_exp x x ≡ true
  exp_self (literal x) = literal_self x
  exp_self (parenthesized x) = exp_self x
  exp_self (component x n) = λ i. exp_self x i && (bytes_eq-Decides n n).1 refl i
  exp_self (indexed x a) = λ i. exp_self x i && exp_self a i
  exp_self (unary o x) = λ i. true_same unary_type o o refl i && exp_self x i
  exp_self (binary o x a) = λ i. true_same binary_type o o refl i && (exp_self x i && exp_self a i)
  exp_self (call t xs) = λ i. typ_self t i && exps_self xs i
  exp_self (named t) = typ_self t

  exps_self : (xs : Exps) → same_exps xs xs ≡ true
  exps_self nil = refl
  exps_self (cons x xs) = λ i. exp_self x i && exps_self xs i

  typ_self : (t : Typ) → same_typ t t ≡ true
  typ_self (simple p n) = λ i. path_self p i && ((bytes_eq-Decides n n).1 refl i && true)
  typ_self (templated p n xs) = λ i. path_self p i && ((bytes_eq-Decides n n).1 refl i && exps_self xs i)

pub exps_decide : (xs ys : Exps) → Decides (same_exps xs ys) (xs ≡ ys)
exps_decide xs ys = (exps_true xs ys, λ same. subst (λ z. same_exps xs z ≡ true) same (exps_self xs))

pub exp_decides : (x y : Exp) → Decides (same_exp x y) (x ≡ y)
exp_decides x y = (exp_true x y, λ same. subst (λ z. same_exp x z ≡ true) same (exp_self x))

pub typ_decides : (t s : Typ) → Decides (same_typ t s) (t ≡ s)
typ_decides t s = (typ_true t s, λ same. subst (λ z. same_typ t z ≡ true) same (typ_self t))
