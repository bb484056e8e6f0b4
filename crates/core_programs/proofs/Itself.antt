-- A program over itself: worlds of one module whose calls are related, at one stage or at two.
use Rattle.std.proofs.Common.{◌≡◌, List, [], ◌∷◌, map, Option, Some, None, Ok, Err, refl, ap, subst}
use Rattle.core_syntax.specs.Tree.{Exp, Exps, literal, parenthesized, unary, binary, call, named, nil, cons, Typ, simple, templated, Attr, fragment, location, Stm, returning, Param, Decl, variable, function}
use Rattle.wgsl_words.specs.declared.enumerations.words.ShaderStage.{ShaderStage}
use Rattle.wgsl_shader_type.specs.declared.tree.ShaderType.{ShaderType}
use Rattle.wgsl_instance.specs.declared.tree.Instance.{Instance}
use Rattle.core_computations.specs.Machine.{pure, bind}
use Rattle.core_computations.specs.Lift.{Lift, Same, Kept}
use Rattle.core_programs.specs.Faults.{Fault, OfName, UnexpectedTemplate}
use Rattle.core_programs.specs.Computing.{Checked, at_once}
use Rattle.core_programs.specs.Names.{Path, Name, Symbol, Local, Has, Hidden, Env, find, built_in_type}
use Rattle.core_programs.specs.Operations.{construct, construct_type}
use Rattle.core_programs.specs.Meaning.{World, shown, plain_name, local_value, name_value, name_type, needed, call_value, call_type, denoted_type, type_written}
use Rattle.core_programs.specs.Calls.{written_result, result_in}
use Rattle.core_programs.specs.Programs.{function_world, Program, Known, find_known, known_value, known_type, Calls, at_exec, result_of_function, module_world}
use Rattle.core_programs.specs.Follows.{Differences, Follows, FollowAll, keeps_literal, keeps_parentheses, keeps_unary, keeps_binary, keeps_call, keeps_name, no_more, one_more, as_it_is, FollowStatements, no_statements, returns_nothing, returns, FollowAttributes, no_attributes, keeps_fragment, keeps_location, FollowType, no_type, keeps_type, FollowParameters, no_parameters, one_parameter, FollowInitializer, no_initializer, keeps_initializer, FollowsDeclaration, keeps_const, keeps_function}
use Rattle.core_programs.proofs.Simulates as expressions
use Rattle.core_programs.proofs.Bodies.{One, name_here, callee_here, name_type_here, callee_type_here, Meet, TypesMeet}

-- no differences
abbrev pub itself : Differences
itself = record { names = λ l x y. x ≡ y; callees = λ l f g. f ≡ g; types = λ x y. x ≡ y; replaced = λ l e d. ⊥; returned = λ l t e d. ⊥ }

module _ (l : List Name) where
  mutual
    pub follows_itself : (e : Exp) → Follows itself l e e
    follows_itself (literal n) = keeps_literal
    follows_itself (parenthesized e) = keeps_parentheses (follows_itself e)
    follows_itself (unary o e) = keeps_unary (follows_itself e)
    follows_itself (binary o a b) = keeps_binary (follows_itself a) (follows_itself b)
    follows_itself (call f es) = keeps_call refl (follow_themselves es)
    follows_itself (named x) = keeps_name refl

    follow_themselves : (es : Exps) → FollowAll itself l es es
    follow_themselves nil = no_more
    follow_themselves (cons e es) = one_more (follows_itself e) (follow_themselves es)

  pub statements_themselves : (t : Option Typ) (ss : List Stm) → FollowStatements itself l t ss ss
  statements_themselves t [] = no_statements
  statements_themselves t (returning a None ∷ rest) = returns_nothing (statements_themselves t rest)
  statements_themselves t (returning a (Some e) ∷ rest) = returns (as_it_is (follows_itself e)) (statements_themselves t rest)

pub attributes_themselves : (a : List Attr) → FollowAttributes itself a a
attributes_themselves [] = no_attributes
attributes_themselves (fragment ∷ rest) = keeps_fragment (attributes_themselves rest)
attributes_themselves (location e ∷ rest) = keeps_location (follows_itself [] e) (attributes_themselves rest)

pub type_itself : (t : Option Typ) → FollowType itself t t
type_itself None = no_type
type_itself (Some t) = keeps_type refl

pub parameters_themselves : (ps : List Param) → FollowParameters itself ps ps
parameters_themselves [] = no_parameters
parameters_themselves (p ∷ ps) = one_parameter (record { name = refl; type = refl; attributes = attributes_themselves p.attributes }) (parameters_themselves ps)

initializer_itself : (e : Option Exp) → FollowInitializer itself e e
initializer_itself None = no_initializer
initializer_itself (Some e) = keeps_initializer (follows_itself [] e)

pub declaration_itself : (d : Decl) → FollowsDeclaration itself d d
declaration_itself (variable a kind x t e) = keeps_const (type_itself t) (initializer_itself e)
declaration_itself (function a f ps r t b) = keeps_function (attributes_themselves a) (parameters_themselves ps) (type_itself t) (statements_themselves (map (λ p. p.name) ps) t b.statements)

module _ (R : Lift Fault) (kept : Kept Fault Same R) where
  pure_same : (A : Type 0) (x : A) → R A A Same (pure x) (pure x)
  pure_same = expressions.pure_same R kept

  pub local_same : (x : Name) (l : Local) → R Instance Instance Same (local_value x l) (local_value x l)
  local_same x (Has v) = pure_same Instance v
  local_same x (Hidden t) = expressions.fail_same R kept Instance _

  pub known_same : (x : Name) (v : Option Instance) (d : Option Decl) → R Instance Instance Same (known_value x v d) (known_value x v d)
  known_same x (Some v) d = pure_same Instance v
  known_same x None (Some (variable a kind y t e)) = expressions.fail_same R kept Instance _
  known_same x None (Some (function a f ps r t b)) = expressions.fail_same R kept Instance _
  known_same x None None = expressions.fail_same R kept Instance _

  pub known_type_same : (x : Name) (v : Option Instance) (d : Option Decl) → R ShaderType ShaderType Same (known_type x v d) (known_type x v d)
  known_type_same x (Some v) d = pure_same ShaderType _
  known_type_same x None (Some (variable a kind y t e)) = expressions.fail_same R kept ShaderType _
  known_type_same x None (Some (function a f ps r t b)) = expressions.fail_same R kept ShaderType _
  known_type_same x None None = expressions.fail_same R kept ShaderType _

  pub needed_same : (A : Type 0) (f : Name) (x : Option A) → R A A Same (needed f x) (needed f x)
  needed_same A f (Some x) = pure_same A x
  needed_same A f None = expressions.fail_same R kept A _

  pub construct_same : (f : Name) (t : ShaderType) (xs : List Instance) → R Instance Instance Same (construct f t xs) (construct f t xs)
  construct_same f t [] = expressions.computed_same R kept Instance _
  construct_same f t (x ∷ []) = expressions.computed_same R kept Instance _
  construct_same f t (x ∷ y ∷ xs) = expressions.fail_same R kept Instance _

  pub construct_type_same : (f : Name) (t : ShaderType) (ts : List ShaderType) → R ShaderType ShaderType Same (construct_type f t ts) (construct_type f t ts)
  construct_type_same f t [] = pure_same ShaderType t
  construct_type_same f t (x ∷ []) = pure_same ShaderType t
  construct_type_same f t (x ∷ y ∷ xs) = expressions.fail_same R kept ShaderType _

  pub constructed_same : (f : Name) (xs : List Instance) → R Instance Instance Same (bind (at_once (built_in_type f)) (λ t. construct f t xs)) (bind (at_once (built_in_type f)) (λ t. construct f t xs))
  constructed_same f xs = expressions.on R kept ShaderType Instance Instance Same (at_once (built_in_type f)) (at_once (built_in_type f)) _ _ (expressions.at_once_same R kept ShaderType (built_in_type f)) (λ t. construct_same f t xs)

  pub constructed_type_same : (f : Name) (ts : List ShaderType) → R ShaderType ShaderType Same (bind (at_once (built_in_type f)) (λ t. construct_type f t ts)) (bind (at_once (built_in_type f)) (λ t. construct_type f t ts))
  constructed_type_same f ts = expressions.on R kept ShaderType ShaderType ShaderType Same (at_once (built_in_type f)) (at_once (built_in_type f)) _ _ (expressions.at_once_same R kept ShaderType (built_in_type f)) (λ t. construct_type_same f t ts)

  module _ (p : Program) (known : Known) (m : Path) (calls others : Calls) (s t : ShaderStage) (stages : expressions.StagesMeet R kept s t)
      (called : (f : Symbol) (xs : List Instance) → R (Option Instance) (Option Instance) Same (at_exec s (p.printed f) (calls s f xs)) (at_exec t (p.printed f) (others t f xs))) where
    same_name : (env : Env) (x : Typ) → plain_name (module_world p known m calls) env x ≡ plain_name (module_world p known m others) env x
    same_name env (simple None x) = refl
    same_name env (simple (Some path) x) = refl
    same_name env (templated None x arguments) = ap (λ z. Err (OfName UnexpectedTemplate z)) (at (find x env) (p.denotes m x))
      where
        at : (l : Option Local) (d : Option Symbol) → shown (module_world p known m calls) x l d ≡ shown (module_world p known m others) x l d
        at (Some l) d = refl
        at None (Some y) = refl
        at None None = refl
    same_name env (templated (Some path) x arguments) = refl

    names_meet : (x : Name) (l : Option Local) (d : Option Symbol) → R Instance Instance Same (name_value (module_world p known m calls) s x l d) (name_value (module_world p known m others) t x l d)
    names_meet x (Some l) d = local_same x l
    names_meet x None (Some y) = known_same (p.printed y) (find_known y known) (p.item y)
    names_meet x None None = expressions.fail_same R kept Instance _

    callees_meet : (f : Name) (l : Option Local) (d : Option Symbol) (xs : List Instance) → R Instance Instance Same (call_value (module_world p known m calls) s f l d xs) (call_value (module_world p known m others) t f l d xs)
    callees_meet f (Some l) d xs = expressions.fail_same R kept Instance _
    callees_meet f None (Some g) xs = expressions.on R kept (Option Instance) Instance Instance Same _ _ (needed (p.printed g)) (needed (p.printed g)) (called g xs) (needed_same Instance (p.printed g))
    callees_meet f None None xs = constructed_same f xs

    types_meet : (x : Typ) → R ShaderType ShaderType (One (λ t. Unit {0})) (type_written (module_world p known m calls) x) (type_written (module_world p known m others) x)
    types_meet x = subst (λ r. R ShaderType ShaderType (One (λ t. Unit {0})) (type_written (module_world p known m calls) x) (bind (at_once r) (λ y. denoted_type (module_world p known m others) y (p.denotes m y)))) (same_name [] x) (at (plain_name (module_world p known m calls) [] x))
      where
        denoted : (y : Name) (d : Option Symbol) → R ShaderType ShaderType (One (λ t. Unit {0})) (denoted_type (module_world p known m calls) y d) (denoted_type (module_world p known m others) y d)
        denoted y (Some a) = kept.fail_of ShaderType ShaderType _ _ _ refl
        denoted y None = built (built_in_type y)
          where
            built : (r : Checked ShaderType) → R ShaderType ShaderType (One (λ t. Unit {0})) (at_once r) (at_once r)
            built (Ok a) = kept.pure_of ShaderType ShaderType _ a a (refl, tt)
            built (Err f) = kept.fail_of ShaderType ShaderType _ f f refl

        at : (r : Checked Name) → R ShaderType ShaderType (One (λ t. Unit {0})) (bind (at_once r) (λ y. denoted_type (module_world p known m calls) y (p.denotes m y))) (bind (at_once r) (λ y. denoted_type (module_world p known m others) y (p.denotes m y)))
        at (Ok y) = denoted y (p.denotes m y)
        at (Err f) = kept.fail_of ShaderType ShaderType _ f f refl

    pub worlds_meet : Meet R kept itself s t (module_world p known m calls) (module_world p known m others)
    worlds_meet = record {
      is_type = λ x ty. Unit {0};
      stages = stages;
      names_meet = λ env x y e. subst (λ z. R Instance Instance Same (name_here (module_world p known m calls) s env x) (name_here (module_world p known m others) t env z)) e (subst (λ r. R Instance Instance Same (name_here (module_world p known m calls) s env x) (bind (at_once r) (λ a. name_value (module_world p known m others) t a (find a env) (p.denotes m a)))) (same_name env x) (name (plain_name (module_world p known m calls) env x) env));
      callees_meet = λ env f g xs e. subst (λ z. R Instance Instance Same (callee_here (module_world p known m calls) s env f xs) (callee_here (module_world p known m others) t env z xs)) e (subst (λ r. R Instance Instance Same (callee_here (module_world p known m calls) s env f xs) (bind (at_once r) (λ a. call_value (module_world p known m others) t a (find a env) (p.denotes m a) xs))) (same_name env f) (callee (plain_name (module_world p known m calls) env f) env xs));
      replaced_meet = λ env e d h. absurd h;
      returned_meet = λ env f type e d h. absurd h;
      types_meet = λ x y e. subst (λ z. R ShaderType ShaderType (One (λ t. Unit {0})) (type_written (module_world p known m calls) x) (type_written (module_world p known m others) z)) e (types_meet x);
    }
      where
        name : (r : Checked Name) (env : Env) → R Instance Instance Same (bind (at_once r) (λ a. name_value (module_world p known m calls) s a (find a env) (p.denotes m a))) (bind (at_once r) (λ a. name_value (module_world p known m others) t a (find a env) (p.denotes m a)))
        name (Ok a) env = names_meet a (find a env) (p.denotes m a)
        name (Err f) env = expressions.fail_same R kept Instance f

        callee : (r : Checked Name) (env : Env) (xs : List Instance) → R Instance Instance Same (bind (at_once r) (λ a. call_value (module_world p known m calls) s a (find a env) (p.denotes m a) xs)) (bind (at_once r) (λ a. call_value (module_world p known m others) t a (find a env) (p.denotes m a) xs))
        callee (Ok a) env xs = callees_meet a (find a env) (p.denotes m a) xs
        callee (Err f) env xs = expressions.fail_same R kept Instance f

    result_same : (f : Symbol) → R (Option ShaderType) (Option ShaderType) Same (result_of_function p known f) (result_of_function p known f)
    result_same f = at (p.item f)
      where
        written : (w : World) (t : Option Typ) → ((x : Typ) → R ShaderType ShaderType Same (type_written w x) (type_written w x)) → R (Option ShaderType) (Option ShaderType) Same (written_result w t) (written_result w t)
        written w None h = pure_same (Option ShaderType) None
        written w (Some x) h = expressions.on R kept ShaderType (Option ShaderType) (Option ShaderType) Same (type_written w x) (type_written w x) _ _ (h x) (λ t. pure_same (Option ShaderType) (Some t))

        plain : (x : Typ) → R ShaderType ShaderType Same (type_written (function_world p known f) x) (type_written (function_world p known f) x)
        plain x = by_name (plain_name (function_world p known f) [] x)
          where
            denoted : (y : Name) (d : Option Symbol) → R ShaderType ShaderType Same (denoted_type (function_world p known f) y d) (denoted_type (function_world p known f) y d)
            denoted y (Some a) = expressions.fail_same R kept ShaderType _
            denoted y None = expressions.at_once_same R kept ShaderType (built_in_type y)

            by_name : (r : Checked Name) → R ShaderType ShaderType Same (bind (at_once r) (λ y. denoted_type (function_world p known f) y (p.denotes f.home y))) (bind (at_once r) (λ y. denoted_type (function_world p known f) y (p.denotes f.home y)))
            by_name (Ok y) = denoted y (p.denotes f.home y)
            by_name (Err e) = expressions.fail_same R kept ShaderType e

        at : (d : Option Decl) → R (Option ShaderType) (Option ShaderType) Same (result_in (function_world p known f) (p.printed f) d) (result_in (function_world p known f) (p.printed f) d)
        at (Some (function a g ps r t b)) = written (function_world p known f) t plain
        at (Some (variable a kind x t e)) = expressions.fail_same R kept (Option ShaderType) _
        at None = expressions.fail_same R kept (Option ShaderType) _

    pub types_of_worlds_meet : TypesMeet R kept itself (module_world p known m calls) (module_world p known m others)
    types_of_worlds_meet = record {
      name_types_meet = λ x y e. subst (λ z. R ShaderType ShaderType Same (name_type_here (module_world p known m calls) [] x) (name_type_here (module_world p known m others) [] z)) e (subst (λ r. R ShaderType ShaderType Same (name_type_here (module_world p known m calls) [] x) (bind (at_once r) (λ a. name_type (module_world p known m others) a None (p.denotes m a)))) (same_name [] x) (name (plain_name (module_world p known m calls) [] x)));
      callee_types_meet = λ f g ts e. subst (λ z. R ShaderType ShaderType Same (callee_type_here (module_world p known m calls) [] f ts) (callee_type_here (module_world p known m others) [] z ts)) e (subst (λ r. R ShaderType ShaderType Same (callee_type_here (module_world p known m calls) [] f ts) (bind (at_once r) (λ a. call_type (module_world p known m others) a None (p.denotes m a) ts))) (same_name [] f) (callee (plain_name (module_world p known m calls) [] f) ts));
      replaced_types_meet = λ e d h. absurd h;
    }
      where
        named_type : (x : Name) (d : Option Symbol) → R ShaderType ShaderType Same (name_type (module_world p known m calls) x None d) (name_type (module_world p known m others) x None d)
        named_type x (Some y) = known_type_same (p.printed y) (find_known y known) (p.item y)
        named_type x None = expressions.fail_same R kept ShaderType _

        called_type : (f : Name) (d : Option Symbol) (ts : List ShaderType) → R ShaderType ShaderType Same (call_type (module_world p known m calls) f None d ts) (call_type (module_world p known m others) f None d ts)
        called_type f (Some g) ts = expressions.on R kept (Option ShaderType) ShaderType ShaderType Same _ _ (needed (p.printed g)) (needed (p.printed g)) (result_same g) (needed_same ShaderType (p.printed g))
        called_type f None ts = constructed_type_same f ts

        name : (r : Checked Name) → R ShaderType ShaderType Same (bind (at_once r) (λ a. name_type (module_world p known m calls) a None (p.denotes m a))) (bind (at_once r) (λ a. name_type (module_world p known m others) a None (p.denotes m a)))
        name (Ok a) = named_type a (p.denotes m a)
        name (Err f) = expressions.fail_same R kept ShaderType f

        callee : (r : Checked Name) (ts : List ShaderType) → R ShaderType ShaderType Same (bind (at_once r) (λ a. call_type (module_world p known m calls) a None (p.denotes m a) ts)) (bind (at_once r) (λ a. call_type (module_world p known m others) a None (p.denotes m a) ts))
        callee (Ok a) ts = called_type a (p.denotes m a) ts
        callee (Err f) ts = expressions.fail_same R kept ShaderType f
