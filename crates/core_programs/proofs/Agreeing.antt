-- Two worlds of a program agree, where what both know is the same: the second at any stage, the first at the const stage.
use Rattle.std.proofs.Common.{◌≡◌, ℕ, List, Option, Some, None, Ok, Err, refl, sym, subst}
use Rattle.core_syntax.specs.Tree.{Exp, Typ, simple, templated, Decl, variable, function}
use Rattle.wgsl_words.specs.declared.enumerations.words.ShaderStage.{ShaderStage}
use Rattle.wgsl_words.specs.declared.enumerations.words.ShaderStage.TheVariants.{Const}
use Rattle.wgsl_instance.specs.declared.tree.Instance.{Instance}
use Rattle.wgsl_instance.specs.Zero.{Made}
use Rattle.core_computations.specs.Machine.{State, Done, pure}
use Rattle.core_computations.specs.Lift.{Lift, Same, Kept}
use Rattle.core_computations.specs.Compare.{AgreeAt, Agrees, Better}
use Rattle.core_computations.proofs.Agreed.{kept_agrees, better_by_answer}
use Rattle.core_programs.specs.Faults.{Fault}
use Rattle.core_programs.specs.Computing.{computed}
use Rattle.core_programs.specs.Names.{Path, Name, Symbol, Local, Has, Hidden, Env, find}
use Rattle.core_programs.specs.Meaning.{World, name_value, call_value, value}
use Rattle.core_programs.specs.Programs.{Program, Known, find_known, known_value, world}
use Rattle.core_programs.proofs.Simulates as expressions
use Rattle.core_programs.proofs.Bodies.{names_of, name_here, callee_here}
use Rattle.core_programs.proofs.Itself.{itself, follows_itself, constructed_same}
use Rattle.core_programs.proofs.Stages.{Holds, unary_value_holds, binary_value_holds}

abbrev pub KnownAgree : Option Instance → Option Instance → Type 0
KnownAgree (Some v) (Some w) = v ≡ w
KnownAgree (Some v) None = Unit {0}
KnownAgree None o = Unit {0}

-- locals of the same names: the same value, or one isn't known
abbrev pub LocalsAgree : Option Local → Option Local → Type 0
LocalsAgree None None = Unit {0}
LocalsAgree None (Some l) = ⊥
LocalsAgree (Some l) None = ⊥
LocalsAgree (Some (Has v)) (Some (Has w)) = v ≡ w
LocalsAgree (Some (Has v)) (Some (Hidden t)) = Unit {0}
LocalsAgree (Some (Hidden t)) (Some l) = Unit {0}

abbrev Agreeing : Lift Fault
Agreeing A B S m n = Agrees Fault A B S m n

kept : Kept Fault Same Agreeing
kept = (kept_agrees Fault Same).kept

same_value : (v w : Instance) → v ≡ w → Agrees Fault Instance Instance Same (pure v) (pure w)
same_value v w e = kept.pure_of Instance Instance Same v w e

agreed : (r q : Made) → Holds r q → Agrees Fault Instance Instance Same (computed r) (computed q)
agreed (Ok x) q h = subst (λ z. Agrees Fault Instance Instance Same (computed (Ok x)) (computed z)) (sym h) (same_value x x refl)
agreed (Err e) q h = record { from = λ a b cells. tt }

stages : (t : ShaderStage) → expressions.StagesMeet Agreeing kept Const t
stages t = record { by_unary = λ o x. agreed _ _ (unary_value_holds t o x); by_binary = λ o x y. agreed _ _ (binary_value_holds t o x y) }

known_agrees : (x : Name) (v w : Option Instance) (d : Option Decl) → KnownAgree v w → Agrees Fault Instance Instance Same (known_value x v d) (known_value x w d)
known_agrees x (Some v) (Some w) d e = same_value v w e
known_agrees x (Some v) None (Some (variable attributes kind y type i)) e = record { from = λ a b cells. tt }
known_agrees x (Some v) None (Some (function attributes f parameters return_attributes type body)) e = record { from = λ a b cells. tt }
known_agrees x (Some v) None None e = record { from = λ a b cells. tt }
known_agrees x None w (Some (variable attributes kind y type i)) e = record { from = λ a b cells. tt }
known_agrees x None w (Some (function attributes f parameters return_attributes type body)) e = record { from = λ a b cells. tt }
known_agrees x None w None e = record { from = λ a b cells. tt }

module _ (p : Program) (m : Path) (known others : Known) (j k : ℕ) (t : ShaderStage) (env other : Env)
    (of_known : (s : Symbol) → KnownAgree (find_known s known) (find_known s others)) (of_locals : (x : Name) → LocalsAgree (find x env) (find x other)) where
  abbrev from : World
  from = world p known j m

  abbrev to : World
  to = world p others k m

  name_at : (a : Name) (l o : Option Local) (d : Option Symbol) → LocalsAgree l o → Agrees Fault Instance Instance Same (name_value from Const a l d) (name_value to t a o d)
  name_at a None None (Some s) e = known_agrees (p.printed s) (find_known s known) (find_known s others) (p.item s) (of_known s)
  name_at a None None None e = record { from = λ x y cells. tt }
  name_at a None (Some l) d e = absurd e
  name_at a (Some (Has v)) None d e = absurd e
  name_at a (Some (Hidden u)) None d e = absurd e
  name_at a (Some (Has v)) (Some (Has w)) d e = same_value v w e
  name_at a (Some (Has v)) (Some (Hidden u)) d e = record { from = λ x y cells. tt }
  name_at a (Some (Hidden u)) (Some l) d e = record { from = λ x y cells. tt }

  name_agrees : (x : Typ) → Agrees Fault Instance Instance Same (name_here from Const env x) (name_here to t other x)
  name_agrees (simple None a) = name_at a (find a env) (find a other) (p.denotes m a) (of_locals a)
  name_agrees (simple (Some path) a) = record { from = λ x y cells. tt }
  name_agrees (templated None a arguments) = record { from = λ x y cells. tt }
  name_agrees (templated (Some path) a arguments) = record { from = λ x y cells. tt }

  callee_at : (f : Name) (xs : List Instance) (l o : Option Local) (d : Option Symbol) → LocalsAgree l o → Agrees Fault Instance Instance Same (call_value from Const f l d xs) (call_value to t f o d xs)
  callee_at f xs None None (Some g) e = record { from = λ x y cells. tt }
  callee_at f xs None None None e = constructed_same Agreeing kept f xs
  callee_at f xs None (Some l) d e = absurd e
  callee_at f xs (Some (Has v)) None d e = absurd e
  callee_at f xs (Some (Hidden u)) None d e = absurd e
  callee_at f xs (Some (Has v)) (Some o) d e = record { from = λ x y cells. tt }
  callee_at f xs (Some (Hidden u)) (Some o) d e = record { from = λ x y cells. tt }

  callee_agrees : (f : Typ) (xs : List Instance) → Agrees Fault Instance Instance Same (callee_here from Const env f xs) (callee_here to t other f xs)
  callee_agrees (simple None f) xs = callee_at f xs (find f env) (find f other) (p.denotes m f) (of_locals f)
  callee_agrees (simple (Some path) f) xs = record { from = λ x y cells. tt }
  callee_agrees (templated None f arguments) xs = record { from = λ x y cells. tt }
  callee_agrees (templated (Some path) f arguments) xs = record { from = λ x y cells. tt }

  pub values_agree : (e : Exp) → Agrees Fault Instance Instance Same (value from Const env e) (value to t other e)
  values_agree e =
      expressions.simulates Agreeing kept Const t (stages t) itself (names_of env) from to env other
      (λ x y h. subst (λ z. Agrees Fault Instance Instance Same (name_here from Const env x) (name_here to t other z)) h (name_agrees x))
      (λ f g xs h. subst (λ z. Agrees Fault Instance Instance Same (callee_here from Const env f xs) (callee_here to t other z xs)) h (callee_agrees f xs))
      (λ a b h. absurd h)
      e e (follows_itself (names_of env) e)

  -- what has a const value there is better replaced by that value
  pub better_by_const : (e : Exp) (v : Instance) → value from Const env e ≡ pure v → Better Fault Instance Instance Same (value to t other e) (pure v)
  better_by_const e v is = better_by_answer Fault Instance v (value to t other e) (subst (λ n. Agrees Fault Instance Instance Same n (value to t other e)) is (values_agree e))

  -- and its value, where there is one, is that value
  pub const_answer : (e : Exp) (v w : Instance) (s r : State) → value from Const env e ≡ pure v → value to t other e s ≡ Done w r → v ≡ w
  const_answer e v w s r is gives =
      let b = (subst (λ n. Agrees Fault Instance Instance Same n (value to t other e)) is (values_agree e)).from s s refl in
      (subst (AgreeAt Fault Instance Instance Same s s (Done v s)) gives b).alike
