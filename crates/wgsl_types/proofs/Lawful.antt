-- The laws that no lower proof has.
use Rattle.std.proofs.Common.{◌≡◌, refl, sym, ap, ◌∙◌, ℕ, Option, Some, None, is_some, if◌then◌else◌, [], ◌∷◌}
use Rattle.std.proofs.lemmas.List.Elements.{All-contains}
use Rattle.std.proofs.lemmas.List.Sorted.{All-permutation, Contains-permutation, IsPermutation-reverse}
use Rattle.wgsl_shader_type.specs.declared.tree.ShaderType.{ShaderType}
use Rattle.wgsl_shader_type.specs.declared.tree.ShaderType.TheVariants as v
use Rattle.wgsl_shader_type.specs.Trees.{induction}
use Rattle.wgsl_shader_type.specs.Conversion.{Converts}
use Rattle.wgsl_shader_type.specs.Class.{concrete_type, loaded_type}
use Rattle.wgsl_shader_type.proofs.Commons.{converts_back, converts_self, converts_on, ranks_add}
use Rattle.wgsl_shader_type.proofs.Ranks.{path_if_rank}
use Rattle.wgsl_shader_type.specs.Rank.{rank_of}
use Rattle.wgsl_shader_type.proofs.Classes as step
use Rattle.wgsl_types.specs.Laws.{IsReflexive, IsTransitive, IsAntisymmetric, RanksAdd, CommonTypeIsOne, CommonTypeIsSymmetric, CommonOfIsSymmetric, CommonTypeIgnoresOrder, ConcreteTwiceIsOnce, LoadedTwiceIsOnce}

pub reflexive : IsReflexive
reflexive = converts_self

pub transitive : IsTransitive
transitive = converts_on

pub antisymmetric : IsAntisymmetric
antisymmetric = converts_back

pub ranks : RanksAdd
ranks = ranks_add

pub one_common : CommonTypeIsOne
one_common types a b p q = converts_back a b
    (All-contains (λ m. Converts m b) types a q.all_convert p.member) (All-contains (λ m. Converts m a) types b p.all_convert q.member)

pub any_order : CommonTypeIgnoresOrder
any_order types others common order p = record {
  member = Contains-permutation types others common order p.member;
  all_convert = All-permutation (λ m. Converts m common) types others order p.all_convert;
}

pub symmetric : CommonTypeIsSymmetric
symmetric a b common = any_order (a ∷ b ∷ []) (b ∷ a ∷ []) common (IsPermutation-reverse (a ∷ b ∷ []))

-- of two types of which each may have a rank to the other, the answer is one
chosen : (a b : ShaderType) (p q : Option ℕ) → rank_of a b ≡ p → rank_of b a ≡ q
    → (if is_some p then Some b else (if is_some q then Some a else None)) ≡ (if is_some q then Some a else (if is_some p then Some b else None))
chosen a b None q h k = refl
chosen a b (Some m) None h k = refl
chosen a b (Some m) (Some n) h k = ap Some (converts_back b a (n, path_if_rank b a n k) (m, path_if_rank a b m h))

pub same_answer : CommonOfIsSymmetric
same_answer a b = chosen a b (rank_of a b) (rank_of b a) refl refl

abbrev Twice : (ShaderType → ShaderType) → ShaderType → Type 0
Twice f t = f (f t) ≡ f t

again : (f : ShaderType → ShaderType) (t u : ShaderType) → f t ≡ u → f u ≡ u → Twice f t
again f t u e h = ap f e ∙ h ∙ sym e

pub concrete_twice : ConcreteTwiceIsOnce
concrete_twice = induction (Twice concrete_type) (record {
  boolean = again concrete_type v.Bool v.Bool step.concrete_of_bool step.concrete_of_bool;
  abstract_int = again concrete_type v.AbstractInt v.I32 step.concrete_of_abstract_int step.concrete_of_i32;
  abstract_float = again concrete_type v.AbstractFloat v.F32 step.concrete_of_abstract_float step.concrete_of_f32;
  i32 = again concrete_type v.I32 v.I32 step.concrete_of_i32 step.concrete_of_i32;
  u32 = again concrete_type v.U32 v.U32 step.concrete_of_u32 step.concrete_of_u32;
  f32 = again concrete_type v.F32 v.F32 step.concrete_of_f32 step.concrete_of_f32;
  f16 = again concrete_type v.F16 v.F16 step.concrete_of_f16 step.concrete_of_f16;
  struct = λ s all. again concrete_type (v.Struct s) (v.Struct s) (step.concrete_of_struct s) (step.concrete_of_struct s);
  array = λ t n h. again concrete_type (v.Array t n) (v.Array (concrete_type t) n) (step.concrete_of_array t n) (step.concrete_of_array (concrete_type t) n ∙ ap (λ u. v.Array u n) h);
  vector = λ n t h. again concrete_type (v.Vec n t) (v.Vec n (concrete_type t)) (step.concrete_of_vector n t) (step.concrete_of_vector n (concrete_type t) ∙ ap (v.Vec n) h);
  pointer = λ s t a h. again concrete_type (v.Ptr s t a) (v.Ptr s t a) (step.concrete_of_pointer s t a) (step.concrete_of_pointer s t a);
  reference = λ s t a h. again concrete_type (v.Ref s t a) (v.Ref s t a) (step.concrete_of_reference s t a) (step.concrete_of_reference s t a);
})

pub loaded_twice : LoadedTwiceIsOnce
loaded_twice = induction (Twice loaded_type) (record {
  boolean = again loaded_type v.Bool v.Bool step.loaded_of_bool step.loaded_of_bool;
  abstract_int = again loaded_type v.AbstractInt v.AbstractInt step.loaded_of_abstract_int step.loaded_of_abstract_int;
  abstract_float = again loaded_type v.AbstractFloat v.AbstractFloat step.loaded_of_abstract_float step.loaded_of_abstract_float;
  i32 = again loaded_type v.I32 v.I32 step.loaded_of_i32 step.loaded_of_i32;
  u32 = again loaded_type v.U32 v.U32 step.loaded_of_u32 step.loaded_of_u32;
  f32 = again loaded_type v.F32 v.F32 step.loaded_of_f32 step.loaded_of_f32;
  f16 = again loaded_type v.F16 v.F16 step.loaded_of_f16 step.loaded_of_f16;
  struct = λ s all. again loaded_type (v.Struct s) (v.Struct s) (step.loaded_of_struct s) (step.loaded_of_struct s);
  array = λ t n h. again loaded_type (v.Array t n) (v.Array t n) (step.loaded_of_array t n) (step.loaded_of_array t n);
  vector = λ n t h. again loaded_type (v.Vec n t) (v.Vec n t) (step.loaded_of_vector n t) (step.loaded_of_vector n t);
  pointer = λ s t a h. again loaded_type (v.Ptr s t a) (v.Ptr s t a) (step.loaded_of_pointer s t a) (step.loaded_of_pointer s t a);
  reference = λ s t a h. ap loaded_type (step.loaded_of_reference s t a) ∙ h ∙ sym (step.loaded_of_reference s t a);
})
