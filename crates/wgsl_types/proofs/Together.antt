-- What is converted to one common type is converted to the common type.
use Rattle.std.proofs.Common.{◌≡◌, ap, ◌∙◌, List, Option, Result, Ok, Err, IfOk}
use Rattle.wgsl_shader_type.specs.declared.tree.ShaderType.{ShaderType}
use Rattle.wgsl_shader_type.specs.Conversion.{IsCommonType}
use Rattle.wgsl_types.specs.Convert.{all_converted, AllAtCommonType}
use Rattle.wgsl_types.proofs.Lawful.{one_common}

module _ {A E : Type 0} (f : A → ShaderType → Option A) (types : List ShaderType) (things : List A) where
  pub at_common : (c : ShaderType) → IsCommonType types c → (r : Result (Option (List A)) E) → IfOk r (λ found. found ≡ all_converted f things c) → IfOk r (AllAtCommonType f types things)
  at_common c is (Ok found) h = record {
    some = λ common other. h ∙ ap (all_converted f things) (one_common types c common is other);
    none = λ no_common. absurd (no_common c is);
  }
  at_common c is (Err e) h = tt
