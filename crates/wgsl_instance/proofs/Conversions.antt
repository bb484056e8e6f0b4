-- The conversion of a value, from that of its parts.
use Rattle.std.proofs.Common.{◌≡◌, refl, sym, ap, ◌∙◌, List, [], ◌∷◌, map, Option, Some, None, Ok}
use Rattle.wgsl_shader_type.specs.declared.tree.ShaderType.{ShaderType}
use Rattle.wgsl_instance.specs.declared.tree.ArrayInstanceOf.{ArrayInstanceOf}
use Rattle.wgsl_instance.specs.declared.tree.Instance.{Instance, roll-Instance, out-Instance, roll-out-Instance, map-Instance, para-roll-Instance}
use Rattle.wgsl_instance.specs.declared.tree.Instance.TheVariants as v
use Rattle.wgsl_instance.specs.declared.tree.Instance.TheOpen.{Instance-F}
use Rattle.wgsl_instance.specs.Answer.{then_with, collected}
use Rattle.wgsl_instance.specs.Zero.{Made}
use Rattle.wgsl_instance.specs.Converted.{converted, converted_layer, converted_parts, converted_or, converted_array, array_of, array_or, element_of, parts_layer, mismatch}

abbrev Pair : Type 0
Pair = Instance × (ShaderType → Made)

abbrev beside : Instance → Pair
beside x = (x, converted x)

abbrev left : Pair → Instance
left pair = pair.0

-- the parts of a value as they were
elements_stand : (xs : List Instance) → map left (map beside xs) ≡ xs
elements_stand [] = refl
elements_stand (x ∷ xs) = ap (λ ys. x ∷ ys) (elements_stand xs)

stands : (x : Instance-F Instance) → map-Instance Pair Instance left (map-Instance Instance Pair beside x) ≡ x
stands (Instance-F.Struct s) = λ k. Instance-F.Struct (record { ty = s.ty; members = elements_stand s.members k })
stands (Instance-F.Array a) = λ k. Instance-F.Array (record { element = a.element; components = elements_stand a.components k; runtime_sized = a.runtime_sized })
stands x = refl

elements : (e : ShaderType) (xs : List Instance) → collected (λ (p : Pair). p.1 e) (map beside xs) ≡ collected (λ x. converted x e) xs
elements e [] = refl
elements e (x ∷ xs) = ap (λ r. then_with (converted x e) (λ y. then_with r (λ ys. Ok (y ∷ ys)))) (elements e xs)

parts : (other : Made) (t : ShaderType) (x : Instance-F Instance) → parts_layer (λ (p : Pair). p.1) other t (map-Instance Instance Pair beside x) ≡ parts_layer converted other t x
parts other t (Instance-F.Array a) = of_array (element_of t)
  where
    of_array : (e : Option ShaderType) → array_or (λ (p : Pair). p.1) other (record { element = a.element; components = map beside a.components; runtime_sized = a.runtime_sized }) e ≡ array_or converted other a e
    of_array (Some e) = ap (λ r. then_with r (λ xs. Ok (array_of a.runtime_sized e xs))) (elements e a.components)
    of_array None = refl
parts other t x = refl

rolled : (x : Instance-F Instance) (t : ShaderType) → converted (roll-Instance x) t ≡ converted_or (roll-Instance x) t (parts_layer converted (mismatch (roll-Instance x) t) t x)
rolled x t =
    ap (λ f. f t) (para-roll-Instance (ShaderType → Made) converted_layer x)
    ∙ (λ k. converted_or (roll-Instance (stands x k)) t (parts_layer (λ (p : Pair). p.1) (mismatch (roll-Instance (stands x k)) t) t (map-Instance Instance Pair beside x)))
    ∙ ap (converted_or (roll-Instance x) t) (parts (mismatch (roll-Instance x) t) t x)

pub converted_is : (x : Instance) (t : ShaderType) → converted x t ≡ converted_or x t (converted_parts x t)
converted_is x t =
    ap (λ y. converted y t) (sym (roll-out-Instance x))
    ∙ rolled (out-Instance x) t
    ∙ (λ k. converted_or (roll-out-Instance x k) t (parts_layer converted (mismatch (roll-out-Instance x k) t) t (out-Instance x)))
