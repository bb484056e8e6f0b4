-- What makes no array and no vector.
use Rattle.std.proofs.Common.{◌≡◌, sym, ap, ◌∙◌, ℕ, ⊎_elim, List, [], length, map, Some, None, false, true≢false, All}
use Rattle.std.specs.Option.{is_some}
use Rattle.wgsl_shader_type.specs.declared.tree.ShaderType.{ShaderType}
use Rattle.wgsl_shader_type.specs.Conversion.{Converts, HasNoCommonType}
use Rattle.wgsl_types.specs.declared.template.ArrayTemplate.{ArrayTemplate}
use Rattle.wgsl_types.specs.declared.template.VecTemplate.{VecTemplate}
use Rattle.wgsl_types.specs.declared.constructor.Constructor.TheVariants as constructor
use Rattle.wgsl_types.specs.Constructor.{array_length, MakesNothing, component_of, are_parts, FitComponent, HasNoComponent}

nothing : {A G : Type 0} (n : A) → None ≡ Some n → G
nothing n h = absurd (true≢false (sym (ap is_some h)))

in_some : (m n : ℕ) → Some m ≡ Some n → m ≡ n
in_some m n h = cc

pub no_common : (args : List ShaderType) → HasNoCommonType args → MakesNothing (constructor.Array None) args
no_common args none made is = none is.0 is.2

pub no_length : (template : ArrayTemplate) (args : List ShaderType) → array_length template.count (length args) ≡ None → MakesNothing (constructor.Array (Some template)) args
no_length template args none made is = nothing is.0 (sym none ∙ is.1)

pub no_conversion : (template : ArrayTemplate) (args : List ShaderType) → (All (λ arg. Converts arg template.element) args → ⊥) → MakesNothing (constructor.Array (Some template)) args
no_conversion template args none made is = none is.3

pub no_component : (n : ℕ) (args : List ShaderType) → HasNoComponent n args → MakesNothing (constructor.Vector n None) args
no_component n args none made is = none is.0 is.2

pub no_fit : (n : ℕ) (template : VecTemplate) (args : List ShaderType) → (FitComponent n template.component args → ⊥) → MakesNothing (constructor.Vector n (Some template)) args
no_fit n template args none made is = none is.1

pub no_parts : (n : ℕ) (args : List ShaderType) → (args ≡ [] → ⊥) → are_parts n args ≡ false → HasNoComponent n args
no_parts n args full none component is = ⊎_elim (λ empty. full empty.0) (λ parts. true≢false (sym parts.0 ∙ none)) is

pub no_common_part : (n : ℕ) (args : List ShaderType) → (args ≡ [] → ⊥) → HasNoCommonType (map component_of args) → HasNoComponent n args
no_common_part n args full none component is = ⊎_elim (λ empty. full empty.0) (λ parts. none component parts.1) is
