-- How attributes are printed (this project's own layout).
use Rattle.std.specs.Prelude.{ℕ, List, [], ◌++◌, Option, Some, None, codes}
use Rattle.std.specs.List.{flat_map}
use Rattle.wgsl_words.specs.declared.enumerations.words.InterpolationSampling.{InterpolationSampling}
use Rattle.wgsl_words.specs.Texts.{builtin_value_text, diagnostic_severity_text, interpolation_type_text, interpolation_sampling_text}
use Rattle.wgsl_expressions.specs.Tree.{Exp}
use Rattle.wgsl_expressions.specs.Print.{commas, exp_text}
use Rattle.wgsl_expressions.specs.AttributesTree.{Attr, align, binding, blend_src, builtin, constant, diagnostic, group, id_number, interpolate, invariant, location, must_use, byte_size, workgroup_size, vertex, fragment, compute, publish, if_true, else_if, otherwise, custom}

-- a word, and arguments in parentheses
unfoldable pub argued : List ℕ → List ℕ → List ℕ
argued word text = codes "@" ++ word ++ codes "(" ++ text ++ codes ")"

-- an argument behind another, where there is one
abbrev pub more_text : Option Exp → List ℕ
more_text None = []
more_text (Some x) = codes ", " ++ exp_text x

abbrev pub sampling_text : Option InterpolationSampling → List ℕ
sampling_text None = []
sampling_text (Some sampling) = codes ", " ++ interpolation_sampling_text sampling

-- arguments in parentheses, or nothing
abbrev pub arguments_text : Option (List Exp) → List ℕ
arguments_text None = []
arguments_text (Some xs) = codes "(" ++ commas exp_text xs ++ codes ")"

abbrev pub attr_text : Attr → List ℕ
attr_text (align x) = argued (codes "align") (exp_text x)
attr_text (binding x) = argued (codes "binding") (exp_text x)
attr_text (blend_src x) = argued (codes "blend_src") (exp_text x)
attr_text (builtin value) = argued (codes "builtin") (builtin_value_text value)
attr_text constant = codes "@const"
attr_text (diagnostic severity rule) = argued (codes "diagnostic") (diagnostic_severity_text severity ++ codes ", " ++ rule)
attr_text (group x) = argued (codes "group") (exp_text x)
attr_text (id_number x) = argued (codes "id") (exp_text x)
attr_text (interpolate type sampling) = argued (codes "interpolate") (interpolation_type_text type ++ sampling_text sampling)
attr_text invariant = codes "@invariant"
attr_text (location x) = argued (codes "location") (exp_text x)
attr_text must_use = codes "@must_use"
attr_text (byte_size x) = argued (codes "size") (exp_text x)
attr_text (workgroup_size x y z) = argued (codes "workgroup_size") (exp_text x ++ more_text y ++ more_text z)
attr_text vertex = codes "@vertex"
attr_text fragment = codes "@fragment"
attr_text compute = codes "@compute"
attr_text publish = codes "@publish"
attr_text (if_true x) = argued (codes "if") (exp_text x)
attr_text (else_if x) = argued (codes "elif") (exp_text x)
attr_text otherwise = codes "@else"
attr_text (custom name arguments) = codes "@" ++ name ++ arguments_text arguments

-- attributes before their node, a space after each
abbrev pub attrs_text : List Attr → List ℕ
attrs_text attributes = flat_map (λ a. attr_text a ++ codes " ") attributes
