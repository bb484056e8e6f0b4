-- The laws, by those of the whole language.
use Rattle.std.proofs.Common.{◌≡◌, sym, ap, ◌∙◌, subst, ℕ, List, Ok}
use Rattle.std.specs.List.{Contains}
use Rattle.wgsl_base.proofs.Members.{in_map}
use Rattle.wgsl_declarations.specs.Tree as whole
use Rattle.wgsl_declarations.specs.View.{unit_tree}
use Rattle.wgsl_declarations.specs.Print as whole_text
use Rattle.wgsl_declarations.specs.ImportsTree.{Importing}
use Rattle.core_syntax.specs.Tree.{UnitTree, Imp}
use Rattle.core_syntax.specs.Print.{unit_text}
use Rattle.wgsl_check_unit.proofs.Once.{module_apart}
use Rattle.core_widening.specs.Widening.{widen_imp, widen_unit}
use Rattle.core_widening.proofs.Alike.{unit_alike}
use Rattle.core_widening.proofs.Lying.{one_unit}
use Rattle.wgsl_check_unit.specs.Derivable.{SaysTree}
use Rattle.wgsl_check_unit.proofs.ModuleLaws as read_back
use Rattle.wgsl_check_unit.proofs.One.{texts_have_one_module}
use Rattle.wgsl_check_unit.proofs.Apart as apart
use Rattle.core_texts.specs.Texts.{IsTextOf, IsUnprintable}
use Rattle.core_texts.specs.Laws.{TextsHaveOneUnit, TextsAreOneThing, UnitsAreReadBack, UnitsAreToldOnce, SameTokensAreTheSameUnit, ImportsOfTextsAreApart}
use Rattle.core_texts.proofs.Told.{told_once}

-- a text says one tree
one_tree : (text : List ℕ) (a b : whole.UnitTree) → SaysTree text a → SaysTree text b → a ≡ b
one_tree text a b s t = sym s.tree ∙ ap unit_tree (texts_have_one_module text s.unit t.unit s.says t.says) ∙ t.tree

pub texts_have_one_unit : TextsHaveOneUnit
texts_have_one_unit text u v a b = one_unit u v (one_tree text (widen_unit u) (widen_unit v) a b)

pub texts_are_one_thing : TextsAreOneThing
texts_are_one_thing = (
  λ text u is beyond. beyond.beyond u (sym is.is_text.tree ∙ ap unit_tree (texts_have_one_module text is.is_text.unit beyond.unit is.is_text.says beyond.says)) is.in_core,
  λ text u e is fault. module_apart text is.is_text.unit is.is_text.says e fault,
  λ text e beyond fault. module_apart text beyond.unit beyond.says e fault,
)

pub units_are_read_back : UnitsAreReadBack
units_are_read_back u (text, s) =
    let r = read_back.modules_are_read_back text s.unit s.says in
    let P : whole.UnitTree → Type 0 = λ z. SaysTree (whole_text.unit_text z) z in
    let again = subst P s.tree (record { unit = r.0; says = r.1; tree = r.2 }) in
    let Q : List ℕ → Type 0 = λ z. SaysTree z (widen_unit u) in
    subst Q (unit_alike u) again

pub units_are_told_once : UnitsAreToldOnce
units_are_told_once u one other a b = told_once _ one other a.told b.told

pub same_tokens_are_the_same_unit : SameTokensAreTheSameUnit
same_tokens_are_the_same_unit one other h u s =
    let r = read_back.same_tokens_are_the_same_module one other h.ones h.others s.unit h.one_lexed h.other_lexed h.same s.says in
    record { unit = r.0; says = r.1; tree = r.2 ∙ s.tree }

-- an import of a unit is one of its module
widened : (u : UnitTree) (m : whole.UnitTree) (i : Imp) → m ≡ widen_unit u → Contains u.imports i → Contains m.imports (widen_imp i)
widened u m i same there =
    let P : whole.UnitTree → Type 0 = λ z. Contains z.imports (widen_imp i) in
    subst P (sym same) (in_map widen_imp u.imports i there)

pub imports_of_texts_are_apart : ImportsOfTextsAreApart
imports_of_texts_are_apart one other u v s t i j a b in_one in_other is_a is_b =
    apart.imports_of_texts_are_apart one other s.unit t.unit s.says t.says (widen_imp i) (widen_imp j) a b (widened u (unit_tree s.unit) i s.tree in_one)
    (widened v (unit_tree t.unit) j t.tree in_other) is_a is_b
