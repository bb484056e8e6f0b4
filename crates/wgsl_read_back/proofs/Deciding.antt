-- What the printed text of a module says of all texts.
use Rattle.std.proofs.Common.{◌≡◌, refl, sym, ap, ◌∙◌, subst, ℕ, List, [], Bool, false, ◌⊎◌, inl, inr, Some, None, Decides}
use Rattle.wgsl_declarations.specs.declared.unit.TranslationUnit.{TranslationUnit}
use Rattle.wgsl_declarations.specs.Tree.{UnitTree}
use Rattle.wgsl_declarations.specs.View.{unit_tree}
use Rattle.wgsl_declarations.specs.Print.{unit_text}
use Rattle.wgsl_token.specs.declared.fault.error.Error.{Error}
use Rattle.wgsl_token.specs.Errors.{refusal_of, IsRefusal}
use Rattle.wgsl_templates.specs.Tokens.{start, nothing}
use Rattle.wgsl_read_back.specs.Texts.{IsModuleFault, IsBlank, empty_unit}
use Rattle.wgsl_read_back.proofs.Once.{module_apart}
use Rattle.wgsl_read_back.proofs.ModuleLaws.{modules_are_read_back}
use Rattle.wgsl_read_back.proofs.One.{texts_have_one_module}
use Rattle.wgsl_nodes_in_order.specs.Alone.{at_most_one}
use Rattle.wgsl_read_back.specs.Derivable.{Says, SaysTree, IsDerivable}

-- what some text derives, its printed text does
printed_says : (u : UnitTree) → IsDerivable u → SaysTree (unit_text u) u
printed_says u (text, s) =
    let r = modules_are_read_back text s.unit s.says in
    let P : UnitTree → Type 0 = λ z. SaysTree (unit_text z) z in
    subst P s.tree (record { unit = r.0; says = r.1; tree = r.2 })

-- by the module that the printed text is
pub by_module : (text : List ℕ) (u : UnitTree) (other : TranslationUnit) (b : Bool) → text ≡ unit_text u → Says text other → Decides b (u ≡ unit_tree other) → Decides b (IsDerivable u)
by_module text u other b is says test = (
  λ e. (text, record { unit = other; says = says; tree = sym (test.0 e) }),
  λ d.
      let s = printed_says u d in
      let P : List ℕ → Type 0 = λ z. Says z s.unit in
      let one = texts_have_one_module text s.unit other (subst P (sym is) s.says) says in
      test.1 (sym s.tree ∙ ap unit_tree one),
)

-- by the fault that it has
pub by_fault : (text : List ℕ) (u : UnitTree) (e : Error) → text ≡ unit_text u → IsModuleFault text e ⊎ IsRefusal e → refusal_of e ≡ None → Decides false (IsDerivable u)
by_fault text u e is (inl fault) other = (
  λ wrong. absurd cc,
  λ d.
      let s = printed_says u d in
      let P : List ℕ → Type 0 = λ z. Says z s.unit in
      absurd (module_apart text s.unit (subst P (sym is) s.says) e fault),
)
by_fault text u e is (inr (r, gave_up)) other = let wrong : Some r ≡ None = sym gave_up ∙ other in absurd cc

pub printed_so : (u : UnitTree) (text : List ℕ) → text ≡ unit_text u → IsDerivable u → SaysTree text u
printed_so u text is d = let P : List ℕ → Type 0 = λ z. SaysTree z u in subst P (sym is) (printed_says u d)

-- ---- a `;` alone

blank : IsBlank []
blank = record { characters = []; are_scalars = refl; spell = refl; lexes = (start, nothing) }

-- a `;` alone is a module
pub empty_derivable : IsDerivable (at_most_one None)
empty_derivable = ([], record { unit = empty_unit; says = inr (blank, refl); tree = refl })
