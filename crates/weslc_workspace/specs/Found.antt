-- What is found where a text is set, or none.
use mathlib.Core.Logic.{∥∥₁_elim}
use Rattle.std.specs.Coded.{Coded-set}
use Rattle.std.specs.Prelude.{◌≡◌, ℕ, List, Option, Some, None, Ok}
use Rattle.std.proofs.Common.{refl, sym, ap, ◌∙◌}
use Rattle.wgsl_declarations.specs.Tree.{UnitTree}
use Rattle.wgsl_declarations.specs.View.{unit_tree}
use Rattle.wgsl_declarations.specs.declared.unit.TranslationUnit.{TranslationUnit}
use Rattle.wgsl_declarations.specs.contracts.unit.TranslationUnit as trees
use Rattle.wgsl_token.specs.declared.fault.error.Error.{Error}
use Rattle.wgsl_token.specs.contracts.fault.error.Error as errors
use Rattle.wgsl_parser.specs.Texts.{ParsesModule, IsModuleFault}
use Rattle.wgsl_parser.proofs.Once.{module_fault_once, module_apart}
use Rattle.wgsl_read_back.proofs.One.{texts_have_one_module}
use Rattle.wesl_resolvers.specs.Found.{Answer, unit_of, not_found, faulty, conditioned, left_open}

-- what is found where this text, or none, is set: its module, or its fault
abbrev pub found_in : Option (List ℕ) → Answer → Type 0
found_in None a = a ≡ not_found
found_in (Some text) (unit_of u) = (unit : TranslationUnit) × ∥ ParsesModule text (Ok unit) ∥₁ × (unit_tree unit ≡ u)
found_in (Some text) not_found = ⊥
found_in (Some text) (faulty e) = ∥ IsModuleFault text e ∥₁
found_in (Some text) (conditioned e) = ⊥
found_in (Some text) left_open = ⊥

-- where a unit is found there is a text
pub text_of_found : (o : Option (List ℕ)) (u : UnitTree) → found_in o (unit_of u) → (text : List ℕ) × (o ≡ Some text)
text_of_found None u is = let wrong : unit_of u ≡ not_found = is in absurd (cc)
text_of_found (Some text) u is = (text, refl)

-- ---- one thing is found

module _ (text : List ℕ) where
  one_unit : (u v : TranslationUnit) → ∥ ParsesModule text (Ok u) ∥₁ → ∥ ParsesModule text (Ok v) ∥₁ → u ≡ v
  one_unit u v h k = ∥∥₁_elim h (Coded-set (trees.the_row).coded u v) (λ p. ∥∥₁_elim k (Coded-set (trees.the_row).coded u v) (λ q. texts_have_one_module text u v p q))

  one_fault : (e f : Error) → ∥ IsModuleFault text e ∥₁ → ∥ IsModuleFault text f ∥₁ → e ≡ f
  one_fault e f h k = ∥∥₁_elim h (Coded-set (errors.the_row).coded e f) (λ p. ∥∥₁_elim k (Coded-set (errors.the_row).coded e f) (λ q. module_fault_once text f e q p))

  apart : (u : TranslationUnit) (e : Error) → ∥ ParsesModule text (Ok u) ∥₁ → ∥ IsModuleFault text e ∥₁ → ⊥
  apart u e h k = ∥∥₁_elim h (λ x y. absurd x) (λ p. ∥∥₁_elim k (λ x y. absurd x) (λ q. module_apart text u p e q))

  one_there : (a b : Answer) → found_in (Some text) a → found_in (Some text) b → a ≡ b
  one_there (unit_of u) (unit_of v) h k = ap unit_of (sym h.2 ∙ ap unit_tree (one_unit h.0 k.0 h.1 k.1) ∙ k.2)
  one_there (unit_of u) not_found h k = absurd k
  one_there (unit_of u) (faulty e) h k = absurd (apart h.0 e h.1 k)
  one_there (unit_of u) (conditioned e) h k = absurd k
  one_there (unit_of u) left_open h k = absurd k
  one_there not_found b h k = absurd h
  one_there (faulty e) (unit_of u) h k = absurd (apart k.0 e k.1 h)
  one_there (faulty e) not_found h k = absurd k
  one_there (faulty e) (faulty f) h k = ap faulty (one_fault e f h k)
  one_there (faulty e) (conditioned f) h k = absurd k
  one_there (faulty e) left_open h k = absurd k
  one_there (conditioned e) b h k = absurd h
  one_there left_open b h k = absurd h

pub one_found : (o : Option (List ℕ)) (a b : Answer) → found_in o a → found_in o b → a ≡ b
one_found None a b h k = h ∙ sym k
one_found (Some text) a b h k = one_there text a b h k
