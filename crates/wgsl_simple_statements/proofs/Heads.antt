-- What a clause of `switch` begins with.
use Rattle.std.proofs.Common.{◌≡◌, refl, List, [], ◌∷◌, ◌++◌, map, codes}
use Rattle.wgsl_expressions.specs.Print.{commas}
use Rattle.wgsl_simple_statements.specs.declared.statement.CaseSelector.{CaseSelector}
use Rattle.wgsl_simple_statements.specs.declared.statement.CaseSelector.TheVariants.{Default, Expression as Case}
use Rattle.wgsl_simple_statements.specs.View.{selector_tree}
use Rattle.wgsl_simple_statements.specs.Print.{selector_text, case_head}

pub several_cases : (ss : List CaseSelector) → (ss ≡ Default ∷ [] → ⊥) → case_head (map selector_tree ss) ≡ codes "case " ++ commas selector_text (map selector_tree ss)
several_cases [] other = refl
several_cases (Default ∷ []) other = absurd (other refl)
several_cases (Case x ∷ []) other = refl
several_cases (Default ∷ s ∷ ss) other = refl
several_cases (Case x ∷ s ∷ ss) other = refl
