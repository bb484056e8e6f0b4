-- What is narrowed of a module.
use Rattle.std.proofs.Common.{◌≡◌, sym, ap, ◌∙◌, true, false, Ok, Err}
use Rattle.wgsl_declarations.specs.Tree as whole_trees
use Rattle.core_syntax.specs.declared.unit.TranslationUnit.{TranslationUnit}
use Rattle.core_syntax.specs.View.{unit_tree}
use Rattle.core_narrowing.specs.InCore.{is_unit}
use Rattle.core_narrowing.specs.Narrowing.{Narrows}
use Rattle.core_narrowing.specs.declared.error.NarrowError.{NarrowError}
use Rattle.core_narrowing.specs.declared.error.NarrowError.TheVariants as narrowing
use Rattle.core_narrowing.proofs.Lying.{one_unit}
use Rattle.core_resolver.specs.Found.{Finds}

pub found : (m : whole_trees.UnitTree) (u : TranslationUnit) → Narrows m (Ok u) → is_unit (unit_tree u) ≡ true → Finds m (Ok u)
found m u is there = (is, there)

pub more_than_part : (m : whole_trees.UnitTree) (u : TranslationUnit) → Narrows m (Ok u) → is_unit (unit_tree u) ≡ false → Finds m (Err narrowing.Unsupported)
more_than_part m u is not_there v lies v_in =
    let same : v ≡ unit_tree u = one_unit v (unit_tree u) (lies ∙ sym is) in
    let wrong : is_unit v ≡ false = ap is_unit same ∙ not_there in absurd (cc)

pub none_found : (m : whole_trees.UnitTree) (e : NarrowError) → Narrows m (Err e) → Finds m (Err e)
none_found m narrowing.Unsupported none = λ v lies _. none v lies
none_found m narrowing.OutOfMemory none = tt
