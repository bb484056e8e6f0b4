-- What is printed of a unit without imports is a text without imports.
use Rattle.std.proofs.Common.{◌≡◌, ℕ, List, [], map, ap, Result, Ok, Err, String, Global}
use Rattle.std.specs.Prelude.{IfOk, string_bytes}
use Rattle.wgsl_declarations.specs.declared.unit.TranslationUnit.{TranslationUnit}
use Rattle.wgsl_declarations.specs.View.{unit_tree}
use Rattle.wgsl_declarations.specs.ImportsView.{importing_tree}
use Rattle.core_calls.specs.Derivable.{SaysTree}
use Rattle.core_narrowing.specs.Widening.{widen_imp, widen_unit}
use Rattle.core_link_spec.specs.Occurrences.{Name}
use Rattle.core_link_spec.specs.Modules.{Path}
use Rattle.core_link_spec.specs.Rounds.{Sources}
use Rattle.wesl_resolve.specs.declared.source_map.BasicSourceMap.{BasicSourceMap}
use Rattle.core_calls.specs.CompileError.{CompileError}
use Rattle.core_calls.specs.Answers.{IsLinkedText}
use Rattle.weslc_calls.specs.Plain.{IsPlain}

pub plain_of_unit : (text : List ℕ) (unit : TranslationUnit) → unit.imports ≡ [] → SaysTree text (unit_tree unit) → IsPlain text
plain_of_unit text unit none says = record { unit = unit_tree unit; says = says; no_imports = ap (map importing_tree) none }

pub plain_of_part : (found : Sources) (root : Path) (asked : List Name) (max : ℕ) (text : List ℕ) → IsLinkedText found root asked max text → IsPlain text
plain_of_part found root asked max text t =
    record { unit = widen_unit t.linked; says = t.reads; no_imports = ap (map widen_imp) t.from.linked_well.linked.no_imports }

pub plain_answer : (found : Sources) (root : Path) (asked : List Name) (max : ℕ) (r : Result (String Global × BasicSourceMap) CompileError)
    → IfOk r (λ answer. IsLinkedText found root asked max (string_bytes answer.0)) → IfOk r (λ answer. IsPlain (string_bytes answer.0))
plain_answer found root asked max (Ok answer) t = plain_of_part found root asked max (string_bytes answer.0) t
plain_answer found root asked max (Err e) t = tt
