-- Names that begin with others.
use Rattle.std.proofs.Common.{◌≡◌, ℕ, List, ◌++◌, length, take, drop, Bool, IsTrue, ◌↔◌, sym, ap, ◌∙◌}
use Rattle.std.specs.Str.{bytes_eq}
use Rattle.std.specs.Cmp.Lexicographic.{pointwise}
use Rattle.std.proofs.lemmas.Slice.Eq.{slice_eq-Decides, bytes_eq-Decides}
use Rattle.std.proofs.lemmas.List.{take-append-drop}
use Rattle.std.proofs.Math.Seq.{take-append_seam}
use Rattle.wgsl_path.specs.Joining.{BeginsWith}

pub tells_beginning : (names first : List (List ℕ)) (r : Bool) → r ≡ pointwise bytes_eq (take (length first) names) first → IsTrue r ↔ BeginsWith names first
tells_beginning names first r test =
    let same = slice_eq-Decides bytes_eq-Decides (take (length first) names) first r test in
    let behind = drop (length first) names in (
      λ yes. (behind, sym (take-append-drop (length first) names) ∙ ap (λ front. front ++ behind) (same.0 yes)),
      λ begins. same.1 (ap (take (length first)) begins.1 ∙ take-append_seam first begins.0),
    )
