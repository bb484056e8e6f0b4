use Rattle.std.proofs.Common.{◌≡◌, ◌∙◌, subst, ℕ, List, length, false}
use Rattle.std.specs.Prelude.{nat_eq}
use Rattle.std.specs.Str.{bytes_eq}
use Rattle.wgsl_path.specs.Paths.{path_text}
use Rattle.weslc_workspace.proofs.Fronts.{whole, not_whole}
use Rattle.weslc_workspace.proofs.printed.is_printed.Goals as goal

pub returns-in-Some : goal.returns-in-Some
returns-in-Some c =
    let all : nat_eq (length c.in-Some.rest.now) 0 ≡ bytes_eq (path_text c.args.path.now) c.as_bytes.result.now =
    whole (path_text c.args.path.now) c.as_bytes.result.now c.in-Some.rest.now c.in-Some.ensures
    in
    c.is_empty.ensures ∙ subst (λ (t : List ℕ). nat_eq (length c.in-Some.rest.now) 0 ≡ bytes_eq (path_text c.args.path.now) t) c.as_bytes.ensures.value all

pub returns-in-None : goal.returns-in-None
returns-in-None c =
    subst (λ (t : List ℕ). false ≡ bytes_eq (path_text c.args.path.now) t) c.as_bytes.ensures.value (not_whole (path_text c.args.path.now) c.as_bytes.result.now c.in-None.ensures)
