use Rattle.std.proofs.Common.{arith, ◌≡◌, sym, subst, ◌<◌, ◌++◌, ℕ, List, Option, None, length, codes}
use denote.Ref.{Bor}
use Rattle.wgsl_path.specs.Paths.{origin_text, components_text, path_text}
use Rattle.weslc_workspace.specs.Behind.{IsBehind}
use Rattle.weslc_workspace.proofs.Fronts.{no_component}
use Rattle.weslc_workspace.proofs.printed.behind_path.Goals as goal

pub returns-in_err-rest-2 : goal.returns-in_err-rest-2
returns-in_err-rest-2 c =
    let gone : c.from_residual-in_err-rest-2.result ≡ None = grind arith in
    let components = c.as_slice-component-items.result.now in
    let component = c.component-item.result in
    let within : c.loop-component.component-index < length components = omega arith in
    let none : (more : List ℕ) → ¬ (c.loop-component.rest.now ≡ (codes "::" ++ component) ++ more) =
    subst (λ (name : List ℕ). (more : List ℕ) → ¬ (c.loop-component.rest.now ≡ (codes "::" ++ name) ++ more)) c.as_str.ensures c.in_err-rest-2.ensures
    in
    let missing : (more : List ℕ) → ¬ (c.args.text.now ≡ (origin_text c.args.path.now.origin ++ components_text components) ++ more) =
    no_component (origin_text c.args.path.now.origin) components c.loop-component.component-index component within c.component-item.is c.args.text.now c.loop-component.rest.now
    c.loop-component.invariant none
    in
    subst (λ (answer : Option (Bor (List ℕ))). IsBehind (path_text c.args.path.now) c.args.text.now answer) (sym gone)
    (subst (λ (names : List (List ℕ)). (more : List ℕ) → ¬ (c.args.text.now ≡ (origin_text c.args.path.now.origin ++ components_text names) ++ more)) c.as_slice-component-items.ensures missing)
