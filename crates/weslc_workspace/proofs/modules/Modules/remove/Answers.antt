use Rattle.std.proofs.Common.{arith, ◌≡◌, sym, ap, ◌∙◌, subst, List, ℕ, Bool, None}
use Rattle.std.specs.Prelude.{string_bytes}
use Rattle.std.specs.Option.{is_some}
use Rattle.std.specs.Str.{bytes_eq}
use Rattle.std.specs.HashMap.{get_by_text}
use Rattle.std.specs.declared.string.String.{String}
use Rattle.std.specs.declared.alloc.Global.{Global}
use Rattle.wgsl_base.proofs.Members.{same_bytes as same_text}
use Rattle.wgsl_path.specs.Paths.{path_text}
use Rattle.weslc_workspace.proofs.Maps.{ChangesAt, found, dropped, none_set, not_parsed, told_when_set}
use Rattle.weslc_workspace.proofs.Places.{absent, passes, stands, some_found}
use Rattle.weslc_workspace.proofs.modules.Modules.remove.Goals as goal

abbrev is_at : List ℕ → String Global → Bool
is_at p key = bytes_eq p (string_bytes key)

pub returns-in_err-place-clause-found : goal.returns-in_err-place-clause-found
returns-in_err-place-clause-found c =
    let gone : c.from_residual.result ≡ None = grind arith in
    let none : get_by_text c.args.self.now.texts (path_text c.args.path.now) ≡ None = absent (is_at (path_text c.args.path.now)) c.args.self.now.texts.entries (sym c.in_err-place.ensures) in
    ap is_some gone ∙ sym (ap is_some none)

pub returns-in_err-place-clause-set : goal.returns-in_err-place-clause-set
returns-in_err-place-clause-set c =
    let none : get_by_text c.args.self.now.texts (path_text c.args.path.now) ≡ None = absent (is_at (path_text c.args.path.now)) c.args.self.now.texts.entries (sym c.in_err-place.ensures) in
    none_set (path_text c.args.path.now) c.args.self.now.texts none

pub returns-in_err-place-clause-unparsed : goal.returns-in_err-place-clause-unparsed
returns-in_err-place-clause-unparsed c = λ q.
    (let none : get_by_text c.args.self.now.texts (path_text c.args.path.now) ≡ None = absent (is_at (path_text c.args.path.now)) c.args.self.now.texts.entries (sym c.in_err-place.ensures) in
    let new : get_by_text c.args.self.now.parsed (path_text c.args.path.now) ≡ None = not_parsed c.args.self.now.texts c.args.self.now.parsed (path_text c.args.path.now) c.args.self.now.told none in
    dropped (path_text c.args.path.now) c.args.self.now.parsed c.args.self.now.parsed q (none_set (path_text c.args.path.now) c.args.self.now.parsed new q))

pub returns-in_err-key-clause-found : goal.returns-in_err-key-clause-found
returns-in_err-key-clause-found c =
    absurd (stands (is_at (path_text c.args.path.now)) c.args.self.now.texts.entries c.in_ok-place.place (sym c.in_ok-place.ensures) (sym c.in_err-key.ensures.entry))

pub returns-in_err-key-clause-set : goal.returns-in_err-key-clause-set
returns-in_err-key-clause-set c =
    absurd (stands (is_at (path_text c.args.path.now)) c.args.self.now.texts.entries c.in_ok-place.place (sym c.in_ok-place.ensures) (sym c.in_err-key.ensures.entry))

pub returns-in_err-key-clause-unparsed : goal.returns-in_err-key-clause-unparsed
returns-in_err-key-clause-unparsed c =
    absurd (stands (is_at (path_text c.args.path.now)) c.args.self.now.texts.entries c.in_ok-place.place (sym c.in_ok-place.ensures) (sym c.in_err-key.ensures.entry))

pub returns-clause-path : goal.returns-clause-path
returns-clause-path c =
    sym (same_text (path_text c.args.path.now) (string_bytes c.in_ok-key.key)
    (passes (is_at (path_text c.args.path.now)) c.args.self.now.texts.entries c.in_ok-place.place (c.in_ok-key.key, c.in_ok-key.text) (sym c.in_ok-place.ensures) (sym c.in_ok-key.ensures.entry)))

pub returns-clause-found : goal.returns-clause-found
returns-clause-found c =
    sym (some_found (is_at (path_text c.args.path.now)) c.args.self.now.texts.entries c.in_ok-place.place (c.in_ok-key.key, c.in_ok-key.text) (sym c.in_ok-key.ensures.entry)
    (passes (is_at (path_text c.args.path.now)) c.args.self.now.texts.entries c.in_ok-place.place (c.in_ok-key.key, c.in_ok-key.text) (sym c.in_ok-place.ensures) (sym c.in_ok-key.ensures.entry)))

pub returns-clause-set : goal.returns-clause-set
returns-clause-set c =
    let printed : string_bytes c.in_ok-key.key ≡ path_text c.args.path.now =
    sym (same_text (path_text c.args.path.now) (string_bytes c.in_ok-key.key)
    (passes (is_at (path_text c.args.path.now)) c.args.self.now.texts.entries c.in_ok-place.place (c.in_ok-key.key, c.in_ok-key.text) (sym c.in_ok-place.ensures) (sym c.in_ok-key.ensures.entry)))
    in
    let changed : ChangesAt (path_text c.args.path.now) c.args.self.now.texts c.swap_remove_index.new.self None =
    subst (λ (p : List ℕ). ChangesAt p c.args.self.now.texts c.swap_remove_index.new.self None) printed c.in_ok-key.ensures.updates
    in
    found (path_text c.args.path.now) c.args.self.now.texts c.swap_remove_index.new.self None changed

pub returns-clause-unparsed : goal.returns-clause-unparsed
returns-clause-unparsed c = λ q.
    (let printed : string_bytes c.in_ok-key.key ≡ path_text c.args.path.now =
    sym (same_text (path_text c.args.path.now) (string_bytes c.in_ok-key.key)
    (passes (is_at (path_text c.args.path.now)) c.args.self.now.texts.entries c.in_ok-place.place (c.in_ok-key.key, c.in_ok-key.text) (sym c.in_ok-place.ensures) (sym c.in_ok-key.ensures.entry)))
    in
    let left : ChangesAt (path_text c.args.path.now) c.args.self.now.parsed c.swap_remove.new.self None =
    subst (λ (p : List ℕ). ChangesAt p c.args.self.now.parsed c.swap_remove.new.self None) (c.as_str.ensures.value ∙ printed) c.swap_remove.ensures.updates
    in
    dropped (path_text c.args.path.now) c.args.self.now.parsed c.swap_remove.new.self q (found (path_text c.args.path.now) c.args.self.now.parsed c.swap_remove.new.self None left q))

pub invariant_of-self-2 : goal.invariant_of-self-2
invariant_of-self-2 c =
    let printed : string_bytes c.in_ok-key.key ≡ path_text c.args.path.now =
    sym (same_text (path_text c.args.path.now) (string_bytes c.in_ok-key.key)
    (passes (is_at (path_text c.args.path.now)) c.args.self.now.texts.entries c.in_ok-place.place (c.in_ok-key.key, c.in_ok-key.text) (sym c.in_ok-place.ensures) (sym c.in_ok-key.ensures.entry)))
    in
    let changed : ChangesAt (path_text c.args.path.now) c.args.self.now.texts c.swap_remove_index.new.self None =
    subst (λ (p : List ℕ). ChangesAt p c.args.self.now.texts c.swap_remove_index.new.self None) printed c.in_ok-key.ensures.updates
    in
    let left : ChangesAt (path_text c.args.path.now) c.args.self.now.parsed c.swap_remove.new.self None =
    subst (λ (p : List ℕ). ChangesAt p c.args.self.now.parsed c.swap_remove.new.self None) (c.as_str.ensures.value ∙ printed) c.swap_remove.ensures.updates
    in
    record {
      told = told_when_set (path_text c.args.path.now) c.args.self.now.texts c.swap_remove_index.new.self c.args.self.now.parsed c.swap_remove.new.self None changed left c.args.self.now.told;
    }
