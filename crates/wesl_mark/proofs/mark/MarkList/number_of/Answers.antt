-- A number is that of the first name that reads so; no other number is.
use Rattle.std.proofs.Common.{rules, arith, ◌≡◌, ap, ◌∙◌, false, Option, Some, None}
use Rattle.std.specs.Prelude.{IfNone, string_bytes}
use Rattle.std.specs.List.{list_any, position}
use Rattle.std.specs.Str.{bytes_eq}
use Rattle.wesl_mark.specs.Marks.{name_at}
use Rattle.wesl_mark.proofs.Interned.{first_named, never_named}
use Rattle.wesl_mark.proofs.mark.MarkList.number_of.Goals as goal

if_none : {A : Type 0} (r : Option A) (P : Type 0) → P → IfNone r P
if_none None P h = h
if_none (Some x) P h = tt

pub returns-in_err-at-clause-missing : goal.returns-in_err-at-clause-missing
returns-in_err-at-clause-missing c =
    let none : list_any (λ s. bytes_eq c.args.name.now (string_bytes s)) c.args.self.now.names.keys ≡ false = search rules in
    if_none c.from_residual.result _ (λ number small. never_named c.args.self.now.names.keys c.args.name.now none number)

pub returns-in-Ok-clause-found : goal.returns-in-Ok-clause-found
returns-in-Ok-clause-found c =
    let found : position (λ s. bytes_eq c.args.name.now (string_bytes s)) c.args.self.now.names.keys ≡ Some c.in_ok-at.at = search rules in
    let same : c.in-Ok.number ≡ c.in_ok-at.at = search rules in
    ap (name_at c.args.self.now.names.keys) same ∙ first_named c.args.self.now.names.keys c.args.name.now c.in_ok-at.at found

pub returns-in-Err-clause-missing : goal.returns-in-Err-clause-missing
returns-in-Err-clause-missing c number small h =
    let found : position (λ s. bytes_eq c.args.name.now (string_bytes s)) c.args.self.now.names.keys ≡ Some c.in_ok-at.at = search rules in
    let same = c.args.self.now.apart number c.in_ok-at.at c.args.name.now h (first_named c.args.self.now.names.keys c.args.name.now c.in_ok-at.at found) in
    omega (arith, small, same)
