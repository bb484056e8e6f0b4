use Rattle.std.proofs.Common.{subst, List, ℕ}
use Rattle.std.proofs.lemmas.Bool.Decides.{Decides-eqb}
use Rattle.std.proofs.lemmas.Slice.Eq.{strip_prefix_is}
use Rattle.weslc_workspace.specs.Behind.{IsBehind}
use Rattle.weslc_workspace.proofs.printed.behind.Goals as goal

pub returns : goal.returns
returns c =
    subst (λ (front : List ℕ). IsBehind front c.args.text.now c.strip_prefix.result) c.as_bytes.ensures.value
    (strip_prefix_is Decides-eqb c.args.text.now c.as_bytes.result.now c.strip_prefix.result c.strip_prefix.ensures.cases)
