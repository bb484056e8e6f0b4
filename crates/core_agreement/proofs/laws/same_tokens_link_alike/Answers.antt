use Rattle.core_agreement.proofs.Tokens.{same_tokens_link_alike}
use Rattle.core_agreement.proofs.laws.same_tokens_link_alike.Goals as goal

pub returns : goal.returns
returns c = same_tokens_link_alike
