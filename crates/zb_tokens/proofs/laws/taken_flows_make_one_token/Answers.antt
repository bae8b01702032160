use Rattle.zb_tokens.proofs.GameLaws.{take_makes_one}
use Rattle.zb_tokens.proofs.laws.taken_flows_make_one_token.Goals as goal

pub returns : goal.returns
returns c = take_makes_one
