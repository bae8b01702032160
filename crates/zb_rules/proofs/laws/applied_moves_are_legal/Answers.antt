use Rattle.zb_rules.proofs.LegalLaws.{made_legally}
use Rattle.zb_rules.proofs.laws.applied_moves_are_legal.Goals as goal

pub returns : goal.returns
returns c = made_legally
