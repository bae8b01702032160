use Rattle.zb_tokens.proofs.CatcherLaws.{catchers_are_there, code_first}
use Rattle.zb_tokens.proofs.laws.errors_are_caught_by_their_code.Goals as goal

pub returns-clause-there : goal.returns-clause-there
returns-clause-there c = catchers_are_there

pub returns-clause-code : goal.returns-clause-code
returns-clause-code c = code_first
