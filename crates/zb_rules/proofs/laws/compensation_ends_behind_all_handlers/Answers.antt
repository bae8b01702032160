use Rattle.zb_rules.proofs.UndoneLaws.{compensation_is_over, compensation_completes, compensation_goes_on}
use Rattle.zb_rules.proofs.laws.compensation_ends_behind_all_handlers.Goals as goal

pub returns-clause-all : goal.returns-clause-all
returns-clause-all c = λ p es b event cell scope m apply is found stands does around. compensation_is_over p es b event cell scope m apply is found stands does around

pub returns-clause-then : goal.returns-clause-then
returns-clause-then c = λ p es b event cell scope m apply is found stands does active around. compensation_completes p es b event cell scope m apply is found stands does around active

pub returns-clause-next : goal.returns-clause-next
returns-clause-next c = λ p es b event cell scope m apply keys is found stands does active around. compensation_goes_on p es b event cell scope m apply is found stands does around keys active
