use Rattle.zb_world.proofs.EntryLaws.{part_of_joined, places_of_joined, places_of_count}
use Rattle.zb_world.proofs.HistoryLaws.{parts_are_steps}
use Rattle.zb_world.proofs.laws.parts_are_logs_of_steps.Goals as goal

pub returns-clause-steps : goal.returns-clause-steps
returns-clause-steps c = parts_are_steps

pub returns-clause-joined : goal.returns-clause-joined
returns-clause-joined c = part_of_joined

pub returns-clause-places : goal.returns-clause-places
returns-clause-places c = places_of_joined

pub returns-clause-count : goal.returns-clause-count
returns-clause-count c = places_of_count
