use Rattle.zb_rules.proofs.ProgressLaws.{turn_ends_incident, cancel_ends_incident}
use Rattle.zb_rules.proofs.laws.ended_cells_have_no_incident.Goals as goal

pub returns-clause-turn : goal.returns-clause-turn
returns-clause-turn c = λ p moment es cell rest after apply. turn_ends_incident p moment es cell apply rest after

pub returns-clause-cancel : goal.returns-clause-cancel
returns-clause-cancel c = λ p moment es root after apply. cancel_ends_incident p moment es root apply after
