use Rattle.std.proofs.lemmas.List.Elements.{All-from_recursion}
use Rattle.zb_model.specs.declared.record.Event.{Event}
use Rattle.zb_views.specs.View.{events_in}
use Rattle.std.proofs.Common.{IsTrue}
use Rattle.zb_rules.proofs.KindsLaws.{step_kind, kinds_of_steps, closings_of_steps}
use Rattle.zb_rules.proofs.laws.steps_have_listed_kinds.Goals as goal

pub returns-clause-closings : goal.returns-clause-closings
returns-clause-closings c = closings_of_steps

pub returns-clause-kinds : goal.returns-clause-kinds
returns-clause-kinds c = λ p n moment es command outcome is. All-from_recursion (λ (e : Event). IsTrue (step_kind command e)) (events_in outcome) (kinds_of_steps p n moment es command outcome is)
