-- The laws of the tables of commands and events: what is read is spelled so, and what is spelled so is read. Their layouts hold them, so they stand beside the definitions.
use Rattle.std.proofs.Common.{◌≡◌, ℕ, Some, List, ◌++◌, refl}
use Rattle.zb_format.specs.Kinds.{Kinds, AreReadBack, told_of_kind}
use Rattle.zb_format.specs.KindsLaws.{again}
use Rattle.zb_format.specs.Reading.{made_at, tagged_at}
use Rattle.zb_model.specs.declared.record.Command.TheVariants as commands
use Rattle.zb_model.specs.declared.record.Event.TheVariants as events
use Rattle.zb_model.specs.Commands.{commands_from_1, commands_from_14, command_told}
use Rattle.zb_model.specs.Events.{events_from_1, events_from_17, events_from_33, event_told}
use Rattle.zb_model.specs.ToldRecords.{ToldRecord}

-- a record is read back, where the kinds make such ones behind its number
record_again : {B : Type 0} (kinds : Kinds B) (t : ToldRecord B) → ((bytes : List ℕ) → kinds.behind t.number bytes ≡ made_at t.make t.layout.reading bytes) → (rest : List ℕ) → (told_of_kind t.number t.layout t.fields).fit → tagged_at kinds.behind ((told_of_kind t.number t.layout t.fields).spelled ++ rest) ≡ Some (t.make t.fields, rest)
record_again kinds t found rest fits = again kinds t.number t.make t.layout t.fields rest found fits

-- each command is spelled as its line of the table says
pub command_spelled : commands_from_1.AreOf (λ c. (command_told c).value.spelled) (λ c. (command_told c).value.fit)
unfolding commands_from_1 commands_from_14
command_spelled = search depth 200

-- each command is read back
pub command_back : AreReadBack commands_from_1 (λ c. (command_told c).value)
unfolding commands_from_1 commands_from_14
command_back (commands.DeploymentCreate m) rest h = record_again commands_from_1 (command_told (commands.DeploymentCreate m)) (λ bytes. refl) rest h
command_back c rest h = record_again commands_from_1 (command_told c) (λ bytes. refl) rest h

-- each event is spelled as its line of the table says
pub event_spelled : events_from_1.AreOf (λ e. (event_told e).value.spelled) (λ e. (event_told e).value.fit)
unfolding events_from_1 events_from_17 events_from_33
event_spelled = search depth 200

-- each event is read back
pub event_back : AreReadBack events_from_1 (λ e. (event_told e).value)
unfolding events_from_1 events_from_17 events_from_33
event_back (events.ProcessCreated r) rest h = record_again events_from_1 (event_told (events.ProcessCreated r)) (λ bytes. refl) rest h
event_back e rest h = record_again events_from_1 (event_told e) (λ bytes. refl) rest h
