-- Laws of the replies to requests.
use Rattle.std.specs.Prelude.{◌≡◌, List, ◌∷◌, [], Option, Some, None, refl}
use Rattle.std.specs.Option.{option_or}
use Rattle.std.proofs.Common.{subst}
use Rattle.zb_model.specs.declared.record.Batch.{Batch}
use Rattle.zb_model.specs.declared.record.Command.{Command}
use Rattle.zb_model.specs.declared.record.Command.TheVariants as commands
use Rattle.zb_model.specs.declared.record.Event.{Event}
use Rattle.zb_model.specs.declared.record.Event.TheVariants as events
use Rattle.zb_model.specs.declared.record.Outcome.{Outcome}
use Rattle.zb_model.specs.declared.record.Outcome.TheVariants as outcomes
use Rattle.zb_model.specs.declared.record.Rejection.{Rejection}
use Rattle.zb_wire.specs.First.{first_told}
use Rattle.zb_reply.specs.Reply.{deploy_answer, create_answer, publish_answer, accepted_answer, answer_to, answer_of, IsSpoken}
use Rattle.zb_reply.specs.declared.reply.Reply.{Reply}
use Rattle.zb_reply.specs.declared.reply.Reply.TheVariants as replies

-- a command that was accepted is answered with what it and its events tell
pub answer_of-accepted : (command : Command) (es : List Event) (batch : Batch) → batch.command ≡ command → batch.outcome ≡ outcomes.Accepted es → answer_of batch ≡ accepted_answer command es
unfolding answer_of
answer_of-accepted command es batch asked became = rw (asked, became) refl

-- a command that was rejected is answered with that rejection
pub answer_of-rejected : (r : Rejection) (batch : Batch) → batch.outcome ≡ outcomes.Rejected r → answer_of batch ≡ Some (replies.Rejected r)
unfolding answer_of
answer_of-rejected r batch became = rw became refl

-- what is told has a line, if something is told
abbrev Speaks : Option Reply → Type 0
Speaks None = Unit {0}
Speaks (Some reply) = IsSpoken reply

first_speaks_by : (o rest : Option Reply) → Speaks o → Speaks rest → Speaks (option_or o rest)
first_speaks_by None rest speaks others = others
first_speaks_by (Some r) rest speaks others = speaks

-- where what each event tells has a line, the first of it has one
first_speaks : (tell : Event → Option Reply) (es : List Event) → ((e : Event) → Speaks (tell e)) → Speaks (first_told tell es)
first_speaks tell [] speaks = tt
first_speaks tell (e ∷ es) speaks = first_speaks_by (tell e) (first_told tell es) (speaks e) (first_speaks tell es speaks)

deploy_answer-speaks : (e : Event) → Speaks (deploy_answer e)
deploy_answer-speaks (events.ProcessCreated e) = tt
deploy_answer-speaks _ = tt

create_answer-speaks : (e : Event) → Speaks (create_answer e)
create_answer-speaks (events.ProcessInstanceCreationCreated e) = tt
create_answer-speaks _ = tt

publish_answer-speaks : (e : Event) → Speaks (publish_answer e)
publish_answer-speaks (events.MessagePublished e) = tt
publish_answer-speaks _ = tt

accepted_answer-speaks : (command : Command) (es : List Event) → Speaks (accepted_answer command es)
accepted_answer-speaks (commands.DeploymentCreate m) es = first_speaks deploy_answer es deploy_answer-speaks
accepted_answer-speaks (commands.ProcessInstanceCreationCreate c) es = first_speaks create_answer es create_answer-speaks
accepted_answer-speaks (commands.MessagePublish m) es = first_speaks publish_answer es publish_answer-speaks
accepted_answer-speaks _ es = tt

answer_to-speaks : (command : Command) (outcome : Outcome) → Speaks (answer_to command outcome)
answer_to-speaks command (outcomes.Accepted es) = accepted_answer-speaks command es
answer_to-speaks command (outcomes.Rejected r) = tt

-- what a batch is answered with has a line
pub answer_of-spoken : (batch : Batch) (reply : Reply) → answer_of batch ≡ Some reply → IsSpoken reply
unfolding answer_of
answer_of-spoken batch reply is = subst Speaks is (answer_to-speaks batch.command batch.outcome)
