-- What requests are answered.
use Rattle.std.proofs.Common.{◌≡◌, ℕ, List, [], ◌++◌, IsSome, IsTrue, Option, Some, None, is_some, refl, sym, subst}
use Rattle.std.specs.Option.{option_map_or}
use Rattle.zb_instance_records.specs.declared.instance.ProcessInstanceCreationCreate.{ProcessInstanceCreationCreate}
use Rattle.zb_model.specs.declared.record.Event.{Event}
use Rattle.zb_model.specs.declared.record.Batch.{Batch}
use Rattle.zb_model.specs.declared.record.Command.{Command}
use Rattle.zb_model.specs.declared.record.Command.TheVariants as commands
use Rattle.zb_model.specs.declared.record.Rejection.{Rejection}
use Rattle.zb_views.specs.View.{events_of, next_key}
use Rattle.zb_rules.specs.Own.{IsSupported, own_events}
use Rattle.zb_rules.specs.Publish.{published}
use Rattle.zb_rules.specs.Deploy.{deployed}
use Rattle.zb_rules.specs.Create.{reason_by, instance_under}
use Rattle.zb_rules.specs.Reason.{reason_for}
use Rattle.zb_views.specs.Definitions.{definition_for}
use Rattle.zb_views.specs.declared.definition.Definition.{Definition}
use Rattle.zb_rules.specs.Step.{IsAcceptance, IsOutcomeBy, IsStep}
use Rattle.zb_wire.specs.Asked.{command_of}
use Rattle.zb_wire.specs.First.{first_told}
use Rattle.zb_wire.specs.declared.request.Request.{Request}
use Rattle.zb_wire.specs.declared.request.Request.TheVariants as requests
use Rattle.zb_reply.specs.Reply.{deploy_answer, create_answer, publish_answer, accepted_answer, answer_of}
use Rattle.zb_reply.proofs.ReplyLaws.{answer_of-accepted, answer_of-rejected}
use Rattle.zb_reply.specs.declared.reply.Reply.{Reply}

-- what holds of a command holds of the one that is asked for, where that is the same
asked_has : (P : Command → Type 0) (a command : Command) → P a → ◌≡◌ {A = Option Command} (Some a) (Some command) → P command
asked_has P a command has is =
    let same : a ≡ command = cc in
    subst P same has

-- what a client's request asks for is run
pub asked_run : (request : Request) (command : Command) → command_of request ≡ Some command → IsSupported command
asked_run requests.Tick command is = absurd (cc)
asked_run (requests.Advance ms) command is = absurd (cc)
asked_run requests.Settle command is = absurd (cc)
asked_run request command is = asked_has IsSupported _ command tt is

-- where one of these events tells a reply, one of the own events does, which are the same
own_tells : (tell : Event → Option Reply) (made own rest : List Event) → IsSome (first_told tell (made ++ rest)) → ◌≡◌ {A = Option (List Event)} (Some made) (Some own) → IsSome (first_told tell (own ++ rest))
own_tells tell made own rest told is =
    let same : made ≡ own = cc in
    subst (λ (es : List Event). IsSome (first_told tell (es ++ rest))) same told

-- where there is no reason against an instance its definition is there
definition_there : (latest asked : Option Definition) (c : ProcessInstanceCreationCreate) (before : List Event) → reason_by latest asked c before ≡ None → IsTrue (is_some asked)
definition_there None asked c before none = absurd (cc)
definition_there (Some latest) None c before none = absurd (cc)
definition_there (Some latest) (Some asked) c before none = refl

-- the own events of an instance, of the definition that was found
created_tells : (key : ℕ) (c : ProcessInstanceCreationCreate) (found : Option Definition) (own rest : List Event) → IsTrue (is_some found) → ◌≡◌ {A = Option (List Event)} (Some (option_map_or (λ d. instance_under key d.key c) found [])) (Some own) → IsSome (first_told create_answer (own ++ rest))
created_tells key c None own rest there is = absurd (cc)
created_tells key c (Some d) own rest there is = own_tells create_answer (instance_under key d.key c) own rest refl is

-- a client's command that is accepted is answered: by its own events, or by the key that it names
module _ (p n moment : ℕ) (before own rest : List Event) where
  abbrev Tells : Command → Type 0
  Tells command = reason_for before moment command ≡ None → own_events p n before moment command ≡ Some own → IsSome (accepted_answer command (own ++ rest))

  asked_tells : (request : Request) (command : Command) → command_of request ≡ Some command → Tells command
  asked_tells (requests.Deploy m) command asked =
      asked_has Tells (commands.DeploymentCreate m) command (λ none. own_tells deploy_answer (deployed p n m before) own rest refl) asked
  asked_tells (requests.Create partition c) command asked =
      asked_has Tells (commands.ProcessInstanceCreationCreate c) command (λ none. created_tells (next_key p before) c (definition_for c.process c.version before) own rest (definition_there (definition_for c.process 0 before) (definition_for c.process c.version before) c before none)) asked
  asked_tells (requests.Publish c) command asked =
      asked_has Tells (commands.MessagePublish c) command (λ none. own_tells publish_answer (published p moment c before) own rest refl) asked
  asked_tells requests.Tick command asked = absurd (cc)
  asked_tells (requests.Advance ms) command asked = absurd (cc)
  asked_tells requests.Settle command asked = absurd (cc)
  asked_tells request command asked = asked_has Tells _ command (λ none is. refl) asked

-- what a command led to has a reply, if it has one where the command was accepted
by_outcome : (p n : ℕ) (before : List Event) (batch : Batch) (reason : Option Rejection)
    → (reason ≡ None → (own rest : List Event) → own_events p n before batch.moment batch.command ≡ Some own → IsSome (accepted_answer batch.command (own ++ rest)))
    → IsOutcomeBy reason batch.outcome (IsAcceptance p n batch.moment before batch.command batch.outcome) → IsSome (answer_of batch)
by_outcome p n before batch (Some rejection) tells is = rw (answer_of-rejected rejection batch is) refl
by_outcome p n before batch None tells is =
    subst (λ (answer : Option Reply). IsSome answer) (sym (answer_of-accepted batch.command (is.own ++ is.rest) batch refl is.accepted)) (tells refl is.own is.rest is.are_own)

-- a batch of a client's command that is a step has a reply
pub step_answered : (p n : ℕ) (log : List Batch) (batch : Batch) (request : Request) → command_of request ≡ Some batch.command → IsStep p n log batch → IsSome (answer_of batch)
step_answered p n log batch request asked step =
    by_outcome p n (events_of log) batch (reason_for (events_of log) batch.moment batch.command) (λ none own rest. asked_tells p n batch.moment (events_of log) own rest request batch.command asked none) step.outcome
