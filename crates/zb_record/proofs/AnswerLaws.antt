-- What is kept is no answer, and what a batch sends beside that is one.
use Rattle.std.proofs.Common.{◌≡◌, ℕ, List, [], ◌++◌, filter, not, Bool, true, false, if◌then◌else◌, Option, Some, None, option_map, option_and_then, refl, ◌∙◌, append-nil}
use Rattle.std.specs.Str.{bytes_eq}
use Rattle.std.proofs.lemmas.List.Elements.{filter-append}
use Rattle.zb_instance_records.specs.declared.deployment.ProcessDefinition.{ProcessDefinition}
use Rattle.zb_exchange_records.specs.declared.subscription.MessageCorrelation.{MessageCorrelation}
use Rattle.zb_model.specs.declared.record.Batch.{Batch}
use Rattle.zb_model.specs.declared.record.Command.{Command}
use Rattle.zb_model.specs.declared.record.Command.TheVariants as commands
use Rattle.zb_model.specs.declared.record.Event.{Event}
use Rattle.zb_model.specs.declared.record.Outcome.{Outcome}
use Rattle.zb_model.specs.declared.record.Outcome.TheVariants as outcomes
use Rattle.zb_model.specs.declared.record.Packet.{Packet}
use Rattle.zb_views.specs.View.{events_in}
use Rattle.zb_views.specs.Standing.{left_by, begun_by}
use Rattle.zb_views.specs.Processes.{process_in}
use Rattle.zb_views.proofs.StandingLaws.{standing_keeps, left_all}
use Rattle.zb_record.specs.declared.sending.Sending.{Sending}
use Rattle.zb_record.specs.declared.sending.Sending.TheVariants as sending
use Rattle.zb_record.specs.Sendings.{sending_told}
use Rattle.zb_record.specs.Answers.{was_correlated, is_turned_away, verdict, answering_packet, answer_by, answer_packet, is_answer}
use Rattle.zb_record.specs.Packets.{packet_with, packet_for, packet_sort, kept_by, sent_by}
use Rattle.zb_record.proofs.KeptLaws.{sent_behind}

-- a packet that is no answer
abbrev pub is_kept : Packet → Bool
is_kept packet = not (is_answer packet.command)

module _ (p n : ℕ) where
  -- of what is sent by itself nothing is an answer
  of_sending : (before : List Event) (s : Option Sending) → filter is_kept (begun_by (option_and_then (packet_for p n before) s)) ≡ begun_by (option_and_then (packet_for p n before) s)
  of_sending before None = refl
  of_sending before (Some (sending.Definition d)) = by_process (process_in d.definition before)
    where
      by_process : (made : Option ProcessDefinition) → filter is_kept (begun_by (option_map (λ process. packet_with p n d process.version process.model) made)) ≡ begun_by (option_map (λ process. packet_with p n d process.version process.model) made)
      by_process None = refl
      by_process (Some process) = refl
  of_sending before (Some (sending.Opening s)) = refl
  of_sending before (Some (sending.Correlating c)) = refl
  of_sending before (Some (sending.Closing s)) = refl

  -- so nothing is that is kept
  none_answers : (es : List Event) → filter is_kept (kept_by p n es) ≡ kept_by p n es
  none_answers es = standing_keeps (packet_sort p n) (λ before packets. filter is_kept packets ≡ packets) refl step es
    where
      step : (before : List Event) (e : Event) (packets : List Packet) → filter is_kept packets ≡ packets → filter is_kept (left_by (packet_sort p n) before e packets ++ begun_by (sent_behind p n before e)) ≡ left_by (packet_sort p n) before e packets ++ begun_by (sent_behind p n before e)
      step before e packets is =
          rw (left_all (packet_sort p n) before e packets (λ x. refl) (λ x. refl))
          (filter-append is_kept packets (begun_by (sent_behind p n before e)) ∙ rw (is, of_sending before (sending_told e)) refl)

  -- what is said of a message is an answer
  of_verdict : (key : ℕ) (c : MessageCorrelation) (outcome : Outcome) → filter is_kept (begun_by (option_map (answering_packet p n key) (verdict c outcome))) ≡ []
  of_verdict key c (outcomes.Accepted es) = refl
  of_verdict key c (outcomes.Rejected r) = by_tests (bytes_eq r.reason (was_correlated c.message)) (is_turned_away c r)
    where
      by_tests : (t u : Bool) → filter is_kept (begun_by (option_map (answering_packet p n key) (if t then Some (commands.MessageSubscriptionCorrelate (record { subscription = c.subscription; message = c.message })) else if u then Some (commands.MessageSubscriptionReject (record { subscription = c.subscription; message = c.message })) else None))) ≡ []
      by_tests true u = refl
      by_tests false true = refl
      by_tests false false = refl

  -- and so is each answer
  all_answer : (command : Command) (outcome : Outcome) → filter is_kept (begun_by (answer_by p n command outcome)) ≡ []
  all_answer (commands.DeploymentDistribute c) outcome = refl
  all_answer (commands.MessageSubscriptionCreate c) outcome = refl
  all_answer (commands.MessageSubscriptionDelete c) outcome = refl
  all_answer (commands.ProcessMessageSubscriptionCorrelate c) outcome = of_verdict c.message c outcome
  all_answer _ outcome = refl

  -- what a batch sends and is no answer is what is kept
  pub all_kept : (batch : Batch) → filter is_kept (sent_by p n batch) ≡ kept_by p n (events_in batch.outcome)
  all_kept batch =
      let kept : List Packet = kept_by p n (events_in batch.outcome) in
      filter-append is_kept kept (begun_by (answer_packet p n batch))
      ∙ rw (none_answers (events_in batch.outcome), all_answer batch.command batch.outcome) (append-nil kept)
