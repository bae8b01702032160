-- Laws of the next unit of work: what holds where the engine goes on, for each answer and for each packet that is sent again, holds of it.
use Rattle.std.proofs.Common.{◌≡◌, ◌<◌, ◌≤◌, ◌+◌, ℕ, zero, suc, List, [], ◌∷◌, ◌++◌, length, drop, slice_get, map, Bool, true, false, Option, Some, None, option_map, if◌then◌else◌, refl, sym, subst, arith}
use Rattle.std.specs.Option.{option_or}
use Rattle.std.specs.List.{filter_map, cons_option, AllByRecursion}
use Rattle.std.specs.Str.{bytes_eq}
use Rattle.zb_process.specs.declared.model.Model.{Model}
use Rattle.zb_model.specs.declared.record.Batch.{Batch}
use Rattle.zb_model.specs.declared.record.Command.{Command}
use Rattle.zb_model.specs.declared.record.Command.TheVariants as commands
use Rattle.zb_exchange_records.specs.declared.subscription.MessageCorrelation.{MessageCorrelation}
use Rattle.zb_model.specs.declared.record.Event.{Event}
use Rattle.zb_model.specs.declared.record.Outcome.{Outcome}
use Rattle.zb_model.specs.declared.record.Outcome.TheVariants as outcomes
use Rattle.zb_model.specs.declared.record.Packet.{Packet}
use Rattle.zb_instance_records.specs.declared.deployment.ProcessDefinition.{ProcessDefinition}
use Rattle.zb_views.specs.View.{events_of}
use Rattle.zb_views.specs.Standing.{begun_by}
use Rattle.zb_views.specs.declared.distribution.Distribution.{Distribution}
use Rattle.zb_views.specs.Processes.{process_in}
use Rattle.zb_record.specs.declared.sending.Sending.{Sending}
use Rattle.zb_record.specs.declared.sending.Sending.TheVariants as sending
use Rattle.zb_record.specs.Partitions.{partition_of_key}
use Rattle.zb_record.specs.Sendings.{sendings}
use Rattle.zb_record.specs.Answers.{was_correlated, is_turned_away, verdict, answering_packet, answer_by, answer_packet, is_answer}
use Rattle.zb_record.specs.Packets.{packet_with, packet_alone, packet_for, outbox_of, first_packet, delivery_of}
use Rattle.zb_rules.specs.Continue.{is_quiet}
use Rattle.zb_rules.proofs.KindsLaws.{all_joined}
use Rattle.zb_world.specs.declared.entry.Entry.{Entry}
use Rattle.zb_desk.specs.Serial.{log_behind, going_on, answers_sent, answers_in_hand, first_sent, packet_next, unit_in_logs}

module _ (Q : ℕ × Command → Type 0) where
  -- what is found has it, if something is
  abbrev pub AnyHas : Option (ℕ × Command) → Type 0
  AnyHas found = (next : ℕ × Command) → found ≡ Some next → Q next

  -- each of some packets has it
  abbrev pub AllHave : List Packet → Type 0
  AllHave packets = AllByRecursion (λ packet. Q (delivery_of packet)) packets

  some_has : (x : ℕ × Command) → Q x → AnyHas (Some x)
  some_has x has next is = let same : x ≡ next = cc in subst Q same has

  none_has : AnyHas None
  none_has next is = absurd (cc)

  -- of two, where each has it, the one that is found has it
  pub either_has : (a b : Option (ℕ × Command)) → AnyHas a → AnyHas b → AnyHas (option_or a b)
  either_has None b first second = second
  either_has (Some x) b first second = first

  -- the engine goes on at one of its partitions
  pub going_on_has : (p : ℕ) (logs : List (List Batch)) (entries : List Entry) → ((k : ℕ) → p ≤ k → k < p + length logs → Q (k, commands.ProcessInstanceBatchContinue)) → AnyHas (going_on p logs entries)
  going_on_has p [] entries each = none_has
  going_on_has p (log ∷ logs) entries each =
      by_quiet (is_quiet (events_of (log_behind p log entries))) (going_on_has (suc p) logs entries (λ k above below. each k (omega (arith, above)) (omega (arith, below))))
    where
      by_quiet : (quiet : Bool) → AnyHas (going_on (suc p) logs entries) → AnyHas (if quiet then going_on (suc p) logs entries else Some (p, commands.ProcessInstanceBatchContinue))
      by_quiet true later = later
      by_quiet false later = some_has (p, commands.ProcessInstanceBatchContinue) (each p (omega arith) (omega arith))

  -- the first of some packets, behind any of them
  pub first_has : (k : ℕ) (packets : List Packet) → AllHave packets → AnyHas (option_map delivery_of (slice_get (drop k packets) 0))
  first_has zero [] all = none_has
  first_has (suc k) [] all = none_has
  first_has zero (packet ∷ packets) all = some_has (delivery_of packet) all.0
  first_has (suc k) (packet ∷ packets) all = first_has k packets all.1

  -- an answer goes where a key is from, and its command is one
  module _ (n : ℕ) (each : (key : ℕ) (command : Command) → is_answer command ≡ true → Q (partition_of_key n key, command)) where
    verdict_has : (p : ℕ) (c : MessageCorrelation) (outcome : Outcome) → AllHave (begun_by (option_map (answering_packet p n c.message) (verdict c outcome)))
    verdict_has p c (outcomes.Accepted es) = (each c.message _ refl, tt)
    verdict_has p c (outcomes.Rejected r) = by_tests (bytes_eq r.reason (was_correlated c.message)) (is_turned_away c r)
      where
        by_tests : (taken turned : Bool) → AllHave (begun_by (option_map (answering_packet p n c.message) (
            if taken then Some (commands.MessageSubscriptionCorrelate (record { subscription = c.subscription; message = c.message }))
            else if turned then Some (commands.MessageSubscriptionReject (record { subscription = c.subscription; message = c.message }))
            else None)))
        by_tests true turned = (each c.message _ refl, tt)
        by_tests false true = (each c.message _ refl, tt)
        by_tests false false = tt

    pub answer_has : (p : ℕ) (command : Command) (outcome : Outcome) → AllHave (begun_by (answer_by p n command outcome))
    answer_has p (commands.DeploymentDistribute c) outcome = (each c.key _ refl, tt)
    answer_has p (commands.MessageSubscriptionCreate c) outcome = (each c.subscription _ refl, tt)
    answer_has p (commands.MessageSubscriptionDelete c) outcome = (each c.subscription _ refl, tt)
    answer_has p (commands.ProcessMessageSubscriptionCorrelate c) outcome = verdict_has p c outcome
    answer_has p command outcome = tt

  -- the answers that units of work have sent, where those of each have it
  pub answers_have : (n : ℕ) (Is : Entry → Type 0) → ((unit : Entry) → Is unit → AllHave (begun_by (answer_packet unit.partition n unit.batch))) → (units : List Entry) → AllByRecursion Is units → AllHave (answers_sent n units)
  answers_have n Is each [] are = tt
  answers_have n Is each (unit ∷ units) are = all_joined (λ packet. Q (delivery_of packet)) (begun_by (answer_packet unit.partition n unit.batch)) (answers_sent n units) (each unit are.0) (answers_have n Is each units are.1)

  -- and where each answer has it
  pub all_answers_have : (n : ℕ) → ((key : ℕ) (command : Command) → is_answer command ≡ true → Q (partition_of_key n key, command)) → (units : List Entry) → AllHave (answers_sent n units)
  all_answers_have n each [] = tt
  all_answers_have n each (unit ∷ units) =
      all_joined (λ packet. Q (delivery_of packet)) (begun_by (answer_packet unit.partition n unit.batch)) (answers_sent n units) (answer_has n each unit.partition unit.batch.command unit.batch.outcome) (all_answers_have n each units)

  -- the first packet of some outboxes, where each packet in each of them has it
  pub first_sent_in : (n p : ℕ) (logs : List (List Batch)) (entries : List Entry)
      → ((k : ℕ) (log : List Batch) → slice_get logs k ≡ Some log → AllHave (outbox_of (p + k) n (events_of (log_behind (p + k) log entries)))) → AnyHas (option_map delivery_of (first_sent n p logs entries))
  first_sent_in n p [] entries each = none_has
  first_sent_in n p (log ∷ logs) entries each =
      let here : p + 0 ≡ p = omega arith in
      let es = events_of (log_behind p log entries) in
      either_packet (first_packet p n es) (first_sent n (suc p) logs entries) (first_has 0 (outbox_of p n es) (subst (λ (q : ℕ). AllHave (outbox_of q n (events_of (log_behind q log entries)))) here (each 0 log refl)))
      (first_sent_in n (suc p) logs entries
      (λ k other at. subst (λ (q : ℕ). AllHave (outbox_of q n (events_of (log_behind q other entries)))) (let on : p + suc k ≡ suc p + k = omega arith in on) (each (suc k) other at)))
    where
      either_packet : (a b : Option Packet) → AnyHas (option_map delivery_of a) → AnyHas (option_map delivery_of b) → AnyHas (option_map delivery_of (option_or a b))
      either_packet None b first second = second
      either_packet (Some packet) b first second = first

  -- the unit that is next
  pub unit_in : (n : ℕ) (logs : List (List Batch)) (units entries : List Entry) → length logs ≡ n → ((k : ℕ) → 1 ≤ k → k ≤ n → Q (k, commands.ProcessInstanceBatchContinue))
      → AnyHas (option_map delivery_of (slice_get (answers_in_hand n units) 0)) → AnyHas (option_map delivery_of (first_sent n 1 logs entries)) → AnyHas (unit_in_logs logs units entries)
  unit_in n logs units entries many goes hand sent =
      either_has (going_on 1 logs entries) (option_map delivery_of (packet_next logs units entries))
      (going_on_has 1 logs entries (λ k above below. goes k above (omega (arith, below, many))))
      (subst (λ (count : ℕ). AnyHas (option_map delivery_of (option_or (slice_get (answers_in_hand count units) 0) (first_sent count 1 logs entries)))) (sym many)
      (by_hand (slice_get (answers_in_hand n units) 0) hand))
    where
      by_hand : (first : Option Packet) → AnyHas (option_map delivery_of first) → AnyHas (option_map delivery_of (option_or first (first_sent n 1 logs entries)))
      by_hand None has = sent
      by_hand (Some packet) has = has

  -- each definition that is sent
  module _ (n : ℕ) (each : (p : ℕ) (d : Distribution) (version : ℕ) (m : Model) → Q (delivery_of (packet_with p n d version m))) where
    definition_has : (p : ℕ) (d : Distribution) (found : Option ProcessDefinition) (packets : List Packet) → AllHave packets → AllHave (cons_option (option_map (λ made. packet_with p n d made.version made.model) found) packets)
    definition_has p d None packets all = all
    definition_has p d (Some made) packets all = (each p d made.version made.model, all)

    -- where nothing else is sent
    pub definitions_have : (p : ℕ) (es : List Event) (ds : List Distribution) → AllHave (filter_map (packet_for p n es) (map sending.Definition ds))
    definitions_have p es [] = tt
    definitions_have p es (d ∷ ds) = definition_has p d (process_in d.definition es) (filter_map (packet_for p n es) (map sending.Definition ds)) (definitions_have p es ds)

    -- each packet that is sent again
    module _ (alone : (p : ℕ) (s : Sending) → AllHave (begun_by (packet_alone p n s))) where
      outbox_has : (p : ℕ) (es : List Event) (ss : List Sending) → AllHave (filter_map (packet_for p n es) ss)
      outbox_has p es [] = tt
      outbox_has p es (sending.Definition d ∷ ss) = definition_has p d (process_in d.definition es) (filter_map (packet_for p n es) ss) (outbox_has p es ss)
      outbox_has p es (s ∷ ss) = let first = alone p s in (first.0, outbox_has p es ss)

      -- the first of them
      pub first_sent_has : (p : ℕ) (logs : List (List Batch)) (entries : List Entry) → AnyHas (option_map delivery_of (first_sent n p logs entries))
      first_sent_has p logs entries = first_sent_in n p logs entries (λ k log at. outbox_has (p + k) (events_of (log_behind (p + k) log entries)) (sendings (events_of (log_behind (p + k) log entries))))

      -- the unit that is next, whatever is in the logs
      pub unit_has : (logs : List (List Batch)) (units entries : List Entry) → length logs ≡ n → ((k : ℕ) → 1 ≤ k → k ≤ n → Q (k, commands.ProcessInstanceBatchContinue))
          → AnyHas (option_map delivery_of (slice_get (answers_in_hand n units) 0)) → AnyHas (unit_in_logs logs units entries)
      unit_has logs units entries many goes hand =
          unit_in n logs units entries many goes hand (first_sent_has 1 logs entries)
