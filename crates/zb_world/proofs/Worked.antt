-- A history of two partitions, worked out by hand: its parts and its places; and events of which one happens twice.
use Rattle.std.proofs.Common.{◌≡◌, ℕ, List, [], ◌∷◌, true, false, refl, arith}
use Rattle.std.specs.Prelude.{codes}
use Rattle.zb_process.specs.declared.model.Model.{Model}
use Rattle.zb_model.specs.declared.record.Batch.{Batch}
use Rattle.zb_model.specs.declared.record.Event.{Event}
use Rattle.zb_model.specs.declared.record.Command.TheVariants as commands
use Rattle.zb_model.specs.declared.record.Event.TheVariants as events
use Rattle.zb_model.specs.declared.record.Outcome.TheVariants as outcomes
use Rattle.zb_model.specs.declared.record.RejectionKind.TheVariants as kinds
use Rattle.zb_rules.specs.Expire.{no_message}
use Rattle.zb_world.specs.Entries.{part_of, places_of, happenings}
use Rattle.zb_world.specs.declared.entry.Entry.{Entry}
use Rattle.zb_world.specs.History.{IsEntryOf, IsHistory}
use Rattle.zb_world.specs.Once.{correlates, HappensOnce}
use Rattle.zb_world.proofs.HistoryLaws.{history_none, history_more}

-- a batch that expires a message that isn't there, at a moment: it is rejected
abbrev unknown : ℕ → ℕ → Batch
unknown moment begin = record {
  moment = moment;
  begin = begin;
  command = commands.MessageExpire 7;
  outcome = outcomes.Rejected (record { kind = kinds.NotFound; reason = no_message 7 });
}

-- at partition 2 and then at partition 1, and again at partition 2; moments needn't ascend between partitions
abbrev first : Entry
first = record { partition = 2; batch = unknown 9 0 }

abbrev second : Entry
second = record { partition = 1; batch = unknown 5 0 }

abbrev third : Entry
third = record { partition = 2; batch = unknown 9 2 }

abbrev history : List Entry
history = first ∷ second ∷ third ∷ []

part_1 : part_of 1 history ≡ unknown 5 0 ∷ []
part_1 = refl

part_2 : part_of 2 history ≡ unknown 9 0 ∷ unknown 9 2 ∷ []
part_2 = refl

places_1 : places_of 1 10 history ≡ 11 ∷ []
places_1 = refl

places_2 : places_of 2 10 history ≡ 10 ∷ 12 ∷ []
places_2 = refl

places_3 : places_of 3 10 history ≡ []
places_3 = refl

is_first : IsEntryOf 2 [] first
is_first = record { partition = (omega arith, omega arith); step = record { in_time = omega arith; outcome = refl }; begin = omega arith; packet = λ by. absurd (cc) }

is_second : IsEntryOf 2 (first ∷ []) second
is_second = record { partition = (omega arith, omega arith); step = record { in_time = omega arith; outcome = refl }; begin = omega arith; packet = λ by. absurd (cc) }

is_third : IsEntryOf 2 (first ∷ second ∷ []) third
is_third = record { partition = (omega arith, omega arith); step = record { in_time = omega arith; outcome = refl }; begin = omega arith; packet = λ by. absurd (cc) }

-- one place earlier the third one would rest on more than there is
not_yet : IsEntryOf 2 (first ∷ []) third → ⊥
not_yet is = omega (arith, is.begin)

is_history : IsHistory 2 history
is_history = history_more 2 (first ∷ second ∷ []) third (history_more 2 (first ∷ []) second (history_more 2 [] first (history_none 2) is_first) is_second) is_third

-- A message is correlated at partition 1, by a subscription that was opened for the process p, and at partition 2, by a
-- start event of p.
abbrev accepted : List Event → Batch
accepted es = record { moment = 0; begin = 0; command = commands.MessageExpire 7; outcome = outcomes.Accepted es }

abbrev process : Model
process = record { process = codes "p"; tag = []; nodes = []; flows = [] }

abbrev at_subscription : Event
at_subscription = events.ProcessMessageSubscriptionCorrelated (record { subscription = 4; message = 9 })

abbrev at_start : Event
at_start = events.MessageStartEventSubscriptionCorrelated (record { message = 9; definition = 3; instance = 6 })

abbrev opening : Event
opening = events.ProcessMessageSubscriptionCreating (record { subscription = 4; cell = 5; node = []; name = []; correlation_key = []; process = codes "p"; cancel = true })

abbrev correlated : List Entry
correlated =
    record { partition = 1; batch = accepted (events.ProcessCreated (record { key = 3; version = 1; model = process }) ∷ opening ∷ at_subscription ∷ []) }
    ∷ record { partition = 2; batch = accepted (at_start ∷ []) }
    ∷ []

twice_correlated : HappensOnce correlated → ⊥
twice_correlated once = let same : ◌≡◌ {A = ℕ} 2 3 = once.messages 9 (codes "p") 2 3 at_subscription at_start refl refl refl refl in absurd (cc same)

for_no_other : correlates (happenings correlated) 9 (codes "q") at_subscription ≡ false
for_no_other = refl

nor_at_start : correlates (happenings correlated) 9 (codes "q") at_start ≡ false
nor_at_start = refl

-- a job is completed at partition 1, and throws an error at partition 2
abbrev ended : List Entry
ended =
    record { partition = 1; batch = accepted (events.JobCompleted 8 ∷ []) }
    ∷ record { partition = 2; batch = accepted (events.JobErrorThrown (record { key = 8; code = [] }) ∷ []) }
    ∷ []

twice_ended : HappensOnce ended → ⊥
twice_ended once = let twice = once.jobs 8 in omega (arith, twice)
