-- What is counted in logs.
use Rattle.std.specs.Prelude.{ℕ, suc, ◌+◌, List, [], ◌∷◌, length, not, Bool, true, false, count_by}
use Rattle.std.specs.List.{range_with_len}
use Rattle.zb_base.specs.Key.{key_of}
use Rattle.zb_model.specs.declared.record.Batch.{Batch}
use Rattle.zb_model.specs.declared.record.Event.{Event}
use Rattle.zb_model.specs.declared.record.Outcome.{Outcome}
use Rattle.zb_model.specs.declared.record.Outcome.TheVariants as outcomes
use Rattle.zb_views.specs.View.{events_in, events_of, greatest_counter}
use Rattle.zb_views.specs.Messages.{is_buffered}
use Rattle.zb_rules.specs.Applies.{holds_of_game, has_cell}
use Rattle.zb_tally.specs.declared.tally.Tally.{Tally}

-- it was accepted (own)
abbrev pub is_acceptance : Outcome → Bool
is_acceptance (outcomes.Accepted events) = true
is_acceptance (outcomes.Rejected rejection) = false

-- the command of a batch was accepted (own)
abbrev pub is_accepted : Batch → Bool
is_accepted batch = is_acceptance batch.outcome

-- how many keys of partition p, of those that were drawn so far, are of cells that are there (own)
abbrev pub cells_there : ℕ → List Event → ℕ
cells_there p es = count_by (λ key. holds_of_game (has_cell key) es) (range_with_len (key_of p 1) (greatest_counter p es))

-- how many of them are of messages that are buffered (own)
abbrev pub messages_there : ℕ → List Event → ℕ
messages_there p es = count_by (λ key. is_buffered key es) (range_with_len (key_of p 1) (greatest_counter p es))

-- what is counted in the log of partition p (own)
abbrev pub tally_of_log : ℕ → List Batch → Tally
tally_of_log p log = record {
  batches = length log;
  accepted = count_by is_accepted log;
  rejected = count_by (λ batch. not (is_accepted batch)) log;
  events = length (events_of log);
  cells = cells_there p (events_of log);
  messages = messages_there p (events_of log);
}

-- nothing (own)
abbrev pub no_tally : Tally
no_tally = record { batches = 0; accepted = 0; rejected = 0; events = 0; cells = 0; messages = 0 }

-- what is counted in two (own)
abbrev pub both_tallies : Tally → Tally → Tally
both_tallies a b = record {
  batches = a.batches + b.batches;
  accepted = a.accepted + b.accepted;
  rejected = a.rejected + b.rejected;
  events = a.events + b.events;
  cells = a.cells + b.cells;
  messages = a.messages + b.messages;
}

-- what is counted in the logs of the partitions from p on (own)
abbrev pub tally_from : (p : ℕ) → List (List Batch) → Tally
tally_from p [] = no_tally
tally_from p (log ∷ logs) = both_tallies (tally_of_log p log) (tally_from (suc p) logs)

-- with one batch more, before the keys are counted (own)
abbrev pub tally_with : Batch → Tally → Tally
tally_with batch t = record {
  batches = t.batches + 1;
  accepted = t.accepted + count_by is_accepted (batch ∷ []);
  rejected = t.rejected + count_by (λ b. not (is_accepted b)) (batch ∷ []);
  events = t.events + length (events_in batch.outcome);
  cells = t.cells;
  messages = t.messages;
}
