-- What is listed of the rows of a state.
use Rattle.std.specs.Prelude.{◌≡◌, ℕ, List, [], false, Option, Some, None, if◌then◌else◌}
use Rattle.zb_exchange_records.specs.declared.message.MessagePublished.{MessagePublished}
use Rattle.zb_table.specs.Rows.{Ascend}
use Rattle.zb_pairs.specs.Pairs.{is_number}
use Rattle.zb_views.specs.declared.job.Job.{Job}
use Rattle.zb_views.specs.declared.timer.Timer.{Timer}
use Rattle.zb_views.specs.Jobs.{is_activated, is_activatable}
use Rattle.zb_lists.specs.Listed.{row_found, without_named, AreListed}
use Rattle.zb_state.specs.declared.facts.Facts.{Facts}
use Rattle.zb_state.specs.declared.listing.Listing.{Listing}
use Rattle.zb_tables.specs.declared.named.Named.{Named}

-- the message with a key, if it is buffered (own)
abbrev pub message_in : Facts → ℕ → Option MessagePublished
message_in facts = row_found (λ m. m.key) facts.messages

-- the job with a key, if it is there (own)
abbrev pub job_in : Facts → ℕ → Option Job
job_in facts = row_found (λ j. j.key) facts.tables.jobs

-- the timer with a key, if it is there (own)
abbrev pub timer_in : Facts → ℕ → Option Timer
timer_in facts = row_found (λ t. t.key) facts.tables.timers

-- until when a worker has a job, if one does (own)
abbrev pub given_until : Job → Option ℕ
given_until j = if is_activated j.phase then Some j.deadline else None

-- the type under which a job is offered, if it is (own)
abbrev pub offered_as : Job → Option (List ℕ × List ℕ)
offered_as j = if is_activatable j.phase then Some (j.kind, []) else None

-- of rows that are found by their keys: messages are listed by their deadlines, and under their names and correlation keys; jobs until workers have them, and under the types as which they are offered; timers by when they are due (own)
pub record AreAllListed (messages : ℕ → Option MessagePublished) (jobs : ℕ → Option Job) (timers : ℕ → Option Timer) (listing : Listing) : Type 0 where
  pub messages_listed : AreListed (λ m. Some m.deadline) (λ m. Some (m.name, m.correlation_key)) messages listing.messages
  pub jobs_listed : AreListed given_until offered_as jobs listing.jobs
  pub timers_listed : AreListed (λ t. Some t.due) (λ t. None) timers listing.timers

-- the rows of some facts are listed, and the keys of the messages ascend (own)
pub record IsListingOf (facts : Facts) (listing : Listing) : Type 0 where
  pub ascend : Ascend (λ m. m.key) 0 facts.messages
  pub rows : AreAllListed (message_in facts) (job_in facts) (timer_in facts) listing

-- they are listed, but those that an event names (own)
abbrev pub IsListingBut : Named → Facts → Listing → Type 0
IsListingBut named facts listing = AreAllListed (without_named named.message (message_in facts)) (without_named named.job (job_in facts)) (without_named named.timer (timer_in facts)) listing

-- two have the same rows, but those that an event names (own)
pub record IsSameElse (named : Named) (before after : Facts) : Type 0 where
  pub messages : (k : ℕ) → is_number k named.message ≡ false → message_in after k ≡ message_in before k
  pub jobs : (k : ℕ) → is_number k named.job ≡ false → job_in after k ≡ job_in before k
  pub timers : (k : ℕ) → is_number k named.timer ≡ false → timer_in after k ≡ timer_in before k
