-- What is made behind an event.
use Rattle.std.specs.Prelude.{ℕ, [], ◌∷◌, Option}
use Rattle.std.specs.Option.{option_map_or}
use Rattle.zb_model.specs.declared.record.Event.TheVariants as events
use Rattle.zb_rules.specs.Making.{Making, and_then}
use Rattle.zb_rules.specs.Behind.{run_set_on, resolved_on, job_made_on, catches_opened_on, catches_closed_on, interrupted_on}
use Rattle.zb_rules.specs.Starts.{started_of, next_starter}
use Rattle.zb_views.specs.declared.started.Started.{Started}
use Rattle.zb_follow.specs.declared.behind.Behind.{Behind}
use Rattle.zb_follow.specs.declared.behind.Behind.TheVariants as behinds

-- a job is canceled, if there is one (own)
abbrev pub job_canceled : Option ℕ → Making
job_canceled job before = option_map_or (λ key. events.JobCanceled key ∷ []) job []

-- what waits for a cell ends, where this is the job that it had (own)
abbrev pub ended_with : (cell : ℕ) → Option ℕ → Making
ended_with cell job = and_then (job_canceled job) (and_then (catches_closed_on cell) (resolved_on cell))

-- the next message starts an instance, where this one had been started by one with the same name and correlation key (own)
abbrev pub restarted : (p : ℕ) → Started → Making
restarted p s before = option_map_or (λ m. started_of p m s.process before) (next_starter s before) []

-- the events that come behind, at a moment of partition p (own)
abbrev pub made_behind : (p moment : ℕ) → Behind → Making
made_behind p moment behinds.Nothing before = []
made_behind p moment (behinds.Begin cell) before = run_set_on cell before
made_behind p moment (behinds.Work cell) before = and_then (job_made_on p cell) (catches_opened_on p moment cell) before
made_behind p moment (behinds.Close cell) before = catches_closed_on cell before
made_behind p moment (behinds.End waiting) before = ended_with waiting.cell waiting.job before
made_behind p moment (behinds.Interrupt told) before = interrupted_on told.cell told.node before
made_behind p moment (behinds.Restart started) before = restarted p started before
