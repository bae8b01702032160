-- Giving jobs to a worker (Zeebe, job activation).
use Rattle.std.specs.Prelude.{ℕ, ◌+◌, min, List, [], ◌∷◌, map, codes, if◌then◌else◌, Option, Some, None}
use Rattle.std.specs.Option.{option_map_or}
use Rattle.std.specs.Str.{bytes_eq}
use Rattle.zb_base.specs.Moment as moments
use Rattle.zb_exchange_records.specs.declared.job.JobActivated.{JobActivated}
use Rattle.zb_exchange_records.specs.declared.job.JobBatchActivate.{JobBatchActivate}
use Rattle.zb_model.specs.declared.record.Event.TheVariants as events
use Rattle.zb_model.specs.declared.record.Rejection.{Rejection}
use Rattle.zb_model.specs.declared.record.RejectionKind.TheVariants as kinds
use Rattle.zb_views.specs.declared.job.Job.{Job}
use Rattle.zb_views.specs.View.{next_key}
use Rattle.zb_views.specs.Jobs.{job_at, offered}
use Rattle.zb_tokens.specs.Board.{Board, cell_at}
use Rattle.zb_tokens.specs.Names.{root_of, visible}
use Rattle.zb_rules.specs.Shown.{board_of}
use Rattle.zb_rules.specs.Making.{Making, and_then, each_made}

-- the rejection where no type of jobs is named (own)
abbrev pub reason_to_activate : JobBatchActivate → Option Rejection
reason_to_activate c = if bytes_eq c.kind [] then Some (record { kind = kinds.InvalidArgument; reason = codes "empty job type" }) else None

-- until when a worker has what it is given now, at most up to the last moment (own)
abbrev pub deadline_from : ℕ → ℕ → ℕ
deadline_from moment timeout = min (moment + timeout) moments.last_moment

-- a job as a worker is given it at a moment: with its instance and its node on a board, and all variables that its cell sees (Zeebe, job activation)
abbrev pub job_given : ℕ → JobBatchActivate → Board → Job → JobActivated
job_given moment c b j = record {
  key = j.key;
  worker = c.worker;
  deadline = deadline_from moment c.timeout;
  instance = option_map_or (λ root. root) (root_of b j.cell) 0;
  node = option_map_or (λ cell. cell.node) (cell_at b j.cell) [];
  kind = j.kind;
  retries = j.retries;
  variables = visible b j.cell;
}

-- the job with a key is given to a worker
abbrev pub given_out : ℕ → JobBatchActivate → ℕ → Making
given_out moment c key before = option_map_or (λ j. option_map_or (λ b. events.JobActivated (job_given moment c b j) ∷ []) (board_of before) []) (job_at key before) []

-- each of these jobs is, one after the other
abbrev pub each_given_out : ℕ → JobBatchActivate → List ℕ → Making
each_given_out moment c keys = each_made (given_out moment c) keys

-- and then it is told which they are, under a key of its own (Zeebe, the records)
abbrev pub batch_told : ℕ → List ℕ → Making
batch_told p keys before = events.JobBatchActivated (record { key = next_key p before; jobs = keys }) ∷ []

-- a worker is given the first jobs of the type that it may have, at most as many as it asks for (Zeebe, job activation)
abbrev pub activated : ℕ → ℕ → JobBatchActivate → Making
activated p moment c before =
    let keys = map (λ j. j.key) (offered c.kind c.most before) in
    and_then (each_given_out moment c keys) (batch_told p keys) before
