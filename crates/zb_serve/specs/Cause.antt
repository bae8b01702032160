-- Why a run ends: the exit status of each cause, which comes before which, and which cut a run off.
use Rattle.std.specs.Prelude.{ℕ, nat_lt, Bool}
use Rattle.zb_serve.specs.declared.run.Cause.{Cause}
use Rattle.zb_serve.specs.declared.run.Cause.TheVariants as causes

-- the exit status of a cause
abbrev pub status_of : Cause → ℕ
status_of causes.Done = 0
status_of causes.Usage = 2
status_of (causes.SourceFault session) = 3
status_of (causes.DiskFault partition batch) = 4
status_of (causes.BadLog partition frame) = 5
status_of (causes.SinkFault session) = 6
status_of causes.Memory = 7
status_of (causes.LogFull partition length_told frame limit) = 8
status_of (causes.InputFull session) = 9

-- the order in which causes are told: what keeps a run from beginning, a disk fault, a full log,
-- want of memory, a source's fault, a sink's, a full input, and nothing of these
abbrev pub rank_of : Cause → ℕ
rank_of causes.Usage = 0
rank_of (causes.BadLog partition frame) = 0
rank_of (causes.DiskFault partition batch) = 1
rank_of (causes.LogFull partition length_told frame limit) = 2
rank_of causes.Memory = 3
rank_of (causes.SourceFault session) = 4
rank_of (causes.SinkFault session) = 5
rank_of (causes.InputFull session) = 6
rank_of causes.Done = 7

-- whether one cause is told before another where both were met
abbrev pub comes_before : Cause → Cause → Bool
comes_before first second = nat_lt (rank_of first) (rank_of second)

-- the cause cut the run off
abbrev pub cuts_off : Cause → Bool
cuts_off cause = nat_lt (rank_of cause) 4
