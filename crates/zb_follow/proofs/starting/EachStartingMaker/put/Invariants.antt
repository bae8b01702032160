use Rattle.std.proofs.Common.{◌≡◌, ◌≤◌, length, take}
use Rattle.zb_rules.specs.Making.{each_made}
use Rattle.zb_rules.specs.Starts.{started_of}
use Rattle.zb_state.specs.State.{partition_of, HasPut}
use Rattle.zb_follow.proofs.starting.EachStartingMaker.put.Given as goal

-- the message has started what it may of the processes so far
abbrev pub invariant-loop-process : goal.invariant-loop-process
invariant-loop-process l =
    HasPut (each_made (started_of (partition_of l.fn.state) l.fn.self.message) (take l.process-index l.fn.self.processes.items)) l.fn.state l.state l.fn.out l.out
    × (partition_of l.state ≡ partition_of l.fn.state) × (length l.fn.out ≤ length l.out)
