-- The reply to a request, by the entries that were made for it, whatever else was made beside them.
use Rattle.std.specs.Prelude.{◌≡◌, ℕ, List, [], ◌∷◌, length, Bool, true, false, IsTrue, Option, Some, None}
use Rattle.std.specs.List.{AllByRecursion}
use Rattle.zb_model.specs.declared.record.Command.{Command}
use Rattle.zb_model.specs.declared.record.Command.TheVariants as commands
use Rattle.zb_model.specs.declared.record.Event.{Event}
use Rattle.zb_model.specs.declared.record.Outcome.TheVariants as outcomes
use Rattle.zb_world.specs.declared.entry.Entry.{Entry}
use Rattle.zb_wire.specs.declared.request.Request.{Request}
use Rattle.zb_wire.specs.declared.request.Request.TheVariants as requests
use Rattle.zb_wire.specs.Asked.{command_of, partition_asked}
use Rattle.zb_reply.specs.declared.reply.Reply.{Reply}
use Rattle.zb_reply.specs.declared.reply.Reply.TheVariants as replies
use Rattle.zb_reply.specs.Reply.{answer_of}
use Rattle.zb_desk.specs.Serial.{asked_in}

-- a client's command is answered by what its one entry came to, which is of this command, at the partition, of n, that is asked for it (own)
pub record IsCommandReply (n : ℕ) (request : Request) (command : Command) (own : List Entry) (reply : Reply) : Type 0 where
  pub entry : Entry
  pub one : own ≡ entry ∷ []
  pub is_its : entry.batch.command ≡ command
  pub is_there : entry.partition ≡ partition_asked n request
  pub told : answer_of entry.batch ≡ Some reply

-- the commands that time makes due: a job is taken back from its worker, a message expires, a timer is triggered (Zeebe)
abbrev pub is_by_time : Command → Bool
is_by_time (commands.JobTimeOut key) = true
is_by_time (commands.MessageExpire key) = true
is_by_time (commands.TimerTrigger key) = true
is_by_time _ = false

-- an entry of a tick: a command that time made due, and that was accepted (own)
pub record IsTicked (entry : Entry) : Type 0 where
  pub by_time : IsTrue (is_by_time entry.batch.command)
  pub made : List Event
  pub accepted : entry.batch.outcome ≡ outcomes.Accepted made

-- the reply, in a run of n partitions, to a request that asked for these entries itself, by the command of a client that it has, if it has one: a tick
-- tells how many its entries are; an advance tells the reading and makes none, and a settle tells nothing and makes none (own)
abbrev pub IsReplyIf : Option Command → (n : ℕ) → Request → (reading : ℕ) → (own : List Entry) → Reply → Type 0
IsReplyIf (Some command) n request reading own reply = IsCommandReply n request command own reply
IsReplyIf None n requests.Tick reading own reply = AllByRecursion IsTicked own × (reply ≡ replies.Tick (length own))
IsReplyIf None n (requests.Advance ms) reading own reply = (own ≡ []) × (reply ≡ replies.Advance reading)
IsReplyIf None n requests.Settle reading own reply = (own ≡ []) × (reply ≡ replies.Settle)
IsReplyIf None n _ reading own reply = ⊥

-- the reply, in a run of n partitions, to a request that these entries were made for, by those of them that it asked for itself
abbrev pub IsReply : (n : ℕ) → Request → (reading : ℕ) → List Entry → Reply → Type 0
IsReply n request reading entries reply = IsReplyIf (command_of request) n request reading (asked_in entries) reply
