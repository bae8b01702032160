-- What a line is answered, and which answers are those of the serial run.
use Rattle.std.specs.Prelude.{◌≡◌, ℕ, List, [], length, map, Some, None, Result, Ok, Err}
use Rattle.std.specs.List.{flat_map}
use Rattle.zb_rules.specs.Step.{EachOn}
use Rattle.zb_world.specs.declared.entry.Entry.{Entry}
use Rattle.zb_wire.specs.declared.given.Given.{Given}
use Rattle.zb_wire.specs.declared.request.Request.{Request}
use Rattle.zb_wire.specs.declared.request.LineFault.{LineFault}
use Rattle.zb_wire.specs.Request.{request_of}
use Rattle.zb_reply.specs.declared.reply.Reply.{Reply}
use Rattle.zb_reply.specs.declared.reply.Reply.TheVariants as replies
use Rattle.zb_reply.specs.Reply.{line_of}
use Rattle.zb_desk.specs.Serial.{Basis, units_in, IsCarriedOut}
use Rattle.zb_desk.specs.Replies.{IsReply}
use Rattle.zb_session.specs.Hours.{Hours, moved_by, IsReadingOf}

-- what a line led to: what it was found to be, the reading of the clock that its request was served at, the entries that
-- it made, and the line of its reply
pub record Answer : Type 0 where
  pub asked : Result Request LineFault
  pub reading : ℕ
  pub entries : List Entry
  pub reply : List ℕ

-- this line is the reply, in a run of n partitions, to a request that made these entries, with how many of them are units of work
pub record IsReplyTo (n : ℕ) (request : Request) (reading : ℕ) (entries : List Entry) (line : List ℕ) : Type 0 where
  pub reply : Reply
  pub told : IsReply n request reading entries reply
  pub written : line ≡ line_of reply (Some (length (units_in entries)))

-- a line that is no request is answered by its fault, with its number, and makes no entry
abbrev pub IsReplyBy : Given → Answer → Result Request LineFault → Type 0
IsReplyBy given answer (Ok request) = IsReplyTo given.partitions request answer.reading answer.entries answer.reply
IsReplyBy given answer (Err fault) = (answer.entries ≡ []) × (answer.reply ≡ line_of (replies.Fault given.number fault) None)

-- this is what a line led to, which was read by its number, the number of partitions, and the kind of the clock
pub record IsAnswer (given : Given) (line : List ℕ) (answer : Answer) : Type 0 where
  pub found : request_of given line ≡ answer.asked
  pub replied : IsReplyBy given answer answer.asked

-- the entries of these answers, in order
abbrev pub entries_made : List Answer → List Entry
entries_made answers = flat_map (λ answer. answer.entries) answers

-- what the lines of these answers were found to be
abbrev pub found_in : List Answer → List (Result Request LineFault)
found_in answers = map (λ answer. answer.asked) answers

-- behind these answers a line was served: a request at a reading of the clock, by its entries, and no other line
abbrev pub IsServedAs : Hours → Basis → List Answer → Answer → Result Request LineFault → Type 0
IsServedAs hours basis before answer (Ok request) = IsReadingOf hours (found_in before) (moved_by (Ok request)) answer.reading
    × IsCarriedOut basis request answer.reading (entries_made before) answer.entries
IsServedAs hours basis before answer (Err fault) = answer.entries ≡ []

-- behind these answers this one was served
abbrev pub IsServed : Hours → Basis → List Answer → Answer → Type 0
IsServed hours basis before answer = IsServedAs hours basis before answer answer.asked

-- these answers are those of the serial run: each was served behind those before it
abbrev pub AreSerial : Hours → Basis → List Answer → Type 0
AreSerial hours basis answers = EachOn (IsServed hours basis) [] answers
