-- The lines of a log: one for each record, a command before what became of it.
use Rattle.std.specs.Prelude.{ℕ, ◌+◌, List, [], ◌∷◌, ◌++◌, length, codes}
use Rattle.std.specs.Fmt.{decimal}
use Rattle.zb_model.specs.declared.record.Batch.{Batch}
use Rattle.zb_model.specs.declared.record.Command.{Command}
use Rattle.zb_model.specs.declared.record.Event.{Event}
use Rattle.zb_model.specs.declared.record.Outcome.{Outcome}
use Rattle.zb_model.specs.declared.record.Outcome.TheVariants as outcomes
use Rattle.zb_model.specs.declared.record.Rejection.{Rejection}
use Rattle.zb_show.specs.Names.{Names, command_names, event_names, command_key, event_key, element_of, rejection_name}
use Rattle.zb_show.specs.declared.lines.Stamp.{Stamp}

-- a word with the space behind it (own)
abbrev pub spaced : List ℕ → List ℕ
spaced word = word ++ codes " "

-- where a record stands: its position, its source's, the moment and the partition (own)
unfoldable pub stamp_text : Stamp → List ℕ
stamp_text s = spaced (decimal s.position) ++ (spaced (decimal s.source) ++ (spaced (decimal s.moment) ++ spaced (decimal s.partition)))

-- what it is: its kind, its value type, its intent and its key (own)
unfoldable pub title_text : List ℕ → Names → ℕ → List ℕ
title_text kind names key = spaced kind ++ (spaced names.0 ++ (spaced names.1 ++ spaced (decimal key)))

-- the front of a record's line (own)
unfoldable pub front_text : Stamp → List ℕ → Names → ℕ → List ℕ
front_text s kind names key = stamp_text s ++ title_text kind names key

-- the line of a record, which ends with this (own)
abbrev pub line_text : Stamp → List ℕ → Names → ℕ → List ℕ → List ℕ
line_text s kind names key end = front_text s kind names key ++ (end ++ codes "\n")

-- the line of a command, whose source is 0 (own)
abbrev pub command_line : Stamp → Command → List ℕ
command_line s c = line_text s (codes "COMMAND") (command_names c) (command_key c) (codes "-")

-- the line of an event (own)
abbrev pub event_line : Stamp → Event → List ℕ
event_line s e = line_text s (codes "EVENT") (event_names e) (event_key e) (element_of e)

-- a rejection's kind and reason, which end its line (own)
unfoldable pub reason_text : Rejection → List ℕ
reason_text r = spaced (rejection_name r.kind) ++ (r.reason ++ codes "\n")

-- the line of a rejection, which has its command's names and key, and ends with its kind and its reason (own)
abbrev pub rejection_line : Stamp → Command → Rejection → List ℕ
rejection_line s c r = front_text s (codes "COMMAND_REJECTION") (command_names c) (command_key c) ++ reason_text r

-- the stamp of a record behind the command that stands here (own)
abbrev pub stamp_behind : Stamp → ℕ → Stamp
stamp_behind s i = record { position = s.position + 1 + i; source = s.position; moment = s.moment; partition = s.partition }

-- the lines of events, from the one with this number on, behind the command that stands here (own)
abbrev pub event_lines : Stamp → ℕ → List Event → List ℕ
event_lines s i [] = []
event_lines s i (e ∷ es) = event_line (stamp_behind s i) e ++ event_lines s (i + 1) es

-- the lines of what became of a command (own)
abbrev pub outcome_lines : Stamp → Command → Outcome → List ℕ
outcome_lines s c (outcomes.Rejected r) = rejection_line (stamp_behind s 0) c r
outcome_lines s c (outcomes.Accepted es) = event_lines s 0 es

-- how many records became of a command (own)
abbrev pub records_of : Outcome → ℕ
records_of (outcomes.Rejected r) = 1
records_of (outcomes.Accepted es) = length es

-- the stamp of a batch's command, which has this position (own)
abbrev pub stamp_of : ℕ → ℕ → Batch → Stamp
stamp_of p position b = record { position = position; source = 0; moment = b.moment; partition = p }

-- the lines of a batch of partition p, whose command has this position (own)
abbrev pub batch_lines : ℕ → ℕ → Batch → List ℕ
batch_lines p position b = command_line (stamp_of p position b) b.command ++ outcome_lines (stamp_of p position b) b.command b.outcome

-- how many records a batch has (own)
abbrev pub records_in : Batch → ℕ
records_in b = 1 + records_of b.outcome

-- the lines of batches of partition p, the first of which begins at this position (own)
abbrev pub lines_from : ℕ → ℕ → List Batch → List ℕ
lines_from p position [] = []
lines_from p position (b ∷ log) = batch_lines p position b ++ lines_from p (position + records_in b) log

-- the lines of a log of partition p; positions count its records from 1 (own)
abbrev pub log_lines : ℕ → List Batch → List ℕ
log_lines p log = lines_from p 1 log
