use Rattle.std.proofs.Common.{◌≡◌, ◌++◌, take, string_bytes}
use Rattle.zb_show.specs.Lines.{event_lines}
use Rattle.zb_show.proofs.lines.put_events.Given as goal

-- the events before the index have their lines
abbrev pub invariant-loop-i : goal.invariant-loop-i
invariant-loop-i l = string_bytes l.text ≡ string_bytes l.fn.text ++ event_lines l.stamp 0 (take l.i l.events)
