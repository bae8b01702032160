use Rattle.std.proofs.Common.{◌≡◌, ℕ, All, true, take}
use Rattle.zb_places.specs.Places.{is_kept}
use Rattle.zb_places.proofs.FlowLemmas.{flows_to}
use Rattle.zb_places.proofs.MeetingLemmas.{IsKeptOn}
use Rattle.zb_places.proofs.meeting.meet_at.Given as goal

-- the first token on each flow so far is met, and what was met is so still
abbrev pub invariant-loop-number : goal.invariant-loop-number
invariant-loop-number l = All (IsKeptOn l.model l.tokens l.scope l.met) (take l.number-index (flows_to l.model l.node)) × ((number : ℕ) → is_kept l.fn.met number ≡ true → is_kept l.met number ≡ true)
