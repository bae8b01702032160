use Rattle.std.proofs.Common.{All, take, filter}
use Rattle.std.specs.Str.{bytes_eq}
use Rattle.zb_places.specs.Places.{IsMetAt}
use Rattle.zb_places.proofs.meeting.meet_on.Given as goal

-- those at the ends of the flows so far are met
abbrev pub invariant-loop-number : goal.invariant-loop-number
invariant-loop-number l = All (λ f. IsMetAt l.model l.tokens l.scope f.to l.met) (take l.number-index (filter (λ f. bytes_eq f.id l.id) l.model.flows))
