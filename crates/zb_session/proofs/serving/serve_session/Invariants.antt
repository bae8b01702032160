use Rattle.std.proofs.Common.{◌≡◌, ◌+◌, ◌≤◌, [], length, IsTrue, is_some}
use Rattle.zb_outside.specs.Clock.{HasGoneOn}
use Rattle.zb_session.specs.Hours.{Hours}
use Rattle.zb_session.specs.Session.{streams_of, most_taken}
use Rattle.zb_session.specs.Serving.{AreAt, began_of, clocks_of, facts_by, service_of, stand_of, IsServing}
use Rattle.zb_session.proofs.serving.serve_session.Given as goal

-- the lines before this one were served, each of which took a byte at least
abbrev pub invariant-loop-number : goal.invariant-loop-number
invariant-loop-number g l = ((begun : g.A.Desk.Begun) (hours : Hours) → g.A.Desk.has begun [] l.fn.desk → AreAt hours [] (clocks_of l.fn.dial g.C.Clock.tells (g.C.Clock.upcoming l.fn.clock))
    → IsServing (streams_of g.S.Source.tells g.S.Source.counts_failures g.K.Sink) (began_of hours (g.A.Desk.basis begun) (g.S.Source.view l.fn.session.source) (g.K.Sink.view l.fn.session.sink))
    (stand_of (g.S.Source.view l.session.source)
    (service_of (g.K.Sink.view l.session.sink) (clocks_of l.dial g.C.Clock.tells (g.C.Clock.upcoming l.clock)) (facts_by g.A.Desk begun l.desk))
    l.intake.reader l.intake.budget l.number))
    × g.A.Desk.goes_on l.desk × (g.A.Desk.many l.desk ≡ g.A.Desk.many l.fn.desk)
    × (l.number + (length l.intake.reader + l.intake.budget) ≤ most_taken + 1)
    × (is_some l.dial ≡ is_some l.fn.dial)
    × HasGoneOn (g.C.Clock.upcoming l.fn.clock) (g.C.Clock.upcoming l.clock) × (IsTrue (is_some l.fn.dial) → l.clock ≡ l.fn.clock)
