use Rattle.std.proofs.Common.{Ok}
use Rattle.zb_session.specs.Hours.{moved_by}
use Rattle.zb_session.proofs.ClockLemmas.{reading_at, at_request}
use Rattle.zb_session.proofs.dial.read_for.Goals as goal

pub returns-clause-reading : goal.returns-clause-reading
returns-clause-reading g c = λ hours found at.
    reading_at hours found c.args.dial.now g.C.Clock.tells (g.C.Clock.upcoming c.args.clock.now) at (moved_by (Ok c.args.request.now)) c.follow.new.self c.told.result
    c.follow.ensures.moved c.follow.ensures.none c.told.ensures.shown c.told.ensures.within c.told.ensures.told

pub returns-clause-at : goal.returns-clause-at
returns-clause-at g c = λ hours found at.
    at_request hours found c.args.dial.now g.C.Clock.tells (g.C.Clock.upcoming c.args.clock.now) at c.args.request.now c.follow.new.self (g.C.Clock.upcoming c.told.new.clock)
    c.follow.ensures.moved c.follow.ensures.none c.told.ensures.onward
