use Rattle.std.proofs.Common.{refl}
use Rattle.zb_session.proofs.ClockLemmas.{unmoved, reading_at}
use Rattle.zb_session.proofs.dial.Dial.read.Goals as goal

pub returns-clause-reading : goal.returns-clause-reading
returns-clause-reading g c = λ hours found at.
    reading_at hours found c.args.self.now g.C.Clock.tells (g.C.Clock.upcoming c.args.clock.now) at 0 c.args.self.now c.told.result (unmoved c.args.self.now 0 refl) (λ none. none)
    c.told.ensures.shown c.told.ensures.within c.told.ensures.told
