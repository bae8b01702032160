use Rattle.zb_session.proofs.dial.Dial.told.Goals as goal

-- it was read once
pub returns-in-None-clause-readings : goal.returns-in-None-clause-readings
returns-in-None-clause-readings g c = (1, c.now.ensures.onward)
