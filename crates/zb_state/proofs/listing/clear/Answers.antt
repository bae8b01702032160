use Rattle.zb_state.proofs.listing.clear.Goals as goal

-- what has no rows has no lists
pub returns-clause-listing : goal.returns-clause-listing
returns-clause-listing c = c.empty.ensures c.clear.new.self c.clear.ensures.messages c.clear.ensures.jobs c.clear.ensures.timers
