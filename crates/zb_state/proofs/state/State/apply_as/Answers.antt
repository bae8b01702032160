use Rattle.zb_state.proofs.ListingLemmas.{same_else}
use Rattle.zb_state.proofs.state.State.apply_as.Goals as goal

pub invariant_of-self : goal.invariant_of-self
invariant_of-self c =
    c.relist.ensures.listing c.self.inside.facts (c.leave.ensures.listing c.self.invariant)
    (same_else c.args.event.now c.in_event-named.result c.self.inside.facts c.apply_as.new.self c.in_event-named.ensures.message c.in_event-named.ensures.job c.in_event-named.ensures.timer c.leave.ensures.cells c.in-Ok.ensures.rows)

pub invariant_of-self-in-Ok : goal.invariant_of-self-in-Ok
invariant_of-self-in-Ok c =
    c.relist.ensures.listing c.self.inside.facts (c.leave.ensures.listing c.self.invariant)
    (same_else c.args.event.now c.in_event-named.result c.self.inside.facts c.apply_as.new.self c.in_event-named.ensures.message c.in_event-named.ensures.job c.in_event-named.ensures.timer c.leave.ensures.cells c.in-Ok.ensures.rows)
