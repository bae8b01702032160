use Rattle.std.proofs.Common.{Some, sym, subst}
use Rattle.zb_places.specs.Places.{IsTokenTaken}
use Rattle.zb_places.proofs.TakingLemmas.{taken_one, taken_none}
use Rattle.zb_places.proofs.taking.take_first.Goals as goal

pub returns-in-Some : goal.returns-in-Some
returns-in-Some c =
    let scope = c.args.place.now.scope in
    let spot = c.args.place.now.spot in
    let rows = c.args.tokens.now in
    subst (λ left. IsTokenTaken scope spot rows (Some c.in-Some.number) left) (sym c.take.ensures.left) (taken_one scope spot rows c.first_at.ensures.order c.in-Some.number c.in-Some.ensures.first)

pub returns-in-None : goal.returns-in-None
returns-in-None c = taken_none c.args.place.now.scope c.args.place.now.spot c.args.tokens.now c.first_at.ensures.order c.in-None.ensures.first
