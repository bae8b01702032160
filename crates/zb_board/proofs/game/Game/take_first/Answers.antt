use Rattle.std.proofs.Common.{◌∙◌, refl}
use Rattle.zb_places.specs.Places.{held_tokens}
use Rattle.zb_board.proofs.ComingLemmas.{awaited_taken}
use Rattle.zb_board.proofs.IndexedLemmas.{kept_taken}
use Rattle.zb_board.proofs.game.Game.take_first.Goals as goal

pub invariant_of-self-2 : goal.invariant_of-self-2
invariant_of-self-2 c = λ ascends.
    let scope = c.args.place.now.scope in
    let spot = c.args.place.now.spot in
    let rows = c.self.inside.tokens in
    let left = c.take_first-taken.new.tokens in
    kept_taken _ _ _ _ _ _ _ (c.self.invariant ascends) scope left c.wake.new.ready c.note_taken.new.coming refl c.take_first-taken.ensures.fewer
    (awaited_taken (record { models = c.self.inside.models; cells = c.self.inside.cells; tokens = held_tokens rows; incidents = c.self.inside.incidents }) c.self.inside.coming c.note_taken.new.coming scope spot rows left c.take_first-taken.result refl c.take_first-taken.ensures (λ n is. c.in_ok-note_taken.ensures.next n (c.first_at-next.ensures.first ∙ is)) (λ n other. c.in_ok-note_taken.ensures.others n other))
    c.in_ok-wake.ensures.still c.in_ok-wake.ensures.woken c.wake.ensures.order
