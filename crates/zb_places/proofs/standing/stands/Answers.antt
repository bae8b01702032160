use Rattle.std.proofs.Common.{is_some, sym, ap, ◌∙◌}
use Rattle.zb_tokens.specs.MoveEnter.{stands_at}
use Rattle.zb_places.proofs.HeldLemmas.{any_number}
use Rattle.zb_places.proofs.standing.stands.Goals as goal

pub returns : goal.returns
returns c = c.is_some.ensures ∙ (ap is_some c.first_at.ensures.first ∙ sym (any_number (stands_at c.args.place.now.scope c.args.place.now.spot) c.args.tokens.now))
