use Rattle.std.proofs.Common.{option_map, ap, ◌∙◌}
use Rattle.zb_groups.specs.declared.held.Held.{Held}
use Rattle.zb_tokens.specs.declared.board.Token.{Token}
use Rattle.zb_places.proofs.SpotLemmas.{found_there}
use Rattle.zb_places.proofs.standing.first_at.Goals as goal

pub returns-clause-first : goal.returns-clause-first
returns-clause-first c = c.first_at.ensures.first ∙ ap (option_map (λ (h : Held Token). h.number)) (found_there c.args.place.now.scope c.args.place.now.spot c.number.result c.args.tokens.now c.number.ensures)
