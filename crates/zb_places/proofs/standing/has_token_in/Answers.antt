use Rattle.std.proofs.Common.{◌==◌, sym, ◌∙◌}
use Rattle.zb_tokens.specs.declared.board.Token.{Token}
use Rattle.zb_places.proofs.HeldLemmas.{any_row}
use Rattle.zb_places.proofs.standing.has_token_in.Goals as goal

pub returns : goal.returns
returns c = c.has.ensures ∙ sym (any_row (λ (t : Token). t.scope == c.args.scope) c.args.tokens.now)
