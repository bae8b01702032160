use Rattle.std.proofs.Common.{◌==◌, not, ap, ◌∙◌}
use Rattle.std.proofs.lemmas.Result.{on_ok_weaker}
use Rattle.zb_tokens.specs.declared.board.Token.{Token}
use Rattle.zb_places.specs.Places.{held_tokens, count_in_scope}
use Rattle.zb_places.proofs.HeldLemmas.{filter_row, scope_out}
use Rattle.zb_places.proofs.taking.take_scope.Goals as goal

pub returns-clause-left : goal.returns-clause-left
returns-clause-left c = on_ok_weaker c.take_group.result (λ is. ap (λ rows. held_tokens rows) is ∙ filter_row (λ (t : Token). not (t.scope == c.args.scope)) c.args.tokens.now) c.take_group.ensures.ok

pub returns-clause-fewer : goal.returns-clause-fewer
returns-clause-fewer c =
    let rows = c.args.tokens.now in
    on_ok_weaker c.take_group.result (λ is. record {
      stays = λ h. not (h.row.scope == c.args.scope);
      among = is;
      elsewhere = λ other apart. ap (λ left. count_in_scope other (held_tokens left)) is
          ∙ (ap (count_in_scope other) (filter_row (λ (t : Token). not (t.scope == c.args.scope)) rows) ∙ scope_out c.args.scope other apart (held_tokens rows));
    }) c.take_group.ensures.ok
