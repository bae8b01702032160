use Rattle.std.proofs.Common.{◌∙◌, List, [], Option, ap, sym}
use Rattle.std.specs.Option.{option_map_or}
use Rattle.std.proofs.lemmas.Result.{on_ok_weaker}
use Rattle.zb_tokens.specs.declared.board.Opening.{Opening}
use Rattle.zb_tokens.specs.Board.{Board}
use Rattle.zb_tokens.specs.Catches.{openings_at}
use Rattle.zb_rules.specs.Behind.{catch_opened, catches_opened_on}
use Rattle.zb_rules.specs.Making.{each_made}
use Rattle.zb_state.specs.State.{partition_of}
use Rattle.zb_follow.proofs.MakerLemmas.{same_put}
use Rattle.zb_follow.proofs.catches.OpenedCatchesMaker.put.Goals as goal

pub returns-clause-ok : goal.returns-clause-ok
returns-clause-ok c =
    let p = partition_of c.args.state.now in
    let cell = c.args.self.0 in
    let opened : Option Board → List Opening = λ b. option_map_or (λ b. openings_at b c.args.moment cell) b [] in
    on_ok_weaker c.put.result
    (same_put (each_made (catch_opened p cell) c.as_slice-things.result.now) (catches_opened_on p c.args.moment cell) c.args.state.now c.put.new.state c.args.out.now c.put.new.out
    (λ es is. ap (λ (os : List Opening). each_made (catch_opened p cell) os es) (c.as_slice-things.ensures ∙ c.in_ok-openings.ensures ∙ ap opened (sym (c.game.ensures es is)))))
    c.put.ensures.ok
