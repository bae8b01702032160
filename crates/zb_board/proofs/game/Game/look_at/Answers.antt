use Rattle.std.proofs.Common.{◌≡◌, false, sym, subst, rules}
use Rattle.zb_tokens.specs.Board.{Board}
use Rattle.zb_board.specs.Indexed.{is_awake}
use Rattle.zb_board.proofs.IndexedLemmas.{kept_looked}
use Rattle.zb_board.proofs.game.Game.look_at.Goals as goal

pub invariant_of-self : goal.invariant_of-self
invariant_of-self c = λ ascends.
    let rests : is_awake c.args.self.now c.args.key ≡ false = search rules in
    kept_looked _ _ _ _ _ _ _ (c.self.invariant ascends) c.args.key _ (subst (λ (b : Board). is_awake b c.args.key ≡ false) (sym c.self.view_is) rests) c.forget.ensures
