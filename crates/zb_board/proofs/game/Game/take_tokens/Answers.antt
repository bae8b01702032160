use Rattle.std.proofs.Common.{◌≡◌, ◌==◌, not, false, List, refl, sym, ap, rules}
use Rattle.std.specs.List.{list_any}
use Rattle.zb_tokens.specs.declared.board.Token.{Token}
use Rattle.zb_places.specs.Places.{held_tokens}
use Rattle.zb_board.proofs.ComingLemmas.{awaited_emptied}
use Rattle.zb_board.proofs.IndexedLemmas.{kept_taken}
use Rattle.zb_board.proofs.SweepLemmas.{all_kept}
use Rattle.zb_board.proofs.game.Game.take_tokens.Goals as goal

pub returns-then-not-has_token : goal.returns-then-not-has_token
returns-then-not-has_token c =
    let b = c.args.self.now in
    let none : list_any (λ (t : Token). t.scope == c.args.scope) b.tokens ≡ false = search rules in
    ap (λ (ts : List Token). record b { tokens = ts }) (sym (all_kept (λ (t : Token). not (t.scope == c.args.scope)) (λ (t : Token). t.scope == c.args.scope) b.tokens (λ t other. ap not other) none))

pub invariant_of-self-2 : goal.invariant_of-self-2
invariant_of-self-2 c = λ ascends.
    kept_taken _ _ _ _ _ _ _ (c.self.invariant ascends) c.args.scope c.take_scope.new.tokens c.wake.new.ready c.self.inside.coming refl c.in_ok-take_scope.ensures.fewer
    (awaited_emptied (record { models = c.self.inside.models; cells = c.self.inside.cells; tokens = held_tokens c.self.inside.tokens; incidents = c.self.inside.incidents }) c.self.inside.coming c.args.scope c.self.inside.tokens c.take_scope.new.tokens refl c.in_ok-take_scope.ensures.fewer c.in_ok-take_scope.ensures.rows)
    c.in_ok-wake.ensures.still c.in_ok-wake.ensures.woken c.wake.ensures.order
