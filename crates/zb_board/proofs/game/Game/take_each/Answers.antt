use Rattle.std.proofs.Common.{◌≡◌, ℕ, ◌+◌, ◌<◌, length, get_or, map, take, List, sym, ap, ◌∙◌, arith}
use Rattle.std.proofs.lemmas.List.{length-map, get_or-map}
use Rattle.std.proofs.lemmas.List.Sums.{fold_more}
use Rattle.zb_tokens.specs.declared.board.Token.{Token}
use Rattle.zb_tokens.specs.declared.board.Spot.{Spot}
use Rattle.zb_tokens.specs.declared.board.Spot.TheVariants as spots
use Rattle.zb_tokens.specs.Board.{Board}
use Rattle.zb_tokens.specs.Edits.{without_first}
use Rattle.zb_tokens.specs.MoveEnter.{stands_at, without_each}
use Rattle.zb_board.proofs.game.Game.take_each.Goals as goal

pub loop-flow-preserved : goal.loop-flow-preserved
loop-flow-preserved c =
    let b = c.args.self.now in
    let i = c.loop-flow.flow-index in
    let flow : List ℕ = c.flow-item.result in
    let scope = c.args.scope in
    let on_flows = map {A = List ℕ} {B = Spot} (λ x. spots.OnFlow x) c.args.flows.now in
    let within : i < length c.args.flows.now = omega arith in
    let within' : i < length on_flows = omega (arith, within, length-map c.args.flows.now (λ (x : List ℕ). spots.OnFlow x)) in
    let at : get_or on_flows i (spots.OnFlow flow) ≡ spots.OnFlow flow = get_or-map (λ (x : List ℕ). spots.OnFlow x) c.args.flows.now i flow (spots.OnFlow flow) within ∙ ap (λ (x : List ℕ). spots.OnFlow x) (sym c.flow-item.is) in
    let more : without_each scope (take (i + 1) on_flows) b.tokens ≡ without_first (stands_at scope (spots.OnFlow flow)) (without_each scope (take i on_flows) b.tokens) =
    fold_more (λ (left : List Token) (spot : Spot). without_first (stands_at scope spot) left) b.tokens on_flows i (spots.OnFlow flow) within' ∙ ap (λ (spot : Spot). without_first (stands_at scope spot) (without_each scope (take i on_flows) b.tokens)) at in
    c.in_ok-take_first.ensures
    ∙ (ap (λ (s : Spot). record c.loop-flow.self { tokens = without_first (stands_at scope s) c.loop-flow.self.tokens }) (c.on-spot.ensures ∙ ap (λ (x : List ℕ). spots.OnFlow x) c.as_str.ensures)
    ∙ (ap (λ (x : Board). record x { tokens = without_first (stands_at scope (spots.OnFlow flow)) x.tokens }) c.loop-flow.invariant
    ∙ ap (λ (ts : List Token). record b { tokens = ts }) (sym more)))
