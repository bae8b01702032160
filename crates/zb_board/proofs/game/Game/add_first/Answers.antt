use Rattle.std.proofs.Common.{◌≡◌, ℕ, List, [], ◌∷◌, ◌++◌, true, false, refl, ap, subst, ◌∙◌, rules}
use Rattle.std.specs.List.{list_any}
use Rattle.zb_table.specs.Rows.{Ascend}
use Rattle.zb_groups.specs.declared.held.Held.{Held}
use Rattle.zb_tokens.specs.Board.{Board}
use Rattle.zb_tokens.specs.declared.board.Token.{Token}
use Rattle.zb_tokens.specs.MoveEnter.{stands_at}
use Rattle.zb_places.specs.Places.{held_tokens, is_kept}
use Rattle.zb_board.specs.Searches.{scope_model, AreMet}
use Rattle.zb_board.proofs.ComingLemmas.{awaited_first, last_found}
use Rattle.zb_board.proofs.IndexedLemmas.{kept_token}
use Rattle.zb_board.proofs.game.Game.add_first.Goals as goal

pub invariant_of-self-3 : goal.invariant_of-self-3
invariant_of-self-3 c = λ ascends.
    let rows = c.self.inside.tokens in
    let token = c.args.token in
    let b : Board = record { models = c.self.inside.models; cells = c.self.inside.cells; tokens = held_tokens rows; incidents = c.self.inside.incidents } in
    let new : Held Token = record { number = c.in_ok-number.number; row = token } in
    let coming = c.self.inside.coming in
    let coming' = c.keep_all.new.keys in
    let added : c.push.new.self ≡ rows ++ new ∷ [] = c.in_ok-number.ensures.row in
    let up : Ascend (λ (h : Held Token). h.number) 0 (rows ++ new ∷ []) = rw (← added) c.push.ensures.order in
    let none : list_any (stands_at token.scope token.spot) b.tokens ≡ false = ap (λ (x : Board). list_any (stands_at token.scope token.spot) x.tokens) c.self.view_is ∙ c.requires in
    let own : is_kept coming' new.number ≡ true = c.in_ok-keep_all.ensures.others new.number c.in_ok-keep.ensures.kept in
    let still : (k : ℕ) → is_kept coming k ≡ true → is_kept coming' k ≡ true = λ k is. c.in_ok-keep_all.ensures.others k (c.in_ok-keep.ensures.others k is) in
    let numbers : c.as_slice.result.now ≡ c.in_ok-met.met = search rules in
    let are_met : AreMet (scope_model b token.scope) (rows ++ new ∷ []) new.number c.in_ok-met.met =
    subst (λ (l : List (Held Token)). AreMet (scope_model b token.scope) l new.number c.in_ok-met.met) added (rw (← c.scope_model.ensures) c.in_ok-met.ensures) in
    rw added (kept_token _ _ _ _ _ _ _ (c.self.invariant ascends) new coming' up refl
    (awaited_first b new coming coming' rows refl still none own
    (λ m h found first its apart counts comes. c.in_ok-keep_all.ensures.kept h.number (ap (λ (l : List ℕ). is_kept l h.number) numbers ∙ are_met m new h found (last_found 0 rows new up) first its apart counts comes))))
