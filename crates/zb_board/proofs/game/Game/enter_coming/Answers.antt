use Rattle.std.proofs.Common.{◌≡◌, ℕ, ◌==◌, ◌&&◌, ◌∷◌, ◌++◌, [], Bool, true, cond, refl, ap, ◌∙◌, arith, rules}
use Rattle.std.proofs.lemmas.Bool.Decides.{nat_tests}
use Rattle.zb_table.specs.Rows.{are_below}
use Rattle.zb_pairs.specs.Pairs.{has_pair}
use Rattle.zb_pairs.proofs.PairLemmas.{same_place}
use Rattle.zb_tokens.specs.declared.board.Cell.{Cell}
use Rattle.zb_tokens.specs.Board.{Board}
use Rattle.zb_places.specs.Places.{held_tokens}
use Rattle.zb_board.specs.Indexed.{is_kept}
use Rattle.zb_board.proofs.ChildLemmas.{has_first}
use Rattle.zb_board.proofs.ComingLemmas.{awaited_taken}
use Rattle.zb_board.proofs.IndexedLemmas.{kept_cell, kept_taken}
use Rattle.zb_board.proofs.game.Game.enter_coming.Goals as goal
use Rattle.zb_board.proofs.game.Game.enter_coming.Goals.{then-self, else-self}

pub invariant_of-self-2 : goal.invariant_of-self-2
invariant_of-self-2 c = λ ascends. elim c.if-self.branch [
  | then-self w ↦
      let cell = c.args.cell in
      let rows = c.self.inside.tokens in
      let left = c.take_first-taken.new.tokens in
      let place = c.take_first-taken.ensures in
      let b : Board = record { models = c.self.inside.models; cells = c.self.inside.cells ++ cell ∷ []; tokens = held_tokens rows; incidents = c.self.inside.incidents } in
      let last : w.comes_newest-ascends.result ≡ true = search rules in
      let below : are_below (λ (x : Cell). x.key) cell.key c.self.inside.cells ≡ true = w.comes_newest-ascends.ensures.below last in
      let more : (scope key : ℕ) → has_pair c.insert.new.self scope key ≡ cond ((cell.scope == scope) && (cell.key == key)) true (has_pair c.self.inside.children scope key) =
      λ s k. c.in_ok-insert.ensures.updates.0 (s, k) ∙ ap (λ (t : Bool). cond t true (has_pair c.self.inside.children s k)) (same_place cell.scope cell.key s k) in
      let scopes : (cell.scope == cell.scope) ≡ true = grind (arith, nat_tests) in
      let keys : (cell.key == cell.key) ≡ true = grind (arith, nat_tests) in
      let there : has_pair c.insert.new.self cell.scope cell.key ≡ true = more cell.scope cell.key ∙ rw (scopes, keys) refl in
      let still : (k : ℕ) → is_kept c.self.inside.ready k ≡ true → is_kept c.keep.new.keys k ≡ true = c.in_ok-keep.ensures.others in
      let with_cell = kept_cell _ _ _ _ _ _ _ (c.self.invariant w.if-self.true) cell c.insert.new.self c.keep.new.keys below (w.comes_newest-ascends.ensures.newer last) c.requires more still c.in_ok-keep.ensures.kept in
      rw c.in_ok-push.ensures.added (kept_taken _ _ _ _ _ _ _ with_cell cell.scope left c.keep.new.keys c.note_taken.new.coming refl place.fewer
      (awaited_taken b c.self.inside.coming c.note_taken.new.coming cell.scope _ rows left c.take_first-taken.result refl place (λ n is. c.in_ok-note_taken.ensures.next n (c.first_at-next.ensures.first ∙ is)) (λ n other. c.in_ok-note_taken.ensures.others n other))
      (λ k is. is) (λ none. has_first cell.scope cell.key c.insert.new.self there none) c.insert.ensures.ordered)
  | else-self w ↦ absurd (search rules)
]
