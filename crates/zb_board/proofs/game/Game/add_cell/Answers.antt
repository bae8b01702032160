use Rattle.std.proofs.Common.{◌≡◌, ℕ, ◌==◌, ◌&&◌, Bool, true, cond, ap, ◌∙◌, rules}
use Rattle.zb_table.specs.Rows.{are_below}
use Rattle.zb_pairs.specs.Pairs.{has_pair}
use Rattle.zb_pairs.proofs.PairLemmas.{same_place}
use Rattle.zb_tokens.specs.declared.board.Cell.{Cell}
use Rattle.zb_board.specs.Indexed.{is_kept}
use Rattle.zb_board.proofs.IndexedLemmas.{kept_cell}
use Rattle.zb_board.proofs.game.Game.add_cell.Goals as goal
use Rattle.zb_board.proofs.game.Game.add_cell.Goals.{then-self, else-self}

pub invariant_of-self-2 : goal.invariant_of-self-2
invariant_of-self-2 c = λ ascends. elim c.if-self.branch [
  | then-self w ↦
      let cell = c.args.cell in
      let last : w.comes_newest-ascends.result ≡ true = search rules in
      let below : are_below (λ (x : Cell). x.key) cell.key c.self.inside.cells ≡ true = w.comes_newest-ascends.ensures.below last in
      let more : (scope key : ℕ) → has_pair c.insert.new.self scope key ≡ cond ((cell.scope == scope) && (cell.key == key)) true (has_pair c.self.inside.children scope key) =
      λ s k. c.in_ok-insert.ensures.updates.0 (s, k) ∙ ap (λ (t : Bool). cond t true (has_pair c.self.inside.children s k)) (same_place cell.scope cell.key s k) in
      let still : (k : ℕ) → is_kept c.self.inside.ready k ≡ true → is_kept c.keep.new.keys k ≡ true = c.in_ok-keep.ensures.others in
      rw c.in_ok-push.ensures.added (kept_cell _ _ _ _ _ _ _ (c.self.invariant w.if-self.true) cell _ _ below (w.comes_newest-ascends.ensures.newer last) c.requires more still c.in_ok-keep.ensures.kept)
  | else-self w ↦ absurd (search rules)
]
