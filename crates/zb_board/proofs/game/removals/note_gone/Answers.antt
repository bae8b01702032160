use Rattle.std.proofs.Common.{Bool, false, cond, ap, ◌∙◌}
use Rattle.zb_pairs.specs.Pairs.{has_pair}
use Rattle.zb_pairs.proofs.PairLemmas.{same_place}
use Rattle.zb_board.proofs.game.removals.note_gone.Goals as goal

pub returns-clause-fewer : goal.returns-clause-fewer
returns-clause-fewer c = λ s k. c.remove.ensures.updates.0 (s, k) ∙ ap (λ (t : Bool). cond t false (has_pair c.args.children.now s k)) (same_place c.args.around c.args.key s k)
