use Rattle.std.proofs.Common.{◌==◌, ◌≡◌, ℕ, List, Some, sym, ap, subst, ◌∙◌}
use Rattle.zb_table.specs.Rows.{Ascend}
use Rattle.zb_timers.specs.Table.{keys_on}
use Rattle.zb_views.specs.declared.timer.Timer.{Timer}
use Rattle.zb_pairs.proofs.UnderLemmas.{keys_of_ascend}
use Rattle.zb_timers.proofs.timers.Timers.on.Goals as goal

-- the keys of the timers of the cell
keys : (c : goal.After-from_vec) → c.from_vec.result ≡ keys_on c.args.cell c.args.self.now
keys c = c.from_vec.ensures ∙ (c.in_ok-of_cell.ensures.keys ∙ ap (keys_on c.args.cell) c.self.view_is)

pub returns-clause-keys : goal.returns-clause-keys
returns-clause-keys c = keys c

pub returns-clause-order : goal.returns-clause-order
returns-clause-order c =
    subst (λ (ks : List ℕ). Ascend (λ k. k) 0 ks) (sym (keys c))
    (keys_of_ascend (λ (t : Timer). t.key) (λ (t : Timer). t.cell == c.args.cell) 0 c.args.self.now (subst (λ (ts : List Timer). Ascend (λ (t : Timer). t.key) 0 ts) c.self.view_is c.of_cell.ensures.order))
