use Rattle.std.proofs.Common.{◌==◌, ◌≡◌, ℕ, List, sym, ap, subst, ◌∙◌}
use Rattle.zb_table.specs.Rows.{Ascend}
use Rattle.zb_subscriptions.specs.Waiting.{waiting_keys_on}
use Rattle.zb_views.specs.declared.process_subscription.ProcessSubscription.{ProcessSubscription}
use Rattle.zb_pairs.proofs.UnderLemmas.{keys_of_ascend}
use Rattle.zb_subscriptions.proofs.process_subscriptions.ProcessSubscriptions.on.Goals as goal

-- the keys of the subscriptions of the cell
keys : (c : goal.After-from_vec) → c.from_vec.result ≡ waiting_keys_on c.args.cell c.args.self.now
keys c = c.from_vec.ensures ∙ (c.in_ok-of_cell.ensures.keys ∙ ap (waiting_keys_on c.args.cell) c.self.view_is)

pub returns-clause-keys : goal.returns-clause-keys
returns-clause-keys c = keys c

pub returns-clause-order : goal.returns-clause-order
returns-clause-order c =
    subst (λ (ks : List ℕ). Ascend (λ k. k) 0 ks) (sym (keys c))
    (keys_of_ascend (λ (s : ProcessSubscription). s.key) (λ (s : ProcessSubscription). s.cell == c.args.cell) 0 c.args.self.now (subst (λ (ss : List ProcessSubscription). Ascend (λ (s : ProcessSubscription). s.key) 0 ss) c.self.view_is c.of_cell.ensures.order))
