use Rattle.zb_rules.proofs.RunLaws.{runs_are_taken, run_has_item, run_sets_two, bodies_keep_items}
use Rattle.zb_rules.proofs.laws.runs_are_for_items_in_order.Goals as goal

pub returns-clause-taken : goal.returns-clause-taken
returns-clause-taken c = runs_are_taken

pub returns-clause-item : goal.returns-clause-item
returns-clause-item c = run_has_item

pub returns-clause-set : goal.returns-clause-set
returns-clause-set c = run_sets_two

pub returns-clause-kept : goal.returns-clause-kept
returns-clause-kept c = bodies_keep_items
