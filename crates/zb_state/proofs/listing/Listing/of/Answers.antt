use Rattle.std.proofs.Common.{List, Some, None, subst}
use Rattle.zb_exchange_records.specs.declared.message.MessagePublished.{MessagePublished}
use Rattle.zb_views.specs.declared.job.Job.{Job}
use Rattle.zb_views.specs.declared.timer.Timer.{Timer}
use Rattle.zb_lists.specs.Listed.{row_found, AreListed}
use Rattle.zb_state.specs.Listing.{given_until, offered_as}
use Rattle.zb_state.proofs.listing.Listing.of.Goals as goal

pub returns : goal.returns
returns c = record {
  ascend = c.rows.ensures.order;
  rows = record {
    messages_listed = subst (λ (ms : List MessagePublished). AreListed (λ m. Some m.deadline) (λ m. Some (m.name, m.correlation_key)) (row_found (λ m. m.key) ms) c.in_ok-of.field-0) c.rows.ensures.rows c.in_ok-of.ensures;
    jobs_listed = subst (λ (js : List Job). AreListed given_until offered_as (row_found (λ j. j.key) js) c.in_ok-of-2.field-0) c.rows-2.ensures.rows c.in_ok-of-2.ensures;
    timers_listed = subst (λ (ts : List Timer). AreListed (λ t. Some t.due) (λ t. None) (row_found (λ t. t.key) ts) c.in_ok-of-3.field-0) c.rows-3.ensures c.in_ok-of-3.ensures;
  };
}
