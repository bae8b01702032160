use Rattle.std.proofs.Common.{◌==◌, List, Some, None, sym, ap, subst}
use Rattle.zb_table.specs.Rows.{Ascend}
use Rattle.std.specs.List.{find}
use Rattle.zb_exchange_records.specs.declared.message.MessagePublished.{MessagePublished}
use Rattle.zb_views.specs.declared.job.Job.{Job}
use Rattle.zb_views.specs.declared.timer.Timer.{Timer}
use Rattle.zb_lists.proofs.ListedLemmas.{none_listed}
use Rattle.zb_state.specs.Listing.{message_in, job_in, timer_in, given_until, offered_as}
use Rattle.zb_state.proofs.listing.Listing.empty.Goals as goal

pub returns : goal.returns
returns c = λ facts no_messages no_jobs no_timers. record {
  ascend = subst (λ (ms : List MessagePublished). Ascend (λ m. m.key) 0 ms) (sym no_messages) tt;
  rows = record {
    messages_listed = none_listed (λ (m : MessagePublished). Some m.deadline) (λ m. Some (m.name, m.correlation_key)) (message_in facts) c.empty.result c.empty.ensures.moments c.empty.ensures.keys
        (λ k. ap (λ (ms : List MessagePublished). find (λ m. m.key == k) ms) no_messages);
    jobs_listed = none_listed given_until offered_as (job_in facts) c.empty-2.result c.empty-2.ensures.moments c.empty-2.ensures.keys (λ k. ap (λ (js : List Job). find (λ j. j.key == k) js) no_jobs);
    timers_listed = none_listed (λ (t : Timer). Some t.due) (λ t. None) (timer_in facts) c.empty-3.result c.empty-3.ensures.moments c.empty-3.ensures.keys (λ k. ap (λ (ts : List Timer). find (λ t. t.key == k) ts) no_timers);
  };
}
