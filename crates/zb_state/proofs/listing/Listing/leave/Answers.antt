use Rattle.std.proofs.Common.{List, Some, None, sym, subst}
use Rattle.zb_exchange_records.specs.declared.message.MessagePublished.{MessagePublished}
use Rattle.zb_views.specs.declared.job.Job.{Job}
use Rattle.zb_views.specs.declared.timer.Timer.{Timer}
use Rattle.zb_lists.specs.Listed.{row_found, without_named, AreListed}
use Rattle.zb_state.specs.Listing.{given_until, offered_as}
use Rattle.zb_state.proofs.listing.Listing.leave.Goals as goal

pub returns-clause-listing : goal.returns-clause-listing
returns-clause-listing c = λ was.
    let old = c.args.self.now in
    let named = c.args.named.now in
    record {
      messages_listed =
          subst (λ (ms : List MessagePublished). AreListed (λ m. Some m.deadline) (λ m. Some (m.name, m.correlation_key)) (without_named named.message (row_found (λ m. m.key) ms)) c.leave.new.self) c.rows.ensures.rows
          (c.leave.ensures (subst (λ (ms : List MessagePublished). AreListed (λ m. Some m.deadline) (λ m. Some (m.name, m.correlation_key)) (row_found (λ m. m.key) ms) old.messages) (sym c.rows.ensures.rows) was.rows.messages_listed));
      jobs_listed =
          subst (λ (js : List Job). AreListed given_until offered_as (without_named named.job (row_found (λ j. j.key) js)) c.leave-2.new.self) c.rows-2.ensures.rows
          (c.leave-2.ensures (subst (λ (js : List Job). AreListed given_until offered_as (row_found (λ j. j.key) js) old.jobs) (sym c.rows-2.ensures.rows) was.rows.jobs_listed));
      timers_listed =
          subst (λ (ts : List Timer). AreListed (λ t. Some t.due) (λ t. None) (without_named named.timer (row_found (λ t. t.key) ts)) c.leave-3.new.self) c.rows-3.ensures
          (c.leave-3.ensures (subst (λ (ts : List Timer). AreListed (λ t. Some t.due) (λ t. None) (row_found (λ t. t.key) ts) old.timers) (sym c.rows-3.ensures) was.rows.timers_listed));
    }
