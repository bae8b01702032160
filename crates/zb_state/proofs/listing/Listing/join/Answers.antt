use Rattle.std.proofs.Common.{◌≡◌, ℕ, List, Some, None, false, sym, subst}
use Rattle.zb_exchange_records.specs.declared.message.MessagePublished.{MessagePublished}
use Rattle.zb_pairs.specs.Pairs.{is_number}
use Rattle.zb_views.specs.declared.job.Job.{Job}
use Rattle.zb_views.specs.declared.timer.Timer.{Timer}
use Rattle.zb_lists.specs.Listed.{row_found, AreListed}
use Rattle.zb_state.specs.Listing.{message_in, job_in, timer_in, given_until, offered_as}
use Rattle.zb_state.proofs.listing.Listing.join.Goals as goal

pub returns : goal.returns
returns c = λ before was same.
    let named = c.args.named.now in
    record {
      ascend = c.rows.ensures.order;
      rows = record {
        messages_listed =
            subst (λ (ms : List MessagePublished). AreListed (λ m. Some m.deadline) (λ m. Some (m.name, m.correlation_key)) (row_found (λ m. m.key) ms) c.join.new.self) c.rows.ensures.rows
            (c.in_ok-join.ensures (message_in before) was.messages_listed
            (subst (λ (ms : List MessagePublished). (k : ℕ) → is_number k named.message ≡ false → row_found (λ m. m.key) ms k ≡ message_in before k) (sym c.rows.ensures.rows) same.messages));
        jobs_listed =
            subst (λ (js : List Job). AreListed given_until offered_as (row_found (λ j. j.key) js) c.join-2.new.self) c.rows-2.ensures.rows
            (c.in_ok-join-2.ensures (job_in before) was.jobs_listed (subst (λ (js : List Job). (k : ℕ) → is_number k named.job ≡ false → row_found (λ j. j.key) js k ≡ job_in before k) (sym c.rows-2.ensures.rows) same.jobs));
        timers_listed =
            subst (λ (ts : List Timer). AreListed (λ t. Some t.due) (λ t. None) (row_found (λ t. t.key) ts) c.join-3.new.self) c.rows-3.ensures
            (c.in_ok-join-3.ensures (timer_in before) was.timers_listed (subst (λ (ts : List Timer). (k : ℕ) → is_number k named.timer ≡ false → row_found (λ t. t.key) ts k ≡ timer_in before k) (sym c.rows-3.ensures) same.timers));
      };
    }
