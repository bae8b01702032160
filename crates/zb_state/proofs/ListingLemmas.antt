-- What is listed of a state, as an event is taken in.
use Rattle.std.proofs.Common.{◌≡◌, ◌==◌, List, sym, ap, ◌∙◌}
use Rattle.std.specs.List.{find}
use Rattle.zb_exchange_records.specs.declared.message.MessagePublished.{MessagePublished}
use Rattle.zb_model.specs.declared.record.Event.{Event}
use Rattle.zb_pairs.specs.Pairs.{is_number}
use Rattle.zb_views.specs.declared.job.Job.{Job}
use Rattle.zb_views.specs.declared.timer.Timer.{Timer}
use Rattle.zb_jobs.specs.Table.{HaveOwnCells}
use Rattle.zb_state.specs.declared.facts.Facts.{Facts}
use Rattle.zb_tables.specs.declared.named.Named.{Named}
use Rattle.zb_state.specs.Listing.{IsSameElse, message_in, job_in, timer_in}
use Rattle.zb_tables.specs.Named.{named_message, named_job, named_timer}
use Rattle.zb_state.specs.State.{HasTakenRows}
use Rattle.zb_tables.proofs.NamedLemmas.{messages_else, jobs_else, timers_else}

-- an event leaves the rows that it doesn't name
pub same_else : (e : Event) (named : Named) (before after : Facts) → named.message ≡ named_message e → named.job ≡ named_job before.tables.jobs e → named.timer ≡ named_timer e → HaveOwnCells before.tables.jobs
    → HasTakenRows e before after → IsSameElse named before after
same_else e named before after message job timer own took = record {
  messages = λ k other. ap (λ (ms : List MessagePublished). find (λ m. m.key == k) ms) took.messages ∙ messages_else e before.messages k (ap (is_number k) (sym message) ∙ other);
  jobs = λ k other. ap (λ (js : List Job). find (λ j. j.key == k) js) took.jobs ∙ jobs_else e before.tables.jobs own k (ap (is_number k) (sym job) ∙ other);
  timers = λ k other. ap (λ (ts : List Timer). find (λ t. t.key == k) ts) took.timers ∙ timers_else e before.tables.timers k (ap (is_number k) (sym timer) ∙ other);
}

-- the same facts have the same rows
pub same_facts : (named : Named) (before after : Facts) → after ≡ before → IsSameElse named before after
same_facts named before after same = record {
  messages = λ k other. ap (λ (f : Facts). message_in f k) same;
  jobs = λ k other. ap (λ (f : Facts). job_in f k) same;
  timers = λ k other. ap (λ (f : Facts). timer_in f k) same;
}
