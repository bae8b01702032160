use Rattle.std.proofs.Common.{[], ap, ◌∙◌}
use Rattle.zb_views.specs.Standing.{standing_by}
use Rattle.zb_views.specs.Jobs.{job_sort}
use Rattle.zb_views.specs.Messages.{message_sort}
use Rattle.zb_views.specs.Timers.{timer_sort}
use Rattle.zb_tables.specs.declared.tables.Tables.{Tables}
use Rattle.zb_tables.proofs.KeyLemmas.{has_place_in_messages, messages_below}
use Rattle.zb_state.proofs.StateLemmas.{state_more}
use Rattle.zb_state.proofs.facts.Facts.apply_as.Goals as goal

pub apply-requires : goal.apply-requires
apply-requires c =
    let mid = c.admit.new.self in
    rw c.in_ok-follow.ensures.taken.messages (has_place_in_messages mid.place mid.counter mid.messages mid.tables.jobs mid.tables.timers mid.in_order mid.tables.jobs c.args.event.now c.in_ok-change.ensures.draws)

pub invariant_of-self : goal.invariant_of-self
invariant_of-self c =
    let mid = c.admit.new.self in
    let s = c.follow.new.self in
    let took = c.in_ok-follow.ensures.taken in
    record {
      drawn = s.drawn;
      waiting = s.waiting;
      begun = s.begun;
      in_order = rw took.place
          (messages_below mid.place mid.counter s.counter s.messages c.apply.new.self mid.tables.jobs s.tables.jobs s.tables.timers c.args.event.now c.apply.result
          took.counter c.in_ok-change.ensures.draws (rw took.place at s.in_order) (c.apply.ensures.ok []) c.apply.ensures.err);
    }

pub returns-clause-state : goal.returns-clause-state
returns-clause-state c = λ es is.
    let took = c.in_ok-follow.ensures.taken in
    state_more es c.args.event.now c.in_ok-change.change c.args.self.now c.admit.new.self _ is c.admit.ensures.beside (c.in_ok-change.ensures.applied es is) (c.in_ok-change.ensures.played es is) (c.in_ok-change.ensures.changes es is)
    (record {
      place = took.place;
      counter = took.counter;
      messages = c.in_ok-apply.ensures.ok [] ∙ ap (standing_by message_sort [] c.args.event.now) took.messages;
      tables = took.tables;
      left = took.left;
      game = took.game;
    })

pub returns-clause-rows : goal.returns-clause-rows
returns-clause-rows c =
    let took = c.in_ok-follow.ensures.taken in
    let same = c.admit.ensures.beside in
    let e = c.args.event.now in
    record {
      messages = c.in_ok-apply.ensures.ok [] ∙ ap (standing_by message_sort [] e) (took.messages ∙ same.messages);
      jobs = took.tables.jobs ∙ ap (λ (t : Tables). standing_by job_sort [] e t.jobs) same.tables;
      timers = took.tables.timers ∙ ap (λ (t : Tables). standing_by timer_sort [] e t.timers) same.tables;
    }
