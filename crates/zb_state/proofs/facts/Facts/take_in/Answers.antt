use Rattle.std.proofs.Common.{[], ap, ◌∙◌}
use Rattle.zb_views.specs.Standing.{standing_by}
use Rattle.zb_views.specs.Messages.{message_sort}
use Rattle.zb_tables.proofs.KeyLemmas.{has_place_in_messages, messages_below}
use Rattle.zb_state.proofs.StateLemmas.{state_more}
use Rattle.zb_state.proofs.facts.Facts.take_in.Goals as goal

pub take-requires : goal.take-requires
take-requires c =
    let mid = c.admit.new.self in
    rw c.in-Ok-follow.ensures.taken.messages (has_place_in_messages mid.place mid.counter mid.messages mid.tables.jobs mid.tables.timers mid.in_order mid.tables.jobs c.args.event c.in-Ok.ensures.draws)

pub invariant_of-self : goal.invariant_of-self
invariant_of-self c =
    let mid = c.admit.new.self in
    let s = c.follow.new.self in
    let took = c.in-Ok-follow.ensures.taken in
    record {
      drawn = s.drawn;
      waiting = s.waiting;
      begun = s.begun;
      in_order = rw took.place
          (messages_below mid.place mid.counter s.counter s.messages c.take.new.self mid.tables.jobs s.tables.jobs s.tables.timers c.args.event c.take.result
          took.counter c.in-Ok.ensures.draws (rw took.place at s.in_order) (c.take.ensures.ok []) c.take.ensures.err);
    }

pub returns-clause-state : goal.returns-clause-state
returns-clause-state c = λ es is.
    let took = c.in-Ok-follow.ensures.taken in
    state_more es c.args.event c.in-Ok.change c.args.self.now c.admit.new.self _ is c.admit.ensures.beside (c.in-Ok.ensures.applied es is) (c.in-Ok.ensures.played es is) (c.in-Ok.ensures.changes es is)
    (record {
      place = took.place;
      counter = took.counter;
      messages = c.in_ok-take.ensures.ok [] ∙ ap (standing_by message_sort [] c.args.event) took.messages;
      tables = took.tables;
      left = took.left;
      game = took.game;
    })
