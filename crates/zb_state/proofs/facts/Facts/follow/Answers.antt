use Rattle.std.proofs.Common.{◌≡◌, ◌+◌, max, arith}
use Rattle.zb_base.specs.Key.{key_of}
use Rattle.zb_views.specs.View.{greatest_among, keys_in}
use Rattle.zb_tables.proofs.KeyLemmas.{has_place_in_jobs, has_place_in_waiting, tables_below, waiting_below}
use Rattle.zb_state.proofs.StartLemmas.{has_place_in_starts, starts_below}
use Rattle.zb_state.proofs.facts.Facts.follow.Goals as goal

pub apply-requires-clause-jobs : goal.apply-requires-clause-jobs
apply-requires-clause-jobs c =
    let s = c.args.self.now in
    has_place_in_jobs s.place s.counter s.messages s.tables.jobs s.tables.timers s.in_order c.args.event.now c.requires.draws

pub apply-requires-clause-starts : goal.apply-requires-clause-starts
apply-requires-clause-starts c =
    let s = c.args.self.now in
    has_place_in_starts (key_of s.place (s.counter + 1)) s.left s.tables.starts.starts c.args.change s.begun c.requires.begins

pub apply-requires-clause-waits : goal.apply-requires-clause-waits
apply-requires-clause-waits c =
    let s = c.args.self.now in
    has_place_in_waiting s.place s.counter s.tables.jobs s.tables.process_subscriptions c.args.event.now s.waiting c.requires.draws

pub invariant_of-self : goal.invariant_of-self
invariant_of-self c =
    let s = c.args.self.now in
    let e = c.args.event.now in
    let raised : c.max-self.result ≡ max s.counter (greatest_among s.place (keys_in e)) = omega (arith, c.max-self.ensures, c.greatest_counter_of.ensures.value) in
    record {
      drawn = omega (arith, s.drawn, c.greatest_counter_of.ensures.small, c.max-self.ensures);
      in_order =
          tables_below s.place s.counter c.max-self.result s.messages s.tables c.apply.new.self e c.args.change c.apply.result raised c.requires.draws s.in_order
          c.apply.ensures.taken c.apply.ensures.no_jobs c.apply.ensures.no_timers;
      waiting =
          waiting_below s.place s.counter c.max-self.result s.tables c.apply.new.self e c.args.change c.apply.result raised c.requires.draws s.waiting c.apply.ensures.taken c.apply.ensures.none_waits;
      begun =
          starts_below s.place s.counter c.max-self.result s.left c.left_behind-self.result e c.args.change s.tables c.apply.new.self c.apply.result raised c.requires.draws c.requires.begins c.left_behind-self.ensures.root s.begun
          c.apply.ensures.taken c.apply.ensures.no_starts;
    }
