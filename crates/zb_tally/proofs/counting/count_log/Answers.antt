use Rattle.std.proofs.Common.{◌≡◌, ◌≤◌, [], List, length, take, refl, sym, ap, ◌∙◌, subst, arith}
use Rattle.std.proofs.lemmas.List.{take_all, length-map}
use Rattle.zb_model.specs.Record.{bytes_of}
use Rattle.zb_model.specs.declared.record.Batch.{Batch}
use Rattle.zb_model.specs.declared.record.Event.{Event}
use Rattle.zb_views.specs.View.{events_of}
use Rattle.zb_views.proofs.ViewLaws.{events_of_more}
use Rattle.zb_partition.specs.Log.{bodies_of}
use Rattle.zb_state.specs.State.{IsStateOf}
use Rattle.zb_tally.proofs.CountLemmas.{AreCounted, counted_none, counted_more, front_more, tally_is}
use Rattle.zb_tally.proofs.counting.count_log.Goals as goal

pub loop-i-init : goal.loop-i-init
loop-i-init g c = record {
  same = record { limit = refl; count = refl; last_gate = refl; whole = refl };
  place = c.empty-state.ensures.place;
  kept = λ tells bodies has. has;
  state = λ tells all has fits. c.empty-state.ensures.state;
  counted = λ tells all has fits. subst (AreCounted []) (sym c.none-tally.ensures) counted_none;
}

pub count_frame-requires : goal.count_frame-requires
count_frame-requires g c = omega (arith, c.loop-i.invariant.same.count, c.count-i-end.ensures, c.loop-i-test.true)

pub loop-i-preserved : goal.loop-i-preserved
loop-i-preserved g c =
    let before = c.loop-i.invariant in
    let said = c.in-Some.ensures in
    record {
      same = record {
        limit = said.same.limit ∙ before.same.limit;
        count = said.same.count ∙ before.same.count;
        last_gate = said.same.last_gate ∙ before.same.last_gate;
        whole = said.same.whole ∙ before.same.whole;
      };
      place = said.place ∙ before.place;
      kept = λ tells bodies has. said.kept tells bodies (before.kept tells bodies has);
      state = λ tells all has fits.
          let next = said.counted tells all (before.kept tells (bodies_of all) has) fits (events_of (take c.loop-i.i all)) (before.state tells all has fits) in
          let front = ap events_of (front_more all c.loop-i.i next.0 next.1) ∙ events_of_more (take c.loop-i.i all) next.0 in
          subst (λ (es : List Event). IsStateOf es c.count_frame.new.state) (sym front) next.3;
      counted = λ tells all has fits.
          let next = said.counted tells all (before.kept tells (bodies_of all) has) fits (events_of (take c.loop-i.i all)) (before.state tells all has fits) in
          subst (λ (log : List Batch). AreCounted log c.in-Some.counted) (sym (front_more all c.loop-i.i next.0 next.1))
          (counted_more (take c.loop-i.i all) next.0 c.loop-i.tally c.in-Some.counted next.2 (before.counted tells all has fits));
    }

pub returns : goal.returns
returns g c = λ tells all stands fits.
    let has = c.in_ok-log.ensures tells all stands in
    let count : length (bodies_of all) ≡ length all = length-map all bytes_of in
    let done : length all ≤ c.loop-i.i = omega (arith, count, has.frames.count, c.count-i-end.ensures, c.loop-i-test.false) in
    let whole = take_all c.loop-i.i all done in
    let state = subst (λ (log : List Batch). IsStateOf (events_of log) c.loop-i.state) whole (c.loop-i.invariant.state tells all has fits) in
    let counts = subst (λ (log : List Batch). AreCounted log c.loop-i.tally) whole (c.loop-i.invariant.counted tells all has fits) in
    let said = c.count_keys-counted.ensures in
    tally_is c.args.place all c.loop-i.tally c.count_keys-counted.result counts said.batches said.accepted said.rejected said.events (said.cells (events_of all) state) (said.messages (events_of all) state)
