use Rattle.std.proofs.Common.{◌++◌, map, length, IsTrue, ◌∙◌, sym, ap, subst, arith}
use Rattle.std.proofs.lemmas.List.{length-map}
use Rattle.zb_outside.proofs.ClockLaws.{gone_further}
use Rattle.zb_session.specs.Answer.{found_in, entries_made}
use Rattle.zb_session.specs.Session.{streams_of, session_ends}
use Rattle.zb_engine.specs.Solo.{basis_in, partitions_in, stamps_in}
use Rattle.zb_serve.specs.Opening.{volumes_in}
use Rattle.zb_serve.specs.Slots.{AreAllSlotsLeft}
use Rattle.zb_serve.specs.Setting.{hours_of}
use Rattle.zb_serve.specs.WorkOff.{behind_of}
use Rattle.zb_serve.proofs.ClockLemmas.{at_first, by_hand_is}
use Rattle.zb_serve.proofs.ClosingLemmas.{files_count, some_stamps}
use Rattle.zb_serve.proofs.HaltLemmas.{closed_over, left_over}
use Rattle.zb_serve.proofs.WorkLemmas.{not_cut}
use Rattle.zb_serve.proofs.running.serve_engine.Goals as goal

pub work_off-end-requires : goal.work_off-end-requires
work_off-end-requires g c = λ uncut. c.serve_solo-end.ensures.uncut (not_cut c.serve_solo-end.result uncut)

pub returns-clause-some : goal.returns-clause-some
returns-clause-some g c =
    let solo = c.work_off-end.new.solo in
    some_stamps (λ list. list.items) c.close_run.result.stamps.items (stamps_in solo) c.close_run.ensures.stamps (omega (arith, length-map solo.stamps.items (λ list. list.items), solo.same, solo.some))

pub returns-clause-same : goal.returns-clause-same
returns-clause-same g c = λ start made.
    let hours = hours_of c.args.plan.now.clock g.C.Clock.tells (g.C.Clock.upcoming c.args.clock.now) in
    let over = c.serve_solo-end.ensures.over start hours made
    (at_first c.args.plan.now.clock g.C.Clock.tells (g.C.Clock.upcoming c.args.clock.now) c.new-dial.result c.goes_by_hand.result c.new-dial.ensures c.goes_by_hand.ensures) in
    let worked = c.work_off-end.ensures.worked start hours (found_in over.run.answers) (entries_made over.run.answers ++ over.rest) over.unlogged over.leaves (λ uncut. over.clock (not_cut c.serve_solo-end.result uncut)) in
    let left = left_over start c.work_off-end.new.solo (basis_in start) (behind_of hours (found_in over.run.answers) (entries_made over.run.answers ++ over.rest) over.unlogged c.serve_solo-end.result) c.work_off-end.result worked in
    ap length c.close_run.ensures.volumes ∙ (files_count (partitions_in c.work_off-end.new.solo) ∙ left.many)

pub returns-clause-slots : goal.returns-clause-slots
returns-clause-slots g c = λ start made.
    let hours = hours_of c.args.plan.now.clock g.C.Clock.tells (g.C.Clock.upcoming c.args.clock.now) in
    let over = c.serve_solo-end.ensures.over start hours made
    (at_first c.args.plan.now.clock g.C.Clock.tells (g.C.Clock.upcoming c.args.clock.now) c.new-dial.result c.goes_by_hand.result c.new-dial.ensures c.goes_by_hand.ensures) in
    let worked = c.work_off-end.ensures.worked start hours (found_in over.run.answers) (entries_made over.run.answers ++ over.rest) over.unlogged over.leaves (λ uncut. over.clock (not_cut c.serve_solo-end.result uncut)) in
    let left = left_over start c.work_off-end.new.solo (basis_in start) (behind_of hours (found_in over.run.answers) (entries_made over.run.answers ++ over.rest) over.unlogged c.serve_solo-end.result) c.work_off-end.result worked in
    subst (AreAllSlotsLeft (volumes_in start)) (sym c.close_run.ensures.volumes) left.slots

pub returns-clause-run : goal.returns-clause-run
returns-clause-run g c = λ start volumes made begun.
    let hours = hours_of c.args.plan.now.clock g.C.Clock.tells (g.C.Clock.upcoming c.args.clock.now) in
    let over = c.serve_solo-end.ensures.over start hours made
    (at_first c.args.plan.now.clock g.C.Clock.tells (g.C.Clock.upcoming c.args.clock.now) c.new-dial.result c.goes_by_hand.result c.new-dial.ensures c.goes_by_hand.ensures) in
    let worked = c.work_off-end.ensures.worked start hours (found_in over.run.answers) (entries_made over.run.answers ++ over.rest) over.unlogged over.leaves (λ uncut. over.clock (not_cut c.serve_solo-end.result uncut)) in
    let left = left_over start c.work_off-end.new.solo (basis_in start) (behind_of hours (found_in over.run.answers) (entries_made over.run.answers ++ over.rest) over.unlogged c.serve_solo-end.result) c.work_off-end.result worked in
    closed_over (streams_of g.S.Source.tells g.S.Source.counts_failures g.K.Sink) hours g.met.D.Disk.images_told start c.args.plan.now.limit c.args.plan.now.units volumes begun
    (session_ends (g.S.Source.view c.args.session.now.source) (g.S.Source.view c.serve_solo-end.new.session.source) (g.K.Sink.view c.args.session.now.sink) (g.K.Sink.view c.serve_solo-end.new.session.sink))
    c.work_off-end.new.solo over.run c.serve_solo-end.result over.served over.rest over.unlogged c.work_off-end.result.0 c.work_off-end.result.1 over.undone worked
    c.close_run.result.volumes.items c.close_run.ensures.volumes c.close_run.result.cause c.close_run.ensures.cause (map (λ list. list.items) c.close_run.result.stamps.items) c.close_run.ensures.stamps c.close_run.result.units c.close_run.ensures.units
    (omega (arith, left.many, left.stamps, c.work_off-end.new.solo.some))

pub returns-clause-untouched : goal.returns-clause-untouched
returns-clause-untouched g c = λ manual.
    let by_hand = by_hand_is c.args.plan.now.clock c.new-dial.result c.goes_by_hand.result c.new-dial.ensures c.goes_by_hand.ensures manual in
    c.work_off-end.ensures.untouched (λ uncut. subst IsTrue (sym c.serve_solo-end.ensures.kind) by_hand) ∙ c.serve_solo-end.ensures.untouched by_hand

pub returns-clause-readings : goal.returns-clause-readings
returns-clause-readings g c =
    gone_further (g.C.Clock.upcoming c.args.clock.now) (g.C.Clock.upcoming c.serve_solo-end.new.clock) (g.C.Clock.upcoming c.work_off-end.new.clock) c.serve_solo-end.ensures.readings c.work_off-end.ensures.readings
