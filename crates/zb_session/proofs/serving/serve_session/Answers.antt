use Rattle.std.proofs.Common.{arith, length, refl, ◌+◌, ◌∙◌, sym, ap, subst, IsTrue}
use Rattle.zb_lines.proofs.TakenLaws.{takes_nothing}
use Rattle.zb_outside.proofs.ClockLaws.{gone_nowhere, gone_further}
use Rattle.zb_session.specs.Session.{most_taken, streams_of}
use Rattle.zb_session.specs.Serving.{began_of, clocks_of, facts_by, service_of, stand_of}
use Rattle.zb_session.proofs.TurnLemmas.{serving_first}
use Rattle.zb_session.proofs.EndLemmas.{stops_memory, goes_over, goes_next}
use Rattle.zb_session.proofs.serving.serve_session.Goals as goal

pub returns-in-Err-clause-over : goal.returns-in-Err-clause-over
returns-in-Err-clause-over g c = λ begun hours has at.
    let began = began_of hours (g.A.Desk.basis begun) (g.S.Source.view c.args.session.now.source) (g.K.Sink.view c.args.session.now.sink) in
    stops_memory _ began _
    (serving_first (streams_of g.S.Source.tells g.S.Source.counts_failures g.K.Sink) began _ (facts_by g.A.Desk begun c.args.desk.now) has at)
    most_taken _ _ (takes_nothing _ _) (omega arith) refl (λ t. refl)

pub loop-number-init : goal.loop-number-init
loop-number-init g c = (
  λ begun hours has at.
      rw (c.in-Ok.ensures.reader, c.in-Ok.ensures.budget) (serving_first (streams_of g.S.Source.tells g.S.Source.counts_failures g.K.Sink)
      (began_of hours (g.A.Desk.basis begun) (g.S.Source.view c.args.session.now.source) (g.K.Sink.view c.args.session.now.sink))
      (clocks_of c.args.dial.now g.C.Clock.tells (g.C.Clock.upcoming c.args.clock.now)) (facts_by g.A.Desk begun c.args.desk.now) has at),
  c.requires,
  refl,
  (omega (arith, ap length c.in-Ok.ensures.reader, c.in-Ok.ensures.budget)),
  refl,
  gone_nowhere (g.C.Clock.upcoming c.args.clock.now),
  λ by_hand. refl,
)

pub returns-in-Ok-false-clause-over : goal.returns-in-Ok-false-clause-over
returns-in-Ok-false-clause-over g c = λ begun hours has at.
    let began = began_of hours (g.A.Desk.basis begun) (g.S.Source.view c.args.session.now.source) (g.K.Sink.view c.args.session.now.sink) in
    goes_over _ began
    (stand_of (g.S.Source.view c.serve_next.new.session.source)
    (service_of (g.K.Sink.view c.serve_next.new.session.sink) (clocks_of c.serve_next.new.dial g.C.Clock.tells (g.C.Clock.upcoming c.serve_next.new.clock)) (facts_by g.A.Desk begun c.serve_next.new.desk))
    c.serve_next.new.intake.reader c.serve_next.new.intake.budget (c.loop-number.number + 1)) _ c.in-Ok-false.field-0-test
    (c.in-Ok-false.ensures.goes_on begun hours _ _ (c.loop-number.invariant.0 begun hours has at))

pub returns-in-Ok-false-clause-readings : goal.returns-in-Ok-false-clause-readings
returns-in-Ok-false-clause-readings g c =
    gone_further (g.C.Clock.upcoming c.args.clock.now) (g.C.Clock.upcoming c.loop-number.clock) (g.C.Clock.upcoming c.serve_next.new.clock) c.loop-number.invariant.5 c.in-Ok-false.ensures.readings

pub unreachable-requires : goal.unreachable-requires
unfolding most_taken
unreachable-requires g c = omega (arith, c.loop-number.invariant.3, c.loop-number-test.false)

pub loop-number-preserved : goal.loop-number-preserved
loop-number-preserved g c =
    let i = c.loop-number.invariant in
    let said = c.in-Ok-true.ensures in (
      λ begun hours has at. goes_next _ _ _ _ c.in-Ok-true.field-0-test (said.goes_on begun hours _ _ (i.0 begun hours has at)),
      said.still,
      said.many ∙ i.2,
      (omega (arith, i.3, said.fewer c.in-Ok-true.field-0-test)),
      said.kind ∙ i.4,
      gone_further (g.C.Clock.upcoming c.args.clock.now) (g.C.Clock.upcoming c.loop-number.clock) (g.C.Clock.upcoming c.serve_next.new.clock) i.5 said.readings,
      λ by_hand. said.untouched (subst IsTrue (sym i.4) by_hand) ∙ i.6 by_hand,
    )

-- the run is over
pub returns-in-Err-serve_next-clause-over : goal.returns-in-Err-serve_next-clause-over
returns-in-Err-serve_next-clause-over g c = λ begun hours has at. c.in-Err-serve_next.ensures.goes_on begun hours _ _ (c.loop-number.invariant.0 begun hours has at)

pub returns-in-Err-serve_next-clause-readings : goal.returns-in-Err-serve_next-clause-readings
returns-in-Err-serve_next-clause-readings g c =
    gone_further (g.C.Clock.upcoming c.args.clock.now) (g.C.Clock.upcoming c.loop-number.clock) (g.C.Clock.upcoming c.serve_next.new.clock) c.loop-number.invariant.5 c.in-Err-serve_next.ensures.readings
