use Rattle.std.proofs.Common.{◌≡◌, ◌≢◌, ℕ, ◌++◌, List, IsTrue, Ok, refl, ap, sym, subst, rules}
use Rattle.zb_lines.specs.Line.{Comes, has_ended}
use Rattle.zb_lines.specs.declared.reader.Next.{Next}
use Rattle.zb_lines.specs.declared.reader.Next.TheVariants as nexts
use Rattle.zb_session.specs.Serving.{began_of, given_at}
use Rattle.zb_session.proofs.TurnLemmas.{past_of}
use Rattle.std.proofs.lemmas.Result.{IfErr-at_err}
use Rattle.zb_session.proofs.EndLemmas.{stops_reading, stops_done, stops_full, fewer_left, comes_next, turn_served, turn_stopped}
use Rattle.zb_session.proofs.serving.serve_next.Goals as goal

pub returns-in-Err-clause-goes_on : goal.returns-in-Err-clause-goes_on
returns-in-Err-clause-goes_on g c = λ begun hours source sink s.
    let read = c.in-Err.ensures.comes in
    rw c.source_end.ensures (stops_reading _ (began_of hours (g.A.Desk.basis begun) source sink) _ s _ _ read.0 read.1 read.2 c.next.new.self c.next.new.line.items c.longest_shown.result c.in-Err.trouble c.in-Err.ensures.ended read.3 c.in-Err.ensures.failed c.in-Err.ensures.steady)

-- there are no more lines
pub returns-in-End-clause-goes_on : goal.returns-in-End-clause-goes_on
returns-in-End-clause-goes_on g c = λ begun hours source sink s.
    let read = c.in-Ok.ensures.comes in
    let came = subst (λ (n : Next). Comes c.longest_shown.result (Ok n) (c.args.intake.now.reader ++ read.0) c.next.new.self c.next.new.line.items) c.in-End.is read.3 in
    let ended = subst (λ (n : Next). (g.S.Source.view c.next.new.source).ended ≡ has_ended (Ok n) (g.S.Source.view c.args.session.now.source).ended) c.in-End.is c.in-Ok.ensures.ended in
    stops_done _ (began_of hours (g.A.Desk.basis begun) source sink) _ s _ _ read.0 read.1 read.2 came.0 (ended, λ t. g.met.S.Source.over c.next.new.source t ended) c.in-Ok.ensures.steady

-- no more may be taken
pub returns-in-Full-clause-goes_on : goal.returns-in-Full-clause-goes_on
returns-in-Full-clause-goes_on g c = λ begun hours source sink s.
    let read = c.in-Ok.ensures.comes in
    let came = subst (λ (n : Next). Comes c.longest_shown.result (Ok n) (c.args.intake.now.reader ++ read.0) c.next.new.self c.next.new.line.items) c.in-Full.is read.3 in
    let still = subst (λ (n : Next). (g.S.Source.view c.next.new.source).ended ≡ has_ended (Ok n) (g.S.Source.view c.args.session.now.source).ended) c.in-Full.is c.in-Ok.ensures.ended in
    stops_full _ (began_of hours (g.A.Desk.basis begun) source sink) _ s _ _ read.0 read.1 read.2 still came (c.in-Ok.ensures.full (ap Ok c.in-Full.is)) c.in-Ok.ensures.steady

-- a line was served
pub returns-in-Ok-serve_line-clause-goes_on : goal.returns-in-Ok-serve_line-clause-goes_on
returns-in-Ok-serve_line-clause-goes_on g c = λ begun hours source sink s.
    let read = c.in-Ok.ensures.comes in
    let came = subst (λ (l : List ℕ). Comes c.longest_shown.result (Ok c.in-Ok.next) (c.args.intake.now.reader ++ read.0) c.next.new.self l) (sym c.deref.ensures.value) read.3 in
    let not_end : c.in-Ok.next ≢ nexts.End = search rules in
    let not_full : c.in-Ok.next ≢ nexts.Full = search rules in
    let next = comes_next _ (began_of hours (g.A.Desk.basis begun) source sink) _ s c.longest_shown.result read.0 c.next.new.self _ c.in-Ok.next not_end not_full came (c.longest_shown.ensures.decides (given_at (past_of _ (began_of hours (g.A.Desk.basis begun) source sink) _ s))) in
    let replied = c.in-Ok-serve_line.ensures.replied g.S.Source.tells g.S.Source.counts_failures begun hours s.answers _ next in
    rw c.may_go_on.ensures (turn_served _ (began_of hours (g.A.Desk.basis begun) source sink) _ s _ _ _ c.longest_shown.result read.0 c.next.new.self _ read.1 read.2 (g.met.S.Source.over c.next.new.source)
    c.in-Ok.next not_end not_full came c.in-Ok.ensures.ended replied (record {
      source_later = c.in-Ok.ensures.later;
      sink_later = c.in-Ok-serve_line.ensures.sink_later;
      source_same = c.in-Ok.ensures.steady;
      sink_same = λ t. c.in-Ok-serve_line.ensures.sink_steady t (λ e. absurd (cc));
    }))

pub returns-in-Ok-serve_line-clause-fewer : goal.returns-in-Ok-serve_line-clause-fewer
returns-in-Ok-serve_line-clause-fewer g c = λ more.
    let read = c.in-Ok.ensures.comes in
    fewer_left c.args.intake.now.reader read.0 c.longest_shown.result _ _ c.in-Ok.next c.next.new.self _ read.3 read.2 (subst IsTrue c.may_go_on.ensures more)

-- a line ended the run
pub returns-in-Err-serve_line-clause-goes_on : goal.returns-in-Err-serve_line-clause-goes_on
returns-in-Err-serve_line-clause-goes_on g c = λ begun hours source sink s.
    let read = c.in-Ok.ensures.comes in
    let came = subst (λ (l : List ℕ). Comes c.longest_shown.result (Ok c.in-Ok.next) (c.args.intake.now.reader ++ read.0) c.next.new.self l) (sym c.deref.ensures.value) read.3 in
    let not_end : c.in-Ok.next ≢ nexts.End = search rules in
    let not_full : c.in-Ok.next ≢ nexts.Full = search rules in
    let next = comes_next _ (began_of hours (g.A.Desk.basis begun) source sink) _ s c.longest_shown.result read.0 c.next.new.self _ c.in-Ok.next not_end not_full came (c.longest_shown.ensures.decides (given_at (past_of _ (began_of hours (g.A.Desk.basis begun) source sink) _ s))) in
    let ended = c.in-Err-serve_line.ensures.over g.S.Source.tells g.S.Source.counts_failures begun hours s.answers _ next in
    turn_stopped _ (began_of hours (g.A.Desk.basis begun) source sink) _ s _ _ _ c.longest_shown.result read.0 c.next.new.self _ read.1 read.2 (g.met.S.Source.over c.next.new.source) c.in-Ok.next not_end not_full came c.in-Ok.ensures.ended _ ended c.in-Ok.ensures.steady
    (λ other t. c.in-Err-serve_line.ensures.sink_steady t (λ is. other (IfErr-at_err (λ end. c.in-Err-serve_line.end ≡ end) is refl)))
