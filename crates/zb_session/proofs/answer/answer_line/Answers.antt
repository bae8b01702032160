use Rattle.std.proofs.Common.{◌≡◌, ℕ, ◌++◌, List, [], length, Some, None, Result, Ok, Err, refl, sym, ap, ◌∙◌, subst, inr, rules}
use Rattle.zb_reply.specs.Reply.{line_of}
use Rattle.std.proofs.lemmas.Result.{on_ok_weaker, IfErr-weaker}
use Rattle.zb_world.specs.declared.entry.Entry.{Entry}
use Rattle.zb_wire.proofs.RequestLaws.{Tells-fault}
use Rattle.zb_wire.specs.declared.request.LineFault.TheVariants as faults
use Rattle.zb_wire.specs.declared.request.Request.{Request}
use Rattle.zb_wire.specs.declared.request.LineFault.{LineFault}
use Rattle.zb_session.specs.Hours.{given_of}
use Rattle.zb_session.specs.Answer.{Answer, found_in, entries_made}
use Rattle.zb_session.specs.Serving.{AreAt, clocks_of}
use Rattle.zb_session.proofs.AnswerLemmas.{fault_answered, found_more}
use Rattle.zb_session.proofs.ClockLemmas.{found_at, at_fault}
use Rattle.zb_session.proofs.EndLemmas.{unanswered_idle}
use Rattle.zb_session.proofs.ListLemmas.{append_none}
use Rattle.zb_session.proofs.answer.answer_line.Goals as goal

pub put-requires : goal.put-requires
put-requires g c = c.in-Ok-ask.ensures.spoken

pub returns-in-Ok-ask-clause-answered : goal.returns-in-Ok-ask-clause-answered
returns-in-Ok-ask-clause-answered g c = λ begun hours answers line next.
    let found = found_in answers in
    let is = found_at hours found _ _ _ c.args.number _ line _ (Ok c.in-Ok.request) next.clock (c.partitions.ensures.begun begun (entries_made answers) next.holds) c.is_manual.ensures next.same c.in-Ok.ensures in
    let a = c.in-Ok-ask.ensures.asked begun (entries_made answers) next.holds in
    on_ok_weaker c.put.result (λ put.
    let answer : Answer = record { asked = Ok c.in-Ok.request; reading = c.read_for-reading.result; entries = a.entries; reply = c.put.new.reply.items } in
    record {
      answer = answer;
      written = refl;
      is = record {
        found = is;
        replied = record {
          reply = c.in-Ok-ask.answered.reply;
          told = a.told;
          written = put ∙ ap (λ bs. bs ++ line_of c.in-Ok-ask.answered.reply (Some c.in-Ok-ask.answered.units)) c.clear.ensures.items
              ∙ ap (λ (n : ℕ). line_of c.in-Ok-ask.answered.reply (Some n)) a.units;
        };
      };
      served = (c.read_for-reading.ensures.reading hours found next.clock, a.done);
      holds = a.holds;
      clock = subst (λ (f : List (Result Request LineFault)). AreAt hours f (clocks_of c.read_for-reading.new.dial g.C.Clock.tells (g.C.Clock.upcoming c.read_for-reading.new.clock))) (sym (found_more answers answer)) (c.read_for-reading.ensures.at hours found next.clock);
    }) c.put.ensures.put

pub returns-in-Ok-ask-clause-still : goal.returns-in-Ok-ask-clause-still
returns-in-Ok-ask-clause-still g c = on_ok_weaker c.put.result (λ put. c.in-Ok-ask.ensures.still) c.put.ensures.put

pub returns-in-Ok-ask-clause-uncut : goal.returns-in-Ok-ask-clause-uncut
returns-in-Ok-ask-clause-uncut g c = IfErr-weaker c.put.result _ _ (λ end memory uncut. c.in-Ok-ask.ensures.still) c.put.ensures.memory

-- the line of the reply had no memory
pub returns-in-Ok-ask-clause-unanswered : goal.returns-in-Ok-ask-clause-unanswered
returns-in-Ok-ask-clause-unanswered g c = λ begun hours answers line next.
    let found = found_in answers in
    let is = found_at hours found _ _ _ c.args.number _ line _ (Ok c.in-Ok.request) next.clock (c.partitions.ensures.begun begun (entries_made answers) next.holds) c.is_manual.ensures next.same c.in-Ok.ensures in
    let a = c.in-Ok-ask.ensures.asked begun (entries_made answers) next.holds in
    IfErr-weaker c.put.result _ _ (λ end memory. rw memory (record {
      rest = a.entries;
      unlogged = None;
      undone = inr (record { request = c.in-Ok.request; asks = is; reading = c.read_for-reading.result; read = c.read_for-reading.ensures.reading hours found next.clock; made = a.done.made; next = λ entry e. absurd (cc) });
      cuts = tt;
      leaves = (a.holds, refl);
    })) c.put.ensures.memory

-- the desk stopped
pub returns-in-Err-ask-clause-unanswered : goal.returns-in-Err-ask-clause-unanswered
returns-in-Err-ask-clause-unanswered g c = λ begun hours answers line next.
    let found = found_in answers in
    let is = found_at hours found _ _ _ c.args.number _ line _ (Ok c.in-Ok.request) next.clock (c.partitions.ensures.begun begun (entries_made answers) next.holds) c.is_manual.ensures next.same c.in-Ok.ensures in
    let cut = c.in-Err-ask.ensures.cut begun (entries_made answers) next.holds in
    record {
      rest = cut.entries;
      unlogged = cut.unlogged;
      undone = inr (record { request = c.in-Ok.request; asks = is; reading = c.read_for-reading.result; read = c.read_for-reading.ensures.reading hours found next.clock; made = cut.made; next = cut.next });
      cuts = tt;
      leaves = (c.in-Err-ask.field-0, cut.holds);
    }

pub returns-in-Err-ask-clause-uncut : goal.returns-in-Err-ask-clause-uncut
returns-in-Err-ask-clause-uncut g c = λ uncut. absurd (uncut tt)

-- there was no memory to read the line
pub returns-in-Err-Memory-clause-unanswered : goal.returns-in-Err-Memory-clause-unanswered
returns-in-Err-Memory-clause-unanswered g c = λ begun hours answers line next. unanswered_idle _ line _ _ refl next.holds

-- the line is no request
pub returns-in-Err-clause-answered : goal.returns-in-Err-clause-answered
returns-in-Err-clause-answered g c = λ begun hours answers line next.
    let spoken : ¬ (c.in-Err.fault ≡ faults.Memory) = search rules in
    let told = Tells-fault c.in-Err.fault _ c.in-Err.ensures spoken in
    let found = found_in answers in
    let is = found_at hours found _ _ _ c.args.number _ line _ (Err c.in-Err.fault) next.clock (c.partitions.ensures.begun begun (entries_made answers) next.holds) c.is_manual.ensures next.same told in
    on_ok_weaker c.put-in-Err.result (λ put.
    let answer : Answer = record { asked = Err c.in-Err.fault; reading = 0; entries = []; reply = c.put-in-Err.new.reply.items } in
    record {
      answer = answer;
      written = refl;
      is = fault_answered (given_of hours (length (g.A.Desk.basis begun).logs) c.args.number) line _ _ c.in-Err.fault is c.clear.ensures.items put;
      served = refl;
      holds = subst (λ (es : List Entry). g.A.Desk.has begun es c.args.desk.now) (append_none (entries_made answers)) next.holds;
      clock = subst (λ (f : List (Result Request LineFault)). AreAt hours f (clocks_of c.args.dial.now g.C.Clock.tells (g.C.Clock.upcoming c.args.clock.now))) (sym (found_more answers answer)) (at_fault hours found c.args.dial.now g.C.Clock.tells (g.C.Clock.upcoming c.args.clock.now) next.clock c.in-Err.fault);
    }) c.put-in-Err.ensures.put

pub returns-in-Err-clause-still : goal.returns-in-Err-clause-still
returns-in-Err-clause-still g c = on_ok_weaker c.put-in-Err.result (λ put. c.requires) c.put-in-Err.ensures.put

pub returns-in-Err-clause-uncut : goal.returns-in-Err-clause-uncut
returns-in-Err-clause-uncut g c = IfErr-weaker c.put-in-Err.result _ _ (λ end memory uncut. c.requires) c.put-in-Err.ensures.memory

pub returns-in-Err-clause-unanswered : goal.returns-in-Err-clause-unanswered
returns-in-Err-clause-unanswered g c = λ begun hours answers line next.
    IfErr-weaker c.put-in-Err.result _ _ (λ end memory. unanswered_idle _ line _ end memory next.holds) c.put-in-Err.ensures.memory
