use Rattle.std.proofs.Common.{◌≡◌, ◌∷◌, [], map, string_bytes, sym, ◌∙◌, subst, inl, inr, ⊎_elim}
use Rattle.std.specs.Prelude.{Contains}
use Rattle.zb_disk.specs.contracts.sound.SoundDiskDisk.TheImpl as sound
use Rattle.zb_tally.specs.Served.{PrintsSummary}
use Rattle.zb_tally.specs.Status.{gen_status}
use Rattle.zb_tally.proofs.RunLemmas.{known, not_of_run, status_tells, memory_of, run_status}
use Rattle.zb_tally.proofs.serving.generate.Goals as goal

pub returns-clause-known : goal.returns-clause-known
returns-clause-known g c = rw c.status.ensures (known c.write_summary-end.result)

pub returns-clause-usage : goal.returns-clause-usage
returns-clause-usage g c = λ is. (status_tells sound.ghosts _ _ _ _ c.write_summary-end.result c.write_summary-end.ensures.cause).usage (sym c.status.ensures ∙ is)

pub returns-clause-planned : goal.returns-clause-planned
returns-clause-planned g c = λ other.
    let written = c.write_summary-end.result in
    let tells = status_tells sound.ghosts _ _ _ _ written c.write_summary-end.ensures.cause in
    ⊎_elim (λ run. ⊎_elim (λ memory. inl (c.status.ensures ∙ memory, run.0)) (λ full. let cut = tells.full full in inr (cut.0, cut.1)) (run_status (gen_status written) run.1 (λ is. other (c.status.ensures ∙ is))))
    (λ told. inr (told.1.1.1.plan, told.1.1.1.asked)) c.write_summary-end.ensures.served

pub returns-clause-served : goal.returns-clause-served
returns-clause-served g c = rw c.status.ensures (⊎_elim (λ run. inl run) (λ told. inr (told.0, (told.1.0, told.1.1))) c.write_summary-end.ensures.served)

pub returns-clause-printed : goal.returns-clause-printed
returns-clause-printed g c = λ done.
    let written = c.write_summary-end.result in
    let status : gen_status written ≡ 0 = sym c.status.ensures ∙ done in
    let is = (status_tells sound.ghosts _ _ _ _ written c.write_summary-end.ensures.cause).done status in
    ⊎_elim (λ run. absurd (not_of_run (subst (Contains (2 ∷ 7 ∷ 8 ∷ [])) status run.1)))
    (λ told. let none = rw is at told.1.2 in
    subst (PrintsSummary g.K.Sink.tells sound.ghosts (map string_bytes c.args.words.now) (g.K.Sink.view c.args.sink).written (g.K.Sink.view c.write_summary-end.new.sink).written) none told.1.1)
    c.write_summary-end.ensures.served

pub returns-clause-sink : goal.returns-clause-sink
returns-clause-sink g c = λ is. (status_tells sound.ghosts _ _ _ _ c.write_summary-end.result c.write_summary-end.ensures.cause).sink (sym c.status.ensures ∙ is)

pub returns-clause-memory : goal.returns-clause-memory
returns-clause-memory g c = λ is. memory_of sound.ghosts _ _ _ _ _ c.write_summary-end.result (sym c.status.ensures ∙ is) c.write_summary-end.ensures.cause c.write_summary-end.ensures.memory

pub returns-clause-full : goal.returns-clause-full
returns-clause-full g c = λ is. (status_tells sound.ghosts _ _ _ _ c.write_summary-end.result c.write_summary-end.ensures.cause).full (sym c.status.ensures ∙ is)
