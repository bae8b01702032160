use Rattle.std.proofs.Common.{◌≡◌, ◌∷◌, [], refl, sym, ◌∙◌, subst, inl, inr, ⊎_elim}
use Rattle.std.specs.Prelude.{Contains, Err}
use Rattle.zb_partition.specs.Log.{IsBadAt}
use Rattle.zb_show.specs.Show.{PrintsLog}
use Rattle.zb_show.specs.Status.{status_shown}
use Rattle.zb_show.proofs.ShowLemmas.{opens_same, words_end, known, not_of_opening, shown_usage, shown_done, shown_disk, shown_bad, shown_sink}
use Rattle.zb_show.proofs.show.show_log.Goals as goal

pub returns-clause-usage : goal.returns-clause-usage
returns-clause-usage g c = λ usage. absurd (shown_usage _ _ _ _ c.show_volume-shown.result.0 (sym c.ended-2.ensures.status ∙ usage) c.show_volume-shown.ensures.cause)

pub returns-clause-untouched : goal.returns-clause-untouched
returns-clause-untouched g c = λ usage. absurd (shown_usage _ _ _ _ c.show_volume-shown.result.0 (sym c.ended-2.ensures.status ∙ usage) c.show_volume-shown.ensures.cause)

pub returns-clause-known : goal.returns-clause-known
returns-clause-known g c = rw c.ended-2.ensures.status (known c.show_volume-shown.result.0)

pub returns-clause-planned : goal.returns-clause-planned
returns-clause-planned g c = λ other. inr (c.in-Ok.plan, c.in-Ok.ensures.planned)

pub returns-clause-opened : goal.returns-clause-opened
returns-clause-opened g c = λ tells. rw (c.ended-2.ensures.status, c.ended-2.ensures.sink) (⊎_elim (λ unopened. inl unopened) (λ opened. inr (
  opened.0,
  (
    opened.1.0,
    record {
      plan = c.in-Ok.plan;
      asked = c.in-Ok.ensures.planned;
      printed = subst (λ p. PrintsLog g.K.Sink.tells p (g.D.Disk.view c.args.volume.log).contents (g.K.Sink.view c.args.sink).written (g.K.Sink.view c.show_volume-shown.result.2).written opened.1.0) c.new-place.ensures opened.1.1;
    },
  ),
)) (c.show_volume-shown.ensures.opened tells))

pub returns-clause-shown : goal.returns-clause-shown
returns-clause-shown g c = λ tells done.
    let shown = c.show_volume-shown.result.0 in
    let status : status_shown shown ≡ 0 = sym c.ended-2.ensures.status ∙ done in
    ⊎_elim (λ unopened. absurd (not_of_opening (subst (Contains (2 ∷ 4 ∷ 5 ∷ 7 ∷ [])) status unopened.1))) (λ opened.
    let printed : PrintsLog g.K.Sink.tells c.new-place.result (g.D.Disk.view c.args.volume.log).contents (g.K.Sink.view c.args.sink).written (g.K.Sink.view c.show_volume-shown.result.2).written [] =
    subst (λ left. PrintsLog g.K.Sink.tells c.new-place.result (g.D.Disk.view c.args.volume.log).contents (g.K.Sink.view c.args.sink).written (g.K.Sink.view c.show_volume-shown.result.2).written left) (shown_done shown status opened.1.2) opened.1.1 in
    rw c.ended-2.ensures.sink (record {
      plan = c.in-Ok.plan;
      asked = c.in-Ok.ensures.planned;
      printed = subst (λ p. PrintsLog g.K.Sink.tells p (g.D.Disk.view c.args.volume.log).contents (g.K.Sink.view c.args.sink).written (g.K.Sink.view c.show_volume-shown.result.2).written []) c.new-place.ensures printed;
    })) (c.show_volume-shown.ensures.opened tells)

pub returns-clause-disk : goal.returns-clause-disk
returns-clause-disk g c = λ failed. rw c.ended-2.ensures.volume (shown_disk _ _ _ _ c.show_volume-shown.result.0 (sym c.ended-2.ensures.status ∙ failed) c.show_volume-shown.ensures.cause)

pub returns-clause-bad : goal.returns-clause-bad
returns-clause-bad g c = λ tells bad.
    let found = shown_bad c.show_volume-shown.result.0 (sym c.ended-2.ensures.status ∙ bad) (c.show_volume-shown.ensures.bad tells) in
    record {
      plan = c.in-Ok.plan;
      asked = c.in-Ok.ensures.planned;
      frame = found.0;
      bad = subst (λ p. IsBadAt p (g.D.Disk.view c.args.volume.log).contents found.0) c.new-place.ensures found.1;
    }

pub returns-clause-sink : goal.returns-clause-sink
returns-clause-sink g c = λ failed. rw c.ended-2.ensures.sink (shown_sink _ _ _ _ c.show_volume-shown.result.0 (sym c.ended-2.ensures.status ∙ failed) c.show_volume-shown.ensures.cause)

pub returns-clause-slots : goal.returns-clause-slots
returns-clause-slots g c = rw c.ended-2.ensures.volume c.show_volume-shown.ensures.slots

pub returns-in-Err-clause-usage : goal.returns-in-Err-clause-usage
returns-in-Err-clause-usage g c = λ usage. (words_end c.in-Err.fault c.in-Err.ensures.fault).usage (sym c.ended.ensures.status ∙ usage)

pub returns-in-Err-clause-untouched : goal.returns-in-Err-clause-untouched
returns-in-Err-clause-untouched g c = λ usage. (c.ended.ensures.volume, c.ended.ensures.sink)

pub returns-in-Err-clause-known : goal.returns-in-Err-clause-known
returns-in-Err-clause-known g c = rw c.ended.ensures.status (known (Err c.in-Err.fault))

pub returns-in-Err-clause-planned : goal.returns-in-Err-clause-planned
returns-in-Err-clause-planned g c = λ other.
    inl (c.ended.ensures.status ∙ (words_end c.in-Err.fault c.in-Err.ensures.fault).memory (λ usage. other (c.ended.ensures.status ∙ usage)), c.ended.ensures.volume, c.ended.ensures.sink)

pub returns-in-Err-clause-opened : goal.returns-in-Err-clause-opened
returns-in-Err-clause-opened g c = λ tells. inl (c.ended.ensures.sink, rw c.ended.ensures.status (words_end c.in-Err.fault c.in-Err.ensures.fault).opening)

pub returns-in-Err-clause-shown : goal.returns-in-Err-clause-shown
returns-in-Err-clause-shown g c = λ tells done. absurd ((words_end c.in-Err.fault c.in-Err.ensures.fault).done (sym c.ended.ensures.status ∙ done))

pub returns-in-Err-clause-disk : goal.returns-in-Err-clause-disk
returns-in-Err-clause-disk g c = λ failed. absurd ((words_end c.in-Err.fault c.in-Err.ensures.fault).disk (sym c.ended.ensures.status ∙ failed))

pub returns-in-Err-clause-bad : goal.returns-in-Err-clause-bad
returns-in-Err-clause-bad g c = λ tells bad. absurd ((words_end c.in-Err.fault c.in-Err.ensures.fault).bad (sym c.ended.ensures.status ∙ bad))

pub returns-in-Err-clause-sink : goal.returns-in-Err-clause-sink
returns-in-Err-clause-sink g c = λ failed. absurd ((words_end c.in-Err.fault c.in-Err.ensures.fault).sink (sym c.ended.ensures.status ∙ failed))

pub returns-in-Err-clause-slots : goal.returns-in-Err-clause-slots
returns-in-Err-clause-slots g c = rw c.ended.ensures.volume (refl, refl)

pub returns-clause-opens : goal.returns-clause-opens
returns-clause-opens g c = rw c.ended-2.ensures.volume c.show_volume-shown.ensures.opens

pub returns-in-Err-clause-opens : goal.returns-in-Err-clause-opens
returns-in-Err-clause-opens g c = rw c.ended.ensures.volume (opens_same g.D.Disk c.args.volume.log)
