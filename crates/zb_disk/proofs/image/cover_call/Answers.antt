use Rattle.std.proofs.Common.{inl, inr, ap, sym, ◌∙◌}
use Rattle.std.proofs.lemmas.Bool.{false≢true}
use Rattle.zb_disk.specs.Image.{is_sync}
use Rattle.zb_disk.proofs.ImageLemmas.{covered_other}
use Rattle.zb_disk.proofs.image.cover_call.Goals as goal

pub returns-in-Synced-2 : goal.returns-in-Synced-2
returns-in-Synced-2 c = elim c.in-Synced.is [
  | inl sync ↦ absurd (false≢true (sym c.requires ∙ ap is_sync sync))
  | inr other ↦ rw other (λ file calls old. covered_other file c.args.fill.now c.args.image.now.items calls old)
]
