use Rattle.std.proofs.Common.{ℕ, ◌∙◌, arith}
use Rattle.std.proofs.lemmas.List.{length-take, length-drop}
use Rattle.zb_lines.proofs.LineLemmas.{written_on}
use Rattle.zb_lines.proofs.sender.send.Goals as goal

pub loop-sent-preserved : goal.loop-sent-preserved
loop-sent-preserved g c = (
  omega (arith, c.in-Ok.ensures.fits, length-take {A = ℕ}, length-drop {A = ℕ}),
  λ t. written_on _ _ _ c.args.bytes.now c.loop-sent.sent c.in-Ok.count (c.loop-sent.invariant.1 t) (c.in-Ok.ensures.written t),
  omega arith,
  λ counts. c.in-Ok.ensures.cause.steady counts ∙ c.loop-sent.invariant.3 counts,
)
