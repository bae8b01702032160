use Rattle.std.proofs.Common.{take, slice_range, sym, ◌∙◌}
use Rattle.zb_lines.proofs.LineLemmas.{line_held}
use Rattle.zb_lines.proofs.reader.LineReader.hand_out.Goals as goal

pub returns-in_ok-keep-in-Some-clause-hands_out : goal.returns-in_ok-keep-in-Some-clause-hands_out
returns-in_ok-keep-in-Some-clause-hands_out c = (
  take c.in-Some.place (slice_range c.deref.result.now c.self.inside.at c.self.inside.end),
  c.in-Some.ensures.line,
  sym c.self.view_is ∙ line_held c.self.inside.piece.items c.deref.result.now c.self.inside.at c.self.inside.end c.in-Some.place c.deref.ensures.value c.in-Some.ensures,
  c.in_ok-keep-in-Some.ensures.kept,
)
