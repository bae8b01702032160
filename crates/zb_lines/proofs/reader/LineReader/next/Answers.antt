use Rattle.std.proofs.Common.{◌∙◌, arith, refl}
use Rattle.zb_lines.proofs.ReaderLemmas.{starts, goes_on, ends_line, gives_no_more, none_came, ends_stream, stops}
use Rattle.zb_lines.proofs.reader.LineReader.next.Goals as goal

pub loop-self-init : goal.loop-self-init
loop-self-init g c = (
  starts _ _ _ _ _ _ _ c.clear.ensures.items c.holds_some-is_begun.ensures,
  omega arith,
  omega (arith, c.clear.ensures.len),
  omega (arith, c.clear.ensures.capacity),
  refl,
  λ _. refl,
  λ _. refl,
)

pub returns-in-Ok-true-clause-comes : goal.returns-in-Ok-true-clause-comes
returns-in-Ok-true-clause-comes g c =
    let h = rw c.in-Ok-true.field-0-test at c.in-Ok-true.ensures.hands_out in
    ends_line _ _ _ _ _ _ _ _ _ _ _ _ c.loop-self.invariant.0 h

pub returns-in-Err-refill-clause-comes : goal.returns-in-Err-refill-clause-comes
returns-in-Err-refill-clause-comes g c =
    let h = rw c.in-Ok-false.field-0-test at c.in-Ok-false.ensures.hands_out in
    let r = c.in-Err-refill.ensures.refills in
    stops _ _ _ _ _ _ _ _ _ _ _ _ _ (gives_no_more _ _ _ _ _ _ _ _ _ _ _ _ c.loop-self.invariant.0 r.0 r.1) h.0

pub loop-self-preserved : goal.loop-self-preserved
loop-self-preserved g c =
    let h = rw c.in-Ok-false.field-0-test at c.in-Ok-false.ensures.hands_out in
    let r = rw c.in-Ok-Piece.field-0-is at c.in-Ok-Piece.ensures.refills in (
      goes_on _ _ _ _ _ _ _ _ _ _ _ _ _ _ c.loop-self.invariant.0 h.0 h.2 r.0 r.1 r.2,
      omega arith,
      c.hand_out.ensures.room.within c.loop-self.invariant.2,
      omega (arith, c.hand_out.ensures.room.grows),
      r.3 ∙ c.loop-self.invariant.4,
      λ none. absurd (omega (arith, c.loop-self.invariant.0.spent, r.1, r.2)),
      λ counts. c.in-Ok-Piece.ensures.cause.steady counts ∙ c.loop-self.invariant.6 counts,
    )

pub returns-in-Ok-End-clause-comes : goal.returns-in-Ok-End-clause-comes
returns-in-Ok-End-clause-comes g c =
    let h = rw c.in-Ok-false.field-0-test at c.in-Ok-false.ensures.hands_out in
    let r = rw c.in-Ok-End.field-0-is at c.in-Ok-End.ensures.refills in
    let reads = rw c.if-is_begun.true at c.loop-self.invariant.0 in
    ends_stream _ _ _ _ _ _ _ _ _ _ _ (gives_no_more _ _ _ _ _ _ _ _ _ _ _ _ reads r.0 r.1) h.0 h.2 r.2

pub returns-in-Ok-Spent-clause-comes : goal.returns-in-Ok-Spent-clause-comes
returns-in-Ok-Spent-clause-comes g c =
    let h = rw c.in-Ok-false.field-0-test at c.in-Ok-false.ensures.hands_out in
    let r = rw c.in-Ok-Spent.field-0-is at c.in-Ok-Spent.ensures.refills in
    let reads = gives_no_more _ _ _ _ _ _ _ _ _ _ _ _ c.loop-self.invariant.0 r.0 r.1 in
    (reads.more, reads.takes, reads.spent, none_came _ _ _ _ _ _ _ _ _ _ reads h.0)
