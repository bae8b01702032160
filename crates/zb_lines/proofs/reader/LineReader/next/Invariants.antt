use Rattle.std.proofs.Common.{◌≡◌, vec_len, vec_capacity, ◌-◌, ◌^◌, ◌≤◌, IsTrue}
use Rattle.zb_lines.specs.Step.{ReadsLine}
use Rattle.zb_lines.proofs.reader.LineReader.next.Given as goal

abbrev pub invariant-loop-self : goal.invariant-loop-self
invariant-loop-self g l = ReadsLine g.S.Source.tells (g.S.Source.view l.fn.source) (g.S.Source.view l.source) l.fn.budget l.budget l.most l.fn.self l.self l.line.items l.is_begun
    × ((g.S.Source.view l.fn.source).faults ≤ (g.S.Source.view l.source).faults)
    × (vec_len l.line ≤ l.most)
    × (vec_capacity l.fn.line ≤ vec_capacity l.line)
    × ((g.S.Source.view l.source).ended ≡ (g.S.Source.view l.fn.source).ended)
    × (l.fn.budget ≡ 0 → g.S.Source.view l.source ≡ g.S.Source.view l.fn.source)
    × (IsTrue g.S.Source.counts_failures → (g.S.Source.view l.source).faults ≡ (g.S.Source.view l.fn.source).faults)

abbrev pub decreases-loop-self : goal.decreases-loop-self
decreases-loop-self g l = 2 ^ 63 - (g.S.Source.view l.source).given
