use Rattle.std.proofs.Common.{◌≡◌, ◌+◌, ℕ, List, ◌∙◌, ap, arith}
use Rattle.std.specs.Prelude.{slice_range}
use Rattle.std.specs.Int.{w64, from_be_bytes}
use Rattle.zb_store.specs.Stands.{next_gate}
use Rattle.zb_store.proofs.walking.gate_behind.Goals as goal

pub returns-clause-next : goal.returns-clause-next
unfolding next_gate
returns-clause-next g c = λ told.
    let file = (g.D.Disk.view c.args.disk.now).contents in
    let gate = c.args.gate in
    let end : gate + 1 + 8 ≡ gate + 9 = omega arith in
    let read = c.in_ok-read_at.ensures.bytes told ∙ ap (λ (n : ℕ). slice_range file (gate + 1) n) end in
    ap (λ (n : ℕ). gate + 9 + n) (c.from_be_bytes-size.ensures ∙ ap (λ (l : List ℕ). from_be_bytes w64 l) read)
