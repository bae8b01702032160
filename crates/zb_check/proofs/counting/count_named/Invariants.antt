use Rattle.std.proofs.Common.{◌≡◌, ℕ, List, take, count_by, ◌&&◌}
use Rattle.std.specs.Str.{bytes_eq}
use Rattle.zb_check.specs.Notes.{count_in}
use Rattle.zb_check.proofs.counting.count_named.Given as goal

-- how often the items so far name each id
abbrev pub invariant-loop-item : goal.invariant-loop-item
invariant-loop-item g l = (q : List ℕ) → count_in l.counts q ≡ count_by (λ x. g.N.Naming.names l.naming x && bytes_eq (g.N.Naming.named l.naming x) q) (take l.item-index l.items)
