use Rattle.std.proofs.Common.{◌≡◌, ◌<◌, ◌^◌, drop}
use Rattle.zb_views.specs.View.{greatest_among}
use Rattle.zb_tables.proofs.keys.greatest_among.Given as goal

abbrev pub invariant-loop-index : goal.invariant-loop-index
invariant-loop-index l = record { value : l.greatest ≡ greatest_among l.place (drop l.index l.keys); small : l.greatest < 2 ^ 51 }
