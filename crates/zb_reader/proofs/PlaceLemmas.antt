-- Where a value fails to be a part.
use Rattle.std.proofs.Common.{◌≡◌, ℕ, zero, suc, ◌-◌, ◌<◌, arith}
use Rattle.serde_json.specs.Data.{Data}
use Rattle.zb_reader.specs.Rows.{place_in_object}
use Rattle.zb_reader.specs.Shapes.{shape_of, place_in_content, place_in_part}
use Rattle.zb_reader.specs.declared.table.Part.{Part}

-- a part that may have others within fails as its shape says
pub place_in_part-some : (levels : ℕ) (part : Part) (d : Data) → 0 < levels → place_in_part levels part d ≡ place_in_object (place_in_content (place_in_part (levels - 1))) (shape_of part d) d
unfolding place_in_part
place_in_part-some zero part d some = absurd (omega (arith, some))
place_in_part-some (suc n) part d some =
    let less : suc n - 1 ≡ n = omega arith in
    rw less
