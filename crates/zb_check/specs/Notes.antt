-- What is noted under ids.
use Rattle.std.specs.Prelude.{ℕ, List, Option, unwrap_or}
use Rattle.std.specs.BTreeMap as tree
use Rattle.std.specs.Ordering.{nat_cmp}
use Rattle.std.specs.Cmp.Lexicographic.{slice_cmp}
use Rattle.zb_check.specs.declared.notes.Notes.{Notes}

-- what is noted under an id
unfoldable pub noted : {V : Type 0} → Notes V → List ℕ → Option V
noted notes id = tree.get_by (λ k. slice_cmp nat_cmp id k.now) notes.values

-- how often an id was counted
abbrev pub count_in : Notes ℕ → List ℕ → ℕ
count_in counts id = unwrap_or (noted counts id) 0
