-- Which pairs of texts are noted.
use Rattle.std.specs.Prelude.{ℕ, List, Bool, false, Option, is_some}
use Rattle.std.specs.Option.{option_map_or}
use Rattle.std.specs.BTreeMap as tree
use Rattle.std.specs.Ordering.{nat_cmp}
use Rattle.std.specs.Cmp.Lexicographic.{slice_cmp}
use Rattle.zb_check.specs.declared.notes.Notes.{Notes}
use Rattle.zb_check.specs.declared.pairs.Pairs.{Pairs}
use Rattle.zb_check.specs.Notes.{noted}

-- what is noted with a first text
abbrev pub notes_at : Pairs → List ℕ → Option (Notes Unit)
notes_at pairs first = tree.get_by (λ k. slice_cmp nat_cmp first k.now) pairs.seconds

-- a pair is noted
abbrev pub is_noted : Pairs → List ℕ → List ℕ → Bool
is_noted pairs first second = option_map_or (λ notes. is_some (noted notes second)) (notes_at pairs first) false
