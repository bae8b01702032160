-- Numbers under the keys of what they stand for.
use Rattle.std.specs.Prelude.{ℕ, Bool, false, Some}
use Rattle.std.specs.BTreeMap.{BTreeMap, IsOrdered, get}
use Rattle.std.specs.BTreeSet.{BTreeSet}
use Rattle.std.specs.Option.{option_map_or}
use Rattle.std.specs.Ordering.{nat_cmp}
use Rattle.zb_pairs.specs.Pairs.{IsIndex}

-- there is a row under a number, and it passes (own)
abbrev pub row_passes : {A : Type 0} → (A → Bool) → BTreeMap ℕ A → ℕ → Bool
row_passes passes rows number = option_map_or passes (get nat_cmp rows number) false

-- what is kept is right: the numbers ascend, and the number of each row stands under its key, and no other one does (own)
pub record AreNumbers {A : Type 0} (name_in : A → ℕ) (rows : BTreeMap ℕ A) (numbers : BTreeSet (ℕ × ℕ)) : Type 0 where
  pub order : IsOrdered nat_cmp rows
  pub under : IsIndex (λ e. e.0) (λ e. Some (name_in e.1)) rows.entries numbers
