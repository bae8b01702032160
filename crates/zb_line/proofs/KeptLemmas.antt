-- Keys that stand in their place.
use Rattle.std.proofs.Common.{◌≡◌, ℕ, List, Option, Some, None, subst, sym}
use Rattle.std.specs.List.Sorted.{IsStrictlySortedBy}
use Rattle.std.specs.Ordering.{nat_cmp}
use Rattle.zb_line.specs.declared.keys.Kept.{Kept}
use Rattle.zb_line.specs.declared.keys.Kept.TheVariants as kinds
use Rattle.zb_line.specs.Keys.{keys_kept}
use Rattle.zb_line.proofs.OrderLemmas.{none_sorted, one_sorted}

-- at most one key is in order
pub in_place_sorted : (kept : Kept) (place : Option ℕ) (keys : List ℕ) → kept ≡ kinds.InPlace place → keys_kept kept ≡ keys → IsStrictlySortedBy nat_cmp keys
in_place_sorted kept place keys is view = subst (λ (ks : List ℕ). IsStrictlySortedBy nat_cmp ks) view (subst (λ (k : Kept). IsStrictlySortedBy nat_cmp (keys_kept k)) (sym is) (by_place place))
  where
    by_place : (place : Option ℕ) → IsStrictlySortedBy nat_cmp (keys_kept (kinds.InPlace place))
    by_place None = none_sorted nat_cmp
    by_place (Some key) = one_sorted nat_cmp key
