-- Members in their order, and the places of a line.
use Rattle.std.specs.Prelude.{◌≡◌, ℕ, ◌<◌, ◌≤◌, List, drop, length}
use Rattle.std.specs.declared.cmp.Ordering.{Ordering}
use Rattle.std.specs.BTreeMap.{is_at}
use Rattle.std.specs.BTreeSet.{insert_key}
use Rattle.std.specs.List.{insert, remove}
use Rattle.std.specs.List.Sorted.{IsStrictlySortedBy}
use Rattle.std.specs.Set.{remove_key}

module _ {A : Type 0} (cmp : A → A → Ordering) where
  -- from a place on members stand in their order (own)
  pub record IsLine (from : ℕ) (items : List A) : Type 0 where
    pub within : from ≤ length items
    pub order : IsStrictlySortedBy cmp (drop from items)

  module _ (x : A) (line : List A) (at : ℕ) where
    -- a member that is equal to x stands at a place (own)
    pub record IsMemberAt : Type 0 where
      pub within : at < length line
      pub added : insert_key cmp line x ≡ line
      pub removed : remove_key (is_at (cmp x)) line ≡ remove line at

    -- none is equal to x, and a place is the one where x would stand (own)
    pub record IsVacant : Type 0 where
      pub within : at ≤ length line
      pub added : insert_key cmp line x ≡ insert line at x
      pub removed : remove_key (is_at (cmp x)) line ≡ line
