-- Texts in byte order.
use Rattle.std.proofs.Common.{◌≡◌, ℕ, List, [], ◌∷◌, map, String, string_bytes, refl, ap}
use Rattle.std.specs.BTreeSet.{insert_key}
use Rattle.std.specs.declared.cmp.Ordering.{Ordering}
use Rattle.std.specs.declared.cmp.Ordering.TheVariants.{Less, Equal, Greater}
use Rattle.std.specs.Ordering.{match_ordering}
use Rattle.std.specs.Prelude.{string_cmp}
use Rattle.zb_base.specs.Vars.{order_of}

-- a text put at its place among others is its bytes at their place among theirs
pub bytes_inserted : {Y : Type 0} (ks : List (String Y)) (k : String Y) → map string_bytes (insert_key string_cmp ks k) ≡ insert_key order_of (map string_bytes ks) (string_bytes k)
bytes_inserted [] k = refl
bytes_inserted {Y} (x ∷ xs) k = by_order (order_of (string_bytes k) (string_bytes x)) (bytes_inserted xs k)
  where
    by_order : (o : Ordering) → map string_bytes (insert_key string_cmp xs k) ≡ insert_key order_of (map string_bytes xs) (string_bytes k)
        → map string_bytes (match_ordering o (k ∷ x ∷ xs) (x ∷ xs) (x ∷ insert_key string_cmp xs k))
        ≡ match_ordering o (string_bytes k ∷ string_bytes x ∷ map string_bytes xs) (string_bytes x ∷ map string_bytes xs) (string_bytes x ∷ insert_key order_of (map string_bytes xs) (string_bytes k))
    by_order Less rest = refl
    by_order Equal rest = refl
    by_order Greater rest = ap (λ (l : List (List ℕ)). string_bytes x ∷ l) rest
