-- Entries of all partitions in one list, and what of them is a partition's.
use Rattle.std.specs.Prelude.{◌≤◌, ℕ, ◌==◌, List, map, Bool}
use Rattle.std.specs.List.{filter, flat_map, enumerate_from, range_with_len}
use Rattle.zb_model.specs.declared.record.Event.{Event}
use Rattle.zb_model.specs.declared.record.Batch.{Batch}
use Rattle.zb_views.specs.View.{events_in}
use Rattle.zb_world.specs.declared.entry.Entry.{Entry}

-- a number of n partitions, which are numbered from 1 on (Zeebe)
abbrev pub IsPartitionOf : ℕ → ℕ → Type 0
IsPartitionOf n p = (1 ≤ p) × (p ≤ n)

-- the entry is one of partition p (own)
abbrev pub is_of : ℕ → Entry → Bool
is_of p entry = entry.partition == p

-- the batches of partition p, in order (own)
abbrev pub part_of : ℕ → List Entry → List Batch
part_of p h = map (λ entry. entry.batch) (filter (is_of p) h)

-- the places of the entries of partition p, ascending, where the first entry of h has the place first (own)
abbrev pub places_of : (p first : ℕ) → List Entry → List ℕ
places_of p first h = map (λ placed. placed.0) (filter (λ placed. is_of p placed.1) (enumerate_from first h))

-- the parts of n partitions, by their numbers (own)
abbrev pub parts_of : ℕ → List Entry → List (List Batch)
parts_of n h = map (λ p. part_of p h) (range_with_len 1 n)

-- the places of the entries of n partitions, by their numbers, where the first entry of h has the place first (own)
abbrev pub stamps_of : (n first : ℕ) → List Entry → List (List ℕ)
stamps_of n first h = map (λ p. places_of p first h) (range_with_len 1 n)

-- a batch as an entry of partition p (own)
abbrev pub as_entry : ℕ → Batch → Entry
as_entry p batch = record { partition = p; batch = batch }

-- the batches of a log as entries of partition p (own)
abbrev pub entries_of : ℕ → List Batch → List Entry
entries_of p log = map (as_entry p) log

-- all events of these entries, in order (own)
abbrev pub happenings : List Entry → List Event
happenings h = flat_map (λ entry. events_in entry.batch.outcome) h
