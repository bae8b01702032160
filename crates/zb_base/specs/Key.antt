-- Keys and homes (Zeebe's layout of keys).
use Rattle.std.specs.Prelude.{ℕ, ◌+◌, ◌*◌, ◌^◌, ◌%◌, List, fold}

-- the key that partition p draws with the counter n
abbrev pub key_of : ℕ → ℕ → ℕ
key_of p n = p * 2 ^ 51 + n

-- the number that the bytes of a correlation key spell in base 31, below 2 ^ 32
abbrev pub hash_of : List ℕ → ℕ
hash_of bytes = fold (λ h byte. (31 * h + byte) % 2 ^ 32) 0 bytes

-- the partition at which the messages with a correlation key live
abbrev pub home_of : List ℕ → ℕ → ℕ
home_of key partitions = hash_of key % partitions + 1
