-- Which partition a number, a key or a message names.
use Rattle.std.specs.Prelude.{ℕ, ◌/◌, ◌^◌, List, nat_le, ◌&&◌, if◌then◌else◌}
use Rattle.zb_base.specs.Key.{home_of}

-- the partition with a number, of n of them; the first one where there is none with it (own)
abbrev pub partition_known : ℕ → ℕ → ℕ
partition_known n q = if nat_le 1 q && nat_le q n then q else 1

-- the partition that a key names, of n of them; the first one where it names none (Zeebe's layout of keys; the rest own)
abbrev pub partition_of_key : ℕ → ℕ → ℕ
partition_of_key n key = partition_known n (key / 2 ^ 51)

-- the partition at which the messages with a correlation key live, of n of them; the first one where there are none (Zeebe; the rest own)
abbrev pub home_known : ℕ → List ℕ → ℕ
home_known n key = if nat_le 1 n then home_of key n else 1
