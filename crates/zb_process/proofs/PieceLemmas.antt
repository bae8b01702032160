-- What the proofs of readers and writers rest on.
use Rattle.std.proofs.Common.{◌++◌, List, [], length-append, subst, sym, arith}
use Rattle.std.proofs.lemmas.List.{append-nil}
use Rattle.zb_format.proofs.Adding.{Written, adds_then, adds_byte}
use Rattle.zb_format.proofs.ListLemmas.{goes_on, ends, is_done}
use Rattle.zb_format.specs.Encoded.{Adds, KeepsEncoded}
use Rattle.zb_format.specs.declared.encoder.Encoder.{Encoder}
use Rattle.zb_process.specs.Expression.{tree, IsTree}
use Rattle.std.specs.Prelude.{ℕ}

pub ruleset many = (goes_on, ends, is_done)

pub ruleset pieces = (adds_then, adds_byte, length-append)

-- behind a front, no members yet
pub written_none : (before : Encoder) (front : List ℕ) (after : Encoder) → Adds before front after → KeepsEncoded before after → Written tree IsTree before front [] after
written_none before front after added kept = record {
  added = subst (λ (z : List ℕ). Adds before z after) (sym (append-nil front)) added;
  kept = kept;
  some = omega arith;
  fitting = λ less. tt;
}
