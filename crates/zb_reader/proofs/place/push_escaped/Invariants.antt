use Rattle.std.proofs.Common.{◌≡◌, ◌++◌, string_bytes}
use Rattle.std.specs.Str.Iter.{chars_rest}
use Rattle.zb_reader.specs.Place as spec
use Rattle.zb_reader.proofs.place.push_escaped.Given as goal

-- what was appended so far, and then the characters that are left
abbrev pub invariant-loop-c : goal.invariant-loop-c
invariant-loop-c l = string_bytes l.initial.path ++ spec.escaped l.fn.name ≡ string_bytes l.path ++ spec.escaped (chars_rest l.c-iterator)
