-- Laws of the request that a line is.
use Rattle.std.specs.Prelude.{◌≡◌, ℕ, ◌<◌, List, length, take, Bool, true, false, nat_le, Result, Err, refl}
use Rattle.std.proofs.Common.{sym, ap, ◌∙◌, arith}
use Rattle.std.proofs.lemmas.Bool.{leb-true, leb-false, lt-leb}
use Rattle.std.proofs.lemmas.List.{take_all, length-take-le}
use Rattle.zb_wire.specs.Request.{longest_line, short_line, request_of, Tells}
use Rattle.zb_wire.specs.declared.given.Given.{Given}
use Rattle.zb_wire.specs.declared.request.LineFault.{LineFault}
use Rattle.zb_wire.specs.declared.request.LineFault.TheVariants as faults
use Rattle.zb_wire.specs.declared.request.Request.{Request}

-- a line that is too long has that fault
pub request_of-long : (given : Given) (line : List ℕ) → nat_le (length line) longest_line ≡ false → request_of given line ≡ Err faults.TooLong
unfolding request_of short_line
request_of-long given line long = rw long

request_of_take_by : (b : Bool) (given : Given) (n : ℕ) (line : List ℕ) → nat_le (length line) n ≡ b → longest_line < n → request_of given (take n line) ≡ request_of given line
request_of_take_by true given n line fits above = ap (request_of given) (take_all n line (leb-true _ _ fits))
request_of_take_by false given n line long above =
    let beyond : n < length line = leb-false _ _ long in
    let front : longest_line < length (take n line) = rw (length-take-le n line (omega arith)) above in
    request_of-long given (take n line) (lt-leb _ _ front) ∙ sym (request_of-long given line (lt-leb _ _ (omega arith)))

-- one byte more than the longest line, and the front of a line asks for what the whole asks for
pub request_of-take : (given : Given) (n : ℕ) (line : List ℕ) → longest_line < n → request_of given (take n line) ≡ request_of given line
request_of-take given n line above = request_of_take_by _ given n line refl above

-- a fault that isn't want of memory is the one that was found
pub Tells-fault : (fault : LineFault) (found : Result Request LineFault) → Tells fault found → ¬ (fault ≡ faults.Memory) → found ≡ Err fault
Tells-fault faults.TooLong found tells spoken = tells
Tells-fault faults.NotJson found tells spoken = tells
Tells-fault faults.NotObject found tells spoken = tells
Tells-fault faults.NoOp found tells spoken = tells
Tells-fault faults.UnknownOp found tells spoken = tells
Tells-fault (faults.Field field path) found tells spoken = tells
Tells-fault (faults.Range field) found tells spoken = tells
Tells-fault faults.Memory found tells spoken = absurd (spoken refl)
