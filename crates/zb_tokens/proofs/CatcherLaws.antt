-- Laws of the events that catch errors, in the subject's own words.
use Rattle.std.proofs.Common.{◌≡◌, ◌⊎◌, ℕ, List, [], true, IsTrue, Option, Some, None, refl, inl, inr, subst}
use Rattle.std.specs.Option.{option_or}
use Rattle.std.specs.List.{find}
use Rattle.zb_process.specs.declared.model.Node.{Node}
use Rattle.zb_tokens.specs.declared.board.Triggered.{Triggered}
use Rattle.zb_tokens.specs.Board.{Board}
use Rattle.zb_tokens.specs.Errors.{is_for, first_for, catcher, IsCaughtAt}
use Rattle.zb_tokens.proofs.ErrorLaws.{catcher_there}
use Rattle.zb_tokens.proofs.GameLaws.{found_passes}

by_first : (code : List ℕ) (ns : List Node) (n : Node) (first : Option Node) → find (is_for code) ns ≡ first → option_or first (find (is_for []) ns) ≡ Some n → IsTrue (is_for code n) ⊎ ((find (is_for code) ns ≡ None) × IsTrue (is_for [] n))
by_first code ns n (Some x) at is = let same : x ≡ n = cc in inl (subst (λ (y : Node). is_for code y ≡ true) same (found_passes (is_for code) ns x at))
by_first code ns n None at is = inr (at, found_passes (is_for []) ns n is)

-- the event that catches an error is for its code; it is for any where none is for that (BPMN 2.0.2, 10.5.7)
pub code_first : (code : List ℕ) (ns : List Node) (n : Node) → first_for code ns ≡ Some n → IsTrue (is_for code n) ⊎ ((find (is_for code) ns ≡ None) × IsTrue (is_for [] n))
code_first code ns n is = by_first code ns n (find (is_for code) ns) refl is

-- where an error is caught there is such an event, at the boundary of a cell that is there (BPMN 2.0.2, 10.5.7)
pub catchers_are_there : (b : Board) (code : List ℕ) (key : ℕ) (t : Triggered) → catcher b code key ≡ Some t → IsCaughtAt b code t
catchers_are_there b code key t is = catcher_there b code key t is
