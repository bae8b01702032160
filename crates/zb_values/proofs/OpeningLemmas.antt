-- What opens at some nodes, one after the other.
use Rattle.std.proofs.Common.{◌≡◌, ℕ, List, [], ◌++◌, ◌∷◌, Option, Result, Ok, Err, refl, sym, ap, append_assoc}
use Rattle.zb_base.specs.Results.{◌>>=◌}
use Rattle.zb_base.specs.declared.value.Value.{Value}
use Rattle.zb_process.specs.declared.model.Model.{Model}
use Rattle.zb_process.specs.declared.model.Node.{Node}
use Rattle.zb_tokens.specs.declared.board.Awaited.{Awaited}
use Rattle.zb_tokens.specs.declared.board.Opening.{Opening}
use Rattle.zb_tokens.specs.Catches.{event_by, opened_at, openings_in}
use Rattle.zb_tokens.specs.Incidents.{Hindrance}

-- what opens so far, and then the rest
abbrev pub behind : List Opening → Result (List Opening) Hindrance → Result (List Opening) Hindrance
behind made rest = rest >>= (λ os. Ok (made ++ os))

-- nothing so far, and then all
pub behind_none : (rest : Result (List Opening) Hindrance) → behind [] rest ≡ rest
behind_none (Ok os) = refl
behind_none (Err e) = refl

more : (made here : List Opening) (rest : Result (List Opening) Hindrance) → behind made (rest >>= (λ os. Ok (here ++ os))) ≡ behind (made ++ here) rest
more made here (Ok os) = ap Ok (sym (append_assoc made here os))
more made here (Err e) = refl

module _ (names : List ℕ → Option Value) (moment : ℕ) (m : Model) (n : Node) (ns : List Node) (made : List Opening) where
  -- what opens at one node more is that much more
  pub opened_more : (event : Option Awaited) → event_by names moment m n ≡ Ok event → behind made (openings_in names moment m (n ∷ ns)) ≡ behind (made ++ opened_at n event) (openings_in names moment m ns)
  opened_more event is = rw is (more made (opened_at n event) (openings_in names moment m ns))

  -- one at which it can't is why nothing does
  pub opened_stops : (e : Hindrance) → event_by names moment m n ≡ Err e → behind made (openings_in names moment m (n ∷ ns)) ≡ Err e
  opened_stops e is = rw is refl
