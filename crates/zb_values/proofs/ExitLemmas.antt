-- How a cell is left at an exclusive gateway.
use Rattle.std.proofs.Common.{◌≡◌, ℕ, List, ◌∷◌, Bool, true, false, cond, if◌then◌else◌, Option, Some, None}
use Rattle.std.specs.Option.{option_map_or}
use Rattle.std.specs.List.{find}
use Rattle.zb_base.specs.declared.value.Value.{Value}
use Rattle.zb_process.specs.declared.model.Node.{Node}
use Rattle.zb_process.specs.declared.model.Flow.{Flow}
use Rattle.zb_tokens.specs.declared.board.Cell.{Cell}
use Rattle.zb_tokens.specs.declared.board.Move.{Move}
use Rattle.zb_tokens.specs.Choice.{by_default, decided, decides, truth_at}
use Rattle.zb_tokens.specs.Forced.{leave_by}
use Rattle.zb_values.specs.Exits.{owed_for, exit_at, decided_by}

module _ (names : List ℕ → Option Value) (n : Node) (f : Flow) (key : ℕ) (c : Cell) (outs rest : List Flow) (left : find (decides names n) (f ∷ rest) ≡ find (decides names n) outs) where
  -- a flow that decides is the first that does
  pub exit-decided : (move : Move) → Some move ≡ decided_by names n f key c → move ≡ leave_by key c (exit_at names n outs)
  exit-decided move is = by_test (decides names n f) is left
    where
      by_test : (t : Bool) → Some move ≡ (if t then Some (leave_by key c (owed_for (decided f (truth_at names f)))) else None) → cond t (Some f) (find (decides names n) rest) ≡ find (decides names n) outs
          → move ≡ leave_by key c (owed_for (option_map_or (λ x. decided x (truth_at names x)) (find (decides names n) outs) (by_default (record { node = n; outs = outs }))))
      by_test true is left = rw (← left) (cc)
      by_test false is left = absurd (cc)

  -- one that doesn't is passed
  pub exit-passed : None ≡ decided_by names n f key c → find (decides names n) rest ≡ find (decides names n) outs
  exit-passed is = by_test (decides names n f) is left
    where
      by_test : (t : Bool) → None ≡ (if t then Some (leave_by key c (owed_for (decided f (truth_at names f)))) else None) → cond t (Some f) (find (decides names n) rest) ≡ find (decides names n) outs
          → find (decides names n) rest ≡ find (decides names n) outs
      by_test true is left = absurd (cc)
      by_test false is left = left
