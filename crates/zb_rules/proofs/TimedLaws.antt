-- Cells that wait for events: they are active, and no roots.
use Rattle.std.proofs.Common.{◌≡◌, Bool, true, false, ◌&&◌, ◌||◌, not, IsTrue, IsFalse, Option, Some, None, refl}
use Rattle.std.specs.Option.{option_map_or}
use Rattle.zb_process.specs.declared.model.Model.{Model}
use Rattle.zb_tokens.specs.declared.board.Cell.{Cell}
use Rattle.zb_tokens.specs.declared.board.Triggered.{Triggered}
use Rattle.zb_tokens.specs.declared.board.Phase.TheVariants as phases
use Rattle.zb_tokens.specs.Board.{Board, model_under, is_phase, is_root}
use Rattle.zb_tokens.specs.Doom.{is_doomed}
use Rattle.zb_tokens.specs.declared.board.Catch.TheVariants as catches
use Rattle.zb_tokens.specs.Catches.{may_be_told, awaits}
use Rattle.zb_tokens.proofs.GameLaws.{both_left, both_right}
use Rattle.zb_tokens.specs.MoveTrigger.{awaits_event}

-- a cell that waits for an event is active
pub awaits_active : (b : Board) (t : Triggered) (c : Cell) → IsTrue (awaits_event b t c) → IsTrue (is_phase c.phase phases.Active)
awaits_active b t c waits = both_left (is_phase c.phase phases.Active) _ (both_left (is_phase c.phase phases.Active && not (is_doomed b c)) _ (both_left (may_be_told b c) _ waits))

none_there : (m : Option Model) → option_map_or (λ (x : Model). false) m false ≡ false
none_there None = refl
none_there (Some m) = refl

-- and no root
pub awaits_inner : (b : Board) (t : Triggered) (c : Cell) → IsTrue (awaits_event b t c) → IsFalse (is_root c)
awaits_inner b t c waits = by_root (is_root c) refl
  where
    by_root : (root : Bool) → is_root c ≡ root → root ≡ false
    by_root false is = refl
    by_root true is =
        let awaited = both_right (may_be_told b c) (awaits catches.Time b c t.node || awaits catches.Message b c t.node) waits in
        let at_none = none_there (model_under b c.definition) in
        absurd (let none : (awaits catches.Time b c t.node || awaits catches.Message b c t.node) ≡ false = rw (is, at_none) refl in cc)
