use Rattle.std.proofs.Common.{◌≡◌, ◌≤◌, ◌+◌, ◌-◌, List, count_by}
use Rattle.std.specs.List.{range_with_len}
use Rattle.zb_base.specs.Key.{key_of}
use Rattle.zb_model.specs.declared.record.Event.{Event}
use Rattle.zb_views.specs.Messages.{is_buffered}
use Rattle.zb_rules.specs.Applies.{holds_of_game, has_cell}
use Rattle.zb_state.specs.State.{IsStateOf}
use Rattle.zb_tally.proofs.counting.count_keys.Given as goal

-- the keys before this one were counted
abbrev pub invariant-loop-number : goal.invariant-loop-number
invariant-loop-number l = record {
  few_cells : l.cells + key_of l.fn.place 1 ≤ l.number;
  few_messages : l.messages + key_of l.fn.place 1 ≤ l.number;
  cells : (es : List Event) → IsStateOf es l.state → l.cells ≡ count_by (λ key. holds_of_game (has_cell key) es) (range_with_len (key_of l.fn.place 1) (l.number - key_of l.fn.place 1));
  messages : (es : List Event) → IsStateOf es l.state → l.messages ≡ count_by (λ key. is_buffered key es) (range_with_len (key_of l.fn.place 1) (l.number - key_of l.fn.place 1));
}
