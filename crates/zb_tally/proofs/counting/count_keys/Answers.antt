use Rattle.std.proofs.Common.{◌≡◌, ◌≤◌, ◌+◌, ◌-◌, count_by, ap, ◌∙◌, arith}
use Rattle.std.specs.List.{range_with_len}
use Rattle.zb_base.specs.Key.{key_of}
use Rattle.zb_views.specs.View.{greatest_counter, next_key}
use Rattle.zb_views.specs.Messages.{is_buffered}
use Rattle.zb_rules.specs.Applies.{holds_of_game, has_cell}
use Rattle.zb_tally.proofs.CountLemmas.{more_at_most, count_none, count_more}
use Rattle.zb_tally.proofs.counting.count_keys.Goals as goal

pub loop-number-init : goal.loop-number-init
loop-number-init c =
    let first = key_of c.args.place 1 in
    let is : c.number-number.result ≡ first = c.number-number.ensures ∙ c.make.ensures in
    record {
      few_cells = omega (arith, is);
      few_messages = omega (arith, is);
      cells = λ es state. count_none (λ key. holds_of_game (has_cell key) es) first c.number-number.result is;
      messages = λ es state. count_none (λ key. is_buffered key es) first c.number-number.result is;
    }

pub one_more_if-cells-requires : goal.one_more_if-cells-requires
one_more_if-cells-requires c = omega (arith, c.loop-number.invariant.few_cells, c.loop-number-test.true, c.number-number-end.type_inv)

pub one_more_if-messages-requires : goal.one_more_if-messages-requires
one_more_if-messages-requires c = omega (arith, c.loop-number.invariant.few_messages, c.loop-number-test.true, c.number-number-end.type_inv)

pub loop-number-preserved : goal.loop-number-preserved
loop-number-preserved c =
    let first = key_of c.args.place 1 in
    let before = c.loop-number.invariant in
    let from : first ≤ c.loop-number.number = omega (arith, before.few_cells) in
    record {
      few_cells = omega (arith, before.few_cells, more_at_most c.has_cell.result c.loop-number.cells c.one_more_if-cells.result c.one_more_if-cells.ensures);
      few_messages = omega (arith, before.few_messages, more_at_most c.has_message.result c.loop-number.messages c.one_more_if-messages.result c.one_more_if-messages.ensures);
      cells = λ es state.
          count_more (λ key. holds_of_game (has_cell key) es) first c.loop-number.number c.loop-number.cells c.one_more_if-cells.result c.has_cell.result from (before.cells es state)
          (c.has_cell.ensures es state ∙ ap (λ key. holds_of_game (has_cell key) es) c.new-key.ensures) c.one_more_if-cells.ensures;
      messages = λ es state.
          count_more (λ key. is_buffered key es) first c.loop-number.number c.loop-number.messages c.one_more_if-messages.result c.has_message.result from (before.messages es state)
          (c.has_message.ensures es state ∙ ap (λ key. is_buffered key es) c.new-key.ensures) c.one_more_if-messages.ensures;
    }

pub returns-clause-cells : goal.returns-clause-cells
returns-clause-cells c = λ es state.
    let first = key_of c.args.place 1 in
    let is : c.number-number.result ≡ first = c.number-number.ensures ∙ c.make.ensures in
    let end : c.number-number-end.result ≡ key_of c.args.place (greatest_counter c.args.place es + 1) =
    c.number-number-end.ensures ∙ (c.next_key.ensures es state ∙ ap (λ p. next_key p es) c.requires) in
    let all : c.loop-number.number - first ≡ greatest_counter c.args.place es = omega (arith, end, is, c.loop-number-test.false, c.loop-number.auto.number-end, c.loop-number.auto.number) in
    c.loop-number.invariant.cells es state ∙ ap (λ n. count_by (λ key. holds_of_game (has_cell key) es) (range_with_len first n)) all

pub returns-clause-messages : goal.returns-clause-messages
returns-clause-messages c = λ es state.
    let first = key_of c.args.place 1 in
    let is : c.number-number.result ≡ first = c.number-number.ensures ∙ c.make.ensures in
    let end : c.number-number-end.result ≡ key_of c.args.place (greatest_counter c.args.place es + 1) =
    c.number-number-end.ensures ∙ (c.next_key.ensures es state ∙ ap (λ p. next_key p es) c.requires) in
    let all : c.loop-number.number - first ≡ greatest_counter c.args.place es = omega (arith, end, is, c.loop-number-test.false, c.loop-number.auto.number-end, c.loop-number.auto.number) in
    c.loop-number.invariant.messages es state ∙ ap (λ n. count_by (λ key. is_buffered key es) (range_with_len first n)) all
