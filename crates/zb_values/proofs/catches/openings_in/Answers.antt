use Rattle.std.proofs.Common.{◌≡◌, ◌+◌, ◌∷◌, ◌++◌, List, drop, Some, Ok, Err, ap, sym, ◌∙◌, subst, arith}
use Rattle.zb_process.specs.declared.model.Node.{Node}
use Rattle.zb_tokens.specs.declared.board.Opening.{Opening}
use Rattle.zb_tokens.specs.Catches.{event_by, opened_at, openings_in}
use Rattle.zb_values.proofs.AwaitedLemmas.{names_item, item_named}
use Rattle.zb_values.proofs.OpeningLemmas.{behind, opened_more, opened_stops}
use Rattle.zb_values.proofs.catches.openings_in.Goals as goal

pub event_by-requires : goal.event_by-requires
event_by-requires g c = names_item c.args.model.now.nodes c.requires.0 c.args.numbers.now c.requires.1 c.loop-number.number-index (omega arith)

pub node-requires : goal.node-requires
node-requires g c = names_item c.args.model.now.nodes c.requires.0 c.args.numbers.now c.requires.1 c.loop-number.number-index (omega arith)

pub returns-in-Err : goal.returns-in-Err
returns-in-Err g c = λ nodes named.
    let names = g.E.Env.values c.args.env.now in
    let moment = c.args.moment in
    let i = c.loop-number.number-index in
    let item = item_named c.args.model.now.nodes nodes c.args.numbers.now named i (omega arith) in
    let fails : event_by names moment c.args.model.now item.0 ≡ Err c.in-Err.hindrance = sym (c.in_ok-event.ensures item.0 item.1) ∙ c.in-Err.is in
    let so_far : behind c.loop-number.openings (openings_in names moment c.args.model.now (item.0 ∷ drop (i + 1) nodes)) ≡ openings_in names moment c.args.model.now nodes = rw item.2 at (c.loop-number.invariant nodes named) in
    sym (opened_stops names moment c.args.model.now item.0 (drop (i + 1) nodes) c.loop-number.openings c.in-Err.hindrance fails) ∙ so_far

pub loop-number-preserved : goal.loop-number-preserved
loop-number-preserved g c = λ nodes named.
    let names = g.E.Env.values c.args.env.now in
    let moment = c.args.moment in
    let i = c.loop-number.number-index in
    let item = item_named c.args.model.now.nodes nodes c.args.numbers.now named i (omega arith) in
    let opens : event_by names moment c.args.model.now item.0 ≡ Ok c.in-Ok.event = sym (c.in_ok-event.ensures item.0 item.1) ∙ c.in-Ok.is in
    let so_far : behind c.loop-number.openings (openings_in names moment c.args.model.now (item.0 ∷ drop (i + 1) nodes)) ≡ openings_in names moment c.args.model.now nodes = rw item.2 at (c.loop-number.invariant nodes named) in
    let both : Some c.node.result.now ≡ Some item.0 = sym c.node.ensures ∙ item.1 in
    let same : c.node.result.now ≡ item.0 = cc in
    let rest = openings_in names moment c.args.model.now (drop (i + 1) nodes) in
    ap (λ (made : List Opening). behind made rest) c.in_ok-add-in-Ok.ensures
    ∙ subst (λ (n : Node). behind (c.loop-number.openings ++ opened_at n c.in-Ok.event) rest ≡ openings_in names moment c.args.model.now nodes) (sym same)
    (sym (opened_more names moment c.args.model.now item.0 (drop (i + 1) nodes) c.loop-number.openings c.in-Ok.event opens) ∙ so_far)
