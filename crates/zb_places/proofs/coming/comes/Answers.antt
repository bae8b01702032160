use Rattle.std.proofs.Common.{◌≡◌, refl, ◌∙◌, rules}
use Rattle.zb_tokens.specs.declared.board.Spot.TheVariants as spots
use Rattle.zb_places.proofs.EntryLemmas.{entry_at-found, entry_at-none}
use Rattle.zb_places.proofs.coming.comes.Goals as goal

pub returns-in-Some : goal.returns-in-Some
returns-in-Some c =
    let t = c.args.token.now in
    let is_on : t.spot ≡ spots.OnFlow c.in-OnFlow.id = search rules in
    let way = entry_at-found c.args.model.now t.spot c.in-OnFlow.id _ c.in-Some.flow.now is_on c.as_str-in-OnFlow.ensures c.in-Some.ensures in
    c.has_come_by.ensures ∙ rw (way, c.as_str-node.ensures, c.as_str-in-Some.ensures) refl

pub returns-in-None : goal.returns-in-None
returns-in-None c =
    let t = c.args.token.now in
    let is_on : t.spot ≡ spots.OnFlow c.in-OnFlow.id = search rules in
    let way = entry_at-none c.args.model.now t.spot c.in-OnFlow.id _ is_on c.as_str-in-OnFlow.ensures c.in-None.ensures in
    rw way refl
