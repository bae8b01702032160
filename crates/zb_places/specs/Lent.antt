-- Spots whose ids are lent.
use Rattle.zb_tokens.specs.declared.board.Spot.{Spot}
use Rattle.zb_tokens.specs.declared.board.Spot.TheVariants as spots
use Rattle.zb_places.specs.declared.place.Lent.{Lent}
use Rattle.zb_places.specs.declared.place.Lent.TheVariants as lent

-- the spot with a lent id (own)
abbrev pub spot_lent : Lent → Spot
spot_lent (lent.OnFlow flow) = spots.OnFlow flow.now
spot_lent (lent.BeforeNode node) = spots.BeforeNode node.now
