-- The first token at a spot, and the tokens without it.
use Rattle.std.proofs.Common.{◌≡◌, ℕ, ◌==◌, List, Bool, true, false, is_some, Option, Some, None, option_map, refl, sym, ap, subst, ◌∙◌}
use Rattle.std.specs.List.{find, list_any}
use Rattle.std.proofs.lemmas.Bool.{and_parts}
use Rattle.zb_table.specs.Rows.{Ascend, without}
use Rattle.zb_groups.specs.declared.held.Held.{Held}
use Rattle.zb_tokens.specs.declared.board.Token.{Token}
use Rattle.zb_tokens.specs.declared.board.Spot.{Spot}
use Rattle.zb_tokens.specs.Board.{is_spot}
use Rattle.zb_tokens.specs.MoveEnter.{stands_at}
use Rattle.zb_places.specs.Places.{first_there, held_tokens, IsTokenTaken}
use Rattle.zb_places.proofs.HeldLemmas.{number_in, any_number, none_gone, first_gone, own_number, one_fewer, none_fewer}

module _ (scope : ℕ) (spot : Spot) (rows : List (Held Token)) (up : Ascend number_in 0 rows) where
  by_found : (found : Option (Held Token)) (n : ℕ) → first_there scope spot rows ≡ found → Some n ≡ option_map number_in found → IsTokenTaken scope spot rows (Some n) (without number_in n rows)
  by_found None n at is = absurd (cc)
  by_found (Some h) n at is =
      let same : h.number ≡ n = cc in
      let own = own_number (λ x. stands_at scope spot x.row) rows h up at in
      let its : (h.row.scope == scope) ≡ true = (and_parts (h.row.scope == scope) (is_spot h.row.spot spot) own.1).0 in
      subst (λ (k : ℕ). IsTokenTaken scope spot rows (Some k) (without number_in k rows)) same
      (record { found = sym (ap (option_map number_in) at); others = refl; gone = first_gone (stands_at scope spot) 0 rows h up at; fewer = one_fewer scope rows h up own.0 its; ascend = up })

  -- it is taken
  pub taken_one : (n : ℕ) → Some n ≡ option_map number_in (first_there scope spot rows) → IsTokenTaken scope spot rows (Some n) (without number_in n rows)
  taken_one n is = by_found (first_there scope spot rows) n refl is

  -- there is none
  pub taken_none : None ≡ option_map number_in (first_there scope spot rows) → IsTokenTaken scope spot rows None rows
  taken_none is =
      let none : list_any (stands_at scope spot) (held_tokens rows) ≡ false = any_number (stands_at scope spot) rows ∙ sym (ap is_some is) in
      record { found = is; others = refl; gone = none_gone (stands_at scope spot) (held_tokens rows) none; fewer = none_fewer scope rows; ascend = up }
