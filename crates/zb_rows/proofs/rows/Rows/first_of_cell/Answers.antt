use Rattle.std.proofs.Common.{◌≡◌, ℕ, List, [], ◌∷◌, map, filter, slice_get, Bool, true, false, cond, Some, option_map, refl, ap, ◌∙◌}
use Rattle.std.specs.List.{find}
use Rattle.zb_pairs.specs.Pairs.{is_number}
use Rattle.zb_pairs.proofs.UnderLemmas.{kept_under}
use Rattle.zb_rows.proofs.rows.Rows.first_of_cell.Goals as goal

-- the first of those that pass is the one that is found
first_found : {A : Type 0} (key : A → ℕ) (p : A → Bool) (rows : List A) → slice_get (map key (filter p rows)) 0 ≡ option_map key (find p rows)
first_found key p [] = refl
first_found key p (r ∷ rows) = by_test (p r) (first_found key p rows)
  where
    by_test : (t : Bool) → slice_get (map key (filter p rows)) 0 ≡ option_map key (find p rows) → slice_get (map key (cond t (r ∷ filter p rows) (filter p rows))) 0 ≡ option_map key (cond t (Some r) (find p rows))
    by_test true later = refl
    by_test false later = later

pub returns : goal.returns
returns g c =
    let key = g.R.Row.key_in in
    let cell = g.R.Kept.cell_in in
    let keys = kept_under key cell c.args.cell c.self.inside.rows c.self.inside.cells c.self.invariant.ascend c.self.invariant.at_cells c.first_under.ensures.order in
    c.first_under.ensures.key ∙ (ap (λ (ks : List ℕ). slice_get ks 0) keys
    ∙ (first_found key (λ (r : g.row.R.Denot). is_number c.args.cell (cell r)) c.self.inside.rows
    ∙ ap (λ (rows : List g.row.R.Denot). option_map key (find (λ r. is_number c.args.cell (cell r)) rows)) c.self.view_is))
