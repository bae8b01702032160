-- Laws of the incidents of a log whose events apply: they stand on different cells and have different keys, and none is left
-- on a cell that begins to terminate.
use Rattle.std.proofs.Common.{◌≡◌, ℕ, zero, suc, ◌<◌, ◌==◌, List, [], ◌∷◌, ◌++◌, Bool, true, false, ◌&&◌, not, cond, if◌then◌else◌, is_some, IsTrue, Option, Some, None, option_map, option_and_then, All, refl, sym, ap, ◌∙◌, subst, append-nil, arith}
use Rattle.std.specs.Option.{option_map_or}
use Rattle.std.specs.List.{find, AllPairs}
use Rattle.std.proofs.lemmas.Bool.{and_parts, not-true}
use Rattle.std.proofs.lemmas.Bool.Decides.{nat_tests}
use Rattle.std.proofs.lemmas.List.Elements.{All-head, All-tail, All-push, All-weaker}
use Rattle.std.proofs.lemmas.List.Quantifiers.{all_pairs_push}
use Rattle.zb_instance_records.specs.declared.instance.ElementActivating.{ElementActivating}
use Rattle.zb_instance_records.specs.declared.happening.IncidentCreated.{IncidentCreated}
use Rattle.zb_instance_records.specs.declared.happening.IncidentResolved.{IncidentResolved}
use Rattle.zb_model.specs.declared.record.Event.{Event}
use Rattle.zb_model.specs.declared.record.Event.TheVariants as events
use Rattle.zb_views.specs.Jobs.{job_at}
use Rattle.zb_views.specs.View.{next_key}
use Rattle.zb_tokens.specs.declared.board.Cell.{Cell}
use Rattle.zb_tokens.specs.declared.board.Incident.{Incident}
use Rattle.zb_tokens.specs.declared.board.Move.{Move}
use Rattle.zb_tokens.specs.declared.board.Move.TheVariants as moves
use Rattle.zb_tokens.specs.Edits.{removed}
use Rattle.zb_tokens.specs.Board.{Board, cell_at}
use Rattle.zb_tokens.specs.Incidents.{incident_on, is_stuck}
use Rattle.zb_tokens.specs.MoveIncident.{may_stand}
use Rattle.zb_tokens.specs.Effects.{is_of_incident}
use Rattle.zb_tokens.specs.Game.{empty_board, fits}
use Rattle.zb_tokens.proofs.GameLaws.{both_left, holds_some, found_passes, found_holds, none_found}
use Rattle.zb_tokens.proofs.EffectLaws.{mapped_from, incidents_stay}
use Rattle.zb_rules.specs.Shown.{shown, move_of_cell, after_shown, board_of}
use Rattle.zb_rules.specs.Applies.{is_fresh}
use Rattle.zb_rules.specs.Behind.{repair_event, resolved_on}
use Rattle.zb_rules.specs.Sound.{StandApart}
use Rattle.zb_rules.proofs.GrowthLaws.{board_of_more, job_shows, started, begin_shows}
use Rattle.zb_rules.proofs.MadeLaws.{mapped_holds}
use Rattle.zb_rules.proofs.PlayedLaws.{removed_all, removed_pairs}
use Rattle.zb_rules.proofs.ScopesLaws.{at_cell}
use Rattle.zb_rules.proofs.AppliedLaws.{Advances, some_of}
use Rattle.zb_rules.proofs.KeysLaws.{next_key_more, fresh_is, fresh_below, first_named}

-- the incidents of a board of a log stand apart, and their keys lie below the next one
pub record HasApartIncidents (p : ℕ) (es : List Event) (b : Board) : Type 0 where
  pub below : All (λ (i : Incident). i.key < next_key p es) b.incidents
  pub apart : AllPairs StandApart b.incidents

module _ (p : ℕ) (before : List Event) (b : Board) (s : HasApartIncidents p before b) where
  still_below : (e : Event) → All (λ (i : Incident). i.key < next_key p (before ++ e ∷ [])) b.incidents
  still_below e = All-weaker (λ (i : Incident). i.key < next_key p before) (λ (i : Incident). i.key < next_key p (before ++ e ∷ [])) (λ i less. omega (arith, less, next_key_more p before e)) b.incidents s.below

  -- they are the same behind an event that shows another move, or none
  same_by : (e : Event) (after : Board) (move : Option Move) → option_map_or is_of_incident move false ≡ false → after_shown b move ≡ Some after → after.incidents ≡ b.incidents
  same_by e after None other made = let same : b ≡ after = cc in ap (λ (x : Board). x.incidents) (sym same)
  same_by e after (Some move) other made = incidents_stay b after move other made

  same_apart : (e : Event) (after : Board) (move : Option Move) → option_map_or is_of_incident move false ≡ false → after_shown b move ≡ Some after → HasApartIncidents p (before ++ e ∷ []) after
  same_apart e after move other made =
      let same = same_by e after move other made in
      record {
        below = subst (All (λ (i : Incident). i.key < next_key p (before ++ e ∷ []))) (sym same) (still_below e);
        apart = subst (AllPairs StandApart) (sym same) s.apart;
      }

  activating_apart : (a : ElementActivating) (after : Board) (t : Bool)
      → after_shown b (if t then Some (moves.Start (started a)) else Some (move_of_cell a a.role)) ≡ Some after
      → HasApartIncidents p (before ++ events.ElementActivating a ∷ []) after
  activating_apart a after t made = same_apart (events.ElementActivating a) after (if t then Some (moves.Start (started a)) else Some (move_of_cell a a.role))
      (begin_shows (λ (m : Option Move). option_map_or is_of_incident m false ≡ false) a t refl refl refl refl) made

  -- no incident stands on the cell of a new one
  none_on : (i : Incident) → IsTrue (fits b (moves.Incident i)) → All (λ (x : Incident). (x.cell == i.cell) ≡ false) b.incidents
  none_on i fit =
      let found = some_of (cell_at b i.cell) (holds_some _ (cell_at b i.cell) fit) in
      let h = and_parts (may_stand b i found.0) (not (is_stuck b found.0)) (at_cell (λ (c : Cell). may_stand b i c && not (is_stuck b c)) (cell_at b i.cell) found.0 found.1 fit) in
      let its : (found.0.key == i.cell) ≡ true = found_passes (λ (c : Cell). c.key == i.cell) b.cells found.0 found.1 in
      let none = none_by (incident_on b found.0.key) (not-true (is_stuck b found.0) h.1) in
      let out = none_found (λ (x : Incident). x.cell == found.0.key) (λ (x : Incident). (x.cell == found.0.key) ≡ false) (λ x it. it) b.incidents none in
      λ k d within. let other = out k d within in grind (arith, nat_tests, its, other)
    where
      none_by : (o : Option Incident) → is_some o ≡ false → o ≡ None
      none_by None is = refl
      none_by (Some x) is = absurd (cc)

  created_apart : (c : IncidentCreated) (after : Board) → Advances p before b (events.IncidentCreated c) after → HasApartIncidents p (before ++ events.IncidentCreated c ∷ []) after
  created_apart c after h =
      let i : Incident = record { key = c.key; kind = c.kind; cell = c.cell; job = c.job; text = c.text } in
      let e = events.IncidentCreated c in
      let fresh = both_left (is_fresh p before c.key) _ h.own in
      let its = (fresh_is p before c.key fresh).1 in
      let below = fresh_below p before e c.key fresh (first_named p c.key (c.cell ∷ c.job ∷ [])) in
      let out = none_on i h.fit in
      let same : record b { incidents = b.incidents ++ i ∷ [] } ≡ after = (let led : Some (record b { incidents = b.incidents ++ i ∷ [] }) ≡ Some after = h.leads in cc) in
      subst (HasApartIncidents p (before ++ e ∷ [])) same (record {
        below = All-push (λ (x : Incident). x.key < next_key p (before ++ e ∷ [])) b.incidents i (still_below e) below;
        apart = all_pairs_push StandApart b.incidents i s.apart (λ k d within. (out k d within, let less = s.below k d within in grind (arith, nat_tests, less, its)));
      })

  resolved_apart : (r : IncidentResolved) (after : Board) → Advances p before b (events.IncidentResolved r) after → HasApartIncidents p (before ++ events.IncidentResolved r ∷ []) after
  resolved_apart r after h =
      let e = events.IncidentResolved r in
      mapped_holds (HasApartIncidents p (before ++ e ∷ [])) (λ (xs : List Incident). record b { incidents = xs }) (removed (λ i. i.key == r.key) b.incidents) after
      (λ xs gone. record {
        below = removed_all (λ i. i.key == r.key) (λ (i : Incident). i.key < next_key p (before ++ e ∷ [])) b.incidents xs (still_below e) gone;
        apart = removed_pairs (λ i. i.key == r.key) StandApart b.incidents xs s.apart gone;
      }) h.leads

-- an event that applies keeps them so
pub apart_on : (p : ℕ) (before : List Event) (b : Board) (e : Event) (after : Board) → Advances p before b e after → HasApartIncidents p before b → HasApartIncidents p (before ++ e ∷ []) after
apart_on p before b (events.ElementActivating a) after h s = activating_apart p before b s a after (a.scope == 0) h.leads
apart_on p before b (events.IncidentCreated c) after h s = created_apart p before b s c after h
apart_on p before b (events.IncidentResolved r) after h s = resolved_apart p before b s r after h
apart_on p before b (events.JobCompleted key) after h s =
    same_apart p before b s (events.JobCompleted key) after (shown before (events.JobCompleted key)) (job_shows (λ (m : Option Move). option_map_or is_of_incident m false ≡ false) (λ j. moves.Done j.cell) (job_at key before) refl (λ j. refl)) h.leads
apart_on p before b (events.JobErrorThrown t) after h s =
    same_apart p before b s (events.JobErrorThrown t) after (shown before (events.JobErrorThrown t)) (job_shows (λ (m : Option Move). option_map_or is_of_incident m false ≡ false) (λ j. moves.Throw (record { cell = j.cell; code = t.code })) (job_at t.key before) refl (λ j. refl)) h.leads
apart_on p before b e after h s = same_apart p before b s e after (shown before e) refl h.leads

-- they are apart where there are none
pub apart_first : (p : ℕ) → HasApartIncidents p [] empty_board
apart_first p = record {
  below = λ k d within. absurd (omega arith);
  apart = λ i j d lt within. absurd (omega arith);
}

module _ {A : Type 0} (passes : A → Bool) where
  fails_by : (x : A) (xs : List A) (t : Bool) → passes x ≡ t → t ≡ false → find passes xs ≡ None → cond t (Some x) (find passes xs) ≡ None
  fails_by x xs true is out later = absurd (cc)
  fails_by x xs false is out later = later

  -- where none passes, none is found
  pub none_where : (xs : List A) → All (λ (x : A). passes x ≡ false) xs → find passes xs ≡ None
  none_where [] out = refl
  none_where (x ∷ xs) out = fails_by x xs (passes x) refl (All-head (λ (y : A). passes y ≡ false) x xs out) (none_where xs (All-tail (λ (y : A). passes y ≡ false) x xs out))

-- of incidents that stand apart, the one on a cell is removed: none is left there
abbrev on_it : ℕ → Incident → Bool
on_it cell i = i.cell == cell

abbrev has_key : ℕ → Incident → Bool
has_key key i = i.key == key

module _ (cell : ℕ) (i : Incident) where
  left_by : (x : Incident) (xs ys : List Incident) (on same : Bool) → on_it cell x ≡ on → has_key i.key x ≡ same → All (StandApart x) xs → ((rest : List Incident) → find (on_it cell) xs ≡ Some i → removed (has_key i.key) xs ≡ Some rest → find (on_it cell) rest ≡ None)
      → cond on (Some x) (find (on_it cell) xs) ≡ Some i → (if same then Some xs else option_map (λ zs. x ∷ zs) (removed (has_key i.key) xs)) ≡ Some ys → find (on_it cell) ys ≡ None
  left_by x xs ys true true on same apart later found gone =
      let rest : xs ≡ ys = cc in
      subst (λ (zs : List Incident). find (on_it cell) zs ≡ None) rest (none_where (on_it cell) xs (λ k d within. let other = (apart k d within).0 in grind (arith, nat_tests, on, other)))
  left_by x xs ys true false on same apart later found gone =
      let its : x ≡ i = cc in
      let key : x.key ≡ i.key = ap (λ (y : Incident). y.key) its in
      absurd (grind (arith, nat_tests, key, same))
  left_by x xs ys false true on same apart later found gone =
      let among = (found_holds (on_it cell) (StandApart x) xs i apart found).0.1 in
      absurd (grind (arith, nat_tests, among, same))
  left_by x xs ys false false on same apart later found gone =
      let r = mapped_from (λ (zs : List Incident). x ∷ zs) (removed (has_key i.key) xs) ys gone in
      subst (λ (zs : List Incident). find (on_it cell) zs ≡ None) r.2 (fails_by (on_it cell) x r.0 (on_it cell x) refl on (later r.0 found r.1))

  again_by : (x : Incident) (xs : List Incident) (on same : Bool) → on_it cell x ≡ on → has_key i.key x ≡ same → All (StandApart x) xs → (find (on_it cell) xs ≡ Some i → find (has_key i.key) xs ≡ Some i)
      → cond on (Some x) (find (on_it cell) xs) ≡ Some i → cond same (Some x) (find (has_key i.key) xs) ≡ Some i
  again_by x xs true true on same apart later found = found
  again_by x xs true false on same apart later found =
      let its : x ≡ i = cc in
      let key : x.key ≡ i.key = ap (λ (y : Incident). y.key) its in
      absurd (grind (arith, nat_tests, key, same))
  again_by x xs false true on same apart later found =
      let among = (found_holds (on_it cell) (StandApart x) xs i apart found).0.1 in
      absurd (grind (arith, nat_tests, among, same))
  again_by x xs false false on same apart later found = later found

  -- the incident on a cell is the one with its key
  pub found_again : (xs : List Incident) → AllPairs StandApart xs → find (on_it cell) xs ≡ Some i → find (has_key i.key) xs ≡ Some i
  found_again [] apart found = absurd (cc)
  found_again (x ∷ xs) apart found =
      let head : All (StandApart x) xs = λ k d within. apart zero (suc k) d (omega arith) (omega arith) in
      let tail : AllPairs StandApart xs = λ j k d lt within. apart (suc j) (suc k) d (omega arith) (omega arith) in
      again_by x xs (on_it cell x) (has_key i.key x) refl refl head (found_again xs tail) found

  none_left : (xs ys : List Incident) → AllPairs StandApart xs → find (on_it cell) xs ≡ Some i → removed (has_key i.key) xs ≡ Some ys → find (on_it cell) ys ≡ None
  none_left [] ys apart found gone = absurd (cc)
  none_left (x ∷ xs) ys apart found gone =
      let head : All (StandApart x) xs = λ k d within. apart zero (suc k) d (omega arith) (omega arith) in
      let tail : AllPairs StandApart xs = λ j k d lt within. apart (suc j) (suc k) d (omega arith) (omega arith) in
      left_by x xs ys (on_it cell x) (has_key i.key x) refl refl head (λ rest. none_left xs rest tail) found gone

-- behind the events that resolve the incident on a cell, none stands there
module _ (es : List Event) (b : Board) (cell : ℕ) (is : board_of es ≡ Some b) (apart : AllPairs StandApart b.incidents) where
  gone_by : (found : Option Incident) (after : Board) → incident_on b cell ≡ found → board_of (es ++ option_map_or (λ i. repair_event i ∷ []) found []) ≡ Some after → incident_on after cell ≡ None
  gone_by None after at led =
      let same : b ≡ after = (let e : Some b ≡ Some after = sym is ∙ (ap board_of (sym (append-nil es)) ∙ led) in cc) in
      subst (λ (x : Board). incident_on x cell ≡ None) same at
  gone_by (Some i) after at led =
      let its : option_map (λ (xs : List Incident). record b { incidents = xs }) (removed (λ x. x.key == i.key) b.incidents) ≡ Some after =
      sym (ap (option_and_then (λ (x : Board). after_shown x (Some (moves.Repair i.key)))) is) ∙ (sym (board_of_more es (repair_event i)) ∙ led) in
      let r = mapped_from (λ (xs : List Incident). record b { incidents = xs }) (removed (λ x. x.key == i.key) b.incidents) after its in
      subst (λ (x : Board). incident_on x cell ≡ None) r.2 (none_left cell i b.incidents r.0 apart at r.1)

  -- on the board behind them
  pub none_behind : (after : Board) → board_of (es ++ resolved_on cell es) ≡ Some after → incident_on after cell ≡ None
  none_behind after led =
      let found : option_and_then (λ (x : Board). incident_on x cell) (board_of es) ≡ incident_on b cell = ap (option_and_then (λ (x : Board). incident_on x cell)) is in
      gone_by (incident_on b cell) after refl (subst (λ (o : Option Incident). board_of (es ++ option_map_or (λ i. repair_event i ∷ []) o []) ≡ Some after) found led)
