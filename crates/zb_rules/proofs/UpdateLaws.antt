-- The own events of an update apply, and each of its variables has one: the cell in which it is set is there.
use Rattle.std.proofs.Common.{◌≡◌, ℕ, ◌+◌, length, List, [], ◌∷◌, ◌++◌, Bool, true, false, not, if◌then◌else◌, IsTrue, is_some, Option, Some, None, refl, sym, ◌∙◌, subst, append-nil, append_assoc, arith}
use Rattle.std.specs.Option.{option_map_or}
use Rattle.std.proofs.lemmas.List.{length-append}
use Rattle.zb_base.specs.declared.vars.Variable.{Variable}
use Rattle.zb_instance_records.specs.declared.happening.VariableDocumentUpdate.{VariableDocumentUpdate}
use Rattle.zb_model.specs.declared.record.Event.{Event}
use Rattle.zb_model.specs.declared.record.Event.TheVariants as events
use Rattle.zb_model.specs.declared.record.Rejection.{Rejection}
use Rattle.zb_views.specs.View.{next_key}
use Rattle.zb_tokens.specs.declared.board.Assigned.{Assigned}
use Rattle.zb_tokens.specs.declared.board.Cell.{Cell}
use Rattle.zb_tokens.specs.declared.board.Move.TheVariants as moves
use Rattle.zb_tokens.specs.Edits.{edited}
use Rattle.zb_tokens.specs.Board.{Board, cell_at}
use Rattle.zb_tokens.specs.MoveAssign.{has_name, with_variable, play_assign}
use Rattle.zb_tokens.specs.Names.{holder_of}
use Rattle.zb_rules.specs.Shown.{shown, after_shown, board_of}
use Rattle.zb_rules.specs.Applies.{has_cell, holds_of_game, applies, all_apply}
use Rattle.zb_rules.specs.Sound.{IsHolder}
use Rattle.zb_rules.specs.Create.{variable_event}
use Rattle.zb_rules.specs.Update.{reason_to_update, set_in, place_of, set_by, set_each, updated}
use Rattle.zb_rules.proofs.StepLaws.{all_apply_on}
use Rattle.zb_rules.proofs.AppliedLaws.{some_of, game_holds, game_holds_from, applied_from, applied_board, board_behind}
use Rattle.zb_rules.proofs.MadeLaws.{is_keyed, mapped_holds}
use Rattle.zb_rules.proofs.CellsLaws.{ascend_between}
use Rattle.zb_rules.proofs.ScopesLaws.{kept_edited}
use Rattle.zb_rules.proofs.SoundLaws.{BoardKeeps, keeps_on, board_is_there, cells_ascend, board_keeps}
use Rattle.zb_rules.proofs.HolderLaws.{holder_there}
use Rattle.zb_rules.proofs.PlacedLaws.{scopes_of}
use Rattle.zb_rules.proofs.OwnLaws.{silent_applies}

-- a cell is there
there_from : (found : Option Cell) → IsTrue (is_some found) → IsTrue (option_map_or (λ (c : Cell). true) found false)
there_from None is = is
there_from (Some c) is = refl

there_to : (found : Option Cell) → IsTrue (option_map_or (λ (c : Cell). true) found false) → IsTrue (is_some found)
there_to None is = is
there_to (Some c) is = refl

-- and still is as a value is set
still_there : (b after : Board) (a : Assigned) (key : ℕ) → play_assign b a ≡ Some after → IsTrue (has_cell key b) → IsTrue (has_cell key after)
still_there b after a key made is = mapped_holds (λ (x : Board). IsTrue (has_cell key x)) (λ cells. record b { cells = cells }) (edited (is_keyed a.scope) (with_variable a.name a.value) b.cells) after
    (λ cells there. there_to (cell_at (record b { cells = cells }) key)
    (kept_edited (λ (c : Cell). true) a.scope (with_variable a.name a.value) b.cells cells (λ c. refl) (λ c found h. h) there key (there_from (cell_at b key) is))) made

-- an event that sets a variable, and applies
record IsSet (p : ℕ) (before : List Event) (b : Board) (made : List Event) : Type 0 where
  event : Event
  assigned : Assigned
  is : made ≡ event ∷ []
  applied : IsTrue (applies p before event)
  leads : after_shown b (shown before event) ≡ play_assign b assigned

module _ (p : ℕ) (before : List Event) (b : Board) (is : board_of before ≡ Some b) where
  set_as : (cell : ℕ) (v : Variable) (c : Cell) (t : Bool) → cell_at b cell ≡ Some c → has_name v.name c ≡ t
      → IsSet p before b (if t then events.VariableUpdated (record { scope = cell; name = v.name; value = v.value }) ∷ [] else variable_event cell v ∷ [])
  set_as cell v c true found has =
      let a : Assigned = record { scope = cell; name = v.name; value = v.value } in
      let e = events.VariableUpdated (record { scope = cell; name = v.name; value = v.value }) in
      record { event = e; assigned = a; is = refl; applied = applied_from p before b e (moves.Update a) is refl refl (rw (found, has) refl); leads = refl }
  set_as cell v c false found new =
      let a : Assigned = record { scope = cell; name = v.name; value = v.value } in
      let e = variable_event cell v in
      record { event = e; assigned = a; is = refl; applied = applied_from p before b e (moves.Assign a) is refl refl (rw (found, new) refl); leads = refl }

  -- a variable is set in a cell that is there
  set_there : (cell : ℕ) (v : Variable) (c : Cell) → cell_at b cell ≡ Some c → IsSet p before b (set_in cell v before)
  set_there cell v c found = rw (is, found) (set_as cell v c (has_name v.name c) found refl)

  local_by : (t : Bool) (cell : ℕ) (v : Variable) (c : Cell) → cell_at b cell ≡ Some c → IsHolder b v.name (holder_of b cell v.name)
      → IsSet p before b (option_map_or (λ x. set_in x v before) (if t then Some cell else holder_of b cell v.name) [])
  local_by true cell v c found holder = set_there cell v c found
  local_by false cell v c found holder = rw holder.is (set_there holder.key v holder.cell holder.there)

  place_is : (local : Bool) (scope : ℕ) (name : List ℕ) → place_of local scope name before ≡ (if local then Some scope else holder_of b scope name)
  place_is local scope name = rw is refl

  -- wherever it is set from one that is there
  set_from : (local : Bool) (scope : ℕ) (v : Variable) (c : Cell) → BoardKeeps p before b → cell_at b scope ≡ Some c → IsSet p before b (set_by local scope v before)
  set_from local scope v c k found = subst (λ (o : Option ℕ). IsSet p before b (option_map_or (λ x. set_in x v before) o [])) (sym (place_is local scope v.name))
      (local_by local scope v c found (holder_there b (ascend_between 1 (next_key p before) b.cells k.stands.between) (scopes_of b k.placed) v.name scope c found))

-- what holds of a board still does as a value is set
abbrev pub KeptBySetting : (Board → Type 0) → Type 0
KeptBySetting Holds = (b after : Board) (a : Assigned) → play_assign b a ≡ Some after → Holds b → Holds after

-- events that set so many variables, each of which applies, behind which the scope is there, and this holds
pub record AreSet (p scope : ℕ) (Holds : Board → Type 0) (before : List Event) (count : ℕ) (made : List Event) : Type 0 where
  pub after : Board
  pub is : board_of (before ++ made) ≡ Some after
  pub there : IsTrue (has_cell scope after)
  pub holds : Holds after
  pub applied : IsTrue (all_apply p before made)
  pub counted : length made ≡ count

-- each variable is set
module _ (p : ℕ) (local : Bool) (scope : ℕ) (Holds : Board → Type 0) (keeps : KeptBySetting Holds) where
  -- each of these variables is set, one after the other
  pub each_set : (vs : List Variable) (before : List Event) (b : Board) → board_of before ≡ Some b → BoardKeeps p before b → Holds b → IsTrue (has_cell scope b) → AreSet p scope Holds before (length vs) (set_each local scope vs before)
  each_set [] before b is k h there = record { after = b; is = rw (append-nil before) is; there = there; holds = h; applied = refl; counted = refl }
  each_set (v ∷ vs) before b is k h there =
      let found = some_of (cell_at b scope) there in
      let one = set_from p before b is local scope v found.0 k found.1 in
      let e = one.event in
      let r = applied_board p before b e is one.applied in
      let led : play_assign b one.assigned ≡ Some r.0 = sym one.leads ∙ r.1.leads in
      let rest = each_set vs (before ++ e ∷ []) r.0 (board_behind p before b e r.0 r.1) (keeps_on p before b e r.0 r.1 k) (keeps b r.0 one.assigned led h) (still_there b r.0 one.assigned scope led there) in
      let all : AreSet p scope Holds before (length (v ∷ vs)) (e ∷ set_each local scope vs (before ++ e ∷ [])) = record {
        after = rest.after;
        is = rw append_assoc at rest.is;
        there = rest.there;
        holds = rest.holds;
        applied = rw (one.applied) rest.applied;
        counted = omega (arith, rest.counted);
      } in
      subst (λ (made : List Event). AreSet p scope Holds before (length (v ∷ vs)) (made ++ set_each local scope vs (before ++ made))) (sym one.is) all

-- where there is no reason, the scope is there
no_reason : (t : Bool) (a : Rejection) → (if not t then Some a else None) ≡ None → IsTrue t
no_reason true a none = refl
no_reason false a none = absurd (cc)

module _ (p : ℕ) (es : List Event) (b : Board) (is : board_of es ≡ Some b) (k : BoardKeeps p es b) (u : VariableDocumentUpdate) (none : reason_to_update es u.scope ≡ None) where
  all_set : AreSet p u.scope (λ x. Unit {0}) es (length u.variables) (set_each u.local u.scope u.variables es)
  all_set = each_set p u.local u.scope (λ x. Unit {0}) (λ x after a made h. tt) u.variables es b is k tt (game_holds (has_cell u.scope) es b is (no_reason (holds_of_game (has_cell u.scope) es) _ none))

  -- the own events of an update apply
  pub update_applies : IsTrue (all_apply p es (updated u es))
  update_applies =
      let made = set_each u.local u.scope u.variables es in
      let own = game_holds_from (has_cell u.scope) (es ++ made) all_set.after all_set.is all_set.there in
      let last : IsTrue (applies p (es ++ made) (events.VariableDocumentUpdated u.scope)) = silent_applies p (es ++ made) all_set.after (events.VariableDocumentUpdated u.scope) all_set.is own refl in
      rw (all_apply_on p es made (events.VariableDocumentUpdated u.scope ∷ []), all_set.applied, last) refl

  -- one for each of its variables, and one behind them
  pub update_counts : length (updated u es) ≡ length u.variables + 1
  update_counts = omega (arith, length-append (set_each u.local u.scope u.variables es) (events.VariableDocumentUpdated u.scope ∷ []), all_set.counted)

-- a cell that is there has a holder of each name
pub holder_is_there : (p : ℕ) (es : List Event) (b : Board) (scope : ℕ) (name : List ℕ) → IsTrue (all_apply p [] es) → board_of es ≡ Some b → IsTrue (is_some (cell_at b scope)) → IsHolder b name (holder_of b scope name)
holder_is_there p es b scope name apply is there =
    let k = board_keeps p es b apply is in
    let found = some_of (cell_at b scope) there in
    holder_there b (cells_ascend p es b apply is) (scopes_of b k.placed) name scope found.0 found.1

-- each variable of an update has an event of its own, and one is behind them all
pub update_is_whole : (p : ℕ) (es : List Event) (u : VariableDocumentUpdate) → IsTrue (all_apply p [] es) → reason_to_update es u.scope ≡ None → length (updated u es) ≡ length u.variables + 1
update_is_whole p es u apply none =
    let found = some_of (board_of es) (board_is_there p es apply) in
    update_counts p es found.0 found.1 (board_keeps p es found.0 apply found.1) u none
