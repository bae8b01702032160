-- Laws of what moves change and leave alone, in the subject's own words.
use Rattle.std.proofs.Common.{◌≡◌, ℕ, ℤ, ◌==◌, List, [], ◌∷◌, ◌++◌, filter, slice_get, cond, option_map, option_and_then, Bool, true, false, not, is_some, ◌||◌, if◌then◌else◌, IsTrue, IsFalse, All, Option, Some, None, refl, sym, ap, ◌∙◌, subst, arith}
use Rattle.std.specs.Option.{option_map_or}
use Rattle.std.specs.List.{find, list_any, list_all}
use Rattle.std.proofs.lemmas.Bool.{and_parts, and_from, and_left, and_right, or_left, or_parts, or_right, not-true}
use Rattle.std.proofs.lemmas.Bool.Decides.{nat_tests}
use Rattle.std.proofs.lemmas.List.{append-nil}
use Rattle.std.proofs.lemmas.List.Elements.{filter-append}
use Rattle.std.proofs.lemmas.Map.Views.{any-filter_same}
use Rattle.std.proofs.lemmas.Option.{cond_some, same_Some}
use Rattle.std.proofs.lemmas.Slice.Eq.{bytes_eq-Decides}
use Rattle.zb_process.specs.declared.model.Model.{Model}
use Rattle.zb_process.specs.declared.model.Node.{Node}
use Rattle.zb_tokens.specs.declared.board.Cell.{Cell}
use Rattle.zb_tokens.specs.declared.board.Token.{Token}
use Rattle.zb_tokens.specs.declared.board.Incident.{Incident}
use Rattle.zb_tokens.specs.declared.board.Spot.{Spot}
use Rattle.zb_tokens.specs.declared.board.Spot.TheVariants as spots
use Rattle.zb_instance_records.specs.declared.instance.Role.TheVariants as roles
use Rattle.zb_tokens.specs.declared.board.Enter.{Enter}
use Rattle.zb_tokens.specs.declared.board.Inner.{Inner}
use Rattle.zb_tokens.specs.declared.board.Leave.{Leave}
use Rattle.zb_tokens.specs.declared.board.Start.{Start}
use Rattle.zb_tokens.specs.declared.board.Triggered.{Triggered}
use Rattle.zb_tokens.specs.declared.board.Mark.{Mark}
use Rattle.zb_tokens.specs.declared.board.Phase.TheVariants as phases
use Rattle.zb_tokens.specs.declared.board.Move.{Move}
use Rattle.zb_tokens.specs.declared.board.Move.TheVariants as moves
use Rattle.zb_tokens.specs.Edits.{edited, removed, without_first}
use Rattle.zb_tokens.specs.Board.{Board, cell_at, model_under, start_in, scope_id, holds_tokens, in_phase, new_cell, is_spot, leaves_in, emptied, with_token}
use Rattle.zb_tokens.specs.MoveStart.{play_start}
use Rattle.zb_tokens.specs.MoveEnter.{spots_of, stands_at, stand_at_each, without_each, entering, entered, play_enter}
use Rattle.zb_tokens.specs.MoveInner.{one_taken, run_in, play_inner}
use Rattle.zb_tokens.specs.declared.board.Undo.{Undo}
use Rattle.zb_tokens.specs.Handlers.{can_be_undone}
use Rattle.zb_tokens.specs.MoveUndo.{handler_in, one_undone, play_undo}
use Rattle.zb_tokens.specs.MoveOpen.{start_tokens, first_tokens, with_items, play_open}
use Rattle.zb_tokens.specs.MoveLeave.{leaving, ends_scope, with_end, scope_ended, with_finished, noted_finished, left_behind, play_leave}
use Rattle.zb_tokens.specs.MoveTake.{rest_of, spot_behind, play_take}
use Rattle.zb_tokens.specs.MoveTrigger.{mark_by, told, play_trigger}
use Rattle.zb_tokens.specs.MoveHalt.{play_halt}
use Rattle.zb_tokens.specs.MoveGone.{play_gone}
use Rattle.zb_tokens.specs.Marks.{with_mark}
use Rattle.zb_tokens.specs.declared.board.Mark.TheVariants as marks
use Rattle.zb_tokens.specs.MoveAssign.{with_variable}
use Rattle.zb_tokens.specs.Game.{played}
use Rattle.zb_tokens.proofs.GameLaws.{removed_some, edited_some, any_found, found_passes, found_holds, found_through, both_left, both_right}
use Rattle.zb_tokens.specs.Effects.{is_or_leaves_in, scope_ended_by, scope_finished_in, names_cell, names_scope, other_cells, other_tokens, is_stand, is_of_incident, is_emptied, are_apart, IsWithoutFirst, IsWithoutEach, IsEntered}

same_key : (key : ℕ) → (key == key) ≡ true
same_key key = grind (arith, nat_tests)

module _ {A B : Type 0} where
  -- what was there where the outcome is
  pub mapped_from : (f : A → B) (o : Option A) (y : B) → option_map f o ≡ Some y → (x : A) × (o ≡ Some x) × (f x ≡ y)
  mapped_from f None y is = absurd (cc)
  mapped_from f (Some x) y is = (x, refl, cc)

  -- what a chain gives comes from a thing that is there
  pub chained_from : (f : A → Option B) (o : Option A) (y : B) → option_and_then f o ≡ Some y → (x : A) × (o ≡ Some x) × (f x ≡ Some y)
  chained_from f None y is = absurd (cc)
  chained_from f (Some x) y is = (x, refl, is)

module _ {A : Type 0} (keep : A → Bool) where
  -- members behind a list, none of which is kept, change nothing of what is kept
  pub kept_with_more : (xs more : List A) → filter keep more ≡ [] → filter keep (xs ++ more) ≡ filter keep xs
  kept_with_more xs more none = filter-append keep xs more ∙ (ap (λ (fs : List A). filter keep xs ++ fs) none ∙ append-nil (filter keep xs))

  -- nor does a single one
  pub kept_with_one : (xs : List A) (x : A) → keep x ≡ false → filter keep (xs ++ x ∷ []) ≡ filter keep xs
  kept_with_one xs x out = kept_with_more xs (x ∷ []) (ap (λ (t : Bool). cond t (x ∷ []) []) out)

  first_by : (t : Bool) (x : A) (xs : List A) → find keep xs ≡ slice_get (filter keep xs) 0 → cond t (Some x) (find keep xs) ≡ slice_get (cond t (x ∷ filter keep xs) (filter keep xs)) 0
  first_by true x xs later = refl
  first_by false x xs later = later

  -- the one that is found is the first that is kept
  pub found_first : (xs : List A) → find keep xs ≡ slice_get (filter keep xs) 0
  found_first [] = refl
  found_first (x ∷ xs) = first_by (keep x) x xs (found_first xs)

  any_by : (t : Bool) (x : A) (xs : List A) → list_any keep xs ≡ is_some (slice_get (filter keep xs) 0) → (t || list_any keep xs) ≡ is_some (slice_get (cond t (x ∷ filter keep xs) (filter keep xs)) 0)
  any_by true x xs later = refl
  any_by false x xs later = later

  -- one passes where one is kept
  pub any_first : (xs : List A) → list_any keep xs ≡ is_some (slice_get (filter keep xs) 0)
  any_first [] = refl
  any_first (x ∷ xs) = any_by (keep x) x xs (any_first xs)

  or_same : (o : Option (List A)) (xs : List A) → ((ys : List A) → o ≡ Some ys → filter keep ys ≡ filter keep xs) → filter keep (option_map_or (λ ys. ys) o xs) ≡ filter keep xs
  or_same None xs each = refl
  or_same (Some ys) xs each = each ys refl

  module _ (passes : A → Bool) (apart : (x : A) → passes x ≡ true → keep x ≡ false) where
    -- what is kept where the first member that passes is edited, or gone, or all that pass are, if none that passes is kept
    edited_by : (edit : A → A) → ((x : A) → passes x ≡ true → keep (edit x) ≡ false) → (t : Bool) (x : A) (xs ys : List A) → passes x ≡ t → ((zs : List A) → edited passes edit xs ≡ Some zs → filter keep zs ≡ filter keep xs)
        → (if t then Some (edit x ∷ xs) else option_map (λ zs. x ∷ zs) (edited passes edit xs)) ≡ Some ys → filter keep ys ≡ filter keep (x ∷ xs)
    edited_by edit out true x xs ys it later is =
        let e : edit x ∷ xs ≡ ys = cc in
        let gone : keep x ≡ false = apart x it in
        let gone' : keep (edit x) ≡ false = out x it in
        subst (λ (zs : List A). filter keep zs ≡ filter keep (x ∷ xs)) e (rw (gone, gone') refl)
    edited_by edit out false x xs ys it later is =
        let r = mapped_from (λ (zs : List A). x ∷ zs) (edited passes edit xs) ys is in
        subst (λ (zs : List A). filter keep zs ≡ filter keep (x ∷ xs)) r.2 (ap (λ (fs : List A). cond (keep x) (x ∷ fs) fs) (later r.0 r.1))

    -- an edit of a member that isn't kept, nor is once it is edited, leaves what is kept
    pub edited_keeps : (edit : A → A) → ((x : A) → passes x ≡ true → keep (edit x) ≡ false) → (xs ys : List A) → edited passes edit xs ≡ Some ys → filter keep ys ≡ filter keep xs
    edited_keeps edit out [] ys is = absurd (cc)
    edited_keeps edit out (x ∷ xs) ys is = edited_by edit out (passes x) x xs ys refl (edited_keeps edit out xs) is

    removed_by : (t : Bool) (x : A) (xs ys : List A) → passes x ≡ t → ((zs : List A) → removed passes xs ≡ Some zs → filter keep zs ≡ filter keep xs)
        → (if t then Some xs else option_map (λ zs. x ∷ zs) (removed passes xs)) ≡ Some ys → filter keep ys ≡ filter keep (x ∷ xs)
    removed_by true x xs ys it later is =
        let e : xs ≡ ys = cc in
        let gone : keep x ≡ false = apart x it in
        subst (λ (zs : List A). filter keep zs ≡ filter keep (x ∷ xs)) e (rw gone refl)
    removed_by false x xs ys it later is =
        let r = mapped_from (λ (zs : List A). x ∷ zs) (removed passes xs) ys is in
        subst (λ (zs : List A). filter keep zs ≡ filter keep (x ∷ xs)) r.2 (ap (λ (fs : List A). cond (keep x) (x ∷ fs) fs) (later r.0 r.1))

    -- removing a member that isn't kept leaves what is kept
    pub removed_keeps : (xs ys : List A) → removed passes xs ≡ Some ys → filter keep ys ≡ filter keep xs
    removed_keeps [] ys is = absurd (cc)
    removed_keeps (x ∷ xs) ys is = removed_by (passes x) x xs ys refl (removed_keeps xs) is

    filtered_by : (t : Bool) (x : A) (xs : List A) → passes x ≡ t → filter keep (filter (λ y. not (passes y)) xs) ≡ filter keep xs
        → filter keep (cond (not t) (x ∷ filter (λ y. not (passes y)) xs) (filter (λ y. not (passes y)) xs)) ≡ filter keep (x ∷ xs)
    filtered_by true x xs it later = later ∙ ap (λ (t : Bool). cond t (x ∷ filter keep xs) (filter keep xs)) (sym (apart x it))
    filtered_by false x xs it later = ap (λ (fs : List A). cond (keep x) (x ∷ fs) fs) later

    -- taking away members that aren't kept leaves what is kept
    pub filtered_keeps : (xs : List A) → filter keep (filter (λ x. not (passes x)) xs) ≡ filter keep xs
    filtered_keeps [] = refl
    filtered_keeps (x ∷ xs) = filtered_by (passes x) x xs refl (filtered_keeps xs)

-- where the same is kept of two lists, the same is found in them
same_found : {A : Type 0} (keep : A → Bool) (xs ys : List A) → filter keep xs ≡ filter keep ys → find keep xs ≡ find keep ys
same_found keep xs ys same = found_first keep xs ∙ (ap (λ fs. slice_get fs 0) same ∙ sym (found_first keep ys))

module _ {A : Type 0} (passes : A → Bool) (edit : A → A) (still : (x : A) → passes x ≡ true → passes (edit x) ≡ true) where
  found_edited_by : (t : Bool) (x : A) (xs ys : List A) → passes x ≡ t → ((zs : List A) → edited passes edit xs ≡ Some zs → (z : A) × (find passes xs ≡ Some z) × (find passes zs ≡ Some (edit z)))
      → (if t then Some (edit x ∷ xs) else option_map (λ zs. x ∷ zs) (edited passes edit xs)) ≡ Some ys → (z : A) × (cond t (Some x) (find passes xs) ≡ Some z) × (find passes ys ≡ Some (edit z))
  found_edited_by true x xs ys it later is =
      let e : edit x ∷ xs ≡ ys = cc in
      (x, refl, subst (λ (zs : List A). find passes zs ≡ Some (edit x)) e (ap (λ (t : Bool). cond t (Some (edit x)) (find passes xs)) (still x it)))
  found_edited_by false x xs ys it later is =
      let r = mapped_from (λ (zs : List A). x ∷ zs) (edited passes edit xs) ys is in
      let f = later r.0 r.1 in
      (f.0, f.1, subst (λ (zs : List A). find passes zs ≡ Some (edit f.0)) r.2 (ap (λ (t : Bool). cond t (Some x) (find passes r.0)) it ∙ f.2))

  -- the one that is found where it was edited
  pub found_edited : (xs ys : List A) → edited passes edit xs ≡ Some ys → (x : A) × (find passes xs ≡ Some x) × (find passes ys ≡ Some (edit x))
  found_edited [] ys is = absurd (cc)
  found_edited (x ∷ xs) ys is = found_edited_by (passes x) x xs ys refl (found_edited xs) is

-- behind a move a board has the same models and incidents, and the same of the cells and of the tokens that pass these tests
record IsSameIn (cells : Cell → Bool) (tokens : Token → Bool) (b after : Board) : Type 0 where
  same_cells : filter cells after.cells ≡ filter cells b.cells
  same_tokens : filter tokens after.tokens ≡ filter tokens b.tokens
  same_models : after.models ≡ b.models
  same_incidents : after.incidents ≡ b.incidents

-- what is known of an entry that was played
enter_parts : (b after : Board) (e : Enter) → play_enter b e ≡ Some after
    → (c : Cell) × (m : Model) × (cell_at b e.scope ≡ Some c) × (model_under b c.definition ≡ Some m) × (stand_at_each e.scope (spots_of m e.node e.via) b.tokens ≡ true) × (entered b e c m ≡ after)
enter_parts b after e is =
    let r = chained_from (λ (c : Cell). option_and_then (λ m. if stand_at_each e.scope (spots_of m e.node e.via) b.tokens then Some (entered b e c m) else None) (model_under b c.definition)) (cell_at b e.scope) after is in
    let s = chained_from (λ (m : Model). if stand_at_each e.scope (spots_of m e.node e.via) b.tokens then Some (entered b e r.0 m) else None) (model_under b r.0.definition) after r.2 in
    let u = cond_some (stand_at_each e.scope (spots_of s.0 e.node e.via) b.tokens) (entered b e r.0 s.0) after s.2 in
    (r.0, s.0, r.1, s.1, u.0, u.1)

-- what is known of a Leave that was played
leave_parts : (b after : Board) (l : Leave) → play_leave b l ≡ Some after → (c : Cell) × (left : Board) × (cell_at b l.key ≡ Some c) × (leaving l.owed l.key b ≡ Some left) × (left_behind b c left ≡ after)
leave_parts b after l is =
    let r = chained_from (λ (c : Cell). option_map (left_behind b c) (leaving l.owed l.key b)) (cell_at b l.key) after is in
    let s = mapped_from (left_behind b r.0) (leaving l.owed l.key b) after r.2 in
    (r.0, s.0, r.1, s.1, s.2)

-- what is known of a Halt that was played
halt_parts : (b after : Board) (key : ℕ) → play_halt b key ≡ Some after → (cs : List Cell) × (edited (λ c. c.key == key) (in_phase phases.Terminating []) b.cells ≡ Some cs) × (emptied key (record b { cells = cs }) ≡ after)
halt_parts b after key is = mapped_from (λ (cs : List Cell). emptied key (record b { cells = cs })) (edited (λ c. c.key == key) (in_phase phases.Terminating []) b.cells) after is

-- of the cells those are kept and of the tokens those stay that pass these tests
module _ (keep : Cell → Bool) (stay : Token → Bool) where
  same_then : (b left after : Board) → IsSameIn keep stay b left → IsSameIn keep stay left after → IsSameIn keep stay b after
  same_then b left after one two = record {
    same_cells = two.same_cells ∙ one.same_cells;
    same_tokens = two.same_tokens ∙ one.same_tokens;
    same_models = two.same_models ∙ one.same_models;
    same_incidents = two.same_incidents ∙ one.same_incidents;
  }

  -- other cells, and the same tokens
  with_cells : (b : Board) (cs : List Cell) → filter keep cs ≡ filter keep b.cells → IsSameIn keep stay b (record b { cells = cs })
  with_cells b cs same = record { same_cells = same; same_tokens = refl; same_models = refl; same_incidents = refl }

  -- a process is instantiated
  same_started : (b after : Board) (s : Start) → ((c : Cell) → (c.key == s.key) ≡ true → keep c ≡ false) → play_start b s ≡ Some after → IsSameIn keep stay b after
  same_started b after s out is =
      let r = mapped_from (λ (m : Model). record b { cells = b.cells ++ new_cell s.key 0 s.definition m.process roles.Plain false ∷ [] }) (model_under b s.definition) after is in
      let root = new_cell s.key 0 s.definition r.0.process roles.Plain false in
      subst (IsSameIn keep stay b) r.2 (with_cells b (b.cells ++ root ∷ []) (kept_with_one keep b.cells root (out root (same_key s.key))))

  each_stays : (scope : ℕ) → ((t : Token) → (t.scope == scope) ≡ true → stay t ≡ false) → (places : List Spot) (ts : List Token) → filter stay (without_each scope places ts) ≡ filter stay ts
  each_stays scope away [] ts = refl
  each_stays scope away (spot ∷ places) ts =
      each_stays scope away places (without_first (stands_at scope spot) ts)
      ∙ or_same stay (removed (stands_at scope spot) ts) ts (removed_keeps stay (stands_at scope spot) (λ t it. away t (both_left (t.scope == scope) (is_spot t.spot spot) it)) ts)

  -- a token enters, or several that join
  same_entered : (b after : Board) (e : Enter) → ((c : Cell) → (c.key == e.key) ≡ true → keep c ≡ false) → ((t : Token) → (t.scope == e.scope) ≡ true → stay t ≡ false) → play_enter b e ≡ Some after → IsSameIn keep stay b after
  same_entered b after e out away is =
      let r = enter_parts b after e is in
      subst (IsSameIn keep stay b) r.5 (record {
        same_cells = kept_with_one keep b.cells (entering e r.0 r.1) (out (entering e r.0 r.1) (same_key e.key));
        same_tokens = each_stays e.scope away (spots_of r.1 e.node e.via) b.tokens;
        same_models = refl;
        same_incidents = refl;
      })

  module _ (key : ℕ) (out : (c : Cell) → (c.key == key) ≡ true → keep c ≡ false) where
    edit_same : (edit : Cell → Cell) → ((c : Cell) → (edit c).key ≡ c.key) → (cs left : List Cell) → edited (λ c. c.key == key) edit cs ≡ Some left → filter keep left ≡ filter keep cs
    edit_same edit like cs left is = edited_keeps keep (λ (c : Cell). c.key == key) out edit (λ c it. out (edit c) (ap (λ (k : ℕ). k == key) (like c) ∙ it)) cs left is

    -- a cell is edited
    same_edited : (b after : Board) (edit : Cell → Cell) → ((c : Cell) → (edit c).key ≡ c.key) → option_map (λ cells. record b { cells = cells }) (edited (λ c. c.key == key) edit b.cells) ≡ Some after → IsSameIn keep stay b after
    same_edited b after edit like is =
        let r = mapped_from (λ (cs : List Cell). record b { cells = cs }) (edited (λ c. c.key == key) edit b.cells) after is in
        subst (IsSameIn keep stay b) r.2 (with_cells b r.0 (edit_same edit like b.cells r.0 r.1))

    -- a cell leaves
    same_leaving : (b after : Board) (owed : List (List ℕ)) → leaving owed key b ≡ Some after → IsSameIn keep stay b after
    same_leaving b after [] is =
        let r = mapped_from (λ (cs : List Cell). record b { cells = cs }) (removed (λ c. c.key == key) b.cells) after is in
        subst (IsSameIn keep stay b) r.2 (with_cells b r.0 (removed_keeps keep (λ (c : Cell). c.key == key) out b.cells r.0 r.1))
    same_leaving b after (flow ∷ owed) is = same_edited b after (in_phase phases.Leaving (flow ∷ owed)) (λ c. refl) is

    start_in_it : (c : Cell) (is_scope : Bool) (found : Option Node) → ((t : Token) → t.scope ≡ c.key → stay t ≡ false)
        → filter stay (if is_scope then option_map_or (λ n. record { scope = c.key; spot = spots.BeforeNode n.id } ∷ []) found [] else []) ≡ []
    start_in_it c false found away = refl
    start_in_it c true None away = refl
    start_in_it c true (Some n) away =
        let t : Token = record { scope = c.key; spot = spots.BeforeNode n.id } in
        ap (λ (kept : Bool). cond kept (t ∷ []) []) (away t refl)

    -- a cell becomes active
    same_opened : (b after : Board) (items : List ℤ) → ((t : Token) → (t.scope == key) ≡ true → stay t ≡ false) → play_open b (record { key = key; items = items }) ≡ Some after → IsSameIn keep stay b after
    same_opened b after items away is =
        let cells = edited (λ (x : Cell). x.key == key) (with_items items) b.cells in
        let r = chained_from (λ (c : Cell). option_and_then (λ tokens. option_map (λ cells. record b { cells = cells; tokens = b.tokens ++ tokens }) cells) (first_tokens b c)) (cell_at b key) after is in
        let s = chained_from (λ (tokens : List Token). option_map (λ cells. record b { cells = cells; tokens = b.tokens ++ tokens }) cells) (first_tokens b r.0) after r.2 in
        let u = mapped_from (λ (cells : List Cell). record b { cells = cells; tokens = b.tokens ++ s.0 }) cells after s.2 in
        let m = mapped_from (start_tokens r.0) (model_under b r.0.definition) s.0 s.1 in
        let its : (r.0.key == key) ≡ true = found_passes (λ (x : Cell). x.key == key) b.cells r.0 r.1 in
        let none = start_in_it r.0 (holds_tokens m.0 r.0) (start_in m.0 (scope_id r.0)) (λ t it. away t (ap (λ (k : ℕ). k == key) it ∙ its)) in
        subst (IsSameIn keep stay b) u.2 (record {
          same_cells = edit_same (with_items items) (λ c. refl) b.cells u.0 u.1;
          same_tokens = kept_with_more stay b.tokens s.0 (ap (filter stay) (sym m.2) ∙ none);
          same_models = refl;
          same_incidents = refl;
        })

    -- a flow is taken
    same_taken : (b after : Board) (flow : List ℕ) → ((c : Cell) → cell_at b key ≡ Some c → stay (record { scope = c.scope; spot = spot_behind b c flow }) ≡ false) → play_take b (record { key = key; flow = flow }) ≡ Some after → IsSameIn keep stay b after
    same_taken b after flow away is =
        let r = chained_from (λ (c : Cell). option_map (with_token c.scope (spot_behind b c flow)) (leaving (rest_of c.owed) key b)) (cell_at b key) after is in
        let s = mapped_from (with_token r.0.scope (spot_behind b r.0 flow)) (leaving (rest_of r.0.owed) key b) after r.2 in
        let left = same_leaving b s.0 (rest_of r.0.owed) s.1 in
        subst (IsSameIn keep stay b) s.2 (record {
          same_cells = left.same_cells;
          same_tokens = kept_with_one stay s.0.tokens (record { scope = r.0.scope; spot = spot_behind b r.0 flow }) (away r.0 r.1) ∙ left.same_tokens;
          same_models = left.same_models;
          same_incidents = left.same_incidents;
        })

    -- a cell is told of an event, or a token stands before the boundary event
    same_told : (b after : Board) (node : List ℕ) (c : Cell) (mark : Option Mark) → stay (record { scope = c.scope; spot = spots.BeforeNode node }) ≡ false → told b (record { cell = key; node = node }) c mark ≡ Some after → IsSameIn keep stay b after
    same_told b after node c (Some mark) away is = same_edited b after (with_mark mark) (λ x. refl) is
    same_told b after node c None away is =
        let e : with_token c.scope (spots.BeforeNode node) b ≡ after = cc in
        subst (IsSameIn keep stay b) e (record { same_cells = refl; same_tokens = kept_with_one stay b.tokens (record { scope = c.scope; spot = spots.BeforeNode node }) away; same_models = refl; same_incidents = refl })

    -- an event comes about
    same_triggered : (b after : Board) (node : List ℕ) → ((c : Cell) → cell_at b key ≡ Some c → stay (record { scope = c.scope; spot = spots.BeforeNode node }) ≡ false) → play_trigger b (record { cell = key; node = node }) ≡ Some after → IsSameIn keep stay b after
    same_triggered b after node away is =
        let t : Triggered = record { cell = key; node = node } in
        let r = chained_from (λ (c : Cell). told b t c (mark_by b t c)) (cell_at b key) after is in
        same_told b after node r.0 (mark_by b t r.0) (away r.0 r.1) r.2

    -- a cell has terminated
    same_gone : (b after : Board) → ((t : Token) → (t.scope == key) ≡ true → stay t ≡ false) → play_gone b key ≡ Some after → IsSameIn keep stay b after
    same_gone b after away is =
        let r = mapped_from (λ (cs : List Cell). record b { cells = cs; tokens = filter (λ t. not (t.scope == key)) b.tokens }) (removed (λ c. c.key == key) b.cells) after is in
        subst (IsSameIn keep stay b) r.2 (record {
          same_cells = removed_keeps keep (λ (c : Cell). c.key == key) out b.cells r.0 r.1;
          same_tokens = filtered_keeps stay (λ (t : Token). t.scope == key) away b.tokens;
          same_models = refl;
          same_incidents = refl;
        })

  -- a body begins a run
  same_inner : (b after : Board) (i : Inner) → ((c : Cell) → (c.key == i.key) ≡ true → keep c ≡ false) → ((c : Cell) → (c.key == i.body) ≡ true → keep c ≡ false) → play_inner b i ≡ Some after → IsSameIn keep stay b after
  same_inner b after i out body is =
      let r = chained_from (λ (c : Cell). option_map (λ cells. record b { cells = cells ++ run_in i c ∷ [] }) (edited (λ (x : Cell). x.key == i.body) one_taken b.cells)) (cell_at b i.body) after is in
      let u = mapped_from (λ (cells : List Cell). record b { cells = cells ++ run_in i r.0 ∷ [] }) (edited (λ (x : Cell). x.key == i.body) one_taken b.cells) after r.2 in
      let same = kept_with_one keep u.0 (run_in i r.0) (out (run_in i r.0) (same_key i.key)) in
      subst (IsSameIn keep stay b) u.2 (with_cells b (u.0 ++ run_in i r.0 ∷ []) (same ∙ edit_same i.body body one_taken (λ c. refl) b.cells u.0 u.1))

  -- a compensation event runs a handler
  same_undone : (b after : Board) (u : Undo) → ((c : Cell) → (c.key == u.key) ≡ true → keep c ≡ false) → ((event c : Cell) → cell_at b u.event ≡ Some event → (c.key == event.scope) ≡ true → keep c ≡ false) → play_undo b u ≡ Some after → IsSameIn keep stay b after
  same_undone b after u out scope is =
      let r = chained_from (λ (c : Cell). option_map (λ cells. record b { cells = cells ++ handler_in u c ∷ [] }) (edited (λ (x : Cell). x.key == c.scope) one_undone b.cells)) (cell_at b u.event) after is in
      let s = mapped_from (λ (cells : List Cell). record b { cells = cells ++ handler_in u r.0 ∷ [] }) (edited (λ (x : Cell). x.key == r.0.scope) one_undone b.cells) after r.2 in
      let same = kept_with_one keep s.0 (handler_in u r.0) (out (handler_in u r.0) (same_key u.key)) in
      subst (IsSameIn keep stay b) s.2 (with_cells b (s.0 ++ handler_in u r.0 ∷ []) (same ∙ edit_same r.0.scope (λ c it. scope r.0 c r.1 it) one_undone (λ c. refl) b.cells s.0 s.1))

  -- an activity has finished in a scope
  same_noted : (scope : ℕ) (node : List ℕ) → ((c : Cell) → (c.key == scope) ≡ true → keep c ≡ false) → (b : Board) → IsSameIn keep stay b (noted_finished scope node b)
  same_noted scope node out b = with_cells b (option_map_or (λ (cs : List Cell). cs) (edited (λ c. c.key == scope) (with_finished node) b.cells) b.cells)
      (or_same keep (edited (λ c. c.key == scope) (with_finished node) b.cells) b.cells (edit_same scope out (with_finished node) (λ c. refl) b.cells))

  module _ (scope : ℕ) (out : (c : Cell) → is_or_leaves_in scope c ≡ true → keep c ≡ false) (away : (t : Token) → (t.scope == scope) ≡ true → stay t ≡ false) where
    -- a scope is emptied, of which the cell is another one now
    same_emptied : (b : Board) (cs : List Cell) → filter keep cs ≡ filter keep b.cells → IsSameIn keep stay b (emptied scope (record b { cells = cs }))
    same_emptied b cs same = record {
      same_cells = filtered_keeps keep (leaves_in scope) (λ c it. out c (or_right (c.key == scope) (leaves_in scope c) it)) cs ∙ same;
      same_tokens = filtered_keeps stay (λ (t : Token). t.scope == scope) away b.tokens;
      same_models = refl;
      same_incidents = refl;
    }

    at_scope : (edit : Cell → Cell) → ((c : Cell) → (edit c).key ≡ c.key) → (cs left : List Cell) → edited (λ c. c.key == scope) edit cs ≡ Some left → filter keep left ≡ filter keep cs
    at_scope = edit_same scope (λ c it. out c (or_left (c.key == scope) (leaves_in scope c) it))

    -- a cell is halted
    same_halted : (b after : Board) → play_halt b scope ≡ Some after → IsSameIn keep stay b after
    same_halted b after is =
        let r = halt_parts b after scope is in
        subst (IsSameIn keep stay b) r.2 (same_emptied b r.0 (at_scope (in_phase phases.Terminating []) (λ c. refl) b.cells r.0 r.1))

    -- a scope is ended
    same_ended : (b : Board) → IsSameIn keep stay b (scope_ended scope b)
    same_ended b = same_emptied b (option_map_or (λ (cs : List Cell). cs) (edited (λ c. c.key == scope) with_end b.cells) b.cells)
        (or_same keep (edited (λ c. c.key == scope) with_end b.cells) b.cells (at_scope with_end (λ c. refl) b.cells))

  -- what a cell makes of its scope as it leaves: it ends that, or has finished there, or neither
  same_behind : (left after : Board) (c : Cell) (ends undone : Bool) → (ends ≡ true → (x : Cell) → is_or_leaves_in c.scope x ≡ true → keep x ≡ false) → (ends ≡ true → (t : Token) → (t.scope == c.scope) ≡ true → stay t ≡ false)
      → (ends ≡ false → undone ≡ true → (x : Cell) → (x.key == c.scope) ≡ true → keep x ≡ false) → (if ends then scope_ended c.scope left else if undone then noted_finished c.scope c.node left else left) ≡ after → IsSameIn keep stay left after
  same_behind left after c true undone within away noted is = subst (IsSameIn keep stay left) is (same_ended c.scope (within refl) (away refl) left)
  same_behind left after c false true within away noted is = subst (IsSameIn keep stay left) is (same_noted c.scope c.node (noted refl refl) left)
  same_behind left after c false false within away noted is = subst (IsSameIn keep stay left) is (with_cells left left.cells refl)

-- a move leaves alone what it doesn't name
abbrev OthersStay : Board → Move → Board → Type 0
OthersStay b move after = IsSameIn (λ c. not (names_cell b move c)) (λ t. not (names_scope b move t.scope)) b after

-- a cell that is edited, and nothing beside it
edit_stays : (b after : Board) (key : ℕ) (edit : Cell → Cell) → ((c : Cell) → (edit c).key ≡ c.key) → option_map (λ cells. record b { cells = cells }) (edited (λ c. c.key == key) edit b.cells) ≡ Some after
    → IsSameIn (λ c. not (c.key == key)) (λ t. true) b after
edit_stays b after key edit like is = same_edited (λ (c : Cell). not (c.key == key)) (λ t. true) key (λ c it. ap not it) b after edit like is

-- a cell that leaves, and what it ends
leave_stays : (b after : Board) (l : Leave) → play_leave b l ≡ Some after → OthersStay b (moves.Leave l) after
leave_stays b after l is =
    let r = leave_parts b after l is in
    let c = r.0 in
    let there : cell_at b l.key ≡ Some c = r.2 in
    let keep = λ (x : Cell). not (names_cell b (moves.Leave l) x) in
    let stay = λ (t : Token). not (names_scope b (moves.Leave l) t.scope) in
    let behind = λ (x : Cell). option_map_or (λ scope. is_or_leaves_in scope x) (scope_ended_by b l.key) (option_map_or (λ scope. x.key == scope) (scope_finished_in b l.key) false) in
    same_then keep stay b r.1 after (same_leaving keep stay l.key (λ x it. ap not (or_left (x.key == l.key) (behind x) it)) b r.1 l.owed r.3)
    (same_behind keep stay r.1 after c (ends_scope b c) (can_be_undone b c)
    (λ ends x it. let in_it : behind x ≡ true = rw (there, ends) it in ap not (or_right (x.key == l.key) (behind x) in_it))
    (λ ends t it. let in_it : names_scope b (moves.Leave l) t.scope ≡ true = rw (there, ends) it in ap not in_it)
    (λ goes_on undone x it. let in_it : behind x ≡ true = rw (there, goes_on, undone) it in ap not (or_right (x.key == l.key) (behind x) in_it)) r.4)

-- every move leaves alone what it doesn't name, but for Stand and those that change incidents
others_stay : (b after : Board) (move : Move) → IsFalse (is_stand move) → IsFalse (is_of_incident move) → played b move ≡ Some after → OthersStay b move after
others_stay b after (moves.Stand d) other game is = absurd (cc)
others_stay b after (moves.Start s) other game is = same_started (λ c. not (c.key == s.key)) (λ t. true) b after s (λ c it. ap not it) is
others_stay b after (moves.Enter e) other game is = same_entered (λ c. not (c.key == e.key)) (λ t. not (t.scope == e.scope)) b after e (λ c it. ap not it) (λ t it. ap not it) is
others_stay b after (moves.Inner i) other game is = same_inner (λ c. not ((c.key == i.key) || (c.key == i.body))) (λ t. true) b after i
    (λ c it. ap not (or_left (c.key == i.key) (c.key == i.body) it)) (λ c it. ap not (or_right (c.key == i.key) (c.key == i.body) it)) is
others_stay b after (moves.Undo u) other game is = same_undone (λ c. not (names_cell b (moves.Undo u) c)) (λ t. true) b after u
    (λ c it. ap not (or_left (c.key == u.key) (option_map_or (λ event. c.key == event.scope) (cell_at b u.event) false) it))
    (λ event c there it. let in_it : option_map_or (λ x. c.key == x.scope) (cell_at b u.event) false ≡ true = rw there it in ap not (or_right (c.key == u.key) (option_map_or (λ x. c.key == x.scope) (cell_at b u.event) false) in_it)) is
others_stay b after (moves.Open o) other game is = same_opened (λ c. not (c.key == o.key)) (λ t. not (t.scope == o.key)) o.key (λ c it. ap not it) b after o.items (λ t it. ap not it) is
others_stay b after (moves.Finish key) other game is = edit_stays b after key (in_phase phases.Completing []) (λ c. refl) is
others_stay b after (moves.Leave l) other game is = leave_stays b after l is
others_stay b after (moves.Take t) other game is = same_taken (λ c. not (c.key == t.key)) (λ x. not (names_scope b (moves.Take t) x.scope)) t.key (λ c it. ap not it) b after t.flow
    (λ c found. ap not (ap (λ (o : Option Cell). option_map_or (λ x. c.scope == x.scope) o false) found ∙ same_key c.scope)) is
others_stay b after (moves.Halt key) other game is = same_halted (λ c. not (is_or_leaves_in key c)) (λ t. not (t.scope == key)) key (λ c it. ap not it) (λ t it. ap not it) b after is
others_stay b after (moves.Gone key) other game is = same_gone (λ c. not (c.key == key)) (λ t. not (t.scope == key)) key (λ c it. ap not it) b after (λ t it. ap not it) is
others_stay b after (moves.Assign a) other game is = edit_stays b after a.scope (with_variable a.name a.value) (λ c. refl) is
others_stay b after (moves.Update a) other game is = edit_stays b after a.scope (with_variable a.name a.value) (λ c. refl) is
others_stay b after (moves.Done key) other game is = edit_stays b after key (with_mark marks.Done) (λ c. refl) is
others_stay b after (moves.Throw t) other game is = edit_stays b after t.cell (with_mark (marks.Thrown t.code)) (λ c. refl) is
others_stay b after (moves.Trigger t) other game is = same_triggered (λ c. not (c.key == t.cell)) (λ x. not (names_scope b (moves.Trigger t) x.scope)) t.cell (λ c it. ap not it) b after t.node
    (λ c found. ap not (ap (λ (o : Option Cell). option_map_or (λ x. c.scope == x.scope) o false) found ∙ same_key c.scope)) is
others_stay b after (moves.Incident i) other game is = absurd (cc)
others_stay b after (moves.Repair key) other game is = absurd (cc)

-- a move that changes the incidents changes nothing else
pub incidents_alone : (b after : Board) (move : Move) → IsTrue (is_of_incident move) → played b move ≡ Some after → after ≡ record b { incidents = after.incidents }
incidents_alone b after (moves.Incident i) it is =
    let e : record b { incidents = b.incidents ++ i ∷ [] } ≡ after = cc in
    subst (λ (x : Board). x ≡ record b { incidents = x.incidents }) e refl
incidents_alone b after (moves.Repair key) it is =
    let r = mapped_from (λ (xs : List Incident). record b { incidents = xs }) (removed (λ i. i.key == key) b.incidents) after is in
    subst (λ (x : Board). x ≡ record b { incidents = x.incidents }) r.2 refl
incidents_alone b after move it is = absurd (cc)

-- a move leaves the cells alone that it doesn't name
pub other_cells_stay : (b after : Board) (move : Move) → played b move ≡ Some after → other_cells b move after ≡ other_cells b move b
other_cells_stay b after (moves.Stand d) is = let e : record b { models = b.models ++ d ∷ [] } ≡ after = cc in ap (other_cells b (moves.Stand d)) (sym e)
other_cells_stay b after (moves.Incident i) is = ap (other_cells b (moves.Incident i)) (incidents_alone b after (moves.Incident i) refl is)
other_cells_stay b after (moves.Repair key) is = ap (other_cells b (moves.Repair key)) (incidents_alone b after (moves.Repair key) refl is)
other_cells_stay b after move is = (others_stay b after move refl refl is).same_cells

-- a move leaves the tokens alone in the scopes that it doesn't name
pub other_tokens_stay : (b after : Board) (move : Move) → played b move ≡ Some after → other_tokens b move after ≡ other_tokens b move b
other_tokens_stay b after (moves.Stand d) is = let e : record b { models = b.models ++ d ∷ [] } ≡ after = cc in ap (other_tokens b (moves.Stand d)) (sym e)
other_tokens_stay b after (moves.Incident i) is = ap (other_tokens b (moves.Incident i)) (incidents_alone b after (moves.Incident i) refl is)
other_tokens_stay b after (moves.Repair key) is = ap (other_tokens b (moves.Repair key)) (incidents_alone b after (moves.Repair key) refl is)
other_tokens_stay b after move is = (others_stay b after move refl refl is).same_tokens

-- only Stand changes the models
pub models_stay : (b after : Board) (move : Move) → IsFalse (is_stand move) → played b move ≡ Some after → after.models ≡ b.models
models_stay b after (moves.Incident i) other is = ap (λ (x : Board). x.models) (incidents_alone b after (moves.Incident i) refl is)
models_stay b after (moves.Repair key) other is = ap (λ (x : Board). x.models) (incidents_alone b after (moves.Repair key) refl is)
models_stay b after move other is = (others_stay b after move other refl is).same_models

-- only Incident and Repair change the incidents
pub incidents_stay : (b after : Board) (move : Move) → IsFalse (is_of_incident move) → played b move ≡ Some after → after.incidents ≡ b.incidents
incidents_stay b after (moves.Stand d) game is = let e : record b { models = b.models ++ d ∷ [] } ≡ after = cc in ap (λ (x : Board). x.incidents) (sym e)
incidents_stay b after move game is = (others_stay b after move refl game is).same_incidents

-- the list without its first member that passes, taken apart
taken_by : (passes : Token → Bool) (t : Bool) (x : Token) (xs ys : List Token) → passes x ≡ t → ((zs : List Token) → removed passes xs ≡ Some zs → IsWithoutFirst passes xs zs)
    → (if t then Some xs else option_map (λ zs. x ∷ zs) (removed passes xs)) ≡ Some ys → IsWithoutFirst passes (x ∷ xs) ys
taken_by passes true x xs ys it later is = record {
  front = [];
  taken = x;
  back = xs;
  whole = refl;
  passing = it;
  first_one = refl;
  gone = let e : xs ≡ ys = cc in sym e;
}
taken_by passes false x xs ys it later is =
    let r = mapped_from (λ (zs : List Token). x ∷ zs) (removed passes xs) ys is in
    let w = later r.0 r.1 in
    let none = w.first_one in
    record {
      front = x ∷ w.front;
      taken = w.taken;
      back = w.back;
      whole = ap (λ (zs : List Token). x ∷ zs) w.whole;
      passing = w.passing;
      first_one = rw (it, none) refl;
      gone = sym r.2 ∙ ap (λ (zs : List Token). x ∷ zs) w.gone;
    }

first_taken : (passes : Token → Bool) (xs ys : List Token) → removed passes xs ≡ Some ys → IsWithoutFirst passes xs ys
first_taken passes [] ys is = absurd (cc)
first_taken passes (x ∷ xs) ys is = taken_by passes (passes x) x xs ys refl (first_taken passes xs) is

-- a spot is only the same as itself
spot_is : (a b : Spot) → is_spot a b ≡ true → a ≡ b
spot_is (spots.OnFlow a) (spots.OnFlow b) is = ap spots.OnFlow ((bytes_eq-Decides a b).0 is)
spot_is (spots.OnFlow a) (spots.BeforeNode b) is = absurd (cc)
spot_is (spots.BeforeNode a) (spots.OnFlow b) is = absurd (cc)
spot_is (spots.BeforeNode a) (spots.BeforeNode b) is = ap spots.BeforeNode ((bytes_eq-Decides a b).0 is)

module _ (scope : ℕ) where
  -- a token at one spot is at no other
  at_one : (spot other : Spot) → is_spot spot other ≡ false → (t : Token) → stands_at scope spot t ≡ true → stands_at scope other t ≡ false
  at_one spot other apart t it = and_right (t.scope == scope) (is_spot t.spot other)
      (ap (λ (s : Spot). is_spot s other) (spot_is t.spot spot (both_right (t.scope == scope) (is_spot t.spot spot) it)) ∙ apart)

  -- those at another spot stay where the first at one is gone
  still_there : (spot : Spot) (places : List Spot) (ts left : List Token) → removed (stands_at scope spot) ts ≡ Some left → list_any (is_spot spot) places ≡ false
      → list_all (λ s. list_any (stands_at scope s) ts) places ≡ true → list_all (λ s. list_any (stands_at scope s) left) places ≡ true
  still_there spot [] ts left gone apart all = refl
  still_there spot (other ∷ places) ts left gone apart all =
      let a = or_parts (is_spot spot other) (list_any (is_spot spot) places) apart in
      let h = and_parts (list_any (stands_at scope other) ts) (list_all (λ s. list_any (stands_at scope s) ts) places) all in
      let same = removed_keeps (stands_at scope other) (stands_at scope spot) (at_one spot other a.0) ts left gone in
      and_from (list_any (stands_at scope other) left) (list_all (λ s. list_any (stands_at scope s) left) places)
      (any_first (stands_at scope other) left ∙ (ap (λ fs. is_some (slice_get fs 0)) same ∙ (sym (any_first (stands_at scope other) ts) ∙ h.0)))
      (still_there spot places ts left gone a.1 h.1)

  each_by : (spot : Spot) (places : List Spot) (ts : List Token) (o : Option (List Token)) → removed (stands_at scope spot) ts ≡ o → list_any (stands_at scope spot) ts ≡ true
      → ((left : List Token) → removed (stands_at scope spot) ts ≡ Some left → IsWithoutEach scope places left (without_each scope places left))
      → IsWithoutEach scope (spot ∷ places) ts (without_each scope places (option_map_or (λ ys. ys) o ts))
  each_by spot places ts None is there later = let some = removed_some (stands_at scope spot) ts there in absurd (cc)
  each_by spot places ts (Some left) is there later = (left, first_taken (stands_at scope spot) ts left is, later left is)

  -- where tokens stand at spots that are apart, exactly the first one at each is gone
  each_taken : (places : List Spot) (ts : List Token) → are_apart places ≡ true → list_all (λ s. list_any (stands_at scope s) ts) places ≡ true → IsWithoutEach scope places ts (without_each scope places ts)
  each_taken [] ts apart all = refl
  each_taken (spot ∷ places) ts apart all =
      let a = and_parts (not (list_any (is_spot spot) places)) (are_apart places) apart in
      let h = and_parts (list_any (stands_at scope spot) ts) (list_all (λ s. list_any (stands_at scope s) ts) places) all in
      each_by spot places ts (removed (stands_at scope spot) ts) refl h.0
      (λ left gone. each_taken places left a.1 (still_there spot places ts left gone (not-true (list_any (is_spot spot) places) a.0) h.1))

-- an entry makes one cell, and takes the first token at each of its spots
pub entry_is : (b after : Board) (e : Enter) → play_enter b e ≡ Some after → IsEntered b e after
entry_is b after e is =
    let r = enter_parts b after e is in
    let spots = spots_of r.1 e.node e.via in
    record {
      scope = r.0;
      model = r.1;
      scope_there = r.2;
      model_there = r.3;
      made = ap (λ (x : Board). x.cells) (sym r.5);
      taken = λ apart. subst (λ (x : Board). IsWithoutEach e.scope spots b.tokens x.tokens) r.5
          (each_taken e.scope spots b.tokens apart (both_right _ (list_all (λ s. list_any (stands_at e.scope s) b.tokens) spots) r.4));
    }

-- a scope that is emptied is empty of tokens and of cells that leave
emptied_is : (scope : ℕ) (b : Board) → IsTrue (is_emptied scope (emptied scope b))
emptied_is scope b = and_from _ _
    (ap not (any-filter_same (λ (t : Token). t.scope == scope) (λ (t : Token). not (t.scope == scope)) false (λ t it. ap not it) b.tokens))
    (ap not (any-filter_same (leaves_in scope) (λ (c : Cell). not (leaves_in scope c)) false (λ c it. ap not it) b.cells))

-- a cell that is halted is terminating
pub halted_terminates : (b after : Board) (key : ℕ) → play_halt b key ≡ Some after → (c : Cell) × (cell_at b key ≡ Some c) × (cell_at after key ≡ Some (in_phase phases.Terminating [] c))
halted_terminates b after key is =
    let r = halt_parts b after key is in
    let f = found_edited (λ (c : Cell). c.key == key) (in_phase phases.Terminating []) (λ c it. it) b.cells r.0 r.1 in
    let stays : not (leaves_in key (in_phase phases.Terminating [] f.0)) ≡ true = ap not (and_right (f.0.scope == key) false refl) in
    let same = found_through (λ (c : Cell). c.key == key) (λ (c : Cell). not (leaves_in key c)) r.0 (λ c found. subst (λ (x : Cell). not (leaves_in key x) ≡ true) (same_Some (in_phase phases.Terminating [] f.0) c (sym f.2 ∙ found)) stays) in
    (f.0, f.1, subst (λ (x : Board). cell_at x key ≡ Some (in_phase phases.Terminating [] f.0)) r.2 (same ∙ f.2))

-- and nothing is left in it
pub halted_empties : (b after : Board) (key : ℕ) → play_halt b key ≡ Some after → IsTrue (is_emptied key after)
halted_empties b after key is =
    let r = halt_parts b after key is in
    subst (λ (x : Board). IsTrue (is_emptied key x)) r.2 (emptied_is key (record b { cells = r.0 }))

-- the cell of a scope that is ended, where it has one
marked_by : (scope : ℕ) (cells : List Cell) (o : Option (List Cell)) (found : Option Cell) → edited (λ c. c.key == scope) with_end cells ≡ o → find (λ c. c.key == scope) cells ≡ found
    → find (λ c. c.key == scope) (option_map_or (λ cs. cs) o cells) ≡ option_map with_end found
marked_by scope cells (Some cs) found is at =
    let f = found_edited (λ (c : Cell). c.key == scope) with_end (λ c it. it) cells cs is in
    f.2 ∙ ap (option_map with_end) (sym f.1 ∙ at)
marked_by scope cells None None is at = at
marked_by scope cells None (Some s) is at =
    let there : IsTrue (is_some (find (λ (c : Cell). c.key == scope) cells)) = ap is_some at in
    let some = edited_some (λ (c : Cell). c.key == scope) with_end cells (any_found (λ (c : Cell). c.key == scope) cells there) in
    absurd (cc)

-- a Leave that ends a scope
module _ (b after : Board) (l : Leave) (scope : ℕ) (ends : scope_ended_by b l.key ≡ Some scope) (is : play_leave b l ≡ Some after) where
  end_parts : (left : Board) × (leaving l.owed l.key b ≡ Some left) × (scope_ended scope left ≡ after)
  end_parts =
      let r = leave_parts b after l is in
      let s = cond_some (ends_scope b r.0) r.0.scope scope (sym (ap (option_and_then (λ (c : Cell). if ends_scope b c then Some c.scope else None)) r.2) ∙ ends) in
      (r.1, r.3, ap (λ (one : ℕ). scope_ended one r.1) (sym s.1) ∙ (ap (λ (t : Bool). if t then scope_ended r.0.scope r.1 else if can_be_undone b r.0 then noted_finished r.0.scope r.0.node r.1 else r.1) (sym s.0) ∙ r.4))

  -- nothing is left in a scope that a terminate end event ends
  pub end_empties : IsTrue (is_emptied scope after)
  end_empties =
      let r = end_parts in
      subst (λ (x : Board). IsTrue (is_emptied scope x)) r.2 (emptied_is scope (record r.0 { cells = option_map_or (λ (cs : List Cell). cs) (edited (λ c. c.key == scope) with_end r.0.cells) r.0.cells }))

  module _ (beside : All (λ (c : Cell). IsFalse (c.scope == c.key)) b.cells) where
    not_in_itself : (key : ℕ) (c : Cell) → cell_at b key ≡ Some c → (c.scope == key) ≡ false
    not_in_itself key c found =
        let h = found_holds (λ (x : Cell). x.key == key) (λ (x : Cell). IsFalse (x.scope == x.key)) b.cells c beside found in
        let out = h.0 in
        let its = h.1 in
        grind (arith, nat_tests, out, its)

    -- the cell that leaves isn't the scope
    other_key : (l.key == scope) ≡ false
    other_key =
        let r = chained_from (λ (c : Cell). if ends_scope b c then Some c.scope else None) (cell_at b l.key) scope ends in
        let u = cond_some (ends_scope b r.0) r.0.scope scope r.2 in
        let its = u.1 in
        let out = not_in_itself l.key r.0 r.1 in
        grind (arith, nat_tests, its, out)

    -- and is the same there but for its end, where no cell is in itself
    pub end_marks : cell_at after scope ≡ option_map with_end (cell_at b scope)
    end_marks =
        let r = end_parts in
        let other = other_key in
        let behind = same_leaving (λ (c : Cell). c.key == scope) (λ t. true) l.key (λ c it. grind (arith, nat_tests, other, it)) b r.0 l.owed r.1 in
        let left : cell_at r.0 scope ≡ cell_at b scope = same_found (λ (c : Cell). c.key == scope) r.0.cells b.cells behind.same_cells in
        let cells = option_map_or (λ (cs : List Cell). cs) (edited (λ c. c.key == scope) with_end r.0.cells) r.0.cells in
        let marked : find (λ (c : Cell). c.key == scope) cells ≡ option_map with_end (cell_at b scope) = marked_by scope r.0.cells (edited (λ c. c.key == scope) with_end r.0.cells) (cell_at b scope) refl left in
        let stays = λ (c : Cell) (found : find (λ (x : Cell). x.key == scope) cells ≡ Some c).
        let f = mapped_from with_end (cell_at b scope) c (sym marked ∙ found) in
        subst (λ (x : Cell). not (leaves_in scope x) ≡ true) f.2 (ap not (and_left (f.0.scope == scope) _ (not_in_itself scope f.0 f.1))) in
        subst (λ (x : Board). cell_at x scope ≡ option_map with_end (cell_at b scope)) r.2
        (found_through (λ (c : Cell). c.key == scope) (λ (c : Cell). not (leaves_in scope c)) cells stays ∙ marked)
