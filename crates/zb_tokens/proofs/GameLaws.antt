-- Laws of the game, in the subject's own words.
use Rattle.std.proofs.Common.{◌≡◌, ℕ, ◌==◌, List, [], ◌∷◌, ◌++◌, filter, All, Contains, cond, option_map, option_and_then, is_some, Bool, true, false, not, ◌&&◌, ◌||◌, if◌then◌else◌, IsTrue, Option, Some, None, refl, sym, ap, ◌∙◌, subst, arith}
use Rattle.std.specs.Option.{option_map_or}
use Rattle.std.specs.List.{find, list_any}
use Rattle.std.specs.Str.{bytes_eq}
use Rattle.std.proofs.lemmas.Bool.{or_left, or_right}
use Rattle.std.proofs.lemmas.List.Elements.{All-nil, All-cons, All-contains}
use Rattle.zb_tokens.specs.Edits.{edited, removed, is_none_of}
use Rattle.zb_tokens.specs.declared.board.Cell.{Cell}
use Rattle.zb_tokens.specs.declared.board.Token.{Token}
use Rattle.zb_tokens.specs.declared.board.Spot.{Spot}
use Rattle.zb_tokens.specs.declared.board.Mark.{Mark}
use Rattle.zb_tokens.specs.declared.board.Triggered.{Triggered}
use Rattle.zb_tokens.specs.declared.board.Phase.TheVariants as phases
use Rattle.zb_tokens.specs.declared.board.Mark.TheVariants as marks
use Rattle.zb_tokens.specs.declared.board.Move.{Move}
use Rattle.zb_tokens.specs.declared.board.Move.TheVariants as moves
use Rattle.zb_tokens.specs.declared.board.Enter.{Enter}
use Rattle.zb_tokens.specs.declared.board.Open.{Open}
use Rattle.zb_tokens.specs.declared.board.Take.{Take}
use Rattle.zb_process.specs.declared.model.Model.{Model}
use Rattle.zb_tokens.specs.Board.{Board, cell_at, model_under, node_with, is_body, is_phase, in_phase, undoes, has_child, with_token}
use Rattle.zb_tokens.specs.MoveEnter.{spots_of, stand_at_each, arrives, has_come, entered}
use Rattle.zb_tokens.specs.MoveInner.{one_taken}
use Rattle.zb_tokens.specs.declared.board.Undo.{Undo}
use Rattle.zb_tokens.specs.Handlers.{last_handler}
use Rattle.zb_tokens.specs.MoveUndo.{runs_handler, handler_in, one_undone}
use Rattle.zb_tokens.specs.MoveOpen.{start_tokens, first_tokens, opens, with_items}
use Rattle.zb_tokens.specs.MoveLeave.{leaving, left_behind}
use Rattle.zb_tokens.specs.MoveTake.{rest_of, spot_behind, play_take}
use Rattle.zb_tokens.specs.MoveTrigger.{awaits_event, comes_about_by, is_awaited, mark_by, told}
use Rattle.zb_tokens.specs.Errors.{caught, is_same_event}
use Rattle.zb_tokens.proofs.ErrorLaws.{caught_there, any_there}
pub use Rattle.zb_tokens.proofs.FoundLaws.{found_holds, found_passes}
use Rattle.zb_tokens.specs.Doom.{is_called_off, is_doomed}
use Rattle.zb_tokens.specs.Incidents.{is_stuck}
use Rattle.std.proofs.lemmas.Bool.Decides.{nat_tests}
use Rattle.zb_tokens.specs.Marks.{with_mark}
use Rattle.zb_tokens.specs.MoveAssign.{with_variable}
use Rattle.zb_tokens.specs.Game.{fits, played}

module _ {A B : Type 0} where
  -- what is made of a thing that is there is there
  pub mapped_some : (g : A → B) (o : Option A) → IsTrue (is_some o) → IsTrue (is_some (option_map g o))
  mapped_some g None some = absurd (cc)
  mapped_some g (Some a) some = refl

  -- what is made of a thing that is there is there, where each such thing makes one
  pub chained_some : (f : A → Option B) (o : Option A) → IsTrue (is_some o) → ((a : A) → IsTrue (is_some (f a))) → IsTrue (is_some (option_and_then f o))
  chained_some f None some each = absurd (cc)
  chained_some f (Some a) some each = each a

module _ {A : Type 0} (passes : A → Bool) where
  -- where a member passes, the list without it is there, and so is the list where it is edited
  removed_test : (t : Bool) (x : A) (xs : List A) → (IsTrue (list_any passes xs) → IsTrue (is_some (removed passes xs)))
      → IsTrue (t || list_any passes xs) → IsTrue (is_some (if t then Some xs else option_map (λ ys. x ∷ ys) (removed passes xs)))
  removed_test true x xs later some = refl
  removed_test false x xs later some = mapped_some (λ ys. x ∷ ys) (removed passes xs) (later some)

  -- where a member passes, the list without the first such member is there
  pub removed_some : (xs : List A) → IsTrue (list_any passes xs) → IsTrue (is_some (removed passes xs))
  removed_some [] some = absurd (cc)
  removed_some (x ∷ xs) some = removed_test (passes x) x xs (removed_some xs) some

  edited_test : (edit : A → A) (t : Bool) (x : A) (xs : List A) → (IsTrue (list_any passes xs) → IsTrue (is_some (edited passes edit xs)))
      → IsTrue (t || list_any passes xs) → IsTrue (is_some (if t then Some (edit x ∷ xs) else option_map (λ ys. x ∷ ys) (edited passes edit xs)))
  edited_test edit true x xs later some = refl
  edited_test edit false x xs later some = mapped_some (λ ys. x ∷ ys) (edited passes edit xs) (later some)

  -- where a member passes, the list with the first such member edited is there
  pub edited_some : (edit : A → A) (xs : List A) → IsTrue (list_any passes xs) → IsTrue (is_some (edited passes edit xs))
  edited_some edit [] some = absurd (cc)
  edited_some edit (x ∷ xs) some = edited_test edit (passes x) x xs (edited_some edit xs) some

  found_test : (t : Bool) (x : A) (xs : List A) → (IsTrue (is_some (find passes xs)) → IsTrue (list_any passes xs)) → IsTrue (is_some (if t then Some x else find passes xs)) → IsTrue (t || list_any passes xs)
  found_test true x xs later some = refl
  found_test false x xs later some = later some

  -- one that is found is there
  pub any_found : (xs : List A) → IsTrue (is_some (find passes xs)) → IsTrue (list_any passes xs)
  any_found [] some = absurd (cc)
  any_found (x ∷ xs) some = found_test (passes x) x xs (any_found xs) some

module _ {A : Type 0} (passes stays : A → Bool) where
  through_by : (t u : Bool) (x : A) (xs : List A) → passes x ≡ t → stays x ≡ u → ((y : A) → cond t (Some x) (find passes xs) ≡ Some y → stays y ≡ true) → (((y : A) → find passes xs ≡ Some y → stays y ≡ true) → find passes (filter stays xs) ≡ find passes xs)
      → find passes (cond u (x ∷ filter stays xs) (filter stays xs)) ≡ cond t (Some x) (find passes xs)
  through_by true true x xs it stay each later = ap (λ (t : Bool). cond t (Some x) (find passes (filter stays xs))) it
  through_by true false x xs it gone each later = let stay = each x refl in absurd (cc)
  through_by false true x xs it stay each later = ap (λ (t : Bool). cond t (Some x) (find passes (filter stays xs))) it ∙ later each
  through_by false false x xs it gone each later = later each

  -- the same one is found where others go, and it stays
  pub found_through : (xs : List A) → ((x : A) → find passes xs ≡ Some x → stays x ≡ true) → find passes (filter stays xs) ≡ find passes xs
  found_through [] each = refl
  found_through (x ∷ xs) each = through_by (passes x) (stays x) x xs refl refl each (found_through xs)

module _ {A : Type 0} (passes : A → Bool) (P : A → Type 0) (fails : (x : A) → passes x ≡ false → P x) where
  none_by : (t : Bool) (y : A) (ys : List A) → passes y ≡ t → (find passes ys ≡ None → All P ys) → cond t (Some y) (find passes ys) ≡ None → All P (y ∷ ys)
  none_by true y ys it later is = absurd (cc)
  none_by false y ys it later is = All-cons P y ys (fails y it) (later is)

  -- where none is found, none passes
  pub none_found : (xs : List A) → find passes xs ≡ None → All P xs
  none_found [] is = All-nil P
  none_found (y ∷ ys) is = none_by (passes y) y ys refl (none_found ys) is

module _ {A : Type 0} (passes : A → Bool) where
  where_by : (xs : List A) (x : A) (found : Option A) → find passes xs ≡ found → Contains xs x → passes x ≡ true → is_some found ≡ true
  where_by xs x (Some y) is among it = refl
  where_by xs x None is among it =
      let out = All-contains (λ (y : A). passes y ≡ false) xs x (none_found passes (λ (y : A). passes y ≡ false) (λ y fails. fails) xs is) among in
      absurd (cc)

  -- where one that passes is among them, one is found
  pub found_where : (xs : List A) (x : A) → Contains xs x → passes x ≡ true → is_some (find passes xs) ≡ true
  found_where xs x among it = where_by xs x (find passes xs) refl among it

-- where one that is found passes another test, one passes that
module _ {A : Type 0} (named passes : A → Bool) where
  any_named : (t : Bool) (x y : A) (xs : List A) → passes y ≡ true → (find named xs ≡ Some y → list_any passes xs ≡ true) → cond t (Some x) (find named xs) ≡ Some y → (passes x || list_any passes xs) ≡ true
  any_named true x y xs it later is = let same : x ≡ y = cc in or_left (passes x) (list_any passes xs) (subst (λ (z : A). passes z ≡ true) (sym same) it)
  any_named false x y xs it later is = or_right (passes x) (list_any passes xs) (later is)

  -- where an item that was found passes some item does
  pub any_where : (xs : List A) (y : A) → find named xs ≡ Some y → passes y ≡ true → list_any passes xs ≡ true
  any_where [] y is it = absurd (cc)
  any_where (x ∷ xs) y is it = any_named (named x) x y xs it (λ later. any_where xs y later it) is

-- what is said of a thing that may not be there holds only where it is
pub holds_some : {A : Type 0} (holds : A → Bool) (o : Option A) → IsTrue (option_map_or holds o false) → IsTrue (is_some o)
holds_some holds None is = absurd (cc)
holds_some holds (Some a) is = refl

-- of two tests that hold the first does
pub both_left : (a b : Bool) → IsTrue (a && b) → IsTrue a
both_left true b is = refl
both_left false b is = absurd (cc)

-- of two tests that hold the second does
pub both_right : (a b : Bool) → IsTrue (a && b) → IsTrue b
both_right true b is = is
both_right false b is = absurd (cc)

-- a cell that is there can be edited
cells_edited : (edit : Cell → Cell) (key : ℕ) (b : Board) → IsTrue (is_some (cell_at b key)) → IsTrue (is_some (edited (λ c. c.key == key) edit b.cells))
cells_edited edit key b there = edited_some (λ c. c.key == key) edit b.cells (any_found (λ c. c.key == key) b.cells there)

-- a cell that is there can leave
pub leaving_some : (owed : List (List ℕ)) (key : ℕ) (b : Board) → IsTrue (is_some (cell_at b key)) → IsTrue (is_some (leaving owed key b))
leaving_some [] key b there = mapped_some _ (removed (λ c. c.key == key) b.cells) (removed_some (λ c. c.key == key) b.cells (any_found (λ c. c.key == key) b.cells there))
leaving_some (flow ∷ owed) key b there = mapped_some _ (edited (λ c. c.key == key) (in_phase phases.Leaving (flow ∷ owed)) b.cells) (cells_edited (in_phase phases.Leaving (flow ∷ owed)) key b there)

-- where tokens have come, a cell enters
where_true : {A : Type 0} (t : Bool) (a : A) → IsTrue t → IsTrue (is_some (if t then Some a else None))
where_true true a is = refl
where_true false a is = absurd (cc)

entered_in : (b : Board) (e : Enter) (c : Cell) (found : Option Model) → IsTrue (option_map_or (λ m. has_come m b.tokens e.scope e.node e.via) found false)
    → IsTrue (is_some (option_and_then (λ m. if stand_at_each e.scope (spots_of m e.node e.via) b.tokens then Some (entered b e c m) else None) found))
entered_in b e c None is = absurd (cc)
entered_in b e c (Some m) is = where_true (stand_at_each e.scope (spots_of m e.node e.via) b.tokens) (entered b e c m) (both_right (is_some (node_with m e.node) && arrives m e.node e.via) _ is)

entered_by : (b : Board) (e : Enter) (found : Option Cell)
    → IsTrue (option_map_or (λ c. not (is_called_off b e.scope) && option_map_or (λ m. has_come m b.tokens e.scope e.node e.via) (model_under b c.definition) false) found false)
    → IsTrue (is_some (option_and_then (λ c. option_and_then (λ m. if stand_at_each e.scope (spots_of m e.node e.via) b.tokens then Some (entered b e c m) else None) (model_under b c.definition)) found))
entered_by b e None is = absurd (cc)
entered_by b e (Some c) is = entered_in b e c (model_under b c.definition) (both_right (not (is_called_off b e.scope)) _ is)

-- a cell whose model is there gets its tokens
tokens_some : (b : Board) (c : Cell) → IsTrue (opens b c) → IsTrue (is_some (first_tokens b c))
tokens_some b c there = mapped_some (start_tokens c) (model_under b c.definition) there

opened_by : (b : Board) (o : Open) (found : Option Cell) (cells : Option (List Cell)) → IsTrue (is_some cells)
    → IsTrue (option_map_or (λ c. is_phase c.phase phases.Activating && (opens b c && (is_body c || is_none_of o.items))) found false)
    → IsTrue (is_some (option_and_then (λ c. option_and_then (λ tokens. option_map (λ cs. record b { cells = cs; tokens = b.tokens ++ tokens }) cells) (first_tokens b c)) found))
opened_by b o None cells some is = absurd (cc)
opened_by b o (Some c) cells some is = chained_some _ (first_tokens b c) (tokens_some b c (both_left (opens b c) _ (both_right (is_phase c.phase phases.Activating) _ is))) (λ tokens. mapped_some _ cells some)

-- the cell of an event that may come about is there
told_there : (b : Board) (t : Triggered) (waits : Bool) → is_awaited b t ≡ waits → IsTrue (waits || list_any (comes_about_by b t) b.cells) → IsTrue (is_some (cell_at b t.cell))
told_there b t true at is = holds_some (awaits_event b t) (cell_at b t.cell) at
told_there b t false at is =
    let one = any_there (comes_about_by b t) (λ (c : Cell). Unit {0}) b.cells (λ k d within. tt) is in
    by_caught one.0 (caught b one.0) refl (both_right (not (is_stuck b one.0)) _ (both_right (not (is_doomed b one.0)) _ (both_right (is_phase one.0.phase phases.Active) _ one.2)))
  where
    by_caught : (c : Cell) (at : Option Triggered) → caught b c ≡ at → IsTrue (option_map_or (is_same_event t) at false) → IsTrue (is_some (cell_at b t.cell))
    by_caught c None at same = absurd (cc)
    by_caught c (Some u) at same =
        let its = (caught_there b c u at).2 in
        let one : u.cell ≡ t.cell = (let key = both_left (u.cell == t.cell) _ same in grind (arith, nat_tests)) in
        ap is_some (ap (cell_at b) (sym one) ∙ its.there)

-- a cell that is there can be told of an event
told_some : (b : Board) (t : Triggered) (c : Cell) → IsTrue (is_some (cell_at b t.cell)) → (mark : Option Mark) → IsTrue (is_some (told b t c mark))
told_some b t c there (Some mark) = mapped_some _ (edited (λ x. x.key == t.cell) (with_mark mark) b.cells) (cells_edited (with_mark mark) t.cell b there)
told_some b t c there None = refl

-- a compensation event that runs a handler stands in a scope that is there
scope_there : (b : Board) (c : Cell) (node : List ℕ) → IsTrue (runs_handler b node c) → IsTrue (is_some (cell_at b c.scope))
scope_there b c node is = by_model (model_under b c.definition) (both_right (not (has_child b c.key)) _ (both_right (is_phase c.phase phases.Active) _ is))
  where
    by_scope : (m : Model) (t : Bool) (found : Option Cell) → IsTrue (option_map_or (bytes_eq node) (if t then option_and_then (last_handler m) found else None) false) → IsTrue (is_some found)
    by_scope m true None is = absurd (cc)
    by_scope m true (Some s) is = refl
    by_scope m false found is = absurd (cc)

    by_model : (found : Option Model) → IsTrue (option_map_or (bytes_eq node) (option_and_then (λ m. if undoes m c then option_and_then (last_handler m) (cell_at b c.scope) else None) found) false) → IsTrue (is_some (cell_at b c.scope))
    by_model None is = absurd (cc)
    by_model (Some m) is = by_scope m (undoes m c) (cell_at b c.scope) is

-- so that it can run it
undone_by : (b : Board) (u : Undo) (found : Option Cell) → IsTrue (option_map_or (runs_handler b u.node) found false)
    → IsTrue (is_some (option_and_then (λ c. option_map (λ cells. record b { cells = cells ++ handler_in u c ∷ [] }) (edited (λ x. x.key == c.scope) one_undone b.cells)) found))
undone_by b u None is = absurd (cc)
undone_by b u (Some c) is = mapped_some _ (edited (λ x. x.key == c.scope) one_undone b.cells) (cells_edited one_undone c.scope b (scope_there b c u.node is))

-- a move that fits can be played
pub fitting_is_played : (b : Board) (move : Move) → IsTrue (fits b move) → IsTrue (is_some (played b move))
fitting_is_played b (moves.Stand d) is = refl
fitting_is_played b (moves.Start s) is = mapped_some _ (model_under b s.definition) is
fitting_is_played b (moves.Enter e) is = entered_by b e (cell_at b e.scope) is
fitting_is_played b (moves.Inner i) is =
    let there = holds_some _ (cell_at b i.body) is in
    chained_some _ (cell_at b i.body) there (λ c. mapped_some _ (edited (λ x. x.key == i.body) one_taken b.cells) (cells_edited one_taken i.body b there))
fitting_is_played b (moves.Undo u) is = undone_by b u (cell_at b u.event) is
fitting_is_played b (moves.Open o) is =
    opened_by b o (cell_at b o.key) (edited (λ x. x.key == o.key) (with_items o.items) b.cells) (cells_edited (with_items o.items) o.key b (holds_some _ (cell_at b o.key) is)) is
fitting_is_played b (moves.Finish key) is =
    mapped_some _ (edited (λ c. c.key == key) (in_phase phases.Completing []) b.cells) (cells_edited (in_phase phases.Completing []) key b (holds_some _ (cell_at b key) is))
fitting_is_played b (moves.Leave l) is =
    let there = holds_some _ (cell_at b l.key) is in
    chained_some _ (cell_at b l.key) there (λ c. mapped_some (left_behind b c) (leaving l.owed l.key b) (leaving_some l.owed l.key b there))
fitting_is_played b (moves.Take t) is =
    let there = holds_some _ (cell_at b t.key) is in
    chained_some _ (cell_at b t.key) there (λ c. mapped_some (with_token c.scope (spot_behind b c t.flow)) (leaving (rest_of c.owed) t.key b) (leaving_some (rest_of c.owed) t.key b there))
fitting_is_played b (moves.Halt key) is =
    mapped_some _ (edited (λ c. c.key == key) (in_phase phases.Terminating []) b.cells) (cells_edited (in_phase phases.Terminating []) key b (holds_some _ (cell_at b key) is))
fitting_is_played b (moves.Gone key) is =
    mapped_some _ (removed (λ c. c.key == key) b.cells) (removed_some (λ c. c.key == key) b.cells (any_found (λ c. c.key == key) b.cells (holds_some _ (cell_at b key) is)))
fitting_is_played b (moves.Assign a) is =
    mapped_some _ (edited (λ c. c.key == a.scope) (with_variable a.name a.value) b.cells) (cells_edited (with_variable a.name a.value) a.scope b (holds_some _ (cell_at b a.scope) is))
fitting_is_played b (moves.Update a) is =
    mapped_some _ (edited (λ c. c.key == a.scope) (with_variable a.name a.value) b.cells) (cells_edited (with_variable a.name a.value) a.scope b (holds_some _ (cell_at b a.scope) is))
fitting_is_played b (moves.Done key) is =
    mapped_some _ (edited (λ c. c.key == key) (with_mark marks.Done) b.cells) (cells_edited (with_mark marks.Done) key b (holds_some _ (cell_at b key) is))
fitting_is_played b (moves.Throw t) is =
    mapped_some _ (edited (λ c. c.key == t.cell) (with_mark (marks.Thrown t.code)) b.cells) (cells_edited (with_mark (marks.Thrown t.code)) t.cell b (holds_some _ (cell_at b t.cell) is))
fitting_is_played b (moves.Trigger t) is =
    let there = told_there b t (is_awaited b t) refl is in
    chained_some _ (cell_at b t.cell) there (λ c. told_some b t c there (mark_by b t c))
fitting_is_played b (moves.Incident i) is = refl
fitting_is_played b (moves.Repair key) is = mapped_some _ (removed (λ i. i.key == key) b.incidents) (removed_some (λ i. i.key == key) b.incidents (any_found (λ i. i.key == key) b.incidents is))

-- other cells alone are changed as a cell leaves
cells_alone : (b after : Board) (cells : Option (List Cell)) → option_map (λ cs. record b { cells = cs }) cells ≡ Some after → after.tokens ≡ b.tokens
cells_alone b after None is = absurd (cc)
cells_alone b after (Some cs) is = ap (λ (x : Board). x.tokens) (sym (let e : record b { cells = cs } ≡ after = cc in e))

leaving_keeps : (b after : Board) (owed : List (List ℕ)) (key : ℕ) → leaving owed key b ≡ Some after → after.tokens ≡ b.tokens
leaving_keeps b after [] key is = cells_alone b after (removed (λ c. c.key == key) b.cells) is
leaving_keeps b after (flow ∷ owed) key is = cells_alone b after (edited (λ c. c.key == key) (in_phase phases.Leaving (flow ∷ owed)) b.cells) is

token_by : (b after : Board) (scope : ℕ) (spot : Spot) (left : Option Board) → ((l : Board) → left ≡ Some l → l.tokens ≡ b.tokens) → option_map (with_token scope spot) left ≡ Some after
    → after.tokens ≡ b.tokens ++ record { scope = scope; spot = spot } ∷ []
token_by b after scope spot None kept is = absurd (cc)
token_by b after scope spot (Some l) kept is =
    ap (λ (x : Board). x.tokens) (sym (let e : with_token scope spot l ≡ after = cc in e)) ∙ ap (λ (ts : List Token). ts ++ record { scope = scope; spot = spot } ∷ []) (kept l refl)

take_by : (b after : Board) (t : Take) (found : Option Cell) → option_and_then (λ (c : Cell). option_map (with_token c.scope (spot_behind b c t.flow)) (leaving (rest_of c.owed) t.key b)) found ≡ Some after
    → (c : Cell) × (found ≡ Some c) × (after.tokens ≡ b.tokens ++ record { scope = c.scope; spot = spot_behind b c t.flow } ∷ [])
take_by b after t None is = absurd (cc)
take_by b after t (Some c) is = (c, refl, token_by b after c.scope (spot_behind b c t.flow) (leaving (rest_of c.owed) t.key b) (λ l left. leaving_keeps b l (rest_of c.owed) t.key left) is)

-- a flow that is taken makes exactly one token, on that flow, or before its target at an event gateway (BPMN 2.0.2, 10.6.6 and 13.3.1)
pub take_makes_one : (b after : Board) (t : Take) → play_take b t ≡ Some after → (c : Cell) × (cell_at b t.key ≡ Some c) × (after.tokens ≡ b.tokens ++ record { scope = c.scope; spot = spot_behind b c t.flow } ∷ [])
take_makes_one b after t is = take_by b after t (cell_at b t.key) is
