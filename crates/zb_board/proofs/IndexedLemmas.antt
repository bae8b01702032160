-- What is kept stays right as the board changes.
use Rattle.std.proofs.Common.{◌≡◌, ℕ, zero, suc, ◌+◌, ◌<◌, ◌≤◌, ◌==◌, List, [], ◌∷◌, ◌++◌, length, map, All, get_or, slice_get, slice_set, remove, take, drop, filter, Bool, true, false, not, ◌&&◌, ◌||◌, cond, if◌then◌else◌, Some, None, option_map, refl, sym, ap, ◌∙◌, subst, arith, nat_cmp}
use Rattle.std.specs.BTreeMap.{is_at}
use Rattle.std.specs.BTreeSet.{BTreeSet, IsOrdered}
use Rattle.std.specs.List.{find}
use Rattle.std.specs.Option.{option_map_or}
use Rattle.std.proofs.lemmas.Bool.Decides.{nat_tests}
use Rattle.std.proofs.lemmas.List.Folds.{find-append}
use Rattle.std.proofs.lemmas.List.Elements.{All-push, All-set, All-weaker, All-append, All-take, All-drop, All-cons}
use Rattle.zb_process.specs.declared.model.Model.{Model}
use Rattle.zb_base.specs.declared.vars.Variable.{Variable}
use Rattle.zb_table.specs.Rows.{Ascend, are_below, row_at}
use Rattle.zb_groups.specs.declared.held.Held.{Held}
use Rattle.zb_places.proofs.HeldLemmas.{number_in, tokens_more}
use Rattle.zb_table.proofs.Ascending.{ascend_more, ascend_set, ascend_remove, finds_own, finds_more, not_below}
use Rattle.zb_tokens.specs.declared.board.Cell.{Cell}
use Rattle.zb_tokens.specs.declared.board.Incident.{Incident}
use Rattle.zb_tokens.specs.Incidents.{incident_at, incident_on, is_stuck}
use Rattle.zb_tokens.specs.declared.board.Token.{Token}
use Rattle.zb_tokens.specs.declared.board.Deployed.{Deployed}
use Rattle.zb_tokens.specs.declared.board.Phase.{Phase}
use Rattle.zb_tokens.specs.declared.board.Phase.TheVariants as phases
use Rattle.zb_tokens.specs.Board.{Board, cell_at, has_child, model_under}
use Rattle.zb_tokens.specs.Doom.{calls_off, is_doomed}
use Rattle.zb_tokens.specs.Forced.{ends_in}
use Rattle.zb_pairs.specs.Pairs.{has_pair, keys_under, place_cmp}
use Rattle.zb_pairs.proofs.FoundLemmas.{ascend_kept}
use Rattle.zb_places.specs.Places.{held_tokens, count_in_scope, IsFewer}
use Rattle.zb_board.specs.Tallies.{incidents_on}
use Rattle.zb_board.specs.Kept.{number_under}
use Rattle.zb_board.specs.Indexed.{IsIndexed, rests_in, is_resting, is_ending, stays_out, is_awake, is_kept}
use Rattle.zb_arrivals.proofs.EditLemmas.{mapped_from, found_place}
use Rattle.zb_places.proofs.CountLemmas.{passing_more, passing_fewer, passing_same}
use Rattle.zb_board.proofs.ChildLemmas.{children_more, children_set, children_away, children_in}
use Rattle.zb_board.proofs.DoomLemmas.{IsNewer, climbs}
use Rattle.zb_board.proofs.EndingLemmas.{IsEnding, ending_beside, ending_more, ending_set, ending_away}
use Rattle.zb_board.proofs.TallyLemmas.{child_counted, stuck_counted, counted_none, none_counted, unmapped, found_without, cells_in, tokens_in}
use Rattle.zb_board.proofs.KeptLemmas.{same_number, none_behind}
use Rattle.zb_board.proofs.RestLemmas.{fuller, fuller_by_child, IsSeen, IsCalling, seen_on}
use Rattle.zb_board.proofs.ComingLemmas.{awaited_model, awaited_cell, awaited_set, awaited_away, awaited_looked, IsAwaited}

-- the others have other keys than one that goes, where the keys ascend
all_apart : (low : ℕ) (cells : List Cell) (key : ℕ) → key < low → Ascend (λ (x : Cell). x.key) low cells → All (λ (x : Cell). (x.key == key) ≡ false) cells
all_apart low cells key below up = λ k d within.
    let above = not_below (λ (x : Cell). x.key) low cells k d up within in
    grind (arith, nat_tests, above, below)

apart_gone : (low : ℕ) (cells : List Cell) (i : ℕ) (c : Cell) → Ascend (λ (x : Cell). x.key) low cells → i < length cells → c ≡ get_or cells i c → All (λ (x : Cell). (x.key == c.key) ≡ false) (remove cells i)
apart_gone low [] i c up within at = absurd (omega (arith, within))
apart_gone low (x ∷ cells) zero c up within at =
    let key : c.key ≡ x.key = ap (λ (y : Cell). y.key) at in
    all_apart (x.key + 1) cells c.key (omega (arith, key)) up.1
apart_gone low (x ∷ cells) (suc i) c up within at =
    let above = not_below (λ (y : Cell). y.key) (x.key + 1) cells i c up.1 (omega (arith, within)) in
    let key : c.key ≡ (get_or cells i c).key = ap (λ (y : Cell). y.key) at in
    let other : (x.key == c.key) ≡ false = grind (arith, nat_tests, above, key) in
    All-cons (λ (y : Cell). (y.key == c.key) ≡ false) x (remove cells i) other (apart_gone (x.key + 1) cells i c up.1 (omega (arith, within)) at)

-- of none is nothing in the list
no_length : {A : Type 0} (xs : List A) → length xs ≡ 0 → xs ≡ []
no_length [] none = refl
no_length (x ∷ xs) none = absurd (omega (arith, none))

module _ (b : Board) (rows : List (Held Token)) (children : BTreeSet (ℕ × ℕ)) (stuck : List (ℕ × ℕ)) (ready calling coming : List ℕ) (kept : IsIndexed b rows children stuck ready calling coming) where
  -- a cell that calls off what is in it is kept as one
  pub calls_as : (i : ℕ) (c : Cell) → i < length b.cells → c ≡ get_or b.cells i c → IsCalling calling c
  calls_as i c within at = subst (IsCalling calling) (sym at) (kept.called i c within)

  -- a model more
  pub kept_model : (d : Deployed) → IsIndexed (record b { models = b.models ++ d ∷ [] }) rows children stuck ready calling coming
  kept_model d =
      let after : Board = record b { models = b.models ++ d ∷ [] } in
      record {
        cells_ascend = kept.cells_ascend;
        newer = kept.newer;
        tokens_ascend = kept.tokens_ascend;
        children_right = kept.children_right;
        incidents_ascend = kept.incidents_ascend;
        alone = kept.alone;
        stuck_right = kept.stuck_right;
        awake = All-weaker (IsSeen b ready) (IsSeen after ready) (λ c. seen_on b after ready ready c refl (stays c.definition) (λ is. is, λ is. is) (λ is. is)) b.cells kept.awake;
        ending = ending_beside b after ready ready refl (λ k. refl) (λ k is. is) (λ k is. is) kept.ending;
        called = kept.called;
        awaited = awaited_model b after coming rows refl refl stays kept.awaited;
      }
    where
      stays : (key : ℕ) (m : Model) → model_under b key ≡ Some m → model_under (record b { models = b.models ++ d ∷ [] }) key ≡ Some m
      stays key m is =
          let r = mapped_from (λ (x : Deployed). x.model) (find (λ (x : Deployed). x.key == key) b.models) m is in
          let there : find (λ (x : Deployed). x.key == key) (b.models ++ d ∷ []) ≡ Some r.0 = finds_more (λ (x : Deployed). x.key) (λ (x : Deployed). x.key == key) b.models (d ∷ []) r.0 r.1 in
          ap (option_map (λ (x : Deployed). x.model)) there ∙ ap (λ (x : Model). Some x) r.2

  -- a cell more
  pub kept_cell : (c : Cell) (children' : BTreeSet (ℕ × ℕ)) (ready' : List ℕ) → are_below (λ (x : Cell). x.key) c.key b.cells ≡ true → c.scope < c.key → calls_off c ≡ false
      → ((scope key : ℕ) → has_pair children' scope key ≡ cond ((c.scope == scope) && (c.key == key)) true (has_pair children scope key))
      → ((k : ℕ) → is_kept ready k ≡ true → is_kept ready' k ≡ true) → is_kept ready' c.key ≡ true
      → IsIndexed (record b { cells = b.cells ++ c ∷ [] }) rows children' stuck ready' calling coming
  kept_cell c children' ready' below newer calls_none more still put =
      let after : Board = record b { cells = b.cells ++ c ∷ [] } in
      let numbers : (k : ℕ) → cells_in after k ≡ cells_in b k + (if c.scope == k then 1 else 0) = λ k. passing_more (λ (x : Cell). x.scope == k) b.cells c in
      record {
        cells_ascend = ascend_more (λ (x : Cell). x.key) 0 b.cells c (omega arith) kept.cells_ascend below;
        newer = All-push IsNewer b.cells c kept.newer newer;
        tokens_ascend = kept.tokens_ascend;
        children_right = children_more b.cells children kept.children_right c children' below more;
        incidents_ascend = kept.incidents_ascend;
        alone = kept.alone;
        stuck_right = kept.stuck_right;
        awake = All-push (IsSeen after ready') b.cells c
            (All-weaker (IsSeen b ready) (IsSeen after ready') (λ x. seen_on b after ready ready' x refl (λ m is. is) (fuller b after x.key (omega (arith, numbers x.key)) (omega arith)) (still x.key)) b.cells kept.awake)
            (λ moves. put);
        ending = All-push (IsEnding after ready') b.cells c (ending_more b c ready ready' kept.newer below (λ k. (fuller b after k (omega (arith, numbers k)) (omega arith)).1) still kept.ending) (λ ends. put);
        called = All-push (IsCalling calling) b.cells c kept.called (λ calls. absurd (cc));
        awaited = awaited_cell b c coming rows kept.awaited;
      }

  -- a cell changed, and seen, which begins to call off what is in it only where the cells below it are ready
  pub kept_changed : (i : ℕ) (c c' : Cell) (off : Bool) (ready' calling' : List ℕ) → i < length b.cells → c ≡ get_or b.cells i c → c'.key ≡ c.key → c'.scope ≡ c.scope → c'.definition ≡ c.definition
      → ((k : ℕ) → is_kept ready k ≡ true → is_kept ready' k ≡ true) → ((k : ℕ) → is_kept calling k ≡ true → is_kept calling' k ≡ true)
      → (calls_off c' ≡ true → (calls_off c || off) ≡ true) → (off ≡ true → All (λ (x : Cell). climbs (λ y. y.key == c.key) b b.cells x.scope ≡ true → is_kept ready' x.key ≡ true) b.cells)
      → IsSeen (record b { cells = slice_set b.cells i c' }) ready' c' → IsEnding (record b { cells = slice_set b.cells i c' }) ready' c' → IsCalling calling' c'
      → IsIndexed (record b { cells = slice_set b.cells i c' }) rows children stuck ready' calling' coming
  kept_changed i c c' off ready' calling' within at key scope definition still calls_still met below seen' ends' calls' =
      let after : Board = record b { cells = slice_set b.cells i c' } in
      let numbers : (k : ℕ) → cells_in after k ≡ cells_in b k = λ k. passing_same (λ (x : Cell). x.scope == k) b.cells i c c' within at (ap (λ (s : ℕ). s == k) scope) in
      record {
        cells_ascend = ascend_set (λ (x : Cell). x.key) 0 b.cells i c c' at key kept.cells_ascend;
        newer = All-set IsNewer b.cells i c' (let before : c.scope < c.key = subst IsNewer (sym at) (kept.newer i c within) in rw (scope, key) before) kept.newer;
        tokens_ascend = kept.tokens_ascend;
        children_right = children_set b.cells children kept.children_right i c c' at key scope;
        incidents_ascend = kept.incidents_ascend;
        alone = kept.alone;
        stuck_right = kept.stuck_right;
        awake = All-set (IsSeen after ready') b.cells i c' seen'
            (All-weaker (IsSeen b ready) (IsSeen after ready') (λ x. seen_on b after ready ready' x refl (λ m is. is) (fuller b after x.key (omega (arith, numbers x.key)) (omega arith)) (still x.key)) b.cells kept.awake);
        ending = All-set (IsEnding after ready') b.cells i c' ends'
            (ending_set b i c c' off ready ready' kept.newer at key scope met below (λ k. (fuller b after k (omega (arith, numbers k)) (omega arith)).1) still kept.ending);
        called = All-set (IsCalling calling') b.cells i c' calls' (All-weaker (IsCalling calling) (IsCalling calling') (λ x called calls. calls_still x.key (called calls)) b.cells kept.called);
        awaited = awaited_set b i c c' coming rows at key definition kept.awaited;
      }

  -- a cell is seen where fewer are in one scope alone, which is put among the ready ones where no cell is left in it
  seen_of : (after : Board) (scope : ℕ) (ready' : List ℕ) (x : Cell) → is_stuck after x ≡ is_stuck b x → ((scope == x.key) ≡ false → (cells_in b x.key ≤ cells_in after x.key) × (tokens_in b x.key ≤ tokens_in after x.key))
      → (is_kept ready x.key ≡ true → is_kept ready' x.key ≡ true) → (cells_in after scope ≡ 0 → scope ≡ x.key → is_kept ready' x.key ≡ true)
      → ((m : Model) → model_under b x.definition ≡ Some m → model_under after x.definition ≡ Some m) → IsSeen b ready x → IsSeen after ready' x
  seen_of after scope ready' x same_stuck others still woken models seen moves = by_scope (scope == x.key) refl others
    where
      by_left : (t : Bool) → (cells_in after x.key == 0) ≡ t → scope ≡ x.key → is_kept ready' x.key ≡ true
      by_left true none is =
          let nothing : cells_in after x.key ≡ 0 = grind (arith, nat_tests) in
          woken (subst (λ (k : ℕ). cells_in after k ≡ 0) (sym is) nothing) is
      by_left false some is = seen_on b after ready ready' x same_stuck models (fuller_by_child b after x.key some) still seen moves

      by_scope : (t : Bool) → (scope == x.key) ≡ t → (t ≡ false → (cells_in b x.key ≤ cells_in after x.key) × (tokens_in b x.key ≤ tokens_in after x.key)) → is_kept ready' x.key ≡ true
      by_scope true same others = let is : scope ≡ x.key = grind (arith, nat_tests) in by_left (cells_in after x.key == 0) refl is
      by_scope false other others = let numbers = others refl in seen_on b after ready ready' x same_stuck models (fuller b after x.key numbers.0 numbers.1) still seen moves

  -- a cell fewer, and its scope seen
  pub kept_away : (i : ℕ) (c : Cell) (children' : BTreeSet (ℕ × ℕ)) (ready' calling' : List ℕ) → i < length b.cells → c ≡ get_or b.cells i c
      → ((scope key : ℕ) → has_pair children' scope key ≡ cond ((c.scope == scope) && (c.key == key)) false (has_pair children scope key)) → IsOrdered place_cmp children'
      → ((k : ℕ) → (k == c.key) ≡ false → is_kept ready k ≡ true → is_kept ready' k ≡ true) → ((k : ℕ) → (k == c.key) ≡ false → is_kept calling k ≡ true → is_kept calling' k ≡ true)
      → (slice_get (keys_under c.scope children'.keys) 0 ≡ None → (c.scope == c.key) ≡ false → is_kept ready' c.scope ≡ true)
      → All (λ (h : Held Token). (h.row.scope == c.key) ≡ false) rows
      → IsIndexed (record b { cells = remove b.cells i }) rows children' stuck ready' calling' coming
  kept_away i c children' ready' calling' within at fewer order still calls_still woken none =
      let left : List Cell = remove b.cells i in
      let after : Board = record b { cells = left } in
      let numbers : (k : ℕ) → cells_in b k ≡ cells_in after k + (if c.scope == k then 1 else 0) = λ k. passing_fewer (λ (x : Cell). x.scope == k) b.cells i c within at in
      let apart : All (λ (x : Cell). (x.key == c.key) ≡ false) left = apart_gone 0 b.cells i c kept.cells_ascend within at in
      let others : (k : ℕ) → (c.scope == k) ≡ false → cells_in b k ≤ cells_in after k = λ k other. (let n = rw other at (numbers k) in omega (arith, n)) in
      let own : find (λ (x : Cell). x.key == c.key) b.cells ≡ Some c =
      subst (λ (x : Cell). find (λ (y : Cell). y.key == x.key) b.cells ≡ Some x) (sym at) (finds_own (λ (x : Cell). x.key) 0 b.cells i c within kept.cells_ascend) in
      let right = children_away b.cells children kept.children_right i c children' within at apart own fewer in
      let up = ascend_remove (λ (x : Cell). x.key) 0 b.cells i kept.cells_ascend in
      let nobody : cells_in after c.scope ≡ 0 → slice_get (keys_under c.scope children'.keys) 0 ≡ None = λ none. ap (λ (ks : List ℕ). slice_get ks 0) (children_in left children' right c.scope up order ∙ ap (map (λ (x : Cell). x.key)) (no_length (filter (λ (x : Cell). x.scope == c.scope) left) none)) in
      let empty : has_child after c.scope ≡ false → cells_in after c.scope ≡ 0 = λ none. (let is = sym (child_counted after c.scope) ∙ none in grind (arith, nat_tests, is)) in
      let seen_left : All (IsSeen b ready) left = All-append (IsSeen b ready) (take i b.cells) (drop (suc i) b.cells) (All-take (IsSeen b ready) i b.cells kept.awake) (All-drop (IsSeen b ready) (suc i) b.cells kept.awake) in
      let ending_left : All (IsEnding b ready) left = All-append (IsEnding b ready) (take i b.cells) (drop (suc i) b.cells) (All-take (IsEnding b ready) i b.cells kept.ending) (All-drop (IsEnding b ready) (suc i) b.cells kept.ending) in
      let calling_left : All (IsCalling calling) left = All-append (IsCalling calling) (take i b.cells) (drop (suc i) b.cells) (All-take (IsCalling calling) i b.cells kept.called) (All-drop (IsCalling calling) (suc i) b.cells kept.called) in
      record {
        cells_ascend = up;
        newer = All-append IsNewer (take i b.cells) (drop (suc i) b.cells) (All-take IsNewer i b.cells kept.newer) (All-drop IsNewer (suc i) b.cells kept.newer);
        tokens_ascend = kept.tokens_ascend;
        children_right = right;
        incidents_ascend = kept.incidents_ascend;
        alone = kept.alone;
        stuck_right = kept.stuck_right;
        awake = λ k d there.
            let x = get_or left k d in
            let other = apart k d there in
            seen_of after c.scope ready' x refl (λ far. (others x.key far, omega arith)) (still x.key other)
            (λ none_left is. subst (λ (n : ℕ). is_kept ready' n ≡ true) is (woken (nobody none_left) (subst (λ (n : ℕ). (n == c.key) ≡ false) (sym is) other))) (λ m is. is) (seen_left k d there);
        ending = ending_away b i c ready ready' kept.newer within at apart (λ k far. (fuller b after k (others k far) (omega arith)).1) still (λ none_in other. woken (nobody (empty none_in)) other) ending_left;
        called = λ k d there calls. calls_still (get_or left k d).key (apart k d there) (calling_left k d there calls);
        awaited = awaited_away b i c coming rows at none kept.awaited;
      }

  -- a token more
  pub kept_token : (h : Held Token) (coming' : List ℕ) → Ascend number_in 0 (rows ++ h ∷ []) → b.tokens ≡ held_tokens rows
      → (IsAwaited b rows coming → IsAwaited (record b { tokens = held_tokens (rows ++ h ∷ []) }) (rows ++ h ∷ []) coming')
      → IsIndexed (record b { tokens = held_tokens (rows ++ h ∷ []) }) (rows ++ h ∷ []) children stuck ready calling coming'
  kept_token h coming' up their come =
      let after : Board = record b { tokens = held_tokens (rows ++ h ∷ []) } in
      let numbers : (k : ℕ) → tokens_in after k ≡ tokens_in b k + (if h.row.scope == k then 1 else 0) = λ k. ap (count_in_scope k) (tokens_more rows h ∙ ap (λ (ts : List Token). ts ++ h.row ∷ []) (sym their)) ∙ passing_more (λ (x : Token). x.scope == k) b.tokens h.row in
      record {
        cells_ascend = kept.cells_ascend;
        newer = kept.newer;
        tokens_ascend = up;
        children_right = kept.children_right;
        incidents_ascend = kept.incidents_ascend;
        alone = kept.alone;
        stuck_right = kept.stuck_right;
        awake = All-weaker (IsSeen b ready) (IsSeen after ready) (λ x. seen_on b after ready ready x refl (λ m is. is) (fuller b after x.key (omega arith) (omega (arith, numbers x.key))) (λ is. is)) b.cells kept.awake;
        ending = ending_beside b after ready ready refl (λ k. refl) (λ k is. is) (λ k is. is) kept.ending;
        called = kept.called;
        awaited = come kept.awaited;
      }

  -- tokens fewer in a scope, and that seen
  pub kept_taken : (scope : ℕ) (left : List (Held Token)) (ready' coming' : List ℕ) → b.tokens ≡ held_tokens rows → IsFewer scope rows left → (IsAwaited b rows coming → IsAwaited (record b { tokens = held_tokens left }) left coming')
      → ((k : ℕ) → is_kept ready k ≡ true → is_kept ready' k ≡ true) → (slice_get (keys_under scope children.keys) 0 ≡ None → is_kept ready' scope ≡ true) → IsOrdered place_cmp children
      → IsIndexed (record b { tokens = held_tokens left }) left children stuck ready' calling coming'
  kept_taken scope left ready' coming' their fewer come still woken order =
      let after : Board = record b { tokens = held_tokens left } in
      let others : (k : ℕ) → (scope == k) ≡ false → tokens_in b k ≤ tokens_in after k = λ k other. (let n = fewer.elsewhere k other in let all = ap (count_in_scope k) their in omega (arith, n, all)) in
      record {
        cells_ascend = kept.cells_ascend;
        newer = kept.newer;
        tokens_ascend = subst (λ (l : List (Held Token)). Ascend number_in 0 l) (sym fewer.among) (ascend_kept number_in fewer.stays 0 rows kept.tokens_ascend);
        children_right = kept.children_right;
        incidents_ascend = kept.incidents_ascend;
        alone = kept.alone;
        stuck_right = kept.stuck_right;
        awake = All-weaker (IsSeen b ready) (IsSeen after ready') (λ x. seen_of after scope ready' x refl (λ far. (omega arith, others x.key far)) (still x.key)
            (λ none is. subst (λ (n : ℕ). is_kept ready' n ≡ true) is (woken (ap (λ (ks : List ℕ). slice_get ks 0) (children_in b.cells children kept.children_right scope kept.cells_ascend order ∙ ap (map (λ (c : Cell). c.key)) (no_length (filter (λ (c : Cell). c.scope == scope) b.cells) none))))) (λ m is. is)) b.cells kept.awake;
        ending = ending_beside b after ready ready' refl (λ k. refl) (λ k is. is) still kept.ending;
        called = kept.called;
        awaited = come kept.awaited;
      }

  -- a token that was looked at, and rests or isn't there
  pub kept_looked_token : (number : ℕ) (coming' : List ℕ) → option_map_or (λ h. stays_out b h.row) (row_at number_in number rows) true ≡ true
      → ((k : ℕ) → (k == number) ≡ false → is_kept coming k ≡ true → is_kept coming' k ≡ true) → IsIndexed b rows children stuck ready calling coming'
  kept_looked_token number coming' rests still = record {
    cells_ascend = kept.cells_ascend;
    newer = kept.newer;
    tokens_ascend = kept.tokens_ascend;
    children_right = kept.children_right;
    incidents_ascend = kept.incidents_ascend;
    alone = kept.alone;
    stuck_right = kept.stuck_right;
    awake = kept.awake;
    ending = kept.ending;
    called = kept.called;
    awaited = awaited_looked b coming coming' number rows rests still kept.tokens_ascend kept.awaited;
  }

  -- a cell that was looked at, and rests or isn't there
  pub kept_looked : (key : ℕ) (ready' : List ℕ) → is_awake b key ≡ false → ((k : ℕ) → (k == key) ≡ false → is_kept ready k ≡ true → is_kept ready' k ≡ true) → IsIndexed b rows children stuck ready' calling coming
  kept_looked key ready' rests still = record {
    cells_ascend = kept.cells_ascend;
    newer = kept.newer;
    tokens_ascend = kept.tokens_ascend;
    children_right = kept.children_right;
    incidents_ascend = kept.incidents_ascend;
    alone = kept.alone;
    stuck_right = kept.stuck_right;
    awake = λ k d within moves. still (get_or b.cells k d).key (other k d within (rw moves refl)) (kept.awake k d within moves);
    ending = λ k d within ends. still (get_or b.cells k d).key (other k d within (either (is_resting b (get_or b.cells k d)) ends)) (kept.ending k d within ends);
    called = kept.called;
    awaited = kept.awaited;
  }
    where
      either : {u : Bool} (t : Bool) → u ≡ true → (not t || u) ≡ true
      either true is = is
      either false is = refl

      by_key : (t : Bool) (k : ℕ) (d : Cell) → k < length b.cells → (not (is_resting b (get_or b.cells k d)) || is_ending b (get_or b.cells k d)) ≡ true → ((get_or b.cells k d).key == key) ≡ t → t ≡ false
      by_key false k d within moves is = refl
      by_key true k d within moves is =
          let same : (get_or b.cells k d).key ≡ key = grind (arith, nat_tests) in
          let found : cell_at b key ≡ Some (get_or b.cells k d) = subst (λ (n : ℕ). cell_at b n ≡ Some (get_or b.cells k d)) same (finds_own (λ (x : Cell). x.key) 0 b.cells k d within kept.cells_ascend) in
          let awake : is_awake b key ≡ true = rw found moves in
          sym awake ∙ rests

      other : (k : ℕ) (d : Cell) → k < length b.cells → (not (is_resting b (get_or b.cells k d)) || is_ending b (get_or b.cells k d)) ≡ true → ((get_or b.cells k d).key == key) ≡ false
      other k d within moves = by_key ((get_or b.cells k d).key == key) k d within moves refl

  -- a cell with other variables, or ended
  same_rest : (after : Board) (c : Cell) (variables : List Variable) (ending : Bool) (phase : Phase) → rests_in after (record c { variables = variables; ending = ending }) phase ≡ rests_in after c phase
  same_rest after c variables ending phases.Activating = refl
  same_rest after c variables ending phases.Active = refl
  same_rest after c variables ending phases.Completing = refl
  same_rest after c variables ending phases.Leaving = refl
  same_rest after c variables ending phases.Terminating = refl

  same_end : (after : Board) (c : Cell) (variables : List Variable) (ending : Bool) (phase : Phase) → ends_in after (record c { variables = variables; ending = ending }) phase ≡ ends_in after c phase
  same_end after c variables ending phases.Activating = refl
  same_end after c variables ending phases.Active = refl
  same_end after c variables ending phases.Completing = refl
  same_end after c variables ending phases.Leaving = refl
  same_end after c variables ending phases.Terminating = refl

  pub kept_within : (i : ℕ) (c : Cell) (variables : List Variable) (ending off : Bool) (ready' calling' : List ℕ) → i < length b.cells → c ≡ get_or b.cells i c
      → ((k : ℕ) → is_kept ready k ≡ true → is_kept ready' k ≡ true) → ((k : ℕ) → is_kept calling k ≡ true → is_kept calling' k ≡ true)
      → (calls_off (record c { variables = variables; ending = ending }) ≡ true → (calls_off c || off) ≡ true) → (off ≡ true → All (λ (x : Cell). climbs (λ y. y.key == c.key) b b.cells x.scope ≡ true → is_kept ready' x.key ≡ true) b.cells)
      → IsCalling calling' (record c { variables = variables; ending = ending })
      → IsIndexed (record b { cells = slice_set b.cells i (record c { variables = variables; ending = ending }) }) rows children stuck ready' calling' coming
  kept_within i c variables ending off ready' calling' within at still calls_still met below calls' =
      let c' : Cell = record c { variables = variables; ending = ending } in
      let after : Board = record b { cells = slice_set b.cells i c' } in
      let numbers : cells_in after c.key ≡ cells_in b c.key = passing_same (λ (x : Cell). x.scope == c.key) b.cells i c c' within at refl in
      let seen : IsSeen b ready c = subst (IsSeen b ready) (sym at) (kept.awake i c within) in
      let ends : IsEnding after ready' c = subst (IsEnding after ready') (sym at) (ending_set b i c c' off ready ready' kept.newer at refl refl met below (λ k. (fuller b after k (omega (arith, passing_same (λ (x : Cell). x.scope == k) b.cells i c c' within at refl)) (omega arith)).1) still kept.ending i c within) in
      kept_changed i c c' off ready' calling' within at refl refl refl still calls_still met below
      (λ moves. seen_on b after ready ready' c refl (λ m is. is) (fuller b after c.key (omega (arith, numbers)) (omega arith)) (still c.key) seen (sym (ap (λ (t : Bool). is_stuck after c || t) (same_rest after c variables ending c.phase)) ∙ moves))
      (λ is. ends (sym (ap (λ (t : Bool). is_doomed after c && t) (same_end after c variables ending c.phase)) ∙ is)) calls'

  -- nothing but incidents changes
  same_phase : (incidents : List Incident) (c : Cell) (phase : Phase) → rests_in (record b { incidents = incidents }) c phase ≡ rests_in b c phase
  same_phase incidents c phases.Activating = refl
  same_phase incidents c phases.Active = refl
  same_phase incidents c phases.Completing = refl
  same_phase incidents c phases.Leaving = refl
  same_phase incidents c phases.Terminating = refl

  unstuck : (m n : ℕ) → m ≤ n → not (n == 0) ≡ false → not (m == 0) ≡ false
  unstuck m n le none = grind (arith, nat_tests)

  -- a cell that doesn't rest didn't where no fewer incidents are on it
  moved_before : (incidents : List Incident) (c : Cell) → incidents_on b c.key ≤ incidents_on (record b { incidents = incidents }) c.key → is_resting (record b { incidents = incidents }) c ≡ false → is_resting b c ≡ false
  moved_before incidents c le moves = by_stuck (is_stuck (record b { incidents = incidents }) c) (is_stuck b c) moves
      (λ none. stuck_counted b c ∙ unstuck (incidents_on b c.key) (incidents_on (record b { incidents = incidents }) c.key) le (sym (stuck_counted (record b { incidents = incidents }) c) ∙ none))
    where
      by_stuck : (s t : Bool) → (s || rests_in (record b { incidents = incidents }) c c.phase) ≡ false → (s ≡ false → t ≡ false) → (t || rests_in b c c.phase) ≡ false
      by_stuck true t moves f = absurd (cc)
      by_stuck false t moves f = let free : t ≡ false = f refl in rw free (sym (same_phase incidents c c.phase) ∙ moves)

  -- the incident on a cell is the one with the key that is kept for it
  pub incident_kept : (cell key : ℕ) → number_under stuck cell ≡ Some key → incident_at b key ≡ incident_on b cell
  incident_kept cell key is =
      let r = mapped_from (λ (x : Incident). x.key) (incident_on b cell) key (sym (kept.stuck_right cell) ∙ is) in
      let its = found_place (λ (x : Incident). x.cell == cell) b.incidents r.0 r.1 in
      let own : find (λ (x : Incident). x.key == r.0.key) b.incidents ≡ Some r.0 =
      subst (λ (x : Incident). find (λ (y : Incident). y.key == x.key) b.incidents ≡ Some x) (sym its.2) (finds_own (λ (x : Incident). x.key) 0 b.incidents its.0 r.0 its.1 kept.incidents_ascend) in
      subst (λ (k : ℕ). incident_at b k ≡ Some r.0) r.2 own ∙ sym r.1

  -- and where none is kept there is none
  pub none_kept : (cell : ℕ) → number_under stuck cell ≡ None → incident_on b cell ≡ None
  none_kept cell is = unmapped (λ (x : Incident). x.key) (incident_on b cell) (sym (kept.stuck_right cell) ∙ is)

  -- an incident more, on a cell on which there is none
  pub kept_raised : (i : Incident) (stuck' : List (ℕ × ℕ)) → are_below (λ (x : Incident). x.key) i.key b.incidents ≡ true → incident_on b i.cell ≡ None
      → ((k : ℕ) → number_under stuck' k ≡ cond (is_at (nat_cmp i.cell) k) (Some i.key) (number_under stuck k))
      → IsIndexed (record b { incidents = b.incidents ++ i ∷ [] }) rows children stuck' ready calling coming
  kept_raised i stuck' below free puts =
      let after : Board = record b { incidents = b.incidents ++ i ∷ [] } in
      let numbers : (k : ℕ) → incidents_on after k ≡ incidents_on b k + (if i.cell == k then 1 else 0) = λ k. passing_more (λ (x : Incident). x.cell == k) b.incidents i in
      record {
        cells_ascend = kept.cells_ascend;
        newer = kept.newer;
        tokens_ascend = kept.tokens_ascend;
        incidents_ascend = ascend_more (λ (x : Incident). x.key) 0 b.incidents i (omega arith) kept.incidents_ascend below;
        alone = λ k. one_at k (i.cell == k) refl (numbers k);
        children_right = kept.children_right;
        stuck_right = λ k. puts k ∙ (ap (λ (t : Bool). cond t (Some i.key) (number_under stuck k)) (same_number i.cell k) ∙ on_cell k (i.cell == k) refl);
        awake = All-weaker (IsSeen b ready) (IsSeen after ready) (λ x seen moves. seen (moved_before (b.incidents ++ i ∷ []) x (omega (arith, numbers x.key)) moves)) b.cells kept.awake;
        ending = ending_beside b after ready ready refl (λ k. refl) (λ k is. is) (λ k is. is) kept.ending;
        called = kept.called;
        awaited = kept.awaited;
      }
    where
      none_at : (k : ℕ) → (i.cell == k) ≡ true → incident_on b k ≡ None
      none_at k is =
          let same : i.cell ≡ k = grind (arith, nat_tests) in
          subst (λ (n : ℕ). incident_on b n ≡ None) same free

      one_at : (k : ℕ) (t : Bool) → (i.cell == k) ≡ t → incidents_on (record b { incidents = b.incidents ++ i ∷ [] }) k ≡ incidents_on b k + (if t then 1 else 0) → incidents_on (record b { incidents = b.incidents ++ i ∷ [] }) k ≤ 1
      one_at k true is number = omega (arith, number, none_counted b k (none_at k is))
      one_at k false is number = omega (arith, number, kept.alone k)

      on_cell : (k : ℕ) (t : Bool) → (i.cell == k) ≡ t → cond t (Some i.key) (number_under stuck k) ≡ option_map (λ (x : Incident). x.key) (find (λ (x : Incident). x.cell == k) (b.incidents ++ i ∷ []))
      on_cell k true is =
          let none : find (λ (x : Incident). x.cell == k) b.incidents ≡ None = none_at k is in
          rw (find-append (λ (x : Incident). x.cell == k) b.incidents (i ∷ []), none, is) refl
      on_cell k false is =
          rw (find-append (λ (x : Incident). x.cell == k) b.incidents (i ∷ []), is) (kept.stuck_right k ∙ ap (option_map (λ (x : Incident). x.key)) (none_behind (find (λ (x : Incident). x.cell == k) b.incidents)))

  -- an incident fewer, and its cell seen
  pub kept_repaired : (i : ℕ) (x : Incident) (stuck' : List (ℕ × ℕ)) (ready' : List ℕ) → i < length b.incidents → x ≡ get_or b.incidents i x
      → ((k : ℕ) → number_under stuck' k ≡ cond (is_at (nat_cmp x.cell) k) None (number_under stuck k))
      → ((k : ℕ) → is_kept ready k ≡ true → is_kept ready' k ≡ true) → is_kept ready' x.cell ≡ true
      → IsIndexed (record b { incidents = remove b.incidents i }) rows children stuck' ready' calling coming
  kept_repaired i x stuck' ready' within at takes still woken =
      let left : List Incident = remove b.incidents i in
      let after : Board = record b { incidents = left } in
      let numbers : (k : ℕ) → incidents_on b k ≡ incidents_on after k + (if x.cell == k then 1 else 0) = λ k. passing_fewer (λ (y : Incident). y.cell == k) b.incidents i x within at in
      record {
        cells_ascend = kept.cells_ascend;
        newer = kept.newer;
        tokens_ascend = kept.tokens_ascend;
        incidents_ascend = ascend_remove (λ (y : Incident). y.key) 0 b.incidents i kept.incidents_ascend;
        alone = λ k. omega (arith, numbers k, kept.alone k);
        children_right = kept.children_right;
        stuck_right = λ k. takes k ∙ (ap (λ (t : Bool). cond t None (number_under stuck k)) (same_number x.cell k) ∙ on_cell k (x.cell == k) refl (numbers k));
        awake = All-weaker (IsSeen b ready) (IsSeen after ready') (λ c seen moves. by_cell left c (x.cell == c.key) refl (numbers c.key) seen moves) b.cells kept.awake;
        ending = ending_beside b after ready ready' refl (λ k. refl) (λ k is. is) still kept.ending;
        called = kept.called;
        awaited = kept.awaited;
      }
    where
      by_cell : (left : List Incident) (c : Cell) (t : Bool) → (x.cell == c.key) ≡ t → incidents_on b c.key ≡ incidents_on (record b { incidents = left }) c.key + (if t then 1 else 0) → IsSeen b ready c → IsSeen (record b { incidents = left }) ready' c
      by_cell left c true its number seen moves =
          let is : x.cell ≡ c.key = grind (arith, nat_tests) in
          subst (λ (k : ℕ). is_kept ready' k ≡ true) is woken
      by_cell left c false other number seen moves = still c.key (seen (moved_before left c (omega (arith, number)) moves))

      on_cell : (k : ℕ) (t : Bool) → (x.cell == k) ≡ t → incidents_on b k ≡ incidents_on (record b { incidents = remove b.incidents i }) k + (if t then 1 else 0)
          → cond t None (number_under stuck k) ≡ option_map (λ (y : Incident). y.key) (find (λ (y : Incident). y.cell == k) (remove b.incidents i))
      on_cell k true is number =
          let none : find (λ (y : Incident). y.cell == k) (remove b.incidents i) ≡ None = counted_none (record b { incidents = remove b.incidents i }) k (omega (arith, number, kept.alone k)) in
          rw none refl
      on_cell k false is number = rw (found_without (λ (y : Incident). y.cell == k) b.incidents i x within at is) (kept.stuck_right k)
