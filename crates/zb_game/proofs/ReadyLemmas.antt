-- The greatest key of the forced cells is the last one of the ready keys that is one of a forced cell.
use Rattle.std.proofs.Common.{◌≡◌, ℕ, ◌+◌, ◌≤◌, ◌==◌, max, List, [], ◌∷◌, map, filter, get_or, All, Bool, true, false, not, ◌&&◌, ◌||◌, cond, if◌then◌else◌, Option, Some, None, is_some, option_and_then, refl, sym, ap, ◌∙◌, subst, arith}
use Rattle.std.specs.Option.{option_map_or, option_or}
use Rattle.std.specs.List.{find, list_any}
use Rattle.std.proofs.lemmas.Bool.{or_left, or_right}
use Rattle.std.proofs.lemmas.Bool.{and_parts}
use Rattle.std.proofs.lemmas.Bool.Decides.{nat_tests}
use Rattle.std.proofs.lemmas.List.Elements.{All-filter, All-map, All-head, All-tail, filter_passes}
use Rattle.zb_table.specs.Rows.{Ascend, last_passing}
use Rattle.zb_tokens.specs.declared.board.Cell.{Cell}
use Rattle.zb_tokens.specs.declared.board.Phase.{Phase}
use Rattle.zb_tokens.specs.declared.board.Phase.TheVariants as phases
use Rattle.zb_tokens.specs.Edits.{is_none_of}
use Rattle.zb_tokens.specs.declared.board.Triggered.{Triggered}
use Rattle.zb_tokens.specs.Errors.{catcher, is_same_event}
use Rattle.zb_tokens.proofs.GameLaws.{any_where}
use Rattle.zb_tokens.specs.MoveTrigger.{comes_about_by}
use Rattle.zb_tokens.specs.Board.{Board, cell_at, model_under, has_child, is_phase}
use Rattle.zb_tokens.specs.Doom.{is_doomed}
use Rattle.zb_tokens.specs.Incidents.{is_stuck}
use Rattle.zb_tokens.specs.Marks.{error_of}
use Rattle.zb_tokens.specs.MoveFinish.{acts, acts_in}
use Rattle.zb_tokens.specs.Forced.{ends_in, goes_on_in, is_forced, greatest}
use Rattle.zb_process.specs.declared.model.Model.{Model}
use Rattle.zb_board.specs.Indexed.{rests_in, is_resting, is_ending, is_kept}
use Rattle.zb_game.specs.Searches.{comes_about_at, is_forced_at, newest_key}
use Rattle.zb_table.proofs.Ascending.{finds_own}

is_not : (t : Bool) → not t ≡ true → t ≡ false
is_not true is = absurd (cc)
is_not false is = refl

-- a cell that goes on by itself doesn't rest
goes_not_rests : (b : Board) (c : Cell) (phase : Phase) → goes_on_in b c phase ≡ true → rests_in b c phase ≡ false
goes_not_rests b c phases.Activating goes = refl
goes_not_rests b c phases.Active goes = by_error (is_some (error_of c.mark)) goes
  where
    by_model : (found : Option Model) → option_map_or (λ m. acts_in m b c) found false ≡ true → option_map_or (λ m. not (acts_in m b c)) found false ≡ false
    by_model None goes = refl
    by_model (Some m) goes = ap not goes

    by_error : (t : Bool) → (t || acts b c) ≡ true → (not t && option_map_or (λ m. not (acts_in m b c)) (model_under b c.definition) false) ≡ false
    by_error true goes = refl
    by_error false goes = by_model (model_under b c.definition) goes
goes_not_rests b c phases.Completing goes = refl
goes_not_rests b c phases.Leaving goes = is_not (is_none_of c.owed) goes
goes_not_rests b c phases.Terminating goes = is_not (has_child b c.key) goes

module _ (q : ℕ → Bool) where
  -- the last key that passes isn't below the first
  last_above : (low : ℕ) (keys : List ℕ) (k : ℕ) → Ascend (λ (n : ℕ). n) low keys → last_passing q keys ≡ Some k → (low ≤ k) × (q k ≡ true)
  last_above low [] k up is = absurd (cc)
  last_above low (x ∷ keys) k up is = by_later (last_passing q keys) (q x) refl is (last_above (x + 1) keys k up.1)
    where
      by_later : (later : Option ℕ) (t : Bool) → q x ≡ t → option_or later (if t then Some x else None) ≡ Some k → (later ≡ Some k → (x + 1 ≤ k) × (q k ≡ true)) → (low ≤ k) × (q k ≡ true)
      by_later (Some y) t it is further =
          let r = further is in
          let above : x + 1 ≤ k = r.0 in
          (omega (arith, above, up.0), r.1)
      by_later None true it is further =
          let same : x ≡ k = cc in
          (omega (arith, same, up.0), subst (λ (n : ℕ). q n ≡ true) same it)
      by_later None false it is further = absurd (cc)

  -- a key that passes is no greater than the last one that passes
  up_to : (low : ℕ) (keys : List ℕ) (n : ℕ) → Ascend (λ (k : ℕ). k) low keys → is_kept keys n ≡ true → q n ≡ true → (k : ℕ) × (last_passing q keys ≡ Some k) × (n ≤ k)
  up_to low [] n up in_it it = absurd (cc)
  up_to low (x ∷ keys) n up in_it it = by_here (x == n) refl in_it (λ there. up_to (x + 1) keys n up.1 there it)
    where
      or_first : (a b : Option ℕ) (k : ℕ) → a ≡ Some k → option_or a b ≡ Some k
      or_first None b k is = absurd (cc)
      or_first (Some y) b k is = is

      by_last : (later : Option ℕ) → last_passing q keys ≡ later → x ≡ n → (k : ℕ) × (option_or later (if q x then Some x else None) ≡ Some k) × (n ≤ k)
      by_last (Some y) is same =
          let above : x + 1 ≤ y = (last_above (x + 1) keys y up.1 is).0 in
          (y, refl, omega (arith, above, same))
      by_last None is same =
          let here : q x ≡ true = subst (λ (k : ℕ). q k ≡ true) (sym same) it in
          (x, rw here refl, omega (arith, same))

      by_here : (t : Bool) → (x == n) ≡ t → (t || is_kept keys n) ≡ true → (is_kept keys n ≡ true → (k : ℕ) × (last_passing q keys ≡ Some k) × (n ≤ k)) → (k : ℕ) × (option_or (last_passing q keys) (if q x then Some x else None) ≡ Some k) × (n ≤ k)
      by_here true same there later = by_last (last_passing q keys) refl (grind (arith, nat_tests))
      by_here false other there later =
          let r = later there in
          (r.0, or_first (last_passing q keys) (if q x then Some x else None) r.0 r.1, r.2)

-- a last one passes where one does
pub last_any : (passes : ℕ → Bool) (keys : List ℕ) → is_some (last_passing passes keys) ≡ list_any passes keys
last_any passes [] = refl
last_any passes (k ∷ keys) = by_tests (passes k) (last_passing passes keys) (list_any passes keys) (last_any passes keys)
  where
    by_tests : (t : Bool) (later : Option ℕ) (u : Bool) → is_some later ≡ u → is_some (option_or later (if t then Some k else None)) ≡ (t || u)
    by_tests true None u is = refl
    by_tests true (Some x) u is = refl
    by_tests false None u is = is
    by_tests false (Some x) u is = is

-- the greatest of some numbers, of which none is greater
greatest_is : (ns : List ℕ) (k : ℕ) → is_kept ns k ≡ true → All (λ n. n ≤ k) ns → greatest ns ≡ Some k
greatest_is [] k in_it all = absurd (cc)
greatest_is (n ∷ ns) k in_it all = by_here (n == k) refl in_it (λ there. greatest_is ns k there (All-tail (λ (m : ℕ). m ≤ k) n ns all))
  where
    here : n ≤ k
    here = All-head (λ (m : ℕ). m ≤ k) n ns all

    later : All (λ (m : ℕ). m ≤ k) ns
    later = All-tail (λ (m : ℕ). m ≤ k) n ns all

    below : (ms : List ℕ) (g : ℕ) → All (λ (m : ℕ). m ≤ k) ms → greatest ms ≡ Some g → g ≤ k
    below [] g all is = absurd (cc)
    below (m ∷ ms) g all is = by_rest (greatest ms) (All-head (λ (x : ℕ). x ≤ k) m ms all) is (λ h e. below ms h (All-tail (λ (x : ℕ). x ≤ k) m ms all) e)
      where
        by_rest : (rest : Option ℕ) → m ≤ k → Some (option_map_or (max m) rest m) ≡ Some g → ((h : ℕ) → rest ≡ Some h → h ≤ k) → g ≤ k
        by_rest None le is each = let same : m ≡ g = cc in omega (arith, le, same)
        by_rest (Some h) le is each =
            let same : max m h ≡ g = cc in
            let rest : h ≤ k = each h refl in
            grind (arith, same, le, rest)

    by_first : (rest : Option ℕ) → n ≡ k → ((g : ℕ) → rest ≡ Some g → g ≤ k) → Some (option_map_or (max n) rest n) ≡ Some k
    by_first None same each = ap (λ (m : ℕ). Some m) same
    by_first (Some g) same each =
        let le : g ≤ k = each g refl in
        let e : max n g ≡ k = grind (arith, same, le) in
        ap (λ (m : ℕ). Some m) e

    by_here : (t : Bool) → (n == k) ≡ t → (t || is_kept ns k) ≡ true → (is_kept ns k ≡ true → greatest ns ≡ Some k) → Some (option_map_or (max n) (greatest ns) n) ≡ Some k
    by_here true same there rest = by_first (greatest ns) (grind (arith, nat_tests)) (λ g e. below ns g later e)
    by_here false other there rest =
        let found : greatest ns ≡ Some k = rest there in
        let e : max n k ≡ k = grind (arith, here) in
        rw found (ap (λ (m : ℕ). Some m) e)

-- the key of a cell that is found with it and passes is among those of the cells that pass
among_kept : (p : Cell → Bool) (key : ℕ) (cells : List Cell) (c : Cell) → find (λ x. x.key == key) cells ≡ Some c → p c ≡ true → is_kept (map (λ x. x.key) (filter p cells)) key ≡ true
among_kept p key [] c found it = absurd (cc)
among_kept p key (x ∷ cells) c found it = by_key (x.key == key) (p x) refl refl found (λ e. among_kept p key cells c e it)
  where
    by_key : (t u : Bool) → (x.key == key) ≡ t → p x ≡ u → cond t (Some x) (find (λ y. y.key == key) cells) ≡ Some c → (find (λ y. y.key == key) cells ≡ Some c → is_kept (map (λ y. y.key) (filter p cells)) key ≡ true)
        → is_kept (map (λ y. y.key) (cond u (x ∷ filter p cells) (filter p cells))) key ≡ true
    by_key true true same passes found later = rw same refl
    by_key true false same fails found later =
        let is : x ≡ c = cc in
        let passes : p x ≡ true = subst (λ (y : Cell). p y ≡ true) (sym is) it in
        absurd (cc)
    by_key false true other passes found later = rw other (later found)
    by_key false false other fails found later = later found

module _ (b : Board) (ready : List ℕ) (ascend : Ascend (λ (c : Cell). c.key) 0 b.cells) (awake : All (λ c. is_resting b c ≡ false → is_kept ready c.key ≡ true) b.cells)
    (ending : All (λ c. is_ending b c ≡ true → is_kept ready c.key ≡ true) b.cells) where
  -- the key of a forced cell is among the ready ones, and one of a forced cell
  abbrev IsFound : ℕ → Type 0
  IsFound n = (is_kept ready n ≡ true) × (is_forced_at b n ≡ true)

  forced_found : All (λ c. is_forced b c ≡ true → IsFound c.key) b.cells
  forced_found k d within forced =
      let c = get_or b.cells k d in
      let found : cell_at b c.key ≡ Some c = finds_own (λ (x : Cell). x.key) 0 b.cells k d within ascend in
      (by_doom c (is_doomed b c) refl forced (awake k d within) (ending k d within), rw found forced)
    where
      by_doom : (c : Cell) (t : Bool) → is_doomed b c ≡ t → (if t then ends_in b c c.phase else not (is_stuck b c) && goes_on_in b c c.phase) ≡ true
          → (is_resting b c ≡ false → is_kept ready c.key ≡ true) → (is_ending b c ≡ true → is_kept ready c.key ≡ true) → is_kept ready c.key ≡ true
      by_doom c true doomed ends awake ending = ending (rw doomed ends)
      by_doom c false free goes awake ending =
          let on : goes_on_in b c c.phase ≡ true = (and_parts (not (is_stuck b c)) (goes_on_in b c c.phase) goes).1 in
          let free_of : is_stuck b c ≡ false = is_not (is_stuck b c) ((and_parts (not (is_stuck b c)) (goes_on_in b c c.phase) goes).0) in
          awake (rw free_of (goes_not_rests b c c.phase on))

  all_found : All IsFound (map (λ (c : Cell). c.key) (filter (is_forced b) b.cells))
  all_found = All-map IsFound (λ (c : Cell). c.key) (filter (is_forced b) b.cells)
      (λ k d within. All-filter (is_forced b) (λ (c : Cell). is_forced b c ≡ true → IsFound c.key) b.cells forced_found k d within (filter_passes (is_forced b) b.cells k d within))

  none_found : (ns : List ℕ) → All IsFound ns → Ascend (λ (k : ℕ). k) 0 ready → last_passing (is_forced_at b) ready ≡ None → greatest ns ≡ None
  none_found [] all up none = refl
  none_found (n ∷ ns) all up none =
      let here = All-head IsFound n ns all in
      let r = up_to (is_forced_at b) 0 ready n up here.0 here.1 in
      let some = r.1 in
      absurd (cc)

  one_found : (key : ℕ) (found : Option Cell) → find (λ x. x.key == key) b.cells ≡ found → option_map_or (is_forced b) found false ≡ true → is_kept (map (λ c. c.key) (filter (is_forced b) b.cells)) key ≡ true
  one_found key None at forced = absurd (cc)
  one_found key (Some c) at forced = among_kept (is_forced b) key b.cells c at forced

  by_last : (found : Option ℕ) → Ascend (λ (k : ℕ). k) 0 ready → last_passing (is_forced_at b) ready ≡ found → found ≡ newest_key b
  by_last None up is = sym (none_found (map (λ c. c.key) (filter (is_forced b) b.cells)) all_found up is)
  by_last (Some k) up is =
      let last = last_above (is_forced_at b) 0 ready k up is in
      let there = one_found k (cell_at b k) refl last.1 in
      sym (greatest_is (map (λ c. c.key) (filter (is_forced b) b.cells)) k there
      (λ i d within.
      let here = all_found i d within in
      let r = up_to (is_forced_at b) 0 ready _ up here.0 here.1 in
      let le = r.2 in
      let same : r.0 ≡ k = (let e : Some r.0 ≡ Some k = sym r.1 ∙ is in cc) in
      omega (arith, le, same)))

  -- the last of the ready keys that is one of a forced cell
  pub newest_ready : Ascend (λ (k : ℕ). k) 0 ready → last_passing (is_forced_at b) ready ≡ newest_key b
  newest_ready up = by_last (last_passing (is_forced_at b) ready) up refl

-- where an error comes about, its cell is among the ready ones
module _ (b : Board) (t : Triggered) where
  -- a key that is one of such a cell
  there_by : (key : ℕ) (found : Option Cell) → find (λ x. x.key == key) b.cells ≡ found → option_map_or (comes_about_by b t) found false ≡ true → list_any (comes_about_by b t) b.cells ≡ true
  there_by key None at comes = absurd (cc)
  there_by key (Some c) at comes = any_where (λ (x : Cell). x.key == key) (comes_about_by b t) b.cells c at comes

  from_keys : (keys : List ℕ) → list_any (comes_about_at b t) keys ≡ true → list_any (comes_about_by b t) b.cells ≡ true
  from_keys [] some = absurd (cc)
  from_keys (key ∷ keys) some = by_test (comes_about_at b t key) refl some (λ later. from_keys keys later)
    where
      by_test : (s : Bool) → comes_about_at b t key ≡ s → (s || list_any (comes_about_at b t) keys) ≡ true → (list_any (comes_about_at b t) keys ≡ true → list_any (comes_about_by b t) b.cells ≡ true) → list_any (comes_about_by b t) b.cells ≡ true
      by_test true at some later = there_by key (cell_at b key) refl at
      by_test false at some later = later some

  kept_any : (keys : List ℕ) (key : ℕ) → is_kept keys key ≡ true → comes_about_at b t key ≡ true → list_any (comes_about_at b t) keys ≡ true
  kept_any [] key in_it comes = absurd (cc)
  kept_any (k ∷ keys) key in_it comes = by_test (k == key) refl in_it (λ there. kept_any keys key there comes)
    where
      by_test : (s : Bool) → (k == key) ≡ s → (s || is_kept keys key) ≡ true → (is_kept keys key ≡ true → list_any (comes_about_at b t) keys ≡ true) → (comes_about_at b t k || list_any (comes_about_at b t) keys) ≡ true
      by_test true same there later =
          let one : k ≡ key = grind (arith, nat_tests) in
          or_left (comes_about_at b t k) (list_any (comes_about_at b t) keys) (subst (λ (n : ℕ). comes_about_at b t n ≡ true) (sym one) comes)
      by_test false other there later = or_right (comes_about_at b t k) (list_any (comes_about_at b t) keys) (later there)

  module _ (ready : List ℕ) (ascend : Ascend (λ (c : Cell). c.key) 0 b.cells) (awake : All (λ c. is_resting b c ≡ false → is_kept ready c.key ≡ true) b.cells) where
    -- its cell doesn't rest
    awake_by : (c : Cell) → comes_about_by b t c ≡ true → is_resting b c ≡ false
    awake_by c comes =
        let active = (and_parts (is_phase c.phase phases.Active) _ comes).0 in
        let rest = (and_parts (is_phase c.phase phases.Active) _ comes).1 in
        let inner = (and_parts (not (is_doomed b c)) _ rest).1 in
        let free = is_not (is_stuck b c) ((and_parts (not (is_stuck b c)) _ inner).0) in
        let some = thrown (error_of c.mark) ((and_parts (not (is_stuck b c)) _ inner).1) in
        rw free (by_phase c.phase active some)
      where
        thrown : (error : Option (List ℕ)) → option_map_or (is_same_event t) (option_and_then (λ code. catcher b code c.key) error) false ≡ true → is_some error ≡ true
        thrown None is = absurd (cc)
        thrown (Some code) is = refl

        by_phase : (phase : Phase) → is_phase phase phases.Active ≡ true → is_some (error_of c.mark) ≡ true → rests_in b c phase ≡ false
        by_phase phases.Active is some = rw some refl
        by_phase phase is some = absurd (cc)

    all_kept : All (λ c. comes_about_by b t c ≡ true → list_any (comes_about_at b t) ready ≡ true) b.cells
    all_kept k d within comes =
        let c = get_or b.cells k d in
        let found : cell_at b c.key ≡ Some c = finds_own (λ (x : Cell). x.key) 0 b.cells k d within ascend in
        kept_any ready c.key (awake k d within (awake_by c comes)) (rw found comes)

    from_cells : (cells : List Cell) → All (λ c. comes_about_by b t c ≡ true → list_any (comes_about_at b t) ready ≡ true) cells → list_any (comes_about_by b t) cells ≡ true → list_any (comes_about_at b t) ready ≡ true
    from_cells [] all some = absurd (cc)
    from_cells (c ∷ cells) all some = by_test (comes_about_by b t c) refl some
        (λ later. from_cells cells (All-tail (λ (x : Cell). comes_about_by b t x ≡ true → list_any (comes_about_at b t) ready ≡ true) c cells all) later)
      where
        by_test : (s : Bool) → comes_about_by b t c ≡ s → (s || list_any (comes_about_by b t) cells) ≡ true → (list_any (comes_about_by b t) cells ≡ true → list_any (comes_about_at b t) ready ≡ true) → list_any (comes_about_at b t) ready ≡ true
        by_test true it some later = All-head (λ (x : Cell). comes_about_by b t x ≡ true → list_any (comes_about_at b t) ready ≡ true) c cells all it
        by_test false it some later = later some

    -- so one comes about of the ready cells where one does of all
    pub any_ready : list_any (comes_about_at b t) ready ≡ list_any (comes_about_by b t) b.cells
    any_ready = by_tests (list_any (comes_about_at b t) ready) (list_any (comes_about_by b t) b.cells) refl refl
      where
        by_tests : (s u : Bool) → list_any (comes_about_at b t) ready ≡ s → list_any (comes_about_by b t) b.cells ≡ u → s ≡ u
        by_tests true true one other = refl
        by_tests false false one other = refl
        by_tests true false one other = absurd (let is = from_keys ready one in cc)
        by_tests false true one other = absurd (let is = from_cells b.cells all_kept other in cc)
