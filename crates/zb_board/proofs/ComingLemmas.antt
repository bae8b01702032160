-- Tokens that rest go on resting, and those that don't go on being kept.
use Rattle.std.proofs.Common.{◌≡◌, ℕ, zero, suc, ◌+◌, ◌≤◌, ◌==◌, List, [], ◌∷◌, ◌++◌, filter, All, get_or, slice_set, remove, Bool, true, false, not, ◌&&◌, ◌||◌, cond, is_some, Option, Some, None, option_map, option_and_then, refl, sym, ap, ◌∙◌, subst, arith}
use Rattle.std.specs.List.{find, list_any, list_all}
use Rattle.std.specs.Option.{option_map_or, option_or}
use Rattle.std.proofs.lemmas.Bool.{and_parts}
use Rattle.std.proofs.lemmas.Bool.Decides.{nat_tests}
use Rattle.std.proofs.lemmas.List.Elements.{All-head, All-tail}
use Rattle.std.proofs.lemmas.List.Folds.{find-append}
use Rattle.zb_process.specs.declared.model.Model.{Model}
use Rattle.zb_table.specs.Rows.{Ascend, row_at, without}
use Rattle.zb_table.proofs.Ascending.{finds_more}
use Rattle.zb_groups.specs.declared.held.Held.{Held}
use Rattle.zb_groups.proofs.RowLemmas.{each_found}
use Rattle.zb_tokens.proofs.GameLaws.{found_holds}
use Rattle.zb_tokens.specs.declared.board.Cell.{Cell}
use Rattle.zb_tokens.specs.declared.board.Token.{Token}
use Rattle.zb_tokens.specs.declared.board.Spot.{Spot}
use Rattle.zb_tokens.specs.Edits.{is_none_of}
use Rattle.zb_tokens.specs.Board.{Board, cell_at, is_spot, model_under, node_with}
use Rattle.zb_tokens.specs.MoveEnter.{stands_at, has_come, arrives, spots_of}
use Rattle.zb_tokens.specs.Doom.{is_called_off}
use Rattle.zb_tokens.specs.Forced.{entry_at, can_enter}
use Rattle.zb_pairs.specs.Pairs.{is_number}
use Rattle.zb_places.specs.Places.{held_tokens, comes_in, counts_for, first_there, IsFewer, IsFirst, IsTokenTaken}
use Rattle.zb_places.proofs.HeldLemmas.{number_in, any_number, any_row, none_passing, own_number, tokens_more}
use Rattle.zb_places.proofs.SpotLemmas.{same_spot}
use Rattle.zb_board.specs.Indexed.{stays_out, is_kept}
use Rattle.zb_board.specs.Searches.{scope_model}
use Rattle.zb_board.proofs.RestLemmas.{back}

-- tokens come to a node where they stood before
module _ (m : Model) (t : Token) (before after : List Token) (stood : (spot : Spot) → list_any (stands_at t.scope spot) after ≡ true → list_any (stands_at t.scope spot) before ≡ true) where
  each_by : (here now rest later : Bool) → (now ≡ true → here ≡ true) → (later ≡ true → rest ≡ true) → (now && later) ≡ true → (here && rest) ≡ true
  each_by here true rest true one more is = let h = one refl in let r = more refl in rw (h, r) refl
  each_by here true rest false one more is = absurd (cc)
  each_by here false rest later one more is = absurd (cc)

  on_each : (spots : List Spot) → list_all (λ spot. list_any (stands_at t.scope spot) after) spots ≡ true → list_all (λ spot. list_any (stands_at t.scope spot) before) spots ≡ true
  on_each [] is = refl
  on_each (spot ∷ spots) is = each_by (list_any (stands_at t.scope spot) before) (list_any (stands_at t.scope spot) after) (list_all (λ s. list_any (stands_at t.scope s) before) spots) (list_all (λ s. list_any (stands_at t.scope s) after) spots) (stood spot) (on_each spots) is

  with_all : (u later rest : Bool) → (later ≡ true → rest ≡ true) → (u && later) ≡ true → (u && rest) ≡ true
  with_all true later rest more is = more is
  with_all false later rest more is = absurd (cc)

  come_by : (way : Option (List ℕ × List ℕ)) → option_map_or (λ w. has_come m after t.scope w.0 w.1) way false ≡ true → option_map_or (λ w. has_come m before t.scope w.0 w.1) way false ≡ true
  come_by None is = absurd (cc)
  come_by (Some w) is =
      let spots = spots_of m w.0 w.1 in
      let now = list_all (λ spot. list_any (stands_at t.scope spot) after) spots in
      let was = list_all (λ spot. list_any (stands_at t.scope spot) before) spots in
      let some = not (is_none_of spots) in
      let comes = arrives m w.0 w.1 in
      with_all (is_some (node_with m w.0) && comes) (some && now) (some && was) (with_all some now was (on_each spots)) is

  pub came : comes_in m after t ≡ true → comes_in m before t ≡ true
  came is = come_by (entry_at m t.spot) is

unmet : (now before : Bool) → (now ≡ true → before ≡ true) → not before ≡ true → not now ≡ true
unmet true before more is = let b = more refl in absurd (cc)
unmet false before more is = refl

-- a token that rests goes on resting where its cell and its model stay, and no more tokens have come
module _ (b b' : Board) (t : Token) (cells : (c : Cell) → cell_at b t.scope ≡ Some c → (c' : Cell) × (cell_at b' t.scope ≡ Some c') × (c'.definition ≡ c.definition))
    (models : (key : ℕ) (m : Model) → model_under b key ≡ Some m → model_under b' key ≡ Some m) (came_before : (m : Model) → comes_in m b'.tokens t ≡ true → comes_in m b.tokens t ≡ true) where
  by_model : (c : Cell) (found : Option Model) → cell_at b t.scope ≡ Some c → model_under b c.definition ≡ found → option_map_or (λ m. not (comes_in m b.tokens t)) found false ≡ true → stays_out b' t ≡ true
  by_model c None at under is = absurd (cc)
  by_model c (Some m) at under is =
      let r = cells c at in
      let cell = r.1 in
      let model : model_under b' r.0.definition ≡ Some m = ap (model_under b') r.2 ∙ models c.definition m under in
      rw (cell, model) (unmet (comes_in m b'.tokens t) (comes_in m b.tokens t) (came_before m) is)

  by_cell : (found : Option Cell) → cell_at b t.scope ≡ found → option_map_or (λ c. option_map_or (λ m. not (comes_in m b.tokens t)) (model_under b c.definition) false) found false ≡ true → stays_out b' t ≡ true
  by_cell None at is = absurd (cc)
  by_cell (Some c) at is = by_model c (model_under b c.definition) at refl is

  pub out_on : stays_out b t ≡ true → stays_out b' t ≡ true
  out_on is = by_cell (cell_at b t.scope) refl is

-- one row
one_row : {A : Type 0} (x y : A) → Some x ≡ Some y → x ≡ y
one_row x y is = cc

-- tokens in one scope at one spot are the same
pub same_place : (x y : Token) → stands_at y.scope y.spot x ≡ true → x ≡ y
same_place x y is =
    let both = and_parts (x.scope == y.scope) (is_spot x.spot y.spot) is in
    let scope : x.scope ≡ y.scope = grind (arith, nat_tests, both.0) in
    let spot : x.spot ≡ y.spot = same_spot x.spot y.spot both.1 in
    ap (λ (s : ℕ). record x { scope = s }) scope ∙ ap (λ (s : Spot). record y { spot = s }) spot

-- what is found among some was kept among them
found_stays : {A : Type 0} (p stays : A → Bool) (xs : List A) (x : A) → find p (filter stays xs) ≡ Some x → stays x ≡ true
found_stays p stays [] x is = absurd (cc)
found_stays p stays (y ∷ xs) x is = by_test (stays y) (p y) refl (found_stays p stays xs x) is
  where
    by_test : (t u : Bool) → stays y ≡ t → (find p (filter stays xs) ≡ Some x → stays x ≡ true) → find p (cond t (y ∷ filter stays xs) (filter stays xs)) ≡ Some x → stays x ≡ true
    by_test true u it later is = by_first (p y) is
      where
        by_first : (v : Bool) → cond v (Some y) (find p (filter stays xs)) ≡ Some x → stays x ≡ true
        by_first true is = let same = one_row y x is in sym (ap stays same) ∙ it
        by_first false is = later is
    by_test false u it later is = later is

-- the first that passes is that of all where none of those that go passes
found_among : {A : Type 0} (p stays : A → Bool) (xs : List A) → All (λ x. stays x ≡ false → p x ≡ false) xs → find p (filter stays xs) ≡ find p xs
found_among p stays [] out = refl
found_among {A} p stays (x ∷ xs) out = by_test (stays x) refl (found_among p stays xs (All-tail (λ y. stays y ≡ false → p y ≡ false) x xs out))
  where
    by_test : (t : Bool) → stays x ≡ t → find p (filter stays xs) ≡ find p xs → find p (cond t (x ∷ filter stays xs) (filter stays xs)) ≡ cond (p x) (Some x) (find p xs)
    by_test true it later = ap (λ (o : Option A). cond (p x) (Some x) o) later
    by_test false gone later = let fails : p x ≡ false = All-head (λ y. stays y ≡ false → p y ≡ false) x xs out gone in rw fails later

-- a token that is the first at its spot is among the coming ones unless it rests
abbrev pub IsAwaited : Board → List (Held Token) → List ℕ → Type 0
IsAwaited b rows coming = (h : Held Token) → IsFirst rows h → stays_out b h.row ≡ false → is_kept coming h.number ≡ true

-- and so it is where those that rest go on resting
awaited_on : (b b' : Board) (coming : List ℕ) (rows : List (Held Token)) → ((h : Held Token) → IsFirst rows h → stays_out b h.row ≡ true → stays_out b' h.row ≡ true) → IsAwaited b rows coming → IsAwaited b' rows coming
awaited_on b b' coming rows rests awaited h first moves = awaited h first (back (stays_out b h.row) (stays_out b' h.row) (rests h first) moves)

-- where a cell stays as it is
same_cell : (c : Cell) (found : Option Cell) → found ≡ Some c → (c' : Cell) × (found ≡ Some c') × (c'.definition ≡ c.definition)
same_cell c found is = (c, is, refl)

-- models that are there stay
pub awaited_model : (b b' : Board) (coming : List ℕ) (rows : List (Held Token)) → b'.cells ≡ b.cells → b'.tokens ≡ b.tokens → ((key : ℕ) (m : Model) → model_under b key ≡ Some m → model_under b' key ≡ Some m)
    → IsAwaited b rows coming → IsAwaited b' rows coming
awaited_model b b' coming rows cells tokens models =
    awaited_on b b' coming rows (λ h first. out_on b b' h.row (λ c at. same_cell c (cell_at b' h.row.scope) (ap (λ (cs : List Cell). find (λ x. x.key == h.row.scope) cs) cells ∙ at)) models (λ m is. ap (λ (ts : List Token). comes_in m ts h.row) (sym tokens) ∙ is))

-- a cell more
pub awaited_cell : (b : Board) (new : Cell) (coming : List ℕ) (rows : List (Held Token)) → IsAwaited b rows coming → IsAwaited (record b { cells = b.cells ++ new ∷ [] }) rows coming
awaited_cell b new coming rows =
    let after : Board = record b { cells = b.cells ++ new ∷ [] } in
    awaited_on b after coming rows (λ h first. out_on b after h.row (λ c at. same_cell c (cell_at after h.row.scope) (finds_more (λ (x : Cell). x.key) (λ (x : Cell). x.key == h.row.scope) b.cells (new ∷ []) c at)) (λ key m is. is) (λ m is. is))

-- a cell is found, with the same definition, where another one is put in the place of one with its key and its definition
module _ (key : ℕ) (new old : Cell) (same_key : new.key ≡ old.key) (same_definition : new.definition ≡ old.definition) where
  set_by : (u v : Bool) (cells : List Cell) (c : Cell) → u ≡ v → cond v (Some old) (find (λ x. x.key == key) cells) ≡ Some c → (c' : Cell) × (cond u (Some new) (find (λ x. x.key == key) cells) ≡ Some c') × (c'.definition ≡ c.definition)
  set_by u true cells c same is =
      let one : old ≡ c = cc in
      (new, rw same refl, same_definition ∙ ap (λ (x : Cell). x.definition) one)
  set_by u false cells c same is = (c, rw same is, refl)

  later_by : (u : Bool) (x : Cell) (cells cells' : List Cell) (c : Cell) → (find (λ y. y.key == key) cells ≡ Some c → (c' : Cell) × (find (λ y. y.key == key) cells' ≡ Some c') × (c'.definition ≡ c.definition))
      → cond u (Some x) (find (λ y. y.key == key) cells) ≡ Some c → (c' : Cell) × (cond u (Some x) (find (λ y. y.key == key) cells') ≡ Some c') × (c'.definition ≡ c.definition)
  later_by true x cells cells' c later is = (c, is, refl)
  later_by false x cells cells' c later is = later is

  found_set : (cells : List Cell) (i : ℕ) (c : Cell) → old ≡ get_or cells i old → find (λ x. x.key == key) cells ≡ Some c → (c' : Cell) × (find (λ x. x.key == key) (slice_set cells i new) ≡ Some c') × (c'.definition ≡ c.definition)
  found_set [] i c at is = absurd (cc)
  found_set (x ∷ cells) zero c at is =
      set_by (new.key == key) (old.key == key) cells c (ap (λ (k : ℕ). k == key) same_key) (subst (λ (y : Cell). cond (y.key == key) (Some y) (find (λ z. z.key == key) cells) ≡ Some c) (sym at) is)
  found_set (x ∷ cells) (suc i) c at is = later_by (x.key == key) x cells (slice_set cells i new) c (found_set cells i c at) is

-- a cell changed
pub awaited_set : (b : Board) (i : ℕ) (old new : Cell) (coming : List ℕ) (rows : List (Held Token)) → old ≡ get_or b.cells i old → new.key ≡ old.key → new.definition ≡ old.definition
    → IsAwaited b rows coming → IsAwaited (record b { cells = slice_set b.cells i new }) rows coming
awaited_set b i old new coming rows at key definition =
    let after : Board = record b { cells = slice_set b.cells i new } in
    awaited_on b after coming rows (λ h first. out_on b after h.row (λ c is. found_set h.row.scope new old key definition b.cells i c at is) (λ k m is. is) (λ m is. is))

-- a cell goes, and another one is found still
gone_by : (p : Cell → Bool) (t : Bool) (x : Cell) (cells cells' : List Cell) (c : Cell) → (find p cells ≡ Some c → find p cells' ≡ Some c) → cond t (Some x) (find p cells) ≡ Some c → cond t (Some x) (find p cells') ≡ Some c
gone_by p true x cells cells' c later is = is
gone_by p false x cells cells' c later is = later is

found_away : (p : Cell → Bool) (cells : List Cell) (i : ℕ) (old c : Cell) → old ≡ get_or cells i old → p old ≡ false → find p cells ≡ Some c → find p (remove cells i) ≡ Some c
found_away p [] zero old c at out is = is
found_away p [] (suc i) old c at out is = is
found_away p (x ∷ cells) zero old c at out is = let out' : p x ≡ false = sym (ap p at) ∙ out in rw out' at is
found_away p (x ∷ cells) (suc i) old c at out is = gone_by p (p x) x cells (remove cells i) c (found_away p cells i old c at out) is

turned : (a b : ℕ) → (a == b) ≡ false → (b == a) ≡ false
turned a b apart = grind (arith, nat_tests)

-- a cell fewer, where no token is in it
pub awaited_away : (b : Board) (i : ℕ) (old : Cell) (coming : List ℕ) (rows : List (Held Token)) → old ≡ get_or b.cells i old → All (λ (h : Held Token). (h.row.scope == old.key) ≡ false) rows
    → IsAwaited b rows coming → IsAwaited (record b { cells = remove b.cells i }) rows coming
awaited_away b i old coming rows at none =
    let after : Board = record b { cells = remove b.cells i } in
    awaited_on b after coming rows (λ h first.
    let apart = (found_holds (λ x. stands_at h.row.scope h.row.spot x.row) (λ x. (x.row.scope == old.key) ≡ false) rows h none first).0 in
    out_on b after h.row (λ c is. same_cell c (cell_at after h.row.scope) (found_away (λ (x : Cell). x.key == h.row.scope) b.cells i old c at (turned h.row.scope old.key apart) is)) (λ key m is. is) (λ m is. is))

-- tokens fewer
some_by : {A : Type 0} (p q : A → Bool) (t : Bool) (x : A) (xs : List A) → q x ≡ t → (list_any p (filter q xs) ≡ true → list_any p xs ≡ true) → list_any p (cond t (x ∷ filter q xs) (filter q xs)) ≡ true → (p x || list_any p xs) ≡ true
some_by p q true x xs it later is = by_here (p x) is
  where
    by_here : (u : Bool) → (u || list_any p (filter q xs)) ≡ true → (u || list_any p xs) ≡ true
    by_here true is = refl
    by_here false is = later is
some_by p q false x xs it later is = by_here (p x) (later is)
  where
    by_here : (u : Bool) → list_any p xs ≡ true → (u || list_any p xs) ≡ true
    by_here true is = refl
    by_here false is = is

some_more : {A : Type 0} (p q : A → Bool) (xs : List A) → list_any p (filter q xs) ≡ true → list_any p xs ≡ true
some_more p q [] is = is
some_more p q (x ∷ xs) is = some_by p q (q x) x xs refl (some_more p q xs) is

-- where tokens are fewer, those that rest go on resting
rests_fewer : (b : Board) (scope : ℕ) (rows left : List (Held Token)) (h : Held Token) → b.tokens ≡ held_tokens rows → IsFewer scope rows left → stays_out b h.row ≡ true → stays_out (record b { tokens = held_tokens left }) h.row ≡ true
rests_fewer b scope rows left h their fewer =
    let after : Board = record b { tokens = held_tokens left } in
    let stood : (spot : Spot) → list_any (stands_at h.row.scope spot) (held_tokens left) ≡ true → list_any (stands_at h.row.scope spot) b.tokens ≡ true = λ spot is.
    ap (list_any (stands_at h.row.scope spot)) their ∙ (any_row (stands_at h.row.scope spot) rows
    ∙ some_more (λ (x : Held Token). stands_at h.row.scope spot x.row) fewer.stays rows (ap (list_any (λ (x : Held Token). stands_at h.row.scope spot x.row)) (sym fewer.among) ∙ (sym (any_row (stands_at h.row.scope spot) left) ∙ is))) in
    out_on b after h.row (λ c is. same_cell c (cell_at b h.row.scope) is) (λ key m is. is) (λ m is. came m h.row b.tokens (held_tokens left) stood is)

-- the tokens of a scope gone
pub awaited_emptied : (b : Board) (coming : List ℕ) (scope : ℕ) (rows left : List (Held Token)) → b.tokens ≡ held_tokens rows → IsFewer scope rows left → left ≡ filter (λ h. not (h.row.scope == scope)) rows
    → IsAwaited b rows coming → IsAwaited (record b { tokens = held_tokens left }) left coming
awaited_emptied b coming scope rows left their fewer is awaited h first moves =
    awaited h before (back (stays_out b h.row) (stays_out (record b { tokens = held_tokens left }) h.row) (rests_fewer b scope rows left h their fewer) moves)
  where
    stays : Held Token → Bool
    stays x = not (x.row.scope == scope)

    among : first_there h.row.scope h.row.spot (filter stays rows) ≡ Some h
    among = ap (first_there h.row.scope h.row.spot) (sym is) ∙ first

    out : (x : Held Token) → stays x ≡ false → stands_at h.row.scope h.row.spot x.row ≡ false
    out x gone = by_test (stands_at h.row.scope h.row.spot x.row) refl
      where
        by_test : (t : Bool) → stands_at h.row.scope h.row.spot x.row ≡ t → stands_at h.row.scope h.row.spot x.row ≡ false
        by_test true there = absurd (let one = (and_parts (x.row.scope == h.row.scope) (is_spot x.row.spot h.row.spot) there).0 in let own = found_stays (λ x. stands_at h.row.scope h.row.spot x.row) stays rows h among in grind (arith, nat_tests, one, own, gone))
        by_test false apart = apart

    before : IsFirst rows h
    before = sym (found_among (λ x. stands_at h.row.scope h.row.spot x.row) stays rows (λ k d within gone. out (get_or rows k d) gone)) ∙ among

-- the first token at a spot gone
pub awaited_taken : (b : Board) (coming coming' : List ℕ) (scope : ℕ) (spot : Spot) (rows left : List (Held Token)) (gone : Option ℕ) → b.tokens ≡ held_tokens rows → IsTokenTaken scope spot rows gone left
    → ((n : ℕ) → option_map number_in (first_there scope spot left) ≡ Some n → is_kept coming' n ≡ true) → ((n : ℕ) → is_number n gone ≡ false → is_kept coming n ≡ true → is_kept coming' n ≡ true)
    → IsAwaited b rows coming → IsAwaited (record b { tokens = held_tokens left }) left coming'
awaited_taken b coming coming' scope spot rows left gone their took next still awaited h first moves = by_place (stands_at scope spot h.row) refl
  where
    moved : stays_out b h.row ≡ false
    moved = back (stays_out b h.row) (stays_out (record b { tokens = held_tokens left }) h.row) (rests_fewer b scope rows left h their took.fewer) moves

    at : List (Held Token) → Option (Held Token)
    at = first_there h.row.scope h.row.spot

    by_gone : (g : Option ℕ) → gone ≡ g → g ≡ option_map number_in (first_there scope spot rows) → left ≡ option_map_or (λ n. without number_in n rows) g rows → stands_at scope spot h.row ≡ false → is_kept coming' h.number ≡ true
    by_gone None none found others apart = still h.number (ap (is_number h.number) none) (awaited h (ap at (sym others) ∙ first) moved)
    by_gone (Some n) one found others apart = by_found (first_there scope spot rows) refl found
      where
        among : at (without number_in n rows) ≡ Some h
        among = ap at (sym others) ∙ first

        other : (h.number == n) ≡ false
        other = unless (h.number == n) (found_stays (λ x. stands_at h.row.scope h.row.spot x.row) (λ x. not (x.number == n)) rows h among)
          where
            unless : (t : Bool) → not t ≡ true → t ≡ false
            unless true is = absurd (cc)
            unless false is = refl

        by_found : (t : Option (Held Token)) → first_there scope spot rows ≡ t → Some n ≡ option_map number_in t → is_kept coming' h.number ≡ true
        by_found None none is = absurd (cc)
        by_found (Some t) there is = still h.number (ap (is_number h.number) one ∙ turned h.number n other) (awaited h (sym (found_among (λ x. stands_at h.row.scope h.row.spot x.row) (λ x. not (x.number == n)) rows out) ∙ among) moved)
          where
            own : (row_at number_in t.number rows ≡ Some t) × (stands_at scope spot t.row ≡ true)
            own = own_number (λ x. stands_at scope spot x.row) rows t took.ascend there

            -- the one that goes isn't at the spot
            away : stands_at h.row.scope h.row.spot t.row ≡ false
            away = by_test (stands_at h.row.scope h.row.spot t.row) refl
              where
                by_test : (u : Bool) → stands_at h.row.scope h.row.spot t.row ≡ u → stands_at h.row.scope h.row.spot t.row ≡ false
                by_test true is =
                    absurd (let same : t.row ≡ h.row = same_place t.row h.row is in
                    let here : stands_at scope spot h.row ≡ true = sym (ap (stands_at scope spot) same) ∙ own.1 in cc)
                by_test false is = is

            out : All (λ (x : Held Token). not (x.number == n) ≡ false → stands_at h.row.scope h.row.spot x.row ≡ false) rows
            out = λ k d within gone.
                let x = get_or rows k d in
                let number : x.number ≡ n = grind (arith, nat_tests, gone) in
                let its : t.number ≡ n = cc in
                let found : row_at number_in n rows ≡ Some x = sym (ap (λ (m : ℕ). row_at number_in m rows) number) ∙ each_found number_in 0 rows took.ascend k d within in
                let taken : row_at number_in n rows ≡ Some t = sym (ap (λ (m : ℕ). row_at number_in m rows) its) ∙ own.0 in
                let same : t ≡ x = one_row t x (sym taken ∙ found) in
                sym (ap (λ (y : Held Token). stands_at h.row.scope h.row.spot y.row) same) ∙ away

    by_place : (t : Bool) → stands_at scope spot h.row ≡ t → is_kept coming' h.number ≡ true
    by_place true here =
        let both = and_parts (h.row.scope == scope) (is_spot h.row.spot spot) here in
        let one : h.row.scope ≡ scope = grind (arith, nat_tests, both.0) in
        let place : h.row.spot ≡ spot = same_spot h.row.spot spot both.1 in
        next h.number (ap (option_map number_in) (sym (ap (λ (s : ℕ). first_there s h.row.spot left) one ∙ ap (λ (s : Spot). first_there scope s left) place) ∙ first))
    by_place false apart = by_gone gone refl took.found took.others apart

-- a token more
some_before : (p : Token → Bool) (t : Token) (ts : List Token) → p t ≡ false → list_any p (ts ++ t ∷ []) ≡ true → list_any p ts ≡ true
some_before p t [] out is = absurd (cc)
some_before p t (x ∷ ts) out is = by_here (p x) (some_before p t ts out) is
  where
    by_here : (u : Bool) → (list_any p (ts ++ t ∷ []) ≡ true → list_any p ts ≡ true) → (u || list_any p (ts ++ t ∷ [])) ≡ true → (u || list_any p ts) ≡ true
    by_here true later is = refl
    by_here false later is = later is

pub kept_left : (keys : List ℕ) (last n : ℕ) → is_kept keys n ≡ true → is_kept (keys ++ last ∷ []) n ≡ true
kept_left [] last n is = absurd (cc)
kept_left (k ∷ keys) last n is = by_here (k == n) is (kept_left keys last n)
  where
    by_here : (u : Bool) → (u || is_kept keys n) ≡ true → (is_kept keys n ≡ true → is_kept (keys ++ last ∷ []) n ≡ true) → (u || is_kept (keys ++ last ∷ []) n) ≡ true
    by_here true is later = refl
    by_here false is later = later is

pub kept_last : (keys : List ℕ) (n : ℕ) → is_kept (keys ++ n ∷ []) n ≡ true
kept_last [] n = let same : (n == n) ≡ true = grind (arith, nat_tests) in rw same refl
kept_last (k ∷ keys) n = by_here (k == n) (kept_last keys n)
  where
    by_here : (u : Bool) → is_kept (keys ++ n ∷ []) n ≡ true → (u || is_kept (keys ++ n ∷ []) n) ≡ true
    by_here true is = refl
    by_here false is = is

-- one of some keys with one behind them is among them, or is that one
pub kept_or : {G : Type 0} (keys : List ℕ) (last n : ℕ) → is_kept (keys ++ last ∷ []) n ≡ true → (is_kept keys n ≡ true → G) → (last ≡ n → G) → G
kept_or [] last n is before at = at (grind (arith, nat_tests))
kept_or (k ∷ keys) last n is before at = by_here (k == n) is before (λ later before. kept_or keys last n later before at)
  where
    by_here : {G : Type 0} (u : Bool) → (u || is_kept (keys ++ last ∷ []) n) ≡ true → ((u || is_kept keys n) ≡ true → G) → (is_kept (keys ++ last ∷ []) n ≡ true → (is_kept keys n ≡ true → G) → G) → G
    by_here true is before later = before refl
    by_here false is before later = later is before

-- as many tokens are at a spot with one more that isn't there
any_same : (p : Token → Bool) (t : Token) (ts : List Token) → p t ≡ false → list_any p (ts ++ t ∷ []) ≡ list_any p ts
any_same p t [] out = rw out refl
any_same p t (x ∷ ts) out = ap (λ (u : Bool). p x || u) (any_same p t ts out)

nowhere_at : (s : Bool) → (s && false) ≡ false
nowhere_at true = refl
nowhere_at false = refl

module _ (new : Token) (ts : List Token) where
  each_same : (scope : ℕ) (spots : List Spot) → list_any (is_spot new.spot) spots ≡ false
      → list_all (λ spot. list_any (stands_at scope spot) (ts ++ new ∷ [])) spots ≡ list_all (λ spot. list_any (stands_at scope spot) ts) spots
  each_same scope [] out = refl
  each_same scope (spot ∷ spots) out = by_first (is_spot new.spot spot) refl out (each_same scope spots)
    where
      by_first : (t : Bool) → is_spot new.spot spot ≡ t → (t || list_any (is_spot new.spot) spots) ≡ false
          → (list_any (is_spot new.spot) spots ≡ false → list_all (λ s. list_any (stands_at scope s) (ts ++ new ∷ [])) spots ≡ list_all (λ s. list_any (stands_at scope s) ts) spots)
          → (list_any (stands_at scope spot) (ts ++ new ∷ []) && list_all (λ s. list_any (stands_at scope s) (ts ++ new ∷ [])) spots) ≡ (list_any (stands_at scope spot) ts && list_all (λ s. list_any (stands_at scope s) ts) spots)
      by_first true is out later = absurd (cc)
      by_first false is out later =
          let apart : stands_at scope spot new ≡ false = ap (λ (u : Bool). (new.scope == scope) && u) is ∙ nowhere_at (new.scope == scope) in
          let here = any_same (stands_at scope spot) new ts apart in
          ap (λ (u : Bool). u && list_all (λ s. list_any (stands_at scope s) (ts ++ new ∷ [])) spots) here ∙ ap (λ (u : Bool). list_any (stands_at scope spot) ts && u) (later out)

  -- a token that doesn't need the new one comes where it came
  comes_same : (m : Model) (x : Token) → counts_for m new.spot x ≡ false → comes_in m (ts ++ new ∷ []) x ≡ comes_in m ts x
  comes_same m x out = by_way (entry_at m x.spot) out
    where
      by_way : (way : Option (List ℕ × List ℕ)) → option_map_or (λ w. list_any (is_spot new.spot) (spots_of m w.0 w.1)) way false ≡ false
          → option_map_or (λ w. has_come m (ts ++ new ∷ []) x.scope w.0 w.1) way false ≡ option_map_or (λ w. has_come m ts x.scope w.0 w.1) way false
      by_way None out = refl
      by_way (Some w) out = ap (λ (u : Bool). is_some (node_with m w.0) && arrives m w.0 w.1 && (not (is_none_of (spots_of m w.0 w.1)) && u)) (each_same x.scope (spots_of m w.0 w.1) out)

-- a token is_resting by the model of its scope
out_by_model : (b : Board) (t : Token) → stays_out b t ≡ option_map_or (λ m. not (comes_in m b.tokens t)) (scope_model b t.scope) false
out_by_model b t = by_cell_there (cell_at b t.scope)
  where
    by_cell_there : (found : Option Cell) → option_map_or (λ c. option_map_or (λ m. not (comes_in m b.tokens t)) (model_under b c.definition) false) found false
        ≡ option_map_or (λ m. not (comes_in m b.tokens t)) (option_and_then (λ (c : Cell). model_under b c.definition) found) false
    by_cell_there None = refl
    by_cell_there (Some c) = refl

-- the last row is the one with its number
above_low : (low : ℕ) (rows : List (Held Token)) (new : Held Token) → Ascend number_in low (rows ++ new ∷ []) → low ≤ new.number
above_low low [] new up = up.0
above_low low (x ∷ rows) new up = let above = above_low (x.number + 1) rows new up.1 in omega (arith, above, up.0)

pub last_found : (low : ℕ) (rows : List (Held Token)) (new : Held Token) → Ascend number_in low (rows ++ new ∷ []) → row_at number_in new.number (rows ++ new ∷ []) ≡ Some new
last_found low [] new up = let same : (new.number == new.number) ≡ true = grind (arith, nat_tests) in rw same refl
last_found low (x ∷ rows) new up =
    let above = above_low (x.number + 1) rows new up.1 in
    let other : (x.number == new.number) ≡ false = grind (arith, nat_tests, above) in
    rw other (last_found (x.number + 1) rows new up.1)

-- a token more
module _ (b : Board) (new : Held Token) (coming coming' : List ℕ) (rows : List (Held Token)) (their : b.tokens ≡ held_tokens rows) where
  abbrev after : Board
  after = record b { tokens = held_tokens (rows ++ new ∷ []) }

  -- what is first with it was first before, or is it
  first_or : {G : Type 0} (h : Held Token) → IsFirst (rows ++ new ∷ []) h → (IsFirst rows h → G) → (new ≡ h → first_there new.row.scope new.row.spot rows ≡ None → G) → G
  first_or {G} h first was is = by_found (first_there h.row.scope h.row.spot rows) refl (sym (find-append (λ x. stands_at h.row.scope h.row.spot x.row) rows (new ∷ [])) ∙ first)
    where
      by_new : (t : Bool) → first_there h.row.scope h.row.spot rows ≡ None → cond t (Some new) None ≡ Some h → G
      by_new true none at =
          let same : new ≡ h = one_row new h at in
          is same (ap (λ (x : Held Token). first_there x.row.scope x.row.spot rows) same ∙ none)
      by_new false none at = absurd (cc)

      by_found : (found : Option (Held Token)) → first_there h.row.scope h.row.spot rows ≡ found → option_or found (cond (stands_at h.row.scope h.row.spot new.row) (Some new) None) ≡ Some h → G
      by_found None none at = by_new (stands_at h.row.scope h.row.spot new.row) none at
      by_found (Some x) there at = was (there ∙ at)

  -- behind one at its spot nothing changes
  pub awaited_behind : list_any (stands_at new.row.scope new.row.spot) b.tokens ≡ true → IsAwaited b rows coming → IsAwaited after (rows ++ new ∷ []) coming
  awaited_behind there awaited h first moves =
      first_or h first
      (λ was. awaited h was (back (stays_out b h.row) (stays_out after h.row) (out_on b after h.row (λ c is. same_cell c (cell_at b h.row.scope) is) (λ key m is. is) (λ m is. came m h.row b.tokens (held_tokens (rows ++ new ∷ [])) (λ spot is. stood spot (sym (ap (list_any (stands_at h.row.scope spot)) (tokens_more rows new)) ∙ is)) is)) moves))
      (λ is none. absurd (let some = sym (ap (list_any (stands_at new.row.scope new.row.spot)) their ∙ any_number (stands_at new.row.scope new.row.spot) rows) ∙ there in let no = ap (λ o. is_some (option_map number_in o)) none in cc))
    where
      stood : (spot : Spot) → list_any (stands_at h.row.scope spot) (held_tokens rows ++ new.row ∷ []) ≡ true → list_any (stands_at h.row.scope spot) b.tokens ≡ true
      stood spot is = by_test (stands_at h.row.scope spot new.row) refl
        where
          by_test : (t : Bool) → stands_at h.row.scope spot new.row ≡ t → list_any (stands_at h.row.scope spot) b.tokens ≡ true
          by_test true here =
              let both = and_parts (new.row.scope == h.row.scope) (is_spot new.row.spot spot) here in
              let one : new.row.scope ≡ h.row.scope = grind (arith, nat_tests, both.0) in
              let place : new.row.spot ≡ spot = same_spot new.row.spot spot both.1 in
              sym (ap (λ (s : ℕ). list_any (stands_at s new.row.spot) b.tokens) one ∙ ap (λ (s : Spot). list_any (stands_at h.row.scope s) b.tokens) place) ∙ there
          by_test false apart = ap (list_any (stands_at h.row.scope spot)) their ∙ some_before (stands_at h.row.scope spot) new.row (held_tokens rows) apart is

  -- in another scope nothing changes
  elsewhere : (x : Held Token) (spot : Spot) → (x.row.scope == new.row.scope) ≡ false → list_any (stands_at x.row.scope spot) (held_tokens (rows ++ new ∷ [])) ≡ true → list_any (stands_at x.row.scope spot) b.tokens ≡ true
  elsewhere x spot apart is =
      let other : (new.row.scope == x.row.scope) ≡ false = turned x.row.scope new.row.scope apart in
      let out : stands_at x.row.scope spot new.row ≡ false = rw other refl in
      ap (list_any (stands_at x.row.scope spot)) their ∙ some_before (stands_at x.row.scope spot) new.row (held_tokens rows) out (ap (list_any (stands_at x.row.scope spot)) (sym (tokens_more rows new)) ∙ is)

  module _ (still : (k : ℕ) → is_kept coming k ≡ true → is_kept coming' k ≡ true) where
    -- in its scope
    by_scope_model : (x : Held Token) (found : Option Model) → ((m : Model) → found ≡ Some m → counts_for m new.row.spot x.row ≡ true → comes_in m after.tokens x.row ≡ true → is_kept coming' x.number ≡ true)
        → (option_map_or (λ m. not (comes_in m b.tokens x.row)) found false ≡ false → is_kept coming x.number ≡ true)
        → option_map_or (λ m. not (comes_in m after.tokens x.row)) found false ≡ false → is_kept coming' x.number ≡ true
    by_scope_model x None met awaited moves = still x.number (awaited refl)
    by_scope_model x (Some m) met awaited moves = by_count (counts_for m new.row.spot x.row) refl
      where
        comes : (t : Bool) → not t ≡ false → t ≡ true
        comes true is = refl
        comes false is = absurd (cc)

        by_count : (t : Bool) → counts_for m new.row.spot x.row ≡ t → is_kept coming' x.number ≡ true
        by_count true is = met m refl is (comes (comes_in m after.tokens x.row) moves)
        by_count false is =
            let same : comes_in m (held_tokens (rows ++ new ∷ [])) x.row ≡ comes_in m b.tokens x.row =
            ap (λ (ts : List Token). comes_in m ts x.row) (tokens_more rows new) ∙ (comes_same new.row (held_tokens rows) m x.row is ∙ ap (λ (ts : List Token). comes_in m ts x.row) (sym their)) in
            still x.number (awaited (sym (ap not same) ∙ moves))

    -- the first at its spot is among the coming ones, and what it meets
    pub awaited_first : list_any (stands_at new.row.scope new.row.spot) b.tokens ≡ false → is_kept coming' new.number ≡ true
        → ((m : Model) (h : Held Token) → scope_model b new.row.scope ≡ Some m → IsFirst (rows ++ new ∷ []) h → h.row.scope ≡ new.row.scope → is_spot h.row.spot new.row.spot ≡ false → counts_for m new.row.spot h.row ≡ true
        → comes_in m (held_tokens (rows ++ new ∷ [])) h.row ≡ true → is_kept coming' h.number ≡ true)
        → IsAwaited b rows coming → IsAwaited after (rows ++ new ∷ []) coming'
    awaited_first none own met awaited h first moves = first_or h first (λ was. by_scope was (h.row.scope == new.row.scope) refl) (λ is here. subst (λ (x : Held Token). is_kept coming' x.number ≡ true) is own)
      where
        apart : IsFirst rows h → stands_at new.row.scope new.row.spot h.row ≡ false
        apart was = (found_holds (λ x. stands_at h.row.scope h.row.spot x.row) (λ x. stands_at new.row.scope new.row.spot x.row ≡ false) rows h
            (none_passing (λ x. stands_at new.row.scope new.row.spot x.row) rows (sym (ap (list_any (stands_at new.row.scope new.row.spot)) their ∙ any_row (stands_at new.row.scope new.row.spot) rows) ∙ none)) was).0

        by_scope : IsFirst rows h → (t : Bool) → (h.row.scope == new.row.scope) ≡ t → is_kept coming' h.number ≡ true
        by_scope was true its =
            let scope : h.row.scope ≡ new.row.scope = grind (arith, nat_tests, its) in
            let off : is_spot h.row.spot new.row.spot ≡ false = rw its at (apart was) in
            by_scope_model h (scope_model b h.row.scope)
            (λ m found counts comes. met m h (sym (ap (scope_model b) scope) ∙ found) first scope off counts comes)
            (λ before. awaited h was (out_by_model b h.row ∙ before))
            (sym (out_by_model after h.row) ∙ moves)
        by_scope was false other =
            still h.number (awaited h was (back (stays_out b h.row) (stays_out after h.row)
            (out_on b after h.row (λ c is. same_cell c (cell_at b h.row.scope) is) (λ key m is. is) (λ m is. came m h.row b.tokens (held_tokens (rows ++ new ∷ [])) (λ spot there. elsewhere h spot other there) is)) moves))

-- a token that was looked at
pub awaited_looked : (b : Board) (coming coming' : List ℕ) (number : ℕ) (rows : List (Held Token)) → option_map_or (λ h. stays_out b h.row) (row_at number_in number rows) true ≡ true
    → ((k : ℕ) → (k == number) ≡ false → is_kept coming k ≡ true → is_kept coming' k ≡ true) → Ascend number_in 0 rows → IsAwaited b rows coming → IsAwaited b rows coming'
awaited_looked b coming coming' number rows rests still up awaited h first moves = by_number (h.number == number) refl
  where
    by_number : (t : Bool) → (h.number == number) ≡ t → is_kept coming' h.number ≡ true
    by_number true its =
        let same : h.number ≡ number = grind (arith, nat_tests, its) in
        let found = (own_number (λ x. stands_at h.row.scope h.row.spot x.row) rows h up first).0 in
        let there : row_at number_in number rows ≡ Some h = sym (ap (λ (n : ℕ). row_at number_in n rows) same) ∙ found in
        let out : stays_out b h.row ≡ true = sym (ap (λ (o : Option (Held Token)). option_map_or (λ x. stays_out b x.row) o true) there) ∙ rests in
        absurd (let wrong : false ≡ true = sym moves ∙ out in cc)
    by_number false other = still h.number other (awaited h first moves)

-- what is asked of the token with a number
pub rests_at : (b : Board) (found : Option (Held Token)) (t : Token) → Some t ≡ option_map (λ (h : Held Token). h.row) found → stays_out b t ≡ true → option_map_or (λ h. stays_out b h.row) found true ≡ true
rests_at b None t is rests = absurd (cc)
rests_at b (Some h) t is rests = let same : h.row ≡ t = cc in ap (stays_out b) same ∙ rests

pub rests_nowhere : (b : Board) (found : Option (Held Token)) → None ≡ option_map (λ (h : Held Token). h.row) found → option_map_or (λ h. stays_out b h.row) found true ≡ true
rests_nowhere b None is = refl
rests_nowhere b (Some h) is = absurd (cc)

-- a token that can enter doesn't rest
module _ (b : Board) (t : Token) where
  enters_by_way : (called : Bool) (m : Model) (way : Option (List ℕ × List ℕ)) → option_map_or (λ w. not called && has_come m b.tokens t.scope w.0 w.1) way false ≡ true → option_map_or (λ w. has_come m b.tokens t.scope w.0 w.1) way false ≡ true
  enters_by_way called m None is = absurd (cc)
  enters_by_way called m (Some w) is = (and_parts (not called) (has_come m b.tokens t.scope w.0 w.1) is).1

  enters_by_model : (c : Cell) (found : Option Model) → cell_at b t.scope ≡ Some c → model_under b c.definition ≡ found → can_enter b t ≡ true → option_map_or (λ m. not (comes_in m b.tokens t)) found false ≡ false
  enters_by_model c None cell model is = refl
  enters_by_model c (Some m) cell model is =
      let enters = rw (cell, model) at is in
      ap not (enters_by_way (is_called_off b t.scope) m (entry_at m t.spot) enters)

  enters_by_cell : (found : Option Cell) → cell_at b t.scope ≡ found → can_enter b t ≡ true → option_map_or (λ c. option_map_or (λ m. not (comes_in m b.tokens t)) (model_under b c.definition) false) found false ≡ false
  enters_by_cell None cell is = refl
  enters_by_cell (Some c) cell is = enters_by_model c (model_under b c.definition) cell refl is

  pub enters_moves : can_enter b t ≡ true → stays_out b t ≡ false
  enters_moves is = enters_by_cell (cell_at b t.scope) refl is
