-- Cells in which others, or tokens, may be. What holds of the cell with a key is kept by edits.
use Rattle.std.proofs.Common.{◌≡◌, ℕ, ◌==◌, List, [], ◌∷◌, ◌++◌, filter, Bool, true, false, ◌&&◌, ◌||◌, not, if◌then◌else◌, IsTrue, Option, Some, None, option_map, refl, sym, ap, ◌∙◌, subst, arith}
use Rattle.std.specs.Option.{option_map_or, option_or}
use Rattle.std.specs.List.{find}
use Rattle.std.proofs.lemmas.Bool.{and_from, and_right, or_left}
use Rattle.std.proofs.lemmas.Bool.Decides.{nat_tests}
use Rattle.std.proofs.lemmas.List.Folds.{find-append}
use Rattle.zb_process.specs.declared.model.Model.{Model}
use Rattle.zb_tokens.specs.declared.board.Cell.{Cell}
use Rattle.zb_tokens.specs.declared.board.Deployed.{Deployed}
use Rattle.zb_tokens.specs.declared.board.Mark.TheVariants as marks
use Rattle.zb_tokens.specs.declared.board.Phase.{Phase}
use Rattle.zb_tokens.specs.declared.board.Phase.TheVariants as phases
use Rattle.zb_tokens.specs.Edits.{edited, removed}
use Rattle.zb_tokens.specs.Board.{Board, cell_at, model_under, is_body, is_phase, undoes, holds_cells, holds_tokens, leaves_in}
use Rattle.zb_tokens.proofs.GameLaws.{both_left, both_right, holds_some, found_through}
use Rattle.zb_rules.specs.Sound.{runs, holds_by, is_around}
use Rattle.zb_rules.proofs.MadeLaws.{is_keyed}
use Rattle.zb_rules.proofs.AppliedLaws.{some_of}
use Rattle.zb_rules.proofs.ModelsLaws.{among_more}

-- where the first member with a key is edited, those with others are found as before
module _ (key other : ℕ) (apart : (other == key) ≡ false) where
  not_both : (k : ℕ) → (k == key) ≡ true → (k == other) ≡ false
  not_both k same = let its : k ≡ key = grind (arith, nat_tests) in grind (arith, nat_tests)

  found_other : (x y : Cell) (xs ys : List Cell) → x.key ≡ y.key → find (is_keyed other) xs ≡ find (is_keyed other) ys
      → ((x.key == other) ≡ false) → find (is_keyed other) (x ∷ xs) ≡ find (is_keyed other) (y ∷ ys)
  found_other x y xs ys same later none = let same_none : (y.key == other) ≡ false = rw (← same) none in rw (none, same_none) later

  edited_by : (edit : Cell → Cell) (x : Cell) (xs after : List Cell) (t : Bool) (later : Option (List Cell)) → ((c : Cell) → (edit c).key ≡ c.key) → (x.key == key) ≡ t
      → ((rest : List Cell) → later ≡ Some rest → find (is_keyed other) rest ≡ find (is_keyed other) xs)
      → (if t then Some (edit x ∷ xs) else option_map (λ ys. x ∷ ys) later) ≡ Some after → find (is_keyed other) after ≡ find (is_keyed other) (x ∷ xs)
  edited_by edit x xs after true later keeps same behind made =
      let is : edit x ∷ xs ≡ after = cc in
      let none : ((edit x).key == other) ≡ false = rw (keeps x) (not_both x.key same) in
      subst (λ (cs : List Cell). find (is_keyed other) cs ≡ find (is_keyed other) (x ∷ xs)) is (found_other (edit x) x xs xs (keeps x) refl none)
  edited_by edit x xs after false None keeps differs behind made = absurd (cc)
  edited_by edit x xs after false (Some rest) keeps differs behind made =
      let is : x ∷ rest ≡ after = cc in
      let same : find (is_keyed other) (x ∷ rest) ≡ find (is_keyed other) (x ∷ xs) = rw (behind rest refl) refl in
      subst (λ (cs : List Cell). find (is_keyed other) cs ≡ find (is_keyed other) (x ∷ xs)) is same

  pub edited_other : (edit : Cell → Cell) (xs after : List Cell) → ((c : Cell) → (edit c).key ≡ c.key) → edited (is_keyed key) edit xs ≡ Some after → find (is_keyed other) after ≡ find (is_keyed other) xs
  edited_other edit [] after keeps made = absurd (cc)
  edited_other edit (x ∷ xs) after keeps made = edited_by edit x xs after (x.key == key) (edited (is_keyed key) edit xs) keeps refl (λ rest is. edited_other edit xs rest keeps is) made

  removed_by : (x : Cell) (xs after : List Cell) (t : Bool) (later : Option (List Cell)) → (x.key == key) ≡ t
      → ((rest : List Cell) → later ≡ Some rest → find (is_keyed other) rest ≡ find (is_keyed other) xs)
      → (if t then Some xs else option_map (λ ys. x ∷ ys) later) ≡ Some after → find (is_keyed other) after ≡ find (is_keyed other) (x ∷ xs)
  removed_by x xs after true later same behind made =
      let none = not_both x.key same in
      let here : find (is_keyed other) xs ≡ find (is_keyed other) (x ∷ xs) = rw none refl in
      subst (λ (cs : List Cell). find (is_keyed other) cs ≡ find (is_keyed other) (x ∷ xs)) (let is : xs ≡ after = cc in is) here
  removed_by x xs after false None differs behind made = absurd (cc)
  removed_by x xs after false (Some rest) differs behind made =
      let is : x ∷ rest ≡ after = cc in
      let same : find (is_keyed other) (x ∷ rest) ≡ find (is_keyed other) (x ∷ xs) = rw (behind rest refl) refl in
      subst (λ (cs : List Cell). find (is_keyed other) cs ≡ find (is_keyed other) (x ∷ xs)) is same

  pub removed_other : (xs after : List Cell) → removed (is_keyed key) xs ≡ Some after → find (is_keyed other) after ≡ find (is_keyed other) xs
  removed_other [] after made = absurd (cc)
  removed_other (x ∷ xs) after made = removed_by x xs after (x.key == key) (removed (is_keyed key) xs) refl (λ rest is. removed_other xs rest is) made

-- one that is found is found among those that are kept, where it is one of them
pub found_filtered : {A : Type 0} (passes keep : A → Bool) (xs : List A) (y : A) → keep y ≡ true → find passes xs ≡ Some y → find passes (filter keep xs) ≡ Some y
found_filtered {A} passes keep xs y keeps found =
    found_through passes keep xs (λ z is. let same : y ≡ z = (let both : Some y ≡ Some z = sym found ∙ is in cc) in subst (λ (x : A). keep x ≡ true) same keeps) ∙ found

-- the cell with a key, edited
edited_here : (key : ℕ) (edit : Cell → Cell) (x c : Cell) (cells after : List Cell) (t : Bool) (later : Option (List Cell)) → ((y : Cell) → (edit y).key ≡ y.key) → (x.key == key) ≡ t
    → ((rest : List Cell) → later ≡ Some rest → find (is_keyed key) cells ≡ Some c → find (is_keyed key) rest ≡ Some (edit c))
    → (if t then Some x else find (is_keyed key) cells) ≡ Some c → (if t then Some (edit x ∷ cells) else option_map (λ ys. x ∷ ys) later) ≡ Some after
    → find (is_keyed key) after ≡ Some (edit c)
edited_here key edit x c cells after true later keeps same behind found made =
    let is : edit x ∷ cells ≡ after = cc in
    let its : x ≡ c = cc in
    let first : ((edit x).key == key) ≡ true = rw (keeps x) same in
    let here : find (is_keyed key) (edit x ∷ cells) ≡ Some (edit x) = rw first refl in
    subst (λ (cs : List Cell). find (is_keyed key) cs ≡ Some (edit c)) is (here ∙ ap (λ (y : Cell). Some (edit y)) its)
edited_here key edit x c cells after false None keeps other behind found made = absurd (cc)
edited_here key edit x c cells after false (Some rest) keeps other behind found made =
    let is : x ∷ rest ≡ after = cc in
    let here : find (is_keyed key) (x ∷ rest) ≡ Some (edit c) = rw other (behind rest refl found) in
    subst (λ (cs : List Cell). find (is_keyed key) cs ≡ Some (edit c)) is here

-- it is found as it was edited
pub edited_found : (key : ℕ) (edit : Cell → Cell) (c : Cell) (cells after : List Cell) → ((y : Cell) → (edit y).key ≡ y.key) → find (is_keyed key) cells ≡ Some c
    → edited (is_keyed key) edit cells ≡ Some after → find (is_keyed key) after ≡ Some (edit c)
edited_found key edit c [] after keeps found made = absurd (cc)
edited_found key edit c (x ∷ cells) after keeps found made =
    edited_here key edit x c cells after (x.key == key) (edited (is_keyed key) edit cells) keeps refl (λ rest is there. edited_found key edit c cells rest keeps there is) found made

-- a cell in a phase is in no other
phase_is : (phase other : Phase) → IsTrue (is_phase phase other) → phase ≡ other
phase_is phases.Activating phases.Activating is = refl
phase_is phases.Active phases.Active is = refl
phase_is phases.Completing phases.Completing is = refl
phase_is phases.Leaving phases.Leaving is = refl
phase_is phases.Terminating phases.Terminating is = refl
phase_is phase other is = absurd (cc)

-- what holds of the cell that is there
pub at_cell : (holds : Cell → Bool) (found : Option Cell) (c : Cell) → found ≡ Some c → IsTrue (option_map_or holds found false) → IsTrue (holds c)
at_cell holds found c is h = subst (λ (o : Option Cell). IsTrue (option_map_or holds o false)) is h

-- what a test says of the cell that is found with a key
module _ (holds : Cell → Bool) where
  -- it holds of the one with a key among some cells
  abbrev pub holds_among : ℕ → List Cell → Bool
  holds_among key cells = option_map_or holds (find (is_keyed key) cells) false

  -- of each of which it holds among some cells it holds among others
  abbrev pub AreKept : List Cell → List Cell → Type 0
  AreKept cells after = (q : ℕ) → IsTrue (holds_among q cells) → IsTrue (holds_among q after)

  -- but for the one with a key
  abbrev pub OthersKept : ℕ → List Cell → List Cell → Type 0
  OthersKept key cells after = (q : ℕ) → (q == key) ≡ false → IsTrue (holds_among q cells) → IsTrue (holds_among q after)

  -- an edit of the one with the key keeps it of each other
  pub others_edited : (key : ℕ) (edit : Cell → Cell) (cells after : List Cell) → ((c : Cell) → (edit c).key ≡ c.key) → edited (is_keyed key) edit cells ≡ Some after → OthersKept key cells after
  others_edited key edit cells after keeps made q apart is = rw (edited_other key q apart edit cells after keeps made) is

  -- and so does its removal
  pub others_removed : (key : ℕ) (cells after : List Cell) → removed (is_keyed key) cells ≡ Some after → OthersKept key cells after
  others_removed key cells after made q apart is = rw (removed_other key q apart cells after made) is

  -- it holds of the cell that is found
  its_cell : (key : ℕ) (cells : List Cell) → IsTrue (holds_among key cells) → (c : Cell) × (find (is_keyed key) cells ≡ Some c) × IsTrue (holds c)
  its_cell key cells is =
      let found = some_of (find (is_keyed key) cells) (holds_some holds (find (is_keyed key) cells) is) in
      (found.0, found.1, at_cell holds (find (is_keyed key) cells) found.0 found.1 is)

  all_by : (key : ℕ) (cells after : List Cell) (q : ℕ) (t : Bool) → ((c : Cell) → find (is_keyed key) cells ≡ Some c → IsTrue (holds c) → IsTrue (holds_among key after)) → OthersKept key cells after
      → (q == key) ≡ t → IsTrue (holds_among q cells) → IsTrue (holds_among q after)
  all_by key cells after q true each others same is =
      let its : q ≡ key = grind (arith, nat_tests) in
      let r = its_cell key cells (subst (λ (k : ℕ). IsTrue (holds_among k cells)) its is) in
      subst (λ (k : ℕ). IsTrue (holds_among k after)) (sym its) (each r.0 r.1 r.2)
  all_by key cells after q false each others apart is = others q apart is

  -- an edit that keeps it of the cell keeps it of all
  pub kept_edited : (key : ℕ) (edit : Cell → Cell) (cells after : List Cell) → ((c : Cell) → (edit c).key ≡ c.key) → ((c : Cell) → find (is_keyed key) cells ≡ Some c → IsTrue (holds c) → IsTrue (holds (edit c)))
      → edited (is_keyed key) edit cells ≡ Some after → AreKept cells after
  kept_edited key edit cells after keeps each made q is =
      all_by key cells after q (q == key) (λ c found h. rw (edited_found key edit c cells after keeps found made) (each c found h)) (others_edited key edit cells after keeps made) refl is

  -- a cell of which it doesn't hold may go
  pub kept_removed : (key : ℕ) (cells after : List Cell) → ((c : Cell) → find (is_keyed key) cells ≡ Some c → holds c ≡ false) → removed (is_keyed key) cells ≡ Some after → AreKept cells after
  kept_removed key cells after none made q is =
      all_by key cells after q (q == key) (λ c found h. absurd (let not_its = none c found in cc)) (others_removed key cells after made) refl is

  -- and so may all cells of which it doesn't
  pub kept_filtered : (keep : Cell → Bool) (cells : List Cell) → ((c : Cell) → IsTrue (holds c) → keep c ≡ true) → AreKept cells (filter keep cells)
  kept_filtered keep cells each q is =
      let r = its_cell q cells is in
      rw (found_filtered (is_keyed q) keep cells r.0 (each r.0 r.2) r.1) r.2

  more_by : (found other : Option Cell) → IsTrue (option_map_or holds found false) → IsTrue (option_map_or holds (option_or found other) false)
  more_by None other is = absurd (cc)
  more_by (Some c) other is = is

  -- more cells may stand behind
  pub kept_more : (cells more : List Cell) → AreKept cells (cells ++ more)
  kept_more cells more q is = rw (find-append (is_keyed q) cells more) (more_by (find (is_keyed q) cells) (find (is_keyed q) more) is)

-- a cell without what it goes through
abbrev pub bare : Cell → Cell
bare c = record c { phase = phases.Activating; mark = marks.Unset; items = []; taken = 0; owed = []; finished = []; ending = false; variables = [] }

-- a test of a cell in its model looks at nothing that the cell goes through, and passes none in which no other may be
pub record IsOfPlace (holds : Model → Cell → Bool) : Type 0 where
  pub bared : (m : Model) (c : Cell) → holds m c ≡ holds m (bare c)
  pub within : (m : Model) (c : Cell) → IsTrue (holds m c) → IsTrue (holds_cells m c)

-- that others may be in a cell is such a test
pub cells_of_place : IsOfPlace holds_cells
cells_of_place = record { bared = λ m c. refl; within = λ m c is. is }

-- and so is that tokens may
pub tokens_of_place : IsOfPlace holds_tokens
tokens_of_place = record { bared = λ m c. refl; within = λ m c is. or_left (holds_tokens m c) (is_body c || undoes m c) is }

-- of each cell of a board of which such a test holds it holds on another
abbrev pub ScopesKept : Board → Board → Type 0
ScopesKept b after = (holds : Model → Cell → Bool) → IsOfPlace holds → (q : ℕ) → IsTrue (is_around holds b q) → IsTrue (is_around holds after q)

-- a cell in another phase neither runs nor terminates
pub no_run : (c : Cell) (phase : Phase) → IsTrue (is_phase c.phase phase) → runs phase ≡ false → runs c.phase ≡ false
no_run c phase is apart = rw (phase_is c.phase phase is) apart

-- one that does doesn't leave
leaves_by : (c : Cell) (same leaves : Bool) → is_phase c.phase phases.Leaving ≡ leaves → IsTrue (runs c.phase) → not (same && leaves) ≡ true
leaves_by c same true leaves is = absurd (let none = no_run c phases.Leaving leaves refl in cc)
leaves_by c same false stays is = rw (and_right same false refl) refl

module _ (b : Board) (holds : Model → Cell → Bool) where
  -- a cell that doesn't run holds nothing
  pub holds_none : (c : Cell) → runs c.phase ≡ false → holds_by holds b c ≡ false
  holds_none c out = rw out refl

  -- a cell that holds others isn't one that leaves
  pub scope_stays : (scope : ℕ) (c : Cell) → IsTrue (holds_by holds b c) → not (leaves_in scope c) ≡ true
  scope_stays scope c is = leaves_by c (c.scope == scope) (is_phase c.phase phases.Leaving) refl (both_left (runs c.phase) _ is)

  bare_by : IsOfPlace holds → (c : Cell) (found : Option Model) → option_map_or (λ m. holds m c) found false ≡ option_map_or (λ m. holds m (bare c)) found false
  bare_by place c None = refl
  bare_by place c (Some m) = place.bared m c

  -- at its place a cell holds them still, in whatever phase it runs or terminates
  pub still_holds : IsOfPlace holds → (c other : Cell) → bare c ≡ bare other → IsTrue (runs other.phase) → IsTrue (holds_by holds b c) → IsTrue (holds_by holds b other)
  still_holds place c other same does is =
      let here : IsTrue (option_map_or (λ m. holds m (bare c)) (model_under b c.definition) false) = sym (bare_by place c (model_under b c.definition)) ∙ both_right (runs c.phase) _ is in
      let there : IsTrue (option_map_or (λ m. holds m (bare other)) (model_under b other.definition) false) = subst (λ (x : Cell). IsTrue (option_map_or (λ m. holds m x) (model_under b x.definition) false)) same here in
      and_from (runs other.phase) _ does (bare_by place other (model_under b other.definition) ∙ there)

  -- where there are more models, it holds them still
  scope_grown : (more : List Deployed) (c : Cell) → IsTrue (holds_by holds b c) → IsTrue (holds_by holds (record b { models = b.models ++ more }) c)
  scope_grown more c is =
      let does = both_left (runs c.phase) _ is in
      rw does (among_more (λ o. option_map_or (λ m. holds m c) o false) c.definition b.models more refl (both_right (runs c.phase) _ is))

weaker_of : (f g : Cell → Bool) (found : Option Cell) → ((c : Cell) → IsTrue (f c) → IsTrue (g c)) → IsTrue (option_map_or f found false) → IsTrue (option_map_or g found false)
weaker_of f g None weaker is = absurd (cc)
weaker_of f g (Some c) weaker is = weaker c is

-- more models keep each scope
pub scopes_grown : (b : Board) (more : List Deployed) → ScopesKept b (record b { models = b.models ++ more })
scopes_grown b more holds place q is = weaker_of (holds_by holds b) (holds_by holds (record b { models = b.models ++ more })) (cell_at b q) (scope_grown b holds more) is

-- what holds tokens holds cells
pub around_cells : (b : Board) (holds : Model → Cell → Bool) → IsOfPlace holds → (q : ℕ) → IsTrue (is_around holds b q) → IsTrue (is_around holds_cells b q)
around_cells b holds place q is = weaker_of (holds_by holds b) (holds_by holds_cells b) (cell_at b q) by_cell is
  where
    by_model : (c : Cell) (found : Option Model) → IsTrue (option_map_or (λ m. holds m c) found false) → IsTrue (option_map_or (λ m. holds_cells m c) found false)
    by_model c None its = absurd (cc)
    by_model c (Some m) its = place.within m c its

    by_cell : (c : Cell) → IsTrue (holds_by holds b c) → IsTrue (holds_by holds_cells b c)
    by_cell c its = and_from (runs c.phase) _ (both_left (runs c.phase) _ its) (by_model c (model_under b c.definition) (both_right (runs c.phase) _ its))
