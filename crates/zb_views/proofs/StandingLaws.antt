-- What an event more makes of what stands.
use Rattle.std.proofs.Common.{◌≡◌, ℕ, ◌<◌, nat_lt, ◌&&◌, cond, zero, suc, arith, List, [], ◌∷◌, ◌++◌, map, filter, not, Bool, true, false, if◌then◌else◌, get_or, Option, Some, None, All, Contains, refl, sym, ap, ◌∙◌, subst, append_assoc, append-nil}
use Rattle.std.specs.Option.{option_map_or}
use Rattle.std.specs.List.{AllPairs}
use Rattle.std.proofs.lemmas.List.Kept.{AllPairs-cons, AllPairs-filter}
use Rattle.std.proofs.lemmas.List.{map-append}
use Rattle.std.proofs.lemmas.Bool.{not-true}
use Rattle.std.proofs.lemmas.List.Elements.{filter-append, filter_agree, All-map, All-filter, All-contains_itself, filter_passes}
use Rattle.zb_table.specs.Rows.{Ascend, are_below}
use Rattle.zb_table.proofs.Growing.{below_more}
use Rattle.zb_pairs.proofs.FoundLemmas.{map_same, filter_all, ascend_kept, ascend_mapped}
use Rattle.zb_model.specs.declared.record.Event.{Event}
use Rattle.zb_views.specs.Standing.{Sort, lasting, standing_behind, standing, left_by, begun_by, standing_by}

-- some of those that are below a key
pub below_some : {A : Type 0} (key : A → ℕ) (high : ℕ) (keeps : A → Bool) (xs : List A) → are_below key high xs ≡ true → are_below key high (filter keeps xs) ≡ true
below_some key high keeps [] below = refl
below_some key high keeps (x ∷ xs) below = by_tests (nat_lt (key x) high) (keeps x) refl below (below_some key high keeps xs)
  where
    by_tests : (less t : Bool) → nat_lt (key x) high ≡ less → (less && are_below key high xs) ≡ true → (are_below key high xs ≡ true → are_below key high (filter keeps xs) ≡ true) → are_below key high (cond t (x ∷ filter keeps xs) (filter keeps xs)) ≡ true
    by_tests false t is below later = absurd (cc)
    by_tests true true is below later = rw is (later below)
    by_tests true false is below later = later below

module _ {A : Type 0} (s : Sort A) where
  -- what an event leaves of two lists, one behind the other
  left_joined : (before : List Event) (e : Event) (xs ys : List A) → left_by s before e (xs ++ ys) ≡ left_by s before e xs ++ left_by s before e ys
  left_joined before e xs ys =
      let stays : A → Bool = λ x. not (s.ends before e x) in
      ap (map (s.says before e)) (filter-append stays xs ys) ∙ map-append (s.says before e) (filter stays xs) (filter stays ys)

  -- a thing that an event more ends, or not
  lasting_more : (before after : List Event) (e : Event) (x : A) → lasting s before (after ++ e ∷ []) x ≡ left_by s (before ++ after) e (lasting s before after x)
  lasting_more before [] e x = rw (append-nil before) (by_test (s.ends before e x) refl)
    where
      by_test : (t : Bool) → s.ends before e x ≡ t → (if t then [] else s.says before e x ∷ []) ≡ left_by s before e (x ∷ [])
      by_test true is = rw is refl
      by_test false is = rw is refl
  lasting_more before (y ∷ after) e x = by_test (s.ends before y x) (lasting_more (before ++ y ∷ []) after e (s.says before y x) ∙ ap (λ (all : List Event). left_by s all e (lasting s (before ++ y ∷ []) after (s.says before y x))) (append_assoc before (y ∷ []) after))
    where
      by_test : (t : Bool) → lasting s (before ++ y ∷ []) (after ++ e ∷ []) (s.says before y x) ≡ left_by s (before ++ y ∷ after) e (lasting s (before ++ y ∷ []) after (s.says before y x))
          → (if t then [] else lasting s (before ++ y ∷ []) (after ++ e ∷ []) (s.says before y x)) ≡ left_by s (before ++ y ∷ after) e (if t then [] else lasting s (before ++ y ∷ []) after (s.says before y x))
      by_test true later = refl
      by_test false later = later

  -- the one that an event begins, if it does
  begun_more : (before after : List Event) (e : Event) (told : Option A) → option_map_or (lasting s before (after ++ e ∷ [])) told [] ≡ left_by s (before ++ after) e (option_map_or (lasting s before after) told [])
  begun_more before after e None = refl
  begun_more before after e (Some x) = lasting_more before after e x

  begun_first : (before : List Event) (told : Option A) → option_map_or (lasting s before []) told [] ++ [] ≡ begun_by told
  begun_first before None = refl
  begun_first before (Some x) = refl

  standing_behind_more : (before es : List Event) (e : Event) → standing_behind s before (es ++ e ∷ []) ≡ standing_by s (before ++ es) e (standing_behind s before es)
  standing_behind_more before [] e = rw (append-nil before) (begun_first (before ++ e ∷ []) (s.told before e))
  standing_behind_more before (x ∷ es) e =
      let here = option_map_or (lasting s (before ++ x ∷ []) es) (s.told before x) [] in
      let later = standing_behind s (before ++ x ∷ []) es in
      rw (begun_more (before ++ x ∷ []) es e (s.told before x), standing_behind_more (before ++ x ∷ []) es e, append_assoc before (x ∷ []) es)
      (sym (append_assoc (left_by s (before ++ x ∷ es) e here) (left_by s (before ++ x ∷ es) e later) (begun_by (s.told (before ++ x ∷ es) e))) ∙ ap (λ (l : List A). l ++ begun_by (s.told (before ++ x ∷ es) e)) (sym (left_joined (before ++ x ∷ es) e here later)))

  -- what an event more makes of what stands
  pub standing_more : (es : List Event) (e : Event) → standing s (es ++ e ∷ []) ≡ standing_by s es e (standing s es)
  standing_more es e = standing_behind_more [] es e

  -- what holds of nothing, and of what each event makes of what stands where it holds of that, holds of what stands
  pub standing_keeps : (P : List Event → List A → Type 0) → P [] [] → ((before : List Event) (e : Event) (xs : List A) → P before xs → P (before ++ e ∷ []) (standing_by s before e xs)) → (es : List Event) → P es (standing s es)
  standing_keeps P first more es = on [] es first
    where
      on : (before after : List Event) → P before (standing s before) → P (before ++ after) (standing s (before ++ after))
      on before [] has = rw (append-nil before) has
      on before (e ∷ after) has =
          let next = subst (P (before ++ e ∷ [])) (sym (standing_more before e)) (more before e (standing s before) has) in
          subst (λ (es : List Event). P es (standing s es)) (append_assoc before (e ∷ []) after) (on (before ++ e ∷ []) after next)

  -- what an event leaves of things that it neither ends nor changes
  pub left_all : (before : List Event) (e : Event) (xs : List A) → ((x : A) → s.ends before e x ≡ false) → ((x : A) → s.says before e x ≡ x) → left_by s before e xs ≡ xs
  left_all before e [] lasts stays = refl
  left_all before e (x ∷ xs) lasts stays = rw (lasts x, stays x, left_all before e xs lasts stays) refl

  -- an event begins nothing, ends nothing and changes nothing
  abbrev pub IsSilent : List Event → Event → Type 0
  IsSilent before e = (s.told before e ≡ None) × ((x : A) → s.ends before e x ≡ false) × ((x : A) → s.says before e x ≡ x)

  -- so it leaves what is there
  pub all_left : (before : List Event) (e : Event) (xs : List A) → IsSilent before e → standing_by s before e xs ≡ xs
  all_left before e xs silent = rw (silent.0, left_all before e xs silent.1 silent.2) (append-nil xs)

  -- and what stands
  pub standing_kept : (es : List Event) (e : Event) → IsSilent es e → standing s (es ++ e ∷ []) ≡ standing s es
  standing_kept es e silent = standing_more es e ∙ all_left es e (standing s es) silent

  -- what an event that only begins one makes of those that are there
  pub one_more : (before : List Event) (e : Event) (xs : List A) (x : A) → s.told before e ≡ Some x → ((y : A) → s.ends before e y ≡ false) → ((y : A) → s.says before e y ≡ y) → standing_by s before e xs ≡ xs ++ x ∷ []
  one_more before e xs x told lasts stays = rw (told, left_all before e xs lasts stays) refl

  -- one that begins none and changes none
  pub some_gone : (before : List Event) (e : Event) (xs : List A) (gone : A → Bool) → s.told before e ≡ None → ((x : A) → s.ends before e x ≡ gone x) → ((x : A) → s.says before e x ≡ x) → standing_by s before e xs ≡ filter (λ x. not (gone x)) xs
  some_gone before e xs gone none is stays =
      rw (none, filter_agree (λ x. not (s.ends before e x)) (λ x. not (gone x)) (λ x. ap not (is x)) xs, map_same (s.says before e) (filter (λ x. not (gone x)) xs) stays)
      (append-nil (filter (λ x. not (gone x)) xs))

  -- and one that begins none and ends none
  pub each_changed : (before : List Event) (e : Event) (xs : List A) → s.told before e ≡ None → ((x : A) → s.ends before e x ≡ false) → standing_by s before e xs ≡ map (s.says before e) xs
  each_changed before e xs none lasts =
      rw (none, filter_agree (λ x. not (s.ends before e x)) (λ x. true) (λ x. ap not (lasts x)) xs, filter_all xs)
      (append-nil (map (s.says before e) xs))

  -- what holds of each thing that an event doesn't end, as it says, holds of each that it leaves
  pub each_left : (P : A → Type 0) (before : List Event) (e : Event) (xs : List A) → ((x : A) → Contains xs x → s.ends before e x ≡ false → P (s.says before e x)) → All P (left_by s before e xs)
  each_left P before e xs each =
      let stays : A → Bool = λ x. not (s.ends before e x) in
      let among = All-filter stays (Contains xs) xs (All-contains_itself xs) in
      let passes = filter_passes stays xs in
      All-map P (s.says before e) (filter stays xs) (λ k d within. each (get_or (filter stays xs) k d) (among k d within) (not-true (s.ends before e (get_or (filter stays xs) k d)) (passes k d within)))

  -- and so of each two
  pub pairs_left : (R : A → A → Type 0) (before : List Event) (e : Event) (xs : List A) → ((x y : A) → R x y → R (s.says before e x) (s.says before e y)) → AllPairs R xs → AllPairs R (left_by s before e xs)
  pairs_left R before e xs each all = pairs_mapped (filter stays xs) (AllPairs-filter R stays xs all)
    where
      stays : A → Bool
      stays x = not (s.ends before e x)

      pairs_mapped : (ys : List A) → AllPairs R ys → AllPairs R (map (s.says before e) ys)
      pairs_mapped [] apart = λ i j d lt within. absurd (omega arith)
      pairs_mapped (y ∷ ys) apart =
          AllPairs-cons R (s.says before e y) (map (s.says before e) ys)
          (All-map (R (s.says before e y)) (s.says before e) ys (λ k d within. each y (get_or ys k d) (apart zero (suc k) d (omega arith) (omega arith))))
          (pairs_mapped ys (λ i j d lt within. apart (suc i) (suc j) d (omega arith) (omega arith)))

  -- where no key changes, and the one that begins is below a key, all stay below it
  pub below_by : (key : A → ℕ) (high : ℕ) (before : List Event) (e : Event) (xs : List A) → ((x : A) → key (s.says before e x) ≡ key x) → ((x : A) → s.told before e ≡ Some x → key x < high) → are_below key high xs ≡ true
      → are_below key high (standing_by s before e xs) ≡ true
  below_by key high before e xs same less below = by_told (s.told before e) less
    where
      stays : A → Bool
      stays x = not (s.ends before e x)

      mapped : (ys : List A) → are_below key high (map (s.says before e) ys) ≡ are_below key high ys
      mapped [] = refl
      mapped (y ∷ ys) = rw (same y, mapped ys) refl

      left : are_below key high (left_by s before e xs) ≡ true
      left = mapped (filter stays xs) ∙ below_some key high stays xs below

      by_told : (told : Option A) → ((x : A) → told ≡ Some x → key x < high) → are_below key high (left_by s before e xs ++ begun_by told) ≡ true
      by_told None less = rw (append-nil (left_by s before e xs)) left
      by_told (Some x) less = below_more key high (left_by s before e xs) x (less x refl) left

  -- where no key changes, they stay in the order of their keys
  pub ascend_left : (key : A → ℕ) (low : ℕ) (before : List Event) (e : Event) (xs : List A) → ((x : A) → key (s.says before e x) ≡ key x) → Ascend key low xs → Ascend key low (left_by s before e xs)
  ascend_left key low before e xs same up =
      let stays : A → Bool = λ x. not (s.ends before e x) in
      ascend_mapped key (s.says before e) low (filter stays xs) same (ascend_kept key stays low xs up)
