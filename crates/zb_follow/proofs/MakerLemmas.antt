-- What is put one after the other.
use Rattle.std.proofs.Common.{◌≡◌, ◌<◌, ◌+◌, ℕ, suc, List, [], ◌∷◌, ◌++◌, map, length, take, drop, get_or, Bool, true, false, ◌&&◌, IsFalse, refl, ap, sym, ◌∙◌, append_assoc, append-nil, drop-cons, subst}
use Rattle.std.proofs.lemmas.List.{take-append-drop, take_more}
use Rattle.zb_model.specs.declared.record.Event.{Event}
use Rattle.zb_rules.specs.Applies.{all_apply}
use Rattle.zb_rules.proofs.StepLaws.{all_apply_on}
use Rattle.zb_rules.specs.Making.{Making, just, and_then, each_made}
use Rattle.zb_state.specs.declared.state.State.{State}
use Rattle.zb_state.specs.State.{partition_of, IsStateOf, CantMake, HasPut}

false_left : (a b : Bool) → IsFalse a → IsFalse (a && b)
false_left false b is = refl
false_left true b is = absurd (cc)

false_right : (a b : Bool) → IsFalse b → IsFalse (a && b)
false_right false b is = refl
false_right true b is = is

module _ (first : Making) (second : ℕ → Making) (state : State) where
  -- what the first can't make, both can't
  pub cant_first : CantMake state first → CantMake state (and_then first (second (partition_of state)))
  cant_first cant es is = rw (all_apply_on (partition_of state) es (first es) (second (partition_of state) (es ++ first es))) (false_left _ _ (cant es is))

  -- nor what the second can't make behind it
  pub cant_second : (middle : State) (out out_middle : List Event) → partition_of middle ≡ partition_of state → HasPut first state middle out out_middle → CantMake middle (second (partition_of middle)) → CantMake state (and_then first (second (partition_of state)))
  cant_second middle out out_middle place has cant es is =
      let then = es ++ first es in
      let told : IsFalse (all_apply (partition_of state) then (second (partition_of state) then)) = subst (λ (q : ℕ). IsFalse (all_apply q then (second q then))) place (cant then (has.taken es is)) in
      rw (all_apply_on (partition_of state) es (first es) (second (partition_of state) then)) (false_right _ _ told)

  -- what both put
  pub put_both : (middle after : State) (out out_middle out_after : List Event) → partition_of middle ≡ partition_of state → HasPut first state middle out out_middle → HasPut (second (partition_of middle)) middle after out_middle out_after
      → HasPut (and_then first (second (partition_of state))) state after out out_after
  put_both middle after out out_middle out_after place one two =
      let then : List Event → List Event = λ es. es ++ first es in
      let same : (es : List Event) → second (partition_of middle) (then es) ≡ second (partition_of state) (then es) = λ es. ap (λ (q : ℕ). second q (then es)) place in
      record {
        put = λ es is. two.put (then es) (one.taken es is) ∙ (rw (one.put es is, same es) (append_assoc out (first es) (second (partition_of state) (then es))));
        taken = λ es is. subst (λ (l : List Event). IsStateOf l after) (append_assoc es (first es) _ ∙ ap (λ (l : List Event). es ++ (first es ++ l)) (same es)) (two.taken (then es) (one.taken es is));
      }

-- where two makings make the same of the events that come to a state, what one can't make the other can't
pub same_cant : (a b : Making) (state : State) → ((es : List Event) → IsStateOf es state → a es ≡ b es) → CantMake state a → CantMake state b
same_cant a b state same cant es is = rw (same es is) at (cant es is)

-- and what one puts the other does
pub same_put : (a b : Making) (state after : State) (out out_after : List Event) → ((es : List Event) → IsStateOf es state → a es ≡ b es) → HasPut a state after out out_after → HasPut b state after out out_after
same_put a b state after out out_after same has = record {
  put = λ es is. has.put es is ∙ ap (λ (l : List Event). out ++ l) (same es is);
  taken = λ es is. subst (λ (l : List Event). IsStateOf (es ++ l) after) (same es is) (has.taken es is);
}

-- nothing is put
pub put_none : (state : State) (out : List Event) → HasPut (λ before. []) state state out out
put_none state out = record {
  put = λ es is. sym (append-nil out);
  taken = λ es is. subst (λ (l : List Event). IsStateOf l state) (sym (append-nil es)) is;
}

-- one event of each of some things, whatever was before
pub each_of : {A : Type 0} (event : A → Event) (xs : List A) (es : List Event) → each_made (λ x. just (event x)) xs es ≡ map event xs
each_of event [] es = refl
each_of event (x ∷ xs) es = ap (λ (l : List Event). event x ∷ l) (each_of event xs (es ++ event x ∷ []))

-- and one of a part of each
pub each_of_part : {A B : Type 0} (event : B → Event) (part : A → B) (xs : List A) (es : List Event) → each_made (λ x. just (event x)) (map part xs) es ≡ map (λ x. event (part x)) xs
each_of_part event part [] es = refl
each_of_part event part (x ∷ xs) es = ap (λ (l : List Event). event (part x) ∷ l) (each_of_part event part xs (es ++ event (part x) ∷ []))

-- what is made of each of some things, and of those behind them
each_on : {A : Type 0} (make : A → Making) (xs ys : List A) (before : List Event) → each_made make (xs ++ ys) before ≡ and_then (each_made make xs) (each_made make ys) before
each_on make [] ys before = rw (append-nil before) refl
each_on make (x ∷ xs) ys before =
    let made = make x before in
    let later = each_made make xs (before ++ made) in
    ap (λ (l : List Event). made ++ l) (each_on make xs ys (before ++ made) ∙ ap (λ (l : List Event). later ++ each_made make ys l) (append_assoc before made later))
    ∙ sym (append_assoc made later (each_made make ys (before ++ (made ++ later))))

module _ {A : Type 0} (make : ℕ → A → Making) (xs : List A) (i : ℕ) (x : A) (within : i < length xs) (is : x ≡ get_or xs i x) (state middle : State) (out out_middle : List Event)
    (place : partition_of middle ≡ partition_of state) (done : HasPut (each_made (make (partition_of state)) (take i xs)) state middle out out_middle) where
  -- the things are those before this one, it, and those behind it
  parted : xs ≡ take i xs ++ x ∷ drop (suc i) xs
  parted = sym (take-append-drop i xs) ∙ ap (λ (l : List A). take i xs ++ l) (drop-cons xs i x within ∙ ap (λ (y : A). y ∷ drop (suc i) xs) (sym is))

  -- what one of them can't make, all can't
  pub cant_at : CantMake middle (make (partition_of middle) x) → CantMake state (each_made (make (partition_of state)) xs)
  cant_at cant =
      let each : ℕ → List A → Making = λ p ys. each_made (make p) ys in
      let q = partition_of state in
      same_cant (and_then (each q (take i xs)) (each q (x ∷ drop (suc i) xs))) (each q xs) state
      (λ es at. sym (ap (λ (l : List A). each q l es) parted ∙ each_on (make q) (take i xs) (x ∷ drop (suc i) xs) es))
      (cant_second (each q (take i xs)) (λ p. each p (x ∷ drop (suc i) xs)) state middle out out_middle place done (cant_first (make (partition_of middle) x) (λ p. each p (drop (suc i) xs)) middle cant))

  -- one more is put
  pub put_at : (after : State) (out_after : List Event) → HasPut (make (partition_of middle) x) middle after out_middle out_after → HasPut (each_made (make (partition_of state)) (take (i + 1) xs)) state after out out_after
  put_at after out_after one =
      let each : ℕ → List A → Making = λ p ys. each_made (make p) ys in
      let q = partition_of state in
      let more : take (i + 1) xs ≡ take i xs ++ x ∷ [] = take_more xs i x within ∙ ap (λ (y : A). take i xs ++ y ∷ []) (sym is) in
      same_put (and_then (each q (take i xs)) (make q x)) (each q (take (i + 1) xs)) state after out out_after
      (λ es at. sym (ap (λ (l : List A). each q l es) more ∙ (each_on (make q) (take i xs) (x ∷ []) es ∙ ap (λ (l : List Event). each q (take i xs) es ++ l) (append-nil (make q x (es ++ each q (take i xs) es))))))
      (put_both (each q (take i xs)) (λ p. make p x) state middle after out out_middle out_after place done one)
