-- What stands under texts, where it changes under one of them.
use Rattle.std.proofs.Common.{◌≡◌, ℕ, List, [], Bool, true, false, ◌&&◌, if◌then◌else◌, Option, Some, None, String, Global, refl, ap, ◌∙◌, bytes_eq}
use Rattle.std.specs.Map.{update}
use Rattle.std.specs.HashMap.{HashMap, get_by_text}
use Rattle.std.specs.Option.{option_map_or}
use Rattle.std.specs.Cmp.Lexicographic.{bytes_decides}

module _ {V S : Type 0} (read : V → List ℕ) (name : List ℕ) (old : HashMap (String Global) V S) where
  -- what is read under a text; nothing where nothing stands there
  abbrev pub read_at : HashMap (String Global) V S → List ℕ → List ℕ
  read_at m text = option_map_or read (get_by_text m text) []

  -- something else stands under one text, or nothing any more, so that what is read there is what the change makes of it
  pub level_read : (change : List ℕ → List ℕ) (w : Option V) (q : List ℕ) (found : Option V) → option_map_or read w [] ≡ change (read_at old name)
      → found ≡ update bytes_eq (get_by_text old) name w q
      → option_map_or read found [] ≡ (if bytes_eq name q then change (read_at old q) else read_at old q)
  level_read change w q found changed updates = by_test (bytes_eq name q) refl
    where
      by_test : (t : Bool) → bytes_eq name q ≡ t → option_map_or read found [] ≡ (if t then change (read_at old q) else read_at old q)
      by_test true same = rw (updates, same) (changed ∙ ap (λ (n : List ℕ). change (read_at old n)) ((bytes_decides name q).0 same))
      by_test false apart = rw (updates, apart) refl

  -- the same of all texts
  pub level_changed : (change : List ℕ → List ℕ) (new : HashMap (String Global) V S) (w : Option V)
      → ((q : List ℕ) → get_by_text new q ≡ update bytes_eq (get_by_text old) name w q)
      → option_map_or read w [] ≡ change (read_at old name)
      → (q : List ℕ) → read_at new q ≡ (if bytes_eq name q then change (read_at old q) else read_at old q)
  level_changed change new w updates changed q = level_read change w q (get_by_text new q) changed (updates q)

  -- what was written under a text is taken out
  pub taken_again : (mid new : HashMap (String Global) V S) (v : V)
      → ((q : List ℕ) → get_by_text mid q ≡ update bytes_eq (get_by_text old) name (Some v) q)
      → ((q : List ℕ) → get_by_text new q ≡ update bytes_eq (get_by_text mid) name None q)
      → (q : List ℕ) → get_by_text new q ≡ update bytes_eq (get_by_text old) name None q
  taken_again mid new v writes takes q = takes q ∙ by_test (bytes_eq name q) refl
    where
      by_test : (t : Bool) → bytes_eq name q ≡ t → ◌≡◌ {A = Option V} (if t then None else get_by_text mid q) (if t then None else get_by_text old q)
      by_test true same = refl
      by_test false apart = writes q ∙ rw apart refl

-- under both of two texts
pub under_both : (f s : Bool) (x y : List ℕ) → (if s then (if f then x else y) else y) ≡ (if f && s then x else y)
under_both true s x y = refl
under_both false true x y = refl
under_both false false x y = refl
