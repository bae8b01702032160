-- What the rows of clap's matches hold of an id, after its uses.
use Rattle.std.proofs.Common.{◌≡◌, ◌||◌, ◌∙◌, Bool, cond, true, false, List, [], ◌∷◌, ◌++◌, Option, Some, None, refl, ap, sym, is_some, true≢false}
use Rattle.std.specs.List.{find}
use Rattle.std.specs.Option.{option_map_or}
use Rattle.std.specs.Str.{bytes_eq}
use Rattle.std.proofs.lemmas.Slice.Eq.{bytes_eq-Decides}
use Rattle.clap.specs.Walk.{Row, Text, has_row, stronger, with_values, without}
use Rattle.clap.specs.Takes.{is_given}
use Rattle.clap.specs.declared.builder.value_parser.Reading.TheVariants.{AsWritten}
use Rattle.clap.specs.declared.parser.matches.ValueSource.TheVariants.{CommandLine}

-- the row of an id
abbrev pub row_in : Text → List Row → Option Row
row_in id rows = find (λ r. bytes_eq r.id id) rows

abbrev new_row : Text → List Text → Row
new_row id texts = record { id = id; values = texts; count = None; source = Some CommandLine; reading = AsWritten }

-- and what it is where words gave the id these texts
abbrev pub row_for : Text → List Text → Option Row
row_for id [] = None
row_for id (t ∷ ts) = Some (new_row id (t ∷ ts))

pub same_bytes : (text : Text) → bytes_eq text text ≡ true
same_bytes text = (bytes_eq-Decides text text).1 refl

no_row : {X : Type 0} (x : X) → Some x ≡ None → ⊥
no_row x e = true≢false (ap is_some e)

-- one use more
pub row_more : (id v : Text) (ts : List Text) (rows : List Row) → row_in id rows ≡ row_for id ts → row_in id (with_values id AsWritten CommandLine (v ∷ []) rows) ≡ row_for id (ts ++ v ∷ [])
row_more id v [] [] e = rw (same_bytes id) refl
row_more id v (t ∷ ts) [] e = absurd (no_row _ (sym e))
row_more id v ts (r ∷ rs) e = go ts (bytes_eq r.id id) refl e (row_more id v ts rs)
  where
    found : (ts : List Text) → Some r ≡ row_for id ts → Some (record r { values = r.values ++ v ∷ []; source = Some (stronger r.source CommandLine) }) ≡ row_for id (ts ++ v ∷ [])
    found [] e = absurd (no_row _ e)
    found (t ∷ ts) e = ap (λ (o : Option Row). Some (more (option_map_or (λ (x : Row). x) o r))) e
      where
        more : Row → Row
        more x = record x { values = x.values ++ v ∷ []; source = Some (stronger x.source CommandLine) }

    go : (ts : List Text) (b : Bool) → bytes_eq r.id id ≡ b → cond b (Some r) (row_in id rs) ≡ row_for id ts
        → (row_in id rs ≡ row_for id ts → row_in id (with_values id AsWritten CommandLine (v ∷ []) rs) ≡ row_for id (ts ++ v ∷ []))
        → row_in id (with_values id AsWritten CommandLine (v ∷ []) (r ∷ rs)) ≡ row_for id (ts ++ v ∷ [])
    go ts true t e next = rw (t, t) (found ts e)
    go ts false t e next = rw (t, t) (next e)

-- a use of another id leaves it
pub row_kept : (id other v : Text) (rows : List Row) → bytes_eq id other ≡ false → row_in other (with_values id AsWritten CommandLine (v ∷ []) rows) ≡ row_in other rows
row_kept id other v [] differ = rw differ refl
row_kept id other v (r ∷ rs) differ = go (bytes_eq r.id id) refl (row_kept id other v rs differ)
  where
    go : (b : Bool) → bytes_eq r.id id ≡ b → row_in other (with_values id AsWritten CommandLine (v ∷ []) rs) ≡ row_in other rs
        → row_in other (with_values id AsWritten CommandLine (v ∷ []) (r ∷ rs)) ≡ row_in other (r ∷ rs)
    go true t next =
        let same : bytes_eq r.id other ≡ false = ap (λ x. bytes_eq x other) ((bytes_eq-Decides r.id id).0 t) ∙ differ in
        rw (t, same) refl
    go false t next = rw t (ap (cond (bytes_eq r.id other) (Some r)) next)

pub rows_without : (id : Text) (rows : List Row) → row_in id rows ≡ None → without id rows ≡ rows
rows_without id [] e = refl
rows_without id (r ∷ rs) e = go (bytes_eq r.id id) refl e (rows_without id rs)
  where
    go : (b : Bool) → bytes_eq r.id id ≡ b → cond b (Some r) (row_in id rs) ≡ None → (row_in id rs ≡ None → without id rs ≡ rs) → without id (r ∷ rs) ≡ r ∷ rs
    go true t e next = absurd (no_row r e)
    go false t e next = rw t (ap (λ xs. r ∷ xs) (next e))

pub has_row-in : (id : Text) (rows : List Row) → has_row id rows ≡ is_some (row_in id rows)
has_row-in id [] = refl
has_row-in id (r ∷ rs) = go (bytes_eq r.id id) (has_row-in id rs)
  where
    go : (b : Bool) → has_row id rs ≡ is_some (row_in id rs) → (b || has_row id rs) ≡ is_some (cond b (Some r) (row_in id rs))
    go true e = refl
    go false e = e

-- where it has a text, the id is given
pub given-in : (id t : Text) (ts : List Text) (rows : List Row) → row_in id rows ≡ row_for id (t ∷ ts) → is_given id rows ≡ true
given-in id t ts rows e = rw e refl
