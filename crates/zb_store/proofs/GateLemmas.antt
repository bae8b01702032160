-- How frames lead from gate to gate, and what a file stands for.
use Rattle.std.proofs.Common.{◌≡◌, ◌⊎◌, inl, inr, ℕ, zero, suc, ◌+◌, ◌<◌, ◌≤◌, List, [], ◌∷◌, length, refl, sym, ◌∙◌, ap, subst, arith}
use Rattle.std.specs.Prelude.{slice_index, slice_range}
use Rattle.std.proofs.lemmas.Bool.{cases_eq, cases_lt}
use Rattle.zb_store.specs.Stands.{next_gate, IsFrame, Leads, RunsPast, Stands, IsCutAfter}

-- a frame is behind its gate
pub next_behind : (file : List ℕ) (at : ℕ) → at + 9 ≤ next_gate file at
unfolding next_gate
next_behind file at = omega arith

-- no frame goes on from a gate
abbrev pub Stops : List ℕ → ℕ → Type 0
Stops file at = (body : List ℕ) → IsFrame file at body → ⊥

closed_stops : (file : List ℕ) (at : ℕ) → slice_index file at ≡ 0 → Stops file at
closed_stops file at closed body frame = frame.is_open closed

past_stops : (file : List ℕ) (at : ℕ) → RunsPast file at → Stops file at
past_stops file at past body frame = omega (arith, frame.fits, past.past)

-- frames that lead as far as they can have one list of bodies
one_leading : (file : List ℕ) (at : ℕ) (xs ys : List (List ℕ)) (e f : ℕ) → Leads file at xs e → Leads file at ys f → Stops file e → Stops file f → (xs ≡ ys) × (e ≡ f)
one_leading file at [] [] e f l m stop halt = (refl, sym l ∙ m)
one_leading file at [] (y ∷ ys) e f l m stop halt = absurd (stop y (subst (λ (n : ℕ). IsFrame file n y) l m.0))
one_leading file at (x ∷ xs) [] e f l m stop halt = absurd (halt x (subst (λ (n : ℕ). IsFrame file n x) m l.0))
one_leading file at (x ∷ xs) (y ∷ ys) e f l m stop halt =
    let rest = one_leading file (next_gate file at) xs ys e f l.1 m.1 stop halt in
    let same : x ≡ y = l.0.body_is ∙ sym m.0.body_is in
    (ap (λ (b : List ℕ). b ∷ xs) same ∙ ap (λ (bs : List (List ℕ)). y ∷ bs) rest.0, rest.1)

-- a file stands for one list of bodies at most
pub one_standing : (file : List ℕ) (xs ys : List (List ℕ)) → Stands file xs → Stands file ys → xs ≡ ys
one_standing file xs ys s t = elim (cases_lt 1 (length file)) [
  | inl long ↦
      let l = s.long long in
      let m = t.long long in
      (one_leading file 0 xs ys l.0 m.0 l.1 m.1 (closed_stops file l.0 l.2) (closed_stops file m.0 m.2)).0
  | inr short ↦ s.short short ∙ sym (t.short short)
]

-- and is cut off behind one list of them at most
pub one_cut : (file : List ℕ) (xs ys : List (List ℕ)) → IsCutAfter file xs → IsCutAfter file ys → xs ≡ ys
one_cut file xs ys s t =
    (one_leading file 0 xs ys s.cut.0 t.cut.0 s.cut.1 t.cut.1 (past_stops file s.cut.0 s.cut.2) (past_stops file t.cut.0 t.cut.2)).0

-- not both
pub not_both : (file : List ℕ) (xs ys : List (List ℕ)) → Stands file xs → IsCutAfter file ys → ⊥
not_both file xs ys s t =
    let l = s.long t.long in
    let same = one_leading file 0 xs ys l.0 t.cut.0 l.1 t.cut.1 (closed_stops file l.0 l.2) (past_stops file t.cut.0 t.cut.2) in
    t.cut.2.is_open (ap (λ (n : ℕ). slice_index file n) (sym same.1) ∙ l.2)

-- from a gate on, frames lead to a closed gate or past the end; n bounds how many bytes are left
found : (file : List ℕ) (n at : ℕ) → length file ≤ at + n → at < length file → (bodies : List (List ℕ)) × (end : ℕ) × Leads file at bodies end × ((slice_index file end ≡ 0) ⊎ RunsPast file end)
found file zero at bound inside = absurd (omega arith)
found file (suc n) at bound inside = elim (cases_eq (slice_index file at) 0) [
  | inl closed ↦ ([], at, refl, inl closed)
  | inr is_open ↦ elim (cases_lt (next_gate file at) (length file)) [
    | inl fits ↦
        let next = next_gate file at in
        let body = slice_range file (at + 9) next in
        let rest = found file n next (omega (arith, next_behind file at)) fits in
        let frame : IsFrame file at body = record { is_open = is_open; fits = fits; body_is = refl } in
        (body ∷ rest.0, rest.1, (frame, rest.2), rest.3)
    | inr past ↦ ([], at, refl, inr (record { is_open = is_open; past = past }))
  ]
]

-- one of both
pub one_or_other : (file : List ℕ) → ((bodies : List (List ℕ)) × Stands file bodies) ⊎ ((bodies : List (List ℕ)) × IsCutAfter file bodies)
one_or_other file = elim (cases_lt 1 (length file)) [
  | inl long ↦
      let from = found file (length file) 0 (omega arith) (omega arith) in
      elim from.3 [
        | inl closed ↦ inl (from.0, record { short = λ le. absurd (omega arith); long = λ _. (from.1, from.2, closed) })
        | inr past ↦ inr (from.0, record { long = long; cut = (from.1, from.2, past) })
      ]
  | inr short ↦ inl ([], record { short = λ _. refl; long = λ lt. absurd (omega arith) })
]
