-- One frame more, as it is found behind the last gate, and the frame with a number.
use Rattle.std.proofs.Common.{◌≡◌, ℕ, zero, suc, ◌+◌, ◌-◌, ◌<◌, ◌≤◌, List, [], ◌∷◌, ◌++◌, length, take, drop, refl, sym, ◌∙◌, ap, subst, arith, length-drop}
use Rattle.std.specs.Prelude.{slice_get, Some}
use Rattle.std.proofs.lemmas.List.{length-take-le}
use Rattle.zb_store.specs.Stands.{next_gate, IsFrame, Leads}
use Rattle.zb_store.specs.Log.{extent}
use Rattle.zb_store.proofs.GateLemmas.{next_behind}

-- a frame reaches from its gate to the next
pub frame_size : (file : List ℕ) (at : ℕ) (body : List ℕ) → IsFrame file at body → at + 9 + length body ≡ next_gate file at
frame_size file at body frame =
    let next = next_gate file at in
    let rest = drop (at + 9) file in
    let left : length rest ≡ length file - (at + 9) = length-drop (at + 9) file in
    let behind : at + 9 ≤ next = next_behind file at in
    let room : next - (at + 9) ≤ length rest = omega (arith, frame.fits) in
    let size : length (take (next - (at + 9)) rest) ≡ next - (at + 9) = length-take-le (next - (at + 9)) rest room in
    let all : length body ≡ next - (at + 9) = ap length frame.body_is ∙ size in
    omega (arith, all, behind)

pub leads_push : (file : List ℕ) (at : ℕ) (bodies : List (List ℕ)) (last : ℕ) (body : List ℕ) → Leads file at bodies last → IsFrame file last body → Leads file at (bodies ++ body ∷ []) (next_gate file last)
leads_push file at [] last body leads frame =
    (subst (λ (n : ℕ). IsFrame file n body) (sym leads) frame, ap (λ (n : ℕ). next_gate file n) leads)
leads_push file at (b ∷ bodies) last body leads frame =
    (leads.0, leads_push file (next_gate file at) bodies last body leads.1 frame)

-- the gate behind frames lies as far on as they are long
pub leads_extent : (file : List ℕ) (at : ℕ) (bodies : List (List ℕ)) (end : ℕ) → Leads file at bodies end → end + 1 ≡ at + extent bodies
leads_extent file at [] end leads = omega (arith, leads)
leads_extent file at (body ∷ bodies) end leads =
    omega (arith, frame_size file at body leads.0, leads_extent file (next_gate file at) bodies end leads.1)

-- the first k frames, and those behind them
pub leads_split : (file : List ℕ) (at k : ℕ) (bodies : List (List ℕ)) (end : ℕ) → Leads file at bodies end → (mid : ℕ) × Leads file at (take k bodies) mid × Leads file mid (drop k bodies) end
leads_split file at zero bodies end leads = (at, refl, leads)
leads_split file at (suc k) [] end leads = (at, refl, leads)
leads_split file at (suc k) (body ∷ bodies) end leads =
    let rest = leads_split file (next_gate file at) k bodies end leads.1 in
    (rest.0, (leads.0, rest.1), rest.2)

-- the frame with the number k, by the gate in front of it
pub frame_at : (file : List ℕ) (at k : ℕ) (bodies : List (List ℕ)) (end mid : ℕ) → Leads file at bodies end → Leads file at (take k bodies) mid → k < length bodies → (body : List ℕ) × (slice_get bodies k ≡ Some body) × IsFrame file mid body × Leads file at (take (suc k) bodies) (next_gate file mid)
frame_at file at k [] end mid leads front lt = absurd (omega arith)
frame_at file at zero (body ∷ bodies) end mid leads front lt =
    (body, refl, subst (λ (n : ℕ). IsFrame file n body) front leads.0, (leads.0, ap (λ (n : ℕ). next_gate file n) front))
frame_at file at (suc k) (body ∷ bodies) end mid leads front lt =
    let rest = frame_at file (next_gate file at) k bodies end mid leads.1 front.1 (omega arith) in
    (rest.0, rest.1, rest.2, (leads.0, rest.3))
