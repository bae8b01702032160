-- What a frame more does to the file of a log.
use Rattle.std.proofs.Common.{◌≡◌, ◌≢◌, inl, inr, ℕ, ◌+◌, ◌-◌, ◌<◌, ◌≤◌, ◌^◌, List, [], ◌∷◌, ◌++◌, length, take, drop, refl, sym, ◌∙◌, ap, subst, arith, append_assoc, length-append, take-append-drop}
use Rattle.std.specs.Prelude.{slice_index, slice_range}
use Rattle.std.specs.Int.{w64, from_be_bytes, to_be_bytes}
use Rattle.std.proofs.lemmas.Bool.{cases_eq}
use Rattle.std.proofs.lemmas.List.{take_at, drop_at, get_or_at, length-take-le}
use Rattle.std.proofs.lemmas.Nat.{from_be_bytes-to_be_bytes_8}
use Rattle.zb_disk.specs.Disk.{overwritten, Torn, Only}
use Rattle.zb_store.specs.Calls.{LeftByWriting}
use Rattle.zb_store.specs.Log.{framed}
use Rattle.zb_store.proofs.LogLaws.{framed_length}
use Rattle.zb_store.specs.Stands.{next_gate, IsFrame, Leads, Stands, EndsAt, StandsWithOrWithout}
use Rattle.zb_store.proofs.StandsLaws.{closed_stands}
use Rattle.zb_store.proofs.GateLemmas.{next_behind}
use Rattle.zb_store.proofs.BodyLemmas.{leads_push}
use Rattle.zb_store.proofs.PieceLemmas.{byte_kept, part_kept, next_kept}

-- gates ascend
leads_up : (file : List ℕ) (at : ℕ) (bodies : List (List ℕ)) (end : ℕ) → Leads file at bodies end → at ≤ end
leads_up file at [] end leads = omega (arith, leads)
leads_up file at (body ∷ bodies) end leads = omega (arith, next_behind file at, leads_up file (next_gate file at) bodies end leads.1)

-- frames in front of the n-th byte lead as before
leads_kept : (file c : List ℕ) (n at : ℕ) (bodies : List (List ℕ)) (end : ℕ) → take n c ≡ take n file → end ≤ n → end < length c → Leads file at bodies end → Leads c at bodies end
leads_kept file c n at [] end same le inside leads = leads
leads_kept file c n at (body ∷ bodies) end same le inside leads =
    let next = next_gate file at in
    let up : next ≤ end = leads_up file next bodies end leads.1 in
    let behind : at + 9 ≤ next = next_behind file at in
    let there : next_gate c at ≡ next = next_kept file c n same at (omega arith) in
    let byte : slice_index c at ≡ slice_index file at = byte_kept file c n same at (omega arith) in
    let part : slice_range c (at + 9) next ≡ slice_range file (at + 9) next = part_kept file c n same (at + 9) next (omega arith) (omega arith) in
    let frame : IsFrame c at body = record {
      is_open = λ closed. leads.0.is_open (sym byte ∙ closed);
      fits = omega (arith, there);
      body_is = leads.0.body_is ∙ sym part ∙ ap (λ (k : ℕ). slice_range c (at + 9) k) (sym there);
    } in
    (frame, subst (λ (k : ℕ). Leads c k bodies end) (sym there) (leads_kept file c n next bodies end same le inside leads.1))

-- a file in which frames lead to a closed gate stands for their bodies
pub ends_standing : (file : List ℕ) (bodies : List (List ℕ)) (gate : ℕ) → EndsAt file bodies gate → Stands file bodies
ends_standing file bodies gate ends = closed_stands file bodies gate ends.leads ends.closed

-- a write behind the closed gate, whole or cut short, changes nothing in front of it
pub ends_kept : (file c : List ℕ) (bodies : List (List ℕ)) (gate n : ℕ) → EndsAt file bodies gate → Torn (gate + 1) n file c → EndsAt c bodies gate
ends_kept file c bodies gate n ends torn =
    let inside : gate < length c = omega (arith, ends.inside, torn.no_shorter) in
    record {
      leads = leads_kept file c (gate + 1) 0 bodies gate torn.before (omega arith) inside ends.leads;
      inside = inside;
      closed = byte_kept file c (gate + 1) torn.before gate (omega arith) ∙ ends.closed;
    }

-- behind the gate stands what is written for this body
abbrev pub HasBehind : List ℕ → ℕ → List ℕ → Type 0
HasBehind file gate body = (rest : List ℕ) × (drop (gate + 1) file ≡ framed body ++ rest)

-- once it was written there
behind_written : (file c frame body : List ℕ) (gate : ℕ) → gate < length file → c ≡ overwritten file (gate + 1) frame → frame ≡ framed body → HasBehind c gate body
behind_written file c frame body gate inside is form =
    let front = take (gate + 1) file in
    let rest = drop (gate + 1 + length frame) file in
    let size : length front ≡ gate + 1 = length-take-le (gate + 1) file (omega arith) in (
      rest,
      ap (λ (l : List ℕ). drop (gate + 1) l) (is ∙ append_assoc front frame rest)
          ∙ drop_at front (frame ++ rest) (gate + 1) size
          ∙ ap (λ (l : List ℕ). l ++ rest) form,
    )

-- a part of a file
part_at : (file before part behind : List ℕ) (a b : ℕ) → file ≡ before ++ (part ++ behind) → length before ≡ a → a + length part ≡ b → slice_range file a b ≡ part
part_at file before part behind a b is begins ends =
    ap (λ (f : List ℕ). take (b - a) (drop a f)) is
    ∙ ap (λ (l : List ℕ). take (b - a) l) (drop_at before (part ++ behind) a begins)
    ∙ take_at part behind (b - a) (omega arith)

-- the parts of what is written for a body, in their places
module _ (c size body rest : List ℕ) (gate : ℕ) (is : drop (gate + 1) c ≡ size ++ (body ++ 0 ∷ rest)) (inside : gate < length c) (eight : length size ≡ 8) (tells : from_be_bytes w64 size ≡ length body) where
  before : List ℕ
  before = take (gate + 1) c

  to_size : length before ≡ gate + 1
  unfolding before
  to_size = length-take-le (gate + 1) c (omega arith)

  behind_gate : c ≡ before ++ (size ++ (body ++ 0 ∷ rest))
  unfolding before
  behind_gate = sym (take-append-drop (gate + 1) c) ∙ ap (λ (l : List ℕ). take (gate + 1) c ++ l) is

  behind_size : c ≡ (before ++ size) ++ (body ++ 0 ∷ rest)
  behind_size = behind_gate ∙ sym (append_assoc before size (body ++ 0 ∷ rest))

  behind_body : c ≡ ((before ++ size) ++ body) ++ 0 ∷ rest
  behind_body = behind_size ∙ sym (append_assoc (before ++ size) body (0 ∷ rest))

  to_body : length (before ++ size) ≡ gate + 9
  to_body = omega (arith, length-append before size, to_size, eight)

  to_next : length ((before ++ size) ++ body) ≡ gate + 9 + length body
  to_next = omega (arith, length-append (before ++ size) body, to_body)

  number_at : slice_range c (gate + 1) (gate + 9) ≡ size
  number_at = part_at c before size (body ++ 0 ∷ rest) (gate + 1) (gate + 9) behind_gate to_size (omega (arith, eight))

  next_at : next_gate c gate ≡ gate + 9 + length body
  unfolding next_gate
  next_at = ap (λ (l : List ℕ). gate + 9 + from_be_bytes w64 l) number_at ∙ ap (λ (n : ℕ). gate + 9 + n) tells

  whole_at : gate + 9 + length body < length c
  whole_at = omega (arith, ap length behind_body, length-append ((before ++ size) ++ body) (0 ∷ rest), to_next)

  closed_at : slice_index c (gate + 9 + length body) ≡ 0
  closed_at =
      ap (λ (f : List ℕ). slice_index f (gate + 9 + length body)) behind_body ∙ get_or_at ((before ++ size) ++ body) 0 rest 0 (gate + 9 + length body) to_next

  -- behind an open gate they are a frame, in front of a closed gate
  frame_ends : (bodies : List (List ℕ)) → Leads c 0 bodies gate → slice_index c gate ≢ 0 → EndsAt c (bodies ++ body ∷ []) (gate + 9 + length body)
  frame_ends bodies leads is_open =
      let frame : IsFrame c gate body = record {
        is_open = is_open;
        fits = omega (arith, next_at, whole_at);
        body_is = sym (part_at c (before ++ size) body (0 ∷ rest) (gate + 9) (next_gate c gate) behind_size to_body (sym next_at));
      } in
      record {
        leads = subst (λ (n : ℕ). Leads c 0 (bodies ++ body ∷ []) n) next_at (leads_push c 0 bodies gate body leads frame);
        inside = whole_at;
        closed = closed_at;
      }

-- an open gate in front of it makes it the last frame
open_ends : (c body : List ℕ) (bodies : List (List ℕ)) (gate : ℕ) → Leads c 0 bodies gate → gate < length c → HasBehind c gate body → length body < 2 ^ 64 → slice_index c gate ≢ 0 → EndsAt c (bodies ++ body ∷ []) (gate + length (framed body))
unfolding framed
open_ends c body bodies gate leads inside has small is_open =
    let size = to_be_bytes w64 (length body) in
    let rest = has.0 in
    let is : drop (gate + 1) c ≡ size ++ (body ++ 0 ∷ rest) =
    has.1 ∙ append_assoc size (body ++ 0 ∷ []) rest ∙ ap (λ (l : List ℕ). size ++ l) (append_assoc body (0 ∷ []) rest) in
    let tells : from_be_bytes w64 size ≡ length body = from_be_bytes-to_be_bytes_8 (length body) small in
    let place : gate + 9 + length body ≡ gate + length (framed body) = omega (arith, framed_length body) in
    subst (λ (n : ℕ). EndsAt c (bodies ++ body ∷ []) n) place (frame_ends c size body rest gate is inside refl tells bodies leads is_open)

-- the frame of this body is written behind the closed gate of a log with these
pub record AwaitsGate (file : List ℕ) (bodies : List (List ℕ)) (body : List ℕ) (gate : ℕ) : Type 0 where
  pub ends : EndsAt file bodies gate
  pub behind : HasBehind file gate body
  pub small : length body < 2 ^ 64

-- after the write
pub awaits : (file c frame body : List ℕ) (bodies : List (List ℕ)) (gate : ℕ) → EndsAt file bodies gate → frame ≡ framed body → gate + 1 + length frame < 2 ^ 58 → c ≡ overwritten file (gate + 1) frame → Torn (gate + 1) (length frame) file c → AwaitsGate c bodies body gate
awaits file c frame body bodies gate ends form fits is torn = record {
  ends = ends_kept file c bodies gate (length frame) ends torn;
  behind = behind_written file c frame body gate ends.inside is form;
  small = omega (arith, fits, ap length form, framed_length body);
}

-- the gate alone is written over
module _ (file c body : List ℕ) (bodies : List (List ℕ)) (gate : ℕ) (ready : AwaitsGate file bodies body gate) (torn : Torn gate 1 file c) where
  within : gate < length c
  within = omega (arith, ready.ends.inside, torn.no_shorter)

  leads_on : Leads c 0 bodies gate
  leads_on = leads_kept file c gate 0 bodies gate torn.before (omega arith) within ready.ends.leads

  -- any byte but 0 opens it
  opened_ends : slice_index c gate ≢ 0 → EndsAt c (bodies ++ body ∷ []) (gate + length (framed body))
  opened_ends is_open = open_ends c body bodies gate leads_on within (ready.behind.0, torn.after ∙ ready.behind.1) ready.small is_open

  -- 0 leaves it closed
  pub gate_torn : StandsWithOrWithout bodies body c
  gate_torn = elim (cases_eq (slice_index c gate) 0) [
    | inl closed ↦ inl (ends_standing c bodies gate (record { leads = leads_on; inside = within; closed = closed }))
    | inr is_open ↦ inr (ends_standing c (bodies ++ body ∷ []) (gate + length (framed body)) (opened_ends is_open))
  ]

-- once 1 is written on it, the frame is the log's
pub gate_opened : (file c frame body : List ℕ) (bodies : List (List ℕ)) (gate : ℕ) → AwaitsGate file bodies body gate → frame ≡ framed body → Torn gate 1 file c → c ≡ overwritten file gate (1 ∷ []) → EndsAt c (bodies ++ body ∷ []) (gate + length frame)
gate_opened file c frame body bodies gate ready form torn is =
    let front = take gate file in
    let rest = drop (gate + 1) file in
    let size : length front ≡ gate = length-take-le gate file (omega (arith, ready.ends.inside)) in
    let one : slice_index c gate ≡ 1 = ap (λ (l : List ℕ). slice_index l gate) (is ∙ append_assoc front (1 ∷ []) rest) ∙ get_or_at front 1 rest 0 gate size in
    let ends = opened_ends file c body bodies gate ready torn (λ closed. omega (arith, one, closed)) in
    subst (λ (l : List ℕ). EndsAt c (bodies ++ body ∷ []) (gate + length l)) (sym form) ends

-- what a crash leaves of a write behind the gate
pub left_behind : (file c : List ℕ) (bodies : List (List ℕ)) (body : List ℕ) (gate n : ℕ) (images : List ℕ → Type 0) → EndsAt file bodies gate → Only file images → LeftByWriting (gate + 1) n images c → StandsWithOrWithout bodies body c
left_behind file c bodies body gate n images ends only left =
    let torn : Torn (gate + 1) n file c = subst (λ (d : List ℕ). Torn (gate + 1) n d c) (only left.0 left.1) left.2 in
    inl (ends_standing c bodies gate (ends_kept file c bodies gate n ends torn))

-- and of the write on it
pub left_on : (file c body : List ℕ) (bodies : List (List ℕ)) (gate : ℕ) (images : List ℕ → Type 0) → AwaitsGate file bodies body gate → Only file images → LeftByWriting gate 1 images c → StandsWithOrWithout bodies body c
left_on file c body bodies gate images ready only left =
    gate_torn file c body bodies gate ready (subst (λ (d : List ℕ). Torn gate 1 d c) (only left.0 left.1) left.2)
