-- What the packets are that some events send, as there is an event more.
use Rattle.std.proofs.Common.{◌≡◌, ℕ, ◌+◌, ◌<◌, List, [], ◌∷◌, ◌++◌, length, take, get_or, Option, Some, option_and_then, Contains, refl, sym, ap, ◌∙◌, subst, append-nil, append_assoc, arith}
use Rattle.std.proofs.lemmas.List.{take_more}
use Rattle.std.proofs.lemmas.List.Elements.{Contains-append_left, Contains-append_right}
use Rattle.zb_model.specs.declared.record.Event.{Event}
use Rattle.zb_model.specs.declared.record.Packet.{Packet}
use Rattle.zb_views.specs.Standing.{begun_by}
use Rattle.zb_views.proofs.StandingLaws.{standing_more, left_all}
use Rattle.zb_record.specs.Sendings.{sending_told}
use Rattle.zb_record.specs.Packets.{packet_for, packet_sort, kept_by}

module _ (p n : ℕ) where
  -- the packet that an event sends behind others
  abbrev pub sent_behind : List Event → Event → Option Packet
  sent_behind before e = option_and_then (packet_for p n before) (sending_told e)

  -- an event more adds the one that it sends
  pub kept_more : (es : List Event) (e : Event) → kept_by p n (es ++ e ∷ []) ≡ kept_by p n es ++ begun_by (sent_behind es e)
  kept_more es e = standing_more (packet_sort p n) es e ∙ ap (λ (l : List Packet). l ++ begun_by (sent_behind es e)) (left_all (packet_sort p n) es e (kept_by p n es) (λ x. refl) (λ x. refl))

  -- as the events are gone through
  pub kept_so_far : (es : List Event) (place : ℕ) (e : Event) (sent : Option Packet) → place < length es → e ≡ get_or es place e → sent ≡ sent_behind (take place es) e → kept_by p n (take (place + 1) es) ≡ kept_by p n (take place es) ++ begun_by sent
  kept_so_far es place e sent within is sends =
      ap (kept_by p n) (take_more es place e within ∙ ap (λ (x : Event). take place es ++ x ∷ []) (sym is)) ∙ (kept_more (take place es) e ∙ ap (λ (o : Option Packet). kept_by p n (take place es) ++ begun_by o) (sym sends))

  -- what was sent stays among what is
  still_kept : (packet : Packet) (es more : List Event) → Contains (kept_by p n es) packet → Contains (kept_by p n (es ++ more)) packet
  still_kept packet es [] among = subst (λ (l : List Event). Contains (kept_by p n l) packet) (sym (append-nil es)) among
  still_kept packet es (e ∷ more) among =
      let here = subst (λ (l : List Packet). Contains l packet) (sym (kept_more es e)) (Contains-append_left (kept_by p n es) (begun_by (sent_behind es e)) packet among) in
      subst (λ (l : List Event). Contains (kept_by p n l) packet) (append_assoc es (e ∷ []) more) (still_kept packet (es ++ e ∷ []) more here)

  -- a packet that one of some events sends is among those that they send
  pub among_kept : (front : List Event) (e : Event) (more : List Event) (packet : Packet) → sent_behind front e ≡ Some packet → Contains (kept_by p n (front ++ e ∷ more)) packet
  among_kept front e more packet is =
      let last : kept_by p n (front ++ e ∷ []) ≡ kept_by p n front ++ packet ∷ [] = kept_more front e ∙ rw is refl in
      let here = subst (λ (l : List Packet). Contains l packet) (sym last) (Contains-append_right (kept_by p n front) (packet ∷ []) packet (0, omega arith, refl)) in
      subst (λ (l : List Event). Contains (kept_by p n l) packet) (append_assoc front (e ∷ []) more) (still_kept packet (front ++ e ∷ []) more here)
