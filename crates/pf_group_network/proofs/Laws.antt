-- What a server may rest on in a viable group.
use Rattle.std.proofs.Common.{◌≡◌, ℕ, zero, suc, ◌+◌, ◌<◌, ◌≤◌, false, inl, List, [], ◌∷◌, ◌++◌, length, Some, slice_get, arith, refl, ap, ◌∙◌}
use Rattle.std.proofs.lemmas.Option.{same_Some}
use Rattle.pf_entry.specs.Lists.{Every}
use Rattle.pf_entry.specs.Canonical.{IsCanonicalPacket}
use Rattle.pf_entry.specs.declared.packets.Packet.{Packet}
use Rattle.pf_entry.proofs.Lists.{every_get}
use Rattle.pf_protocol.specs.Servers.{Setup, Server, Condition, Running, Stopped, Unformatted}
use Rattle.pf_protocol.specs.Groups.{Sent, ending, happens, send}
use Rattle.pf_protocol.specs.Histories.{RunsAs}
use Rattle.pf_group_network.specs.Pasts.{GroupPast, IsViablePast, PastIsShort}
use Rattle.pf_protocol.specs.Answers.{IsLegalNext, ClaimIsOpen, MayHappen, answer_to}
use Rattle.pf_protocol.specs.declared.events.Event.{Event}
use Rattle.pf_protocol.specs.declared.events.Happening.{Happening}
use Rattle.pf_protocol.specs.Asked.{Asks}
use Rattle.pf_protocol.specs.Fitting.{PacketFits}
use Rattle.pf_protocol.proofs.ForHistories.{HasRoom}
use Rattle.pf_protocol.proofs.ForHistories.{viable_goes, viable_packets, viable_starts}
use Rattle.pf_server.specs.Conditions.{IsFor, IsKnown, ServerIsSound}
use Rattle.pf_group_network.specs.Showing.{seat_of}
use Rattle.pf_group_network.proofs.Fits.{packet_fits, server_fits}

-- a fact of each place is one of the list
pub every_there : {X : Type 0} → (P : X → Type 0) (xs : List X) → ((k : ℕ) (x : X) → slice_get xs k ≡ Some x → P x) → Every P xs
every_there P [] f = tt
every_there P (x ∷ xs) f = (f 0 x refl, every_there P xs (λ k y at. f (suc k) y at))

module _ (setup : Setup) (past : GroupPast) (viable : IsViablePast setup past) where
  pub viable_asks : (i : ℕ) (s : Server) → RunsAs past.group i s → Asks setup.chunk past.group.reads s
  viable_asks = viable.group.asks

  pub viable_room : HasRoom past.group
  viable_room = record { count = viable.group.count; bytes = viable.group.bytes }

  pub viable_open : Every (ClaimIsOpen past.group.servers) past.claims
  viable_open = viable.group.opened

  pub canonical_packets : (k : ℕ) (sent : Sent) → slice_get past.group.packets k ≡ Some sent → IsCanonicalPacket sent.packet
  canonical_packets = viable_packets setup viable.is_setup past.top past.count past.terms past.claims past.group viable.group

  pub its_number : (i : ℕ) (s : Server) → RunsAs past.group i s → s.number ≡ i
  its_number i s at = let x = viable.group.keeps.servers i (Running s) at in x.number

  -- an answered read was taken up
  pub answered_below : Every (λ a. a.number < past.group.reads) past.group.answered
  answered_below = viable.group.answered

  pub few_elections : past.group.elections ≤ 64
  few_elections = viable.group.fits.elections

  module _ (short : PastIsShort past) where
    is_sound : (i : ℕ) (s : Server) → RunsAs past.group i s → ServerIsSound (seat_of setup i) s
    is_sound i s at =
        let keeps = viable.group.keeps.servers i (Running s) at in
        record {
          number = its_number i s at;
          n = past.count;
          t = suc (past.top + past.group.elections);
          low = omega (arith, short.count);
          t_low = omega (arith, short.top, few_elections);
          fits = server_fits setup i past.count (suc (past.top + past.group.elections)) viable.is_setup.window s (viable.group.fits.servers i (Running s) at).1;
          few = viable_starts setup past.top past.count past.terms past.claims past.group viable.group i s at;
          next = past.group.reads;
          asks = viable_asks i s at;
          own = λ l role. keeps.own l role;
        }

    -- what a server needs of its condition
    pub is_known : (i : ℕ) (c : Condition) → slice_get past.group.servers i ≡ Some c → IsKnown (seat_of setup i) c
    is_known i (Running s) at = is_sound i s at
    is_known i (Stopped life before after) at = let f = (viable.group.fits.servers i (Stopped life before after) at).1 in omega (arith, f.0, short.count)
    is_known i Unformatted at = tt

    pub is_member_number : (i : ℕ) (c : Condition) → slice_get past.group.servers i ≡ Some c → i < 3
    is_member_number i c at = (viable.group.fits.servers i c at).0

    pub its_fits : (k : ℕ) (sent : Sent) → slice_get past.group.packets k ≡ Some sent → PacketFits setup past.count (suc (past.top + past.group.elections)) sent.packet
    its_fits k sent at = every_get (λ x. PacketFits setup past.count (suc (past.top + past.group.elections)) x.packet) past.group.packets k sent viable.group.fits.packets at

    -- and of a packet that comes
    pub is_for : (k : ℕ) (sent : Sent) → slice_get past.group.packets k ≡ Some sent → IsFor (seat_of setup sent.packet.to) sent.packet
    is_for k sent at = record {
      n = past.count;
      t = suc (past.top + past.group.elections);
      low = omega (arith, short.count);
      t_low = omega (arith, short.top, few_elections);
      fits = packet_fits setup sent.packet.to past.count (suc (past.top + past.group.elections)) viable.is_setup.window sent.packet (its_fits k sent at);
      to = refl;
    }

    -- what an event that is answered as it should be sends has a spelling
    pub sent_canonical : (event : Event) → MayHappen past.claims event → (packets : List Sent) (ps : List Packet) → (happens setup past.group event (ending (answer_to setup past.group event))).packets ≡ packets ++ send ps → Every IsCanonicalPacket ps
    sent_canonical event asked packets ps is =
        let h : Happening = record { event = event; answer = answer_to setup past.group event } in
        let next : IsLegalNext setup past.group past.claims h = record { asked = asked; answered = inl refl } in
        let later = viable_goes setup viable.is_setup past.top past.count past.terms past.claims past.group viable.group h next in
        let all = viable_packets setup viable.is_setup past.top _ _ _ _ later in
        every_there IsCanonicalPacket ps (λ k p at. all (length packets + k) (record { packet = p; delivered = false; lost = false }) (ap (λ xs. slice_get xs (length packets + k)) is ∙ behind packets ps k p at))
      where
        sent_at : (qs : List Packet) (j : ℕ) (q : Packet) → slice_get qs j ≡ Some q → slice_get (send qs) j ≡ Some (record { packet = q; delivered = false; lost = false })
        sent_at [] j q none = absurd (grind (arith, none))
        sent_at (x ∷ xs) zero q there = ap (λ (y : Packet). Some (record { packet = y; delivered = false; lost = false })) (same_Some x q there)
        sent_at (x ∷ xs) (suc j) q there = sent_at xs j q there

        behind : (xs : List Sent) (qs : List Packet) (j : ℕ) (q : Packet) → slice_get qs j ≡ Some q → slice_get (xs ++ send qs) (length xs + j) ≡ Some (record { packet = q; delivered = false; lost = false })
        behind [] qs j q there = let e : 0 + j ≡ j = omega arith in ap (slice_get (send qs)) e ∙ sent_at qs j q there
        behind (x ∷ xs) qs j q there = let e : suc (length xs) + j ≡ suc (length xs + j) = omega arith in ap (slice_get (x ∷ (xs ++ send qs))) e ∙ behind xs qs j q there
