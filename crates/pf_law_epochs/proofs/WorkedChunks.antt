-- Worked histories of chunks that move.
use Rattle.std.proofs.Common.{◌≡◌, ℕ, zero, suc, ◌+◌, ◌*◌, ◌/◌, ◌%◌, ◌<◌, ◌≤◌, inl, inr, List, [], ◌∷◌, ◌++◌, length, map, take, Option, Some, None, slice_get, arith, true, refl, sym, ap, subst, ◌∙◌}
use Rattle.std.proofs.lemmas.Option.{same_Some, none-some}
use Rattle.pf_entry.specs.Ops.{Sector, writes}
use Rattle.pf_entry.specs.declared.ops.Op.{Op}
use Rattle.pf_protocol.specs.Answers.{IsLegal}
use Rattle.pf_protocol.specs.Fresh.{shows_slot}
use Rattle.pf_protocol.specs.Groups.{Answered}
use Rattle.pf_protocol.specs.LastWriters.{bytes_for}
use Rattle.pf_protocol.specs.Ports.{submitting}
use Rattle.pf_protocol.specs.Shown.{small_group, write_at}
use Rattle.pf_protocol.specs.StaleReads.{stale_read}
use Rattle.pf_law_registers.specs.Orders.{Member, given, IsWriteMember}
use Rattle.pf_law_registers.specs.Sectors.{SectorRegister}
use Rattle.pf_law_registers.specs.Worked.{its_read, ShowsTheWrite}
use Rattle.pf_law_registers.proofs.WriteSubmissions.{source}
use Rattle.pf_law_registers.proofs.SubmissionPorts.{ports_own}
use Rattle.pf_law_registers.proofs.Sectors.{sector_register}
use Rattle.pf_paxos.specs.Blocks.{zero_block}
use Rattle.pf_law_positions.specs.Carried.{zero_read, two_chunks, moved_groups, moved_deeds}
use Rattle.pf_law_positions.specs.Deeds.{PortAsk, PortReply, Puts, Gets, Put, Takes, Submits}
use Rattle.pf_law_positions.specs.Hosted.{IsHosted}
use Rattle.pf_law_positions.specs.Worked.{its_home, its_groups, its_deeds}
use Rattle.pf_law_positions.proofs.WorkedDeeds.{next_there}
use Rattle.pf_law_epochs.specs.InTurn.{AreInTurn, AsksBytes, IsTurnAnsweredBy, last_asked}
use Rattle.pf_law_epochs.specs.Orders.{IsMovers, IsPart, order_of_sector}
use Rattle.pf_law_epochs.specs.Routed.{AreOfPorts, IsRouted}
use Rattle.pf_law_epochs.specs.Worked.{moved_once_more, later_deed, empty_moves, after_moves, WritesAfterMoves, two_writers, OrdersTwoWriters}
use Rattle.pf_law_epochs.proofs.Earlier.{no_submit, routed_later}

only_there : (place : ℕ) (it m : Member) → slice_get (it ∷ []) place ≡ Some m → m ≡ it
only_there zero it m at = sym (same_Some it m at)
only_there (suc place) it m at = absurd (none-some m at)

-- a list with this one member alone
list_of_one : (ms : List Member) (it : Member) → ((j k : ℕ) (a b : Member) → slice_get ms j ≡ Some a → slice_get ms k ≡ Some b → j < k → a.slot < b.slot) → ((place : ℕ) (m : Member) → slice_get ms place ≡ Some m → m ≡ it) → (place : ℕ) × (slice_get ms place ≡ Some it) → ms ≡ it ∷ []
list_of_one [] it up each there = absurd (none-some it there.1)
list_of_one (m ∷ []) it up each there = ap (λ (z : Member). z ∷ []) (each 0 m refl)
list_of_one (m ∷ n ∷ ms) it up each there =
    absurd (omega (arith, up 0 1 m n refl refl (omega arith), ap (λ (z : Member). z.slot) (each 0 m refl), ap (λ (z : Member). z.slot) (each 1 n refl)))

list_of_none : (ms : List Member) → ((place : ℕ) (m : Member) → slice_get ms place ≡ Some m → ⊥) → ms ≡ []
list_of_none [] none = refl
list_of_none (m ∷ ms) none = absurd (none 0 m refl)

abbrev write_of : (first : Sector) → Member
write_of first = record { slot = 1; bytes = first }

-- the group in which one write was made, and one read answered
module _ (first : Sector) (s : ShowsTheWrite first) where
  register : SectorRegister small_group (stale_read first) 0
  register = sector_register small_group (stale_read first) 0

  first_there : slice_get register.order 0 ≡ Some (write_of first)
  first_there = ap (λ ms. slice_get ms 0) (s.order register)

  the_write : IsWriteMember small_group (stale_read first) 0 (write_of first)
  the_write = register.is_order.each 0 (write_of first) first_there

  only_write : (m : Member) → IsWriteMember small_group (stale_read first) 0 m → m ≡ write_of first
  only_write m w =
      let found = register.is_order.all m w in
      only_there found.0 (write_of first) m (sym (ap (λ ms. slice_get ms found.0) (s.order register)) ∙ found.1)

  read_shows : shows_slot (its_read first) 1 ≡ true
  read_shows =
      let g = (s.acked register).taken.gives in
      (register.had_applied g.k (its_read first) 0 (write_of first) g.answered first_there).0 (omega (arith, s.shown register))

no_write : (m : Member) → IsWriteMember small_group zero_read 0 m → ⊥
no_write m w =
    let s = source small_group zero_read m.slot w.term w.op 0 m.bytes w.chosen w.gives in
    no_submit (length s.submission.before) s.submission.server s.submission.op s.submission.answer (next_there s.submission.before zero_read (submitting s.submission) s.made).0

module _ (first : Sector) (s : ShowsTheWrite first) (hosted : IsHosted (its_groups first) (λ bytes. zero_block) its_home (its_deeds first)) (carried : IsHosted moved_groups (λ bytes. zero_block) two_chunks moved_deeds) where
  of_ports : (epoch nth : ℕ) → epoch ≤ 0 → nth < 8 → AreOfPorts (its_groups first) 0 epoch (8 * 0 + nth)
  of_ports epoch nth le low before server op answer bytes made took gives =
      let same : 8 * 0 + nth ≡ 8 * (nth / 8) + nth % 8 = omega (arith, low) in
      elim (hosted.alone nth epoch (omega (arith, low)) le before server op answer bytes made took (ap (given op) (sym same) ∙ gives)) [
        | inl movers ↦ inl movers
        | inr its ↦ inr (nth, its)
      ]

  unmoved : IsRouted (its_groups first) (its_deeds first) 0 0
  unmoved = record {
    fits = hosted.fits 0 (omega arith);
    legal = λ epoch le. hosted.legal 0 epoch (omega arith) le;
    inside = λ epoch le. omega arith;
    of_ports = of_ports;
    last = λ epoch. its_read first;
    moved = λ epoch lt. absurd (omega (arith, lt));
  }

  legal : IsLegal small_group zero_read
  legal = carried.legal 0 0 (omega arith) (omega arith)

  routed : IsRouted (empty_moves first) (after_moves first) 0 0
  routed =
      let m = carried.moved 0 0 (omega arith) (omega arith) in
      routed_later (moved_once_more (its_groups first) zero_read) (map later_deed (its_deeds first)) 0 legal (carried.last 0 0) m
      (routed_later (its_groups first) (its_deeds first) 0 legal (carried.last 0 0) m unmoved)

  abbrev ArePartsOf : (ℕ → Answered) → (ℕ → List Member) → Type 0
  ArePartsOf last parts = (epoch : ℕ) → epoch ≤ 2 → IsPart (empty_moves first) 0 0 epoch (last epoch) (parts epoch)

  order : (last : ℕ → Answered) (parts : ℕ → List Member) → ArePartsOf last parts → order_of_sector parts 2 ≡ write_of first ∷ []
  order last parts are =
      let zero_is : parts 0 ≡ [] = list_of_none (parts 0) (λ place m at. no_write m ((are 0 (omega arith)).each place m at).is_write) in
      let one_is : parts 1 ≡ [] = list_of_none (parts 1) (λ place m at. no_write m ((are 1 (omega arith)).each place m at).is_write) in
      let p = are 2 (omega arith) in
      let two_is : parts 2 ≡ write_of first ∷ [] = list_of_one (parts 2) (write_of first) p.ascends (λ place m at. only_write first s m (p.each place m at).is_write)
      (p.all (write_of first) (record {
        is_write = the_write first s;
        not_movers = λ (is : IsMovers (empty_moves first) 0 2 1). none-some is.submission is.there;
        was_moved = λ lt. absurd (omega (arith, lt));
      })) in
      ap (λ a. (a ++ parts 1) ++ parts 2) zero_is ∙ ap (λ b. ([] ++ b) ++ parts 2) one_is ∙ two_is

  -- the one ask of a write
  abbrev Asks : (client write : ℕ) (bytes : Sector) → Type 0
  Asks client write bytes = AsksBytes (after_moves first) 0 0 client write bytes

  the_ask : (client write : ℕ) (bytes : Sector) → write < 4 → Asks client write bytes → (write ≡ 0) × (client ≡ 0)
  the_ask client zero bytes low a =
      let same = same_Some _ _ a.at in
      (refl, asker client a.reply a.op same)
    where
      asker : (client : ℕ) (reply : Option PortReply) (op : Op) → Takes 0 None (Some (Puts 0 (write_at 0 first))) ≡ Takes client reply (Some (Puts 0 op)) → client ≡ 0
      asker client reply op same = cc
  the_ask client (suc zero) bytes low a = let same : Submits 0 0 2 3 ≡ Takes client a.reply (Some (Puts 0 a.op)) = same_Some _ _ a.at in absurd (cc)
  the_ask client (suc (suc zero)) bytes low a = absurd (no_write_there a.op a.reply client (same_Some _ _ a.at))
    where
      no_write_there : (op : Op) (reply : Option PortReply) (client : ℕ) → Takes 0 (Some (Put 0 2 13 (write_at 0 first))) (Some (Gets 0 (record { first = 0; count = 1 }))) ≡ Takes client reply (Some (Puts 0 op)) → ⊥
      no_write_there op reply client same = absurd (cc)
  the_ask client (suc (suc (suc zero))) bytes low a = let same : Submits 0 0 2 13 ≡ Takes client a.reply (Some (Puts 0 a.op)) = same_Some _ _ a.at in absurd (cc)
  the_ask client (suc (suc (suc (suc n)))) bytes low a = absurd (omega (arith, low))

  no_turn_between : (k : ℕ) (its : Option PortReply) (next : Option PortAsk) → 0 < k → k < 2 → slice_get (after_moves first) k ≡ Some (Takes 0 its next) → ⊥
  no_turn_between zero its next lt less at = omega (arith, lt)
  no_turn_between (suc zero) its next lt less at = let same : Submits 0 0 2 3 ≡ Takes 0 its next = same_Some _ _ at in absurd (cc)
  no_turn_between (suc (suc k)) its next lt less at = omega (arith, less)

  its_answer : IsTurnAnsweredBy (after_moves first) 0 0 2
  its_answer = record {
    turn = 2;
    by_then = omega arith;
    ask = Puts 0 (write_at 0 first);
    pending = record { reply = None; at = refl; earlier = omega arith; no_other = no_turn_between };
    reply = Some (Put 0 2 13 (write_at 0 first));
    next = Some (Gets 0 (record { first = 0; count = 1 }));
    at = refl;
  }

  in_turn : AreInTurn (after_moves first) 0 0 2 4
  in_turn = record {
    before = λ client write bytes low a.
        let one = the_ask client write bytes low a in
        subst (λ w. IsTurnAnsweredBy (after_moves first) client w 2) (sym one.0) (subst (λ n. IsTurnAnsweredBy (after_moves first) n 0 2) (sym one.1) its_answer);
    apart = λ client write other later bytes its less low a b.
        let one = the_ask other later its low b in
        absurd (omega (arith, less, one.0));
  }

  last_write : last_asked 0 0 (take 2 (after_moves first)) ≡ first
  unfolding given bytes_for writes
  last_write = refl

  pub writes_after_moves : WritesAfterMoves first
  writes_after_moves = record { routed = routed; order = order; in_turn = in_turn; last = last_write }

module _ (first second : Sector) (s : ShowsTheWrite first) (t : ShowsTheWrite second) where
  movers : IsMovers (two_writers first second) 0 1 1
  movers =
      let w = the_write first s in
      let q = source small_group (stale_read first) 1 w.term w.op 0 first w.chosen w.gives in
      let own = ports_own small_group _ (stale_read first) 1 w.op q (s.alone q.submission.before q.submission.server q.submission.op q.submission.answer first q.made q.comes.copy.took_place (ap (λ o. given o 0) q.same_op ∙ w.gives)) in
      record { k = own.k; submission = own.submission; there = own.there; comes = own.comes }

  pub orders_two_writers : OrdersTwoWriters first second
  orders_two_writers = record { order = order_is }
    where
      order_is : (parts : ℕ → List Member) → ((epoch : ℕ) → epoch ≤ 2 → IsPart (two_writers first second) 0 0 epoch (its_read first) (parts epoch)) → order_of_sector parts 2 ≡ write_of first ∷ write_of second ∷ []
      order_is parts are =
          let p = are 0 (omega arith) in
          let q = are 1 (omega arith) in
          let r = are 2 (omega arith) in
          let zero_is : parts 0 ≡ write_of first ∷ [] = list_of_one (parts 0) (write_of first) p.ascends (λ place m at. only_write first s m (p.each place m at).is_write)
          (p.all (write_of first) (record {
            is_write = the_write first s;
            not_movers = λ (is : IsMovers (two_writers first second) 0 0 1). none-some is.submission is.there;
            was_moved = λ lt. read_shows first s;
          })) in
          let one_is : parts 1 ≡ [] = list_of_none (parts 1) (λ place m at. let w = q.each place m at in w.not_movers (subst (IsMovers (two_writers first second) 0 1) (sym (ap (λ (z : Member). z.slot) (only_write first s m w.is_write))) movers)) in
          let two_is : parts 2 ≡ write_of second ∷ [] = list_of_one (parts 2) (write_of second) r.ascends (λ place m at. only_write second t m (r.each place m at).is_write)
          (r.all (write_of second) (record {
            is_write = the_write second t;
            not_movers = λ (is : IsMovers (two_writers first second) 0 2 1). none-some is.submission is.there;
            was_moved = λ lt. absurd (omega (arith, lt));
          })) in
          ap (λ a. (a ++ parts 1) ++ parts 2) zero_is ∙ ap (λ b. ((write_of first ∷ []) ++ b) ++ parts 2) one_is ∙ ap (λ c. write_of first ∷ c) two_is
