-- A block's sector over the epochs of its chunk.
use Rattle.std.proofs.Common.{◌≡◌, ℕ, zero, suc, ◌+◌, ◌/◌, ◌%◌, ◌<◌, ◌≤◌, ◌⊎◌, inl, inr, List, length, take, Option, Some, None, slice_get, arith, refl, sym, ap, subst, ◌∙◌}
use Rattle.std.proofs.lemmas.Option.{same_Some, none-some}
use Rattle.std.proofs.lemmas.Bool.{cases_lt}
use Rattle.pf_entry.specs.Ops.{Sector, zero_sector}
use Rattle.pf_protocol.specs.Servers.{Setup}
use Rattle.pf_protocol.specs.Groups.{Answered}
use Rattle.pf_protocol.specs.Histories.{History, IsPrefix}
use Rattle.pf_protocol.specs.Fresh.{IsFetch}
use Rattle.pf_protocol.specs.Ports.{Submission, submitting, WriteHasEnded, FollowsRule, ComesFrom}
use Rattle.pf_protocol.proofs.ForMoments.{begins_with, whole_prefix}
use Rattle.pf_law_registers.specs.Registers.{IsAtLeast, IsNotBelow}
use Rattle.pf_law_registers.specs.Orders.{given}
use Rattle.pf_law_registers.specs.Sectors.{ReadGives, IsAnsweredBefore}
use Rattle.pf_law_registers.specs.Alone.{IsWriteAckedBefore, HasBytes, IsWriteAskedBefore}
use Rattle.pf_law_registers.proofs.Lists.{something_there}
use Rattle.pf_law_registers.proofs.SubmissionPlaces.{placed}
use Rattle.pf_paxos.specs.declared.block.Block.{Block}
use Rattle.pf_law_positions.specs.Deeds.{Puts, Deed, Submits, Hands, Groups, WriteIsHanded, DeedsFit}
use Rattle.pf_law_positions.specs.Moves.{mover_into, WasWritten, WereWritten, ChunkIsMoved}
use Rattle.pf_law_positions.specs.Homes.{PositionHome, chunk_of_block, sector_of}
use Rattle.pf_law_positions.specs.Hosted.{IsHosted}
use Rattle.pf_law_positions.proofs.Answers.{prefix_taken, taken_whole, eight_given}
use Rattle.pf_law_positions.proofs.ClientRules.{ruled}
use Rattle.pf_law_positions.proofs.TakenReads.{answered_taken_up, slot_acked}
use Rattle.pf_law_positions.proofs.MovedFirst.{Carried, Begins, IsLater, IsFrom, Sees, shown, sees}

-- what a read shows of the own group's writes, and else what was carried there
abbrev pub own_or : Option ℕ → Option ℕ → Option ℕ
own_or None carried = carried
own_or (Some write) carried = Some write

pub not_below_itself : (o : Option ℕ) → IsNotBelow o o
not_below_itself None = tt
not_below_itself (Some write) = omega arith

pub not_below_both : (a b c : Option ℕ) → IsNotBelow a b → IsNotBelow b c → IsNotBelow a c
not_below_both a b None p q = tt
not_below_both a None (Some w) p q = absurd q
not_below_both None (Some v) (Some w) p q = absurd p
not_below_both (Some u) (Some v) (Some w) p q = omega (arith, p, q)

pub at_least_both : (a b : Option ℕ) (write : ℕ) → IsNotBelow a b → IsAtLeast b write → IsAtLeast a write
at_least_both a None write p q = absurd q
at_least_both None (Some v) write p q = absurd p
at_least_both (Some u) (Some v) write p q = omega (arith, p, q)

own_at_least : (own carried : Option ℕ) (write : ℕ) → IsAtLeast own write → IsAtLeast (own_or own carried) write
own_at_least None carried write low = absurd low
own_at_least (Some w) carried write low = low

module _ (groups : Groups) (read : Sector → Block) (home : PositionHome) (deeds : List Deed) (hosted : IsHosted groups read home deeds) (b : ℕ) where
  abbrev c : ℕ
  c = chunk_of_block home b

  abbrev x : ℕ
  x = sector_of home b

  abbrev setup : ℕ → Setup
  setup e = groups.setup (chunk_of_block home b) e

  abbrev history : ℕ → History
  history e = groups.history (chunk_of_block home b) e

  abbrev port : ℕ → List Submission
  port e = groups.writes (chunk_of_block home b) e b

  abbrev mover : ℕ → List Submission
  mover e = mover_into groups (chunk_of_block home b) e

  abbrev last : ℕ → Answered
  last e = hosted.last (b / 8) e

  -- a read in the epoch's group that was taken up after the move into it
  abbrev pub Later : ℕ → Answered → Type 0
  Later e answer = IsLater (setup e) (history e) x (mover e) (port e) zero_sector answer

  -- what was carried into the epoch's group
  abbrev IsInitial : ℕ → Sector → Type 0
  IsInitial zero initial = initial ≡ zero_sector
  IsInitial (suc e) initial = ReadGives (setup e) (history e) x (last e) initial

  record Facts (e : ℕ) (shows : Answered → Option ℕ) : Type 0 where
    initial : Sector
    is_initial : IsInitial e initial
    sees : Sees (setup e) (history e) x (mover e) (port e) initial shows

  record Seen (e : ℕ) : Type 0 where
    shows : Answered → Option ℕ
    facts : b < 16 → e ≤ groups.moves (chunk_of_block home b) → Facts e shows

  module _ (low : b < 16) where
    pub half_low : b / 8 < 2
    half_low = omega arith

    pub place_low : b % 8 < 8
    place_low = omega arith

    pub fits : DeedsFit groups deeds c
    fits = hosted.fits (b / 8) half_low

    pub its_rule : (e : ℕ) → e ≤ groups.moves c → FollowsRule (setup e) (history e) (port e)
    its_rule e le = ruled groups deeds c fits e b le (hosted.legal (b / 8) e half_low le)

    pub its_handed : (e k : ℕ) (a : Submission) → e ≤ groups.moves c → slice_get (port e) k ≡ Some a → WriteIsHanded deeds c e b a
    its_handed e k a le at = (fits.port e b le).handed k a at

    pub was_moved : (e : ℕ) → e < groups.moves c → ChunkIsMoved groups deeds c (home.first (b / 8)) e (last e)
    was_moved e lt = hosted.moved (b / 8) e half_low lt

    mover_rule : (e : ℕ) → e ≤ groups.moves c → FollowsRule (setup e) (history e) (mover e)
    mover_rule zero le = record {
      happened = λ k a at. absurd (none-some a at);
      in_order = λ j k a b at there lt. absurd (none-some a at);
      ascends = λ j k a b at there lt. absurd (none-some a at);
      no_lower = λ j k a b at there lt. absurd (none-some a at);
      again = λ j k a b at there lt. absurd (none-some a at);
      waits = λ j k a b at there lt. absurd (none-some a at);
    }
    mover_rule (suc e) le = (was_moved e (omega (arith, le))).rule

    pub last_taken : (e : ℕ) → (lt : e < groups.moves c) → IsFetch (setup e) (history e) (last e).number (last e).server (last e).range (take (was_moved e lt).place (history e))
    last_taken e lt = let m = was_moved e lt in (answered_taken_up (setup e) (history e) m.place m.server m.k (last e).range (last e) (hosted.legal (b / 8) e half_low (omega (arith, lt))) m.taken m.answered).took_up

    -- the last read gives the sector some bytes
    pub record LastGives (e : ℕ) : Type 0 where
      pub bytes : Sector
      pub gives : ReadGives (setup e) (history e) x (last e) bytes

    pub last_gives : (e : ℕ) → e < groups.moves c → LastGives e
    last_gives e lt =
        let m = was_moved e lt in
        let eight = eight_given (setup e) (history e) m.k (last e) (hosted.legal (b / 8) e half_low (omega (arith, lt))) m.answered (omega (arith, hosted.inside (b / 8) e half_low (omega (arith, lt)), m.from, m.eight)) in
        let some = something_there (last e).bytes (b % 8) (omega (arith, eight, m.eight, place_low)) in
        record { bytes = some.0; gives = record { k = m.k; answered = m.answered; nth = b % 8; is_sector = ap (λ n. n + b % 8) (sym m.from); has = some.1 } }

    -- what was written of the move has ended, and comes from it
    record Ended (e write : ℕ) (now : History) (w : WasWritten (setup e) (mover e) now x write) : Type 0 where
      ended : WriteHasEnded (setup e) (mover e) now write
      same : ended.final ≡ w.final
      comes : ComesFrom (setup e) (history e) ended.answered.acked.slot ended.final

    ended_at : (e write : ℕ) (now : History) → e ≤ groups.moves c → IsPrefix now (history e) → (w : WasWritten (setup e) (mover e) now x write) → Ended e write now w
    ended_at e write now le p w =
        let acked = slot_acked (setup e) (history e) now w.final w.slot w.term w.n (hosted.legal (b / 8) e half_low le) ((mover_rule e le).happened w.m w.final w.at) w.took_slot w.in_term w.acked in
        let placed_at = placed (setup e) (history e) now w.final w.slot (hosted.legal (b / 8) e half_low le) ((mover_rule e le).happened w.m w.final w.at) p w.took_slot acked.answered in
        record {
          ended = record { m = w.m; final = w.final; at = w.at; same = w.same; no_later = w.is_last; answered = acked.answered };
          same = refl;
          comes = subst (λ slot. ComesFrom (setup e) (history e) slot w.final) (placed_at.in_slot ∙ sym acked.in_slot) placed_at.comes;
        }

    pub later_from : (e by : ℕ) (answer : Answered) (bytes : Sector) → e ≤ groups.moves c → WereWritten groups c (home.first (b / 8)) e by → ReadGives (setup e) (history e) x answer bytes → IsFetch (setup e) (history e) answer.number answer.server answer.range (take by (history e)) → Later e answer
    later_from e by answer bytes le were gives fetched k a its at is =
        let w = were k (b % 8) a its at place_low is in
        let z = ended_at e a.write (take by (history e)) le (prefix_taken by (history e)) w in
        record {
          taken = record { bytes = bytes; gives = gives; before = take by (history e); fetched = fetched };
          ended = z.ended;
          its_bytes = w.bytes;
          writes_it = ap (λ (a : Submission). given a.op x) z.same ∙ w.gives;
          comes = z.comes;
        }

    -- clients wait for the move
    pub waited : (e moment client place : ℕ) → e ≤ groups.moves c → slice_get deeds moment ≡ Some (Submits client c e place) → WereWritten groups c (home.first (b / 8)) e place
    waited zero moment client place le at = λ k nth a its there inside is. absurd (none-some a there)
    waited (suc e) moment client place le at = (was_moved e (omega (arith, le))).clients_wait moment client place at

    last_later : (e : ℕ) (bytes : Sector) → e < groups.moves c → ReadGives (setup e) (history e) x (last e) bytes → Later e (last e)
    last_later e bytes lt gives = let m = was_moved e lt in later_from e m.place (last e) bytes (omega (arith, lt)) m.after_move gives (last_taken e lt)

    after_move : (e : ℕ) → e ≤ groups.moves c → (i k : ℕ) (a s : Submission) (its : Sector) → slice_get (mover e) i ≡ Some a → given a.op x ≡ Some its → slice_get (port e) k ≡ Some s → WriteHasEnded (setup e) (mover e) s.before a.write
    after_move e le i k a s its at is there =
        let h = its_handed e k s le there in
        let w = waited e h.moment b (length s.before) le h.at i (b % 8) a its at place_low is in
        let z = ended_at e a.write (take (length s.before) (history e)) le (prefix_taken (length s.before) (history e)) w in
        let happened = (its_rule e le).happened k s there in
        subst (λ now. WriteHasEnded (setup e) (mover e) now a.write) (taken_whole s.before (history e) (begins_with s.before (history e) (submitting s) happened)) z.ended

    same_bytes : (e : ℕ) (initial : Sector) → e ≤ groups.moves c → IsInitial e initial → (k : ℕ) (a : Submission) (its : Sector) → slice_get (mover e) k ≡ Some a → given a.op x ≡ Some its → its ≡ initial
    same_bytes zero initial le is k a its at has = absurd (none-some a at)
    same_bytes (suc e) initial le is k a its at has =
        let m = was_moved e (omega (arith, le)) in
        let one : is.nth ≡ b % 8 = omega (arith, is.is_sector, m.from) in
        same_Some its initial (sym (m.same k (b % 8) a its at place_low has) ∙ ap (slice_get (last e).bytes) (sym one) ∙ is.has)

    made_some : (e : ℕ) (initial : Sector) → e ≤ groups.moves c → IsInitial e initial → (initial ≡ zero_sector) ⊎ Carried (setup e) (history e) x (mover e) (port e) initial
    made_some zero initial le is = inl is
    made_some (suc e) initial le is =
        let m = was_moved e (omega (arith, le)) in
        let one : is.nth ≡ b % 8 = omega (arith, is.is_sector, m.from) in
        elim (m.all (b % 8) initial place_low (ap (slice_get (last e).bytes) (sym one) ∙ is.has)) [
          | inl zeros ↦ inl zeros
          | inr (write, w) ↦
              let z = ended_at (suc e) write (history (suc e)) le (whole_prefix (history (suc e))) w in
              inr (record {
                slot = z.ended.answered.acked.slot;
                k = z.ended.m;
                a = z.ended.final;
                there = z.ended.at;
                bytes = w.bytes;
                gives = ap (λ (a : Submission). given a.op x) z.same ∙ w.gives;
                comes = z.comes;
              })
        ]

    begins : (e : ℕ) (initial : Sector) → e ≤ groups.moves c → IsInitial e initial → Begins (setup e) (history e) x (mover e) (port e) initial
    begins e initial le is = record {
      rule = its_rule e le;
      mover_rule = mover_rule e le;
      alone = hosted.alone b e low le;
      after = λ i k a s its other at is there has. after_move e le i k a s its at is there;
      same = same_bytes e initial le is;
      made = made_some e initial le is;
    }

    start : (e : ℕ) → e ≤ groups.moves c → (initial : Sector) × IsInitial e initial
    start zero le = (zero_sector, refl)
    start (suc e) le = let g = last_gives e (omega (arith, le)) in (g.bytes, g.gives)

    seen_within : (e : ℕ) → e ≤ groups.moves c → Seen e
    seen_within e le =
        let p = start e le in
        let z = begins e p.0 le p.1 in
        record {
          shows = shown (setup e) (history e) x (mover e) (port e) p.0 z;
          facts = λ is_block within. record { initial = p.0; is_initial = p.1; sees = sees (setup e) (history e) x (mover e) (port e) p.0 z };
        }

  seen : (e : ℕ) → Seen e
  seen e = elim (cases_lt b 16) [
    | inl low ↦ elim (cases_lt (groups.moves c) e) [
      | inr within ↦ seen_within low e within
      | inl past ↦ record { shows = λ answer. None; facts = λ is_block within. absurd (omega (arith, within, past)) }
    ]
    | inr high ↦ record { shows = λ answer. None; facts = λ is_block within. absurd (omega (arith, is_block, high)) }
  ]

  -- the write that a read of the epoch's group shows: one of that group, or else the one that the last read before it showed
  pub value : ℕ → Answered → Option ℕ
  value zero answer = (seen zero).shows answer
  value (suc e) answer = own_or ((seen (suc e)).shows answer) (value e (last e))

  -- it is a write of this epoch's group or of an earlier one, with these bytes; or there is none, and they are zeros
  abbrev pub IsShown : ℕ → Option ℕ → Sector → Type 0
  IsShown e None bytes = bytes ≡ zero_sector
  IsShown e (Some write) bytes = (of : ℕ) × (of ≤ e) × HasBytes (history of) (port of) x write bytes

  by_first : (initial : Sector) (bytes : Sector) (o : Option ℕ) → initial ≡ zero_sector → IsFrom (setup zero) (history zero) x (mover zero) (port zero) initial o bytes → IsShown zero o bytes
  by_first initial bytes None zeros is = is ∙ zeros
  by_first initial bytes (Some write) zeros is = (zero, omega arith, is)

  by_carried : (e : ℕ) (bytes : Sector) (o : Option ℕ) → IsShown e o bytes → IsShown (suc e) o bytes
  by_carried e bytes None is = is
  by_carried e bytes (Some write) is = (is.0, omega (arith, is.1), is.2)

  by_own : (e : ℕ) (initial bytes : Sector) (o carried : Option ℕ) → IsShown e carried initial → IsFrom (setup (suc e)) (history (suc e)) x (mover (suc e)) (port (suc e)) initial o bytes → IsShown (suc e) (own_or o carried) bytes
  by_own e initial bytes None carried before is = by_carried e bytes carried (subst (IsShown e carried) (sym is) before)
  by_own e initial bytes (Some write) carried before is = (suc e, omega arith, is)

  module _ (low : b < 16) where
    pub shown_bytes : (e : ℕ) (answer : Answered) (bytes : Sector) → e ≤ groups.moves c → ReadGives (setup e) (history e) x answer bytes → Later e answer → IsShown e (value e answer) bytes
    unfolding value
    shown_bytes zero answer bytes le gives later =
        let f = (seen zero).facts low le in
        by_first f.initial bytes ((seen zero).shows answer) f.is_initial (f.sees.gives answer bytes gives later)
    shown_bytes (suc e) answer bytes le gives later =
        let f = (seen (suc e)).facts low le in
        let lt : e < groups.moves c = omega (arith, le) in
        let before = shown_bytes e (last e) f.initial (omega (arith, le)) f.is_initial (last_later low e f.initial lt f.is_initial) in
        by_own e f.initial bytes ((seen (suc e)).shows answer) (value e (last e)) before (f.sees.gives answer bytes gives later)

    -- of two writes into groups of two epochs, the one into the earlier was not asked later
    goes_on : (e other : ℕ) → e < other → other ≤ groups.moves c → (j k : ℕ) (a s : Submission) → slice_get (port e) j ≡ Some a → slice_get (port other) k ≡ Some s → a.write ≤ s.write
    goes_on e other lt le j k a s at there =
        let ha = its_handed low e j a (omega (arith, lt, le)) at in
        let hs = its_handed low other k s le there in
        elim (cases_lt s.write a.write) [
          | inr not_later ↦ not_later
          | inl later ↦ elim (cases_lt ha.moment hs.moment) [
            | inl sooner ↦ absurd (hs.pending.no_other a.write ha.pending.reply (Some (Puts c a.op)) later (omega (arith, ha.pending.earlier, sooner)) ha.pending.at)
            | inr not_sooner ↦ elim (cases_lt hs.moment ha.moment) [
              | inl wrong ↦ absurd (omega (arith, lt, (fits low).goes_on hs.moment ha.moment other e _ _ wrong hs.at (Hands b (length s.before)) ha.at (Hands b (length a.before))))
              | inr not_wrong ↦
                  let same : ha.moment ≡ hs.moment = omega (arith, not_sooner, not_wrong) in
                  let one : Submits b c e (length a.before) ≡ Submits b c other (length s.before) = same_Some _ _ (sym ha.at ∙ ap (slice_get deeds) same ∙ hs.at) in
                  let both : e ≡ other = cc in
                  absurd (omega (arith, lt, both))
            ]
          ]
        ]

    above_carried : (e write k : ℕ) (s : Submission) (initial : Sector) (o : Option ℕ) → suc e ≤ groups.moves c → slice_get (port (suc e)) k ≡ Some s → s.write ≡ write → IsShown e o initial → IsNotBelow (Some write) o
    above_carried e write k s initial None le at is shown = tt
    above_carried e write k s initial (Some w) le at is (of, within, has) =
        omega (arith, goes_on of (suc e) (omega (arith, within)) le has.1.k k has.1.submission s has.1.there at, has.1.is_write, is)

    -- a read shows nothing older than the last read of the group before
    pub reaches_last : (e : ℕ) (answer : Answered) → e < groups.moves c → IsNotBelow (value (suc e) answer) (value e (last e))
    unfolding value
    reaches_last e answer lt = by ((seen (suc e)).shows answer) refl
      where
        by : (o : Option ℕ) → (seen (suc e)).shows answer ≡ o → IsNotBelow (own_or ((seen (suc e)).shows answer) (value e (last e))) (value e (last e))
        by None is = subst (λ o. IsNotBelow (own_or o (value e (last e))) (value e (last e))) (sym is) (not_below_itself (value e (last e)))
        by (Some write) is =
            let f = (seen (suc e)).facts low (omega (arith, lt)) in
            let wrote = f.sees.wrote answer write is in
            let before = shown_bytes e (last e) f.initial (omega (arith, lt)) f.is_initial (last_later low e f.initial lt f.is_initial) in
            subst (λ o. IsNotBelow (own_or o (value e (last e))) (value e (last e))) (sym is) (above_carried e write wrote.0 wrote.1 f.initial (value e (last e)) (omega (arith, lt)) wrote.2 wrote.3 before)

    pub acked_value : (e : ℕ) (answer : Answered) (write : ℕ) → e ≤ groups.moves c → IsWriteAckedBefore (setup e) (history e) (port e) x write answer → IsAtLeast (value e answer) write
    unfolding value
    acked_value zero answer write le acked = ((seen zero).facts low le).sees.acked answer write acked
    acked_value (suc e) answer write le acked = own_at_least ((seen (suc e)).shows answer) (value e (last e)) write (((seen (suc e)).facts low le).sees.acked answer write acked)

    pub grows_value : (e : ℕ) (answer later : Answered) → e ≤ groups.moves c → IsAnsweredBefore (setup e) (history e) x answer later → IsNotBelow (value e later) (value e answer)
    unfolding value
    grows_value zero answer later le before = ((seen zero).facts low le).sees.grows answer later before
    grows_value (suc e) answer later le before = by ((seen (suc e)).shows answer) ((seen (suc e)).shows later) refl (((seen (suc e)).facts low le).sees.grows answer later before) (reaches_last e later (omega (arith, le)))
      where
        by : (o next : Option ℕ) → o ≡ (seen (suc e)).shows answer → IsNotBelow next o → IsNotBelow (own_or next (value e (last e))) (value e (last e)) → IsNotBelow (own_or next (value e (last e))) (own_or o (value e (last e)))
        by None next is up reaches = reaches
        by (Some w) None is up reaches = absurd up
        by (Some w) (Some v) is up reaches = up

    -- nor than the last read of any epoch before
    pub reaches_each : (e earlier : ℕ) (answer : Answered) → earlier < e → e ≤ groups.moves c → IsNotBelow (value e answer) (value earlier (last earlier))
    reaches_each zero earlier answer lt le = absurd (omega (arith, lt))
    reaches_each (suc e) earlier answer lt le = elim (cases_lt earlier e) [
      | inl before ↦ not_below_both (value (suc e) answer) (value e (last e)) (value earlier (last earlier)) (reaches_last e answer (omega (arith, le))) (reaches_each e earlier (last e) before (omega (arith, le)))
      | inr not_before ↦
          let same : earlier ≡ e = omega (arith, lt, not_before) in
          subst (λ k. IsNotBelow (value (suc e) answer) (value k (last k))) (sym same) (reaches_last e answer (omega (arith, le)))
    ]

    -- where a write is shown, it is one that was asked before the read was answered, or one into an earlier epoch's group
    pub data IsWhence (e write : ℕ) (answer : Answered) : Type 0 where
      OfThis : IsWriteAskedBefore (setup e) (history e) (port e) write answer → IsWhence e write answer
      OfEarlier : (of k : ℕ) (a : Submission) → of < e → slice_get (port of) k ≡ Some a → a.write ≡ write → IsWhence e write answer

    pub whence : (e : ℕ) (answer : Answered) (write : ℕ) → e ≤ groups.moves c → value e answer ≡ Some write → IsWhence e write answer
    unfolding value
    whence zero answer write le is = OfThis (((seen zero).facts low le).sees.asked answer write is)
    whence (suc e) answer write le is = by ((seen (suc e)).shows answer) refl is
      where
        earlier : (initial : Sector) (o : Option ℕ) → o ≡ Some write → IsShown e o initial → IsWhence (suc e) write answer
        earlier initial None none shown = absurd (none-some write none)
        earlier initial (Some w) one (of, within, has) = OfEarlier of has.1.k has.1.submission (omega (arith, within)) has.1.there (has.1.is_write ∙ same_Some w write one)

        by : (o : Option ℕ) → (seen (suc e)).shows answer ≡ o → own_or o (value e (last e)) ≡ Some write → IsWhence (suc e) write answer
        by None none it =
            let f = (seen (suc e)).facts low le in
            let lt : e < groups.moves c = omega (arith, le) in
            earlier f.initial (value e (last e)) it (shown_bytes e (last e) f.initial (omega (arith, le)) f.is_initial (last_later low e f.initial lt f.is_initial))
        by (Some w) some it = OfThis (((seen (suc e)).facts low le).sees.asked answer write (some ∙ it))
