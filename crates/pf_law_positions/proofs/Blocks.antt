-- A block of a position, as its mount and the readers of its half know it.
use Rattle.std.proofs.Common.{◌≡◌, ℕ, suc, ◌+◌, ◌/◌, ◌%◌, ◌<◌, ◌≤◌, inl, inr, List, [], ◌∷◌, length, take, Some, slice_get, arith, sym, ap, subst, ◌∙◌}
use Rattle.std.specs.Option.{option_map}
use Rattle.std.proofs.lemmas.Option.{same_Some, slice_get-map}
use Rattle.std.proofs.lemmas.Bool.{cases_lt}
use Rattle.std.proofs.lemmas.List.{length-append}
use Rattle.pf_entry.specs.Ops.{Sector}
use Rattle.pf_protocol.specs.Ports.{Submission, submitting}
use Rattle.pf_protocol.specs.Groups.{Answered}
use Rattle.pf_protocol.specs.Fresh.{IsFetch}
use Rattle.pf_protocol.specs.Histories.{replay}
use Rattle.pf_law_registers.specs.Registers.{IsAtLeast, IsNotBelow}
use Rattle.pf_law_registers.specs.Orders.{given}
use Rattle.pf_law_registers.specs.Sectors.{ReadGives}
use Rattle.pf_law_registers.specs.Alone.{IsWriteAskedBefore}
use Rattle.pf_law_registers.proofs.Lists.{something_there, length_mapped}
use Rattle.pf_law_registers.proofs.SubmissionPlaces.{placed}
use Rattle.pf_law_registers.proofs.AnswersKept.{acked_stays, answered_stays}
use Rattle.pf_paxos.specs.declared.block.Block.{Block}
use Rattle.pf_paxos.specs.Registers.{AsksWrite, ClientHasRead, block_before}
use Rattle.pf_paxos.proofs.CrossingPhases.{asked_block}
use Rattle.pf_law_positions.specs.Deeds.{Puts, Got, Deed, Takes, Submits, BringsBy, Acks, Reads, Hands, Brings, Groups, DeedsFit}
use Rattle.pf_law_positions.specs.Homes.{PositionHome, chunk_of_block, sector_of, turns_in}
use Rattle.pf_law_positions.specs.Hosted.{IsHosted}
use Rattle.pf_law_positions.proofs.DeedTurns.{turn_asks, asks_own}
use Rattle.pf_law_positions.proofs.PositionAnswers.{same_ask, WriteOf, ReadOf, read_of}
use Rattle.pf_law_positions.proofs.TakenReads.{slot_acked}
use Rattle.pf_law_positions.proofs.Answers.{prefix_taken, taken_before, prefix_low, eight_given}
use Rattle.pf_law_positions.proofs.Epochs.{at_least_both, not_below_both, Later, later_from, waited, half_low, fits, its_rule, its_handed, was_moved, last_taken, last_gives, value, acked_value, grows_value, reaches_each, whence, IsWhence, OfThis, OfEarlier}

module _ (groups : Groups) (read : Sector → Block) (home : PositionHome) (deeds : List Deed) (hosted : IsHosted groups read home deeds) (b : ℕ) where
  abbrev c : ℕ
  c = chunk_of_block home b

  abbrev x : ℕ
  x = sector_of home b

  -- a read of the half in which the block lies gives it some bytes
  pub record BlockRead (client asked answered : ℕ) (blocks : List Block) : Type 0 where
    pub of : ReadOf read home deeds groups client (b / 8) asked answered blocks
    pub within : of.epoch ≤ groups.moves (chunk_of_block home b)
    pub bytes : Sector
    pub gives : ReadGives (groups.setup (chunk_of_block home b) of.epoch) (groups.history (chunk_of_block home b) of.epoch) x of.answer bytes
    pub has : slice_get blocks (b % 8) ≡ Some (read bytes)
    pub as_many : length blocks ≡ 8

  module _ (low : b < 16) where
    abbrev its_half : b / 8 < 2
    its_half = half_low groups read home deeds hosted b low

    abbrev its_fits : DeedsFit groups deeds (chunk_of_block home b)
    its_fits = fits groups read home deeds hosted b low

    pub block_read : (client asked answered : ℕ) (blocks : List Block) → ClientHasRead (turns_in read home deeds) client (b / 8) asked answered blocks → BlockRead client asked answered blocks
    block_read client asked answered blocks has =
        let r = read_of read home deeds groups client (b / 8) asked answered blocks hosted has in
        let within = its_fits.reached answered r.epoch _ r.at (Brings r.by _ (Reads client r.answer r.next)) in
        let setup = groups.setup (chunk_of_block home b) r.epoch in
        let history = groups.history (chunk_of_block home b) r.epoch in
        let at = answered_stays (groups.setup (chunk_of_block home b) r.epoch) (take r.by (groups.history (chunk_of_block home b) r.epoch)) (groups.history (chunk_of_block home b) r.epoch) r.got.k r.answer (prefix_taken r.by (groups.history (chunk_of_block home b) r.epoch)) r.got.answered in
        let eight = eight_given (groups.setup (chunk_of_block home b) r.epoch) (groups.history (chunk_of_block home b) r.epoch) r.got.k r.answer (hosted.legal (b / 8) r.epoch its_half within) at (omega (arith, hosted.inside (b / 8) r.epoch its_half within, r.first, r.eight)) in
        let some = something_there r.answer.bytes (b % 8) (omega (arith, eight, r.eight)) in
        record {
          of = r;
          within = within;
          bytes = some.0;
          gives = record { k = r.got.k; answered = at; nth = b % 8; is_sector = ap (λ n. n + b % 8) (sym r.first); has = some.1 };
          has = ap (λ bs. slice_get bs (b % 8)) r.are ∙ slice_get-map read r.answer.bytes (b % 8) ∙ ap (λ o. option_map read o) some.1;
          as_many = ap length r.are ∙ length_mapped read r.answer.bytes ∙ eight ∙ r.eight;
        }

    -- a submission of the port is of a turn in which the client asked this write
    pub asked_write : (epoch k : ℕ) (a : Submission) (bytes : Sector) → epoch ≤ groups.moves c → slice_get (groups.writes c epoch b) k ≡ Some a → given a.op x ≡ Some bytes → block_before (turns_in read home deeds) b (suc a.write) ≡ read bytes
    asked_write epoch k a bytes le at has =
        let h = its_handed groups read home deeds hosted b low epoch k a le at in
        let t = turn_asks read home deeds a.write b h.pending.reply (Puts c a.op) (AsksWrite (read bytes)) h.pending.at (asks_own read home b a.op bytes low has) in
        asked_block (turns_in read home deeds) b a.write t.turn (read bytes) t.at t.its t.asks

    -- an answer of an epoch comes after whatever was handed to an earlier one
    sooner_epoch : (of epoch moment answered place by : ℕ) (deed : Deed) → of < epoch → slice_get deeds moment ≡ Some (Submits b c of place) → slice_get deeds answered ≡ Some deed → BringsBy c epoch by deed → ((client : ℕ) → Submits client c of place ≡ deed → ⊥) → moment < answered
    sooner_epoch of epoch moment answered place by deed lt at there brings apart = elim (cases_lt moment answered) [
      | inl sooner ↦ sooner
      | inr not_sooner ↦ elim (cases_lt answered moment) [
        | inl wrong ↦ absurd (omega (arith, lt, its_fits.goes_on answered moment epoch of deed (Submits b c of place) wrong there (Brings by deed brings) at (Hands b place)))
        | inr not_wrong ↦
            let same : moment ≡ answered = omega (arith, not_sooner, not_wrong) in
            absurd (apart b (same_Some _ _ (sym at ∙ ap (slice_get deeds) same ∙ there)))
      ]
    ]

    -- a read of the epoch's group that was taken up at this place
    record Reader (epoch place : ℕ) (answer : Answered) : Type 0 where
      bytes : Sector
      gives : ReadGives (groups.setup c epoch) (groups.history c epoch) x answer bytes
      took_up : IsFetch (groups.setup c epoch) (groups.history c epoch) answer.number answer.server answer.range (take place (groups.history c epoch))

    last_reader : (epoch : ℕ) → (lt : epoch < groups.moves c) → Reader epoch (was_moved groups read home deeds hosted b low epoch lt).place (hosted.last (b / 8) epoch)
    last_reader epoch lt =
        let g = last_gives groups read home deeds hosted b low epoch lt in
        record { bytes = g.bytes; gives = g.gives; took_up = last_taken groups read home deeds hosted b low epoch lt }

    -- it shows nothing older than a read that the group had answered by then
    shows_read : (epoch place by k : ℕ) (answer earlier : Answered) → epoch ≤ groups.moves c → Reader epoch place answer → by ≤ place → slice_get (replay (groups.setup c epoch) (take by (groups.history c epoch))).answered k ≡ Some earlier → IsNotBelow (value groups read home deeds hosted b epoch answer) (value groups read home deeds hosted b epoch earlier)
    shows_read epoch place by k answer earlier within r le at = grows_value groups read home deeds hosted b low epoch earlier answer within (record {
      taken = record { bytes = r.bytes; gives = r.gives; before = take place (groups.history c epoch); fetched = r.took_up };
      k = k;
      answered = answered_stays (groups.setup c epoch) (take by (groups.history c epoch)) (take place (groups.history c epoch)) k earlier (taken_before by place (groups.history c epoch) le) at;
    })

    -- nor than a write that the group had acknowledged by then
    shows_write : (write done place : ℕ) (answer : Answered) (w : WriteOf read home deeds groups b write done) → w.epoch ≤ groups.moves c → Reader w.epoch place answer → w.by ≤ place → IsAtLeast (value groups read home deeds hosted b w.epoch answer) write
    shows_write write done place answer w within r le =
        let h = its_handed groups read home deeds hosted b low w.epoch w.put.k w.put.submission within w.put.there in
        let answered = slot_acked (groups.setup c w.epoch) (groups.history c w.epoch) (take w.by (groups.history c w.epoch)) w.put.submission w.put.slot w.put.term w.put.n (hosted.legal (b / 8) w.epoch its_half within) ((its_rule groups read home deeds hosted b low w.epoch within).happened w.put.k w.put.submission w.put.there) w.put.took_slot w.put.in_term w.put.acked in
        let p = placed (groups.setup c w.epoch) (groups.history c w.epoch) (take w.by (groups.history c w.epoch)) w.put.submission w.put.slot (hosted.legal (b / 8) w.epoch its_half within) ((its_rule groups read home deeds hosted b low w.epoch within).happened w.put.k w.put.submission w.put.there) (prefix_taken w.by (groups.history c w.epoch)) w.put.took_slot answered.answered in
        let one : Puts c w.put.submission.op ≡ Puts c w.op = same_ask deeds w.put.asked b h.pending.reply w.put.pending.reply _ _ (ap (slice_get deeds) (sym w.put.is_it) ∙ h.pending.at) w.put.pending.at in
        let same_op : w.put.submission.op ≡ w.op = cc in
        acked_value groups read home deeds hosted b low w.epoch answer write within (record {
          k = w.put.k;
          submission = w.put.submission;
          there = w.put.there;
          is_write = w.put.is_it ∙ w.same;
          its_bytes = w.bytes;
          writes_it = ap (λ o. given o x) same_op ∙ w.gives;
          taken = record { bytes = r.bytes; gives = r.gives; before = take place (groups.history c w.epoch); fetched = r.took_up };
          n = p.k;
          acked = p.acked;
          was_acked = acked_stays (groups.setup c w.epoch) (take w.by (groups.history c w.epoch)) (take place (groups.history c w.epoch)) p.k p.acked (taken_before w.by place (groups.history c w.epoch) le) p.was_acked;
          comes = p.comes;
        })

    module _ (client asked answered : ℕ) (blocks : List Block) (r : BlockRead client asked answered blocks) where
      abbrev e : ℕ
      e = r.of.epoch

      pub later : Later groups read home deeds hosted b e r.of.answer
      later = later_from groups read home deeds hosted b low e r.of.got.place r.of.answer r.bytes r.within
          (waited groups read home deeds hosted b low e r.of.got.handed client r.of.got.place r.within r.of.got.at) r.gives r.of.taken.took_up

      -- a write that it shows was asked before it was answered
      asked_this : (write : ℕ) → IsWriteAskedBefore (groups.setup c e) (groups.history c e) (groups.writes c e b) write r.of.answer → write < answered
      asked_this write asks =
          let o = asks (take r.of.by (groups.history c e)) r.of.got.k (prefix_taken r.of.by (groups.history c e)) r.of.got.answered in
          let h = its_handed groups read home deeds hosted b low e o.1.k o.1.submission r.within o.1.there in
          elim (cases_lt h.moment answered) [
            | inl sooner ↦ omega (arith, h.pending.earlier, o.1.is_write, sooner)
            | inr not_sooner ↦ elim (cases_lt answered h.moment) [
              | inl later ↦
                  let up = its_fits.rises answered h.moment e b r.of.by (length o.1.submission.before) _ later r.of.at (Reads client r.of.answer r.of.next) h.at in
                  absurd (omega (arith, up, prefix_low _ (groups.history c e) r.of.by o.1.made, length-append o.1.submission.before (submitting o.1.submission ∷ [])))
              | inr not_later ↦
                  let same : h.moment ≡ answered = omega (arith, not_sooner, not_later) in
                  let e : Submits b c r.of.epoch (length o.1.submission.before) ≡ Takes client (Some (Got c r.of.epoch r.of.by r.of.answer)) r.of.next = same_Some _ _ (sym h.at ∙ ap (slice_get deeds) same ∙ r.of.at) in
                  absurd (cc)
            ]
          ]

      asked_by : (write : ℕ) → IsWhence groups read home deeds hosted b low e write r.of.answer → write < answered
      asked_by write (OfThis asks) = asked_this write asks
      asked_by write (OfEarlier of k a lt at is) =
          let h = its_handed groups read home deeds hosted b low of k a (omega (arith, lt, r.within)) at in
          let sooner = sooner_epoch of e h.moment answered (length a.before) r.of.by _ lt h.at r.of.at (Reads client r.of.answer r.of.next) (λ k same. cc) in
          omega (arith, sooner, h.pending.earlier, is)

      pub asked_before : (write : ℕ) → value groups read home deeds hosted b e r.of.answer ≡ Some write → write < answered
      asked_before write is = asked_by write (whence groups read home deeds hosted b low e r.of.answer write r.within is)

      its_reader : Reader e r.of.got.place r.of.answer
      its_reader = record { bytes = r.bytes; gives = r.gives; took_up = r.of.taken.took_up }

      -- what was answered before it was asked is of no later epoch
      no_later_epoch : (epoch moment by : ℕ) (deed : Deed) → moment ≤ asked → slice_get deeds moment ≡ Some deed → BringsBy c epoch by deed → epoch ≤ e
      no_later_epoch epoch moment by deed first at brings = its_fits.goes_on moment r.of.got.handed epoch e deed _ (omega (arith, first, r.of.same, r.of.got.after)) at (Brings by deed brings) r.of.got.at (Hands client r.of.got.place)

      pub earlier_read : (other from to : ℕ) (before : List Block) (s : BlockRead other from to before) → to ≤ asked → IsNotBelow (value groups read home deeds hosted b e r.of.answer) (value groups read home deeds hosted b s.of.epoch s.of.answer)
      earlier_read other from to before s first =
          let up = no_later_epoch s.of.epoch to s.of.by _ first s.of.at (Reads other s.of.answer s.of.next) in
          elim (cases_lt s.of.epoch e) [
            | inl earlier ↦
                let lt : s.of.epoch < groups.moves c = omega (arith, earlier, r.within) in
                let m = was_moved groups read home deeds hosted b low s.of.epoch lt in
                let le = m.after_answers to s.of.by _ s.of.at (Reads other s.of.answer s.of.next) in
                not_below_both (value groups read home deeds hosted b e r.of.answer) (value groups read home deeds hosted b s.of.epoch (hosted.last (b / 8) s.of.epoch)) (value groups read home deeds hosted b s.of.epoch s.of.answer)
                (reaches_each groups read home deeds hosted b low e s.of.epoch r.of.answer earlier r.within)
                (shows_read s.of.epoch m.place s.of.by s.of.got.k (hosted.last (b / 8) s.of.epoch) s.of.answer s.within (last_reader s.of.epoch lt) le s.of.got.answered)
            | inr not_earlier ↦
                let same : s.of.epoch ≡ e = omega (arith, up, not_earlier) in
                let le = its_fits.rises to r.of.got.handed s.of.epoch client s.of.by r.of.got.place _ (omega (arith, first, r.of.same, r.of.got.after)) s.of.at (Reads other s.of.answer s.of.next) (subst (λ n. slice_get deeds r.of.got.handed ≡ Some (Submits client c n r.of.got.place)) (sym same) r.of.got.at) in
                subst (λ n. IsNotBelow (value groups read home deeds hosted b n r.of.answer) (value groups read home deeds hosted b s.of.epoch s.of.answer)) same
                (shows_read s.of.epoch r.of.got.place s.of.by s.of.got.k r.of.answer s.of.answer s.within (subst (λ n. Reader n r.of.got.place r.of.answer) (sym same) its_reader) le s.of.got.answered)
          ]

      pub earlier_write : (write done : ℕ) → WriteOf read home deeds groups b write done → done ≤ asked → IsAtLeast (value groups read home deeds hosted b e r.of.answer) write
      earlier_write write done w first =
          let up = no_later_epoch w.epoch done w.by _ first w.at (Acks b w.op w.next) in
          let within : w.epoch ≤ groups.moves c = omega (arith, up, r.within) in
          elim (cases_lt w.epoch e) [
            | inl earlier ↦
                let lt : w.epoch < groups.moves c = omega (arith, earlier, r.within) in
                let m = was_moved groups read home deeds hosted b low w.epoch lt in
                let le = m.after_answers done w.by _ w.at (Acks b w.op w.next) in
                at_least_both (value groups read home deeds hosted b e r.of.answer) (value groups read home deeds hosted b w.epoch (hosted.last (b / 8) w.epoch)) write
                (reaches_each groups read home deeds hosted b low e w.epoch r.of.answer earlier r.within)
                (shows_write write done m.place (hosted.last (b / 8) w.epoch) w within (last_reader w.epoch lt) le)
            | inr not_earlier ↦
                let same : w.epoch ≡ e = omega (arith, up, not_earlier) in
                let le = its_fits.rises done r.of.got.handed w.epoch client w.by r.of.got.place _ (omega (arith, first, r.of.same, r.of.got.after)) w.at (Acks b w.op w.next) (subst (λ n. slice_get deeds r.of.got.handed ≡ Some (Submits client c n r.of.got.place)) (sym same) r.of.got.at) in
                subst (λ n. IsAtLeast (value groups read home deeds hosted b n r.of.answer) write) same
                (shows_write write done r.of.got.place r.of.answer w within (subst (λ n. Reader n r.of.got.place r.of.answer) (sym same) its_reader) le)
          ]
