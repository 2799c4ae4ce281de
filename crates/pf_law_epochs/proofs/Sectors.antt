-- A sector of a chunk that moves is one register.
use Rattle.std.proofs.Common.{◌≡◌, ℕ, suc, ◌+◌, ◌-◌, ◌*◌, ◌<◌, ◌≤◌, inl, inr, true, List, [], ◌∷◌, ◌++◌, length, take, Option, Some, slice_get, arith, refl, sym, ap, subst, ◌∙◌}
use Rattle.std.specs.Prelude.{◌↔◌}
use Rattle.std.proofs.lemmas.Bool.{cases_lt}
use Rattle.std.proofs.lemmas.List.{length-append}
use Rattle.std.proofs.lemmas.Option.{same_Some, slice_get_within}
use Rattle.pf_entry.specs.Ops.{Sector, zero_sector}
use Rattle.pf_entry.specs.declared.ops.Op.{Op}
use Rattle.pf_protocol.specs.Fresh.{shows_slot}
use Rattle.pf_protocol.specs.Groups.{Answered}
use Rattle.pf_protocol.specs.Histories.{History, IsPrefix, IsChosen, replay}
use Rattle.pf_protocol.specs.Ports.{Submission, submitting, WriteHasEnded, ComesFrom}
use Rattle.pf_protocol.proofs.ForMoments.{begins_with, prefix_of, whole_prefix}
use Rattle.pf_protocol.proofs.ForPorts.{comes_after}
use Rattle.pf_law_registers.specs.Registers.{left_by_writes}
use Rattle.pf_law_registers.specs.Orders.{Member, given}
use Rattle.pf_law_registers.specs.Sectors.{IsCopyAt, SubmissionIsPlaced}
use Rattle.pf_law_registers.specs.Moved.{IsWriteEndedBefore}
use Rattle.pf_law_registers.proofs.WriteSubmissions.{source}
use Rattle.pf_law_registers.proofs.Firsts.{gives_it}
use Rattle.pf_law_registers.proofs.Later.{chosen_then}
use Rattle.pf_law_registers.proofs.Lists.{something_there}
use Rattle.pf_law_registers.proofs.MovedSectors.{ended_shown}
use Rattle.pf_law_registers.proofs.SubmissionPorts.{Written, ports_own}
use Rattle.pf_law_registers.proofs.SubmissionPlaces.{placed}
use Rattle.pf_law_registers.proofs.Sectors.{ports_order, order_between}
use Rattle.pf_law_registers.proofs.AnswersKept.{acked_stays, answered_stays}
use Rattle.pf_law_positions.specs.Deeds.{PortAsk, Puts, Put, Got, Deed, Takes, Submits, BringsBy, Acks, Reads, Hands, Brings, Groups, WriteIsHanded, WasPut}
use Rattle.pf_law_positions.proofs.Answers.{prefix_taken, taken_before, taken_whole, prefix_low}
use Rattle.pf_law_positions.proofs.PositionAnswers.{same_ask}
use Rattle.pf_law_positions.proofs.TakenReads.{answered_taken_up, slot_acked}
use Rattle.pf_law_epochs.specs.Orders.{IsMemberAt, members_before}
use Rattle.pf_law_epochs.specs.Routed.{IsRouted}
use Rattle.pf_law_epochs.specs.Sectors.{RoutedRead, GivesRouted, IsReadBefore, IsCopyOf, SectorIsWritten, IsWrittenBefore, IsHandedBefore, GroupHoldsMember, RoutedSector}
use Rattle.pf_law_epochs.proofs.EpochCarries.{Place, x, moves, setup, history, mover, port, last, reg, was_moved, handed, port_rule, mover_rule, is_first, after_mover, Reader, last_reader, Later, later_from, waited, copy_at}
use Rattle.pf_law_epochs.proofs.Orders.{made, come, kept, kept_ended, kept_present, shown_within, shows_carried, part, length_of_part, in_order, in_part, is_part, first_rises, ends_rise, stands, bytes_in, bytes_length, left_at_last}

module _ (c : Place) where
  abbrev Read : Type 0
  Read = RoutedRead c.groups c.deeds c.chunk (x c)

  reached : (r : Read) → r.epoch ≤ moves c
  reached r = c.routed.fits.reached r.answered r.epoch _ r.at (Brings r.by _ (Reads r.client r.read r.next))

  answered_at : (r : Read) → slice_get (replay (setup c r.epoch) (history c r.epoch)).answered r.got.k ≡ Some r.read
  answered_at r = answered_stays (setup c r.epoch) (take r.by (history c r.epoch)) (history c r.epoch) r.got.k r.read (prefix_taken r.by (history c r.epoch)) r.got.answered

  reader : (r : Read) → Reader c r.epoch r.got.place r.read
  reader r = record {
    bytes = r.covers.0;
    gives = r.covers.1;
    took_up = (answered_taken_up (setup c r.epoch) (history c r.epoch) r.got.place r.got.server r.got.k r.got.range r.read (c.routed.legal r.epoch (reached r)) r.got.taken (answered_at r)).took_up;
  }

  later : (r : Read) → Later c r.epoch r.read
  later r = later_from c r.epoch r.got.place r.read (reached r) (waited c r.epoch r.got.handed r.client r.got.place (reached r) r.got.at) (reader r)

  -- what the epoch's group had answered by then is shown
  read_before : (e place by k : ℕ) (answer earlier : Answered) → Reader c e place answer → by ≤ place → slice_get (replay (setup c e) (take by (history c e))).answered k ≡ Some earlier → (reg c e).shown earlier ≤ (reg c e).shown answer
  read_before e place by k answer earlier r le at = (reg c e).is_register.grows earlier answer (record {
    taken = record { bytes = r.bytes; gives = r.gives; before = take place (history c e); fetched = r.took_up };
    k = k;
    answered = answered_stays (setup c e) (take by (history c e)) (take place (history c e)) k earlier (taken_before by place (history c e) le) at;
  })

  low : (r : Read) → made c r.epoch ≤ (reg c r.epoch).shown r.read
  low r = shows_carried c r.epoch r.read (reached r) (later r)

  high : (r : Read) → (reg c r.epoch).shown r.read ≤ kept c r.epoch
  high r = elim (cases_lt r.epoch (moves c)) [
    | inl ended ↦
        let m = was_moved c r.epoch ended in
        let le = m.after_answers r.answered r.by _ r.at (Reads r.client r.read r.next) in
        omega (arith, kept_ended c r.epoch ended, read_before r.epoch m.place r.by r.got.k (last c r.epoch) r.read (last_reader c r.epoch ended) le r.got.answered)
    | inr present ↦ omega (arith, kept_present c r.epoch present, shown_within c r.epoch r.read)
  ]

  abbrev shown_in : (e : ℕ) → Answered → ℕ
  shown_in e answer = members_before (part c) e + ((reg c e).shown answer - made c e)

  abbrev shown : Read → ℕ
  shown r = shown_in r.epoch r.read

  below_next : (r : Read) → shown r ≤ members_before (part c) r.epoch + length (part c r.epoch)
  below_next r = omega (arith, length_of_part c r.epoch, low r, high r)

  within : (r : Read) → shown r ≤ length (bytes_in c (moves c))
  within r = omega (arith, below_next r, ends_rise c r.epoch (moves c) (reached r), bytes_length c (moves c))

  gives : (r : Read) (bytes : Sector) → GivesRouted c.groups c.deeds c.chunk (x c) r bytes → bytes ≡ left_by_writes zero_sector (bytes_in c (moves c)) (shown r)
  gives r bytes g =
      (reg c r.epoch).is_register.gives r.read bytes g
      ∙ sym (left_at_last c r.epoch ((reg c r.epoch).shown r.read) (reached r) (low r) (high r))

  -- the members of the read's own epoch
  own_holds : (r : Read) (nth : ℕ) (m : Member) → slice_get (part c r.epoch) nth ≡ Some m → (made c r.epoch + nth < (reg c r.epoch).shown r.read) ↔ (shows_slot r.read m.slot ≡ true)
  own_holds r nth m at = let i = in_order c r.epoch nth m at in (reg c r.epoch).had_applied r.got.k r.read (made c r.epoch + nth) m (answered_at r) i.at

  in_part_of : (e nth : ℕ) (m : Member) → slice_get (part c e) nth ≡ Some m → members_before (part c) e + nth < members_before (part c) (suc e)
  in_part_of e nth m at = omega (arith, slice_get_within (part c e) nth m at)

  is_held : (r : Read) (epoch place : ℕ) (m : Member) → IsMemberAt (part c) epoch place m → place < shown r → GroupHoldsMember c.groups c.deeds c.chunk (x c) r epoch m
  is_held r epoch place m at lt = elim (cases_lt epoch r.epoch) [
    | inl earlier ↦ inl earlier
    | inr not_earlier ↦ elim (cases_lt r.epoch epoch) [
      | inl later ↦ absurd (omega (arith, lt, below_next r, first_rises c (suc r.epoch) epoch later, at.is_place))
      | inr not_later ↦
          let same : epoch ≡ r.epoch = omega (arith, not_earlier, not_later) in
          let there = subst (λ e. slice_get (part c e) at.nth ≡ Some m) same at.at in
          let first = ap (members_before (part c)) same in
          inr (same, (own_holds r at.nth m there).0 (omega (arith, lt, at.is_place, first)))
    ]
  ]

  held_is_shown : (r : Read) (epoch place : ℕ) (m : Member) → IsMemberAt (part c) epoch place m → GroupHoldsMember c.groups c.deeds c.chunk (x c) r epoch m → place < shown r
  held_is_shown r epoch place m at (inl earlier) = omega (arith, at.is_place, in_part_of epoch at.nth m at.at, first_rises c (suc epoch) r.epoch earlier)
  held_is_shown r epoch place m at (inr (same, is)) =
      let there = subst (λ e. slice_get (part c e) at.nth ≡ Some m) same at.at in
      let first = ap (members_before (part c)) same in
      omega (arith, at.is_place, first, (own_holds r at.nth m there).1 is)

  -- what was answered before a read was asked is of no later epoch
  no_later_epoch : (r : Read) (epoch moment by : ℕ) (deed : Deed) → moment ≤ r.got.asked → slice_get c.deeds moment ≡ Some deed → BringsBy c.chunk epoch by deed → epoch ≤ r.epoch
  no_later_epoch r epoch moment by deed first at brings = c.routed.fits.goes_on moment r.got.handed epoch r.epoch deed _ (omega (arith, first, r.got.after)) at (Brings by deed brings) r.got.at (Hands r.client r.got.place)

  -- and of the same epoch it came before the read was taken up
  no_later_event : (r : Read) (epoch moment by : ℕ) (deed : Deed) → epoch ≡ r.epoch → moment ≤ r.got.asked → slice_get c.deeds moment ≡ Some deed → BringsBy c.chunk epoch by deed → by ≤ r.got.place
  no_later_event r epoch moment by deed same first at brings =
      c.routed.fits.rises moment r.got.handed epoch r.client by r.got.place deed (omega (arith, first, r.got.after)) at brings (subst (λ e. slice_get c.deeds r.got.handed ≡ Some (Submits r.client c.chunk e r.got.place)) (sym same) r.got.at)

  grows : (r s : Read) → IsReadBefore c.groups c.deeds c.chunk (x c) r s → shown r ≤ shown s
  grows r s before =
      let up = no_later_epoch s r.epoch r.answered r.by _ before r.at (Reads r.client r.read r.next) in
      elim (cases_lt r.epoch s.epoch) [
        | inl earlier ↦ omega (arith, below_next r, first_rises c (suc r.epoch) s.epoch earlier)
        | inr not_earlier ↦
            let same : r.epoch ≡ s.epoch = omega (arith, up, not_earlier) in
            let le = no_later_event s r.epoch r.answered r.by _ same before r.at (Reads r.client r.read r.next) in
            let more = read_before r.epoch s.got.place r.by r.got.k s.read r.read (subst (λ e. Reader c e s.got.place s.read) (sym same) (reader s)) le r.got.answered in
            subst (λ e. shown r ≤ shown_in e s.read) same (omega (arith, more))
      ]

  -- an answered write has a copy: its last submission's
  record Answer (e client by answered : ℕ) (op : Op) (put : WasPut c.groups c.deeds c.chunk e client answered by op) (now : History) : Type 0 where
    same_op : put.submission.op ≡ op
    ended : WriteHasEnded (setup c e) (port c e client) now put.asked
    same : ended.final ≡ put.submission
    slot : ℕ
    in_slot : ended.answered.acked.slot ≡ slot
    comes : ComesFrom (setup c e) (history c e) slot put.submission
    is_placed : SubmissionIsPlaced (setup c e) (history c e) now put.slot put.submission
    one : is_placed.acked.slot ≡ slot

  answer_at : (e client by answered place : ℕ) (op : Op) (put : WasPut c.groups c.deeds c.chunk e client answered by op) → e ≤ moves c → by ≤ place → Answer e client by answered op put (take place (history c e))
  answer_at e client by answered place op put le first =
      let legal = c.routed.legal e le in
      let happened = (port_rule c e client le).happened put.k put.submission put.there in
      let acked = acked_stays (setup c e) (take by (history c e)) (take place (history c e)) put.n (record { term = put.term; slot = put.slot }) (taken_before by place (history c e) first) put.acked in
      let told = slot_acked (setup c e) (history c e) (take place (history c e)) put.submission put.slot put.term put.n legal happened put.took_slot put.in_term acked in
      let p = placed (setup c e) (history c e) (take place (history c e)) put.submission put.slot legal happened (prefix_taken place (history c e)) put.took_slot told.answered in
      let h = handed c e client put.k put.submission le put.there in
      let one : Puts c.chunk put.submission.op ≡ Puts c.chunk op = same_ask c.deeds put.asked client h.pending.reply put.pending.reply _ _ (ap (slice_get c.deeds) (sym put.is_it) ∙ h.pending.at) put.pending.at in
      record {
        same_op = cc;
        ended = record { m = put.k; final = put.submission; at = put.there; same = put.is_it; no_later = put.is_last; answered = told.answered };
        same = refl;
        slot = put.slot;
        in_slot = told.in_slot;
        comes = subst (λ slot. ComesFrom (setup c e) (history c e) slot put.submission) p.in_slot p.comes;
        is_placed = p;
        one = p.in_slot;
      }

  -- a read that was taken up after it shows each of its copies
  shows_write : (e client by answered place : ℕ) (op : Op) (put : WasPut c.groups c.deeds c.chunk e client answered by op) (its : Sector) (answer : Answered) → e ≤ moves c → by ≤ place → given op (x c) ≡ Some its → Reader c e place answer → (nth k : ℕ) (a : Submission) (m : Member) → slice_get (port c e client) k ≡ Some a → a.write ≡ put.asked → slice_get (part c e) nth ≡ Some m → ComesFrom (setup c e) (history c e) m.slot a → made c e + nth < (reg c e).shown answer
  shows_write e client by answered place op put its answer le first is r nth k a m there write at comes =
      let z = answer_at e client by answered place op put le first in
      let w : IsWriteEndedBefore (setup c e) (history c e) (port c e client) (x c) put.asked answer = record {
        taken = record { bytes = r.bytes; gives = r.gives; before = take place (history c e); fetched = r.took_up };
        ended = z.ended;
        its_bytes = its;
        writes_it = ap (λ (s : Submission). given s.op (x c)) z.same ∙ ap (λ o. given o (x c)) z.same_op ∙ is;
        comes = subst (λ (s : Submission). ComesFrom (setup c e) (history c e) z.ended.answered.acked.slot s) (sym z.same) (subst (λ slot. ComesFrom (setup c e) (history c e) slot put.submission) (sym z.in_slot) z.comes);
      } in
      ended_shown (setup c e) (history c e) (x c) (reg c e) (port c e client) (port_rule c e client le) (made c e + nth) k a answer there (record { member = m; there = (in_order c e nth m at).at; comes = comes })
      (subst (λ write. IsWriteEndedBefore (setup c e) (history c e) (port c e client) (x c) write answer) (sym write) w)

  abbrev IsWrittenAt : (client write answered : ℕ) → Type 0
  IsWrittenAt client write answered = SectorIsWritten c.groups c.deeds c.chunk (x c) client write answered

  -- no copy of it is of a later epoch
  copies_before : (client write answered : ℕ) (w : IsWrittenAt client write answered) (epoch k : ℕ) (a : Submission) → epoch ≤ moves c → slice_get (port c epoch client) k ≡ Some a → a.write ≡ write → epoch ≤ w.epoch
  copies_before client write answered w epoch k a le there same =
      let h = handed c epoch client k a le there in
      elim (cases_lt h.moment answered) [
        | inl sooner ↦ c.routed.fits.goes_on h.moment answered epoch w.epoch _ _ sooner h.at (Hands client (length a.before)) w.at (Brings w.by _ (Acks client w.op w.next))
        | inr not_sooner ↦ elim (cases_lt answered h.moment) [
          | inl later ↦ absurd (h.pending.no_other answered (Some (Put c.chunk w.epoch w.by w.op)) w.next (omega (arith, w.put.pending.earlier, w.is_write, same)) later w.at)
          | inr not_later ↦
              let one : h.moment ≡ answered = omega (arith, not_sooner, not_later) in
              let e : Submits client c.chunk epoch (length a.before) ≡ Takes client (Some (Put c.chunk w.epoch w.by w.op)) w.next = same_Some _ _ (sym h.at ∙ ap (slice_get c.deeds) one ∙ w.at) in
              absurd (cc)
        ]
      ]

  acked : (r : Read) (place : ℕ) → IsWrittenBefore c.groups c.deeds c.chunk (x c) (part c) place r → place < shown r
  acked r place w =
      let wr = w.written in
      let up = no_later_epoch r wr.epoch w.answered wr.by _ w.before wr.at (Acks w.client wr.op wr.next) in
      let before = copies_before w.client w.write w.answered wr w.epoch w.copy.k w.copy.submission w.reached w.copy.there w.copy.is_write in
      elim (cases_lt w.epoch r.epoch) [
        | inl earlier ↦ held_is_shown r w.epoch place w.copy.member w.copy.is_at (inl earlier)
        | inr not_earlier ↦
            let same : wr.epoch ≡ r.epoch = omega (arith, up, before, not_earlier) in
            let one : w.epoch ≡ wr.epoch = omega (arith, up, before, not_earlier) in
            let copy = subst (λ e. IsCopyOf c.groups c.chunk (part c) place e w.client w.write) one w.copy in
            let le = no_later_event r wr.epoch w.answered wr.by _ same w.before wr.at (Acks w.client wr.op wr.next) in
            let within : wr.epoch ≤ moves c = omega (arith, same, reached r) in
            let shown = shows_write wr.epoch w.client wr.by w.answered r.got.place wr.op wr.put wr.bytes r.read within le wr.gives (subst (λ e. Reader c e r.got.place r.read) (sym same) (reader r)) copy.is_at.nth copy.k copy.submission copy.member copy.there (copy.is_write ∙ sym wr.is_write) copy.is_at.at copy.comes in
            subst (λ e. place < shown_in e r.read) same (omega (arith, copy.is_at.is_place, shown))
      ]

  -- a member is a copy of some client's submission
  record Origin (e : ℕ) (now : History) (m : Member) (op : Op) : Type 0 where
    client : ℕ
    wrote : Written (setup c e) (port c e client) now m.slot op

  origin : (e nth term : ℕ) (now : History) (m : Member) (op : Op) → e ≤ moves c → IsPrefix now (history c e) → slice_get (part c e) nth ≡ Some m → IsChosen (setup c e) now m.slot term op → given op (x c) ≡ Some m.bytes → Origin e now m op
  origin e nth term now m op le p at chosen is =
      let s = source (setup c e) now m.slot term op (x c) m.bytes chosen is in
      elim (c.routed.of_ports e c.nth le c.nth_low s.submission.before s.submission.server s.submission.op s.submission.answer m.bytes (prefix_of (s.submission.before ++ submitting s.submission ∷ []) now (history c e) s.made p) s.comes.copy.took_place (ap (λ o. given o (x c)) s.same_op ∙ is)) [
        | inl movers ↦
            let o = ports_own (setup c e) (mover c e) now m.slot op s movers in
            absurd ((come c e le).none_later (made c e + nth) o.k o.submission (omega arith) o.there (record { member = m; there = (in_order c e nth m at).at; comes = comes_after (setup c e) now (history c e) p m.slot o.submission o.comes }))
        | inr (client, q) ↦ record { client = client; wrote = ports_own (setup c e) (port c e client) now m.slot op s q }
      ]

  -- a copy at a place, and where it was handed on
  handed_at : (r : Read) (e nth place : ℕ) (now : History) (m : Member) (op : Op) → e ≤ moves c → place ≡ members_before (part c) e + nth → IsPrefix now (history c e) → slice_get (part c e) nth ≡ Some m → (o : Origin e now m op) → ((h : WriteIsHanded c.deeds c.chunk e o.client o.wrote.submission) → h.moment < r.answered) → IsHandedBefore c.groups c.deeds c.chunk (x c) (part c) place r
  handed_at r e nth place now m op le is p at o sooner =
      let h = handed c e o.client o.wrote.k o.wrote.submission le o.wrote.there in
      record {
        client = o.client;
        write = o.wrote.submission.write;
        epoch = e;
        copy = record {
          k = o.wrote.k;
          submission = o.wrote.submission;
          there = o.wrote.there;
          is_write = refl;
          member = m;
          is_at = record { nth = nth; is_place = is; at = at };
          comes = comes_after (setup c e) now (history c e) p m.slot o.wrote.submission o.wrote.comes;
        };
        moment = h.moment;
        at = h.at;
        before = sooner h;
      }

  -- what was handed to an earlier epoch's group was so before the answer
  sooner_epoch : (r : Read) (e client : ℕ) (a : Submission) → e < r.epoch → (h : WriteIsHanded c.deeds c.chunk e client a) → h.moment < r.answered
  sooner_epoch r e client a lt h = elim (cases_lt h.moment r.answered) [
    | inl sooner ↦ sooner
    | inr not_sooner ↦ elim (cases_lt r.answered h.moment) [
      | inl wrong ↦ absurd (omega (arith, lt, c.routed.fits.goes_on r.answered h.moment r.epoch e _ _ wrong r.at (Brings r.by _ (Reads r.client r.read r.next)) h.at (Hands client (length a.before))))
      | inr not_wrong ↦
          let one : h.moment ≡ r.answered = omega (arith, not_sooner, not_wrong) in
          let e : Submits client c.chunk e (length a.before) ≡ Takes r.client (Some (Got c.chunk r.epoch r.by r.read)) r.next = same_Some _ _ (sym h.at ∙ ap (slice_get c.deeds) one ∙ r.at) in
          absurd (cc)
    ]
  ]

  -- and so was what had happened in its own group by then
  sooner_event : (r : Read) (client : ℕ) (a : Submission) → IsPrefix (a.before ++ submitting a ∷ []) (take r.by (history c r.epoch)) → (h : WriteIsHanded c.deeds c.chunk r.epoch client a) → h.moment < r.answered
  sooner_event r client a happened h = elim (cases_lt h.moment r.answered) [
    | inl sooner ↦ sooner
    | inr not_sooner ↦ elim (cases_lt r.answered h.moment) [
      | inl later ↦
          let up = c.routed.fits.rises r.answered h.moment r.epoch client r.by (length a.before) _ later r.at (Reads r.client r.read r.next) h.at in
          absurd (omega (arith, up, prefix_low (a.before ++ submitting a ∷ []) (history c r.epoch) r.by happened, length-append a.before (submitting a ∷ [])))
      | inr not_later ↦
          let one : h.moment ≡ r.answered = omega (arith, not_sooner, not_later) in
          let e : Submits client c.chunk r.epoch (length a.before) ≡ Takes r.client (Some (Got c.chunk r.epoch r.by r.read)) r.next = same_Some _ _ (sym h.at ∙ ap (slice_get c.deeds) one ∙ r.at) in
          absurd (cc)
    ]
  ]

  asked_earlier : (r : Read) (e nth place : ℕ) (m : Member) → e < r.epoch → place ≡ members_before (part c) e + nth → slice_get (part c e) nth ≡ Some m → IsHandedBefore c.groups c.deeds c.chunk (x c) (part c) place r
  asked_earlier r e nth place m lt is at =
      let le : e ≤ moves c = omega (arith, lt, reached r) in
      let w = (reg c e).is_order.each (made c e + nth) m (in_order c e nth m at).at in
      let o = origin e nth w.term (history c e) m w.op le (whole_prefix (history c e)) at w.chosen w.gives in
      handed_at r e nth place (history c e) m w.op le is (whole_prefix (history c e)) at o (sooner_epoch r e o.client o.wrote.submission lt)

  asked_own : (r : Read) (nth place : ℕ) (m : Member) → place ≡ members_before (part c) r.epoch + nth → slice_get (part c r.epoch) nth ≡ Some m → made c r.epoch + nth < (reg c r.epoch).shown r.read → IsHandedBefore c.groups c.deeds c.chunk (x c) (part c) place r
  asked_own r nth place m is at lt =
      let p = prefix_taken r.by (history c r.epoch) in
      let w = chosen_then (setup c r.epoch) (history c r.epoch) (x c) (reg c r.epoch) r.read (take r.by (history c r.epoch)) r.got.k p r.got.answered (made c r.epoch + nth) m (in_order c r.epoch nth m at).at lt in
      let o = origin r.epoch nth w.term (take r.by (history c r.epoch)) m w.op (reached r) p at w.chosen w.gives in
      handed_at r r.epoch nth place (take r.by (history c r.epoch)) m w.op (reached r) is p at o (sooner_event r o.client o.wrote.submission o.wrote.made)

  asked : (r : Read) (place : ℕ) → place < shown r → IsHandedBefore c.groups c.deeds c.chunk (x c) (part c) place r
  asked r place lt =
      let s = stands c r.epoch place (omega (arith, lt, below_next r)) in
      let found = something_there (part c s.epoch) s.nth s.below in
      elim (cases_lt s.epoch r.epoch) [
        | inl earlier ↦ asked_earlier r s.epoch s.nth place found.0 earlier s.is_place found.1
        | inr not_earlier ↦
            let same : s.epoch ≡ r.epoch = omega (arith, s.low, not_earlier) in
            let first = ap (members_before (part c)) same in
            let there = subst (λ e. slice_get (part c e) s.nth ≡ Some found.0) same found.1 in
            let place_is : place ≡ members_before (part c) r.epoch + s.nth = omega (arith, s.is_place, first) in
            asked_own r s.nth place found.0 place_is there (omega (arith, lt, place_is))
      ]

  -- a copy of a client's write is none of the mover's, which come first
  after_made : (e client place k : ℕ) (a : Submission) → e ≤ moves c → slice_get (port c e client) k ≡ Some a → IsCopyAt (setup c e) (history c e) (reg c e).order place a → made c e ≤ place
  after_made e client place k a le there copy = elim (cases_lt place (made c e)) [
    | inr reaches ↦ reaches
    | inl before ↦
        let f = (come c e le).first place before in
        let its = gives_it (setup c e) (history c e) (x c) (reg c e).order (mover c e) (reg c e).is_order (mover_rule c e le) (is_first c e le) place f.1 f.3 in
        let less = order_between (setup c e) (history c e) (x c) (reg c e).order (mover c e) (reg c e).is_order (mover_rule c e le) f.0 f.1 a place place f.2 ((port_rule c e client le).happened k a there) (after_mover c e client k f.0 a f.1 f.3.member.bytes le there f.2 its) f.3 copy in
        absurd (omega (arith, less))
  ]

  -- what was answered is moved on
  answered_kept : (e client by answered : ℕ) (op : Op) (ask : Option PortAsk) (put : WasPut c.groups c.deeds c.chunk e client answered by op) (its : Sector) → e ≤ moves c → slice_get c.deeds answered ≡ Some (Takes client (Some (Put c.chunk e by op)) ask) → given op (x c) ≡ Some its → (place : ℕ) → slice_get (reg c e).order place ≡ Some (record { slot = put.slot; bytes = its }) → place < kept c e
  answered_kept e client by answered op ask put its le at is place there = elim (cases_lt e (moves c)) [
    | inr present ↦ omega (arith, kept_present c e present, slice_get_within (reg c e).order place (record { slot = put.slot; bytes = its }) there)
    | inl ended ↦
        let m = was_moved c e ended in
        let first = m.after_answers answered by _ at (Acks client op ask) in
        let r = last_reader c e ended in
        let z = answer_at e client by answered m.place op put le first in
        let shows = (reg c e).is_register.acked (last c e) place (record {
          taken = record { bytes = r.bytes; gives = r.gives; before = take m.place (history c e); fetched = r.took_up };
          k = z.is_placed.k;
          acked = z.is_placed.acked;
          was_acked = z.is_placed.was_acked;
          member = record { slot = put.slot; bytes = its };
          there = there;
          in_slot = z.is_placed.in_slot;
        }) in
        omega (arith, kept_ended c e ended, shows)
  ]

  has_place : (client write answered : ℕ) (w : IsWrittenAt client write answered) → (place : ℕ) × IsCopyOf c.groups c.chunk (part c) place w.epoch client write
  has_place client write answered w =
      let e = w.epoch in
      let le = c.routed.fits.reached answered w.epoch _ w.at (Brings w.by _ (Acks client w.op w.next)) in
      let z = answer_at w.epoch client w.by answered w.by w.op w.put le (omega arith) in
      let comes = subst (λ slot. ComesFrom (setup c w.epoch) (history c w.epoch) slot w.put.submission) z.is_placed.in_slot z.is_placed.comes in
      let found = copy_at c w.epoch w.put.slot w.put.submission w.bytes (ap (λ o. given o (x c)) z.same_op ∙ w.gives) comes in
      let member : Member = record { slot = w.put.slot; bytes = w.bytes } in
      let there = found.1.there ∙ ap Some found.2 in
      let low = after_made w.epoch client found.0 w.put.k w.put.submission le w.put.there found.1 in
      let high = answered_kept w.epoch client w.by answered w.op w.next w.put w.bytes le w.at w.gives found.0 there in (
        members_before (part c) w.epoch + (found.0 - made c w.epoch),
        record {
          k = w.put.k;
          submission = w.put.submission;
          there = w.put.there;
          is_write = w.put.is_it ∙ w.is_write;
          member = record { slot = w.put.slot; bytes = w.bytes };
          is_at = record { nth = found.0 - made c w.epoch; is_place = refl; at = in_part c w.epoch found.0 (record { slot = w.put.slot; bytes = w.bytes }) low high there };
          comes = comes;
        },
      )

  -- of two writes into the groups of two epochs, the one into the earlier was not asked later
  goes_on : (client e other j k : ℕ) (a s : Submission) → e < other → other ≤ moves c → slice_get (port c e client) j ≡ Some a → slice_get (port c other client) k ≡ Some s → a.write ≤ s.write
  goes_on client e other j k a s lt le at there =
      let ha = handed c e client j a (omega (arith, lt, le)) at in
      let hs = handed c other client k s le there in
      elim (cases_lt s.write a.write) [
        | inr not_later ↦ not_later
        | inl later ↦ elim (cases_lt ha.moment hs.moment) [
          | inl sooner ↦ absurd (hs.pending.no_other a.write ha.pending.reply (Some (Puts c.chunk a.op)) later (omega (arith, ha.pending.earlier, sooner)) ha.pending.at)
          | inr not_sooner ↦ elim (cases_lt hs.moment ha.moment) [
            | inl wrong ↦ absurd (omega (arith, lt, c.routed.fits.goes_on hs.moment ha.moment other e _ _ wrong hs.at (Hands client (length s.before)) ha.at (Hands client (length a.before))))
            | inr not_wrong ↦
                let same : ha.moment ≡ hs.moment = omega (arith, not_sooner, not_wrong) in
                let one : Submits client c.chunk e (length a.before) ≡ Submits client c.chunk other (length s.before) = same_Some _ _ (sym ha.at ∙ ap (slice_get c.deeds) same ∙ hs.at) in
                let both : e ≡ other = cc in
                absurd (omega (arith, lt, both))
          ]
        ]
      ]

  abbrev Copy : (place epoch client write : ℕ) → Type 0
  Copy place epoch client write = IsCopyOf c.groups c.chunk (part c) place epoch client write

  in_one : (client e first second a b : ℕ) → e ≤ moves c → first ≤ second → Copy first e client a → Copy second e client b → a ≤ b
  in_one client e first second a b le up one two =
      let low = ports_order (setup c e) (history c e) (x c) (reg c e).order (port c e client) (reg c e).is_order (port_rule c e client le) one.k two.k one.submission two.submission (made c e + one.is_at.nth) (made c e + two.is_at.nth) one.there two.there (omega (arith, up, one.is_at.is_place, two.is_at.is_place))
      (record { member = one.member; there = (in_order c e one.is_at.nth one.member one.is_at.at).at; comes = one.comes })
      (record { member = two.member; there = (in_order c e two.is_at.nth two.member two.is_at.at).at; comes = two.comes }) in
      omega (arith, low, one.is_write, two.is_write)

  orders : (client one other first second a b : ℕ) → one ≤ moves c → other ≤ moves c → first ≤ second → Copy first one client a → Copy second other client b → a ≤ b
  orders client one other first second a b le le_too up copy next = elim (cases_lt one other) [
    | inl before ↦ omega (arith, goes_on client one other copy.k next.k copy.submission next.submission before le_too copy.there next.there, copy.is_write, next.is_write)
    | inr not_before ↦ elim (cases_lt other one) [
      | inl after ↦ absurd (omega (arith, up, copy.is_at.is_place, next.is_at.is_place, in_part_of other next.is_at.nth next.member next.is_at.at, first_rises c (suc other) one after))
      | inr not_after ↦
          let same : other ≡ one = omega (arith, not_before, not_after) in
          in_one client one first second a b le up copy (subst (λ e. Copy second e client b) same next)
    ]
  ]

  -- a copy of a write that was answered stands before each copy of one that was asked no earlier. In one epoch the first write had ended in
  -- its port before the second was handed on
  between_in_one : (client write answered other after first second : ℕ) (w : IsWrittenAt client write answered) → answered ≤ after → w.epoch ≤ moves c → Copy first w.epoch client write → Copy second w.epoch other after → first < second
  between_in_one client write answered other after first second w since le one two =
      let h = handed c w.epoch other two.k two.submission le two.there in
      let up = c.routed.fits.rises answered h.moment w.epoch other w.by (length two.submission.before) _ (omega (arith, since, h.pending.earlier, two.is_write)) w.at (Acks client w.op w.next) h.at in
      let z = answer_at w.epoch client w.by answered (length two.submission.before) w.op w.put le up in
      let happened = (port_rule c w.epoch other le).happened two.k two.submission two.there in
      let whole = taken_whole two.submission.before (history c w.epoch) (begins_with two.submission.before (history c w.epoch) (submitting two.submission) happened) in
      let number : w.put.asked ≡ one.submission.write = w.is_write ∙ sym one.is_write in
      let ended = subst (λ now. WriteHasEnded (setup c w.epoch) (port c w.epoch client) now one.submission.write) whole (subst (λ write. WriteHasEnded (setup c w.epoch) (port c w.epoch client) (take (length two.submission.before) (history c w.epoch)) write) number z.ended) in
      let less = order_between (setup c w.epoch) (history c w.epoch) (x c) (reg c w.epoch).order (port c w.epoch client) (reg c w.epoch).is_order (port_rule c w.epoch client le) one.k one.submission two.submission (made c w.epoch + one.is_at.nth) (made c w.epoch + two.is_at.nth) one.there happened ended
      (record { member = one.member; there = (in_order c w.epoch one.is_at.nth one.member one.is_at.at).at; comes = one.comes })
      (record { member = two.member; there = (in_order c w.epoch two.is_at.nth two.member two.is_at.at).at; comes = two.comes }) in
      omega (arith, less, one.is_at.is_place, two.is_at.is_place)

  between : (client write answered other after one two first second : ℕ) → IsWrittenAt client write answered → answered ≤ after → one ≤ moves c → two ≤ moves c → Copy first one client write → Copy second two other after → first < second
  between client write answered other after one two first second w since le le_too copy next =
      let h = handed c two other next.k next.submission le_too next.there in
      let low = copies_before client write answered w one copy.k copy.submission le copy.there copy.is_write in
      let high = c.routed.fits.goes_on answered h.moment w.epoch two _ _ (omega (arith, since, h.pending.earlier, next.is_write)) w.at (Brings w.by _ (Acks client w.op w.next)) h.at (Hands other (length next.submission.before)) in
      elim (cases_lt one two) [
        | inl before ↦ omega (arith, copy.is_at.is_place, next.is_at.is_place, in_part_of one copy.is_at.nth copy.member copy.is_at.at, first_rises c (suc one) two before)
        | inr not_before ↦
            let its : one ≡ w.epoch = omega (arith, low, high, not_before) in
            let same : two ≡ w.epoch = omega (arith, low, high, not_before) in
            between_in_one client write answered other after first second w since (omega (arith, its, le)) (subst (λ e. Copy first e client write) its copy) (subst (λ e. Copy second e other after) same next)
      ]

  sector : RoutedSector c.groups c.deeds c.chunk (x c) (last c)
  sector = record {
    parts = part c;
    are_parts = is_part c;
    shown = shown;
    is_register = record { within = within; gives = gives; acked = acked; grows = grows; asked = asked };
    holds = λ r epoch place m le at. (is_held r epoch place m at, held_is_shown r epoch place m at);
    has_place = has_place;
    in_order = orders;
    between = between;
  }

pub routed_sector : (groups : Groups) (deeds : List Deed) (chunk piece nth : ℕ) → (routed : IsRouted groups deeds chunk piece) → nth < 8 → RoutedSector groups deeds chunk (8 * piece + nth) routed.last
routed_sector groups deeds chunk piece nth routed low = sector (record { groups = groups; deeds = deeds; chunk = chunk; piece = piece; routed = routed; nth = nth; nth_low = low })
