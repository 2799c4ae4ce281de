-- What the reads of a sector give that one port alone writes.
use Rattle.std.proofs.Common.{◌≡◌, ℕ, ◌<◌, ◌≤◌, ◌⊎◌, inl, inr, List, [], ◌∷◌, ◌++◌, length, Some, slice_get, arith, refl, sym, ap, ◌∙◌}
use Rattle.std.proofs.lemmas.Bool.{cases_lt}
use Rattle.std.proofs.lemmas.Option.{same_Some, slice_get_within}
use Rattle.pf_entry.specs.Ops.{Sector}
use Rattle.pf_entry.specs.declared.ops.Op.{Op}
use Rattle.pf_protocol.specs.Servers.{Setup}
use Rattle.pf_protocol.specs.Groups.{Answered}
use Rattle.pf_protocol.specs.Histories.{History, IsPrefix, IsChosen}
use Rattle.pf_protocol.specs.Ports.{Submission, submitting, FollowsRule, ComesFrom}
use Rattle.pf_protocol.proofs.ForMoments.{prefix_of, whole_prefix}
use Rattle.pf_law_registers.specs.Orders.{Member, given, values_of}
use Rattle.pf_law_registers.specs.Sectors.{ReadGives, IsAnsweredBefore, IsAckedBefore, IsAskedBefore, SectorRegister, IsCopyAt}
use Rattle.pf_law_registers.specs.Alone.{IsAlone, IsWriteAckedBefore, HasBytes, IsWriteAskedBefore, OwnRegister}
use Rattle.pf_law_registers.proofs.Lists.{something_there, length_mapped, got_mapped}
use Rattle.pf_protocol.proofs.ForPorts.{comes_op, comes_after}
use Rattle.pf_law_registers.proofs.WriteSubmissions.{source}
use Rattle.pf_law_registers.proofs.SubmissionPorts.{Written, ports_own}
use Rattle.pf_law_registers.proofs.OwnedRegisters.{last_of, IsByOne, own_from}
use Rattle.pf_law_registers.proofs.Sectors.{in_ports_order, sector_register}
use Rattle.pf_law_registers.proofs.Later.{chosen_then}

shown_inside : {setup : Setup} {history : History} {x : ℕ} (reg : SectorRegister setup history x) (read : Answered) (place : ℕ) → place < reg.shown read → place < length reg.order
shown_inside reg read place lt = omega (arith, lt, reg.is_register.within read, length_mapped (λ (m : Member). m.bytes) reg.order)

-- The places from this one on have copies of one port's writes, and no other place has any
module _ (setup : Setup) (history : History) (port : List Submission) (x : ℕ) (rule : FollowsRule setup history port) (reg : SectorRegister setup history x) (from : ℕ) where
  pub record IsOwned : Type 0 where
    pub owned : (now : History) → IsPrefix now history → (place : ℕ) (m : Member) → from ≤ place → slice_get reg.order place ≡ Some m → (term : ℕ) (op : Op) → IsChosen setup now m.slot term op → given op x ≡ Some m.bytes → Written setup port now m.slot op
    pub none_before : (place k : ℕ) (a : Submission) → slice_get port k ≡ Some a → IsCopyAt setup history reg.order place a → from ≤ place

  module _ (owns : IsOwned) where
    -- the port's write of this place
    record Writer (place : ℕ) : Type 0 where
      member : Member
      at : slice_get reg.order place ≡ Some member
      k : ℕ
      submission : Submission
      there : slice_get port k ≡ Some submission
      comes : ComesFrom setup history member.slot submission
      has : given submission.op x ≡ Some member.bytes

    writer : (place : ℕ) → from ≤ place → place < length reg.order → Writer place
    writer place reaches lt =
        let found = something_there reg.order place lt in
        let w = reg.is_order.each place found.0 found.1 in
        let s = owns.owned history (whole_prefix history) place found.0 reaches found.1 w.term w.op w.chosen w.gives in
        record { member = found.0; at = found.1; k = s.k; submission = s.submission; there = s.there; comes = s.comes; has = ap (λ o. given o x) s.same_op ∙ w.gives }

    copy_at : (place : ℕ) (w : Writer place) → IsCopyAt setup history reg.order place w.submission
    copy_at place w = record { member = w.member; there = w.at; comes = w.comes }

    writer_or : (place : ℕ) → (place < from) ⊎ (from ≤ place) → (place < length reg.order) ⊎ (length reg.order ≤ place) → ℕ
    writer_or place (inr reaches) (inl lt) = (writer place reaches lt).submission.write
    writer_or place (inl before) other = 0
    writer_or place (inr reaches) (inr past) = 0

    -- the port's number of the write of this place
    pub write_at : ℕ → ℕ
    write_at place = writer_or place (cases_lt place from) (cases_lt place (length reg.order))

    -- that number is the one of some submission of which the place has a copy
    record Wrote (place : ℕ) : Type 0 where
      by : Writer place
      same : by.submission.write ≡ write_at place

    wrote_at : (place : ℕ) → from ≤ place → place < length reg.order → Wrote place
    unfolding write_at writer_or
    wrote_at place reaches lt = by_case (cases_lt place from) (cases_lt place (length reg.order)) refl refl
      where
        by_case : (c : (place < from) ⊎ (from ≤ place)) (d : (place < length reg.order) ⊎ (length reg.order ≤ place)) → c ≡ cases_lt place from → d ≡ cases_lt place (length reg.order) → Wrote place
        by_case (inr here) (inl inside) is_it is_that = record { by = writer place here inside; same = ap (λ c. writer_or place c (inl inside)) is_it ∙ ap (writer_or place (cases_lt place from)) is_that }
        by_case (inl before) other is_it is_that = absurd (omega (arith, before, reaches))
        by_case (inr here) (inr past) is_it is_that = absurd (omega (arith, lt, past))

    pub numbered : (place : ℕ) → from ≤ place → place < length reg.order → (k : ℕ) × (a : Submission) × (slice_get port k ≡ Some a) × (a.write ≡ write_at place)
    numbered place reaches lt = let w = wrote_at place reaches lt in (w.by.k, w.by.submission, w.by.there, w.same)

    rises : (j k : ℕ) → from ≤ j → j ≤ k → k < length reg.order → write_at j ≤ write_at k
    rises j k reaches le lt =
        let a = wrote_at j reaches (omega (arith, le, lt)) in
        let b = wrote_at k (omega (arith, reaches, le)) lt in
        omega (arith, in_ports_order setup history x reg.order reg.is_order port rule a.by.k b.by.k a.by.submission b.by.submission j k a.by.there b.by.there le (copy_at j a.by) (copy_at k b.by), a.same, b.same)

    -- another submission of which the place has a copy is of the same write
    same_number : (place : ℕ) → place < length reg.order → (i : ℕ) (a : Submission) → slice_get port i ≡ Some a → IsCopyAt setup history reg.order place a → a.write ≡ write_at place
    same_number place lt i a at copy =
        let b = wrote_at place (owns.none_before place i a at copy) lt in
        let up = in_ports_order setup history x reg.order reg.is_order port rule i b.by.k a b.by.submission place place at b.by.there (omega arith) copy (copy_at place b.by) in
        let down = in_ports_order setup history x reg.order reg.is_order port rule b.by.k i b.by.submission a place place b.by.there at (omega arith) (copy_at place b.by) copy in
        omega (arith, up, down, b.same)

    has : (place : ℕ) (bytes : Sector) → from ≤ place → slice_get (values_of reg.order) place ≡ Some bytes → HasBytes history port x (write_at place) bytes
    has place bytes reaches at =
        let m = got_mapped (λ (m : Member). m.bytes) reg.order place bytes at in
        let b = wrote_at place reaches (slice_get_within reg.order place m.0 m.1) in
        let one : b.by.member ≡ m.0 = same_Some b.by.member m.0 (sym b.by.at ∙ m.1) in (
          b.by.submission.op,
          record { k = b.by.k; submission = b.by.submission; there = b.by.there; is_write = b.same; has_op = refl; made = rule.happened b.by.k b.by.submission b.by.there },
          b.by.has ∙ ap Some (ap (λ m. m.bytes) one ∙ m.2),
        )

    acked_at : (read : Answered) (write : ℕ) → IsWriteAckedBefore setup history port x write read → (place : ℕ) × (from ≤ place) × (write ≤ write_at place) × IsAckedBefore setup history x reg.order place read
    acked_at read write r =
        let found = reg.is_order.all (record { slot = r.acked.slot; bytes = r.its_bytes }) (record { term = r.comes.term; op = r.comes.op; chosen = r.comes.chosen; gives = ap (λ o. given o x) (comes_op setup history r.acked.slot r.submission r.comes) ∙ r.writes_it }) in
        let copy : IsCopyAt setup history reg.order found.0 r.submission = record { member = record { slot = r.acked.slot; bytes = r.its_bytes }; there = found.1; comes = r.comes } in (
          found.0,
          owns.none_before found.0 r.k r.submission r.there copy,
          omega (arith, same_number found.0 (slice_get_within reg.order found.0 _ found.1) r.k r.submission r.there copy, r.is_write),
          record {
            taken = r.taken;
            k = r.n;
            acked = r.acked;
            was_acked = r.was_acked;
            member = record { slot = r.acked.slot; bytes = r.its_bytes };
            there = found.1;
            in_slot = refl;
          },
        )

    asked_at : (read : Answered) (place : ℕ) → from ≤ place → place < reg.shown read → IsWriteAskedBefore setup history port (write_at place) read
    asked_at read place reaches lt now k p at =
        let b = wrote_at place reaches (shown_inside reg read place lt) in
        let c = chosen_then setup history x reg read now k p at place b.by.member b.by.at lt in
        let s = owns.owned now p place b.by.member reaches b.by.at c.term c.op c.chosen c.gives in
        let copy : IsCopyAt setup history reg.order place s.submission = record { member = b.by.member; there = b.by.at; comes = comes_after setup now history p b.by.member.slot s.submission s.comes } in
        (s.submission.op, record { k = s.k; submission = s.submission; there = s.there; is_write = same_number place (shown_inside reg read place lt) s.k s.submission s.there copy; has_op = refl {a = s.submission.op}; made = s.made })

    pub by_one : IsByOne (values_of reg.order) reg.shown (ReadGives setup history x) (IsAnsweredBefore setup history x) (IsAckedBefore setup history x reg.order) (IsAskedBefore setup history reg.order) write_at (HasBytes history port x) (IsWriteAckedBefore setup history port x) (IsWriteAskedBefore setup history port) from
    by_one = record {
      rises = λ j k reaches le lt. rises j k reaches le (omega (arith, lt, length_mapped (λ (m : Member). m.bytes) reg.order));
      has = has;
      acked = acked_at;
      asked = λ read place reaches lt asked. asked_at read place reaches lt;
    }

module _ (setup : Setup) (history : History) (port : List Submission) (x : ℕ) (rule : FollowsRule setup history port) (alone : IsAlone setup history port x) (reg : SectorRegister setup history x) where
  pub owns_all : IsOwned setup history port x rule reg 0
  owns_all = record {
    owned = λ now p place m reaches at term op c is_given.
        let s = source setup now m.slot term op x m.bytes c is_given in
        ports_own setup port now m.slot op s (alone s.submission.before s.submission.server s.submission.op s.submission.answer m.bytes (prefix_of (s.submission.before ++ submitting s.submission ∷ []) now history s.made p) s.comes.copy.took_place (ap (λ o. given o x) s.same_op ∙ is_given));
    none_before = λ place k a at copy. omega arith;
  }

  own_register : OwnRegister setup history port x
  own_register = record {
    shown = λ read. last_of (write_at setup history port x rule reg 0 owns_all) (reg.shown read);
    is_register = own_from (values_of reg.order) reg.shown (ReadGives setup history x) (IsAnsweredBefore setup history x) (IsAckedBefore setup history x reg.order) (IsAskedBefore setup history reg.order) (write_at setup history port x rule reg 0 owns_all) (HasBytes history port x) (IsWriteAckedBefore setup history port x) (IsWriteAskedBefore setup history port)
        reg.is_register (by_one setup history port x rule reg 0 owns_all);
  }

pub own : (setup : Setup) (history : History) (port : List Submission) (x : ℕ) → FollowsRule setup history port → IsAlone setup history port x → OwnRegister setup history port x
own setup history port x rule alone = own_register setup history port x rule alone (sector_register setup history x)
