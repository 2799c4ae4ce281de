-- A sector that was moved is one register.
use Rattle.std.proofs.Common.{◌≡◌, ℕ, zero, suc, ◌<◌, ◌≤◌, inl, inr, List, Some, slice_get, arith, refl, sym, ap, ◌∙◌}
use Rattle.std.proofs.lemmas.Bool.{cases_lt}
use Rattle.pf_entry.specs.Ops.{Sector, zero_sector}
use Rattle.pf_protocol.specs.Servers.{Setup}
use Rattle.pf_protocol.specs.Groups.{Answered}
use Rattle.pf_protocol.specs.Histories.{History}
use Rattle.pf_protocol.specs.Ports.{Submission, FollowsRule}
use Rattle.pf_protocol.proofs.ForMoments.{begins_with}
use Rattle.pf_protocol.proofs.ForPorts.{not_over, comes_op}
use Rattle.pf_law_registers.specs.Registers.{left_by_writes, IsRegister}
use Rattle.pf_law_registers.specs.Orders.{Member, given, values_of}
use Rattle.pf_law_registers.specs.Sectors.{ReadGives, IsAnsweredBefore, IsAckedBefore, IsAskedBefore, SectorRegister, IsCopyAt}
use Rattle.pf_law_registers.specs.Firsts.{ComeFirst}
use Rattle.pf_law_registers.specs.Joined.{Earlier}
use Rattle.pf_law_registers.specs.Moved.{IsWriteEndedBefore, IsMove, LaterRead, IsMovedRegister, MovedRegister}
use Rattle.pf_law_registers.proofs.Lists.{length_mapped, left_at}
use Rattle.pf_law_registers.proofs.Firsts.{gives_it, firsts_come}
use Rattle.pf_law_registers.proofs.JoinedRegisters.{restricted, joined}

-- a read that is taken up after a write was acknowledged shows each of its copies
pub ended_shown : (setup : Setup) (history : History) (x : ℕ) (r : SectorRegister setup history x) (port : List Submission) → FollowsRule setup history port → (place k : ℕ) (a : Submission) (read : Answered) → slice_get port k ≡ Some a → IsCopyAt setup history r.order place a → IsWriteEndedBefore setup history port x a.write read → place < r.shown read
ended_shown setup history x r port rule place k a read at copy w =
    let m : Member = record { slot = w.ended.answered.acked.slot; bytes = w.its_bytes } in
    let found = r.is_order.all (record { slot = w.ended.answered.acked.slot; bytes = w.its_bytes }) (record { term = w.comes.term; op = w.comes.op; chosen = w.comes.chosen; gives = ap (λ o. given o x) (comes_op setup history w.ended.answered.acked.slot w.ended.final w.comes) ∙ w.writes_it }) in
    let shown = r.is_register.acked read found.0 (record {
      taken = w.taken;
      k = w.ended.answered.k;
      acked = w.ended.answered.acked;
      was_acked = w.ended.answered.at;
      member = record { slot = w.ended.answered.acked.slot; bytes = w.its_bytes };
      there = found.1;
      in_slot = refl;
    }) in
    elim (cases_lt found.0 place) [
      | inr not_before ↦ omega (arith, not_before, shown)
      | inl before ↦
          let less = r.is_order.ascends found.0 place (record { slot = w.ended.answered.acked.slot; bytes = w.its_bytes }) copy.member found.1 copy.there before in
          absurd (not_over setup history port rule k a at w.taken.before (begins_with w.taken.before history w.taken.fetched.fetch w.taken.fetched.is_part) w.ended copy.member.slot copy.comes less)
    ]

module _ (setup : Setup) (history : History) (x : ℕ) (new : SectorRegister setup history x) (port : List Submission) (bytes : Sector) (move : IsMove setup history x new port bytes) (made : ℕ) (come : ComeFirst setup history new.order port made) where
  -- what the port wrote first
  made_bytes : (n : ℕ) → n ≡ made → left_by_writes zero_sector (values_of new.order) n ≡ bytes
  made_bytes zero none = elim move.made [
    | inl zeros ↦ sym zeros
    | inr some ↦ absurd (come.none_later some.0 some.1 some.2 (omega (arith, none)) some.3 some.4)
  ]
  made_bytes (suc n) is =
      let c = come.first n (omega (arith, is)) in
      left_at (λ (m : Member). m.bytes) new.order n c.3.member zero_sector c.3.there
      ∙ move.same c.0 c.1 c.3.member.bytes c.2 (gives_it setup history x new.order port new.is_order move.rule move.first n c.1 c.3)

  pub shows_made : (b : LaterRead setup history port x) (n : ℕ) → n ≡ made → n ≤ new.shown b.answer
  shows_made b zero none = omega arith
  shows_made b (suc n) is =
      let c = come.first n (omega (arith, is)) in
      let g = gives_it setup history x new.order port new.is_order move.rule move.first n c.1 c.3 in
      omega (arith, ended_shown setup history x new port move.rule n c.0 c.1 b.answer c.2 c.3 (b.is_later c.0 c.1 c.3.member.bytes c.2 g))

  module _ {R : Type 0} (values : List Sector) (shown : R → ℕ) (Give : R → Sector → Type 0) (AnsweredBefore : R → R → Type 0) (AckedBefore AskedBefore : ℕ → R → Type 0) where
    -- any register goes on in the new group
    pub moves_on : (is : IsRegister values shown Give AnsweredBefore AckedBefore AskedBefore) (last : R) → Give last bytes → IsMovedRegister values shown Give AnsweredBefore AckedBefore AskedBefore last setup history x new port made
    moves_on is last gave =
        joined values (values_of new.order) (λ (a : Earlier AnsweredBefore last). shown a.read) (λ (b : LaterRead setup history port x). new.shown b.answer)
        (λ a. Give a.read) (λ b. ReadGives setup history x b.answer)
        (λ a b. AnsweredBefore a.read b.read) (λ a b. IsAnsweredBefore setup history x a.answer b.answer)
        (λ place a. AckedBefore place a.read) (λ place a. AskedBefore place a.read)
        (λ place b. IsAckedBefore setup history x new.order place b.answer) (λ place b. IsAskedBefore setup history new.order place b.answer)
        (restricted values shown Give AnsweredBefore AckedBefore AskedBefore (λ (a : Earlier AnsweredBefore last). a.read) is)
        (restricted (values_of new.order) new.shown (ReadGives setup history x) (IsAnsweredBefore setup history x) (IsAckedBefore setup history x new.order) (IsAskedBefore setup history new.order) (λ (b : LaterRead setup history port x). b.answer) new.is_register)
        (shown last) made (is.within last) (omega (arith, come.within, length_mapped (λ (m : Member). m.bytes) new.order))
        (made_bytes made refl ∙ is.gives last bytes gave)
        (λ a. is.grows a.read last a.is_earlier) (λ b. shows_made b made refl)

-- the sector of one group, moved to another
pub moved_register : (old_setup : Setup) (old_history : History) (new_setup : Setup) (new_history : History) (x : ℕ) (old : SectorRegister old_setup old_history x) (new : SectorRegister new_setup new_history x) (port : List Submission) (last : Answered) (bytes : Sector) → ReadGives old_setup old_history x last bytes → IsMove new_setup new_history x new port bytes → MovedRegister old_setup old_history new_setup new_history x old new port last
moved_register old_setup old_history new_setup new_history x old new port last bytes gave move =
    let c = firsts_come new_setup new_history x new.order port new.is_order move.rule move.first in
    record {
      made = c.0;
      come_first = c.1;
      is_register = moves_on new_setup new_history x new port bytes move c.0 c.1 (values_of old.order) old.shown (ReadGives old_setup old_history x) (IsAnsweredBefore old_setup old_history x) (IsAckedBefore old_setup old_history x old.order) (IsAskedBefore old_setup old_history old.order) old.is_register last gave;
    }
