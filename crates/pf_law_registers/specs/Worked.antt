-- The worked history in which a leader that was deposed answers no read and the new one does, with its one write.
use Rattle.std.specs.Prelude.{◌≡◌, ◌≢◌, ℕ, List, [], ◌∷◌, Some}
use Rattle.pf_entry.specs.Sets
use Rattle.pf_entry.specs.Ops.{Sector}
use Rattle.pf_protocol.specs.declared.answers.Answer.TheVariants.{Done, Slot as SlotIs, Term as TermIs}
use Rattle.pf_protocol.specs.declared.events.Event.TheVariants.{Deliver, Elect}
use Rattle.pf_protocol.specs.Groups.{Answered}
use Rattle.pf_protocol.specs.Histories.{History}
use Rattle.pf_protocol.specs.Ports.{Submission, FollowsRule}
use Rattle.pf_protocol.specs.Shown.{small_group, write_at, so}
use Rattle.pf_protocol.specs.StaleReads.{stale_read}
use Rattle.pf_law_registers.specs.Sectors.{IsAckedBefore, SectorRegister}
use Rattle.pf_law_registers.specs.Alone.{IsAlone, OwnRegister}

abbrev pub before_it : History
before_it = so (Elect 1) (TermIs 2) ∷ so (Deliver 1) Done ∷ so (Deliver 2) Done ∷ []

-- a port with one write, which it submitted once
abbrev pub one_port : (first : Sector) → List Submission
one_port first = record { write = 0; before = before_it; server = 1; op = write_at 0 first; answer = SlotIs 1 } ∷ []

-- the read that was answered
abbrev pub its_read : (first : Sector) → Answered
its_read first = record {
  number = 1;
  server = 1;
  term = 2;
  range = record { first = 0; count = 1 };
  base = 0;
  applied = Sets.from_items (1 ∷ []);
  bytes = first ∷ [];
}

-- Sector 0 has one write, every other sector none. The write was acknowledged before the read was taken up, and the read shows it. The
-- port is the only one that writes the sector, and the read gives the bytes of its write 0
pub record ShowsTheWrite (first : Sector) : Type 0 where
  pub order : (r : SectorRegister small_group (stale_read first) 0) → r.order ≡ record { slot = 1; bytes = first } ∷ []
  pub elsewhere : (x : ℕ) → x ≢ 0 → (r : SectorRegister small_group (stale_read first) x) → r.order ≡ []
  pub acked : (r : SectorRegister small_group (stale_read first) 0) → IsAckedBefore small_group (stale_read first) 0 r.order 0 (its_read first)
  pub shown : (r : SectorRegister small_group (stale_read first) 0) → r.shown (its_read first) ≡ 1
  pub port : FollowsRule small_group (stale_read first) (one_port first)
  pub alone : IsAlone small_group (stale_read first) (one_port first) 0
  pub own : (r : OwnRegister small_group (stale_read first) (one_port first) 0) → r.shown (its_read first) ≡ Some 0
