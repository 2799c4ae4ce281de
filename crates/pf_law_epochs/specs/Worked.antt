-- Worked histories of chunks that move.
use Rattle.std.specs.Prelude.{◌≡◌, ℕ, zero, suc, ◌≤◌, List, [], ◌∷◌, map, take, Option, Some, None}
use Rattle.pf_entry.specs.Ops.{Sector}
use Rattle.pf_protocol.specs.Groups.{Answered}
use Rattle.pf_protocol.specs.Histories.{History}
use Rattle.pf_protocol.specs.Ports.{Submission}
use Rattle.pf_protocol.specs.Shown.{small_group}
use Rattle.pf_protocol.specs.StaleReads.{stale_read}
use Rattle.pf_law_registers.specs.Orders.{Member}
use Rattle.pf_law_registers.specs.Worked.{one_port, its_read}
use Rattle.pf_law_positions.specs.Carried.{zero_read}
use Rattle.pf_law_positions.specs.Deeds.{PortReply, Put, Got, Deed, Takes, Submits, Groups}
use Rattle.pf_law_positions.specs.Worked.{its_groups, its_deeds}
use Rattle.pf_law_epochs.specs.InTurn.{AreInTurn, last_asked}
use Rattle.pf_law_epochs.specs.Orders.{IsPart, order_of_sector}
use Rattle.pf_law_epochs.specs.Routed.{IsRouted}

-- the first of this, and then the rest
abbrev pub before_all : {X : Type 0} → X → (ℕ → X) → ℕ → X
before_all first rest zero = first
before_all first rest (suc epoch) = rest epoch

-- with one epoch more, before all others: a group with this history, into which clients handed nothing, and from which the mover had nothing
-- to carry
abbrev pub moved_once_more : Groups → History → Groups
moved_once_more groups history = record {
  moves = λ chunk. suc (groups.moves chunk);
  setup = λ chunk. before_all small_group (groups.setup chunk);
  history = λ chunk. before_all history (groups.history chunk);
  writes = λ chunk. before_all (λ client. []) (groups.writes chunk);
  moved = λ chunk. before_all [] (groups.moved chunk);
}

abbrev pub later_reply : Option PortReply → Option PortReply
later_reply None = None
later_reply (Some (Put chunk epoch by op)) = Some (Put chunk (suc epoch) by op)
later_reply (Some (Got chunk epoch by read)) = Some (Got chunk (suc epoch) by read)

-- a deed, one epoch later
abbrev pub later_deed : Deed → Deed
later_deed (Takes client reply ask) = Takes client (later_reply reply) ask
later_deed (Submits client chunk epoch place) = Submits client chunk (suc epoch) place

-- every chunk was moved twice with nothing but zeros in it, and then client 0 wrote sector 0 of chunk 0, and read it
abbrev pub empty_moves : (first : Sector) → Groups
empty_moves first = moved_once_more (moved_once_more (its_groups first) zero_read) zero_read

abbrev pub after_moves : (first : Sector) → List Deed
after_moves first = map later_deed (map later_deed (its_deeds first))

-- The first piece of chunk 0 meets what is asked of chunks that move. Its sector 0 has the one write, of the third epoch. It was asked in turn with the
-- read, and is the last before it
pub record WritesAfterMoves (first : Sector) : Type 0 where
  pub routed : IsRouted (empty_moves first) (after_moves first) 0 0
  pub order : (last : ℕ → Answered) (parts : ℕ → List Member) → ((epoch : ℕ) → epoch ≤ 2 → IsPart (empty_moves first) 0 0 epoch (last epoch) (parts epoch))
      → order_of_sector parts 2 ≡ record { slot = 1; bytes = first } ∷ []
  pub in_turn : AreInTurn (after_moves first) 0 0 2 4
  pub last : last_asked 0 0 (take 2 (after_moves first)) ≡ first

abbrev pub written_history : (first second : Sector) → ℕ → History
written_history first second (suc (suc epoch)) = stale_read second
written_history first second _ = stale_read first

abbrev pub written_in_epoch : (first second : Sector) → (epoch client : ℕ) → List Submission
written_in_epoch first second zero zero = one_port first
written_in_epoch first second (suc (suc epoch)) (suc zero) = one_port second
written_in_epoch first second _ _ = []

abbrev pub carried_into : (first : Sector) → ℕ → List Submission
carried_into first zero = one_port first
carried_into first _ = []

-- client 0 wrote sector 0 into the first group. The write of the second one is the mover's. Into the third one client 1 wrote the sector
-- (and the mover nothing: what the groups say is not looked at here, but for the order)
abbrev pub two_writers : (first second : Sector) → Groups
two_writers first second = record {
  moves = λ chunk. 2;
  setup = λ chunk epoch. small_group;
  history = λ chunk. written_history first second;
  writes = λ chunk. written_in_epoch first second;
  moved = λ chunk. carried_into first;
}

-- the order has the write of client 0 and then that of client 1, and the mover's is left out
pub record OrdersTwoWriters (first second : Sector) : Type 0 where
  pub order : (parts : ℕ → List Member) → ((epoch : ℕ) → epoch ≤ 2 → IsPart (two_writers first second) 0 0 epoch (its_read first) (parts epoch))
      → order_of_sector parts 2 ≡ record { slot = 1; bytes = first } ∷ record { slot = 1; bytes = second } ∷ []
