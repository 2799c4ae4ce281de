-- A port hands on a write at a worked history, and is told that it is written.
use Rattle.std.proofs.Common.{◌≡◌, ℕ, true, [], ◌∷◌, drop, Some, None, slice_get, arith, refl, ap}
use Rattle.pf_base.specs.declared.asks.Reply.TheVariants.{Written}
use Rattle.pf_entry.specs.Ops.{Sector}
use Rattle.pf_protocol.specs.declared.answers.Answer.TheVariants.{Slot as SlotIs}
use Rattle.pf_protocol.specs.Servers.{Server, Running}
use Rattle.pf_protocol.specs.Saving.{restarted}
use Rattle.pf_protocol.specs.Groups.{opening, first_leader, opening_disk}
use Rattle.pf_protocol.specs.Histories.{History, replay}
use Rattle.pf_protocol.specs.OutOfOrder.{out_of_order, CommitsOutOfOrder}
use Rattle.pf_protocol.specs.Shown.{small_group}
use Rattle.pf_protocol.proofs.ForMoments.{opened}
use Rattle.pf_group_network.specs.Shown.{ServesInTerm, IsLeader}
use Rattle.pf_asks.specs.declared.port.Sent.TheVariants.{Slot}
use Rattle.pf_asks.specs.Desks.{Led, Submitted, WasAcked}
use Rattle.pf_asks.specs.Ports.{PortIs, new_port}
use Rattle.pf_law_ports.specs.Calls.{PortPast, new_past, with_write}
use Rattle.pf_law_ports.specs.Driven.{IsUndisturbedStep, IsDriven, Begins, Others, Puts, Steps}
use Rattle.pf_law_ports.specs.Worked.{its_ask, its_submission, its_past, waiting_port, answered_port}

-- all servers begin in term 1
in_term_1 : (i : ℕ) (s : Server) → slice_get (opening small_group).servers i ≡ Some (Running s) → s.durable.term ≡ 1
unfolding first_leader restarted opening_disk
in_term_1 = opened small_group (λ s. s.durable.term ≡ 1) refl (λ i. refl)

serves : ServesInTerm (replay small_group []) 0 1
unfolding opening first_leader restarted opening_disk
serves = record { low = omega arith; s = first_leader small_group; leader = _; runs = refl; serves = refl; in_term = refl }

leader : IsLeader (replay small_group []) (Some (1, 0))
leader = (serves, λ j other its. omega (arith, its.in_term, in_term_1 j its.s its.runs))

module _ (first second : Sector) where
  abbrev asked : PortPast
  asked = record { history = []; asks = 1; writes = []; reads = [] }

  abbrev asking : PortIs
  asking = record { ask = Some (its_ask first); sent = None; last = 0 }

  abbrev handed : PortPast
  handed = with_write asked (its_submission first)

  abbrev rest : History
  rest = drop 1 (out_of_order first second)

  hands : IsUndisturbedStep small_group asked asking (its_ask first) None handed (waiting_port first)
  hands = record {
    pending = refl;
    calls = Led (Some (1, 0)) ∷ Submitted 0 (record { first = 0; count = 1 }) (first ∷ []) (Some 1) ∷ [];
    drives = (
      refl,
      record {
        leader = Some (1, 0);
        rest = Submitted 0 (record { first = 0; count = 1 }) (first ∷ []) (Some 1) ∷ [];
        asked = refl;
        goes = record {
          call = Submitted 0 (record { first = 0; count = 1 }) (first ∷ []) (Some 1);
          once = refl;
          sent = Some (Slot 1);
          hands = (refl, refl, refl, refl);
          is = refl;
        };
      },
    );
    say = (asked, (refl, leader), (handed, (SlotIs 1, refl, refl), refl));
  }

  pub driven : IsDriven small_group (its_past first second) (waiting_port first)
  driven = Others handed (waiting_port first) rest (Steps asked handed asking (waiting_port first) (its_ask first) None hands (Puts (new_past []) new_port (its_ask first) 1 (omega arith) refl (Begins [])))

  -- the second slot that was acknowledged is its own
  pub told : CommitsOutOfOrder first second → IsUndisturbedStep small_group (its_past first second) (waiting_port first) (its_ask first) (Some Written) (its_past first second) answered_port
  told shows = record {
    pending = refl;
    calls = WasAcked 1 1 true ∷ [];
    drives = record { look = WasAcked 1 1 true; rest = []; asked = refl; looks = (refl, refl, refl); goes = (refl, refl) };
    say = (its_past first second, (refl, ((λ is. record { k = 1; at = ap (λ l. slice_get l 1) shows.acked }), (λ has. refl))), refl);
  }
