-- Packets that come.
use Rattle.std.proofs.Common.{◌≡◌, sym, ap, subst, ◌∙◌}
use Rattle.pf_entry.specs.declared.packets.Body.{Body}
use Rattle.pf_entry.specs.declared.packets.Packet.{Packet}
use Rattle.pf_protocol.specs.Fitting.{PacketFits}
use Rattle.pf_protocol.specs.Rows.{on_message, on_packet}
use Rattle.pf_protocol.specs.Servers.{Server, Setup}
use Rattle.pf_server_store.specs.Stores.{StoreModel}
use Rattle.pf_server_memory.specs.declared.running.Running.{Running}
use Rattle.pf_server_memory.specs.Coming.{IsComing}
use Rattle.pf_server_memory.specs.Packets.{packet}
use Rattle.pf_server_memory.specs.Standing.{server_of}
use Rattle.pf_server_restart.specs.Beginning.{setup_of_seat}
use Rattle.pf_server_restart.specs.declared.seat.Seat.{Seat}
use Rattle.pf_server.specs.Conditions.{IsFor, IsRunning, ServerIsSound}

-- the row of what a packet says
pub same_row : (setup : Setup) (s : Server) (p : Packet) (body : Body) → p.body ≡ body → on_message setup s p.from p.term body ≡ on_packet setup s p
unfolding on_packet
same_row setup s p body is = ap (on_message setup s p.from p.term) (sym is)

module _ {S : Type 0} (model : StoreModel S) (seat : Seat) (store : S) (me : Running) (s : Server) (runs : IsRunning model seat store me s) where
  same_number : me.number ≡ s.number
  unfolding server_of
  same_number = ap (λ (x : Server). x.number) runs.is

  -- a packet for the server comes to it
  pub comes_here : ServerIsSound seat s → (p : Packet) → IsFor seat p → IsComing me p.from p.term p.body
  comes_here sound p coming =
      let to : p.to ≡ me.number = coming.to ∙ sym sound.number ∙ sym same_number in
      record {
        n = coming.n;
        t = coming.t;
        low = coming.low;
        t_low = coming.t_low;
        fits = subst (λ u. PacketFits u coming.n coming.t (packet p.from me.number p.term p.body)) (sym runs.setup)
            (subst (λ i. PacketFits (setup_of_seat seat) coming.n coming.t (packet p.from i p.term p.body)) to coming.fits);
      }
