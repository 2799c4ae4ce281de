-- Ports that go to another group.
use Rattle.std.proofs.Common.{◌≡◌, ℕ, zero, suc, List, [], ◌∷◌, length, map, Some, replicate, slice_get, ap, ◌∙◌}
use Rattle.std.proofs.lemmas.List.{length-map, length-replicate}
use Rattle.std.proofs.lemmas.Option.{none-some, same_Some}
use Rattle.pf_asks.specs.declared.port.Sent.TheVariants.{Number}
use Rattle.pf_asks.specs.Ports.{PortIs, new_port, rehomed}
use Rattle.pf_chunk.specs.Runs.{most_ports, new_ports}
use Rattle.pf_chunk.specs.Views.{ChunkIs, ChunkIsReady}

-- nothing was handed on by them yet
pub no_read : (n k : ℕ) (p : PortIs) → slice_get (replicate n new_port) k ≡ Some p → (number : ℕ) → p.sent ≡ Some (Number number) → ⊥
no_read zero k p at number sent = none-some p at
no_read (suc n) zero p at number sent = none-some (Number number) (ap (λ (x : PortIs). x.sent) (same_Some new_port p at) ∙ sent)
no_read (suc n) (suc k) p at number sent = no_read n k p at number sent

rehomed_unread : (ports : List PortIs) (k : ℕ) (p : PortIs) → slice_get (map rehomed ports) k ≡ Some p → (number : ℕ) → p.sent ≡ Some (Number number) → ⊥
rehomed_unread [] k p at number sent = none-some p at
rehomed_unread (x ∷ xs) zero p at number sent = none-some (Number number) (ap (λ (q : PortIs). q.sent) (same_Some (rehomed x) p at) ∙ sent)
rehomed_unread (x ∷ xs) (suc k) p at number sent = rehomed_unread xs k p at number sent

unread_ready : (c : ChunkIs) (ports : List PortIs) → ChunkIsReady c → length ports ≡ most_ports
    → ((k : ℕ) (p : PortIs) → slice_get ports k ≡ Some p → (number : ℕ) → p.sent ≡ Some (Number number) → ⊥) → ChunkIsReady (record c { ports = ports })
unread_ready c ports ready count unread = record {
  claims = ready.claims;
  applied = ready.applied;
  kept = record {
    numbered = ready.kept.numbered;
    listed = ready.kept.listed;
    ports_fit = record { count = count; reads = λ m p number at sent. absurd (unread m p at number sent) };
  };
  few = ready.few;
  first_sent = ready.first_sent;
  none_left = ready.none_left;
}

pub left_ready : (c : ChunkIs) → ChunkIsReady c → ChunkIsReady (record c { ports = new_ports })
left_ready c ready = unread_ready c new_ports ready (length-replicate most_ports new_port) (no_read most_ports)

pub taking_ready : (from to : ChunkIs) → ChunkIsReady from → ChunkIsReady to → ChunkIsReady (record to { ports = map rehomed from.ports })
taking_ready from to ready new = unread_ready to (map rehomed from.ports) new (length-map from.ports rehomed ∙ ready.kept.ports_fit.count) (rehomed_unread from.ports)
