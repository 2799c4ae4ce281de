-- The groups of a volume that are all legal with no open claim, and whose ports have asks that may come.
use Rattle.std.proofs.Common.{◌≡◌, ℕ, zero, suc, inl, inr, List, [], ◌∷◌, map, Option, Some, None, slice_get, slice_set, replicate, refl, ap, subst, ◌∙◌}
use Rattle.std.proofs.lemmas.Option.{none-some, same_Some}
use Rattle.pf_base.specs.declared.asks.Ask.{Ask}
use Rattle.pf_entry.proofs.Lists.{set_cases}
use Rattle.pf_asks.specs.Ports.{PortIs, new_port, rehomed}
use Rattle.pf_protocol.specs.Histories.{History}
use Rattle.pf_law_movers.specs.pf_group_network.proofs.Lists.{end_cases}
use Rattle.pf_world.specs.pf_group_rounds.specs.Halts.{Halt}
use Rattle.pf_world.specs.pf_group_rounds.specs.Chunks.{Chunk}
use Rattle.pf_world.specs.pf_chunk.specs.Driving.{port_asked, driven}
use Rattle.pf_world.specs.pf_chunk.specs.Runs.{ChunkRun, left_by_ports, new_run, taking_ports}
use Rattle.pf_world.specs.pf_world_hosts.specs.Volumes.{with_new}
use Rattle.pf_world.specs.pf_world_moments.specs.Hosts.{drove, drove_of, put_at, run_after, with_run}
use Rattle.pf_law_legal.proofs.Rounds.{IsIdle}
use Rattle.pf_law_legal.proofs.Sent.{IsSentFor, sent_none}
use Rattle.pf_law_legal.proofs.Ports.{AreFit, AreSent, IsFit, IsFitRun, asked_fit, driven_fit}

abbrev pub AreFitRuns : List ChunkRun → Type 0
AreFitRuns chunks = (k : ℕ) (c : ChunkRun) → slice_get chunks k ≡ Some c → IsFitRun c

pub runs_with : (chunks : List ChunkRun) (k : ℕ) (c : ChunkRun) → IsFitRun c → AreFitRuns chunks → AreFitRuns (slice_set chunks k c)
runs_with chunks k c its are j d there = elim (set_cases chunks k c j d there) [ inl here ↦ subst IsFitRun here.1 its | inr away ↦ are j d away.1 ]

-- ports without asks
pub no_ask : (n m : ℕ) (port : PortIs) (ask : Ask) → slice_get (replicate n new_port) m ≡ Some port → port.ask ≡ Some ask → ⊥
no_ask n m port ask there pending = none-some ask (ap (λ (p : PortIs). p.ask) (alike n m port there) ∙ pending)
  where
    alike : (n m : ℕ) (port : PortIs) → slice_get (replicate n new_port) m ≡ Some port → new_port ≡ port
    alike zero m port there = absurd (none-some port there)
    alike (suc n) zero port there = same_Some new_port port there
    alike (suc n) (suc m) port there = alike n m port there

pub new_run_fit : (c : Chunk) → IsIdle c → IsFitRun (new_run c)
new_run_fit c is = record { group = is; ports = λ m port ask there pending. absurd (no_ask 17 m port ask there pending); sent = λ m port ask there pending. absurd (no_ask 17 m port ask there pending) }

-- an ask that may come is put into a port
pub put_fit : (chunks : List ChunkRun) (group : Option ℕ) (m : ℕ) (ask : Ask) → IsFit ask → AreFitRuns chunks → AreFitRuns (put_at chunks group m ask)
put_fit chunks None m ask fit are = are
put_fit chunks (Some g) m ask fit are = by (slice_get chunks g) refl
  where
    by : (o : Option ChunkRun) → slice_get chunks g ≡ o → AreFitRuns (with_run chunks g (run_after o (λ c. port_asked c m ask)))
    by None there = are
    by (Some c) there = runs_with chunks g (port_asked c m ask) (asked_fit c m ask fit (are g c there)) are

-- a step of a port
pub drove_fit : (halts : List Halt) (chunks : List ChunkRun) (m k : ℕ) → AreFitRuns chunks → AreFitRuns (drove halts chunks m k).chunks
drove_fit halts chunks m k are = by (slice_get chunks k) refl
  where
    by : (o : Option ChunkRun) → slice_get chunks k ≡ o → AreFitRuns (drove_of halts chunks m k o).chunks
    by None there = are
    by (Some c) there = runs_with chunks k (driven halts c m).chunk (driven_fit halts c m (are k c there)) are

-- a chunk goes to a new group, and the ports of hosts with it
pub record IsRehomed (ports : List PortIs) (m : ℕ) (port : PortIs) : Type 0 where
  pub was : PortIs
  pub there : slice_get ports m ≡ Some was
  pub is : rehomed was ≡ port

pub before_rehomed : (ports : List PortIs) (m : ℕ) (port : PortIs) → slice_get (map rehomed ports) m ≡ Some port → IsRehomed ports m port
before_rehomed [] m port there = absurd (none-some port there)
before_rehomed (p ∷ ps) zero port there = record { was = p; there = refl; is = same_Some (rehomed p) port there }
before_rehomed (p ∷ ps) (suc m) port there = let b = before_rehomed ps m port there in record { was = b.was; there = b.there; is = b.is }

rehomed_fit : (ports : List PortIs) → AreFit ports → AreFit (map rehomed ports)
rehomed_fit ports are m port ask there pending = let b = before_rehomed ports m port there in are m b.was ask b.there (ap (λ (p : PortIs). p.ask) b.is ∙ pending)

rehomed_sent : (history : History) (ports : List PortIs) → AreSent history (map rehomed ports)
rehomed_sent history ports m port ask there pending = let b = before_rehomed ports m port there in subst (λ (p : PortIs). IsSentFor history ask p.sent) b.is (sent_none history ask)

pub with_new_fit : (chunks : List ChunkRun) (home : ℕ) (o : Option ChunkRun) (new : ChunkRun) → slice_get chunks home ≡ o → IsIdle new.group → AreFitRuns chunks → AreFitRuns (with_new chunks home o new)
with_new_fit chunks home None new there idle are = are
with_new_fit chunks home (Some from) new there idle are =
    let left : IsFitRun (left_by_ports from) = record { group = (are home from there).group; ports = λ m port ask there pending. absurd (no_ask 17 m port ask there pending); sent = λ m port ask there pending. absurd (no_ask 17 m port ask there pending) } in
    let taking : IsFitRun (taking_ports from new) = record { group = idle; ports = rehomed_fit from.ports (are home from there).ports; sent = rehomed_sent new.group.history from.ports } in
    λ k c at. elim (end_cases (slice_set chunks home (left_by_ports from)) (taking_ports from new) k c at) [
      | inl before ↦ runs_with chunks home (left_by_ports from) left are k c before
      | inr last ↦ subst IsFitRun last.1 taking
    ]
