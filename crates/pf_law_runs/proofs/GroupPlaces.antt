-- In every run each group stands at its number, and has as many ports as there can be.
use Rattle.std.proofs.Common.{◌≡◌, ◌≢◌, ◌⊎◌, ℕ, zero, suc, ◌+◌, ◌/◌, inl, inr, List, [], ◌∷◌, ◌++◌, length, map, replicate, Option, Some, None, slice_get, slice_set, arith, refl, sym, ap, ◌∙◌, length-append}
use Rattle.std.specs.List.{range_with_len}
use Rattle.std.specs.Option.{option_map}
use Rattle.std.proofs.lemmas.List.{length-map, length-replicate}
use Rattle.std.proofs.lemmas.Option.{none-some, same_Some}
use Rattle.pf_base.specs.declared.asks.Ask.TheVariants as asks
use Rattle.pf_entry.proofs.Lists.{set_cases}
use Rattle.pf_law_movers.specs.pf_group_network.proofs.Lists.{end_cases, set_length}
use Rattle.pf_asks.specs.Ports.{PortIs, new_port, rehomed}
use Rattle.pf_volume.specs.Volumes.{Extent}
use Rattle.pf_move.specs.declared.mover.MoveNext.{MoveNext}
use Rattle.pf_move.specs.declared.mover.MoveNext.TheVariants.{Read, Switch, Write}
use Rattle.pf_move.specs.Movers.{MoverIs, MoverStep, new_mover, step}
use Rattle.pf_move.specs.Routes.{Between, RoutesIs, between, home_of_chunk}
use Rattle.pf_world.specs.pf_group_rounds.specs.Chunks.{made_chunk}
use Rattle.pf_world.specs.pf_group_rounds.specs.Halts.{Halt}
use Rattle.pf_world.specs.pf_chunk.specs.Runs.{ChunkRun, left_by_ports, most_ports, mover_port, new_run, taking_ports}
use Rattle.pf_world.specs.pf_world_moments.specs.Moments.{Heard, Moment}
use Rattle.pf_world.specs.pf_world_hosts.specs.Volumes.{VolumeRun, carries, moved_from, moves_from, with_new}
use Rattle.pf_world.specs.declared.kind.Kind.{Kind}
use Rattle.pf_world.specs.pf_live_session.specs.Sessions.{Session}
use Rattle.pf_world.specs.declared.line.Line.{Line}
use Rattle.pf_world.specs.Reports.{world_run}
use Rattle.pf_world.specs.Worlds.{volume_made}
use Rattle.pf_law_runs.specs.Scripts.{IsScript}
use Rattle.pf_law_runs.proofs.MoverStepParts.{hauled}
use Rattle.pf_law_runs.proofs.KeptByPorts.{IsKeptByPorts}
use Rattle.pf_law_movers.proofs.Ports.{ArePlaced, drives_at, placed_with, put_placed}
use Rattle.pf_law_runs.proofs.ScriptRuns.{new_group}
use Rattle.pf_law_runs.proofs.KeptThroughout.{HoldsOf, IsKeptByParts, throughout}

-- Ports in their places

pub new_port_asks : (n m : ℕ) (port : PortIs) → slice_get (replicate n new_port) m ≡ Some port → port.ask ≡ None
new_port_asks zero m port is = absurd (none-some port is)
new_port_asks (suc n) zero port is = ap (λ (p : PortIs). p.ask) (sym (same_Some new_port port is))
new_port_asks (suc n) (suc m) port is = new_port_asks n m port is

pub rehomed_at : (ports : List PortIs) (m : ℕ) (port : PortIs) → slice_get (map rehomed ports) m ≡ Some port → (before : PortIs) × (slice_get ports m ≡ Some before) × (port ≡ rehomed before)
rehomed_at [] m port at = absurd (none-some port at)
rehomed_at (p ∷ ports) zero port at = (p, refl, sym (same_Some (rehomed p) port at))
rehomed_at (p ∷ ports) (suc m) port at = rehomed_at ports m port at

-- A chunk begins to move from this group to a new one behind all others

module _ (chunks : List ChunkRun) (h : ℕ) (source new : ChunkRun) where
  abbrev pub with_both : List ChunkRun
  with_both = slice_set chunks h (left_by_ports source) ++ taking_ports source new ∷ []

  -- where the group at a place came from
  pub came_from : (k : ℕ) (c : ChunkRun) → slice_get with_both k ≡ Some c → ((k ≡ h) × (left_by_ports source ≡ c)) ⊎ ((k ≢ h) × (slice_get chunks k ≡ Some c)) ⊎ ((k ≡ length chunks) × (taking_ports source new ≡ c))
  came_from k c at = elim (end_cases (slice_set chunks h (left_by_ports source)) (taking_ports source new) k c at) [
    | inl before ↦ elim (set_cases chunks h (left_by_ports source) k c before) [
      | inl here ↦ inl (here.0, here.1)
      | inr elsewhere ↦ inr (inl (elsewhere.0, elsewhere.1))
    ]
    | inr last ↦ inr (inr (last.0 ∙ set_length chunks h (left_by_ports source), last.1))
  ]

  pub one_longer : length with_both ≡ suc (length chunks)
  one_longer = let sum = length-append (slice_set chunks h (left_by_ports source)) (taking_ports source new ∷ []) in let same = set_length chunks h (left_by_ports source) in omega (arith, sum, same)

  pub placed_there : slice_get chunks h ≡ Some source → new.group.number ≡ length chunks → ArePlaced chunks → ArePlaced with_both
  placed_there there number are k c at = elim (came_from k c at) [
    | inl here ↦ record { number = ap (λ (x : ChunkRun). x.group.number) (sym here.1) ∙ (are h source there).number ∙ sym here.0; ports = ap (λ (x : ChunkRun). length x.ports) (sym here.1) ∙ length-replicate most_ports new_port }
    | inr other ↦ elim other [
      | inl elsewhere ↦ are k c elsewhere.1
      | inr last ↦ record {
        number = ap (λ (x : ChunkRun). x.group.number) (sym last.1) ∙ number ∙ sym last.0;
        ports = ap (λ (x : ChunkRun). length x.ports) (sym last.1) ∙ length-map source.ports rehomed ∙ (are h source there).ports;
      }
    ]
  ]

-- What keeps it

pub placed_new : (chunks : List ChunkRun) (h : ℕ) (new : ChunkRun) (o : Option ChunkRun) → slice_get chunks h ≡ o → new.group.number ≡ length chunks → ArePlaced chunks → ArePlaced (with_new chunks h o new)
placed_new chunks h new None there number are = are
placed_new chunks h new (Some source) there number are = placed_there chunks h source new there number are

pub placed_on : (v : VolumeRun) (mover : MoverIs) (heard : Option Heard) (next : MoveNext) → ArePlaced v.chunks → ArePlaced (carries v mover heard next).volume.chunks
placed_on v mover heard (Read span) are = put_placed mover_port (asks.Read mover.chunk span) v.chunks (option_map (λ (b : Between). b.from) (between v.routes)) are
placed_on v mover heard (Write span sectors) are = put_placed mover_port (asks.Write mover.chunk span sectors) v.chunks (option_map (λ (b : Between). b.to) (between v.routes)) are
placed_on v mover heard Switch are = are

-- something happened to a group
pub placed_event : (chunks : List ChunkRun) (k : ℕ) (c d : ChunkRun) → slice_get chunks k ≡ Some c → d.ports ≡ c.ports → d.group.number ≡ c.group.number → ArePlaced chunks → ArePlaced (slice_set chunks d.group.number d)
placed_event chunks k c d at ports number are = placed_with chunks d.group.number c d (ap (slice_get chunks) (number ∙ (are k c at).number) ∙ at) number (ap length ports) are

abbrev pub Placed : Extent → RoutesIs → Option MoverIs → List ChunkRun → List Moment → Type 0
Placed e r mover chunks told = ArePlaced chunks

pub placed_ports : (kind : Option Kind) → IsKeptByPorts kind (λ chunks told. ArePlaced chunks)
placed_ports kind = record {
  telling = λ chunks told y said are. are;
  growing = λ chunks told k c d at ports grows adds are. placed_event chunks k c d at ports grows.number are;
  putting = λ chunks told group m ask low are. put_placed m ask chunks group are;
  stepping = λ chunks told k c m d low at step are. placed_with chunks k c d.chunk at step.grows.number step.count are;
}

module _ (halts : List Halt) where
  pub placed_move : (v : VolumeRun) (names format chunk : ℕ) (o : Option ℕ) → ArePlaced v.chunks → ArePlaced (moves_from chunk o (new_group halts v names format) v).volume.chunks
  placed_move v names format chunk None are = are
  placed_move v names format chunk (Some h) are =
      let new = new_group halts v names format in
      let s : MoverStep = step (new_mover chunk (v.extent.sectors / 8)) None in
      placed_on (moved_from v chunk h new) s.mover None s.next (placed_new v.chunks h new (slice_get v.chunks h) refl refl are)

  pub all_placed : IsKeptByParts halts (λ kind. Placed)
  all_placed = record {
    deciding = λ kind e r mover chunks told are. are;
    ports = λ kind e r mover. placed_ports kind;
    carrying = λ kind v told are.
        hauled halts (HoldsOf Placed) (λ w so_far k group its. (drives_at halts w.chunks mover_port k).placed its)
        (λ w so_far old heard there its. let s : MoverStep = step old (Some heard.reply) in placed_on w s.mover (Some heard) s.next its) v told are;
    moving = λ v told names format chunk free are. placed_move v names format chunk (home_of_chunk v.routes chunk) are;
  }

-- A new volume

-- the group at a place of new ones
pub new_chunk : (f : ℕ → ChunkRun) (n first k : ℕ) (c : ChunkRun) → slice_get (map f (range_with_len first n)) k ≡ Some c → f (first + k) ≡ c
new_chunk f zero first k c is = absurd (none-some c is)
new_chunk f (suc n) first zero c is = let same : first + 0 ≡ first = omega arith in ap f same ∙ same_Some (f first) c is
new_chunk f (suc n) first (suc k) c is = let same : first + suc k ≡ first + 1 + k = omega arith in ap f same ∙ new_chunk f n (first + 1) k c is

module _ (halts : List Halt) where
  pub made_there : (sessions : List Session) (chunks sectors names format k : ℕ) (c : ChunkRun) → slice_get (volume_made halts sessions chunks sectors names format).volume.chunks k ≡ Some c → new_run (made_chunk halts sectors names format k) ≡ c
  made_there sessions chunks sectors names format k c at =
      let f : ℕ → ChunkRun = λ i. new_run (made_chunk halts sectors names format i) in let same : k ≡ 0 + k = omega arith in ap f same ∙ new_chunk f chunks 0 k c at

  pub new_placed : (sessions : List Session) (chunks sectors names format : ℕ) → ArePlaced (volume_made halts sessions chunks sectors names format).volume.chunks
  new_placed sessions chunks sectors names format k c at =
      let is = made_there sessions chunks sectors names format k c at in record {
        number = ap (λ (x : ChunkRun). x.group.number) (sym is);
        ports = ap (λ (x : ChunkRun). length x.ports) (sym is) ∙ length-replicate most_ports new_port;
      }

  -- each group has all ports after each script
  pub ports_full : (sessions : List Session) (lines : List Line) → IsScript lines → (k : ℕ) (c : ChunkRun) → slice_get (world_run halts sessions lines).world.volume.chunks k ≡ Some c → length c.ports ≡ most_ports
  ports_full sessions lines script k c there = (throughout halts (λ kind. Placed) (all_placed halts) new_placed sessions lines script k c there).ports
