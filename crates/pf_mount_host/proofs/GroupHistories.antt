-- What a host over a layout does only adds to the histories of the groups.
use Rattle.pf_world_moments.specs.pf_chunk.proofs.Driven.{heard_extends, led_extends}
use Rattle.pf_world_moments.specs.pf_chunk.specs.Driving.{port_heard, led}
use Rattle.std.proofs.Common.{◌≡◌, ℕ, zero, suc, List, length, Option, Some, None, slice_get, slice_set, refl, sym, subst}
use Rattle.pf_base.specs.declared.asks.Ask.{Ask}
use Rattle.pf_base.specs.declared.asks.Reply.{Reply}
use Rattle.pf_base.specs.Asks.{chunk_of}
use Rattle.pf_world_moments.specs.pf_group_rounds.specs.Halts.{Halt}
use Rattle.pf_world_moments.specs.pf_chunk.specs.Runs.{ChunkRun}
use Rattle.pf_move.specs.Routes.{RoutesIs, home_of_chunk}
use Rattle.pf_mount.specs.Nexts.{next_ask, ports_of}
use Rattle.pf_world_moments.proofs.HistoryGrowth.{Lengthens, lengthens_one, lengthens_refl, lengthens_trans, put_lengthens}
use Rattle.pf_mount_host.specs.Hosts.{HostIs, Stepped, asks, asks_all, asks_on, host_followed, group_asked_at, hands_ask, hands_at, hands_of, hears, hears_all, hears_at, hears_of, in_turn, mount_number, puts_if, stepped, takes_if}

-- and then more was done
follow_lengthens : (chunks : List ChunkRun) (s : Stepped) (next : List ChunkRun → HostIs → Stepped) → Lengthens chunks s.chunks → ((cs : List ChunkRun) (h : HostIs) → Lengthens cs (next cs h).chunks) → Lengthens chunks (host_followed s next).chunks
follow_lengthens chunks s next first more = lengthens_trans chunks s.chunks (next s.chunks s.host).chunks first (more s.chunks s.host)

-- and so each port in turn
turns_lengthen : (count : ℕ) (step : (port : ℕ) → List ChunkRun → HostIs → Stepped) → ((port : ℕ) (cs : List ChunkRun) (h : HostIs) → Lengthens cs (step port cs h).chunks) → (chunks : List ChunkRun) (host : HostIs)
    → Lengthens chunks (in_turn count step chunks host).chunks
turns_lengthen zero step more chunks host = lengthens_refl chunks
turns_lengthen (suc port) step more chunks host = follow_lengthens chunks (in_turn port step chunks host) (step port) (turns_lengthen port step more chunks host) (more port)

-- Answers

pub takes_chunks : (chunks : List ChunkRun) (host : HostIs) (port by : ℕ) (reply : Option Reply) → (takes_if chunks host port by reply).chunks ≡ chunks
takes_chunks chunks host port by None = refl
takes_chunks chunks host port by (Some reply) = refl

hears_of_lengthens : (chunks : List ChunkRun) (host : HostIs) (port k : ℕ) (at : Option ChunkRun) → slice_get chunks k ≡ at → Lengthens chunks (hears_of chunks host port k at).chunks
hears_of_lengthens chunks host port k None there = lengthens_refl chunks
hears_of_lengthens chunks host port k (Some c) there =
    let d = port_heard c (mount_number host.mount) in
    subst (Lengthens chunks) (sym (takes_chunks (slice_set chunks k d.chunk) host port (length d.chunk.group.history) d.reply)) (lengthens_one chunks k c d.chunk there (heard_extends c (mount_number host.mount)))

hears_at_lengthens : (chunks : List ChunkRun) (host : HostIs) (port : ℕ) (group : Option ℕ) → Lengthens chunks (hears_at chunks host port group).chunks
hears_at_lengthens chunks host port None = lengthens_refl chunks
hears_at_lengthens chunks host port (Some k) = hears_of_lengthens chunks host port k (slice_get chunks k) refl

pub hears_lengthens : (routes : RoutesIs) (port : ℕ) (chunks : List ChunkRun) (host : HostIs) → Lengthens chunks (hears routes port chunks host).chunks
hears_lengthens routes port chunks host = hears_at_lengthens chunks host port (group_asked_at routes host port)

hears_all_lengthen : (routes : RoutesIs) (chunks : List ChunkRun) (host : HostIs) → Lengthens chunks (hears_all routes chunks host).chunks
hears_all_lengthen routes chunks host = turns_lengthen (ports_of host.mount) (hears routes) (hears_lengthens routes) chunks host

-- Asks

puts_if_lengthens : (routes : RoutesIs) (port : ℕ) (chunks : List ChunkRun) (host : HostIs) (ask : Option Ask) → Lengthens chunks (puts_if routes port chunks host ask).chunks
puts_if_lengthens routes port chunks host None = lengthens_refl chunks
puts_if_lengthens routes port chunks host (Some ask) = put_lengthens chunks (home_of_chunk routes (chunk_of ask)) (mount_number host.mount) ask

pub asks_lengthens : (routes : RoutesIs) (port : ℕ) (chunks : List ChunkRun) (host : HostIs) → Lengthens chunks (asks routes port chunks host).chunks
asks_lengthens routes port chunks host = puts_if_lengthens routes port chunks host (next_ask host.mount host.at port)

hands_of_lengthens : (halts : List Halt) (chunks : List ChunkRun) (host : HostIs) (k : ℕ) (at : Option ChunkRun) → slice_get chunks k ≡ at → Lengthens chunks (hands_of halts chunks host k at).chunks
hands_of_lengthens halts chunks host k None there = lengthens_refl chunks
hands_of_lengthens halts chunks host k (Some c) there = lengthens_one chunks k c (led halts c (mount_number host.mount)).chunk there (led_extends halts c (mount_number host.mount))

hands_at_lengthens : (halts : List Halt) (chunks : List ChunkRun) (host : HostIs) (group : Option ℕ) → Lengthens chunks (hands_at halts chunks host group).chunks
hands_at_lengthens halts chunks host None = lengthens_refl chunks
hands_at_lengthens halts chunks host (Some k) = hands_of_lengthens halts chunks host k (slice_get chunks k) refl

pub hands_lengthens : (halts : List Halt) (routes : RoutesIs) (port : ℕ) (chunks : List ChunkRun) (host : HostIs) → Lengthens chunks (hands_ask halts routes port chunks host).chunks
hands_lengthens halts routes port chunks host = hands_at_lengthens halts chunks host (group_asked_at routes host port)

pub asks_on_lengthens : (halts : List Halt) (routes : RoutesIs) (port : ℕ) (chunks : List ChunkRun) (host : HostIs) → Lengthens chunks (asks_on halts routes port chunks host).chunks
asks_on_lengthens halts routes port chunks host =
    follow_lengthens chunks (asks routes port chunks host) (hands_ask halts routes port) (asks_lengthens routes port chunks host) (hands_lengthens halts routes port)

pub asks_all_lengthen : (halts : List Halt) (routes : RoutesIs) (chunks : List ChunkRun) (host : HostIs) → Lengthens chunks (asks_all halts routes chunks host).chunks
asks_all_lengthen halts routes chunks host = turns_lengthen (ports_of host.mount) (asks_on halts routes) (asks_on_lengthens halts routes) chunks host

pub stepped_lengthens : (halts : List Halt) (routes : RoutesIs) (chunks : List ChunkRun) (host : HostIs) → Lengthens chunks (stepped halts routes chunks host).chunks
unfolding stepped
stepped_lengthens halts routes chunks host =
    follow_lengthens chunks (hears_all routes chunks host) (asks_all halts routes) (hears_all_lengthen routes chunks host) (asks_all_lengthen halts routes)
