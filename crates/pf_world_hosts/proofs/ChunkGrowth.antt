-- More happens to the chunks of a volume.
use Rattle.std.proofs.Common.{◌≡◌, ℕ, ◌<◌, Bool, IsTrue, List, [], ◌∷◌, length, Option, Some, None, slice_get, slice_set, inl, inr, refl, sym, ap, subst, ◌∙◌}
use Rattle.std.proofs.lemmas.List.{length-map}
use Rattle.std.proofs.lemmas.Option.{same_Some, slice_get_within}
use Rattle.std.specs.List.{range_with_len}
use Rattle.std.specs.Option.{option_map}
use Rattle.pf_entry.proofs.Lists.{set_cases, set_there}
use Rattle.pf_mount_host.specs.pf_group_network.proofs.Lists.{set_elsewhere, set_length, something_there}
use Rattle.pf_protocol.specs.Groups.{Group, opening}
use Rattle.pf_protocol.specs.Histories.{replay, run}
use Rattle.pf_mount_host.specs.pf_group.specs.GroupIs.{GroupIs, state_of}
use Rattle.pf_mount_host.specs.pf_group.specs.Packets.{NoneComesBack}
use Rattle.pf_mount_host.specs.pf_group.proofs.SentPackets.{OnlySent, run_sent}
use Rattle.pf_mount_host.specs.pf_group_rounds.specs.Agreeing.{TellsOfGroup}
use Rattle.pf_mount_host.specs.pf_group_rounds.specs.Begun.{GroupHasBegun}
use Rattle.pf_mount_host.specs.pf_group_rounds.specs.Growing.{HasGrown}
use Rattle.pf_mount_host.specs.pf_group_rounds.specs.Halts.{Halt}
use Rattle.pf_mount_host.specs.pf_group_rounds.proofs.RunHistories.{extends_refl}
use Rattle.pf_mount_host.specs.pf_group_rounds.proofs.GroupGrowth.{grown_refl, grown_tells, grown_trans}
use Rattle.pf_mount_host.specs.pf_chunk.specs.Runs.{ChunkRun, mover_port}
use Rattle.pf_mount_host.specs.pf_chunk.specs.Views.{ChunkIs, run_of}
use Rattle.pf_mount_host.specs.pf_chunk.proofs.FollowUps.{run_on}
use Rattle.pf_base.specs.declared.asks.Ask.TheVariants as asks
use Rattle.pf_base.specs.declared.asks.Reply.{Reply}
use Rattle.pf_move.specs.declared.mover.MoveNext.{MoveNext}
use Rattle.pf_move.specs.declared.mover.MoveNext.TheVariants.{Read, Write, Switch}
use Rattle.pf_move.specs.Movers.{MoverIs, MoverStep, step}
use Rattle.pf_move.specs.Routes as routes
use Rattle.pf_mount_host.specs.pf_world_moments.specs.Moments.{Heard}
use Rattle.pf_mount_host.specs.pf_world_moments.specs.Hosts.{Drove, drove, event_count}
use Rattle.pf_mount_host.specs.pf_world_moments.specs.Steps.{HaveBegun, HaveGone, HaveGrown, TellsAll, chunk_runs}
use Rattle.pf_mount_host.specs.pf_world_moments.proofs.PortDrives.{one_by_one}
use Rattle.pf_mount_host.specs.pf_world_moments.proofs.Groups.{all_begun, begun_on, run_there}
use Rattle.pf_mount_host.specs.pf_world_moments.proofs.HistoryGrowth.{Lengthens, drove_lengthens, lengthens_refl, lengthens_trans, put_lengthens}
use Rattle.pf_mount_host.specs.Hosts.{HostIs}
use Rattle.pf_mount_host.proofs.GroupHistories.{stepped_lengthens}
use Rattle.pf_world_hosts.specs.Steps.{AllStay, ChunkStays}
use Rattle.pf_world_hosts.specs.Volumes.{VolumeRun, all_step, carries, host_at, host_steps, hosts_step, mover_group, mover_hands, mover_hands_to, mover_hears_in, mover_replied, mover_steps, mover_steps_at, host_step_of, these_step}

pub grown_refl_all : (chunks : List ChunkIs) → HaveGrown chunks chunks
grown_refl_all chunks = record { count = refl; each = λ k x y at to. subst (λ (z : ChunkIs). HasGrown x.group z.group) (same_Some x y (sym at ∙ to)) (grown_refl x.group) }

-- the chunk in between
between : (a b : List ChunkIs) → HaveGrown a b → (k : ℕ) (x : ChunkIs) → slice_get a k ≡ Some x → (y : ChunkIs) × (slice_get b k ≡ Some y)
between a b grown k x at = something_there b k (subst (λ n. k < n) (sym grown.count) (slice_get_within a k x at))

pub grown_trans_all : (a b c : List ChunkIs) → HaveGrown a b → HaveGrown b c → HaveGrown a c
grown_trans_all a b c first second = record {
  count = second.count ∙ first.count;
  each = λ k x z at to.
      let mid = between a b first k x at in
      grown_trans x.group mid.0.group z.group (first.each k x mid.0 at mid.1) (second.each k mid.0 z mid.1 to);
}

-- a list that tells of the chunks told of them before
pub tells_before : (halts : List Halt) (a b : List ChunkIs) → HaveGrown a b → TellsAll halts b → TellsAll halts a
tells_before halts a b grown tells k x at =
    let after = between a b grown k x at in
    grown_tells halts x.group after.0.group (grown.each k x after.0 at after.1) (tells k after.0 after.1)

-- the disks of each chunk tell their content
abbrev pub AreTold : List ChunkIs → Type 0
AreTold chunks = (k : ℕ) (c : ChunkIs) → slice_get chunks k ≡ Some c → IsTrue c.group.told

pub all_told : (halts : List Halt) (chunks : List ChunkIs) → TellsAll halts chunks → AreTold chunks
all_told halts chunks tells k c at = (tells k c at).told

pub told_before : (a b : GroupIs) → HasGrown a b → IsTrue b.told → IsTrue a.told
told_before a b grown = subst (λ (b : Bool). IsTrue b) grown.told

-- one chunk has grown
pub one_grown : (old : List ChunkIs) (k : ℕ) (was is : ChunkIs) → slice_get old k ≡ Some was → HasGrown was.group is.group → HaveGrown old (slice_set old k is)
one_grown old k was is at grown = record {
  count = set_length old k is;
  each = one_by_one k k old was is at (λ x y. HasGrown x.group y.group) grown (λ c. grown_refl c.group);
}

-- No packet comes back

pub only_sent : (a b : GroupIs) → HasGrown a b → OnlySent (state_of a).packets (state_of b).packets
only_sent a b grown =
    let rest = grown.later.rest in
    let same : state_of b ≡ run a.setup (state_of a) rest =
    ap (λ setup. replay setup b.history) grown.setup ∙ ap (replay a.setup) (sym grown.later.whole) ∙ run_on a.setup a.history rest (opening a.setup) in
    subst (λ (g : Group). OnlySent (state_of a).packets g.packets) (sym same) (run_sent a.setup rest (state_of a))

pub grown_left : (a b : GroupIs) → HasGrown a b → NoneComesBack (state_of a) (state_of b)
grown_left a b grown = (only_sent a b grown).none

pub stay_refl : (chunks : List ChunkIs) → AllStay chunks chunks
stay_refl chunks k was is at to = subst (ChunkStays was) (same_Some was is (sym at ∙ to)) (record { left = λ j left. inl left; first = refl; next = refl })

pub stay_trans : (a b c : List ChunkIs) → HaveGrown a b → HaveGrown b c → AllStay a b → AllStay b c → AllStay a c
stay_trans a b c grown more first second k x z at to =
    let mid = between a b grown k x at in
    let one = first k x mid.0 at mid.1 in
    let two = second k mid.0 z mid.1 to in record {
      left = grown_left x.group z.group (grown_trans x.group mid.0.group z.group (grown.each k x mid.0 at mid.1) (more.each k mid.0 z mid.1 to));
      first = two.first ∙ one.first;
      next = two.next ∙ one.next;
    }

pub gone_stays : (m : ℕ) (a b : List ChunkIs) → HaveGone m a b → AllStay a b
gone_stays m a b gone k x y at to = let goes = gone.each k x y at to in record { left = goes.left; first = goes.first; next = goes.next }

-- Beginnings

-- a beginning of what would have come to these chunks is one of what comes after
pub begun_through : (halts : List Halt) (old mid new : List ChunkIs) (would later : List ChunkRun) → HaveGrown old mid → HaveBegun halts mid would new → Lengthens would later → HaveBegun halts old later new
begun_through halts old mid new would later grown begun longer = record {
  count = longer.count ∙ begun.count;
  each = λ k x y run at to in_later.
      let mid_one = between old mid grown k x at in
      let first = something_there would k (subst (λ n. k < n) longer.count (slice_get_within later k run in_later)) in
      begun_on halts x.group mid_one.0.group y.group first.0.group run.group (grown.each k x mid_one.0 at mid_one.1) (longer.each k first.0 run first.1 in_later)
      (begun.each k mid_one.0 y first.0 mid_one.1 to first.1);
}

-- chunk k stands at a beginning, and the others where they stood
pub one_begun : (halts : List Halt) (old : List ChunkIs) (k : ℕ) (was is : ChunkIs) (would : ChunkRun) → slice_get old k ≡ Some was → TellsAll halts (slice_set old k is) → GroupHasBegun halts was.group would.group is.group
    → HaveBegun halts old (slice_set (chunk_runs halts old) k would) (slice_set old k is)
one_begun halts old k was is would here tells begun = record {
  count = set_length (chunk_runs halts old) k would ∙ length-map old (run_of halts) ∙ sym (set_length old k is);
  each = each;
} where
  each : (j : ℕ) (x y : ChunkIs) (run : ChunkRun) → slice_get old j ≡ Some x → slice_get (slice_set old k is) j ≡ Some y → slice_get (slice_set (chunk_runs halts old) k would) j ≡ Some run → GroupHasBegun halts x.group run.group y.group
  each j x y run at to there = elim (set_cases (chunk_runs halts old) k would j run there) [
    | inl it ↦
        let was_x : was ≡ x = same_Some was x (sym here ∙ ap (slice_get old) (sym it.0) ∙ at) in
        let is_y : is ≡ y = same_Some is y (sym (set_there old k was is here) ∙ ap (slice_get (slice_set old k is)) (sym it.0) ∙ to) in
        subst (λ (z : ChunkIs). GroupHasBegun halts z.group run.group y.group) was_x
        (subst (λ (z : ChunkIs). GroupHasBegun halts was.group run.group z.group) is_y
        (subst (λ (z : ChunkRun). GroupHasBegun halts was.group z.group is.group) it.1 begun))
    | inr other ↦
        let y_x : y ≡ x = same_Some y x (sym to ∙ set_elsewhere old k j is other.0 ∙ at) in
        let run_is : run_of halts x ≡ run = same_Some (run_of halts x) run (sym (run_there halts old j x at) ∙ other.1) in
        subst (λ (z : ChunkIs). GroupHasBegun halts x.group run.group z.group) (sym y_x)
        (subst (λ (z : ChunkRun). GroupHasBegun halts x.group z.group x.group) run_is
        (all_begun halts x.group x.group (run_of halts x).group (subst (λ (z : ChunkIs). TellsOfGroup halts z.group) y_x (tells j y to)) (grown_refl x.group) (extends_refl (run_of halts x).group)))
  ]

-- what came to these chunks stands at a whole beginning
pub all_stand : (halts : List Halt) (chunks : List ChunkIs) → TellsAll halts chunks → HaveBegun halts chunks (chunk_runs halts chunks) chunks
all_stand halts chunks tells = record {
  count = length-map chunks (run_of halts);
  each = λ k x y run at to there.
      let y_x : y ≡ x = same_Some y x (sym to ∙ at) in
      let run_is : run_of halts y ≡ run = same_Some (run_of halts y) run (sym (run_there halts chunks k y to) ∙ there) in
      subst (λ (z : ChunkRun). GroupHasBegun halts x.group z.group y.group) run_is
      (all_begun halts x.group y.group (run_of halts y).group (tells k y to) (subst (λ (z : ChunkIs). HasGrown z.group y.group) y_x (grown_refl y.group)) (extends_refl (run_of halts y).group));
}

-- Steps of hosts only add to histories

at_lengthens : (halts : List Halt) (m : ℕ) (v : VolumeRun) (host : Option HostIs) → Lengthens v.chunks (host_step_of halts m v host).volume.chunks
at_lengthens halts m v None = lengthens_refl v.chunks
at_lengthens halts m v (Some host) = stepped_lengthens halts v.routes v.chunks host

pub host_lengthens : (halts : List Halt) (m : ℕ) (v : VolumeRun) → Lengthens v.chunks (host_steps halts m v).volume.chunks
host_lengthens halts m v = at_lengthens halts m v (host_at v.hosts m)

pub these_lengthen : (halts : List Halt) (mounts : List ℕ) (v : VolumeRun) → Lengthens v.chunks (these_step halts mounts v).volume.chunks
these_lengthen halts [] v = lengthens_refl v.chunks
these_lengthen halts (m ∷ mounts) v =
    let first = (host_steps halts m v).volume in
    lengthens_trans v.chunks first.chunks (these_step halts mounts first).volume.chunks (host_lengthens halts m v) (these_lengthen halts mounts first)

pub hosts_lengthen : (halts : List Halt) (v : VolumeRun) → Lengthens v.chunks (hosts_step halts v).volume.chunks
unfolding hosts_step
hosts_lengthen halts v = these_lengthen halts (range_with_len 0 (length v.hosts)) v

-- So do steps of the mover

pub carries_lengthens : (v : VolumeRun) (mover : MoverIs) (heard : Option Heard) (next : MoveNext) → Lengthens v.chunks (carries v mover heard next).volume.chunks
carries_lengthens v mover heard (Read span) = put_lengthens v.chunks (option_map (λ (b : routes.Between). b.from) (routes.between v.routes)) mover_port (asks.Read mover.chunk span)
carries_lengthens v mover heard (Write span sectors) = put_lengthens v.chunks (option_map (λ (b : routes.Between). b.to) (routes.between v.routes)) mover_port (asks.Write mover.chunk span sectors)
carries_lengthens v mover heard Switch = lengthens_refl v.chunks

hears_lengthens : (v : VolumeRun) (heard : Heard) (mover : Option MoverIs) → Lengthens v.chunks (mover_hears_in v heard mover).volume.chunks
hears_lengthens v heard None = lengthens_refl v.chunks
hears_lengthens v heard (Some mover) = let s : MoverStep = step mover (Some heard.reply) in carries_lengthens v s.mover (Some heard) s.next

hands_lengthens_to : (halts : List Halt) (group : Option ℕ) (v : VolumeRun) → Lengthens v.chunks (mover_hands_to halts group v).volume.chunks
hands_lengthens_to halts None v = lengthens_refl v.chunks
hands_lengthens_to halts (Some k) v = drove_lengthens halts v.chunks mover_port k

pub hands_lengthens : (halts : List Halt) (v : VolumeRun) → Lengthens v.chunks (mover_hands halts v).volume.chunks
hands_lengthens halts v = hands_lengthens_to halts (mover_group v) v

pub replied_lengthens : (halts : List Halt) (v : VolumeRun) (k : ℕ) (d : Drove) (reply : Option Reply) → Lengthens d.chunks (mover_replied halts v k d reply).volume.chunks
replied_lengthens halts v k d None = lengthens_refl d.chunks
replied_lengthens halts v k d (Some reply) =
    let heard : Heard = record { reply = reply; by = event_count (slice_get d.chunks k) } in
    let mid : VolumeRun = record v { chunks = d.chunks } in
    let heard_so : VolumeRun = (mover_hears_in mid heard v.mover).volume in
    lengthens_trans d.chunks heard_so.chunks (mover_hands halts heard_so).volume.chunks (hears_lengthens mid heard v.mover) (hands_lengthens halts heard_so)

steps_lengthen_at : (halts : List Halt) (group : Option ℕ) (v : VolumeRun) → Lengthens v.chunks (mover_steps_at halts group v).volume.chunks
steps_lengthen_at halts None v = lengthens_refl v.chunks
steps_lengthen_at halts (Some k) v =
    let d : Drove = drove halts v.chunks mover_port k in
    lengthens_trans v.chunks d.chunks (mover_replied halts v k d d.reply).volume.chunks (drove_lengthens halts v.chunks mover_port k) (replied_lengthens halts v k d d.reply)

pub mover_lengthens : (halts : List Halt) (v : VolumeRun) → Lengthens v.chunks (mover_steps halts v).volume.chunks
unfolding mover_steps
mover_lengthens halts v = steps_lengthen_at halts (mover_group v) v

pub all_lengthen : (halts : List Halt) (v : VolumeRun) → Lengthens v.chunks (all_step halts v).volume.chunks
all_lengthen halts v =
    let mid : VolumeRun = (hosts_step halts v).volume in
    lengthens_trans v.chunks mid.chunks (mover_steps halts mid).volume.chunks (hosts_lengthen halts v) (mover_lengthens halts mid)
