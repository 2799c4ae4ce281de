-- Steps of the mover, part by part.
use Rattle.std.proofs.Common.{◌≡◌, ℕ, ◌+◌, ◌/◌, ◌==◌, Bool, true, false, cond, List, [], ◌++◌, Option, Some, None, slice_get, refl, sym, subst, ◌∙◌, append-nil}
use Rattle.std.proofs.lemmas.List.{append_assoc}
use Rattle.pf_base.specs.declared.asks.Reply.{Reply}
use Rattle.pf_base.specs.declared.asks.Reply.TheVariants.{Bytes, Written}
use Rattle.pf_move.specs.declared.mover.MoverAsk.TheVariants.{Reading, Writing}
use Rattle.pf_move.specs.declared.mover.MoveNext.{MoveNext}
use Rattle.pf_move.specs.declared.mover.MoveNext.TheVariants.{Read, Switch, Write}
use Rattle.pf_move.specs.Movers.{MoverIs, MoverStep, is_zero, new_mover, piece, reads_on, step}
use Rattle.pf_move.specs.Routes.{home_of_chunk}
use Rattle.pf_world.specs.pf_group_rounds.specs.Halts.{Halt}
use Rattle.pf_world.specs.pf_chunk.specs.Runs.{ChunkRun, mover_port}
use Rattle.pf_world.specs.pf_world_moments.specs.Hosts.{Drove, drove, event_count}
use Rattle.pf_world.specs.pf_world_moments.specs.Moments.{Heard, Moment}
use Rattle.pf_world.specs.pf_world_hosts.specs.Volumes.{VolumeRun, carries, carries_on, moved_from, mover_group, mover_hands, mover_hands_to, mover_hears_in, mover_replied, mover_steps, mover_steps_at, chunk_moves, moves_from}
use Rattle.pf_world.specs.pf_world_hosts.specs.Volumes as volumes

-- a mover stays that of its chunk
chunk_if : (b : Bool) (x y : MoverStep) (chunk : ℕ) → x.mover.chunk ≡ chunk → y.mover.chunk ≡ chunk → (cond b x y).mover.chunk ≡ chunk
chunk_if true x y chunk first second = first
chunk_if false x y chunk first second = second

reads_chunk : (m : MoverIs) → (reads_on m).mover.chunk ≡ m.chunk
reads_chunk m = chunk_if (m.done == m.pieces) (record { next = Switch; mover = record m { asked = None } }) (record { next = Read (piece m.done); mover = record m { asked = Some Reading } }) m.chunk refl refl

pub step_chunk : (m : MoverIs) (reply : Option Reply) → (step m reply).mover.chunk ≡ m.chunk
step_chunk m None = reads_chunk m
step_chunk m (Some Written) = reads_chunk (record m { done = m.done + 1 })
step_chunk m (Some (Bytes sectors)) =
    chunk_if (is_zero sectors) (reads_on (record m { done = m.done + 1 })) (record { next = Write (piece m.done) sectors; mover = record m { asked = Some Writing } }) m.chunk (reads_chunk (record m { done = m.done + 1 })) refl

-- what is kept where its port takes a step, and where this is answered and it carries on, is kept by its steps
module _ (halts : List Halt) (P : VolumeRun → List Moment → Type 0)
    (drives : (v : VolumeRun) (told : List Moment) (k : ℕ) → mover_group v ≡ Some k → P v told → P (record v { chunks = (drove halts v.chunks mover_port k).chunks }) (told ++ (drove halts v.chunks mover_port k).told))
    (answers : (v : VolumeRun) (told : List Moment) (k : ℕ) (old : MoverIs) (reply : Reply) → mover_group v ≡ Some k → v.mover ≡ Some old → (drove halts v.chunks mover_port k).reply ≡ Some reply → P v told
    → let d : Drove = drove halts v.chunks mover_port k in let t : volumes.VolumeTold = carries_on (record v { chunks = d.chunks }) (Some (record { reply = reply; by = event_count (slice_get d.chunks k) })) (step old (Some reply)) in P t.volume ((told ++ d.told) ++ t.told)) where
  abbrev Comes : List Moment → volumes.VolumeTold → Type 0
  Comes told t = P t.volume (told ++ t.told)

  nothing : (v : VolumeRun) (told : List Moment) → P v told → P v (told ++ [])
  nothing v told is = subst (P v) (sym (append-nil told)) is

  behind : (v : VolumeRun) (told more last : List Moment) → P v ((told ++ more) ++ last) → P v (told ++ (more ++ last))
  behind v told more last is = subst (P v) (append_assoc told more last) is

  hands_to : (group : Option ℕ) (v : VolumeRun) (told : List Moment) → mover_group v ≡ group → P v told → Comes told (mover_hands_to halts group v)
  hands_to None v told same is = nothing v told is
  hands_to (Some k) v told same is = drives v told k same is

  module _ (v : VolumeRun) (told : List Moment) (k : ℕ) (group : mover_group v ≡ Some k) (is : P v told) where
    abbrev d : Drove
    d = drove halts v.chunks mover_port k

    abbrev w : VolumeRun
    w = record v { chunks = d.chunks }

    hears : (reply : Reply) → d.reply ≡ Some reply → (o : Option MoverIs) → v.mover ≡ o → Comes (told ++ d.told) (mover_hears_in w (record { reply = reply; by = event_count (slice_get d.chunks k) }) o)
    hears reply replied None same = nothing w (told ++ d.told) (drives v told k group is)
    hears reply replied (Some mover) same = answers v told k mover reply group same replied is

    replies : (reply : Option Reply) → d.reply ≡ reply → Comes told (mover_replied halts v k d reply)
    replies None same = drives v told k group is
    replies (Some reply) same =
        let heard : Heard = record { reply = reply; by = event_count (slice_get d.chunks k) } in
        let t : volumes.VolumeTold = mover_hears_in w heard v.mover in
        let last : volumes.VolumeTold = mover_hands halts t.volume in
        behind last.volume told d.told (t.told ++ last.told)
        (behind last.volume (told ++ d.told) t.told last.told
        (hands_to (mover_group t.volume) t.volume ((told ++ d.told) ++ t.told) refl (hears reply same v.mover refl)))

  steps : (group : Option ℕ) (v : VolumeRun) (told : List Moment) → mover_group v ≡ group → P v told → Comes told (mover_steps_at halts group v)
  steps None v told same is = nothing v told is
  steps (Some k) v told same is = replies v told k same is (drove halts v.chunks mover_port k).reply refl

  pub hauled_so : (v : VolumeRun) (told : List Moment) → P v told → P (mover_steps halts v).volume (told ++ (mover_steps halts v).told)
  unfolding mover_steps
  hauled_so v told is = steps (mover_group v) v told refl is

-- so it is with what is kept where its port takes a step, and where it carries on, whatever it heard
module _ (halts : List Halt) (P : VolumeRun → List Moment → Type 0)
    (drives : (v : VolumeRun) (told : List Moment) (k : ℕ) → mover_group v ≡ Some k → P v told → P (record v { chunks = (drove halts v.chunks mover_port k).chunks }) (told ++ (drove halts v.chunks mover_port k).told))
    (carries_so : (v : VolumeRun) (told : List Moment) (old : MoverIs) (heard : Heard) → v.mover ≡ Some old → P v told
    → P (carries_on v (Some heard) (step old (Some heard.reply))).volume (told ++ (carries_on v (Some heard) (step old (Some heard.reply))).told)) where
  pub hauled : (v : VolumeRun) (told : List Moment) → P v told → P (mover_steps halts v).volume (told ++ (mover_steps halts v).told)
  hauled = hauled_so halts P drives (λ v told k old reply group there replied is.
      let d : Drove = drove halts v.chunks mover_port k in
      carries_so (record v { chunks = d.chunks }) (told ++ d.told) old (record { reply = reply; by = event_count (slice_get d.chunks k) }) there (drives v told k group is))

-- What it leaves

-- the journal lies where it did, and no host has come, taken a step or gone
abbrev pub HasSameHosts : (old new : VolumeRun) → Type 0
HasSameHosts old new = (new.layout ≡ old.layout) × (new.hosts ≡ old.hosts)

carries_same : (v : VolumeRun) (mover : MoverIs) (heard : Option Heard) (next : MoveNext) → HasSameHosts v (carries v mover heard next).volume
carries_same v mover heard (Read span) = (refl, refl)
carries_same v mover heard (Write span sectors) = (refl, refl)
carries_same v mover heard Switch = (refl, refl)

pub mover_same : (halts : List Halt) (v : VolumeRun) → HasSameHosts v (mover_steps halts v).volume
mover_same halts v =
    hauled halts (λ w told. HasSameHosts v w) (λ w told k at same. same)
    (λ w told old heard there same. let s : MoverStep = step old (Some heard.reply) in let on = carries_same w s.mover (Some heard) s.next in (on.0 ∙ same.0, on.1 ∙ same.1)) v [] (refl, refl)

from_same : (chunk : ℕ) (home : Option ℕ) (new : ChunkRun) (v : VolumeRun) → HasSameHosts v (moves_from chunk home new v).volume
from_same chunk None new v = (refl, refl)
from_same chunk (Some h) new v = let s : MoverStep = step (new_mover chunk (v.extent.sectors / 8)) None in carries_same (moved_from v chunk h new) s.mover None s.next

-- nor where a chunk begins to move
pub moves_same : (chunk : ℕ) (new : ChunkRun) (v : VolumeRun) → HasSameHosts v (chunk_moves chunk new v).volume
moves_same chunk new v = from_same chunk (home_of_chunk v.routes chunk) new v
