-- The mover reads pieces of eight sectors, and writes what such a read gave; so its asks may come.
use Rattle.std.proofs.Common.{◌≡◌, ◌≢◌, ℕ, ◌+◌, ◌/◌, ◌<◌, ◌≤◌, inl, inr, cond, ◌==◌, List, [], length, Option, Some, None, slice_get, slice_set, arith, refl, sym, ap, subst, ◌∙◌}
use Rattle.std.specs.Option.{option_and_then}
use Rattle.std.proofs.lemmas.Bool.{eqb-false}
use Rattle.std.proofs.lemmas.Option.{none-some, same_Some}
use Rattle.pf_base.specs.Asks.{Answers}
use Rattle.pf_base.specs.Span.{IsWritable, Span}
use Rattle.pf_base.specs.declared.asks.Ask.{Ask}
use Rattle.pf_base.specs.declared.asks.Ask.TheVariants as asks
use Rattle.pf_base.specs.declared.asks.Reply.{Reply}
use Rattle.pf_base.specs.declared.asks.Reply.TheVariants.{Written, Bytes}
use Rattle.pf_entry.proofs.Cases.{by_test}
use Rattle.pf_entry.proofs.Lists.{set_cases}
use Rattle.pf_asks.specs.Ports.{PortIs}
use Rattle.pf_volume.specs.Volumes.{Extent}
use Rattle.pf_move.specs.Movers.{MoverIs, MoverStep, is_zero, new_mover, piece, reads_on, step}
use Rattle.pf_move.specs.declared.mover.MoverAsk.{MoverAsk}
use Rattle.pf_move.specs.declared.mover.MoverAsk.TheVariants.{Reading, Writing}
use Rattle.pf_move.specs.declared.mover.MoveNext.{MoveNext}
use Rattle.pf_move.specs.declared.mover.MoveNext.TheVariants.{Read, Switch, Write}
use Rattle.pf_move.specs.Routes.{Between, RoutesIs, between, home_of_chunk}
use Rattle.pf_world.specs.pf_group_rounds.specs.Halts.{Halt}
use Rattle.pf_world.specs.pf_chunk.specs.Driving.{ask_after, port_asked, driven}
use Rattle.pf_world.specs.pf_chunk.specs.Runs.{ChunkRun, left_by_ports, mover_port, new_ports, taking_ports}
use Rattle.pf_world.specs.pf_world_moments.specs.Hosts.{drove, drove_of, put_at, run_after, with_run}
use Rattle.pf_world.specs.pf_world_moments.specs.Moments.{Heard, Moment}
use Rattle.pf_world.specs.pf_world_hosts.specs.Volumes.{VolumeRun, asks_in, carries, mover_group, mover_steps, moved_from, moves_from, with_new}
use Rattle.pf_world.specs.declared.kind.Kind.{Kind}
use Rattle.pf_world.specs.pf_live_session.specs.Sessions.{Session}
use Rattle.pf_world.specs.Worlds.{volume_made}
use Rattle.pf_law_movers.specs.pf_group_network.proofs.Lists.{end_cases}
use Rattle.pf_law_movers.proofs.Ports.{drives_port, put_there}
use Rattle.pf_law_runs.proofs.LineCounts.{new_group}
use Rattle.pf_law_runs.proofs.MoverStepParts.{hauled_so}
use Rattle.pf_law_runs.proofs.GroupPlaces.{made_there}
use Rattle.pf_law_runs.proofs.KeptByPorts.{IsKeptByPorts}
use Rattle.pf_law_runs.proofs.KeptThroughout.{IsKeptByParts}
use Rattle.pf_law_runs.proofs.MoverPending.{IsPortOf, put_apart}
use Rattle.pf_law_legal.proofs.Ports.{IsAnswered, IsFit, driven_answers}
use Rattle.pf_law_legal.proofs.Sent.{IsFull}
use Rattle.pf_law_legal.proofs.Volumes.{AreFitRuns, before_rehomed, drove_fit, no_ask, put_fit}

-- What the mover asks

-- a piece of the chunk, of which there are so many
pub record IsPiece (pieces : ℕ) (span : Span) : Type 0 where
  pub index : ℕ
  pub is : span ≡ piece index
  pub low : index < pieces

abbrev pub IsNextOf : (pieces : ℕ) → (reply : Option Reply) → MoveNext → Type 0
IsNextOf pieces reply (Read span) = IsPiece pieces span
IsNextOf pieces reply (Write span sectors) = IsPiece pieces span × (reply ≡ Some (Bytes sectors))
IsNextOf pieces reply Switch = Unit {0}

-- where it asks something, some piece is left
abbrev pub IsOnWay : MoverIs → Type 0
IsOnWay m = (role : MoverAsk) → m.asked ≡ Some role → m.done < m.pieces

pub record IsStepOf (pieces : ℕ) (reply : Option Reply) (s : MoverStep) : Type 0 where
  pub pieces_are : s.mover.pieces ≡ pieces
  pub way : IsOnWay s.mover
  pub next : IsNextOf pieces reply s.next

reads_next : (m : MoverIs) (reply : Option Reply) → m.done ≤ m.pieces → IsStepOf m.pieces reply (reads_on m)
reads_next m reply low =
    by_test (m.done == m.pieces) (λ b. (m.done == m.pieces) ≡ b → IsStepOf m.pieces reply (cond b (record { next = Switch; mover = record m { asked = None } }) (record { next = Read (piece m.done); mover = record m { asked = Some Reading } })))
    (λ _ _. record { pieces_are = refl; way = λ role none. absurd (none-some role none); next = tt })
    (λ _ other.
    let less : m.done < m.pieces = let apart = eqb-false m.done m.pieces other in omega (arith, low, apart) in
    record { pieces_are = refl; way = λ role is. less; next = record { index = m.done; is = refl; low = less } }) refl

step_next : (m : MoverIs) (reply : Reply) → m.done < m.pieces → IsStepOf m.pieces (Some reply) (step m (Some reply))
step_next m Written low = reads_next (record m { done = m.done + 1 }) (Some Written) (omega (arith, low))
step_next m (Bytes sectors) low =
    by_test (is_zero sectors) (λ b. IsStepOf m.pieces (Some (Bytes sectors)) (cond b (reads_on (record m { done = m.done + 1 })) (record { next = Write (piece m.done) sectors; mover = record m { asked = Some Writing } })))
    (λ _. reads_next (record m { done = m.done + 1 }) (Some (Bytes sectors)) (omega (arith, low)))
    (λ _. record { pieces_are = refl; way = λ role is. low; next = (record { index = m.done; is = refl; low = low }, refl) })

-- What is kept of it, whatever groups answer

abbrev IsEight : Ask → Type 0
IsEight (asks.Read chunk range) = range.count ≡ 8
IsEight (asks.Write chunk range sectors) = Unit {0}

-- what pends in its ports
abbrev pub AreEights : List ChunkRun → Type 0
AreEights chunks = (k : ℕ) (port : PortIs) (ask : Ask) → IsPortOf chunks mover_port k port → port.ask ≡ Some ask → IsEight ask

abbrev pub IsMoverOf : Extent → Option MoverIs → Type 0
IsMoverOf e None = Unit {0}
IsMoverOf e (Some m) = (m.pieces ≡ e.sectors / 8) × IsOnWay m

pub record AreCarried (e : Extent) (mover : Option MoverIs) (chunks : List ChunkRun) : Type 0 where
  pub mover_is : IsMoverOf e mover
  pub eights : AreEights chunks

pub eights_with : (chunks : List ChunkRun) (k : ℕ) (d : ChunkRun) → ((port : PortIs) (ask : Ask) → slice_get d.ports mover_port ≡ Some port → port.ask ≡ Some ask → IsEight ask) → AreEights chunks → AreEights (slice_set chunks k d)
eights_with chunks k d its are = λ j port ask p pending. elim (set_cases chunks k d j p.group p.there) [
  | inl here ↦ its port ask (ap (λ (x : ChunkRun). slice_get x.ports mover_port) here.1 ∙ p.its) pending
  | inr away ↦ are j port ask (record { group = p.group; there = away.1; its = p.its }) pending
]

pub drove_eights : (halts : List Halt) (chunks : List ChunkRun) (k : ℕ) → AreEights chunks → AreEights (drove halts chunks mover_port k).chunks
drove_eights halts chunks k are = by (slice_get chunks k) refl
  where
    was : (reply : Option Reply) (before : Option Ask) (ask : Ask) → ask_after reply before ≡ Some ask → before ≡ Some ask
    was None before ask is = is
    was (Some reply) before ask is = absurd (none-some ask is)

    by : (o : Option ChunkRun) → slice_get chunks k ≡ o → AreEights (drove_of halts chunks mover_port k o).chunks
    by None there = are
    by (Some c) there = eights_with chunks k (driven halts c mover_port).chunk (λ port ask at pending.
        let before = (drives_port halts c mover_port).its port at in
        are k before.0 ask (record { group = c; there = there; its = before.1 }) (was (driven halts c mover_port).reply before.0.ask ask (sym before.2 ∙ pending))) are

pub put_eights : (chunks : List ChunkRun) (group : Option ℕ) (ask : Ask) → IsEight ask → AreEights chunks → AreEights (put_at chunks group mover_port ask)
put_eights chunks None ask eight are = are
put_eights chunks (Some g) ask eight are = by (slice_get chunks g)
  where
    by : (o : Option ChunkRun) → AreEights (with_run chunks g (run_after o (λ c. port_asked c mover_port ask)))
    by None = are
    by (Some c) = eights_with chunks g (port_asked c mover_port ask) (λ port its at pending.
        let now = put_there mover_port ask c (slice_get c.ports mover_port) port refl at in
        subst IsEight (same_Some ask its (sym now.0 ∙ pending)) eight) are

-- the mover goes on
pub carries_so : (v : VolumeRun) (s : MoverStep) (heard : Option Heard) (reply : Option Reply) → IsStepOf (v.extent.sectors / 8) reply s → AreEights v.chunks → let w = (carries v s.mover heard s.next).volume in AreCarried w.extent w.mover w.chunks
carries_so v s heard reply is are = by s.next is.next
  where
    by : (next : MoveNext) → IsNextOf (v.extent.sectors / 8) reply next → let w = (carries v s.mover heard next).volume in AreCarried w.extent w.mover w.chunks
    by (Read span) its = record { mover_is = (is.pieces_are, is.way); eights = put_eights v.chunks _ (asks.Read s.mover.chunk span) (ap (λ (x : Span). x.count) its.is) are }
    by (Write span sectors) its = record { mover_is = (is.pieces_are, is.way); eights = put_eights v.chunks _ (asks.Write s.mover.chunk span sectors) tt are }
    by Switch its = record { mover_is = tt; eights = are }

-- where a reply comes it asked something
on_way : (v : VolumeRun) (k : ℕ) (old : MoverIs) → mover_group v ≡ Some k → v.mover ≡ Some old → IsMoverOf v.extent v.mover → (old.pieces ≡ v.extent.sectors / 8) × (old.done < old.pieces)
on_way v k old group there is =
    let its : IsMoverOf v.extent (Some old) = subst (IsMoverOf v.extent) there is in
    (its.0, by (between v.routes) old.asked refl (sym (ap (λ (m : Option MoverIs). asks_in (between v.routes) (option_and_then (λ (x : MoverIs). x.asked) m)) there) ∙ group) its.1)
  where
    by : (b : Option Between) (o : Option MoverAsk) → old.asked ≡ o → asks_in b o ≡ Some k → IsOnWay old → old.done < old.pieces
    by (Some b) (Some role) same is way = way role same
    by (Some b) None same is way = absurd (none-some k is)
    by None o same is way = absurd (none-some k is)

-- What it asks may come

writable : (sectors : ℕ) (span : Span) → sectors ≤ 4096 → IsPiece (sectors / 8) span → IsWritable span.first span.count
writable sectors span low is =
    let few : is.index < sectors / 8 = is.low in
    subst (λ (x : Span). IsWritable x.first x.count) (sym is.is) (record { some = omega arith; few = omega arith; low = omega (arith, few, low) })

eight_read : (ask : Ask) (sectors : List (List ℕ)) → IsEight ask → Answers ask (Bytes sectors) → length sectors ≡ 8
eight_read (asks.Read chunk range) sectors eight answers = answers ∙ eight
eight_read (asks.Write chunk range written) sectors eight answers = absurd answers

-- of a reply that was heard
abbrev IsWhole : Reply → Type 0
IsWhole Written = Unit {0}
IsWhole (Bytes sectors) = (length sectors ≡ 8) × IsFull (Bytes sectors)

drove_whole : (halts : List Halt) (chunks : List ChunkRun) (k : ℕ) (reply : Reply) → AreEights chunks → AreFitRuns chunks → (drove halts chunks mover_port k).reply ≡ Some reply → IsWhole reply
drove_whole halts chunks k reply eights fit is = by (slice_get chunks k) refl is
  where
    whole : (c : ChunkRun) → slice_get chunks k ≡ Some c → (r : Reply) → IsAnswered c mover_port r → IsWhole r
    whole c there Written a = tt
    whole c there (Bytes sectors) a = (eight_read a.ask sectors (eights k a.port a.ask (record { group = c; there = there; its = a.there }) a.pending) a.answers, a.full)

    by : (o : Option ChunkRun) → slice_get chunks k ≡ o → (drove_of halts chunks mover_port k o).reply ≡ Some reply → IsWhole reply
    by None there said = absurd (none-some reply said)
    by (Some c) there said = whole c there reply (driven_answers halts c mover_port reply (fit k c there) said)

carries_fit : (v : VolumeRun) (s : MoverStep) (heard : Option Heard) (reply : Reply) → v.extent.sectors ≤ 4096 → IsWhole reply → IsStepOf (v.extent.sectors / 8) (Some reply) s → AreFitRuns v.chunks → AreFitRuns (carries v s.mover heard s.next).volume.chunks
carries_fit v s heard reply low whole is are = by s.next is.next
  where
    fit : (span : Span) (sectors : List (List ℕ)) → IsPiece (v.extent.sectors / 8) span → Some reply ≡ Some (Bytes sectors) → IsFit (asks.Write s.mover.chunk span sectors)
    fit span sectors its same =
        let w : IsWhole (Bytes sectors) = subst IsWhole (same_Some reply (Bytes sectors) same) whole in
        (writable v.extent.sectors span low its, w.0 ∙ ap (λ (x : Span). x.count) (sym its.is), w.1)

    by : (next : MoveNext) → IsNextOf (v.extent.sectors / 8) (Some reply) next → AreFitRuns (carries v s.mover heard next).volume.chunks
    by (Read span) its = put_fit v.chunks _ mover_port (asks.Read s.mover.chunk span) (writable v.extent.sectors span low its) are
    by (Write span sectors) its = put_fit v.chunks _ mover_port (asks.Write s.mover.chunk span sectors) (fit span sectors its.0 its.1) are
    by Switch its = are

record IsCarriedFit (sectors : ℕ) (v : VolumeRun) : Type 0 where
  same : v.extent.sectors ≡ sectors
  carried : AreCarried v.extent v.mover v.chunks
  runs : AreFitRuns v.chunks

pub extent_stays : (v : VolumeRun) (mover : MoverIs) (heard : Option Heard) (next : MoveNext) → (carries v mover heard next).volume.extent ≡ v.extent
extent_stays v mover heard (Read span) = refl
extent_stays v mover heard (Write span sectors) = refl
extent_stays v mover heard Switch = refl

module _ (halts : List Halt) where
  heard_step : (v : VolumeRun) (k : ℕ) (old : MoverIs) (reply : Reply) → mover_group v ≡ Some k → v.mover ≡ Some old → IsMoverOf v.extent v.mover → IsStepOf (v.extent.sectors / 8) (Some reply) (step old (Some reply))
  heard_step v k old reply group there is =
      let way = on_way v k old group there is in
      subst (λ n. IsStepOf n (Some reply) (step old (Some reply))) way.0 (step_next old reply way.1)

  -- the mover's steps leave what is so of it, and the groups legal
  pub mover_carried : (v : VolumeRun) (told : List Moment) → AreCarried v.extent v.mover v.chunks → let w = (mover_steps halts v).volume in AreCarried w.extent w.mover w.chunks
  mover_carried v told is =
      hauled_so halts (λ w so_far. AreCarried w.extent w.mover w.chunks)
      (λ w so_far k group its. record { mover_is = its.mover_is; eights = drove_eights halts w.chunks k its.eights })
      (λ w so_far k old reply group there said its. carries_so (record w { chunks = (drove halts w.chunks mover_port k).chunks }) (step old (Some reply)) _ (Some reply) (heard_step w k old reply group there its.mover_is) (drove_eights halts w.chunks k its.eights))
      v told is

  pub mover_fit : (v : VolumeRun) → v.extent.sectors ≤ 4096 → AreCarried v.extent v.mover v.chunks → AreFitRuns v.chunks → AreFitRuns (mover_steps halts v).volume.chunks
  mover_fit v low is fit =
      let P : VolumeRun → List Moment → Type 0 = λ w so_far. IsCarriedFit v.extent.sectors w in
      (hauled_so halts P
      (λ w so_far k group its. record { same = its.same; carried = record { mover_is = its.carried.mover_is; eights = drove_eights halts w.chunks k its.carried.eights }; runs = drove_fit halts w.chunks mover_port k its.runs })
      (λ w so_far k old reply group there said its.
      let mid : VolumeRun = record w { chunks = (drove halts w.chunks mover_port k).chunks } in
      let s : MoverStep = step old (Some reply) in
      let next = heard_step w k old reply group there its.carried.mover_is in
      record {
        same = ap (λ (e : Extent). e.sectors) (extent_stays mid s.mover _ s.next) ∙ its.same;
        carried = carries_so mid s _ (Some reply) next (drove_eights halts w.chunks k its.carried.eights);
        runs = carries_fit mid s _ reply (subst (λ n. n ≤ 4096) (sym its.same) low) (drove_whole halts w.chunks k reply its.carried.eights its.runs said) next (drove_fit halts w.chunks mover_port k its.runs);
      })
      v [] (record { same = refl; carried = is; runs = fit })).runs

-- In the run of every script

apart : (m : ℕ) → m < mover_port → mover_port ≢ m
apart m low same = omega (arith, low, same)

carried_ports : (kind : Option Kind) (e : Extent) (mover : Option MoverIs) → IsKeptByPorts kind (λ chunks told. AreCarried e mover chunks)
carried_ports kind e mover = record {
  telling = λ chunks told y said is. is;
  growing = λ chunks told k c d at ports grows adds is. record {
    mover_is = is.mover_is;
    eights = eights_with chunks d.group.number d (λ port ask there pending. is.eights k port ask (record { group = c; there = at; its = ap (λ ps. slice_get ps mover_port) (sym ports) ∙ there }) pending) is.eights;
  };
  putting = λ chunks told group m ask low is. record {
    mover_is = is.mover_is;
    eights = λ k port its p pending. is.eights k port its (put_apart mover_port m ask (apart m low) chunks group k port p) pending;
  };
  stepping = λ chunks told k c m d low at step is. record {
    mover_is = is.mover_is;
    eights = eights_with chunks k d.chunk (λ port ask there pending. is.eights k port ask (record { group = c; there = at; its = sym (step.others mover_port (apart m low)) ∙ there }) pending) is.eights;
  };
}

-- a chunk begins to move
new_eights : (chunks : List ChunkRun) (home : ℕ) (o : Option ChunkRun) (new : ChunkRun) → slice_get chunks home ≡ o → AreEights chunks → AreEights (with_new chunks home o new)
new_eights chunks home None new there are = are
new_eights chunks home (Some from) new there are =
    let left : AreEights (slice_set chunks home (left_by_ports from)) = eights_with chunks home (left_by_ports from) (λ port ask at pending. absurd (no_ask 17 mover_port port ask at pending)) are in
    λ k port ask p pending. elim (end_cases (slice_set chunks home (left_by_ports from)) (taking_ports from new) k p.group p.there) [
      | inl before ↦ left k port ask (record { group = p.group; there = before; its = p.its }) pending
      | inr last ↦
          let b = before_rehomed from.ports mover_port port (ap (λ (x : ChunkRun). slice_get x.ports mover_port) last.1 ∙ p.its) in
          are home b.was ask (record { group = from; there = there; its = b.there }) (ap (λ (x : PortIs). x.ask) b.is ∙ pending)
    ]

module _ (halts : List Halt) where
  moved_carried : (v : VolumeRun) (names format chunk : ℕ) (home : Option ℕ) → AreCarried v.extent v.mover v.chunks → let w = (moves_from chunk home (new_group halts v names format) v).volume in AreCarried w.extent w.mover w.chunks
  moved_carried v names format chunk None is = is
  moved_carried v names format chunk (Some h) is =
      let new : ChunkRun = new_group halts v names format in
      let pieces : ℕ = v.extent.sectors / 8 in
      carries_so (moved_from v chunk h new) (step (new_mover chunk pieces) None) None None (reads_next (new_mover chunk pieces) None (omega arith)) (new_eights v.chunks h (slice_get v.chunks h) new refl is.eights)

  abbrev pub Carried : Option Kind → Extent → RoutesIs → Option MoverIs → List ChunkRun → List Moment → Type 0
  Carried kind e r mover chunks told = AreCarried e mover chunks

  pub carried_parts : IsKeptByParts halts Carried
  carried_parts = record {
    deciding = λ kind e r mover chunks told is. is;
    ports = λ kind e r mover. carried_ports kind e mover;
    carrying = λ kind v told is. mover_carried halts v told is;
    moving = λ v told names format chunk free is. moved_carried v names format chunk (home_of_chunk v.routes chunk) is;
  }

  pub new_carried : (sessions : List Session) (chunks sectors names format : ℕ) → let v = (volume_made halts sessions chunks sectors names format).volume in AreCarried v.extent v.mover v.chunks
  new_carried sessions chunks sectors names format = record {
    mover_is = tt;
    eights = λ k port ask p pending.
        let its : slice_get new_ports mover_port ≡ Some port = ap (λ (x : ChunkRun). slice_get x.ports mover_port) (made_there halts sessions chunks sectors names format k p.group p.there) ∙ p.its in
        absurd (no_ask 17 mover_port port ask its pending);
  }
