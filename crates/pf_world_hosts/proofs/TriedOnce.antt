-- What one try of a settling comes to, from where the settling stood.
use Rattle.std.proofs.Common.{◌≡◌, ℕ, zero, suc, ◌+◌, ◌-◌, ◌<◌, ◌≤◌, Bool, true, false, List, ◌∷◌, Some, slice_get, slice_set, append-nil, arith, refl, sym, ap, subst, ◌∙◌}
use Rattle.std.proofs.lemmas.Bool.{false≢true}
use Rattle.pf_protocol.specs.declared.answers.Answer.{Answer}
use Rattle.pf_protocol.specs.declared.answers.Answer.TheVariants.{Base, Done, Job, Read, Refused, Slot, Term}
use Rattle.pf_protocol.specs.Answers.{most_packets}
use Rattle.pf_mount_host.specs.pf_group.specs.Packets.{is_refused_for_room}
use Rattle.pf_mount_host.specs.pf_group_rounds.specs.Halts.{Halt}
use Rattle.pf_mount_host.specs.pf_chunk.specs.declared.settling.Try.{Try}
use Rattle.pf_mount_host.specs.pf_chunk.specs.declared.settling.TryEnd.{TryEnd}
use Rattle.pf_mount_host.specs.pf_chunk.specs.declared.settling.TryEnd.TheVariants.{Delivered, Passed}
use Rattle.pf_mount_host.specs.pf_chunk.specs.Settling.{Moved, SettlingHasTried, TellsRefusal, is_refused}
use Rattle.pf_mount_host.specs.pf_chunk.specs.Views.{ChunkIs, run_of}
use Rattle.pf_mount_host.specs.pf_world_moments.specs.Moments.{Moment}
use Rattle.pf_mount_host.specs.pf_world_moments.specs.Steps.{TellsAll, chunk_runs}
use Rattle.pf_world_hosts.specs.Nexts.{AllMoveUp, IsNextChunk}
use Rattle.pf_world_hosts.specs.Settling.{PacketName, ends, having_told, next_packet, settle_to, settling_goes_on}
use Rattle.pf_world_hosts.specs.Steps.{AllStay, AreSameHosts, FleetIs, FleetHasGone, volume_stands_at}
use Rattle.pf_world_hosts.specs.Tries.{GoesOn, HasTriedOne, SettlingStands, Takes, TryEnds, deliveries, was_refused}
use Rattle.pf_world_hosts.specs.declared.settling.Tried.TheVariants.{Made}
use Rattle.pf_world_hosts.specs.Volumes.{VolumeRun, all_step}
use Rattle.pf_world_hosts.proofs.ChunkGrowth.{all_told, grown_trans_all, tells_before}
use Rattle.pf_world_hosts.proofs.Places.{move_same}
use Rattle.pf_world_hosts.proofs.SameChunks.{same_grown, same_stands}
use Rattle.pf_world_hosts.proofs.Events.{event_and_steps}
use Rattle.pf_world_hosts.proofs.Tries.{delivery, next_there}
use Rattle.pf_world_hosts.proofs.SoFar.{HasNext, answered, delivered_one, moved, passed_one, room_delivered, room_moved, room_passed, try_runs, went}

room_refused : (a : Answer) → is_refused_for_room a ≡ true → is_refused a ≡ true
room_refused (Refused refusal) over = refl
room_refused Done over = absurd (false≢true over)
room_refused (Slot slot) over = absurd (false≢true over)
room_refused (Term term) over = absurd (false≢true over)
room_refused (Read number) over = absurd (false≢true over)
room_refused (Base base) over = absurd (false≢true over)
room_refused (Job job) over = absurd (false≢true over)

-- behind the only try nothing is looked for
none_more : (halts : List Halt) (limit : ℕ) (passed : List PacketName) (v : VolumeRun) (told : List Moment) → having_told told (settle_to 0 halts limit passed v) ≡ record { volume = v; told = told; stopped = true; spare = limit; passed = passed }
unfolding settle_to
none_more halts limit passed v told = ap (λ (all : List Moment). record (ends true limit passed v) { told = all }) (append-nil told)

module _ (limit : ℕ) (old : List ChunkIs) (fleet : FleetIs) (before : List ℕ) (left : ℕ) (out : List ℕ) (head : List ChunkIs) (mid : FleetIs) (s : SettlingStands limit old fleet before (suc left) out head mid)
    (now : List ChunkIs) (m : AllMoveUp head now) (place : ℕ) (c : ChunkIs) (there : slice_get now place ≡ Some c) (next : IsNextChunk place now)
    (which : Try) (middle : List ℕ) (is : ChunkIs) (t : SettlingHasTried c out which middle is) (low : c.next < most_packets)
    (new : List ChunkIs) (last : FleetIs) (after : List ℕ) (steps : FleetHasGone all_step (slice_set now place is) mid middle new last after) (same : AreSameHosts mid last) (stay : AllStay (slice_set now place is) new) where
  abbrev has : HasNext limit old fleet before (suc left) out now mid place c
  has = record { so_far = moved limit old fleet before (suc left) out head mid s now m; there = there; next = next }

  gone : FleetHasGone (event_and_steps (delivery c) c) now mid out new last after
  gone = went limit old fleet before left out now mid place c has which middle is t low new last after steps same stay

  abbrev pub its : PacketName
  its = record { chunk = which.group; packet = which.packet }

  taken : (refused : Bool) → is_refused t.answer ≡ refused → (halts : List Halt) → TellsAll halts new → Takes halts (next_packet s.passed (chunk_runs halts head)) its refused
  taken refused is_it halts tells =
      let named : ℕ → ℕ → PacketName = λ n k. record { chunk = n; packet = k } in
      let same_runs = same_stands head now (move_same head now m) halts mid in
      record {
        it = record { chunk = run_of halts c; packet = c.next };
        found = ap (λ (v : VolumeRun). next_packet s.passed v.chunks) (sym same_runs)
            ∙ next_there halts s.passed now has.so_far.up_to (all_told halts now (tells_before halts now new gone.grown tells)) mid place c there next;
        its_name = ap (λ n. named n c.next) (sym t.name.0) ∙ ap (named which.group) (sym t.name.1);
        its_refusal = ap is_refused (answered limit old fleet before left out now mid place c has which middle is t low new last after steps same stay halts tells) ∙ is_it;
      }

  -- the next packet was looked for first
  one : (refused : Bool) → is_refused t.answer ≡ refused → (spare : ℕ) (over : List PacketName)
      → ((halts : List Halt) → TellsAll halts new → settle_to 1 halts (suc left) s.passed (volume_stands_at halts now mid) ≡ record { volume = volume_stands_at halts new last; told = gone.told; stopped = true; spare = spare; passed = over })
      → HasTriedOne its refused (suc left) s.passed head mid out spare over new last after
  one refused is_it spare over runs =
      let moves = move_same head now m in
      record {
        grown = grown_trans_all head now new (same_grown head now moves) gone.grown;
        told = gone.told;
        put = gone.put;
        takes = taken refused is_it;
        run = λ halts tells. ap (settle_to 1 halts (suc left) s.passed) (sym (same_stands head now moves halts mid)) ∙ runs halts tells;
      }

  runs_on : (halts : List Halt) → TellsAll halts new → settle_to 1 halts (suc left) s.passed (volume_stands_at halts now mid) ≡ having_told gone.told (settling_goes_on (is_refused_for_room t.answer) (record { chunk = c.group.number; packet = c.next }) left s.passed (volume_stands_at halts new last) (settle_to 0 halts))
  unfolding gone
  runs_on halts tells = try_runs limit old fleet before left out now mid place c has which middle is t low new last after steps same stay halts tells 0

  -- it was passed over
  pub is_passed : is_refused_for_room t.answer ≡ true → is.next ≡ c.next + 1 → GoesOn its true limit old fleet before (suc left) (suc left) s.passed out head mid after new last
  is_passed over further =
      let here : PacketName = record { chunk = c.group.number; packet = c.next } in
      let up = room_moved limit old fleet before (suc left) out head mid s now m in
      let fewer = room_passed limit old fleet before left out now mid place c has which middle is t low new last after steps same stay further in
      record {
        stands = passed_one limit old fleet before left out now mid place c has which middle is t low new last after steps same stay over further;
        one = one true (room_refused t.answer over) (suc left) (here ∷ s.passed) (λ halts tells.
            runs_on halts tells
            ∙ ap (λ b. having_told gone.told (settling_goes_on b here left s.passed (volume_stands_at halts new last) (settle_to 0 halts))) over
            ∙ none_more halts (suc left) (here ∷ s.passed) (volume_stands_at halts new last) gone.told);
        less = omega (arith, up, fewer);
      }

  -- it came
  pub is_delivered : (refused : Bool) → refused ≡ is_refused t.answer → is_refused_for_room t.answer ≡ false → is.next ≡ c.next → GoesOn its refused limit old fleet before (suc left) left s.passed out head mid after new last
  is_delivered refused tells_it not_over still =
      let here : PacketName = record { chunk = c.group.number; packet = c.next } in
      let up = room_moved limit old fleet before (suc left) out head mid s now m in
      let no_more = room_delivered limit old fleet before left out now mid place c has which middle is t low new last after steps same stay still in
      record {
        stands = delivered_one limit old fleet before left out now mid place c has which middle is t low new last after steps same stay not_over still;
        one = one refused (sym tells_it) left s.passed (λ halts tells.
            runs_on halts tells
            ∙ ap (λ b. having_told gone.told (settling_goes_on b here left s.passed (volume_stands_at halts new last) (settle_to 0 halts))) not_over
            ∙ none_more halts left s.passed (volume_stands_at halts new last) gone.told);
        less = omega (arith, up, no_more);
      }

  abbrev Ends : TryEnd → Type 0
  Ends end = (deliveries end ≤ suc left) × GoesOn its (was_refused end) limit old fleet before (suc left) (suc left - deliveries end) s.passed out head mid after new last

  how_it_went : (end : TryEnd) → Moved end t.answer c.next is.next → TellsRefusal end t.answer → Ends end
  how_it_went Passed moves tells_it =
      let all : suc left ≡ suc left - 0 = omega arith in
      (omega arith, subst (λ n. GoesOn its true limit old fleet before (suc left) n s.passed out head mid after new last) all (is_passed moves.0 moves.1))
  how_it_went (Delivered refused) moves tells_it =
      let rest : left ≡ suc left - 1 = omega arith in
      (omega arith, subst (λ n. GoesOn its refused limit old fleet before (suc left) n s.passed out head mid after new last) rest (is_delivered refused tells_it moves.0 moves.1))

  -- one try was made
  pub try_made : TryEnds (Made which) limit old fleet before (suc left) s.passed out head mid after new last
  try_made = how_it_went which.end t.moved t.tells

-- one try was made, of any count of deliveries that are left
pub try_ends : (limit : ℕ) (old : List ChunkIs) (fleet : FleetIs) (before : List ℕ) (left : ℕ) → 0 < left → (out : List ℕ) (head : List ChunkIs) (mid : FleetIs) (s : SettlingStands limit old fleet before left out head mid)
    → (now : List ChunkIs) → AllMoveUp head now → (place : ℕ) (c : ChunkIs) → slice_get now place ≡ Some c → IsNextChunk place now
    → (which : Try) (middle : List ℕ) (is : ChunkIs) → SettlingHasTried c out which middle is → c.next < most_packets
    → (new : List ChunkIs) (last : FleetIs) (after : List ℕ) → FleetHasGone all_step (slice_set now place is) mid middle new last after → AreSameHosts mid last → AllStay (slice_set now place is) new
    → TryEnds (Made which) limit old fleet before left s.passed out head mid after new last
try_ends limit old fleet before zero low = absurd (omega (arith, low))
try_ends limit old fleet before (suc left) low = try_made limit old fleet before left
