-- Checkpoints, restarts, claims and finished jobs.
use Rattle.std.specs.Prelude.{ℕ, suc, Bool, false, cond, not, ◌&&◌, ◌||◌, List, [], ◌∷◌, map, Option, Some, None, ◌==◌, nat_lt, nat_le, if◌then◌else◌}
use Rattle.std.specs.List.{find, enumerate_from, range_with_len}
use Rattle.std.specs.FinMap
use Rattle.pf_entry.specs.Sets
use Rattle.pf_entry.specs.Ops.{Sector}
use Rattle.pf_entry.specs.Maps.{Map}
use Rattle.pf_entry.specs.declared.ops.Op.{Op}
use Rattle.pf_entry.specs.declared.ops.Op.TheVariants.{Write, Noop, Mark}
use Rattle.pf_entry.specs.Ops.{writes, written}
use Rattle.pf_entry.specs.declared.entries.Entry.{Entry}
use Rattle.pf_entry.specs.Records.{Durable, image_of, stored, above}
use Rattle.pf_entry.specs.Applying.{is_free}
use Rattle.pf_protocol.specs.Servers.{Role, Follower, Candidate, Merging, Serving, Server, upto, has_applied}
use Rattle.pf_protocol.specs.Outcomes.{Outcome, sends, only_answers, store}
use Rattle.pf_protocol.specs.declared.answers.Answer.TheVariants.{Base as BaseIs, Refused}
use Rattle.pf_protocol.specs.declared.answers.Refusal.TheVariants.{Stale}
use Rattle.pf_protocol.specs.Leading.{op_at}

-- whether a leader is not yet past the slot
abbrev pub is_short_of : Role → ℕ → Bool
is_short_of Follower slot = false
is_short_of (Candidate own) slot = false
is_short_of (Merging l) slot = nat_le l.next slot
is_short_of (Serving l) slot = nat_le l.next slot

-- Checkpoint
unfoldable pub trimmed : Server → Server
trimmed s =
    let d = s.durable in
    let base = upto s in
    let saved = Sets.retain s.applied (nat_lt base) in
    let image = record d { generation = suc d.generation; base = base; log = above base d.log; saved = saved; sectors = s.sectors } in
    let after = store s (image_of image) in
    record after { committed = Sets.retain s.committed (nat_lt base); applied = saved }

unfoldable pub on_checkpoint : Server → Outcome
on_checkpoint s =
    if upto s == s.durable.base || is_short_of s.role (upto s)
    then only_answers s (BaseIs s.durable.base)
    else only_answers (trimmed s) (BaseIs (upto s))

-- a half of format 1 is saved anew
unfoldable pub renewed : Durable → Durable
renewed d = if d.format == 1 then stored d (image_of (record d { generation = suc d.generation })) else d

-- a server as its records give it
unfoldable pub restarted : (number life : ℕ) → Durable → Server
restarted number life d = record {
  number = number;
  life = life;
  durable = d;
  role = Follower;
  committed = Sets.empty;
  applied = d.saved;
  sectors = d.sectors;
  in_hand = FinMap.empty;
  reads = [];
  snapshots = FinMap.empty;
}

-- Claim: the least slot that is committed, unapplied, not in hand and free
abbrev pub is_claimable : Server → Option Entry → ℕ → Bool
is_claimable s None slot = false
is_claimable s (Some e) slot =
    Sets.contains s.committed slot && not (has_applied s slot) && not (FinMap.contains_key s.in_hand slot) && is_free (has_applied s) e

unfoldable pub claimable : (window : ℕ) → Server → Option ℕ
claimable window s = find (λ slot. is_claimable s (FinMap.get s.durable.log slot) slot) (range_with_len (suc s.durable.base) window)

unfoldable pub claimed : Server → ℕ → Server
claimed s slot = record s { in_hand = FinMap.insert s.in_hand slot (op_at s.durable.log slot) }

-- Finish: the sectors after an op
unfoldable pub changed : Op → List Sector → List Sector
changed op sectors = map (λ place. cond (writes op place.0) (written op place.0 place.1) place.1) (enumerate_from 0 sectors)

-- without the least of them
abbrev pub without_least : {X : Type 0} → Map X → List ℕ → Map X
without_least snapshots [] = snapshots
without_least snapshots (slot ∷ slots) = FinMap.remove snapshots slot

abbrev pub four_greatest : {X : Type 0} → Map X → Map X
four_greatest snapshots = if nat_lt 4 (FinMap.len snapshots) then without_least snapshots (FinMap.keys snapshots) else snapshots

-- a mark that is applied leaves a snapshot of the sectors
unfoldable pub snapshots_after : Op → (slot : ℕ) → List Sector → Map (List Sector) → Map (List Sector)
snapshots_after Mark slot sectors snapshots = four_greatest (FinMap.insert snapshots slot sectors)
snapshots_after Noop slot sectors snapshots = snapshots
snapshots_after (Write range payload) slot sectors snapshots = snapshots

unfoldable pub applied_op : Server → (slot : ℕ) → Option Op → Server
applied_op s slot None = s
applied_op s slot (Some op) = record s {
  in_hand = FinMap.remove s.in_hand slot;
  applied = Sets.insert s.applied slot;
  sectors = changed op s.sectors;
  snapshots = snapshots_after op slot s.sectors s.snapshots;
}

unfoldable pub on_finish : Server → (life slot : ℕ) → Outcome
on_finish s life slot =
    if life == s.life then sends (applied_op s slot (FinMap.get s.in_hand slot)) [] else only_answers s (Refused (Stale s.life))

-- a job that was given back
unfoldable pub on_give_back : Server → (life slot : ℕ) → Outcome
on_give_back s life slot =
    if life == s.life then sends (record s { in_hand = FinMap.remove s.in_hand slot }) [] else sends s []
