-- What is known of the moves that a run told.
use Rattle.std.specs.Prelude.{◌≡◌, ℕ, suc, ◌/◌, ◌<◌, ◌≤◌, ◌==◌, if◌then◌else◌, List, ◌∷◌, ◌++◌, length, take, Option, Some, None, slice_get}
use Rattle.std.specs.List.{fold}
use Rattle.pf_base.specs.declared.asks.Ask.{Ask}
use Rattle.pf_base.specs.declared.asks.Ask.TheVariants as asks
use Rattle.pf_base.specs.declared.asks.Reply.{Reply}
use Rattle.pf_base.specs.declared.asks.Reply.TheVariants.{Bytes, Written}
use Rattle.pf_asks.specs.Ports.{PortIs}
use Rattle.pf_protocol.specs.declared.answers.Answer.{Answer}
use Rattle.pf_protocol.specs.Answers.{IsLegal}
use Rattle.pf_law_movers.specs.pf_law_ports.specs.Driven.{IsDriven}
use Rattle.pf_law_movers.specs.pf_law_ports.specs.Replies.{IsReplied}
use Rattle.pf_move.specs.declared.mover.MoverAsk.{MoverAsk}
use Rattle.pf_move.specs.declared.mover.MoverAsk.TheVariants.{Reading, Writing}
use Rattle.pf_move.specs.declared.mover.MoveNext.{MoveNext}
use Rattle.pf_move.specs.declared.mover.MoveNext.TheVariants.{Read, Write, Switch}
use Rattle.pf_move.specs.Movers.{MoverIs, new_mover}
use Rattle.pf_move.specs.Turns.{MoverTurn, Turns as AreTurns}
use Rattle.pf_law_movers.specs.pf_chunk.specs.Driving.{event_of_ask}
use Rattle.pf_law_movers.specs.pf_chunk.specs.Runs.{ChunkRun, mover_port}
use Rattle.pf_volume.specs.Volumes.{Extent, IsVolume}
use Rattle.pf_law_movers.specs.pf_world_moments.specs.Moments.{Heard, Moment, Carries, Hands, Moves}
use Rattle.pf_law_movers.specs.Carrying.{group_asked, moves_of}
use Rattle.pf_law_movers.specs.Epochs.{epoch_of, group_of_epoch, groups_in_turn}
use Rattle.pf_law_movers.specs.Handing.{reached}
use Rattle.pf_law_movers.specs.Pasts.{mover_trace, past_in}

-- the chunk is served by the last of its groups
pub record ChunkIsAtRest (count : ℕ) (told : List Moment) (chunk : ℕ) : Type 0 where
  pub small : chunk < count
  pub groups : length (groups_in_turn told chunk) ≡ suc (epoch_of told chunk)

-- it is moving to the last of its groups
pub record IsOnTheMove (count : ℕ) (told : List Moment) (chunk : ℕ) : Type 0 where
  pub small : chunk < count
  pub groups : length (groups_in_turn told chunk) ≡ suc (suc (epoch_of told chunk))

-- where all chunks rest, one begins to move to a group that was no chunk's before
pub record BeginsMove (count : ℕ) (chunks : List ChunkRun) (before : List Moment) (chunk to : ℕ) : Type 0 where
  pub small : chunk < count
  pub rests : (other : ℕ) → other < count → ChunkIsAtRest count before other
  pub behind : count ≤ to
  pub fresh : (other by : ℕ) → other < count → group_of_epoch before other by ≡ Some to → ⊥
  pub group : ChunkRun
  pub there : slice_get chunks to ≡ Some group

-- What the mover of the chunk asked last

abbrev pub ask_to_carry : (chunk : ℕ) → MoveNext → Option Ask
ask_to_carry chunk (Read span) = Some (asks.Read chunk span)
ask_to_carry chunk (Write span sectors) = Some (asks.Write chunk span sectors)
ask_to_carry chunk Switch = None

abbrev pub asked_to_carry : (chunk : ℕ) → Option Ask → Moment → Option Ask
asked_to_carry chunk ask (Moves c to) = if c == chunk then None else ask
asked_to_carry chunk ask (Carries c heard next) = if c == chunk then ask_to_carry chunk next else ask
asked_to_carry chunk ask moment = ask

abbrev pub carried_ask : List Moment → (chunk : ℕ) → Option Ask
carried_ask told chunk = fold (asked_to_carry chunk) None told

-- which of the two groups it asks
abbrev pub role_of_ask : Ask → MoverAsk
role_of_ask (asks.Read chunk span) = Reading
role_of_ask (asks.Write chunk span sectors) = Writing

abbrev pub role_of_reply : Reply → MoverAsk
role_of_reply (Bytes sectors) = Reading
role_of_reply Written = Writing

abbrev pub group_of_role : (before : List Moment) → (chunk : ℕ) → MoverAsk → Option ℕ
group_of_role before chunk Reading = group_of_epoch before chunk (epoch_of before chunk)
group_of_role before chunk Writing = group_of_epoch before chunk (suc (epoch_of before chunk))

-- the mover's port into group k handed on what the mover of a chunk asked last: that is the event at this place
pub record IsCarriedOn (count : ℕ) (chunks : List ChunkRun) (before : List Moment) (k place : ℕ) : Type 0 where
  pub chunk : ℕ
  pub moving : IsOnTheMove count before chunk
  pub ask : Ask
  pub pending : carried_ask before chunk ≡ Some ask
  pub of : group_of_role before chunk (role_of_ask ask) ≡ Some k
  pub group : ChunkRun
  pub there : slice_get chunks k ≡ Some group
  pub server : ℕ
  pub answer : Answer
  pub is : slice_get group.group.history place ≡ Some (record { event = event_of_ask ask server; answer = answer })

-- the mover heard a reply of one of the two groups to what it asked last, by the port that it has there
pub record IsCarriedBack (count : ℕ) (chunks : List ChunkRun) (before : List Moment) (chunk : ℕ) (heard : Heard) : Type 0 where
  pub ask : Ask
  pub pending : carried_ask before chunk ≡ Some ask
  pub number : ℕ
  pub of : group_asked before chunk heard.reply ≡ Some number
  pub since : reached number before ≤ heard.by
  pub group : ChunkRun
  pub there : slice_get chunks number ≡ Some group
  pub within : heard.by ≤ length group.group.history
  pub replied : IsLegal group.group.setup group.group.history
      → IsReplied group.group.setup (past_in (take heard.by group.group.history)
      (mover_trace (take heard.by group.group.history) number (role_of_reply heard.reply) count before)) ask heard.reply

-- What was told of moves: a chunk moves to groups of its own, while all others are at rest; the mover's calls follow each other, and its ports are
-- driven
pub record AreMoves (v : Extent) (chunks : List ChunkRun) (told : List Moment) : Type 0 where
  pub groups : (k : ℕ) → k < v.chunks → (c : ChunkRun) × (slice_get chunks k ≡ Some c)
  pub begins : (before after : List Moment) (chunk to : ℕ) → told ≡ before ++ Moves chunk to ∷ after → BeginsMove v.chunks chunks before chunk to
  pub carries : (before after : List Moment) (chunk : ℕ) (heard : Option Heard) (next : MoveNext) → told ≡ before ++ Carries chunk heard next ∷ after
      → IsOnTheMove v.chunks before chunk
  pub back : (before after : List Moment) (chunk : ℕ) (heard : Heard) (next : MoveNext) → told ≡ before ++ Carries chunk (Some heard) next ∷ after
      → IsCarriedBack v.chunks chunks before chunk heard
  pub on : (before after : List Moment) (m k place : ℕ) → told ≡ before ++ Hands m k place ∷ after → mover_port ≤ m
      → (m ≡ mover_port) × IsCarriedOn v.chunks chunks before k place
  pub calls : IsVolume v → (chunk epoch : ℕ) (turns : List MoverTurn) → chunk < v.chunks → slice_get (moves_of told chunk) epoch ≡ Some turns
      → (mover : MoverIs) × AreTurns (new_mover chunk (v.sectors / 8)) turns mover
  pub driven : (k : ℕ) (role : MoverAsk) (c : ChunkRun) → slice_get chunks k ≡ Some c
      → (port : PortIs) × IsDriven c.group.setup (past_in c.group.history (mover_trace c.group.history k role v.chunks told)) port
