-- What ports handed on is what a run told.
use Rattle.std.specs.Prelude.{◌≡◌, ℕ, suc, max, ◌==◌, if◌then◌else◌, List, [], ◌∷◌, ◌++◌, Some, slice_get}
use Rattle.pf_base.specs.Span.{Span}
use Rattle.pf_entry.specs.Ops.{Sector}
use Rattle.pf_entry.specs.declared.ops.Op.TheVariants.{Write}
use Rattle.pf_protocol.specs.declared.answers.Answer.{Answer}
use Rattle.pf_protocol.specs.declared.events.Event.TheVariants.{Submit}
use Rattle.pf_world_moments.specs.pf_chunk.specs.Runs.{ChunkRun}
use Rattle.pf_world_moments.specs.Moments.{Heard, Moment, Carries, Hands}
use Rattle.pf_law_movers.specs.Carrying.{group_asked}
use Rattle.pf_law_movers.specs.Pasts.{is_some_of}

-- How far the history of group k is told of: past an event by which an ask was handed on, and so far as it had come when the mover heard a reply

-- what the mover wants after this reply tells which group it was of: bytes were read of the old one, and the answer of a write came of the new one
abbrev pub by_of_carry : (k : ℕ) → (before : List Moment) → (chunk : ℕ) → Heard → ℕ
by_of_carry k before chunk heard = if is_some_of (group_asked before chunk heard.reply) k then heard.by else 0

abbrev pub reach_at : (k : ℕ) → (before : List Moment) → Moment → ℕ
reach_at k before (Hands m group place) = if group == k then suc place else 0
reach_at k before (Carries chunk (Some heard) next) = by_of_carry k before chunk heard
reach_at k before moment = 0

abbrev pub reached_from : (k : ℕ) → (before told : List Moment) → ℕ
reached_from k before [] = 0
reached_from k before (moment ∷ told) = max (reach_at k before moment) (reached_from k (before ++ moment ∷ []) told)

abbrev pub reached : (k : ℕ) → (told : List Moment) → ℕ
reached k told = reached_from k [] told

-- each write that was submitted to a group was handed on by a port of a mount, or by that of the mover
abbrev pub AreMountsAlone : List ChunkRun → List Moment → Type 0
AreMountsAlone chunks told =
    (k place server : ℕ) (c : ChunkRun) (range : Span) (sectors : List Sector) (answer : Answer)
    → slice_get chunks k ≡ Some c
    → slice_get c.group.history place ≡ Some (record { event = Submit server (Write range sectors); answer = answer })
    → (before : List Moment) × (m : ℕ) × (after : List Moment) × (told ≡ before ++ Hands m k place ∷ after)
