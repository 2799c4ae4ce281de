-- One delivery of a settling.
use Rattle.std.specs.Prelude.{◌≡◌, ℕ, ◌+◌, Bool, true, false, List}
use Rattle.pf_protocol.specs.declared.answers.Answer.{Answer}
use Rattle.pf_protocol.specs.declared.answers.Answer.TheVariants.{Refused}
use Rattle.pf_protocol.specs.declared.events.Event.TheVariants.{Deliver}
use Rattle.pf_chunk.specs.declared.settling.Try.{Try}
use Rattle.pf_chunk.specs.declared.settling.TryEnd.{TryEnd}
use Rattle.pf_chunk.specs.declared.settling.TryEnd.TheVariants.{Delivered, Passed}
use Rattle.pf_chunk.specs.Happenings.{happened}
use Rattle.pf_group_rounds.specs.pf_group.specs.Packets.{is_refused_for_room}
use Rattle.pf_chunk.specs.Steps.{HasHappened}
use Rattle.pf_chunk.specs.Views.{ChunkIs}

-- a packet that was passed over is not tried again
abbrev pub Moved : TryEnd → Answer → (old new : ℕ) → Type 0
Moved Passed answer old new = (is_refused_for_room answer ≡ true) × (new ≡ old + 1)
Moved (Delivered refused) answer old new = (is_refused_for_room answer ≡ false) × (new ≡ old)

abbrev pub is_refused : Answer → Bool
is_refused (Refused refusal) = true
is_refused answer = false

-- whether a packet that came was refused
abbrev pub TellsRefusal : TryEnd → Answer → Type 0
TellsRefusal Passed answer = Unit {0}
TellsRefusal (Delivered refused) answer = refused ≡ is_refused answer

pub record SettlingHasTried (old : ChunkIs) (before : List ℕ) (tried : Try) (after : List ℕ) (new : ChunkIs) : Type 0 where
  pub answer : Answer
  pub went : HasHappened (λ halts c. happened halts c (Deliver old.next)) old before answer after new
  pub name : (tried.group ≡ old.group.number) × (tried.packet ≡ old.next)
  pub moved : Moved tried.end answer old.next new.next
  pub tells : TellsRefusal tried.end answer
