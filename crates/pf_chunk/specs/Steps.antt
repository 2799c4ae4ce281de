-- What one event of a chunk comes to.
use Rattle.std.specs.Prelude.{◌≡◌, ◌≢◌, ℕ, Bool, IsSome, IsTrue, List, [], ◌++◌, filter, slice_get}
use Rattle.pf_entry.specs.Lists.{Every}
use Rattle.pf_protocol.specs.Answers.{IsLegal, claims_of}
use Rattle.pf_protocol.specs.Groups.{Group}
use Rattle.pf_protocol.specs.declared.answers.Answer.{Answer}
use Rattle.pf_group_rounds.specs.pf_group.specs.GroupIs.{GroupIs, state_of}
use Rattle.pf_report.specs.Texts.{answer_text}
use Rattle.pf_group_rounds.specs.Halts.{Halt}
use Rattle.pf_group_rounds.specs.Chunks.{Chunk}
use Rattle.pf_group_rounds.specs.Rounds.{IsApplied, applied}
use Rattle.pf_group_rounds.specs.Adding.{Adds}
use Rattle.pf_group_rounds.specs.Agreeing.{TellsOfGroup, chunk_standing}
use Rattle.pf_group_rounds.specs.Begun.{GroupHasBegun}
use Rattle.pf_group_rounds.specs.Growing.{HasGrown}
use Rattle.pf_chunk.specs.Happenings.{Happened}
use Rattle.pf_group_rounds.specs.pf_group.specs.Packets.{NoneComesBack}
use Rattle.pf_chunk.specs.Telling.{may_wait, now_taken, taken_all, reads_told}
use Rattle.pf_chunk.specs.Runs.{ChunkRun}
use Rattle.pf_chunk.specs.Views.{ChunkIs, IsListed, ChunkIsReady, run_of}
use Rattle.pf_chunk_waiting.specs.declared.waiting.Waiting.{Waiting}

-- Reads were gone through, each of which was handed out at most once: those that wait on are some of them, and no other was handed out
pub record AreGoneThrough (taken : List Bool) (waiting : List Waiting) (now : List Bool) (left : List Waiting) : Type 0 where
  pub listed : IsListed now left
  pub some : (number : ℕ) → Every (λ w. w.number ≢ number) waiting → Every (λ w. w.number ≢ number) left
  pub others : (number : ℕ) → Every (λ w. w.number ≢ number) waiting → slice_get now number ≡ slice_get taken number

-- the reads that were answered are told, and those wait on that still may be
pub record ReadsAreTold (chunk : ℕ) (g : Group) (taken : List Bool) (waiting : List Waiting) (now : List Bool) (left : List Waiting) (text : List ℕ) : Type 0
  where
    pub taken_is : now ≡ taken_all g taken waiting
    pub left_is : left ≡ filter (may_wait g) waiting
    pub text_is : text ≡ reads_told chunk g waiting

-- What followed on an event: jobs were finished, and reads gone through. Where the disks tell their content, all that can be applied is, and
-- the reads that were answered are told
pub record HasFollowed (old : ChunkIs) (before after : List ℕ) (new : ChunkIs) : Type 0 where
  pub then : GroupIs
  pub count : ℕ
  pub grown : HasGrown old.group then
  pub taken : then.taken ≡ old.group.taken
  pub none : claims_of [] then.history ≡ []
  pub run : (halts : List Halt) → TellsOfGroup halts then → applied halts (chunk_standing halts old.group) ≡ chunk_standing halts then
  pub applied_all : IsTrue then.told → IsApplied then.setup (state_of then)
  pub adds : Adds old.group then count count
  pub legal : IsTrue then.told → IsLegal then.setup then.history
  pub is : new ≡ record old { group = now_taken then new.group.taken; waiting = new.waiting }
  pub through : AreGoneThrough then.taken old.waiting new.group.taken new.waiting
  pub text : List ℕ
  pub put : after ≡ before ++ text
  pub told : IsTrue then.told → ReadsAreTold old.group.number (state_of then) then.taken old.waiting new.group.taken new.waiting text

-- what a list of halts makes of a chunk
abbrev pub ChunkEvent : Type 0
ChunkEvent = List Halt → ChunkRun → Happened

-- under every list of halts that tells of the group afterwards, the run comes to this chunk, gives this answer and writes this text,
-- which was put at the end of a buffer
pub record HasHappened (event : ChunkEvent) (old : ChunkIs) (before : List ℕ) (answer : Answer) (after : List ℕ) (new : ChunkIs) : Type 0 where
  pub grown : HasGrown old.group new.group
  pub ready : ChunkIsReady new
  pub left : IsTrue old.group.told → NoneComesBack (state_of old.group) (state_of new.group)
  pub first : new.first_left ≡ old.first_left
  pub ports : new.ports ≡ old.ports
  pub said : IsSome (answer_text answer)
  pub text : List ℕ
  pub put : after ≡ before ++ text
  pub run : (halts : List Halt) → TellsOfGroup halts new.group → event halts (run_of halts old)
      ≡ record { chunk = run_of halts new; answer = answer; text = text }

-- There was no memory for the whole of it: under every list of halts that tells of the group, this is a beginning of what it would have
-- come to
pub record EventHasFailed (would : List Halt → Chunk) (old new : GroupIs) : Type 0 where
  pub grown : HasGrown old new
  pub begun : (halts : List Halt) → TellsOfGroup halts new → GroupHasBegun halts old (would halts) new
