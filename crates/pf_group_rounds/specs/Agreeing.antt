-- Which lists of halts tell of a group.
use Rattle.std.specs.Prelude.{◌≡◌, ℕ, suc, ◌<◌, Bool, true, false, IsTrue, ◌&&◌, ◌==◌, List, [], ◌∷◌, ◌++◌, Some, length}
use Rattle.pf_entry.specs.Lists.{Every}
use Rattle.pf_protocol.specs.declared.answers.Answer.{Answer}
use Rattle.pf_protocol.specs.declared.answers.Answer.TheVariants.{Refused}
use Rattle.pf_protocol.specs.declared.answers.Refusal.{Refusal}
use Rattle.pf_protocol.specs.declared.answers.Refusal.TheVariants.{Halted}
use Rattle.pf_protocol.specs.declared.events.Event.{Event}
use Rattle.pf_protocol.specs.declared.events.Happening.{Happening}
use Rattle.pf_protocol.specs.Groups.{ending, happens}
use Rattle.pf_protocol.specs.Histories.{History, IsPrefix}
use Rattle.pf_group.specs.pf_group_network.specs.Going.{acts_at}
use Rattle.pf_group.specs.GroupIs.{GroupIs, state_of}
use Rattle.pf_group_rounds.specs.Halts.{Halt, failed_by, is_place_of_event, is_cut}
use Rattle.pf_group_rounds.specs.Chunks.{Chunk, event_listed, listed_at}

-- a history as a run has it: from event n on, restarts find what the list tells. Where there was nothing to be found, the history of a
-- group may have something else, which changes nothing
abbrev pub told_from : List Halt → (number n : ℕ) → History → History
told_from halts number n [] = []
told_from halts number n (h ∷ hs) = record h { event = listed_at halts number n h.event } ∷ told_from halts number (suc n) hs

abbrev pub told_history : List Halt → GroupIs → History
told_history halts g = told_from halts g.number 0 g.history

-- where a run stands that came to this group
abbrev pub chunk_standing : List Halt → GroupIs → Chunk
chunk_standing halts g = record { number = g.number; setup = g.setup; state = state_of g; history = told_history halts g }

abbrev pub is_halt : Refusal → Bool
is_halt Halted = true
is_halt refusal = false

abbrev pub is_halted : Answer → Bool
is_halted (Refused refusal) = is_halt refusal
is_halted answer = false

-- the next event of the chunk was cut off by this
abbrev pub is_halt_of : Chunk → Halt → Bool
is_halt_of c halt = halt.group == c.number && is_place_of_event (length c.history) halt.place

-- whatever cut the event off failed at the server at which it takes place, one of the three
abbrev pub HaltsAreOwn : List Halt → Chunk → Event → Type 0
HaltsAreOwn halts c event = Every (λ halt. is_halt_of c halt ≡ true → (acts_at c.state event ≡ Some halt.server) × (halt.server < 3)) halts

-- the list tells whether the event was cut off, and at no server but its own. A restart comes to the state to which it comes with what the
-- list says it finds: where there was nothing to be found, the list need not say what stands in the history
pub record HaltsTellOf (halts : List Halt) (c : Chunk) (h : Happening) : Type 0 where
  pub cut : is_cut halts c.number (length c.history) ≡ is_halted h.answer
  pub own : HaltsAreOwn halts c h.event
  pub found : happens c.setup c.state (event_listed halts c h.event) (ending h.answer) ≡ happens c.setup c.state h.event (ending h.answer)

-- the group at an earlier moment
abbrev pub at_moment : List Halt → GroupIs → History → Chunk
at_moment halts g earlier = chunk_standing halts (record g { history = earlier })

-- of the making of the group, which failed at some of three servers, and of each event of its history; its disks tell their content
pub record TellsOfGroup (halts : List Halt) (g : GroupIs) : Type 0 where
  pub told : IsTrue g.told
  pub making : failed_by halts g.number ≡ g.setup.failed
  pub few : Every (λ i. i < 3) g.setup.failed
  pub events : (earlier : History) (h : Happening) → IsPrefix (earlier ++ h ∷ []) g.history → HaltsTellOf halts (at_moment halts g earlier) h
