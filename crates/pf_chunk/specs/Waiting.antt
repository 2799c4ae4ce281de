-- Which reads wait and which were answered, and what events do to them.
use Rattle.std.specs.Prelude.{◌≡◌, ℕ, ◌<◌, ◌≤◌, ◌⊎◌, true, List, ◌++◌, map, filter, Some, ◌==◌, slice_get}
use Rattle.pf_base.specs.Span.{Span}
use Rattle.pf_entry.specs.Tables.{ascends}
use Rattle.pf_protocol.specs.declared.answers.Answer.{Answer}
use Rattle.pf_protocol.specs.declared.answers.Answer.TheVariants.{Read as ReadIs}
use Rattle.pf_protocol.specs.declared.events.Event.{Event}
use Rattle.pf_protocol.specs.declared.events.Event.TheVariants.{Fetch}
use Rattle.pf_protocol.specs.Servers.{Read, Server}
use Rattle.pf_protocol.specs.Groups.{Answered, Group, reads_after}
use Rattle.pf_protocol.specs.Histories.{RunsAs}

-- one of these reads has the number
pub record HasReadNumber (reads : List Read) (n : ℕ) : Type 0 where
  pub place : ℕ
  pub read : Read
  pub there : slice_get reads place ≡ Some read
  pub numbered : read.number ≡ n

-- read n waits at the running server i, whose term is t
pub record WaitsAt (g : Group) (i t n : ℕ) : Type 0 where
  pub server : Server
  pub runs : RunsAs g i server
  pub in_term : server.durable.term ≡ t
  pub has : HasReadNumber server.reads n

-- it waits at some server
pub record Waits (g : Group) (n : ℕ) : Type 0 where
  pub server : ℕ
  pub term : ℕ
  pub there : WaitsAt g server term n

-- read n was answered
pub record IsAnsweredIn (g : Group) (n : ℕ) : Type 0 where
  pub place : ℕ
  pub answer : Answered
  pub there : slice_get g.answered place ≡ Some answer
  pub numbered : answer.number ≡ n

abbrev pub answers_of_read : Group → ℕ → List Answered
answers_of_read g n = filter (λ a. a.number == n) g.answered

-- each read that was taken up waits at one server, or was answered once, or neither
pub record ReadsWaitOnce (g : Group) : Type 0 where
  pub waiting_below : (i t n : ℕ) → WaitsAt g i t n → n < g.reads
  pub answered_below : (n : ℕ) → IsAnsweredIn g n → n < g.reads
  pub unanswered : (i t n : ℕ) → WaitsAt g i t n → IsAnsweredIn g n → ⊥
  pub one_server : (i j t u n : ℕ) → WaitsAt g i t n → WaitsAt g j u n → i ≡ j
  pub ascending : (i : ℕ) (s : Server) → RunsAs g i s → ascends (map (λ r. r.number) s.reads) ≡ true
  pub answered_once : (j k : ℕ) (a b : Answered) → slice_get g.answered j ≡ Some a → slice_get g.answered k ≡ Some b → a.number ≡ b.number → j ≡ k

-- answers are only added
pub record AddsAnswers (g after : Group) : Type 0 where
  pub more : List Answered
  pub longer : after.answered ≡ g.answered ++ more

-- the event took up read n at server i
pub record TookUp (g : Group) (event : Event) (answer : Answer) (i n : ℕ) : Type 0 where
  pub range : Span
  pub fetched : event ≡ Fetch i range
  pub numbered : n ≡ g.reads
  pub told : answer ≡ ReadIs n

-- what one event does to the reads: one waits on only where it waited, and only one that waited is answered
pub record StepsReads (g : Group) (event : Event) (answer : Answer) (after : Group) : Type 0 where
  pub waiting : (i t n : ℕ) → WaitsAt after i t n → WaitsAt g i t n ⊎ TookUp g event answer i n
  pub answered : (n : ℕ) → IsAnsweredIn after n → IsAnsweredIn g n ⊎ Waits g n
  pub adds : AddsAnswers g after
  pub reads : after.reads ≡ reads_after g.reads answer
  pub next : (n : ℕ) → answer ≡ ReadIs n → n ≡ g.reads

-- what events do in which no read is taken up
pub record GoesQuietly (g after : Group) : Type 0 where
  pub waiting : (i t n : ℕ) → WaitsAt after i t n → WaitsAt g i t n
  pub answered : (n : ℕ) → IsAnsweredIn after n → IsAnsweredIn g n ⊎ Waits g n
  pub adds : AddsAnswers g after
  pub reads : after.reads ≡ g.reads

-- what any events do to the reads that were taken up before them
pub record ReadsGoOn (g after : Group) : Type 0 where
  pub waiting : (i t n : ℕ) → n < g.reads → WaitsAt after i t n → WaitsAt g i t n
  pub answered : (n : ℕ) → n < g.reads → IsAnsweredIn after n → IsAnsweredIn g n ⊎ Waits g n
  pub adds : AddsAnswers g after
  pub reads : g.reads ≤ after.reads

-- the read was taken up, and waits and was answered nowhere
pub record IsDropped (g : Group) (n : ℕ) : Type 0 where
  pub taken_up : n < g.reads
  pub nowhere : Waits g n → ⊥
  pub unanswered : IsAnsweredIn g n → ⊥

-- read n was taken up and not answered, and waits at this server in this term or nowhere
pub record MayWait (g : Group) (i t n : ℕ) : Type 0 where
  pub taken_up : n < g.reads
  pub unanswered : IsAnsweredIn g n → ⊥
  pub only : (j u : ℕ) → WaitsAt g j u n → (j ≡ i) × (u ≡ t)
