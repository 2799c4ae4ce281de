-- How a chunk is served, step by step, and what its clients' ports did meanwhile.
use Rattle.std.specs.Prelude.{◌≡◌, ◌⊎◌, ℕ, suc, ◌+◌, ◌<◌, ◌≤◌, true, false, List, [], ◌∷◌, ◌++◌, length, Option, Some, None, slice_get}
use Rattle.pf_base.specs.Asks.{chunk_of}
use Rattle.pf_base.specs.declared.asks.Ask.{Ask}
use Rattle.pf_base.specs.declared.asks.Ask.TheVariants.{Write, Read}
use Rattle.pf_base.specs.declared.asks.Reply.{Reply}
use Rattle.pf_base.specs.declared.asks.Reply.TheVariants.{Written, Bytes}
use Rattle.pf_protocol.specs.Answers.{IsLegal}
use Rattle.pf_protocol.specs.Groups.{Answered, Group}
use Rattle.pf_protocol.specs.Histories.{History, replay}
use Rattle.pf_protocol.specs.Servers.{Setup}
use Rattle.pf_asks.specs.declared.port.Sent.{Sent}
use Rattle.pf_asks.specs.declared.port.Sent.TheVariants.{Number}
use Rattle.pf_asks.specs.Ports.{PortIs}
use Rattle.pf_law_positions.specs.Deeds.{Deed, Takes, Submits}
use Rattle.pf_law_positions.specs.PortDeeds.{no_deed, port_ask, port_reply}
use Rattle.pf_law_ports.specs.Calls.{PortPast}
use Rattle.pf_law_ports.specs.Driven.{IsUndisturbedStep}
use Rattle.pf_law_service.specs.Services.{Owed, Service, service_asked, service_grown, service_moved, service_opening, past_of, service_stepped, service_switched}

abbrev pub AskIsRead : Ask → Type 0
AskIsRead (Write chunk span sectors) = ⊥
AskIsRead (Read chunk span) = Unit {0}

-- of a mount come two clients: one that reads and writes, and one that only reads
pub record IsClientOfAsk (mount client : ℕ) (ask : Ask) : Type 0 where
  pub small : mount < 16
  pub is : (client ≡ mount) ⊎ ((client ≡ 17 + mount) × AskIsRead ask)

-- bytes that a port is answered are those of the read whose number it was told, as the group answered it
pub record IsNumbered (sent : Option Sent) (g : Group) (sectors : List (List ℕ)) (answer : Answered) : Type 0 where
  pub told : sent ≡ Some (Number answer.number)
  pub k : ℕ
  pub at : slice_get g.answered k ≡ Some answer
  pub gives : answer.bytes ≡ sectors

abbrev pub IsAskAnsweredBy : Option Sent → Group → Reply → Answered → Type 0
IsAskAnsweredBy sent g Written answer = Unit {0}
IsAskAnsweredBy sent g (Bytes sectors) answer = IsNumbered sent g sectors answer

-- the group of the last epoch by now
abbrev pub group_by_now : Service → Group
group_by_now s = replay (s.setup s.epoch) (s.history s.epoch)

-- A mount's port into the group that serves the chunk takes a step for what the mount was asked last, and gives this
pub record PortSteps (s : Service) (mount : ℕ) (owed : Owed) (reply : Option Reply) (new : PortPast) (next : PortIs) : Type 0 where
  pub serves : s.moving ≡ false
  pub small : mount < 16
  pub owes : s.owed mount ≡ Some owed
  pub step : IsUndisturbedStep (s.setup s.epoch) (past_of s mount) (s.port mount) owed.ask reply new next

-- the deed by which a step hands the ask on, or brings its reply
abbrev pub hands_deed : (chunk : ℕ) → Service → Owed → Deed
hands_deed chunk s owed = Submits owed.client chunk s.epoch (length (s.history s.epoch))

abbrev pub hears_deed : Service → Owed → Answered → Reply → Deed
hears_deed s owed answer reply = Takes owed.client (port_reply owed.ask s.epoch (length (s.history s.epoch)) answer reply) None

-- A chunk is served from a first group on, as yet without a deed. Then, in any order, something happens in one of its groups that is
-- nothing of its clients; or at other chunks alone; a mount's port that has nothing to ask is asked something; it takes a step that is one
-- event of the group, or one that gives a reply; the asks go to a new group; and that begins to serve
pub data ChunkIsServed (chunk : ℕ) : Service → List Deed → Type 0 where
  Opens : (setup : Setup) (history : History) → ChunkIsServed chunk (service_opening setup history) []
  Grows : (s : Service) (ds : List Deed) (epoch : ℕ) (more : History) → ChunkIsServed chunk s ds → ChunkIsServed chunk (service_grown s epoch more) ds
  Passes : (s : Service) (ds : List Deed) → ChunkIsServed chunk s ds → ChunkIsServed chunk s (ds ++ no_deed ∷ [])
  Asks : (s : Service) (ds : List Deed) (mount client : ℕ) (ask : Ask) → IsClientOfAsk mount client ask → chunk_of ask ≡ chunk → (s.port mount).ask ≡ None
      → ChunkIsServed chunk s ds → ChunkIsServed chunk (service_asked s mount client (length ds) ask) (ds ++ Takes client None (Some (port_ask ask)) ∷ [])
  Hands : (s : Service) (ds : List Deed) (mount : ℕ) (owed : Owed) (new : PortPast) (next : PortIs) → PortSteps s mount owed None new next
      → length new.history ≡ suc (length (s.history s.epoch)) → ChunkIsServed chunk s ds
      → ChunkIsServed chunk (service_stepped s mount new next) (ds ++ hands_deed chunk s owed ∷ [])
  Hears : (s : Service) (ds : List Deed) (mount : ℕ) (owed : Owed) (reply : Reply) (answer : Answered) (next : PortIs)
      → PortSteps s mount owed (Some reply) (past_of s mount) next → IsAskAnsweredBy (s.port mount).sent (group_by_now s) reply answer
      → ChunkIsServed chunk s ds → ChunkIsServed chunk (service_stepped s mount (past_of s mount) next) (ds ++ hears_deed s owed answer reply ∷ [])
  Moves : (s : Service) (ds : List Deed) (setup : Setup) (history : History) → s.moving ≡ false → ChunkIsServed chunk s ds
      → ChunkIsServed chunk (service_moved s setup history) ds
  Switches : (s : Service) (ds : List Deed) → s.moving ≡ true → ChunkIsServed chunk s ds → ChunkIsServed chunk (service_switched s) ds

-- each of its groups is legal
abbrev pub AreLegal : Service → Type 0
AreLegal s = (epoch : ℕ) → epoch ≤ s.epoch → IsLegal (s.setup epoch) (s.history epoch)
