-- The list of halts that tells of a group.
use Rattle.std.specs.Prelude.{ℕ, suc, ◌+◌, Bool, false, ◌&&◌, ◌==◌, cond, if◌then◌else◌, List, [], ◌∷◌, ◌++◌, map, filter, count_by, unwrap_or}
use Rattle.pf_protocol.specs.Servers.{Setup}
use Rattle.pf_protocol.specs.Groups.{Group, ending, happens, opening}
use Rattle.pf_protocol.specs.Histories.{History}
use Rattle.pf_protocol.specs.declared.answers.Answer.{Answer}
use Rattle.pf_protocol.specs.declared.answers.Answer.TheVariants.{Done}
use Rattle.pf_protocol.specs.declared.events.Event.{Event}
use Rattle.pf_protocol.specs.declared.events.Event.TheVariants.{Restart}
use Rattle.pf_protocol.specs.declared.events.Happening.{Happening}
use Rattle.pf_group.specs.pf_group_network.specs.Going.{acts_at}
use Rattle.pf_group.specs.GroupIs.{GroupIs}
use Rattle.pf_group_rounds.specs.Agreeing.{is_halted}
use Rattle.pf_group_rounds.specs.Halts.{At, Halt, Making}

-- the server at which the event takes place. An event of no server is never cut off, and gets any number
abbrev pub server_at : Group → Event → ℕ
server_at g event = unwrap_or (acts_at g event) 0

-- what the event found, if it is a restart of the server that was done, and else what a later one did
abbrev pub restart_found : (server : ℕ) → Event → Answer → (later : Bool) → Bool
restart_found server (Restart i found) Done later = if i == server then found else later
restart_found server event answer later = later

-- what the next restart of the server that is done finds
abbrev pub next_found : (server : ℕ) → History → Bool
next_found server [] = false
next_found server (h ∷ hs) = restart_found server h.event h.answer (next_found server hs)

-- the halt of event n, if it was cut off
abbrev pub halts_of_event : (number : ℕ) → Group → (n : ℕ) → Happening → (rest : History) → List Halt
halts_of_event number g n h rest =
    let server = server_at g h.event in
    if is_halted h.answer then record { group = number; place = At n; server = server; found = next_found server rest } ∷ [] else []

-- the halts of the events from event n on
abbrev pub halts_from : (number : ℕ) → Setup → Group → (n : ℕ) → History → List Halt
halts_from number setup g n [] = []
halts_from number setup g n (h ∷ hs) = halts_of_event number g n h hs ++ halts_from number setup (happens setup g h.event (ending h.answer)) (suc n) hs

-- the halts of the making: of each server that could not be formatted
abbrev pub making_halts : (number : ℕ) → (failed : List ℕ) → List Halt
making_halts number failed = map (λ i. record { group = number; place = Making; server = i; found = false }) failed

-- where the disks of the group failed: in its making, and in the events of its history that were answered so
abbrev pub halts_of_group : GroupIs → List Halt
halts_of_group g = making_halts g.number g.setup.failed ++ halts_from g.number g.setup (opening g.setup) 0 g.history

-- the halts of the list that are of this group
abbrev pub of_group : List Halt → (number : ℕ) → List Halt
of_group halts number = filter (λ h. h.group == number) halts

-- how many halts of the list are of this server
abbrev pub halt_count : List Halt → (number server : ℕ) → ℕ
halt_count halts number server = count_by (λ h. h.group == number && h.server == server) halts

-- 1 where it holds, to count by
abbrev pub one_if : Bool → ℕ
one_if b = cond b 1 0

-- how many events of the history were cut off at the server
abbrev pub halted_at : (server : ℕ) → Setup → Group → History → ℕ
halted_at server setup g [] = 0
halted_at server setup g (h ∷ hs) = one_if (is_halted h.answer && server_at g h.event == server) + halted_at server setup
    (happens setup g h.event (ending h.answer)) hs
