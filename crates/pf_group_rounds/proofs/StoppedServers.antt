-- A server is stopped with two states only since it was cut off.
use Rattle.std.proofs.Common.{◌≡◌, ◌≢◌, inl, inr, ℕ, suc, Bool, true, false, cond, ◌==◌, if◌then◌else◌, List, [], ◌∷◌, Option, Some, None, slice_get, slice_set, refl, sym, ap, ◌∙◌}
use Rattle.std.proofs.lemmas.Bool.{cond-false, ne_eqb}
use Rattle.pf_entry.proofs.Lists.{set_cases}
use Rattle.pf_entry.specs.Records.{Durable}
use Rattle.pf_protocol.specs.declared.answers.Answer.{Answer}
use Rattle.pf_protocol.specs.declared.answers.Answer.TheVariants as answers
use Rattle.pf_protocol.specs.declared.events.Event.{Event}
use Rattle.pf_protocol.specs.declared.events.Event.TheVariants.{Submit, Fetch, Deliver, Lose, Elect, Resend, Stop, Restart, Claim, Finish, GiveBack, Checkpoint}
use Rattle.pf_protocol.specs.Servers.{Setup, Server, Condition, Running, Stopped, Unformatted}
use Rattle.pf_protocol.specs.Outcomes.{Outcome}
use Rattle.pf_protocol.specs.Saving.{restarted, renewed, claimed}
use Rattle.pf_protocol.specs.Rows.{on_packet, settled}
use Rattle.pf_protocol.specs.Groups.{Sent, Group, Ending, Whole, CutOff, Missed, Untouched, acted, cut_off, step_ended, server_step_of, at_server, delivered_in, packet_delivered, lost, stopped, server_begun, restart, least_claim, claim_at, claim_or, first_claim, only_whole, counted_election, ending, happens}
use Rattle.pf_group.specs.pf_group_network.specs.Going.{acts_at, receiver}
use Rattle.pf_group_rounds.specs.Telling.{restart_found}

-- how a server comes to be stopped after an event: with one state, or cut off in the event, or as it was before and is still
pub data IsStopped (g : Group) (event : Event) (answer : Answer) (i : ℕ) (before after : Durable) : Type 0 where
  AsOne : before ≡ after → IsStopped g event answer i before after
  Cut : ending answer ≡ CutOff → acts_at g event ≡ Some i → IsStopped g event answer i before after
  Still : (life : ℕ) → slice_get g.servers i ≡ Some (Stopped life before after) → ((later : Bool) → restart_found i event answer later ≡ later) → IsStopped g event answer i before after

-- a restart of another server finds nothing for this one
found_elsewhere : (i j : ℕ) (found : Bool) (answer : Answer) → i ≢ j → (later : Bool) → restart_found i (Restart j found) answer later ≡ later
found_elsewhere i j found answers.Done apart later = cond-false (j == i) found later (ne_eqb j i (λ e. apart (sym e)))
found_elsewhere i j found (answers.Slot slot) apart later = refl
found_elsewhere i j found (answers.Term term) apart later = refl
found_elsewhere i j found (answers.Read number) apart later = refl
found_elsewhere i j found (answers.Base base) apart later = refl
found_elsewhere i j found (answers.Job job) apart later = refl
found_elsewhere i j found (answers.Refused refusal) apart later = refl

-- nor does one that was not done
found_undone : (i j : ℕ) (found : Bool) (answer : Answer) → ending answer ≢ Whole → (later : Bool) → restart_found i (Restart j found) answer later ≡ later
found_undone i j found answers.Done undone later = absurd (undone refl)
found_undone i j found (answers.Slot slot) undone later = refl
found_undone i j found (answers.Term term) undone later = refl
found_undone i j found (answers.Read number) undone later = refl
found_undone i j found (answers.Base base) undone later = refl
found_undone i j found (answers.Job job) undone later = refl
found_undone i j found (answers.Refused refusal) undone later = refl

module _ (setup : Setup) (g : Group) (answer : Answer) (i life : ℕ) (before after : Durable) where
  -- the server is stopped so in the group
  abbrev StoppedIn : Group → Type 0
  StoppedIn other = slice_get other.servers i ≡ Some (Stopped life before after)

  abbrev Finds : Event → Type 0
  Finds event = (later : Bool) → restart_found i event answer later ≡ later

  abbrev Stops : Event → Type 0
  Stops event = IsStopped g event answer i before after

  not_running : (s : Server) → Running s ≡ Stopped life before after → ⊥
  not_running s e = cc

  one_state : (other : ℕ) (d : Durable) → Stopped other d d ≡ Stopped life before after → before ≡ after
  one_state other d e = cc

  module _ (event : Event) where
    -- the event left all servers as they were
    still : Finds event → (mid : Group) → mid.servers ≡ g.servers → StoppedIn mid → Stops event
    still finds mid same at = Still life (ap (λ xs. slice_get xs i) (sym same) ∙ at) finds

    -- or all but one
    written : (mid : Group) → mid.servers ≡ g.servers → (j : ℕ) (c : Condition) → (i ≢ j → Finds event) → (i ≡ j → c ≡ Stopped life before after → Stops event) → slice_get (slice_set mid.servers j c) i ≡ Some (Stopped life before after) → Stops event
    written mid same j c finds here at = elim (set_cases mid.servers j c i (Stopped life before after) at) [
      | inl new ↦ here new.0 new.1
      | inr old ↦ Still life (ap (λ xs. slice_get xs i) (sym same) ∙ old.1) (finds old.0)
    ]

    runs_on : (mid : Group) → mid.servers ≡ g.servers → (j : ℕ) (s : Server) → (i ≢ j → Finds event) → slice_get (slice_set mid.servers j (Running s)) i ≡ Some (Stopped life before after) → Stops event
    runs_on mid same j s finds = written mid same j (Running s) finds (λ _ e. absurd (not_running s e))

    cut_here : (mid : Group) → mid.servers ≡ g.servers → (j : ℕ) (c : Condition) → (i ≢ j → Finds event) → ending answer ≡ CutOff → acts_at g event ≡ Some j → slice_get (slice_set mid.servers j c) i ≡ Some (Stopped life before after) → Stops event
    cut_here mid same j c finds cut acts = written mid same j c finds (λ here _. Cut cut (acts ∙ ap Some (sym here)))

    ends : Finds event → (mid : Group) → mid.servers ≡ g.servers → (how : Ending) → ending answer ≡ how → (j : ℕ) → acts_at g event ≡ Some j → (s : Server) (o : Outcome) → StoppedIn (step_ended how mid j s o) → Stops event
    unfolding acted cut_off
    ends finds mid same Whole is j acts s o at = runs_on mid same j (settled o.server) (λ _. finds) at
    ends finds mid same CutOff is j acts s o at = cut_here mid same j _ (λ _. finds) is acts at
    ends finds mid same Missed is j acts s o at = still finds mid same at
    ends finds mid same Untouched is j acts s o at = still finds mid same at

    steps : Finds event → (mid : Group) → mid.servers ≡ g.servers → (how : Ending) → ending answer ≡ how → (j : ℕ) → acts_at g event ≡ Some j → (c : Option Condition) (rule : Server → Outcome) → StoppedIn (server_step_of how mid j c rule) → Stops event
    steps finds mid same how is j acts (Some (Running s)) rule at = ends finds mid same how is j acts s (rule s) at
    steps finds mid same how is j acts (Some (Stopped other b a)) rule at = still finds mid same at
    steps finds mid same how is j acts (Some Unformatted) rule at = still finds mid same at
    steps finds mid same how is j acts None rule at = still finds mid same at

    onlys : Finds event → (how : Ending) (later : Group) → (StoppedIn later → Stops event) → StoppedIn (only_whole how g later) → Stops event
    onlys finds Whole later next at = next at
    onlys finds CutOff later next at = still finds g refl at
    onlys finds Missed later next at = still finds g refl at
    onlys finds Untouched later next at = still finds g refl at

    stops : Finds event → (j : ℕ) (c : Option Condition) → StoppedIn (stopped g j c) → Stops event
    stops finds j (Some (Running s)) at = written g refl j _ (λ _. finds) (λ _ e. AsOne (one_state (suc s.life) s.durable e)) at
    stops finds j (Some (Stopped other b a)) at = still finds g refl at
    stops finds j (Some Unformatted) at = still finds g refl at
    stops finds j None at = still finds g refl at

    claims_at : Finds event → (j : ℕ) (c : Option Condition) (slot : ℕ) → StoppedIn (claim_at g j c (Some slot)) → Stops event
    claims_at finds j (Some (Running s)) slot at = runs_on g refl j (claimed s slot) (λ _. finds) at
    claims_at finds j (Some (Stopped other b a)) slot at = still finds g refl at
    claims_at finds j (Some Unformatted) slot at = still finds g refl at
    claims_at finds j None slot at = still finds g refl at

    claims_or : Finds event → (j : ℕ) (slot : Option ℕ) (rest : Group) → (StoppedIn rest → Stops event) → StoppedIn (claim_or g j slot rest) → Stops event
    claims_or finds j None rest next at = next at
    claims_or finds j (Some slot) rest next at = claims_at finds j (slice_get g.servers j) slot at

    claims : Finds event → (window : ℕ) (is : List ℕ) → StoppedIn (first_claim window g is) → Stops event
    claims finds window [] at = still finds g refl at
    claims finds window (j ∷ js) at = claims_or finds j (least_claim window (slice_get g.servers j)) (first_claim window g js) (claims finds window js) at

    losses : Finds event → (k : ℕ) (sent : Option Sent) → StoppedIn (lost g k sent) → Stops event
    losses finds k None at = still finds g refl at
    losses finds k (Some sent) at = still finds (lost g k (Some sent)) refl at

  delivery_same : (how : Ending) (k : ℕ) (sent : Sent) → (delivered_in how g k sent).servers ≡ g.servers
  delivery_same Whole k sent = refl
  delivery_same CutOff k sent = refl
  delivery_same Missed k sent = refl
  delivery_same Untouched k sent = refl

  delivers : (how : Ending) → ending answer ≡ how → (k : ℕ) (sent : Option Sent) → slice_get g.packets k ≡ sent → StoppedIn (packet_delivered setup how g k sent) → Stops (Deliver k)
  delivers how is k None there at = still (Deliver k) (λ _. refl) g refl at
  delivers how is k (Some sent) there at = by_loss sent.lost at
    where
      by_loss : (c : Bool) → StoppedIn (if c then g else at_server how (delivered_in how g k sent) sent.packet.to (λ s. on_packet setup s sent.packet)) → Stops (Deliver k)
      by_loss true stands = still (Deliver k) (λ _. refl) g refl stands
      by_loss false stands = steps (Deliver k) (λ _. refl) (delivered_in how g k sent) (delivery_same how k sent) how is sent.packet.to (ap receiver there) _ _ stands

  counted_same : (how : Ending) → (counted_election how g).servers ≡ g.servers
  counted_same Whole = refl
  counted_same CutOff = refl
  counted_same Missed = refl
  counted_same Untouched = refl

  whole_not : (how : Ending) → how ≢ Whole → ending answer ≡ how → ending answer ≢ Whole
  whole_not how not is whole = not (sym is ∙ whole)

  begins : (j : ℕ) (found : Bool) (how : Ending) → ending answer ≡ how → (other : ℕ) (d b a : Durable) → StoppedIn (server_begun how g j other d b a) → Stops (Restart j found)
  begins j found Whole is other d b a at = runs_on (Restart j found) g refl j (restarted j (suc other) (renewed d)) (found_elsewhere i j found answer) at
  begins j found CutOff is other d b a at = cut_here (Restart j found) g refl j _ (found_elsewhere i j found answer) is refl at
  begins j found Missed is other d b a at = still (Restart j found) (found_undone i j found answer (whole_not Missed (λ e. cc) is)) g refl at
  begins j found Untouched is other d b a at = still (Restart j found) (found_undone i j found answer (whole_not Untouched (λ e. cc) is)) g refl at

  -- a server that was never formatted is not this one
  other_than : (j : ℕ) (c : Option Condition) → slice_get g.servers j ≡ c → (c ≡ Some (Stopped life before after) → ⊥) → StoppedIn g → i ≢ j
  other_than j c there not at e = not (sym there ∙ ap (slice_get g.servers) (sym e) ∙ at)

  restarts : (j : ℕ) (found : Bool) (how : Ending) → ending answer ≡ how → (c : Option Condition) → slice_get g.servers j ≡ c → StoppedIn (restart how g j found c) → Stops (Restart j found)
  restarts j found how is (Some (Running s)) there at = begins j found how is s.life s.durable s.durable s.durable at
  restarts j found how is (Some (Stopped other b a)) there at = begins j found how is other (cond found a b) b a at
  restarts j found how is (Some Unformatted) there at = still (Restart j found) (found_elsewhere i j found answer (other_than j (Some Unformatted) there (λ e. cc) at)) g refl at
  restarts j found how is None there at = still (Restart j found) (found_elsewhere i j found answer (other_than j None there (λ e. cc) at)) g refl at

  pub stopped_after : (event : Event) → StoppedIn (happens setup g event (ending answer)) → Stops event
  unfolding happens
  stopped_after (Submit j op) at = steps (Submit j op) (λ _. refl) g refl _ refl j refl _ _ at
  stopped_after (Fetch j range) at = steps (Fetch j range) (λ _. refl) g refl _ refl j refl _ _ at
  stopped_after (Deliver k) at = delivers _ refl k _ refl at
  stopped_after (Lose k) at = onlys (Lose k) (λ _. refl) (ending answer) _ (losses (Lose k) (λ _. refl) k (slice_get g.packets k)) at
  stopped_after (Elect j) at = steps (Elect j) (λ _. refl) (counted_election (ending answer) g) (counted_same (ending answer)) _ refl j refl _ _ at
  stopped_after (Resend j) at = steps (Resend j) (λ _. refl) g refl _ refl j refl _ _ at
  stopped_after (Stop j) at = onlys (Stop j) (λ _. refl) (ending answer) _ (stops (Stop j) (λ _. refl) j (slice_get g.servers j)) at
  stopped_after (Restart j found) at = restarts j found (ending answer) refl (slice_get g.servers j) refl at
  stopped_after Claim at = onlys Claim (λ _. refl) (ending answer) _ (claims Claim (λ _. refl) setup.window (0 ∷ 1 ∷ 2 ∷ [])) at
  stopped_after (Finish j other slot) at = steps (Finish j other slot) (λ _. refl) g refl _ refl j refl _ _ at
  stopped_after (GiveBack j other slot) at = steps (GiveBack j other slot) (λ _. refl) g refl _ refl j refl _ _ at
  stopped_after (Checkpoint j) at = steps (Checkpoint j) (λ _. refl) g refl _ refl j refl _ _ at
