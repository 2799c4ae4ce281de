-- Quiet events change nothing of what a server may hold.
use Rattle.std.proofs.Common.{◌≡◌, ◌⊎◌, inl, inr, ℕ, suc, true, ◌==◌, if◌then◌else◌, ◌↔◌, List, [], ◌∷◌, Option, Some, None, slice_get, slice_set, refl, sym, ap, subst, ◌∙◌}
use Rattle.std.specs.FinMap
use Rattle.std.proofs.lemmas.Bool.{cases_eq, false≢true}
use Rattle.std.proofs.lemmas.Option.{slice_get_within}
use Rattle.pf_entry.proofs.Cases.{by_test}
use Rattle.pf_entry.specs.Lists.{Every}
use Rattle.pf_entry.specs.Records.{Durable}
use Rattle.pf_entry.specs.declared.ops.Op.{Op}
use Rattle.pf_protocol.specs.declared.answers.Answer.TheVariants.{Refused}
use Rattle.pf_protocol.specs.declared.answers.Refusal.TheVariants.{Stale}
use Rattle.pf_protocol.specs.declared.events.Event.{Event}
use Rattle.pf_protocol.specs.declared.events.Event.TheVariants.{Submit, Fetch, Deliver, Lose, Elect, Resend, Stop, Restart, Claim, Finish, GiveBack, Checkpoint}
use Rattle.pf_protocol.specs.Servers.{Setup, Server, Condition, Running, Stopped, Unformatted}
use Rattle.pf_protocol.specs.Outcomes.{Outcome, only_answers, sends}
use Rattle.pf_protocol.specs.Saving.{applied_op, claimed, on_finish, on_give_back}
use Rattle.pf_protocol.specs.Kept.{MayHold, Now, Without, With}
use Rattle.pf_protocol.specs.Groups.{Group, Sent, Ending, Whole, CutOff, Missed, Untouched, acted, at_server, claim_at, least_claim, claim_or, cut_off, step_ended, ending, first_claim, happens, lost, only_whole, opening, server_step_of, stopped}
use Rattle.pf_protocol.specs.Histories.{History, replay, run}
use Rattle.pf_protocol.proofs.ForMoments.{run_parts}
use Rattle.pf_group_network.specs.Going.{is_quiet_event}
use Rattle.pf_group_network.proofs.StepResults.{settled_disk}
use Rattle.pf_group_network.proofs.Lists.{set_elsewhere, set_there}
use Rattle.pf_group.specs.GroupIs.{IsLastStep}

-- what the disks of a server in this condition may stand for
abbrev may : Option Condition → Durable → Type 0
may (Some (Running s)) d = d ≡ s.durable
may (Some (Stopped life before after)) d = (d ≡ before) ⊎ (d ≡ after)
may (Some Unformatted) d = ⊥
may None d = ⊥

may_of : (g : Group) (i : ℕ) (d : Durable) → MayHold g i d → may (slice_get g.servers i) d
may_of g i _ (Now s there) = subst (λ c. may c s.durable) (sym there) refl
may_of g i _ (Without life before after there) = subst (λ c. may c before) (sym there) (inl refl)
may_of g i _ (With life before after there) = subst (λ c. may c after) (sym there) (inr refl)

of_may : (g : Group) (i : ℕ) (d : Durable) → may (slice_get g.servers i) d → MayHold g i d
of_may g i d = by (slice_get g.servers i) refl
  where
    by : (c : Option Condition) → slice_get g.servers i ≡ c → may c d → MayHold g i d
    by (Some (Running s)) there is = subst (MayHold g i) (sym is) (Now s there)
    by (Some (Stopped life before after)) there is = elim is [
      | inl same ↦ subst (MayHold g i) (sym same) (Without life before after there)
      | inr same ↦ subst (MayHold g i) (sym same) (With life before after there)
    ]
    by (Some Unformatted) there is = absurd is
    by None there is = absurd is

-- no more and no less than another
record IsAs (now was : Option Condition) : Type 0 where
  less : (d : Durable) → may now d → may was d
  more : (d : Durable) → may was d → may now d

alike : (c : Option Condition) → IsAs c c
alike c = record { less = λ d is. is; more = λ d is. is }

running_as : (s next : Server) → next.durable ≡ s.durable → IsAs (Some (Running next)) (Some (Running s))
running_as s next same = record { less = λ d is. is ∙ same; more = λ d is. is ∙ sym same }

stopped_as : (s : Server) (life : ℕ) (after : Durable) → after ≡ s.durable → IsAs (Some (Stopped life s.durable after)) (Some (Running s))
stopped_as s life after same = record { less = λ d is. elim is [ inl a ↦ a | inr b ↦ b ∙ same ]; more = λ d is. inl is }

-- so is each server where one of them is
set_as : (conditions : List Condition) (i : ℕ) (c next : Condition) → slice_get conditions i ≡ Some c → IsAs (Some next) (Some c) → (j : ℕ) → IsAs (slice_get (slice_set conditions i next) j) (slice_get conditions j)
set_as conditions i c next there its j = elim (cases_eq j i) [
  | inl same ↦
      subst (λ k. IsAs (slice_get (slice_set conditions i next) k) (slice_get conditions k)) (sym same)
      (subst (λ o. IsAs o (slice_get conditions i)) (sym (set_there conditions i next (slice_get_within conditions i c there)))
      (subst (IsAs (Some next)) (sym there) its))
  | inr apart ↦ subst (λ o. IsAs o (slice_get conditions j)) (sym (set_elsewhere conditions i j next apart)) (alike (slice_get conditions j))
]

abbrev AreAs : (now was : Group) → Type 0
AreAs now was = (j : ℕ) → IsAs (slice_get now.servers j) (slice_get was.servers j)

same_as : (g : Group) → AreAs g g
same_as g j = alike (slice_get g.servers j)

only_as : (how : Ending) (g later : Group) → AreAs later g → AreAs (only_whole how g later) g
only_as Whole g later its = its
only_as CutOff g later its = same_as g
only_as Missed g later its = same_as g
only_as Untouched g later its = same_as g

-- a rule that stores nothing
module _ (g : Group) (i : ℕ) (rule : Server → Outcome) (kept : (s : Server) → (rule s).server.durable ≡ s.durable) where
  ended_as : (how : Ending) (s : Server) → slice_get g.servers i ≡ Some (Running s) → AreAs (step_ended how g i s (rule s)) g
  unfolding acted cut_off
  ended_as Whole s there = set_as g.servers i (Running s) _ there (running_as s _ (settled_disk (rule s).server ∙ kept s))
  ended_as CutOff s there = set_as g.servers i (Running s) _ there (stopped_as s (suc s.life) (rule s).server.durable (kept s))
  ended_as Missed s there = same_as g
  ended_as Untouched s there = same_as g

  step_as : (how : Ending) → AreAs (at_server how g i rule) g
  step_as how = by (slice_get g.servers i) refl
    where
      by : (c : Option Condition) → slice_get g.servers i ≡ c → AreAs (server_step_of how g i c rule) g
      by (Some (Running s)) there = ended_as how s there
      by (Some (Stopped life before after)) there = same_as g
      by (Some Unformatted) there = same_as g
      by None there = same_as g

applied_disk : (s : Server) (slot : ℕ) (o : Option Op) → (applied_op s slot o).durable ≡ s.durable
unfolding applied_op
applied_disk s slot None = refl
applied_disk s slot (Some op) = refl

finish_disk : (s : Server) (life slot : ℕ) → (on_finish s life slot).server.durable ≡ s.durable
unfolding on_finish
finish_disk s life slot = by_test (life == s.life) (λ c. (if c then sends (applied_op s slot (FinMap.get s.in_hand slot)) [] else only_answers s (Refused (Stale s.life))).server.durable ≡ s.durable) (λ _. applied_disk s slot (FinMap.get s.in_hand slot)) (λ _. refl)

give_back_disk : (s : Server) (life slot : ℕ) → (on_give_back s life slot).server.durable ≡ s.durable
unfolding on_give_back
give_back_disk s life slot = by_test (life == s.life) (λ c. (if c then sends (record s { in_hand = FinMap.remove s.in_hand slot }) [] else sends s []).server.durable ≡ s.durable) (λ _. refl) (λ _. refl)

claimed_disk : (s : Server) (slot : ℕ) → (claimed s slot).durable ≡ s.durable
unfolding claimed
claimed_disk s slot = refl

claim_as : (window : ℕ) (g : Group) (places : List ℕ) → AreAs (first_claim window g places) g
claim_as window g [] = same_as g
claim_as window g (i ∷ places) = by (least_claim window (slice_get g.servers i)) (claim_as window g places)
  where
    at_one : (slot : ℕ) (c : Option Condition) → slice_get g.servers i ≡ c → AreAs (claim_at g i c (Some slot)) g
    at_one slot (Some (Running s)) there = set_as g.servers i (Running s) (Running (claimed s slot)) there (running_as s (claimed s slot) (claimed_disk s slot))
    at_one slot (Some (Stopped life before after)) there = same_as g
    at_one slot (Some Unformatted) there = same_as g
    at_one slot None there = same_as g

    by : (o : Option ℕ) → AreAs (first_claim window g places) g → AreAs (claim_or g i o (first_claim window g places)) g
    by (Some slot) rest = at_one slot (slice_get g.servers i) refl
    by None rest = rest

lost_as : (g : Group) (k : ℕ) (o : Option Sent) → AreAs (lost g k o) g
lost_as g k (Some sent) = same_as g
lost_as g k None = same_as g

stop_as : (g : Group) (i : ℕ) → AreAs (stopped g i (slice_get g.servers i)) g
stop_as g i = by (slice_get g.servers i) refl
  where
    by : (c : Option Condition) → slice_get g.servers i ≡ c → AreAs (stopped g i c) g
    by (Some (Running s)) there = set_as g.servers i (Running s) _ there (stopped_as s (suc s.life) s.durable refl)
    by (Some (Stopped life before after)) there = same_as g
    by (Some Unformatted) there = same_as g
    by None there = same_as g

event_as : (setup : Setup) (g : Group) (event : Event) (how : Ending) → is_quiet_event event ≡ true → AreAs (happens setup g event how) g
unfolding happens
event_as setup g (Lose k) how quiet = only_as how g _ (lost_as g k (slice_get g.packets k))
event_as setup g (Stop i) how quiet = only_as how g _ (stop_as g i)
event_as setup g Claim how quiet = only_as how g _ (claim_as setup.window g (0 ∷ 1 ∷ 2 ∷ []))
event_as setup g (Finish i life slot) how quiet = step_as g i (λ s. on_finish s life slot) (λ s. finish_disk s life slot) how
event_as setup g (GiveBack i life slot) how quiet = step_as g i (λ s. on_give_back s life slot) (λ s. give_back_disk s life slot) how
event_as setup g (Submit i op) how quiet = absurd (false≢true quiet)
event_as setup g (Fetch i range) how quiet = absurd (false≢true quiet)
event_as setup g (Deliver k) how quiet = absurd (false≢true quiet)
event_as setup g (Elect i) how quiet = absurd (false≢true quiet)
event_as setup g (Resend i) how quiet = absurd (false≢true quiet)
event_as setup g (Restart i found) how quiet = absurd (false≢true quiet)
event_as setup g (Checkpoint i) how quiet = absurd (false≢true quiet)

run_as : (setup : Setup) (g : Group) (since : History) → Every (λ h. is_quiet_event h.event ≡ true) since → AreAs (run setup g since) g
run_as setup g [] quiet j = alike (slice_get g.servers j)
run_as setup g (h ∷ hs) quiet j =
    let first = event_as setup g h.event (ending h.answer) quiet.0 j in
    let rest = run_as setup (happens setup g h.event (ending h.answer)) hs quiet.1 j in
    record { less = λ d is. first.less d (rest.less d is); more = λ d is. rest.more d (first.more d is) }

-- what a server may hold now it could hold right after the last step that may have touched disks, and the other way round
pub held_since : (setup : Setup) (earlier after history : History) → IsLastStep earlier after history → (i : ℕ) (d : Durable) → MayHold (replay setup history) i d ↔ MayHold (replay setup after) i d
held_since setup earlier after history last i d =
    let was = replay setup after in
    let now = run setup was last.since in
    let is : replay setup history ≡ now = ap (replay setup) last.whole ∙ run_parts setup (opening setup) after last.since in
    let its = run_as setup was last.since last.quiet i in
    (λ held. of_may was i d (its.less d (may_of now i d (subst (λ g. MayHold g i d) is held))), λ held. subst (λ g. MayHold g i d) (sym is) (of_may now i d (its.more d (may_of was i d held))))
