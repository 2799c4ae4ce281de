-- What an answer says of the group: a job is in nobody's hand, and a read has the next number.
use Rattle.std.proofs.Common.{◌≡◌, ◌⊎◌, inl, inr, ℕ, Bool, true, false, ◌&&◌, ◌==◌, List, [], ◌∷◌, Option, Some, None, IfNone, IfSome, is_some, slice_get, refl, sym, ap, subst, ◌∙◌, ⊎_elim}
use Rattle.std.specs.FinMap
use Rattle.std.specs.List.{range_with_len}
use Rattle.std.proofs.lemmas.Bool.{and_parts, eqb-true, not-true, false≢true, true≢false}
use Rattle.pf_entry.specs.Lists.{Every}
use Rattle.pf_entry.proofs.Lists.{every_more, found_passes}
use Rattle.pf_entry.specs.declared.entries.Entry.{Entry}
use Rattle.pf_entry.specs.declared.ops.Job.{Job}
use Rattle.pf_protocol.specs.Servers.{Setup, Server, Condition, Running, Stopped, Unformatted}
use Rattle.pf_protocol.specs.Saving.{claimable, is_claimable}
use Rattle.pf_protocol.specs.Groups.{Group, least_claim}
use Rattle.pf_protocol.specs.declared.answers.Answer.{Answer}
use Rattle.pf_protocol.specs.declared.answers.Answer.TheVariants.{Done, Slot as SlotIs, Term as TermIs, Read as ReadIs, Base as BaseIs, Job as JobIs, Refused}
use Rattle.pf_protocol.specs.declared.answers.Refusal.TheVariants.{Halted, NoneFree, NotOurs}
use Rattle.pf_server_store.specs.Stores.{StoreModel}
use Rattle.pf_group_network.specs.declared.network.Network.{Network}
use Rattle.pf_group_network.specs.Going.{ShowsSomehow}
use Rattle.pf_group_network.specs.Readings.{taken_after}
use Rattle.pf_protocol.specs.declared.events.Event.TheVariants.{Submit, Fetch, Deliver, Lose, Elect, Resend, Stop, Restart, Claim, Finish, GiveBack, Checkpoint}
use Rattle.pf_protocol.specs.declared.events.Event.{Event}
use Rattle.pf_group.specs.Steps.{EndsSo, AnswerIsNew, claim_answer_of}
use Rattle.pf_group.proofs.Plain.{IsNoClaim, next_read, plain_answer}
use Rattle.pf_protocol.specs.Answers.{Claimed, IsAnswer, ClaimIsOpen, answer_to, claim_answer, claim_answer_at, is_claim, may_halt, restart_answer}

abbrev IsClaimOr : Event → Type 0
IsClaimOr event = (event ≡ Claim) ⊎ IsNoClaim event

claims_or : (event : Event) → IsClaimOr event
claims_or (Submit i op) = inr tt
claims_or (Fetch i range) = inr tt
claims_or (Deliver k) = inr tt
claims_or (Lose k) = inr tt
claims_or (Elect i) = inr tt
claims_or (Resend i) = inr tt
claims_or (Stop i) = inr tt
claims_or (Restart i found) = inr tt
claims_or Claim = inl refl
claims_or (Finish i life slot) = inr tt
claims_or (GiveBack i life slot) = inr tt
claims_or (Checkpoint i) = inr tt

-- a slot that can be claimed has no job in hand
not_in_hand : (window : ℕ) (s : Server) (slot : ℕ) → claimable window s ≡ Some slot → FinMap.contains_key s.in_hand slot ≡ false
unfolding claimable
not_in_hand window s slot is = by_entry (FinMap.get s.durable.log slot) (found_passes (λ k. is_claimable s (FinMap.get s.durable.log k) k) (range_with_len _ window) slot is)
  where
    by_entry : (o : Option Entry) → is_claimable s o slot ≡ true → FinMap.contains_key s.in_hand slot ≡ false
    by_entry None passes = absurd (false≢true passes)
    by_entry (Some e) passes = not-true _ (and_parts _ _ (and_parts _ _ passes).0).1

-- the job is one that its server can claim
record IsClaimable (window : ℕ) (g : Group) (job : Job) : Type 0 where
  s : Server
  runs : slice_get g.servers job.server ≡ Some (Running s)
  life : job.life ≡ s.life
  least : claimable window s ≡ Some job.slot

claim_here : (window : ℕ) (g : Group) (i : ℕ) (c : Option Condition) (rest : Answer) (job : Job) → slice_get g.servers i ≡ c → (rest ≡ JobIs job → IsClaimable window g job) → claim_answer_at i c (least_claim window c) rest ≡ JobIs job → IsClaimable window g job
claim_here window g i (Some (Running s)) rest job at more is = by (claimable window s) refl is
  where
    by : (o : Option ℕ) → claimable window s ≡ o → claim_answer_at i (Some (Running s)) o rest ≡ JobIs job → IsClaimable window g job
    by None e is_rest = more is_rest
    by (Some slot) e is_this = let server : i ≡ job.server = cc in let life : s.life ≡ job.life = cc in let slot_is : slot ≡ job.slot = cc in
        record { s = s; runs = ap (slice_get g.servers) (sym server) ∙ at; life = sym life; least = e ∙ ap Some slot_is }
claim_here window g i (Some (Stopped life before after)) rest job at more is = more is
claim_here window g i (Some Unformatted) rest job at more is = more is
claim_here window g i None rest job at more is = more is

no_job : (job : Job) → Refused NoneFree ≡ JobIs job → ⊥
no_job job e = cc

claim_in : (window : ℕ) (g : Group) (is : List ℕ) (job : Job) → claim_answer window g is ≡ JobIs job → IsClaimable window g job
claim_in window g [] job e = absurd (no_job job e)
claim_in window g (i ∷ is) job e = claim_here window g i (slice_get g.servers i) (claim_answer window g is) job refl (claim_in window g is job) e

claims_now : (setup : Setup) (g : Group) (job : Job) → IsAnswer setup g Claim (JobIs job) → IsClaimable setup.window g job
unfolding answer_to may_halt
claims_now setup g job is = ⊎_elim (λ (e : JobIs job ≡ answer_to setup g Claim). claim_in setup.window g (0 ∷ 1 ∷ 2 ∷ []) job (sym e)) (λ h. absurd (false≢true h.0)) is

-- no open claim is one of this job
other_claim : (window : ℕ) (g : Group) (job : Job) → IsClaimable window g job → (c : Claimed) → ClaimIsOpen g.servers c → is_claim job.server job.life job.slot c ≡ false
other_claim window g job claims c is_open = by (is_claim job.server job.life job.slot c) refl
  where
    by : (b : Bool) → is_claim job.server job.life job.slot c ≡ b → b ≡ false
    by false e = refl
    by true e =
        let outer = and_parts (c.server == job.server && c.life == job.life) (c.slot == job.slot) e in
        let inner = and_parts (c.server == job.server) (c.life == job.life) outer.0 in
        let server = eqb-true c.server job.server inner.0 in
        let life = eqb-true c.life job.life inner.1 in
        let slot = eqb-true c.slot job.slot outer.1 in
        let held : FinMap.get claims.s.in_hand c.slot ≡ Some c.op = (is_open.running claims.s (ap (slice_get g.servers) server ∙ claims.runs)).1 (life ∙ claims.life) in
        absurd (true≢false (sym (ap is_some (ap (FinMap.get claims.s.in_hand) (sym slot) ∙ held)) ∙ not_in_hand window claims.s job.slot claims.least))

claimed_is_free : (setup : Setup) (g : Group) (claims : List Claimed) (job : Job) → Every (ClaimIsOpen g.servers) claims → IsAnswer setup g Claim (JobIs job) → Every (λ c. is_claim job.server job.life job.slot c ≡ false) claims
claimed_is_free setup g claims job opened is = every_more (ClaimIsOpen g.servers) (λ c. is_claim job.server job.life job.slot c ≡ false) (other_claim setup.window g job (claims_now setup g job is)) claims opened

-- a claim that is answered with no job found none
slot_or_next : (i : ℕ) (s : Server) (o : Option ℕ) (rest a : Answer) → (rest ≡ a → a ≡ Refused NoneFree) → ((job : Job) → a ≡ JobIs job → ⊥) → claim_answer_at i (Some (Running s)) o rest ≡ a → a ≡ Refused NoneFree
slot_or_next i s None rest a next no_jobs e = next e
slot_or_next i s (Some slot) rest a next no_jobs e = absurd (no_jobs _ (sym e))

here_or_next : (window i : ℕ) (c : Option Condition) (rest a : Answer) → (rest ≡ a → a ≡ Refused NoneFree) → ((job : Job) → a ≡ JobIs job → ⊥) → claim_answer_at i c (least_claim window c) rest ≡ a → a ≡ Refused NoneFree
here_or_next window i (Some (Running s)) rest a next no_jobs e = slot_or_next i s (claimable window s) rest a next no_jobs e
here_or_next window i (Some (Stopped life before after)) rest a next no_jobs e = next e
here_or_next window i (Some Unformatted) rest a next no_jobs e = next e
here_or_next window i None rest a next no_jobs e = next e

claim_or_none : (window : ℕ) (g : Group) (is : List ℕ) (a : Answer) → claim_answer window g is ≡ a → ((job : Job) → a ≡ JobIs job → ⊥) → a ≡ Refused NoneFree
claim_or_none window g [] a e no_jobs = sym e
claim_or_none window g (i ∷ is) a e no_jobs = here_or_next window i (slice_get g.servers i) (claim_answer window g is) a (λ f. claim_or_none window g is a f no_jobs) no_jobs e

pub none_is_free : (setup : Setup) (g : Group) (a : Answer) → IsAnswer setup g Claim a → ((job : Job) → a ≡ JobIs job → ⊥) → a ≡ Refused NoneFree
unfolding answer_to may_halt
none_is_free setup g a is no_jobs = ⊎_elim (λ (e : a ≡ answer_to setup g Claim). claim_or_none setup.window g (0 ∷ 1 ∷ 2 ∷ []) a (sym e) no_jobs) (λ h. absurd (false≢true h.0)) is

-- what a claim was answered, by its job
pub claim_answered : (setup : Setup) (g : Group) (a : Answer) → IsAnswer setup g Claim a → (job : Option Job) → IfSome job (λ j. a ≡ JobIs j) → IfNone job ((j : Job) → a ≡ JobIs j → ⊥) → a ≡ claim_answer_of job
claim_answered setup g a is (Some job) some none = some
claim_answered setup g a is None some none = none_is_free setup g a is none

no_read : (number : ℕ) → Refused NoneFree ≡ ReadIs number → ⊥
no_read number e = cc

read_no_job : (number : ℕ) (job : Job) → ReadIs number ≡ JobIs job → ⊥
read_no_job number job e = cc

-- whatever the answer is
pub fresh_answer : (setup : Setup) (g : Group) (claims : List Claimed) (event : Event) (answer : Answer) → Every (ClaimIsOpen g.servers) claims → IsAnswer setup g event answer → AnswerIsNew claims g.reads answer
fresh_answer setup g claims event (JobIs job) opened is = by (claims_or event) is
  where
    by : IsClaimOr event → IsAnswer setup g event (JobIs job) → Every (λ c. is_claim job.server job.life job.slot c ≡ false) claims
    by (inl is_claim_event) is = claimed_is_free setup g claims job opened (subst (λ e. IsAnswer setup g e (JobIs job)) is_claim_event is)
    by (inr other) is = absurd (plain_answer setup g event (JobIs job) other is)
fresh_answer setup g claims event (ReadIs number) opened is = by (claims_or event) is
  where
    by : IsClaimOr event → IsAnswer setup g event (ReadIs number) → number ≡ g.reads
    by (inl is_claim_event) is = absurd (no_read number (sym (none_is_free setup g (ReadIs number) (subst (λ e. IsAnswer setup g e (ReadIs number)) is_claim_event is) (read_no_job number))))
    by (inr other) is = next_read setup g event number other is
fresh_answer setup g claims event Done opened is = tt
fresh_answer setup g claims event (SlotIs slot) opened is = tt
fresh_answer setup g claims event (TermIs term) opened is = tt
fresh_answer setup g claims event (BaseIs base) opened is = tt
fresh_answer setup g claims event (Refused refusal) opened is = tt

-- how a restart ends
back_ends : (c : Option Condition) → (restart_answer c ≡ Done) ⊎ ((restart_answer c ≡ Refused Halted) ⊎ (restart_answer c ≡ Refused NotOurs))
back_ends (Some (Running s)) = inl refl
back_ends (Some (Stopped life before after)) = inl refl
back_ends (Some Unformatted) = inr (inr refl)
back_ends None = inr (inr refl)

restart_ends : (setup : Setup) (g : Group) (i : ℕ) (found : Bool) (answer : Answer) → IsAnswer setup g (Restart i found) answer → EndsSo (Restart i found) answer
unfolding answer_to
restart_ends setup g i found answer is = elim is [
  | inl right ↦ subst (λ a. (a ≡ Done) ⊎ ((a ≡ Refused Halted) ⊎ (a ≡ Refused NotOurs))) (sym right) (back_ends (slice_get g.servers i))
  | inr cut ↦ inr (inl cut.1)
]

pub ends_by_rules : (setup : Setup) (g : Group) (event : Event) (answer : Answer) → IsAnswer setup g event answer → EndsSo event answer
ends_by_rules setup g (Restart i found) answer is = restart_ends setup g i found answer is
ends_by_rules setup g (Submit i op) answer is = tt
ends_by_rules setup g (Fetch i range) answer is = tt
ends_by_rules setup g (Deliver k) answer is = tt
ends_by_rules setup g (Lose k) answer is = tt
ends_by_rules setup g (Elect i) answer is = tt
ends_by_rules setup g (Resend i) answer is = tt
ends_by_rules setup g (Stop i) answer is = tt
ends_by_rules setup g Claim answer is = tt
ends_by_rules setup g (Finish i life slot) answer is = tt
ends_by_rules setup g (GiveBack i life slot) answer is = tt
ends_by_rules setup g (Checkpoint i) answer is = tt

-- a restart is answered by no job, and by no number of a read
not_read : (number : ℕ) → ReadIs number ≡ Refused NotOurs → ⊥
not_read number e = cc

not_job : (job : Job) → JobIs job ≡ Refused NotOurs → ⊥
not_job job e = cc

module _ {S : Type 0} (model : StoreModel S) (setup : Setup) (g : Group) (i : ℕ) (new : Network S) where
  abbrev ShowsSo : Answer → Type 0
  ShowsSo answer = ShowsSomehow model setup g i new answer

  pub fresh_somehow : (claims : List Claimed) (reads : ℕ) (answer : Answer) → ShowsSo answer → AnswerIsNew claims reads answer
  fresh_somehow claims reads (JobIs job) is = absurd (not_job job is.0)
  fresh_somehow claims reads (ReadIs number) is = absurd (not_read number is.0)
  fresh_somehow claims reads Done is = tt
  fresh_somehow claims reads (SlotIs slot) is = tt
  fresh_somehow claims reads (TermIs term) is = tt
  fresh_somehow claims reads (BaseIs base) is = tt
  fresh_somehow claims reads (Refused refusal) is = tt

  pub taken_somehow : (taken : List Bool) (answer : Answer) → ShowsSo answer → taken_after taken answer ≡ taken
  taken_somehow taken (ReadIs number) is = absurd (not_read number is.0)
  taken_somehow taken (JobIs job) is = refl
  taken_somehow taken Done is = refl
  taken_somehow taken (SlotIs slot) is = refl
  taken_somehow taken (TermIs term) is = refl
  taken_somehow taken (BaseIs base) is = refl
  taken_somehow taken (Refused refusal) is = refl

  pub ends_somehow : (answer : Answer) → ShowsSo answer → (answer ≡ Done) ⊎ ((answer ≡ Refused Halted) ⊎ (answer ≡ Refused NotOurs))
  ends_somehow Done is = inl refl
  ends_somehow (Refused Halted) is = inr (inl refl)
  ends_somehow _ is = inr (inr is.0)
