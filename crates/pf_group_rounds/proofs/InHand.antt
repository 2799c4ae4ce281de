-- What is in hand has an open claim.
use Rattle.std.proofs.Common.{◌≡◌, ℕ, zero, suc, ◌+◌, ◌≢◌, ◌⊎◌, inl, inr, Bool, true, false, cond, not, ◌&&◌, ◌||◌, ◌==◌, if◌then◌else◌, List, [], ◌∷◌, Option, Some, None, nat_lt, nat_le, slice_get, slice_set, arith, refl, sym, ap, subst, ◌∙◌}
use Rattle.std.specs.List.{filter, list_any}
use Rattle.std.specs.FinMap
use Rattle.std.specs.FinMap.{get-empty}
use Rattle.std.specs.Ordering.{nat_cmp}
use Rattle.std.proofs.lemmas.Bool.{and_parts, and_from, or_cases, or_left, or_right, eqb-true, eqb-false, eq-eqb, cond-true, false≢true}
use Rattle.std.proofs.lemmas.Option.{same_Some, none-some}
use Rattle.pf_base.specs.Span.{Span}
use Rattle.pf_entry.specs.declared.ops.Op.{Op}
use Rattle.pf_entry.specs.declared.entries.Entry.{Entry}
use Rattle.pf_entry.specs.declared.entries.VoteLog.{VoteLog}
use Rattle.pf_entry.specs.declared.packets.Body.{Body}
use Rattle.pf_entry.specs.declared.packets.Body.TheVariants.{RequestVote, Vote, Accept, Ack, Nack, Commit, Probe, ProbeOk, Image}
use Rattle.pf_entry.specs.Records.{Durable, holds}
use Rattle.pf_entry.proofs.Lists.{set_cases}
use Rattle.pf_entry.proofs.Maps.{insert_cases, remove_cases}
use Rattle.pf_protocol.specs.declared.answers.Answer.{Answer}
use Rattle.pf_protocol.specs.declared.answers.Answer.TheVariants.{Done, Refused}
use Rattle.pf_protocol.specs.declared.answers.Refusal.TheVariants.{Stale}
use Rattle.pf_protocol.specs.declared.events.Event.{Event}
use Rattle.pf_protocol.specs.declared.events.Event.TheVariants.{Submit, Fetch, Deliver, Lose, Elect, Resend, Stop, Restart, Claim, Finish, GiveBack, Checkpoint}
use Rattle.pf_protocol.specs.Servers.{Setup, Role, Follower, Candidate, Merging, Serving, Server, Condition, Running, Stopped, Unformatted, upto}
use Rattle.pf_protocol.specs.Outcomes.{Outcome, sends, only_answers, raise_term}
use Rattle.pf_protocol.specs.Leading.{submitted, on_submit, on_fetch, on_elect, on_resend, merged, on_vote, commit_own, commit, on_ack, on_probe_ok, op_at}
use Rattle.pf_protocol.specs.Following.{meets_term, on_request_vote, accepted, on_accept, on_nack, on_commit, on_probe, installed, on_image}
use Rattle.pf_protocol.specs.Rows.{on_message, on_packet, settled}
use Rattle.pf_protocol.specs.Saving.{renewed, restarted, is_short_of, trimmed, on_checkpoint, claimed, applied_op, on_finish, on_give_back}
use Rattle.pf_protocol.specs.Groups.{Sent, Group, Ending, Whole, CutOff, Missed, Untouched, acted, cut_off, server_step_of, at_server, delivered_in, packet_delivered, lost, stopped, server_begun, restart, least_claim, claim_at, claim_or, first_claim, only_whole, counted_election, ending, happens, opening, first_leader, opening_disk}
use Rattle.pf_protocol.specs.Histories.{History, RunsAs, run, replay}
use Rattle.pf_protocol.specs.Answers.{Claimed, is_claim, claims_with, claims_without, claims_after, claims_of, claim_answer, claim_answer_at, finish_answer, answer_to, may_halt, IsAnswer, IsLegalFrom, IsLegal}
use Rattle.pf_entry.proofs.Cases.{by_test}
use Rattle.pf_group_rounds.proofs.Bound.{answer_is}

-- a step keeps the life and the jobs in hand, or leaves none in hand
abbrev Keeps : Server → Server → Type 0
Keeps s z = ((z.life ≡ s.life) × (z.in_hand ≡ s.in_hand)) ⊎ (z.in_hand ≡ FinMap.empty)

either_keeps : (s : Server) (c : Bool) (x y : Outcome) → Keeps s x.server → Keeps s y.server → Keeps s (if c then x else y).server
either_keeps s true x y f g = f
either_keeps s false x y f g = g

module _ (s : Server) where
  kept : Keeps s s
  kept = inl (refl, refl)

  met : (term : ℕ) → Keeps s (meets_term s term)
  met term = by_test (nat_lt s.durable.term term) (λ c. Keeps s (if c then raise_term s term else s)) (λ _. inl (refl, refl)) (λ _. kept)

  submit_keeps : (setup : Setup) (op : Op) (role : Role) → Keeps s (on_submit setup s op role).server
  unfolding on_submit submitted
  submit_keeps setup op Follower = kept
  submit_keeps setup op (Candidate own) = kept
  submit_keeps setup op (Merging l) = kept
  submit_keeps setup op (Serving l) = either_keeps s (nat_lt (s.durable.base + setup.window) l.next) _ _ kept (inl (refl, refl))

  fetch_keeps : (range : Span) (number : ℕ) (role : Role) → Keeps s (on_fetch s range number role).server
  unfolding on_fetch
  fetch_keeps range number Follower = kept
  fetch_keeps range number (Candidate own) = kept
  fetch_keeps range number (Merging l) = kept
  fetch_keeps range number (Serving l) = inl (refl, refl)

  elect_keeps : Keeps s (on_elect s).server
  unfolding on_elect
  elect_keeps = inl (refl, refl)

  resend_keeps : (role : Role) → Keeps s (on_resend s role).server
  unfolding on_resend
  resend_keeps Follower = kept
  resend_keeps (Candidate own) = kept
  resend_keeps (Merging l) = kept
  resend_keeps (Serving l) = kept

  checkpoint_keeps : Keeps s (on_checkpoint s).server
  unfolding on_checkpoint trimmed
  checkpoint_keeps = either_keeps s (upto s == s.durable.base || is_short_of s.role (upto s)) _ _ kept (inl (refl, refl))

  vote_keeps : (term : ℕ) (vote : VoteLog) (role : Role) → Keeps s (on_vote s term vote role).server
  unfolding on_vote merged
  vote_keeps term vote Follower = kept
  vote_keeps term vote (Candidate own) = either_keeps s (term == s.durable.term && nat_le vote.base s.durable.base) _ _ (inl (refl, refl)) kept
  vote_keeps term vote (Merging l) = kept
  vote_keeps term vote (Serving l) = kept

  ack_keeps : (from term slot upto_there : ℕ) (role : Role) → Keeps s (on_ack s from term slot upto_there role).server
  unfolding on_ack commit_own
  ack_keeps from term slot upto_there Follower = kept
  ack_keeps from term slot upto_there (Candidate own) = kept
  ack_keeps from term slot upto_there (Merging l) = either_keeps s (term == s.durable.term) _ _ (inl (refl, refl)) kept
  ack_keeps from term slot upto_there (Serving l) = either_keeps s (term == s.durable.term) _ _ (inl (refl, refl)) kept

  probe_ok_keeps : (from term number upto_there : ℕ) (role : Role) → Keeps s (on_probe_ok s from term number upto_there role).server
  unfolding on_probe_ok
  probe_ok_keeps from term number upto_there Follower = kept
  probe_ok_keeps from term number upto_there (Candidate own) = kept
  probe_ok_keeps from term number upto_there (Merging l) = kept
  probe_ok_keeps from term number upto_there (Serving l) = either_keeps s (term == s.durable.term) _ _ (inl (refl, refl)) kept

  accept_keeps : (setup : Setup) (from : ℕ) (e : Entry) → Keeps s (on_accept setup s from e).server
  unfolding on_accept accepted
  accept_keeps setup from e =
      either_keeps s (nat_lt e.term s.durable.term) _ _ kept
      (either_keeps s (nat_le e.slot s.durable.base) _ _ (met e.term)
      (either_keeps s (nat_lt (s.durable.base + setup.window) e.slot) _ _ kept
      (either_keeps s (holds s.durable e.slot e.term) _ _ kept (inl (refl, refl)))))

  message_keeps : (setup : Setup) (from term : ℕ) (body : Body) → Keeps s (on_message setup s from term body).server
  unfolding on_message on_request_vote on_nack on_commit commit on_probe on_image installed
  message_keeps setup from term (RequestVote base) = either_keeps s (nat_le term s.durable.term || nat_lt base s.durable.base) _ _ kept (inl (refl, refl))
  message_keeps setup from term (Vote vote) = vote_keeps term vote s.role
  message_keeps setup from term (Accept e) = accept_keeps setup from e
  message_keeps setup from term (Ack slot upto_there) = ack_keeps from term slot upto_there s.role
  message_keeps setup from term Nack = met term
  message_keeps setup from term (Commit slot) = either_keeps s (holds s.durable slot term) _ _ (inl (refl, refl)) kept
  message_keeps setup from term (Probe number) = either_keeps s (nat_lt term s.durable.term) _ _ kept kept
  message_keeps setup from term (ProbeOk number upto_there) = probe_ok_keeps from term number upto_there s.role
  message_keeps setup from term (Image base applied sectors) =
      either_keeps s (nat_lt term s.durable.term) _ _ kept (either_keeps s (nat_le base (upto s)) _ _ (met term) (inr refl))

abbrev has_claim : List Claimed → (i life slot : ℕ) → Bool
has_claim claims i life slot = list_any (is_claim i life slot) claims

-- each job in hand at a server has a claim
abbrev IsHanded : List Claimed → ℕ → Condition → Type 0
IsHanded claims i (Running s) = (slot : ℕ) (op : Op) → FinMap.get s.in_hand slot ≡ Some op → has_claim claims i s.life slot ≡ true
IsHanded claims i _ = Unit {0}

abbrev AllHanded : List Claimed → List Condition → Type 0
AllHanded claims servers = (i : ℕ) (c : Condition) → slice_get servers i ≡ Some c → IsHanded claims i c

empty_handed : (claims : List Claimed) (i : ℕ) (s : Server) → s.in_hand ≡ FinMap.empty → IsHanded claims i (Running s)
empty_handed claims i s is slot op at = absurd (none-some op (sym (ap (λ m. FinMap.get m slot) is ∙ get-empty nat_cmp slot) ∙ at))

keeps_handed : (claims : List Claimed) (i : ℕ) (s z : Server) → Keeps s z → IsHanded claims i (Running s) → IsHanded claims i (Running z)
keeps_handed claims i s z (inl same) was = λ slot op at. ap (λ life. has_claim claims i life slot) same.0 ∙ was slot op (ap (λ m. FinMap.get m slot) (sym same.1) ∙ at)
keeps_handed claims i s z (inr none) was = empty_handed claims i z none

-- a server changed, and the others did not
set_handed : (claims : List Claimed) (servers : List Condition) (i : ℕ) (c : Condition) → ((j : ℕ) (d : Condition) → j ≢ i → slice_get servers j ≡ Some d → IsHanded claims j d) → IsHanded claims i c → AllHanded claims (slice_set servers i c)
set_handed claims servers i c others here j d at =
    elim (set_cases servers i c j d at) [
      | inl new ↦ subst (λ x. IsHanded claims j x) new.1 (subst (λ k. IsHanded claims k c) (sym new.0) here)
      | inr old ↦ others j d old.0 old.1
    ]

module _ (claims : List Claimed) (g : Group) (all : AllHanded claims g.servers) where
  changed_at : (i : ℕ) (c : Condition) → IsHanded claims i c → AllHanded claims (slice_set g.servers i c)
  changed_at i c here = set_handed claims g.servers i c (λ j d apart at. all j d at) here

  step_handed : (how : Ending) (i : ℕ) (c : Option Condition) (rule : Server → Outcome) → slice_get g.servers i ≡ c → ((s : Server) → Keeps s (rule s).server) → AllHanded claims (server_step_of how g i c rule).servers
  unfolding acted settled cut_off
  step_handed Whole i (Some (Running s)) rule at keeps = changed_at i (Running (settled (rule s).server)) (keeps_handed claims i s (settled (rule s).server) (keeps s) (all i (Running s) at))
  step_handed CutOff i (Some (Running s)) rule at keeps = changed_at i (Stopped (suc s.life) s.durable (rule s).server.durable) tt
  step_handed Missed i (Some (Running s)) rule at keeps = all
  step_handed Untouched i (Some (Running s)) rule at keeps = all
  step_handed how i (Some (Stopped life before after)) rule at keeps = all
  step_handed how i (Some Unformatted) rule at keeps = all
  step_handed how i None rule at keeps = all

  server_handed : (how : Ending) (i : ℕ) (rule : Server → Outcome) → ((s : Server) → Keeps s (rule s).server) → AllHanded claims (at_server how g i rule).servers
  server_handed how i rule keeps = step_handed how i (slice_get g.servers i) rule refl keeps

  begun_handed : (how : Ending) (i life : ℕ) (d before after : Durable) → AllHanded claims (server_begun how g i life d before after).servers
  unfolding restarted
  begun_handed Whole i life d before after = changed_at i (Running (restarted i (suc life) (renewed d))) (empty_handed claims i (restarted i (suc life) (renewed d)) refl)
  begun_handed CutOff i life d before after = changed_at i (Stopped (suc life) before after) tt
  begun_handed Missed i life d before after = all
  begun_handed Untouched i life d before after = all

  restart_handed : (how : Ending) (i : ℕ) (found : Bool) (c : Option Condition) → AllHanded claims (restart how g i found c).servers
  restart_handed how i found (Some (Running s)) = begun_handed how i s.life s.durable s.durable s.durable
  restart_handed how i found (Some (Stopped life before after)) = begun_handed how i life (cond found after before) before after
  restart_handed how i found (Some Unformatted) = all
  restart_handed how i found None = all

  stop_handed : (i : ℕ) (c : Option Condition) → AllHanded claims (stopped g i c).servers
  stop_handed i (Some (Running s)) = changed_at i (Stopped (suc s.life) s.durable s.durable) tt
  stop_handed i (Some (Stopped life before after)) = all
  stop_handed i (Some Unformatted) = all
  stop_handed i None = all

  lost_handed : (k : ℕ) (o : Option Sent) → AllHanded claims (lost g k o).servers
  lost_handed k None = all
  lost_handed k (Some p) = all

  only_handed : (how : Ending) (later : Group) → AllHanded claims later.servers → AllHanded claims (only_whole how g later).servers
  only_handed Whole later is = is
  only_handed CutOff later is = all
  only_handed Missed later is = all
  only_handed Untouched later is = all

  counted_handed : (how : Ending) → AllHanded claims (counted_election how g).servers
  counted_handed Whole = all
  counted_handed CutOff = all
  counted_handed Missed = all
  counted_handed Untouched = all

  delivery_handed : (how : Ending) (k : ℕ) (p : Sent) → AllHanded claims (delivered_in how g k p).servers
  delivery_handed Whole k p = all
  delivery_handed CutOff k p = all
  delivery_handed Missed k p = all
  delivery_handed Untouched k p = all

  -- a claim
  job_of : (i slot : ℕ) (s : Server) → Claimed
  job_of i slot s = record { server = i; life = s.life; slot = slot; op = op_at s.durable.log slot }

  more_handed : (x : Claimed) (j : ℕ) (d : Condition) → IsHanded claims j d → IsHanded (x ∷ claims) j d
  more_handed x j (Running s) is = λ slot op at. or_right _ _ (is slot op at)
  more_handed x j (Stopped life before after) is = tt
  more_handed x j Unformatted is = tt

  claim_handed : (i slot : ℕ) (s : Server) → slice_get g.servers i ≡ Some (Running s) → AllHanded (job_of i slot s ∷ claims) (slice_set g.servers i (Running (claimed s slot)))
  unfolding claimed job_of
  claim_handed i slot s at = set_handed (job_of i slot s ∷ claims) g.servers i (Running (claimed s slot)) (λ j d apart there. more_handed (job_of i slot s) j d (all j d there))
      (λ k op has. elim (insert_cases s.in_hand slot (op_at s.durable.log slot) k op has) [
        | inl new ↦ or_left _ _ (and_from _ _ (and_from _ _ (eq-eqb i i refl) (eq-eqb s.life s.life refl)) (eq-eqb slot k (sym new.0)))
        | inr old ↦ more_handed (job_of i slot s) i (Running s) (all i (Running s) at) k op old.1
      ])

  claim_step : (window i : ℕ) (rest : Answer) (later : Group) (c : Option Condition) (slot : Option ℕ) → slice_get g.servers i ≡ c → least_claim window c ≡ slot → AllHanded (claims_with rest claims) (only_whole (ending rest) g later).servers → AllHanded (claims_with (claim_answer_at i c slot rest) claims) (only_whole (ending (claim_answer_at i c slot rest)) g (claim_or g i slot later)).servers
  unfolding job_of
  claim_step window i rest later (Some (Running s)) (Some slot) at is before = subst (λ c. AllHanded (job_of i slot s ∷ claims) (claim_at g i c (Some slot)).servers) (sym at) (claim_handed i slot s at)
  claim_step window i rest later (Some (Running s)) None at is before = before
  claim_step window i rest later (Some (Stopped life b a)) (Some slot) at is before = absurd (none-some slot is)
  claim_step window i rest later (Some (Stopped life b a)) None at is before = before
  claim_step window i rest later (Some Unformatted) (Some slot) at is before = absurd (none-some slot is)
  claim_step window i rest later (Some Unformatted) None at is before = before
  claim_step window i rest later None (Some slot) at is before = absurd (none-some slot is)
  claim_step window i rest later None None at is before = before

  claims_handed : (window : ℕ) (is : List ℕ) → AllHanded (claims_with (claim_answer window g is) claims) (only_whole (ending (claim_answer window g is)) g (first_claim window g is)).servers
  claims_handed window [] = all
  claims_handed window (i ∷ is) = claim_step window i (claim_answer window g is) (first_claim window g is) (slice_get g.servers i) (least_claim window (slice_get g.servers i)) refl refl (claims_handed window is)

-- what passes both tests is found among what passes the second
any_filter : {X : Type 0} → (f q : X → Bool) → ((x : X) → f x ≡ true → q x ≡ true) → (xs : List X) → list_any f xs ≡ true → list_any f (filter q xs) ≡ true
any_filter f q both [] is = is
any_filter f q both (x ∷ xs) is =
    elim (or_cases (f x) (list_any f xs) is) [
      | inl here ↦ ap (list_any f) (cond-true (q x) (x ∷ filter q xs) (filter q xs) (both x here)) ∙ or_left _ _ here
      | inr there ↦ by_test (q x) (λ c. list_any f (cond c (x ∷ filter q xs) (filter q xs)) ≡ true) (λ _. or_right _ _ (any_filter f q both xs there)) (λ _. any_filter f q both xs there)
    ]

-- the claims that a job's return leaves
left_claim : (claims : List Claimed) (i life slot j l k : ℕ) → (j ≡ i → l ≡ life → k ≡ slot → ⊥) → has_claim claims j l k ≡ true → has_claim (claims_without i life slot claims) j l k ≡ true
left_claim claims i life slot j l k apart is = any_filter (is_claim j l k) (λ c. not (is_claim i life slot c)) other claims is
  where
    other : (c : Claimed) → is_claim j l k c ≡ true → not (is_claim i life slot c) ≡ true
    other c one = by_test (is_claim i life slot c) (λ b. is_claim i life slot c ≡ b → not b ≡ true)
        (λ _ two.
        let a = and_parts (c.server == j && c.life == l) (c.slot == k) one in
        let b = and_parts (c.server == j) (c.life == l) a.0 in
        let x = and_parts (c.server == i && c.life == life) (c.slot == slot) two in
        let y = and_parts (c.server == i) (c.life == life) x.0 in
        absurd (apart (sym (eqb-true c.server j b.0) ∙ eqb-true c.server i y.0) (sym (eqb-true c.life l b.1) ∙ eqb-true c.life life y.1) (sym (eqb-true c.slot k a.1) ∙ eqb-true c.slot slot x.1)))
        (λ _ _. refl) refl

-- the job is not in hand after the step
record Returns (life slot : ℕ) (s z : Server) : Type 0 where
  same_life : z.life ≡ s.life
  jobs : (k : ℕ) (op : Op) → FinMap.get z.in_hand k ≡ Some op → (FinMap.get s.in_hand k ≡ Some op) × (s.life ≡ life → k ≢ slot)

module _ (claims : List Claimed) (g : Group) (all : AllHanded claims g.servers) (i life slot : ℕ) where
  other_server : (j : ℕ) (d : Condition) → j ≢ i → slice_get g.servers j ≡ Some d → IsHanded (claims_without i life slot claims) j d
  other_server j (Running s) apart at = λ k op has. left_claim claims i life slot j s.life k (λ same _ _. apart same) (all j (Running s) at k op has)
  other_server j (Stopped l before after) apart at = tt
  other_server j Unformatted apart at = tt

  its_server : (s z : Server) → slice_get g.servers i ≡ Some (Running s) → Returns life slot s z → IsHanded (claims_without i life slot claims) i (Running z)
  its_server s z at r k op has =
      let before = r.jobs k op has in
      left_claim claims i life slot i z.life k (λ _ now same. before.1 (sym r.same_life ∙ now) same) (ap (λ l. has_claim claims i l k) r.same_life ∙ all i (Running s) at k op before.0)

  -- nothing changed at its server, which runs in another life or not at all
  unchanged : (c : Option Condition) → slice_get g.servers i ≡ c → ((s : Server) → c ≡ Some (Running s) → s.life ≢ life) → AllHanded (claims_without i life slot claims) g.servers
  unchanged c at other j (Running s) there = λ k op has.
      left_claim claims i life slot j s.life k (λ same now _. other s (sym at ∙ ap (slice_get g.servers) (sym same) ∙ there) now) (all j (Running s) there k op has)
  unchanged c at other j (Stopped l before after) there = tt
  unchanged c at other j Unformatted there = tt

  return_handed : (how : Ending) (c : Option Condition) (rule : Server → Outcome) → slice_get g.servers i ≡ c → ((s : Server) → Returns life slot s (rule s).server) → ((s : Server) → c ≡ Some (Running s) → (how ≡ Whole) ⊎ (s.life ≢ life)) → AllHanded (claims_without i life slot claims) (server_step_of how g i c rule).servers
  unfolding acted settled cut_off
  return_handed Whole (Some (Running s)) rule at returns took = set_handed (claims_without i life slot claims) g.servers i (Running (settled (rule s).server)) other_server
      (its_server s (settled (rule s).server) at (record { same_life = (returns s).same_life; jobs = (returns s).jobs }))
  return_handed CutOff (Some (Running s)) rule at returns took = set_handed (claims_without i life slot claims) g.servers i (Stopped (suc s.life) s.durable (rule s).server.durable) other_server tt
  return_handed Missed (Some (Running s)) rule at returns took = unchanged (Some (Running s)) at (λ z same. elim (took z same) [ inl whole ↦ absurd (grind (arith, whole)) | inr other ↦ other ])
  return_handed Untouched (Some (Running s)) rule at returns took = unchanged (Some (Running s)) at (λ z same. elim (took z same) [ inl whole ↦ absurd (grind (arith, whole)) | inr other ↦ other ])
  return_handed how (Some (Stopped l before after)) rule at returns took = unchanged (Some (Stopped l before after)) at (λ z same. absurd (grind (arith, same)))
  return_handed how (Some Unformatted) rule at returns took = unchanged (Some Unformatted) at (λ z same. absurd (grind (arith, same)))
  return_handed how None rule at returns took = unchanged None at (λ z same. absurd (grind (arith, same)))

finish_returns : (life slot : ℕ) (s : Server) → Returns life slot s (on_finish s life slot).server
unfolding on_finish applied_op
finish_returns life slot s =
    by_test (life == s.life) (λ c. (life == s.life) ≡ c → Returns life slot s (if c then sends (applied_op s slot (FinMap.get s.in_hand slot)) [] else only_answers s (Refused (Stale s.life))).server)
    (λ _ _. by_job (FinMap.get s.in_hand slot) refl)
    (λ _ other. record { same_life = refl; jobs = λ k op has. (has, λ now. absurd (eqb-false life s.life other (sym now))) }) refl
  where
    by_job : (o : Option Op) → FinMap.get s.in_hand slot ≡ o → Returns life slot s (applied_op s slot o)
    by_job None at = record { same_life = refl; jobs = λ k op has. (has, λ _ same. none-some op (sym at ∙ ap (FinMap.get s.in_hand) (sym same) ∙ has)) }
    by_job (Some job) at = record { same_life = refl; jobs = λ k op has. let r = remove_cases s.in_hand slot k op has in (r.1, λ _. r.0) }

give_back_returns : (life slot : ℕ) (s : Server) → Returns life slot s (on_give_back s life slot).server
unfolding on_give_back
give_back_returns life slot s =
    by_test (life == s.life) (λ c. (life == s.life) ≡ c → Returns life slot s (if c then sends (record s { in_hand = FinMap.remove s.in_hand slot }) [] else sends s []).server)
    (λ _ _. record { same_life = refl; jobs = λ k op has. let r = remove_cases s.in_hand slot k op has in (r.1, λ _. r.0) })
    (λ _ other. record { same_life = refl; jobs = λ k op has. (has, λ now. absurd (eqb-false life s.life other (sym now))) }) refl

-- a finish at a running server takes place, or is of another life
finish_took : (answer : Answer) (c : Option Condition) (life slot : ℕ) → answer ≡ finish_answer c life slot → (s : Server) → c ≡ Some (Running s) → (ending answer ≡ Whole) ⊎ (s.life ≢ life)
unfolding on_finish
finish_took answer c life slot is s at =
    by_test (life == s.life) (λ b. (life == s.life) ≡ b → answer ≡ (if b then sends (applied_op s slot (FinMap.get s.in_hand slot)) [] else only_answers s (Refused (Stale s.life))).answer → (ending answer ≡ Whole) ⊎ (s.life ≢ life))
    (λ _ _ done. inl (ap ending done)) (λ _ other _. inr (λ now. eqb-false life s.life other (sym now))) refl (is ∙ ap (λ x. finish_answer x life slot) at)

deliver_handed : (setup : Setup) (claims : List Claimed) (g : Group) → AllHanded claims g.servers → (how : Ending) (k : ℕ) (o : Option Sent) → AllHanded claims (packet_delivered setup how g k o).servers
unfolding on_packet
deliver_handed setup claims g all how k None = all
deliver_handed setup claims g all how k (Some p) =
    by_test p.lost (λ c. AllHanded claims (if c then g else at_server how (delivered_in how g k p) p.packet.to (λ s. on_packet setup s p.packet)).servers) (λ _. all)
    (λ _. server_handed claims (delivered_in how g k p) (delivery_handed claims g all how k p) how p.packet.to (λ s. on_packet setup s p.packet) (λ s. message_keeps s setup p.packet.from p.packet.term p.packet.body))

-- every event
happens_handed : (setup : Setup) (g : Group) (claims : List Claimed) → AllHanded claims g.servers → (event : Event) (answer : Answer) → IsAnswer setup g event answer → AllHanded (claims_after claims event answer) (happens setup g event (ending answer)).servers
unfolding happens answer_to may_halt
happens_handed setup g claims all (Submit i op) answer is = server_handed claims g all (ending answer) i _ (λ s. submit_keeps s setup op s.role)
happens_handed setup g claims all (Fetch i range) answer is = server_handed claims g all (ending answer) i _ (λ s. fetch_keeps s range g.reads s.role)
happens_handed setup g claims all (Deliver k) answer is = deliver_handed setup claims g all (ending answer) k (slice_get g.packets k)
happens_handed setup g claims all (Lose k) answer is = only_handed claims g all (ending answer) _ (lost_handed claims g all k (slice_get g.packets k))
happens_handed setup g claims all (Elect i) answer is = server_handed claims (counted_election (ending answer) g) (counted_handed claims g all (ending answer)) (ending answer) i on_elect elect_keeps
happens_handed setup g claims all (Resend i) answer is = server_handed claims g all (ending answer) i _ (λ s. resend_keeps s s.role)
happens_handed setup g claims all (Stop i) answer is = only_handed claims g all (ending answer) _ (stop_handed claims g all i (slice_get g.servers i))
happens_handed setup g claims all (Restart i found) answer is = restart_handed claims g all (ending answer) i found (slice_get g.servers i)
happens_handed setup g claims all Claim answer is =
    subst (λ a. AllHanded (claims_with a claims) (only_whole (ending a) g (first_claim setup.window g (0 ∷ 1 ∷ 2 ∷ []))).servers) (sym (answer_is answer _ is)) (claims_handed claims g all setup.window (0 ∷ 1 ∷ 2 ∷ []))
happens_handed setup g claims all (Finish i life slot) answer is =
    return_handed claims g all i life slot (ending answer) (slice_get g.servers i) (λ s. on_finish s life slot) refl (finish_returns life slot) (finish_took answer (slice_get g.servers i) life slot (answer_is answer _ is))
happens_handed setup g claims all (GiveBack i life slot) answer is =
    return_handed claims g all i life slot (ending answer) (slice_get g.servers i) (λ s. on_give_back s life slot) refl (give_back_returns life slot) (λ s at. inl (ap ending (answer_is answer Done is)))
happens_handed setup g claims all (Checkpoint i) answer is = server_handed claims g all (ending answer) i on_checkpoint checkpoint_keeps

handed_from : (setup : Setup) (history : History) (g : Group) (claims : List Claimed) → AllHanded claims g.servers → IsLegalFrom setup g claims history → AllHanded (claims_of claims history) (run setup g history).servers
handed_from setup [] g claims all legal = all
handed_from setup (h ∷ hs) g claims all legal =
    handed_from setup hs (happens setup g h.event (ending h.answer)) (claims_after claims h.event h.answer) (happens_handed setup g claims all h.event h.answer legal.0.answered) legal.1

formatted_handed : (setup : Setup) (i : ℕ) (s : Server) (failed : Bool) → s.in_hand ≡ FinMap.empty → IsHanded [] i (if failed then Unformatted else Running s)
formatted_handed setup i s true none = tt
formatted_handed setup i s false none = empty_handed [] i s none

opening_handed : (setup : Setup) → AllHanded [] (opening setup).servers
unfolding opening first_leader restarted
opening_handed setup zero c at = subst (IsHanded [] 0) (same_Some _ c at) (formatted_handed setup 0 (first_leader setup) (list_any (λ j. j == 0) setup.failed) refl)
opening_handed setup (suc zero) c at = subst (IsHanded [] 1) (same_Some _ c at) (formatted_handed setup 1 (restarted 1 0 (opening_disk setup)) (list_any (λ j. j == 1) setup.failed) refl)
opening_handed setup (suc (suc zero)) c at = subst (IsHanded [] 2) (same_Some _ c at) (formatted_handed setup 2 (restarted 2 0 (opening_disk setup)) (list_any (λ j. j == 2) setup.failed) refl)
opening_handed setup (suc (suc (suc i))) c at = absurd (none-some c at)

-- in every legal history
pub legal_claimed : (setup : Setup) (history : History) (i : ℕ) (s : Server) (slot : ℕ) (op : Op) → IsLegal setup history → RunsAs (replay setup history) i s → FinMap.get s.in_hand slot ≡ Some op → list_any (is_claim i s.life slot) (claims_of [] history) ≡ true
legal_claimed setup history i s slot op is runs has = handed_from setup history (opening setup) [] (opening_handed setup) is.legal i (Running s) runs slot op has

-- with no open claim, nothing is in hand
pub none_in_hand : (setup : Setup) (history : History) (i : ℕ) (s : Server) → IsLegal setup history → claims_of [] history ≡ [] → RunsAs (replay setup history) i s → (slot : ℕ) → FinMap.get s.in_hand slot ≡ None
none_in_hand setup history i s is none runs slot = by_job (FinMap.get s.in_hand slot) refl
  where
    by_job : (o : Option Op) → FinMap.get s.in_hand slot ≡ o → o ≡ None
    by_job None has = refl
    by_job (Some op) has = absurd (false≢true (sym (ap (list_any (is_claim i s.life slot)) none) ∙ legal_claimed setup history i s slot op is runs has))
