-- Every entry in a log was made by a step of the leader of its term, and handed on by packets.
use Rattle.std.proofs.Common.{◌≡◌, ℕ, zero, suc, ◌+◌, ◌-◌, ◌<◌, ◌≤◌, ◌⊎◌, inl, inr, Bool, true, false, cond, not, ◌&&◌, ◌||◌, List, [], ◌∷◌, ◌++◌, map, Option, Some, None, ◌==◌, if◌then◌else◌, nat_lt, nat_le, slice_get, slice_set, arith, refl, sym, ap, subst, ◌∙◌}
use Rattle.std.specs.List.{range_with_len, flat_map, filter, list_all, list_any}
use Rattle.std.specs.FinMap
use Rattle.std.specs.FinMap.{get-empty}
use Rattle.std.specs.Ordering.{nat_cmp}
use Rattle.std.proofs.lemmas.Bool.{leb-true, eqb-true, and_parts}
use Rattle.std.proofs.lemmas.Option.{same_Some, none-some}
use Rattle.std.proofs.lemmas.List.{append_assoc, append-nil}
use Rattle.pf_entry.specs.Maps.{Map, Numbers}
use Rattle.pf_entry.specs.Ops.{Sector}
use Rattle.pf_base.specs.Span.{Span}
use Rattle.pf_entry.specs.declared.ops.Op.{Op}
use Rattle.pf_entry.specs.declared.entries.Entry.{Entry}
use Rattle.pf_entry.specs.declared.entries.VoteLog.{VoteLog}
use Rattle.pf_entry.specs.declared.packets.Packet.{Packet}
use Rattle.pf_entry.specs.declared.packets.Body.{Body}
use Rattle.pf_entry.specs.declared.packets.Body.TheVariants.{RequestVote, Vote, Accept, Ack, Nack, Commit, Probe, ProbeOk, Image}
use Rattle.pf_entry.specs.Lists.{Every}
use Rattle.pf_entry.proofs.Lists.{every_append, every_more, every_map, every_flat_map, every_flat_map_from, every_range, every_of_all, every_get, every_set, set_cases, set_there}
use Rattle.pf_entry.proofs.Maps.{get_inserted, insert_cases, get_above}
use Rattle.pf_entry.specs.Records.{Durable, image_of, stored, put_entry, put_entries, above, holds, vote_of}
use Rattle.pf_entry.specs.Merging.{merged_first, merged_entry, merged_entries}
use Rattle.pf_entry.proofs.Cases.{by_test}
use Rattle.pf_entry.proofs.Ranges.{range_cases, range_has}
use Rattle.pf_protocol.specs.Servers.{Setup, Leader, Role, Follower, Candidate, Merging, Serving, Server, Condition, Running, Stopped, Unformatted, upto}
use Rattle.pf_protocol.specs.Outcomes.{Outcome, to_one, to_others, other_servers, sends, nothing, only_answers, raise_term}
use Rattle.pf_protocol.specs.Leading.{new_entry, submitted, on_submit, on_fetch, on_elect, resent_entry, resent, on_resend, merged, led, still_merging, other_acked, on_vote, has_acked, knows, is_own, commit_to, counted, commit_own, commit, on_ack, on_probe_ok}
use Rattle.pf_protocol.specs.Following.{meets_term, ack, nack, on_request_vote, accepted, on_accept, on_nack, on_commit, on_probe, installed, on_image}
use Rattle.pf_protocol.specs.Rows.{on_message, on_packet, settled}
use Rattle.pf_protocol.specs.Saving.{claimed, renewed, is_short_of, restarted, trimmed, on_checkpoint, applied_op, on_finish, on_give_back}
use Rattle.pf_protocol.specs.declared.answers.Answer.{Answer}
use Rattle.pf_protocol.specs.declared.events.Event.{Event}
use Rattle.pf_protocol.specs.declared.events.Event.TheVariants.{Submit, Fetch, Deliver, Lose, Elect, Resend, Stop, Restart, Claim, Finish, GiveBack, Checkpoint}
use Rattle.pf_protocol.specs.declared.events.Happening.{Happening}
use Rattle.pf_protocol.specs.Groups.{Sent, Group, Ending, Whole, CutOff, Missed, Untouched, TookPlace, send, acted, cut_off, step_ended, server_step_of, at_server, with_sent, delivered_in, packet_delivered, lost, stopped, server_begun, restart, least_claim, claim_at, claim_or, first_claim, only_whole, counted_election, ending, happens, opening, unless_failed, first_leader, opening_disk}
use Rattle.pf_protocol.specs.Histories.{History, IsPrefix, run, replay, RunsAs, HasAccepted, Made, Makes, BySubmit, ByMerge, IsProposal}
use Rattle.pf_protocol.proofs.Moments.{run_longer}

-- what is in a log after a step was there, or is new
abbrev pub From : Map Entry → (Entry → Type 0) → Map Entry → Type 0
From log more after = (slot : ℕ) (e : Entry) → FinMap.get after slot ≡ Some e → (FinMap.get log slot ≡ Some e) ⊎ ((e.slot ≡ slot) × more e)

-- an entry stands under its own slot
abbrev pub IsKeyed : Map Entry → Type 0
IsKeyed log = (slot : ℕ) (e : Entry) → FinMap.get log slot ≡ Some e → e.slot ≡ slot

-- an entry that is sent is in the log after the step, and a vote shows the log before it
abbrev pub Carries : Server → (log : Map Entry) → Body → Type 0
Carries s log (Accept e) = FinMap.get log e.slot ≡ Some e
Carries s log (Vote v) = v ≡ vote_of s.durable
Carries s log _ = Unit {0}

-- a candidate's own vote is kept, or is the log before the step
abbrev pub VoteFrom : Role → Map Entry → Role → Type 0
VoteFrom old log (Candidate own) = (old ≡ Candidate own) ⊎ (own.log ≡ log)
VoteFrom old log _ = Unit {0}

-- where the entries of a step's outcome come from
pub record Stems (s : Server) (more : Entry → Type 0) (o : Outcome) : Type 0 where
  pub number : o.server.number ≡ s.number
  pub from : From s.durable.log more o.server.durable.log
  pub role : VoteFrom s.role s.durable.log o.server.role
  pub packets : Every (λ p. Carries s o.server.durable.log p.body) o.packets

same_role : (log : Map Entry) (role : Role) → VoteFrom role log role
same_role log Follower = tt
same_role log (Candidate own) = inl refl
same_role log (Merging l) = tt
same_role log (Serving l) = tt

same_log : (log : Map Entry) (more : Entry → Type 0) (after : Map Entry) → after ≡ log → From log more after
same_log log more after is slot e at = inl (ap (λ l. FinMap.get l slot) (sym is) ∙ at)

trimmed_log : (log : Map Entry) (more : Entry → Type 0) (base : ℕ) → From log more (above base log)
unfolding above
trimmed_log log more base slot e at = by_test (nat_lt base slot) (λ c. cond c (FinMap.get log slot) None ≡ Some e → (FinMap.get log slot ≡ Some e) ⊎ ((e.slot ≡ slot) × more e)) (λ _ is. inl is) (λ _ is. absurd (none-some e is)) (sym (get_above log base slot) ∙ at)

either_stems : (s : Server) (more : Entry → Type 0) (c : Bool) (x y : Outcome) → Stems s more x → Stems s more y → Stems s more (if c then x else y)
either_stems s more true x y f g = f
either_stems s more false x y f g = g

either_when : (s : Server) (more : Entry → Type 0) (c : Bool) (x y : Outcome) → (c ≡ true → Stems s more x) → (c ≡ false → Stems s more y) → Stems s more (if c then x else y)
either_when s more true x y f g = f refl
either_when s more false x y f g = g refl

to_others_carry : (s z : Server) (log : Map Entry) (body : Body) → Carries s log body → Every (λ p. Carries s log p.body) (to_others z body)
to_others_carry s z log body is = every_map (λ p. Carries s log p.body) (λ i. to_one z i body) (other_servers z.number) (every_of_all (λ _. Carries s log body) (other_servers z.number) (λ _. is))

-- a message brings new entries by a proposal, or by a vote to a candidate
pub record Brings (s : Server) (more : Entry → Type 0) (term : ℕ) (body : Body) : Type 0 where
  pub by_accept : (e : Entry) → body ≡ Accept e → more e
  pub by_vote : (own vote : VoteLog) → body ≡ Vote vote → s.role ≡ Candidate own → term ≡ s.durable.term → vote.base ≤ s.durable.base → (slot : ℕ) → s.durable.base < slot → slot < merged_first s.durable.base own vote → more (merged_entry s.durable.term s.durable.base own vote slot)

module _ (s : Server) (keyed : IsKeyed s.durable.log) (more : Entry → Type 0) where
  same : (o : Outcome) → o.server.number ≡ s.number → o.server.durable.log ≡ s.durable.log → VoteFrom s.role s.durable.log o.server.role → Every (λ p. Carries s o.server.durable.log p.body) o.packets → Stems s more o
  same o number is role packets = record { number = number; from = same_log s.durable.log more o.server.durable.log is; role = role; packets = packets }

  kept : VoteFrom s.role s.durable.log s.role
  kept = same_role s.durable.log s.role

  nothing_stems : Stems s more (nothing s)
  nothing_stems = same (nothing s) refl refl kept tt

  refused_stems : (answer : Answer) → Stems s more (only_answers s answer)
  refused_stems answer = same (only_answers s answer) refl refl kept tt

  nack_stems : (to : ℕ) → Stems s more (nack s to)
  nack_stems to = same (nack s to) refl refl kept (tt, tt)

  met_log : (term : ℕ) → (meets_term s term).durable.log ≡ s.durable.log
  unfolding stored
  met_log term = by_test (nat_lt s.durable.term term) (λ c. (if c then raise_term s term else s).durable.log ≡ s.durable.log) (λ _. refl) (λ _. refl)

  met_number : (term : ℕ) → (meets_term s term).number ≡ s.number
  met_number term = by_test (nat_lt s.durable.term term) (λ c. (if c then raise_term s term else s).number ≡ s.number) (λ _. refl) (λ _. refl)

  met_role : (term : ℕ) → VoteFrom s.role s.durable.log (meets_term s term).role
  met_role term = by_test (nat_lt s.durable.term term) (λ c. VoteFrom s.role s.durable.log (if c then raise_term s term else s).role) (λ _. tt) (λ _. kept)

  met_stems : (term to slot : ℕ) → Stems s more (ack (meets_term s term) to slot)
  met_stems term to slot = same (ack (meets_term s term) to slot) (met_number term) (met_log term) (met_role term) (tt, tt)

  pub submit_stems : (setup : Setup) (op : Op) (role : Role) → ((l : Leader) → role ≡ Serving l → more (new_entry setup.names s l op)) → Stems s more (on_submit setup s op role)
  unfolding on_submit submitted stored put_entry
  submit_stems setup op Follower new = refused_stems _
  submit_stems setup op (Candidate own) new = refused_stems _
  submit_stems setup op (Merging l) new = refused_stems _
  submit_stems setup op (Serving l) new =
      let e = new_entry setup.names s l op in
      either_stems s more (nat_lt (s.durable.base + setup.window) l.next) _ _ (refused_stems _) (record {
        number = refl;
        from = λ slot x at. elim (insert_cases s.durable.log e.slot e slot x at) [
          | inl here ↦ inr (ap (λ y. y.slot) (sym here.1) ∙ sym here.0, subst more here.1 (new l refl))
          | inr there ↦ inl there.1
        ];
        role = tt;
        packets = to_others_carry s s (FinMap.insert s.durable.log e.slot e) (Accept e) (get_inserted s.durable.log e.slot e);
      })

  pub fetch_stems : (range : Span) (number : ℕ) (role : Role) → Stems s more (on_fetch s range number role)
  unfolding on_fetch
  fetch_stems range number Follower = refused_stems _
  fetch_stems range number (Candidate own) = refused_stems _
  fetch_stems range number (Merging l) = refused_stems _
  fetch_stems range number (Serving l) = same _ refl refl kept (to_others_carry s s s.durable.log (Probe number) tt)

  pub elect_stems : Stems s more (on_elect s)
  unfolding on_elect stored
  elect_stems = same _ refl refl (inr refl) (to_others_carry s (on_elect s).server s.durable.log (RequestVote s.durable.base) tt)

  resent_carry : (l : Leader) (to slot : ℕ) (o : Option Entry) → FinMap.get s.durable.log slot ≡ o → Every (λ p. Carries s s.durable.log p.body) (resent_entry s l to o slot)
  resent_carry l to slot None at = tt
  resent_carry l to slot (Some e) at =
      by_test (not (has_acked l to slot)) (λ c. Every (λ p. Carries s s.durable.log p.body) (if c then to_one s to (Accept e) ∷ [] else (if nat_lt (knows l to) slot then to_one s to (Commit slot) ∷ [] else [])))
      (λ _. (ap (FinMap.get s.durable.log) (keyed slot e at) ∙ at, tt))
      (λ _. by_test (nat_lt (knows l to) slot) (λ c. Every (λ p. Carries s s.durable.log p.body) (if c then to_one s to (Commit slot) ∷ [] else [])) (λ _. (tt, tt)) (λ _. tt))

  resent_stems : (l : Leader) (to : ℕ) → Every (λ p. Carries s s.durable.log p.body) (resent s l to)
  unfolding resent
  resent_stems l to =
      let P : Packet → Type 0 = λ p. Carries s s.durable.log p.body in
      every_append P _ _
      (every_append P (if nat_lt (knows l to) s.durable.base then to_one s to (Image s.durable.base s.applied s.sectors) ∷ [] else []) _
      (by_test (nat_lt (knows l to) s.durable.base) (λ c. Every P (if c then to_one s to (Image s.durable.base s.applied s.sectors) ∷ [] else [])) (λ _. (tt, tt)) (λ _. tt))
      (every_flat_map P (λ slot. resent_entry s l to (FinMap.get s.durable.log slot) slot) (range_with_len (suc s.durable.base) (l.next - suc s.durable.base)) (λ slot. resent_carry l to slot (FinMap.get s.durable.log slot) refl)))
      (every_map P (λ r. to_one s to (Probe r.number)) (filter (λ r. not r.confirmed) s.reads) (every_of_all (λ r. Carries s s.durable.log (Probe r.number)) (filter (λ r. not r.confirmed) s.reads) (λ r. tt)))

  pub resend_stems : (role : Role) → Stems s more (on_resend s role)
  unfolding on_resend
  resend_stems Follower = same _ refl refl kept (to_others_carry s s s.durable.log (Ack s.durable.base (upto s)) tt)
  resend_stems (Candidate own) = same _ refl refl kept (to_others_carry s s s.durable.log (RequestVote s.durable.base) tt)
  resend_stems (Merging l) = same _ refl refl kept (every_flat_map _ (resent s l) (other_servers s.number) (resent_stems l))
  resend_stems (Serving l) = same _ refl refl kept (every_flat_map _ (resent s l) (other_servers s.number) (resent_stems l))

  pub checkpoint_stems : Stems s more (on_checkpoint s)
  unfolding on_checkpoint trimmed stored
  checkpoint_stems = either_stems s more (upto s == s.durable.base || is_short_of s.role (upto s)) _ _ (refused_stems _) (record { number = refl; from = trimmed_log s.durable.log more (upto s); role = kept; packets = tt })

  pub finish_stems : (life slot : ℕ) → Stems s more (on_finish s life slot)
  unfolding on_finish applied_op
  finish_stems life slot = either_stems s more (life == s.life) _ _ (finished (FinMap.get s.in_hand slot)) (refused_stems _)
    where
      finished : (o : Option Op) → Stems s more (sends (applied_op s slot o) [])
      finished None = same _ refl refl kept tt
      finished (Some op) = same _ refl refl kept tt

  pub give_back_stems : (life slot : ℕ) → Stems s more (on_give_back s life slot)
  unfolding on_give_back
  give_back_stems life slot = either_stems s more (life == s.life) _ _ (same _ refl refl kept tt) (same _ refl refl kept tt)

  in_its_slot : (own vote : VoteLog) (k : ℕ) → (merged_entry s.durable.term s.durable.base own vote k).slot ≡ k
  unfolding merged_entry
  in_its_slot own vote k = refl

  -- a merge, at a candidate
  merge_stems : (own vote : VoteLog) → ((slot : ℕ) → s.durable.base < slot → slot < merged_first s.durable.base own vote → more (merged_entry s.durable.term s.durable.base own vote slot)) → Stems s more (sends (merged s own vote) (flat_map (λ e. to_others s (Accept e)) (merged_entries s.durable.term s.durable.base own vote)))
  unfolding merged stored merged_entries
  merge_stems own vote new =
      let base = s.durable.base in
      let first = merged_first base own vote in
      let f = merged_entry s.durable.term base own vote in
      let after = put_entries s.durable.log (map f (range_with_len (suc base) (first - suc base))) in
      record {
        number = refl;
        from = λ slot e at. elim (range_cases f (in_its_slot own vote) (first - suc base) (suc base) s.durable.log slot e at) [
          | inl old ↦ inl old
          | inr here ↦ inr (ap (λ x. x.slot) (sym here.2) ∙ in_its_slot own vote slot, subst more here.2 (new slot (omega (arith, here.0)) (omega (arith, here.0, here.1))))
        ];
        role = by_test (nat_lt (suc base) first) (λ c. VoteFrom s.role s.durable.log (if c then Merging (led base first first s.number) else Serving (led base first first s.number))) (λ _. tt) (λ _. tt);
        packets = every_flat_map_from (λ e. FinMap.get after e.slot ≡ Some e) (λ p. Carries s after p.body) (λ e. to_others s (Accept e)) (map f (range_with_len (suc base) (first - suc base)))
            (λ e is. to_others_carry s s after (Accept e) is)
            (every_map (λ e. FinMap.get after e.slot ≡ Some e) f (range_with_len (suc base) (first - suc base))
            (every_range (λ k. FinMap.get after (f k).slot ≡ Some (f k)) (first - suc base) (suc base) (λ k low high.
            ap (FinMap.get after) (in_its_slot own vote k) ∙ range_has f (in_its_slot own vote) (first - suc base) (suc base) s.durable.log k low high)));
      }

  vote_stems : (term : ℕ) (vote : VoteLog) (role : Role) → ((own : VoteLog) → role ≡ Candidate own → term ≡ s.durable.term → vote.base ≤ s.durable.base → (slot : ℕ) → s.durable.base < slot → slot < merged_first s.durable.base own vote → more (merged_entry s.durable.term s.durable.base own vote slot)) → Stems s more (on_vote s term vote role)
  unfolding on_vote
  vote_stems term vote Follower new = nothing_stems
  vote_stems term vote (Merging l) new = nothing_stems
  vote_stems term vote (Serving l) new = nothing_stems
  vote_stems term vote (Candidate own) new = either_when s more (term == s.durable.term && nat_le vote.base s.durable.base) _ _
      (λ tests. let t = and_parts _ _ tests in merge_stems own vote (new own refl (eqb-true _ _ t.0) (leb-true _ _ t.1)))
      (λ _. nothing_stems)

  accept_stems : (setup : Setup) (from : ℕ) (e : Entry) → more e → Stems s more (on_accept setup s from e)
  unfolding on_accept accepted stored put_entry
  accept_stems setup from e new =
      either_stems s more (nat_lt e.term s.durable.term) _ _ (nack_stems from)
      (either_stems s more (nat_le e.slot s.durable.base) _ _ (met_stems e.term from e.slot)
      (either_stems s more (nat_lt (s.durable.base + setup.window) e.slot) _ _ nothing_stems
      (either_stems s more (holds s.durable e.slot e.term) _ _ (same (ack s from e.slot) refl refl kept (tt, tt))
      (record {
        number = refl;
        from = λ slot x at. elim (insert_cases s.durable.log e.slot e slot x at) [
          | inl here ↦ inr (ap (λ y. y.slot) (sym here.1) ∙ sym here.0, subst more here.1 new)
          | inr there ↦ inl there.1
        ];
        role = tt;
        packets = (tt, tt);
      }))))

  request_vote_stems : (from term base : ℕ) → Stems s more (on_request_vote s from term base)
  unfolding on_request_vote stored
  request_vote_stems from term base = either_stems s more (nat_le term s.durable.term || nat_lt base s.durable.base) _ _ (nack_stems from) (same (sends (raise_term s term) (to_one (raise_term s term) from (Vote (vote_of s.durable)) ∷ [])) refl refl tt (refl, tt))

  ack_stems : (from term slot upto_there : ℕ) (role : Role) → Stems s more (on_ack s from term slot upto_there role)
  unfolding on_ack commit_own
  ack_stems from term slot upto_there Follower = nothing_stems
  ack_stems from term slot upto_there (Candidate own) = nothing_stems
  ack_stems from term slot upto_there (Merging l) = either_stems s more (term == s.durable.term) _ _ (same _ refl refl (stands (counted l from slot upto_there)) (commit_carries l)) nothing_stems
    where
      commit_carries : (l : Leader) → Every (λ p. Carries s s.durable.log p.body) (commit_to s l from slot)
      commit_carries l = by_test (is_own l slot) (λ c. Every (λ p. Carries s s.durable.log p.body) (if c then to_one s from (Commit slot) ∷ [] else [])) (λ _. (tt, tt)) (λ _. tt)

      stands : (l : Leader) → VoteFrom s.role s.durable.log (still_merging s l)
      stands l = by_test (list_all (other_acked l s.number) (range_with_len (suc l.b0) (l.first - suc l.b0))) (λ c. VoteFrom s.role s.durable.log (if c then Serving l else Merging l)) (λ _. tt) (λ _. tt)
  ack_stems from term slot upto_there (Serving l) = either_stems s more (term == s.durable.term) _ _ (same _ refl refl tt (commit_carries l)) nothing_stems
    where
      commit_carries : (l : Leader) → Every (λ p. Carries s s.durable.log p.body) (commit_to s l from slot)
      commit_carries l = by_test (is_own l slot) (λ c. Every (λ p. Carries s s.durable.log p.body) (if c then to_one s from (Commit slot) ∷ [] else [])) (λ _. (tt, tt)) (λ _. tt)

  nack_received : (term : ℕ) → Stems s more (on_nack s term)
  unfolding on_nack
  nack_received term = same _ (met_number term) (met_log term) (met_role term) tt

  commit_stems : (term slot : ℕ) → Stems s more (on_commit s term slot)
  unfolding on_commit commit
  commit_stems term slot = either_stems s more (holds s.durable slot term) _ _ (same _ refl refl kept tt) nothing_stems

  probe_stems : (from term number : ℕ) → Stems s more (on_probe s from term number)
  unfolding on_probe
  probe_stems from term number = either_stems s more (nat_lt term s.durable.term) _ _ (nack_stems from) (same _ refl refl kept (tt, tt))

  probe_ok_stems : (from term number upto_there : ℕ) (role : Role) → Stems s more (on_probe_ok s from term number upto_there role)
  unfolding on_probe_ok
  probe_ok_stems from term number upto_there Follower = nothing_stems
  probe_ok_stems from term number upto_there (Candidate own) = nothing_stems
  probe_ok_stems from term number upto_there (Merging l) = nothing_stems
  probe_ok_stems from term number upto_there (Serving l) = either_stems s more (term == s.durable.term) _ _ (same _ refl refl tt tt) nothing_stems

  image_stems : (from term base : ℕ) (applied : Numbers) (sectors : List Sector) → Stems s more (on_image s from term base applied sectors)
  unfolding on_image installed stored
  image_stems from term base applied sectors =
      either_stems s more (nat_lt term s.durable.term) _ _ (nack_stems from)
      (either_stems s more (nat_le base (upto s)) _ _ (met_stems term from base) (record { number = refl; from = trimmed_log s.durable.log more base; role = tt; packets = (tt, tt) }))

  pub message_stems : (setup : Setup) (from term : ℕ) (body : Body) → Brings s more term body → Stems s more (on_message setup s from term body)
  unfolding on_message
  message_stems setup from term (RequestVote base) b = request_vote_stems from term base
  message_stems setup from term (Vote vote) b = vote_stems term vote s.role (λ own is. b.by_vote own vote refl is)
  message_stems setup from term (Accept e) b = accept_stems setup from e (b.by_accept e refl)
  message_stems setup from term (Ack slot upto_there) b = ack_stems from term slot upto_there s.role
  message_stems setup from term Nack b = nack_received term
  message_stems setup from term (Commit slot) b = commit_stems term slot
  message_stems setup from term (Probe number) b = probe_stems from term number
  message_stems setup from term (ProbeOk number upto_there) b = probe_ok_stems from term number upto_there s.role
  message_stems setup from term (Image base applied sectors) b = image_stems from term base applied sectors

-- a longer history
module _ (setup : Setup) (history : History) (h : Happening) where
  pub longer : (earlier : History) → IsPrefix earlier history → IsPrefix earlier (history ++ h ∷ [])
  longer earlier p = record { rest = p.rest ++ h ∷ []; whole = sym (append_assoc earlier p.rest (h ∷ [])) ∙ ap (λ hs. hs ++ h ∷ []) p.whole }

  pub accepted_longer : (i : ℕ) (e : Entry) → HasAccepted setup history i e → HasAccepted setup (history ++ h ∷ []) i e
  accepted_longer i e a = record { earlier = a.earlier; is_earlier = longer a.earlier a.is_earlier; holds = a.holds }

  pub made_longer : (i : ℕ) (e : Entry) → Made setup history i e → Made setup (history ++ h ∷ []) i e
  made_longer i e m = record { earlier = m.earlier; making = m.making; done = m.done; is_earlier = longer (m.earlier ++ m.making ∷ []) m.is_earlier; server = m.server; runs = m.runs; makes = m.makes }

  pub proposal_longer : (e : Entry) → IsProposal setup history e → IsProposal setup (history ++ h ∷ []) e
  proposal_longer e p = record { leader = p.leader; made = made_longer p.leader e p.made; recorded = accepted_longer p.leader e p.recorded }

-- a log of entries that stand under their slots and have a property
pub record Has (P : Entry → Type 0) (log : Map Entry) : Type 0 where
  pub keyed : IsKeyed log
  pub each : (slot : ℕ) (e : Entry) → FinMap.get log slot ≡ Some e → P e

has_more : (P Q : Entry → Type 0) (log : Map Entry) → ((e : Entry) → P e → Q e) → Has P log → Has Q log
has_more P Q log f h = record { keyed = h.keyed; each = λ slot e at. f e (h.each slot e at) }

has_empty : (P : Entry → Type 0) → Has P FinMap.empty
has_empty P = record { keyed = λ slot e at. absurd (none-some e (sym (get-empty nat_cmp slot) ∙ at)); each = λ slot e at. absurd (none-some e (sym (get-empty nat_cmp slot) ∙ at)) }

has_from : (P Q : Entry → Type 0) (log after : Map Entry) → ((e : Entry) → P e → Q e) → Has P log → From log Q after → Has Q after
has_from P Q log after f h from = record {
  keyed = λ slot e at. elim (from slot e at) [ inl old ↦ h.keyed slot e old | inr new ↦ new.0 ];
  each = λ slot e at. elim (from slot e at) [ inl old ↦ f e (h.each slot e old) | inr new ↦ new.1 ];
}

-- an entry that some step in doubt may have made
abbrev pub Doubtful : Setup → History → ℕ → Entry → Type 0
Doubtful setup history i e = IsProposal setup history e ⊎ Made setup history i e

abbrev pub OwnVote : Setup → History → Role → Type 0
OwnVote setup history (Candidate own) = Has (IsProposal setup history) own.log
OwnVote setup history _ = Unit {0}

-- entries are proposals, wherever they stand
abbrev pub IsBacked : Setup → History → ℕ → Condition → Type 0
IsBacked setup history i (Running s) = Has (IsProposal setup history) s.durable.log × OwnVote setup history s.role × (s.number ≡ i)
IsBacked setup history i (Stopped life before after) = Has (IsProposal setup history) before.log × Has (Doubtful setup history i) after.log
IsBacked setup history i Unformatted = Unit {0}

abbrev pub IsSaid : Setup → History → Body → Type 0
IsSaid setup history (Accept e) = IsProposal setup history e
IsSaid setup history (Vote v) = Has (IsProposal setup history) v.log
IsSaid setup history _ = Unit {0}

pub record Backs (setup : Setup) (history : History) (g : Group) : Type 0 where
  pub servers : (i : ℕ) (c : Condition) → slice_get g.servers i ≡ Some c → IsBacked setup history i c
  pub packets : Every (λ sent. IsSaid setup history sent.packet.body) g.packets

said_longer : (setup : Setup) (history : History) (h : Happening) (body : Body) → IsSaid setup history body → IsSaid setup (history ++ h ∷ []) body
said_longer setup history h (RequestVote base) is = tt
said_longer setup history h (Vote v) is = has_more _ _ v.log (proposal_longer setup history h) is
said_longer setup history h (Accept e) is = proposal_longer setup history h e is
said_longer setup history h (Ack slot upto_there) is = tt
said_longer setup history h Nack is = tt
said_longer setup history h (Commit slot) is = tt
said_longer setup history h (Probe number) is = tt
said_longer setup history h (ProbeOk number upto_there) is = tt
said_longer setup history h (Image base applied sectors) is = tt

vote_longer : (setup : Setup) (history : History) (h : Happening) (role : Role) → OwnVote setup history role → OwnVote setup (history ++ h ∷ []) role
vote_longer setup history h Follower is = tt
vote_longer setup history h (Candidate own) is = has_more _ _ own.log (proposal_longer setup history h) is
vote_longer setup history h (Merging l) is = tt
vote_longer setup history h (Serving l) is = tt

doubtful_longer : (setup : Setup) (history : History) (h : Happening) (i : ℕ) (e : Entry) → Doubtful setup history i e → Doubtful setup (history ++ h ∷ []) i e
doubtful_longer setup history h i e d = elim d [ inl is ↦ inl (proposal_longer setup history h e is) | inr made ↦ inr (made_longer setup history h i e made) ]

backed_longer : (setup : Setup) (history : History) (h : Happening) (i : ℕ) (c : Condition) → IsBacked setup history i c → IsBacked setup (history ++ h ∷ []) i c
backed_longer setup history h i (Running s) is = (has_more _ _ s.durable.log (proposal_longer setup history h) is.0, vote_longer setup history h s.role is.1, is.2)
backed_longer setup history h i (Stopped life before after) is = (has_more _ _ before.log (proposal_longer setup history h) is.0, has_more _ _ after.log (doubtful_longer setup history h i) is.1)
backed_longer setup history h i Unformatted is = tt

-- one more event
module _ (setup : Setup) (history : History) (h : Happening) (g : Group) (same_servers : g.servers ≡ (replay setup history).servers) (backs : Backs setup history g) where
  -- the entries that a step of server i brings in: proposals by then, or made by this step
  abbrev Newly : ℕ → Entry → Type 0
  Newly i e = Doubtful setup (history ++ h ∷ []) i e

  older : (i : ℕ) (c : Condition) → slice_get g.servers i ≡ Some c → IsBacked setup (history ++ h ∷ []) i c
  older i c at = backed_longer setup history h i c (backs.servers i c at)

  old_packets : Every (λ sent. IsSaid setup (history ++ h ∷ []) sent.packet.body) g.packets
  old_packets = every_more (λ sent. IsSaid setup history sent.packet.body) (λ sent. IsSaid setup (history ++ h ∷ []) sent.packet.body) (λ sent is. said_longer setup history h sent.packet.body is) g.packets backs.packets

  unchanged : Backs setup (history ++ h ∷ []) g
  unchanged = record { servers = older; packets = old_packets }

  changed_server : (i : ℕ) (c : Condition) → IsBacked setup (history ++ h ∷ []) i c → (j : ℕ) (d : Condition) → slice_get (slice_set g.servers i c) j ≡ Some d → IsBacked setup (history ++ h ∷ []) j d
  changed_server i c is j d at =
      elim (set_cases g.servers i c j d at) [
        | inl here ↦ subst (λ k. IsBacked setup (history ++ h ∷ []) k d) (sym here.0) (subst (IsBacked setup (history ++ h ∷ []) i) here.1 is)
        | inr there ↦ older j d there.1
      ]

  changed : (i : ℕ) (c : Condition) → IsBacked setup (history ++ h ∷ []) i c → Backs setup (history ++ h ∷ []) (record g { servers = slice_set g.servers i c })
  changed i c is = record { servers = changed_server i c is; packets = old_packets }

  -- what a running server has in its log was accepted
  accepted_now : (now : Group) → now ≡ replay setup (history ++ h ∷ []) → (i : ℕ) (s : Server) → RunsAs now i s → (slot : ℕ) (e : Entry) → e.slot ≡ slot → FinMap.get s.durable.log slot ≡ Some e → HasAccepted setup (history ++ h ∷ []) i e
  accepted_now now is i s runs slot e in_slot at = record {
    earlier = history ++ h ∷ [];
    is_earlier = record { rest = []; whole = append-nil (history ++ h ∷ []) };
    holds = record { server = s; runs = ap (λ x. slice_get x.servers i) (sym is) ∙ runs; held = ap (FinMap.get s.durable.log) in_slot ∙ at };
  }

  settled_now : (now : Group) → now ≡ replay setup (history ++ h ∷ []) → (i : ℕ) (s : Server) → RunsAs now i s → (e : Entry) → e.slot ≡ e.slot → FinMap.get s.durable.log e.slot ≡ Some e → Newly i e → IsProposal setup (history ++ h ∷ []) e
  settled_now now is i s runs e same at new =
      elim new [
        | inl proposal ↦ proposal
        | inr made ↦ record { leader = i; made = made; recorded = accepted_now now is i s runs e.slot e refl at }
      ]

  -- a server whose log comes from its old one, all of it recorded
  has_now : (now : Group) → now ≡ replay setup (history ++ h ∷ []) → (i : ℕ) (s : Server) (log : Map Entry) → RunsAs now i s → Has (IsProposal setup history) log → From log (Newly i) s.durable.log → Has (IsProposal setup (history ++ h ∷ [])) s.durable.log
  has_now now is i s log runs had from = record {
    keyed = λ slot e at. elim (from slot e at) [ inl old ↦ had.keyed slot e old | inr new ↦ new.0 ];
    each = λ slot e at. elim (from slot e at) [
      | inl old ↦ proposal_longer setup history h e (had.each slot e old)
      | inr new ↦ settled_now now is i s runs e refl (ap (FinMap.get s.durable.log) new.0 ∙ at) new.1
    ];
  }

  -- what a step sends
  said_now : (i : ℕ) (s : Server) → slice_get g.servers i ≡ Some (Running s) → (log : Map Entry) → Has (IsProposal setup (history ++ h ∷ [])) log → (body : Body) → Carries s log body → IsSaid setup (history ++ h ∷ []) body
  said_now i s at log has (RequestVote base) is = tt
  said_now i s at log has (Vote v) is = subst (λ x. Has (IsProposal setup (history ++ h ∷ [])) x.log) (sym is) (has_more _ _ s.durable.log (proposal_longer setup history h) (backs.servers i (Running s) at).0)
  said_now i s at log has (Accept e) is = has.each e.slot e is
  said_now i s at log has (Ack slot upto_there) is = tt
  said_now i s at log has Nack is = tt
  said_now i s at log has (Commit slot) is = tt
  said_now i s at log has (Probe number) is = tt
  said_now i s at log has (ProbeOk number upto_there) is = tt
  said_now i s at log has (Image base applied sectors) is = tt

  own_now : (i : ℕ) (s : Server) → IsBacked setup history i (Running s) → (role : Role) → VoteFrom s.role s.durable.log role → OwnVote setup (history ++ h ∷ []) role
  own_now i s had Follower from = tt
  own_now i s had (Candidate own) from =
      elim from [
        | inl same ↦ subst (OwnVote setup (history ++ h ∷ [])) same (vote_longer setup history h s.role had.1)
        | inr same ↦ subst (Has (IsProposal setup (history ++ h ∷ []))) (sym same) (has_more _ _ s.durable.log (proposal_longer setup history h) had.0)
      ]
  own_now i s had (Merging l) from = tt
  own_now i s had (Serving l) from = tt

  acted_backs : (i : ℕ) (s : Server) (o : Outcome) → slice_get g.servers i ≡ Some (Running s) → acted g i o ≡ replay setup (history ++ h ∷ []) → Stems s (Newly i) o → Backs setup (history ++ h ∷ []) (acted g i o)
  unfolding acted settled
  acted_backs i s o at now stems =
      let had = backs.servers i (Running s) at in
      let has = has_now (acted g i o) now i (settled o.server) s.durable.log (set_there g.servers i (Running s) (Running (settled o.server)) at) had.0 stems.from in
      record {
        servers = changed_server i (Running (settled o.server)) (has, own_now i s had o.server.role stems.role, stems.number ∙ had.2);
        packets = every_append (λ sent. IsSaid setup (history ++ h ∷ []) sent.packet.body) g.packets (send o.packets) old_packets
            (every_map (λ sent. IsSaid setup (history ++ h ∷ []) sent.packet.body) _ o.packets
            (every_more (λ p. Carries s o.server.durable.log p.body) (λ p. IsSaid setup (history ++ h ∷ []) p.body)
            (λ p is. said_now i s at o.server.durable.log has p.body is) o.packets stems.packets));
      }

  cut_off_backs : (i : ℕ) (s : Server) (o : Outcome) → slice_get g.servers i ≡ Some (Running s) → Stems s (Newly i) o → Backs setup (history ++ h ∷ []) (cut_off g i s o)
  unfolding cut_off
  cut_off_backs i s o at stems =
      let had = backs.servers i (Running s) at in
      changed i (Stopped (suc s.life) s.durable o.server.durable)
      (has_more _ _ s.durable.log (proposal_longer setup history h) had.0, has_from (IsProposal setup history) (Newly i) s.durable.log o.server.durable.log (λ e is. inl (proposal_longer setup history h e is)) had.0 stems.from)

  ended_backs : (how : Ending) (i : ℕ) (s : Server) (o : Outcome) → slice_get g.servers i ≡ Some (Running s) → step_ended how g i s o ≡ replay setup (history ++ h ∷ []) → (TookPlace how → Stems s (Newly i) o) → Backs setup (history ++ h ∷ []) (step_ended how g i s o)
  ended_backs Whole i s o at now stems = acted_backs i s o at now (stems tt)
  ended_backs CutOff i s o at now stems = cut_off_backs i s o at (stems tt)
  ended_backs Missed i s o at now stems = unchanged
  ended_backs Untouched i s o at now stems = unchanged

  step_backs : (how : Ending) (i : ℕ) (o : Option Condition) (rule : Server → Outcome) → slice_get g.servers i ≡ o → server_step_of how g i o rule ≡ replay setup (history ++ h ∷ []) → ((s : Server) → slice_get g.servers i ≡ Some (Running s) → IsKeyed s.durable.log → TookPlace how → Stems s (Newly i) (rule s)) → Backs setup (history ++ h ∷ []) (server_step_of how g i o rule)
  step_backs how i (Some (Running s)) rule at now stems = ended_backs how i s (rule s) at now (stems s at (backs.servers i (Running s) at).0.keyed)
  step_backs how i (Some (Stopped life before after)) rule at now stems = unchanged
  step_backs how i (Some Unformatted) rule at now stems = unchanged
  step_backs how i None rule at now stems = unchanged

  at_server_backs : (how : Ending) (i : ℕ) (rule : Server → Outcome) → at_server how g i rule ≡ replay setup (history ++ h ∷ []) → ((s : Server) → slice_get g.servers i ≡ Some (Running s) → IsKeyed s.durable.log → TookPlace how → Stems s (Newly i) (rule s)) → Backs setup (history ++ h ∷ []) (at_server how g i rule)
  at_server_backs how i rule now stems = step_backs how i (slice_get g.servers i) rule refl now stems

  -- a restart finds what may have been recorded
  renewed_log : (d : Durable) → (renewed d).log ≡ d.log
  unfolding renewed stored
  renewed_log d = by_test (d.format == 1) (λ c. (if c then stored d (image_of (record d { generation = suc d.generation })) else d).log ≡ d.log) (λ _. refl) (λ _. refl)

  begun_now : (i life : ℕ) (d : Durable) (c : Condition) → slice_get g.servers i ≡ Some c → record g { servers = slice_set g.servers i (Running (restarted i life (renewed d))) } ≡ replay setup (history ++ h ∷ []) → Has (Newly i) d.log → Backs setup (history ++ h ∷ []) (record g { servers = slice_set g.servers i (Running (restarted i life (renewed d))) })
  unfolding restarted
  begun_now i life d c at now had =
      let s = restarted i life (renewed d) in
      let all : From FinMap.empty (Newly i) s.durable.log = λ slot e is. let old = ap (λ l. FinMap.get l slot) (sym (renewed_log d)) ∙ is in inr (had.keyed slot e old, had.each slot e old) in
      changed i (Running s) (has_now (record g { servers = slice_set g.servers i (Running s) }) now i s FinMap.empty (set_there g.servers i c (Running s) at) (has_empty _) all, tt, refl)

  begun_backs : (how : Ending) (i life : ℕ) (d before later : Durable) (c : Condition) → slice_get g.servers i ≡ Some c → server_begun how g i life d before later ≡ replay setup (history ++ h ∷ []) → Has (Newly i) d.log → IsBacked setup (history ++ h ∷ []) i (Stopped life before later) → Backs setup (history ++ h ∷ []) (server_begun how g i life d before later)
  begun_backs Whole i life d before later c at now had is = begun_now i (suc life) d c at now had
  begun_backs CutOff i life d before later c at now had is = changed i (Stopped (suc life) before later) is
  begun_backs Missed i life d before later c at now had is = unchanged
  begun_backs Untouched i life d before later c at now had is = unchanged

  found_log : (i : ℕ) (found : Bool) (life : ℕ) (before later : Durable) → IsBacked setup (history ++ h ∷ []) i (Stopped life before later) → Has (Newly i) (cond found later before).log
  found_log i true life before later is = is.1
  found_log i false life before later is = has_more _ _ before.log (λ e p. inl p) is.0

  stopped_is : (i life : ℕ) (s : Server) → slice_get g.servers i ≡ Some (Running s) → IsBacked setup (history ++ h ∷ []) i (Stopped life s.durable s.durable)
  stopped_is i life s at =
      let had = older i (Running s) at in
      (had.0, has_more _ _ s.durable.log (λ e p. inl p) had.0)

  restart_backs : (how : Ending) (i : ℕ) (found : Bool) (o : Option Condition) → slice_get g.servers i ≡ o → restart how g i found o ≡ replay setup (history ++ h ∷ []) → Backs setup (history ++ h ∷ []) (restart how g i found o)
  restart_backs how i found (Some (Running s)) at now = let is = stopped_is i s.life s at in begun_backs how i s.life s.durable s.durable s.durable (Running s) at now is.1 is
  restart_backs how i found (Some (Stopped life before later)) at now =
      let is = older i (Stopped life before later) at in
      begun_backs how i life (cond found later before) before later (Stopped life before later) at now (found_log i found life before later is) is
  restart_backs how i found (Some Unformatted) at now = unchanged
  restart_backs how i found None at now = unchanged

  stop_backs : (i : ℕ) (o : Option Condition) → slice_get g.servers i ≡ o → Backs setup (history ++ h ∷ []) (stopped g i o)
  stop_backs i (Some (Running s)) at = changed i (Stopped (suc s.life) s.durable s.durable) (stopped_is i (suc s.life) s at)
  stop_backs i (Some (Stopped life before later)) at = unchanged
  stop_backs i (Some Unformatted) at = unchanged
  stop_backs i None at = unchanged

  claim_at_backs : (i : ℕ) (c : Option Condition) (slot : Option ℕ) → slice_get g.servers i ≡ c → Backs setup (history ++ h ∷ []) (claim_at g i c slot)
  unfolding claimed
  claim_at_backs i (Some (Running s)) (Some slot) at = changed i (Running (claimed s slot)) (older i (Running s) at)
  claim_at_backs i (Some (Running s)) None at = unchanged
  claim_at_backs i (Some (Stopped life before later)) slot at = unchanged
  claim_at_backs i (Some Unformatted) slot at = unchanged
  claim_at_backs i None slot at = unchanged

  claim_or_backs : (i : ℕ) (slot : Option ℕ) (rest : Group) → Backs setup (history ++ h ∷ []) rest → Backs setup (history ++ h ∷ []) (claim_or g i slot rest)
  claim_or_backs i None rest is = is
  claim_or_backs i (Some slot) rest is = claim_at_backs i (slice_get g.servers i) (Some slot) refl

  claim_backs : (window : ℕ) (is : List ℕ) → Backs setup (history ++ h ∷ []) (first_claim window g is)
  claim_backs window [] = unchanged
  claim_backs window (i ∷ is) = claim_or_backs i (least_claim window (slice_get g.servers i)) (first_claim window g is) (claim_backs window is)

  only_backs : (how : Ending) (later : Group) → Backs setup (history ++ h ∷ []) later → Backs setup (history ++ h ∷ []) (only_whole how g later)
  only_backs Whole later is = is
  only_backs CutOff later is = unchanged
  only_backs Missed later is = unchanged
  only_backs Untouched later is = unchanged

-- a packet's marks are no part of what it says
delivery_backs : (setup : Setup) (history : History) (g : Group) → Backs setup history g → (k : ℕ) (p q : Sent) → slice_get g.packets k ≡ Some p → q.packet ≡ p.packet → Backs setup history (with_sent g k q)
delivery_backs setup history g backs k p q at same = record {
  servers = backs.servers;
  packets = every_set (λ sent. IsSaid setup history sent.packet.body) g.packets k q backs.packets
      (subst (λ x. IsSaid setup history x.body) (sym same) (every_get (λ sent. IsSaid setup history sent.packet.body) g.packets k p backs.packets at));
}

lost_backs : (setup : Setup) (history : History) (g : Group) → Backs setup history g → (k : ℕ) (o : Option Sent) → slice_get g.packets k ≡ o → Backs setup history (lost g k o)
lost_backs setup history g backs k None at = backs
lost_backs setup history g backs k (Some p) at = delivery_backs setup history g backs k p _ at refl

delivered_in_backs : (setup : Setup) (history : History) (g : Group) → Backs setup history g → (how : Ending) (k : ℕ) (p : Sent) → slice_get g.packets k ≡ Some p → Backs setup history (delivered_in how g k p)
delivered_in_backs setup history g backs Whole k p at = delivery_backs setup history g backs k p _ at refl
delivered_in_backs setup history g backs CutOff k p at = delivery_backs setup history g backs k p _ at refl
delivered_in_backs setup history g backs Missed k p at = delivery_backs setup history g backs k p _ at refl
delivered_in_backs setup history g backs Untouched k p at = backs

delivery_servers : (how : Ending) (g : Group) (k : ℕ) (p : Sent) → (delivered_in how g k p).servers ≡ g.servers
delivery_servers Whole g k p = refl
delivery_servers CutOff g k p = refl
delivery_servers Missed g k p = refl
delivery_servers Untouched g k p = refl

election_servers : (how : Ending) (g : Group) → (counted_election how g).servers ≡ g.servers
election_servers Whole g = refl
election_servers CutOff g = refl
election_servers Missed g = refl
election_servers Untouched g = refl

lost_servers : (g : Group) (k : ℕ) (o : Option Sent) → (lost g k o).servers ≡ g.servers
lost_servers g k None = refl
lost_servers g k (Some p) = refl

election_backs : (setup : Setup) (history : History) (g : Group) → Backs setup history g → (how : Ending) → Backs setup history (counted_election how g)
election_backs setup history g backs Whole = record { servers = backs.servers; packets = backs.packets }
election_backs setup history g backs CutOff = record { servers = backs.servers; packets = backs.packets }
election_backs setup history g backs Missed = backs
election_backs setup history g backs Untouched = backs

-- this step made the entry
made_now : (setup : Setup) (history : History) (h : Happening) → TookPlace (ending h.answer) → (i : ℕ) (e : Entry) (s : Server) → RunsAs (replay setup history) i s → Makes setup (replay setup history) i s h.event e → Made setup (history ++ h ∷ []) i e
made_now setup history h done i e s runs makes = record {
  done = done;
  earlier = history;
  making = h;
  is_earlier = record { rest = []; whole = append-nil (history ++ h ∷ []) };
  server = s;
  runs = runs;
  makes = makes;
}

submit_now : (setup : Setup) (history : History) (g : Group) → g ≡ replay setup history → (i : ℕ) (op : Op) (answer : Answer) → TookPlace (ending answer) → (s : Server) → slice_get g.servers i ≡ Some (Running s) → (l : Leader) → s.role ≡ Serving l → Doubtful setup (history ++ record { event = Submit i op; answer = answer } ∷ []) i (new_entry setup.names s l op)
submit_now setup history g is i op answer done s at l role =
    inr (made_now setup history (record { event = Submit i op; answer = answer }) done i _ s (ap (λ x. slice_get x.servers i) (sym is) ∙ at) (BySubmit op l role))

packet_brings : (setup : Setup) (history : History) (g : Group) → g ≡ replay setup history → (k : ℕ) (p : Sent) (answer : Answer) → TookPlace (ending answer) → slice_get g.packets k ≡ Some p → p.lost ≡ false → IsSaid setup history p.packet.body → (s : Server) → slice_get g.servers p.packet.to ≡ Some (Running s) → Brings s (Doubtful setup (history ++ record { event = Deliver k; answer = answer } ∷ []) p.packet.to) p.packet.term p.packet.body
packet_brings setup history g is k p answer done at not_lost said s runs = record {
  by_accept = λ e body. inl (proposal_longer setup history _ e (subst (IsSaid setup history) body said));
  by_vote = λ own vote body role term low slot above below.
      inr (made_now setup history (record { event = Deliver k; answer = answer }) done p.packet.to _ s (ap (λ x. slice_get x.servers p.packet.to) (sym is) ∙ runs) (ByMerge k p own vote slot (record {
        stands = role;
        was_sent = ap (λ x. slice_get x.packets k) (sym is) ∙ at;
        not_lost = not_lost;
        to_it = refl;
        in_term = term;
        is_vote = body;
        low = low;
      }) above below));
}

deliver_backs : (setup : Setup) (history : History) (g : Group) → g ≡ replay setup history → Backs setup history g → (k : ℕ) (answer : Answer) (o : Option Sent) → slice_get g.packets k ≡ o → packet_delivered setup (ending answer) g k o ≡ replay setup (history ++ record { event = Deliver k; answer = answer } ∷ []) → Backs setup (history ++ record { event = Deliver k; answer = answer } ∷ []) (packet_delivered setup (ending answer) g k o)
unfolding on_packet
deliver_backs setup history g is backs k answer None at now = unchanged setup history _ g (ap (λ x. x.servers) is) backs
deliver_backs setup history g is backs k answer (Some p) at now =
    let h : Happening = record { event = Deliver k; answer = answer } in
    let how = ending answer in
    let more = delivered_in how g k p in
    let step = at_server how more p.packet.to (λ s. on_packet setup s p.packet) in
    by_test p.lost (λ c. p.lost ≡ c → (if c then g else step) ≡ replay setup (history ++ h ∷ []) → Backs setup (history ++ h ∷ []) (if c then g else step))
    (λ _ _ _. unchanged setup history h g (ap (λ x. x.servers) is) backs)
    (λ _ kept after. at_server_backs setup history h more (delivery_servers how g k p ∙ ap (λ x. x.servers) is) (delivered_in_backs setup history g backs how k p at) how p.packet.to (λ s. on_packet setup s p.packet) after
    (λ s runs keyed done. message_stems s keyed (Doubtful setup (history ++ h ∷ []) p.packet.to) setup p.packet.from p.packet.term p.packet.body
    (packet_brings setup history g is k p answer done at kept (every_get (λ sent. IsSaid setup history sent.packet.body) g.packets k p backs.packets at) s (ap (λ x. slice_get x p.packet.to) (sym (delivery_servers how g k p)) ∙ runs)))) refl now

-- every event
happens_backs : (setup : Setup) (history : History) (g : Group) → g ≡ replay setup history → Backs setup history g → (event : Event) (answer : Answer) → happens setup g event (ending answer) ≡ replay setup (history ++ record { event = event; answer = answer } ∷ []) → Backs setup (history ++ record { event = event; answer = answer } ∷ []) (happens setup g event (ending answer))
unfolding happens
happens_backs setup history g is backs (Submit i op) answer now = at_server_backs setup history _ g (ap (λ x. x.servers) is) backs (ending answer) i (λ s. on_submit setup s op s.role) now
    (λ s at keyed done. submit_stems s keyed _ setup op s.role (submit_now setup history g is i op answer done s at))
happens_backs setup history g is backs (Fetch i range) answer now = at_server_backs setup history _ g (ap (λ x. x.servers) is) backs (ending answer) i (λ s. on_fetch s range g.reads s.role) now (λ s at keyed done. fetch_stems s keyed _ range g.reads s.role)
happens_backs setup history g is backs (Deliver k) answer now = deliver_backs setup history g is backs k answer (slice_get g.packets k) refl now
happens_backs setup history g is backs (Lose k) answer now =
    let h : Happening = record { event = Lose k; answer = answer } in
    only_backs setup history h g (ap (λ x. x.servers) is) backs (ending answer) (lost g k (slice_get g.packets k)) (unchanged setup history h (lost g k (slice_get g.packets k)) (lost_servers g k (slice_get g.packets k) ∙ ap (λ x. x.servers) is) (lost_backs setup history g backs k (slice_get g.packets k) refl))
happens_backs setup history g is backs (Elect i) answer now = at_server_backs setup history _ (counted_election (ending answer) g) (election_servers (ending answer) g ∙ ap (λ x. x.servers) is) (election_backs setup history g backs (ending answer)) (ending answer) i on_elect now (λ s at keyed done. elect_stems s keyed _)
happens_backs setup history g is backs (Resend i) answer now = at_server_backs setup history _ g (ap (λ x. x.servers) is) backs (ending answer) i (λ s. on_resend s s.role) now (λ s at keyed done. resend_stems s keyed _ s.role)
happens_backs setup history g is backs (Stop i) answer now = only_backs setup history _ g (ap (λ x. x.servers) is) backs (ending answer) _ (stop_backs setup history _ g (ap (λ x. x.servers) is) backs i (slice_get g.servers i) refl)
happens_backs setup history g is backs (Restart i found) answer now = restart_backs setup history _ g (ap (λ x. x.servers) is) backs (ending answer) i found (slice_get g.servers i) refl now
happens_backs setup history g is backs Claim answer now = only_backs setup history _ g (ap (λ x. x.servers) is) backs (ending answer) _ (claim_backs setup history _ g (ap (λ x. x.servers) is) backs setup.window (0 ∷ 1 ∷ 2 ∷ []))
happens_backs setup history g is backs (Finish i life slot) answer now = at_server_backs setup history _ g (ap (λ x. x.servers) is) backs (ending answer) i (λ s. on_finish s life slot) now (λ s at keyed done. finish_stems s keyed _ life slot)
happens_backs setup history g is backs (GiveBack i life slot) answer now = at_server_backs setup history _ g (ap (λ x. x.servers) is) backs (ending answer) i (λ s. on_give_back s life slot) now (λ s at keyed done. give_back_stems s keyed _ life slot)
happens_backs setup history g is backs (Checkpoint i) answer now = at_server_backs setup history _ g (ap (λ x. x.servers) is) backs (ending answer) i on_checkpoint now (λ s at keyed done. checkpoint_stems s keyed _)

opening_backs : (setup : Setup) → Backs setup [] (opening setup)
unfolding opening first_leader restarted opening_disk
opening_backs setup = record { servers = each; packets = tt }
  where
    starts : (i : ℕ) (s : Server) → IsBacked setup [] i (Running s) → IsBacked setup [] i (unless_failed setup i s)
    starts i s is = by_test (list_any (λ j. j == i) setup.failed) (λ c. IsBacked setup [] i (if c then Unformatted else Running s)) (λ _. tt) (λ _. is)

    each : (i : ℕ) (c : Condition) → slice_get (opening setup).servers i ≡ Some c → IsBacked setup [] i c
    each zero c at = subst (IsBacked setup [] 0) (same_Some _ c at) (starts 0 (first_leader setup) (has_empty _, tt, refl))
    each (suc zero) c at = subst (IsBacked setup [] 1) (same_Some _ c at) (starts 1 (restarted 1 0 (opening_disk setup)) (has_empty _, tt, refl))
    each (suc (suc zero)) c at = subst (IsBacked setup [] 2) (same_Some _ c at) (starts 2 (restarted 2 0 (opening_disk setup)) (has_empty _, tt, refl))
    each (suc (suc (suc i))) c at = absurd (none-some c at)

backs_from : (setup : Setup) (rest done : History) → Backs setup done (replay setup done) → Backs setup (done ++ rest) (replay setup (done ++ rest))
backs_from setup [] done backs = subst (λ hs. Backs setup hs (replay setup hs)) (sym (append-nil done)) backs
backs_from setup (h ∷ hs) done backs =
    let longer_is = run_longer setup (opening setup) done h in
    let next = subst (Backs setup (done ++ h ∷ [])) (sym longer_is) (happens_backs setup done (replay setup done) refl backs h.event h.answer (sym longer_is)) in
    subst (λ x. Backs setup x (replay setup x)) (append_assoc done (h ∷ []) hs) (backs_from setup hs (done ++ h ∷ []) next)

-- at every moment, entries in logs and in packets are proposals
pub backs_all : (setup : Setup) (history : History) → Backs setup history (replay setup history)
backs_all setup history = backs_from setup history [] (opening_backs setup)

-- what a server accepted is a proposal
pub accepted_proposed : (setup : Setup) (history : History) (i : ℕ) (e : Entry) → HasAccepted setup history i e → IsProposal setup history e
accepted_proposed setup history i e a =
    let now = (backs_all setup a.earlier).servers i (Running a.holds.server) a.holds.runs in
    stays a.is_earlier.rest (now.0.each e.slot e a.holds.held)
  where
    later : (rest done : History) → IsProposal setup done e → IsProposal setup (done ++ rest) e
    later [] done p = subst (λ hs. IsProposal setup hs e) (sym (append-nil done)) p
    later (h ∷ hs) done p = subst (λ x. IsProposal setup x e) (append_assoc done (h ∷ []) hs) (later hs (done ++ h ∷ []) (proposal_longer setup done h e p))

    stays : (rest : History) → IsProposal setup a.earlier e → IsProposal setup history e
    stays rest p = subst (λ x. IsProposal setup x e) a.is_earlier.whole (later a.is_earlier.rest a.earlier p)
