-- Every event keeps them, and so does a restart from any state with few starts.
use Rattle.std.proofs.Common.{◌≡◌, ℕ, suc, ◌+◌, ◌-◌, ◌<◌, ◌≤◌, ◌≢◌, ◌⊎◌, inl, inr, Bool, true, false, cond, not, ◌&&◌, ◌||◌, ◌==◌, if◌then◌else◌, List, [], ◌∷◌, length, Option, Some, None, nat_lt, nat_le, slice_get, slice_set, arith, refl, sym, ap, subst, ◌∙◌}
use Rattle.std.specs.List.{list_any, range_with_len, flat_map, filter}
use Rattle.std.specs.FinMap
use Rattle.std.specs.FinMap.{get-empty, len-remove, len-entries}
use Rattle.std.proofs.lemmas.List.{length-map}
use Rattle.std.specs.Cmp.{nat_cmp_total}
use Rattle.std.specs.Ordering.{nat_cmp, eq_by_cmp}
use Rattle.std.proofs.lemmas.Bool.{leb-true, and_parts, or_cases, or_left, or_right, false≢true}
use Rattle.std.proofs.lemmas.Option.{same_Some, none-some}
use Rattle.pf_base.specs.Span.{Span}
use Rattle.pf_entry.specs.Maps.{Map, Numbers}
use Rattle.pf_entry.specs.Sets
use Rattle.pf_entry.proofs.Sets.{contains-insert}
use Rattle.pf_entry.specs.Lists.{Every}
use Rattle.pf_entry.proofs.Lists.{every_append, every_more, every_map, every_filter, every_flat_map, every_flat_map_from, every_range, every_of_all, every_get, every_set, set_cases}
use Rattle.pf_entry.proofs.Maps.{insert_cases, key_there, remove_cases, get_above}
use Rattle.pf_entry.specs.Records.{Durable, stored, put_entry, add_start, add_merged_start, above, vote_of, image_of, holds}
use Rattle.pf_entry.specs.Merging.{merged_first, merged_entry, merged_entries}
use Rattle.pf_entry.proofs.MergedEntries.{base_below_first}
use Rattle.pf_entry.specs.Ops.{Sector}
use Rattle.pf_entry.specs.declared.ops.Op.{Op}
use Rattle.pf_entry.specs.declared.entries.Entry.{Entry}
use Rattle.pf_entry.specs.declared.entries.VoteLog.{VoteLog}
use Rattle.pf_entry.specs.declared.packets.Packet.{Packet}
use Rattle.pf_entry.specs.declared.packets.Body.{Body}
use Rattle.pf_entry.specs.declared.packets.Body.TheVariants.{RequestVote, Vote, Accept, Ack, Nack, Commit, Probe, ProbeOk, Image}
use Rattle.pf_protocol.specs.declared.events.Event.{Event}
use Rattle.pf_protocol.specs.declared.events.Event.TheVariants.{Submit, Fetch, Deliver, Lose, Elect, Resend, Stop, Restart, Claim, Finish, GiveBack, Checkpoint}
use Rattle.pf_protocol.specs.Servers.{Setup, Leader, Role, Follower, Candidate, Merging, Serving, Server, Condition, Running, Stopped, Unformatted, upto, has_applied}
use Rattle.pf_protocol.specs.Outcomes.{Outcome, to_one, to_others, other_servers, sends, raise_term}
use Rattle.pf_protocol.specs.Leading.{new_entry, submitted, on_submit, on_fetch, on_elect, resent_entry, resent, on_resend, led, merged, on_vote, has_acked, knows, is_own, commit_to, counted, commit_own, commit, still_merging, other_acked, on_ack, on_probe_ok, op_at}
use Rattle.pf_protocol.specs.Following.{meets_term, on_request_vote, accepted, on_accept, on_nack, on_commit, on_probe, installed, on_image}
use Rattle.pf_protocol.specs.Saving.{renewed, restarted, claimed, claimable, is_claimable, is_short_of, trimmed, on_checkpoint, applied_op, on_finish, on_give_back}
use Rattle.pf_protocol.specs.Rows.{on_message, on_packet, settled}
use Rattle.pf_protocol.specs.Groups.{Sent, Group, Ending, Whole, CutOff, Missed, Untouched, send, acted, cut_off, step_ended, server_step_of, at_server, with_sent, delivered_in, packet_delivered, lost, stopped, server_begun, restart, least_claim, claim_at, claim_or, first_claim, only_whole, counted_election, happens}
use Rattle.pf_protocol.specs.Elected.{IsTermAmong, FewBeside, IsElected, HoldsOwn, KeepsTerms, ConditionKeeps, BodyKeeps, GroupKeeps}
use Rattle.pf_entry.proofs.Cases.{by_test}
use Rattle.pf_entry.proofs.Ranges.{range_has}
use Rattle.pf_protocol.proofs.ChosenKnown.{retained, applied_to_upto, tied_same}
use Rattle.pf_protocol.proofs.Rows.{base_below_upto}
use Rattle.pf_entry.proofs.MapSizes.{few_keys}

-- a map whose keys are all in two lists has no more entries than they
one_more : (b : Bool) (len less k : ℕ) → less ≡ cond b (len - 1) len → less ≤ k → len ≤ suc k
one_more true len less k is low = omega arith
one_more false len less k is low = omega arith

pub few_among : {X : Type 0} → (xs ys : List ℕ) (m : Map X) → ((q : ℕ) (x : X) → FinMap.get m q ≡ Some x → IsTermAmong q xs ⊎ IsTermAmong q ys) → FinMap.len m ≤ length xs + length ys
few_among [] [] m each = omega (arith, few_keys 0 0 m (λ q x at. elim (each q x at) [ inl none ↦ absurd none | inr none ↦ absurd none ]))
few_among [] (y ∷ ys) m each =
    let less = FinMap.remove m y in
    let rest = few_among [] ys less (λ q x at. let r = remove_cases m y q x at in elim (each q x r.1) [
      | inl none ↦ absurd none
      | inr some ↦ elim some [ inl same ↦ absurd (r.0 same) | inr more ↦ inr more ]
    ]) in
    omega (arith, one_more (FinMap.contains_key m y) (FinMap.len m) (FinMap.len less) (length ys) (len-remove nat_cmp_total m y) (omega (arith, rest)))
few_among (y ∷ xs) ys m each =
    let less = FinMap.remove m y in
    let rest = few_among xs ys less (λ q x at. let r = remove_cases m y q x at in elim (each q x r.1) [
      | inl some ↦ elim some [ inl same ↦ absurd (r.0 same) | inr more ↦ inl more ]
      | inr some ↦ inr some
    ]) in
    omega (arith, one_more (FinMap.contains_key m y) (FinMap.len m) (FinMap.len less) (length xs + length ys) (len-remove nat_cmp_total m y) rest)

pub few_starts_beside : (terms : List ℕ) (starts : Map ℕ) → FewBeside terms starts → FinMap.len starts ≤ 65 + length terms
few_starts_beside terms starts f = omega (arith, f.few, few_among f.others terms starts f.each)

any_among : (q : ℕ) (xs : List ℕ) → list_any (eq_by_cmp nat_cmp q) xs ≡ true → IsTermAmong q xs
any_among q [] is = absurd (false≢true is)
any_among q (x ∷ xs) is = elim (or_cases _ _ is) [ inl here ↦ inl (tied_same q x here) | inr there ↦ inr (any_among q xs there) ]

-- with one more term
module _ (term : ℕ) (terms : List ℕ) where
  few_more : (starts : Map ℕ) → FewBeside terms starts → FewBeside (term ∷ terms) starts
  few_more starts f = record { others = f.others; few = f.few; each = λ t first at. elim (f.each t first at) [ inl it ↦ inl it | inr it ↦ inr (inr it) ] }

  elected_more : (t : ℕ) (role : Role) → IsElected terms t role → IsElected (term ∷ terms) t role
  elected_more t Follower is = tt
  elected_more t (Candidate own) is = (inr is.0, few_more own.starts is.1)
  elected_more t (Merging l) is = inr is
  elected_more t (Serving l) is = inr is

  condition_more : (i : ℕ) (c : Condition) → ConditionKeeps terms i c → ConditionKeeps (term ∷ terms) i c
  condition_more i (Running s) k = record { number = k.number; few = few_more s.durable.starts k.few; elected = elected_more s.durable.term s.role k.elected; own = k.own; unapplied = k.unapplied }
  condition_more i (Stopped life before after) k = (few_more before.starts k.0, few_more after.starts k.1)
  condition_more i Unformatted k = k

  body_more : (b : Body) → BodyKeeps terms b → BodyKeeps (term ∷ terms) b
  body_more (RequestVote base) k = tt
  body_more (Vote v) k = few_more v.starts k
  body_more (Accept e) k = inr k
  body_more (Ack slot upto_there) k = tt
  body_more Nack k = tt
  body_more (Commit slot) k = tt
  body_more (Probe number) k = tt
  body_more (ProbeOk number upto_there) k = tt
  body_more (Image base applied sectors) k = tt

  pub group_more : (g : Group) → GroupKeeps terms g → GroupKeeps (term ∷ terms) g
  group_more g k = record { servers = λ i c at. condition_more i c (k.servers i c at); packets = every_more (λ sent. BodyKeeps terms sent.packet.body) (λ sent. BodyKeeps (term ∷ terms) sent.packet.body) (λ sent is. body_more sent.packet.body is) g.packets k.packets }

not_so : (b : Bool) → (b ≡ true → ⊥) → b ≡ false
not_so true never = absurd (never refl)
not_so false never = refl

module _ (terms : List ℕ) where
  -- few starts are the others of a state from which a server begins
  pub few_in : (starts : Map ℕ) → FinMap.len starts ≤ 65 → FewBeside terms starts
  few_in starts few = record {
    others = FinMap.keys starts;
    few = omega (arith, few, length-map (FinMap.entries starts) (λ x. x.0), len-entries starts);
    each = λ t first at. inl (any_among t (FinMap.keys starts) (key_there starts t first at));
  }

  -- a step keeps them, and what it sends
  pub record Does (i : ℕ) (o : Outcome) : Type 0 where
    pub server : KeepsTerms terms i o.server
    pub packets : Every (λ p. BodyKeeps terms p.body) o.packets

  either_does : (i : ℕ) (c : Bool) (x y : Outcome) → (c ≡ true → Does i x) → (c ≡ false → Does i y) → Does i (if c then x else y)
  either_does i true x y f g = f refl
  either_does i false x y f g = g refl

  started : (starts : Map ℕ) (term first : ℕ) → IsTermAmong term terms → FewBeside terms starts → FewBeside terms (add_start starts term first)
  unfolding add_start
  started starts term first among f = record {
    others = f.others;
    few = f.few;
    each = λ t at_first at. elim (insert_cases starts term first t at_first at) [
      | inl here ↦ inr (subst (λ k. IsTermAmong k terms) (sym here.0) among)
      | inr there ↦ f.each t at_first there.1
    ];
  }

  started_merged : (starts : Map ℕ) (term first : ℕ) (es : List Entry) → IsTermAmong term terms → FewBeside terms starts → FewBeside terms (add_merged_start starts term first es)
  unfolding add_merged_start
  started_merged starts term first [] among f = f
  started_merged starts term first (e ∷ es) among f = started starts term first among f

  quiet_to_others : (z : Server) (body : Body) → BodyKeeps terms body → Every (λ p. BodyKeeps terms p.body) (to_others z body)
  quiet_to_others z body is = every_map (λ p. BodyKeeps terms p.body) (λ j. to_one z j body) (other_servers z.number) (every_of_all (λ _. BodyKeeps terms body) (other_servers z.number) (λ _. is))

  module _ (i : ℕ) (s : Server) (k : KeepsTerms terms i s) where
    -- what keeps the durable state, the role, the applied slots and the jobs
    like : (z : Server) → z.number ≡ s.number → z.durable ≡ s.durable → z.role ≡ s.role → z.applied ≡ s.applied → z.in_hand ≡ s.in_hand → KeepsTerms terms i z
    like z number durable role applied jobs = record {
      number = number ∙ k.number;
      few = subst (λ d. FewBeside terms d.starts) (sym durable) k.few;
      elected = subst (λ r. IsElected terms z.durable.term r) (sym role) (subst (λ d. IsElected terms d.term s.role) (sym durable) k.elected);
      own = λ l is. subst (λ d. HoldsOwn d l) (sym durable) (k.own l (elim is [ inl m ↦ inl (sym role ∙ m) | inr m ↦ inr (sym role ∙ m) ]));
      unapplied = λ slot op at. ap (λ d. nat_le slot d.base || Sets.contains z.applied slot) durable ∙ ap (λ a. nat_le slot s.durable.base || Sets.contains a slot) applied ∙ k.unapplied slot op (ap (λ m. FinMap.get m slot) (sym jobs) ∙ at);
    }

    itself : KeepsTerms terms i s
    itself = k

    still : (packets : List Packet) (o : Outcome) → o.server ≡ s → o.packets ≡ packets → Every (λ p. BodyKeeps terms p.body) packets → Does i o
    still packets o same sent each = record { server = subst (KeepsTerms terms i) (sym same) k; packets = subst (Every (λ p. BodyKeeps terms p.body)) (sym sent) each }

    -- a follower
    falls : (z : Server) → z.number ≡ s.number → z.role ≡ Follower → FewBeside terms z.durable.starts → z.durable.base ≡ s.durable.base → z.applied ≡ s.applied → z.in_hand ≡ s.in_hand → KeepsTerms terms i z
    falls z number role few base applied jobs = record {
      number = number ∙ k.number;
      few = few;
      elected = subst (IsElected terms z.durable.term) (sym role) tt;
      own = λ l is. elim is [ inl m ↦ absurd (apart_merging l (sym role ∙ m)) | inr m ↦ absurd (apart_serving l (sym role ∙ m)) ];
      unapplied = λ slot op at. ap (λ b. nat_le slot b || Sets.contains z.applied slot) base ∙ ap (λ a. nat_le slot s.durable.base || Sets.contains a slot) applied ∙ k.unapplied slot op (ap (λ m. FinMap.get m slot) (sym jobs) ∙ at);
    }
      where
        apart_merging : (l : Leader) → Follower ≡ Merging l → ⊥
        apart_merging l e = grind (arith, e)

        apart_serving : (l : Leader) → Follower ≡ Serving l → ⊥
        apart_serving l e = grind (arith, e)

    raised : (term : ℕ) → KeepsTerms terms i (raise_term s term)
    unfolding stored
    raised term = falls (raise_term s term) refl refl k.few refl refl refl

    met : (term : ℕ) → KeepsTerms terms i (meets_term s term)
    met term = by_test (nat_lt s.durable.term term) (λ c. KeepsTerms terms i (if c then raise_term s term else s)) (λ _. raised term) (λ _. k)

    -- Submit
    submit_does : (setup : Setup) (op : Op) (role : Role) → s.role ≡ role → Does i (on_submit setup s op role)
    unfolding on_submit submitted new_entry stored put_entry
    submit_does setup op Follower is = still [] _ refl refl tt
    submit_does setup op (Candidate own) is = still [] _ refl refl tt
    submit_does setup op (Merging l) is = still [] _ refl refl tt
    submit_does setup op (Serving l) is =
        let among : IsTermAmong s.durable.term terms = subst (IsElected terms s.durable.term) is k.elected in
        either_does i (nat_lt (s.durable.base + setup.window) l.next) _ _ (λ _. still [] _ refl refl tt) (λ _. record {
          server = record {
            number = k.number;
            few = started s.durable.starts s.durable.term l.first among k.few;
            elected = among;
            own = λ m now slot e low high at.
                let next : m.next ≡ suc l.next = elim now [ inl not_so ↦ absurd (apart m not_so) | inr so ↦ sym (ap next_of so) ] in
                elim (insert_cases s.durable.log l.next (new_entry setup.names s l op) slot e at) [
                  | inl here ↦ ap (λ (x : Entry). x.term) (sym here.1)
                  | inr there ↦ k.own l (inr is) slot e low (omega (arith, high, next, there.0)) there.1
                ];
            unapplied = k.unapplied;
          };
          packets = quiet_to_others s (Accept (new_entry setup.names s l op)) among;
        })
      where
        apart : {a : Leader} (m : Leader) → Serving a ≡ Merging m → ⊥
        apart m e = grind (arith, e)

        next_of : Role → ℕ
        next_of (Serving a) = a.next
        next_of Follower = 0
        next_of (Candidate own) = 0
        next_of (Merging a) = 0

    -- Fetch
    fetch_does : (range : Span) (number : ℕ) (role : Role) → s.role ≡ role → Does i (on_fetch s range number role)
    unfolding on_fetch
    fetch_does range number Follower is = still [] _ refl refl tt
    fetch_does range number (Candidate own) is = still [] _ refl refl tt
    fetch_does range number (Merging l) is = still [] _ refl refl tt
    fetch_does range number (Serving l) is = record { server = like _ refl refl refl refl refl; packets = quiet_to_others s (Probe number) tt }

    -- Resend
    entry_sent : (l : Leader) (to slot : ℕ) → ((e : Entry) → FinMap.get s.durable.log slot ≡ Some e → IsTermAmong e.term terms) → (o : Option Entry) → FinMap.get s.durable.log slot ≡ o → Every (λ p. BodyKeeps terms p.body) (resent_entry s l to o slot)
    entry_sent l to slot own None at = tt
    entry_sent l to slot own (Some e) at =
        by_test (not (has_acked l to slot)) (λ c. Every (λ p. BodyKeeps terms p.body) (if c then to_one s to (Accept e) ∷ [] else (if nat_lt (knows l to) slot then to_one s to (Commit slot) ∷ [] else [])))
        (λ _. (own e at, tt))
        (λ _. by_test (nat_lt (knows l to) slot) (λ c. Every (λ p. BodyKeeps terms p.body) (if c then to_one s to (Commit slot) ∷ [] else [])) (λ _. (tt, tt)) (λ _. tt))

    all_sent : (l : Leader) → IsTermAmong s.durable.term terms → HoldsOwn s.durable l → (to : ℕ) → Every (λ p. BodyKeeps terms p.body) (resent s l to)
    unfolding resent
    all_sent l among own to =
        let P : Packet → Type 0 = λ p. BodyKeeps terms p.body in
        every_append P _ _
        (every_append P (if nat_lt (knows l to) s.durable.base then to_one s to (Image s.durable.base s.applied s.sectors) ∷ [] else []) _
        (by_test (nat_lt (knows l to) s.durable.base) (λ c. Every P (if c then to_one s to (Image s.durable.base s.applied s.sectors) ∷ [] else [])) (λ _. (tt, tt)) (λ _. tt))
        (every_flat_map_from (λ slot. (s.durable.base < slot) × (slot < l.next)) P (λ slot. resent_entry s l to (FinMap.get s.durable.log slot) slot) (range_with_len (suc s.durable.base) (l.next - suc s.durable.base))
        (λ slot x. entry_sent l to slot (λ e at. subst (λ t. IsTermAmong t terms) (sym (own slot e x.0 x.1 at)) among) (FinMap.get s.durable.log slot) refl)
        (every_range (λ slot. (s.durable.base < slot) × (slot < l.next)) (l.next - suc s.durable.base) (suc s.durable.base) (λ slot low high. (omega (arith, low), omega (arith, low, high))))))
        (every_map P (λ r. to_one s to (Probe r.number)) (filter (λ r. not r.confirmed) s.reads) (every_of_all (λ r. P (to_one s to (Probe r.number))) (filter (λ r. not r.confirmed) s.reads) (λ r. tt)))

    each_sent : (l : Leader) → IsTermAmong s.durable.term terms → HoldsOwn s.durable l → Every (λ p. BodyKeeps terms p.body) (flat_map (resent s l) (other_servers s.number))
    each_sent l among own = every_flat_map (λ p. BodyKeeps terms p.body) (resent s l) (other_servers s.number) (all_sent l among own)

    resend_does : (role : Role) → s.role ≡ role → Does i (on_resend s role)
    unfolding on_resend
    resend_does Follower is = record { server = k; packets = quiet_to_others s (Ack s.durable.base (upto s)) tt }
    resend_does (Candidate own) is = record { server = k; packets = quiet_to_others s (RequestVote s.durable.base) tt }
    resend_does (Merging l) is = record { server = k; packets = each_sent l (subst (IsElected terms s.durable.term) is k.elected) (k.own l (inl is)) }
    resend_does (Serving l) is = record { server = k; packets = each_sent l (subst (IsElected terms s.durable.term) is k.elected) (k.own l (inr is)) }

    -- Vote
    in_its_slot : (own vote : VoteLog) (slot : ℕ) → (merged_entry s.durable.term s.durable.base own vote slot).slot ≡ slot
    unfolding merged_entry
    in_its_slot own vote slot = refl

    in_its_term : (own vote : VoteLog) (slot : ℕ) → (merged_entry s.durable.term s.durable.base own vote slot).term ≡ s.durable.term
    unfolding merged_entry
    in_its_term own vote slot = refl

    leads_from : (own vote : VoteLog) → IsTermAmong s.durable.term terms → (role : Role) → (l : Leader) → (role ≡ Merging l) ⊎ (role ≡ Serving l) → l.next ≡ merged_first s.durable.base own vote → HoldsOwn (stored s.durable (Rattle.pf_entry.specs.declared.records.Record.TheVariants.Merged s.durable.term (merged_first s.durable.base own vote) (merged_entries s.durable.term s.durable.base own vote))) l
    unfolding stored merged_entries
    leads_from own vote among role l is next slot e low high at =
        let first = merged_first s.durable.base own vote in
        let up = base_below_first s.durable.base own vote in
        let has = range_has (merged_entry s.durable.term s.durable.base own vote) (in_its_slot own vote) (first - suc s.durable.base) (suc s.durable.base) s.durable.log slot (omega (arith, low)) (omega (arith, high, next, up)) in
        ap (λ (x : Entry). x.term) (same_Some e (merged_entry s.durable.term s.durable.base own vote slot) (sym at ∙ has)) ∙ in_its_term own vote slot

    all_own : (own vote : VoteLog) → IsTermAmong s.durable.term terms → Every (λ e. IsTermAmong e.term terms) (merged_entries s.durable.term s.durable.base own vote)
    unfolding merged_entries
    all_own own vote among = every_map (λ e. IsTermAmong e.term terms) (merged_entry s.durable.term s.durable.base own vote) _ (every_of_all (λ slot. IsTermAmong (merged_entry s.durable.term s.durable.base own vote slot).term terms) _ (λ slot. subst (λ t. IsTermAmong t terms) (sym (in_its_term own vote slot)) among))

    led_so : (own vote : VoteLog) → IsTermAmong s.durable.term terms → (role : Role) → IsElected terms s.durable.term role → ((l : Leader) → (role ≡ Merging l) ⊎ (role ≡ Serving l) → l.next ≡ merged_first s.durable.base own vote)
        → KeepsTerms terms i (record (record s { durable = stored s.durable (Rattle.pf_entry.specs.declared.records.Record.TheVariants.Merged s.durable.term (merged_first s.durable.base own vote) (merged_entries s.durable.term s.durable.base own vote)) }) { role = role })
    unfolding stored
    led_so own vote among role elected next = record {
      number = k.number;
      few = started_merged s.durable.starts s.durable.term (merged_first s.durable.base own vote) (merged_entries s.durable.term s.durable.base own vote) among k.few;
      elected = elected;
      own = λ l is. leads_from own vote among role l is (next l is);
      unapplied = k.unapplied;
    }

    abbrev leader_next : Role → ℕ
    leader_next (Serving a) = a.next
    leader_next Follower = 0
    leader_next (Candidate mine) = 0
    leader_next (Merging a) = a.next

    merging_next : (own vote : VoteLog) (l : Leader) → Merging (led s.durable.base (merged_first s.durable.base own vote) (merged_first s.durable.base own vote) s.number) ≡ Merging l → l.next ≡ merged_first s.durable.base own vote
    unfolding led
    merging_next own vote l e = sym (ap leader_next e)

    serving_next : (own vote : VoteLog) (l : Leader) → Serving (led s.durable.base (merged_first s.durable.base own vote) (merged_first s.durable.base own vote) s.number) ≡ Serving l → l.next ≡ merged_first s.durable.base own vote
    unfolding led
    serving_next own vote l e = sym (ap leader_next e)

    not_serving : {a : Leader} (l : Leader) → Merging a ≡ Serving l → ⊥
    not_serving l e = grind (arith, e)

    not_merging : {a : Leader} (l : Leader) → Serving a ≡ Merging l → ⊥
    not_merging l e = grind (arith, e)

    merge_does : (own vote : VoteLog) → IsTermAmong s.durable.term terms → Does i (sends (merged s own vote) (flat_map (λ e. to_others s (Accept e)) (merged_entries s.durable.term s.durable.base own vote)))
    unfolding merged led
    merge_does own vote among =
        let first = merged_first s.durable.base own vote in
        let es = merged_entries s.durable.term s.durable.base own vote in
        record {
          server = by_test (nat_lt (suc s.durable.base) first)
              (λ c. KeepsTerms terms i (record (record s { durable = stored s.durable (Rattle.pf_entry.specs.declared.records.Record.TheVariants.Merged s.durable.term first es) }) { role = if c then Merging (led s.durable.base first first s.number) else Serving (led s.durable.base first first s.number) }))
              (λ _. led_so own vote among (Merging (led s.durable.base first first s.number)) among (λ l is. elim is [ inl m ↦ merging_next own vote l m | inr m ↦ absurd (not_serving l m) ]))
              (λ _. led_so own vote among (Serving (led s.durable.base first first s.number)) among (λ l is. elim is [ inl m ↦ absurd (not_merging l m) | inr m ↦ serving_next own vote l m ]));
          packets = every_flat_map_from (λ e. IsTermAmong e.term terms) (λ p. BodyKeeps terms p.body) (λ e. to_others s (Accept e)) es (λ e x. quiet_to_others s (Accept e) x) (all_own own vote among);
        }

    vote_does : (term : ℕ) (vote : VoteLog) (role : Role) → s.role ≡ role → Does i (on_vote s term vote role)
    unfolding on_vote
    vote_does term vote Follower is = still [] _ refl refl tt
    vote_does term vote (Merging l) is = still [] _ refl refl tt
    vote_does term vote (Serving l) is = still [] _ refl refl tt
    vote_does term vote (Candidate own) is =
        let x : IsTermAmong s.durable.term terms × FewBeside terms own.starts = subst (IsElected terms s.durable.term) is k.elected in
        either_does i (term == s.durable.term && nat_le vote.base s.durable.base) _ _ (λ _. merge_does own vote x.0) (λ _. still [] _ refl refl tt)

    -- Accept
    accept_does : (setup : Setup) (from : ℕ) (e : Entry) → IsTermAmong e.term terms → Does i (on_accept setup s from e)
    unfolding on_accept accepted stored
    accept_does setup from e among =
        either_does i (nat_lt e.term s.durable.term) _ _ (λ _. record { server = k; packets = (tt, tt) }) (λ _.
        either_does i (nat_le e.slot s.durable.base) _ _ (λ _. record { server = met e.term; packets = (tt, tt) }) (λ _.
        either_does i (nat_lt (s.durable.base + setup.window) e.slot) _ _ (λ _. still [] _ refl refl tt) (λ _.
        either_does i (holds s.durable e.slot e.term) _ _ (λ _. record { server = k; packets = (tt, tt) }) (λ _.
        record { server = falls _ refl refl (started s.durable.starts e.term e.first among k.few) refl refl refl; packets = (tt, tt) }))))

    -- Ack
    leading : (l m : Leader) → m.next ≡ l.next → HoldsOwn s.durable l → HoldsOwn s.durable m
    leading l m same own slot e low high at = own slot e low (omega (arith, high, same)) at

    -- a leader goes on with the same next slot
    goes_on : (z : Server) (l m : Leader) → z.number ≡ s.number → z.durable ≡ s.durable → z.applied ≡ s.applied → z.in_hand ≡ s.in_hand → (s.role ≡ Merging l) ⊎ (s.role ≡ Serving l) → (z.role ≡ Merging m) ⊎ (z.role ≡ Serving m) → m.next ≡ l.next → KeepsTerms terms i z
    goes_on z l m number durable applied jobs was is next =
        let among : IsTermAmong s.durable.term terms = elim was [ inl x ↦ subst (IsElected terms s.durable.term) x k.elected | inr x ↦ subst (IsElected terms s.durable.term) x k.elected ] in
        record {
          number = number ∙ k.number;
          few = subst (λ d. FewBeside terms d.starts) (sym durable) k.few;
          elected = elim is [ inl x ↦ subst (IsElected terms z.durable.term) (sym x) (now among) | inr x ↦ subst (IsElected terms z.durable.term) (sym x) (now among) ];
          own = λ a now_leads. subst (λ d. HoldsOwn d a) (sym durable) (leading l a (same_next a now_leads ∙ next) (k.own l was));
          unapplied = λ slot op at. ap (λ d. nat_le slot d.base || Sets.contains z.applied slot) durable ∙ ap (λ a. nat_le slot s.durable.base || Sets.contains a slot) applied ∙ k.unapplied slot op (ap (λ x. FinMap.get x slot) (sym jobs) ∙ at);
        }
      where
        now : IsTermAmong s.durable.term terms → IsTermAmong z.durable.term terms
        now among = subst (λ d. IsTermAmong d.term terms) (sym durable) among

        next_of : Role → ℕ
        next_of (Serving a) = a.next
        next_of Follower = 0
        next_of (Candidate mine) = 0
        next_of (Merging a) = a.next

        same_next : (a : Leader) → (z.role ≡ Merging a) ⊎ (z.role ≡ Serving a) → a.next ≡ m.next
        same_next a leads =
            elim leads [
              | inl x ↦ elim is [ inl y ↦ ap next_of (sym x ∙ y) | inr y ↦ ap next_of (sym x ∙ y) ]
              | inr x ↦ elim is [ inl y ↦ ap next_of (sym x ∙ y) | inr y ↦ ap next_of (sym x ∙ y) ]
            ]

    committed_sent : (l : Leader) (from slot : ℕ) → Every (λ p. BodyKeeps terms p.body) (commit_to s l from slot)
    committed_sent l from slot = by_test (is_own l slot) (λ c. Every (λ p. BodyKeeps terms p.body) (if c then to_one s from (Commit slot) ∷ [] else [])) (λ _. (tt, tt)) (λ _. tt)

    counted_next : (l : Leader) (from slot upto_there : ℕ) → (counted l from slot upto_there).next ≡ l.next
    unfolding counted
    counted_next l from slot upto_there = refl

    ack_does : (from term slot upto_there : ℕ) (role : Role) → s.role ≡ role → Does i (on_ack s from term slot upto_there role)
    unfolding on_ack commit_own
    ack_does from term slot upto_there Follower is = still [] _ refl refl tt
    ack_does from term slot upto_there (Candidate own) is = still [] _ refl refl tt
    ack_does from term slot upto_there (Merging l) is = either_does i (term == s.durable.term) _ _
        (λ _. record {
          server = goes_on _ l (counted l from slot upto_there) refl refl refl refl (inl is) (after (counted l from slot upto_there)) (counted_next l from slot upto_there);
          packets = committed_sent l from slot;
        })
        (λ _. still [] _ refl refl tt)
      where
        after : (m : Leader) → (still_merging s m ≡ Merging m) ⊎ (still_merging s m ≡ Serving m)
        after m = by_test (Rattle.std.specs.List.list_all (other_acked m s.number) (range_with_len (suc m.b0) (m.first - suc m.b0))) (λ c. ((if c then Serving m else Merging m) ≡ Merging m) ⊎ ((if c then Serving m else Merging m) ≡ Serving m)) (λ _. inr refl) (λ _. inl refl)
    ack_does from term slot upto_there (Serving l) is = either_does i (term == s.durable.term) _ _
        (λ _. record { server = goes_on _ l (counted l from slot upto_there) refl refl refl refl (inr is) (inr refl) (counted_next l from slot upto_there); packets = committed_sent l from slot })
        (λ _. still [] _ refl refl tt)

    probe_ok_does : (from term number upto_there : ℕ) (role : Role) → s.role ≡ role → Does i (on_probe_ok s from term number upto_there role)
    unfolding on_probe_ok
    probe_ok_does from term number upto_there Follower is = still [] _ refl refl tt
    probe_ok_does from term number upto_there (Candidate own) is = still [] _ refl refl tt
    probe_ok_does from term number upto_there (Merging l) is = still [] _ refl refl tt
    probe_ok_does from term number upto_there (Serving l) is = either_does i (term == s.durable.term) _ _
        (λ _. record { server = goes_on _ l _ refl refl refl refl (inr is) (inr refl) refl; packets = tt })
        (λ _. still [] _ refl refl tt)

    -- Image
    installed_does : (from term base : ℕ) (applied : Numbers) (sectors : List Sector) → KeepsTerms terms i (installed s term base applied sectors)
    unfolding installed stored
    installed_does from term base applied sectors = record {
      number = k.number;
      few = k.few;
      elected = tt;
      own = λ l is. elim is [ inl m ↦ absurd (grind (arith, m)) | inr m ↦ absurd (grind (arith, m)) ];
      unapplied = λ slot op at. absurd (none-some op (sym (get-empty nat_cmp slot) ∙ at));
    }

    message_does : (setup : Setup) (from term : ℕ) (body : Body) → BodyKeeps terms body → Does i (on_message setup s from term body)
    unfolding on_message on_request_vote on_nack on_commit commit on_probe on_image
    message_does setup from term (RequestVote base) is = either_does i (nat_le term s.durable.term || nat_lt base s.durable.base) _ _ (λ _. record { server = k; packets = (tt, tt) }) (λ _. record { server = raised term; packets = (k.few, tt) })
    message_does setup from term (Vote vote) is = vote_does term vote s.role refl
    message_does setup from term (Accept e) is = accept_does setup from e is
    message_does setup from term (Ack slot upto_there) is = ack_does from term slot upto_there s.role refl
    message_does setup from term Nack is = record { server = met term; packets = tt }
    message_does setup from term (Commit slot) is = either_does i (holds s.durable slot term) _ _ (λ _. record { server = like _ refl refl refl refl refl; packets = tt }) (λ _. still [] _ refl refl tt)
    message_does setup from term (Probe number) is = either_does i (nat_lt term s.durable.term) _ _ (λ _. record { server = k; packets = (tt, tt) }) (λ _. record { server = k; packets = (tt, tt) })
    message_does setup from term (ProbeOk number upto_there) is = probe_ok_does from term number upto_there s.role refl
    message_does setup from term (Image base applied sectors) is =
        either_does i (nat_lt term s.durable.term) _ _ (λ _. record { server = k; packets = (tt, tt) }) (λ _.
        either_does i (nat_le base (upto s)) _ _ (λ _. record { server = met term; packets = (tt, tt) }) (λ _. record { server = installed_does from term base applied sectors; packets = (tt, tt) }))

    -- Checkpoint
    trimmed_own : (base : ℕ) (l : Leader) → s.durable.base ≤ base → HoldsOwn s.durable l → (slot : ℕ) (e : Entry) → base < slot → slot < l.next → FinMap.get (above base s.durable.log) slot ≡ Some e → e.term ≡ s.durable.term
    unfolding above
    trimmed_own base l up own slot e low high at =
        by_test (nat_lt base slot) (λ c. cond c (FinMap.get s.durable.log slot) None ≡ Some e → e.term ≡ s.durable.term)
        (λ _ is. own slot e (omega (arith, low, up)) high is) (λ _ is. absurd (none-some e is)) (sym (get_above s.durable.log base slot) ∙ at)

    trimmed_unapplied : (slot : ℕ) → has_applied s slot ≡ false → (nat_le slot (upto s) || Sets.contains (Sets.retain s.applied (nat_lt (upto s))) slot) ≡ false
    trimmed_unapplied slot none = not_so _ (λ is. elim (or_cases _ _ is) [
      | inl low ↦ false≢true (sym none ∙ applied_to_upto s slot (leb-true _ _ low))
      | inr there ↦ false≢true (sym none ∙ or_right _ _ (retained s.applied (upto s) slot there).0)
    ])

    checkpoint_does : Does i (on_checkpoint s)
    unfolding on_checkpoint trimmed stored
    checkpoint_does = either_does i (upto s == s.durable.base || is_short_of s.role (upto s)) _ _ (λ _. record { server = k; packets = tt }) (λ _. record {
      server = record {
        number = k.number;
        few = k.few;
        elected = k.elected;
        own = λ l is. trimmed_own (upto s) l (base_below_upto s) (k.own l is);
        unapplied = λ slot op at. trimmed_unapplied slot (k.unapplied slot op at);
      };
      packets = tt;
    })

    -- Finish and give back
    finished_unapplied : (slot p : ℕ) → p ≢ slot → has_applied s p ≡ false → (nat_le p s.durable.base || Sets.contains (Sets.insert s.applied slot) p) ≡ false
    finished_unapplied slot p apart none = not_so _ (λ is. elim (or_cases _ _ is) [
      | inl low ↦ false≢true (sym none ∙ or_left _ _ low)
      | inr there ↦ elim (or_cases _ _ (sym (contains-insert s.applied slot p) ∙ there)) [
        | inl same ↦ apart (tied_same p slot same)
        | inr old ↦ false≢true (sym none ∙ or_right _ _ old)
      ]
    ])

    finish_does : (life slot : ℕ) → Does i (on_finish s life slot)
    unfolding on_finish applied_op
    finish_does life slot = either_does i (life == s.life) _ _ (λ _. finished (FinMap.get s.in_hand slot)) (λ _. record { server = k; packets = tt })
      where
        finished : (o : Option Op) → Does i (sends (applied_op s slot o) [])
        finished None = record { server = k; packets = tt }
        finished (Some op) = record {
          server = record {
            number = k.number;
            few = k.few;
            elected = k.elected;
            own = k.own;
            unapplied = λ p x at. let r = remove_cases s.in_hand slot p x at in finished_unapplied slot p r.0 (k.unapplied p x r.1);
          };
          packets = tt;
        }

    give_back_does : (life slot : ℕ) → Does i (on_give_back s life slot)
    unfolding on_give_back
    give_back_does life slot = either_does i (life == s.life) _ _ (λ _. record {
      server = record { number = k.number; few = k.few; elected = k.elected; own = k.own; unapplied = λ p x at. let r = remove_cases s.in_hand slot p x at in k.unapplied p x r.1 };
      packets = tt;
    }) (λ _. record { server = k; packets = tt })

    -- a read that is answered
    settled_keeps : KeepsTerms terms i (settled s)
    unfolding settled
    settled_keeps = like _ refl refl refl refl refl

    -- Claim
    claimed_keeps : (slot : ℕ) → is_claimable s (FinMap.get s.durable.log slot) slot ≡ true → KeepsTerms terms i (claimed s slot)
    unfolding claimed
    claimed_keeps slot is = record {
      number = k.number;
      few = k.few;
      elected = k.elected;
      own = k.own;
      unapplied = λ p op at. elim (insert_cases s.in_hand slot (op_at s.durable.log slot) p op at) [
        | inl here ↦ subst (λ q. has_applied s q ≡ false) (sym here.0) (free (FinMap.get s.durable.log slot) is)
        | inr there ↦ k.unapplied p op there.1
      ];
    }
      where
        free : (o : Option Entry) → is_claimable s o slot ≡ true → has_applied s slot ≡ false
        free None never = absurd (false≢true never)
        free (Some e) tests = unmarked (has_applied s slot) (and_parts _ _ (and_parts _ _ (and_parts _ _ tests).0).0).1
          where
            unmarked : (b : Bool) → not b ≡ true → b ≡ false
            unmarked true e = absurd (false≢true e)
            unmarked false e = refl

  -- a server that stands for election, in a term that is among them
  elected_does : (i : ℕ) (s : Server) → KeepsTerms terms i s → IsTermAmong (suc s.durable.term) terms → Does i (on_elect s)
  unfolding on_elect stored
  elected_does i s k among = record {
    server = record {
      number = k.number;
      few = k.few;
      elected = (among, k.few);
      own = λ l is. elim is [ inl m ↦ absurd (grind (arith, m)) | inr m ↦ absurd (grind (arith, m)) ];
      unapplied = k.unapplied;
    };
    packets = quiet_to_others (record (raise_term s (suc s.durable.term)) { role = Candidate (vote_of s.durable) }) (RequestVote s.durable.base) tt;
  }

  -- a server that begins again
  begun_keeps : (i life : ℕ) (d : Durable) → FewBeside terms d.starts → KeepsTerms terms i (restarted i life d)
  unfolding restarted
  begun_keeps i life d few = record {
    number = refl;
    few = few;
    elected = tt;
    own = λ l is. elim is [ inl m ↦ absurd (grind (arith, m)) | inr m ↦ absurd (grind (arith, m)) ];
    unapplied = λ slot op at. absurd (none-some op (sym (get-empty nat_cmp slot) ∙ at));
  }

  renewed_few : (d : Durable) → FewBeside terms d.starts → FewBeside terms (renewed d).starts
  unfolding renewed stored
  renewed_few d few = by_test (d.format == 1) (λ c. FewBeside terms (if c then stored d (image_of (record d { generation = suc d.generation })) else d).starts) (λ _. few) (λ _. few)

  -- a group after one event
  module _ (g : Group) (keeps : GroupKeeps terms g) where
    changed : (i : ℕ) (c : Condition) → ConditionKeeps terms i c → GroupKeeps terms (record g { servers = slice_set g.servers i c })
    changed i c is = record {
      servers = λ j d at. elim (set_cases g.servers i c j d at) [
        | inl here ↦ subst (λ q. ConditionKeeps terms q d) (sym here.0) (subst (ConditionKeeps terms i) here.1 is)
        | inr there ↦ keeps.servers j d there.1
      ];
      packets = keeps.packets;
    }

    acted_keeps : (i : ℕ) (o : Outcome) → Does i o → GroupKeeps terms (acted g i o)
    unfolding acted
    acted_keeps i o does = record {
      servers = (changed i (Running (settled o.server)) (settled_keeps i o.server does.server)).servers;
      packets = every_append (λ sent. BodyKeeps terms sent.packet.body) g.packets (send o.packets) keeps.packets (every_map (λ sent. BodyKeeps terms sent.packet.body) _ o.packets does.packets);
    }

    cut_keeps : (i : ℕ) (s : Server) (o : Outcome) → KeepsTerms terms i s → Does i o → GroupKeeps terms (cut_off g i s o)
    unfolding cut_off
    cut_keeps i s o was does = changed i (Stopped (suc s.life) s.durable o.server.durable) (was.few, does.server.few)

    ended_keeps : (how : Ending) (i : ℕ) (s : Server) (o : Outcome) → KeepsTerms terms i s → Does i o → GroupKeeps terms (step_ended how g i s o)
    ended_keeps Whole i s o was does = acted_keeps i o does
    ended_keeps CutOff i s o was does = cut_keeps i s o was does
    ended_keeps Missed i s o was does = keeps
    ended_keeps Untouched i s o was does = keeps

    step_keeps : (how : Ending) (i : ℕ) (c : Option Condition) (rule : Server → Outcome) → slice_get g.servers i ≡ c → ((s : Server) → KeepsTerms terms i s → c ≡ Some (Running s) → Does i (rule s)) → GroupKeeps terms (server_step_of how g i c rule)
    step_keeps how i (Some (Running s)) rule at does = let k = keeps.servers i (Running s) at in ended_keeps how i s (rule s) k (does s k refl)
    step_keeps how i (Some (Stopped life before after)) rule at does = keeps
    step_keeps how i (Some Unformatted) rule at does = keeps
    step_keeps how i None rule at does = keeps

    server_keeps : (how : Ending) (i : ℕ) (rule : Server → Outcome) → ((s : Server) → KeepsTerms terms i s → slice_get g.servers i ≡ Some (Running s) → Does i (rule s)) → GroupKeeps terms (at_server how g i rule)
    server_keeps how i rule does = step_keeps how i (slice_get g.servers i) rule refl does

    begun_so : (how : Ending) (i life : ℕ) (d before after : Durable) → FewBeside terms d.starts → FewBeside terms before.starts → FewBeside terms after.starts → GroupKeeps terms (server_begun how g i life d before after)
    begun_so Whole i life d before after few b a = changed i (Running (restarted i (suc life) (renewed d))) (begun_keeps i (suc life) (renewed d) (renewed_few d few))
    begun_so CutOff i life d before after few b a = changed i (Stopped (suc life) before after) (b, a)
    begun_so Missed i life d before after few b a = keeps
    begun_so Untouched i life d before after few b a = keeps

    found_few : (found : Bool) (before after : Durable) → FewBeside terms before.starts → FewBeside terms after.starts → FewBeside terms (cond found after before).starts
    found_few true before after b a = a
    found_few false before after b a = b

    restart_keeps : (how : Ending) (i : ℕ) (found : Bool) (c : Option Condition) → slice_get g.servers i ≡ c → GroupKeeps terms (restart how g i found c)
    restart_keeps how i found (Some (Running s)) at = let k = keeps.servers i (Running s) at in begun_so how i s.life s.durable s.durable s.durable k.few k.few k.few
    restart_keeps how i found (Some (Stopped life before after)) at = let k = keeps.servers i (Stopped life before after) at in begun_so how i life (cond found after before) before after (found_few found before after k.0 k.1) k.0 k.1
    restart_keeps how i found (Some Unformatted) at = keeps
    restart_keeps how i found None at = keeps

    stop_keeps : (i : ℕ) (c : Option Condition) → slice_get g.servers i ≡ c → GroupKeeps terms (stopped g i c)
    stop_keeps i (Some (Running s)) at = let k = keeps.servers i (Running s) at in changed i (Stopped (suc s.life) s.durable s.durable) (k.few, k.few)
    stop_keeps i (Some (Stopped life before after)) at = keeps
    stop_keeps i (Some Unformatted) at = keeps
    stop_keeps i None at = keeps

    only_keeps : (how : Ending) (later : Group) → GroupKeeps terms later → GroupKeeps terms (only_whole how g later)
    only_keeps Whole later k = k
    only_keeps CutOff later k = keeps
    only_keeps Missed later k = keeps
    only_keeps Untouched later k = keeps

    claim_at_keeps : (window i slot : ℕ) (c : Option Condition) → slice_get g.servers i ≡ c → least_claim window c ≡ Some slot → GroupKeeps terms (claim_at g i c (Some slot))
    unfolding claimable
    claim_at_keeps window i slot (Some (Running s)) at is = changed i (Running (claimed s slot)) (claimed_keeps i s (keeps.servers i (Running s) at) slot (Rattle.pf_entry.proofs.Lists.found_passes (λ q. is_claimable s (FinMap.get s.durable.log q) q) (range_with_len (suc s.durable.base) window) slot is))
    claim_at_keeps window i slot (Some (Stopped life before after)) at is = keeps
    claim_at_keeps window i slot (Some Unformatted) at is = keeps
    claim_at_keeps window i slot None at is = keeps

    claim_or_keeps : (window i : ℕ) (o : Option ℕ) (rest : Group) → least_claim window (slice_get g.servers i) ≡ o → GroupKeeps terms rest → GroupKeeps terms (claim_or g i o rest)
    claim_or_keeps window i None rest is k = k
    claim_or_keeps window i (Some slot) rest is k = claim_at_keeps window i slot (slice_get g.servers i) refl is

    claim_keeps : (window : ℕ) (places : List ℕ) → GroupKeeps terms (first_claim window g places)
    claim_keeps window [] = keeps
    claim_keeps window (i ∷ places) = claim_or_keeps window i (least_claim window (slice_get g.servers i)) (first_claim window g places) refl (claim_keeps window places)

    with_keeps : (k : ℕ) (p q : Sent) → slice_get g.packets k ≡ Some p → q.packet ≡ p.packet → GroupKeeps terms (with_sent g k q)
    with_keeps k p q at same = record {
      servers = keeps.servers;
      packets = every_set (λ sent. BodyKeeps terms sent.packet.body) g.packets k q keeps.packets (subst (λ (x : Packet). BodyKeeps terms x.body) (sym same) (every_get (λ sent. BodyKeeps terms sent.packet.body) g.packets k p keeps.packets at));
    }

    delivery_keeps : (how : Ending) (k : ℕ) (p : Sent) → slice_get g.packets k ≡ Some p → GroupKeeps terms (delivered_in how g k p)
    delivery_keeps Whole k p at = with_keeps k p _ at refl
    delivery_keeps CutOff k p at = with_keeps k p _ at refl
    delivery_keeps Missed k p at = with_keeps k p _ at refl
    delivery_keeps Untouched k p at = keeps

    lost_keeps : (k : ℕ) (o : Option Sent) → slice_get g.packets k ≡ o → GroupKeeps terms (lost g k o)
    lost_keeps k None at = keeps
    lost_keeps k (Some p) at = with_keeps k p _ at refl

    -- a restart that found a state with few starts, whatever it is
    pub begins_from_any : (i life : ℕ) (d : Durable) → FinMap.len d.starts ≤ 65 → GroupKeeps terms (record g { servers = slice_set g.servers i (Running (restarted i life (renewed d))) })
    begins_from_any i life d few = changed i (Running (restarted i life (renewed d))) (begun_keeps i life (renewed d) (renewed_few d (few_in d.starts few)))

    pub runs_over_any : (i life : ℕ) (d : Durable) → FinMap.len d.starts ≤ 65 → GroupKeeps terms (record g { servers = slice_set g.servers i (Running (restarted i life d)) })
    runs_over_any i life d few = changed i (Running (restarted i life d)) (begun_keeps i life d (few_in d.starts few))

    pub stops_over_any : (i life : ℕ) (d e : Durable) → FinMap.len d.starts ≤ 65 → FinMap.len e.starts ≤ 65 → GroupKeeps terms (record g { servers = slice_set g.servers i (Stopped life d e) })
    stops_over_any i life d e few few_there = changed i (Stopped life d e) (few_in d.starts few, few_in e.starts few_there)

  delivered_keeps : (setup : Setup) (g : Group) → GroupKeeps terms g → (how : Ending) (k : ℕ) (o : Option Sent) → slice_get g.packets k ≡ o → GroupKeeps terms (packet_delivered setup how g k o)
  unfolding on_packet
  delivered_keeps setup g keeps how k None at = keeps
  delivered_keeps setup g keeps how k (Some p) at =
      by_test p.lost (λ c. GroupKeeps terms (if c then g else at_server how (delivered_in how g k p) p.packet.to (λ s. on_packet setup s p.packet)))
      (λ _. keeps)
      (λ _. server_keeps (delivered_in how g k p) (delivery_keeps g keeps how k p at) how p.packet.to (λ s. on_packet setup s p.packet) (λ s was _. message_does p.packet.to s was setup p.packet.from p.packet.term p.packet.body (every_get (λ sent. BodyKeeps terms sent.packet.body) g.packets k p keeps.packets at)))

-- what stands in the terms after an event: that of a server that stands for election
abbrev pub stood : Ending → Option Condition → List ℕ → List ℕ
stood Whole (Some (Running s)) terms = suc s.durable.term ∷ terms
stood CutOff (Some (Running s)) terms = suc s.durable.term ∷ terms
stood how c terms = terms

abbrev pub terms_after : Group → List ℕ → Event → Ending → List ℕ
terms_after g terms (Elect i) how = stood how (slice_get g.servers i) terms
terms_after g terms event how = terms

counted_keeps : (terms : List ℕ) (g : Group) (how : Ending) → GroupKeeps terms g → GroupKeeps terms (counted_election how g)
counted_keeps terms g Whole k = record { servers = k.servers; packets = k.packets }
counted_keeps terms g CutOff k = record { servers = k.servers; packets = k.packets }
counted_keeps terms g Missed k = k
counted_keeps terms g Untouched k = k

counted_servers : (how : Ending) (g : Group) → (counted_election how g).servers ≡ g.servers
counted_servers Whole g = refl
counted_servers CutOff g = refl
counted_servers Missed g = refl
counted_servers Untouched g = refl

elect_keeps : (terms : List ℕ) (g : Group) → GroupKeeps terms g → (how : Ending) (i : ℕ) (c : Option Condition) → slice_get g.servers i ≡ c → GroupKeeps (stood how c terms) (server_step_of how (counted_election how g) i c on_elect)
elect_keeps terms g k Whole i (Some (Running s)) at =
    let more = group_more (suc s.durable.term) terms g k in
    let now = more.servers i (Running s) at in
    acted_keeps (suc s.durable.term ∷ terms) (counted_election Whole g) (counted_keeps _ g Whole more) i (on_elect s) (elected_does _ i s now (inl refl))
elect_keeps terms g k CutOff i (Some (Running s)) at =
    let more = group_more (suc s.durable.term) terms g k in
    let now = more.servers i (Running s) at in
    cut_keeps (suc s.durable.term ∷ terms) (counted_election CutOff g) (counted_keeps _ g CutOff more) i s (on_elect s) now (elected_does _ i s now (inl refl))
elect_keeps terms g k Missed i (Some (Running s)) at = k
elect_keeps terms g k Untouched i (Some (Running s)) at = k
elect_keeps terms g k how i (Some (Stopped life before after)) at = subst (λ ts. GroupKeeps ts (counted_election how g)) (sym (same how)) (counted_keeps terms g how k)
  where
    same : (how : Ending) → stood how (Some (Stopped life before after)) terms ≡ terms
    same Whole = refl
    same CutOff = refl
    same Missed = refl
    same Untouched = refl
elect_keeps terms g k how i (Some Unformatted) at = subst (λ ts. GroupKeeps ts (counted_election how g)) (sym (same how)) (counted_keeps terms g how k)
  where
    same : (how : Ending) → stood how (Some Unformatted) terms ≡ terms
    same Whole = refl
    same CutOff = refl
    same Missed = refl
    same Untouched = refl
elect_keeps terms g k how i None at = subst (λ ts. GroupKeeps ts (counted_election how g)) (sym (same how)) (counted_keeps terms g how k)
  where
    same : (how : Ending) → stood how None terms ≡ terms
    same Whole = refl
    same CutOff = refl
    same Missed = refl
    same Untouched = refl

-- every event
pub happens_keeps : (setup : Setup) (terms : List ℕ) (g : Group) → GroupKeeps terms g → (event : Event) (how : Ending) → GroupKeeps (terms_after g terms event how) (happens setup g event how)
unfolding happens
happens_keeps setup terms g k (Submit i op) how = server_keeps terms g k how i (λ s. on_submit setup s op s.role) (λ s was _. submit_does terms i s was setup op s.role refl)
happens_keeps setup terms g k (Fetch i range) how = server_keeps terms g k how i (λ s. on_fetch s range g.reads s.role) (λ s was _. fetch_does terms i s was range g.reads s.role refl)
happens_keeps setup terms g k (Deliver n) how = delivered_keeps terms setup g k how n (slice_get g.packets n) refl
happens_keeps setup terms g k (Lose n) how = only_keeps terms g k how _ (lost_keeps terms g k n (slice_get g.packets n) refl)
happens_keeps setup terms g k (Elect i) how = subst (λ c. GroupKeeps (stood how (slice_get g.servers i) terms) (server_step_of how (counted_election how g) i c on_elect)) (ap (λ xs. slice_get xs i) (sym (counted_servers how g))) (elect_keeps terms g k how i (slice_get g.servers i) refl)
happens_keeps setup terms g k (Resend i) how = server_keeps terms g k how i (λ s. on_resend s s.role) (λ s was _. resend_does terms i s was s.role refl)
happens_keeps setup terms g k (Stop i) how = only_keeps terms g k how _ (stop_keeps terms g k i (slice_get g.servers i) refl)
happens_keeps setup terms g k (Restart i found) how = restart_keeps terms g k how i found (slice_get g.servers i) refl
happens_keeps setup terms g k Claim how = only_keeps terms g k how _ (claim_keeps terms g k setup.window (0 ∷ 1 ∷ 2 ∷ []))
happens_keeps setup terms g k (Finish i life slot) how = server_keeps terms g k how i (λ s. on_finish s life slot) (λ s was _. finish_does terms i s was life slot)
happens_keeps setup terms g k (GiveBack i life slot) how = server_keeps terms g k how i (λ s. on_give_back s life slot) (λ s was _. give_back_does terms i s was life slot)
happens_keeps setup terms g k (Checkpoint i) how = server_keeps terms g k how i on_checkpoint (λ s was _. checkpoint_does terms i s was)
