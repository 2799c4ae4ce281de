-- The rule of a vote, and what memory has after it.
use Rattle.std.proofs.Common.{◌≡◌, ℕ, suc, ◌-◌, ◌<◌, ◌≤◌, ◌≢◌, false, ◌&&◌, ◌==◌, List, nat_le, nat_lt, if◌then◌else◌, arith, refl, sym, ap, subst, ◌∙◌}
use Rattle.std.proofs.lemmas.Bool.{and_from, and_left, and_right, lt-leb, cond-true, cond-false, eq-eqb, ne_eqb, le-leb}
use Rattle.std.specs.List.{range_with_len}
use Rattle.std.specs.FinMap
use Rattle.pf_entry.specs.Merging.{merged_first, merged_entries}
use Rattle.pf_entry.specs.Records.{Durable, stored, add_merged_start, put_entries}
use Rattle.pf_entry.specs.declared.entries.Entry.{Entry}
use Rattle.pf_entry.specs.declared.entries.VoteLog.{VoteLog}
use Rattle.pf_entry.specs.declared.records.Record.{Record}
use Rattle.pf_entry.specs.declared.records.Record.TheVariants.{Merged as MergedRecord}
use Rattle.pf_entry.proofs.MergedEntries.{base_below_first}
use Rattle.pf_election.specs.Votes.{Votes}
use Rattle.pf_protocol.specs.Servers.{Candidate, Merging, Serving, Server}
use Rattle.pf_protocol.specs.Outcomes.{nothing}
use Rattle.pf_protocol.specs.Leading.{all_acknowledged, led, merged, on_vote}
use Rattle.pf_entry.proofs.Cases.{by_test}
use Rattle.pf_server_tables.specs.AckTables.{AckTable}
use Rattle.pf_server_tables.specs.StartTables.{StartRoom}
use Rattle.pf_server_memory.specs.declared.running.Role.{Role as RoleHere}
use Rattle.pf_server_memory.specs.declared.running.Role.TheVariants.{Follower as FollowerHere, Candidate as CandidateHere, Merging as MergingHere, Serving as ServingHere}
use Rattle.pf_server_memory.specs.declared.running.Running.{Running}
use Rattle.pf_server_memory.specs.Standing.{server_of, setup_of, role_in_memory, leader_in_memory, IsCached, IsLeaderKept, IsRoleKept}
use Rattle.pf_server_memory.specs.Turns.{IsAfter}
use Rattle.pf_server_memory.proofs.StepEnds.{IsAdded, IsFollowed}
use Rattle.pf_server_candidate.specs.declared.merges.Takeover.{Takeover}
use Rattle.pf_server_candidate.specs.Merging.{accepts, led_role, new_leader, Elects, TableHasBegun, IsTakeover, won, merge_of}

-- a vote that changes nothing
pub not_heard : (s : Server) (term : ℕ) (vote : VoteLog) (role : RoleHere) → ((c : Votes) → role ≡ CandidateHere c → ⊥) → on_vote s term vote (role_in_memory role) ≡ nothing s
unfolding on_vote
not_heard s term vote FollowerHere not = refl
not_heard s term vote (CandidateHere c) not = absurd (not c refl)
not_heard s term vote (MergingHere l) not = refl
not_heard s term vote (ServingHere l) not = refl

passed_by : (s : Server) (term : ℕ) (vote own : VoteLog) → (term == s.durable.term && nat_le vote.base s.durable.base) ≡ false → on_vote s term vote (Candidate own) ≡ nothing s
unfolding on_vote
passed_by s term vote own fails = cond-false _ _ _ fails

module _ (d : Durable) (me : Running) (cached : IsCached d me) (term : ℕ) (vote : VoteLog) where
  module _ (c : Votes) (stands : me.role ≡ CandidateHere c) where
    pub other_term : term ≢ me.term → on_vote (server_of d me) term vote (role_in_memory me.role) ≡ nothing (server_of d me)
    unfolding server_of
    other_term apart =
        ap (λ r. on_vote (server_of d me) term vote (role_in_memory r)) stands
        ∙ passed_by (server_of d me) term vote c.own (and_left _ _ (ne_eqb term d.term (λ same. apart (same ∙ sym cached.term))))

    pub lower_base : me.log.base < vote.base → on_vote (server_of d me) term vote (role_in_memory me.role) ≡ nothing (server_of d me)
    unfolding server_of
    lower_base above =
        ap (λ r. on_vote (server_of d me) term vote (role_in_memory r)) stands
        ∙ passed_by (server_of d me) term vote c.own (and_right _ _ (lt-leb vote.base d.base (subst (λ base. base < vote.base) cached.base above)))

  -- a vote that makes the server a leader
  pub wins : (own : VoteLog) → Elects me term vote own → won (server_of d me) own vote ≡ on_vote (server_of d me) term vote (server_of d me).role
  unfolding server_of on_vote
  wins own e =
      sym (cond-true _ _ _ (and_from _ _ (eq-eqb term d.term (e.own_term ∙ cached.term)) (le-leb vote.base d.base (subst (λ base. vote.base ≤ base) cached.base e.reached))))
      ∙ ap (on_vote (server_of d me) term vote) (sym e.stood)

pub own_role : (d : Durable) (me : Running) → role_in_memory me.role ≡ (server_of d me).role
unfolding server_of
own_role d me = refl

-- more room for starts
abbrev pub with_starts : Running → StartRoom → Running
with_starts me starts = record me { starts = starts }

pub roomier : (d : Durable) (me : Running) (starts : StartRoom) → IsCached d me → starts.starts ≡ me.starts.starts → IsAfter d me (with_starts me starts) (server_of d me)
unfolding server_of setup_of
roomier d me starts cached same = record {
  server_is = refl;
  setup_same = refl;
  cached = record {
    number = cached.number;
    term = cached.term;
    generation = cached.generation;
    base = cached.base;
    starts = same ∙ cached.starts;
    log = cached.log;
    format = cached.format;
    prefix = cached.prefix;
    role = cached.role;
    jobs = cached.jobs;
    places = cached.places;
    rooms = cached.rooms;
    near = cached.near;
    replies = cached.replies;
  };
}

pub same_takeover : (me : Running) (starts : StartRoom) (own vote : VoteLog) (t : Takeover) → IsTakeover me own vote t → IsTakeover (with_starts me starts) own vote t
same_takeover me starts own vote t took = record { first = took.first; entries = took.entries; acks = took.acks }

-- the leader's role
module _ (number base next first : ℕ) (acks : AckTable) (is : first ≡ next) (above : base < next) (begun : TableHasBegun number base (first - suc base) acks) where
  led_leader : leader_in_memory (new_leader first acks) ≡ led base next next number
  unfolding led
  led_leader = λ i. record {
    first = is i;
    next = is i;
    b0 = begun.base_is i;
    acks = (begun.acks ∙ ap (λ n. all_acknowledged FinMap.empty number (range_with_len (suc base) (n - suc base))) is) i;
    known = FinMap.empty;
  }

  pub led_as : role_in_memory (led_role first acks) ≡ (if nat_lt (suc base) next then Merging (led base next next number) else Serving (led base next next number))
  led_as =
      by_test (nat_lt (suc acks.base) first) (λ c. role_in_memory (if c then MergingHere (new_leader first acks) else ServingHere (new_leader first acks)) ≡ (if c then Merging (leader_in_memory (new_leader first acks)) else Serving (leader_in_memory (new_leader first acks)))) (λ _. refl) (λ _. refl)
      ∙ (λ i. if nat_lt (suc (begun.base_is i)) (is i) then Merging (led_leader i) else Serving (led_leader i))

  led_kept : IsLeaderKept number (new_leader first acks)
  led_kept = record {
    counted = omega (arith, begun.base_is, begun.count_is, is, above);
    low = omega arith;
    high = omega (arith, begun.base_is, is, above);
    heard = λ slot low high. absurd (omega (arith, low, high));
  }

  pub led_role_kept : IsRoleKept number (led_role first acks)
  led_role_kept = by_test (nat_lt (suc acks.base) first) (λ c. IsRoleKept number (if c then MergingHere (new_leader first acks) else ServingHere (new_leader first acks))) (λ _. led_kept) (λ _. led_kept)

-- the merge is stored, and memory follows
abbrev pub with_merge : Running → StartRoom → RoleHere → List Entry → Running
with_merge me starts role es = record me { starts = starts; role = role; log = record me.log { entries = put_entries me.log.entries es } }

module _ (d : Durable) (me : Running) (cached : IsCached d me) (own vote : VoteLog) (t : Takeover) (took : IsTakeover me own vote t) where
  first_is : t.first ≡ merged_first d.base own vote
  first_is = took.first ∙ ap (λ base. merged_first base own vote) cached.base

  entries_are : t.entries.items ≡ merged_entries d.term d.base own vote
  entries_are = took.entries ∙ (λ i. merged_entries (cached.term i) (cached.base i) own vote)

  merge_is : merge_of me t ≡ MergedRecord d.term (merged_first d.base own vote) (merged_entries d.term d.base own vote)
  merge_is = λ i. MergedRecord (cached.term i) (first_is i) (entries_are i)

  pub merge_sent : accepts me.number me.term t.entries.items ≡ (won (server_of d me) own vote).packets
  unfolding server_of
  merge_sent = λ i. accepts me.number (cached.term i) (entries_are i)

  stored_as : (r : Record) → r ≡ MergedRecord d.term (merged_first d.base own vote) (merged_entries d.term d.base own vote) → IsAdded d r (won (server_of d me) own vote).server.durable
  unfolding server_of stored merged
  stored_as r is = subst (λ x. IsAdded d x (merged (server_of d me) own vote).durable) (sym is) (record { is = refl; used = refl; format = refl })

  pub merge_added : IsAdded d (merge_of me t) (won (server_of d me) own vote).server.durable
  merge_added = stored_as (merge_of me t) merge_is

  begun_there : TableHasBegun me.number d.base (t.first - suc d.base) t.acks
  begun_there = subst (λ base. TableHasBegun me.number base (t.first - suc base) t.acks) cached.base took.acks

  merged_here : (starts : StartRoom) → starts.starts ≡ add_merged_start me.starts.starts me.term t.first t.entries.items
      → IsFollowed me (with_merge me starts (led_role t.first t.acks) t.entries.items) (merged (server_of d me) own vote)
  unfolding server_of setup_of stored merged
  merged_here starts put =
      let next = merged_first d.base own vote in
      let above = base_below_first d.base own vote in
      record {
        server_is = λ i. record (merged (server_of d me) own vote) { role = led_as me.number d.base next t.first t.acks first_is above begun_there i };
        setup_same = refl;
        cached = record {
          number = cached.number;
          term = cached.term;
          generation = cached.generation;
          base = cached.base;
          starts = put ∙ (λ i. add_merged_start (cached.starts i) (cached.term i) (first_is i) (entries_are i));
          log = λ i. put_entries (cached.log i) (entries_are i);
          format = cached.format;
          prefix = cached.prefix;
          role = led_role_kept me.number d.base next t.first t.acks first_is above begun_there;
          jobs = cached.jobs;
          places = cached.places;
          rooms = cached.rooms;
          near = cached.near;
          replies = cached.replies;
        };
      }

  pub merge_followed : (me' : Running) → me'.starts.starts ≡ add_merged_start me.starts.starts me.term t.first t.entries.items → me' ≡ with_merge me me'.starts (led_role t.first t.acks) t.entries.items
      → IsFollowed me me' (merged (server_of d me) own vote)
  merge_followed me' put is = subst (λ m. IsFollowed me m (merged (server_of d me) own vote)) (sym is) (merged_here me'.starts put)
