-- The op of each proposal comes from a new one, or is a no-op.
use Rattle.std.proofs.Common.{◌≡◌, ℕ, zero, suc, ◌<◌, ◌≤◌, inl, inr, [], ◌∷◌, ◌++◌, length, Option, Some, None, arith, refl, sym, ap, subst, ◌∙◌}
use Rattle.std.proofs.lemmas.List.{append_assoc, length-append}
use Rattle.pf_entry.specs.declared.ops.Op.{Op}
use Rattle.pf_entry.specs.declared.ops.Op.TheVariants.{Noop}
use Rattle.pf_entry.specs.declared.entries.Entry.{Entry}
use Rattle.pf_entry.specs.declared.entries.VoteLog.{VoteLog}
use Rattle.pf_entry.specs.Entries.{EntryIsNew}
use Rattle.pf_entry.specs.Merging.{taken, merged_op, merged_entry, op_or_noop}
use Rattle.pf_entry.proofs.Lists.{every_get}
use Rattle.pf_entry.proofs.MergedEntries.{was_taken}
use Rattle.pf_protocol.specs.Servers.{Setup, Leader, Serving, Server, Running}
use Rattle.pf_protocol.specs.Leading.{new_entry}
use Rattle.pf_protocol.specs.declared.answers.Answer.{Answer}
use Rattle.pf_protocol.specs.declared.events.Event.{Event}
use Rattle.pf_protocol.specs.declared.events.Happening.{Happening}
use Rattle.pf_protocol.specs.Groups.{Sent, TookPlace, ending}
use Rattle.pf_protocol.specs.Histories.{History, IsPrefix, replay, RunsAs, HasAccepted, Made, Makes, BySubmit, ByMerge, IsMerge, IsProposal, IsTakenFrom, HasOrigin, Itself, Through, HasSource}
use Rattle.pf_protocol.proofs.Follows.{IsLeader, RoleIs}
use Rattle.pf_protocol.proofs.EntryMakers.{Has, IsSaid, OwnVote, backs_all}
use Rattle.pf_protocol.proofs.Histories.{told}
use Rattle.pf_protocol.proofs.Moments.{prefix_of, begins_with}

module _ (setup : Setup) (earlier history : History) (p : IsPrefix earlier history) where
  pub accepted_after : (i : ℕ) (e : Entry) → HasAccepted setup earlier i e → HasAccepted setup history i e
  accepted_after i e a = record { earlier = a.earlier; is_earlier = prefix_of a.earlier earlier history a.is_earlier p; holds = a.holds }

  pub made_after : (i : ℕ) (e : Entry) → Made setup earlier i e → Made setup history i e
  made_after i e m = record {
    earlier = m.earlier;
    making = m.making;
    done = m.done;
    is_earlier = prefix_of (m.earlier ++ m.making ∷ []) earlier history m.is_earlier p;
    server = m.server;
    runs = m.runs;
    makes = m.makes;
  }

  pub proposal_after : (e : Entry) → IsProposal setup earlier e → IsProposal setup history e
  proposal_after e x = record { leader = x.leader; made = made_after x.leader e x.made; recorded = accepted_after x.leader e x.recorded }

  taken_after : (e from : Entry) → IsTakenFrom setup earlier e from → IsTakenFrom setup history e from
  taken_after e from t = record {
    leader = t.leader;
    earlier = t.earlier;
    k = t.k;
    answer = t.answer;
    done = t.done;
    is_earlier = prefix_of _ earlier history t.is_earlier p;
    server = t.server;
    runs = t.runs;
    sent = t.sent;
    own = t.own;
    other = t.other;
    merge = t.merge;
    is_merged = t.is_merged;
    is_taken = t.is_taken;
  }

  pub origin_after : (e origin : Entry) → HasOrigin setup earlier e origin → HasOrigin setup history e origin
  origin_after _ _ (Itself e x new) = Itself e (proposal_after e x) new
  origin_after _ _ (Through e from origin x t rest) = Through e from origin (proposal_after e x) (taken_after e from t) (origin_after from origin rest)

source_after : (setup : Setup) (earlier history : History) → IsPrefix earlier history → (e : Entry) → HasSource setup earlier e → HasSource setup history e
source_after setup earlier history p e source =
    elim source [
      | inl o ↦ inl (record { origin = o.origin; is = origin_after setup earlier history p e o.origin o.is; same_slot = o.same_slot; same_op = o.same_op })
      | inr noop ↦ inr noop
    ]

shorter : (earlier history : History) (h : Happening) → IsPrefix (earlier ++ h ∷ []) history → length earlier < length history
shorter earlier history h p = omega (arith, sym (length-append (earlier ++ h ∷ []) p.rest) ∙ ap length p.whole, length-append earlier (h ∷ []))

-- a leader's next slot is not below its first
new_of_leader : (setup : Setup) (earlier : History) (i : ℕ) (s : Server) (l : Leader) → RunsAs (replay setup earlier) i s → s.role ≡ Serving l → l.first ≤ l.next
new_of_leader setup earlier i s l runs is =
    let t = told setup earlier in
    let x = (t.follows.servers i (Running s) runs).1 in
    let lead : IsLeader t.ballots.ballot t.ballots.next i s.durable l = subst (RoleIs t.ballots.vote t.ballots.ballot t.ballots.next i s.durable) is x.role in
    omega (arith, lead.has_first, lead.has_next, (t.sound.quorums s.durable.term lead.merge lead.is).begins)

-- what a merge takes was a proposal by then
pub taken_is_proposal : (setup : Setup) (earlier : History) (i k : ℕ) (s : Server) (sent : Sent) (own other : VoteLog) (slot : ℕ) (x : Entry) → RunsAs (replay setup earlier) i s → IsMerge (replay setup earlier) i s k sent own other → taken s.durable.base own other slot ≡ Some x → (x.slot ≡ slot) × IsProposal setup earlier x
taken_is_proposal setup earlier i k s sent own other slot x runs merge is =
    let backs = backs_all setup earlier in
    let mine : Has (IsProposal setup earlier) own.log = subst (OwnVote setup earlier) merge.stands (backs.servers i (Running s) runs).1 in
    let said : Has (IsProposal setup earlier) other.log = subst (IsSaid setup earlier) merge.is_vote (every_get (λ p. IsSaid setup earlier p.packet.body) (replay setup earlier).packets k sent backs.packets merge.was_sent) in
    elim (was_taken s.durable.base own other slot x is).stood [
      | inl at ↦ (mine.keyed slot x at, mine.each slot x at)
      | inr at ↦ (said.keyed slot x at, said.each slot x at)
    ]

new_entry_slot : (names : ℕ) (s : Server) (l : Leader) (op : Op) → l.first ≤ l.next → EntryIsNew (new_entry names s l op)
unfolding new_entry
new_entry_slot names s l op le = le

merged_slot : (term base : ℕ) (own other : VoteLog) (slot : ℕ) → (merged_entry term base own other slot).slot ≡ slot
unfolding merged_entry
merged_slot term base own other slot = refl

merged_op_of : (term base : ℕ) (own other : VoteLog) (slot : ℕ) (o : Option Entry) → taken base own other slot ≡ o → (merged_entry term base own other slot).op ≡ op_or_noop o
unfolding merged_entry merged_op
merged_op_of term base own other slot o is = ap op_or_noop is

noop_of_none : op_or_noop None ≡ Noop
unfolding op_or_noop
noop_of_none = refl

op_of_some : (x : Entry) → op_or_noop (Some x) ≡ x.op
unfolding op_or_noop
op_of_some x = refl

source_by : (setup : Setup) (history earlier : History) (i : ℕ) (s : Server) (event : Event) (answer : Answer) (e : Entry) → TookPlace (ending answer) → IsPrefix (earlier ++ record { event = event; answer = answer } ∷ []) history → RunsAs (replay setup earlier) i s → Makes setup (replay setup earlier) i s event e → IsProposal setup history e → ((x : Entry) → IsProposal setup earlier x → HasSource setup earlier x) → HasSource setup history e
source_by setup history earlier i s _ answer _ done p runs (BySubmit op l role) is before =
    let e = new_entry setup.names s l op in
    inl (record { origin = e; is = Itself e is (new_entry_slot setup.names s l op (new_of_leader setup earlier i s l runs role)); same_slot = refl; same_op = refl })
source_by setup history earlier i s _ answer _ done p runs (ByMerge k sent own other slot merge above below) is before =
    by_taken (taken s.durable.base own other slot) refl
  where
    e : Entry
    e = merged_entry s.durable.term s.durable.base own other slot

    in_slot : (merged_entry s.durable.term s.durable.base own other slot).slot ≡ slot
    in_slot = merged_slot s.durable.term s.durable.base own other slot

    by_taken : (o : Option Entry) → taken s.durable.base own other slot ≡ o → HasSource setup history (merged_entry s.durable.term s.durable.base own other slot)
    by_taken None none = inr (merged_op_of s.durable.term s.durable.base own other slot None none ∙ noop_of_none)
    by_taken (Some x) some =
        let t = taken_is_proposal setup earlier i k s sent own other slot x runs merge some in
        let prefix = begins_with earlier history _ p in
        let same_op : (merged_entry s.durable.term s.durable.base own other slot).op ≡ x.op = merged_op_of s.durable.term s.durable.base own other slot (Some x) some ∙ op_of_some x in
        let from : IsTakenFrom setup history (merged_entry s.durable.term s.durable.base own other slot) x = record {
          leader = i;
          earlier = earlier;
          k = k;
          answer = answer;
          done = done;
          is_earlier = p;
          server = s;
          runs = runs;
          sent = sent;
          own = own;
          other = other;
          merge = merge;
          is_merged = ap (merged_entry s.durable.term s.durable.base own other) (sym in_slot);
          is_taken = ap (taken s.durable.base own other) in_slot ∙ some;
        } in
        elim (source_after setup earlier history prefix x (before x t.1)) [
          | inl o ↦ inl (record { origin = o.origin; is = Through _ x o.origin is from o.is; same_slot = o.same_slot ∙ t.0 ∙ sym in_slot; same_op = o.same_op ∙ sym same_op })
          | inr noop ↦ inr (same_op ∙ noop)
        ]

source_within : (setup : Setup) (n : ℕ) (history : History) → length history < n → (e : Entry) → IsProposal setup history e → HasSource setup history e
source_within setup zero history less e is = absurd (omega arith)
source_within setup (suc n) history less e is =
    let m = is.made in
    source_by setup history m.earlier is.leader m.server m.making.event m.making.answer e m.done m.is_earlier m.runs m.makes is
    (λ x before. source_within setup n m.earlier (omega (arith, shorter m.earlier history m.making m.is_earlier, less)) x before)

pub source_of : (setup : Setup) (history : History) (e : Entry) → IsProposal setup history e → HasSource setup history e
source_of setup history e is = source_within setup (suc (length history)) history (omega arith) e is
