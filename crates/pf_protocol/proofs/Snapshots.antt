-- A snapshot holds the last writes of all slots up to its mark.
use Rattle.std.proofs.Common.{◌≡◌, ℕ, zero, suc, ◌+◌, ◌<◌, ◌≤◌, ◌⊎◌, inl, inr, Bool, true, false, ◌&&◌, ◌||◌, ◌==◌, if◌then◌else◌, List, [], ◌∷◌, ◌++◌, Option, Some, None, nat_lt, nat_le, slice_get, arith, refl, sym, ap, subst, ◌∙◌}
use Rattle.std.specs.FinMap
use Rattle.std.specs.FinMap.{get-empty}
use Rattle.std.specs.Ordering.{nat_cmp}
use Rattle.std.specs.List.{list_any}
use Rattle.std.proofs.lemmas.Bool.Decides.{nat_tests}
use Rattle.std.proofs.lemmas.Bool.{cases_Bool, cases_lt, false≢true, leb-true, le-leb}
use Rattle.std.proofs.lemmas.Option.{same_Some, none-some}
use Rattle.std.proofs.lemmas.List.{append_assoc, append-nil}
use Rattle.pf_base.specs.Span.{Span, is_in, whole_span, overlaps}
use Rattle.pf_base.proofs.Spans.{shares}
use Rattle.pf_entry.specs.Maps.{Map}
use Rattle.pf_entry.proofs.Maps.{insert_cases, remove_cases}
use Rattle.pf_entry.specs.Ops.{Sector, range_of, writes}
use Rattle.pf_entry.specs.Applying.{passes}
use Rattle.pf_entry.specs.declared.ops.Op.{Op}
use Rattle.pf_entry.specs.declared.ops.Op.TheVariants.{Write, Noop, Mark}
use Rattle.pf_entry.specs.declared.entries.Entry.{Entry}
use Rattle.pf_entry.specs.declared.entries.VoteLog.{VoteLog}
use Rattle.pf_entry.specs.declared.packets.Body.{Body}
use Rattle.pf_entry.specs.declared.packets.Body.TheVariants.{RequestVote, Vote, Accept, Ack, Nack, Commit, Probe, ProbeOk, Image}
use Rattle.pf_entry.specs.Records.{Durable, holds}
use Rattle.pf_entry.proofs.Cases.{by_test}
use Rattle.pf_protocol.specs.declared.events.Event.{Event}
use Rattle.pf_protocol.specs.declared.events.Happening.{Happening}
use Rattle.pf_protocol.specs.Servers.{Setup, Role, Follower, Candidate, Merging, Serving, Server, Running, Unformatted, upto, has_applied}
use Rattle.pf_protocol.specs.Outcomes.{Outcome, raise_term}
use Rattle.pf_protocol.specs.Leading.{submitted, on_submit, on_fetch, on_elect, on_resend, merged, on_vote, commit_own, commit, on_ack, on_probe_ok}
use Rattle.pf_protocol.specs.Following.{meets_term, on_request_vote, accepted, on_accept, on_nack, on_commit, on_probe, installed, on_image}
use Rattle.pf_protocol.specs.Rows.{on_message, on_packet, settled}
use Rattle.pf_protocol.specs.Saving.{restarted, is_short_of, trimmed, on_checkpoint, claimed, without_least, four_greatest, snapshots_after, applied_op, on_finish, on_give_back}
use Rattle.pf_protocol.specs.Groups.{Group, ending, happens, opening, unless_failed, first_leader, opening_disk}
use Rattle.pf_protocol.specs.Histories.{History, IsPrefix, replay, RunsAs, IsChosen}
use Rattle.pf_protocol.specs.Kept.{HasChosen, IsPassed, IsCovered, IsInHand}
use Rattle.pf_protocol.specs.LastWriters.{IsLastWriter, HoldLastWrites}
use Rattle.pf_protocol.specs.Snapshots.{IsSnapshot}
use Rattle.pf_protocol.proofs.Moments.{run_longer, prefix_of, by_events, opened, next_prefix}
use Rattle.pf_protocol.proofs.Origins.{accepted_after, proposal_after}
use Rattle.pf_protocol.proofs.LookBehinds.{passed_apart, IsPassed as PassedIn}
use Rattle.pf_protocol.proofs.Histories.{told, chosen_at_end, one_chosen_op}
use Rattle.pf_protocol.proofs.Facts.{chosen_by, servers_covered, jobs_are_apart}
use Rattle.pf_protocol.proofs.LastWriters.{servers_hold}
use Rattle.pf_protocol.proofs.EventChanges.{IsRule, BySubmit, ByFetch, ByPacket, ByElect, ByResend, ByFinish, ByGiveBack, ByCheckpoint, Came, Stays, Stepped, Begins, Claims, goes}

-- a snapshot after a step was there before, or is of a mark in hand and has the sectors as they were
abbrev Shows : Server → Server → Type 0
Shows s z = (mark : ℕ) (sectors : List Sector) → FinMap.get z.snapshots mark ≡ Some sectors → (FinMap.get s.snapshots mark ≡ Some sectors) ⊎ ((FinMap.get s.in_hand mark ≡ Some Mark) × (s.sectors ≡ sectors))

either_shows : (s : Server) (c : Bool) (x y : Outcome) → Shows s x.server → Shows s y.server → Shows s (if c then x else y).server
either_shows s true x y f g = f
either_shows s false x y f g = g

-- the greatest are among those that were there
fewer : {X : Type 0} → (snapshots : Map X) (slots : List ℕ) (mark : ℕ) (x : X) → FinMap.get (without_least snapshots slots) mark ≡ Some x → FinMap.get snapshots mark ≡ Some x
fewer snapshots [] mark x at = at
fewer snapshots (slot ∷ slots) mark x at = (remove_cases snapshots slot mark x at).1

greatest : {X : Type 0} → (snapshots : Map X) (mark : ℕ) (x : X) → FinMap.get (four_greatest snapshots) mark ≡ Some x → FinMap.get snapshots mark ≡ Some x
greatest snapshots mark x =
    by_test (nat_lt 4 (FinMap.len snapshots)) (λ c. FinMap.get (if c then without_least snapshots (FinMap.keys snapshots) else snapshots) mark ≡ Some x → FinMap.get snapshots mark ≡ Some x)
    (λ _ at. fewer snapshots (FinMap.keys snapshots) mark x at) (λ _ at. at)

module _ (s : Server) where
  kept : Shows s s
  kept mark sectors at = inl at

  met : (term : ℕ) → Shows s (meets_term s term)
  met term = by_test (nat_lt s.durable.term term) (λ c. Shows s (if c then raise_term s term else s)) (λ _ mark sectors at. inl at) (λ _. kept)

  submit_shows : (setup : Setup) (op : Op) (role : Role) → Shows s (on_submit setup s op role).server
  unfolding on_submit submitted
  submit_shows setup op Follower = kept
  submit_shows setup op (Candidate own) = kept
  submit_shows setup op (Merging l) = kept
  submit_shows setup op (Serving l) = either_shows s (nat_lt (s.durable.base + setup.window) l.next) _ _ kept (λ mark sectors at. inl at)

  fetch_shows : (range : Span) (number : ℕ) (role : Role) → Shows s (on_fetch s range number role).server
  unfolding on_fetch
  fetch_shows range number Follower = kept
  fetch_shows range number (Candidate own) = kept
  fetch_shows range number (Merging l) = kept
  fetch_shows range number (Serving l) = λ mark sectors at. inl at

  elect_shows : Shows s (on_elect s).server
  unfolding on_elect
  elect_shows = λ mark sectors at. inl at

  resend_shows : (role : Role) → Shows s (on_resend s role).server
  unfolding on_resend
  resend_shows Follower = kept
  resend_shows (Candidate own) = kept
  resend_shows (Merging l) = kept
  resend_shows (Serving l) = kept

  checkpoint_shows : Shows s (on_checkpoint s).server
  unfolding on_checkpoint trimmed
  checkpoint_shows = either_shows s (upto s == s.durable.base || is_short_of s.role (upto s)) _ _ kept (λ mark sectors at. inl at)

  vote_shows : (term : ℕ) (vote : VoteLog) (role : Role) → Shows s (on_vote s term vote role).server
  unfolding on_vote merged
  vote_shows term vote Follower = kept
  vote_shows term vote (Candidate own) = either_shows s (term == s.durable.term && nat_le vote.base s.durable.base) _ _ (λ mark sectors at. inl at) kept
  vote_shows term vote (Merging l) = kept
  vote_shows term vote (Serving l) = kept

  ack_shows : (from term slot upto_there : ℕ) (role : Role) → Shows s (on_ack s from term slot upto_there role).server
  unfolding on_ack commit_own
  ack_shows from term slot upto_there Follower = kept
  ack_shows from term slot upto_there (Candidate own) = kept
  ack_shows from term slot upto_there (Merging l) = either_shows s (term == s.durable.term) _ _ (λ mark sectors at. inl at) kept
  ack_shows from term slot upto_there (Serving l) = either_shows s (term == s.durable.term) _ _ (λ mark sectors at. inl at) kept

  probe_ok_shows : (from term number upto_there : ℕ) (role : Role) → Shows s (on_probe_ok s from term number upto_there role).server
  unfolding on_probe_ok
  probe_ok_shows from term number upto_there Follower = kept
  probe_ok_shows from term number upto_there (Candidate own) = kept
  probe_ok_shows from term number upto_there (Merging l) = kept
  probe_ok_shows from term number upto_there (Serving l) = either_shows s (term == s.durable.term) _ _ (λ mark sectors at. inl at) kept

  accept_shows : (setup : Setup) (from : ℕ) (e : Entry) → Shows s (on_accept setup s from e).server
  unfolding on_accept accepted
  accept_shows setup from e =
      either_shows s (nat_lt e.term s.durable.term) _ _ kept
      (either_shows s (nat_le e.slot s.durable.base) _ _ (met e.term)
      (either_shows s (nat_lt (s.durable.base + setup.window) e.slot) _ _ kept
      (either_shows s (holds s.durable e.slot e.term) _ _ kept (λ mark sectors at. inl at))))

  message_shows : (setup : Setup) (from term : ℕ) (body : Body) → Shows s (on_message setup s from term body).server
  unfolding on_message on_request_vote on_nack on_commit commit on_probe on_image installed
  message_shows setup from term (RequestVote base) = either_shows s (nat_le term s.durable.term || nat_lt base s.durable.base) _ _ kept (λ mark sectors at. inl at)
  message_shows setup from term (Vote vote) = vote_shows term vote s.role
  message_shows setup from term (Accept e) = accept_shows setup from e
  message_shows setup from term (Ack slot upto_there) = ack_shows from term slot upto_there s.role
  message_shows setup from term Nack = met term
  message_shows setup from term (Commit slot) = either_shows s (holds s.durable slot term) _ _ (λ mark sectors at. inl at) kept
  message_shows setup from term (Probe number) = either_shows s (nat_lt term s.durable.term) _ _ kept kept
  message_shows setup from term (ProbeOk number upto_there) = probe_ok_shows from term number upto_there s.role
  message_shows setup from term (Image base applied sectors) =
      either_shows s (nat_lt term s.durable.term) _ _ kept (either_shows s (nat_le base (upto s)) _ _ (met term) (λ mark shown at. absurd (none-some shown (sym (get-empty nat_cmp mark) ∙ at))))

  finish_shows : (life slot : ℕ) → Shows s (on_finish s life slot).server
  unfolding on_finish applied_op snapshots_after
  finish_shows life slot = either_shows s (life == s.life) _ _ (by_job (FinMap.get s.in_hand slot) refl) kept
    where
      by_job : (o : Option Op) → FinMap.get s.in_hand slot ≡ o → Shows s (applied_op s slot o)
      by_job None is = kept
      by_job (Some Noop) is = kept
      by_job (Some (Write range payload)) is = kept
      by_job (Some Mark) is = λ m sectors at.
          elim (insert_cases s.snapshots slot s.sectors m sectors (greatest (FinMap.insert s.snapshots slot s.sectors) m sectors at)) [
            | inl new ↦ inr (ap (FinMap.get s.in_hand) new.0 ∙ is, new.1)
            | inr old ↦ inl old.1
          ]

  give_back_shows : (life slot : ℕ) → Shows s (on_give_back s life slot).server
  unfolding on_give_back
  give_back_shows life slot = either_shows s (life == s.life) _ _ (λ mark sectors at. inl at) kept

  rule_shows : (setup : Setup) (g : Group) (i : ℕ) (event : Event) (o : Outcome) → IsRule setup g i s event o → Shows s o.server
  unfolding on_packet
  rule_shows setup g i _ _ (BySubmit op) = submit_shows setup op s.role
  rule_shows setup g i _ _ (ByFetch range) = fetch_shows range g.reads s.role
  rule_shows setup g i _ _ (ByPacket k p at to) = message_shows setup p.packet.from p.packet.term p.packet.body
  rule_shows setup g i _ _ ByElect = elect_shows
  rule_shows setup g i _ _ ByResend = resend_shows s.role
  rule_shows setup g i _ _ (ByFinish life slot) = finish_shows life slot
  rule_shows setup g i _ _ (ByGiveBack life slot) = give_back_shows life slot
  rule_shows setup g i _ _ ByCheckpoint = checkpoint_shows

-- at an earlier moment a server had the mark in hand, and these sectors
record WasTaken (setup : Setup) (history : History) (mark : ℕ) (sectors : List Sector) : Type 0 where
  earlier : History
  is_earlier : IsPrefix earlier history
  i : ℕ
  server : Server
  runs : RunsAs (replay setup earlier) i server
  job : FinMap.get server.in_hand mark ≡ Some Mark
  is : server.sectors ≡ sectors

taken_after : (setup : Setup) (earlier history : History) → IsPrefix earlier history → (mark : ℕ) (sectors : List Sector) → WasTaken setup earlier mark sectors → WasTaken setup history mark sectors
taken_after setup earlier history p mark sectors w = record { earlier = w.earlier; is_earlier = prefix_of w.earlier earlier history w.is_earlier p; i = w.i; server = w.server; runs = w.runs; job = w.job; is = w.is }

-- each snapshot of a running server was taken so
abbrev AllTaken : Setup → History → Type 0
AllTaken setup history = (i : ℕ) (s : Server) (mark : ℕ) (sectors : List Sector) → RunsAs (replay setup history) i s → FinMap.get s.snapshots mark ≡ Some sectors → WasTaken setup history mark sectors

no_snapshots : (i : ℕ) (d : Durable) (life mark : ℕ) (sectors : List Sector) → FinMap.get (restarted i life d).snapshots mark ≡ Some sectors → ⊥
unfolding restarted
no_snapshots i d life mark sectors at = none-some sectors (sym (get-empty nat_cmp mark) ∙ at)

claimed_snapshots : (s : Server) (slot : ℕ) → (claimed s slot).snapshots ≡ s.snapshots
unfolding claimed
claimed_snapshots s slot = refl

settled_snapshots : (s : Server) → (settled s).snapshots ≡ s.snapshots
unfolding settled
settled_snapshots s = refl

module _ (setup : Setup) (history : History) (h : Happening) (all : AllTaken setup history) where
  came_taken : (i : ℕ) (z : Server) (mark : ℕ) (sectors : List Sector) → Came setup (replay setup history) h.event (happens setup (replay setup history) h.event (ending h.answer)) i z → FinMap.get z.snapshots mark ≡ Some sectors → WasTaken setup (history ++ h ∷ []) mark sectors
  came_taken i _ mark sectors (Stays s runs) at = taken_after setup history (history ++ h ∷ []) (next_prefix history h) mark sectors (all i s mark sectors runs at)
  came_taken i _ mark sectors (Stepped s o step) at =
      elim (rule_shows s setup (replay setup history) i h.event o step.rule mark sectors (ap (λ m. FinMap.get m mark) (sym (settled_snapshots o.server)) ∙ at)) [
        | inl old ↦ taken_after setup history (history ++ h ∷ []) (next_prefix history h) mark sectors (all i s mark sectors step.runs old)
        | inr new ↦ record { earlier = history; is_earlier = next_prefix history h; i = i; server = s; runs = step.runs; job = new.0; is = new.1 }
      ]
  came_taken i _ mark sectors (Begins life d) at = absurd (no_snapshots i d life mark sectors at)
  came_taken i _ mark sectors (Claims s slot runs) at = taken_after setup history (history ++ h ∷ []) (next_prefix history h) mark sectors (all i s mark sectors runs (ap (λ m. FinMap.get m mark) (sym (claimed_snapshots s slot)) ∙ at))

  next_taken : AllTaken setup (history ++ h ∷ [])
  next_taken i z mark sectors runs at =
      came_taken i z mark sectors ((goes setup (replay setup history) h.event (ending h.answer)).servers i z (ap (λ g. slice_get g.servers i) (sym (run_longer setup (opening setup) history h)) ∙ runs)) at

first_snapshots : (setup : Setup) → (first_leader setup).snapshots ≡ FinMap.empty
unfolding first_leader restarted
first_snapshots setup = refl

none_taken : (setup : Setup) → AllTaken setup []
none_taken setup i s mark sectors runs at =
    absurd (opened setup (λ x. FinMap.get x.snapshots mark ≡ Some sectors → ⊥)
    (λ has. none-some sectors (sym (get-empty nat_cmp mark) ∙ ap (λ m. FinMap.get m mark) (sym (first_snapshots setup)) ∙ has))
    (λ k has. no_snapshots k (opening_disk setup) 0 mark sectors has) i s runs at)

all_taken : (setup : Setup) (history : History) → AllTaken setup history
all_taken setup = by_events (AllTaken setup) (none_taken setup) (next_taken setup)

-- an op that shares no sector with a mark
quiet_by_mark : (op : Op) (x : ℕ) → overlaps (range_of op) (range_of Mark) ≡ false → writes op x ≡ false
unfolding range_of writes
quiet_by_mark Noop x apart = refl
quiet_by_mark Mark x apart = refl
quiet_by_mark (Write range payload) x apart =
    elim (cases_Bool (is_in range x)) [
      | inl inside ↦ absurd (false≢true (sym apart ∙ (shares range whole_span).1 (x, inside, refl)))
      | inr outside ↦ outside
    ]

mark_quiet : (x : ℕ) → writes Mark x ≡ false
unfolding writes
mark_quiet x = refl

turned : (a b : Span) → overlaps a b ≡ false → overlaps b a ≡ false
turned a b is = grind (arith, nat_tests, is)

unfoldable pub chosen_after : (setup : Setup) (earlier history : History) → IsPrefix earlier history → (slot term : ℕ) (op : Op) → IsChosen setup earlier slot term op → IsChosen setup history slot term op
chosen_after setup earlier history p slot term op c = record {
  entry = c.entry;
  proposed = proposal_after setup earlier history p c.entry c.proposed;
  in_slot = c.in_slot;
  in_term = c.in_term;
  has_op = c.has_op;
  one = c.one;
  two = c.two;
  apart = c.apart;
  one_accepted = accepted_after setup earlier history p c.one c.entry c.one_accepted;
  two_accepted = accepted_after setup earlier history p c.two c.entry c.two_accepted;
}

-- what is chosen in a slot that could be passed shares no sector with the op that passed it, then and later
pub passed_apart_later : (setup : Setup) (earlier history : History) → IsPrefix earlier history → (a p t u : ℕ) (op other : Op) → IsPassed setup earlier a p → IsChosen setup history a t op → IsChosen setup history p u other → overlaps (range_of other) (range_of op) ≡ false
unfolding chosen_after
passed_apart_later setup earlier history q a p t u op other passed c d =
    let z = told setup history in
    let there = chosen_after setup earlier history q a passed.term passed.op passed.chosen in
    let is : PassedIn (told setup history).ballots a p = record {
      entry = passed.chosen.entry;
      term = passed.term;
      chosen = chosen_at_end setup history a passed.term passed.op there;
      lets = subst (λ o. passes passed.chosen.entry.look p (range_of o) ≡ true) (sym passed.chosen.has_op) passed.lets;
    } in
    passed_apart z.ballots z.sound z.served a p t u op other is (chosen_by setup history a t op c) (chosen_by setup history p u other d)

pub above_zero : (setup : Setup) (history : History) (slot t : ℕ) (op : Op) → IsChosen setup history slot t op → 0 < slot
above_zero setup history slot t op c =
    let z = told setup history in
    let picked = chosen_at_end setup history slot t op c in
    let made = z.sound.made slot t c.entry picked.is in
    omega (arith, made.is_above)

module _ (setup : Setup) (history : History) (m : ℕ) (sectors : List Sector) (w : WasTaken setup history m sectors) where
  cover : IsCovered setup w.earlier w.server.durable.term (has_applied w.server) w.server.sectors
  cover = servers_covered setup w.earlier w.i w.server w.runs

  in_hand : IsInHand setup w.earlier w.server m Mark
  in_hand = jobs_are_apart setup w.earlier w.i w.server m Mark w.runs w.job

  mark_chosen : IsChosen setup history m in_hand.chosen.0 Mark
  mark_chosen = chosen_after setup w.earlier history w.is_earlier m in_hand.chosen.0 Mark in_hand.chosen.2

  -- what is ever chosen up to the mark in a slot that the server had not applied writes nothing
  quiet_below : (p t : ℕ) (op : Op) (x : ℕ) → IsChosen setup history p t op → p ≤ m → has_applied w.server p ≡ false → writes op x ≡ false
  quiet_below p t op x c low isnt =
      elim (cases_lt p m) [
        | inl below ↦ quiet_by_mark op x (passed_apart_later setup w.earlier history w.is_earlier m p in_hand.chosen.0 t Mark op (in_hand.passed p (above_zero setup history p t op c) below isnt) mark_chosen c)
        | inr reaches ↦
            let here : IsChosen setup history m t op = subst (λ q. IsChosen setup history q t op) (omega (arith, reaches, low)) c in
            subst (λ o. writes o x ≡ false) (one_chosen_op setup history m in_hand.chosen.0 t Mark op mark_chosen here) (mark_quiet x)
      ]

  -- so does what it had applied above the mark
  quiet_above : (a t : ℕ) (op : Op) (x : ℕ) → IsChosen setup history a t op → m < a → has_applied w.server a ≡ true → writes op x ≡ false
  quiet_above a t op x c above did =
      let positive = above_zero setup history m in_hand.chosen.0 Mark mark_chosen in
      quiet_by_mark op x (turned (range_of Mark) (range_of op) (passed_apart_later setup w.earlier history w.is_earlier a m t in_hand.chosen.0 op Mark (cover.passed a m positive above did in_hand.unapplied) c mark_chosen))

  -- so a slot that the server had applied writes only up to the mark
  quiet_then : (a t : ℕ) (op : Op) (x : ℕ) → IsChosen setup w.earlier a t op → has_applied w.server a ≡ true → (IsChosen setup history a t op → nat_le a m ≡ true → writes op x ≡ false) → writes op x ≡ false
  quiet_then a t op x c did within =
      let later = chosen_after setup w.earlier history w.is_earlier a t op c in
      elim (cases_lt m a) [
        | inl above ↦ quiet_above a t op x later above did
        | inr low ↦ within later (le-leb a m low)
      ]

  last_then : (x slot : ℕ) (op : Op) → IsLastWriter setup history (λ q. nat_le q m) x slot op → IsLastWriter setup w.earlier (has_applied w.server) x slot op
  last_then x slot op last = record {
    above = last.above;
    applied = did;
    chosen = (had.1.0, subst (IsChosen setup w.earlier slot had.1.0) same had.1.2);
    writes_it = last.writes_it;
    is_last = λ other t its after is c. quiet_then other t its x c is (λ later within. last.is_last other t its after within later);
  }
    where
      did : has_applied w.server slot ≡ true
      did = elim (cases_Bool (has_applied w.server slot)) [
        | inl is ↦ is
        | inr isnt ↦ absurd (false≢true (sym (quiet_below slot last.chosen.0 op x last.chosen.1 (leb-true slot m last.applied) isnt) ∙ last.writes_it))
      ]

      had : HasChosen setup w.earlier slot w.server.durable.term
      had = cover.chosen slot last.above did

      same : had.0 ≡ op
      same = one_chosen_op setup history slot had.1.0 last.chosen.0 had.0 op (chosen_after setup w.earlier history w.is_earlier slot had.1.0 had.0 had.1.2) last.chosen.1

  held : HoldLastWrites setup history (λ slot. nat_le slot m) sectors
  held =
      let now = servers_hold setup w.earlier w.i w.server w.runs in
      record {
        written = λ x slot op bytes its at last has. now.written x slot op bytes its (ap (λ l. slice_get l x) w.is ∙ at) (last_then x slot op last) has;
        untouched = λ x bytes at nobody. now.untouched x bytes (ap (λ l. slice_get l x) w.is ∙ at) (λ slot t op above is c. quiet_then slot t op x c is (λ later within. nobody slot t op above within later));
      }

-- the snapshot of a mark, when it is taken and ever after
pub snapshot_is : (setup : Setup) (history earlier : History) (i : ℕ) (s : Server) (m : ℕ) (sectors : List Sector) → IsPrefix earlier history → RunsAs (replay setup earlier) i s → FinMap.get s.snapshots m ≡ Some sectors → IsSnapshot setup history m sectors
snapshot_is setup history earlier i s m sectors p runs at =
    let w = taken_after setup earlier history p m sectors (all_taken setup earlier i s m sectors runs at) in
    record { is_mark = ((in_hand setup history m sectors w).chosen.0, mark_chosen setup history m sectors w); holds = held setup history m sectors w }
