-- What a step leaves of a server's term, its lead, what it applied and the reads that wait.
use Rattle.std.proofs.Common.{◌≡◌, ℕ, zero, suc, ◌+◌, ◌-◌, ◌<◌, ◌≤◌, ◌⊎◌, inl, inr, Bool, true, false, cond, not, ◌&&◌, ◌||◌, ◌==◌, if◌then◌else◌, List, [], ◌∷◌, ◌++◌, map, Option, Some, None, nat_lt, nat_le, slice_get, arith, refl, sym, ap, subst, ◌∙◌, le_refl}
use Rattle.std.specs.FinMap
use Rattle.std.specs.List.{range_with_len, filter, list_all}
use Rattle.std.proofs.lemmas.Bool.{cases_lt, or_cases, or_left, or_right, and_parts, or_parts, eqb-true, leb-true, leb-false, ltb-true, ltb-false, lt-ltb, le-leb, and_from}
use Rattle.std.proofs.lemmas.Option.{same_Some, none-some}
use Rattle.std.specs.Ordering.{nat_cmp, eq_by_cmp}
use Rattle.std.proofs.lemmas.Bool.Decides.{nat_tests}
use Rattle.pf_entry.proofs.Maps.{get_inserted}
use Rattle.std.specs.FinMap.{nat_cmp-IsAntisymmetric}
use Rattle.pf_base.specs.Span.{Span, overlaps}
use Rattle.pf_entry.specs.Maps.{Map, Numbers}
use Rattle.pf_entry.specs.Sets
use Rattle.pf_entry.proofs.Sets.{contains-insert, contains-retain}
use Rattle.pf_entry.specs.Lists.{Every}
use Rattle.pf_entry.proofs.Lists.{every_append, every_more, every_map, every_filter, every_flat_map, every_of_all}
use Rattle.pf_entry.specs.Ops.{Sector, range_of}
use Rattle.pf_entry.specs.declared.ops.Op.{Op}
use Rattle.pf_entry.specs.declared.entries.Entry.{Entry}
use Rattle.pf_entry.specs.declared.entries.VoteLog.{VoteLog}
use Rattle.pf_entry.specs.declared.packets.Packet.{Packet}
use Rattle.pf_entry.specs.declared.packets.Body.{Body}
use Rattle.pf_entry.specs.declared.packets.Body.TheVariants.{RequestVote, Vote, Accept, Ack, Nack, Commit, Probe, ProbeOk, Image}
use Rattle.pf_entry.specs.Records.{stored, holds, vote_of}
use Rattle.pf_entry.specs.Merging.{merged_first, merged_entries}
use Rattle.pf_entry.proofs.Cases.{by_test}
use Rattle.pf_protocol.proofs.ChosenKnown.{acked_in, acknowledged_more}
use Rattle.pf_protocol.specs.declared.answers.Answer.{Answer}
use Rattle.pf_protocol.specs.declared.answers.Answer.TheVariants.{Done, Read as ReadIs, Base as BaseIs}
use Rattle.pf_protocol.specs.declared.events.Event.{Event}
use Rattle.pf_protocol.specs.declared.events.Event.TheVariants.{Fetch}
use Rattle.pf_protocol.specs.Servers.{Setup, Leader, Role, Follower, Candidate, Merging, Serving, Read, Server, climb, upto, has_applied}
use Rattle.pf_protocol.specs.Outcomes.{Outcome, to_one, to_others, other_servers, sends, nothing, only_answers, raise_term}
use Rattle.pf_protocol.specs.Leading.{op_at, new_entry, submitted, on_submit, on_fetch, on_elect, resent_entry, resent, on_resend, led, merged, on_vote, has_acked, members, acknowledged, knows, is_own, other_acked, still_merging, counted, commit_to, commit_own, commit, on_ack, confirm, on_probe_ok}
use Rattle.pf_protocol.specs.Following.{meets_term, ack, nack, on_request_vote, accepted, on_accept, on_nack, on_commit, on_probe, installed, on_image}
use Rattle.pf_protocol.specs.Rows.{on_message, on_packet}
use Rattle.pf_protocol.specs.Saving.{is_short_of, trimmed, on_checkpoint, applied_op, on_finish, on_give_back}
use Rattle.pf_protocol.specs.Groups.{Sent, Group}
use Rattle.pf_protocol.proofs.EventChanges.{IsRule, BySubmit, ByFetch, ByPacket, ByElect, ByResend, ByFinish, ByGiveBack, ByCheckpoint}

-- what was applied stays so
abbrev pub More : Server → Server → Type 0
More s z = (slot : ℕ) → has_applied s slot ≡ true → has_applied z slot ≡ true

abbrev pub AcksGrow : Leader → Leader → Type 0
AcksGrow l l2 = (j slot : ℕ) → has_acked l j slot ≡ true → has_acked l2 j slot ≡ true

abbrev Falls : Server → Server → Type 0
Falls s z = (z.role ≡ Follower) ⊎ (s.durable.term < z.durable.term)

-- a follower stays one in its term, and a serving leader goes on or becomes one
abbrev pub RoleStep : Server → Server → Role → Type 0
RoleStep s z Follower = Falls s z
RoleStep s z (Candidate own) = Unit {0}
RoleStep s z (Merging l) = Unit {0}
RoleStep s z (Serving l) = Falls s z ⊎ ((l2 : Leader) × (z.role ≡ Serving l2) × AcksGrow l l2 × More s z)

-- reads wait at serving leaders alone
abbrev pub RoleReads : Role → List Read → Type 0
RoleReads Follower reads = reads ≡ []
RoleReads (Candidate own) reads = reads ≡ []
RoleReads (Merging l) reads = reads ≡ []
RoleReads (Serving l) reads = Unit {0}

pub record Moves (s z : Server) : Type 0 where
  pub term : s.durable.term ≤ z.durable.term
  pub role : RoleStep s z s.role
  pub reads : (z.reads ≡ []) ⊎ ((z.durable.term ≡ s.durable.term) × More s z)
  pub idle : RoleReads s.role s.reads → RoleReads z.role z.reads

-- neither of a read nor of a vote
abbrev pub IsReadless : Body → Type 0
IsReadless (RequestVote base) = ⊥
IsReadless (Vote v) = ⊥
IsReadless (Probe number) = ⊥
IsReadless (ProbeOk number upto_there) = ⊥
IsReadless _ = Unit {0}

-- a step that has to do with no read and no vote, and tells no host anything
pub record Plain (s : Server) (o : Outcome) : Type 0 where
  pub moves : Moves s o.server
  pub reads : (o.server.reads ≡ []) ⊎ (o.server.reads ≡ s.reads)
  pub packets : Every (λ p. IsReadless p.body) o.packets
  pub acked : o.acked ≡ None

either_plain : (s : Server) (c : Bool) (x y : Outcome) → (c ≡ true → Plain s x) → (c ≡ false → Plain s y) → Plain s (if c then x else y)
either_plain s true x y f g = f refl
either_plain s false x y f g = g refl

to_others_plain : (z : Server) (body : Body) → IsReadless body → Every (λ p. IsReadless p.body) (to_others z body)
to_others_plain z body is = every_map (λ p. IsReadless p.body) (λ i. to_one z i body) (other_servers z.number) (every_of_all (λ _. IsReadless body) (other_servers z.number) (λ _. is))

base_low : (n : ℕ) (applied : Numbers) (base : ℕ) → base ≤ climb n applied base
base_low zero applied base = le_refl _
base_low (suc n) applied base = by_test (Sets.contains applied (suc base)) (λ c. base ≤ cond c (climb n applied (suc base)) base) (λ _. omega (arith, base_low n applied (suc base))) (λ _. le_refl _)

base_below : (s : Server) → s.durable.base ≤ upto s
unfolding upto
base_below s = base_low (Sets.len s.applied) s.applied s.durable.base

acknowledged_has : (acks : Map Numbers) (server slot : ℕ) → acked_in (acknowledged acks server slot) server slot ≡ true
unfolding acknowledged
acknowledged_has acks server slot =
    let was = members (FinMap.get acks slot) in
    ap (λ o. Sets.contains (members o) server) (get_inserted acks slot (Sets.insert was server)) ∙ contains-insert was server server ∙ or_left _ _ (tied server)
  where
    tied : (q : ℕ) → eq_by_cmp nat_cmp q q ≡ true
    tied q = grind (arith, nat_tests)

module _ (s : Server) where
  all_stay : More s s
  all_stay slot is = is

  goes_on : (z : Server) → z.role ≡ s.role → z.durable.term ≡ s.durable.term → More s z → z.reads ≡ s.reads → Moves s z
  goes_on z role term more reads = record {
    term = omega (arith, term);
    role = by_role s.role refl;
    reads = inr (term, more);
    idle = λ h. subst (λ r. RoleReads r z.reads) (sym role) (subst (RoleReads s.role) (sym reads) h);
  }
    where
      by_role : (r : Role) → s.role ≡ r → RoleStep s z r
      by_role Follower is = inl (role ∙ is)
      by_role (Candidate own) is = tt
      by_role (Merging l) is = tt
      by_role (Serving l) is = inr (l, role ∙ is, λ j slot has. has, more)

  falls_back : (z : Server) → z.role ≡ Follower → z.reads ≡ [] → s.durable.term ≤ z.durable.term → Moves s z
  falls_back z role reads term = record {
    term = term;
    role = by_role s.role;
    reads = inl reads;
    idle = λ h. subst (λ r. RoleReads r z.reads) (sym role) reads;
  }
    where
      by_role : (r : Role) → RoleStep s z r
      by_role Follower = inl role
      by_role (Candidate own) = tt
      by_role (Merging l) = tt
      by_role (Serving l) = inl (inl role)

  kept : Moves s s
  kept = goes_on s refl refl all_stay refl

  idle_plain : (packets : List Packet) → Every (λ p. IsReadless p.body) packets → Plain s (sends s packets)
  idle_plain packets are = record { moves = kept; reads = inr refl; packets = are; acked = refl }

  refused_plain : (answer : Answer) → Plain s (only_answers s answer)
  refused_plain answer = record { moves = kept; reads = inr refl; packets = tt; acked = refl }

  met_moves : (term : ℕ) → Moves s (meets_term s term)
  unfolding stored
  met_moves term = by_test (nat_lt s.durable.term term) (λ c. nat_lt s.durable.term term ≡ c → Moves s (if c then raise_term s term else s)) (λ _ is. falls_back (raise_term s term) refl refl (omega (arith, ltb-true s.durable.term term is))) (λ _ _. kept) refl

  met_reads : (term : ℕ) → ((meets_term s term).reads ≡ []) ⊎ ((meets_term s term).reads ≡ s.reads)
  met_reads term = by_test (nat_lt s.durable.term term) (λ c. ((if c then raise_term s term else s).reads ≡ []) ⊎ ((if c then raise_term s term else s).reads ≡ s.reads)) (λ _. inl refl) (λ _. inr refl)

  met_plain : (term to slot : ℕ) → Plain s (ack (meets_term s term) to slot)
  met_plain term to slot = record { moves = met_moves term; reads = met_reads term; packets = (tt, tt); acked = refl }

  submit_plain : (setup : Setup) (op : Op) (role : Role) → s.role ≡ role → Plain s (on_submit setup s op role)
  unfolding on_submit submitted stored new_entry
  submit_plain setup op Follower is = refused_plain _
  submit_plain setup op (Candidate own) is = refused_plain _
  submit_plain setup op (Merging l) is = refused_plain _
  submit_plain setup op (Serving l) is = either_plain s (nat_lt (s.durable.base + setup.window) l.next) _ _ (λ _. refused_plain _) (λ _. record {
    moves = record {
      term = le_refl _;
      role = subst (RoleStep s (submitted s l (new_entry setup.names s l op))) (sym is) (inr (_, refl, λ j slot has. acknowledged_more l.acks s.number l.next j slot has, all_stay));
      reads = inr (refl, all_stay);
      idle = λ h. tt;
    };
    reads = inr refl;
    packets = to_others_plain s (Accept (new_entry setup.names s l op)) tt;
    acked = refl;
  })

  elect_moves : Moves s (on_elect s).server
  unfolding on_elect stored
  elect_moves = record { term = omega arith; role = by_role s.role; reads = inl refl; idle = λ h. refl }
    where
      by_role : (r : Role) → RoleStep s (on_elect s).server r
      by_role Follower = inr (omega arith)
      by_role (Candidate own) = tt
      by_role (Merging l) = tt
      by_role (Serving l) = inl (inr (omega arith))

  trim_more : More s (trimmed s)
  unfolding trimmed stored
  trim_more slot is =
      elim (cases_lt (upto s) slot) [
        | inl beyond ↦ or_right _ _ (contains-retain s.applied (nat_lt (upto s)) slot (λ x t. ap (nat_lt (upto s)) (sym (nat_cmp-IsAntisymmetric slot x t))) ∙ and_from _ _ (has_it beyond) (lt-ltb (upto s) slot beyond))
        | inr within ↦ or_left _ _ (le-leb slot (upto s) within)
      ]
    where
      has_it : upto s < slot → Sets.contains s.applied slot ≡ true
      has_it beyond = elim (or_cases (nat_le slot s.durable.base) (Sets.contains s.applied slot) is) [
        | inl low ↦ absurd (omega (arith, base_below s, beyond, leb-true slot s.durable.base low))
        | inr has ↦ has
      ]

  trim_plain : trimmed s ≡ trimmed s → Plain s (only_answers (trimmed s) (BaseIs (upto s)))
  unfolding trimmed stored
  trim_plain same = record { moves = goes_on (trimmed s) refl refl trim_more refl; reads = inr refl; packets = tt; acked = refl }

  checkpoint_plain : Plain s (on_checkpoint s)
  unfolding on_checkpoint
  checkpoint_plain = either_plain s (upto s == s.durable.base || is_short_of s.role (upto s)) _ _ (λ _. refused_plain _) (λ _. trim_plain refl)

  finish_plain : (life slot : ℕ) → Plain s (on_finish s life slot)
  unfolding on_finish applied_op
  finish_plain life slot = either_plain s (life == s.life) _ _ (λ _. by_job (FinMap.get s.in_hand slot)) (λ _. refused_plain _)
    where
      by_job : (o : Option Op) → Plain s (sends (applied_op s slot o) [])
      by_job None = idle_plain [] tt
      by_job (Some op) = record {
        moves = goes_on _ refl refl (λ p is. elim (or_cases (nat_le p s.durable.base) (Sets.contains s.applied p) is) [
          | inl low ↦ or_left _ _ low
          | inr has ↦ or_right _ _ (contains-insert s.applied slot p ∙ or_right _ _ has)
        ]) refl;
        reads = inr refl;
        packets = tt;
        acked = refl;
      }

  give_back_plain : (life slot : ℕ) → Plain s (on_give_back s life slot)
  unfolding on_give_back
  give_back_plain life slot = either_plain s (life == s.life) _ _ (λ _. record { moves = goes_on _ refl refl all_stay refl; reads = inr refl; packets = tt; acked = refl }) (λ _. idle_plain [] tt)

  vote_plain : (term : ℕ) (vote : VoteLog) (role : Role) → s.role ≡ role → Plain s (on_vote s term vote role)
  unfolding on_vote merged stored
  vote_plain term vote Follower is = idle_plain [] tt
  vote_plain term vote (Merging l) is = idle_plain [] tt
  vote_plain term vote (Serving l) is = idle_plain [] tt
  vote_plain term vote (Candidate own) is = either_plain s (term == s.durable.term && nat_le vote.base s.durable.base) _ _
      (λ _. record {
        moves = record {
          term = le_refl _;
          role = subst (RoleStep s (merged s own vote)) (sym is) tt;
          reads = inr (refl, all_stay);
          idle = λ h. let none : s.reads ≡ [] = subst (λ r. RoleReads r s.reads) is h in leads (nat_lt (suc s.durable.base) (merged_first s.durable.base own vote)) none;
        };
        reads = inr refl;
        packets = every_flat_map (λ p. IsReadless p.body) (λ e. to_others s (Accept e)) (merged_entries s.durable.term s.durable.base own vote) (λ e. to_others_plain s (Accept e) tt);
        acked = refl;
      })
      (λ _. idle_plain [] tt)
    where
      leads : (c : Bool) → s.reads ≡ [] → RoleReads (if c then Merging (led s.durable.base (merged_first s.durable.base own vote) (merged_first s.durable.base own vote) s.number) else Serving (led s.durable.base (merged_first s.durable.base own vote) (merged_first s.durable.base own vote) s.number)) s.reads
      leads true none = none
      leads false none = tt

  accept_plain : (setup : Setup) (from : ℕ) (e : Entry) → Plain s (on_accept setup s from e)
  unfolding on_accept accepted stored
  accept_plain setup from e =
      either_plain s (nat_lt e.term s.durable.term) _ _ (λ _. idle_plain _ (tt, tt)) (λ no_lower.
      either_plain s (nat_le e.slot s.durable.base) _ _ (λ _. met_plain e.term from e.slot) (λ _.
      either_plain s (nat_lt (s.durable.base + setup.window) e.slot) _ _ (λ _. idle_plain [] tt) (λ _.
      either_plain s (holds s.durable e.slot e.term) _ _ (λ _. idle_plain _ (tt, tt)) (λ _.
      record { moves = falls_back (accepted s e) refl refl (ltb-false e.term s.durable.term no_lower); reads = inl refl; packets = (tt, tt); acked = refl }))))

  image_plain : (from term base : ℕ) (applied : Numbers) (sectors : List Sector) → Plain s (on_image s from term base applied sectors)
  unfolding on_image installed stored
  image_plain from term base applied sectors =
      either_plain s (nat_lt term s.durable.term) _ _ (λ _. idle_plain _ (tt, tt)) (λ no_lower.
      either_plain s (nat_le base (upto s)) _ _ (λ _. met_plain term from base) (λ _.
      record { moves = falls_back (installed s term base applied sectors) refl refl (ltb-false term s.durable.term no_lower); reads = inl refl; packets = (tt, tt); acked = refl }))

  nack_plain : (term : ℕ) → Plain s (on_nack s term)
  unfolding on_nack
  nack_plain term = record { moves = met_moves term; reads = met_reads term; packets = tt; acked = refl }

  commit_plain : (term slot : ℕ) → Plain s (on_commit s term slot)
  unfolding on_commit commit
  commit_plain term slot = either_plain s (holds s.durable slot term) _ _ (λ _. record { moves = goes_on _ refl refl all_stay refl; reads = inr refl; packets = tt; acked = refl }) (λ _. idle_plain [] tt)

  commit_packets : (l : Leader) (from slot : ℕ) → Every (λ p. IsReadless p.body) (commit_to s l from slot)
  commit_packets l from slot = by_test (is_own l slot) (λ c. Every (λ p. IsReadless p.body) (if c then to_one s from (Commit slot) ∷ [] else [])) (λ _. (tt, tt)) (λ _. tt)

  counted_more : (l : Leader) (from slot upto_there : ℕ) → AcksGrow l (counted l from slot upto_there)
  unfolding counted
  counted_more l from slot upto_there j k has = by_test (is_own l slot) (λ c. acked_in (if c then acknowledged l.acks from slot else l.acks) j k ≡ true) (λ _. acknowledged_more l.acks from slot j k has) (λ _. has)

  abbrev after_ack : Leader → Role → ℕ → Server
  after_ack l role slot = let m = commit_own s l slot in record m { role = role }

  -- an acknowledgement
  ack_moves : (from term slot upto_there : ℕ) (role : Role) → s.role ≡ role → Moves s (on_ack s from term slot upto_there role).server
  unfolding on_ack commit_own
  ack_moves from term slot upto_there Follower is = kept
  ack_moves from term slot upto_there (Candidate own) is = kept
  ack_moves from term slot upto_there (Merging l) is = by_test (term == s.durable.term) (λ c. Moves s (if c then sends (let m = commit_own s l slot in record m { role = still_merging s (counted l from slot upto_there) }) (commit_to s l from slot) else nothing s).server)
      (λ _. record { term = le_refl _; role = subst (RoleStep s (after_ack l (still_merging s (counted l from slot upto_there)) slot)) (sym is) tt; reads = inr (refl, all_stay); idle = λ h. let none : s.reads ≡ [] = subst (λ r. RoleReads r s.reads) is h in merges (list_all (other_acked (counted l from slot upto_there) s.number) (range_with_len (suc (counted l from slot upto_there).b0) ((counted l from slot upto_there).first - suc (counted l from slot upto_there).b0))) none })
      (λ _. kept)
    where
      merges : (c : Bool) → s.reads ≡ [] → RoleReads (if c then Serving (counted l from slot upto_there) else Merging (counted l from slot upto_there)) s.reads
      merges true none = tt
      merges false none = none
  ack_moves from term slot upto_there (Serving l) is = by_test (term == s.durable.term) (λ c. Moves s (if c then served_ack l else nothing s).server)
      (λ _. record { term = le_refl _; role = subst (RoleStep s (after_ack l (Serving (counted l from slot upto_there)) slot)) (sym is) (inr (counted l from slot upto_there, refl, counted_more l from slot upto_there, all_stay)); reads = inr (refl, all_stay); idle = λ h. tt })
      (λ _. kept)
    where
      served_ack : Leader → Outcome
      served_ack l = record {
        server = (let m = commit_own s l slot in record m { role = Serving (counted l from slot upto_there) });
        packets = commit_to s l from slot;
        answer = Done;
        acked = if is_own l slot && nat_le l.first slot && not (other_acked l s.number slot) then Some slot else None;
      }

  ack_rest : (from term slot upto_there : ℕ) (role : Role) → ((on_ack s from term slot upto_there role).server.reads ≡ s.reads) × Every (λ p. IsReadless p.body) (on_ack s from term slot upto_there role).packets
  unfolding on_ack commit_own
  ack_rest from term slot upto_there Follower = (refl, tt)
  ack_rest from term slot upto_there (Candidate own) = (refl, tt)
  ack_rest from term slot upto_there (Merging l) = by_test (term == s.durable.term) (λ c. let o = (if c then sends (let m = commit_own s l slot in record m { role = still_merging s (counted l from slot upto_there) }) (commit_to s l from slot) else nothing s) in (o.server.reads ≡ s.reads) × Every (λ p. IsReadless p.body) o.packets)
      (λ _. (refl, commit_packets l from slot)) (λ _. (refl, tt))
  ack_rest from term slot upto_there (Serving l) = by_test (term == s.durable.term) (λ c. let o = (if c then served_ack l else nothing s) in (o.server.reads ≡ s.reads) × Every (λ p. IsReadless p.body) o.packets)
      (λ _. (refl, commit_packets l from slot)) (λ _. (refl, tt))
    where
      served_ack : Leader → Outcome
      served_ack l = record {
        server = (let m = commit_own s l slot in record m { role = Serving (counted l from slot upto_there) });
        packets = commit_to s l from slot;
        answer = Done;
        acked = if is_own l slot && nat_le l.first slot && not (other_acked l s.number slot) then Some slot else None;
      }

  -- what a leader tells its host
  pub record Tells (z : Server) (from slot : ℕ) : Type 0 where
    pub leader : Leader
    pub served : s.role ≡ Serving leader
    pub own : is_own leader slot ≡ true
    pub later : Leader
    pub serves : z.role ≡ Serving later
    pub same_term : z.durable.term ≡ s.durable.term
    pub counts : has_acked later from slot ≡ true

  tells : (from term slot upto_there : ℕ) (role : Role) → s.role ≡ role → (told : ℕ) → (on_ack s from term slot upto_there role).acked ≡ Some told → Tells (on_ack s from term slot upto_there role).server from told
  unfolding on_ack commit_own counted
  tells from term slot upto_there Follower is told acked = absurd (none-some told acked)
  tells from term slot upto_there (Candidate own) is told acked = absurd (none-some told acked)
  tells from term slot upto_there (Merging l) is told acked =
      absurd (by_test (term == s.durable.term) (λ c. (if c then sends (let m = commit_own s l slot in record m { role = still_merging s (counted l from slot upto_there) }) (commit_to s l from slot) else nothing s).acked ≡ Some told → ⊥) (λ _ e. none-some told e) (λ _ e. none-some told e) acked)
  tells from term slot upto_there (Serving l) is told acked = by_test (term == s.durable.term) (λ c. (if c then served_ack l else nothing s).acked ≡ Some told → Tells (if c then served_ack l else nothing s).server from told)
      (λ _ e. own_slot (is_own l slot) refl e)
      (λ _ e. absurd (none-some told e)) acked
    where
      served_ack : Leader → Outcome
      served_ack l = record {
        server = (let m = commit_own s l slot in record m { role = Serving (counted l from slot upto_there) });
        packets = commit_to s l from slot;
        answer = Done;
        acked = if is_own l slot && nat_le l.first slot && not (other_acked l s.number slot) then Some slot else None;
      }

      same_slot : (c : Bool) → (if c then Some slot else None) ≡ Some told → (c ≡ true) × (slot ≡ told)
      same_slot true e = (refl, same_Some slot told e)
      same_slot false e = absurd (none-some told e)

      own_slot : (c : Bool) → is_own l slot ≡ c → (if is_own l slot && nat_le l.first slot && not (other_acked l s.number slot) then Some slot else None) ≡ Some told → Tells (served_ack l).server from told
      own_slot c own e =
          let x = same_slot (is_own l slot && nat_le l.first slot && not (other_acked l s.number slot)) e in
          let mine = (and_parts (is_own l slot) _ (and_parts _ _ x.0).0).0 in
          record {
            leader = l;
            served = is;
            own = subst (λ k. is_own l k ≡ true) x.1 mine;
            later = counted l from slot upto_there;
            serves = refl;
            same_term = refl;
            counts = subst (λ k. has_acked (counted l from slot upto_there) from k ≡ true) x.1
                (ap (λ c. acked_in (if c then acknowledged l.acks from slot else l.acks) from slot) mine ∙ acknowledged_has l.acks from slot);
          }

  -- a read that a leader takes up
  abbrev pub new_read : Span → ℕ → Read
  new_read range number = record {
    number = number;
    range = range;
    waits_for = Sets.retain s.committed (λ slot. not (has_applied s slot) && overlaps (range_of (op_at s.durable.log slot)) range);
    confirmed = false;
  }

  pub record TakesUp (range : Span) (number : ℕ) (o : Outcome) : Type 0 where
    pub leader : Leader
    pub serves : s.role ≡ Serving leader
    pub reads : o.server.reads ≡ s.reads ++ new_read range number ∷ []
    pub answer : o.answer ≡ ReadIs number
    pub server : o.server ≡ record s { reads = s.reads ++ new_read range number ∷ [] }

  fetches : (range : Span) (number : ℕ) (role : Role) → s.role ≡ role → (Plain s (on_fetch s range number role)) ⊎ TakesUp range number (on_fetch s range number role)
  unfolding on_fetch
  fetches range number Follower is = inl (refused_plain _)
  fetches range number (Candidate own) is = inl (refused_plain _)
  fetches range number (Merging l) is = inl (refused_plain _)
  fetches range number (Serving l) is = inr (record { leader = l; serves = is; reads = refl; answer = refl; server = refl })

-- what a packet of a step has to do with reads. B is known of the numbers of reads that wait
pub data Speaks (B : ℕ → Type 0) (g : Group) (i : ℕ) (s : Server) (event : Event) (answer : Answer) (after : ℕ) (p : Packet) : Type 0 where
  Plainly : IsReadless p.body → Speaks B g i s event answer after p
  Asks : p.body ≡ Probe g.reads → answer ≡ ReadIs g.reads → Speaks B g i s event answer after p
  AsksAgain : (n : ℕ) → p.body ≡ Probe n → B n → Speaks B g i s event answer after p
  Replies : (k : ℕ) (sent : Sent) (n upto_there : ℕ) → slice_get g.packets k ≡ Some sent → sent.packet.to ≡ i → sent.packet.body ≡ Probe n → p.body ≡ ProbeOk n upto_there → p.to ≡ sent.packet.from → p.term ≡ sent.packet.term → s.durable.term ≤ sent.packet.term → Speaks B g i s event answer after p
  Requests : (base : ℕ) → p.body ≡ RequestVote base → p.from ≡ s.number → p.term ≤ after → Speaks B g i s event answer after p
  Grants : (k : ℕ) (sent : Sent) (base : ℕ) → slice_get g.packets k ≡ Some sent → sent.packet.to ≡ i → sent.packet.body ≡ RequestVote base → p.body ≡ Vote (vote_of s.durable) → p.from ≡ s.number → p.to ≡ sent.packet.from → p.term ≡ sent.packet.term → s.durable.term < p.term → Speaks B g i s event answer after p

-- where the reads that wait after a step come from
pub data ReadsFrom (g : Group) (i : ℕ) (s : Server) (event : Event) (o : Outcome) : Type 0 where
  NoReads : o.server.reads ≡ [] → ReadsFrom g i s event o
  SameReads : o.server.reads ≡ s.reads → ReadsFrom g i s event o
  Takes : (range : Span) → event ≡ Fetch i range → TakesUp s range g.reads o → ReadsFrom g i s event o
  Confirms : (k : ℕ) (sent : Sent) (n upto_there : ℕ) → slice_get g.packets k ≡ Some sent → sent.packet.to ≡ i → sent.packet.body ≡ ProbeOk n upto_there → sent.packet.term ≡ s.durable.term → o.server.reads ≡ map (confirm n) s.reads → ReadsFrom g i s event o

pub record TellsBy (g : Group) (i : ℕ) (s : Server) (o : Outcome) (slot : ℕ) : Type 0 where
  pub k : ℕ
  pub sent : Sent
  pub at : slice_get g.packets k ≡ Some sent
  pub to_it : sent.packet.to ≡ i
  pub tells : Tells s o.server sent.packet.from slot

pub record Does (g : Group) (i : ℕ) (s : Server) (event : Event) (o : Outcome) : Type 1 where
  pub moves : Moves s o.server
  pub reads : ReadsFrom g i s event o
  pub packets : (B : ℕ → Type 0) → Every (λ r. B r.number) s.reads → Every (Speaks B g i s event o.answer o.server.durable.term) o.packets
  pub acked : (slot : ℕ) → o.acked ≡ Some slot → TellsBy g i s o slot

module _ (g : Group) (i : ℕ) (s : Server) (event : Event) where
  plainly : (B : ℕ → Type 0) (answer : Answer) (after : ℕ) (packets : List Packet) → Every (λ p. IsReadless p.body) packets → Every (Speaks B g i s event answer after) packets
  plainly B answer after packets are = every_more (λ p. IsReadless p.body) (Speaks B g i s event answer after) (λ p is. Plainly is) packets are

  plain_does : (o : Outcome) → Plain s o → Does g i s event o
  plain_does o h = record {
    moves = h.moves;
    reads = elim (h.reads) [ inl none ↦ NoReads none | inr same ↦ SameReads same ];
    packets = λ B each. plainly B o.answer o.server.durable.term o.packets h.packets;
    acked = λ slot is. absurd (none-some slot (sym h.acked ∙ is));
  }

  ask_packets : (B : ℕ → Type 0) (answer : Answer) (after : ℕ) → answer ≡ ReadIs g.reads → Every (Speaks B g i s event answer after) (to_others s (Probe g.reads))
  ask_packets B answer after is = every_map (Speaks B g i s event answer after) (λ j. to_one s j (Probe g.reads)) (other_servers s.number) (every_of_all (λ j. Speaks B g i s event answer after (to_one s j (Probe g.reads))) (other_servers s.number) (λ j. Asks refl is))

  entry_packets : (B : ℕ → Type 0) (answer : Answer) (after : ℕ) (l : Leader) (to slot : ℕ) (o : Option Entry) → Every (Speaks B g i s event answer after) (resent_entry s l to o slot)
  entry_packets B answer after l to slot None = tt
  entry_packets B answer after l to slot (Some e) =
      by_test (not (has_acked l to slot)) (λ c. Every (Speaks B g i s event answer after) (if c then to_one s to (Accept e) ∷ [] else (if nat_lt (knows l to) slot then to_one s to (Commit slot) ∷ [] else [])))
      (λ _. (Plainly tt, tt))
      (λ _. by_test (nat_lt (knows l to) slot) (λ c. Every (Speaks B g i s event answer after) (if c then to_one s to (Commit slot) ∷ [] else [])) (λ _. (Plainly tt, tt)) (λ _. tt))

  resent_packets : (B : ℕ → Type 0) (answer : Answer) (after : ℕ) → Every (λ r. B r.number) s.reads → (l : Leader) (to : ℕ) → Every (Speaks B g i s event answer after) (resent s l to)
  unfolding resent
  resent_packets B answer after each l to =
      let P : Packet → Type 0 = Speaks B g i s event answer after in
      every_append P _ _
      (every_append P (if nat_lt (knows l to) s.durable.base then to_one s to (Image s.durable.base s.applied s.sectors) ∷ [] else []) _
      (by_test (nat_lt (knows l to) s.durable.base) (λ c. Every P (if c then to_one s to (Image s.durable.base s.applied s.sectors) ∷ [] else [])) (λ _. (Plainly tt, tt)) (λ _. tt))
      (every_flat_map P (λ slot. resent_entry s l to (FinMap.get s.durable.log slot) slot) (range_with_len (suc s.durable.base) (l.next - suc s.durable.base)) (λ slot. entry_packets B answer after l to slot (FinMap.get s.durable.log slot))))
      (every_map P (λ r. to_one s to (Probe r.number)) (filter (λ r. not r.confirmed) s.reads)
      (every_filter (λ r. P (to_one s to (Probe r.number))) (λ r. not r.confirmed) s.reads
      (every_more (λ r. B r.number) (λ r. not r.confirmed ≡ true → P (to_one s to (Probe r.number))) (λ r is _. AsksAgain r.number refl is) s.reads each)))

  request_packets : (B : ℕ → Type 0) (answer : Answer) (z : Server) → z.number ≡ s.number → Every (Speaks B g i s event answer z.durable.term) (to_others z (RequestVote s.durable.base))
  request_packets B answer z same = every_map (Speaks B g i s event answer z.durable.term) (λ j. to_one z j (RequestVote s.durable.base)) (other_servers z.number)
      (every_of_all (λ j. Speaks B g i s event answer z.durable.term (to_one z j (RequestVote s.durable.base))) (other_servers z.number) (λ j. Requests s.durable.base refl same (le_refl _)))

  elect_does : Does g i s event (on_elect s)
  unfolding on_elect
  elect_does = record { moves = elect_moves s; reads = NoReads refl; packets = λ B each. request_packets B (on_elect s).answer (on_elect s).server refl; acked = λ slot is. absurd (none-some slot is) }

  resend_does : (role : Role) → Does g i s event (on_resend s role)
  unfolding on_resend
  resend_does Follower = plain_does _ (idle_plain s _ (to_others_plain s (Ack s.durable.base (upto s)) tt))
  resend_does (Candidate own) = record { moves = kept s; reads = SameReads refl; packets = λ B each. request_packets B Done s refl; acked = λ slot is. absurd (none-some slot is) }
  resend_does (Merging l) = record { moves = kept s; reads = SameReads refl; packets = λ B each. every_flat_map (Speaks B g i s event Done s.durable.term) (resent s l) (other_servers s.number) (resent_packets B Done s.durable.term each l); acked = λ slot is. absurd (none-some slot is) }
  resend_does (Serving l) = record { moves = kept s; reads = SameReads refl; packets = λ B each. every_flat_map (Speaks B g i s event Done s.durable.term) (resent s l) (other_servers s.number) (resent_packets B Done s.durable.term each l); acked = λ slot is. absurd (none-some slot is) }

  fetch_packets : (range : Span) (role : Role) → s.role ≡ role → TakesUp s range g.reads (on_fetch s range g.reads role) → (B : ℕ → Type 0) → Every (Speaks B g i s event (on_fetch s range g.reads role).answer (on_fetch s range g.reads role).server.durable.term) (on_fetch s range g.reads role).packets
  unfolding on_fetch
  fetch_packets range Follower is takes B = tt
  fetch_packets range (Candidate own) is takes B = tt
  fetch_packets range (Merging l) is takes B = tt
  fetch_packets range (Serving l) is takes B = ask_packets B (ReadIs g.reads) s.durable.term refl

  fetch_acked : (range : Span) (role : Role) (slot : ℕ) → (on_fetch s range g.reads role).acked ≡ Some slot → ⊥
  unfolding on_fetch
  fetch_acked range Follower slot is = none-some slot is
  fetch_acked range (Candidate own) slot is = none-some slot is
  fetch_acked range (Merging l) slot is = none-some slot is
  fetch_acked range (Serving l) slot is = none-some slot is

  took_moves : (range : Span) (o : Outcome) → TakesUp s range g.reads o → Moves s o.server
  took_moves range o takes = subst (Moves s) (sym takes.server) (record {
    term = le_refl _;
    role = by_role s.role refl;
    reads = inr (refl, all_stay s);
    idle = λ h. subst (λ r. RoleReads r (s.reads ++ new_read s range g.reads ∷ [])) (sym takes.serves) tt;
  })
    where
      by_role : (r : Role) → s.role ≡ r → RoleStep s (record s { reads = s.reads ++ new_read s range g.reads ∷ [] }) r
      by_role Follower is = inl is
      by_role (Candidate own) is = tt
      by_role (Merging l) is = tt
      by_role (Serving l) is = inr (l, is, λ j slot has. has, λ slot did. did)

  fetch_does : (range : Span) → event ≡ Fetch i range → (Plain s (on_fetch s range g.reads s.role)) ⊎ TakesUp s range g.reads (on_fetch s range g.reads s.role) → Does g i s event (on_fetch s range g.reads s.role)
  fetch_does range is which = elim which [
    | inl plain ↦ plain_does _ plain
    | inr takes ↦ record {
      moves = took_moves range _ takes;
      reads = Takes range is takes;
      packets = λ B each. fetch_packets range s.role refl takes B;
      acked = λ slot told. absurd (fetch_acked range s.role slot told);
    }
  ]

  module _ (k : ℕ) (sent : Sent) (at : slice_get g.packets k ≡ Some sent) (to_it : sent.packet.to ≡ i) where
    probe_does : (number : ℕ) → sent.packet.body ≡ Probe number → Does g i s event (on_probe s sent.packet.from sent.packet.term number)
    unfolding on_probe
    probe_does number is = by_bool (nat_lt sent.packet.term s.durable.term) refl
      where
        by_bool : (c : Bool) → nat_lt sent.packet.term s.durable.term ≡ c → Does g i s event (if c then nack s sent.packet.from else sends s (record { from = s.number; to = sent.packet.from; term = sent.packet.term; body = ProbeOk number (upto s) } ∷ []))
        by_bool true test = plain_does _ (idle_plain s _ (tt, tt))
        by_bool false test = record {
          moves = kept s;
          reads = SameReads refl;
          packets = λ B each. (Replies k sent number (upto s) at to_it is refl refl refl (ltb-false sent.packet.term s.durable.term test), tt);
          acked = λ slot told. absurd (none-some slot told);
        }

    request_vote_does : (base : ℕ) → sent.packet.body ≡ RequestVote base → Does g i s event (on_request_vote s sent.packet.from sent.packet.term base)
    unfolding on_request_vote stored
    request_vote_does base is = by_bool (nat_le sent.packet.term s.durable.term || nat_lt base s.durable.base) refl
      where
        by_bool : (c : Bool) → (nat_le sent.packet.term s.durable.term || nat_lt base s.durable.base) ≡ c → Does g i s event (if c then nack s sent.packet.from else (let after = raise_term s sent.packet.term in sends after (to_one after sent.packet.from (Vote (vote_of s.durable)) ∷ [])))
        by_bool true test = plain_does _ (idle_plain s _ (tt, tt))
        by_bool false test =
            let higher = leb-false sent.packet.term s.durable.term (or_parts _ _ test).0 in
            record {
              moves = falls_back s (raise_term s sent.packet.term) refl refl (omega (arith, higher));
              reads = NoReads refl;
              packets = λ B each. (Grants k sent base at to_it is refl refl refl refl higher, tt);
              acked = λ slot told. absurd (none-some slot told);
            }

    probe_ok_does : (number upto_there : ℕ) → sent.packet.body ≡ ProbeOk number upto_there → (role : Role) → s.role ≡ role → Does g i s event (on_probe_ok s sent.packet.from sent.packet.term number upto_there role)
    unfolding on_probe_ok
    probe_ok_does number upto_there is Follower role = plain_does _ (idle_plain s [] tt)
    probe_ok_does number upto_there is (Candidate own) role = plain_does _ (idle_plain s [] tt)
    probe_ok_does number upto_there is (Merging l) role = plain_does _ (idle_plain s [] tt)
    probe_ok_does number upto_there is (Serving l) role = by_bool (sent.packet.term == s.durable.term) refl
      where
        after : Server
        after = record s { role = Serving (record l { known = FinMap.insert l.known sent.packet.from upto_there }); reads = map (confirm number) s.reads }

        by_bool : (c : Bool) → (sent.packet.term == s.durable.term) ≡ c → Does g i s event (if c then nothing after else nothing s)
        by_bool true test = record {
          moves = record {
            term = le_refl _;
            role = subst (RoleStep s after) (sym role) (inr (_, refl, λ j slot has. has, λ slot did. did));
            reads = inr (refl, all_stay s);
            idle = λ h. tt;
          };
          reads = Confirms k sent number upto_there at to_it is (eqb-true sent.packet.term s.durable.term test) refl;
          packets = λ B each. tt;
          acked = λ slot told. absurd (none-some slot told);
        }
        by_bool false test = plain_does _ (idle_plain s [] tt)

    ack_does : (slot upto_there : ℕ) → Does g i s event (on_ack s sent.packet.from sent.packet.term slot upto_there s.role)
    ack_does slot upto_there =
        let rest = ack_rest s sent.packet.from sent.packet.term slot upto_there s.role in
        record {
          moves = ack_moves s sent.packet.from sent.packet.term slot upto_there s.role refl;
          reads = SameReads rest.0;
          packets = λ B each. plainly B _ _ _ rest.1;
          acked = λ told is. record { k = k; sent = sent; at = at; to_it = to_it; tells = tells s sent.packet.from sent.packet.term slot upto_there s.role refl told is };
        }

    message_does : (setup : Setup) (body : Body) → sent.packet.body ≡ body → Does g i s event (on_message setup s sent.packet.from sent.packet.term body)
    unfolding on_message
    message_does setup (RequestVote base) is = request_vote_does base is
    message_does setup (Vote vote) is = plain_does _ (vote_plain s sent.packet.term vote s.role refl)
    message_does setup (Accept e) is = plain_does _ (accept_plain s setup sent.packet.from e)
    message_does setup (Ack slot upto_there) is = ack_does slot upto_there
    message_does setup Nack is = plain_does _ (nack_plain s sent.packet.term)
    message_does setup (Commit slot) is = plain_does _ (commit_plain s sent.packet.term slot)
    message_does setup (Probe number) is = probe_does number is
    message_does setup (ProbeOk number upto_there) is = probe_ok_does number upto_there is s.role refl
    message_does setup (Image base applied sectors) is = plain_does _ (image_plain s sent.packet.from sent.packet.term base applied sectors)

-- every rule
pub does : (setup : Setup) (g : Group) (i : ℕ) (s : Server) (event : Event) (o : Outcome) → IsRule setup g i s event o → Does g i s event o
unfolding on_packet
does setup g i s event _ (BySubmit op) = plain_does g i s event _ (submit_plain s setup op s.role refl)
does setup g i s event _ (ByFetch range) = fetch_does g i s event range refl (fetches s range g.reads s.role refl)
does setup g i s event _ (ByPacket k p at to) = message_does g i s event k p at to setup p.packet.body refl
does setup g i s event _ ByElect = elect_does g i s event
does setup g i s event _ ByResend = resend_does g i s event s.role
does setup g i s event _ (ByFinish life slot) = plain_does g i s event _ (finish_plain s life slot)
does setup g i s event _ (ByGiveBack life slot) = plain_does g i s event _ (give_back_plain s life slot)
does setup g i s event _ ByCheckpoint = plain_does g i s event _ (checkpoint_plain s)
