-- What servers and messages know to be chosen.
use Rattle.std.proofs.Common.{◌≡◌, ℕ, zero, suc, ◌+◌, ◌<◌, ◌≤◌, ◌≢◌, ◌⊎◌, inl, inr, Bool, true, false, cond, List, [], ◌∷◌, Option, Some, nat_lt, ◌==◌, map, slice_get, add-zero, zero-add, arith, refl, sym, ap, subst, ◌∙◌, le_trans, lt_of_le_of_lt}
use Rattle.std.specs.FinMap
use Rattle.pf_entry.specs.Sets
use Rattle.std.proofs.lemmas.Bool.{or_cases, or_left, or_right, le-leb, cases_lt, cases_eq, and_parts, or_parts, ltb-true, eqb-true, eq-eqb, false≢true}
use Rattle.std.proofs.lemmas.Option.{same_Some}
use Rattle.pf_entry.specs.Maps.{Map, Numbers}
use Rattle.pf_entry.specs.declared.ops.Op.{Op}
use Rattle.pf_entry.specs.Ops.{Sector, zero_sector, writes, written}
use Rattle.pf_entry.specs.declared.entries.Entry.{Entry}
use Rattle.pf_entry.specs.Records.{Durable}
use Rattle.pf_entry.specs.Applying.{is_applied, after_op, fold_to}
use Rattle.pf_protocol.proofs.Ballots.{Ballot, first_of, Ballots, Sound, IsPicked}
use Rattle.pf_protocol.proofs.Changes.{Extends, Grows}
use Rattle.pf_protocol.proofs.Law.{IsChosenBy, proposal_agrees, chosen_agree}
use Rattle.pf_entry.proofs.Cases.{by_test}
use Rattle.pf_protocol.proofs.LookBehinds.{IsKnown, chosen_there, known_there, IsPassed, passed_apart, Served}
use Rattle.pf_entry.proofs.CommutingOps.{with_slot, fold_same, fold_insert, writes_apart}
use Rattle.std.specs.List.{enumerate_from}
use Rattle.pf_protocol.specs.Saving.{changed}
use Rattle.pf_protocol.specs.Servers.{Leader, Role, Follower, Candidate, Merging, Serving, Server, climb, upto, has_applied}
use Rattle.pf_protocol.specs.Leading.{has_acked, members, acknowledged, all_acknowledged}
use Rattle.pf_entry.specs.Lists.{Every}
use Rattle.pf_entry.proofs.Maps.{get_inserted, get_apart}
use Rattle.std.specs.Ordering.{nat_cmp, eq_by_cmp}
use Rattle.std.specs.FinMap.{get-empty, nat_cmp-IsAntisymmetric}
use Rattle.pf_entry.proofs.Sets.{contains-insert, contains-retain, contains-empty}
use Rattle.std.proofs.lemmas.Bool.Decides.{nat_tests}

-- the ops are those chosen in the applied slots
abbrev pub OpsAre : Ballots → (ℕ → Bool) → (ℕ → Option Op) → Type 0
OpsAre b done ops = (slot : ℕ) → 0 < slot → done slot ≡ true → (op : Op) × (ops slot ≡ Some op) × ((t : ℕ) × IsChosenBy b slot t op)

-- what is applied is chosen, skipped nothing that it overlaps, and is what the sectors hold
pub record AppliedIs (b : Ballots) (term : ℕ) (done : ℕ → Bool) (sectors : List Sector) : Type 0 where
  pub known : (slot : ℕ) → 0 < slot → done slot ≡ true → IsKnown b slot term
  pub passed : (a p : ℕ) → 0 < p → p < a → done a ≡ true → done p ≡ false → IsPassed b a p
  pub in_order : (x n : ℕ) (bytes : Sector) (ops : ℕ → Option Op) → slice_get sectors x ≡ Some bytes → ((slot : ℕ) → done slot ≡ true → slot ≤ n) → OpsAre b done ops → bytes ≡ fold_to ops done x zero_sector n

abbrev pub AppliedKnown : Ballots → (term base : ℕ) → Numbers → List Sector → Type 0
AppliedKnown b term base applied sectors = AppliedIs b term (is_applied base applied) sectors

-- every slot up to this one has a chosen op, in a term not above this one
abbrev pub KnownUpto : Ballots → (slot term : ℕ) → Type 0
KnownUpto b slot term = (p : ℕ) → 0 < p → p ≤ slot → IsKnown b p term

-- what an acknowledgement says
abbrev pub AckIs : Ballots → (server slot term : ℕ) → Type 0
AckIs b server slot term = (b.accepted server slot term ≡ true) ⊎ KnownUpto b slot term

-- a committed mark stands on an entry whose op is chosen, in a term not above the entry's
pub record IsCommitted (b : Ballots) (log : Map Entry) (slot : ℕ) : Type 0 where
  pub entry : Entry
  pub held : FinMap.get log slot ≡ Some entry
  pub chosen : IsChosenBy b slot entry.term entry.op

pub record LeaderKnows (b : Ballots) (i term : ℕ) (l : Leader) : Type 0 where
  pub own : (slot : ℕ) → l.b0 < slot → slot < l.next → b.accepted i slot term ≡ true
  pub acks : (j slot : ℕ) → has_acked l j slot ≡ true → 0 < slot → AckIs b j slot term

abbrev pub MergedKnown : Ballots → (term : ℕ) → Leader → Type 0
MergedKnown b term l = (slot : ℕ) → l.b0 < slot → slot < l.first → IsKnown b slot term

abbrev pub RoleKnows : Ballots → (i term : ℕ) → Role → Type 0
RoleKnows b i term Follower = Unit {0}
RoleKnows b i term (Candidate own) = Unit {0}
RoleKnows b i term (Merging l) = LeaderKnows b i term l
RoleKnows b i term (Serving l) = LeaderKnows b i term l × MergedKnown b term l

-- a slot above the checkpoint that another server acknowledged is marked
abbrev pub AckMarks : (i base : ℕ) → Numbers → Leader → Type 0
AckMarks i base committed l = (j slot : ℕ) → j ≢ i → has_acked l j slot ≡ true → base < slot → Sets.contains committed slot ≡ true

-- each merged slot was acknowledged by another server
abbrev pub AllAcked : (i : ℕ) → Leader → Type 0
AllAcked i l = (slot : ℕ) → l.b0 < slot → slot < l.first → (j : ℕ) × (j ≢ i) × (has_acked l j slot ≡ true)

abbrev pub RoleMarks : (i base : ℕ) → Numbers → Role → Type 0
RoleMarks i base committed Follower = Unit {0}
RoleMarks i base committed (Candidate own) = Unit {0}
RoleMarks i base committed (Merging l) = AckMarks i base committed l
RoleMarks i base committed (Serving l) = AckMarks i base committed l × AllAcked i l

-- more marks, or a higher checkpoint with the marks above it
pub marks_more : (i base higher : ℕ) (committed more : Numbers) (role : Role) → base ≤ higher → ((slot : ℕ) → higher < slot → Sets.contains committed slot ≡ true → Sets.contains more slot ≡ true) → RoleMarks i base committed role → RoleMarks i higher more role
marks_more i base higher committed more Follower le keep h = h
marks_more i base higher committed more (Candidate own) le keep h = h
marks_more i base higher committed more (Merging l) le keep h = λ j slot apart is low. keep slot low (h j slot apart is (lt_of_le_of_lt le low))
marks_more i base higher committed more (Serving l) le keep h = (λ j slot apart is low. keep slot low (h.0 j slot apart is (lt_of_le_of_lt le low)), h.1)

-- what the host was told
pub record IsAcked (b : Ballots) (term slot : ℕ) : Type 0 where
  pub entry : Entry
  pub merge : Ballot
  pub chosen : IsPicked b slot term entry
  pub leads : b.ballot term ≡ Some merge
  pub is_new : first_of merge ≤ slot

-- a job in hand
pub record JobIs (b : Ballots) (term : ℕ) (done : ℕ → Bool) (slot : ℕ) (op : Op) : Type 0 where
  pub is_above : 0 < slot
  pub chosen : IsChosenBy b slot term op
  pub unapplied : done slot ≡ false
  pub passed : (p : ℕ) → 0 < p → p < slot → done p ≡ false → IsPassed b slot p

pub record ServerKnows (b : Ballots) (i : ℕ) (s : Server) : Type 0 where
  pub committed : (slot : ℕ) → Sets.contains s.committed slot ≡ true → IsCommitted b s.durable.log slot
  pub applied : AppliedKnown b s.durable.term s.durable.base s.applied s.sectors
  pub saved : AppliedKnown b s.durable.term s.durable.base s.durable.saved s.durable.sectors
  pub in_hand : (slot : ℕ) (op : Op) → FinMap.get s.in_hand slot ≡ Some op → JobIs b s.durable.term (has_applied s) slot op
  pub role : RoleKnows b i s.durable.term s.role
  pub marks : RoleMarks i s.durable.base s.committed s.role

-- the ballots after a step of a server, which leaves this disk
pub record Later (b : Ballots) (i : ℕ) (d : Durable) : Type 0 where
  pub ballots : Ballots
  pub sound : Sound ballots
  pub extends : Extends i b ballots
  pub disk : ballots.disk i ≡ d
  pub served : Served ballots

module _ (i : ℕ) (b after : Ballots) (x : Extends i b after) where
  pub passed_there : (a p : ℕ) → IsPassed b a p → IsPassed after a p
  passed_there a p h = record {
    entry = h.entry;
    term = h.term;
    lets = h.lets;
    chosen = record {
      is = x.proposals a h.term h.entry h.chosen.is;
      one = h.chosen.one;
      two = h.chosen.two;
      apart = h.chosen.apart;
      one_accepted = x.accepted h.chosen.one a h.term h.chosen.one_accepted;
      two_accepted = x.accepted h.chosen.two a h.term h.chosen.two_accepted;
    };
  }

  pub acked_there : (term slot : ℕ) → IsAcked b term slot → IsAcked after term slot
  acked_there term slot h = record {
    entry = h.entry;
    merge = h.merge;
    leads = x.ballots term h.merge h.leads;
    is_new = h.is_new;
    chosen = record {
      is = x.proposals slot term h.entry h.chosen.is;
      one = h.chosen.one;
      two = h.chosen.two;
      apart = h.chosen.apart;
      one_accepted = x.accepted h.chosen.one slot term h.chosen.one_accepted;
      two_accepted = x.accepted h.chosen.two slot term h.chosen.two_accepted;
    };
  }

  pub job_there : (term : ℕ) (done : ℕ → Bool) (slot : ℕ) (op : Op) → JobIs b term done slot op → JobIs after term done slot op
  job_there term done slot op h = record {
    is_above = h.is_above;
    chosen = chosen_there i b after x slot term op h.chosen;
    unapplied = h.unapplied;
    passed = λ p above low not_yet. passed_there slot p (h.passed p above low not_yet);
  }

  -- what is chosen later in an applied slot was chosen
  ops_before : Sound after → (term : ℕ) (done : ℕ → Bool) (ops : ℕ → Option Op) → ((slot : ℕ) → 0 < slot → done slot ≡ true → IsKnown b slot term) → OpsAre after done ops → OpsAre b done ops
  ops_before sound term done ops known are slot above is =
      let k = known slot above is in
      let o = are slot above is in
      let same : k.op ≡ o.0 = chosen_agree after sound slot term o.2.0 k.op o.0 (chosen_there i b after x slot term k.op k.chosen) o.2.1 in
      (o.0, o.1, (term, subst (IsChosenBy b slot term) same k.chosen))

  pub applied_there : Sound after → (term : ℕ) (done : ℕ → Bool) (sectors : List Sector) → AppliedIs b term done sectors → AppliedIs after term done sectors
  applied_there sound term done sectors h = record {
    known = λ slot above is. known_there i b after x slot term (h.known slot above is);
    passed = λ a p above low is isnt. passed_there a p (h.passed a p above low is isnt);
    in_order = λ sector n bytes ops at bound are. h.in_order sector n bytes ops at bound (ops_before sound term done ops h.known are);
  }

  pub ack_there : (j slot term : ℕ) → AckIs b j slot term → AckIs after j slot term
  ack_there j slot term a = elim a [ inl did ↦ inl (x.accepted j slot term did) | inr knows ↦ inr (λ p above low. known_there i b after x p term (knows p above low)) ]

  pub committed_there : (log : Map Entry) (slot : ℕ) → IsCommitted b log slot → IsCommitted after log slot
  committed_there log slot c = record { entry = c.entry; held = c.held; chosen = chosen_there i b after x slot c.entry.term c.entry.op c.chosen }

  pub leader_there : (j term : ℕ) (l : Leader) → LeaderKnows b j term l → LeaderKnows after j term l
  leader_there j term l k = record {
    own = λ slot low high. x.accepted j slot term (k.own slot low high);
    acks = λ h slot is above. ack_there h slot term (k.acks h slot is above);
  }

  pub role_there : (j term : ℕ) (role : Role) → RoleKnows b j term role → RoleKnows after j term role
  role_there j term Follower k = k
  role_there j term (Candidate own) k = k
  role_there j term (Merging l) k = leader_there j term l k
  role_there j term (Serving l) k = (leader_there j term l k.0, λ slot low high. known_there i b after x slot term (k.1 slot low high))

  pub knows_there : Sound after → (j : ℕ) (s : Server) → ServerKnows b j s → ServerKnows after j s
  knows_there sound j s k = record {
    committed = λ slot is. committed_there s.durable.log slot (k.committed slot is);
    applied = applied_there sound s.durable.term (has_applied s) s.sectors k.applied;
    saved = applied_there sound s.durable.term (is_applied s.durable.base s.durable.saved) s.durable.sectors k.saved;
    in_hand = λ slot op is. job_there s.durable.term (has_applied s) slot op (k.in_hand slot op is);
    role = role_there j s.durable.term s.role k.role;
    marks = k.marks;
  }

pub applied_later : (b : Ballots) (t u : ℕ) (done : ℕ → Bool) (sectors : List Sector) → t ≤ u → AppliedIs b t done sectors → AppliedIs b u done sectors
applied_later b t u done sectors le h = record {
  known = λ slot above is. let k = h.known slot above is in record { op = k.op; chosen = later_by k.op slot k.chosen };
  passed = h.passed;
  in_order = h.in_order;
}
  where
    later_by : (op : Op) (slot : ℕ) → IsChosenBy b slot t op → IsChosenBy b slot u op
    later_by op slot c = record { entry = c.entry; by = c.by; chosen = c.chosen; not_later = le_trans c.not_later le; has_op = c.has_op }

pub job_later : (b : Ballots) (t u : ℕ) (done : ℕ → Bool) (slot : ℕ) (op : Op) → t ≤ u → JobIs b t done slot op → JobIs b u done slot op
job_later b t u done slot op le h = record {
  is_above = h.is_above;
  unapplied = h.unapplied;
  passed = h.passed;
  chosen = record { entry = h.chosen.entry; by = h.chosen.by; chosen = h.chosen.chosen; not_later = le_trans h.chosen.not_later le; has_op = h.chosen.has_op };
}

-- the same slots are applied
pub applied_same : (b : Ballots) (term : ℕ) (done more : ℕ → Bool) (sectors : List Sector) → ((p : ℕ) → more p ≡ done p) → AppliedIs b term done sectors → AppliedIs b term more sectors
applied_same b term done more sectors same h = record {
  known = λ slot above is. h.known slot above (sym (same slot) ∙ is);
  passed = λ a p above low is isnt. h.passed a p above low (sym (same a) ∙ is) (sym (same p) ∙ isnt);
  in_order = λ x n bytes ops at bound are.
      h.in_order x n bytes ops at (λ slot is. bound slot (same slot ∙ is)) (λ slot above is. are slot above (same slot ∙ is))
      ∙ fold_same ops ops done more x zero_sector n (λ p above low. sym (same p)) (λ p above low is. refl);
}

pub job_same : (b : Ballots) (term : ℕ) (done more : ℕ → Bool) (slot : ℕ) (op : Op) → ((p : ℕ) → more p ≡ done p) → JobIs b term done slot op → JobIs b term more slot op
job_same b term done more slot op same h = record {
  is_above = h.is_above;
  chosen = h.chosen;
  unapplied = same slot ∙ h.unapplied;
  passed = λ p above low isnt. h.passed p above low (sym (same p) ∙ isnt);
}

-- a sector after an op
changed_from : (op : Op) (from : ℕ) (sectors : List Sector) (x : ℕ) (bytes : Sector) → slice_get (map (λ place. cond (writes op place.0) (written op place.0 place.1) place.1) (enumerate_from from sectors)) x ≡ Some bytes → (old : Sector) × (slice_get sectors x ≡ Some old) × (bytes ≡ after_op (Some op) (from + x) old)
changed_from op from [] x bytes is = absurd (grind arith)
changed_from op from (y ∷ ys) zero bytes is = (y, refl, sym (same_Some _ bytes is) ∙ ap (λ k. after_op (Some op) k y) (sym (add-zero from)))
changed_from op from (y ∷ ys) (suc x) bytes is =
    let r = changed_from op (from + 1) ys x bytes is in
    (r.0, r.1, r.2 ∙ ap (λ k. after_op (Some op) k r.0) (omega arith))

-- a finished job: one more slot is applied, in its place
pub applied_more : (b : Ballots) (sound : Sound b) (served : Served b) (term : ℕ) (done : ℕ → Bool) (sectors : List Sector) (slot : ℕ) (op : Op) → JobIs b term done slot op → AppliedIs b term done sectors → AppliedIs b term (with_slot done slot) (changed op sectors)
unfolding changed
applied_more b sound served term done sectors slot op job h = record {
  known = λ p above is. elim (or_cases (p == slot) (done p) is) [
    | inl here ↦ record { op = op; chosen = subst (λ q. IsChosenBy b q term op) (sym (eqb-true p slot here)) job.chosen }
    | inr before ↦ h.known p above before
  ];
  passed = λ a p above low is isnt.
      let p_not = (or_parts (p == slot) (done p) isnt).1 in
      elim (or_cases (a == slot) (done a) is) [
        | inl here ↦ subst (λ q. IsPassed b q p) (sym (eqb-true a slot here)) (job.passed p above (subst (λ q. p < q) (eqb-true a slot here) low) p_not)
        | inr before ↦ h.passed a p above low before p_not
      ];
  in_order = λ x n bytes ops at bound are.
      let c = changed_from op 0 sectors x bytes at in
      let here = are slot job.is_above (or_left _ _ (eq-eqb slot slot refl)) in
      let is : ops slot ≡ Some op = here.1 ∙ ap Some (sym (chosen_agree b sound slot term here.2.0 op here.0 job.chosen here.2.1)) in
      let before : c.0 ≡ fold_to ops done x zero_sector n = h.in_order x n c.0 ops c.1 (λ p is_done. bound p (or_right _ _ is_done)) (λ p above is_done. are p above (or_right _ _ is_done)) in
      c.2 ∙ ap (λ k. after_op (Some op) k c.0) (zero-add x) ∙ ap (after_op (Some op) x) before
      ∙ sym (fold_insert ops done x zero_sector slot op job.unapplied is job.is_above (later_apart x n ops are) n (bound slot (or_left _ _ (eq-eqb slot slot refl))));
}
  where
    later_apart : (x n : ℕ) (ops : ℕ → Option Op) → OpsAre b (with_slot done slot) ops → (a : ℕ) (other : Op) → slot < a → done a ≡ true → ops a ≡ Some other → writes op x ≡ true → writes other x ≡ false
    later_apart x n ops are a other low is_done of_a does =
        let o = are a (omega (arith, low)) (or_right _ _ is_done) in
        let same : o.0 ≡ other = same_Some o.0 other (sym o.1 ∙ of_a) in
        writes_apart op other x (passed_apart b sound served a slot o.2.0 term other op (h.passed a slot job.is_above low is_done job.unapplied) (subst (IsChosenBy b a o.2.0) same o.2.1) job.chosen) does

pub chosen_later : (b : Ballots) (slot t u : ℕ) (op : Op) → t ≤ u → IsChosenBy b slot t op → IsChosenBy b slot u op
chosen_later b slot t u op le c = record { entry = c.entry; by = c.by; chosen = c.chosen; not_later = le_trans c.not_later le; has_op = c.has_op }

pub known_later : (b : Ballots) (slot t u : ℕ) → t ≤ u → IsKnown b slot t → IsKnown b slot u
known_later b slot t u le k = record { op = k.op; chosen = chosen_later b slot t u k.op le k.chosen }

-- what is committed stays so where another entry of the slot takes its place
pub committed_grows : (b : Ballots) (sound : Sound b) (i : ℕ) (before after : Durable) → b.disk i ≡ after → Grows b.proposal b.ballot before after → (slot : ℕ) → (after.base < slot) ⊎ (after.base ≡ before.base) → IsCommitted b before.log slot → IsCommitted b after.log slot
committed_grows b sound i before after disk grows slot low c =
    let k = grows.keeps slot c.entry c.held low in
    let p = (sound.disks i).proposes slot k.entry (ap (λ d. FinMap.get d.log slot) disk ∙ k.held) in
    let same = proposal_agrees b sound slot c.entry.term k.entry.term c.entry.op k.entry c.chosen k.no_lower p.1 in
    record { entry = k.entry; held = k.held; chosen = subst (IsChosenBy b slot k.entry.term) (sym same) (chosen_later b slot c.entry.term k.entry.term c.entry.op k.no_lower c.chosen) }

-- two servers' acceptance, or what one of them knows, makes a proposal's op chosen
pub ack_chooses : (b : Ballots) (sound : Sound b) (i j slot term : ℕ) (e : Entry) → b.proposal slot term ≡ Some e → i ≢ j → b.accepted i slot term ≡ true → AckIs b j slot term → IsChosenBy b slot term e.op
ack_chooses b sound i j slot term e is apart own a =
    elim a [
      | inl did ↦ record { entry = e; by = term; not_later = omega arith; has_op = refl; chosen = record { is = is; one = i; two = j; apart = apart; one_accepted = own; two_accepted = did } }
      | inr knows ↦
          let made = sound.made slot term e is in
          let k = knows slot (omega (arith, made.is_above)) (omega arith) in
          subst (IsChosenBy b slot term) (sym (proposal_agrees b sound slot term term k.op e k.chosen (omega arith) is)) k.chosen
    ]

-- up to `upto` every slot is applied
climbed : (n : ℕ) (applied : Numbers) (base slot : ℕ) → base < slot → slot ≤ climb n applied base → Sets.contains applied slot ≡ true
climbed zero applied base slot above low = absurd (omega arith)
climbed (suc n) applied base slot above low =
    by_test (Sets.contains applied (suc base)) (λ c. Sets.contains applied (suc base) ≡ c → slot ≤ cond c (climb n applied (suc base)) base → Sets.contains applied slot ≡ true)
    (λ _ has high. elim (cases_lt (suc base) slot) [
      | inl beyond ↦ climbed n applied (suc base) slot beyond high
      | inr here ↦ let same : slot ≡ suc base = omega arith in ap (Sets.contains applied) same ∙ has
    ])
    (λ _ _ high. absurd (omega arith)) refl low

pub applied_to_upto : (s : Server) (slot : ℕ) → slot ≤ upto s → has_applied s slot ≡ true
unfolding upto
applied_to_upto s slot low =
    elim (cases_lt s.durable.base slot) [
      | inl beyond ↦ or_right _ _ (climbed (Sets.len s.applied) s.applied s.durable.base slot beyond low)
      | inr within ↦ or_left _ _ (le-leb slot s.durable.base within)
    ]

-- who acknowledged what
abbrev pub acked_in : Map Numbers → (server slot : ℕ) → Bool
acked_in acks server slot = Sets.contains (members (FinMap.get acks slot)) server

pub tied_same : (k slot : ℕ) → eq_by_cmp nat_cmp k slot ≡ true → k ≡ slot
tied_same k slot e = grind (arith, nat_tests)

pub acknowledged_cases : (acks : Map Numbers) (server slot j k : ℕ) → acked_in (acknowledged acks server slot) j k ≡ true → ((j ≡ server) × (k ≡ slot)) ⊎ (acked_in acks j k ≡ true)
unfolding acknowledged
acknowledged_cases acks server slot j k is =
    elim (cases_eq k slot) [
      | inl same ↦
          let was = members (FinMap.get acks slot) in
          let there = ap (λ o. Sets.contains (members o) j) (sym (ap (FinMap.get (FinMap.insert acks slot (Sets.insert was server))) same ∙ get_inserted acks slot (Sets.insert was server))) in
          elim (or_cases _ _ (sym (contains-insert was server j) ∙ there ∙ is)) [
            | inl new ↦ inl (tied_same j server new, same)
            | inr old ↦ inr (ap (acked_in acks j) same ∙ old)
          ]
      | inr apart ↦ inr (ap (λ o. Sets.contains (members o) j) (sym (get_apart acks slot _ k apart)) ∙ is)
    ]

pub acknowledged_more : (acks : Map Numbers) (server slot j k : ℕ) → acked_in acks j k ≡ true → acked_in (acknowledged acks server slot) j k ≡ true
unfolding acknowledged
acknowledged_more acks server slot j k is =
    let was = members (FinMap.get acks slot) in
    elim (cases_eq k slot) [
      | inl same ↦
          ap (λ o. Sets.contains (members o) j) (ap (FinMap.get (FinMap.insert acks slot (Sets.insert was server))) same ∙ get_inserted acks slot (Sets.insert was server))
          ∙ contains-insert was server j ∙ or_right _ _ (ap (acked_in acks j) (sym same) ∙ is)
      | inr apart ↦ ap (λ o. Sets.contains (members o) j) (get_apart acks slot (Sets.insert was server) k apart) ∙ is
    ]

pub all_acknowledged_cases : (P : ℕ → Type 0) (slots : List ℕ) (acks : Map Numbers) (server j k : ℕ) → Every P slots → acked_in (all_acknowledged acks server slots) j k ≡ true → ((j ≡ server) × P k) ⊎ (acked_in acks j k ≡ true)
unfolding all_acknowledged
all_acknowledged_cases P [] acks server j k each is = inr is
all_acknowledged_cases P (x ∷ xs) acks server j k each is =
    elim (all_acknowledged_cases P xs (acknowledged acks server x) server j k each.1 is) [
      | inl new ↦ inl new
      | inr old ↦ elim (acknowledged_cases acks server x j k old) [
        | inl here ↦ inl (here.0, subst P (sym here.1) each.0)
        | inr before ↦ inr before
      ]
    ]

pub nobody_acked : (j k : ℕ) → acked_in FinMap.empty j k ≡ true → ⊥
nobody_acked j k is = false≢true (sym (ap (λ o. Sets.contains (members o) j) (get-empty nat_cmp k) ∙ contains-empty j) ∙ is)

-- a set's members that pass a test
pub retained : (m : Numbers) (base k : ℕ) → Sets.contains (Sets.retain m (nat_lt base)) k ≡ true → (Sets.contains m k ≡ true) × (base < k)
retained m base k is =
    let both = and_parts _ _ (sym (contains-retain m (nat_lt base) k (λ x t. ap (nat_lt base) (sym (nat_cmp-IsAntisymmetric k x t)))) ∙ is) in
    (both.0, ltb-true base k both.1)
