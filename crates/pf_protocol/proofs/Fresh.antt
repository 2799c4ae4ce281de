-- Reads are fresh.
use Rattle.std.proofs.Common.{◌≡◌, ℕ, suc, ◌+◌, ◌<◌, ◌≤◌, ◌≢◌, ◌⊎◌, inl, inr, Bool, true, not, ◌&&◌, List, [], ◌∷◌, ◌++◌, length, Some, slice_get, slice_range, arith, refl, sym, ap, subst, ◌∙◌}
use Rattle.std.specs.FinMap
use Rattle.std.specs.FinMap.{nat_cmp-IsAntisymmetric}
use Rattle.std.specs.Ordering.{nat_cmp, eq_by_cmp}
use Rattle.std.specs.List.{list_all, list_any}
use Rattle.std.proofs.lemmas.Bool.Decides.{nat_tests}
use Rattle.std.proofs.lemmas.Bool.{cases_Bool, cases_lt, or_cases, or_left, le-leb, and_parts, and_from, false≢true}
use Rattle.std.proofs.lemmas.List.{append_assoc, append-nil, length-append}
use Rattle.pf_base.specs.Span.{overlaps}
use Rattle.pf_entry.specs.Sets
use Rattle.pf_entry.proofs.Sets.{contains-retain, contains-items}
use Rattle.pf_entry.proofs.Lists.{every_get}
use Rattle.pf_entry.specs.Ops.{Sector, range_of}
use Rattle.pf_entry.specs.Applying.{is_applied}
use Rattle.pf_entry.specs.declared.ops.Op.{Op}
use Rattle.pf_entry.specs.declared.entries.Entry.{Entry}
use Rattle.pf_protocol.specs.declared.events.Event.TheVariants.{Fetch}
use Rattle.pf_protocol.specs.declared.events.Happening.{Happening}
use Rattle.pf_protocol.specs.Safety.{is_leading}
use Rattle.pf_protocol.specs.Servers.{Setup, Leader, Serving, Read, Server, Running, has_applied}
use Rattle.pf_protocol.specs.Leading.{op_of, op_at, has_acked}
use Rattle.pf_protocol.specs.Rows.{is_ready}
use Rattle.pf_protocol.specs.Groups.{Acked, Answered}
use Rattle.pf_protocol.specs.Histories.{History, IsPrefix, replay, RunsAs, IsChosen}
use Rattle.pf_protocol.specs.Kept.{IsPassed, IsCovered}
use Rattle.pf_protocol.specs.Fresh.{shows_slot, HasIfOverlaps, ReadIsFresh}
use Rattle.pf_protocol.proofs.Law.{share, kept_at}
use Rattle.pf_protocol.proofs.ChosenKnown.{AckMarks, AllAcked, RoleMarks}
use Rattle.pf_protocol.proofs.Follows.{IsLeader, RoleIs}
use Rattle.pf_protocol.proofs.Histories.{told, chosen_at_end, one_chosen_op, agrees, keeps_acknowledged, one_leader}
use Rattle.pf_protocol.proofs.Facts.{servers_covered}
use Rattle.pf_protocol.proofs.Moments.{prefix_of, begins_with, whole_prefix, reads_before, comparable}
use Rattle.pf_protocol.proofs.Snapshots.{chosen_after}
use Rattle.pf_protocol.proofs.StepLeavings.{new_read}
use Rattle.pf_protocol.proofs.ReadLives.{disk_term_low, Confirmed, Waits, StaysIn, HeardOf, HasAll, AckedBy, WasRead, traced}

-- a part of a history with one more event is part of it, or ends in this event
last_or_before : (a : History) (f : Happening) (rest b : History) (y : Happening) → (a ++ f ∷ []) ++ rest ≡ b ++ y ∷ [] → IsPrefix (a ++ f ∷ []) b ⊎ (a ≡ b)
last_or_before [] f rest [] y is = inr refl
last_or_before [] f rest (w ∷ b) y is =
    let p : f ∷ rest ≡ w ∷ (b ++ y ∷ []) = is in
    let head : f ≡ w = cc in
    inl (record { rest = b; whole = ap (λ z. z ∷ b) head })
last_or_before (x ∷ a) f rest [] y is =
    let p : x ∷ ((a ++ f ∷ []) ++ rest) ≡ y ∷ [] = is in
    let tail : (a ++ f ∷ []) ++ rest ≡ [] = cc in
    absurd (omega (arith, ap length tail, length-append (a ++ f ∷ []) rest, length-append a (f ∷ [])))
last_or_before (x ∷ a) f rest (w ∷ b) y is =
    let p : x ∷ ((a ++ f ∷ []) ++ rest) ≡ w ∷ (b ++ y ∷ []) = is in
    let head : x ≡ w = cc in
    let tail : (a ++ f ∷ []) ++ rest ≡ b ++ y ∷ [] = cc in
    elim (last_or_before a f rest b y tail) [
      | inl before ↦ inl (record { rest = before.rest; whole = ap (λ z. z ∷ ((a ++ f ∷ []) ++ before.rest)) head ∙ ap (λ hs. w ∷ hs) before.whole })
      | inr same ↦ inr (ap (λ z. z ∷ a) head ∙ ap (λ hs. w ∷ hs) same)
    ]

-- of a moment and one event after another, the moment comes before the event or the event before the moment
pub before_or_after : (a b : History) (h : Happening) → IsPrefix a (b ++ h ∷ []) → IsPrefix a b ⊎ IsPrefix (b ++ h ∷ []) a
before_or_after a b h p = by_rest p.rest p.whole
  where
    by_rest : (rest : History) → a ++ rest ≡ b ++ h ∷ [] → IsPrefix a b ⊎ IsPrefix (b ++ h ∷ []) a
    by_rest [] is = inr (record { rest = []; whole = append-nil (b ++ h ∷ []) ∙ sym is ∙ append-nil a })
    by_rest (z ∷ zs) is = inl (elim (last_or_before a z zs b h (append_assoc a (z ∷ []) zs ∙ is)) [
      | inl before ↦ begins_with a b z before
      | inr same ↦ subst (IsPrefix a) same (whole_prefix a)
    ])

-- a moment with fewer reads comes first
sooner : (setup : Setup) (a b history : History) → IsPrefix a history → IsPrefix b history → (replay setup a).reads < (replay setup b).reads → IsPrefix a b
sooner setup a b history p q less =
    elim (comparable a p.rest b q.rest (p.whole ∙ sym q.whole)) [
      | inl first ↦ first
      | inr second ↦ absurd (omega (arith, reads_before setup b a second, less))
    ]

-- once a read is confirmed, no leader of a higher term had led when it was taken up
no_higher : (setup : Setup) (history : History) (i term number : ℕ) (z : Server) → Confirmed setup history i term number → RunsAs (replay setup history) i z → z.durable.term ≡ term → (x : History) → IsPrefix x history → (replay setup x).reads ≤ number → (k : ℕ) (w : Server) (l : Leader) → RunsAs (replay setup x) k w → w.role ≡ Serving l → w.durable.term ≤ term
no_higher setup history i term number z c runs in_term x p low k w l led serves =
    elim (cases_lt term w.durable.term) [
      | inl higher ↦ absurd (contradiction higher)
      | inr not_higher ↦ not_higher
    ]
  where
    contradiction : term < w.durable.term → ⊥
    contradiction higher =
        let t = told setup c.earlier in
        let first = sooner setup x c.earlier history p (begins_with c.earlier history c.reply c.is_part) (omega (arith, low, c.asked)) in
        let by = (t.stood x first.rest first.whole).leads k w l led (inr serves) in
        let q = t.sound.quorums w.durable.term by.merge by.is in
        let own = t.sound.vote_terms by.merge.leader w.durable.term _ q.own_vote in
        let theirs = t.sound.vote_terms by.merge.other w.durable.term _ q.other_vote in
        let other = t.follows.servers c.other (Running c.server) c.runs in
        let other_term : (t.ballots.disk c.other).term ≤ term = omega (arith, ap (λ d. d.term) other.1.disk, c.low) in
        let mine : (t.ballots.disk i).term ≤ term = omega (arith, disk_term_low setup c.earlier history (begins_with c.earlier history c.reply c.is_part) i z runs, in_term) in
        let below = ((told setup history).follows.servers i (Running z) runs).0 in
        elim (share i c.other by.merge.leader by.merge.other (λ same. c.apart (sym same)) q.apart below other.0 q.leader_below q.other_below) [
          | inl me ↦ elim me [
            | inl lead ↦ omega (arith, own, mine, ap (λ n. (t.ballots.disk n).term) lead, higher)
            | inr vote ↦ omega (arith, theirs, mine, ap (λ n. (t.ballots.disk n).term) vote, higher)
          ]
          | inr them ↦ elim them [
            | inl lead ↦ omega (arith, own, other_term, ap (λ n. (t.ballots.disk n).term) lead, higher)
            | inr vote ↦ omega (arith, theirs, other_term, ap (λ n. (t.ballots.disk n).term) vote, higher)
          ]
        ]

-- the server has applied the slot, or has it committed with this op
abbrev Knows : Server → ℕ → Op → Type 0
Knows z slot op = (has_applied z slot ≡ true) ⊎ ((e : Entry) × (FinMap.get z.durable.log slot ≡ Some e) × (Sets.contains z.committed slot ≡ true) × (e.op ≡ op))

module _ (setup : Setup) (before history : History) (p : IsPrefix before history) (i : ℕ) (z : Server) (l : Leader) (runs : RunsAs (replay setup before) i z) (serves : z.role ≡ Serving l) where
  pub marks : AckMarks i z.durable.base z.committed l × AllAcked i l
  marks = subst (RoleMarks i z.durable.base z.committed) serves ((told setup before).follows.servers i (Running z) runs).1.knows.marks

  -- a slot above the checkpoint that another server acknowledged
  committed_there : (j slot t : ℕ) (op : Op) → j ≢ i → has_acked l j slot ≡ true → IsChosen setup history slot t op → z.durable.base < slot → Knows z slot op
  committed_there j slot t op apart has c above =
      let is = marks.0 j slot apart has above in
      let e = (agrees setup before).committed i z slot runs is in
      inr (e.0, e.1, is, one_chosen_op setup history slot e.2.0 t e.0.op op (chosen_after setup before history p slot e.2.0 e.0.op e.2.1) c)

  heard_knows : (j slot t : ℕ) (op : Op) → j ≢ i → has_acked l j slot ≡ true → IsChosen setup history slot t op → Knows z slot op
  heard_knows j slot t op apart has c =
      elim (cases_lt z.durable.base slot) [
        | inl above ↦ committed_there j slot t op apart has c above
        | inr below ↦ inl (or_left _ _ (le-leb slot z.durable.base below))
      ]

  -- what was chosen in a lower term
  lower_knows : (slot u : ℕ) (own : Op) → IsChosen setup before slot u own → u < z.durable.term → (t : ℕ) (op : Op) → IsChosen setup history slot t op → Knows z slot op
  lower_knows slot u own chosen later t op c =
      elim (cases_lt z.durable.base slot) [
        | inl above ↦
            let b = told setup before in
            let x = (b.follows.servers i (Running z) runs).1 in
            let lead : IsLeader b.ballots.ballot b.ballots.next i z.durable l = subst (RoleIs b.ballots.vote b.ballots.ballot b.ballots.next i z.durable) serves x.role in
            let low = kept_at b.ballots b.sound slot u chosen.entry (chosen_at_end setup before slot u own chosen) z.durable.term lead.merge later lead.is in
            let who = marks.1 slot (omega (arith, lead.has_base, lead.base_low, above)) (omega (arith, lead.has_first, low)) in
            committed_there who.0 slot t op who.1 who.2 c above
        | inr below ↦ inl (or_left _ _ (le-leb slot z.durable.base below))
      ]

  -- what was acknowledged in a term not above this one
  acked_knows : (a : Acked) → AckedBy setup before a → a.term ≤ z.durable.term → (own : Op) → IsChosen setup before a.slot a.term own → (t : ℕ) (op : Op) → IsChosen setup history a.slot t op → Knows z a.slot op
  acked_knows a x le own chosen t op c =
      elim (cases_lt a.term z.durable.term) [
        | inl lower ↦ lower_knows a.slot a.term own chosen lower t op c
        | inr not_lower ↦
            let same : a.term ≡ z.durable.term = omega (arith, le, not_lower) in
            let it : x.i ≡ i = one_leader setup before x.earlier before x.i i x.server z x.is_earlier (whole_prefix before) x.runs runs (ap is_leading x.serves) (ap is_leading serves) (x.in_term ∙ same) in
            let heard : HeardOf x.i a.slot (has_applied z) l = subst (StaysIn (HeardOf x.i a.slot) (has_applied z)) serves (x.stays z (ap (slice_get (replay setup before).servers) it ∙ runs) (sym same)) in
            heard_knows heard.0 a.slot t op (λ is. heard.1 (is ∙ sym it)) heard.2 c
      ]

  -- what an earlier answer of a term not above this one had applied
  read_knows : (k : ℕ) (a : Answered) → (x : WasRead setup before k a) → a.term ≤ z.durable.term → (slot : ℕ) → 0 < slot → shows_slot a slot ≡ true → (t : ℕ) (op : Op) → IsChosen setup history slot t op → Knows z slot op
  read_knows k a x le slot above shown t op c =
      let cover = servers_covered setup (x.earlier ++ x.answering ∷ []) a.server x.server x.runs in
      let had = cover.chosen slot above (subst (λ n. is_applied n x.server.applied slot ≡ true) x.base (subst (λ set. is_applied a.base set slot ≡ true) x.applied shown)) in
      elim (cases_lt had.1.0 z.durable.term) [
        | inl lower ↦ lower_knows slot had.1.0 had.0 (chosen_after setup (x.earlier ++ x.answering ∷ []) before x.is_part slot had.1.0 had.0 had.1.2) lower t op c
        | inr not_lower ↦
            let same : a.term ≡ z.durable.term = omega (arith, le, not_lower, had.1.1, x.term) in
            let y = x.waits in
            let first = prefix_of y.earlier (x.earlier ++ x.answering ∷ []) before (begins_with y.earlier (x.earlier ++ x.answering ∷ []) y.fetch y.is_earlier) x.is_part in
            let it : a.server ≡ i = one_leader setup before y.earlier before a.server i y.server z first (whole_prefix before) y.runs runs (ap is_leading y.serves) (ap is_leading serves) (sym y.same_term ∙ sym x.term ∙ same) in
            let all : HasAll (is_applied a.base a.applied) (has_applied z) l = subst (StaysIn (HasAll (is_applied a.base a.applied)) (has_applied z)) serves (x.stays z (ap (slice_get (replay setup before).servers) it ∙ runs) (sym same)) in
            inl (all slot shown)
      ]

-- each member of a set passes a test that all its items pass
all_of_items : (f : ℕ → Bool) (xs : List ℕ) (slot : ℕ) → list_all f xs ≡ true → list_any (eq_by_cmp nat_cmp slot) xs ≡ true → f slot ≡ true
all_of_items f [] slot all is = absurd (false≢true is)
all_of_items f (x ∷ xs) slot all is =
    let both = and_parts (f x) (list_all f xs) all in
    elim (or_cases (eq_by_cmp nat_cmp slot x) (list_any (eq_by_cmp nat_cmp slot) xs) is) [
      | inl here ↦ ap f (tied slot x here) ∙ both.0
      | inr later ↦ all_of_items f xs slot both.1 later
    ]
  where
    tied : (q k : ℕ) → eq_by_cmp nat_cmp q k ≡ true → q ≡ k
    tied q k = grind (arith, nat_tests)

op_of_held : (z : Server) (slot : ℕ) (e : Entry) → FinMap.get z.durable.log slot ≡ Some e → op_at z.durable.log slot ≡ e.op
unfolding op_at
op_of_held z slot e held = ap op_of held

-- a slot that the leader knew as it took up the read
known_shown : (setup : Setup) (history : History) (i : ℕ) (s : Server) (r : Read) (w : Waits setup history i s r) → is_ready s r ≡ true → (slot : ℕ) (op : Op) → Knows w.server slot op → overlaps (range_of op) r.range ≡ true → has_applied s slot ≡ true
known_shown setup history i s r w ready slot op knows touches =
    elim (cases_Bool (has_applied w.server slot)) [
      | inl did ↦ w.more slot did
      | inr not_yet ↦ elim knows [
        | inl did ↦ w.more slot did
        | inr e ↦
            let test : ℕ → Bool = λ q. not (has_applied w.server q) && overlaps (range_of (op_at w.server.durable.log q)) r.range in
            let passes : (not (has_applied w.server slot) && overlaps (range_of (op_at w.server.durable.log slot)) r.range) ≡ true =
            and_from _ _ (ap not not_yet) (ap (λ o. overlaps (range_of o) r.range) (op_of_held w.server slot e.0 e.1 ∙ e.3) ∙ touches) in
            let listed : Sets.contains (new_read w.server r.range r.number).waits_for slot ≡ true =
            contains-retain w.server.committed (λ q. not (has_applied w.server q) && overlaps (range_of (op_at w.server.durable.log q)) r.range) slot (λ q tied. ap (λ n. not (has_applied w.server n) && overlaps (range_of (op_at w.server.durable.log n)) r.range) (sym (nat_cmp-IsAntisymmetric slot q tied)))
            ∙ and_from _ _ e.2 passes in
            all_of_items (has_applied s) (Sets.items r.waits_for) slot (and_parts r.confirmed _ ready).1 (sym (contains-items r.waits_for slot) ∙ ap (λ set. Sets.contains set slot) w.waits ∙ listed)
      ]
    ]

passed_later : (setup : Setup) (earlier history : History) → IsPrefix earlier history → (a q : ℕ) → IsPassed setup earlier a q → IsPassed setup history a q
unfolding chosen_after
passed_later setup earlier history p a q y = record { term = y.term; op = y.op; chosen = chosen_after setup earlier history p a y.term y.op y.chosen; lets = y.lets }

-- what was covered stays so
cover_after : (setup : Setup) (earlier history : History) (p : IsPrefix earlier history) (term : ℕ) (done : ℕ → Bool) (sectors : List Sector) → IsCovered setup earlier term done sectors → IsCovered setup history term done sectors
cover_after setup earlier history p term done sectors x = record {
  chosen = λ slot above is. let c = x.chosen slot above is in (c.0, (c.1.0, c.1.1, chosen_after setup earlier history p slot c.1.0 c.0 c.1.2));
  passed = λ a q above low is isnt. passed_later setup earlier history p a q (x.passed a q above low is isnt);
  folded = λ sector n bytes ops at bound are. x.folded sector n bytes ops at bound (λ slot above is.
      let c = x.chosen slot above is in
      let o = are slot above is in
      (c.0, o.1 ∙ ap Some (one_chosen_op setup history slot o.2.0 c.1.0 o.0 c.0 o.2.1 (chosen_after setup earlier history p slot c.1.0 c.0 c.1.2)), (c.1.0, c.1.2)));
}

module _ (setup : Setup) (history : History) (k : ℕ) (a : Answered) (x : WasRead setup history k a) where
  -- the moment at which the read was taken up, and the one after its answer
  abbrev before : History
  before = x.waits.earlier

  abbrev after : History
  after = x.earlier ++ x.answering ∷ []

  before_answer : IsPrefix x.waits.earlier after
  before_answer = begins_with x.waits.earlier after x.waits.fetch x.waits.is_earlier

  before_end : IsPrefix x.waits.earlier history
  before_end = prefix_of x.waits.earlier after history before_answer x.is_part

  sure : Confirmed setup after a.server x.server.durable.term x.read.number
  sure = x.waits.sure (and_parts x.read.confirmed _ x.ready).0

  -- another server replied in between
  was_asked : x.read.number < (replay setup x.earlier).reads
  was_asked =
      let replied : IsPrefix sure.earlier x.earlier = elim (last_or_before sure.earlier sure.reply sure.is_part.rest x.earlier x.answering sure.is_part.whole) [
        | inl is ↦ begins_with sure.earlier x.earlier sure.reply is
        | inr same ↦ subst (IsPrefix sure.earlier) same (whole_prefix sure.earlier)
      ] in
      omega (arith, sure.asked, reads_before setup sure.earlier x.earlier replied)

  fetched_before : IsPrefix (x.waits.earlier ++ x.waits.fetch ∷ []) x.earlier
  fetched_before =
      elim (last_or_before x.waits.earlier x.waits.fetch x.waits.is_earlier.rest x.earlier x.answering x.waits.is_earlier.whole) [
        | inl is ↦ is
        | inr same ↦ absurd (omega (arith, was_asked, x.waits.number, ap (λ hs. (replay setup hs).reads) same))
      ]

  -- no leader by then was of a higher term
  leader_low : (y : History) → IsPrefix y before → (j : ℕ) (w : Server) (l : Leader) → RunsAs (replay setup y) j w → w.role ≡ Serving l → w.durable.term ≤ x.waits.server.durable.term
  leader_low y p j w l led serves =
      omega (
        arith,
        x.waits.same_term,
        no_higher setup after a.server x.server.durable.term x.read.number x.server sure x.runs refl y (prefix_of y x.waits.earlier after p before_answer)
            (omega (arith, reads_before setup y x.waits.earlier p, x.waits.number)) j w l led serves,
      )

  same_set : (slot : ℕ) → has_applied x.server slot ≡ shows_slot a slot
  same_set slot = ap (λ n. is_applied n x.server.applied slot) (sym x.base) ∙ ap (λ set. is_applied a.base set slot) (sym x.applied)

  shown : (slot : ℕ) (op : Op) → Knows x.waits.server slot op → overlaps (range_of op) a.range ≡ true → shows_slot a slot ≡ true
  shown slot op knows touches =
      sym (same_set slot) ∙ known_shown setup after a.server x.server x.read x.waits x.ready slot op knows (ap (overlaps (range_of op)) (sym x.range) ∙ touches)

  acked_shown : (j : ℕ) (b : Acked) → slice_get (replay setup before).acked j ≡ Some b → HasIfOverlaps setup history a b.slot
  acked_shown j b at t op c touches =
      let y = every_get (AckedBy setup before) (replay setup before).acked j b (traced setup before).acked at in
      let own = (keeps_acknowledged setup before).chosen j b at in
      let le : b.term ≤ x.waits.server.durable.term = omega (arith, y.in_term, leader_low y.earlier y.is_earlier y.i y.server y.leader y.runs y.serves) in
      shown b.slot op (acked_knows setup before history before_end a.server x.waits.server x.waits.leader x.waits.runs x.waits.serves b y le own.0 own.1 t op c) touches

  answered_shown : (j : ℕ) (b : Answered) (slot : ℕ) → slice_get (replay setup before).answered j ≡ Some b → 0 < slot → shows_slot b slot ≡ true → HasIfOverlaps setup history a slot
  answered_shown j b slot at above had t op c touches =
      let y = (traced setup before).answered j b at in
      let first = prefix_of y.waits.earlier (y.earlier ++ y.answering ∷ []) before (begins_with y.waits.earlier (y.earlier ++ y.answering ∷ []) y.waits.fetch y.waits.is_earlier) y.is_part in
      let le : b.term ≤ x.waits.server.durable.term = omega (arith, y.term, y.waits.same_term, leader_low y.waits.earlier first b.server y.waits.server y.waits.leader y.waits.runs y.waits.serves) in
      shown slot op (read_knows setup before history before_end a.server x.waits.server x.waits.leader x.waits.runs x.waits.serves j b y le slot above had t op c) touches

  covered : IsCovered setup history a.term (shows_slot a) x.server.sectors
  covered =
      let there = cover_after setup after history x.is_part x.server.durable.term (has_applied x.server) x.server.sectors (servers_covered setup after a.server x.server x.runs) in
      subst (λ set. IsCovered setup history a.term (is_applied a.base set) x.server.sectors) (sym x.applied)
      (subst (λ n. IsCovered setup history a.term (is_applied n x.server.applied) x.server.sectors) (sym x.base)
      (subst (λ u. IsCovered setup history u (has_applied x.server) x.server.sectors) (sym x.term) there))

  fresh_read : ReadIsFresh setup history a
  fresh_read = record {
    before = before;
    fetched = record {
      fetch = x.waits.fetch;
      is_part = prefix_of (x.waits.earlier ++ x.waits.fetch ∷ []) after history x.waits.is_earlier x.is_part;
      event = x.waits.event ∙ ap (Fetch a.server) (sym x.range);
      is_next = x.number ∙ x.waits.number;
      counts = x.waits.counts ∙ ap suc (sym x.number);
    };
    answering = x.earlier;
    answering_event = x.answering;
    is_part = x.is_part;
    asked_before = fetched_before;
    place = k;
    not_yet = x.not_yet;
    answered_then = x.there;
    server = x.server;
    runs = x.runs;
    bytes = x.bytes ∙ ap (λ r. slice_range x.server.sectors r.first (r.first + r.count)) (sym x.range);
    applied = λ slot. sym (same_set slot);
    covered = covered;
    acknowledged = acked_shown;
    answered = answered_shown;
  }

-- every answered read
pub fresh : (setup : Setup) (history : History) (k : ℕ) (a : Answered) → slice_get (replay setup history).answered k ≡ Some a → ReadIsFresh setup history a
fresh setup history k a at = fresh_read setup history k a ((traced setup history).answered k a at)
