-- Legal histories keep their sizes.
use Rattle.std.proofs.Common.{◌≡◌, ℕ, zero, suc, ◌+◌, ◌-◌, ◌<◌, ◌≤◌, ◌≢◌, ◌⊎◌, inl, inr, Bool, true, false, cond, not, ◌&&◌, ◌||◌, List, [], ◌∷◌, ◌++◌, map, length, Option, Some, None, ◌==◌, if◌then◌else◌, nat_lt, nat_le, is_some, slice_index_or, arith, refl, sym, ap, subst, ◌∙◌, le_refl, le_trans}
use Rattle.std.specs.List.{range_with_len, flat_map, filter, list_all, enumerate_from}
use Rattle.std.specs.FinMap
use Rattle.std.specs.FinMap.{get-empty}
use Rattle.std.specs.Ordering.{nat_cmp}
use Rattle.std.proofs.lemmas.Bool.{ltb-true, ltb-false, leb-true, leb-false, eqb-true, eqb-false, lt-ltb, le-leb, and_parts, and_from, or_parts, or_cases, or_left, not-true, false≢true, cases_lt}
use Rattle.std.proofs.lemmas.Option.{none-some}
use Rattle.pf_base.specs.Span.{Span, IsWritable, is_span, is_whole}
use Rattle.pf_entry.specs.Maps.{Map, Numbers}
use Rattle.pf_entry.specs.Sets
use Rattle.pf_entry.proofs.Sets.{contains-insert}
use Rattle.pf_entry.specs.Lists.{Every}
use Rattle.pf_entry.specs.Tables.{ascends, ascends_from}
use Rattle.pf_entry.specs.Ops.{Sector, range_of, writes, written}
use Rattle.pf_entry.specs.declared.ops.Op.{Op}
use Rattle.pf_entry.specs.declared.ops.Op.TheVariants.{Write, Noop, Mark}
use Rattle.pf_entry.specs.declared.entries.Named.{Named}
use Rattle.pf_entry.specs.declared.entries.Entry.{Entry}
use Rattle.pf_entry.specs.declared.entries.VoteLog.{VoteLog}
use Rattle.pf_entry.specs.declared.packets.Packet.{Packet}
use Rattle.pf_entry.specs.declared.packets.Body.{Body}
use Rattle.pf_entry.specs.declared.packets.Body.TheVariants.{RequestVote, Vote, Accept, Ack, Nack, Commit, Probe, ProbeOk, Image}
use Rattle.pf_entry.proofs.Lists.{every_append, every_more, every_map, every_filter, every_flat_map_from, every_range}
use Rattle.pf_entry.proofs.Maps.{insert_cases, remove_cases, get_above}
use Rattle.pf_entry.specs.Records.{Durable, stored, put_entry, add_start, add_merged_start, above, vote_of, holds}
use Rattle.pf_entry.specs.Merging.{taken, greatest, merged_first, merged_op, merged_entry, merged_entries, op_or_noop}
use Rattle.pf_entry.proofs.MergedEntries.{was_taken, base_below_first}
use Rattle.pf_entry.proofs.Cases.{by_test}
use Rattle.pf_entry.proofs.Ranges.{range_cases}
use Rattle.pf_protocol.specs.Servers.{Setup, Leader, Role, Follower, Candidate, Merging, Serving, Server, Condition, Running, Stopped, Unformatted, Read, upto, climb, has_applied}
use Rattle.pf_protocol.specs.Outcomes.{Outcome, to_one, to_others, other_servers, sends, nothing, only_answers, raise_term}
use Rattle.pf_protocol.specs.Saving.{changed, is_short_of, trimmed, on_checkpoint, applied_op, on_finish, on_give_back}
use Rattle.pf_protocol.proofs.ChosenKnown.{retained, applied_to_upto, tied_same}
use Rattle.pf_protocol.proofs.Rows.{base_below_upto}
use Rattle.pf_protocol.specs.Leading.{op_of, op_at, look_behind, acknowledged, all_acknowledged, new_entry, submitted, on_submit, on_fetch, on_elect, resent_entry, resent, on_resend, merged, led, still_merging, other_acked, on_vote, has_acked, knows, is_own, commit_to, counted, commit_own, commit, on_ack, confirm, on_probe_ok}
use Rattle.pf_protocol.specs.Following.{meets_term, ack, nack, on_request_vote, accepted, on_accept, on_nack, on_commit, on_probe, installed, on_image}
use Rattle.pf_protocol.specs.Rows.{on_message}
use Rattle.pf_protocol.specs.declared.answers.Answer.{Answer}
use Rattle.pf_protocol.specs.Fitting.{OpFits, NameFits, EntryFits, EntryStandsIn, StartFits, VoteFits, SlotFits, SlotsFit, SectorsFit, DurableFits, LeaderFits, RoleFits, ServerFits, ConditionFits, BodyFits, PacketFits}

-- more slots, and more terms
module _ (setup : Setup) (n m t u : ℕ) (le : n ≤ m) (le_term : t ≤ u) where
  pub entry_more : (e : Entry) → EntryFits setup n t e → EntryFits setup m u e
  entry_more e f = record {
    slot = f.slot;
    slot_low = le_trans f.slot_low le;
    term = f.term;
    term_low = le_trans f.term_low le_term;
    first = f.first;
    first_low = omega (arith, f.first_low, le);
    few = f.few;
    ascending = f.ascending;
    named = f.named;
    merged = f.merged;
    op = f.op;
  }

  pub vote_more : (v : VoteLog) → VoteFits setup n t v → VoteFits setup m u v
  vote_more v f = record {
    base = le_trans f.base le;
    log = λ slot e at. let x = f.log slot e at in record { fits = entry_more e x.fits; in_slot = x.in_slot; is_above = x.is_above; within = x.within };
    starts = λ term first at. let x = f.starts term first at in record { term_is = x.term_is; term_low = le_trans x.term_low le_term; first_is = x.first_is; first_low = omega (arith, x.first_low, le) };
  }

  pub slots_more : (base : ℕ) (slots : Numbers) → SlotsFit setup n base slots → SlotsFit setup m base slots
  slots_more base slots f slot at = let x = f slot at in (x.0, x.1, le_trans x.2 le)

  pub durable_more : (d : Durable) → DurableFits setup n t d → DurableFits setup m u d
  durable_more d f = record {
    generation = le_trans f.generation le;
    term = f.term;
    term_low = le_trans f.term_low le_term;
    vote = vote_more (vote_of d) f.vote;
    saved = slots_more d.base d.saved f.saved;
    sectors = f.sectors;
  }

  leader_more : (base : ℕ) (l : Leader) → LeaderFits n base l → LeaderFits m base l
  leader_more base l f = record {
    first = f.first;
    first_low = f.first_low;
    next_low = omega (arith, f.next_low, le);
    above_base = f.above_base;
    b0_low = f.b0_low;
    acks = f.acks;
    known = λ j k at. le_trans (f.known j k at) le;
  }

  role_more : (base : ℕ) (role : Role) → RoleFits setup n t base role → RoleFits setup m u base role
  role_more base Follower f = f
  role_more base (Candidate own) f = (vote_more own f.0, f.1)
  role_more base (Merging l) f = leader_more base l f
  role_more base (Serving l) f = leader_more base l f

  pub server_more : (s : Server) → ServerFits setup n t s → ServerFits setup m u s
  server_more s f = record {
    number = f.number;
    life = le_trans f.life le;
    durable = durable_more s.durable f.durable;
    applied = slots_more s.durable.base s.applied f.applied;
    sectors = f.sectors;
    in_hand = λ slot op at. let x = f.in_hand slot op at in ((x.0.0, x.0.1, le_trans x.0.2 le), x.1);
    reads = every_more (λ r. r.number ≤ n) (λ r. r.number ≤ m) (λ r low. le_trans low le) s.reads f.reads;
    role = role_more s.durable.base s.role f.role;
  }

  pub condition_more : (c : Condition) → ConditionFits setup n t c → ConditionFits setup m u c
  condition_more (Running s) f = server_more s f
  condition_more (Stopped life before after) f = (le_trans f.0 le, durable_more before f.1, durable_more after f.2)
  condition_more Unformatted f = f

  body_more : (term : ℕ) (body : Body) → BodyFits setup n t term body → BodyFits setup m u term body
  body_more term (RequestVote base) f = le_trans f le
  body_more term (Vote v) f = vote_more v f
  body_more term (Accept e) f = (entry_more e f.0, f.1)
  body_more term (Ack slot upto_there) f = (le_trans f.0 le, le_trans f.1 le)
  body_more term Nack f = f
  body_more term (Commit slot) f = le_trans f le
  body_more term (Probe number) f = le_trans f le
  body_more term (ProbeOk number upto_there) f = (le_trans f.0 le, le_trans f.1 le)
  body_more term (Image base applied sectors) f = (le_trans f.0 le, slots_more base applied f.1, f.2)

  pub packet_more : (p : Packet) → PacketFits setup n t p → PacketFits setup m u p
  packet_more p f = record { from = f.from; to = f.to; apart = f.apart; term = f.term; term_low = le_trans f.term_low le_term; body = body_more p.term p.body f.body }

-- the range of an op that fits
writable_span : (first count : ℕ) → IsWritable first count → is_span (record { first = first; count = count }) ≡ true
writable_span first count w = or_left _ _ (and_from _ _ (and_from _ _ (lt-ltb 0 count (omega (arith, w.some))) (le-leb count 8 w.few)) (le-leb (first + count) 4096 w.low))

writable_part : (first count : ℕ) → IsWritable first count → is_whole (record { first = first; count = count }) ≡ true → ⊥
writable_part first count w is = omega (arith, w.few, eqb-true count 255 is)

pub op_name : (setup : Setup) (slot at : ℕ) (op : Op) → at < slot → OpFits setup op → NameFits setup slot (record { slot = at; range = range_of op })
unfolding range_of
op_name setup slot at (Write range payload) low f = record { below = low; span = writable_span range.first range.count f.0; fits = f.3; marks = λ is. absurd (writable_part range.first range.count f.0 is) }
op_name setup slot at Noop low f = record { below = low; span = refl; fits = le-leb 0 setup.chunk (omega arith); marks = λ is. absurd (false≢true is) }
op_name setup slot at Mark low f = record { below = low; span = refl; fits = refl; marks = λ is. f }

-- the greatest is the least or one of those that pass
greatest_cases : (least : ℕ) (has : ℕ → Bool) (ns : List ℕ) → (greatest least (filter has ns) ≡ least) ⊎ (has (greatest least (filter has ns)) ≡ true)
greatest_cases least has [] = inl refl
greatest_cases least has (k ∷ ks) =
    by_test (has k) (λ c. has k ≡ c → (greatest least (cond c (k ∷ filter has ks) (filter has ks)) ≡ least) ⊎ (has (greatest least (cond c (k ∷ filter has ks) (filter has ks))) ≡ true))
    (λ _ is. elim (cases_lt (greatest least (filter has ks)) k) [
      | inl less ↦ inr (ap has (omega arith) ∙ is)
      | inr not_less ↦ elim (greatest_cases least has ks) [
        | inl same ↦ inl (omega arith)
        | inr passes ↦ inr (ap has (omega arith) ∙ passes)
      ]
    ])
    (λ _ _. greatest_cases least has ks) refl

-- the slots of a list of a range ascend
from_range : (has : ℕ → Bool) (n a k : ℕ) → k < a → ascends_from k (filter has (range_with_len a n)) ≡ true
from_range has zero a k low = refl
from_range has (suc n) a k low =
    by_test (has a) (λ c. ascends_from k (cond c (a ∷ filter has (range_with_len (a + 1) n)) (filter has (range_with_len (a + 1) n))) ≡ true)
    (λ _. and_from _ _ (lt-ltb k a low) (from_range has n (a + 1) a (omega arith)))
    (λ _. from_range has n (a + 1) k (omega arith))

range_ascends : (has : ℕ → Bool) (n a : ℕ) → ascends (filter has (range_with_len a n)) ≡ true
range_ascends has zero a = refl
range_ascends has (suc n) a =
    by_test (has a) (λ c. ascends (cond c (a ∷ filter has (range_with_len (a + 1) n)) (filter has (range_with_len (a + 1) n))) ≡ true)
    (λ _. from_range has n (a + 1) a (omega arith))
    (λ _. range_ascends has n (a + 1))

few_of_range : (has : ℕ → Bool) (n a : ℕ) → length (filter has (range_with_len a n)) ≤ n
few_of_range has zero a = le_refl _
few_of_range has (suc n) a =
    let rest = few_of_range has n (a + 1) in
    by_test (has a) (λ c. length (cond c (a ∷ filter has (range_with_len (a + 1) n)) (filter has (range_with_len (a + 1) n))) ≤ suc n) (λ _. omega arith) (λ _. omega arith)

same_slots : (f : ℕ → Named) → ((k : ℕ) → (f k).slot ≡ k) → (ns : List ℕ) → map (λ m. m.slot) (map f ns) ≡ ns
same_slots f is [] = refl
same_slots f is (k ∷ ks) = λ i. is k i ∷ same_slots f is ks i

same_length : {X Y : Type 0} → (f : X → Y) (xs : List X) → length (map f xs) ≡ length xs
same_length f [] = refl
same_length f (x ∷ xs) = ap suc (same_length f xs)

-- no merge goes beyond what both logs and the checkpoint have
merged_low : (base : ℕ) (own other : VoteLog) (most : ℕ) → base ≤ most → ((slot : ℕ) (e : Entry) → (FinMap.get own.log slot ≡ Some e) ⊎ (FinMap.get other.log slot ≡ Some e) → slot ≤ most) → merged_first base own other ≤ suc most
unfolding merged_first
merged_low base own other most low bound =
    let ns = FinMap.keys own.log ++ FinMap.keys other.log in
    let has : ℕ → Bool = λ slot. is_some (taken base own other slot) in
    elim (greatest_cases base has ns) [
      | inl same ↦ omega (arith, same, low)
      | inr passes ↦
          let e = some_there (taken base own other (greatest base (filter has ns))) passes in
          let b = bound (greatest base (filter has ns)) e.0 (was_taken base own other (greatest base (filter has ns)) e.0 e.1).stood in
          omega (arith, b)
    ]
  where
    some_there : (o : Option Entry) → is_some o ≡ true → (e : Entry) × (o ≡ Some e)
    some_there None is = absurd (false≢true is)
    some_there (Some e) is = (e, refl)

merged_op_fits : (setup : Setup) (n t base slot : ℕ) (own other : VoteLog) → VoteFits setup n t own → VoteFits setup n t other → OpFits setup (merged_op base own other slot)
unfolding merged_op op_or_noop
merged_op_fits setup n t base slot own other mine said = by_taken (taken base own other slot) refl
  where
    by_taken : (o : Option Entry) → taken base own other slot ≡ o → OpFits setup (op_or_noop o)
    by_taken None is = tt
    by_taken (Some x) is = elim (was_taken base own other slot x is).stood [
      | inl at ↦ (mine.log slot x at).fits.op
      | inr at ↦ (said.log slot x at).fits.op
    ]

-- what a step leaves and sends
pub record Fits (setup : Setup) (n t : ℕ) (o : Outcome) : Type 0 where
  pub server : ServerFits setup n t o.server
  pub packets : Every (PacketFits setup n t) o.packets

either_fits : (setup : Setup) (n t : ℕ) (c : Bool) (x y : Outcome) → (c ≡ true → Fits setup n t x) → (c ≡ false → Fits setup n t y) → Fits setup n t (if c then x else y)
either_fits setup n t true x y f g = f refl
either_fits setup n t false x y f g = g refl

others_fit : (me : ℕ) → Every (λ j. (j < 3) × (me ≢ j)) (other_servers me)
others_fit me = every_filter (λ j. (j < 3) × (me ≢ j)) (λ i. not (i == me)) (0 ∷ 1 ∷ 2 ∷ []) (λ e. (omega arith, apart 0 e), (λ e. (omega arith, apart 1 e), (λ e. (omega arith, apart 2 e), tt)))
  where
    apart : (j : ℕ) → not (j == me) ≡ true → me ≢ j
    apart j e same = eqb-false j me (not-true _ e) (sym same)

-- up to where every slot is applied
climb_low : (k : ℕ) (slots : Numbers) (base most : ℕ) → base ≤ most → ((slot : ℕ) → Sets.contains slots slot ≡ true → slot ≤ most) → climb k slots base ≤ most
climb_low zero slots base most low bound = low
climb_low (suc k) slots base most low bound =
    by_test (Sets.contains slots (suc base)) (λ c. Sets.contains slots (suc base) ≡ c → cond c (climb k slots (suc base)) base ≤ most)
    (λ _ is. climb_low k slots (suc base) most (bound (suc base) is) bound) (λ _ _. low) refl

upto_low : (s : Server) (most : ℕ) → s.durable.base ≤ most → ((slot : ℕ) → Sets.contains s.applied slot ≡ true → slot ≤ most) → upto s ≤ most
unfolding upto
upto_low s most low bound = climb_low (Sets.len s.applied) s.applied s.durable.base most low bound

inserted_start : (n t : ℕ) (starts : Map ℕ) (term first : ℕ) → ((u f : ℕ) → FinMap.get starts u ≡ Some f → StartFits n t u f) → StartFits n t term first → (u f : ℕ) → FinMap.get (FinMap.insert starts term first) u ≡ Some f → StartFits n t u f
inserted_start n t starts term first old new u f at =
    elim (insert_cases starts term first u f at) [
      | inl here ↦ subst (λ k. StartFits n t k f) (sym here.0) (subst (StartFits n t term) here.1 new)
      | inr there ↦ old u f there.1
    ]

inserted_entry : (setup : Setup) (n t base : ℕ) (log : Map Entry) (e : Entry) → ((slot : ℕ) (x : Entry) → FinMap.get log slot ≡ Some x → EntryStandsIn setup n t base slot x) → EntryStandsIn setup n t base e.slot e → (slot : ℕ) (x : Entry) → FinMap.get (FinMap.insert log e.slot e) slot ≡ Some x → EntryStandsIn setup n t base slot x
inserted_entry setup n t base log e old new slot x at =
    elim (insert_cases log e.slot e slot x at) [
      | inl here ↦ subst (λ k. EntryStandsIn setup n t base k x) (sym here.0) (subst (EntryStandsIn setup n t base e.slot) here.1 new)
      | inr there ↦ old slot x there.1
    ]

-- a higher checkpoint
trimmed_entries : (setup : Setup) (n t base higher : ℕ) (log : Map Entry) → base ≤ higher → ((slot : ℕ) (x : Entry) → FinMap.get log slot ≡ Some x → EntryStandsIn setup n t base slot x) → (slot : ℕ) (x : Entry) → FinMap.get (above higher log) slot ≡ Some x → EntryStandsIn setup n t higher slot x
unfolding above
trimmed_entries setup n t base higher log le old slot x at =
    by_test (nat_lt higher slot) (λ c. nat_lt higher slot ≡ c → cond c (FinMap.get log slot) None ≡ Some x → EntryStandsIn setup n t higher slot x)
    (λ _ over is. let s = old slot x is in record { fits = s.fits; in_slot = s.in_slot; is_above = ltb-true _ _ over; within = omega (arith, s.within, le) })
    (λ _ _ is. absurd (none-some x is)) refl (sym (get_above log higher slot) ∙ at)

trimmed_slots : (setup : Setup) (n base higher : ℕ) (slots : Numbers) → base ≤ higher → SlotsFit setup n base slots → SlotsFit setup n higher (Sets.retain slots (nat_lt higher))
trimmed_slots setup n base higher slots le old slot at =
    let r = retained slots higher slot at in
    let x = old slot r.0 in
    (r.1, omega (arith, x.1, le), x.2)

changed_fits : (setup : Setup) (op : Op) → OpFits setup op → (sectors : List Sector) → SectorsFit setup sectors → SectorsFit setup (changed op sectors)
unfolding changed written
changed_fits setup op f sectors fits = (changed_length 0 sectors ∙ fits.0, changed_bytes 0 sectors fits.1)
  where
    sector_after : ℕ → Sector → Sector
    sector_after x old = cond (writes op x) (written op x old) old

    changed_length : (from : ℕ) (xs : List Sector) → length (map (λ place. cond (writes op place.0) (written op place.0 place.1) place.1) (enumerate_from from xs)) ≡ length xs
    changed_length from [] = refl
    changed_length from (x ∷ xs) = ap suc (changed_length (from + 1) xs)

    index_bytes : (payload : List Sector) (k : ℕ) (old : Sector) → Every (λ bytes. length bytes ≡ 512) payload → length old ≡ 512 → length (slice_index_or payload k old) ≡ 512
    index_bytes [] k old all is = is
    index_bytes (y ∷ ys) zero old all is = all.0
    index_bytes (y ∷ ys) (suc k) old all is = index_bytes ys k old all.1 is

    written_bytes : (o : Op) → OpFits setup o → (x : ℕ) (old : Sector) → length old ≡ 512 → length (written o x old) ≡ 512
    written_bytes (Write range payload) g x old is = index_bytes payload (x - range.first) old g.2 is
    written_bytes Noop g x old is = is
    written_bytes Mark g x old is = is

    changed_bytes : (from : ℕ) (xs : List Sector) → Every (λ bytes. length bytes ≡ 512) xs → Every (λ bytes. length bytes ≡ 512) (map (λ place. cond (writes op place.0) (written op place.0 place.1) place.1) (enumerate_from from xs))
    changed_bytes from [] all = tt
    changed_bytes from (x ∷ xs) all =
        (by_test (writes op from) (λ c. length (cond c (written op from x) x) ≡ 512) (λ _. written_bytes op f from x all.0) (λ _. all.0), changed_bytes (from + 1) xs all.1)

-- the slots that a leader counts as its own
all_acks : (P : ℕ → Type 0) (slots : List ℕ) (acks : Map Numbers) (me : ℕ) → Every P slots → ((slot : ℕ) (set : Numbers) → FinMap.get acks slot ≡ Some set → P slot) → (slot : ℕ) (set : Numbers) → FinMap.get (all_acknowledged acks me slots) slot ≡ Some set → P slot
unfolding all_acknowledged acknowledged
all_acks P [] acks me each old slot set at = old slot set at
all_acks P (x ∷ xs) acks me each old slot set at =
    all_acks P xs (acknowledged acks me x) me each.1
    (λ k there is. elim (insert_cases acks x _ k there is) [ inl here ↦ subst P (sym here.0) each.0 | inr before ↦ old k there before.1 ]) slot set at

merged_starts : (n t : ℕ) (starts : Map ℕ) (term first : ℕ) (es : List Entry) → ((u f : ℕ) → FinMap.get starts u ≡ Some f → StartFits n t u f) → StartFits n t term first → (u f : ℕ) → FinMap.get (add_merged_start starts term first es) u ≡ Some f → StartFits n t u f
unfolding add_merged_start add_start
merged_starts n t starts term first [] old new = old
merged_starts n t starts term first (e ∷ es) old new = inserted_start n t starts term first old new

-- a packet of a server that fits
sent_by : (setup : Setup) (m t : ℕ) (z : Server) (to : ℕ) (body : Body) → ServerFits setup m t z → to < 3 → z.number ≢ to → BodyFits setup m t z.durable.term body → PacketFits setup m t (to_one z to body)
sent_by setup m t z to body f below apart is = record { from = f.number; to = below; apart = apart; term = f.durable.term; term_low = f.durable.term_low; body = is }

sent_to_others : (setup : Setup) (m t : ℕ) (z : Server) (body : Body) → ServerFits setup m t z → BodyFits setup m t z.durable.term body → Every (PacketFits setup m t) (to_others z body)
sent_to_others setup m t z body f is =
    every_map (PacketFits setup m t) (λ j. to_one z j body) (other_servers z.number)
    (every_more (λ j. (j < 3) × (z.number ≢ j)) (λ j. PacketFits setup m t (to_one z j body)) (λ j x. sent_by setup m t z j body f x.0 x.1 is) (other_servers z.number) (others_fit z.number))

module _ (setup : Setup) (n t : ℕ) (s : Server) (fits : ServerFits setup n t s) where
  more : ServerFits setup (suc n) t s
  more = server_more setup n (suc n) t t (omega arith) (le_refl t) s fits

  upto_fits : upto s ≤ n
  upto_fits = upto_low s n fits.durable.vote.base (λ slot at. (fits.applied slot at).2)

  sends_fit : (packets : List Packet) → Every (PacketFits setup (suc n) t) packets → Fits setup (suc n) t (sends s packets)
  sends_fit packets all = record { server = more; packets = all }

  nothing_fits : Fits setup (suc n) t (nothing s)
  nothing_fits = sends_fit [] tt

  refused_fits : (answer : Answer) → Fits setup (suc n) t (only_answers s answer)
  refused_fits answer = record { server = more; packets = tt }

  -- the same server but for its role, reads and marks
  with_role : (committed : Numbers) (role : Role) (reads : List Read) → RoleFits setup (suc n) t s.durable.base role → Every (λ r. r.number ≤ suc n) reads → ServerFits setup (suc n) t (record s { committed = committed; role = role; reads = reads })
  with_role committed role reads is low = record { number = fits.number; life = more.life; durable = more.durable; applied = more.applied; sectors = more.sectors; in_hand = more.in_hand; reads = low; role = is }

  raised : (u v : ℕ) → t ≤ v → 1 ≤ u → u ≤ v → ServerFits setup (suc n) v (raise_term s u)
  unfolding stored
  raised u v le some low =
      let f = server_more setup n (suc n) t v (omega arith) le s fits in
      record {
        number = f.number;
        life = f.life;
        durable = record { generation = f.durable.generation; term = some; term_low = low; vote = f.durable.vote; saved = f.durable.saved; sectors = f.durable.sectors };
        applied = f.applied;
        sectors = f.sectors;
        in_hand = f.in_hand;
        reads = tt;
        role = tt;
      }

  met : (u : ℕ) → u ≤ t → ServerFits setup (suc n) t (meets_term s u)
  met u low = by_test (nat_lt s.durable.term u) (λ c. nat_lt s.durable.term u ≡ c → ServerFits setup (suc n) t (if c then raise_term s u else s)) (λ _ less. raised u t (le_refl t) (omega (arith, ltb-true _ _ less)) low) (λ _ _. more) refl

  met_number : (u : ℕ) → (meets_term s u).number ≡ s.number
  met_number u = by_test (nat_lt s.durable.term u) (λ c. (if c then raise_term s u else s).number ≡ s.number) (λ _. refl) (λ _. refl)

  met_upto : (u : ℕ) → upto (meets_term s u) ≤ n
  unfolding stored upto
  met_upto u = by_test (nat_lt s.durable.term u) (λ c. upto (if c then raise_term s u else s) ≤ n) (λ _. upto_fits) (λ _. upto_fits)

  nack_fits : (to : ℕ) → to < 3 → s.number ≢ to → Fits setup (suc n) t (nack s to)
  nack_fits to below apart = sends_fit _ (sent_by setup (suc n) t s to Nack more below apart tt, tt)

  ack_fits : (to slot : ℕ) → to < 3 → s.number ≢ to → slot ≤ suc n → Fits setup (suc n) t (ack s to slot)
  ack_fits to slot below apart low = sends_fit _ (sent_by setup (suc n) t s to (Ack slot (upto s)) more below apart (low, omega (arith, upto_fits)), tt)

  met_fits : (u to slot : ℕ) → u ≤ t → to < 3 → s.number ≢ to → slot ≤ suc n → Fits setup (suc n) t (ack (meets_term s u) to slot)
  met_fits u to slot low below apart slot_low = record {
    server = met u low;
    packets = (sent_by setup (suc n) t (meets_term s u) to (Ack slot (upto (meets_term s u))) (met u low) below (λ same. apart (sym (met_number u) ∙ same)) (slot_low, omega (arith, met_upto u)), tt);
  }

  -- Submit
  held_op : (slot : ℕ) (o : Option Entry) → FinMap.get s.durable.log slot ≡ o → OpFits setup (op_of o)
  held_op slot None at = tt
  held_op slot (Some e) at = (fits.durable.vote.log slot e at).fits.op

  looks : (names next : ℕ) → Every (NameFits setup next) (look_behind names s next)
  unfolding look_behind op_at
  looks names next =
      every_map (NameFits setup next) _ _ (every_filter _ (nat_lt s.durable.base) (range_with_len (next - names) (next - (next - names)))
      (every_range _ (next - (next - names)) (next - names) (λ slot low high over. op_name setup next slot (op_of (FinMap.get s.durable.log slot)) (omega (arith, high)) (held_op slot (FinMap.get s.durable.log slot) refl))))

  looks_few : (names next : ℕ) → length (look_behind names s next) ≤ names
  unfolding look_behind
  looks_few names next =
      let some = few_of_range (nat_lt s.durable.base) (next - (next - names)) (next - names) in
      let same = same_length (λ slot. let m : Named = record { slot = slot; range = range_of (op_at s.durable.log slot) } in m) (filter (nat_lt s.durable.base) (range_with_len (next - names) (next - (next - names)))) in
      omega (arith, some, same)

  looks_ascend : (names next : ℕ) → ascends (map (λ m. m.slot) (look_behind names s next)) ≡ true
  unfolding look_behind
  looks_ascend names next =
      ap ascends (same_slots (λ slot. let m : Named = record { slot = slot; range = range_of (op_at s.durable.log slot) } in m) (λ k. refl) (filter (nat_lt s.durable.base) (range_with_len (next - names) (next - (next - names)))))
      ∙ range_ascends (nat_lt s.durable.base) (next - (next - names)) (next - names)

  new_fits : (op : Op) → OpFits setup op → (l : Leader) → LeaderFits n s.durable.base l → EntryFits setup (suc n) t (new_entry setup.names s l op)
  unfolding new_entry
  new_fits op f l lead = record {
    slot = omega (arith, lead.above_base);
    slot_low = lead.next_low;
    term = fits.durable.term;
    term_low = fits.durable.term_low;
    first = lead.first;
    first_low = omega (arith, lead.first_low, lead.next_low);
    few = looks_few setup.names l.next;
    ascending = looks_ascend setup.names l.next;
    named = looks setup.names l.next;
    merged = λ below. absurd (omega (arith, below, lead.first_low));
    op = f;
  }

  new_slot_above : (l : Leader) → LeaderFits n s.durable.base l → (op : Op) → s.durable.base < (new_entry setup.names s l op).slot
  unfolding new_entry
  new_slot_above l lead op = lead.above_base

  new_slot_within : (l : Leader) → l.next ≤ s.durable.base + setup.window → (op : Op) → (new_entry setup.names s l op).slot ≤ s.durable.base + setup.window
  unfolding new_entry
  new_slot_within l room op = room

  new_term : (l : Leader) (op : Op) → (new_entry setup.names s l op).term ≡ s.durable.term
  unfolding new_entry
  new_term l op = refl

  acks_fit : (l : Leader) (server slot : ℕ) → LeaderFits n s.durable.base l → l.b0 < slot → (k : ℕ) → slot < k → l.next ≤ k → (p : ℕ) (servers : Numbers) → FinMap.get (acknowledged l.acks server slot) p ≡ Some servers → (l.b0 < p) × (p < k)
  unfolding acknowledged
  acks_fit l server slot lead low k below le p servers at =
      elim (insert_cases l.acks slot _ p servers at) [
        | inl here ↦ (subst (λ q. l.b0 < q) (sym here.0) low, subst (λ q. q < k) (sym here.0) below)
        | inr there ↦ let x = lead.acks p servers there.1 in (x.0, omega (arith, x.1, le))
      ]

  submitted_fits : (op : Op) → OpFits setup op → (l : Leader) → LeaderFits n s.durable.base l → l.next ≤ s.durable.base + setup.window → ServerFits setup (suc n) t (submitted s l (new_entry setup.names s l op))
  unfolding submitted stored put_entry add_start new_entry
  submitted_fits op f l lead room =
      let e = new_entry setup.names s l op in
      let entry = new_fits op f l lead in
      let old = more.durable.vote in
      record {
        number = fits.number;
        life = more.life;
        durable = record {
          generation = more.durable.generation;
          term = fits.durable.term;
          term_low = fits.durable.term_low;
          vote = record {
            base = old.base;
            log = inserted_entry setup (suc n) t s.durable.base s.durable.log e old.log (record { fits = entry; in_slot = refl; is_above = new_slot_above l lead op; within = new_slot_within l room op });
            starts = inserted_start (suc n) t s.durable.starts e.term e.first old.starts (record { term_is = entry.term; term_low = entry.term_low; first_is = entry.first; first_low = entry.first_low });
          };
          saved = more.durable.saved;
          sectors = more.durable.sectors;
        };
        applied = more.applied;
        sectors = more.sectors;
        in_hand = more.in_hand;
        reads = more.reads;
        role = record {
          first = lead.first;
          first_low = omega (arith, lead.first_low);
          next_low = omega (arith, lead.next_low);
          above_base = omega (arith, lead.above_base);
          b0_low = lead.b0_low;
          acks = acks_fit l s.number l.next lead (omega (arith, lead.b0_low, lead.above_base)) (suc l.next) (omega arith) (omega arith);
          known = λ j k at. omega (arith, lead.known j k at);
        };
      }

  pub submit_fits : (op : Op) → OpFits setup op → (role : Role) → RoleFits setup n t s.durable.base role → Fits setup (suc n) t (on_submit setup s op role)
  unfolding on_submit
  submit_fits op f Follower is = refused_fits _
  submit_fits op f (Candidate own) is = refused_fits _
  submit_fits op f (Merging l) is = refused_fits _
  submit_fits op f (Serving l) is = either_fits setup (suc n) t (nat_lt (s.durable.base + setup.window) l.next) _ _ (λ _. refused_fits _) (λ room. record {
    server = submitted_fits op f l is (ltb-false _ _ room);
    packets = sent_to_others setup (suc n) t s (Accept (new_entry setup.names s l op)) more (new_fits op f l is, new_term l op);
  })

  -- Fetch
  pub fetch_fits : (range : Span) (number : ℕ) → number ≤ n → (role : Role) → Fits setup (suc n) t (on_fetch s range number role)
  unfolding on_fetch
  fetch_fits range number low Follower = refused_fits _
  fetch_fits range number low (Candidate own) = refused_fits _
  fetch_fits range number low (Merging l) = refused_fits _
  fetch_fits range number low (Serving l) = record {
    server = with_role s.committed s.role _ more.role (every_append (λ r. r.number ≤ suc n) s.reads _ more.reads (omega (arith, low), tt));
    packets = sent_to_others setup (suc n) t s (Probe number) more (omega (arith, low));
  }

  -- Elect
  pub elect_fits : Fits setup (suc n) (suc t) (on_elect s)
  unfolding on_elect stored
  elect_fits =
      let up = raised (suc s.durable.term) (suc t) (omega arith) (omega arith) (omega (arith, fits.durable.term_low)) in
      let after : ServerFits setup (suc n) (suc t) (on_elect s).server = record {
        number = up.number;
        life = up.life;
        durable = up.durable;
        applied = up.applied;
        sectors = up.sectors;
        in_hand = up.in_hand;
        reads = tt;
        role = (vote_more setup n (suc n) t (suc t) (omega arith) (omega arith) (vote_of s.durable) fits.durable.vote, le_refl _);
      } in
      record { server = after; packets = sent_to_others setup (suc n) (suc t) (on_elect s).server (RequestVote s.durable.base) after more.durable.vote.base }

  -- Resend
  resent_fits : (l : Leader) (to slot : ℕ) → to < 3 → s.number ≢ to → (own : (e : Entry) → FinMap.get s.durable.log slot ≡ Some e → e.term ≡ s.durable.term) → (o : Option Entry) → FinMap.get s.durable.log slot ≡ o → Every (PacketFits setup (suc n) t) (resent_entry s l to o slot)
  resent_fits l to slot below apart own None at = tt
  resent_fits l to slot below apart own (Some e) at =
      by_test (not (has_acked l to slot)) (λ c. Every (PacketFits setup (suc n) t) (if c then to_one s to (Accept e) ∷ [] else (if nat_lt (knows l to) slot then to_one s to (Commit slot) ∷ [] else [])))
      (λ _. (sent_by setup (suc n) t s to (Accept e) more below apart ((more.durable.vote.log slot e at).fits, own e at), tt))
      (λ _. by_test (nat_lt (knows l to) slot) (λ c. Every (PacketFits setup (suc n) t) (if c then to_one s to (Commit slot) ∷ [] else []))
      (λ _. let x = more.durable.vote.log slot e at in (sent_by setup (suc n) t s to (Commit slot) more below apart (omega (arith, x.fits.slot_low, x.in_slot)), tt)) (λ _. tt))

  -- what a leader holds above its checkpoint and below its next slot is its own
  abbrev pub IsOwn : Leader → Type 0
  IsOwn l = (slot : ℕ) (e : Entry) → s.durable.base < slot → slot < l.next → FinMap.get s.durable.log slot ≡ Some e → e.term ≡ s.durable.term

  all_resent : (l : Leader) → IsOwn l → (to : ℕ) → to < 3 → s.number ≢ to → Every (PacketFits setup (suc n) t) (resent s l to)
  unfolding resent
  all_resent l own to below apart =
      let P : Packet → Type 0 = PacketFits setup (suc n) t in
      every_append P _ _
      (every_append P (if nat_lt (knows l to) s.durable.base then to_one s to (Image s.durable.base s.applied s.sectors) ∷ [] else []) _
      (by_test (nat_lt (knows l to) s.durable.base) (λ c. Every P (if c then to_one s to (Image s.durable.base s.applied s.sectors) ∷ [] else []))
      (λ _. (sent_by setup (suc n) t s to (Image s.durable.base s.applied s.sectors) more below apart (more.durable.vote.base, more.applied, more.sectors), tt)) (λ _. tt))
      (every_flat_map_from (λ slot. (s.durable.base < slot) × (slot < l.next)) P (λ slot. resent_entry s l to (FinMap.get s.durable.log slot) slot) (range_with_len (suc s.durable.base) (l.next - suc s.durable.base))
      (λ slot x. resent_fits l to slot below apart (λ e at. own slot e x.0 x.1 at) (FinMap.get s.durable.log slot) refl)
      (every_range (λ slot. (s.durable.base < slot) × (slot < l.next)) (l.next - suc s.durable.base) (suc s.durable.base) (λ slot low high. (omega (arith, low), omega (arith, low, high))))))
      (every_map P (λ r. to_one s to (Probe r.number)) (filter (λ r. not r.confirmed) s.reads)
      (every_filter (λ r. P (to_one s to (Probe r.number))) (λ r. not r.confirmed) s.reads
      (every_more (λ r. r.number ≤ suc n) _ (λ r low _. sent_by setup (suc n) t s to (Probe r.number) more below apart low) s.reads more.reads)))

  each_resent : (l : Leader) → IsOwn l → Every (PacketFits setup (suc n) t) (flat_map (resent s l) (other_servers s.number))
  each_resent l own = every_flat_map_from (λ j. (j < 3) × (s.number ≢ j)) (PacketFits setup (suc n) t) (resent s l) (other_servers s.number) (λ j x. all_resent l own j x.0 x.1) (others_fit s.number)

  pub resend_fits : (role : Role) → ((l : Leader) → (role ≡ Merging l) ⊎ (role ≡ Serving l) → IsOwn l) → Fits setup (suc n) t (on_resend s role)
  unfolding on_resend
  resend_fits Follower own = sends_fit _ (sent_to_others setup (suc n) t s (Ack s.durable.base (upto s)) more (more.durable.vote.base, omega (arith, upto_fits)))
  resend_fits (Candidate mine) own = sends_fit _ (sent_to_others setup (suc n) t s (RequestVote s.durable.base) more more.durable.vote.base)
  resend_fits (Merging l) own = sends_fit _ (each_resent l (own l (inl refl)))
  resend_fits (Serving l) own = sends_fit _ (each_resent l (own l (inr refl)))

  -- Vote
  module _ (own vote : VoteLog) (mine : VoteFits setup n t own) (own_low : own.base ≤ s.durable.base) (said : VoteFits setup n t vote) (vote_low : vote.base ≤ s.durable.base) where
    first_low : merged_first s.durable.base own vote ≤ suc n
    first_low = merged_low s.durable.base own vote n fits.durable.vote.base (λ slot e at. elim at [
      | inl one ↦ let x = mine.log slot e one in omega (arith, x.fits.slot_low, x.in_slot)
      | inr two ↦ let x = said.log slot e two in omega (arith, x.fits.slot_low, x.in_slot)
    ])

    first_within : merged_first s.durable.base own vote ≤ suc (s.durable.base + setup.window)
    first_within = merged_low s.durable.base own vote (s.durable.base + setup.window) (omega arith) (λ slot e at. elim at [
      | inl one ↦ let x = mine.log slot e one in omega (arith, x.within, own_low)
      | inr two ↦ let x = said.log slot e two in omega (arith, x.within, vote_low)
    ])

    merged_fit : (slot : ℕ) → s.durable.base < slot → slot < merged_first s.durable.base own vote → EntryFits setup (suc n) t (merged_entry s.durable.term s.durable.base own vote slot)
    unfolding merged_entry
    merged_fit slot above below = record {
      slot = omega (arith, above);
      slot_low = omega (arith, below, first_low);
      term = fits.durable.term;
      term_low = fits.durable.term_low;
      first = omega (arith, base_below_first s.durable.base own vote);
      first_low = omega (arith, first_low);
      few = omega arith;
      ascending = refl;
      named = tt;
      merged = λ _. refl;
      op = merged_op_fits setup n t s.durable.base slot own vote mine said;
    }

    in_slot : (slot : ℕ) → (merged_entry s.durable.term s.durable.base own vote slot).slot ≡ slot
    unfolding merged_entry
    in_slot slot = refl

    in_term : (slot : ℕ) → (merged_entry s.durable.term s.durable.base own vote slot).term ≡ s.durable.term
    unfolding merged_entry
    in_term slot = refl

    merged_stands : (slot : ℕ) → s.durable.base < slot → slot < merged_first s.durable.base own vote → EntryStandsIn setup (suc n) t s.durable.base slot (merged_entry s.durable.term s.durable.base own vote slot)
    merged_stands slot above below = record { fits = merged_fit slot above below; in_slot = in_slot slot; is_above = above; within = omega (arith, below, first_within) }

    led_fits : LeaderFits (suc n) s.durable.base (led s.durable.base (merged_first s.durable.base own vote) (merged_first s.durable.base own vote) s.number)
    unfolding led
    led_fits =
        let first = merged_first s.durable.base own vote in
        let base = s.durable.base in
        record {
          first = omega (arith, base_below_first base own vote);
          first_low = le_refl _;
          next_low = omega (arith, first_low);
          above_base = base_below_first base own vote;
          b0_low = le_refl _;
          acks = all_acks (λ slot. (base < slot) × (slot < first)) (range_with_len (suc base) (first - suc base)) FinMap.empty s.number
              (every_range (λ slot. (base < slot) × (slot < first)) (first - suc base) (suc base) (λ slot low high. (omega (arith, low), omega (arith, low, high))))
              (λ slot set at. absurd (none-some set (sym (get-empty nat_cmp slot) ∙ at)));
          known = λ j k at. absurd (none-some k (sym (get-empty nat_cmp j) ∙ at));
        }

    merge_server : ServerFits setup (suc n) t (merged s own vote)
    unfolding merged stored merged_entries
    merge_server =
        let base = s.durable.base in
        let first = merged_first base own vote in
        let f = merged_entry s.durable.term base own vote in
        record {
          number = fits.number;
          life = more.life;
          durable = record {
            generation = more.durable.generation;
            term = fits.durable.term;
            term_low = fits.durable.term_low;
            vote = record {
              base = more.durable.vote.base;
              log = λ slot e at. elim (range_cases f in_slot (first - suc base) (suc base) s.durable.log slot e at) [
                | inl old ↦ more.durable.vote.log slot e old
                | inr new ↦ subst (EntryStandsIn setup (suc n) t base slot) new.2 (merged_stands slot (omega (arith, new.0)) (omega (arith, new.0, new.1)))
              ];
              starts = merged_starts (suc n) t s.durable.starts s.durable.term first (map f (range_with_len (suc base) (first - suc base))) more.durable.vote.starts
                  (record { term_is = fits.durable.term; term_low = fits.durable.term_low; first_is = omega (arith, base_below_first base own vote); first_low = omega (arith, first_low) });
            };
            saved = more.durable.saved;
            sectors = more.durable.sectors;
          };
          applied = more.applied;
          sectors = more.sectors;
          in_hand = more.in_hand;
          reads = more.reads;
          role = by_test (nat_lt (suc base) first) (λ c. RoleFits setup (suc n) t base (if c then Merging (led base first first s.number) else Serving (led base first first s.number))) (λ _. led_fits) (λ _. led_fits);
        }

    merge_fits : Fits setup (suc n) t (sends (merged s own vote) (flat_map (λ e. to_others s (Accept e)) (merged_entries s.durable.term s.durable.base own vote)))
    unfolding merged_entries
    merge_fits =
        let base = s.durable.base in
        let first = merged_first base own vote in
        let f = merged_entry s.durable.term base own vote in
        record {
          server = merge_server;
          packets = every_flat_map_from (λ e. EntryFits setup (suc n) t e × (e.term ≡ s.durable.term)) (PacketFits setup (suc n) t) (λ e. to_others s (Accept e)) (map f (range_with_len (suc base) (first - suc base)))
              (λ e is. sent_to_others setup (suc n) t s (Accept e) more is)
              (every_map (λ e. EntryFits setup (suc n) t e × (e.term ≡ s.durable.term)) f (range_with_len (suc base) (first - suc base))
              (every_range (λ k. EntryFits setup (suc n) t (f k) × ((f k).term ≡ s.durable.term)) (first - suc base) (suc base) (λ k low high. (merged_fit k (omega (arith, low)) (omega (arith, low, high)), in_term k))));
        }

  vote_fits : (term : ℕ) (vote : VoteLog) → VoteFits setup n t vote → (role : Role) → RoleFits setup n t s.durable.base role → Fits setup (suc n) t (on_vote s term vote role)
  unfolding on_vote
  vote_fits term vote said Follower is = nothing_fits
  vote_fits term vote said (Merging l) is = nothing_fits
  vote_fits term vote said (Serving l) is = nothing_fits
  vote_fits term vote said (Candidate own) is = either_fits setup (suc n) t (term == s.durable.term && nat_le vote.base s.durable.base) _ _
      (λ tests. merge_fits own vote is.0 is.1 said (leb-true _ _ (and_parts _ _ tests).1)) (λ _. nothing_fits)

  -- Checkpoint
  trimmed_role : (role : Role) → RoleFits setup n t s.durable.base role → s.durable.base ≤ upto s → is_short_of role (upto s) ≡ false → RoleFits setup (suc n) t (upto s) role
  trimmed_role Follower is up past = tt
  trimmed_role (Candidate own) is up past = (vote_more setup n (suc n) t t (omega arith) (le_refl t) own is.0, omega (arith, is.1, up))
  trimmed_role (Merging l) is up past = record { first = is.first; first_low = is.first_low; next_low = omega (arith, is.next_low); above_base = leb-false _ _ past; b0_low = omega (arith, is.b0_low, up); acks = is.acks; known = λ j k at. omega (arith, is.known j k at) }
  trimmed_role (Serving l) is up past = record { first = is.first; first_low = is.first_low; next_low = omega (arith, is.next_low); above_base = leb-false _ _ past; b0_low = omega (arith, is.b0_low, up); acks = is.acks; known = λ j k at. omega (arith, is.known j k at) }

  pub checkpoint_fits : ((slot : ℕ) (op : Op) → FinMap.get s.in_hand slot ≡ Some op → has_applied s slot ≡ false) → Fits setup (suc n) t (on_checkpoint s)
  unfolding on_checkpoint trimmed stored
  checkpoint_fits unapplied = either_fits setup (suc n) t (upto s == s.durable.base || is_short_of s.role (upto s)) _ _ (λ _. refused_fits _) (λ moves.
      let up = base_below_upto s in
      let kept = trimmed_slots setup (suc n) s.durable.base (upto s) s.applied up more.applied in
      record {
        packets = tt;
        server = record {
          number = fits.number;
          life = more.life;
          durable = record {
            generation = omega (arith, fits.durable.generation);
            term = fits.durable.term;
            term_low = fits.durable.term_low;
            vote = record {
              base = omega (arith, upto_fits);
              log = trimmed_entries setup (suc n) t s.durable.base (upto s) s.durable.log up more.durable.vote.log;
              starts = more.durable.vote.starts;
            };
            saved = kept;
            sectors = more.sectors;
          };
          applied = kept;
          sectors = more.sectors;
          in_hand = λ slot op at. let x = more.in_hand slot op at in ((still_above slot op at, omega (arith, x.0.1, up), x.0.2), x.1);
          reads = more.reads;
          role = trimmed_role s.role fits.role up (or_parts _ _ moves).1;
        };
      })
    where
      still_above : (slot : ℕ) (op : Op) → FinMap.get s.in_hand slot ≡ Some op → upto s < slot
      still_above slot op at = elim (cases_lt (upto s) slot) [ inl beyond ↦ beyond | inr within ↦ absurd (false≢true (sym (unapplied slot op at) ∙ applied_to_upto s slot within)) ]

  -- Finish and give back
  removed_jobs : (slot k : ℕ) (op : Op) → FinMap.get (FinMap.remove s.in_hand slot) k ≡ Some op → SlotFits setup (suc n) s.durable.base k × OpFits setup op
  removed_jobs slot k op at = more.in_hand k op (remove_cases s.in_hand slot k op at).1

  pub finish_fits : (life slot : ℕ) → Fits setup (suc n) t (on_finish s life slot)
  unfolding on_finish applied_op
  finish_fits life slot = either_fits setup (suc n) t (life == s.life) _ _ (λ _. finished (FinMap.get s.in_hand slot) refl) (λ _. refused_fits _)
    where
      finished : (o : Option Op) → FinMap.get s.in_hand slot ≡ o → Fits setup (suc n) t (sends (applied_op s slot o) [])
      finished None at = nothing_fits
      finished (Some op) at =
          let job = more.in_hand slot op at in
          record {
            packets = tt;
            server = record {
              number = fits.number;
              life = more.life;
              durable = more.durable;
              applied = λ k is. elim (or_cases _ _ (sym (contains-insert s.applied slot k) ∙ is)) [
                | inl here ↦ subst (SlotFits setup (suc n) s.durable.base) (sym (tied_same k slot here)) job.0
                | inr there ↦ more.applied k there
              ];
              sectors = changed_fits setup op job.1 s.sectors more.sectors;
              in_hand = removed_jobs slot;
              reads = more.reads;
              role = more.role;
            };
          }

  pub give_back_fits : (life slot : ℕ) → Fits setup (suc n) t (on_give_back s life slot)
  unfolding on_give_back
  give_back_fits life slot = either_fits setup (suc n) t (life == s.life) _ _
      (λ _. record { packets = tt; server = record { number = fits.number; life = more.life; durable = more.durable; applied = more.applied; sectors = more.sectors; in_hand = removed_jobs slot; reads = more.reads; role = more.role } })
      (λ _. nothing_fits)

  -- Accept
  accepted_fits : (e : Entry) → EntryFits setup n t e → s.durable.base < e.slot → e.slot ≤ s.durable.base + setup.window → ServerFits setup (suc n) t (accepted s e)
  unfolding accepted stored put_entry add_start
  accepted_fits e f above within =
      let entry = entry_more setup n (suc n) t t (omega arith) (le_refl t) e f in
      record {
        number = fits.number;
        life = more.life;
        durable = record {
          generation = more.durable.generation;
          term = f.term;
          term_low = f.term_low;
          vote = record {
            base = more.durable.vote.base;
            log = inserted_entry setup (suc n) t s.durable.base s.durable.log e more.durable.vote.log (record { fits = entry; in_slot = refl; is_above = above; within = within });
            starts = inserted_start (suc n) t s.durable.starts e.term e.first more.durable.vote.starts (record { term_is = entry.term; term_low = entry.term_low; first_is = entry.first; first_low = entry.first_low });
          };
          saved = more.durable.saved;
          sectors = more.durable.sectors;
        };
        applied = more.applied;
        sectors = more.sectors;
        in_hand = more.in_hand;
        reads = tt;
        role = tt;
      }

  accepted_number : (e : Entry) → (accepted s e).number ≡ s.number
  unfolding accepted
  accepted_number e = refl

  accepted_upto : (e : Entry) → upto (accepted s e) ≤ n
  unfolding accepted stored upto
  accepted_upto e = upto_fits

  accept_fits : (from : ℕ) (e : Entry) → from < 3 → s.number ≢ from → EntryFits setup n t e → Fits setup (suc n) t (on_accept setup s from e)
  unfolding on_accept
  accept_fits from e below apart f =
      let slot_low : e.slot ≤ suc n = omega (arith, f.slot_low) in
      either_fits setup (suc n) t (nat_lt e.term s.durable.term) _ _ (λ _. nack_fits from below apart) (λ _.
      either_fits setup (suc n) t (nat_le e.slot s.durable.base) _ _ (λ _. met_fits e.term from e.slot f.term_low below apart slot_low) (λ above.
      either_fits setup (suc n) t (nat_lt (s.durable.base + setup.window) e.slot) _ _ (λ _. nothing_fits) (λ within.
      either_fits setup (suc n) t (holds s.durable e.slot e.term) _ _ (λ _. ack_fits from e.slot below apart slot_low) (λ _.
      let after = accepted_fits e f (leb-false _ _ above) (ltb-false _ _ within) in
      record { server = after; packets = (sent_by setup (suc n) t (accepted s e) from (Ack e.slot (upto (accepted s e))) after below (λ same. apart (sym (accepted_number e) ∙ same)) (slot_low, omega (arith, accepted_upto e)), tt) }))))

  -- RequestVote
  request_vote_fits : (from term base : ℕ) → from < 3 → s.number ≢ from → term ≤ t → Fits setup (suc n) t (on_request_vote s from term base)
  unfolding on_request_vote stored
  request_vote_fits from term base below apart low = either_fits setup (suc n) t (nat_le term s.durable.term || nat_lt base s.durable.base) _ _ (λ _. nack_fits from below apart) (λ grants.
      let higher : s.durable.term < term = leb-false term s.durable.term (or_parts _ _ grants).0 in
      let after = raised term t (le_refl t) (omega (arith, higher)) low in
      record { server = after; packets = (sent_by setup (suc n) t (raise_term s term) from (Vote (vote_of s.durable)) after below apart more.durable.vote, tt) })

  -- Ack
  counted_fits : (l : Leader) → LeaderFits n s.durable.base l → (from slot upto_there : ℕ) → upto_there ≤ n → LeaderFits (suc n) s.durable.base (counted l from slot upto_there)
  unfolding counted
  counted_fits l f from slot upto_there low = record {
    first = f.first;
    first_low = f.first_low;
    next_low = omega (arith, f.next_low);
    above_base = f.above_base;
    b0_low = f.b0_low;
    acks = by_test (is_own l slot) (λ c. is_own l slot ≡ c → (p : ℕ) (set : Numbers) → FinMap.get (if c then acknowledged l.acks from slot else l.acks) p ≡ Some set → (l.b0 < p) × (p < l.next))
        (λ _ own. let o = and_parts _ _ own in acks_fit l from slot f (ltb-true _ _ o.0) l.next (ltb-true _ _ o.1) (le_refl _))
        (λ _ _. f.acks) refl;
    known = λ j k at. elim (insert_cases l.known from upto_there j k at) [
      | inl here ↦ subst (λ v. v ≤ suc n) here.1 (omega (arith, low))
      | inr there ↦ omega (arith, f.known j k there.1)
    ];
  }

  commit_low : (l : Leader) (slot : ℕ) → slot < l.next → l.next ≤ suc n → slot ≤ suc n
  commit_low l slot low next_low = omega arith

  commit_fits : (l : Leader) → LeaderFits n s.durable.base l → (from slot : ℕ) → from < 3 → s.number ≢ from → Every (PacketFits setup (suc n) t) (commit_to s l from slot)
  commit_fits l f from slot below apart =
      by_test (is_own l slot) (λ c. is_own l slot ≡ c → Every (PacketFits setup (suc n) t) (if c then to_one s from (Commit slot) ∷ [] else []))
      (λ _ own. let low : slot < l.next = ltb-true slot l.next (and_parts _ _ own).1 in (sent_by setup (suc n) t s from (Commit slot) more below apart (commit_low l slot low f.next_low), tt)) (λ _ _. tt) refl

  merging_fits : (l : Leader) → LeaderFits (suc n) s.durable.base l → RoleFits setup (suc n) t s.durable.base (still_merging s l)
  merging_fits l f = by_test (list_all (other_acked l s.number) (range_with_len (suc l.b0) (l.first - suc l.b0))) (λ c. RoleFits setup (suc n) t s.durable.base (if c then Serving l else Merging l)) (λ _. f) (λ _. f)

  ack_row_fits : (from term slot upto_there : ℕ) → from < 3 → s.number ≢ from → upto_there ≤ n → (role : Role) → RoleFits setup n t s.durable.base role → Fits setup (suc n) t (on_ack s from term slot upto_there role)
  unfolding on_ack commit_own
  ack_row_fits from term slot upto_there below apart low Follower is = nothing_fits
  ack_row_fits from term slot upto_there below apart low (Candidate own) is = nothing_fits
  ack_row_fits from term slot upto_there below apart low (Merging l) is = either_fits setup (suc n) t (term == s.durable.term) _ _
      (λ _. record { server = with_role _ _ s.reads (merging_fits (counted l from slot upto_there) (counted_fits l is from slot upto_there low)) more.reads; packets = commit_fits l is from slot below apart }) (λ _. nothing_fits)
  ack_row_fits from term slot upto_there below apart low (Serving l) is = either_fits setup (suc n) t (term == s.durable.term) _ _
      (λ _. record { server = with_role _ _ s.reads (counted_fits l is from slot upto_there low) more.reads; packets = commit_fits l is from slot below apart }) (λ _. nothing_fits)

  -- ProbeOk
  probe_ok_fits : (from term number upto_there : ℕ) → upto_there ≤ n → (role : Role) → RoleFits setup n t s.durable.base role → Fits setup (suc n) t (on_probe_ok s from term number upto_there role)
  unfolding on_probe_ok
  probe_ok_fits from term number upto_there low Follower is = nothing_fits
  probe_ok_fits from term number upto_there low (Candidate own) is = nothing_fits
  probe_ok_fits from term number upto_there low (Merging l) is = nothing_fits
  probe_ok_fits from term number upto_there low (Serving l) is = either_fits setup (suc n) t (term == s.durable.term) _ _
      (λ _. record {
        packets = tt;
        server = with_role s.committed _ _ (record {
          first = is.first;
          first_low = is.first_low;
          next_low = omega (arith, is.next_low);
          above_base = is.above_base;
          b0_low = is.b0_low;
          acks = is.acks;
          known = λ j k at. elim (insert_cases l.known from upto_there j k at) [
            | inl here ↦ subst (λ v. v ≤ suc n) here.1 (omega (arith, low))
            | inr there ↦ omega (arith, is.known j k there.1)
          ];
        }) (every_map (λ r. r.number ≤ suc n) (confirm number) s.reads (every_more (λ r. r.number ≤ suc n) (λ r. (confirm number r).number ≤ suc n) confirmed s.reads more.reads));
      })
      (λ _. nothing_fits)
    where
      confirmed : (r : Read) → r.number ≤ suc n → (confirm number r).number ≤ suc n
      confirmed r le = by_test (r.number == number) (λ c. (if c then record r { confirmed = true } else r).number ≤ suc n) (λ _. le) (λ _. le)

  -- Image
  installed_fits : (term base : ℕ) (applied : Numbers) (sectors : List Sector) → 1 ≤ term → term ≤ t → s.durable.base ≤ base → base ≤ n → SlotsFit setup n base applied → SectorsFit setup sectors → ServerFits setup (suc n) t (installed s term base applied sectors)
  unfolding installed stored
  installed_fits term base applied sectors some low up base_low slots sized =
      let kept = slots_more setup n (suc n) t t (omega arith) (le_refl t) base applied slots in
      record {
        number = fits.number;
        life = omega (arith, fits.life);
        durable = record {
          generation = omega (arith, fits.durable.generation);
          term = some;
          term_low = low;
          vote = record {
            base = omega (arith, base_low);
            log = trimmed_entries setup (suc n) t s.durable.base base s.durable.log up more.durable.vote.log;
            starts = more.durable.vote.starts;
          };
          saved = kept;
          sectors = sized;
        };
        applied = kept;
        sectors = sized;
        in_hand = λ slot op at. absurd (none-some op (sym (get-empty nat_cmp slot) ∙ at));
        reads = tt;
        role = tt;
      }

  installed_number : (term base : ℕ) (applied : Numbers) (sectors : List Sector) → (installed s term base applied sectors).number ≡ s.number
  unfolding installed
  installed_number term base applied sectors = refl

  image_fits : (from term base : ℕ) (applied : Numbers) (sectors : List Sector) → from < 3 → s.number ≢ from → 1 ≤ term → term ≤ t → base ≤ n → SlotsFit setup n base applied → SectorsFit setup sectors → Fits setup (suc n) t (on_image s from term base applied sectors)
  unfolding on_image
  image_fits from term base applied sectors below apart some low base_low slots sized =
      either_fits setup (suc n) t (nat_lt term s.durable.term) _ _ (λ _. nack_fits from below apart) (λ _.
      either_fits setup (suc n) t (nat_le base (upto s)) _ _ (λ _. met_fits term from base low below apart (omega (arith, base_low))) (λ further.
      let z = installed s term base applied sectors in
      let after = installed_fits term base applied sectors some low (omega (arith, leb-false _ _ further, base_below_upto s)) base_low slots sized in
      record {
        server = after;
        packets = (
          sent_by setup (suc n) t z from (Ack base (upto z)) after below (λ same. apart (sym (installed_number term base applied sectors) ∙ same))
              (omega (arith, base_low), upto_low z (suc n) after.durable.vote.base (λ slot at. (after.applied slot at).2)),
          tt,
        );
      }))

  -- every message
  pub message_fits : (from term : ℕ) (body : Body) → from < 3 → s.number ≢ from → 1 ≤ term → term ≤ t → BodyFits setup n t term body → Fits setup (suc n) t (on_message setup s from term body)
  unfolding on_message on_nack on_commit commit on_probe
  message_fits from term (RequestVote base) below apart some low f = request_vote_fits from term base below apart low
  message_fits from term (Vote v) below apart some low f = vote_fits term v f s.role fits.role
  message_fits from term (Accept e) below apart some low f = accept_fits from e below apart f.0
  message_fits from term (Ack slot upto_there) below apart some low f = ack_row_fits from term slot upto_there below apart f.1 s.role fits.role
  message_fits from term Nack below apart some low f = record { server = met term low; packets = tt }
  message_fits from term (Commit slot) below apart some low f = either_fits setup (suc n) t (holds s.durable slot term) _ _ (λ _. record { server = with_role _ s.role s.reads more.role more.reads; packets = tt }) (λ _. nothing_fits)
  message_fits from term (Probe number) below apart some low f = either_fits setup (suc n) t (nat_lt term s.durable.term) _ _ (λ _. nack_fits from below apart)
      (λ _. sends_fit _ (record { from = fits.number; to = below; apart = apart; term = some; term_low = low; body = (omega (arith, f), omega (arith, upto_fits)) }, tt))
  message_fits from term (ProbeOk number upto_there) below apart some low f = probe_ok_fits from term number upto_there f.1 s.role fits.role
  message_fits from term (Image base applied sectors) below apart some low f = image_fits from term base applied sectors below apart some low f.0 f.1 f.2
