-- Jobs that end.
use Rattle.std.proofs.Common.{◌≡◌, ℕ, ◌+◌, ◌-◌, ◌<◌, ◌≤◌, ◌≢◌, Bool, true, false, ◌&&◌, ◌||◌, List, [], length, Option, Some, None, Result, Ok, Err, OnErr, is_some, nat_lt, arith, refl, sym, ap, subst, ◌∙◌}
use Rattle.std.proofs.lemmas.Bool.{cond-true, cond-false, eq-eqb, false≢true, ne_eqb}
use Rattle.std.proofs.lemmas.Option.{none-some}
use Rattle.std.specs.Option.{MatchOption}
use Rattle.std.proofs.lemmas.Bool.Decides.{nat_tests}
use Rattle.std.specs.Ordering.{nat_cmp, eq_by_cmp}
use Rattle.std.specs.Cmp.{nat_cmp_total}
use Rattle.std.specs.FinMap
use Rattle.pf_entry.specs.Maps.{Map, Numbers}
use Rattle.pf_entry.specs.Sets
use Rattle.pf_entry.specs.Ops.{Sector}
use Rattle.pf_entry.specs.Records.{Durable}
use Rattle.pf_entry.specs.declared.ops.Op.{Op}
use Rattle.pf_entry.specs.declared.ops.Op.TheVariants.{Write, Noop, Mark}
use Rattle.pf_entry.proofs.Maps.{remove_cases}
use Rattle.pf_holes.proofs.Found.{remove_none, same_number}
use Rattle.pf_entry.proofs.Sets.{contains-insert, same_set}
use Rattle.pf_holes.specs.SlotSets.{SlotTable}
use Rattle.pf_protocol.specs.Servers.{Server, Setup}
use Rattle.pf_protocol.specs.Outcomes.{Outcome, only_answers, sends}
use Rattle.pf_protocol.specs.Fitting.{OpFits}
use Rattle.pf_protocol.specs.declared.answers.Answer.{Answer}
use Rattle.pf_protocol.specs.declared.answers.Answer.TheVariants.{Refused}
use Rattle.pf_protocol.specs.declared.answers.Refusal.TheVariants.{Stale}
use Rattle.pf_protocol.specs.Saving.{applied_op, changed, on_finish, on_give_back, snapshots_after}
use Rattle.pf_server_memory.proofs.AppliedSlots.{in_above}
use Rattle.pf_server_memory.specs.declared.running.Running.{Running}
use Rattle.pf_server_memory.specs.Standing.{server_of, setup_of, IsBounded, IsCached}
use Rattle.pf_server_memory.specs.Turns.{IsAfter, IsTurn}
use Rattle.pf_server_apply.specs.Jobs.{HasRoomForMark, OpIsInside}
use Rattle.pf_server_apply.proofs.SectorChanges.{length-changed}

-- some job is in hand
pub has_jobs : {X : Type 0} (m : Map X) (slot : ℕ) → FinMap.contains_key m slot ≡ true → 1 ≤ FinMap.len m
has_jobs m slot has =
    let some : FinMap.len m ≢ 0 = λ none. false≢true (sym (ap is_some (FinMap.get-empty nat_cmp slot)) ∙ ap (λ n. FinMap.contains_key n slot) (sym (FinMap.empty_of_len m none)) ∙ has) in
    omega (arith, some)

pub one_less : {X : Type 0} (m : Map X) (slot : ℕ) → FinMap.contains_key m slot ≡ true → FinMap.len (FinMap.remove m slot) ≡ FinMap.len m - 1
one_less m slot has = FinMap.len-remove nat_cmp_total m slot ∙ cond-true _ _ _ has

-- a slot above the checkpoint is applied
beside : (base slot q : ℕ) (b : Bool) → base < slot → ((eq_by_cmp nat_cmp q slot || b) && nat_lt base q) ≡ (eq_by_cmp nat_cmp q slot || (b && nat_lt base q))
beside base slot q b above = grind (arith, nat_tests)

pub applied_above : (slots : Numbers) (base slot : ℕ) → base < slot → Sets.retain (Sets.insert slots slot) (nat_lt base) ≡ Sets.insert (Sets.retain slots (nat_lt base)) slot
applied_above slots base slot above = same_set _ _ (λ q.
    in_above (Sets.insert slots slot) base q
    ∙ ap (λ b. b && nat_lt base q) (contains-insert slots slot q)
    ∙ beside base slot q (Sets.contains slots q) above
    ∙ sym (contains-insert (Sets.retain slots (nat_lt base)) slot q ∙ ap (λ b. eq_by_cmp nat_cmp q slot || b) (in_above slots base q)))

or_true : (b : Bool) → (b || true) ≡ true
or_true true = refl
or_true false = refl

pub there : {X : Type 0} (o : Option X) → is_some o ≡ true → (x : X) × (o ≡ Some x)
there None e = absurd (grind arith)
there (Some x) e = (x, refl)

pub get_others : {X : Type 0} (m : Map X) (k q : ℕ) → q ≢ k → FinMap.get (FinMap.remove m k) q ≡ FinMap.get m q
get_others m k q apart = FinMap.get-remove nat_cmp_total m k q ∙ cond-false _ _ _ (same_number q k ∙ ne_eqb q k apart)

module _ (d : Durable) (me : Running) (slot : ℕ) (cached : IsCached d me) where
  rooms_left : (q : ℕ) → FinMap.get (FinMap.remove me.in_hand slot) q ≡ Some Mark → FinMap.get (FinMap.remove me.rooms slot) q ≡ Some (length me.sectors)
  rooms_left q at =
      let was = remove_cases me.in_hand slot q Mark at in
      get_others me.rooms slot q was.0 ∙ cached.rooms q was.1

  near_left : (q : ℕ) → FinMap.contains_key (FinMap.remove me.rooms slot) q ≡ true → FinMap.contains_key (FinMap.remove me.in_hand slot) q ≡ true
  near_left q has =
      let room = there (FinMap.get (FinMap.remove me.rooms slot) q) has in
      let was = remove_cases me.rooms slot q room.0 room.1 in
      ap is_some (get_others me.in_hand slot q was.0) ∙ cached.near q (ap is_some was.1)

  module _ (held : FinMap.contains_key me.in_hand slot ≡ true) where
    jobs_left : me.jobs - 1 ≡ FinMap.len (FinMap.remove me.in_hand slot)
    jobs_left = ap (λ n. n - 1) cached.jobs ∙ sym (one_less me.in_hand slot held)

    pub some_jobs : 1 ≤ me.jobs
    some_jobs = omega (arith, cached.jobs, has_jobs me.in_hand slot held)

    -- a job that is given back
    pub dropped : IsAfter d me (record me { in_hand = FinMap.remove me.in_hand slot; rooms = FinMap.remove me.rooms slot; jobs = me.jobs - 1 }) (record (server_of d me) { in_hand = FinMap.remove me.in_hand slot })
    unfolding server_of setup_of
    dropped = record {
      server_is = refl;
      setup_same = refl;
      cached = record {
        number = cached.number;
        term = cached.term;
        generation = cached.generation;
        base = cached.base;
        starts = cached.starts;
        log = cached.log;
        format = cached.format;
        prefix = cached.prefix;
        role = cached.role;
        jobs = jobs_left;
        places = omega (arith, cached.places);
        rooms = rooms_left;
        near = near_left;
        replies = cached.replies;
      };
    }

  -- a job that is done
  module _ (bounded : IsBounded me) (op : Op) (held : FinMap.get me.in_hand slot ≡ Some op) where
    above : me.log.base < slot
    unfolding server_of setup_of
    above = (bounded.fits.in_hand slot op held).0.0

    pub done : (applied : SlotTable) (sectors : List Sector) (snapshots : Map (List Sector)) → applied.slots ≡ Sets.insert me.applied.slots slot → me.applied.spare ≤ applied.spare + 1
        → sectors ≡ changed op me.sectors → snapshots ≡ snapshots_after op slot me.sectors me.snapshots
        → IsAfter d me (record me { in_hand = FinMap.remove me.in_hand slot; rooms = FinMap.remove me.rooms slot; jobs = me.jobs - 1; applied = applied; sectors = sectors; snapshots = snapshots })
        (applied_op (server_of d me) slot (FinMap.get me.in_hand slot))
    unfolding server_of setup_of applied_op
    done applied sectors snapshots added spare changes keeps =
        let same : length sectors ≡ length me.sectors = ap length changes ∙ length-changed op me.sectors in
        subst (λ o. IsAfter d me (record me { in_hand = FinMap.remove me.in_hand slot; rooms = FinMap.remove me.rooms slot; jobs = me.jobs - 1; applied = applied; sectors = sectors; snapshots = snapshots }) (applied_op (server_of d me) slot o)) (sym held)
        record {
          server_is = λ i. record (server_of d me) {
            in_hand = FinMap.remove me.in_hand slot;
            applied = (ap (λ s. Sets.retain s (nat_lt me.log.base)) added ∙ applied_above me.applied.slots me.log.base slot above) i;
            sectors = changes i;
            snapshots = keeps i;
          };
          setup_same = ap (λ n. record (setup_of me) { chunk = n }) same;
          cached = record {
            number = cached.number;
            term = cached.term;
            generation = cached.generation;
            base = cached.base;
            starts = cached.starts;
            log = cached.log;
            format = cached.format;
            prefix = λ q some low. ap (λ s. Sets.contains s q) added ∙ contains-insert me.applied.slots slot q ∙ ap (λ b. eq_by_cmp nat_cmp q slot || b) (cached.prefix q some low) ∙ or_true _;
            role = cached.role;
            jobs = jobs_left (ap is_some held);
            places = omega (arith, cached.places, spare, some_jobs (ap is_some held));
            rooms = λ q at. rooms_left q at ∙ ap Some (sym same);
            near = near_left;
            replies = cached.replies;
          };
        }

pub has_room : (op : Op) (taken held : Option ℕ) (chunk : ℕ) → MatchOption taken (held ≡ None) (λ room. held ≡ Some room) → (op ≡ Mark → held ≡ Some chunk) → HasRoomForMark op taken chunk
has_room (Write range payload) taken held chunk is room = tt
has_room Noop taken held chunk is room = tt
has_room Mark None held chunk is room = absurd (none-some chunk (sym is ∙ room refl))
has_room Mark (Some x) held chunk is room = sym is ∙ room refl

inside_of_fits : (setup : Setup) (op : Op) → OpFits setup op → OpIsInside setup.chunk op
inside_of_fits setup (Write range payload) f = (f.0, f.1, f.3)
inside_of_fits setup Noop f = tt
inside_of_fits setup Mark f = tt

pub is_inside : (me : Running) (slot : ℕ) (op : Op) → IsBounded me → FinMap.get me.in_hand slot ≡ Some op → OpIsInside (length me.sectors) op
unfolding server_of setup_of
is_inside me slot op bounded held = inside_of_fits (setup_of me) op (bounded.fits.in_hand slot op held).1

-- a job of this life, and one of another
pub finished_is : (s : Server) (life slot : ℕ) → life ≡ s.life → on_finish s life slot ≡ sends (applied_op s slot (FinMap.get s.in_hand slot)) []
unfolding on_finish
finished_is s life slot is = cond-true _ _ _ (eq-eqb life s.life is)

pub stale_is : (s : Server) (life slot : ℕ) → life ≢ s.life → on_finish s life slot ≡ only_answers s (Refused (Stale s.life))
unfolding on_finish
stale_is s life slot apart = cond-false _ _ _ (ne_eqb life s.life apart)

pub given_back_is : (s : Server) (life slot : ℕ) → life ≡ s.life → on_give_back s life slot ≡ sends (record s { in_hand = FinMap.remove s.in_hand slot }) []
unfolding on_give_back
given_back_is s life slot is = cond-true _ _ _ (eq-eqb life s.life is)

pub not_given_back_is : (s : Server) (life slot : ℕ) → life ≢ s.life → on_give_back s life slot ≡ sends s []
unfolding on_give_back
not_given_back_is s life slot apart = cond-false _ _ _ (ne_eqb life s.life apart)

module _ (d : Durable) (me : Running) (cached : IsCached d me) where
  pub turned : (new : Running) (o o2 : Outcome) (answer : Answer) → o2 ≡ o → answer ≡ o.answer → IsAfter d me new o.server → IsTurn d me new o2 answer
  turned new o o2 answer is answered after = subst (λ p. IsTurn d me new p answer) (sym is) (record { answered = answered; after = after })

  -- a slot that was not in hand
  pub not_in_hand : (slot : ℕ) → FinMap.contains_key me.in_hand slot ≡ false → IsAfter d me me (record (server_of d me) { in_hand = FinMap.remove me.in_hand slot })
  unfolding server_of
  not_in_hand slot absent = record { server_is = ap (λ m. record (server_of d me) { in_hand = m }) (remove_none me.in_hand slot absent); setup_same = refl; cached = cached }

pub none_matches : {X : Type 0} (r : Option X) (A : Type 0) (P : X → Type 0) → r ≡ None → A → MatchOption r A P
none_matches None A P is a = a
none_matches (Some x) A P is a = absurd (none-some x (sym is))

pub on_err : {X E : Type 0} (r : Result X E) (P : Type 0) → P → OnErr r P
on_err (Ok x) P p = tt
on_err (Err e) P p = p
