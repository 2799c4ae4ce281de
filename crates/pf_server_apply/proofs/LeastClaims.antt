-- The least slot that can be claimed.
use Rattle.std.proofs.Common.{◌≡◌, ℕ, zero, suc, ◌+◌, ◌<◌, ◌≤◌, ◌≢◌, inl, inr, Bool, true, false, not, ◌&&◌, length, Option, Some, None, is_some, nat_lt, nat_le, arith, refl, sym, ap, subst, ◌∙◌}
use Rattle.std.specs.List.{find, range_with_len}
use Rattle.std.specs.FinMap
use Rattle.std.specs.Cmp.{nat_cmp_total}
use Rattle.std.proofs.lemmas.Bool.{cases_Bool, cases_eq, cond-true, cond-false, false≢true}
use Rattle.std.proofs.lemmas.Bool.Decides.{nat_tests}
use Rattle.pf_entry.specs.Sets
use Rattle.pf_entry.specs.Applying.{is_applied}
use Rattle.pf_entry.specs.Records.{Durable}
use Rattle.pf_entry.specs.declared.entries.Entry.{Entry}
use Rattle.pf_entry.specs.declared.ops.Op.{Op}
use Rattle.pf_entry.specs.declared.ops.Op.TheVariants.{Mark}
use Rattle.pf_entry.proofs.Lists.{found_passes}
use Rattle.pf_entry.proofs.Maps.{get_apart, get_inserted, insert_cases}
use Rattle.pf_holes.specs.SlotSets.{SlotTable}
use Rattle.pf_holes.proofs.Found.{none_or, remove_none}
use Rattle.pf_holes.proofs.FreeTests.{is_free-alike}
use Rattle.pf_server_tables.proofs.Inserts.{remove_inserted}
use Rattle.pf_protocol.specs.Servers.{has_applied}
use Rattle.pf_protocol.specs.Leading.{op_at, op_of}
use Rattle.pf_protocol.specs.Saving.{claimable, claimed, is_claimable}
use Rattle.pf_server_memory.proofs.AppliedSlots.{is_applied_here}
use Rattle.pf_server_memory.specs.declared.running.Running.{Running}
use Rattle.pf_server_memory.specs.Standing.{state_in_memory, server_of, setup_of, IsBounded, IsCached}
use Rattle.pf_entry.proofs.MapSizes.{few_keys}
use Rattle.pf_protocol.specs.Fitting.{ServerFits}
use Rattle.pf_server_apply.specs.declared.claims.ClaimPlan.{ClaimPlan}
use Rattle.pf_server_apply.specs.Claims.{can_claim, can_claim_here, with_room, IsClaimPlan}
use Rattle.pf_server_apply.specs.Jobs.{HasRoomForMark}
use Rattle.pf_server_memory.specs.Turns.{IsAfter}

-- the first of consecutive numbers that passes
module _ (f : ℕ → Bool) where
  pub find_first : (n a k : ℕ) → a ≤ k → k < a + n → ((q : ℕ) → a ≤ q → q < k → f q ≡ false) → f k ≡ true → find f (range_with_len a n) ≡ Some k
  find_first zero a k low high before here = absurd (omega (arith, low, high))
  find_first (suc n) a k low high before here =
      elim (cases_eq a k) [
        | inl same ↦ cond-true _ _ _ (ap f same ∙ here) ∙ ap Some same
        | inr apart ↦ cond-false _ _ _ (before a (omega arith) (omega (arith, low, apart))) ∙ find_first n (a + 1) k (omega (arith, low, apart)) (omega (arith, high)) (λ q above below. before q (omega (arith, above)) below) here
      ]

  pub find_none : (n a : ℕ) → ((q : ℕ) → a ≤ q → q < a + n → f q ≡ false) → find f (range_with_len a n) ≡ None
  find_none zero a none = refl
  find_none (suc n) a none = cond-false _ _ _ (none a (omega arith) (omega arith)) ∙ find_none n (a + 1) (λ q low high. none q (omega (arith, low)) (omega (arith, high)))

pub le_of : (a b : ℕ) → nat_le a b ≡ true → a ≤ b
le_of a b is = grind (arith, nat_tests)

pub lt_of : (a b : ℕ) → nat_le a b ≡ false → b < a
lt_of a b is = grind (arith, nat_tests)

-- whether a slot is applied
pub applied_test : (d : Durable) (me : Running) (slot : ℕ) → IsCached d me → 0 < slot → has_applied (server_of d me) slot ≡ Sets.contains me.applied.slots slot
unfolding server_of
applied_test d me slot cached some =
    sym (is_applied_here me.applied.slots me.log.base slot some cached.prefix
    ∙ ap (λ base. is_applied base (Sets.retain me.applied.slots (nat_lt me.log.base)) slot) cached.base)

module _ (d : Durable) (me : Running) (cached : IsCached d me) where
  -- a slot whose entry is held
  pub held_test : (slot : ℕ) (e : Entry) → 0 < slot → e.slot ≡ slot → FinMap.get me.log.entries slot ≡ Some e → can_claim d me slot ≡ can_claim_here me e
  unfolding can_claim server_of
  held_test slot e some is held =
      ap (λ o. is_claimable (server_of d me) o slot) (ap (λ m. FinMap.get m slot) (sym cached.log) ∙ held)
      ∙ ap (is_claimable (server_of d me) (Some e)) (sym is)
      ∙ (λ i. Sets.contains me.log.committed e.slot && not (applied_test d me e.slot cached (subst (λ n. 0 < n) (sym is) some) i) && not (FinMap.contains_key me.in_hand e.slot)
      && is_free-alike (has_applied (server_of d me)) (Sets.contains me.applied.slots) e (λ p low. applied_test d me p cached low) i)

  -- one whose entry is not
  pub not_held : (slot : ℕ) → FinMap.get me.log.entries slot ≡ None → can_claim d me slot ≡ false
  unfolding can_claim server_of
  not_held slot absent = ap (λ o. is_claimable (server_of d me) o slot) (ap (λ m. FinMap.get m slot) (sym cached.log) ∙ absent)

  no_claim : (a c f x : Bool) → x ≡ true → (a && not x && not c && f) ≡ false
  no_claim true c f true is = refl
  no_claim false c f true is = refl
  no_claim a c f false is = absurd (false≢true is)

  by_entry : (slot : ℕ) (o : Option Entry) → has_applied (server_of d me) slot ≡ true → is_claimable (server_of d me) o slot ≡ false
  by_entry slot None is = refl
  by_entry slot (Some e) is = no_claim _ _ _ _ is

  -- one that is applied
  pub not_again : (slot : ℕ) → 0 < slot → Sets.contains me.applied.slots slot ≡ true → can_claim d me slot ≡ false
  unfolding can_claim
  not_again slot some is = by_entry slot (FinMap.get d.log slot) (applied_test d me slot cached some ∙ is)

  none_of : (o : Option Entry) → is_some o ≡ false → o ≡ None
  none_of None is = refl
  none_of (Some e) is = absurd (false≢true (sym is))

  pub not_there : (slot : ℕ) → FinMap.contains_key me.log.entries slot ≡ false → can_claim d me slot ≡ false
  not_there slot absent = not_held slot (none_of _ absent)

  pub op_held : (slot : ℕ) (e : Entry) → FinMap.get me.log.entries slot ≡ Some e → op_at d.log slot ≡ e.op
  unfolding op_at
  op_held slot e held = ap op_of (ap (λ m. FinMap.get m slot) (sym cached.log) ∙ held)

  -- the least
  pub least_is : (slot : ℕ) → me.log.base < slot → slot ≤ me.log.base + 4096 → ((q : ℕ) → me.log.base < q → q < slot → can_claim d me q ≡ false) → can_claim d me slot ≡ true
      → claimable 4096 (server_of d me) ≡ Some slot
  unfolding claimable can_claim server_of
  least_is slot low high before here =
      find_first (λ q. is_claimable (server_of d me) (FinMap.get d.log q) q) 4096 (suc d.base) slot (omega (arith, low, cached.base)) (omega (arith, high, cached.base)) (λ q above below. before q (omega (arith, above, cached.base)) below) here

  pub none_is : ((q : ℕ) → me.log.base < q → can_claim d me q ≡ false) → claimable 4096 (server_of d me) ≡ None
  unfolding claimable can_claim server_of
  none_is none = find_none (λ q. is_claimable (server_of d me) (FinMap.get d.log q) q) 4096 (suc d.base) (λ q above below. none q (omega (arith, above, cached.base)))

  not_in_hand_if : (slot : ℕ) (o : Option Entry) → is_claimable (server_of d me) o slot ≡ true → FinMap.contains_key me.in_hand slot ≡ false
  unfolding server_of
  not_in_hand_if slot None is = absurd (false≢true is)
  not_in_hand_if slot (Some e) is = third _ _ _ _ is
    where
      third : (a b c f : Bool) → (a && not b && not c && f) ≡ true → c ≡ false
      third a b false f is = refl
      third true true true f is = absurd (false≢true is)
      third true false true f is = absurd (false≢true is)
      third false b true f is = absurd (false≢true is)

  pub claim_not_in_hand : (slot : ℕ) → claimable 4096 (server_of d me) ≡ Some slot → FinMap.contains_key me.in_hand slot ≡ false
  unfolding claimable
  claim_not_in_hand slot is = not_in_hand_if slot (FinMap.get (server_of d me).durable.log slot)
      (found_passes (λ q. is_claimable (server_of d me) (FinMap.get (server_of d me).durable.log q) q) (range_with_len (suc (server_of d me).durable.base) 4096) slot is)

  pub none_after : (after : ℕ) → ((q : ℕ) → after < q → FinMap.contains_key me.log.entries q ≡ false) → ((q : ℕ) → me.log.base < q → q ≤ after → can_claim d me q ≡ false) → (q : ℕ) → me.log.base < q → can_claim d me q ≡ false
  none_after after absent none q low = by (nat_le q after) refl
    where
      by : (x : Bool) → nat_le q after ≡ x → can_claim d me q ≡ false
      by true is = none q low (le_of q after is)
      by false is = not_there q (absent q (lt_of q after is))

  module _ (slot : ℕ) (kept : Op) (room : Option ℕ) (is : claimable 4096 (server_of d me) ≡ Some slot) (has : HasRoomForMark kept room (length me.sectors)) where
    room_of_mark : (o : Option ℕ) (q : ℕ) → q ≡ slot → HasRoomForMark Mark o (length me.sectors) → FinMap.get (with_room me.rooms slot o) q ≡ Some (length me.sectors)
    room_of_mark o q same r = ap (λ p. FinMap.get (with_room me.rooms slot p) q) r ∙ ap (FinMap.get (FinMap.insert me.rooms slot (length me.sectors))) same ∙ get_inserted me.rooms slot (length me.sectors)

    room_apart : (o : Option ℕ) (q : ℕ) → q ≢ slot → FinMap.get (with_room me.rooms slot o) q ≡ FinMap.get me.rooms q
    room_apart None q apart = refl
    room_apart (Some x) q apart = get_apart me.rooms slot x q apart

    rooms_then : (q : ℕ) → FinMap.get (FinMap.insert me.in_hand slot kept) q ≡ Some Mark → FinMap.get (with_room me.rooms slot room) q ≡ Some (length me.sectors)
    rooms_then q at =
        elim (insert_cases me.in_hand slot kept q Mark at) [
          | inl same ↦ room_of_mark room q same.0 (subst (λ o. HasRoomForMark o room (length me.sectors)) same.1 has)
          | inr apart ↦ room_apart room q apart.0 ∙ cached.rooms q apart.1
        ]

    near_then : (q : ℕ) → FinMap.contains_key (with_room me.rooms slot room) q ≡ true → FinMap.contains_key (FinMap.insert me.in_hand slot kept) q ≡ true
    near_then q at =
        elim (cases_eq q slot) [
          | inl same ↦ ap (FinMap.contains_key (FinMap.insert me.in_hand slot kept)) same ∙ ap is_some (get_inserted me.in_hand slot kept)
          | inr apart ↦ ap is_some (get_apart me.in_hand slot kept q apart) ∙ cached.near q (ap is_some (sym (room_apart room q apart)) ∙ at)
        ]

    no_room : FinMap.contains_key me.rooms slot ≡ false
    no_room = elim (cases_Bool (FinMap.contains_key me.rooms slot)) [
      | inl has ↦ absurd (false≢true (sym (claim_not_in_hand slot is) ∙ cached.near slot has))
      | inr none ↦ none
    ]

    -- the room of a job that is not taken in hand after all
    pub undone : (o : Option ℕ) → FinMap.remove (with_room me.rooms slot o) slot ≡ me.rooms
    undone None = sym (remove_none me.rooms slot no_room)
    undone (Some x) = remove_inserted me.rooms slot x (none_or (FinMap.get me.rooms slot) (λ has. false≢true (sym no_room ∙ has)))

    pub claimed_after : (new : Running) → kept ≡ op_at d.log slot → me.jobs + 1 ≤ me.applied.spare
        → new ≡ record me { in_hand = FinMap.insert me.in_hand slot kept; rooms = with_room me.rooms slot room; jobs = me.jobs + 1 } → IsAfter d me new (claimed (server_of d me) slot)
    unfolding claimed server_of setup_of
    claimed_after new kept_is spare new_is = subst (λ m. IsAfter d me m (claimed (server_of d me) slot)) (sym new_is) (record {
      server_is = ap (λ op. record (server_of d me) { in_hand = FinMap.insert me.in_hand slot op }) kept_is;
      setup_same = refl;
      cached = record {
        number = cached.number;
        term = cached.term;
        generation = cached.generation;
        base = cached.base;
        starts = cached.starts;
        log = cached.log;
        format = cached.format;
        prefix = cached.prefix;
        role = cached.role;
        jobs = ap (λ n. n + 1) cached.jobs ∙ sym (FinMap.len-insert nat_cmp_total me.in_hand slot kept ∙ cond-false _ _ _ (claim_not_in_hand slot is));
        places = spare;
        rooms = rooms_then;
        near = near_then;
        replies = cached.replies;
      };
    })

module _ (me : Running) (bounded : IsBounded me) where
  pub few_in_hand : FinMap.len me.in_hand ≤ 4096
  unfolding server_of setup_of
  few_in_hand = few_keys 4096 me.log.base me.in_hand (λ q op at. let f = (bounded.fits.in_hand q op at).0 in (f.0, f.1))

-- more room for applied slots
module _ (me : Running) (applied : SlotTable) (same : applied.slots ≡ me.applied.slots) where
  pub roomy_server : (d : Durable) → server_of d (record me { applied = applied }) ≡ server_of d me
  unfolding server_of
  roomy_server d = ap (λ slots. record (server_of d me) { applied = Sets.retain slots (nat_lt me.log.base) }) same

  pub roomy_cached : (d : Durable) → me.applied.spare ≤ applied.spare → IsCached d me → IsCached d (record me { applied = applied })
  roomy_cached d kept cached = record {
    number = cached.number;
    term = cached.term;
    generation = cached.generation;
    base = cached.base;
    starts = cached.starts;
    log = cached.log;
    format = cached.format;
    prefix = λ slot some low. ap (λ slots. Sets.contains slots slot) same ∙ cached.prefix slot some low;
    role = cached.role;
    jobs = cached.jobs;
    places = omega (arith, cached.places, kept);
    rooms = cached.rooms;
    near = cached.near;
    replies = cached.replies;
  }

  pub roomy_bounded : IsBounded me → IsBounded (record me { applied = applied })
  unfolding setup_of
  roomy_bounded bounded = record {
    setup = bounded.setup;
    n = bounded.n;
    t = bounded.t;
    low = bounded.low;
    t_low = bounded.t_low;
    fits = subst (ServerFits (setup_of me) bounded.n bounded.t) (sym (roomy_server (state_in_memory me))) bounded.fits;
    few = bounded.few;
  }

  pub roomy_after : (d : Durable) → me.applied.spare ≤ applied.spare → IsCached d me → IsAfter d me (record me { applied = applied }) (server_of d me)
  unfolding setup_of
  roomy_after d kept cached = record { server_is = roomy_server d; setup_same = refl; cached = roomy_cached d kept cached }

  pub roomy_plan : (d : Durable) (plan : ClaimPlan) → IsClaimPlan d me plan → IsClaimPlan d (record me { applied = applied }) plan
  roomy_plan d plan p = record { least = ap (claimable 4096) (roomy_server d) ∙ p.least; job_is = p.job_is; kept = p.kept; room = p.room }

  pub roomy_claim : (d : Durable) (new : Running) (slot : ℕ) → IsAfter d (record me { applied = applied }) new (claimed (server_of d (record me { applied = applied })) slot) → IsAfter d me new (claimed (server_of d me) slot)
  unfolding setup_of
  roomy_claim d new slot x = record { server_is = x.server_is ∙ ap (λ s. claimed s slot) (roomy_server d); setup_same = x.setup_same; cached = x.cached }
