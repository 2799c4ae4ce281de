-- Reads that are taken up.
use Rattle.std.proofs.Common.{◌≡◌, ◌≢◌, ℕ, zero, suc, ◌+◌, ◌<◌, ◌≤◌, Bool, true, false, not, ◌&&◌, ◌||◌, inl, inr, List, [], ◌∷◌, ◌++◌, length, map, Some, None, nat_lt, nat_le, arith, refl, sym, ap, ◌∙◌, Equal}
use Rattle.std.specs.List.{filter, list_any, range_with_len}
use Rattle.std.specs.Ordering.{nat_cmp, eq_by_cmp}
use Rattle.std.specs.FinMap
use Rattle.std.proofs.lemmas.Bool.{and_from, cases_Bool, cases_eq, cond-true, cond-false}
use Rattle.std.proofs.lemmas.Bool.Decides.{nat_tests}
use Rattle.std.proofs.lemmas.List.Elements.{filter-append}
use Rattle.pf_base.specs.Span.{Span, fits_in, overlaps}
use Rattle.pf_entry.specs.Maps.{Numbers}
use Rattle.pf_entry.specs.Ops.{range_of}
use Rattle.pf_entry.specs.Sets
use Rattle.pf_entry.specs.Records.{Durable}
use Rattle.pf_entry.specs.Tables.{ascends, ascends_from}
use Rattle.pf_entry.specs.declared.entries.Entry.{Entry}
use Rattle.pf_entry.specs.declared.packets.Body.TheVariants.{Probe}
use Rattle.pf_entry.proofs.MapLists.{items_are}
use Rattle.pf_entry.proofs.Sets.{contains-items, contains-retain, same_set}
use Rattle.pf_holes.proofs.SlotOrder.{range_more}
use Rattle.pf_holes.specs.Windows.{SlotsAreWithin}
use Rattle.pf_election.proofs.ConfirmedCounts.{counted_more}
use Rattle.pf_election.specs.declared.probes.ProbedRead.{ProbedRead as ReadHere}
use Rattle.pf_protocol.specs.Answers.{is_serving, refuse}
use Rattle.pf_protocol.specs.Leading.{on_fetch, op_at, op_of}
use Rattle.pf_protocol.specs.Outcomes.{Outcome}
use Rattle.pf_protocol.specs.Servers.{has_applied}
use Rattle.pf_protocol.specs.declared.answers.Answer.TheVariants.{Read as ReadIs}
use Rattle.pf_protocol.specs.declared.answers.Refusal.TheVariants.{BadRange, NotLeader}
use Rattle.pf_server_memory.specs.Bounds.{far}
use Rattle.pf_server_memory.specs.declared.running.Role.{Role}
use Rattle.pf_server_memory.specs.declared.running.Role.TheVariants.{Follower, Candidate, Merging, Serving}
use Rattle.pf_server_memory.specs.declared.running.Running.{Running}
use Rattle.pf_server_memory.specs.Outgoing.{Outgoing}
use Rattle.pf_server_memory.specs.Packets.{AreCanonical, packets_to}
use Rattle.pf_server_memory.specs.Standing.{read_in_memory, role_in_memory, server_of, setup_of, room_refusal, IsBounded, IsCached}
use Rattle.pf_server_apply.specs.Fetching.{fetch_refusal, is_waited_for, waits_for}
use Rattle.pf_server_apply.specs.Probing.{is_serving_here}
use Rattle.pf_server_memory.specs.Turns.{IsAfter}
use Rattle.pf_server_apply.proofs.AnsweredReads.{is_lower, rest_ascends}
use Rattle.pf_server_apply.proofs.LeastClaims.{applied_test, le_of, lt_of}

pub op_there : (me : Running) (slot : ℕ) (e : Entry) → FinMap.get me.log.entries slot ≡ Some e → op_at me.log.entries slot ≡ e.op
unfolding op_at
op_there me slot e held = ap op_of held

pub no_overlap : (me : Running) (slot : ℕ) (range : Span) → FinMap.get me.log.entries slot ≡ None → overlaps (range_of (op_at me.log.entries slot)) range ≡ false
unfolding op_at range_of
no_overlap me slot range absent = ap (λ o. overlaps (range_of (op_of o)) range) absent

module _ (test : ℕ → Bool) where
  pub one_passes : (base n : ℕ) → test (base + n + 1) ≡ true → filter test (range_with_len (base + 1) n) ++ (base + n + 1) ∷ [] ≡ filter test (range_with_len (base + 1) (n + 1))
  one_passes base n is =
      ap (λ xs. filter test (range_with_len (base + 1) n) ++ xs) (sym (cond-true (test (base + n + 1)) ((base + n + 1) ∷ []) [] is))
      ∙ sym (filter-append test (range_with_len (base + 1) n) ((base + n + 1) ∷ [])) ∙ ap (filter test) (range_more base n)

  none_more : (xs : List ℕ) → xs ≡ xs ++ []
  none_more [] = refl
  none_more (x ∷ xs) = ap (λ ys. x ∷ ys) (none_more xs)

  pub one_fails : (base n : ℕ) → test (base + n + 1) ≡ false → filter test (range_with_len (base + 1) n) ≡ filter test (range_with_len (base + 1) (n + 1))
  one_fails base n is =
      none_more (filter test (range_with_len (base + 1) n))
      ∙ ap (λ xs. filter test (range_with_len (base + 1) n) ++ xs) (sym (cond-false (test (base + n + 1)) ((base + n + 1) ∷ []) [] is))
      ∙ sym (filter-append test (range_with_len (base + 1) n) ((base + n + 1) ∷ [])) ∙ ap (filter test) (range_more base n)

  filtered_from : (n a low : ℕ) → low < a → ascends_from low (filter test (range_with_len a n)) ≡ true
  filtered_from zero a low lt = refl
  filtered_from (suc n) a low lt =
      elim (cases_Bool (test a)) [
        | inl is ↦ ap (ascends_from low) (cond-true (test a) (a ∷ filter test (range_with_len (a + 1) n)) (filter test (range_with_len (a + 1) n)) is) ∙ and_from _ _ (is_lower low a lt) (filtered_from n (a + 1) a (omega arith))
        | inr not ↦ ap (ascends_from low) (cond-false (test a) (a ∷ filter test (range_with_len (a + 1) n)) (filter test (range_with_len (a + 1) n)) not) ∙ filtered_from n (a + 1) low (omega (arith, lt))
      ]

  pub filtered_ascends : (base n : ℕ) → ascends (filter test (range_with_len (base + 1) n)) ≡ true
  filtered_ascends base n = rest_ascends base _ (filtered_from n (base + 1) base (omega arith))

  out_of_none : (q a : ℕ) (b : Bool) → false ≡ (b && (nat_le a q && nat_lt q (a + 0)))
  out_of_none q a b = grind (arith, nat_tests)

  is_first : (q a n : ℕ) (b : Bool) → q ≡ a → b ≡ true → (eq_by_cmp nat_cmp q a || (b && (nat_le (a + 1) q && nat_lt q (a + 1 + n)))) ≡ (b && (nat_le a q && nat_lt q (a + suc n)))
  is_first q a n b same is = grind (arith, nat_tests)

  is_later : (q a n : ℕ) (b : Bool) → q ≢ a → (eq_by_cmp nat_cmp q a || (b && (nat_le (a + 1) q && nat_lt q (a + 1 + n)))) ≡ (b && (nat_le a q && nat_lt q (a + suc n)))
  is_later q a n b apart = grind (arith, nat_tests)

  is_skipped : (q a n : ℕ) (b : Bool) → q ≡ a → b ≡ false → (b && (nat_le (a + 1) q && nat_lt q (a + 1 + n))) ≡ (b && (nat_le a q && nat_lt q (a + suc n)))
  is_skipped q a n b same is = grind (arith, nat_tests)

  is_beyond : (q a n : ℕ) (b : Bool) → q ≢ a → (b && (nat_le (a + 1) q && nat_lt q (a + 1 + n))) ≡ (b && (nat_le a q && nat_lt q (a + suc n)))
  is_beyond q a n b apart = grind (arith, nat_tests)

  pub in_filtered : (n a q : ℕ) → list_any (eq_by_cmp nat_cmp q) (filter test (range_with_len a n)) ≡ (test q && (nat_le a q && nat_lt q (a + n)))
  in_filtered zero a q = out_of_none q a (test q)
  in_filtered (suc n) a q =
      elim (cases_Bool (test a)) [
        | inl is ↦
            ap (list_any (eq_by_cmp nat_cmp q)) (cond-true (test a) (a ∷ filter test (range_with_len (a + 1) n)) (filter test (range_with_len (a + 1) n)) is)
            ∙ ap (λ b. eq_by_cmp nat_cmp q a || b) (in_filtered n (a + 1) q)
            ∙ elim (cases_eq q a) [ inl same ↦ is_first q a n (test q) same (ap test same ∙ is) | inr apart ↦ is_later q a n (test q) apart ]
        | inr fails ↦
            ap (list_any (eq_by_cmp nat_cmp q)) (cond-false (test a) (a ∷ filter test (range_with_len (a + 1) n)) (filter test (range_with_len (a + 1) n)) fails)
            ∙ in_filtered n (a + 1) q
            ∙ elim (cases_eq q a) [ inl same ↦ is_skipped q a n (test q) same (ap test same ∙ fails) | inr apart ↦ is_beyond q a n (test q) apart ]
      ]

tied : (x q : ℕ) → nat_cmp q x ≡ Equal → Equal ≡ nat_cmp x q
tied x q t = grind (arith, nat_tests)

in_window : (from n q : ℕ) (b : Bool) → from < q → q ≤ from + n → (b && (nat_le (from + 1) q && nat_lt q (from + 1 + n))) ≡ b
in_window from n q true low high = grind (arith, nat_tests)
in_window from n q false low high = refl

-- the slots that a read waits for, of those above a slot up to which all are applied, as far as one is held
module _ (d : Durable) (me : Running) (cached : IsCached d me) (range : Span) (within : SlotsAreWithin me.log.base me.log.entries) (held : (q : ℕ) → Sets.contains me.log.committed q ≡ true → FinMap.contains_key me.log.entries q ≡ true) (from n : ℕ) (reached : (q : ℕ) → me.log.base < q → q ≤ from → Sets.contains me.applied.slots q ≡ true) (last : (q : ℕ) → FinMap.contains_key me.log.entries q ≡ true → q ≤ from + n) where
  abbrev here : ℕ → Bool
  here slot = Sets.contains me.log.committed slot && is_waited_for me range slot

  abbrev there : ℕ → Bool
  there slot = not (has_applied (server_of d me) slot) && overlaps (range_of (op_at d.log slot)) range

  abbrev is_looked_at : ℕ → Bool
  is_looked_at q = nat_le (from + 1) q && nat_lt q (from + 1 + n)

  alike : (q : ℕ) → me.log.base < q → here q ≡ (Sets.contains me.log.committed q && there q)
  alike q low = λ i. Sets.contains me.log.committed q && (not (sym (applied_test d me q cached (omega (arith, low))) i) && overlaps (range_of (op_at (cached.log i) q)) range)

  not_here : (q : ℕ) → Sets.contains me.log.committed q ≡ true → Sets.contains me.applied.slots q ≡ true → here q ≡ false
  not_here q is done = λ i. is i && (not (done i) && overlaps (range_of (op_at me.log.entries q)) range)

  one_slot : (q : ℕ) (x : Bool) → Sets.contains me.log.committed q ≡ x → (here q && is_looked_at q) ≡ (Sets.contains me.log.committed q && there q)
  one_slot q true is =
      let low = (within q (held q is)).0 in
      let high = last q (held q is) in
      elim (cases_Bool (nat_le q from)) [
        | inl below ↦
            let none = not_here q is (reached q low (le_of q from below)) in
            ap (λ b. b && is_looked_at q) none ∙ sym none ∙ alike q low
        | inr above ↦ in_window from n q (here q) (lt_of q from above) high ∙ alike q low
      ]
  one_slot q false is =
      ap (λ b. (b && is_waited_for me range q) && is_looked_at q) is ∙ ap (λ b. b && there q) (sym is)

  pub waits_is : (slots : List ℕ) → slots ≡ filter here (range_with_len (from + 1) n) → Sets.from_items slots ≡ waits_for (server_of d me) range
  unfolding server_of
  waits_is slots is = ap Sets.from_items is ∙ same_set _ _ (λ q.
      contains-items (Sets.from_items (filter here (range_with_len (from + 1) n))) q
      ∙ ap (list_any (eq_by_cmp nat_cmp q)) (items_are (filter here (range_with_len (from + 1) n)) (filtered_ascends here from n))
      ∙ in_filtered here n (from + 1) q
      ∙ one_slot q (Sets.contains me.log.committed q) refl
      ∙ sym (contains-retain me.log.committed there q (λ x t. ap there (FinMap.nat_cmp-IsAntisymmetric x q (sym (tied x q t))))))

-- bounds
module _ (me : Running) (bounded : IsBounded me) where
  pub base_low : me.log.base < far
  unfolding setup_of server_of
  base_low = omega (arith, bounded.low, bounded.fits.durable.vote.base)

  pub chunk_low : length me.sectors ≤ 4096
  unfolding setup_of
  chunk_low = bounded.setup.few_sectors

  pub probes_canonical : me.number < 3 → (number : ℕ) → AreCanonical me.number me.term (Probe number)
  unfolding setup_of server_of
  probes_canonical low number i below apart = record { from = low; to = below; apart = λ same. apart (sym same); term = bounded.fits.durable.term; message = tt }

-- which refusal comes first
module _ (d : Durable) (me : Running) (out : Outgoing) (range : Span) (number : ℕ) where
  pub bad_range : fits_in range (length me.sectors) ≡ false → fetch_refusal (setup_of me) out range number (server_of d me) ≡ Some BadRange
  unfolding fetch_refusal setup_of
  bad_range is = ap (λ b. refuse (not b) BadRange (refuse (not (is_serving (server_of d me).role)) NotLeader (room_refusal out (on_fetch (server_of d me) range number (server_of d me).role)))) is

  serving_is : (role : Role) → is_serving (role_in_memory role) ≡ is_serving_here role
  serving_is Follower = refl
  serving_is (Candidate c) = refl
  serving_is (Merging l) = refl
  serving_is (Serving l) = refl

  not_serving_is : (b : Bool) → is_serving_here me.role ≡ b → is_serving (server_of d me).role ≡ b
  unfolding server_of
  not_serving_is b is = serving_is me.role ∙ is

  by_leader : (b : Bool) → fits_in range (length me.sectors) ≡ true → is_serving_here me.role ≡ b
      → fetch_refusal (setup_of me) out range number (server_of d me) ≡ refuse (not b) NotLeader (room_refusal out (on_fetch (server_of d me) range number (server_of d me).role))
  unfolding fetch_refusal setup_of
  by_leader b fits is =
      ap (λ f. refuse (not f) BadRange (refuse (not (is_serving (server_of d me).role)) NotLeader (room_refusal out (on_fetch (server_of d me) range number (server_of d me).role)))) fits
      ∙ ap (λ f. refuse (not f) NotLeader (room_refusal out (on_fetch (server_of d me) range number (server_of d me).role))) (not_serving_is b is)

  pub no_leader : fits_in range (length me.sectors) ≡ true → is_serving_here me.role ≡ false → fetch_refusal (setup_of me) out range number (server_of d me) ≡ Some NotLeader
  no_leader fits is = by_leader false fits is

  pub leader : fits_in range (length me.sectors) ≡ true → is_serving_here me.role ≡ true
      → fetch_refusal (setup_of me) out range number (server_of d me) ≡ room_refusal out (on_fetch (server_of d me) range number (server_of d me).role)
  leader fits is = by_leader true fits is

-- a serving leader takes it up
module _ (d : Durable) (me : Running) (cached : IsCached d me) (range : Span) (number : ℕ) (named : Numbers) where
  abbrev pub asked : ReadHere
  asked = record { number = number; range = range; named = named; confirmed = false }

  abbrev pub with_read : Running
  with_read = record me { reads = me.reads ++ asked ∷ [] }

  abbrev pub fetched : Outcome
  fetched = record { server = server_of d with_read; packets = packets_to me.number me.term (Probe number); answer = ReadIs number; acked = None }

  reads_then : (xs : List ReadHere) (x : ReadHere) → map read_in_memory (xs ++ x ∷ []) ≡ map read_in_memory xs ++ read_in_memory x ∷ []
  reads_then [] x = refl
  reads_then (y ∷ ys) x = ap (λ zs. read_in_memory y ∷ zs) (reads_then ys x)

  by_leader_of : (role : Role) → is_serving_here role ≡ true → named ≡ waits_for (server_of d me) range → on_fetch (server_of d me) range number (role_in_memory role) ≡ fetched
  unfolding on_fetch server_of
  by_leader_of Follower is waits = absurd (grind arith)
  by_leader_of (Candidate c) is waits = absurd (grind arith)
  by_leader_of (Merging l) is waits = absurd (grind arith)
  by_leader_of (Serving l) is waits = λ i. record {
    server = record (server_of d me) { reads = ((ap (λ (w : Numbers). map read_in_memory me.reads ++ (record { number = number; range = range; waits_for = w; confirmed = false }) ∷ []) (sym waits)) ∙ sym (reads_then me.reads asked)) i };
    packets = packets_to me.number (sym cached.term i) (Probe number);
    answer = ReadIs number;
    acked = None;
  }

  pub fetch_is : is_serving_here me.role ≡ true → named ≡ waits_for (server_of d me) range → on_fetch (server_of d me) range number (server_of d me).role ≡ fetched
  unfolding server_of
  fetch_is is waits = by_leader_of me.role is waits

  pub after_read : IsAfter d me with_read (server_of d with_read)
  unfolding server_of setup_of
  after_read = record {
    server_is = refl;
    setup_same = refl;
    cached = record {
      number = cached.number;
      term = cached.term;
      generation = cached.generation;
      base = cached.base;
      starts = cached.starts;
      log = cached.log;
      format = cached.format;
      prefix = cached.prefix;
      role = cached.role;
      jobs = cached.jobs;
      places = cached.places;
      rooms = cached.rooms;
      near = cached.near;
      replies = omega (arith, cached.replies, counted_more me.reads asked refl);
    };
  }

pub durable_of : (d : Durable) (me : Running) → (server_of d me).durable ≡ d
unfolding server_of
durable_of d me = refl
