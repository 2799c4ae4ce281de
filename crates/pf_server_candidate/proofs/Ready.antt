-- What a bounded candidate merges may be sent, stored, and put into its log.
use Rattle.std.proofs.Common.{◌≡◌, inl, inr, ℕ, suc, ◌+◌, ◌-◌, ◌<◌, ◌≤◌, ◌^◌, true, length, max, Option, Some, None, is_some, arith, refl, sym, subst}
use Rattle.std.proofs.lemmas.Bool.{cases_lt}
use Rattle.std.proofs.lemmas.List.FromFn.{length-map-range_with_len}
use Rattle.std.specs.List.{range_with_len}
use Rattle.std.specs.FinMap
use Rattle.pf_entry.specs.Lists.{Every}
use Rattle.pf_entry.proofs.Lists.{every_map, every_range}
use Rattle.pf_entry.specs.Merging.{merged_first, merged_entry, merged_entries}
use Rattle.pf_entry.proofs.MergedEntries.{base_below_first}
use Rattle.pf_entry.specs.Records.{Durable, stored}
use Rattle.pf_entry.specs.declared.entries.Entry.{Entry}
use Rattle.pf_entry.specs.declared.entries.VoteLog.{VoteLog}
use Rattle.pf_entry.specs.declared.packets.Body.TheVariants.{Accept, Vote}
use Rattle.pf_entry.specs.declared.records.Record.{Record}
use Rattle.pf_entry.specs.declared.records.Record.TheVariants.{Merged as MergedRecord}
use Rattle.pf_merge.specs.Staying.{AreNumbered}
use Rattle.pf_codec.specs.Spelling.{body_bytes}
use Rattle.pf_server_store.specs.Stores.{IsSpelledAs}
use Rattle.pf_protocol.specs.Servers.{Setup}
use Rattle.pf_protocol.specs.Leading.{merged}
use Rattle.pf_protocol.specs.Rows.{on_message}
use Rattle.pf_protocol.specs.Fitting.{EntryFits, EntryStandsIn, VoteFits, RoleFits, ServerFits}
use Rattle.pf_protocol.proofs.ForRows.{Fits, message_fits, server_more, vote_more}
use Rattle.pf_entry.proofs.Ranges.{range_has}
use Rattle.pf_server_memory.specs.Bounds.{far}
use Rattle.pf_server_memory.specs.declared.running.Running.{Running}
use Rattle.pf_server_memory.specs.Coming.{IsComing}
use Rattle.pf_server_memory.specs.Packets.{AreCanonical, packet}
use Rattle.pf_server_memory.specs.Standing.{server_of, setup_of, state_in_memory, role_in_memory, IsBounded, IsCached}
use Rattle.pf_server_memory.proofs.Canonicals.{IsFormat, merged_spelled, packet_is}
use Rattle.pf_server_memory.proofs.Steps.{bare_cached}
use Rattle.pf_server_candidate.specs.declared.merges.Takeover.{Takeover}
use Rattle.pf_server_candidate.specs.Merging.{Elects, EntryIsPlaced, TakeoverIsReady, IsTakeover, won, merge_of}
use Rattle.pf_server_candidate.proofs.VoteRules.{wins}

some_of : (o : Option Entry) → is_some o ≡ true → (e : Entry) × (o ≡ Some e)
some_of None is = absurd (grind arith)
some_of (Some e) is = (e, refl)

numbered : (setup : Setup) (n t : ℕ) (v : VoteLog) → n < far → VoteFits setup n t v → AreNumbered v.log
numbered setup n t v low f slot has =
    let found = some_of (FinMap.get v.log slot) has in
    let x = f.log slot found.0 found.1 in
    omega (arith, x.fits.slot_low, x.in_slot, low)

module _ (me : Running) (b : IsBounded me) where
  under_half : me.log.base < far
  unfolding server_of
  under_half = omega (arith, b.fits.durable.vote.base, b.low)

  pub low_base : me.log.base < 2 ^ 64 - 1
  low_base = omega (arith, under_half)

  own_fits : (term : ℕ) (vote own : VoteLog) → Elects me term vote own → VoteFits (setup_of me) b.n b.t own
  unfolding server_of
  own_fits term vote own e = let f : RoleFits (setup_of me) b.n b.t me.log.base (role_in_memory me.role) = b.fits.role in (subst (RoleFits (setup_of me) b.n b.t me.log.base) e.stood f).0

  pub own_numbered : (term : ℕ) (vote own : VoteLog) → Elects me term vote own → AreNumbered own.log
  own_numbered term vote own e = numbered (setup_of me) b.n b.t own b.low (own_fits term vote own e)

  pub vote_numbered : (from term : ℕ) (vote : VoteLog) → IsComing me from term (Vote vote) → AreNumbered vote.log
  vote_numbered from term vote c = numbered (setup_of me) c.n c.t vote c.low c.fits.body

module _ (d : Durable) (me : Running) (cached : IsCached d me) (b : IsBounded me) (from term : ℕ) (vote own : VoteLog) (c : IsComing me from term (Vote vote)) (e : Elects me term vote own) where
  n : ℕ
  n = max b.n c.n

  t : ℕ
  t = max b.t c.t

  base : ℕ
  base = me.log.base

  first : ℕ
  first = merged_first me.log.base own vote

  f : ℕ → Entry
  f = merged_entry me.term me.log.base own vote

  is_vote : won (server_of (state_in_memory me) me) own vote ≡ on_message (setup_of me) (server_of (state_in_memory me) me) from term (Vote vote)
  unfolding on_message
  is_vote = wins (state_in_memory me) me (bare_cached d me cached) term vote own e

  whole_fits : Fits (setup_of me) (suc n) t (won (server_of (state_in_memory me) me) own vote)
  unfolding n t server_of
  whole_fits =
      let s = server_of (state_in_memory me) me in
      let here : ServerFits (setup_of me) (max b.n c.n) (max b.t c.t) s = server_more (setup_of me) b.n (max b.n c.n) b.t (max b.t c.t) (omega arith) (omega arith) s b.fits in
      subst (Fits (setup_of me) (suc (max b.n c.n)) (max b.t c.t)) (sym is_vote)
      (message_fits (setup_of me) (max b.n c.n) (max b.t c.t) s here from term (Vote vote) c.fits.from (λ same. c.fits.apart (sym same)) c.fits.term (omega (arith, c.fits.term_low))
      (vote_more (setup_of me) c.n (max b.n c.n) c.t (max b.t c.t) (omega arith) (omega arith) vote c.fits.body))

  in_slot : (slot : ℕ) → (f slot).slot ≡ slot
  unfolding f merged_entry
  in_slot slot = refl

  in_term : (slot : ℕ) → (f slot).term ≡ me.term
  unfolding f merged_entry
  in_term slot = refl

  stands : (slot : ℕ) → suc base ≤ slot → slot < first → EntryStandsIn (setup_of me) (suc n) t base slot (f slot)
  unfolding merged merged_entries stored server_of f first base
  stands slot low high = whole_fits.server.durable.vote.log slot (f slot) (range_has f in_slot (first - suc base) (suc base) me.log.entries slot low (omega (arith, low, high)))

  within : first ≤ suc (base + 4096)
  unfolding setup_of
  within = elim (cases_lt (suc base) first) [
    | inl some ↦ let x = stands (first - 1) (omega (arith, some)) (omega (arith, some)) in omega (arith, x.within, some)
    | inr none ↦ omega (arith, none)
  ]

  pub low_first : merged_first me.log.base own vote < 2 ^ 64
  unfolding first base
  low_first = omega (arith, within, under_half me b)

  each : (P : Entry → Type 0) → ((slot : ℕ) → suc base ≤ slot → slot < first → P (f slot)) → Every P (merged_entries me.term me.log.base own vote)
  unfolding merged_entries f first base
  each P holds = every_map P f (range_with_len (suc base) (first - suc base)) (every_range (λ slot. P (f slot)) (first - suc base) (suc base) (λ slot low high. holds slot low (omega (arith, low, high))))

  own_term : (1 ≤ me.term) × (me.term ≤ t)
  unfolding server_of t
  own_term = (b.fits.durable.term, omega (arith, b.fits.durable.term_low))

  module _ (x : Takeover) (took : IsTakeover me own vote x) where
    ready_packets : me.number < 3 → Every (λ k. AreCanonical me.number me.term (Accept k)) x.entries.items
    ready_packets number = subst (Every (λ k. AreCanonical me.number me.term (Accept k))) (sym took.entries) (each (λ k. AreCanonical me.number me.term (Accept k)) (λ slot low high. λ i below apart.
        packet_is (setup_of me) b.setup (suc n) t (packet me.number i me.term (Accept (f slot))) tt (record {
          from = number;
          to = below;
          apart = λ same. apart (sym same);
          term = own_term.0;
          term_low = own_term.1;
          body = ((stands slot low high).fits, in_term slot);
        })))

    ready_places : Every (EntryIsPlaced me.log.base) x.entries.items
    unfolding setup_of base
    ready_places = subst (Every (EntryIsPlaced me.log.base)) (sym took.entries) (each (EntryIsPlaced me.log.base) (λ slot low high. let s = stands slot low high in subst (λ k. (me.log.base < k) × (k ≤ me.log.base + 4096)) (sym (in_slot slot)) (s.is_above, s.within)))

    few : length (merged_entries me.term me.log.base own vote) ≤ 4096
    unfolding merged_entries first base
    few = omega (arith, length-map-range_with_len (merged_entry me.term me.log.base own vote) (suc me.log.base) (merged_first me.log.base own vote - suc me.log.base), within)

    spelled_as : (format : ℕ) → IsFormat (setup_of me) format → (r : Record) → r ≡ MergedRecord me.term (merged_first me.log.base own vote) (merged_entries me.term me.log.base own vote) → IsSpelledAs format r (body_bytes r)
    unfolding n t
    spelled_as format half r is =
        let spelled = merged_spelled (setup_of me) b.setup (suc (max b.n c.n)) (max b.t c.t) (omega (arith, b.low, c.low)) (omega (arith, b.t_low, c.t_low)) format me.term (merged_first me.log.base own vote) half (omega (arith, own_term.1, b.t_low, c.t_low)) low_first (merged_entries me.term me.log.base own vote)
        (each (EntryFits (setup_of me) (suc (max b.n c.n)) (max b.t c.t)) (λ slot low high. (stands slot low high).fits)) few in
        subst (λ k. IsSpelledAs format k (body_bytes k)) (sym is) (record { canonical = spelled.0; fits = spelled.1; added = refl; is = refl })

    merge_is : merge_of me x ≡ MergedRecord me.term (merged_first me.log.base own vote) (merged_entries me.term me.log.base own vote)
    merge_is = λ i. MergedRecord me.term (took.first i) (took.entries i)

    ready_above : x.acks.base < x.first
    ready_above = omega (arith, took.acks.base_is, took.first, base_below_first me.log.base own vote)

    pub ready : (format : ℕ) → IsFormat (setup_of me) format → TakeoverIsReady me format x
    ready format half = record { canonical = ready_packets cached.number; spelled = spelled_as format half (merge_of me x) merge_is; placed = ready_places; above = ready_above }
