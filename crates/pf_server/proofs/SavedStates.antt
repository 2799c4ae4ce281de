-- States that a restart saves anew.
use Rattle.std.proofs.Common.{◌≡◌, ◌⊎◌, inl, inr, ℕ, suc, ◌*◌, ◌<◌, ◌≤◌, ◌^◌, true, cond, not, ◌&&◌, ◌==◌, length, if◌then◌else◌, is_some, sum_by, arith, refl, sym, ap, subst, ◌∙◌}
use Rattle.std.proofs.lemmas.Bool.{and_from, and_parts, cond-false, eq-eqb, eqb-true, false≢true}
use Rattle.std.proofs.lemmas.List.{length-map}
use Rattle.std.specs.FinMap
use Rattle.std.specs.FinMap.{len-entries}
use Rattle.pf_entry.specs.Sets
use Rattle.pf_entry.specs.Lists.{Every}
use Rattle.pf_entry.proofs.Lists.{every_map}
use Rattle.pf_entry.specs.Records.{Durable, image_of, stored}
use Rattle.pf_entry.specs.Sizes.{body_size, entry_size}
use Rattle.pf_codec.proofs.MapLaws.{every_of_gets}
use Rattle.pf_protocol.specs.Answers.{IsSetup, has_stored}
use Rattle.pf_protocol.specs.Fitting.{DurableFits, EntryFits}
use Rattle.pf_protocol.specs.Saving.{renewed}
use Rattle.pf_protocol.specs.Servers.{Setup}
use Rattle.pf_entry.proofs.MapSizes.{few_keys}
use Rattle.pf_protocol.proofs.ForRows.{durable_more}
use Rattle.pf_entry.proofs.Cases.{by_test}
use Rattle.pf_server_memory.proofs.Canonicals.{short_entries}
use Rattle.pf_server_restart.specs.Beginning.{StateIsRead, IsSeat, MayBegin, setup_of_seat}
use Rattle.pf_server_restart.specs.declared.reading.HalfReading.{HalfReading}
use Rattle.pf_server_restart.specs.declared.seat.Seat.{Seat}
use Rattle.pf_server.specs.Conditions.{StoppedIsFit, IsInHalf}
use Rattle.pf_server.specs.Turns.{IsSavedOf}

-- the image of the state under the next generation
abbrev saved_anew : Durable → Durable
saved_anew d = stored d (image_of (record d { generation = suc d.generation }))

-- a state that is saved anew is not saved anew again
pub renewed_twice : (d : Durable) → renewed (renewed d) ≡ renewed d
unfolding renewed stored
renewed_twice d = by_test (d.format == 1) (λ c. renewed (if c then saved_anew d else d) ≡ (if c then saved_anew d else d)) (λ _. refl) (λ second. cond-false (d.format == 1) _ _ second)

pub renewed_of : (z d : Durable) → IsSavedOf z d → renewed d ≡ renewed z
renewed_of z d (inl same) = ap renewed same
renewed_of z d (inr anew) = ap renewed anew ∙ renewed_twice z

-- which of two states was read
pub either_read : (bytes generation : ℕ) (before after d : Durable) (r : HalfReading) → has_stored before after ≡ true → before.used ≡ bytes → before.generation ≡ generation → (d ≡ before) ⊎ (d ≡ after) → StateIsRead r d
    → d ≡ cond (not (r.used == bytes && r.generation == generation)) after before
either_read bytes generation before after d r apart used_is generation_is (inl same) is =
    let test = and_from (r.used == bytes) (r.generation == generation)
    (eq-eqb r.used bytes (is.used ∙ ap (λ (e : Durable). e.used) same ∙ used_is))
    (eq-eqb r.generation generation (is.generation ∙ ap (λ (e : Durable). e.generation) same ∙ generation_is)) in
    same ∙ sym (ap (λ b. cond (not b) after before) test)
either_read bytes generation before after d r apart used_is generation_is (inr same) is =
    by_test (r.used == bytes && r.generation == generation) (λ b. d ≡ cond (not b) after before)
    (λ both.
    let parts = and_parts (r.used == bytes) (r.generation == generation) both in
    let used_same = sym (ap (λ (e : Durable). e.used) same) ∙ sym is.used ∙ eqb-true r.used bytes parts.0 ∙ sym used_is in
    let generation_same = sym (ap (λ (e : Durable). e.generation) same) ∙ sym is.generation ∙ eqb-true r.generation generation parts.1 ∙ sym generation_is in
    absurd (false≢true (sym (ap not (and_from (after.used == before.used) (after.generation == before.generation) (eq-eqb after.used before.used used_same) (eq-eqb after.generation before.generation generation_same))) ∙ apart)))
    (λ _. same)

module _ (setup : Setup) (is : IsSetup setup) (n t : ℕ) (d : Durable) (fits : DurableFits setup n t d) (few : FinMap.len d.starts ≤ 65) where
  each_value : Every (EntryFits setup n t) (FinMap.values d.log)
  each_value = every_map (EntryFits setup n t) (λ row. row.1) (FinMap.entries d.log) (every_of_gets (λ slot e. EntryFits setup n t e) d.log (λ slot e at. (fits.vote.log slot e at).fits))

  log_short : sum_by entry_size (FinMap.values d.log) ≤ 4096 * 4335
  log_short =
      let sum = short_entries setup is n t (FinMap.values d.log) each_value in
      let values : length (FinMap.values d.log) ≡ length (FinMap.entries d.log) = length-map (FinMap.entries d.log) (λ row. row.1) in
      let held = few_keys 4096 d.base d.log (λ slot e at. let x = fits.vote.log slot e at in (x.is_above, omega (arith, x.within, is.window))) in
      omega (arith, sum, values, len-entries d.log, held)

  saved_few : Sets.len d.saved ≤ 4096
  saved_few = few_keys 4096 d.base d.saved (λ q x at. let f = fits.saved q (ap is_some at) in (f.0, omega (arith, f.1, is.window)))

  -- an image fits a half
  small : body_size (image_of (record d { generation = suc d.generation })) ≤ 67108855
  unfolding body_size
  small = omega (arith, few, log_short, saved_few, fits.sectors.0, is.few_sectors)

  renewed_may : suc (suc n) < 2 ^ 63 → t < 2 ^ 63 → MayBegin setup d → MayBegin setup (renewed d)
  unfolding renewed stored
  renewed_may low t_low may =
      let more = durable_more setup n (suc n) t t (omega arith) (omega arith) d fits in
      by_test (d.format == 1) (λ c. MayBegin setup (if c then saved_anew d else d))
      (λ _. record {
        n = suc n;
        t = t;
        low = low;
        t_low = t_low;
        fits = record { generation = omega (arith, fits.generation); term = more.term; term_low = more.term_low; vote = more.vote; saved = more.saved; sectors = more.sectors };
        half = record { format = inl refl; few = few; within = omega (arith, small) };
      })
      (λ _. may)

-- a state that no restart refuses, saved anew or not
may_begin : (seat : Seat) (d : Durable) → StoppedIsFit seat d → IsInHalf seat d → MayBegin (setup_of_seat seat) d
may_begin seat d fit half = record { n = fit.n; t = fit.t; low = omega (arith, fit.low); t_low = fit.t_low; fits = fit.fits; half = record { format = half.format; few = fit.few; within = half.within } }

pub may_of : (seat : Seat) → IsSeat seat → (z d : Durable) → StoppedIsFit seat z → IsInHalf seat z → IsSavedOf z d → MayBegin (setup_of_seat seat) d
may_of seat made z d fit half (inl same) = subst (MayBegin (setup_of_seat seat)) (sym same) (may_begin seat z fit half)
may_of seat made z d fit half (inr anew) = subst (MayBegin (setup_of_seat seat)) (sym anew) (renewed_may (setup_of_seat seat) made.setup fit.n fit.t z fit.fits fit.few fit.low fit.t_low (may_begin seat z fit half))
