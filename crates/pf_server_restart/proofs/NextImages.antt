-- The image under the next generation.
use Rattle.std.proofs.Common.{◌≡◌, inl, ℕ, suc, ◌+◌, ◌*◌, ◌<◌, ◌≤◌, ◌^◌, List, length, nat_lt, is_some, sum_by, arith, refl, sym, ap, ◌∙◌, Result, Err}
use Rattle.std.proofs.lemmas.Bool.{cond-true, cond-false, eq-eqb, ne_eqb}
use Rattle.std.proofs.lemmas.List.{length-map}
use Rattle.std.specs.FinMap
use Rattle.std.specs.FinMap.{len-entries}
use Rattle.pf_entry.specs.Maps.{Numbers}
use Rattle.pf_entry.specs.Sets
use Rattle.pf_entry.specs.Lists.{Every}
use Rattle.pf_entry.proofs.Lists.{every_map, every_more}
use Rattle.pf_entry.specs.Ops.{Sector}
use Rattle.pf_entry.specs.declared.entries.Entry.{Entry}
use Rattle.pf_entry.specs.declared.entries.VoteLog.{VoteLog}
use Rattle.pf_entry.specs.declared.records.Record.TheVariants.{Image as ImageRecord}
use Rattle.pf_entry.specs.Canonical.{IsCanonicalRecord}
use Rattle.pf_entry.specs.Records.{Durable, image_of, stored, vote_of}
use Rattle.pf_entry.specs.Sizes.{body_size, empty_half, entry_size}
use Rattle.pf_codec.specs.Fitting.{RecordFits, EntryFitsWords as HasWords}
use Rattle.pf_codec.specs.Spelling.{body_bytes}
use Rattle.pf_codec.proofs.MapLaws.{every_of_gets}
use Rattle.pf_server_store.specs.Stores.{IsImageOf, StoreModel}
use Rattle.pf_protocol.specs.Servers.{Server, Setup}
use Rattle.pf_protocol.specs.Answers.{IsSetup}
use Rattle.pf_protocol.specs.Fitting.{EntryFits, NameFits}
use Rattle.pf_protocol.specs.Saving.{renewed, restarted}
use Rattle.pf_entry.proofs.MapSizes.{few_keys}
use Rattle.pf_server_memory.specs.declared.running.Running.{Running}
use Rattle.pf_server_memory.specs.Standing.{state_in_memory, server_of, setup_of, IsCached}
use Rattle.pf_server_memory.proofs.Canonicals.{image_is, short_entries, vote_is}
use Rattle.pf_server_memory.proofs.StoredRecords.{image_len}
use Rattle.pf_server_restart.specs.Beginning.{ServerHasBegun, IsBegun, IsSeat, setup_of_seat}
use Rattle.pf_server_restart.specs.Reviving.{IsRevived, Lives, anew}
use Rattle.pf_server_restart.specs.declared.faults.RestartFault.{RestartFault}
use Rattle.pf_server_restart.specs.declared.faults.RestartFault.TheVariants.{SaveHalted}
use Rattle.pf_server_restart.specs.declared.reading.HalfReading.{HalfReading}
use Rattle.pf_server_restart.specs.declared.seat.Seat.{Seat}

-- no slot of a state from which a server begins is higher
abbrev highest : ℕ
highest = 2 ^ 63 + 4096

module _ (setup : Setup) (is : IsSetup setup) (window : setup.window ≡ 4096) (d : Durable) (begun : ServerHasBegun setup d) (early : d.generation < 2 ^ 63) where
  words : (e : Entry) → EntryFits setup highest (2 ^ 63) e → HasWords e
  words e f = record {
    slot = omega (arith, f.slot_low);
    term = omega (arith, f.term_low);
    first = omega (arith, f.first_low);
    look = every_more (NameFits setup e.slot) (λ m. m.slot < 2 ^ 64) (λ m x. omega (arith, x.below, f.slot_low)) e.look f.named;
  }

  each_value : (P : Entry → Type 0) → ((e : Entry) → EntryFits setup highest (2 ^ 63) e → P e) → Every P (FinMap.values d.log)
  each_value P f = every_map P (λ row. row.1) (FinMap.entries d.log) (every_of_gets (λ slot e. P e) d.log (λ slot e at. f e (begun.fits.vote.log slot e at).fits))

  log_short : sum_by entry_size (FinMap.values d.log) ≤ 4096 * 4335
  log_short =
      let sum = short_entries setup is highest (2 ^ 63) (FinMap.values d.log) (each_value (EntryFits setup highest (2 ^ 63)) (λ e f. f)) in
      let values : length (FinMap.values d.log) ≡ length (FinMap.entries d.log) = length-map (FinMap.entries d.log) (λ row. row.1) in
      let few = few_keys 4096 d.base d.log (λ slot e at. let x = begun.fits.vote.log slot e at in (x.is_above, omega (arith, x.within, window))) in
      omega (arith, sum, values, len-entries d.log, few)

  saved_few : Sets.len d.saved ≤ 4096
  saved_few = few_keys 4096 d.base d.saved (λ q x at. let f = begun.fits.saved q (ap is_some at) in (f.0, omega (arith, f.1, window)))

  small : body_size (image_of (anew d)) ≤ 67108855
  unfolding body_size
  small = omega (arith, begun.half.few, log_short, saved_few, begun.fits.sectors.0, is.few_sectors)

  image_canonical : IsCanonicalRecord 2 (image_of (anew d))
  image_canonical = record {
    fields = (vote_is setup is highest (2 ^ 63) (vote_of d) (omega (arith, begun.half.few)) begun.fits.vote, image_is setup is highest (2 ^ 63) d.base d.saved d.sectors begun.fits.saved begun.fits.sectors);
    short = omega (arith, begun.half.few, log_short, saved_few, begun.fits.sectors.0, is.few_sectors);
  }

  image_words : RecordFits (image_of (anew d))
  image_words = (
    omega (arith, early),
    omega (arith, begun.fits.term_low),
    record {
      base = omega (arith, begun.fits.vote.base);
      starts = every_of_gets (λ term first. (term < 2 ^ 64) × (first < 2 ^ 64)) d.starts (λ term first at. let x = begun.fits.vote.starts term first at in (omega (arith, x.term_low), omega (arith, x.first_low)));
      log = each_value HasWords words;
    },
    every_map (λ slot. slot < 2 ^ 64) (λ row. row.0) (FinMap.entries d.saved) (every_of_gets (λ slot x. slot < 2 ^ 64) d.saved (λ slot x at. omega (arith, (begun.fits.saved slot (ap is_some at)).2))),
  )

  is_image_of : (body : List ℕ) → body ≡ body_bytes (image_of (anew d)) → IsImageOf d (image_of (anew d)) body
  is_image_of body same = record { canonical = image_canonical; fits = image_words; next = refl; is = same }

  has_room : (body : List ℕ) → body ≡ body_bytes (image_of (anew d)) → empty_half + length body ≤ 67108864
  has_room body same = omega (arith, image_len d (image_of (anew d)) body (is_image_of body same), small)

  abbrev after : Durable
  after = stored d (image_of (anew d))

  begun_after : ServerHasBegun setup after
  unfolding stored
  begun_after = record {
    fits = record {
      generation = omega (arith, early);
      term = begun.fits.term;
      term_low = begun.fits.term_low;
      vote = begun.fits.vote;
      saved = begun.fits.saved;
      sectors = begun.fits.sectors;
    };
    half = record { format = inl refl; few = begun.half.few; within = omega (arith, small) };
  }

-- memory with the next generation
module _ (d : Durable) (me : Running) (seat : Seat) (life : ℕ) (made : IsSeat seat) (now : IsRevived d me seat life) (early : d.generation < 2 ^ 63) where
  pub image_here : (body : List ℕ) → body ≡ body_bytes (image_of (anew d)) → IsImageOf d (image_of (anew d)) body
  image_here = is_image_of (setup_of_seat seat) made.setup refl d now.begun early

  pub room_here : (body : List ℕ) → body ≡ body_bytes (image_of (anew d)) → empty_half + length body ≤ 67108864
  room_here = has_room (setup_of_seat seat) made.setup refl d now.begun early

  pub canonical_here : IsCanonicalRecord 2 (image_of (anew d))
  canonical_here = image_canonical (setup_of_seat seat) made.setup refl d now.begun early

  pub more : me.generation + 1 < 2 ^ 64
  more = omega (arith, now.cached.generation, early)

  pub revived_after : IsRevived (stored d (image_of (anew d))) (record me { generation = me.generation + 1 }) seat life
  unfolding stored server_of setup_of restarted
  revived_after =
      let next : me.generation + 1 ≡ suc d.generation = omega (arith, now.cached.generation) in
      record {
        cached = record {
          number = now.cached.number;
          term = now.cached.term;
          generation = next;
          base = now.cached.base;
          starts = now.cached.starts;
          log = now.cached.log;
          format = inl refl;
          prefix = now.cached.prefix;
          role = now.cached.role;
          jobs = now.cached.jobs;
          places = now.cached.places;
          rooms = now.cached.rooms;
          near = now.cached.near;
          replies = now.cached.replies;
        };
        is = λ i. record (now.is i) { durable = stored d (image_of (anew d)) };
        setup = now.setup;
        begun = begun_after (setup_of_seat seat) made.setup refl d now.begun early;
      }

  -- the image that is spelled
  pub spelled_as : (vote : VoteLog) (base : ℕ) (saved : Numbers) (sectors : List Sector) → vote ≡ vote_of (state_in_memory me) → base ≡ me.log.base → saved ≡ Sets.retain me.applied.slots (nat_lt base) → sectors ≡ me.sectors
      → ImageRecord (me.generation + 1) me.term vote saved sectors ≡ image_of (anew d)
  unfolding server_of restarted
  spelled_as vote base saved sectors vote_is base_is saved_is sectors_are =
      let next : me.generation + 1 ≡ suc d.generation = omega (arith, now.cached.generation) in
      let votes : vote ≡ vote_of d = vote_is ∙ (λ i. record { base = now.cached.base i; starts = now.cached.starts i; log = now.cached.log i }) in
      let slots : saved ≡ d.saved = saved_is ∙ ap (λ b. Sets.retain me.applied.slots (nat_lt b)) base_is ∙ ap (λ (s : Server). s.applied) now.is in
      let chunk : sectors ≡ d.sectors = sectors_are ∙ ap (λ (s : Server). s.sectors) now.is in
      λ i. ImageRecord (next i) (now.cached.term i) (votes i) (slots i) (chunk i)

-- a fault that tells one reading tells no other
pub same_reading : (a b : HalfReading) → ◌≡◌ {A = Result (Unit {0}) RestartFault} (Err (SaveHalted b)) (Err (SaveHalted a)) → a ≡ b
same_reading a b same = cc

-- what a server may be made with is all the same
pub lives_early : (d e : Durable) (me : Running) → Lives e me → IsCached d me → d.generation < 2 ^ 63
lives_early d e me lives cached = omega (arith, lives.early, lives.revived.cached.generation, cached.generation)

-- the state of a half that is saved anew, and of one that is not
pub renewed_first : (d : Durable) → d.format ≡ 1 → stored d (image_of (anew d)) ≡ renewed d
unfolding renewed
renewed_first d is = sym (cond-true _ _ _ (eq-eqb d.format 1 is))

pub renewed_second : (d : Durable) → (d.format ≡ 1 → ⊥) → d ≡ renewed d
unfolding renewed
renewed_second d apart = sym (cond-false _ _ _ (ne_eqb d.format 1 apart))

module _ {S : Type 0} (model : StoreModel S) (d : Durable) where
  pub still_revived : (store : S) (me : Running) (seat : Seat) (life : ℕ) → IsBegun model d store me seat life → IsRevived d me seat life
  still_revived store me seat life begun = record { cached = begun.stands.cached; is = begun.is; setup = begun.setup; begun = begun.begun }

  abbrev pub begun_lives : (e : Durable) (store : S) (me : Running) (seat : Seat) (life : ℕ) → IsSeat seat → IsBegun model d store me seat life → Lives e me → Lives d me
  begun_lives e store me seat life made begun lives = record { seat = seat; life = life; made = made; revived = still_revived store me seat life begun; early = lives_early d e me lives begun.stands.cached }

  -- over a store that has the state
  pub begun_so : (store : S) (me : Running) (seat : Seat) (life : ℕ) → IsRevived d me seat life → model.holds store d d → model.used store ≡ d.used → model.format store ≡ d.format → IsBegun model d store me seat life
  begun_so store me seat life now recorded used_is half = record {
    stands = record { recorded = recorded; used_is = used_is; within = now.begun.half.within; half = half; cached = now.cached };
    is = now.is;
    setup = now.setup;
    begun = now.begun;
  }

module _ {S : Type 0} (model : StoreModel S) (d : Durable) (me : Running) (seat : Seat) (life : ℕ) (made : IsSeat seat) (now : IsRevived d me seat life) (early : d.generation < 2 ^ 63) where
  used_after : (stored d (image_of (anew d))).used ≡ empty_half + body_size (image_of (anew d))
  unfolding stored
  used_after = refl

  format_after : (stored d (image_of (anew d))).format ≡ 2
  unfolding stored
  format_after = refl

  pub saved_begun : (store : S) (body : List ℕ) → IsImageOf d (image_of (anew d)) body → model.holds store (stored d (image_of (anew d))) (stored d (image_of (anew d))) → model.used store ≡ empty_half + length body → model.format store ≡ 2
      → IsBegun model (stored d (image_of (anew d))) store (record me { generation = me.generation + 1 }) seat life
  saved_begun store body is recorded used_is half =
      begun_so model (stored d (image_of (anew d))) store (record me { generation = me.generation + 1 }) seat life (revived_after d me seat life made now early) recorded
      (used_is ∙ ap (λ n. empty_half + n) (image_len d (image_of (anew d)) body is) ∙ sym used_after) (half ∙ sym format_after)
