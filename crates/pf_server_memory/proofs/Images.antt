-- The image of a bounded server's state has a spelling.
use Rattle.std.proofs.Common.{◌≡◌, ℕ, suc, ◌+◌, ◌*◌, ◌<◌, ◌≤◌, ◌^◌, Bool, true, false, cond, List, length, Some, None, nat_lt, is_some, sum_by, arith, refl, sym, ap, ◌∙◌}
use Rattle.std.proofs.lemmas.Bool.Decides.{nat_tests}
use Rattle.std.proofs.lemmas.List.{length-map}
use Rattle.std.proofs.lemmas.Option.{none-some}
use Rattle.std.specs.FinMap
use Rattle.std.specs.FinMap.{len-entries}
use Rattle.pf_entry.specs.Maps.{Map, Numbers}
use Rattle.pf_entry.specs.Sets
use Rattle.pf_entry.proofs.Maps.{get_above}
use Rattle.pf_entry.specs.Lists.{Every}
use Rattle.pf_entry.proofs.Lists.{every_map}
use Rattle.pf_entry.specs.Ops.{Sector}
use Rattle.pf_entry.specs.declared.entries.Entry.{Entry}
use Rattle.pf_entry.specs.declared.records.Record.TheVariants.{Image as ImageRecord}
use Rattle.pf_entry.specs.Sizes.{entry_size}
use Rattle.pf_entry.specs.Canonical.{IsCanonicalVote, IsCanonicalRecord, second_format}
use Rattle.pf_entry.specs.Records.{above, image_of}
use Rattle.pf_codec.specs.Fitting.{RecordFits, EntryFitsWords as HasWords}
use Rattle.pf_codec.proofs.MapLaws.{every_of_gets}
use Rattle.pf_protocol.specs.Fitting.{EntryFits, SlotsFit, SectorsFit, EntryStandsIn}
use Rattle.pf_entry.proofs.MapSizes.{few_keys}
use Rattle.pf_server_memory.specs.Bounds.{far}
use Rattle.pf_server_memory.specs.declared.running.Running.{Running}
use Rattle.pf_server_memory.specs.Standing.{server_of, setup_of, IsBounded}
use Rattle.pf_server_memory.specs.Images.{imaged}
use Rattle.pf_server_memory.proofs.Canonicals.{in_second, short_entries, has_words, image_is}

-- numbers of a server are far from the ends of their types
pub generation_low : (me : Running) → IsBounded me → me.generation < far
unfolding server_of
generation_low me bounded = omega (arith, bounded.fits.durable.generation, bounded.low)

pub life_low : (me : Running) → IsBounded me → me.life < far
unfolding server_of
life_low me bounded = omega (arith, bounded.fits.life, bounded.low)

stands_here : (me : Running) (bounded : IsBounded me) (slot : ℕ) (e : Entry) → FinMap.get me.log.entries slot ≡ Some e → EntryStandsIn (setup_of me) bounded.n bounded.t me.log.base slot e
unfolding server_of
stands_here me bounded slot e at = bounded.fits.durable.vote.log slot e at

start_words : (me : Running) (bounded : IsBounded me) (term first : ℕ) → FinMap.get me.starts.starts term ≡ Some first → (term < 2 ^ 64) × (first < 2 ^ 64)
unfolding server_of
start_words me bounded term first at =
    let f = bounded.fits.durable.vote.starts term first at in
    (omega (arith, f.term_low, bounded.t_low), omega (arith, f.first_low, bounded.low))

above_cases : (log : Map Entry) (base slot : ℕ) (e : Entry) → FinMap.get (above base log) slot ≡ Some e → (base < slot) × (FinMap.get log slot ≡ Some e)
unfolding above
above_cases log base slot e at = by (nat_lt base slot) refl (sym (get_above log base slot) ∙ at)
  where
    over : (a b : ℕ) → nat_lt a b ≡ true → a < b
    over a b is = grind (arith, nat_tests)

    by : (b : Bool) → nat_lt base slot ≡ b → cond b (FinMap.get log slot) None ≡ Some e → (base < slot) × (FinMap.get log slot ≡ Some e)
    by true is at = (over base slot is, at)
    by false is at = absurd (none-some e at)

module _ (me : Running) (bounded : IsBounded me) (base : ℕ) (reached : me.log.base ≤ base) where
  abbrev kept : Map Entry
  kept = above base me.log.entries

  stands : (slot : ℕ) (e : Entry) → FinMap.get kept slot ≡ Some e → (base < slot) × EntryStandsIn (setup_of me) bounded.n bounded.t me.log.base slot e
  stands slot e at =
      let c = above_cases me.log.entries base slot e at in
      (c.0, stands_here me bounded slot e c.1)

  in_reach : (slot : ℕ) → slot ≤ me.log.base + (setup_of me).window → slot ≤ base + 4096
  in_reach slot low = omega (arith, low, bounded.setup.window, reached)

  each_value : (P : Entry → Type 0) → ((e : Entry) → EntryFits (setup_of me) bounded.n bounded.t e → P e) → Every P (FinMap.values kept)
  each_value P f = every_map P (λ row. row.1) (FinMap.entries kept) (every_of_gets (λ slot e. P e) kept (λ slot e at. f e (stands slot e at).1.fits))

  vote_is_canonical : IsCanonicalVote second_format (record { base = base; starts = me.starts.starts; log = kept })
  unfolding second_format
  vote_is_canonical = record {
    starts = few me.starts.starts bounded.few;
    entries = λ slot e at. let x = stands slot e at in record {
      canonical = in_second (setup_of me) bounded.setup bounded.n bounded.t e x.1.fits;
      in_slot = x.1.in_slot;
      is_above = x.0;
      within = in_reach slot x.1.within;
    };
  }
    where
      few : (starts : Map ℕ) → FinMap.len starts < 2 ^ 15 → FinMap.len starts < 2 ^ 16
      few starts low = omega (arith, low)

  log_short : sum_by entry_size (FinMap.values kept) ≤ 4096 * 4335
  log_short =
      let sum = short_entries (setup_of me) bounded.setup bounded.n bounded.t (FinMap.values kept) (each_value (EntryFits (setup_of me) bounded.n bounded.t) (λ e f. f)) in
      let values : length (FinMap.values kept) ≡ length (FinMap.entries kept) = length-map (FinMap.entries kept) (λ row. row.1) in
      let few = few_keys 4096 base kept (λ slot e at. let x = stands slot e at in (x.0, in_reach slot x.1.within)) in
      omega (arith, sum, values, len-entries kept, few)

  module _ (n term : ℕ) (applied : Numbers) (sectors : List Sector) (slots : SlotsFit (setup_of me) n base applied) (sized : SectorsFit (setup_of me) sectors) where
    applied_few : Sets.len applied ≤ 4096
    applied_few = few_keys 4096 base applied (λ q x at. let f = slots q (ap is_some at) in (f.0, omega (arith, f.1, bounded.setup.window)))

    pub image_canonical : IsCanonicalRecord 2 (image_of (imaged me term base applied sectors))
    image_canonical = record {
      fields = (vote_is_canonical, image_is (setup_of me) bounded.setup n bounded.t base applied sectors slots sized);
      short = omega (arith, bounded.few, log_short, applied_few, sized.0, bounded.setup.few_sectors);
    }

    pub image_fits : n < far → term < 2 ^ 64 → base < 2 ^ 64 → RecordFits (image_of (imaged me term base applied sectors))
    image_fits low word small = (
      omega (arith, generation_low me bounded),
      word,
      record {
        base = small;
        starts = every_of_gets (λ term first. (term < 2 ^ 64) × (first < 2 ^ 64)) me.starts.starts (λ term first at. start_words me bounded term first at);
        log = each_value HasWords (λ e f. has_words (setup_of me) bounded.setup bounded.n bounded.t (omega (arith, bounded.low)) bounded.t_low e f);
      },
      every_map (λ slot. slot < 2 ^ 64) (λ row. row.0) (FinMap.entries applied) (every_of_gets (λ slot x. slot < 2 ^ 64) applied (λ slot x at. omega (arith, (slots slot (ap is_some at)).2, low))),
    )

-- the image that is spelled
pub spelled_as : (me : Running) (term base : ℕ) (starts : Map ℕ) (log : Map Entry) (saved applied : Numbers) (sectors same : List Sector) → starts ≡ me.starts.starts → log ≡ above base me.log.entries → saved ≡ applied → sectors ≡ same
    → ImageRecord (me.generation + 1) term (record { base = base; starts = starts; log = log }) saved sectors ≡ image_of (imaged me term base applied same)
spelled_as me term base starts log saved applied sectors same starts_are log_is saved_is sectors_are =
    let next : me.generation + 1 ≡ suc me.generation = omega arith in
    λ i. ImageRecord (next i) term (record { base = base; starts = starts_are i; log = log_is i }) (saved_is i) (sectors_are i)
