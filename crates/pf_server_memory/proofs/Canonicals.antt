-- What fits a server has a spelling.
use Rattle.std.proofs.Common.{◌≡◌, ◌⊎◌, inl, inr, ℕ, ◌*◌, ◌<◌, ◌≤◌, ◌^◌, cond, ◌==◌, List, [], ◌∷◌, length, sum_by, is_some, arith, refl, sym, ap, subst, ◌∙◌}
use Rattle.std.proofs.lemmas.List.Sums.{sum_by-cons}
use Rattle.std.specs.FinMap
use Rattle.pf_entry.specs.Maps.{Numbers}
use Rattle.pf_entry.specs.Lists.{Every}
use Rattle.pf_entry.proofs.Lists.{every_more}
use Rattle.pf_entry.specs.declared.ops.Op.{Op}
use Rattle.pf_entry.specs.declared.ops.Op.TheVariants.{Write, Noop, Mark}
use Rattle.pf_entry.specs.declared.entries.Named.{Named}
use Rattle.pf_entry.specs.declared.entries.Entry.{Entry}
use Rattle.pf_entry.specs.declared.entries.VoteLog.{VoteLog}
use Rattle.pf_entry.specs.declared.packets.Packet.{Packet}
use Rattle.pf_entry.specs.declared.packets.Body.{Body}
use Rattle.pf_entry.specs.declared.packets.Body.TheVariants.{RequestVote, Vote, Accept, Ack, Nack, Commit, Probe, ProbeOk, Image}
use Rattle.pf_entry.specs.declared.records.Record.TheVariants.{Term as TermRecord, Entry as EntryRecord, Merged as MergedRecord}
use Rattle.pf_entry.specs.Sizes.{op_size, entry_size}
use Rattle.pf_entry.specs.Canonical.{IsCanonicalOp, IsCanonicalName, IsCanonicalEntry, IsCanonicalVote, IsCanonicalImage, IsCanonicalMessage, IsCanonicalPacket, IsCanonicalRecord, first_format, second_format}
use Rattle.pf_codec.specs.Fitting.{RecordFits, EntryFitsWords as HasWords}
use Rattle.pf_codec.specs.Spelling.{body_bytes}
use Rattle.pf_server_store.specs.Stores.{IsSpelledAs}
use Rattle.pf_protocol.specs.Servers.{Setup}
use Rattle.pf_protocol.specs.Answers.{IsSetup}
use Rattle.pf_protocol.specs.Fitting.{OpFits, NameFits, EntryFits, VoteFits, SlotsFit, SectorsFit, BodyFits, PacketFits}
use Rattle.pf_entry.proofs.MapSizes.{few_keys}
use Rattle.pf_server_memory.specs.Bounds.{far}

-- one or two, and the half has the volume's format or the second
abbrev pub IsFormat : Setup → ℕ → Type 0
IsFormat setup format = (format ≡ 2) ⊎ (format ≡ setup.format)

-- a vote has fewer starts than two bytes count
abbrev pub StartsAreFew : Body → Type 0
StartsAreFew (Vote v) = FinMap.len v.starts < 2 ^ 16
StartsAreFew _ = Unit {0}

short_op : (setup : Setup) (op : Op) → OpFits setup op → op_size op ≤ 4102
short_op setup (Write range payload) f = omega (arith, f.0, f.1)
short_op setup Noop f = omega arith
short_op setup Mark f = omega arith

module _ (setup : Setup) (is : IsSetup setup) (n t : ℕ) where
  -- in the second format
  op_in_second : (op : Op) → OpFits setup op → IsCanonicalOp second_format op
  unfolding second_format
  op_in_second (Write range payload) f = (f.0, f.1, f.2)
  op_in_second Noop f = tt
  op_in_second Mark f = refl

  name_in_second : (slot : ℕ) (m : Named) → NameFits setup slot m → IsCanonicalName second_format slot m
  unfolding second_format
  name_in_second slot m f = record { below = f.below; range = f.span; marks = λ _. refl }

  pub in_second : (e : Entry) → EntryFits setup n t e → IsCanonicalEntry second_format e
  unfolding second_format
  in_second e f = record {
    slot = f.slot;
    term = f.term;
    first = f.first;
    few = omega (arith, f.few, is.few_names);
    ascending = f.ascending;
    named = every_more (NameFits setup e.slot) (IsCanonicalName second_format e.slot) (λ m x. name_in_second e.slot m x) e.look f.named;
    merged = f.merged;
    op = op_in_second e.op f.op;
  }

  -- in the first, where the volume has it
  module _ (first : setup.format ≡ 1) (names : setup.names ≤ 2) where
    no_marks : setup.format ≡ 2 → ⊥
    no_marks two = omega (arith, first, two)

    op_in_first : (op : Op) → OpFits setup op → IsCanonicalOp first_format op
    unfolding first_format
    op_in_first (Write range payload) f = (f.0, f.1, f.2)
    op_in_first Noop f = tt
    op_in_first Mark f = absurd (no_marks f)

    name_in_first : (slot : ℕ) (m : Named) → NameFits setup slot m → IsCanonicalName first_format slot m
    unfolding first_format
    name_in_first slot m f = record { below = f.below; range = f.span; marks = λ whole. absurd (no_marks (f.marks whole)) }

    in_first : (e : Entry) → EntryFits setup n t e → IsCanonicalEntry first_format e
    unfolding first_format
    in_first e f = record {
      slot = f.slot;
      term = f.term;
      first = f.first;
      few = omega (arith, f.few, names);
      ascending = f.ascending;
      named = every_more (NameFits setup e.slot) (IsCanonicalName first_format e.slot) (λ m x. name_in_first e.slot m x) e.look f.named;
      merged = f.merged;
      op = op_in_first e.op f.op;
    }

  pub in_format : (format : ℕ) → IsFormat setup format → (e : Entry) → EntryFits setup n t e → IsCanonicalEntry (cond (format == 1) first_format second_format) e
  in_format format (inl two) e f = subst (λ k. IsCanonicalEntry (cond (k == 1) first_format second_format) e) (sym two) (in_second e f)
  in_format format (inr same) e f = elim is.format [
    | inl one ↦ subst (λ k. IsCanonicalEntry (cond (k == 1) first_format second_format) e) (sym (same ∙ one.0)) (in_first one.0 one.1 e f)
    | inr two ↦ subst (λ k. IsCanonicalEntry (cond (k == 1) first_format second_format) e) (sym (same ∙ two)) (in_second e f)
  ]

  pub short_entry : (e : Entry) → EntryFits setup n t e → entry_size e ≤ 4335
  short_entry e f = omega (arith, f.few, is.few_names, short_op setup e.op f.op)

  pub short_entries : (es : List Entry) → Every (EntryFits setup n t) es → sum_by entry_size es ≤ length es * 4335
  short_entries [] each = omega arith
  short_entries (e ∷ es) each = omega (arith, sum_by-cons entry_size e es, short_entry e each.0, short_entries es each.1)

  module _ (low : n ≤ far) (t_low : t < far) where
    pub has_words : (e : Entry) → EntryFits setup n t e → HasWords e
    has_words e f = record {
      slot = omega (arith, f.slot_low, low);
      term = omega (arith, f.term_low, t_low);
      first = omega (arith, f.first_low, low);
      look = every_more (NameFits setup e.slot) (λ m. m.slot < 2 ^ 64) (λ m x. omega (arith, x.below, f.slot_low, low)) e.look f.named;
    }

    -- records
    pub entry_spelled : (format : ℕ) → IsFormat setup format → (e : Entry) → EntryFits setup n t e → IsCanonicalRecord format (EntryRecord e) × RecordFits (EntryRecord e)
    entry_spelled format half e f = (record { fields = in_format format half e f; short = omega (arith, short_entry e f) }, has_words e f)

    pub entry_is_spelled : (format : ℕ) → IsFormat setup format → (e : Entry) → EntryFits setup n t e → IsSpelledAs format (EntryRecord e) (body_bytes (EntryRecord e))
    entry_is_spelled format half e f = let spelled = entry_spelled format half e f in record { canonical = spelled.0; fits = spelled.1; added = refl; is = refl }

    pub term_spelled : (format term : ℕ) → term < 2 ^ 64 → IsCanonicalRecord format (TermRecord term) × RecordFits (TermRecord term)
    term_spelled format term word = (record { fields = tt; short = omega arith }, word)

    pub merged_spelled : (format term first : ℕ) → IsFormat setup format → term < 2 ^ 64 → first < 2 ^ 64 → (es : List Entry) → Every (EntryFits setup n t) es → length es ≤ 4096
        → IsCanonicalRecord format (MergedRecord term first es) × RecordFits (MergedRecord term first es)
    merged_spelled format term first half word next es each few = (
      record {
        fields = every_more (EntryFits setup n t) (IsCanonicalEntry (cond (format == 1) first_format second_format)) (λ e f. in_format format half e f) es each;
        short = omega (arith, short_entries es each, few);
      },
      (word, next, every_more (EntryFits setup n t) HasWords (λ e f. has_words e f) es each),
    )

  -- packets
  pub vote_is : (v : VoteLog) → FinMap.len v.starts < 2 ^ 16 → VoteFits setup n t v → IsCanonicalVote second_format v
  unfolding second_format
  vote_is v few f = record {
    starts = few;
    entries = λ slot e at. let x = f.log slot e at in record { canonical = in_second e x.fits; in_slot = x.in_slot; is_above = x.is_above; within = omega (arith, x.within, is.window) };
  }

  pub image_is : (base : ℕ) (applied : Numbers) (sectors : List (List ℕ)) → SlotsFit setup n base applied → SectorsFit setup sectors → IsCanonicalImage base applied sectors
  image_is base applied sectors slots sized = record {
    above = λ slot at. (slots slot at).0;
    few = omega (arith, is.window, few_keys setup.window base applied (λ q x at. let f = slots q (ap is_some at) in (f.0, f.1)));
    some = omega (arith, sized.0, is.some_sectors);
    fits = omega (arith, sized.0, is.few_sectors);
    eighths = (is.blocks.0, sized.0 ∙ is.blocks.1);
    bytes = sized.1;
  }

  message_is : (term : ℕ) (body : Body) → StartsAreFew body → BodyFits setup n t term body → IsCanonicalMessage term body
  message_is term (RequestVote base) few f = tt
  message_is term (Vote v) few f = vote_is v few f
  message_is term (Accept e) few f = (in_second e f.0, f.1)
  message_is term (Ack slot upto_there) few f = tt
  message_is term Nack few f = tt
  message_is term (Commit slot) few f = tt
  message_is term (Probe number) few f = tt
  message_is term (ProbeOk number upto_there) few f = tt
  message_is term (Image base applied sectors) few f = image_is base applied sectors f.1 f.2

  pub packet_is : (p : Packet) → StartsAreFew p.body → PacketFits setup n t p → IsCanonicalPacket p
  packet_is p few f = record { from = f.from; to = f.to; apart = f.apart; term = f.term; message = message_is p.term p.body few f.body }
