-- A map whose keys lie in a range has no more entries than the range, and what fits has a spelling.
use Rattle.std.proofs.Common.{◌≡◌, ℕ, suc, ◌+◌, ◌<◌, ◌≤◌, ◌^◌, List, length, Some, is_some, slice_get, arith, refl, ap, ◌∙◌, le_trans}
use Rattle.std.specs.FinMap
use Rattle.pf_entry.specs.Maps.{Map, Numbers}
use Rattle.pf_entry.specs.Sets
use Rattle.pf_entry.proofs.Lists.{every_more, every_get}
use Rattle.pf_entry.specs.declared.ops.Op.{Op}
use Rattle.pf_entry.specs.declared.ops.Op.TheVariants.{Write, Noop, Mark}
use Rattle.pf_entry.specs.declared.entries.Named.{Named}
use Rattle.pf_entry.specs.declared.entries.Entry.{Entry}
use Rattle.pf_entry.specs.declared.entries.VoteLog.{VoteLog}
use Rattle.pf_entry.specs.declared.packets.Packet.{Packet}
use Rattle.pf_entry.specs.declared.packets.Body.{Body}
use Rattle.pf_entry.specs.declared.packets.Body.TheVariants.{RequestVote, Vote, Accept, Ack, Nack, Commit, Probe, ProbeOk, Image}
use Rattle.pf_entry.specs.Canonical.{IsCanonicalOp, IsCanonicalName, IsCanonicalEntry, IsCanonicalVote, IsCanonicalImage, IsCanonicalMessage, IsCanonicalPacket, second_format}
use Rattle.pf_protocol.specs.Servers.{Setup, Server, Running}
use Rattle.pf_protocol.specs.Groups.{Sent}
use Rattle.pf_protocol.specs.Histories.{History, replay, RunsAs}
use Rattle.pf_protocol.specs.Answers.{IsSetup, IsLegal}
use Rattle.pf_protocol.specs.Fitting.{OpFits, NameFits, EntryFits, StartFits, VoteFits, SlotsFit, SectorsFit, BodyFits, PacketFits}
use Rattle.pf_protocol.proofs.Legal.{legal_fits}
use Rattle.pf_entry.proofs.MapSizes.{few_keys}

-- no more starts than terms
pub few_starts : (n t : ℕ) (starts : Map ℕ) → ((term first : ℕ) → FinMap.get starts term ≡ Some first → StartFits n t term first) → FinMap.len starts ≤ t
few_starts n t starts fit = few_keys t 0 starts (λ term first at. let f = fit term first at in (omega (arith, f.term_is), omega (arith, f.term_low)))

-- the starts of a vote are few
abbrev pub HasFewStarts : Body → Type 0
HasFewStarts (Vote v) = FinMap.len v.starts ≤ 130
HasFewStarts _ = Unit {0}

module _ (setup : Setup) (is : IsSetup setup) (n t : ℕ) where
  op_canonical : (op : Op) → OpFits setup op → IsCanonicalOp second_format op
  unfolding second_format
  op_canonical (Write range payload) f = (f.0, f.1, f.2)
  op_canonical Noop f = tt
  op_canonical Mark f = refl

  name_canonical : (slot : ℕ) (m : Named) → NameFits setup slot m → IsCanonicalName second_format slot m
  unfolding second_format
  name_canonical slot m f = record { below = f.below; range = f.span; marks = λ _. refl }

  few_names : (names : ℕ) → names ≤ setup.names → names ≤ second_format.names
  unfolding second_format
  few_names names low = le_trans low is.few_names

  entry_canonical : (e : Entry) → EntryFits setup n t e → IsCanonicalEntry second_format e
  entry_canonical e f = record {
    slot = f.slot;
    term = f.term;
    first = f.first;
    few = few_names (length e.look) f.few;
    ascending = f.ascending;
    named = every_more (NameFits setup e.slot) (IsCanonicalName second_format e.slot) (λ m x. name_canonical e.slot m x) e.look f.named;
    merged = f.merged;
    op = op_canonical e.op f.op;
  }

  in_window : (base slot : ℕ) → slot ≤ base + setup.window → slot ≤ base + second_format.window
  unfolding second_format
  in_window base slot low = omega (arith, low, is.window)

  vote_canonical : (v : VoteLog) → FinMap.len v.starts ≤ 130 → VoteFits setup n t v → IsCanonicalVote second_format v
  vote_canonical v few f = record {
    starts = few_enough (FinMap.len v.starts) few;
    entries = λ slot e at. let x = f.log slot e at in record { canonical = entry_canonical e x.fits; in_slot = x.in_slot; is_above = x.is_above; within = in_window v.base slot x.within };
  }
    where
      few_enough : (k : ℕ) → k ≤ 130 → k < 2 ^ 16
      few_enough k low = omega arith

  image_canonical : (base : ℕ) (applied : Numbers) (sectors : List (List ℕ)) → SlotsFit setup n base applied → SectorsFit setup sectors → IsCanonicalImage base applied sectors
  image_canonical base applied sectors slots sized = record {
    above = λ slot at. (slots slot at).0;
    few = few_slots;
    some = omega (arith, sized.0, is.some_sectors);
    fits = omega (arith, sized.0, is.few_sectors);
    eighths = (is.blocks.0, sized.0 ∙ is.blocks.1);
    bytes = sized.1;
  }
    where
      few_slots : Sets.len applied < 2 ^ 32
      few_slots = omega (arith, is.window, few_keys setup.window base applied (λ q x at. let f = slots q (ap is_some at) in (f.0, f.1)))

  message_canonical : (term : ℕ) (body : Body) → HasFewStarts body → BodyFits setup n t term body → IsCanonicalMessage term body
  message_canonical term (RequestVote base) few f = tt
  message_canonical term (Vote v) few f = vote_canonical v few f
  message_canonical term (Accept e) few f = (entry_canonical e f.0, f.1)
  message_canonical term (Ack slot upto_there) few f = tt
  message_canonical term Nack few f = tt
  message_canonical term (Commit slot) few f = tt
  message_canonical term (Probe number) few f = tt
  message_canonical term (ProbeOk number upto_there) few f = tt
  message_canonical term (Image base applied sectors) few f = image_canonical base applied sectors f.1 f.2

  pub packet_canonical : (p : Packet) → HasFewStarts p.body → PacketFits setup n t p → IsCanonicalPacket p
  packet_canonical p few f = record { from = f.from; to = f.to; apart = f.apart; term = f.term; message = message_canonical p.term p.body few f.body }

  few_said : t ≤ 65 → (term : ℕ) (body : Body) → BodyFits setup n t term body → HasFewStarts body
  few_said few term (RequestVote base) f = tt
  few_said few term (Vote v) f = omega (arith, few, few_starts n t v.starts f.starts)
  few_said few term (Accept e) f = tt
  few_said few term (Ack slot upto_there) f = tt
  few_said few term Nack f = tt
  few_said few term (Commit slot) f = tt
  few_said few term (Probe number) f = tt
  few_said few term (ProbeOk number upto_there) f = tt
  few_said few term (Image base applied sectors) f = tt

-- every packet of a legal history has a spelling
pub legal_packets : (setup : Setup) (history : History) → IsLegal setup history → (k : ℕ) (sent : Sent) → slice_get (replay setup history).packets k ≡ Some sent → IsCanonicalPacket sent.packet
legal_packets setup history is k sent at =
    let g = replay setup history in
    let f = legal_fits setup history is in
    let fits = every_get (λ sent. PacketFits setup (length history) (suc g.elections) sent.packet) g.packets k sent f.packets at in
    packet_canonical setup is.is_setup (length history) (suc g.elections) sent.packet (few_said setup is.is_setup (length history) (suc g.elections) (omega (arith, f.elections)) sent.packet.term sent.packet.body fits.body) fits

-- as many starts as elections, and one
pub legal_starts : (setup : Setup) (history : History) → IsLegal setup history → (i : ℕ) (s : Server) → RunsAs (replay setup history) i s → FinMap.len s.durable.starts ≤ 65
legal_starts setup history is i s at =
    let f = legal_fits setup history is in
    let few = few_starts (length history) (suc (replay setup history).elections) s.durable.starts (f.servers i (Running s) at).1.durable.vote.starts in
    omega (arith, few, f.elections)
