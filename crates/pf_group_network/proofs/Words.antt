-- The numbers of a packet fit their types.
use Rattle.std.proofs.Common.{ℕ, ◌<◌, ◌^◌, arith, ap}
use Rattle.std.specs.FinMap
use Rattle.std.specs.Option.{is_some}
use Rattle.pf_entry.proofs.Lists.{every_map}
use Rattle.pf_codec.proofs.MapLaws.{every_of_gets}
use Rattle.pf_entry.specs.Maps.{Numbers}
use Rattle.pf_entry.specs.declared.entries.VoteLog.{VoteLog}
use Rattle.pf_entry.specs.declared.packets.Packet.{Packet}
use Rattle.pf_entry.specs.declared.packets.Body.{Body}
use Rattle.pf_entry.specs.declared.packets.Body.TheVariants.{RequestVote, Vote, Accept, Ack, Nack, Commit, Probe, ProbeOk, Image}
use Rattle.pf_wire.specs.Packets.{MessageFits, PacketFitsWords as HasWords}
use Rattle.pf_codec.specs.Fitting.{EntryFitsWords as EntryWords, VoteFitsWords as VoteWords, SlotsFitWords as SlotWords}
use Rattle.pf_protocol.specs.Servers.{Setup}
use Rattle.pf_protocol.specs.Answers.{IsSetup}
use Rattle.pf_protocol.specs.Fitting.{BodyFits, PacketFits, SlotsFit, VoteFits}
use Rattle.pf_server_memory.specs.Bounds.{far}
use Rattle.pf_server_memory.proofs.Canonicals.{has_words}

module _ (setup : Setup) (is : IsSetup setup) (n t : ℕ) (low : n < far) (t_low : t < far) where
  slot_words : (base : ℕ) (slots : Numbers) → SlotsFit setup n base slots → SlotWords slots
  slot_words base slots f = every_map (λ slot. slot < 2 ^ 64) (λ row. row.0) (FinMap.entries slots) (every_of_gets (λ slot x. slot < 2 ^ 64) slots (λ slot x at. omega (arith, (f slot (ap is_some at)).2, low)))

  vote_words : (v : VoteLog) → VoteFits setup n t v → VoteWords v
  vote_words v f = record {
    base = omega (arith, f.base, low);
    starts = every_of_gets (λ term first. (term < 2 ^ 64) × (first < 2 ^ 64)) v.starts (λ term first at. (let x = f.starts term first at in (omega (arith, x.term_low, t_low), omega (arith, x.first_low, low))));
    log = every_map EntryWords (λ row. row.1) (FinMap.entries v.log) (every_of_gets (λ slot e. EntryWords e) v.log (λ slot e at. has_words setup is n t (omega (arith, low)) t_low e (f.log slot e at).fits));
  }

  message_words : (term : ℕ) (body : Body) → BodyFits setup n t term body → MessageFits body
  message_words term (RequestVote base) f = omega (arith, f, low)
  message_words term (Vote v) f = vote_words v f
  message_words term (Accept e) f = has_words setup is n t (omega (arith, low)) t_low e f.0
  message_words term (Ack slot upto) f = (omega (arith, f.0, low), omega (arith, f.1, low))
  message_words term Nack f = tt
  message_words term (Commit slot) f = omega (arith, f, low)
  message_words term (Probe number) f = omega (arith, f, low)
  message_words term (ProbeOk number upto) f = (omega (arith, f.0, low), omega (arith, f.1, low))
  message_words term (Image base applied sectors) f = (omega (arith, f.0, low), slot_words base applied f.1)

  pub packet_words : (p : Packet) → PacketFits setup n t p → HasWords p
  packet_words p f = (omega (arith, f.term_low, t_low), message_words p.term p.body f.body)
