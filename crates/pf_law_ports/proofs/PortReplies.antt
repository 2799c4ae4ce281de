-- A reply is what the group answered.
use Rattle.std.proofs.Common.{◌≡◌, ℕ, true, false, Bool, List, length, Option, Some, None, slice_get, refl, sym, ap, subst, ◌∙◌}
use Rattle.std.specs.Prelude.{◌↔◌, IsTrue}
use Rattle.std.proofs.lemmas.Option.{same_Some, none-some}
use Rattle.pf_base.specs.Span.{Span}
use Rattle.pf_base.specs.declared.asks.Ask.{Ask}
use Rattle.pf_base.specs.declared.asks.Ask.TheVariants.{Write as WriteAsk, Read as ReadAsk}
use Rattle.pf_base.specs.declared.asks.Reply.{Reply}
use Rattle.pf_base.specs.declared.asks.Reply.TheVariants.{Written, Bytes}
use Rattle.pf_entry.specs.Ops.{Sector}
use Rattle.pf_protocol.specs.declared.answers.Answer.TheVariants.{Read as ReadIs}
use Rattle.pf_protocol.specs.declared.events.Event.TheVariants.{Fetch}
use Rattle.pf_protocol.specs.Servers.{Setup}
use Rattle.pf_protocol.specs.Groups.{Group}
use Rattle.pf_protocol.specs.Histories.{replay}
use Rattle.pf_protocol.specs.Answers.{IsLegal}
use Rattle.pf_protocol.specs.Ports.{Submission, WriteHasEnded}
use Rattle.pf_group_network.specs.Showing.{HasAnswer}
use Rattle.pf_asks.specs.declared.port.Sent.{Sent}
use Rattle.pf_asks.specs.declared.port.Sent.TheVariants.{Slot, Number}
use Rattle.pf_asks.specs.Desks.{DeskCall, WasAcked, Took}
use Rattle.pf_asks.specs.Ports.{PortIs, LooksFor, reply_if}
use Rattle.pf_law_positions.proofs.TakenReads.{slot_acked, answered_taken_up}
use Rattle.pf_law_positions.proofs.WorkedDeeds.{next_there}
use Rattle.pf_law_ports.specs.Calls.{PortPast, fetching, HasAcked, PastSays}
use Rattle.pf_law_ports.specs.Replies.{AskWasWritten, WasRead, IsReplied}
use Rattle.pf_law_ports.proofs.BetweenSteps.{IsLastWrite, IsLastRead, IsSent, Stands}

-- a look leaves all as it was
pub look_leaves : (setup : Setup) (old new : PortPast) (sent : Sent) (last : ℕ) (look : DeskCall) (reply : Option Reply) → LooksFor sent last look reply → PastSays setup old look new → new ≡ old
look_leaves setup old new (Slot slot) last (WasAcked term its is) reply looks says = says.0
look_leaves setup old new (Number number) last (Took its None) reply looks says = says
look_leaves setup old new (Number number) last (Took its (Some sectors)) reply looks says = says.0
look_leaves setup old new sent last look reply looks says = absurd looks

record IsAcked (g : Group) (last slot : ℕ) (reply : Reply) : Type 0 where
  written : reply ≡ Written
  acked : HasAcked g last slot

by_test : (g : Group) (last slot : ℕ) (reply : Reply) (is : Bool) → Some reply ≡ reply_if is → (IsTrue is ↔ HasAcked g last slot) → IsAcked g last slot reply
by_test g last slot reply true same tells = record { written = same_Some reply Written same; acked = tells.0 refl }
by_test g last slot reply false same tells = absurd (none-some reply (sym same))

by_slot : (setup : Setup) (old new : PortPast) (slot last : ℕ) (look : DeskCall) (reply : Reply) → LooksFor (Slot slot) last look (Some reply) → PastSays setup old look new → IsAcked (replay setup old.history) last slot reply
by_slot setup old new slot last (WasAcked term its is) reply looks says =
    by_test (replay setup old.history) last slot reply is looks.2
    (subst (λ n. IsTrue is ↔ HasAcked (replay setup old.history) n slot) looks.0 (subst (λ n. IsTrue is ↔ HasAcked (replay setup old.history) term n) looks.1 says.1))
by_slot setup old new slot last look reply looks says = absurd looks

record IsGiven (g : Group) (number : ℕ) (reply : Reply) : Type 0 where
  sectors : List Sector
  bytes : reply ≡ Bytes sectors
  has : HasAnswer g.answered number sectors

by_number : (setup : Setup) (old new : PortPast) (number last : ℕ) (look : DeskCall) (reply : Reply) → LooksFor (Number number) last look (Some reply) → PastSays setup old look new → IsGiven (replay setup old.history) number reply
by_number setup old new number last (Took its None) reply looks says = absurd (none-some reply (sym looks.1))
by_number setup old new number last (Took its (Some sectors)) reply looks says = record {
  sectors = sectors;
  bytes = same_Some reply (Bytes sectors) looks.1;
  has = subst (λ n. HasAnswer (replay setup old.history).answered n sectors) looks.0 says.1;
}
by_number setup old new number last look reply looks says = absurd looks

module _ (setup : Setup) (past : PortPast) (port : PortIs) (s : Stands setup past port) (legal : IsLegal setup past.history) where
  was_written : (chunk slot : ℕ) (range : Span) (sectors : List Sector) → port.ask ≡ Some (WriteAsk chunk range sectors) → IsLastWrite setup past.asks past.writes port.last slot → HasAcked (replay setup past.history) port.last slot → AskWasWritten setup past range sectors
  was_written chunk slot range sectors pending w acked = record {
    ended = record {
      m = w.m;
      final = w.final;
      at = w.at;
      same = w.same;
      no_later = λ k b there same. w.no_later k b there;
      answered = (slot_acked setup past.history past.history w.final slot port.last acked.k legal (s.rule.happened w.m w.final w.at) w.took_slot w.in_term acked.at).answered;
    };
    op = s.own w.m w.final w.at w.same (WriteAsk chunk range sectors) pending;
    slot = slot;
    took_slot = w.took_slot;
    term = port.last;
    in_term = w.in_term;
    acked = acked;
  }

  was_read : (number : ℕ) (range : Span) (sectors : List Sector) → IsLastRead past range number → HasAnswer (replay setup past.history).answered number sectors → WasRead setup past range sectors
  was_read number range sectors r has =
      let numbered : r.final.answer ≡ ReadIs has.answer.number = r.numbered ∙ ap ReadIs (sym has.numbered) in
      let there : slice_get past.history (length r.final.before) ≡ Some (record { event = Fetch r.final.server r.final.range; answer = ReadIs has.answer.number }) =
      (next_there r.final.before past.history (fetching r.final) r.happened).0 ∙ ap (λ z. Some (record { event = Fetch r.final.server r.final.range; answer = z })) numbered in
      let up = answered_taken_up setup past.history (length r.final.before) r.final.server has.k r.final.range has.answer legal there has.there in
      record {
        m = r.m;
        final = r.final;
        at = r.at;
        same = r.same;
        no_later = r.no_later;
        asked = r.asked;
        happened = r.happened;
        k = has.k;
        read = has.answer;
        answered = has.there;
        numbered = numbered;
        of_range = up.same_range ∙ r.asked;
        gives = has.sectors;
      }

  pub replied : (new : PortPast) (ask : Ask) (sent : Sent) (look : DeskCall) (reply : Reply) → port.ask ≡ Some ask → IsSent setup past port.last (Some ask) (Some sent) → LooksFor sent port.last look (Some reply) → PastSays setup past look new → IsReplied setup past ask reply
  replied new (WriteAsk chunk range sectors) (Slot slot) look reply pending is looks says =
      let a = by_slot setup past new slot port.last look reply looks says in
      subst (IsReplied setup past (WriteAsk chunk range sectors)) (sym a.written) (was_written chunk slot range sectors pending is a.acked)
  replied new (ReadAsk chunk range) (Number number) look reply pending is looks says =
      let g = by_number setup past new number port.last look reply looks says in
      subst (IsReplied setup past (ReadAsk chunk range)) (sym g.bytes) (was_read number range g.sectors is g.has)
  replied new ask sent look reply pending is looks says = absurd is

  -- so each write of the port has ended
  pub all_ended : (ask : Ask) (reply : Reply) → port.ask ≡ Some ask → IsReplied setup past ask reply → (k : ℕ) (a : Submission) → slice_get past.writes k ≡ Some a → a.write ≡ past.asks → WriteHasEnded setup past.writes past.history a.write
  all_ended (WriteAsk chunk range sectors) Written pending is k a at same = subst (WriteHasEnded setup past.writes past.history) (sym same) is.ended
  all_ended (ReadAsk chunk range) (Bytes sectors) pending is k a at same = absurd (s.own k a at same (ReadAsk chunk range) pending)
  all_ended ask reply pending is k a at same = absurd is
