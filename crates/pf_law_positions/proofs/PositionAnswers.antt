-- What was answered in a position, by the deeds.
use Rattle.std.proofs.Common.{◌≡◌, ℕ, ◌<◌, inl, inr, ◌≤◌, List, map, take, Option, Some, slice_get, arith, sym, ap, subst, ◌∙◌}
use Rattle.std.proofs.lemmas.Option.{same_Some}
use Rattle.std.proofs.lemmas.Bool.{cases_lt}
use Rattle.pf_entry.specs.Ops.{Sector}
use Rattle.pf_entry.specs.declared.ops.Op.{Op}
use Rattle.pf_protocol.specs.Groups.{Answered}
use Rattle.pf_law_registers.specs.Orders.{given}
use Rattle.pf_paxos.specs.declared.block.Block.{Block}
use Rattle.pf_paxos.specs.Registers.{Ask, AsksWrite, AsksRead, Reply, Written, Gives, AskIsAnswered, HasWritten, ClientHasRead}
use Rattle.pf_law_positions.specs.Deeds.{PortAsk, Puts, Gets, PortReply, Put, Got, Deed, Takes, Groups, DeedIsPending, WasPut, WasGot, Reads, Brings, DeedsFit}
use Rattle.pf_law_positions.specs.Homes.{PositionHome, chunk_of_block, sector_of, ask_in, turns_in}
use Rattle.pf_law_positions.specs.Hosted.{IsHosted}
use Rattle.pf_law_registers.proofs.AnswersKept.{answered_stays}
use Rattle.pf_law_positions.proofs.Answers.{prefix_taken}
use Rattle.pf_law_positions.proofs.TakenReads.{IsTakenUp, answered_taken_up}
use Rattle.pf_law_positions.proofs.DeedTurns.{puts_it, gets_it, AsksAt, asks_at, gives_at, turn_asks}

-- one client's turn at one moment is one
pub same_ask : (deeds : List Deed) (k client : ℕ) (its other : Option PortReply) (a b : PortAsk) → slice_get deeds k ≡ Some (Takes client its (Some a)) → slice_get deeds k ≡ Some (Takes client other (Some b)) → a ≡ b
same_ask deeds k client its other a b at there =
    let e : Takes client its (Some a) ≡ Takes client other (Some b) = same_Some _ _ (sym at ∙ there) in
    cc

same_half : (a b : ℕ) → AsksRead a ≡ AsksRead b → a ≡ b
same_half a b e = cc

module _ (read : Sector → Block) (home : PositionHome) (deeds : List Deed) where
  -- an answered ask of the position is the one that was pending
  record SameAsk (client asked : ℕ) (pending : PortAsk) (was : ℕ) (ask : Ask) : Type 0 where
    same : was ≡ asked
    is : ask_in read home client pending ≡ Some ask

  same_moment : (client asked answered was : ℕ) (ask its : Ask) (reply : Reply) (pending : PortAsk) → AskIsAnswered (turns_in read home deeds) client asked answered ask reply → DeedIsPending deeds client was answered pending → ask_in read home client pending ≡ Some its → SameAsk client asked pending was ask
  same_moment client asked answered was ask its reply pending answer p of =
      elim (cases_lt asked was) [
        | inl later ↦
            let t = turn_asks read home deeds was client p.reply pending its p.at of in
            absurd (answer.no_other was t.turn later p.earlier t.at t.its)
        | inr not_later ↦ elim (cases_lt was asked) [
          | inl sooner ↦ absurd (p.no_other asked a.its (Some a.next) sooner answer.later a.at)
          | inr not_sooner ↦
              let same : was ≡ asked = omega (arith, not_later, not_sooner) in
              let e = same_ask deeds asked client a.its p.reply a.next pending a.at (subst (λ k. slice_get deeds k ≡ Some (Takes client p.reply (Some pending))) same p.at) in
              record { same = same; is = ap (ask_in read home client) (sym e) ∙ a.is }
        ]
      ]
    where
      a : AsksAt read home deeds asked client ask
      a = asks_at read home deeds asked client answer.turn ask answer.at answer.its answer.asks

  module _ (groups : Groups) where
    -- the answered write of a block
    pub record WriteOf (client asked answered : ℕ) : Type 0 where
      pub epoch : ℕ
      pub by : ℕ
      pub op : Op
      pub next : Option PortAsk
      pub at : slice_get deeds answered ≡ Some (Takes client (Some (Put (chunk_of_block home client) epoch by op)) next)
      pub put : WasPut groups deeds (chunk_of_block home client) epoch client answered by op
      pub same : put.asked ≡ asked
      pub bytes : Sector
      pub gives : given op (sector_of home client) ≡ Some bytes

    pub write_of : (client asked answered : ℕ) (block : Block) → DeedsFit groups deeds (chunk_of_block home client) → HasWritten (turns_in read home deeds) client asked answered block → WriteOf client asked answered
    write_of client asked answered block fits wrote =
        let g = gives_at read home deeds answered client wrote.next Written wrote.at_next wrote.its_next wrote.gives in
        let p = puts_it read home client g.its g.is in
        let there : slice_get deeds answered ≡ Some (Takes client (Some (Put (chunk_of_block home client) p.epoch p.by p.op)) g.next) = g.at ∙ ap (λ z. Some (Takes client (Some z) g.next)) (p.is_it ∙ ap (λ n. Put n p.epoch p.by p.op) p.own.in_chunk) in
        let put = fits.put client answered p.epoch p.by p.op g.next there in
        record {
          epoch = p.epoch;
          by = p.by;
          op = p.op;
          next = g.next;
          at = there;
          put = put;
          same = (same_moment client asked answered put.asked (AsksWrite block) p.ask Written (Puts (chunk_of_block home client) p.op) wrote put.pending (ap (λ n. ask_in read home client (Puts n p.op)) (sym p.own.in_chunk) ∙ p.asked)).same;
          bytes = p.own.bytes;
          gives = p.own.gives;
        }

    -- the answered read of a half
    pub record ReadOf (client half asked answered : ℕ) (blocks : List Block) : Type 0 where
      pub low : half < 2
      pub epoch : ℕ
      pub by : ℕ
      pub answer : Answered
      pub next : Option PortAsk
      pub at : slice_get deeds answered ≡ Some (Takes client (Some (Got (home.chunk half) epoch by answer)) next)
      pub got : WasGot groups deeds (home.chunk half) epoch client answered by answer
      pub within : epoch ≤ groups.moves (home.chunk half)
      pub taken : IsTakenUp (groups.setup (home.chunk half) epoch) (groups.history (home.chunk half) epoch) got.place got.range answer
      pub same : got.asked ≡ asked
      pub first : answer.range.first ≡ home.first half
      pub eight : answer.range.count ≡ 8
      pub are : blocks ≡ map read answer.bytes

    pub read_of : (client half asked answered : ℕ) (blocks : List Block) → IsHosted groups read home deeds → ClientHasRead (turns_in read home deeds) client half asked answered blocks → ReadOf client half asked answered blocks
    read_of client half asked answered blocks hosted has =
        let g = gives_at read home deeds answered client has.next (Gives blocks) has.at_next has.its_next has.gives in
        let p = gets_it read home client g.its blocks g.is in
        let there : slice_get deeds answered ≡ Some (Takes client (Some (Got (home.chunk p.half.half) p.epoch p.by p.answer)) g.next) = g.at ∙ ap (λ z. Some (Takes client (Some z) g.next)) (p.is_it ∙ ap (λ n. Got n p.epoch p.by p.answer) p.half.in_chunk) in
        let got = (hosted.fits p.half.half p.half.low).got client answered p.epoch p.by p.answer g.next there in
        let within = (hosted.fits p.half.half p.half.low).reached answered p.epoch _ there (Brings p.by _ (Reads client p.answer g.next)) in
        let stays = answered_stays (groups.setup (home.chunk p.half.half) p.epoch) (take p.by (groups.history (home.chunk p.half.half) p.epoch)) (groups.history (home.chunk p.half.half) p.epoch) got.k p.answer (prefix_taken p.by (groups.history (home.chunk p.half.half) p.epoch)) got.answered in
        let taken = answered_taken_up (groups.setup (home.chunk p.half.half) p.epoch) (groups.history (home.chunk p.half.half) p.epoch) got.place got.server got.k got.range p.answer (hosted.legal p.half.half p.epoch p.half.low within) got.taken stays in
        let of = ap (λ r. ask_in read home client (Gets (home.chunk p.half.half) r)) (sym taken.same_range) ∙ ap (λ n. ask_in read home client (Gets n p.answer.range)) (sym p.half.in_chunk) ∙ p.asked in
        let m = same_moment client asked answered got.asked (AsksRead half) p.ask (Gives blocks) (Gets (home.chunk p.half.half) got.range) has got.pending of in
        let one : p.half.half ≡ half = same_half p.half.half half (sym p.half.is ∙ same_Some p.ask (AsksRead half) (sym of ∙ m.is)) in
        let found : ReadOf client p.half.half asked answered blocks = record { low = p.half.low; epoch = p.epoch; by = p.by; answer = p.answer; next = g.next; at = there; got = got; within = within; taken = taken; same = m.same; first = p.half.first; eight = p.half.eight; are = p.are } in
        subst (λ h. ReadOf client h asked answered blocks) one found
