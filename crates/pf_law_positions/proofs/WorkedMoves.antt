-- Deeds over a move fit a worked history.
use Rattle.std.proofs.Common.{◌≡◌, ℕ, zero, suc, ◌/◌, ◌<◌, ◌⊎◌, inl, inr, Bool, false, List, [], length, Option, Some, None, slice_get, arith, refl, sym, ap, subst}
use Rattle.std.specs.Prelude.{replicate}
use Rattle.std.proofs.lemmas.Option.{same_Some, none-some}
use Rattle.std.proofs.lemmas.Bool.{false≢true}
use Rattle.pf_entry.specs.Ops.{Sector, zero_sector}
use Rattle.pf_entry.specs.declared.ops.Op.{Op}
use Rattle.pf_protocol.specs.declared.answers.Answer.{Answer}
use Rattle.pf_protocol.specs.declared.events.Event.TheVariants.{Submit}
use Rattle.pf_protocol.specs.declared.events.Happening.{Happening}
use Rattle.pf_protocol.specs.Groups.{Answered}
use Rattle.pf_protocol.specs.Ports.{Submission}
use Rattle.pf_paxos.specs.declared.block.Block.{Block}
use Rattle.pf_paxos.specs.Blocks.{zero_block}
use Rattle.pf_law_positions.specs.Deeds.{PortAsk, Puts, Gets, PortReply, Put, Got, Deed, Takes, Submits, BringsBy, Acks, Reads, IsOfEpoch, Hands, Brings, IsPort, WasGot, DeedsFit}
use Rattle.pf_law_positions.specs.Moves.{mover_into, ChunkIsMoved}
use Rattle.pf_law_positions.specs.Homes.{sector_of, turns_in}
use Rattle.pf_law_positions.specs.Hosted.{AreAlone, IsHosted}
use Rattle.pf_law_positions.specs.Carried.{eight, zero_read, zero_answer, two_chunks, moved_groups, moved_deeds, moved_turns}
use Rattle.pf_law_positions.proofs.ZeroRead.{answered, legal}
use Rattle.pf_law_positions.proofs.WorkedDeeds.{is_submit, next_there}

record Hand (k client chunk epoch place : ℕ) : Type 0 where
  at : k ≡ 1
  in_epoch : epoch ≡ 1

hand : (k client chunk epoch place : ℕ) → slice_get moved_deeds k ≡ Some (Submits client chunk epoch place) → Hand k client chunk epoch place
hand zero client chunk epoch place is = absurd (cc)
hand (suc zero) client chunk epoch place is = record { at = refl; in_epoch = cc }
hand (suc (suc zero)) client chunk epoch place is = absurd (cc)
hand (suc (suc (suc k))) client chunk epoch place is = absurd (none-some _ is)

abbrev Which : (k client : ℕ) (reply : Option PortReply) (ask : Option PortAsk) → Type 0
Which k client reply ask =
    ((k ≡ 0) × (client ≡ 3) × (reply ≡ None) × (ask ≡ Some (Gets 0 eight)))
    ⊎ ((k ≡ 2) × (client ≡ 3) × (reply ≡ Some (Got 0 1 3 zero_answer)) × (ask ≡ None))

which : (k client : ℕ) (reply : Option PortReply) (ask : Option PortAsk) → slice_get moved_deeds k ≡ Some (Takes client reply ask) → Which k client reply ask
which zero client reply ask is = inl (refl, cc, cc, cc)
which (suc zero) client reply ask is = absurd (cc)
which (suc (suc zero)) client reply ask is = inr (refl, cc, cc, cc)
which (suc (suc (suc k))) client reply ask is = absurd (none-some _ is)

-- where an answer is brought
record BroughtAt (k chunk epoch by : ℕ) : Type 0 where
  at : k ≡ 2
  in_chunk : chunk ≡ 0
  in_epoch : epoch ≡ 1

brings : (k chunk epoch by : ℕ) (deed : Deed) → slice_get moved_deeds k ≡ Some deed → BringsBy chunk epoch by deed → BroughtAt k chunk epoch by
brings k chunk epoch by _ at (Acks client op ask) = elim (which k client (Some (Put chunk epoch by op)) ask at) [
  | inl one ↦ let e = one.2 in absurd (cc)
  | inr two ↦ let e = two.2 in absurd (cc)
]
brings k chunk epoch by _ at (Reads client read ask) = elim (which k client (Some (Got chunk epoch by read)) ask at) [
  | inl one ↦ let e = one.2 in absurd (cc)
  | inr two ↦ let e = two.2 in record { at = two.0; in_chunk = cc; in_epoch = cc }
]

epoch_is : (k chunk epoch : ℕ) (deed : Deed) → slice_get moved_deeds k ≡ Some deed → IsOfEpoch chunk epoch deed → epoch ≡ 1
epoch_is k chunk epoch _ at (Hands client place) = (hand k client chunk epoch place at).in_epoch
epoch_is k chunk epoch _ at (Brings by deed is) = (brings k chunk epoch by deed at is).in_epoch

no_port : (chunk epoch client : ℕ) → IsPort moved_groups moved_deeds chunk epoch client
no_port chunk epoch client = record {
  happened = λ k a at. absurd (none-some a at);
  handed = λ k a at. absurd (none-some a at);
  in_order = λ k a b at there. absurd (none-some a at);
  term = λ k. 0;
  in_term = λ k a at x. absurd (none-some a at);
  no_lower = λ k a b at there. absurd (none-some a at);
  again = λ k a b at there same whole. absurd (none-some a at);
}

was_got : WasGot moved_groups moved_deeds 0 1 3 2 3 zero_answer
was_got = record {
  asked = 0;
  range = eight;
  pending = record { reply = None; at = refl; earlier = omega arith; no_other = λ k its next lt less there. by_turn k 3 its next (which k 3 its next there) lt less };
  handed = 1;
  after = omega arith;
  place = 0;
  at = refl;
  server = 0;
  taken = refl;
  k = 0;
  answered = ap (λ l. slice_get l 0) answered;
}
  where
    by_turn : (k client : ℕ) (its : Option PortReply) (next : Option PortAsk) → Which k client its next → 0 < k → k < 2 → ⊥
    by_turn k client its next (inl m) lt less = omega (arith, m.0, lt, less)
    by_turn k client its next (inr m) lt less = omega (arith, m.0, lt, less)

by_got : (chunk client moment epoch by : ℕ) (read : Answered) (ask : Option PortAsk) → Which moment client (Some (Got chunk epoch by read)) ask → WasGot moved_groups moved_deeds chunk epoch client moment by read
by_got chunk client moment epoch by read ask (inl m) = let e = m.2 in absurd (cc)
by_got chunk client moment epoch by read ask (inr m) =
    let e = m.2 in
    let e_chunk : 0 ≡ chunk = cc in
    let e_epoch : 1 ≡ epoch = cc in
    let e_by : 3 ≡ by = cc in
    let e_read : zero_answer ≡ read = cc in
    subst (λ n. WasGot moved_groups moved_deeds chunk epoch n moment by read) (sym m.1)
    (subst (λ n. WasGot moved_groups moved_deeds chunk epoch 3 n by read) (sym m.0)
    (subst (λ n. WasGot moved_groups moved_deeds n epoch 3 2 by read) e_chunk
    (subst (λ n. WasGot moved_groups moved_deeds 0 n 3 2 by read) e_epoch
    (subst (λ n. WasGot moved_groups moved_deeds 0 1 3 2 n read) e_by
    (subst (λ n. WasGot moved_groups moved_deeds 0 1 3 2 3 n) e_read was_got)))))

the_fits : (chunk : ℕ) → DeedsFit moved_groups moved_deeds chunk
the_fits chunk = record {
  places = λ moment later epoch client other place next lt at there. absurd (omega (arith, lt, (hand moment client chunk epoch place at).at, (hand later other chunk epoch next there).at));
  rises = λ moment later epoch client by place deed lt at is there. absurd (omega (arith, lt, (brings moment chunk epoch by deed at is).at, (hand later client chunk epoch place there).at));
  goes_on = λ moment later epoch other deed next lt at is there that. omega (arith, epoch_is moment chunk epoch deed at is, epoch_is later chunk other next there that);
  reached = λ moment epoch deed at is. omega (arith, epoch_is moment chunk epoch deed at is);
  port = λ epoch client le. no_port chunk epoch client;
  waits = λ client asked moment op reply next p at. elim (which asked client p.reply (Some (Puts chunk op)) p.at) [
    | inl one ↦ let e = one.3 in absurd (cc)
    | inr two ↦ let e = two.3 in absurd (cc)
  ];
  put = λ client moment epoch by op ask at. elim (which moment client (Some (Put chunk epoch by op)) ask at) [
    | inl one ↦ let e = one.2 in absurd (cc)
    | inr two ↦ let e = two.2 in absurd (cc)
  ];
  got = λ client moment epoch by read ask at. by_got chunk client moment epoch by read ask (which moment client (Some (Got chunk epoch by read)) ask at);
}

abbrev submits : Option Happening → Bool
submits (Some h) = is_submit h.event
submits None = false

no_submit : (n server : ℕ) (op : Op) (answer : Answer) → slice_get zero_read n ≡ Some (record { event = Submit server op; answer = answer }) → ⊥
no_submit zero server op answer is = false≢true (ap submits is)
no_submit (suc zero) server op answer is = false≢true (ap submits is)
no_submit (suc (suc zero)) server op answer is = false≢true (ap submits is)
no_submit (suc (suc (suc n))) server op answer is = none-some _ is

alone_at : (mover port : List Submission) (x : ℕ) → AreAlone zero_read mover port x
alone_at mover port x before server op answer bytes p took gives =
    absurd (no_submit (length before) server op answer (next_there before zero_read (record { event = Submit server op; answer = answer }) p).0)

all_zeros : (n nth : ℕ) (bytes : Sector) → slice_get (replicate n zero_sector) nth ≡ Some bytes → bytes ≡ zero_sector
all_zeros zero nth bytes at = absurd (none-some bytes at)
all_zeros (suc n) zero bytes at = sym (same_Some zero_sector bytes at)
all_zeros (suc n) (suc nth) bytes at = all_zeros n nth bytes at

the_move : (chunk epoch : ℕ) → epoch < 1 → ChunkIsMoved moved_groups moved_deeds chunk 0 epoch zero_answer
the_move chunk zero lt = record {
  k = 0;
  answered = ap (λ l. slice_get l 0) answered;
  from = refl;
  eight = refl;
  place = 0;
  server = 0;
  taken = refl;
  after_move = λ k nth a its at inside gives. absurd (none-some a at);
  after_answers = λ moment by deed at is. absurd (omega (arith, (brings moment chunk 0 by deed at is).in_epoch));
  rule = record {
    happened = λ k a at. absurd (none-some a at);
    in_order = λ j k a b at there less. absurd (none-some a at);
    ascends = λ j k a b at there less. absurd (none-some a at);
    no_lower = λ j k a b at there less. absurd (none-some a at);
    again = λ j k a b at there less. absurd (none-some a at);
    waits = λ j k a b at there less. absurd (none-some a at);
  };
  same = λ k nth a its at inside gives. absurd (none-some a at);
  all = λ nth bytes inside at. inl (all_zeros 8 nth bytes at);
  clients_wait = λ moment client by at k nth a its there inside gives. absurd (none-some a there);
}
the_move chunk (suc epoch) lt = absurd (omega (arith, lt))

pub is_hosted : (read : Sector → Block) → read zero_sector ≡ zero_block → IsHosted moved_groups read two_chunks moved_deeds
is_hosted read zeros = record {
  zeros = zeros;
  legal = λ half epoch low le. legal;
  inside = λ half epoch low le. omega arith;
  fits = λ half low. the_fits half;
  alone = λ block epoch low le. alone_at (mover_into moved_groups (block / 8) epoch) [] (sector_of two_chunks block);
  last = λ half epoch. zero_answer;
  moved = λ half epoch low lt. the_move half epoch lt;
}

pub the_turns : (read : Sector → Block) → turns_in read two_chunks moved_deeds ≡ moved_turns (read zero_sector)
the_turns read = refl
