-- What is sent, one packet after another.
use Rattle.std.proofs.Common.{◌≡◌, ℕ, ◌+◌, ◌-◌, ◌<◌, ◌≤◌, Bool, true, false, ◌||◌, List, [], ◌∷◌, ◌++◌, length, length-append, append-nil, map, Option, Result, Ok, Err, nat_lt, sum_by, arith, refl, sym, ap, subst, ◌∙◌}
use Rattle.std.proofs.lemmas.Bool.Decides.{nat_tests}
use Rattle.std.proofs.lemmas.List.{map-append, append_assoc}
use Rattle.std.proofs.lemmas.List.Sums.{sum_by-append}
use Rattle.std.proofs.lemmas.Bool.{false≢true, true_from_ne_false}
use Rattle.pf_entry.specs.Sizes.{packet_size}
use Rattle.pf_entry.specs.declared.packets.Packet.{Packet}
use Rattle.pf_wire.specs.Packets.{packet_bytes}
use Rattle.pf_protocol.specs.declared.answers.Refusal.TheVariants.{PacketsFull}
use Rattle.pf_server_memory.specs.declared.faults.StepFault.{StepFault}
use Rattle.pf_server_memory.specs.declared.faults.StepFault.TheVariants.{NoMemory, Refused, Halted}
use Rattle.pf_server_memory.specs.Outgoing.{Outgoing, exceeds, sent_by, IsLastPacket, Sends}

sum_one : (p : Packet) → sum_by packet_size (p ∷ []) ≡ packet_size p
sum_one p = let e : 0 + packet_size p ≡ packet_size p = omega arith in e

-- no room for one packet more
pub no_place : (out : Outgoing) (p : Packet) → out.packet_room ≡ 0 → exceeds out (p ∷ []) ≡ true
unfolding exceeds
no_place out p none = ap (λ room. nat_lt room 1 || nat_lt out.byte_room (sum_by packet_size (p ∷ []))) none

pub no_bytes : (out : Outgoing) (p : Packet) → out.byte_room < packet_size p → exceeds out (p ∷ []) ≡ true
unfolding exceeds
no_bytes out p few =
    let more : nat_lt out.byte_room (packet_size p) ≡ true = grind (arith, nat_tests) in
    ap (λ n. nat_lt out.packet_room 1 || nat_lt out.byte_room n) (sum_one p) ∙ ap (λ b. nat_lt out.packet_room 1 || b) more ∙ or_true (nat_lt out.packet_room 1)
  where
    or_true : (b : Bool) → (b || true) ≡ true
    or_true true = refl
    or_true false = refl

-- refused for want of a place
pub no_place_left : {X : Type 0} (out new : Outgoing) (p : Packet) (r : Result X StepFault) (e : StepFault) → out.packet_room ≡ 0 → e ≡ Refused PacketsFull → (e2 : StepFault) × (r ≡ Err e2) × (e2 ≡ e)
    → Sends out new (p ∷ []) r
no_place_left out new p r e none full (e2, is, same) = subst (Sends out new (p ∷ [])) (sym (is ∙ ap Err (same ∙ full))) (refl, no_place out p none)

pub has_place : (out : Outgoing) (p : Packet) → 0 < out.packet_room → packet_size p ≤ out.byte_room → exceeds out (p ∷ []) ≡ false
unfolding exceeds
has_place out p some enough =
    let places : nat_lt out.packet_room 1 ≡ false = grind (arith, nat_tests) in
    let bytes : nat_lt out.byte_room (packet_size p) ≡ false = grind (arith, nat_tests) in
    ap (λ n. nat_lt out.packet_room 1 || nat_lt out.byte_room n) (sum_one p) ∙ ap (λ b. nat_lt out.packet_room 1 || b) bytes ∙ ap (λ b. b || false) places

pub one_sent : (out new : Outgoing) (p : Packet) (bytes : List ℕ) (room : ℕ) → bytes ≡ packet_bytes p → room ≡ packet_size p
    → new ≡ record { packets = out.packets ++ bytes ∷ []; packet_room = out.packet_room - 1; byte_room = out.byte_room - room; acked = out.acked } → new ≡ sent_by out (p ∷ [])
unfolding sent_by
one_sent out new p bytes room spelled size is =
    is ∙ (λ i. record { packets = out.packets ++ spelled i ∷ []; packet_room = out.packet_room - 1; byte_room = out.byte_room - (size ∙ sym (sum_one p)) i; acked = out.acked })

pub no_memory : {X : Type 0} (out new : Outgoing) (ps : List Packet) (r : Result X StepFault) → (e : StepFault) × (r ≡ Err e) × (e ≡ NoMemory) → Sends out new ps r
no_memory out new ps r (e, is, none) = subst (Sends out new ps) (sym (is ∙ ap Err none)) tt

-- there is room exactly where neither count is passed
fits_of : (a b c d : ℕ) → (nat_lt a b || nat_lt c d) ≡ false → (b ≤ a) × (d ≤ c)
fits_of a b c d is = (grind (arith, nat_tests), grind (arith, nat_tests))

fits_is : (a b c d : ℕ) → b ≤ a → d ≤ c → (nat_lt a b || nat_lt c d) ≡ false
fits_is a b c d le ge =
    let l : nat_lt a b ≡ false = grind (arith, nat_tests) in
    let r : nat_lt c d ≡ false = grind (arith, nat_tests) in
    ap (λ x. x || nat_lt c d) l ∙ r

module _ (out : Outgoing) (ps : List Packet) where
  pub room_of : exceeds out ps ≡ false → (length ps ≤ out.packet_room) × (sum_by packet_size ps ≤ out.byte_room)
  unfolding exceeds
  room_of is = fits_of out.packet_room (length ps) out.byte_room (sum_by packet_size ps) is

  pub has_room : length ps ≤ out.packet_room → sum_by packet_size ps ≤ out.byte_room → exceeds out ps ≡ false
  unfolding exceeds
  has_room few short = fits_is out.packet_room (length ps) out.byte_room (sum_by packet_size ps) few short

-- one list of packets after another
module _ (out : Outgoing) (ps qs : List Packet) where
  both_len : length (ps ++ qs) ≡ length ps + length qs
  both_len = length-append ps qs

  both_size : sum_by packet_size (ps ++ qs) ≡ sum_by packet_size ps + sum_by packet_size qs
  both_size = sum_by-append packet_size ps qs

  first_exceeds : exceeds out ps ≡ true → exceeds out (ps ++ qs) ≡ true
  first_exceeds is = true_from_ne_false (exceeds out (ps ++ qs)) (λ no.
      let r = room_of out (ps ++ qs) no in
      false≢true (sym (has_room out ps (omega (arith, r.0, both_len)) (omega (arith, r.1, both_size))) ∙ is))

  second_exceeds : exceeds out ps ≡ false → exceeds (sent_by out ps) qs ≡ true → exceeds out (ps ++ qs) ≡ true
  unfolding sent_by
  second_exceeds here is = true_from_ne_false (exceeds out (ps ++ qs)) (λ no.
      let r = room_of out (ps ++ qs) no in
      let h = room_of out ps here in
      false≢true (sym (has_room (sent_by out ps) qs (omega (arith, r.0, h.0, both_len)) (omega (arith, r.1, h.1, both_size))) ∙ is))

  neither_exceeds : exceeds out ps ≡ false → exceeds (sent_by out ps) qs ≡ false → exceeds out (ps ++ qs) ≡ false
  unfolding sent_by
  neither_exceeds here there =
      let h = room_of out ps here in
      let t = room_of (sent_by out ps) qs there in
      has_room out (ps ++ qs) (omega (arith, h.0, t.0, both_len)) (omega (arith, h.1, t.1, both_size))

  both_sent : sent_by (sent_by out ps) qs ≡ sent_by out (ps ++ qs)
  unfolding sent_by
  both_sent =
      let n : (out.packet_room - length ps) - length qs ≡ out.packet_room - length (ps ++ qs) = omega (arith, both_len) in
      let b : (out.byte_room - sum_by packet_size ps) - sum_by packet_size qs ≡ out.byte_room - sum_by packet_size (ps ++ qs) = omega (arith, both_size) in
      λ i. record {
        packets = (append_assoc out.packets (map packet_bytes ps) (map packet_bytes qs) ∙ ap (λ l. out.packets ++ l) (sym (map-append packet_bytes ps qs))) i;
        packet_room = n i;
        byte_room = b i;
        acked = out.acked;
      }

stopped : (X Y : Type 0) (out mid new : Outgoing) (ps qs : List Packet) (e : StepFault) → Sends {X = X} out mid ps (Err e) → Sends {X = Y} out new (ps ++ qs) (Err e)
stopped X Y out mid new ps qs NoMemory s = tt
stopped X Y out mid new ps qs (Refused refusal) s = (s.0, first_exceeds out ps qs s.1)
stopped X Y out mid new ps qs Halted s = s

pub sends_less : {X Y : Type 0} (out mid new : Outgoing) (ps qs : List Packet) (r : Result X StepFault) (r2 : Result Y StepFault) (e : StepFault) → Sends out mid ps r → r ≡ Err e → (e2 : StepFault) × (r2 ≡ Err e2) × (e2 ≡ e) → Sends out new (ps ++ qs) r2
sends_less {X = X} {Y = Y} out mid new ps qs r r2 e sent is (e2, is2, same) =
    subst (Sends out new (ps ++ qs)) (sym (is2 ∙ ap Err same)) (stopped X Y out mid new ps qs e (subst (Sends out mid ps) is sent))

goes_on : {Y : Type 0} (out mid new : Outgoing) (ps qs : List Packet) (r2 : Result Y StepFault) → (exceeds out ps ≡ false) × (mid ≡ sent_by out ps) → Sends (sent_by out ps) new qs r2 → Sends out new (ps ++ qs) r2
goes_on out mid new ps qs (Ok y) here m = (neither_exceeds out ps qs here.0 m.0, m.1 ∙ both_sent out ps qs)
goes_on out mid new ps qs (Err NoMemory) here m = tt
goes_on out mid new ps qs (Err (Refused refusal)) here m = (m.0, second_exceeds out ps qs here.0 m.1)
goes_on out mid new ps qs (Err Halted) here m = m

pub sends_more : {X Y : Type 0} (out mid new : Outgoing) (ps qs : List Packet) (r : Result X StepFault) (r2 : Result Y StepFault) (x : X) → Sends out mid ps r → r ≡ Ok x → Sends mid new qs r2 → Sends out new (ps ++ qs) r2
sends_more out mid new ps qs r r2 x sent is more =
    let here = subst (Sends out mid ps) is sent in
    goes_on out mid new ps qs r2 here (subst (λ m. Sends m new qs r2) here.1 more)

-- no packets
pub none_exceeds : (out : Outgoing) → exceeds out [] ≡ false
none_exceeds out = has_room out [] (omega arith) (omega arith)

pub none_sent : (out : Outgoing) → out ≡ sent_by out []
unfolding sent_by
none_sent out =
    let places : out.packet_room ≡ out.packet_room - 0 = omega arith in
    let bytes : out.byte_room ≡ out.byte_room - 0 = omega arith in
    λ i. record { packets = sym (append-nil out.packets) i; packet_room = places i; byte_room = bytes i; acked = out.acked }

-- what the host is told
pub sent_acked : (out new : Outgoing) (ps : List Packet) → new ≡ sent_by out ps → new.acked ≡ out.acked
unfolding sent_by
sent_acked out new ps is = ap (λ (o : Outgoing). o.acked) is

pub to_host : {acked : Option ℕ} (out new : Outgoing) (ps : List Packet) → new ≡ sent_by out ps → out.acked ≡ acked → new ≡ record (sent_by out ps) { acked = acked }
unfolding sent_by
to_host out new ps is told = is ∙ (λ i. record (sent_by out ps) { acked = told i })

pub nothing_sent : (out : Outgoing) (acked : Option ℕ) → out.acked ≡ acked → out ≡ record (sent_by out []) { acked = acked }
nothing_sent out acked told = to_host out out [] (none_sent out) told

-- packets that are sent one after another
abbrev pub Sent : Outgoing → Outgoing → List Packet → Type 0
Sent out new ps = (exceeds out ps ≡ false) × (new ≡ sent_by out ps)

pub sent_none : (out : Outgoing) → Sent out out []
sent_none out = (none_exceeds out, none_sent out)

pub sent_on : (out mid new : Outgoing) (ps qs : List Packet) → Sent out mid ps → Sent mid new qs → Sent out new (ps ++ qs)
sent_on out mid new ps qs here there = sends_more {X = Unit {0}} {Y = Unit {0}} out mid new ps qs (Ok tt) (Ok tt) tt here refl there

pub sent_off : {Y Z : Type 0} (out mid new : Outgoing) (ps qs rest : List Packet) (r : Result Y StepFault) (r2 : Result Z StepFault) (e : StepFault) → Sent out mid ps → Sends mid new qs r → r ≡ Err e → (e2 : StepFault) × (r2 ≡ Err e2) × (e2 ≡ e)
    → Sends out new ((ps ++ qs) ++ rest) r2
sent_off out mid new ps qs rest r r2 e here sent is end = sends_less out new new (ps ++ qs) rest r r2 e (sends_more {X = Unit {0}} out mid new ps qs (Ok tt) r tt here refl sent) is end

-- the packet that was sent last
pub last_sent : (out mid : Outgoing) (p : Packet) → mid ≡ sent_by out (p ∷ []) → IsLastPacket p mid
unfolding sent_by
last_sent out mid p is = (out.packets, ap (λ (o : Outgoing). o.packets) is)
