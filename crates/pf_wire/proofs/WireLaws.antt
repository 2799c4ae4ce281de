-- Packets are read exactly.
use Rattle.std.proofs.Common.{◌≡◌, ℕ, true, false, cond, ◌==◌, List, [], ◌++◌, length, Some, None, refl, sym, ap, subst, ◌∙◌, arith}
use Rattle.std.specs.Int.{w64}
use Rattle.std.proofs.lemmas.Bool.{and_parts, and_from, eqb-true, eqb-false, eq-eqb, ne_eqb, ltb-true, leb-true, lt-ltb, le-leb, not-true, not_from_false}
use Rattle.std.proofs.lemmas.List.{append-nil, nil_from_length}
use Rattle.std.proofs.lemmas.Option.{cond_some}
use Rattle.pf_entry.specs.Maps.{Numbers}
use Rattle.pf_entry.specs.Sets
use Rattle.pf_entry.specs.Canonical.{second_format, IsCanonicalMessage, IsCanonicalPacket}
use Rattle.pf_entry.specs.declared.entries.Entry.{Entry}
use Rattle.pf_entry.specs.declared.entries.VoteLog.{VoteLog}
use Rattle.pf_entry.specs.declared.packets.Packet.{Packet}
use Rattle.pf_entry.specs.declared.packets.Body.{Body}
use Rattle.pf_entry.specs.declared.packets.Body.TheVariants.{RequestVote, Vote, Accept, Ack, Nack, Commit, Probe, ProbeOk, Image}
use Rattle.pf_codec.specs.Parsers.{Parser, and_then, followed_by, checked, number_at, AreBytes, IsExact}
use Rattle.pf_codec.specs.Reading.{entry_at, vote_at}
use Rattle.pf_codec.specs.Spelling.{number, slots_bytes, sectors_bytes}
use Rattle.pf_codec.specs.Fitting.{IsWord, IsEntry, IsVote, AreApplied, IsChunk}
use Rattle.pf_codec.proofs.Exact.{bind_ok, then_exact, last_exact, checked_exact, nothing_exact, chosen_exact, respelled, same_spelled, byte_exact, u64_exact}
use Rattle.pf_codec.proofs.EntryLaws.{entry_exact}
use Rattle.pf_codec.proofs.MapLaws.{slots_exact, sectors_exact}
use Rattle.pf_codec.proofs.VoteLaws.{vote_exact}
use Rattle.pf_codec.proofs.BodyLaws.{window_of_second}
use Rattle.pf_wire.specs.Packets.{body_kind, message_bytes, packet_bytes, MessageFits, PacketFitsWords}
use Rattle.pf_wire.specs.Reading.{message_of, pair_at, image_at, message_at, agrees, is_packet, packet_at, packet_in}

-- a value in a constructor
wrapped : {A X : Type 0} {CA : A → Type 0} {sA : A → List ℕ} {pA : Parser A} → IsExact CA sA pA
    → (make : A → X) (C : X → Type 0) (s : X → List ℕ)
    → ((a : A) → CA a → C (make a)) → ((a : A) → s (make a) ≡ sA a) → ((x : X) → C x → (a : A) × CA a × (make a ≡ x))
    → IsExact C s (followed_by pA (λ a. checked true (make a)))
unfolding followed_by checked
wrapped {sA = sA} {pA = pA} exact make C s there same back = record {
  found = λ bytes x rest ok e.
      let a = bind_ok (pA bytes) (λ a. checked true (make a.0) a.1) (x, rest) e in
      let f = exact.found bytes a.0.0 a.0.1 ok a.1 in
      let p = cond_some true (make a.0.0, a.0.1) (x, rest) a.2 in
      (subst C (ap (λ q. q.0) p.1) (there a.0.0 f.0), f.1 ∙ ap (λ b. b ++ a.0.1) (sym (same a.0.0)) ∙ (λ i. s (p.1 i).0 ++ (p.1 i).1));
  again = λ x rest c.
      let b = back x c in
      ap (λ t. and_then (pA (t ++ rest)) (λ a. checked true (make a.0) a.1)) (ap s (sym b.2) ∙ same b.0)
      ∙ ap (λ r. and_then r (λ a. checked true (make a.0) a.1)) (exact.again b.0 rest b.1) ∙ ap (λ y. Some (y, rest)) b.2;
}

-- what has a spelling, of whatever term
abbrev IsMessage : Body → Type 0
IsMessage (RequestVote base) = IsWord base
IsMessage (Vote v) = IsVote second_format v
IsMessage (Accept e) = IsEntry second_format e
IsMessage (Ack slot upto) = IsWord slot × IsWord upto
IsMessage Nack = Unit {0}
IsMessage (Commit slot) = IsWord slot
IsMessage (Probe n) = IsWord n
IsMessage (ProbeOk n upto) = IsWord n × IsWord upto
IsMessage (Image base applied sectors) = IsWord base × AreApplied base applied × IsChunk sectors

abbrev IsOfKind : ℕ → Body → Type 0
IsOfKind kind m = IsMessage m × (body_kind m ≡ kind)

pair_exact : IsExact (λ pair. IsWord pair.0 × IsWord pair.1) (λ pair. number w64 pair.0 ++ number w64 pair.1) pair_at
unfolding pair_at
pair_exact =
    then_exact u64_exact (λ (pair : ℕ × ℕ). IsWord pair.0 × IsWord pair.1) (λ pair. pair.0) (λ pair. number w64 pair.1) _ (λ pair fits. fits.0)
    (λ a a_low. last_exact u64_exact (λ (pair : ℕ × ℕ). (IsWord pair.0 × IsWord pair.1) × (pair.0 ≡ a)) (λ pair. pair.1) _ (λ pair is. is.0.1)
    (λ b b_low. checked_exact (λ (pair : ℕ × ℕ). ((IsWord pair.0 × IsWord pair.1) × (pair.0 ≡ a)) × (pair.1 ≡ b)) (λ pair. true) (a, b)
    (λ pair is i. (sym is.0.1 i, sym is.1 i)) (λ pair is. refl) (λ passes. (((a_low, b_low), refl), refl))))

request_vote_back : (m : Body) → IsOfKind 1 m → (a : ℕ) × (IsWord a) × (RequestVote a ≡ m)
request_vote_back (RequestVote base) is = (base, is.0, refl)
request_vote_back (Vote v) is = absurd (omega (arith, is.1))
request_vote_back (Accept e) is = absurd (omega (arith, is.1))
request_vote_back (Ack slot upto) is = absurd (omega (arith, is.1))
request_vote_back Nack is = absurd (omega (arith, is.1))
request_vote_back (Commit slot) is = absurd (omega (arith, is.1))
request_vote_back (Probe n) is = absurd (omega (arith, is.1))
request_vote_back (ProbeOk n upto) is = absurd (omega (arith, is.1))
request_vote_back (Image base applied sectors) is = absurd (omega (arith, is.1))

request_vote_exact : IsExact (IsOfKind 1) message_bytes (message_of (number_at w64) RequestVote)
unfolding message_bytes
request_vote_exact = wrapped u64_exact RequestVote (IsOfKind 1) message_bytes (λ a fits. (fits, refl)) (λ a. refl) request_vote_back

a_vote_back : (m : Body) → IsOfKind 2 m → (a : VoteLog) × (IsVote second_format a) × (Vote a ≡ m)
a_vote_back (RequestVote base) is = absurd (omega (arith, is.1))
a_vote_back (Vote v) is = (v, is.0, refl)
a_vote_back (Accept e) is = absurd (omega (arith, is.1))
a_vote_back (Ack slot upto) is = absurd (omega (arith, is.1))
a_vote_back Nack is = absurd (omega (arith, is.1))
a_vote_back (Commit slot) is = absurd (omega (arith, is.1))
a_vote_back (Probe n) is = absurd (omega (arith, is.1))
a_vote_back (ProbeOk n upto) is = absurd (omega (arith, is.1))
a_vote_back (Image base applied sectors) is = absurd (omega (arith, is.1))

a_vote_exact : IsExact (IsOfKind 2) message_bytes (message_of (vote_at second_format) Vote)
unfolding message_bytes
a_vote_exact = wrapped (vote_exact second_format window_of_second) Vote (IsOfKind 2) message_bytes (λ a fits. (fits, refl)) (λ a. refl) a_vote_back

accept_back : (m : Body) → IsOfKind 3 m → (a : Entry) × (IsEntry second_format a) × (Accept a ≡ m)
accept_back (RequestVote base) is = absurd (omega (arith, is.1))
accept_back (Vote v) is = absurd (omega (arith, is.1))
accept_back (Accept e) is = (e, is.0, refl)
accept_back (Ack slot upto) is = absurd (omega (arith, is.1))
accept_back Nack is = absurd (omega (arith, is.1))
accept_back (Commit slot) is = absurd (omega (arith, is.1))
accept_back (Probe n) is = absurd (omega (arith, is.1))
accept_back (ProbeOk n upto) is = absurd (omega (arith, is.1))
accept_back (Image base applied sectors) is = absurd (omega (arith, is.1))

accept_exact : IsExact (IsOfKind 3) message_bytes (message_of (entry_at second_format) Accept)
unfolding message_bytes
accept_exact = wrapped (entry_exact second_format) Accept (IsOfKind 3) message_bytes (λ a fits. (fits, refl)) (λ a. refl) accept_back

ack_back : (m : Body) → IsOfKind 4 m → (a : ℕ × ℕ) × (IsWord a.0 × IsWord a.1) × (Ack a.0 a.1 ≡ m)
ack_back (RequestVote base) is = absurd (omega (arith, is.1))
ack_back (Vote v) is = absurd (omega (arith, is.1))
ack_back (Accept e) is = absurd (omega (arith, is.1))
ack_back (Ack slot upto) is = ((slot, upto), is.0, refl)
ack_back Nack is = absurd (omega (arith, is.1))
ack_back (Commit slot) is = absurd (omega (arith, is.1))
ack_back (Probe n) is = absurd (omega (arith, is.1))
ack_back (ProbeOk n upto) is = absurd (omega (arith, is.1))
ack_back (Image base applied sectors) is = absurd (omega (arith, is.1))

ack_exact : IsExact (IsOfKind 4) message_bytes (message_of pair_at (λ pair. Ack pair.0 pair.1))
unfolding message_bytes
ack_exact = wrapped pair_exact (λ pair. Ack pair.0 pair.1) (IsOfKind 4) message_bytes (λ a fits. (fits, refl)) (λ a. refl) ack_back

commit_back : (m : Body) → IsOfKind 6 m → (a : ℕ) × (IsWord a) × (Commit a ≡ m)
commit_back (RequestVote base) is = absurd (omega (arith, is.1))
commit_back (Vote v) is = absurd (omega (arith, is.1))
commit_back (Accept e) is = absurd (omega (arith, is.1))
commit_back (Ack slot upto) is = absurd (omega (arith, is.1))
commit_back Nack is = absurd (omega (arith, is.1))
commit_back (Commit slot) is = (slot, is.0, refl)
commit_back (Probe n) is = absurd (omega (arith, is.1))
commit_back (ProbeOk n upto) is = absurd (omega (arith, is.1))
commit_back (Image base applied sectors) is = absurd (omega (arith, is.1))

commit_exact : IsExact (IsOfKind 6) message_bytes (message_of (number_at w64) Commit)
unfolding message_bytes
commit_exact = wrapped u64_exact Commit (IsOfKind 6) message_bytes (λ a fits. (fits, refl)) (λ a. refl) commit_back

probe_back : (m : Body) → IsOfKind 7 m → (a : ℕ) × (IsWord a) × (Probe a ≡ m)
probe_back (RequestVote base) is = absurd (omega (arith, is.1))
probe_back (Vote v) is = absurd (omega (arith, is.1))
probe_back (Accept e) is = absurd (omega (arith, is.1))
probe_back (Ack slot upto) is = absurd (omega (arith, is.1))
probe_back Nack is = absurd (omega (arith, is.1))
probe_back (Commit slot) is = absurd (omega (arith, is.1))
probe_back (Probe n) is = (n, is.0, refl)
probe_back (ProbeOk n upto) is = absurd (omega (arith, is.1))
probe_back (Image base applied sectors) is = absurd (omega (arith, is.1))

probe_exact : IsExact (IsOfKind 7) message_bytes (message_of (number_at w64) Probe)
unfolding message_bytes
probe_exact = wrapped u64_exact Probe (IsOfKind 7) message_bytes (λ a fits. (fits, refl)) (λ a. refl) probe_back

probe_ok_back : (m : Body) → IsOfKind 8 m → (a : ℕ × ℕ) × (IsWord a.0 × IsWord a.1) × (ProbeOk a.0 a.1 ≡ m)
probe_ok_back (RequestVote base) is = absurd (omega (arith, is.1))
probe_ok_back (Vote v) is = absurd (omega (arith, is.1))
probe_ok_back (Accept e) is = absurd (omega (arith, is.1))
probe_ok_back (Ack slot upto) is = absurd (omega (arith, is.1))
probe_ok_back Nack is = absurd (omega (arith, is.1))
probe_ok_back (Commit slot) is = absurd (omega (arith, is.1))
probe_ok_back (Probe n) is = absurd (omega (arith, is.1))
probe_ok_back (ProbeOk n upto) is = ((n, upto), is.0, refl)
probe_ok_back (Image base applied sectors) is = absurd (omega (arith, is.1))

probe_ok_exact : IsExact (IsOfKind 8) message_bytes (message_of pair_at (λ pair. ProbeOk pair.0 pair.1))
unfolding message_bytes
probe_ok_exact = wrapped pair_exact (λ pair. ProbeOk pair.0 pair.1) (IsOfKind 8) message_bytes (λ a fits. (fits, refl)) (λ a. refl) probe_ok_back

nack_is : (m : Body) → IsOfKind 5 m → Nack ≡ m
nack_is (RequestVote base) is = absurd (omega (arith, is.1))
nack_is (Vote v) is = absurd (omega (arith, is.1))
nack_is (Accept e) is = absurd (omega (arith, is.1))
nack_is (Ack slot upto) is = absurd (omega (arith, is.1))
nack_is Nack is = refl
nack_is (Commit slot) is = absurd (omega (arith, is.1))
nack_is (Probe n) is = absurd (omega (arith, is.1))
nack_is (ProbeOk n upto) is = absurd (omega (arith, is.1))
nack_is (Image base applied sectors) is = absurd (omega (arith, is.1))

nack_exact : IsExact (IsOfKind 5) message_bytes (checked true Nack)
unfolding message_bytes
nack_exact = respelled (checked_exact (IsOfKind 5) (λ m. true) Nack nack_is (λ m is. refl) (λ passes. (tt, refl))) message_bytes (λ m is. ap message_bytes (nack_is m is))

abbrev base_in : Body → ℕ
base_in (Image base applied sectors) = base
base_in m = 0

abbrev applied_in : Body → Numbers
applied_in (Image base applied sectors) = applied
applied_in m = Sets.empty

abbrev sectors_in : Body → List (List ℕ)
sectors_in (Image base applied sectors) = sectors
sectors_in m = []

record ImageFacts (m : Body) : Type 0 where
  base : IsWord (base_in m)
  applied : AreApplied (base_in m) (applied_in m)
  sectors : IsChunk (sectors_in m)
  whole : Image (base_in m) (applied_in m) (sectors_in m) ≡ m

image_facts : (m : Body) → IsOfKind 9 m → ImageFacts m
image_facts (RequestVote base) is = absurd (omega (arith, is.1))
image_facts (Vote v) is = absurd (omega (arith, is.1))
image_facts (Accept e) is = absurd (omega (arith, is.1))
image_facts (Ack slot upto) is = absurd (omega (arith, is.1))
image_facts Nack is = absurd (omega (arith, is.1))
image_facts (Commit slot) is = absurd (omega (arith, is.1))
image_facts (Probe n) is = absurd (omega (arith, is.1))
image_facts (ProbeOk n upto) is = absurd (omega (arith, is.1))
image_facts (Image base applied sectors) is = record { base = is.0.0; applied = is.0.1; sectors = is.0.2; whole = refl }

abbrev image_fields : Body → List ℕ
image_fields m = number w64 (base_in m) ++ (slots_bytes (applied_in m) ++ sectors_bytes (sectors_in m))

fields_exact : IsExact (IsOfKind 9) image_fields image_at
unfolding image_at
fields_exact =
    then_exact u64_exact (IsOfKind 9) base_in _ _ (λ m is. (image_facts m is).base) (λ base low.
    then_exact (slots_exact base) (λ m. IsOfKind 9 m × (base_in m ≡ base)) applied_in _ _ (λ m is. subst (λ b. AreApplied b (applied_in m)) is.1 (image_facts m is.0).applied) (λ applied are_applied.
    last_exact sectors_exact (λ m. (IsOfKind 9 m × (base_in m ≡ base)) × (applied_in m ≡ applied)) sectors_in _ (λ m is. (image_facts m is.0.0).sectors) (λ sectors is_chunk.
    checked_exact (λ m. ((IsOfKind 9 m × (base_in m ≡ base)) × (applied_in m ≡ applied)) × (sectors_in m ≡ sectors)) (λ m. true) (Image base applied sectors)
    (λ m is. (λ i. Image (sym is.0.0.1 i) (sym is.0.1 i) (sym is.1 i)) ∙ (image_facts m is.0.0.0).whole) (λ m is. refl)
    (λ passes. (((((low, are_applied, is_chunk), refl), refl), refl), refl)))))

image_exact : IsExact (IsOfKind 9) message_bytes image_at
unfolding message_bytes
image_exact = respelled fields_exact message_bytes (λ m is. ap message_bytes (image_facts m is).whole)

no_kind : (m : Body) (kind : ℕ) → body_kind m ≡ kind → (kind == 1) ≡ false → (kind == 2) ≡ false → (kind == 3) ≡ false → (kind == 4) ≡ false → (kind == 5) ≡ false → (kind == 6) ≡ false → (kind == 7) ≡ false → (kind == 8) ≡ false → (kind == 9) ≡ false → ⊥
no_kind (RequestVote base) kind is one two three four five six seven eight nine = eqb-false kind 1 one (sym is)
no_kind (Vote v) kind is one two three four five six seven eight nine = eqb-false kind 2 two (sym is)
no_kind (Accept e) kind is one two three four five six seven eight nine = eqb-false kind 3 three (sym is)
no_kind (Ack slot upto) kind is one two three four five six seven eight nine = eqb-false kind 4 four (sym is)
no_kind Nack kind is one two three four five six seven eight nine = eqb-false kind 5 five (sym is)
no_kind (Commit slot) kind is one two three four five six seven eight nine = eqb-false kind 6 six (sym is)
no_kind (Probe n) kind is one two three four five six seven eight nine = eqb-false kind 7 seven (sym is)
no_kind (ProbeOk n upto) kind is one two three four five six seven eight nine = eqb-false kind 8 eight (sym is)
no_kind (Image base applied sectors) kind is one two three four five six seven eight nine = eqb-false kind 9 nine (sym is)

of_kind : (n kind : ℕ) (p : Parser Body) → (kind == n) ≡ true → IsExact (IsOfKind n) message_bytes p → IsExact (IsOfKind kind) message_bytes p
of_kind n kind p is exact = subst (λ k. IsExact (IsOfKind k) message_bytes p) (sym (eqb-true kind n is)) exact

message_exact : (kind : ℕ) → IsExact (IsOfKind kind) message_bytes (message_at kind)
unfolding message_at
message_exact kind =
    chosen_exact (IsOfKind kind) message_bytes (kind == 1) _ _ (λ is. of_kind 1 kind (message_of (number_at w64) RequestVote) is request_vote_exact) (λ one.
    chosen_exact (IsOfKind kind) message_bytes (kind == 2) _ _ (λ is. of_kind 2 kind (message_of (vote_at second_format) Vote) is a_vote_exact) (λ two.
    chosen_exact (IsOfKind kind) message_bytes (kind == 3) _ _ (λ is. of_kind 3 kind (message_of (entry_at second_format) Accept) is accept_exact) (λ three.
    chosen_exact (IsOfKind kind) message_bytes (kind == 4) _ _ (λ is. of_kind 4 kind (message_of pair_at (λ pair. Ack pair.0 pair.1)) is ack_exact) (λ four.
    chosen_exact (IsOfKind kind) message_bytes (kind == 5) _ _ (λ is. of_kind 5 kind (checked true Nack) is nack_exact) (λ five.
    chosen_exact (IsOfKind kind) message_bytes (kind == 6) _ _ (λ is. of_kind 6 kind (message_of (number_at w64) Commit) is commit_exact) (λ six.
    chosen_exact (IsOfKind kind) message_bytes (kind == 7) _ _ (λ is. of_kind 7 kind (message_of (number_at w64) Probe) is probe_exact) (λ seven.
    chosen_exact (IsOfKind kind) message_bytes (kind == 8) _ _ (λ is. of_kind 8 kind (message_of pair_at (λ pair. ProbeOk pair.0 pair.1)) is probe_ok_exact) (λ eight.
    chosen_exact (IsOfKind kind) message_bytes (kind == 9) _ _ (λ is. of_kind 9 kind image_at is image_exact) (λ nine.
    nothing_exact (IsOfKind kind) message_bytes (λ m is. no_kind m kind is.1 one two three four five six seven eight nine))))))))))

-- ---- packets

message_is : (term : ℕ) (m : Body) → MessageFits m → IsCanonicalMessage term m → IsMessage m
message_is term (RequestVote base) fits c = fits
message_is term (Vote v) fits c = (fits, c)
message_is term (Accept e) fits c = (fits, c.0)
message_is term (Ack slot upto) fits c = fits
message_is term Nack fits c = tt
message_is term (Commit slot) fits c = fits
message_is term (Probe n) fits c = fits
message_is term (ProbeOk n upto) fits c = fits
message_is term (Image base applied sectors) fits c =
    (fits.0, record { fit = fits.1; few = c.few; above = c.above }, record { some = c.some; fits = c.fits; eighths = c.eighths; bytes = c.bytes })

message_agrees : (term : ℕ) (m : Body) → IsCanonicalMessage term m → agrees term m ≡ true
message_agrees term (RequestVote base) c = refl
message_agrees term (Vote v) c = refl
message_agrees term (Accept e) c = eq-eqb e.term term c.1
message_agrees term (Ack slot upto) c = refl
message_agrees term Nack c = refl
message_agrees term (Commit slot) c = refl
message_agrees term (Probe n) c = refl
message_agrees term (ProbeOk n upto) c = refl
message_agrees term (Image base applied sectors) c = refl

message_canonical : (term : ℕ) (m : Body) → IsMessage m → agrees term m ≡ true → MessageFits m × IsCanonicalMessage term m
message_canonical term (RequestVote base) is t = (is, tt)
message_canonical term (Vote v) is t = is
message_canonical term (Accept e) is t = (is.0, (is.1, eqb-true e.term term t))
message_canonical term (Ack slot upto) is t = (is, tt)
message_canonical term Nack is t = (tt, tt)
message_canonical term (Commit slot) is t = (is, tt)
message_canonical term (Probe n) is t = (is, tt)
message_canonical term (ProbeOk n upto) is t = (is, tt)
message_canonical term (Image base applied sectors) is t =
    ((is.0, is.1.fit), record { above = is.1.above; few = is.1.few; some = is.2.some; fits = is.2.fits; eighths = is.2.eighths; bytes = is.2.bytes })

abbrev pub IsPacket : Packet → Type 0
IsPacket p = PacketFitsWords p × IsCanonicalPacket p

packet_passes : (p : Packet) → IsCanonicalPacket p → is_packet p ≡ true
unfolding is_packet
packet_passes p c =
    and_from _ _ (and_from _ _ (and_from _ _ (and_from _ _ (lt-ltb p.from 3 c.from) (lt-ltb p.to 3 c.to)) (not_from_false _ (ne_eqb p.from p.to c.apart))) (le-leb 1 p.term c.term))
    (message_agrees p.term p.body c.message)

packet_canonical : (p : Packet) → IsWord p.term → IsMessage p.body → is_packet p ≡ true → IsPacket p
unfolding is_packet
packet_canonical p low is t =
    let d = and_parts _ _ t in
    let c = and_parts _ _ d.0 in
    let b = and_parts _ _ c.0 in
    let a = and_parts _ _ b.0 in
    let m = message_canonical p.term p.body is d.1 in
    ((low, m.0), record { from = ltb-true _ _ a.0; to = ltb-true _ _ a.1; apart = eqb-false p.from p.to (not-true _ b.1); term = leb-true _ _ c.1; message = m.1 })

pub packet_exact : IsExact IsPacket packet_bytes packet_at
unfolding packet_bytes packet_at
packet_exact =
    then_exact byte_exact IsPacket (λ p. body_kind p.body) _ _ (λ p is. tt) (λ kind any.
    then_exact byte_exact (λ p. IsPacket p × (body_kind p.body ≡ kind)) (λ p. p.from) _ _ (λ p is. tt) (λ from any_from.
    then_exact byte_exact (λ p. (IsPacket p × (body_kind p.body ≡ kind)) × (p.from ≡ from)) (λ p. p.to) _ _ (λ p is. tt) (λ to any_to.
    then_exact u64_exact (λ p. ((IsPacket p × (body_kind p.body ≡ kind)) × (p.from ≡ from)) × (p.to ≡ to)) (λ p. p.term) _ _ (λ p is. is.0.0.0.0.0) (λ term low.
    last_exact (message_exact kind) (λ p. (((IsPacket p × (body_kind p.body ≡ kind)) × (p.from ≡ from)) × (p.to ≡ to)) × (p.term ≡ term)) (λ p. p.body) _
    (λ p is. (message_is p.term p.body is.0.0.0.0.0.1 is.0.0.0.0.1.message, is.0.0.0.1)) (λ body is_body.
    checked_exact (λ p. ((((IsPacket p × (body_kind p.body ≡ kind)) × (p.from ≡ from)) × (p.to ≡ to)) × (p.term ≡ term)) × (p.body ≡ body)) is_packet (record { from = from; to = to; term = term; body = body })
    (λ p is i. record { from = sym is.0.0.0.1 i; to = sym is.0.0.1 i; term = sym is.0.1 i; body = sym is.1 i })
    (λ p is. packet_passes p is.0.0.0.0.0.1)
    (λ passes. (((((packet_canonical (record { from = from; to = to; term = term; body = body }) low is_body.0 passes, is_body.1), refl), refl), refl), refl)))))))

pub packets_tell : (p q : Packet) (x y : List ℕ) → IsPacket p → IsPacket q → packet_bytes p ++ x ≡ packet_bytes q ++ y → (p ≡ q) × (x ≡ y)
packets_tell p q x y is_p is_q e = same_spelled packet_exact p q x y is_p is_q e

pub packet_found : (bytes : List ℕ) (p : Packet) → AreBytes bytes → packet_in bytes ≡ Some p → IsCanonicalPacket p × (packet_bytes p ≡ bytes) × PacketFitsWords p
unfolding packet_in
packet_found bytes p ok e =
    let a = bind_ok (packet_at bytes) (λ r. cond (length r.1 == 0) (Some r.0) None) p e in
    let ended = cond_some (length a.0.1 == 0) a.0.0 p a.2 in
    let f = packet_exact.found bytes a.0.0 a.0.1 ok a.1 in
    let none : a.0.1 ≡ [] = nil_from_length a.0.1 (eqb-true _ _ ended.0) in
    subst (λ q. IsCanonicalPacket q × (packet_bytes q ≡ bytes) × PacketFitsWords q) ended.1
    (f.0.1, sym (f.1 ∙ ap (λ rest. packet_bytes a.0.0 ++ rest) none ∙ append-nil (packet_bytes a.0.0)), f.0.0)

pub packet_again : (p : Packet) → PacketFitsWords p → IsCanonicalPacket p → packet_in (packet_bytes p) ≡ Some p
unfolding packet_in
packet_again p fits c =
    ap (λ r. and_then r (λ x. cond (length x.1 == 0) (Some x.0) None)) (ap packet_at (sym (append-nil (packet_bytes p))) ∙ packet_exact.again p [] (fits, c))
