-- A sector that one alone writes stays one when it is moved.
use Rattle.std.proofs.Common.{◌≡◌, ℕ, zero, suc, ◌+◌, ◌-◌, ◌<◌, ◌≤◌, ◌⊎◌, inl, inr, cond, List, [], ◌∷◌, ◌++◌, length, take, drop, Some, nat_lt, slice_get, arith, refl, sym, ap, subst, ◌∙◌}
use Rattle.std.proofs.lemmas.Bool.{cases_lt, cond-true, cond-false, lt-ltb, le-ltb}
use Rattle.pf_entry.specs.Ops.{Sector}
use Rattle.pf_protocol.specs.Servers.{Setup}
use Rattle.pf_protocol.specs.Groups.{Answered}
use Rattle.pf_protocol.specs.Histories.{History}
use Rattle.pf_protocol.specs.Ports.{Submission, submitting}
use Rattle.pf_protocol.proofs.ForMoments.{prefix_of}
use Rattle.pf_law_registers.specs.Orders.{Member, given, values_of}
use Rattle.pf_law_registers.specs.Sectors.{ReadGives, IsAnsweredBefore, IsAckedBefore, IsAskedBefore, SectorRegister}
use Rattle.pf_law_registers.specs.Firsts.{ComeFirst}
use Rattle.pf_law_registers.specs.Alone.{IsWriteAckedBefore, HasBytes, IsWriteAskedBefore}
use Rattle.pf_law_registers.specs.Joined.{Earlier, EitherRead, Before, After, joined_values, joined_shown, GiveJoined, AreAnsweredJoined, ArePlacedJoined, AreWritesJoined}
use Rattle.pf_law_registers.specs.Moved.{IsMove, LaterRead, IsOneWriter, MovedOwnRegister}
use Rattle.pf_law_registers.proofs.Lists.{length_mapped, dropped_there}
use Rattle.pf_protocol.proofs.ForPorts.{comes_after}
use Rattle.pf_law_registers.proofs.WriteSubmissions.{source}
use Rattle.pf_law_registers.proofs.SubmissionPorts.{ports_own}
use Rattle.pf_law_registers.proofs.Sectors.{in_order_between, sector_register}
use Rattle.pf_law_registers.proofs.Firsts.{gives_it, firsts_come}
use Rattle.pf_law_registers.proofs.OwnedRegisters.{last_of, IsByOne, own_from, fewer_reads}
use Rattle.pf_law_registers.proofs.Alone.{IsOwned, write_at, numbered, by_one, owns_all}
use Rattle.pf_law_registers.proofs.JoinedRegisters.{joined_length}
use Rattle.pf_law_registers.proofs.MovedSectors.{shows_made, moves_on}

-- places of two lists
first_there : (xs ys : List Sector) (n place : ℕ) → place < n → n ≤ length xs → slice_get (take n xs ++ ys) place ≡ slice_get xs place
first_there xs ys zero place lt le = absurd (omega (arith, lt))
first_there [] ys (suc n) place lt le = absurd (omega (arith, le))
first_there (x ∷ xs) ys (suc n) zero lt le = refl
first_there (x ∷ xs) ys (suc n) (suc place) lt le = first_there xs ys n place (omega (arith, lt)) (omega (arith, le))

second_there : (xs ys : List Sector) (n place : ℕ) → n ≤ place → n ≤ length xs → slice_get (take n xs ++ ys) place ≡ slice_get ys (place - n)
second_there xs ys zero place reaches le = ap (slice_get ys) (omega arith)
second_there [] ys (suc n) place reaches le = absurd (omega (arith, le))
second_there (x ∷ xs) ys (suc n) zero reaches le = absurd (omega (arith, reaches))
second_there (x ∷ xs) ys (suc n) (suc place) reaches le =
    let e : place - n ≡ suc place - suc n = omega arith in
    second_there xs ys n place (omega (arith, reaches)) (omega (arith, le)) ∙ ap (slice_get ys) e

-- the numbers of the writes of a joined list
pub joined_write : (moved made : ℕ) → (ℕ → ℕ) → (ℕ → ℕ) → ℕ → ℕ
joined_write moved made old new place = cond (nat_lt place moved) (old place) (new (made + (place - moved)))

-- Two registers of one writer are one
module _ {A B : Type 0} (old new : List Sector) (shown_a : A → ℕ) (shown_b : B → ℕ) (Gives_a : A → Sector → Type 0) (Gives_b : B → Sector → Type 0) (Answered_a : A → A → Type 0) (Answered_b : B → B → Type 0) (Acked_a Asked_a : ℕ → A → Type 0) (Acked_b Asked_b : ℕ → B → Type 0) (write_a write_b : ℕ → ℕ) (Has_a Has_b : ℕ → Sector → Type 0) (WriteAcked_a WriteAsked_a : ℕ → A → Type 0) (WriteAcked_b WriteAsked_b : ℕ → B → Type 0) (Counts CountsAsked : ℕ → Type 0) (moved made : ℕ) where
  -- what ties them together
  pub record Ties : Type 0 where
    pub fits : moved ≤ length old
    pub fits_too : made ≤ length new
    pub low : (a : A) → shown_a a ≤ moved
    pub acked_low : (a : A) (place : ℕ) → Acked_a place a → place < shown_a a
    pub high : (b : B) → made ≤ shown_b b
    pub across : (j k : ℕ) → j < moved → made ≤ k → k < length new → write_a j ≤ write_b k
    pub counts_acked : (write : ℕ) → Counts write → (place : ℕ) × (place < moved) × (write ≤ write_a place)
    pub counts_asked : (place : ℕ) → place < moved → CountsAsked (write_a place)

  module _ (t : Ties) (a : IsByOne old shown_a Gives_a Answered_a Acked_a Asked_a write_a Has_a WriteAcked_a WriteAsked_a 0) (b : IsByOne new shown_b Gives_b Answered_b Acked_b Asked_b write_b Has_b WriteAcked_b WriteAsked_b made) where
    at_old : (place : ℕ) → place < moved → joined_write moved made write_a write_b place ≡ write_a place
    unfolding joined_write
    at_old place lt = cond-true (nat_lt place moved) _ _ (lt-ltb place moved lt)

    at_new : (place : ℕ) → moved ≤ place → joined_write moved made write_a write_b place ≡ write_b (made + (place - moved))
    unfolding joined_write
    at_new place le = cond-false (nat_lt place moved) _ _ (le-ltb place moved le)

    joined_size : length (joined_values moved made old new) ≡ moved + (length new - made)
    joined_size = joined_length old new moved made t.fits

    rises : (j k : ℕ) → 0 ≤ j → j ≤ k → k < length (joined_values moved made old new) → joined_write moved made write_a write_b j ≤ joined_write moved made write_a write_b k
    rises j k from le lt =
        elim (cases_lt k moved) [
          | inl old_k ↦ omega (arith, at_old j (omega (arith, le, old_k)), at_old k old_k, a.rises j k (omega arith) le (omega (arith, old_k, t.fits)))
          | inr new_k ↦ elim (cases_lt j moved) [
            | inl old_j ↦ omega (arith, at_old j old_j, at_new k new_k, t.across j (made + (k - moved)) old_j (omega arith) (omega (arith, lt, joined_size, new_k, t.fits_too)))
            | inr new_j ↦ omega (arith, at_new j new_j, at_new k new_k, b.rises (made + (j - moved)) (made + (k - moved)) (omega arith) (omega (arith, le, new_j)) (omega (arith, lt, joined_size, new_k, t.fits_too)))
          ]
        ]

    has : (place : ℕ) (bytes : Sector) → 0 ≤ place → slice_get (joined_values moved made old new) place ≡ Some bytes → Has_a (joined_write moved made write_a write_b place) bytes ⊎ Has_b (joined_write moved made write_a write_b place) bytes
    has place bytes from at =
        elim (cases_lt place moved) [
          | inl before ↦ inl (subst (λ w. Has_a w bytes) (sym (at_old place before)) (a.has place bytes (omega arith) (sym (first_there old (drop made new) moved place before t.fits) ∙ at)))
          | inr since ↦ inr (subst (λ w. Has_b w bytes) (sym (at_new place since)) (b.has (made + (place - moved)) bytes (omega arith) (sym (second_there old (drop made new) moved place since t.fits ∙ dropped_there made new (place - moved)) ∙ at)))
        ]

    acked : (read : EitherRead A B) (write : ℕ) → AreWritesJoined WriteAcked_a Counts WriteAcked_b write read → (place : ℕ) × (0 ≤ place) × (write ≤ joined_write moved made write_a write_b place) × ArePlacedJoined moved made Acked_a Acked_b place read
    acked (Before r) write is =
        let p = a.acked r write is in
        (p.0, omega arith, omega (arith, p.2, at_old p.0 (omega (arith, t.acked_low r p.0 p.3, t.low r))), p.3)
    acked (After r) write (inl counts) =
        let p = t.counts_acked write counts in
        (p.0, omega arith, omega (arith, p.2, at_old p.0 p.1), inl p.1)
    acked (After r) write (inr is) =
        let p = b.acked r write is in
        let e : made + ((moved + (p.0 - made)) - moved) ≡ p.0 = omega (arith, p.1) in
        (moved + (p.0 - made), omega arith, omega (arith, p.2, at_new (moved + (p.0 - made)) (omega arith), ap write_b e), inr (p.0, p.1, refl, p.3))

    asked : (read : EitherRead A B) (place : ℕ) → 0 ≤ place → place < joined_shown moved made shown_a shown_b read → ArePlacedJoined moved made Asked_a Asked_b place read → AreWritesJoined WriteAsked_a CountsAsked WriteAsked_b (joined_write moved made write_a write_b place) read
    asked (Before r) place from lt is = subst (λ w. WriteAsked_a w r) (sym (at_old place (omega (arith, lt, t.low r)))) (a.asked r place (omega arith) lt is)
    asked (After r) place from lt (inl before) = inl (subst CountsAsked (sym (at_old place before)) (t.counts_asked place before))
    asked (After r) place from lt (inr p) =
        let e : made + (place - moved) ≡ p.0 = omega (arith, p.1, p.2) in
        inr (subst (λ w. WriteAsked_b w r) (sym (at_new place (omega (arith, p.2)) ∙ ap write_b e)) (b.asked r p.0 p.1 (omega (arith, lt, p.1, p.2, t.high r)) p.3))

    pub joined_by_one : IsByOne (joined_values moved made old new) (joined_shown moved made shown_a shown_b) (GiveJoined Gives_a Gives_b) (AreAnsweredJoined Answered_a Answered_b) (ArePlacedJoined moved made Acked_a Acked_b) (ArePlacedJoined moved made Asked_a Asked_b) (joined_write moved made write_a write_b) (λ write bytes. Has_a write bytes ⊎ Has_b write bytes) (AreWritesJoined WriteAcked_a Counts WriteAcked_b) (AreWritesJoined WriteAsked_a CountsAsked WriteAsked_b) 0
    joined_by_one = record { rises = rises; has = has; acked = acked; asked = asked }

module _ (old_setup : Setup) (old_history : History) (new_setup : Setup) (new_history : History) (x : ℕ) (mover old_port new_port : List Submission) (last : Answered) (bytes : Sector) (gave : ReadGives old_setup old_history x last bytes) (old : SectorRegister old_setup old_history x) (new : SectorRegister new_setup new_history x) (move : IsMove new_setup new_history x new mover bytes) (one : IsOneWriter old_setup old_history new_setup new_history x mover old_port new_port) (made : ℕ) (come : ComeFirst new_setup new_history new.order mover made) where
  old_owns : IsOwned old_setup old_history old_port x one.old_rule old 0
  old_owns = owns_all old_setup old_history old_port x one.old_rule one.old_alone old

  new_owns : IsOwned new_setup new_history new_port x one.new_rule new made
  new_owns = record {
    owned = λ now p place m reaches at term op c is_given.
        let s = source new_setup now m.slot term op x m.bytes c is_given in
        elim (one.new_alone s.submission.before s.submission.server s.submission.op s.submission.answer m.bytes (prefix_of (s.submission.before ++ submitting s.submission ∷ []) now new_history s.made p) s.comes.copy.took_place (ap (λ o. given o x) s.same_op ∙ is_given)) [
          | inl movers ↦
              let o = ports_own new_setup mover now m.slot op s movers in
              absurd (come.none_later place o.k o.submission reaches o.there (record { member = m; there = at; comes = comes_after new_setup now new_history p m.slot o.submission o.comes }))
          | inr ports ↦ ports_own new_setup new_port now m.slot op s ports
        ];
    none_before = λ place k a at copy. elim (cases_lt place made) [
      | inr reaches ↦ reaches
      | inl before ↦
          let f = come.first place before in
          let its = gives_it new_setup new_history x new.order mover new.is_order move.rule move.first place f.1 f.3 in
          let other = gives_it new_setup new_history x new.order mover new.is_order move.rule move.first place a copy in
          let less = in_order_between new_setup new_history x new.order new.is_order mover move.rule f.0 f.1 a place place f.2 (one.new_rule.happened k a at) (one.after_move f.0 k f.1 a f.3.member.bytes copy.member.bytes f.2 its at other) f.3 copy in
          absurd (omega (arith, less))
    ];
  }

  abbrev OldRead : Type 0
  OldRead = Earlier (IsAnsweredBefore old_setup old_history x) last

  abbrev NewRead : Type 0
  NewRead = LaterRead new_setup new_history mover x

  old_one : IsByOne (values_of old.order) old.shown (ReadGives old_setup old_history x) (IsAnsweredBefore old_setup old_history x) (IsAckedBefore old_setup old_history x old.order) (IsAskedBefore old_setup old_history old.order) (write_at old_setup old_history old_port x one.old_rule old 0 old_owns) (HasBytes old_history old_port x) (IsWriteAckedBefore old_setup old_history old_port x) (IsWriteAskedBefore old_setup old_history old_port) 0
  old_one = by_one old_setup old_history old_port x one.old_rule old 0 old_owns

  ties : Ties (values_of old.order) (values_of new.order) (λ (a : OldRead). old.shown a.read) (λ (b : NewRead). new.shown b.answer)
      (λ a. ReadGives old_setup old_history x a.read) (λ b. ReadGives new_setup new_history x b.answer)
      (λ a b. IsAnsweredBefore old_setup old_history x a.read b.read) (λ a b. IsAnsweredBefore new_setup new_history x a.answer b.answer)
      (λ place a. IsAckedBefore old_setup old_history x old.order place a.read) (λ place a. IsAskedBefore old_setup old_history old.order place a.read)
      (λ place b. IsAckedBefore new_setup new_history x new.order place b.answer) (λ place b. IsAskedBefore new_setup new_history new.order place b.answer)
      (write_at old_setup old_history old_port x one.old_rule old 0 old_owns) (write_at new_setup new_history new_port x one.new_rule new made new_owns)
      (HasBytes old_history old_port x) (HasBytes new_history new_port x)
      (λ write a. IsWriteAckedBefore old_setup old_history old_port x write a.read) (λ write a. IsWriteAskedBefore old_setup old_history old_port write a.read)
      (λ write b. IsWriteAckedBefore new_setup new_history new_port x write b.answer) (λ write b. IsWriteAskedBefore new_setup new_history new_port write b.answer)
      (λ write. IsWriteAckedBefore old_setup old_history old_port x write last) (λ write. IsWriteAskedBefore old_setup old_history old_port write last)
      (old.shown last) made
  ties = record {
    fits = old.is_register.within last;
    fits_too = omega (arith, come.within, length_mapped (λ (m : Member). m.bytes) new.order);
    low = λ a. old.is_register.grows a.read last a.is_earlier;
    acked_low = λ a place. old.is_register.acked a.read place;
    high = λ b. shows_made new_setup new_history x new mover bytes move made come b made refl;
    across = λ j k before reaches lt.
        let a = numbered old_setup old_history old_port x one.old_rule old 0 old_owns j (omega arith) (omega (arith, before, old.is_register.within last, length_mapped (λ (m : Member). m.bytes) old.order)) in
        let b = numbered new_setup new_history new_port x one.new_rule new made new_owns k reaches (omega (arith, lt, length_mapped (λ (m : Member). m.bytes) new.order)) in
        omega (arith, one.goes_on a.0 b.0 a.1 b.1 a.2 b.2, a.3, b.3);
    counts_acked = λ write is. let p = old_one.acked last write is in (p.0, old.is_register.acked last p.0 p.3, p.2);
    counts_asked = λ place lt. old_one.asked last place (omega arith) lt (old.is_register.asked last place lt);
  }

  moved_own : MovedOwnRegister old_setup old_history new_setup new_history x mover old_port new_port last
  moved_own = record {
    shown = λ read. last_of (joined_write (old.shown last) made (write_at old_setup old_history old_port x one.old_rule old 0 old_owns) (write_at new_setup new_history new_port x one.new_rule new made new_owns))
        (joined_shown (old.shown last) made (λ (a : OldRead). old.shown a.read) (λ (b : NewRead). new.shown b.answer) read);
    is_register = own_from (joined_values (old.shown last) made (values_of old.order) (values_of new.order))
        (joined_shown (old.shown last) made (λ (a : OldRead). old.shown a.read) (λ (b : NewRead). new.shown b.answer))
        (GiveJoined (λ (a : OldRead). ReadGives old_setup old_history x a.read) (λ (b : NewRead). ReadGives new_setup new_history x b.answer))
        (AreAnsweredJoined (λ (a b : OldRead). IsAnsweredBefore old_setup old_history x a.read b.read) (λ (a b : NewRead). IsAnsweredBefore new_setup new_history x a.answer b.answer))
        (ArePlacedJoined (old.shown last) made (λ place (a : OldRead). IsAckedBefore old_setup old_history x old.order place a.read) (λ place (b : NewRead). IsAckedBefore new_setup new_history x new.order place b.answer))
        (ArePlacedJoined (old.shown last) made (λ place (a : OldRead). IsAskedBefore old_setup old_history old.order place a.read) (λ place (b : NewRead). IsAskedBefore new_setup new_history new.order place b.answer))
        (joined_write (old.shown last) made (write_at old_setup old_history old_port x one.old_rule old 0 old_owns) (write_at new_setup new_history new_port x one.new_rule new made new_owns))
        (λ write its. HasBytes old_history old_port x write its ⊎ HasBytes new_history new_port x write its)
        (AreWritesJoined (λ write (a : OldRead). IsWriteAckedBefore old_setup old_history old_port x write a.read) (λ write. IsWriteAckedBefore old_setup old_history old_port x write last) (λ write (b : NewRead). IsWriteAckedBefore new_setup new_history new_port x write b.answer))
        (AreWritesJoined (λ write (a : OldRead). IsWriteAskedBefore old_setup old_history old_port write a.read) (λ write. IsWriteAskedBefore old_setup old_history old_port write last) (λ write (b : NewRead). IsWriteAskedBefore new_setup new_history new_port write b.answer))
        (moves_on new_setup new_history x new mover bytes move made come (values_of old.order) old.shown (ReadGives old_setup old_history x) (IsAnsweredBefore old_setup old_history x) (IsAckedBefore old_setup old_history x old.order) (IsAskedBefore old_setup old_history old.order) old.is_register last gave)
        (joined_by_one (values_of old.order) (values_of new.order) (λ (a : OldRead). old.shown a.read) (λ (b : NewRead). new.shown b.answer)
        (λ a. ReadGives old_setup old_history x a.read) (λ b. ReadGives new_setup new_history x b.answer)
        (λ a b. IsAnsweredBefore old_setup old_history x a.read b.read) (λ a b. IsAnsweredBefore new_setup new_history x a.answer b.answer)
        (λ place a. IsAckedBefore old_setup old_history x old.order place a.read) (λ place a. IsAskedBefore old_setup old_history old.order place a.read)
        (λ place b. IsAckedBefore new_setup new_history x new.order place b.answer) (λ place b. IsAskedBefore new_setup new_history new.order place b.answer)
        (write_at old_setup old_history old_port x one.old_rule old 0 old_owns) (write_at new_setup new_history new_port x one.new_rule new made new_owns)
        (HasBytes old_history old_port x) (HasBytes new_history new_port x)
        (λ write a. IsWriteAckedBefore old_setup old_history old_port x write a.read) (λ write a. IsWriteAskedBefore old_setup old_history old_port write a.read)
        (λ write b. IsWriteAckedBefore new_setup new_history new_port x write b.answer) (λ write b. IsWriteAskedBefore new_setup new_history new_port write b.answer)
        (λ write. IsWriteAckedBefore old_setup old_history old_port x write last) (λ write. IsWriteAskedBefore old_setup old_history old_port write last)
        (old.shown last) made ties
        (fewer_reads (values_of old.order) old.shown (ReadGives old_setup old_history x) (IsAnsweredBefore old_setup old_history x) (IsAckedBefore old_setup old_history x old.order) (IsAskedBefore old_setup old_history old.order) (write_at old_setup old_history old_port x one.old_rule old 0 old_owns) (HasBytes old_history old_port x) (IsWriteAckedBefore old_setup old_history old_port x) (IsWriteAskedBefore old_setup old_history old_port) 0 (λ (a : OldRead). a.read) old_one)
        (fewer_reads (values_of new.order) new.shown (ReadGives new_setup new_history x) (IsAnsweredBefore new_setup new_history x) (IsAckedBefore new_setup new_history x new.order) (IsAskedBefore new_setup new_history new.order) (write_at new_setup new_history new_port x one.new_rule new made new_owns) (HasBytes new_history new_port x) (IsWriteAckedBefore new_setup new_history new_port x) (IsWriteAskedBefore new_setup new_history new_port) made (λ (b : NewRead). b.answer) (by_one new_setup new_history new_port x one.new_rule new made new_owns)));
  }

pub moved_own_register : (old_setup : Setup) (old_history : History) (new_setup : Setup) (new_history : History) (x : ℕ) (new : SectorRegister new_setup new_history x) (mover old_port new_port : List Submission) (last : Answered) (bytes : Sector) → ReadGives old_setup old_history x last bytes → IsMove new_setup new_history x new mover bytes → IsOneWriter old_setup old_history new_setup new_history x mover old_port new_port → MovedOwnRegister old_setup old_history new_setup new_history x mover old_port new_port last
moved_own_register old_setup old_history new_setup new_history x new mover old_port new_port last bytes gave move one =
    let c = firsts_come new_setup new_history x new.order mover new.is_order move.rule move.first in
    moved_own old_setup old_history new_setup new_history x mover old_port new_port last bytes gave (sector_register old_setup old_history x) new move one c.0 c.1
