-- A sector of a group that one alone writes, after a move wrote it first.
use Rattle.std.proofs.Common.{◌≡◌, ℕ, zero, suc, ◌<◌, ◌≤◌, ◌⊎◌, inl, inr, cond, nat_le, List, [], ◌∷◌, ◌++◌, length, Option, Some, None, slice_get, arith, refl, sym, ap, subst, ◌∙◌}
use Rattle.std.proofs.lemmas.Bool.{cases_lt, cond-true, cond-false, le-leb, lt-leb}
use Rattle.std.proofs.lemmas.Option.{same_Some, none-some}
use Rattle.pf_entry.specs.Ops.{Sector, zero_sector}
use Rattle.pf_protocol.specs.Servers.{Setup}
use Rattle.pf_protocol.specs.Groups.{Answered}
use Rattle.pf_protocol.specs.Histories.{History}
use Rattle.pf_protocol.specs.Ports.{Submission, submitting, WriteHasEnded, FollowsRule, ComesFrom}
use Rattle.pf_protocol.proofs.ForMoments.{prefix_of}
use Rattle.pf_law_registers.specs.Registers.{left_by_writes, IsAtLeast, IsNotBelow}
use Rattle.pf_law_registers.specs.Orders.{Member, given, values_of}
use Rattle.pf_law_registers.specs.Sectors.{ReadGives, IsAnsweredBefore, IsAckedBefore, IsAskedBefore, SectorRegister, IsCopyAt}
use Rattle.pf_law_registers.specs.Firsts.{IsFirstAcked, ComeFirst}
use Rattle.pf_law_registers.specs.Alone.{IsWriteAckedBefore, HasBytes, IsWriteAskedBefore}
use Rattle.pf_law_registers.specs.Moved.{IsWriteEndedBefore, IsMove}
use Rattle.pf_law_registers.proofs.Lists.{something_there, length_mapped, left_at, left_there}
use Rattle.pf_protocol.proofs.ForPorts.{comes_op, comes_after}
use Rattle.pf_law_registers.proofs.WriteSubmissions.{source}
use Rattle.pf_law_registers.proofs.SubmissionPorts.{ports_own}
use Rattle.pf_law_registers.proofs.OwnedRegisters.{IsByOne}
use Rattle.pf_law_registers.proofs.Sectors.{in_order_between, sector_register}
use Rattle.pf_law_registers.proofs.Firsts.{gives_it, firsts_come}
use Rattle.pf_law_registers.proofs.Alone.{IsOwned, write_at, numbered, by_one}
use Rattle.pf_law_registers.proofs.MovedSectors.{shows_made}
use Rattle.pf_law_positions.specs.Hosted.{AreAlone}

-- the write of the last of so many first places, of those from some place on
abbrev last_from : (from : ℕ) → (ℕ → ℕ) → ℕ → Option ℕ
last_from from write_at zero = None
last_from from write_at (suc place) = cond (nat_le from place) (Some (write_at place)) None

at_last : (from : ℕ) (write_at : ℕ → ℕ) (place : ℕ) → from ≤ place → last_from from write_at (suc place) ≡ Some (write_at place)
at_last from write_at place le = cond-true (nat_le from place) (Some (write_at place)) None (le-leb from place le)

at_none : (from : ℕ) (write_at : ℕ → ℕ) (n : ℕ) → n ≤ from → last_from from write_at n ≡ None
at_none from write_at zero le = refl
at_none from write_at (suc place) le = cond-false (nat_le from place) (Some (write_at place)) None (lt-leb from place (omega (arith, le)))

module _ (setup : Setup) (history : History) (x : ℕ) (mover port : List Submission) (initial : Sector) where
  -- a copy of a write of the move is chosen
  pub record Carried : Type 0 where
    pub slot : ℕ
    pub k : ℕ
    pub a : Submission
    pub there : slice_get mover k ≡ Some a
    pub bytes : Sector
    pub gives : given a.op x ≡ Some bytes
    pub comes : ComesFrom setup history slot a

  -- the move wrote these bytes first, and one alone writes the sector after it
  pub record Begins : Type 0 where
    pub rule : FollowsRule setup history port
    pub mover_rule : FollowsRule setup history mover
    pub alone : AreAlone history mover port x
    pub after : (i k : ℕ) (a b : Submission) (its other : Sector) → slice_get mover i ≡ Some a → given a.op x ≡ Some its → slice_get port k ≡ Some b → given b.op x ≡ Some other → WriteHasEnded setup mover b.before a.write
    pub same : (k : ℕ) (a : Submission) (its : Sector) → slice_get mover k ≡ Some a → given a.op x ≡ Some its → its ≡ initial
    pub made : (initial ≡ zero_sector) ⊎ Carried

  abbrev pub IsLater : Answered → Type 0
  IsLater read = (k : ℕ) (a : Submission) (its : Sector) → slice_get mover k ≡ Some a → given a.op x ≡ Some its → IsWriteEndedBefore setup history mover x a.write read

  -- the bytes are those of this write, or where there is none those of the move
  abbrev pub IsFrom : Option ℕ → Sector → Type 0
  IsFrom None bytes = bytes ≡ initial
  IsFrom (Some write) bytes = HasBytes history port x write bytes

  -- which write each read shows
  pub record Sees (shown : Answered → Option ℕ) : Type 0 where
    pub gives : (read : Answered) (bytes : Sector) → ReadGives setup history x read bytes → IsLater read → IsFrom (shown read) bytes
    pub acked : (read : Answered) (write : ℕ) → IsWriteAckedBefore setup history port x write read → IsAtLeast (shown read) write
    pub grows : (read later : Answered) → IsAnsweredBefore setup history x read later → IsNotBelow (shown later) (shown read)
    pub asked : (read : Answered) (write : ℕ) → shown read ≡ Some write → IsWriteAskedBefore setup history port write read
    pub wrote : (read : Answered) (write : ℕ) → shown read ≡ Some write → (k : ℕ) × (a : Submission) × (slice_get port k ≡ Some a) × (a.write ≡ write)

  module _ (b : Begins) where
    reg : SectorRegister setup history x
    reg = sector_register setup history x

    is_first : IsFirstAcked setup history mover x
    is_first before server op answer bytes p took has = elim (b.alone before server op answer bytes p took has) [
      | inl movers ↦ inl movers
      | inr ports ↦ inr (λ k a its at is. subst (λ now. WriteHasEnded setup mover now a.write) ports.at_moment (b.after k ports.k a ports.submission its bytes at is ports.there (ap (λ o. given o x) ports.has_op ∙ has)))
    ]

    copied_at : (c : Carried) → (place : ℕ) × IsCopyAt setup history reg.order place c.a
    copied_at c =
        let found = reg.is_order.all (record { slot = c.slot; bytes = c.bytes }) (record { term = c.comes.term; op = c.comes.op; chosen = c.comes.chosen; gives = ap (λ o. given o x) (comes_op setup history c.slot c.a c.comes) ∙ c.gives }) in
        (found.0, record { member = record { slot = c.slot; bytes = c.bytes }; there = found.1; comes = c.comes })

    move : IsMove setup history x reg mover initial
    move = record {
      rule = b.mover_rule;
      first = is_first;
      same = b.same;
      made = elim b.made [
        | inl zeros ↦ inl zeros
        | inr c ↦ let p = copied_at c in inr (p.0, c.k, c.a, c.there, p.1)
      ];
    }

    come : (made : ℕ) × ComeFirst setup history reg.order mover made
    come = firsts_come setup history x reg.order mover reg.is_order b.mover_rule is_first

    owns : IsOwned setup history port x b.rule reg come.0
    owns = record {
      owned = λ now p place m reaches at term op c is_given.
          let s = source setup now m.slot term op x m.bytes c is_given in
          elim (b.alone s.submission.before s.submission.server s.submission.op s.submission.answer m.bytes (prefix_of (s.submission.before ++ submitting s.submission ∷ []) now history s.made p) s.comes.copy.took_place (ap (λ o. given o x) s.same_op ∙ is_given)) [
            | inl movers ↦
                let o = ports_own setup mover now m.slot op s movers in
                absurd (come.1.none_later place o.k o.submission reaches o.there (record { member = m; there = at; comes = comes_after setup now history p m.slot o.submission o.comes }))
            | inr ports ↦ ports_own setup port now m.slot op s ports
          ];
      none_before = λ place k a at copy. elim (cases_lt place come.0) [
        | inr reaches ↦ reaches
        | inl before ↦
            let f = come.1.first place before in
            let its = gives_it setup history x reg.order mover reg.is_order b.mover_rule is_first place f.1 f.3 in
            let other = gives_it setup history x reg.order mover reg.is_order b.mover_rule is_first place a copy in
            let less = in_order_between setup history x reg.order reg.is_order mover b.mover_rule f.0 f.1 a place place f.2 (b.rule.happened k a at) (b.after f.0 k f.1 a f.3.member.bytes copy.member.bytes f.2 its at other) f.3 copy in
            absurd (omega (arith, less))
      ];
    }

    abbrev writes : ℕ → ℕ
    writes place = write_at setup history port x b.rule reg come.0 owns place

    one : IsByOne (values_of reg.order) reg.shown (ReadGives setup history x) (IsAnsweredBefore setup history x) (IsAckedBefore setup history x reg.order) (IsAskedBefore setup history reg.order) (write_at setup history port x b.rule reg come.0 owns) (HasBytes history port x) (IsWriteAckedBefore setup history port x) (IsWriteAskedBefore setup history port) come.0
    one = by_one setup history port x b.rule reg come.0 owns

    -- what the move wrote first
    made_bytes : (n : ℕ) → n ≡ come.0 → left_by_writes zero_sector (values_of reg.order) n ≡ initial
    made_bytes zero none = elim move.made [
      | inl zeros ↦ sym zeros
      | inr some ↦ absurd (come.1.none_later some.0 some.1 some.2 (omega (arith, none)) some.3 some.4)
    ]
    made_bytes (suc n) is =
        let c = come.1.first n (omega (arith, is)) in
        left_at (λ (m : Member). m.bytes) reg.order n c.3.member zero_sector c.3.there
        ∙ b.same c.0 c.1 c.3.member.bytes c.2 (gives_it setup history x reg.order mover reg.is_order b.mover_rule is_first n c.1 c.3)

    within : (read : Answered) → reg.shown read ≤ length reg.order
    within read = omega (arith, reg.is_register.within read, length_mapped (λ (m : Member). m.bytes) reg.order)

    values_long : length (values_of reg.order) ≡ length reg.order
    values_long = length_mapped (λ (m : Member). m.bytes) reg.order

    given_at : (n : ℕ) (bytes : Sector) → n ≤ length reg.order → come.0 ≤ n → bytes ≡ left_by_writes zero_sector (values_of reg.order) n → IsFrom (last_from come.0 writes n) bytes
    given_at zero bytes le reaches left = left ∙ made_bytes zero (omega (arith, reaches))
    given_at (suc place) bytes le reaches left = elim (cases_lt place come.0) [
      | inl before ↦
          let same : suc place ≡ come.0 = omega (arith, before, reaches) in
          subst (λ o. IsFrom o bytes) (sym (at_none come.0 writes (suc place) (omega (arith, same)))) (left ∙ made_bytes (suc place) same)
      | inr since ↦
          let found = something_there (values_of reg.order) place (omega (arith, le, values_long)) in
          subst (λ o. IsFrom o bytes) (sym (at_last come.0 writes place since)) (one.has place bytes since (found.1 ∙ ap Some (sym (left ∙ left_there (values_of reg.order) place found.0 zero_sector found.1))))
    ]

    reaches_at : (n place write : ℕ) → n ≤ length reg.order → place < n → come.0 ≤ place → write ≤ writes place → IsAtLeast (last_from come.0 writes n) write
    reaches_at zero place write le lt since low = absurd (omega (arith, lt))
    reaches_at (suc last) place write le lt since low =
        subst (λ o. IsAtLeast o write) (sym (at_last come.0 writes last (omega (arith, lt, since)))) (omega (arith, low, one.rises place last since (omega (arith, lt)) (omega (arith, le, values_long))))

    grows_at : (n m : ℕ) → n ≤ m → m ≤ length reg.order → IsNotBelow (last_from come.0 writes m) (last_from come.0 writes n)
    grows_at zero m le within = tt
    grows_at (suc place) m le within = elim (cases_lt place come.0) [
      | inl before ↦ subst (IsNotBelow (last_from come.0 writes m)) (sym (at_none come.0 writes (suc place) (omega (arith, before)))) tt
      | inr since ↦ subst (IsNotBelow (last_from come.0 writes m)) (sym (at_last come.0 writes place since)) (reaches_at m place (writes place) within (omega (arith, le)) since (omega arith))
    ]

    -- the place of the write that is shown
    record ShownAt (n write : ℕ) : Type 0 where
      place : ℕ
      is_last : n ≡ suc place
      since : come.0 ≤ place
      is : writes place ≡ write

    shown_at : (n write : ℕ) → last_from come.0 writes n ≡ Some write → ShownAt n write
    shown_at zero write is = absurd (none-some write is)
    shown_at (suc place) write is = elim (cases_lt place come.0) [
      | inl before ↦ absurd (none-some write (sym (at_none come.0 writes (suc place) (omega (arith, before))) ∙ is))
      | inr since ↦ record { place = place; is_last = refl; since = since; is = same_Some (writes place) write (sym (at_last come.0 writes place since) ∙ is) }
    ]

    reaches_made : (read : Answered) → IsLater read → come.0 ≤ reg.shown read
    reaches_made read later = shows_made setup history x reg mover initial move come.0 come.1 (record { answer = read; is_later = later }) come.0 refl

    pub shown : Answered → Option ℕ
    shown read = last_from come.0 writes (reg.shown read)

    pub sees : Sees shown
    unfolding shown
    sees = record {
      gives = λ read bytes gives later. given_at (reg.shown read) bytes (within read) (reaches_made read later) (reg.is_register.gives read bytes gives);
      acked = λ read write acked.
          let p = one.acked read write acked in
          reaches_at (reg.shown read) p.0 write (within read) (reg.is_register.acked read p.0 p.3) p.1 p.2;
      grows = λ read later before. grows_at (reg.shown read) (reg.shown later) (reg.is_register.grows read later before) (within later);
      asked = λ read write is.
          let p = shown_at (reg.shown read) write is in
          subst (λ w. IsWriteAskedBefore setup history port w read) p.is (one.asked read p.place p.since (omega (arith, p.is_last)) (reg.is_register.asked read p.place (omega (arith, p.is_last))));
      wrote = λ read write is.
          let p = shown_at (reg.shown read) write is in
          let s = numbered setup history port x b.rule reg come.0 owns p.place p.since (omega (arith, p.is_last, within read)) in
          (s.0, s.1, s.2, s.3 ∙ p.is);
    }
