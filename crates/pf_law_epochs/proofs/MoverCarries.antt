-- What a mover's calls carry into the next group.
use Rattle.std.proofs.Common.{◌≡◌, ℕ, zero, suc, ◌+◌, ◌-◌, ◌*◌, ◌<◌, ◌≤◌, ◌⊎◌, inl, inr, ◌==◌, true, false, List, [], ◌∷◌, length, Some, slice_get, arith, refl, sym, ap, ◌∙◌}
use Rattle.std.specs.Prelude.{replicate, ◌&&◌}
use Rattle.std.proofs.lemmas.Bool.{cases_Bool, cond-true, cond-false, false≢true}
use Rattle.std.proofs.lemmas.Bool.Decides.{nat_tests}
use Rattle.std.proofs.lemmas.Option.{same_Some, none-some, slice_get_within}
use Rattle.pf_base.specs.Span.{Span, is_in}
use Rattle.pf_entry.specs.Ops.{Sector, writes, range_of, zero_sector}
use Rattle.pf_entry.specs.declared.ops.Op.{Op}
use Rattle.pf_entry.specs.declared.ops.Op.TheVariants.{Write}
use Rattle.pf_protocol.specs.LastWriters.{bytes_for}
use Rattle.pf_protocol.specs.Answers.{IsLegal}
use Rattle.pf_protocol.specs.Groups.{Answered}
use Rattle.pf_protocol.specs.Histories.{History}
use Rattle.pf_protocol.specs.Ports.{Submission}
use Rattle.pf_protocol.specs.Servers.{Setup}
use Rattle.pf_law_registers.specs.Orders.{Member, IsWriteMember, given, values_of}
use Rattle.pf_law_registers.specs.Registers.{left_by_writes}
use Rattle.pf_law_registers.specs.Sectors.{ReadGives, SectorRegister}
use Rattle.pf_law_registers.proofs.Folds.{given_in, in_range}
use Rattle.pf_law_registers.proofs.Lists.{something_there, length_mapped, left_at}
use Rattle.pf_law_registers.proofs.Sectors.{sector_register}
use Rattle.pf_law_registers.proofs.Whole.{whole_write}
use Rattle.pf_law_positions.specs.Deeds.{Groups}
use Rattle.pf_law_positions.specs.Moves.{WasWritten}
use Rattle.pf_move.specs.Movers.{piece, is_zero, is_zero_sector}
use Rattle.pf_move.specs.Turns.{MoverTurn, Copy, IsCopied, copies, pieces_given as given_to, pieces_written, answers}
use Rattle.pf_move.proofs.MoverCalls.{is_copied}
use Rattle.pf_law_epochs.specs.Copying.{IsCarriedOut, WereCarried}

-- each piece that was given is copied, unless it is all zeros
record IsAmong (first j : ℕ) (pieces : List (List (List ℕ))) (sectors : List (List ℕ)) : Type 0 where
  i : ℕ
  at : slice_get (copies first pieces) i ≡ Some (record { span = piece (first + j); sectors = sectors })

is_among : (first j : ℕ) (pieces : List (List (List ℕ))) (sectors : List (List ℕ)) → slice_get pieces j ≡ Some sectors → (is_zero sectors ≡ true) ⊎ IsAmong first j pieces sectors
is_among first j [] sectors at = absurd (none-some sectors at)
is_among first zero (s ∷ rest) sectors at =
    let same = same_Some s sectors at in
    elim (cases_Bool (is_zero s)) [
      | inl zeros ↦ inl (ap is_zero (sym same) ∙ zeros)
      | inr not_zeros ↦
          let here : first ≡ first + 0 = omega arith in
          inr (record {
            i = 0;
            at = ap (λ cs. slice_get cs 0) (cond-false (is_zero s) (copies (first + 1) rest) (record { span = piece first; sectors = s } ∷ copies (first + 1) rest) not_zeros)
                ∙ ap (λ n. Some (the_copy n s)) here ∙ ap (λ z. Some (the_copy (first + 0) z)) same;
          })
    ]
  where
    the_copy : ℕ → List (List ℕ) → Copy
    the_copy n z = record { span = piece n; sectors = z }
is_among first (suc j) (s ∷ rest) sectors at = elim (is_among (first + 1) j rest sectors at) [
  | inl zeros ↦ inl zeros
  | inr a ↦
      let there : (first + 1) + j ≡ first + suc j = omega arith in
      let found = a.at ∙ ap (λ n. Some (the_copy n sectors)) there in
      elim (cases_Bool (is_zero s)) [
        | inl zeros ↦ inr (record { i = a.i; at = ap (λ cs. slice_get cs a.i) (cond-true (is_zero s) (copies (first + 1) rest) (record { span = piece first; sectors = s } ∷ copies (first + 1) rest) zeros) ∙ found })
        | inr not_zeros ↦ inr (record { i = suc a.i; at = ap (λ cs. slice_get cs (suc a.i)) (cond-false (is_zero s) (copies (first + 1) rest) (record { span = piece first; sectors = s } ∷ copies (first + 1) rest) not_zeros) ∙ found })
      ]
]
  where
    the_copy : ℕ → List (List ℕ) → Copy
    the_copy n z = record { span = piece n; sectors = z }

-- and each copy is of one that was given
record ComesOf (first : ℕ) (pieces : List (List (List ℕ))) (copy : Copy) : Type 0 where
  j : ℕ
  at : slice_get pieces j ≡ Some copy.sectors
  span : copy.span ≡ piece (first + j)

comes_later : (first : ℕ) (s : List (List ℕ)) (rest : List (List (List ℕ))) (copy : Copy) → ComesOf (first + 1) rest copy → ComesOf first (s ∷ rest) copy
comes_later first s rest copy c =
    let there : (first + 1) + c.j ≡ first + suc c.j = omega arith in
    record { j = suc c.j; at = c.at; span = c.span ∙ ap piece there }

comes_of : (first i : ℕ) (pieces : List (List (List ℕ))) (copy : Copy) → slice_get (copies first pieces) i ≡ Some copy → ComesOf first pieces copy
comes_of first i [] copy at = absurd (none-some copy at)
comes_of first i (s ∷ rest) copy at = elim (cases_Bool (is_zero s)) [
  | inl zeros ↦ comes_later first s rest copy (comes_of (first + 1) i rest copy (sym (ap (λ cs. slice_get cs i) (cond-true (is_zero s) (copies (first + 1) rest) (record { span = piece first; sectors = s } ∷ copies (first + 1) rest) zeros)) ∙ at))
  | inr not_zeros ↦ by i (sym (ap (λ cs. slice_get cs i) (cond-false (is_zero s) (copies (first + 1) rest) (record { span = piece first; sectors = s } ∷ copies (first + 1) rest) not_zeros)) ∙ at) (λ k. comes_of (first + 1) k rest copy)
]
  where
    by : (n : ℕ) → slice_get (record { span = piece first; sectors = s } ∷ copies (first + 1) rest) n ≡ Some copy → ((k : ℕ) → slice_get (copies (first + 1) rest) k ≡ Some copy → ComesOf (first + 1) rest copy) → ComesOf first (s ∷ rest) copy
    by zero here others =
        let same = same_Some _ copy here in
        let at_first : first ≡ first + 0 = omega arith in
        record { j = 0; at = ap (λ (c : Copy). Some c.sectors) same; span = sym (ap (λ (c : Copy). c.span) same) ∙ ap piece at_first }
    by (suc n) there others = comes_later first s rest copy (others n there)

-- a write of a piece gives its own sectors, and no others
inside : (range : Span) (x : ℕ) → range.count ≤ 8 → is_in range x ≡ true → (range.first ≤ x) × (x < range.first + range.count)
inside range x few is = (grind (arith, nat_tests, few, is), grind (arith, nat_tests, few, is))

record Own (n p nth : ℕ) (sectors : List Sector) (its : Sector) : Type 0 where
  same : n ≡ p
  at : slice_get sectors nth ≡ Some its

bytes_given : (op : Op) (x : ℕ) (its : Sector) → given op x ≡ Some its → bytes_for op x ≡ Some its
unfolding given
bytes_given op x its is = elim (cases_Bool (writes op x)) [
  | inl does ↦ sym (cond-true (writes op x) _ _ does) ∙ is
  | inr doesnt ↦ absurd (none-some its (sym (cond-false (writes op x) _ _ doesnt) ∙ is))
]

own : (n p nth : ℕ) (sectors : List Sector) (its : Sector) → nth < 8 → given (Write (piece n) sectors) (8 * p + nth) ≡ Some its → Own n p nth sectors its
unfolding bytes_for range_of
own n p nth sectors its low is =
    let few : 8 ≤ 8 = omega arith in
    let i = inside (piece n) (8 * p + nth) few (given_in (Write (piece n) sectors) (8 * p + nth) its is) in
    let same : n ≡ p = omega (arith, low, i.0, i.1) in
    let place : (8 * p + nth) - 8 * n ≡ nth = omega (arith, same) in
    record { same = same; at = ap (slice_get sectors) (sym place) ∙ bytes_given (Write (piece n) sectors) (8 * p + nth) its is }

gives_own : (p nth : ℕ) (sectors : List Sector) (its : Sector) → nth < 8 → slice_get sectors nth ≡ Some its → given (Write (piece p) sectors) (8 * p + nth) ≡ Some its
unfolding given bytes_for writes
gives_own p nth sectors its low at =
    let place : (8 * p + nth) - 8 * p ≡ nth = omega arith in
    cond-true (is_in (piece p) (8 * p + nth)) _ _ (in_range (piece p) nth low) ∙ ap (slice_get sectors) place ∙ at

-- bytes that are all zeros
are_zeros : (bytes : List ℕ) → is_zero_sector bytes ≡ true → bytes ≡ replicate (length bytes) 0
are_zeros [] is = refl
are_zeros (b ∷ bs) is = by (cases_Bool (b == 0)) (are_zeros bs)
  where
    by : (b == 0 ≡ true) ⊎ (b == 0 ≡ false) → (is_zero_sector bs ≡ true → bs ≡ replicate (length bs) 0) → b ∷ bs ≡ replicate (length (b ∷ bs)) 0
    by (inl zero_is) rest =
        let later : is_zero_sector bs ≡ true = sym (ap (λ c. c && is_zero_sector bs) zero_is) ∙ is in
        let here : b ≡ 0 = grind (arith, nat_tests, zero_is) in
        ap (λ n. n ∷ bs) here ∙ ap (λ zs. 0 ∷ zs) (rest later)
    by (inr not_zero) rest = absurd (false≢true (sym (ap (λ c. c && is_zero_sector bs) not_zero) ∙ is))

zero_at : (sectors : List Sector) (nth : ℕ) (bytes : Sector) → is_zero sectors ≡ true → slice_get sectors nth ≡ Some bytes → is_zero_sector bytes ≡ true
zero_at [] nth bytes is at = absurd (none-some bytes at)
zero_at (s ∷ rest) nth bytes is at = elim (cases_Bool (is_zero_sector s)) [
  | inr not_zero ↦ absurd (false≢true (sym (ap (λ c. c && is_zero rest) not_zero) ∙ is))
  | inl zero_is ↦ by nth at zero_is (sym (ap (λ c. c && is_zero rest) zero_is) ∙ is) (λ n. zero_at rest n bytes)
]
  where
    by : (n : ℕ) → slice_get (s ∷ rest) n ≡ Some bytes → is_zero_sector s ≡ true → is_zero rest ≡ true → ((k : ℕ) → is_zero rest ≡ true → slice_get rest k ≡ Some bytes → is_zero_sector bytes ≡ true) → is_zero_sector bytes ≡ true
    by zero here zero_is later others = ap is_zero_sector (sym (same_Some s bytes here)) ∙ zero_is
    by (suc n) there zero_is later others = others n later there

-- an answered read of a legal history gives 512 bytes of each sector
module _ (setup : Setup) (history : History) (legal : IsLegal setup history) where
  length_zeros : length zero_sector ≡ 512
  unfolding zero_sector
  length_zeros = refl

  member_length : (x : ℕ) (m : Member) → IsWriteMember setup history x m → length m.bytes ≡ 512
  unfolding given
  member_length x m w = elim (cases_Bool (writes w.op x)) [
    | inl does ↦
        let is = whole_write setup history m.slot w.term w.op x legal w.chosen does in
        ap length (same_Some m.bytes is.bytes (sym w.gives ∙ is.gives)) ∙ is.full
    | inr doesnt ↦ absurd (none-some m.bytes (sym (cond-false (writes w.op x) _ _ doesnt) ∙ w.gives))
  ]

  left_length : (x : ℕ) (r : SectorRegister setup history x) (n : ℕ) → n ≤ length r.order → length (left_by_writes zero_sector (values_of r.order) n) ≡ 512
  left_length x r zero le = length_zeros
  left_length x r (suc n) le =
      let found = something_there r.order n (omega (arith, le)) in
      ap length (left_at (λ (m : Member). m.bytes) r.order n found.0 zero_sector found.1) ∙ member_length x found.0 (r.is_order.each n found.0 found.1)

  read_length : (x : ℕ) (a : Answered) (bytes : Sector) → ReadGives setup history x a bytes → length bytes ≡ 512
  read_length x a bytes gives =
      let r = sector_register setup history x in
      ap length (r.is_register.gives a bytes gives) ∙ left_length x r (r.shown a) (omega (arith, r.is_register.within a, length_mapped (λ (m : Member). m.bytes) r.order))

module _ (groups : Groups) (chunk epoch pieces : ℕ) (last : ℕ → Answered) (turns : List MoverTurn) (c : IsCarriedOut groups chunk epoch pieces last turns) (legal : IsLegal (groups.setup chunk epoch) (groups.history chunk epoch)) where
  abbrev setup : Setup
  setup = groups.setup chunk (suc epoch)

  abbrev history : History
  history = groups.history chunk (suc epoch)

  abbrev moved : List Submission
  moved = groups.moved chunk epoch

  done : IsCopied pieces turns
  done = is_copied chunk pieces turns c.mover c.some c.calls

  zeros : (p nth : ℕ) (bytes : Sector) → p < pieces → nth < 8 → slice_get (last p).bytes nth ≡ Some bytes → is_zero_sector bytes ≡ true → bytes ≡ zero_sector
  unfolding zero_sector
  zeros p nth bytes lt low at is =
      let r = c.read p lt in
      let sector : 8 * p + nth ≡ (last p).range.first + nth = ap (λ (s : Span). s.first + nth) (sym r.2) in
      let full = read_length (groups.setup chunk epoch) (groups.history chunk epoch) legal (8 * p + nth) (last p) bytes (record { k = r.0; answered = r.1; nth = nth; is_sector = sector; has = at }) in
      are_zeros bytes is ∙ ap (λ n. replicate n 0) full

  same : (p k nth : ℕ) (a : Submission) (its : Sector) → slice_get moved k ≡ Some a → nth < 8 → given a.op (8 * p + nth) ≡ Some its → slice_get (last p).bytes nth ≡ Some its
  same p k nth a its there low is =
      let h = c.handed k a there in
      let f = comes_of 0 a.write (given_to turns) h.0 (ap (λ cs. slice_get cs a.write) (sym done.writes) ∙ h.1) in
      let span : h.0.span ≡ piece f.j = f.span ∙ ap piece (first_place f.j) in
      let gives : given (Write (piece f.j) h.0.sectors) (8 * p + nth) ≡ Some its = ap (λ s. given (Write s h.0.sectors) (8 * p + nth)) (sym span) ∙ ap (λ o. given o (8 * p + nth)) (sym h.2) ∙ is in
      let o = own f.j p nth h.0.sectors its low gives in
      ap (λ n. slice_get (last n).bytes nth) (sym o.same) ∙ ap (λ s. slice_get s nth) (sym (c.gave f.j h.0.sectors f.at)) ∙ o.at
    where
      first_place : (j : ℕ) → 0 + j ≡ j
      first_place j = omega arith

  all : (p nth : ℕ) (bytes : Sector) → p < pieces → nth < 8 → slice_get (last p).bytes nth ≡ Some bytes → (bytes ≡ zero_sector) ⊎ ((write : ℕ) × WasWritten setup moved history (8 * p + nth) write)
  all p nth bytes lt low at =
      let ends = done.switch.0 c.switched in
      let found = something_there (given_to turns) p (omega (arith, lt, ends.0)) in
      let here = ap (λ s. slice_get s nth) (c.gave p found.0 found.1) ∙ at in
      elim (is_among 0 p (given_to turns) found.0 found.1) [
        | inl is ↦ inl (zeros p nth bytes lt low at (zero_at found.0 nth bytes is here))
        | inr a ↦
            let first_place : 0 + p ≡ p = omega arith in
            let there = ap (λ cs. slice_get cs a.i) done.writes ∙ a.at in
            let write_low : a.i < answers turns = omega (arith, slice_get_within (pieces_written turns) a.i (record { span = piece (0 + p); sectors = found.0 }) there, ends.1) in
            let gives = ap (λ n. given (Write (piece n) found.0) (8 * p + nth)) first_place ∙ gives_own p nth found.0 bytes low here in
            inr (a.i, c.acked a.i (8 * p + nth) (record { span = piece (0 + p); sectors = found.0 }) bytes write_low there gives)
      ]

  carried : (p : ℕ) → p < pieces → WereCarried groups chunk (8 * p) epoch (last p)
  carried p lt = record { same = same p; all = λ nth bytes low at. all p nth bytes lt low at }

pub were_carried : (groups : Groups) (chunk epoch pieces piece : ℕ) (last : ℕ → Answered) (turns : List MoverTurn) → IsCarriedOut groups chunk epoch pieces last turns → IsLegal (groups.setup chunk epoch) (groups.history chunk epoch) → piece < pieces → WereCarried groups chunk (8 * piece) epoch (last piece)
were_carried groups chunk epoch pieces piece last turns c legal lt = carried groups chunk epoch pieces last turns c legal piece lt
