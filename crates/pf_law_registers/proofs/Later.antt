-- A read shows the same writes ever after.
use Rattle.std.proofs.Common.{◌≡◌, ℕ, zero, suc, ◌<◌, ◌≤◌, inl, inr, List, [], ◌∷◌, Some, slice_get, arith, refl, sym, ap, ◌∙◌}
use Rattle.std.proofs.lemmas.Bool.{cases_lt}
use Rattle.std.proofs.lemmas.Option.{same_Some, none-some}
use Rattle.pf_entry.specs.declared.ops.Op.{Op}
use Rattle.pf_protocol.specs.Servers.{Setup}
use Rattle.pf_protocol.specs.Groups.{Answered}
use Rattle.pf_protocol.specs.Histories.{History, IsPrefix, replay, IsChosen}
use Rattle.pf_protocol.proofs.ForPorts.{one_chosen_op, above_zero, chosen_after}
use Rattle.pf_protocol.proofs.ForHistories.{fresh}
use Rattle.pf_law_registers.specs.Orders.{Member, given, IsOrder}
use Rattle.pf_law_registers.specs.Sectors.{SectorRegister, ShowsTheSame}
use Rattle.pf_law_registers.proofs.Lists.{something_there, length_mapped}
use Rattle.pf_law_registers.proofs.AnswersKept.{answered_stays}

abbrev pub Ascends : List Member → Type 0
Ascends ms = (j k : ℕ) (a b : Member) → slice_get ms j ≡ Some a → slice_get ms k ≡ Some b → j < k → a.slot < b.slot

abbrev pub Has : List Member → Member → Type 0
Has ms m = (place : ℕ) × (slice_get ms place ≡ Some m)

-- two ascending lists, the first all in the second and the second's first ones in the first, begin with the same
module _ (e h : Member) (es hs : List Member) (up_e : Ascends (e ∷ es)) (up_h : Ascends (h ∷ hs)) where
  same_first : Has (h ∷ hs) e → Has (e ∷ es) h → e ≡ h
  same_first (zero, at) there = sym (same_Some h e at)
  same_first (suc q, at) (zero, there) = same_Some e h there
  same_first (suc q, at) (suc r, there) = absurd (omega (arith, up_h zero (suc q) h e refl at (omega arith), up_e zero (suc r) e h refl there (omega arith)))

  in_rest : e ≡ h → (m : Member) → Has es m → Has (h ∷ hs) m → Has hs m
  in_rest same m (k, at) (zero, there) = absurd (omega (arith, up_e zero (suc k) e m refl at (omega arith), ap (λ z. z.slot) (same ∙ same_Some h m there)))
  in_rest same m (k, at) (suc q, there) = (q, there)

  in_rest_too : e ≡ h → (m : Member) → Has hs m → Has (e ∷ es) m → Has es m
  in_rest_too same m (k, at) (zero, there) = absurd (omega (arith, up_h zero (suc k) h m refl at (omega arith), ap (λ z. z.slot) (sym same ∙ same_Some e m there)))
  in_rest_too same m (k, at) (suc q, there) = (q, there)

rest_ascends : (m : Member) (ms : List Member) → Ascends (m ∷ ms) → Ascends ms
rest_ascends m ms up j k a b at there less = up (suc j) (suc k) a b at there (omega arith)

agree : (old new : List Member) (n : ℕ) → Ascends old → Ascends new → ((m : Member) → Has old m → Has new m) → ((place : ℕ) (m : Member) → place < n → slice_get new place ≡ Some m → Has old m) → (place : ℕ) → place < n → slice_get old place ≡ slice_get new place
agree old new zero up_old up_new sub back place lt = absurd (omega (arith, lt))
agree [] [] (suc n) up_old up_new sub back place lt = refl
agree (e ∷ es) [] (suc n) up_old up_new sub back place lt = let at = sub e (0, refl) in absurd (none-some e at.1)
agree [] (h ∷ hs) (suc n) up_old up_new sub back place lt = let at = back 0 h (omega arith) refl in absurd (none-some h at.1)
agree (e ∷ es) (h ∷ hs) (suc n) up_old up_new sub back zero lt = ap Some (same_first e h es hs up_old up_new (sub e (0, refl)) (back 0 h (omega arith) refl))
agree (e ∷ es) (h ∷ hs) (suc n) up_old up_new sub back (suc place) lt =
    let same = same_first e h es hs up_old up_new (sub e (0, refl)) (back 0 h (omega arith) refl) in
    agree es hs n (rest_ascends e es up_old) (rest_ascends h hs up_new)
    (λ m at. in_rest e h es hs up_old up_new same m at (sub m (suc at.0, at.1)))
    (λ k m less at. in_rest_too e h es hs up_old up_new same m (k, at) (back (suc k) m (omega (arith, less)) at))
    place (omega (arith, lt))

same_lists : (xs ys : List Member) → ((k : ℕ) → slice_get xs k ≡ slice_get ys k) → xs ≡ ys
same_lists [] [] is = refl
same_lists [] (y ∷ ys) is = absurd (none-some y (is 0))
same_lists (x ∷ xs) [] is = absurd (none-some x (sym (is 0)))
same_lists (x ∷ xs) (y ∷ ys) is = ap (λ z. z ∷ xs) (same_Some x y (is 0)) ∙ ap (λ zs. y ∷ zs) (same_lists xs ys (λ k. is (suc k)))

-- two ascending lists of the same members
pub one_list : (a b : List Member) → Ascends a → Ascends b → ((m : Member) → Has a m → Has b m) → ((m : Member) → Has b m → Has a m) → a ≡ b
one_list a b up_a up_b there back = same_lists a b (λ place. agree a b (suc place) up_a up_b there (λ k m less at. back m (k, at)) place (omega arith))

-- a sector has one order
pub one_order : (setup : Setup) (history : History) (x : ℕ) (a b : List Member) → IsOrder setup history x a → IsOrder setup history x b → a ≡ b
one_order setup history x a b is it =
    one_list a b is.ascends it.ascends (λ m at. it.all m (is.each at.0 m at.1)) (λ m at. is.all m (it.each at.0 m at.1))

-- a write that a read shows was chosen by each moment at which it was answered
pub record Then (setup : Setup) (now : History) (x : ℕ) (m : Member) : Type 0 where
  pub term : ℕ
  pub op : Op
  pub chosen : IsChosen setup now m.slot term op
  pub gives : given op x ≡ Some m.bytes

pub chosen_then : (setup : Setup) (history : History) (x : ℕ) (reg : SectorRegister setup history x) (a : Answered) (now : History) (k : ℕ) → IsPrefix now history → slice_get (replay setup now).answered k ≡ Some a → (place : ℕ) (m : Member) → slice_get reg.order place ≡ Some m → place < reg.shown a → Then setup now x m
chosen_then setup history x reg a now k p at place m there lt =
    let w = reg.is_order.each place m there in
    let did = (reg.had_applied k a place m (answered_stays setup now history k a p at) there).0 lt in
    let c = (fresh setup now k a at).covered.chosen m.slot (above_zero setup history m.slot w.term w.op w.chosen) did in
    let same : w.op ≡ c.0 = one_chosen_op setup history m.slot w.term c.1.0 w.op c.0 w.chosen (chosen_after setup now history p m.slot c.1.0 c.0 c.1.2) in
    record { term = c.1.0; op = c.0; chosen = c.1.2; gives = ap (λ o. given o x) (sym same) ∙ w.gives }

module _ (setup : Setup) (earlier history : History) (x : ℕ) (old : SectorRegister setup earlier x) (new : SectorRegister setup history x) (k : ℕ) (a : Answered) (p : IsPrefix earlier history) (at : slice_get (replay setup earlier).answered k ≡ Some a) where
  still : slice_get (replay setup history).answered k ≡ Some a
  still = answered_stays setup earlier history k a p at

  old_there : (m : Member) → Has old.order m → Has new.order m
  old_there m has =
      let w = old.is_order.each has.0 m has.1 in
      new.is_order.all m (record { term = w.term; op = w.op; chosen = chosen_after setup earlier history p m.slot w.term w.op w.chosen; gives = w.gives })

  new_there : (place : ℕ) (m : Member) → place < new.shown a → slice_get new.order place ≡ Some m → Has old.order m
  new_there place m lt there =
      let c = chosen_then setup history x new a earlier k p at place m there lt in
      old.is_order.all m (record { term = c.term; op = c.op; chosen = c.chosen; gives = c.gives })

  same_at : (place : ℕ) → place < new.shown a → slice_get old.order place ≡ slice_get new.order place
  same_at = agree old.order new.order (new.shown a) old.is_order.ascends new.is_order.ascends old_there new_there

  not_fewer : new.shown a ≤ old.shown a
  not_fewer = elim (cases_lt (old.shown a) (new.shown a)) [
    | inr not_less ↦ not_less
    | inl less ↦
        let found = something_there new.order (old.shown a) (omega (arith, less, new.is_register.within a, length_mapped (λ (m : Member). m.bytes) new.order)) in
        let did = (new.had_applied k a (old.shown a) found.0 still found.1).0 less in
        let lt = (old.had_applied k a (old.shown a) found.0 at (same_at (old.shown a) less ∙ found.1)).1 did in
        absurd (omega (arith, lt))
  ]

  not_more : old.shown a ≤ new.shown a
  not_more = elim (cases_lt (new.shown a) (old.shown a)) [
    | inr not_less ↦ not_less
    | inl less ↦
        let found = something_there old.order (new.shown a) (omega (arith, less, old.is_register.within a, length_mapped (λ (m : Member). m.bytes) old.order)) in
        let did = (old.had_applied k a (new.shown a) found.0 at found.1).0 less in
        let there = old_there found.0 (new.shown a, found.1) in
        let lt = (new.had_applied k a there.0 found.0 still there.1).1 did in
        absurd (omega (arith, old.is_order.ascends there.0 (new.shown a) found.0 found.0 (same_at there.0 lt ∙ there.1) found.1 lt))
  ]

  pub shows_same : ShowsTheSame setup earlier history x old new a
  shows_same = record { as_many = omega (arith, not_fewer, not_more); same = λ place lt. same_at place (omega (arith, lt, not_more)) }

pub shows_the_same : (setup : Setup) (earlier history : History) (x : ℕ) (old : SectorRegister setup earlier x) (new : SectorRegister setup history x) (k : ℕ) (a : Answered) → IsPrefix earlier history → slice_get (replay setup earlier).answered k ≡ Some a → ShowsTheSame setup earlier history x old new a
shows_the_same setup earlier history x old new k a p at = shows_same setup earlier history x old new k a p at
