-- A read of a sector gives zeros, or bytes that a client asked to be written there.
use Rattle.std.proofs.Common.{◌≡◌, ℕ, zero, suc, ◌+◌, ◌*◌, ◌<◌, ◌≤◌, ◌⊎◌, inl, inr, List, [], ◌∷◌, ◌++◌, length, Some, slice_get, arith, refl, sym, ap, subst, ◌∙◌}
use Rattle.std.proofs.lemmas.Bool.{cases_lt}
use Rattle.std.proofs.lemmas.List.{length-append}
use Rattle.std.proofs.lemmas.Option.{none-some}
use Rattle.pf_entry.specs.Ops.{Sector, zero_sector}
use Rattle.pf_protocol.proofs.ForPorts.{comes_op, one_chosen_op}
use Rattle.pf_law_registers.specs.Registers.{left_by_writes}
use Rattle.pf_law_registers.specs.Orders.{Member, given, values_of}
use Rattle.pf_law_registers.proofs.Lists.{left_at}
use Rattle.pf_law_positions.specs.Deeds.{Deed, Groups, Hands}
use Rattle.pf_law_epochs.specs.InTurn.{AsksBytes}
use Rattle.pf_law_epochs.specs.Orders.{members_before, order_of_sector}
use Rattle.pf_law_epochs.specs.Routed.{IsRouted}
use Rattle.pf_law_epochs.specs.Sectors.{GivesRouted, IsCopyOf, RoutedRead, RoutedSector}
use Rattle.pf_law_epochs.proofs.Sectors.{routed_sector}

-- Places of the order

in_first : {X : Type 0} → (xs ys : List X) (k : ℕ) (x : X) → slice_get xs k ≡ Some x → slice_get (xs ++ ys) k ≡ Some x
in_first [] ys k x at = absurd (none-some _ at)
in_first (y ∷ xs) ys zero x at = at
in_first (y ∷ xs) ys (suc k) x at = in_first xs ys k x at

in_second : {X : Type 0} → (xs ys : List X) (k : ℕ) → slice_get (xs ++ ys) (length xs + k) ≡ slice_get ys k
in_second [] ys k = let same : 0 + k ≡ k = omega arith in ap (slice_get ys) same
in_second (x ∷ xs) ys k = let e : suc (length xs) + k ≡ suc (length xs + k) = omega arith in ap (slice_get (x ∷ (xs ++ ys))) e ∙ in_second xs ys k

module _ (parts : ℕ → List Member) where
  order_length : (e : ℕ) → length (order_of_sector parts e) ≡ members_before parts e + length (parts e)
  order_length zero = omega arith
  order_length (suc e) = omega (arith, length-append (order_of_sector parts e) (parts (suc e)), order_length e)

  in_order : (n e nth : ℕ) (m : Member) → e ≤ n → slice_get (parts e) nth ≡ Some m → slice_get (order_of_sector parts n) (members_before parts e + nth) ≡ Some m
  in_order zero e nth m le at =
      let none : e ≡ 0 = omega (arith, le) in
      let first = ap (members_before parts) none in
      let same : members_before parts e + nth ≡ nth = omega (arith, first) in
      ap (slice_get (parts 0)) same ∙ subst (λ e. slice_get (parts e) nth ≡ Some m) none at
  in_order (suc n) e nth m le at = elim (cases_lt e (suc n)) [
    | inl before ↦ in_first (order_of_sector parts n) (parts (suc n)) (members_before parts e + nth) m (in_order n e nth m (omega (arith, before)) at)
    | inr not_before ↦
        let one : e ≡ suc n = omega (arith, le, not_before) in
        let first = ap (members_before parts) one in
        let same : members_before parts e + nth ≡ length (order_of_sector parts n) + nth = omega (arith, first, order_length n) in
        ap (slice_get (order_of_sector parts (suc n))) same
        ∙ in_second (order_of_sector parts n) (parts (suc n)) nth
        ∙ subst (λ e. slice_get (parts e) nth ≡ Some m) one at
  ]

-- a client asked this
pub record IsAskedFor (deeds : List Deed) (chunk x : ℕ) (bytes : Sector) : Type 0 where
  pub client : ℕ
  pub write : ℕ
  pub asks : AsksBytes deeds chunk x client write bytes

module _ (groups : Groups) (deeds : List Deed) (chunk piece nth : ℕ) (routed : IsRouted groups deeds chunk piece) (low : nth < 8) where
  abbrev x : ℕ
  x = 8 * piece + nth

  sector : RoutedSector groups deeds chunk x routed.last
  sector = routed_sector groups deeds chunk piece nth routed low

  -- what a copy gives is what its submission does
  copy_gives : (place epoch client write : ℕ) → epoch ≤ groups.moves chunk → (copy : IsCopyOf groups chunk sector.parts place epoch client write) → given copy.submission.op x ≡ Some copy.member.bytes
  copy_gives place epoch client write le copy =
      let w = ((sector.are_parts epoch le).each copy.is_at.nth copy.member copy.is_at.at).is_write in
      let comes = comes_op (groups.setup chunk epoch) (groups.history chunk epoch) copy.member.slot copy.submission copy.comes in
      let same = one_chosen_op (groups.setup chunk epoch) (groups.history chunk epoch) copy.member.slot w.term copy.comes.term w.op copy.comes.op w.chosen copy.comes.chosen in
      ap (λ o. given o x) (sym comes) ∙ ap (λ o. given o x) (sym same) ∙ w.gives

  pub given_asked : (r : RoutedRead groups deeds chunk x) (bytes : Sector) → GivesRouted groups deeds chunk x r bytes → (bytes ≡ zero_sector) ⊎ IsAskedFor deeds chunk x bytes
  given_asked r bytes gives = by (sector.shown r) refl
    where
      by : (n : ℕ) → sector.shown r ≡ n → (bytes ≡ zero_sector) ⊎ IsAskedFor deeds chunk x bytes
      by zero none = inl (sector.is_register.gives r bytes gives ∙ ap (left_by_writes zero_sector (values_of (order_of_sector sector.parts (groups.moves chunk)))) none)
      by (suc k) some =
          let h = sector.is_register.asked r k (omega (arith, some)) in
          let le = routed.fits.reached h.moment h.epoch _ h.at (Hands h.client (length h.copy.submission.before)) in
          let there = in_order sector.parts (groups.moves chunk) h.epoch h.copy.is_at.nth h.copy.member le h.copy.is_at.at in
          let last = left_at (λ (m : Member). m.bytes) (order_of_sector sector.parts (groups.moves chunk)) k h.copy.member zero_sector (ap (slice_get (order_of_sector sector.parts (groups.moves chunk))) h.copy.is_at.is_place ∙ there) in
          let is : h.copy.member.bytes ≡ bytes = sym (sector.is_register.gives r bytes gives ∙ ap (left_by_writes zero_sector (values_of (order_of_sector sector.parts (groups.moves chunk)))) some ∙ last) in
          let pending = ((routed.fits.port h.epoch h.client le).handed h.copy.k h.copy.submission h.copy.there).pending in
          inr (record {
            client = h.client;
            write = h.copy.submission.write;
            asks = record { reply = pending.reply; op = h.copy.submission.op; at = pending.at; gives = copy_gives k h.epoch h.client h.write le h.copy ∙ ap (λ (b : Sector). Some b) is };
          })
