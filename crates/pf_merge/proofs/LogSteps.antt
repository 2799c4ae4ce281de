-- Steps along a log.
use Rattle.std.proofs.Common.{◌≡◌, ℕ, ◌+◌, ◌<◌, ◌≤◌, ◌≢◌, true, List, [], ◌∷◌, length, Option, Some, None, arith, refl, sym, ap, ◌∙◌, subst}
use Rattle.std.specs.FinMap
use Rattle.std.specs.FinMap.{get-entries, find}
use Rattle.std.specs.Ordering.{nat_cmp}
use Rattle.pf_entry.specs.Lists.{Every}
use Rattle.pf_entry.proofs.Lists.{every_more}
use Rattle.pf_entry.specs.Maps.{Map}
use Rattle.pf_entry.specs.Tables.{ascends}
use Rattle.pf_entry.specs.EntryMaps.{slots_in, entry_rows}
use Rattle.pf_entry.specs.declared.entries.Entry.{Entry}
use Rattle.pf_merge.specs.Cursors.{IsFrom}
use Rattle.pf_merge.proofs.AscendingLists.{find_first, find_later, lower, rising, none_below}

-- the list of a log once what is not above the base may be left out
pub record IsLeft (log : Map Entry) (base : ℕ) (rest : List Entry) : Type 0 where
  pub ascending : ascends (slots_in rest) ≡ true
  pub same : (q : ℕ) → base < q → FinMap.get log q ≡ find nat_cmp q (entry_rows rest)

pub whole : (log : Map Entry) (base : ℕ) (rows : List Entry) → ascends (slots_in rows) ≡ true → FinMap.entries log ≡ entry_rows rows → IsLeft log base rows
whole log base rows ascending are = record { ascending = ascending; same = λ q above. get-entries log q ∙ ap (find nat_cmp q) are }

pub passed : (log : Map Entry) (base : ℕ) (e : Entry) (rest more : List Entry) → IsLeft log base rest → rest ≡ e ∷ more → e.slot ≤ base → IsLeft log base more
passed log base e rest more left is low =
    let l = subst (IsLeft log base) is left in
    record {
      ascending = lower (λ e. e.slot) (λ e. e) e.slot more l.ascending;
      same = λ q above. l.same q above ∙ find_later (λ e. e.slot) (λ e. e) q e more (λ same. omega (arith, above, low, same));
    }

pub reached : (log : Map Entry) (base : ℕ) (e : Entry) (rest more : List Entry) → IsLeft log base rest → rest ≡ e ∷ more → base < e.slot → IsFrom log (base + 1) rest
reached log base e rest more left is above =
    subst (IsFrom log (base + 1)) (sym is) (
    let l = subst (IsLeft log base) is left in
    record {
      ascending = l.ascending;
      from = (omega arith, every_more (λ x. base < x.slot) (λ x. base + 1 ≤ x.slot) (λ x h. omega arith) more (rising (λ e. e.slot) (λ e. e) base e.slot more (omega arith) l.ascending));
      same = λ q h. l.same q (omega arith);
    })

pub none_left : (log : Map Entry) (base : ℕ) (rest : List Entry) → IsLeft log base rest → length rest ≡ 0 → IsFrom log (base + 1) rest
none_left log base [] left is = record { ascending = refl; from = tt; same = λ q h. left.same q (omega arith) }
none_left log base (e ∷ more) left is = absurd (omega arith)

abbrev pub IsNext : Map Entry → ℕ → Option Entry → List Entry → Type 0
IsNext log slot o more = (o ≡ FinMap.get log slot) × IsFrom log (slot + 1) more

pub here : (log : Map Entry) (slot : ℕ) (e : Entry) (rest more : List Entry) → IsFrom log slot rest → rest ≡ e ∷ more → e.slot ≡ slot → IsNext log slot (Some e) more
here log slot e rest more from is same =
    let f = subst (IsFrom log slot) is from in (
      sym (f.same slot (omega arith) ∙ find_first (λ e. e.slot) (λ e. e) slot e more (sym same)),
      record {
        ascending = lower (λ e. e.slot) (λ e. e) e.slot more f.ascending;
        from = every_more (λ x. slot < x.slot) (λ x. slot + 1 ≤ x.slot) (λ x h. omega arith) more (rising (λ e. e.slot) (λ e. e) slot e.slot more (omega arith) f.ascending);
        same = λ q h. f.same q (omega arith) ∙ find_later (λ e. e.slot) (λ e. e) q e more (λ s. omega (arith, h, s, same));
      },
    )

later : (log : Map Entry) (slot : ℕ) (rest : List Entry) → IsFrom log slot rest → Every (λ x. slot < x.slot) rest → IsNext log slot None rest
later log slot rest from above = (
  sym (from.same slot (omega arith) ∙ none_below (λ e. e.slot) (λ e. e) slot rest above),
  record {
    ascending = from.ascending;
    from = every_more (λ x. slot < x.slot) (λ x. slot + 1 ≤ x.slot) (λ x h. omega arith) rest above;
    same = λ q h. from.same q (omega arith);
  },
)

pub beyond : (log : Map Entry) (slot : ℕ) (e : Entry) (rest more : List Entry) → IsFrom log slot rest → rest ≡ e ∷ more → e.slot ≢ slot → IsNext log slot None rest
beyond log slot e rest more from is apart =
    subst (IsNext log slot None) (sym is) (
    let f = subst (IsFrom log slot) is from in
    let at : slot ≤ e.slot = f.from.0 in
    let h : slot < e.slot = omega (arith, at, apart) in
    later log slot (e ∷ more) f (h, rising (λ e. e.slot) (λ e. e) slot e.slot more (omega arith) f.ascending))

pub ended : (log : Map Entry) (slot : ℕ) (rest : List Entry) → IsFrom log slot rest → length rest ≡ 0 → IsNext log slot None rest
ended log slot [] from is = later log slot [] from tt
ended log slot (e ∷ more) from is = absurd (omega arith)
