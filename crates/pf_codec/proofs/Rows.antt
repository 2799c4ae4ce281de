-- Reading values one after the other, as a loop does.
use Rattle.std.proofs.Common.{◌≡◌, ℕ, zero, suc, ◌-◌, ◌+◌, ◌≤◌, ◌<◌, Bool, List, [], ◌∷◌, ◌++◌, length, Option, Some, None, refl, sym, ap, ◌∙◌, append_assoc, arith}
use Rattle.std.proofs.lemmas.List.{append-nil}
use Rattle.std.proofs.lemmas.Option.{some_pair_parts}
use Rattle.pf_codec.specs.declared.faults.ReadFault.{ReadFault}
use Rattle.pf_codec.specs.declared.faults.ReadFault.TheVariants.{NoMemory, Malformed}
use Rattle.pf_entry.specs.Tables.{ascends, ascends_from}
use Rattle.pf_codec.specs.Parsers.{Parser, and_then, Fails, row_at}
use Rattle.pf_codec.proofs.Exact.{bind_ok}

-- what was read before, and what is still read
abbrev pub with_front : {X : Type 0} → List X → Option (List X × List ℕ) → Option (List X × List ℕ)
with_front front read = and_then read (λ x. Some (front ++ x.0, x.1))

module _ {X : Type 0} (p : Parser X) where
  regroup : (front : List X) (x : X) (read : Option (List X × List ℕ)) → with_front front (and_then read (λ xs. Some (x ∷ xs.0, xs.1))) ≡ with_front (front ++ x ∷ []) read
  regroup front x (Some xs) = ap (λ (ns : List X). Some (ns, xs.1)) (simp append_assoc)
  regroup front x None = refl

  pub goes_on : (front : List X) (count i : ℕ) (bytes : List ℕ) (x : X) (after : List ℕ) (total : Option (List X × List ℕ)) → i < count → p bytes ≡ Some (x, after)
      → with_front front (row_at p (count - i) bytes) ≡ total → with_front (front ++ x ∷ []) (row_at p (count - (i + 1)) after) ≡ total
  unfolding row_at
  goes_on front count i bytes x after total lt h so_far =
      let k : count - i ≡ suc (count - (i + 1)) = omega arith in
      let one : with_front front (row_at p (count - i) bytes) ≡ with_front (front ++ x ∷ []) (row_at p (count - (i + 1)) after) = rw (k, h) (regroup front x (row_at p (count - (i + 1)) after)) in
      sym one ∙ so_far

  pub ends : (e : ReadFault) (front : List X) (count i : ℕ) (bytes : List ℕ) (total : Option (List X × List ℕ)) → i < count → Fails e (p bytes)
      → with_front front (row_at p (count - i) bytes) ≡ total → Fails e total
  unfolding row_at
  ends NoMemory front count i bytes total lt h so_far = tt
  ends Malformed front count i bytes total lt h so_far =
      let k : count - i ≡ suc (count - (i + 1)) = omega arith in
      let one : with_front front (row_at p (count - i) bytes) ≡ None = rw (k, h) refl in
      sym so_far ∙ one

  pub is_done : (front : List X) (count i : ℕ) (bytes : List ℕ) (total : Option (List X × List ℕ)) → count ≤ i → with_front front (row_at p (count - i) bytes) ≡ total → total ≡ Some (front, bytes)
  unfolding row_at
  is_done front count i bytes total le so_far =
      let k : count - i ≡ 0 = omega arith in
      let one : with_front front (row_at p (count - i) bytes) ≡ Some (front, bytes) = rw k (ap (λ (xs : List X). Some (xs, bytes)) (append-nil front)) in
      sym so_far ∙ one

-- whether numbers ascend, from above the last one before them
abbrev pub ascends_after : Option ℕ → List ℕ → Bool
ascends_after None ns = ascends ns
ascends_after (Some n) ns = ascends_from n ns

-- how many were read
pub length-row_at : {X : Type 0} (p : Parser X) (n : ℕ) (bytes : List ℕ) (xs : List X) (rest : List ℕ) → row_at p n bytes ≡ Some (xs, rest) → length xs ≡ n
unfolding row_at
length-row_at p zero bytes xs rest e = ap length (sym (some_pair_parts [] xs bytes rest e).0)
length-row_at p (suc n) bytes xs rest e =
    let a = bind_ok (p bytes) (λ x. and_then (row_at p n x.1) (λ ys. Some (x.0 ∷ ys.0, ys.1))) (xs, rest) e in
    let b = bind_ok (row_at p n a.0.1) (λ ys. Some (a.0.0 ∷ ys.0, ys.1)) (xs, rest) a.2 in
    ap length (sym (some_pair_parts (a.0.0 ∷ b.0.0) xs b.0.1 rest b.2).0) ∙ ap suc (length-row_at p n a.0.1 b.0.0 b.0.1 b.1)
