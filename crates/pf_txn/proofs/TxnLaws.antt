-- Transactions are read exactly.
use Rattle.std.proofs.Common.{◌≡◌, ℕ, zero, suc, ◌<◌, ◌≤◌, ◌^◌, Bool, true, false, cond, ◌==◌, List, [], ◌∷◌, ◌++◌, length, Option, Some, None, refl, sym, ap, subst, ◌∙◌, arith}
use Rattle.std.specs.Int.{w32}
use Rattle.std.specs.List.{list_all}
use Rattle.std.proofs.lemmas.Bool.{and_parts, and_from, cond-true, ltb-true, lt-ltb, leb-true, le-leb, eqb-true}
use Rattle.std.proofs.lemmas.List.{append-nil, nil_from_length}
use Rattle.std.proofs.lemmas.Option.{cond_some, none-some, same_Some}
use Rattle.pf_entry.specs.Lists.{Every}
use Rattle.pf_entry.proofs.Lists.{every_append, every_more}
use Rattle.pf_tree_tables.specs.declared.changes.Change.{Change}
use Rattle.pf_tree_tables.specs.declared.changes.Change.TheVariants.{SetInode, AddEntry, DeleteEntry, SetTag}
use Rattle.pf_tree_tables.specs.declared.changes.Txn.{Txn}
use Rattle.pf_codec.specs.Parsers.{AreBytes, IsExact, and_then}
use Rattle.pf_codec.specs.Spelling.{number, byte}
use Rattle.pf_codec.proofs.Exact.{bind_ok, then_exact, last_exact, checked_exact, respelled, row_exact, u32_exact}
use Rattle.pf_txn.specs.Spelling.{two, four, FitChanges, CanSpell, spell_change, spell_changes, spell_txn}
use Rattle.pf_txn.specs.Fields.{IsByte, IsTypedChange, IsTyped}
use Rattle.pf_txn.specs.Reading.{IsTxnSpelling, ReadsTxn, txn_at, txn_of, is_byte, txn_in}
use Rattle.pf_txn.proofs.ChangeLaws.{Has, octet_exact, change_exact, in_row}

-- ---- at the front of bytes

abbrev HasTxn : Txn → Type 0
HasTxn t = IsByte t.mount × (t.number < 2 ^ 32) × (length t.changes ≤ 255) × Every Has t.changes

abbrev AreChanges : ℕ → List Change → Type 0
AreChanges n cs = (length cs ≡ n) × Every Has cs

txn_exact : IsExact HasTxn spell_txn txn_at
unfolding txn_at number
txn_exact =
    respelled
    (then_exact octet_exact HasTxn (λ t. t.mount) (λ t. number w32 t.number ++ (byte (length t.changes) ++ spell_changes t.changes)) _ (λ t is. is.0) (λ mount m_low.
    then_exact u32_exact (λ t. HasTxn t × (t.mount ≡ mount)) (λ t. t.number) (λ t. byte (length t.changes) ++ spell_changes t.changes) _ (λ t is. is.0.1) (λ n n_low.
    then_exact octet_exact (λ t. (HasTxn t × (t.mount ≡ mount)) × (t.number ≡ n)) (λ t. length t.changes) (λ t. spell_changes t.changes) _ (λ t is. omega (arith, is.0.0.2)) (λ count c_low.
    last_exact (respelled (row_exact change_exact count) spell_changes (λ cs is. in_row cs)) (λ t. ((HasTxn t × (t.mount ≡ mount)) × (t.number ≡ n)) × (length t.changes ≡ count)) (λ t. t.changes) _ (λ t is. (is.1, is.0.0.0.3)) (λ cs are.
    checked_exact (λ t. (((HasTxn t × (t.mount ≡ mount)) × (t.number ≡ n)) × (length t.changes ≡ count)) × (t.changes ≡ cs)) (λ t. true) (record { mount = mount; number = n; changes = cs })
    (λ t is i. record { mount = sym is.0.0.0.1 i; number = sym is.0.0.1 i; changes = sym is.1 i })
    (λ t is. refl)
    (λ passes. (((((m_low, n_low, omega (arith, are.0, c_low), are.1), refl), refl), are.0), refl)))))))
    spell_txn (λ t is. refl)

-- ---- what has a spelling

has_each : (cs : List Change) → FitChanges cs → Every IsTypedChange cs → Every Has cs
has_each [] fits typed = tt
has_each (c ∷ cs) fits typed = ((fits.0, typed.0), has_each cs fits.1 typed.1)

fits_each : (cs : List Change) → Every Has cs → FitChanges cs
fits_each [] has = tt
fits_each (c ∷ cs) has = (has.0.0, fits_each cs has.1)

has_txn : (t : Txn) → CanSpell t → IsTyped t → HasTxn t
has_txn t can typed = (typed.mount, typed.number, can.count, has_each t.changes can.changes typed.changes)

-- ---- all bytes

every_tested : (bytes : List ℕ) → Every IsByte bytes → list_all is_byte bytes ≡ true
every_tested [] each = refl
every_tested (b ∷ bytes) each = and_from _ _ (lt-ltb b 256 each.0) (every_tested bytes each.1)

are_bytes : (bytes : List ℕ) → list_all is_byte bytes ≡ true → AreBytes bytes
are_bytes [] h i = omega arith
are_bytes (b ∷ bytes) h zero = ltb-true b 256 (and_parts _ _ h).0
are_bytes (b ∷ bytes) h (suc i) = are_bytes bytes (and_parts _ _ h).1 i

pub tested_bytes : (bytes : List ℕ) → AreBytes bytes → list_all is_byte bytes ≡ true
tested_bytes [] ok = refl
tested_bytes (b ∷ bytes) ok = and_from _ _ (lt-ltb b 256 (ok 0)) (tested_bytes bytes (λ i. ok (suc i)))

two_bytes : (n : ℕ) → Every IsByte (two n)
two_bytes n = (omega arith, (omega arith, tt))

four_bytes : (n : ℕ) → Every IsByte (four n)
four_bytes n = (omega arith, (omega arith, (omega arith, (omega arith, tt))))

change_bytes : (c : Change) → Has c → Every IsByte (spell_change c)
change_bytes (SetInode i kind size) is = let w = two_bytes i in (omega arith, (w.0, (w.1.0, (omega (arith, is.0), four_bytes size))))
change_bytes (AddEntry d i name) is = let v = two_bytes d in let w = two_bytes i in (omega arith, (v.0, (v.1.0, (w.0, (w.1.0, (omega (arith, is.0), is.1.2))))))
change_bytes (DeleteEntry d name) is = let v = two_bytes d in (omega arith, (v.0, (v.1.0, (omega (arith, is.0), is.1.1))))
change_bytes (SetTag b i k) is = let v = two_bytes b in let w = two_bytes i in (omega arith, (v.0, (v.1.0, (w.0, (w.1.0, (is.1.2, tt))))))

changes_bytes : (cs : List Change) → Every Has cs → Every IsByte (spell_changes cs)
changes_bytes [] is = tt
changes_bytes (c ∷ cs) is = every_append IsByte (spell_change c) (spell_changes cs) (change_bytes c is.0) (changes_bytes cs is.1)

txn_bytes : (t : Txn) → HasTxn t → Every IsByte (spell_txn t)
txn_bytes t is = let n = four_bytes t.number in (is.0, (n.0, (n.1.0, (n.1.1.0, (n.1.1.1.0, (omega (arith, is.2), changes_bytes t.changes is.3))))))

-- ---- the whole of some bytes

whole_found : (bytes : List ℕ) (t : Txn) → AreBytes bytes → txn_of bytes ≡ Some t → HasTxn t × (spell_txn t ≡ bytes)
unfolding txn_of
whole_found bytes t ok e =
    let a = bind_ok (txn_at bytes) (λ r. cond (length r.1 == 0) (Some r.0) None) t e in
    let ended = cond_some (length a.0.1 == 0) a.0.0 t a.2 in
    let f = txn_exact.found bytes a.0.0 a.0.1 ok a.1 in
    let none : a.0.1 ≡ [] = nil_from_length a.0.1 (eqb-true _ _ ended.0) in
    subst (λ u. HasTxn u × (spell_txn u ≡ bytes)) ended.1 (f.0, sym (f.1 ∙ ap (λ rest. spell_txn a.0.0 ++ rest) none ∙ append-nil (spell_txn a.0.0)))

whole_again : (t : Txn) → HasTxn t → txn_of (spell_txn t) ≡ Some t
unfolding txn_of
whole_again t is =
    ap (λ r. and_then r (λ x. cond (length x.1 == 0) (Some x.0) None)) (ap txn_at (sym (append-nil (spell_txn t))) ∙ txn_exact.again t [] is)

-- where all are bytes, and few
pub txn_in_is : (bytes : List ℕ) → list_all is_byte bytes ≡ true → length bytes ≤ 400 → txn_in bytes ≡ txn_of bytes
unfolding txn_in
txn_in_is bytes all few = cond-true _ _ _ (and_from _ _ all (le-leb _ _ few))

-- what is read of a spelling
pub txn_again : (t : Txn) → CanSpell t → IsTyped t → txn_in (spell_txn t) ≡ Some t
txn_again t can typed =
    let is = has_txn t can typed in
    txn_in_is (spell_txn t) (every_tested (spell_txn t) (txn_bytes t is)) can.few ∙ whole_again t is

-- what is read is spelled
pub txn_found : (bytes : List ℕ) (t : Txn) → txn_in bytes ≡ Some t → IsTxnSpelling t bytes
unfolding txn_in
txn_found bytes t e =
    let g = cond_then _ (txn_of bytes) t e in
    let both = and_parts _ _ g.0 in
    let f = whole_found bytes t (are_bytes bytes both.0) g.1 in
    record {
      has = record { changes = fits_each t.changes f.0.3; count = f.0.2; few = subst (λ bs. length bs ≤ 400) (sym f.1) (leb-true _ _ both.1) };
      typed = record { mount = f.0.0; number = f.0.1; changes = every_more Has IsTypedChange (λ c is. is.1) t.changes f.0.3 };
      spelled = f.1;
    }
  where
    cond_then : (b : Bool) (r : Option Txn) (t : Txn) → cond b r None ≡ Some t → (b ≡ true) × (r ≡ Some t)
    cond_then true r t e = (refl, e)
    cond_then false r t e = absurd (none-some t e)

reads_as : (bytes : List ℕ) (found : Option Txn) → txn_in bytes ≡ found → ReadsTxn bytes found
reads_as bytes (Some t) e = txn_found bytes t e
reads_as bytes None e = λ t is. none-some t (sym e ∙ ap txn_in (sym is.spelled) ∙ txn_again t is.has is.typed)

pub txn_reads : (bytes : List ℕ) → ReadsTxn bytes (txn_in bytes)
txn_reads bytes = reads_as bytes (txn_in bytes) refl

pub txns_apart : (t u : Txn) → CanSpell t → IsTyped t → CanSpell u → IsTyped u → spell_txn t ≡ spell_txn u → t ≡ u
txns_apart t u can_t typed_t can_u typed_u e = same_Some t u (sym (txn_again t can_t typed_t) ∙ ap txn_in e ∙ txn_again u can_u typed_u)
