-- Blocks and their spellings.
use Rattle.std.proofs.Common.{◌≡◌, ℕ, zero, suc, ◌+◌, ◌-◌, ◌^◌, ◌<◌, Bool, true, ◌&&◌, ◌==◌, nat_lt, if◌then◌else◌, List, [], ◌∷◌, ◌++◌, length, take, drop, replicate, Option, Some, None, unwrap_or, inl, inr, refl, ap, sym, subst, ◌∙◌, arith, append_assoc, length-append}
use Rattle.std.proofs.Math.Seq.{take-append_seam, drop-append-add}
use Rattle.std.proofs.lemmas.Bool.{both_ways, cases_Bool, and_from, and_parts, cond-true, cond-false, ltb-true, leb-true, lt-ltb, le-leb}
use Rattle.std.proofs.lemmas.Bool.Decides.{nat_tests}
use Rattle.std.proofs.lemmas.List.{drop-replicate}
use Rattle.std.proofs.lemmas.Nat.{from_be_bytes-to_be_bytes_2, from_be_bytes-to_be_bytes_8}
use Rattle.std.proofs.lemmas.Slice.Eq.{bytes_eq-Decides}
use Rattle.std.specs.Int.{w16, to_be_bytes, from_be_bytes}
use Rattle.std.specs.List.{splice}
use Rattle.std.specs.Str.{bytes_eq}
use Rattle.pf_base.specs.Values.{zero_filled}
use Rattle.pf_entry.specs.Ops.{Sector, zero_sector}
use Rattle.pf_paxos.specs.declared.block.Block.{Block}
use Rattle.pf_paxos.specs.Blocks.{IsBlock, zero_block}
use Rattle.pf_journal.specs.Sectors.{HasSpelling, IsBlockSpelling, ReadsBlock, head_bytes, block_bytes, fields_of, has_spelling, block_in}

-- a value behind a front, over zeros
behind : (most : ℕ) (front value : List ℕ) → splice (zero_filled most front) (length front) (length front + length value) value ≡ zero_filled most (front ++ value)
behind most front value =
    let zeros : List ℕ = replicate (most - length front) 0 in
    ap (λ (xs : List ℕ). xs ++ (value ++ drop (length front + length value) (front ++ zeros))) (take-append_seam front zeros)
    ∙ ap (λ (xs : List ℕ). front ++ (value ++ xs)) (drop-append-add front zeros (length value) ∙ drop-replicate (length value) (most - length front) 0)
    ∙ sym (append_assoc front value (replicate (most - length front - length value) 0))
    ∙ ap (λ (n : ℕ). (front ++ value) ++ replicate n 0) (omega (arith, length-append front value))

-- a head and then a value are put over zeros
pub filled : (head value : List ℕ) → length head ≡ 18 → splice (splice (replicate 512 0) 0 18 head) 18 (18 + length value) value ≡ zero_filled 512 (head ++ value)
filled head value e =
    let room : 494 ≡ 512 - length head = omega (arith, e) in
    ap (λ (n : ℕ). splice (head ++ replicate n 0) 18 (18 + length value) value) room
    ∙ ap (λ (n : ℕ). splice (zero_filled 512 head) n (n + length value) value) (sym e)
    ∙ behind 512 head value

abbrev block_of : (mbal bal : ℕ) (value : List ℕ) → Block
block_of mbal bal value = record { mbal = mbal; bal = bal; value = value }

same_block : (b : Block) (mbal bal : ℕ) (value : List ℕ) → mbal ≡ b.mbal → bal ≡ b.bal → value ≡ b.value → block_of mbal bal value ≡ b
same_block b mbal bal value p q r = λ i. block_of (p i) (q i) (r i)

-- the fields of a spelling are those of the block
fields_back : (b : Block) → HasSpelling b → fields_of (block_bytes b) ≡ b
unfolding fields_of block_bytes head_bytes
fields_back b h =
    let form = h.form in
    let few = h.few in
    let zeros : List ℕ = replicate (512 - length (head_bytes b ++ b.value)) 0 in
    let count = from_be_bytes-to_be_bytes_2 (length b.value) (omega (arith, few)) in
    let end : 18 + from_be_bytes w16 (to_be_bytes w16 (length b.value)) - 18 ≡ length b.value = ap (λ (n : ℕ). 18 + n - 18) count ∙ omega arith in
    same_block b _ _ _
    (from_be_bytes-to_be_bytes_8 b.mbal (omega (arith, form.mbal_low)))
    (from_be_bytes-to_be_bytes_8 b.bal (omega (arith, form.bal_low)))
    (ap (λ (n : ℕ). take n (b.value ++ zeros)) end ∙ take-append_seam b.value zeros)

-- a value is there exactly where the bal is not 0
told_value : (bal : ℕ) (value : List ℕ) → (bal ≡ 0 → value ≡ []) → (value ≡ [] → bal ≡ 0) → (if bal == 0 then length value == 0 else nat_lt 0 (length value)) ≡ true
told_value zero [] without has = refl
told_value zero (x ∷ xs) without has = let e = without refl in absurd (cc)
told_value (suc bal) [] without has = let e = has refl in absurd (omega (arith, e))
told_value (suc bal) (x ∷ xs) without has = grind (arith, nat_tests)

no_value_from : (bal : ℕ) (value : List ℕ) → (if bal == 0 then length value == 0 else nat_lt 0 (length value)) ≡ true → bal ≡ 0 → value ≡ []
no_value_from bal [] told e = refl
no_value_from bal (x ∷ xs) told e = absurd (grind (arith, nat_tests))

has_value_from : (bal : ℕ) (value : List ℕ) → (if bal == 0 then length value == 0 else nat_lt 0 (length value)) ≡ true → value ≡ [] → bal ≡ 0
has_value_from zero value told e = refl
has_value_from (suc bal) [] told e = absurd (grind (arith, nat_tests))
has_value_from (suc bal) (x ∷ xs) told e = absurd (cc)

-- the test of a spelling, both ways
tested : (b : Block) → HasSpelling b → has_spelling b ≡ true
unfolding has_spelling
tested b h =
    let form = h.form in
    and_from _ _
    (and_from _ _
    (and_from _ _ (lt-ltb b.mbal (2 ^ 62) form.mbal_low) (lt-ltb b.bal (2 ^ 62) form.bal_low))
    (le-leb (length b.value) 400 h.few))
    (told_value b.bal b.value form.no_value form.has_value)

test_is : (b : Block) → has_spelling b ≡ true → HasSpelling b
unfolding has_spelling
test_is b t =
    let all = and_parts _ _ t in
    let numbers = and_parts _ _ all.0 in
    let ballots = and_parts _ _ numbers.0 in
    record {
      form = record {
        no_value = no_value_from b.bal b.value all.1;
        has_value = has_value_from b.bal b.value all.1;
        mbal_low = ltb-true b.mbal (2 ^ 62) ballots.0;
        bal_low = ltb-true b.bal (2 ^ 62) ballots.1;
      };
      few = leb-true (length b.value) 400 numbers.1;
    }

-- whether the fields of a sector are those of a block whose spelling it is
abbrev is_spelled : Sector → Bool
is_spelled sector = has_spelling (fields_of sector) && bytes_eq (block_bytes (fields_of sector)) sector

pub its_fields : (b : Block) (sector : Sector) → IsBlockSpelling b sector → fields_of sector ≡ b
its_fields b sector s = ap fields_of (sym s.bytes) ∙ fields_back b s.has

spelled : (b : Block) (sector : Sector) → IsBlockSpelling b sector → is_spelled sector ≡ true
spelled b sector s =
    let same : fields_of sector ≡ b = its_fields b sector s in
    and_from _ _ (ap has_spelling same ∙ tested b s.has) ((bytes_eq-Decides (block_bytes (fields_of sector)) sector).1 (ap block_bytes same ∙ s.bytes))

is_its_spelling : (sector : Sector) → is_spelled sector ≡ true → IsBlockSpelling (fields_of sector) sector
is_its_spelling sector t =
    let both = and_parts (has_spelling (fields_of sector)) (bytes_eq (block_bytes (fields_of sector)) sector) t in
    record { has = test_is (fields_of sector) both.0; bytes = (bytes_eq-Decides (block_bytes (fields_of sector)) sector).0 both.1 }

-- the block in a sector is the one whose spelling it is
pub found : (b : Block) (sector : Sector) → IsBlockSpelling b sector → block_in sector ≡ b
unfolding block_in
found b sector s = cond-true (is_spelled sector) (fields_of sector) zero_block (spelled b sector s) ∙ its_fields b sector s

-- and the block of zeros where it is the spelling of none
pub nothing : (sector : Sector) → ((b : Block) → IsBlockSpelling b sector → ⊥) → block_in sector ≡ zero_block
unfolding block_in
nothing sector none =
    elim (cases_Bool (is_spelled sector)) [
      | inl is ↦ absurd (none (fields_of sector) (is_its_spelling sector is))
      | inr other ↦ cond-false (is_spelled sector) (fields_of sector) zero_block other
    ]

no_value : HasSpelling zero_block
no_value = record {
  form = record { no_value = λ e. refl; has_value = λ e. refl; mbal_low = omega arith; bal_low = omega arith };
  few = omega arith;
}

pub zeros : block_in zero_sector ≡ zero_block
unfolding zero_sector block_bytes head_bytes
zeros = found zero_block zero_sector (record { has = no_value; bytes = refl })

pub back : (b : Block) → HasSpelling b → block_in (block_bytes b) ≡ b
back b h = found b (block_bytes b) (record { has = h; bytes = refl })

pub one_block : (b c : Block) → HasSpelling b → HasSpelling c → block_bytes b ≡ block_bytes c → b ≡ c
one_block b c hb hc e = sym (back b hb) ∙ ap block_in e ∙ back c hc

pub form : (sector : Sector) → IsBlock (block_in sector)
form sector =
    elim (cases_Bool (is_spelled sector)) [
      | inl is ↦ let s = is_its_spelling sector is in subst IsBlock (sym (found (fields_of sector) sector s)) s.has.form
      | inr other ↦ subst IsBlock (sym (nothing sector (λ b s. both_ways (is_spelled sector) other (spelled b sector s)))) no_value.form
    ]

-- a sector whose length is above 400 is the spelling of none
pub past : (sector : Sector) → 400 < length (fields_of sector).value → (b : Block) → IsBlockSpelling b sector → ⊥
past sector long b s =
    let same = ap (λ (c : Block). length c.value) (its_fields b sector s) in
    let few = s.has.few in
    omega (arith, long, same, few)

-- what is read tells the block in the sector
pub told : (sector : Sector) (o : Option Block) → ReadsBlock sector o → unwrap_or o zero_block ≡ block_in sector
told sector (Some b) reads = sym (found b sector reads)
told sector None reads = sym (nothing sector reads)
