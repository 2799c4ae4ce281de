-- Changes are read exactly.
use Rattle.std.proofs.Common.{◌≡◌, ℕ, ◌<◌, ◌≤◌, ◌^◌, Bool, true, false, not, ◌||◌, ◌==◌, nat_le, List, [], ◌∷◌, ◌++◌, length, refl, sym, ap, subst, ◌∙◌, arith, inl, inr, slice_index}
use Rattle.std.specs.Int.{w16, w32}
use Rattle.std.specs.List.{flat_map}
use Rattle.std.proofs.lemmas.Bool.{cases_Bool, or_cases, or_left, or_right, leb-true, le-leb, eqb-true, eqb-false, eq-eqb, not-true, not_from_false}
use Rattle.pf_entry.specs.Lists.{Every}
use Rattle.pf_tree_tables.specs.declared.changes.Change.{Change}
use Rattle.pf_tree_tables.specs.declared.changes.Change.TheVariants.{SetInode, AddEntry, DeleteEntry, SetTag}
use Rattle.pf_codec.specs.Parsers.{AreBytes, IsExact, byte_at}
use Rattle.pf_codec.specs.Spelling.{number, byte}
use Rattle.pf_codec.proofs.Exact.{then_exact, last_exact, checked_exact, nothing_exact, chosen_exact, respelled, renamed, row_exact, byte_exact, u16_exact, u32_exact}
use Rattle.pf_txn.specs.Spelling.{FitsChange, spell_change, spell_changes}
use Rattle.pf_txn.specs.Fields.{IsByte, IsTypedChange}
use Rattle.pf_txn.specs.Reading.{name_at, set_inode_at, add_entry_at, delete_entry_at, set_tag_at, change_tagged, change_at}

-- ---- bytes and names

octet_found : (bytes : List ℕ) (n : ℕ) (rest : List ℕ) → AreBytes bytes → bytes ≡ byte n ++ rest → IsByte n
octet_found bytes n rest ok e = subst (λ bs. slice_index bs 0 < 256) e (ok 0)

-- a byte is below 256
pub octet_exact : IsExact IsByte byte byte_at
octet_exact = record {
  found = λ bytes n rest ok e. let f = byte_exact.found bytes n rest ok e in (octet_found bytes n rest ok f.1, f.1);
  again = λ n rest c. byte_exact.again n rest tt;
}

each_byte : (name : List ℕ) → flat_map byte name ≡ name
each_byte [] = refl
each_byte (b ∷ name) = ap (λ bs. b ∷ bs) (each_byte name)

abbrev NameFits : List ℕ → Type 0
NameFits name = (length name ≤ 255) × Every IsByte name

name_exact : IsExact NameFits (λ name. byte (length name) ++ name) name_at
unfolding name_at
name_exact =
    respelled
    (then_exact octet_exact NameFits (λ name. length name) (flat_map byte) _ (λ name fits. omega (arith, fits.0))
    (λ n low. renamed (row_exact octet_exact n) (λ name. NameFits name × (length name ≡ n)) (λ name is. ((omega (arith, is.0, low), is.1), is.0)) (λ name is. (is.1, is.0.1))))
    (λ name. byte (length name) ++ name) (λ name fits. ap (λ bs. byte (length name) ++ bs) (each_byte name))

-- ---- changes

-- a change that has a spelling, and its fields are within their types
abbrev pub Has : Change → Type 0
Has c = FitsChange c × IsTypedChange c

abbrev tag_of : Change → ℕ
tag_of (SetInode i kind size) = 1
tag_of (AddEntry d i name) = 2
tag_of (DeleteEntry d name) = 3
tag_of (SetTag b i k) = 4

abbrev HasTag : ℕ → Change → Type 0
HasTag tag c = Has c × (tag_of c ≡ tag)

-- the fields, and 0 or nothing where a change has no such field
abbrev inode_in : Change → ℕ
inode_in (SetInode i kind size) = i
inode_in (AddEntry d i name) = i
inode_in (DeleteEntry d name) = 0
inode_in (SetTag b i k) = i

abbrev kind_in : Change → ℕ
kind_in (SetInode i kind size) = kind
kind_in (AddEntry d i name) = 0
kind_in (DeleteEntry d name) = 0
kind_in (SetTag b i k) = 0

abbrev size_in : Change → ℕ
size_in (SetInode i kind size) = size
size_in (AddEntry d i name) = 0
size_in (DeleteEntry d name) = 0
size_in (SetTag b i k) = 0

abbrev directory_in : Change → ℕ
directory_in (SetInode i kind size) = 0
directory_in (AddEntry d i name) = d
directory_in (DeleteEntry d name) = d
directory_in (SetTag b i k) = 0

abbrev name_in : Change → List ℕ
name_in (SetInode i kind size) = []
name_in (AddEntry d i name) = name
name_in (DeleteEntry d name) = name
name_in (SetTag b i k) = []

abbrev block_in : Change → ℕ
block_in (SetInode i kind size) = 0
block_in (AddEntry d i name) = 0
block_in (DeleteEntry d name) = 0
block_in (SetTag b i k) = b

abbrev index_in : Change → ℕ
index_in (SetInode i kind size) = 0
index_in (AddEntry d i name) = 0
index_in (DeleteEntry d name) = 0
index_in (SetTag b i k) = k

pub record AreFields (c : Change) : Type 0 where
  inode : inode_in c < 2 ^ 16
  size : size_in c < 2 ^ 32
  directory : directory_in c < 2 ^ 16
  name : NameFits (name_in c)
  block : block_in c < 2 ^ 16
  index : IsByte (index_in c)

no_name : NameFits []
no_name = (omega arith, tt)

fields : (c : Change) → Has c → AreFields c
fields (SetInode i kind size) is = record { inode = is.1.0; size = is.1.1; directory = omega arith; name = no_name; block = omega arith; index = omega arith }
fields (AddEntry d i name) is = record { inode = is.1.1; size = omega arith; directory = is.1.0; name = (is.0, is.1.2); block = omega arith; index = omega arith }
fields (DeleteEntry d name) is = record { inode = omega arith; size = omega arith; directory = is.1.0; name = (is.0, is.1.1); block = omega arith; index = omega arith }
fields (SetTag b i k) is = record { inode = is.1.1; size = omega arith; directory = omega arith; name = no_name; block = is.1.0; index = is.1.2 }

-- what stands behind the tag
abbrev behind : Change → List ℕ
behind (SetInode i kind size) = number w16 i ++ (byte kind ++ number w32 size)
behind (AddEntry d i name) = number w16 d ++ (number w16 i ++ (byte (length name) ++ name))
behind (DeleteEntry d name) = number w16 d ++ (byte (length name) ++ name)
behind (SetTag b i k) = number w16 b ++ (number w16 i ++ byte k)

-- ---- each of the four

set_inode_is : (c : Change) → HasTag 1 c → SetInode (inode_in c) (kind_in c) (size_in c) ≡ c
set_inode_is (SetInode i kind size) is = refl
set_inode_is (AddEntry d i name) is = absurd (omega (arith, is.1))
set_inode_is (DeleteEntry d name) is = absurd (omega (arith, is.1))
set_inode_is (SetTag b i k) is = absurd (omega (arith, is.1))

set_inode_kind : (c : Change) → HasTag 1 c → nat_le (kind_in c) 2 ≡ true
set_inode_kind (SetInode i kind size) is = le-leb kind 2 is.0.0
set_inode_kind (AddEntry d i name) is = absurd (omega (arith, is.1))
set_inode_kind (DeleteEntry d name) is = absurd (omega (arith, is.1))
set_inode_kind (SetTag b i k) is = absurd (omega (arith, is.1))

set_inode_exact : IsExact (HasTag 1) behind set_inode_at
unfolding set_inode_at
set_inode_exact =
    respelled
    (then_exact u16_exact (HasTag 1) inode_in (λ c. byte (kind_in c) ++ number w32 (size_in c)) _ (λ c is. (fields c is.0).inode) (λ i i_low.
    then_exact byte_exact (λ c. HasTag 1 c × (inode_in c ≡ i)) kind_in (λ c. number w32 (size_in c)) _ (λ c is. tt) (λ kind any.
    last_exact u32_exact (λ c. (HasTag 1 c × (inode_in c ≡ i)) × (kind_in c ≡ kind)) size_in _ (λ c is. (fields c is.0.0.0).size) (λ size size_low.
    checked_exact (λ c. ((HasTag 1 c × (inode_in c ≡ i)) × (kind_in c ≡ kind)) × (size_in c ≡ size)) (λ c. nat_le (kind_in c) 2) (SetInode i kind size)
    (λ c is. (λ j. SetInode (sym is.0.0.1 j) (sym is.0.1 j) (sym is.1 j)) ∙ set_inode_is c is.0.0.0)
    (λ c is. set_inode_kind c is.0.0.0)
    (λ passes. (((((leb-true kind 2 passes, (i_low, size_low)), refl), refl), refl), refl))))))
    behind (λ c is. ap behind (set_inode_is c is))

add_entry_is : (c : Change) → HasTag 2 c → AddEntry (directory_in c) (inode_in c) (name_in c) ≡ c
add_entry_is (SetInode i kind size) is = absurd (omega (arith, is.1))
add_entry_is (AddEntry d i name) is = refl
add_entry_is (DeleteEntry d name) is = absurd (omega (arith, is.1))
add_entry_is (SetTag b i k) is = absurd (omega (arith, is.1))

add_entry_exact : IsExact (HasTag 2) behind add_entry_at
unfolding add_entry_at
add_entry_exact =
    respelled
    (then_exact u16_exact (HasTag 2) directory_in (λ c. number w16 (inode_in c) ++ (byte (length (name_in c)) ++ name_in c)) _ (λ c is. (fields c is.0).directory) (λ d d_low.
    then_exact u16_exact (λ c. HasTag 2 c × (directory_in c ≡ d)) inode_in (λ c. byte (length (name_in c)) ++ name_in c) _ (λ c is. (fields c is.0.0).inode) (λ i i_low.
    last_exact name_exact (λ c. (HasTag 2 c × (directory_in c ≡ d)) × (inode_in c ≡ i)) name_in _ (λ c is. (fields c is.0.0.0).name) (λ name fits.
    checked_exact (λ c. ((HasTag 2 c × (directory_in c ≡ d)) × (inode_in c ≡ i)) × (name_in c ≡ name)) (λ c. true) (AddEntry d i name)
    (λ c is. (λ j. AddEntry (sym is.0.0.1 j) (sym is.0.1 j) (sym is.1 j)) ∙ add_entry_is c is.0.0.0)
    (λ c is. refl)
    (λ passes. (((((fits.0, (d_low, i_low, fits.1)), refl), refl), refl), refl))))))
    behind (λ c is. ap behind (add_entry_is c is))

delete_entry_is : (c : Change) → HasTag 3 c → DeleteEntry (directory_in c) (name_in c) ≡ c
delete_entry_is (SetInode i kind size) is = absurd (omega (arith, is.1))
delete_entry_is (AddEntry d i name) is = absurd (omega (arith, is.1))
delete_entry_is (DeleteEntry d name) is = refl
delete_entry_is (SetTag b i k) is = absurd (omega (arith, is.1))

delete_entry_exact : IsExact (HasTag 3) behind delete_entry_at
unfolding delete_entry_at
delete_entry_exact =
    respelled
    (then_exact u16_exact (HasTag 3) directory_in (λ c. byte (length (name_in c)) ++ name_in c) _ (λ c is. (fields c is.0).directory) (λ d d_low.
    last_exact name_exact (λ c. HasTag 3 c × (directory_in c ≡ d)) name_in _ (λ c is. (fields c is.0.0).name) (λ name fits.
    checked_exact (λ c. (HasTag 3 c × (directory_in c ≡ d)) × (name_in c ≡ name)) (λ c. true) (DeleteEntry d name)
    (λ c is. (λ j. DeleteEntry (sym is.0.1 j) (sym is.1 j)) ∙ delete_entry_is c is.0.0)
    (λ c is. refl)
    (λ passes. ((((fits.0, (d_low, fits.1)), refl), refl), refl)))))
    behind (λ c is. ap behind (delete_entry_is c is))

set_tag_is : (c : Change) → HasTag 4 c → SetTag (block_in c) (inode_in c) (index_in c) ≡ c
set_tag_is (SetInode i kind size) is = absurd (omega (arith, is.1))
set_tag_is (AddEntry d i name) is = absurd (omega (arith, is.1))
set_tag_is (DeleteEntry d name) is = absurd (omega (arith, is.1))
set_tag_is (SetTag b i k) is = refl

abbrev is_tag : ℕ → ℕ → Bool
is_tag i k = not (i == 65535) || k == 0

is_tag_from : (i k : ℕ) → (i ≡ 65535 → k ≡ 0) → is_tag i k ≡ true
is_tag_from i k h =
    elim (cases_Bool (i == 65535)) [
      | inl freed ↦ or_right _ _ (eq-eqb k 0 (h (eqb-true i 65535 freed)))
      | inr used ↦ or_left _ _ (not_from_false _ used)
    ]

is_tag_true : (i k : ℕ) → is_tag i k ≡ true → i ≡ 65535 → k ≡ 0
is_tag_true i k h freed =
    elim (or_cases _ _ h) [
      | inl used ↦ absurd (eqb-false i 65535 (not-true _ used) freed)
      | inr first ↦ eqb-true k 0 first
    ]

set_tag_passes : (c : Change) → HasTag 4 c → is_tag (inode_in c) (index_in c) ≡ true
set_tag_passes (SetInode i kind size) is = absurd (omega (arith, is.1))
set_tag_passes (AddEntry d i name) is = absurd (omega (arith, is.1))
set_tag_passes (DeleteEntry d name) is = absurd (omega (arith, is.1))
set_tag_passes (SetTag b i k) is = is_tag_from i k is.0.0

set_tag_exact : IsExact (HasTag 4) behind set_tag_at
unfolding set_tag_at
set_tag_exact =
    respelled
    (then_exact u16_exact (HasTag 4) block_in (λ c. number w16 (inode_in c) ++ byte (index_in c)) _ (λ c is. (fields c is.0).block) (λ b b_low.
    then_exact u16_exact (λ c. HasTag 4 c × (block_in c ≡ b)) inode_in (λ c. byte (index_in c)) _ (λ c is. (fields c is.0.0).inode) (λ i i_low.
    last_exact octet_exact (λ c. (HasTag 4 c × (block_in c ≡ b)) × (inode_in c ≡ i)) index_in _ (λ c is. (fields c is.0.0.0).index) (λ k k_low.
    checked_exact (λ c. ((HasTag 4 c × (block_in c ≡ b)) × (inode_in c ≡ i)) × (index_in c ≡ k)) (λ c. is_tag (inode_in c) (index_in c)) (SetTag b i k)
    (λ c is. (λ j. SetTag (sym is.0.0.1 j) (sym is.0.1 j) (sym is.1 j)) ∙ set_tag_is c is.0.0.0)
    (λ c is. set_tag_passes c is.0.0.0)
    (λ passes. (((((is_tag_true i k passes, (b_low, i_low, k_low)), refl), refl), refl), refl))))))
    behind (λ c is. ap behind (set_tag_is c is))

-- ---- a change, and changes in a row

no_tag : (c : Change) (tag : ℕ) → tag_of c ≡ tag → (tag == 1) ≡ false → (tag == 2) ≡ false → (tag == 3) ≡ false → (tag == 4) ≡ false → ⊥
no_tag (SetInode i kind size) tag e one two three four = eqb-false tag 1 one (sym e)
no_tag (AddEntry d i name) tag e one two three four = eqb-false tag 2 two (sym e)
no_tag (DeleteEntry d name) tag e one two three four = eqb-false tag 3 three (sym e)
no_tag (SetTag b i k) tag e one two three four = eqb-false tag 4 four (sym e)

of_tag : (known tag : ℕ) {p : _} → (tag == known) ≡ true → IsExact (HasTag known) behind p → IsExact (HasTag tag) behind p
of_tag known tag {p = p} is exact = subst (λ n. IsExact (HasTag n) behind p) (sym (eqb-true tag known is)) exact

tagged_exact : (tag : ℕ) → IsExact (HasTag tag) behind (change_tagged tag)
unfolding change_tagged
tagged_exact tag =
    chosen_exact (HasTag tag) behind (tag == 1) _ _ (λ is. of_tag 1 tag is set_inode_exact) (λ one.
    chosen_exact (HasTag tag) behind (tag == 2) _ _ (λ is. of_tag 2 tag is add_entry_exact) (λ two.
    chosen_exact (HasTag tag) behind (tag == 3) _ _ (λ is. of_tag 3 tag is delete_entry_exact) (λ three.
    chosen_exact (HasTag tag) behind (tag == 4) _ _ (λ is. of_tag 4 tag is set_tag_exact) (λ four.
    nothing_exact (HasTag tag) behind (λ c is. no_tag c tag is.1 one two three four)))))

tag_then : (c : Change) → byte (tag_of c) ++ behind c ≡ spell_change c
unfolding number
tag_then (SetInode i kind size) = refl
tag_then (AddEntry d i name) = refl
tag_then (DeleteEntry d name) = refl
tag_then (SetTag b i k) = refl

pub change_exact : IsExact Has spell_change change_at
unfolding change_at
change_exact = respelled (then_exact byte_exact Has tag_of behind _ (λ c is. tt) (λ tag any. tagged_exact tag)) spell_change (λ c is. tag_then c)

pub in_row : (cs : List Change) → flat_map spell_change cs ≡ spell_changes cs
in_row [] = refl
in_row (c ∷ cs) = ap (λ bs. spell_change c ++ bs) (in_row cs)
