-- Calls that are read of words can be spelled: their names are short and of bytes, and `/` is not removed.
use Rattle.std.proofs.Common.{◌≡◌, ℕ, ◌<◌, inl, inr, ◌==◌, nat_le, ◌&&◌, true, List, [], ◌∷◌, arith, refl}
use Rattle.std.specs.Prelude.{IsTrue}
use Rattle.std.specs.List.{AllByRecursion}
use Rattle.std.proofs.lemmas.Bool.{and_parts, eqb-true, leb-true, or_cases}
use Rattle.pf_base.specs.declared.calls.Call.{Call}
use Rattle.pf_base.specs.declared.calls.Call.TheVariants.{Mkdir, Create, Write, Read, Truncate, Rename, Unlink, Rmdir, Stat, List as Lists}
use Rattle.pf_entry.specs.Lists.{Every}
use Rattle.pf_layout.specs.Calls.{IsReadAs}
use Rattle.pf_layout.specs.Paths.{IsName, is_name_byte}
use Rattle.pf_tree_tables.specs.Names.{Name, Path}
use Rattle.pf_tree.specs.Calls.{FileCall}
use Rattle.pf_tree.specs.Standing.{IsCall}
use Rattle.pf_txn.specs.Fields.{IsByte}
use Rattle.pf_txn.specs.Spelling.{NameIsShort, IsShortCall}
use Rattle.pf_law_plans.specs.Spelled.{CanBeSpelled, HasByteName, IsByteCall}

-- Short names

last_short : (p : Path) → AllByRecursion IsName p → NameIsShort p
last_short [] names = tt
last_short (n ∷ p) names = names.0.few

read_short : (call : Call (List ℕ)) (file : FileCall) → IsReadAs call file → IsShortCall file
read_short (Mkdir w) (Mkdir p) is = last_short p is.0.names
read_short (Create w) (Create p) is = last_short p is.0.names
read_short (Rename from to) (Rename p q) is = (last_short p is.0.0.0.names, last_short q is.1.0.0.names)
read_short (Unlink w) (Unlink p) is = last_short p is.0.names
read_short (Rmdir w) (Rmdir p) is = last_short p is.0.0.names
read_short call (Write p offset byte count) is = tt
read_short call (Read p offset count) is = tt
read_short call (Truncate p size) is = tt
read_short call (Stat p) is = tt
read_short call (Lists p) is = tt
read_short call file is = absurd is

-- Bytes

name_byte : (b : ℕ) → is_name_byte b ≡ true → b < 256
name_byte b is =
    elim (or_cases _ (b == 45) is) [
      | inr dash ↦ let same = eqb-true b 45 dash in omega (arith, same)
      | inl fourth ↦ elim (or_cases _ (b == 95) fourth) [
        | inr line ↦ let same = eqb-true b 95 line in omega (arith, same)
        | inl third ↦ elim (or_cases _ (b == 46) third) [
          | inr dot ↦ let same = eqb-true b 46 dot in omega (arith, same)
          | inl second ↦ elim (or_cases (nat_le 97 b && nat_le b 122) (nat_le 48 b && nat_le b 57) second) [
            | inl letter ↦ let low = leb-true b 122 (and_parts (nat_le 97 b) (nat_le b 122) letter).1 in omega (arith, low)
            | inr digit ↦ let low = leb-true b 57 (and_parts (nat_le 48 b) (nat_le b 57) digit).1 in omega (arith, low)
          ]
        ]
      ]
    ]

name_bytes : (name : Name) → AllByRecursion (λ b. IsTrue (is_name_byte b)) name → Every IsByte name
name_bytes [] are = tt
name_bytes (b ∷ name) are = (name_byte b are.0, name_bytes name are.1)

last_bytes : (p : Path) → AllByRecursion IsName p → HasByteName p
last_bytes [] names = tt
last_bytes (n ∷ p) names = name_bytes n names.0.bytes

read_bytes : (call : Call (List ℕ)) (file : FileCall) → IsReadAs call file → IsByteCall file
read_bytes (Mkdir w) (Mkdir p) is = last_bytes p is.0.names
read_bytes (Create w) (Create p) is = last_bytes p is.0.names
read_bytes (Rename from to) (Rename p q) is = (last_bytes p is.0.0.0.names, last_bytes q is.1.0.0.names)
read_bytes (Unlink w) (Unlink p) is = last_bytes p is.0.names
read_bytes (Rmdir w) (Rmdir p) is = last_bytes p is.0.0.names
read_bytes call (Write p offset byte count) is = tt
read_bytes call (Read p offset count) is = tt
read_bytes call (Truncate p size) is = tt
read_bytes call (Stat p) is = tt
read_bytes call (Lists p) is = tt
read_bytes call file is = absurd is

-- A directory that is removed is not the root

read_is_call : (call : Call (List ℕ)) (file : FileCall) → IsReadAs call file → IsCall file
read_is_call (Rmdir w) (Rmdir []) is = absurd (is.1 refl)
read_is_call (Rmdir w) (Rmdir (n ∷ p)) is = tt
read_is_call call (Mkdir p) is = tt
read_is_call call (Create p) is = tt
read_is_call call (Write p offset byte count) is = tt
read_is_call call (Read p offset count) is = tt
read_is_call call (Truncate p size) is = tt
read_is_call call (Rename from to) is = tt
read_is_call call (Unlink p) is = tt
read_is_call call (Stat p) is = tt
read_is_call call (Lists p) is = tt
read_is_call call file is = absurd is

pub words_spelled : (call : Call (List ℕ)) (file : FileCall) → IsReadAs call file → CanBeSpelled file
words_spelled call file is = record { short = read_short call file is; bytes = read_bytes call file is; place = read_is_call call file is }
