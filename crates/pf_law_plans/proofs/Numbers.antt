-- Calls by their numbers: what a number names stays, and the spelling of a transaction has the number of its call.
use Rattle.std.proofs.Common.{◌≡◌, ℕ, zero, suc, ◌<◌, ◌≤◌, ◌^◌, ◌==◌, ◌&&◌, true, List, ◌++◌, length, take, drop, get_or, Some, arith, sym, ap, ◌∙◌}
use Rattle.std.specs.Int.{w32, from_be_bytes}
use Rattle.std.proofs.lemmas.Bool.{eq-eqb}
use Rattle.std.proofs.lemmas.Nat.{from_be_bytes-to_be_bytes_4}
use Rattle.std.proofs.lemmas.Option.{none-some, slice_get_within}
use Rattle.pf_tree_tables.specs.declared.changes.Txn.{Txn}
use Rattle.pf_tree.specs.Calls.{FileCall}
use Rattle.pf_txn.specs.Reading.{txn_in}
use Rattle.pf_txn.specs.Spelling.{spell_txn}
use Rattle.pf_txn.proofs.TxnLaws.{txn_found}
use Rattle.pf_file_calls.specs.Calls.{is_txn_of}
use Rattle.pf_law_plans.specs.Numbered.{call_numbered}
use Rattle.pf_law_plans.proofs.Lists.{at_front}

-- a call keeps its number when more begin
pub numbered_on : (calls more : List FileCall) (number : ℕ) (call : FileCall) → call_numbered calls number ≡ Some call → call_numbered (calls ++ more) number ≡ Some call
numbered_on calls more zero call is = absurd (none-some call is)
numbered_on calls more (suc before) call is = at_front calls more before call is

-- numbers are no greater than the count of the calls
pub numbered_most : (calls : List FileCall) (number : ℕ) (call : FileCall) → call_numbered calls number ≡ Some call → number ≤ length calls
numbered_most calls zero call is = absurd (none-some call is)
numbered_most calls (suc before) call is = let low = slice_get_within calls before call is in omega (arith, low)

-- the transaction that is read of the spelling of one names its call
pub read_names : (value : List ℕ) (txn its : Txn) → value ≡ spell_txn its → its.number < 2 ^ 32 → txn_in value ≡ Some txn → (txn.mount ≡ its.mount) × (txn.number ≡ its.number)
read_names value txn its spells few read =
    let found = txn_found value txn read in
    let same : spell_txn txn ≡ spell_txn its = found.spelled ∙ spells in (
      ap (λ bytes. get_or bytes 0 0) same,
      sym (from_be_bytes-to_be_bytes_4 txn.number found.typed.number) ∙ ap (λ bytes. from_be_bytes w32 (take 4 (drop 1 bytes))) same ∙ from_be_bytes-to_be_bytes_4 its.number few,
    )

pub named : (m n : ℕ) (txn : Txn) → txn.mount ≡ m → txn.number ≡ n → is_txn_of m n (Some txn) ≡ true
named m n txn mount number = ap (λ b. b && (txn.number == n)) (eq-eqb txn.mount m mount) ∙ eq-eqb txn.number n number
