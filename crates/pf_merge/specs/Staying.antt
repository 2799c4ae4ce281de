-- Which entries of a vote are left.
use Rattle.std.specs.Prelude.{ℕ, ◌-◌, ◌<◌, ◌^◌, Bool, true, ◌≡◌, not, ◌&&◌, nat_lt}
use Rattle.std.specs.FinMap
use Rattle.pf_entry.specs.Maps.{Map}
use Rattle.pf_entry.specs.Merging.{is_passed_over}
use Rattle.pf_entry.specs.declared.entries.Entry.{Entry}
use Rattle.pf_entry.specs.declared.entries.VoteLog.{VoteLog}

-- above the checkpoint, and not void by the starts of either vote
abbrev pub entry_stays : ℕ → VoteLog → VoteLog → Entry → Bool
entry_stays base own other e = nat_lt base e.slot && not (is_passed_over own other e.slot e.term)

-- the slot after each has a number
abbrev pub AreNumbered : Map Entry → Type 0
AreNumbered log = (slot : ℕ) → FinMap.contains_key log slot ≡ true → slot < 2 ^ 64 - 1
