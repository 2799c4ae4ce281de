-- The votes of a candidacy.
use Rattle.std.specs.Prelude.{ℕ, Option, refl}
use Rattle.std.specs.Coded.{Coded, code_by, coded×, coded_ℕ, coded_option}
use Rattle.std.specs.FinMap
use Rattle.pf_entry.specs.Maps.{Map}
use Rattle.pf_entry.specs.EntryMaps.{entry_code}
use Rattle.pf_entry.specs.declared.entries.Entry.{Entry}
use Rattle.pf_entry.specs.declared.entries.VoteLog.{VoteLog}

-- the candidate's number, its own vote, and that of another server
pub record Votes : Type 0 where
  pub number : ℕ
  pub own : VoteLog
  pub other : Option VoteLog

-- how these values are told apart
abbrev pub vote_code : Coded VoteLog
vote_code =
    code_by (ℕ × (Map ℕ × Map Entry)) (coded× coded_ℕ (coded× (FinMap.code coded_ℕ coded_ℕ) (FinMap.code coded_ℕ entry_code)))
    (λ v. (v.base, (v.starts, v.log)))
    (λ p. record { base = p.0; starts = p.1.0; log = p.1.1 })
    (λ _. refl)

abbrev pub votes_code : Coded Votes
votes_code =
    code_by (ℕ × (VoteLog × Option VoteLog)) (coded× coded_ℕ (coded× vote_code (coded_option vote_code)))
    (λ v. (v.number, (v.own, v.other)))
    (λ p. record { number = p.0; own = p.1.0; other = p.1.1 })
    (λ _. refl)
