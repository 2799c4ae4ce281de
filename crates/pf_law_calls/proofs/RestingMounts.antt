-- A mount begins a ballot only where none of its own runs, doing by doing.
use Rattle.std.proofs.Common.{◌≡◌, ℕ, zero, suc, List, [], ◌∷◌, take, Option, Some, slice_get, subst}
use Rattle.std.proofs.lemmas.Option.{none-some, same_Some}
use Rattle.pf_paxos.specs.declared.ballot.Phase.TheVariants.{Resting as RestingPhase}
use Rattle.pf_law_lists.specs.Journals.{Ballots as BeginsBallot, Doing, BallotJournal, journal_goes_on, journal_from, position_of}

abbrev pub AtRest : BallotJournal → Doing → Type 0
AtRest j (BeginsBallot m above input) = (j.mounts (position_of j m) m).phase ≡ RestingPhase
AtRest j doing = Unit {0}

abbrev pub AllAtRest : BallotJournal → List Doing → Type 0
AllAtRest j [] = Unit {0}
AllAtRest j (d ∷ ds) = AtRest j d × AllAtRest (journal_goes_on j d) ds

pub rests_then : (j : BallotJournal) (ds : List Doing) → AllAtRest j ds → (t m above : ℕ) (input : Option (List ℕ)) → slice_get ds t ≡ Some (BeginsBallot m above input) → AtRest (journal_from j (take t ds)) (BeginsBallot m above input)
rests_then j [] are t m above input at = absurd (none-some _ at)
rests_then j (d ∷ ds) are zero m above input at = subst (AtRest j) (same_Some d (BeginsBallot m above input) at) are.0
rests_then j (d ∷ ds) are (suc t) m above input at = rests_then (journal_goes_on j d) ds are.1 t m above input at
