-- What was told in two parts.
use Rattle.std.proofs.Common.{◌≡◌, ℕ, List, [], ◌∷◌, ◌++◌, refl, ap}
use Rattle.pf_law_lists.specs.Journals.{Doing, BallotJournal, journal_goes_on, journal_from}
use Rattle.pf_law_calls.specs.Doings.{at_anchor, began, doings_from}
use Rattle.pf_law_calls.specs.Lives.{CanComeFrom, Life, MountTold, lived, lives_from, mount_after}

pub lives_on : (ls : ℕ → Life) (told more : List MountTold) → lives_from ls (told ++ more) ≡ lives_from (lives_from ls told) more
lives_on ls [] more = refl
lives_on ls (t ∷ told) more = lives_on (lived ls t) told more

pub doings_on : (ls : ℕ → Life) (told more : List MountTold) → doings_from ls (told ++ more) ≡ doings_from ls told ++ doings_from (lives_from ls told) more
doings_on ls [] more = refl
doings_on ls (t ∷ told) more =
    let l = ls t.mount in
    ap (λ (ds : List Doing). at_anchor l t.input ∷ began l.mount (mount_after l.mount t.input) ∷ ds) (doings_on (lived ls t) told more)

pub can_until : (ls : ℕ → Life) (told more : List MountTold) → CanComeFrom ls (told ++ more) → CanComeFrom ls told
can_until ls [] more can = tt
can_until ls (t ∷ told) more can = (can.0, can_until (lived ls t) told more can.1)

pub can_after : (ls : ℕ → Life) (told more : List MountTold) → CanComeFrom ls (told ++ more) → CanComeFrom (lives_from ls told) more
can_after ls [] more can = can
can_after ls (t ∷ told) more can = can_after (lived ls t) told more can.1

pub journal_on : (j : BallotJournal) (ds more : List Doing) → journal_from j (ds ++ more) ≡ journal_from (journal_from j ds) more
journal_on j [] more = refl
journal_on j (d ∷ ds) more = journal_on (journal_goes_on j d) ds more
