-- Lists only grow, and only those of the mounts 0 to 15.
use Rattle.std.proofs.Common.{◌≡◌, ℕ, zero, suc, ◌≤◌, inl, inr, nat_lt, List, [], ◌∷◌, length, take, None, arith, refl, sym, ap, ◌∙◌, length-append}
use Rattle.std.proofs.lemmas.Bool.{cond-false, le-ltb}
use Rattle.std.proofs.lemmas.Option.{none-some}
use Rattle.pf_paxos.specs.BallotRuns.{At, move_in}
use Rattle.pf_law_lists.specs.Journals.{Doing, BallotJournal, position_of, journal_goes_on, journal_from}
use Rattle.pf_law_lists.proofs.JournalPositions.{Learns, ListGoes, list_goes, Case, start, before, at_end}

once_longer : (j : BallotJournal) (d : Doing) (m : ℕ) → ListGoes j d m → length (j.list m) ≤ length ((journal_goes_on j d).list m)
once_longer j d m (inl stays) = omega (arith, ap (λ (l : List (List ℕ)). length l) stays)
once_longer j d m (inr l) = omega (arith, ap (λ (l : List (List ℕ)). length l) l.becomes, length-append (j.list m) (l.value ∷ []))

-- a list before a moment is no longer than at the end
from_longer : (m : ℕ) (j : BallotJournal) (ds : List Doing) → length (j.list m) ≤ length ((journal_from j ds).list m)
from_longer m j [] = omega arith
from_longer m j (d ∷ ds) = omega (arith, once_longer j d m (list_goes j d m), from_longer m (journal_goes_on j d) ds)

to_end : (m t : ℕ) (j : BallotJournal) (ds : List Doing) → length ((journal_from j (take t ds)).list m) ≤ length ((journal_from j ds).list m)
to_end m zero j [] = omega arith
to_end m (suc t) j [] = omega arith
to_end m zero j (d ∷ ds) = from_longer m j (d ∷ ds)
to_end m (suc t) j (d ∷ ds) = to_end m t (journal_goes_on j d) ds

pub end_longer : (ds : Case) (m t : ℕ) → length ((before ds t).list m) ≤ length ((at_end ds).list m)
end_longer ds m t = to_end m t (start ds) ds.doings

end_from : (m : ℕ) (j : BallotJournal) (ds : List Doing) → (journal_from j (take (length ds) ds)).list m ≡ (journal_from j ds).list m
end_from m j [] = refl
end_from m j (d ∷ ds) = end_from m (journal_goes_on j d) ds

pub end_list : (ds : Case) (m : ℕ) → (before ds (length ds.doings)).list m ≡ (at_end ds).list m
end_list ds m = end_from m (start ds) ds.doings

next_from : (m t : ℕ) (j : BallotJournal) (ds : List Doing) → length ((journal_from j (take t ds)).list m) ≤ length ((journal_from j (take (suc t) ds)).list m)
next_from m zero j [] = omega arith
next_from m (suc t) j [] = omega arith
next_from m zero j (d ∷ ds) = once_longer j d m (list_goes j d m)
next_from m (suc t) j (d ∷ ds) = next_from m t (journal_goes_on j d) ds

pub next_longer : (ds : Case) (m t : ℕ) → position_of (before ds t) m ≤ position_of (before ds (suc t)) m
next_longer ds m t = next_from m t (start ds) ds.doings

-- the mounts from 16 on have nothing
none_learns : (j : BallotJournal) (d : Doing) (m : ℕ) → 16 ≤ m → Learns j d m → ⊥
none_learns j d m high l = none-some l.move (sym (cond-false (nat_lt m 16) (move_in m (j.mounts (position_of j m) m) (At l.anchor l.act)) None (le-ltb m 16 high)) ∙ l.is)

stays_from : (m : ℕ) → 16 ≤ m → (j : BallotJournal) (ds : List Doing) → (journal_from j ds).list m ≡ j.list m
stays_from m high j [] = refl
stays_from m high j (d ∷ ds) = stays_from m high (journal_goes_on j d) ds ∙ elim (list_goes j d m) [ inl stays ↦ stays | inr l ↦ absurd (none_learns j d m high l) ]

pub high_empty : (ds : Case) (m : ℕ) → 16 ≤ m → (at_end ds).list m ≡ []
high_empty ds m high = stays_from m high (start ds) ds.doings
