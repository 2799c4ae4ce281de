-- A sync that finds nothing has missed nothing that was decided before it.
use Rattle.std.proofs.Common.{◌≡◌, ℕ, ◌*◌, ◌<◌, ◌≤◌, inl, inr, List, arith, subst}
use Rattle.std.proofs.lemmas.Bool.{cases_lt}
use Rattle.pf_paxos.specs.Quorums.{DecidesOver, FindsNothingOver, IsOpenAt}
use Rattle.pf_paxos.proofs.BallotAgreement.{undecided as was_open}
use Rattle.pf_law_lists.specs.Journals.{AreAllRegistersAt, position_of}
use Rattle.pf_law_lists.proofs.OneList.{below_each, element, list_decided}
use Rattle.pf_law_lists.proofs.JournalPositions.{Case, DecidedBefore, before, events, list_at, past}

module _ (c : Case) (meets : c.anchors < 2 * c.quorum) (registers : AreAllRegistersAt c.anchors c.quorum c.doings) where
  -- on an anchor that both used
  pub undecided : (n from ballot : ℕ) (value : List ℕ) → FindsNothingOver c.anchors c.quorum (past c n) from → (d : DecidesOver c.anchors c.quorum (past c n) ballot value) → IsOpenAt d from
  undecided n from ballot value s d = was_open c.anchors c.quorum meets (events c n) (registers n) from ballot value s d

  -- it was decided after that, and a later position later still, on each anchor
  decided_late : (n from before : ℕ) (value : List ℕ) → FindsNothingOver c.anchors c.quorum (past c n) from → DecidedBefore c n before value → from < before
  decided_late n from before value s x =
      let late = undecided n from x.decided.ballot value s x.decided.decides in
      let d = x.decided.decides.each late.place late.anchor late.at in
      let read = x.decided.low_by late.place late.anchor late.at in
      omega (arith, late.later, d.low.after, d.low.read.later, read, x.earlier)

  later_late : (n from later ballot : ℕ) (value : List ℕ) → FindsNothingOver c.anchors c.quorum (past c n) from → (d : DecidesOver c.anchors c.quorum (past c later) ballot value) → n < later → IsOpenAt d from
  later_late n from later ballot value s d less =
      let some : 0 < c.quorum = omega (arith, meets) in
      let one = element d.used 0 (omega (arith, some, d.is_quorum.many)) in
      let before = below_each c later n ballot value d less 0 one.0 one.1 in
      let late = decided_late n from (d.each 0 one.0 one.1).asked before.0 s before.1 in
      record { place = 0; anchor = one.0; at = one.1; later = let wrote = (d.each 0 one.0 one.1).wrote.later in omega (arith, late, wrote) }

  pub quiet_undecided : (n from later ballot : ℕ) (value : List ℕ) → FindsNothingOver c.anchors c.quorum (past c n) from → n ≤ later → (d : DecidesOver c.anchors c.quorum (past c later) ballot value) → IsOpenAt d from
  quiet_undecided n from later ballot value s le d = elim (cases_lt n later) [
    | inl less ↦ later_late n from later ballot value s d less
    | inr not_less ↦
        let same : n ≡ later = omega (arith, le, not_less) in
        undecided later from ballot value (subst (λ k. FindsNothingOver c.anchors c.quorum (past c k) from) same s) d
  ]

  pub quiet_stands : (n from mount : ℕ) → FindsNothingOver c.anchors c.quorum (past c n) from → position_of (before c from) mount ≤ n
  quiet_stands n from mount s = elim (cases_lt n (position_of (before c from) mount)) [
    | inr not_past ↦ not_past
    | inl past ↦
        let x = element (list_at c mount from) n past in
        absurd (omega (arith, decided_late n from from x.0 s (list_decided c mount from n x.0 x.1)))
  ]
