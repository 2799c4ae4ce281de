-- A call is planned behind whatever any mount had applied as the call began, and so behind each transaction whose call had ended by then.
use Rattle.std.proofs.Common.{◌≡◌, inl, inr, ℕ, suc, ◌<◌, ◌≤◌, ◌==◌, List, [], ◌∷◌, ◌++◌, length, Some, None, slice_get, arith, refl, sym, ap, subst, ◌∙◌}
use Rattle.std.proofs.lemmas.Bool.{cases_lt, cond-true, eq-eqb}
use Rattle.std.proofs.lemmas.List.{append_assoc}
use Rattle.pf_volume.specs.Volumes.{Extent}
use Rattle.pf_tree_tables.specs.declared.changes.Txn.{Txn}
use Rattle.pf_tree.specs.Calls.{FileCall}
use Rattle.pf_txn.specs.Reading.{txn_in}
use Rattle.pf_paxos.specs.declared.ballot.Phase.TheVariants.{Resting}
use Rattle.pf_paxos.specs.Ballots.{BallotIs}
use Rattle.pf_paxos.specs.Quorums.{FindsNothingOver}
use Rattle.pf_journal.specs.declared.layouts.Layout.{Layout}
use Rattle.pf_journal.specs.Layouts.{layout_of}
use Rattle.pf_law_lists.specs.Journals.{BallotJournal, position_of}
use Rattle.pf_law_lists.proofs.Quiet.{quiet_stands}
use Rattle.pf_law_lists.proofs.JournalPositions.{Case, before as journal_before, past}
use Rattle.pf_mount.specs.declared.work.MountWork.{MountWork}
use Rattle.pf_mount.specs.declared.work.MountWork.TheVariants.{Ballots, Fails, Moves, Pauses, ReadsSuper, Rests, Syncs, WritesSuper}
use Rattle.pf_law_calls.specs.Doings.{HaveRegisters, IsListOf, journal_after, looker}
use Rattle.pf_law_calls.specs.Lives.{Begins, CanBe, CanComeFrom, Life, MountTold, all_opened, lives, lives_on as goes}
use Rattle.pf_law_calls.proofs.Layouts.{mounts_lie}
use Rattle.pf_law_calls.proofs.MountLives.{PhaseFits}
use Rattle.pf_law_calls.proofs.Journals.{IsLived, is_lived, quorums_meet}
use Rattle.pf_law_calls.specs.Trees.{AreFewCalls}
use Rattle.pf_law_calls.proofs.Parts.{can_after, lives_on}
use Rattle.pf_law_calls.specs.Late.{CallHasEnded, IsPlanned}
use Rattle.pf_law_calls.proofs.Below.{decided_longer, ended_below}
use Rattle.pf_law_calls.proofs.Known.{Known, KnownIn, Seen, all_known}
use Rattle.pf_law_calls.proofs.Places.{AtWork, begins_place, mounts_placed}
use Rattle.pf_law_calls.proofs.SyncDoings.{above, c, can_done, journal_there, moment, moment_next}
use Rattle.pf_law_calls.proofs.Seen.{new_seen}

module _ (layout : Layout) (v : Extent) (told : List MountTold) (can : CanBe layout v told) (registers : HaveRegisters layout v told) (before mid after : List MountTold) (m : ℕ) (call : FileCall)
    (same : told ≡ before ++ record { mount = m; input = Begins call } ∷ (mid ++ after)) where
  abbrev begins : MountTold
  begins = record { mount = m; input = Begins call }

  abbrev ds : Case
  ds = c layout v told can

  abbrev from : ℕ
  from = moment layout v told can before

  abbrev rest : List MountTold
  rest = begins ∷ (mid ++ after)

  can_rest : CanComeFrom (lives layout v before) rest
  can_rest = can_after (all_opened layout v) before rest (subst (CanBe layout v) same can)

  low : m < 16
  low = can_rest.0.number

  can_before : CanBe layout v before
  can_before = can_done layout v told can before rest same

  there : journal_before ds from ≡ journal_after layout v before
  there = journal_there layout v told can before rest same

  abbrev l : Life
  l = lives layout v before m

  its : IsLived layout v (journal_after layout v before) m l
  its = is_lived layout v before m can_before low

  -- as the call begins, no ballot of the mount runs
  rested : (q : ℕ) → length l.decided ≤ q → ((journal_before ds from).mounts q m).phase ≡ Resting
  rested q reached =
      let f = its.mount.follows in
      let count = f.upto_is in
      let rests : l.mount.position.ballot.phase ≡ Resting = subst (λ (work : MountWork). PhaseFits work l.mount.position.ballot.phase) can_rest.0.takes its.mount.phase in
      ap (λ (j : BallotJournal). (j.mounts q m).phase) there ∙ elim (cases_lt l.mount.upto q) [
        | inl past ↦ ap (λ (p : BallotIs). p.phase) (f.later q past)
        | inr not_past ↦
            let at : q ≡ l.mount.upto = omega (arith, not_past, count, reached) in
            ap (λ i. ((journal_after layout v before).mounts i m).phase) at ∙ ap (λ (p : BallotIs). p.phase) f.here ∙ rests
      ]

  module _ (n : ℕ) (low_n : n < 16) where
    abbrev bound : ℕ
    bound = (lives layout v before n).mount.upto

    abbrev IsLate : ℕ → Type 0
    IsLate upto = bound ≤ upto

    bounded : (q : ℕ) → FindsNothingOver ds.anchors ds.quorum (past ds q) from → IsLate q
    bounded q finds =
        let below = quiet_stands ds (quorums_meet layout) registers q from n finds in
        let f = (is_lived layout v before n can_before low_n).mount.follows in
        let count = f.upto_is in
        let stood = ap (λ (j : BallotJournal). position_of j n) there ∙ ap (λ (values : List (List ℕ)). length values) f.list_is in
        omega (arith, below, count, stood)

    rises : (upto : ℕ) → IsLate upto → IsLate (suc upto)
    rises upto late = omega (arith, late)

    last : IsLate (layout_of layout).positions
    last = (mounts_placed layout v before n).within

    abbrev IsKnown : List MountTold → Type 0
    IsKnown done = Known layout v told can m low from IsLate rises last bounded (length l.decided) rested done

    abbrev begun : List MountTold
    begun = before ++ begins ∷ []

    begun_life : lives layout v begun m ≡ goes l (Begins call)
    begun_life = ap (λ (ls : ℕ → Life). ls m) (lives_on (all_opened layout v) before (begins ∷ [])) ∙ cond-true (m == m) (goes l (Begins call)) l (eq-eqb m m refl)

    begun_known : IsKnown begun
    begun_known =
        subst (λ k. KnownIn layout v told can m low from IsLate rises last bounded (length l.decided) rested k (lives layout v begun m)) (sym (moment_next layout v told can before begins (mid ++ after) same))
        (subst (λ (of : Life). KnownIn layout v told can m low from IsLate rises last bounded (length l.decided) rested (suc (suc from)) of) (sym begun_life) (record {
          place =
              begins_place layout IsLate (Seen layout v told can m low from (suc (suc from)) l.waits) rises last (λ upto e. new_seen layout ds from (looker m) (above ds from m) (suc (suc from)) l.waits upto e)
              l.mount call (mounts_lie layout v before m).lies (mounts_placed layout v before m).within;
          reached = omega arith;
          late = omega arith;
        }))

    abbrev whole : List MountTold
    whole = before ++ begins ∷ mid

    whole_known : IsKnown whole
    whole_known =
        subst IsKnown (append_assoc before (begins ∷ []) mid)
        (all_known layout v told can m low from IsLate rises last bounded (length l.decided) rested mid begun after (same ∙ sym (append_assoc before (begins ∷ []) (mid ++ after))) begun_known)

    planned_late : (upto : ℕ) (work : MountWork) → AtWork layout IsLate (Seen layout v told can m low from 0 l.waits) upto work → IsPlanned work → IsLate upto
    planned_late upto (Ballots (Some value)) at planned = at.1
    planned_late upto (Pauses (Some value) left) at planned = at.1
    planned_late upto (Moves moving) at planned = at
    planned_late upto Rests at planned = at
    planned_late upto (Ballots None) at planned = absurd planned
    planned_late upto (Pauses None left) at planned = absurd planned
    planned_late upto (Syncs looks) at planned = absurd planned
    planned_late upto Fails at planned = absurd planned
    planned_late upto ReadsSuper at planned = absurd planned
    planned_late upto WritesSuper at planned = absurd planned

    pub call_late : IsPlanned (lives layout v (before ++ record { mount = m; input = Begins call } ∷ mid) m).mount.task.work → bound ≤ (lives layout v (before ++ record { mount = m; input = Begins call } ∷ mid) m).mount.upto
    call_late planned = let x = (lives layout v whole m).mount in planned_late x.upto x.task.work whole_known.place.at planned

module _ (layout : Layout) (v : Extent) (told : List MountTold) (can : CanBe layout v told) (registers : HaveRegisters layout v told) (list : List (List ℕ)) (is : IsListOf layout v told list) (few : AreFewCalls told) where
  pub call_sees : (first rest mid after : List MountTold) (n m : ℕ) (call : FileCall) → told ≡ (first ++ rest) ++ record { mount = m; input = Begins call } ∷ (mid ++ after)
      → IsPlanned (lives layout v ((first ++ rest) ++ record { mount = m; input = Begins call } ∷ mid) m).mount.task.work → n < 16
      → (position : ℕ) (value : List ℕ) (txn : Txn) → slice_get list position ≡ Some value → txn_in value ≡ Some txn → txn.mount ≡ n → CallHasEnded (lives layout v first n).mount txn.number
      → position < (lives layout v ((first ++ rest) ++ record { mount = m; input = Begins call } ∷ mid) m).mount.upto
  call_sees first rest mid after n m call same planned low position value txn here read mount ended =
      let begins : List MountTold = record { mount = m; input = Begins call } ∷ (mid ++ after) in
      let same_first : told ≡ first ++ (rest ++ begins) = same ∙ append_assoc first rest begins in
      let below = ended_below layout v told can registers list is few first (rest ++ begins) n same_first low position value txn here read mount ended in
      let first_can = can_done layout v told can first (rest ++ begins) same_first in
      let both_can = can_done layout v told can (first ++ rest) begins same in
      let count = (is_lived layout v first n first_can low).mount.follows.upto_is in
      let count_then = (is_lived layout v (first ++ rest) n both_can low).mount.follows.upto_is in
      let longer = decided_longer n rest (lives layout v first) in
      let there = ap (λ (ls : ℕ → Life). length (ls n).decided) (lives_on (all_opened layout v) first rest) in
      let late = call_late layout v told can registers (first ++ rest) mid after m call same n low planned in
      omega (arith, below, count, count_then, longer, there, late)
