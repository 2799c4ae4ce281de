-- Each call is planned behind every transaction whose call was answered before it began, over the moments that a run tells.
use Rattle.std.proofs.Common.{◌≡◌, inl, inr, ℕ, ◌<◌, ◌≤◌, List, [], ◌∷◌, ◌++◌, Some, slice_get, arith, sym, ap, subst, ◌∙◌}
use Rattle.std.proofs.lemmas.Bool.{cases_lt}
use Rattle.std.proofs.lemmas.List.{append_assoc}
use Rattle.pf_journal.specs.declared.layouts.Layout.{Layout}
use Rattle.pf_file_calls.specs.declared.answers.CallAnswer.{CallAnswer}
use Rattle.pf_tree_tables.specs.declared.changes.Txn.{Txn}
use Rattle.pf_tree.specs.Calls.{FileCall}
use Rattle.pf_txn.specs.Reading.{txn_in}
use Rattle.pf_volume.specs.Volumes.{Extent}
use Rattle.pf_mount.specs.Mounts.{MountIs}
use Rattle.pf_mount.specs.declared.work.MountWork.TheVariants.{Rests}
use Rattle.pf_law_calls.specs.Late.{CallHasEnded, IsPlanned}
use Rattle.pf_law_calls.specs.Doings.{HaveRegisters, IsListOf}
use Rattle.pf_law_calls.specs.Lives.{Begins, CanBe, Life, MountTold, lives}
use Rattle.pf_law_calls.specs.Trees.{AreFewCalls}
use Rattle.pf_law_calls.proofs.Behind.{call_sees}
use Rattle.pf_law_calls.proofs.EndedCalls.{its_life, low}
use Rattle.pf_law_runs.specs.pf_world.specs.pf_world_moments.specs.Moments.{Acts, Answers, Calls, Moment}
use Rattle.pf_law_mounts.specs.Told.{inputs_in}
use Rattle.pf_law_mounts.proofs.Causes.{HaveCauses, IsCaused, cause_at, inputs_on}
use Rattle.pf_law_mounts.proofs.RestingMounts.{rests_as_done}

module _ (layout : Layout) (e : Extent) (told : List Moment) (causes : HaveCauses layout e [] told) (can : CanBe layout e (inputs_in told)) (registers : HaveRegisters layout e (inputs_in told)) (list : List (List ℕ)) (is : IsListOf layout e (inputs_in told) list) (few : AreFewCalls (inputs_in told))
    (first rest mid after : List Moment) (n m : ℕ) (answer : CallAnswer) (call : FileCall) (same : told ≡ ((first ++ Acts n (Answers answer) ∷ rest) ++ Acts m (Calls call) ∷ mid) ++ after) where
  abbrev answered : Moment
  answered = Acts n (Answers answer)

  abbrev calls : Moment
  calls = Acts m (Calls call)

  abbrev now : List Moment
  now = (first ++ answered ∷ rest) ++ calls ∷ mid

  -- What came

  abbrev begins : MountTold
  begins = record { mount = m; input = Begins call }

  abbrev before : List MountTold
  before = inputs_in first ++ inputs_in rest

  abbrev more : List MountTold
  more = inputs_in rest ++ begins ∷ (inputs_in mid ++ inputs_in after)

  came : inputs_in now ≡ before ++ begins ∷ inputs_in mid
  came = inputs_on (first ++ answered ∷ rest) (calls ∷ mid) ∙ ap (λ its. its ++ begins ∷ inputs_in mid) (inputs_on first (answered ∷ rest))

  all_came : inputs_in told ≡ before ++ begins ∷ (inputs_in mid ++ inputs_in after)
  all_came = ap inputs_in same ∙ inputs_on now after ∙ ap (λ its. its ++ inputs_in after) came ∙ append_assoc before (begins ∷ inputs_in mid) (inputs_in after)

  -- The call that was answered

  caused : IsCaused layout e first n answer (rest ++ calls ∷ (mid ++ after))
  caused =
      let parts = same ∙ append_assoc (first ++ answered ∷ rest) (calls ∷ mid) after ∙ append_assoc first (answered ∷ rest) (calls ∷ (mid ++ after)) in
      cause_at layout e [] first answered (rest ++ calls ∷ (mid ++ after)) (subst (HaveCauses layout e []) parts causes)

  abbrev earlier : List MountTold
  earlier = inputs_in caused.earlier

  last_came : inputs_in told ≡ earlier ++ record { mount = n; input = caused.input } ∷ more
  last_came =
      all_came ∙ append_assoc (inputs_in first) (inputs_in rest) (begins ∷ (inputs_in mid ++ inputs_in after))
      ∙ ap (λ its. its ++ more) caused.last
      ∙ append_assoc earlier (record { mount = n; input = caused.input } ∷ []) more

  abbrev x : MountIs
  x = (lives layout e (inputs_in first) n).mount

  rests : x.task.work ≡ Rests
  rests =
      ap (λ its. (lives layout e its n).mount.task.work) caused.last
      ∙ ap (λ (l : Life). l.mount.task.work) (its_life layout e (inputs_in told) can registers list is n earlier more caused.input last_came)
      ∙ rests_as_done (lives layout e earlier n).mount caused.input answer caused.done

  ended : (number : ℕ) → number ≤ x.files.calls → CallHasEnded x number
  ended number reached = elim (cases_lt number x.files.calls) [
    | inl lower ↦ inl lower
    | inr not_lower ↦ inr (omega (arith, reached, not_lower), rests)
  ]

  pub call_late : IsPlanned (lives layout e (inputs_in now) m).mount.task.work
      → (position : ℕ) (value : List ℕ) (txn : Txn) → slice_get list position ≡ Some value → txn_in value ≡ Some txn → txn.mount ≡ n → txn.number ≤ x.files.calls
      → position < (lives layout e (inputs_in now) m).mount.upto
  call_late planned position value txn at read mount reached =
      subst (λ its. position < (lives layout e its m).mount.upto) (sym came)
      (call_sees layout e (inputs_in told) can registers list is few (inputs_in first) (inputs_in rest) (inputs_in mid) (inputs_in after) n m call all_came
      (subst (λ its. IsPlanned (lives layout e its m).mount.task.work) came planned)
      (low layout e (inputs_in told) can registers list is n earlier more caused.input last_came)
      position value txn at read mount (ended txn.number reached))
