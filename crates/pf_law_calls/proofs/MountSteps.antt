-- How a step goes on from where a mount stands: it begins no ballot, or it begins one.
use Rattle.std.proofs.Common.{◌≡◌, ◌⊎◌, ℕ, zero, suc, inl, inr, Bool, true, false, not, ◌==◌, if◌then◌else◌, List, replicate, Option, Some, None, refl}
use Rattle.std.specs.Str.{bytes_eq}
use Rattle.pf_tree_tables.specs.declared.changes.Txn.{Txn}
use Rattle.pf_tree_tables.specs.Tables.{Tables}
use Rattle.pf_tree.specs.Held.{Held, data_of}
use Rattle.pf_txn.specs.Spelling.{spell_txn}
use Rattle.pf_file_calls.specs.declared.answers.CallAnswer.{CallAnswer}
use Rattle.pf_file_calls.specs.declared.answers.CallAnswer.TheVariants.{Refused}
use Rattle.pf_file_calls.specs.declared.answers.CallFault.TheVariants.{JournalFull}
use Rattle.pf_file_calls.specs.declared.calls.Pending.{Pending}
use Rattle.pf_file_calls.specs.declared.calls.Planned.{Planned}
use Rattle.pf_file_calls.specs.declared.calls.Planned.TheVariants.{Refuses, Proposes, Goes}
use Rattle.pf_file_calls.specs.declared.moving.Moved.{Moved}
use Rattle.pf_file_calls.specs.declared.moving.Moved.TheVariants.{Asks, Ends}
use Rattle.pf_file_calls.specs.Calls.{is_txn_of, planned, size_in}
use Rattle.pf_file_calls.specs.Moving.{data_moves}
use Rattle.pf_mount_errands.specs.declared.looks.Looks.{Looks}
use Rattle.pf_mount_errands.specs.Errands.{all_late}
use Rattle.pf_mount_errands.specs.Looks.{are_looked, have_found, new_looks}
use Rattle.pf_mount_errands.specs.Positions.{can_start, journal_of, starting_ballot}
use Rattle.pf_mount.specs.declared.work.MountTask.{MountTask}
use Rattle.pf_mount.specs.declared.work.MountWork.{MountWork}
use Rattle.pf_mount.specs.declared.work.MountWork.TheVariants.{Ballots, Syncs, WritesSuper}
use Rattle.pf_mount.specs.Mounts.{MountIs, Worked, ballots, done, fails, data_moved, paused, pauses, plans, plans_as, proceeds, proceeds_with, proposes, stand_of, super_read, synced, syncs, syncs_on, turns_to}

abbrev pub IsNoBallot : MountWork → Type 0
IsNoBallot (Ballots input) = ⊥
IsNoBallot work = Unit {0}

-- no ballot runs, and the ballots stay
pub record Rested (n : MountIs) (w : Worked) : Type 0 where
  pub task : MountTask
  pub turns : w.step.task ≡ Some task
  pub work : IsNoBallot task.work
  pub stand : (w.step.stand ≡ stand_of n) ⊎ (w.step.stand ≡ stand_of (record n { errands = all_late n.errands }))

-- a ballot begins
pub record Started (n : MountIs) (w : Worked) : Type 0 where
  pub input : Option (List ℕ)
  pub turns : w.step.task ≡ Some (record { work = Ballots input; ask = None })
  pub stand : w.step.stand ≡ stand_of (record n { position = starting_ballot n.position input })

abbrev pub GoesOn : MountIs → Worked → Type 0
GoesOn n w = Rested n w ⊎ Started n w

module _ (n : MountIs) (t : Tables) where
  goes_if : (b : Bool) (x y : Worked) → GoesOn n x → GoesOn n y → GoesOn n (record { step = if b then x.step else y.step; tables = t })
  goes_if true x y (inl of_x) of_y = inl (record { task = of_x.task; turns = of_x.turns; work = of_x.work; stand = of_x.stand })
  goes_if true x y (inr of_x) of_y = inr (record { input = of_x.input; turns = of_x.turns; stand = of_x.stand })
  goes_if false x y of_x (inl of_y) = inl (record { task = of_y.task; turns = of_y.turns; work = of_y.work; stand = of_y.stand })
  goes_if false x y of_x (inr of_y) = inr (record { input = of_y.input; turns = of_y.turns; stand = of_y.stand })

  turns_go : (work : MountWork) → IsNoBallot work → GoesOn n (record { step = turns_to (stand_of n) work; tables = t })
  turns_go work is = inl (record { task = record { work = work; ask = None }; turns = refl; work = is; stand = inl refl })

  done_goes : (answer : CallAnswer) → GoesOn n (record { step = done (stand_of n) answer; tables = t })
  done_goes answer = inl (record { task = _; turns = refl; work = tt; stand = inl refl })

  pub pauses_go : (input : Option (List ℕ)) (left : ℕ) → GoesOn n (record { step = pauses (stand_of n) input left; tables = t })
  pauses_go input left = inl (record { task = _; turns = refl; work = tt; stand = inl refl })

  pub ballots_go : (input : Option (List ℕ)) → GoesOn n (record { step = ballots (stand_of n) input; tables = t })
  ballots_go input =
      goes_if (can_start n.position)
      (record { step = turns_to (stand_of (record n { position = starting_ballot n.position input })) (Ballots input); tables = t })
      (record { step = pauses (stand_of n) input 0; tables = t })
      (inr (record { input = input; turns = refl; stand = refl }))
      (pauses_go input 0)

  pub paused_go : (input : Option (List ℕ)) (left : ℕ) → GoesOn n (record { step = paused (stand_of n) input left; tables = t })
  paused_go input zero = ballots_go input
  paused_go input (suc left) = pauses_go input left

  pub moved_go : (x : Moved) → GoesOn n (record { step = data_moved (stand_of n) x; tables = t })
  moved_go (Asks ask moving) = inl (record { task = _; turns = refl; work = tt; stand = inl refl })
  moved_go (Ends answer) = done_goes answer

  proposes_go : (txn : Txn) → GoesOn n (record { step = proposes (stand_of n) txn; tables = t })
  proposes_go txn =
      goes_if (n.upto == (journal_of n.position).positions)
      (record { step = done (stand_of n) (Refused JournalFull); tables = t })
      (record { step = ballots (stand_of n) (Some (spell_txn txn)); tables = t })
      (done_goes (Refused JournalFull))
      (ballots_go (Some (spell_txn txn)))

  plans_as_go : (x : Planned) → GoesOn n (record { step = plans_as (stand_of n) x; tables = t })
  plans_as_go (Refuses fault) = done_goes (Refused fault)
  plans_as_go (Proposes txn) = proposes_go txn
  plans_as_go (Goes step) = moved_go step

  plans_go : (h : Held) (p : Pending) → GoesOn n (record { step = plans (stand_of n) h p; tables = t })
  plans_go h p = plans_as_go (planned n.files.mount n.files.volume (data_of h.first h.tables) h.tables p)

  pub synced_go : (h : Held) (p : Option Pending) → GoesOn n (record { step = synced (stand_of n) h p; tables = t })
  synced_go h None = inl (record { task = _; turns = refl; work = tt; stand = inl refl })
  synced_go h (Some p) = plans_go h p

  pub syncs_go : (h : Held) (p : Option Pending) → GoesOn n (record { step = syncs (stand_of n) h p; tables = t })
  syncs_go h p =
      goes_if (n.upto == (journal_of n.position).positions)
      (record { step = synced (stand_of n) h p; tables = t })
      (record { step = turns_to (stand_of (record n { errands = all_late n.errands })) (Syncs new_looks); tables = t })
      (synced_go h p)
      (inl (record { task = _; turns = refl; work = tt; stand = inr refl }))

  pub syncs_on_go : (h : Held) (p : Option Pending) (looks : Looks) → GoesOn n (record { step = syncs_on (stand_of n) h p looks; tables = t })
  syncs_on_go h p looks =
      goes_if (not (are_looked (journal_of n.position).quorum looks))
      (record { step = turns_to (stand_of n) (Syncs looks); tables = t })
      (record { step = if have_found looks then ballots (stand_of n) None else synced (stand_of n) h p; tables = t })
      (turns_go (Syncs looks) tt)
      (goes_if (have_found looks)
      (record { step = ballots (stand_of n) None; tables = t })
      (record { step = synced (stand_of n) h p; tables = t })
      (ballots_go None)
      (synced_go h p))

  pub super_read_go : (h : Held) (p : Option Pending) (sector : List ℕ) → GoesOn n (record { step = super_read (stand_of n) h p sector; tables = t })
  super_read_go h p sector =
      goes_if _
      (record { step = syncs (stand_of n) h p; tables = t })
      (record { step = if bytes_eq sector (replicate 512 0) then turns_to (stand_of n) WritesSuper else fails (stand_of n); tables = t })
      (syncs_go h p)
      (goes_if (bytes_eq sector (replicate 512 0))
      (record { step = turns_to (stand_of n) WritesSuper; tables = t })
      (record { step = fails (stand_of n); tables = t })
      (turns_go WritesSuper tt)
      (inl (record { task = _; turns = refl; work = tt; stand = inl refl })))

  proceeds_with_go : (before after : Held) (txn : Option Txn) (p : Pending) → GoesOn n (record { step = proceeds_with (stand_of n) before after txn p; tables = t })
  proceeds_with_go before after txn p =
      let x : Moved = data_moves n.files.volume after.tables (size_in before.tables p.call) p.call in
      goes_if (is_txn_of n.files.mount p.number txn)
      (record { step = data_moved (stand_of n) x; tables = t })
      (record { step = plans (stand_of n) after p; tables = t })
      (moved_go x)
      (plans_go after p)

  pub proceeds_go : (before after : Held) (txn : Option Txn) (input : Option (List ℕ)) (p : Option Pending) → GoesOn n (record { step = proceeds (stand_of n) before after txn input p; tables = t })
  proceeds_go before after txn (Some input) (Some p) = proceeds_with_go before after txn p
  proceeds_go before after txn (Some input) None = syncs_go after None
  proceeds_go before after txn None p = syncs_go after p
