-- By which client of its mount an anchor is asked.
use Rattle.std.proofs.Common.{◌≡◌, ◌⊎◌, ℕ, ◌+◌, ◌<◌, inl, inr, Bool, true, false, cond, length, Option, Some, None, refl, sym, ap, subst, ◌∙◌}
use Rattle.pf_base.specs.declared.asks.Ask.{Ask}
use Rattle.pf_paxos.specs.declared.parts.Stage.{Stage}
use Rattle.pf_paxos.specs.declared.parts.Stage.TheVariants.{Writes, ReadsLow, ReadsHigh, Done}
use Rattle.pf_mount_errands.specs.declared.looks.Looks.{Looks}
use Rattle.pf_mount_errands.specs.Errands.{is_anchor_free}
use Rattle.pf_mount_errands.specs.Looks.{look_at}
use Rattle.pf_journal.specs.declared.layouts.Layout.{Layout}
use Rattle.pf_journal.specs.Layouts.{layout_of}
use Rattle.pf_mount_errands.specs.Positions.{anchors_of}
use Rattle.pf_mount.specs.declared.work.MountWork.{MountWork}
use Rattle.pf_mount.specs.declared.work.MountWork.TheVariants.{Syncs}
use Rattle.pf_mount.specs.Mounts.{MountIs, ask_at, hands_nothing, looks_on, stand_of, works_on}
use Rattle.pf_law_events.specs.Events.{client_of}
use Rattle.pf_law_events.proofs.AnchorPending.{asks_there_now}
use Rattle.pf_law_runs.specs.pf_law_service.specs.Served.{IsClientOfAsk, AskIsRead}

pub anchors_are : (layout : Layout) (m : MountIs) → m.position.layout ≡ layout → anchors_of m.position ≡ length (layout_of layout).anchors
anchors_are layout m lie = ap (λ y. length (layout_of y).anchors) lie

abbrev IsReadIf : Option Ask → Type 0
IsReadIf None = Unit {0}
IsReadIf (Some ask) = AskIsRead ask

looks_read : (m : MountIs) (a : ℕ) (stage : Stage) → IsReadIf (looks_on (stand_of m) a stage).ask
looks_read m a ReadsLow = tt
looks_read m a ReadsHigh = tt
looks_read m a Writes = tt
looks_read m a Done = tt

module _ (m : MountIs) (port : ℕ) (low : port < anchors_of m.position) (ask : Ask) (asks_it : ask_at m port ≡ Some ask) where
  abbrev out : MountWork → Bool → Option Ask
  out work b = (cond b (works_on (stand_of m) work port) (hands_nothing (stand_of m))).ask

  there : out m.task.work (is_anchor_free m.errands m.position.ballot.parts port) ≡ Some ask
  there = sym (asks_there_now m port low) ∙ asks_it

  pub client_is : m.files.mount < 16 → IsClientOfAsk m.files.mount (client_of m.files.mount m.task.work) ask
  client_is number = record { small = number; is = by m.task.work there }
    where
      reads_it : (looks : Looks) (b : Bool) → IsReadIf (out (Syncs looks) b)
      reads_it looks true = looks_read m port (look_at looks port).stage
      reads_it looks false = tt

      by : (work : MountWork) → out work (is_anchor_free m.errands m.position.ballot.parts port) ≡ Some ask → (client_of m.files.mount work ≡ m.files.mount) ⊎ ((client_of m.files.mount work ≡ 17 + m.files.mount) × AskIsRead ask)
      by (Syncs looks) is = inr (refl, subst IsReadIf is (reads_it looks (is_anchor_free m.errands m.position.ballot.parts port)))
      by work is = inl refl
