-- Over three anchors, what is asked at an anchor goes to the chunk of its number.
use Rattle.std.proofs.Common.{◌≡◌, ℕ, zero, suc, ◌*◌, ◌/◌, ◌<◌, length, Bool, true, false, not, ◌&&◌, ◌==◌, if◌then◌else◌, Option, Some, None, refl, sym, ap, subst, ◌∙◌, arith}
use Rattle.std.proofs.lemmas.Bool.{eqb-true}
use Rattle.pf_base.specs.Asks.{chunk_of}
use Rattle.pf_base.specs.declared.asks.Ask.{Ask}
use Rattle.pf_volume.specs.Volumes.{Extent}
use Rattle.pf_paxos.specs.declared.block.Block.{Block}
use Rattle.pf_paxos.specs.declared.parts.AnchorNext.{AnchorNext}
use Rattle.pf_paxos.specs.declared.parts.AnchorNext.TheVariants.{Write, Read, Idle}
use Rattle.pf_paxos.specs.declared.parts.Stage.{Stage}
use Rattle.pf_paxos.specs.declared.parts.Stage.TheVariants.{Writes, ReadsLow, ReadsHigh, Done}
use Rattle.pf_paxos.specs.Ballots.{next_at_anchor}
use Rattle.pf_mount_errands.specs.Errands.{is_anchor_free, is_pausing, least_free_anchor}
use Rattle.pf_mount_errands.specs.Looks.{look_at}
use Rattle.pf_journal.specs.declared.layouts.Layout.{Layout}
use Rattle.pf_journal.specs.declared.layouts.Layout.TheVariants.{Three}
use Rattle.pf_journal.specs.Layouts.{HasAnchors, VolumeHasRoom, LayoutIs, base_of, layout_of, place_on, three}
use Rattle.pf_mount_errands.specs.Positions.{anchors_of, journal_of}
use Rattle.pf_mount_errands.specs.Places.{reads_first, reads_half, reads_super, writes_own, writes_super}
use Rattle.pf_mount_errands.proofs.Halves.{half_low}
use Rattle.pf_mount.specs.declared.stand.Handed.{Handed}
use Rattle.pf_mount.specs.declared.stand.Stand.{Stand}
use Rattle.pf_mount.specs.declared.work.MountWork.{MountWork}
use Rattle.pf_mount.specs.declared.work.MountWork.TheVariants.{Rests, Fails, ReadsSuper, WritesSuper, Syncs, Ballots, Pauses, Moves}
use Rattle.pf_mount_errands.specs.declared.errands.Errand.{Errand}
use Rattle.pf_mount_errands.specs.declared.errands.Errand.TheVariants.{OfPause, OfSuper, FillsSuper}
use Rattle.pf_mount.specs.Mounts.{MountIs, anchor_hands, ask_at, ballot_asks_next, ballots_on, hands_errand, hands_nothing, looks_on, pauses_on, stand_of, supers_on, works_on}
use Rattle.pf_mount.specs.Standing.{IsMount, IsWorkAt}

abbrev GoesTo : (chunk : ℕ) → Option Ask → Type 0
GoesTo chunk None = Unit {0}
GoesTo chunk (Some ask) = chunk_of ask ≡ chunk

three_base : (a : ℕ) → a < 3 → base_of three a ≡ 4096 * a
three_base zero low = refl
three_base (suc zero) low = refl
three_base (suc (suc zero)) low = refl
three_base (suc (suc (suc n))) low = absurd (omega (arith, low))

in_chunk : (l : LayoutIs) (v : Extent) → l ≡ three → HasAnchors v → (a position mount : ℕ) → a < 3 → position < l.positions → mount < 16 → place_on l a position mount / v.sectors ≡ a
in_chunk l v is has a position mount low there small =
    let base = three_base a low in
    let P : LayoutIs → Type 0 = λ x. position < x.positions → place_on x a position mount / v.sectors ≡ a in
    subst P (sym is) (λ below. subst (λ (n : ℕ). place_on three a position mount / n ≡ a) (sym has.sectors) (omega (arith, base, below, small))) there

super_in : (v : Extent) → HasAnchors v → (a : ℕ) → a ≡ 0 → 0 / v.sectors ≡ a
super_in v has a is = subst (λ (n : ℕ). 0 / n ≡ a) (sym has.sectors) (omega (arith, is))

-- where a mount stands over three anchors
record StandsThree (s : Stand) : Type 0 where
  layout : journal_of s.position ≡ three
  has : HasAnchors s.volume

module _ (s : Stand) (is : StandsThree s) (a : ℕ) (low : a < 3) where
  supers_go : (errand : Errand) (ask : Ask) → chunk_of ask ≡ 0 / s.volume.sectors → GoesTo a (supers_on s a errand ask).ask
  supers_go errand ask first = by (a == 0) refl
    where
      by : (b : Bool) → (a == 0) ≡ b → (let h : Handed = if b then hands_errand s a errand ask else hands_nothing s in GoesTo a h.ask)
      by true e = first ∙ super_in s.volume is.has a (eqb-true a 0 e)
      by false e = tt

  module _ (there : s.upto < (journal_of s.position).positions) where
    half_goes : (half : ℕ) → half < 2 → chunk_of (reads_half (journal_of s.position) s.volume a s.upto half) ≡ a
    half_goes half small = in_chunk (journal_of s.position) s.volume is.layout is.has a s.upto (8 * half) low there (omega (arith, small))

    first_goes : chunk_of (reads_first (journal_of s.position) s.volume a s.upto) ≡ a
    first_goes = in_chunk (journal_of s.position) s.volume is.layout is.has a s.upto 0 low there (omega arith)

    own_goes : (block : Block) → s.mount < 16 → chunk_of (writes_own (journal_of s.position) s.volume a s.upto s.mount block) ≡ a
    own_goes block number = in_chunk (journal_of s.position) s.volume is.layout is.has a s.upto s.mount low there number

    looks_go : (stage : Stage) → GoesTo a (looks_on s a stage).ask
    looks_go ReadsLow = half_goes 0 (omega arith)
    looks_go ReadsHigh = half_goes 1 (omega arith)
    looks_go Writes = tt
    looks_go Done = tt

    ballots_go : s.mount < 16 → GoesTo a (ballots_on s a).ask
    ballots_go number = by (next_at_anchor s.position.ballot a) refl
      where
        by : (n : AnchorNext) → next_at_anchor s.position.ballot a ≡ n → GoesTo a (ballot_asks_next s a n)
        by (Write block) next = own_goes block number
        by (Read half) next = half_goes half (half_low s.position.ballot a half next)
        by Idle next = tt

    pauses_go : GoesTo a (pauses_on s a).ask
    pauses_go = by (not (is_pausing s.errands) && (a == least_free_anchor s.errands s.position.ballot.parts))
      where
        by : (b : Bool) → (let h : Handed = if b then hands_errand s a OfPause (reads_first (journal_of s.position) s.volume a s.upto) else hands_nothing s in GoesTo a h.ask)
        by true = first_goes
        by false = tt

  works_go : s.mount < 16 → (work : MountWork) → IsWorkAt (journal_of s.position).positions s.upto work → GoesTo a (works_on s work a).ask
  works_go number ReadsSuper at = supers_go OfSuper (reads_super s.volume) refl
  works_go number WritesSuper at = supers_go FillsSuper (writes_super s.volume) refl
  works_go number (Syncs looks) at = looks_go at (look_at looks a).stage
  works_go number (Ballots input) at = ballots_go at.0 number
  works_go number (Pauses input left) at = pauses_go at.0
  works_go number Rests at = tt
  works_go number Fails at = tt
  works_go number (Moves moving) at = tt

module _ (m : MountIs) (is : IsMount m) (layout : m.position.layout ≡ Three) (port : ℕ) (low : port < 3) where
  stands : StandsThree (stand_of m)
  stands = record { layout = ap layout_of layout; has = subst (λ (l : Layout). VolumeHasRoom l m.files.volume) layout is.room }

  count : anchors_of m.position ≡ 3
  count = ap (λ (l : LayoutIs). length l.anchors) stands.layout

  port_goes : GoesTo port (ask_at m port)
  port_goes = by (port == anchors_of m.position) refl
    where
      at_anchor : (b : Bool) → (let h : Handed = if b then works_on (stand_of m) m.task.work port else hands_nothing (stand_of m) in GoesTo port h.ask)
      at_anchor true = works_go (stand_of m) stands port low is.number m.task.work is.task.work
      at_anchor false = tt

      by : (b : Bool) → (port == anchors_of m.position) ≡ b → GoesTo port (if b then m.task.ask else (anchor_hands (stand_of m) m.task.work port).ask)
      by true e = absurd (omega (arith, low, count, eqb-true port (anchors_of m.position) e))
      by false e = at_anchor (is_anchor_free m.errands m.position.ballot.parts port)

  pub asks_the_anchor : (ask : Ask) → ask_at m port ≡ Some ask → chunk_of ask ≡ port
  asks_the_anchor ask e = subst (GoesTo port) e port_goes
