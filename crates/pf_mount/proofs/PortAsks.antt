-- What is put at a port.
use Rattle.std.proofs.Common.{◌≡◌, ◌≢◌, ℕ, ◌≤◌, Bool, true, false, not, ◌&&◌, ◌==◌, if◌then◌else◌, List, Option, Some, None, refl, sym, ap, subst, ◌∙◌, arith}
use Rattle.std.proofs.lemmas.Bool.{cond-false, cond-true, eq-eqb, ne_eqb}
use Rattle.pf_base.specs.Asks.{Answers as AnswersAsk, chunk_of}
use Rattle.pf_base.specs.declared.asks.Ask.{Ask}
use Rattle.pf_base.specs.declared.asks.Reply.{Reply}
use Rattle.pf_volume.specs.Volumes.{Extent}
use Rattle.pf_journal.specs.declared.layouts.Layout.{Layout}
use Rattle.pf_journal.specs.Layouts.{VolumeHasRoom, layout_of}
use Rattle.pf_mount_errands.specs.Positions.{anchors_of}
use Rattle.pf_mount.specs.declared.stand.Handed.{Handed}
use Rattle.pf_mount.specs.declared.work.MountWork.{MountWork}
use Rattle.pf_mount.specs.declared.work.MountWork.TheVariants.{Rests, Fails, ReadsSuper, WritesSuper, Syncs, Ballots, Pauses, Moves}
use Rattle.pf_mount.specs.Mounts.{MountIs, anchor_hands, ask_at, mount_asked, asked_anchor, asked_data, stand_of}
use Rattle.pf_mount.specs.Nexts.{going, having_put, is_busy, is_data_ask, may_go, next_ask}
use Rattle.pf_mount.specs.Standing.{AnswersData, AsksWithin, Awaits, IsAskOfWork, IsMount, IsTask}
use Rattle.pf_mount.proofs.LaidOut.{Laid, anchor_hands_laid}

-- at an anchor

module _ (m : MountIs) (busy : List (Option ℕ)) (port : ℕ) (apart : port ≢ anchors_of m.position) where
  no_data : (port == anchors_of m.position) ≡ false
  no_data = ne_eqb port (anchors_of m.position) apart

  at_anchor : ask_at m port ≡ (anchor_hands (stand_of m) m.task.work port).ask
  at_anchor = cond-false (port == anchors_of m.position) m.task.ask (anchor_hands (stand_of m) m.task.work port).ask no_data

  its_next : (o : Option Ask) → (anchor_hands (stand_of m) m.task.work port).ask ≡ o → next_ask m busy port ≡ going m busy port o
  its_next o is = ap (going m busy port) (at_anchor ∙ is)

  pub puts_nothing : (anchor_hands (stand_of m) m.task.work port).ask ≡ None → None ≡ next_ask m busy port
  puts_nothing is = sym (its_next None is)

  its_going : (ask : Ask) (held : Bool) → is_busy busy (chunk_of ask) ≡ held → going m busy port (Some ask) ≡ (if not held then Some ask else None)
  its_going ask held is =
      let o : Bool → Option Ask = λ b. if b && not (is_busy busy (chunk_of ask)) then Some ask else None in
      ap o (cond-false (port == anchors_of m.position) (is_data_ask m ask) true no_data) ∙ ap (λ (b : Bool). if not b then Some ask else None) is

  pub puts_held : (ask : Ask) → (anchor_hands (stand_of m) m.task.work port).ask ≡ Some ask → is_busy busy (chunk_of ask) ≡ true → None ≡ next_ask m busy port
  puts_held ask is held = sym (its_next (Some ask) is ∙ its_going ask true held)

  pub puts_ask : (ask : Ask) → (anchor_hands (stand_of m) m.task.work port).ask ≡ Some ask → is_busy busy (chunk_of ask) ≡ false → Some ask ≡ next_ask m busy port
  puts_ask ask is held = sym (its_next (Some ask) is ∙ its_going ask false held)

  pub put_mount : (h : Handed) → h ≡ anchor_hands (stand_of m) m.task.work port → record m { position = h.stand.position; errands = h.stand.errands } ≡ mount_asked m port
  put_mount h is = ap (λ (x : Handed). record m { position = x.stand.position; errands = x.stand.errands }) is ∙ sym (cond-false (port == anchors_of m.position) (asked_data m) (asked_anchor m port) no_data)

pub put_is_mount : (m : MountIs) (port : ℕ) → IsMount m → (h : Handed) → h ≡ anchor_hands (stand_of m) m.task.work port → IsMount (record m { position = h.stand.position; errands = h.stand.errands })
put_is_mount m port is h made =
    let v = m.files.volume in
    let L : Handed → Type 0 = λ x. Laid m.position x.stand.position in
    let laid : L h = subst L (sym made) (anchor_hands_laid (stand_of m) port m.task.work) in
    let P : Layout → Type 0 = λ l. VolumeHasRoom l v → m.files.first ≡ (layout_of l).first → m.upto ≤ (layout_of l).positions → IsTask v (layout_of l).positions m.upto m.task → IsMount (record m { position = h.stand.position; errands = h.stand.errands }) in
    subst P laid.layout
    (λ room first upto task. record { number = is.number; room = room; over = laid.over is.over; first = first; upto = upto; inodes = is.inodes; call = is.call; task = task })
    is.room is.first is.upto is.task

-- at the port for file data

ask_inside : (v : Extent) (work : MountWork) (o : Option Ask) → IsAskOfWork v work o → AsksWithin v o
ask_inside v work None is = tt
ask_inside v (Moves moving) (Some ask) is = is.inside
ask_inside v Rests (Some ask) is = absurd is
ask_inside v Fails (Some ask) is = absurd is
ask_inside v ReadsSuper (Some ask) is = absurd is
ask_inside v WritesSuper (Some ask) is = absurd is
ask_inside v (Syncs looks) (Some ask) is = absurd is
ask_inside v (Ballots input) (Some ask) is = absurd is
ask_inside v (Pauses input left) (Some ask) is = absurd is

data_takes : (v : Extent) (work : MountWork) (ask : Ask) → IsAskOfWork v work (Some ask) → (reply : Reply) → AnswersAsk ask reply → AnswersData work None reply
data_takes v (Moves moving) ask is = is.awaits
data_takes v Rests ask is = absurd is
data_takes v Fails ask is = absurd is
data_takes v ReadsSuper ask is = absurd is
data_takes v WritesSuper ask is = absurd is
data_takes v (Syncs looks) ask is = absurd is
data_takes v (Ballots input) ask is = absurd is
data_takes v (Pauses input left) ask is = absurd is

module _ (m : MountIs) (busy : List (Option ℕ)) (is : IsMount m) where
  abbrev last : ℕ
  last = anchors_of m.position

  at_last : (last == last) ≡ true
  at_last = eq-eqb last last refl

  data_next : next_ask m busy last ≡ going m busy last m.task.ask
  data_next = ap (going m busy last) (cond-true (last == last) m.task.ask (anchor_hands (stand_of m) m.task.work last).ask at_last)

  asked_last : mount_asked m last ≡ asked_data m
  asked_last = cond-true (last == last) (asked_data m) (asked_anchor m last) at_last

  data_waits : (ask : Ask) → IsAskOfWork m.files.volume m.task.work (Some ask) → Awaits (mount_asked m last) last (Some ask)
  data_waits ask its =
      let P : MountIs → Type 0 = λ x. Awaits x last (Some ask) in
      subst P (sym asked_last) (λ reply answers. record {
        port_low = omega arith;
        anchor = λ low. absurd (omega (arith, low));
        data_port = λ e. data_takes m.files.volume m.task.work ask its reply answers;
      })

  -- what is put there lies in the volume, and each answer to it is one that the port takes
  record IsPut (o : Option Ask) : Type 0 where
    inside : AsksWithin m.files.volume o
    awaits : Awaits (having_put m last o) last o

  put_if : (b : Bool) (ask : Ask) → IsAskOfWork m.files.volume m.task.work (Some ask) → IsPut (if b then Some ask else None)
  put_if true ask its = record { inside = ask_inside m.files.volume m.task.work (Some ask) its; awaits = data_waits ask its }
  put_if false ask its = record { inside = tt; awaits = tt }

  goes_put : (o : Option Ask) → IsAskOfWork m.files.volume m.task.work o → IsPut (going m busy last o)
  goes_put None its = record { inside = tt; awaits = tt }
  goes_put (Some ask) its = put_if (may_go m busy last ask) ask its

  is_put : (o : Option Ask) → o ≡ next_ask m busy last → IsPut o
  is_put o e = subst IsPut (sym (e ∙ data_next)) (goes_put m.task.ask is.task.ask)

  pub data_inside : (o : Option Ask) → o ≡ next_ask m busy last → AsksWithin m.files.volume o
  data_inside o e = (is_put o e).inside

  pub data_awaits : (o : Option Ask) → o ≡ next_ask m busy last → (new : MountIs) → new ≡ having_put m last o → (port : ℕ) → port ≡ last → Awaits new port o
  data_awaits o e new new_is port port_is =
      let P : MountIs → Type 0 = λ x. Awaits x port o in
      let Q : ℕ → Type 0 = λ k. Awaits (having_put m last o) k o in
      subst P (sym new_is) (subst Q (sym port_is) (is_put o e).awaits)
