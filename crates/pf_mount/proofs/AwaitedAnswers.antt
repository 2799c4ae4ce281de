-- Each answer to what is asked at a port is one that the port takes.
use Rattle.std.proofs.Common.{◌≡◌, ℕ, ◌<◌, Bool, true, false, cond, not, ◌&&◌, ◌==◌, if◌then◌else◌, Some, refl, sym, ap, subst, ◌∙◌, arith}
use Rattle.std.proofs.lemmas.List.{get_or-set_same}
use Rattle.pf_base.specs.Asks.{Answers as AnswersAsk}
use Rattle.pf_base.specs.declared.asks.Ask.{Ask}
use Rattle.pf_base.specs.declared.asks.Reply.{Reply}
use Rattle.pf_base.specs.declared.asks.Reply.TheVariants.{Written, Bytes}
use Rattle.pf_volume.specs.Volumes.{Extent}
use Rattle.pf_paxos.specs.declared.block.Block.{Block}
use Rattle.pf_paxos.specs.declared.parts.AnchorNext.{AnchorNext}
use Rattle.pf_paxos.specs.declared.parts.AnchorNext.TheVariants.{Write, Read, Idle}
use Rattle.pf_paxos.specs.declared.parts.AnchorAsk.{AnchorAsk}
use Rattle.pf_paxos.specs.declared.parts.Part.{Part}
use Rattle.pf_paxos.specs.declared.parts.Stage.{Stage}
use Rattle.pf_paxos.specs.declared.parts.Stage.TheVariants.{Writes, ReadsLow, ReadsHigh, Done}
use Rattle.pf_paxos.specs.Parts.{no_part, part_at, part_takes}
use Rattle.pf_paxos.specs.Ballots.{asked_next, next_at_anchor}
use Rattle.pf_mount_errands.specs.declared.errands.Errand.{Errand}
use Rattle.pf_mount_errands.specs.declared.errands.Errand.TheVariants.{Free, OfSync, OfPause, OfSuper, FillsSuper, LateWrite, LateRead}
use Rattle.pf_mount_errands.specs.declared.errands.Errands.{Errands}
use Rattle.pf_mount.specs.declared.stand.Handed.{Handed}
use Rattle.pf_mount.specs.declared.stand.Stand.{Stand}
use Rattle.pf_mount.specs.declared.work.MountWork.{MountWork}
use Rattle.pf_mount.specs.declared.work.MountWork.TheVariants.{Rests, Fails, ReadsSuper, WritesSuper, Syncs, Ballots, Pauses, Moves}
use Rattle.pf_journal.specs.Layouts.{LayoutIs}
use Rattle.pf_mount_errands.specs.Places.{reads_first, reads_half, reads_super, writes_own, writes_super}
use Rattle.pf_mount_errands.specs.Errands.{errand_at, is_anchor_free, is_free_of, is_pausing, least_free_anchor, with_errand}
use Rattle.pf_mount_errands.specs.Looks.{look_at}
use Rattle.pf_mount_errands.specs.Positions.{IsOverAnchors, anchors_of, journal_of}
use Rattle.pf_mount.specs.Mounts.{MountIs, anchor_hands, ballot_asks_next, ballots_on, hands_errand, hands_nothing, looks_on, pauses_on, supers_on, works_on}
use Rattle.pf_mount.specs.Standing.{AnswersPort, AnswersBallot, AnswersErrand, Awaits, HasSectors, ReplyIsWritten}

errand_same : (e : Errands) (a : ℕ) (x : Errand) → errand_at (with_errand e a x) a ≡ x
errand_same e a x = by (a == 0) (a == 1)
  where
    by : (b c : Bool) → (let r = cond b (record e { errand_0 = x }) (cond c (record e { errand_1 = x }) (record e { errand_2 = x })) in cond b r.errand_0 (cond c r.errand_1 r.errand_2)) ≡ x
    by true c = refl
    by false true = refl
    by false false = refl

half_awaits : (l : LayoutIs) (v : Extent) (a p h : ℕ) (reply : Reply) → AnswersAsk (reads_half l v a p h) reply → HasSectors 8 reply
half_awaits l v a p h Written is = absurd is
half_awaits l v a p h (Bytes sectors) is = is

first_awaits : (l : LayoutIs) (v : Extent) (a p : ℕ) (reply : Reply) → AnswersAsk (reads_first l v a p) reply → HasSectors 1 reply
first_awaits l v a p Written is = absurd is
first_awaits l v a p (Bytes sectors) is = is

own_awaits : (l : LayoutIs) (v : Extent) (a p m : ℕ) (b : Block) (reply : Reply) → AnswersAsk (writes_own l v a p m b) reply → ReplyIsWritten reply
own_awaits l v a p m b Written is = tt
own_awaits l v a p m b (Bytes sectors) is = absurd is

super_awaits : (v : Extent) (reply : Reply) → AnswersAsk (reads_super v) reply → HasSectors 1 reply
super_awaits v Written is = absurd is
super_awaits v (Bytes sectors) is = is

filled_awaits : (v : Extent) (reply : Reply) → AnswersAsk (writes_super v) reply → ReplyIsWritten reply
filled_awaits v Written is = tt
filled_awaits v (Bytes sectors) is = absurd is

free_errand : (x : Errand) (n : AnchorAsk) → is_free_of x n ≡ true → x ≡ Free
free_errand Free n is = refl
free_errand OfSync n is = absurd (grind (arith, is))
free_errand OfPause n is = absurd (grind (arith, is))
free_errand OfSuper n is = absurd (grind (arith, is))
free_errand FillsSuper n is = absurd (grind (arith, is))
free_errand LateWrite n is = absurd (grind (arith, is))
free_errand (LateRead count) n is = absurd (grind (arith, is))

module _ (m : MountIs) (a : ℕ) where
  -- the mount, where it stands now
  abbrev at : Stand → MountIs
  at s = record m { position = s.position; errands = s.errands }

  answers_at : (n : MountIs) → a < anchors_of n.position → (reply : Reply) → AnswersErrand (errand_at n.errands a) (part_at n.position.ballot.parts a).asked reply → AnswersPort n a reply
  answers_at n low reply is = record { port_low = omega (arith, low); anchor = λ _. is; data_port = λ e. absurd (omega (arith, low, e)) }

  hands_await : (s : Stand) → a < anchors_of s.position → (errand : Errand) (ask : Ask) → ((reply : Reply) → AnswersAsk ask reply → AnswersErrand errand (part_at s.position.ballot.parts a).asked reply) → Awaits (at (hands_errand s a errand ask).stand) a (Some ask)
  hands_await s low errand ask takes_it = λ reply is.
      answers_at (at (hands_errand s a errand ask).stand) low reply
      (subst (λ (x : Errand). AnswersErrand x (part_at s.position.ballot.parts a).asked reply) (sym (errand_same s.errands a errand)) (takes_it reply is))

  looks_await : (s : Stand) → a < anchors_of s.position → (stage : Stage) → (let h = looks_on s a stage in Awaits (at h.stand) a h.ask)
  looks_await s low ReadsLow = hands_await s low OfSync (reads_half (journal_of s.position) s.volume a s.upto 0) (half_awaits (journal_of s.position) s.volume a s.upto 0)
  looks_await s low ReadsHigh = hands_await s low OfSync (reads_half (journal_of s.position) s.volume a s.upto 1) (half_awaits (journal_of s.position) s.volume a s.upto 1)
  looks_await s low Writes = tt
  looks_await s low Done = tt

  ballots_await : (s : Stand) → a < anchors_of s.position → IsOverAnchors s.position → errand_at s.errands a ≡ Free → (let h = ballots_on s a in Awaits (at h.stand) a h.ask)
  ballots_await s low over free = by (next_at_anchor s.position.ballot a) refl
    where
      asked_now : (n : AnchorNext) → next_at_anchor s.position.ballot a ≡ n → (part_at (asked_next s.position.ballot a).parts a).asked ≡ (part_takes (part_at s.position.ballot.parts a) n).asked
      asked_now n is = ap (λ (x : Part). x.asked) (get_or-set_same s.position.ballot.parts a (part_takes (part_at s.position.ballot.parts a) (next_at_anchor s.position.ballot a)) no_part (omega (arith, low, over))) ∙ ap (λ (k : AnchorNext). (part_takes (part_at s.position.ballot.parts a) k).asked) is

      by : (n : AnchorNext) → next_at_anchor s.position.ballot a ≡ n → Awaits (at (ballots_on s a).stand) a (ballot_asks_next s a n)
      by (Write b) is = λ reply answers.
          answers_at (at (ballots_on s a).stand) low reply
          (subst (λ (x : Errand). AnswersErrand x (part_at (asked_next s.position.ballot a).parts a).asked reply) (sym free)
          (subst (λ (n : AnchorAsk). AnswersBallot n reply) (sym (asked_now (Write b) is)) (own_awaits (journal_of s.position) s.volume a s.upto s.mount b reply answers)))
      by (Read half) is = λ reply answers.
          answers_at (at (ballots_on s a).stand) low reply
          (subst (λ (x : Errand). AnswersErrand x (part_at (asked_next s.position.ballot a).parts a).asked reply) (sym free)
          (subst (λ (n : AnchorAsk). AnswersBallot n reply) (sym (asked_now (Read half) is)) (half_awaits (journal_of s.position) s.volume a s.upto half reply answers)))
      by Idle is = tt

  pauses_await : (s : Stand) → a < anchors_of s.position → (let h = pauses_on s a in Awaits (at h.stand) a h.ask)
  pauses_await s low = by (not (is_pausing s.errands) && (a == least_free_anchor s.errands s.position.ballot.parts))
    where
      by : (b : Bool) → (let h = if b then hands_errand s a OfPause (reads_first (journal_of s.position) s.volume a s.upto) else hands_nothing s in Awaits (at h.stand) a h.ask)
      by true = hands_await s low OfPause (reads_first (journal_of s.position) s.volume a s.upto) (first_awaits (journal_of s.position) s.volume a s.upto)
      by false = tt

  supers_await : (s : Stand) → a < anchors_of s.position → (errand : Errand) (ask : Ask) → ((reply : Reply) → AnswersAsk ask reply → AnswersErrand errand (part_at s.position.ballot.parts a).asked reply) → (let h = supers_on s a errand ask in Awaits (at h.stand) a h.ask)
  supers_await s low errand ask takes_it = by (a == 0)
    where
      by : (b : Bool) → (let h = if b then hands_errand s a errand ask else hands_nothing s in Awaits (at h.stand) a h.ask)
      by true = hands_await s low errand ask takes_it
      by false = tt

  works_await : (s : Stand) → a < anchors_of s.position → (work : MountWork) → IsOverAnchors s.position → errand_at s.errands a ≡ Free → (let h = works_on s work a in Awaits (at h.stand) a h.ask)
  works_await s low ReadsSuper over free = supers_await s low OfSuper (reads_super s.volume) (super_awaits s.volume)
  works_await s low WritesSuper over free = supers_await s low FillsSuper (writes_super s.volume) (filled_awaits s.volume)
  works_await s low Fails over free = tt
  works_await s low (Syncs looks) over free = looks_await s low (look_at looks a).stage
  works_await s low (Ballots input) over free = ballots_await s low over free
  works_await s low (Pauses input left) over free = pauses_await s low
  works_await s low Rests over free = tt
  works_await s low (Moves moving) over free = tt

  anchor_awaits : (s : Stand) → a < anchors_of s.position → (work : MountWork) → IsOverAnchors s.position → (let h = anchor_hands s work a in Awaits (at h.stand) a h.ask)
  anchor_awaits s low work over = by (is_anchor_free s.errands s.position.ballot.parts a) refl
    where
      by : (b : Bool) → is_anchor_free s.errands s.position.ballot.parts a ≡ b → (let h = if b then works_on s work a else hands_nothing s in Awaits (at h.stand) a h.ask)
      by true is = works_await s low work over (free_errand (errand_at s.errands a) (part_at s.position.ballot.parts a).asked is)
      by false is = tt

-- what is handed out at an anchor
pub handed_awaits : (m : MountIs) (a : ℕ) (s : Stand) → a < anchors_of s.position → (work : MountWork) (h : Handed) → IsOverAnchors s.position → h ≡ anchor_hands s work a → Awaits (record m { position = h.stand.position; errands = h.stand.errands }) a h.ask
handed_awaits m a s low work h over is =
    let P : Handed → Type 0 = λ x. Awaits (record m { position = x.stand.position; errands = x.stand.errands }) a x.ask in
    subst P (sym is) (anchor_awaits m a s low work over)
