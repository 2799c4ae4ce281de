-- What a part waits for in the second phase of a ballot that decides: of its anchor something is still to be answered.
use Rattle.std.proofs.Common.{◌≡◌, ◌≢◌, ℕ, suc, ◌<◌, ◌≤◌, inl, inr, ◌==◌, Bool, true, false, cond, List, Option, Some, None, slice_get, arith, refl, sym, ap, subst, ◌∙◌}
use Rattle.std.proofs.lemmas.Bool.{cases_eq, cond-false, ne_eqb}
use Rattle.std.proofs.lemmas.Option.{none-some, same_Some}
use Rattle.pf_paxos.specs.declared.block.Block.{Block}
use Rattle.pf_paxos.specs.Registers.{Ask, AsksRead, AsksWrite, Gives, HasWritten, Reply, Turn, Written}
use Rattle.pf_paxos.specs.Runs.{idle_turn}
use Rattle.pf_paxos.specs.Deciding.{FindsNoneAbove}
use Rattle.pf_paxos.specs.declared.parts.AnchorAsk.{AnchorAsk}
use Rattle.pf_paxos.specs.declared.parts.AnchorAsk.TheVariants.{Nothing, OwnBlock, Half}
use Rattle.pf_paxos.specs.declared.parts.AnchorNext.{AnchorNext}
use Rattle.pf_paxos.specs.declared.parts.AnchorNext.TheVariants.{Write, Read, Idle}
use Rattle.pf_paxos.specs.declared.parts.Part.{Part}
use Rattle.pf_paxos.specs.declared.parts.Stage.{Stage}
use Rattle.pf_paxos.specs.declared.parts.Stage.TheVariants.{Writes, ReadsLow, ReadsHigh, Done}
use Rattle.pf_paxos.specs.Parts.{part_advanced, part_freed, next_where, stage_after, part_takes, part_written}
use Rattle.pf_paxos.specs.Quorums.{turn_on}
use Rattle.pf_paxos.specs.BallotRuns.{no_turn, anchor_turn_answered, turn_asking}
use Rattle.pf_paxos.proofs.BallotKept.{PartKept, here_turn, turns}
use Rattle.pf_paxos.proofs.BallotMoments.{Run}
use Rattle.pf_paxos.proofs.BallotParts.{Kept}

-- what decides at one anchor, of this mount
pub record Seen (history : List Turn) (m b : ℕ) (v : List ℕ) : Type 0 where
  pub asked : ℕ
  pub answered : ℕ
  pub wrote : HasWritten history m asked answered (record { mbal = b; bal = b; value = v })
  pub low : FindsNoneAbove history m 0 answered b
  pub high : FindsNoneAbove history m 1 answered b

-- Turns

ask_in : AnchorNext → Option Ask
ask_in (Write x) = Some (AsksWrite x)
ask_in (Read half) = Some (AsksRead half)
ask_in Idle = None

none_on : (a : ℕ) → turn_on a no_turn ≡ idle_turn
none_on a = by (0 == a)
  where
    by : (c : Bool) → cond c idle_turn idle_turn ≡ idle_turn
    by true = refl
    by false = refl

asks_is : (m a : ℕ) (n : AnchorNext) → (turn_on a (turn_asking m a n)).ask ≡ ask_in n
unfolding ask_in
asks_is m a (Write x) = ap (λ (t : Turn). t.ask) (here_turn a _)
asks_is m a (Read half) = ap (λ (t : Turn). t.ask) (here_turn a _)
asks_is m a Idle = ap (λ (t : Turn). t.ask) (none_on a)

silent_is : (m a : ℕ) (n : AnchorNext) → (turn_on a (turn_asking m a n)).reply ≡ None
silent_is m a (Write x) = ap (λ (t : Turn). t.reply) (here_turn a _)
silent_is m a (Read half) = ap (λ (t : Turn). t.reply) (here_turn a _)
silent_is m a Idle = ap (λ (t : Turn). t.reply) (none_on a)

pub elsewhere_is : (a c : ℕ) (x : Turn) → a ≢ c → turn_on c (record { anchor = a; turn = x }) ≡ idle_turn
elsewhere_is a c x apart = cond-false (a == c) x idle_turn (ne_eqb a c apart)

pub asks_elsewhere : (m a c : ℕ) (n : AnchorNext) → a ≢ c → turn_on c (turn_asking m a n) ≡ idle_turn
asks_elsewhere m a c (Write x) apart = elsewhere_is a c _ apart
asks_elsewhere m a c (Read half) apart = elsewhere_is a c _ apart
asks_elsewhere m a c Idle apart = none_on c

-- what a part waits for, by what it asks
low_asks : (asked : AnchorAsk) (mine : Block) → ask_in (next_where asked ReadsLow mine) ≢ Some (AsksRead 1)
unfolding ask_in
low_asks Nothing mine = λ e. absurd (grind (arith, e))
low_asks OwnBlock mine = λ e. absurd (none-some _ e)
low_asks (Half half) mine = λ e. absurd (none-some _ e)

write_stage : (asked : AnchorAsk) (stage : Stage) (mine x : Block) → ask_in (next_where asked stage mine) ≡ Some (AsksWrite x) → stage ≡ Writes
unfolding ask_in
write_stage Nothing Writes mine x is = refl
write_stage Nothing ReadsLow mine x is = absurd (grind (arith, is))
write_stage Nothing ReadsHigh mine x is = absurd (grind (arith, is))
write_stage Nothing Done mine x is = absurd (none-some _ is)
write_stage OwnBlock stage mine x is = absurd (none-some _ is)
write_stage (Half half) stage mine x is = absurd (none-some _ is)

-- At one anchor

module _ (es : Run) (m b : ℕ) (v : List ℕ) (a : ℕ) (d : Seen (turns es a) m b v) where
  -- what is not yet answered, by what the part waits for
  abbrev pub AtStage : Stage → (t : ℕ) → Type 0
  AtStage Writes t = t ≤ d.answered
  AtStage ReadsLow t = (t ≤ d.low.answered) × (t ≤ d.high.asked)
  AtStage ReadsHigh t = t ≤ d.high.answered
  AtStage Done t = Unit {0}

  abbrev pub PartIs : Part → (t : ℕ) → Type 0
  PartIs part t = (part.is_late ≡ false) × AtStage part.stage t

  -- once the write was asked
  abbrev pub Behind : (t : ℕ) → Part → Type 0
  Behind t part = d.asked < t → PartIs part t

  record IsNoAnswer (t : ℕ) : Type 0 where
    write : t ≢ d.answered
    low : t ≢ d.low.answered
    high : t ≢ d.high.answered

  no_answer : (t : ℕ) → ((x : Turn) → slice_get (turns es a) t ≡ Some x → x.client ≡ m → x.reply ≡ None) → IsNoAnswer t
  no_answer t silent = record {
    write = λ e. not e d.wrote.next d.wrote.at_next d.wrote.its_next Written d.wrote.gives;
    low = λ e. not e d.low.read.next d.low.read.at_next d.low.read.its_next (Gives d.low.blocks) d.low.read.gives;
    high = λ e. not e d.high.read.next d.high.read.at_next d.high.read.its_next (Gives d.high.blocks) d.high.read.gives;
  }
    where
      not : {k : ℕ} → t ≡ k → (x : Turn) → slice_get (turns es a) k ≡ Some x → x.client ≡ m → (r : Reply) → x.reply ≡ Some r → ⊥
      not e x at its r gives = none-some r (sym (silent x (subst (λ i. slice_get (turns es a) i ≡ Some x) (sym e) at) its) ∙ gives)

  later : (stage : Stage) (t : ℕ) → AtStage stage t → IsNoAnswer t → (stage ≡ ReadsLow → t ≢ d.high.asked) → AtStage stage (suc t)
  later Writes t at none apart = let x = none.write in omega (arith, at, x)
  later ReadsLow t at none apart = let x = none.low in let y = apart refl in (omega (arith, at.0, x), omega (arith, at.1, y))
  later ReadsHigh t at none apart = let x = none.high in omega (arith, at, x)
  later Done t at none apart = tt

  -- the mount has no turn here
  module _ (t : ℕ) (quiet : (x : Turn) → slice_get (turns es a) t ≡ Some x → x.client ≢ m) where
    quiet_none : IsNoAnswer t
    quiet_none = no_answer t (λ x at its. absurd (quiet x at its))

    pub quiet_behind : (part : Part) → Behind t part → Behind (suc t) part
    quiet_behind part behind less =
        let apart : t ≢ d.asked = λ e. quiet d.wrote.turn (subst (λ i. slice_get (turns es a) i ≡ Some d.wrote.turn) (sym e) d.wrote.at) d.wrote.its in
        let its = behind (omega (arith, less, apart)) in
        (its.0, later part.stage t its.1 quiet_none (λ _ e. quiet d.high.read.turn (subst (λ i. slice_get (turns es a) i ≡ Some d.high.read.turn) (sym e) d.high.read.at) d.high.read.its))

  -- it asks something here
  module _ (t : ℕ) (part : Part) (mine : Block) (now : slice_get (turns es a) t ≡ Some (turn_on a (turn_asking m a (next_where part.asked part.stage mine)))) (behind : Behind t part) where
    abbrev n : AnchorNext
    n = next_where part.asked part.stage mine

    asked_is : (x : Turn) (ask : Ask) → slice_get (turns es a) t ≡ Some x → x.ask ≡ Some ask → ask_in n ≡ Some ask
    asked_is x ask at asks = sym (asks_is m a n) ∙ ap (λ (y : Turn). y.ask) (same_Some _ _ (sym now ∙ at)) ∙ asks

    ask_none : IsNoAnswer t
    ask_none = no_answer t (λ x at its. ap (λ (y : Turn). y.reply) (same_Some _ _ (sym at ∙ now)) ∙ silent_is m a n)

    takes_is : (next : AnchorNext) → (part.is_late ≡ false) → AtStage part.stage (suc t) → PartIs (part_takes part next) (suc t)
    takes_is (Write x) on_time at = (refl, at)
    takes_is (Read half) on_time at = (refl, at)
    takes_is Idle on_time at = (on_time, at)

    takes_write : (next : AnchorNext) (x : Block) → ask_in next ≡ Some (AsksWrite x) → part.stage ≡ Writes → suc t ≤ d.answered → PartIs (part_takes part next) (suc t)
    unfolding ask_in
    takes_write (Write y) x is stage le = (refl, subst (λ s. AtStage s (suc t)) (sym stage) le)
    takes_write (Read half) x is stage le = absurd (grind (arith, is))
    takes_write Idle x is stage le = absurd (none-some _ is)

    pub asked_behind : Behind (suc t) (part_takes part n)
    asked_behind less = elim (cases_eq t d.asked) [
      | inl same ↦
          let asks = asked_is d.wrote.turn (AsksWrite (record { mbal = b; bal = b; value = v })) (subst (λ i. slice_get (turns es a) i ≡ Some d.wrote.turn) (sym same) d.wrote.at) d.wrote.asks in
          takes_write n (record { mbal = b; bal = b; value = v }) asks (write_stage part.asked part.stage mine _ asks) (let after = d.wrote.later in omega (arith, same, after))
      | inr apart ↦
          let its = behind (omega (arith, less, apart)) in
          takes_is n its.0 (later part.stage t its.1 ask_none (λ low e.
          low_asks part.asked mine (subst (λ s. ask_in (next_where part.asked s mine) ≡ Some (AsksRead 1)) low
          (asked_is d.high.read.turn (AsksRead 1) (subst (λ i. slice_get (turns es a) i ≡ Some d.high.read.turn) (sym e) d.high.read.at) d.high.read.asks))))
    ]

  -- it is answered here
  module _ (t : ℕ) (part : Part) (reply : Reply) (now : slice_get (turns es a) t ≡ Some (turn_on a (anchor_turn_answered m a reply))) (behind : Behind t part) where
    answered_is : (x : Turn) → slice_get (turns es a) t ≡ Some x → x ≡ record { client = m; reply = Some reply; ask = None }
    answered_is x at = same_Some _ _ (sym at ∙ now) ∙ here_turn a _

    no_ask : (k : ℕ) (x : Turn) (ask : Ask) → slice_get (turns es a) k ≡ Some x → x.ask ≡ Some ask → t ≢ k
    no_ask k x ask at asks e = none-some ask (sym (ap (λ (y : Turn). y.ask) (answered_is x (subst (λ i. slice_get (turns es a) i ≡ Some x) (sym e) at))) ∙ asks)

    not_yet : d.asked < suc t → d.asked < t
    not_yet less = let apart = no_ask d.asked d.wrote.turn (AsksWrite (record { mbal = b; bal = b; value = v })) d.wrote.at d.wrote.asks in omega (arith, less, apart)

    -- the write
    pub written_behind : part.asked ≡ OwnBlock → (mine : Block) → PartKept es m a t mine part → Behind (suc t) (part_written part)
    written_behind is mine kept less =
        let its = behind (not_yet less) in
        by part.is_late part.stage its.0 its.1 (subst (λ n. Kept (turns es a) m part.is_late part.stage n t mine part.best.bal) is kept.kept)
      where
        apart : t ≢ d.high.asked
        apart = no_ask d.high.asked d.high.read.turn (AsksRead 1) d.high.read.at d.high.read.asks

        by : (late : Bool) (stage : Stage) → late ≡ false → AtStage stage t → Kept (turns es a) m late stage OwnBlock t mine part.best.bal → PartIs (part_written (record { stage = stage; asked = part.asked; is_late = late; best = part.best })) (suc t)
        by true stage e at k = absurd (grind (arith, e))
        by false Writes e at k =
            let from = d.low.after in
            let read = d.low.read.later in
            let high = d.high.after in
            (refl, (omega (arith, at, from, read), omega (arith, at, high, apart)))
        by false ReadsLow e at k = absurd k
        by false ReadsHigh e at k = absurd k
        by false Done e at k = absurd k

    -- a read, in time
    pub read_behind : (half : ℕ) (blocks : List Block) → (stage : Stage) → part.stage ≡ stage → part.is_late ≡ false → (mine : Block) → Kept (turns es a) m false stage (Half half) t mine part.best.bal → Behind (suc t) (part_advanced part blocks)
    read_behind half blocks Writes is on_time mine k less = absurd k
    read_behind half blocks Done is on_time mine k less = absurd k
    read_behind half blocks ReadsLow is on_time mine k less =
        let its = subst (λ s. AtStage s t) is (behind (not_yet less)).1 in
        let read = d.high.read.later in
        (on_time, subst (λ s. AtStage (stage_after s) (suc t)) (sym is) (omega (arith, its.1, read)))
    read_behind half blocks ReadsHigh is on_time mine k less = (on_time, subst (λ s. AtStage (stage_after s) (suc t)) (sym is) tt)

    -- an answer of an earlier phase is none here
    pub late_behind : part.is_late ≡ true → Behind (suc t) (part_freed part)
    late_behind late less = let its = behind (not_yet less) in absurd (grind (arith, sym late ∙ its.0))
