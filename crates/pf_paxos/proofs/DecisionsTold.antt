-- Whatever decides, its proposer tells it.
use Rattle.std.proofs.Common.{◌≡◌, ℕ, zero, suc, ◌+◌, ◌-◌, ◌<◌, ◌≤◌, ◌≢◌, ◌⊎◌, inl, inr, cond, List, [], ◌∷◌, Option, Some, None, slice_get, arith, refl, sym, ap, subst, ◌∙◌, eq-or-lt_of_le}
use Rattle.std.proofs.lemmas.Bool.{cases_lt, cases_eq, cond-true, cond-false, cond_both, lt-ltb, le-ltb}
use Rattle.std.proofs.lemmas.Option.{same_Some, none-some, slice_get_within}
use Rattle.pf_paxos.specs.declared.block.Block.{Block}
use Rattle.pf_paxos.specs.declared.proposer.Next.TheVariants.{Decided}
use Rattle.pf_paxos.specs.declared.proposer.ProposerPhase.{ProposerPhase}
use Rattle.pf_paxos.specs.declared.proposer.ProposerPhase.TheVariants.{Idle, Claiming, GatheringLow, GatheringHigh, Proposing, ConfirmingLow, ConfirmingHigh}
use Rattle.pf_paxos.specs.Blocks.{greatest_mbal}
use Rattle.pf_paxos.specs.Proposers.{ProposerIs, ProposerOutcome, IsReadingHalf, claimed, proposer_proposed, proposer_aborted, is_outrun}
use Rattle.pf_paxos.specs.Registers.{Ask, AsksWrite, AsksRead, Reply, Gives, Turn, AskIsAnswered, ClientHasRead, member, AreRegisters}
use Rattle.pf_paxos.specs.Runs.{ProposerCall, Starts, IsWritten, IsRead, ProposerEvent, Calls, Move, ask_of_next, move_in, turn_of_move, turns_of, ValueIsTold}
use Rattle.pf_paxos.specs.Deciding.{FindsNoneAbove, Decides}
use Rattle.pf_paxos.proofs.ProposerAgreement.{Grows}
use Rattle.pf_paxos.proofs.Moments.{state, Moves, Changes, changes}
use Rattle.pf_paxos.proofs.ProposerMoves.{IsFirst, gone_low, gone_high}
use Rattle.pf_paxos.proofs.Steady.{block, is_at, block_grows, bal_low}
use Rattle.pf_paxos.proofs.ClientAsks.{HasAsked, HasWroteBefore}
use Rattle.pf_paxos.proofs.CrossingPhases.{IsPlaced, placed, written_block, reads_new}
use Rattle.pf_paxos.proofs.RegisterAgreement.{decided_block}
use Rattle.pf_paxos.proofs.PickedValues.{wrote_low, wrote_high}
use Rattle.pf_paxos.proofs.ConfirmedValues.{went_low, went_high, wrote_second_low, wrote_second_high}

-- the greatest is not above what none is above
greatest_low : (blocks : List Block) (n : ℕ) → ((k : ℕ) (b : Block) → slice_get blocks k ≡ Some b → b.mbal ≤ n) → greatest_mbal blocks ≤ n
greatest_low [] n low = omega arith
greatest_low (x ∷ xs) n low = omega (arith, low 0 x refl, greatest_low xs n (λ k. low (suc k)))

-- a move that asks a read of a half leaves a phase that reads it, and the own block
record ReadsHalf (p : ProposerIs) (half : ℕ) (o : ProposerOutcome) : Type 0 where
  reads : IsReadingHalf o.proposer.phase half
  own : o.proposer.own ≡ p.own

AsksHalf : ProposerIs → ℕ → ProposerOutcome → Type 0
AsksHalf p half o = ask_of_next o.next ≡ Some (AsksRead half) → ReadsHalf p half o

same_half : {a b : ℕ} → Some (AsksRead a) ≡ Some (AsksRead b) → b ≡ a
same_half e = cc

asks_half : (p : ProposerIs) (half : ℕ) (o : ProposerOutcome) (h : ℕ) → ask_of_next o.next ≡ Some (AsksRead h) → (half ≡ h → IsReadingHalf o.proposer.phase half) → o.proposer.own ≡ p.own → AsksHalf p half o
unfolding AsksHalf
asks_half p half o h is reads own asks = record { reads = reads (same_half (sym is ∙ asks)); own = own }

asks_none : (p : ProposerIs) (half : ℕ) (o : ProposerOutcome) → ask_of_next o.next ≡ None → AsksHalf p half o
unfolding AsksHalf
asks_none p half o is asks = absurd (none-some _ (sym is ∙ asks))

asks_write : (p : ProposerIs) (half : ℕ) (o : ProposerOutcome) (b : Block) → ask_of_next o.next ≡ Some (AsksWrite b) → AsksHalf p half o
unfolding AsksHalf
asks_write p half o b is asks = absurd (grind (arith, sym is ∙ asks))

reads_after : (p : ProposerIs) (half : ℕ) (phase : ProposerPhase) (call : ProposerCall) (move : Move) → move_in phase p call ≡ Some move → AsksHalf p half move.outcome
reads_after p half Idle (Starts above input) move is = subst (λ (v : Move). AsksHalf p half v.outcome) (same_Some _ _ is) (asks_write p half _ _ refl)
reads_after p half Claiming IsWritten move is = subst (λ (v : Move). AsksHalf p half v.outcome) (same_Some _ _ is) (asks_half p half (claimed p) 0 refl (λ e. e) refl)
reads_after p half GatheringLow (IsRead blocks) move is = subst (λ (v : Move). AsksHalf p half v.outcome) (same_Some _ _ is) (cond_both (is_outrun p blocks) (proposer_aborted p blocks) (gone_low p blocks) (AsksHalf p half) (λ _. asks_none p half _ refl) (λ _. asks_half p half (gone_low p blocks) 1 refl (λ e. e) refl))
reads_after p half GatheringHigh (IsRead blocks) move is = subst (λ (v : Move). AsksHalf p half v.outcome) (same_Some _ _ is) (cond_both (is_outrun p blocks) (proposer_aborted p blocks) (gone_high p blocks) (AsksHalf p half) (λ _. asks_none p half _ refl) (λ _. asks_write p half _ _ refl))
reads_after p half Proposing IsWritten move is = subst (λ (v : Move). AsksHalf p half v.outcome) (same_Some _ _ is) (asks_half p half (proposer_proposed p) 0 refl (λ e. e) refl)
reads_after p half ConfirmingLow (IsRead blocks) move is = subst (λ (v : Move). AsksHalf p half v.outcome) (same_Some _ _ is) (cond_both (is_outrun p blocks) (proposer_aborted p blocks) (went_low p) (AsksHalf p half) (λ _. asks_none p half _ refl) (λ _. asks_half p half (went_low p) 1 refl (λ e. e) refl))
reads_after p half ConfirmingHigh (IsRead blocks) move is = subst (λ (v : Move). AsksHalf p half v.outcome) (same_Some _ _ is) (cond_both (is_outrun p blocks) (proposer_aborted p blocks) (went_high p) (AsksHalf p half) (λ _. asks_none p half _ refl) (λ _. asks_none p half _ refl))
reads_after p half phase call move is = absurd (none-some move is)

-- where a read of phase 2 is pending, a move brings blocks
record BringsBlocks (p : ProposerIs) (on : ProposerOutcome) (move : Move) : Type 0 where
  blocks : List Block
  reply : move.reply ≡ Some (Gives blocks)
  goes : greatest_mbal blocks ≤ p.own.mbal → move.outcome ≡ on

brings : (p : ProposerIs) (on : ProposerOutcome) (blocks : List Block) (move : Move) → record { reply = Some (Gives blocks); outcome = cond (is_outrun p blocks) (proposer_aborted p blocks) on } ≡ move → BringsBlocks p on move
brings p on blocks move is = record {
  blocks = blocks;
  reply = sym (ap (λ (v : Move). v.reply) is);
  goes = λ low. sym (ap (λ (v : Move). v.outcome) is) ∙ cond-false (is_outrun p blocks) (proposer_aborted p blocks) on (le-ltb p.own.mbal (greatest_mbal blocks) low);
}

brings_low : (p : ProposerIs) (call : ProposerCall) (move : Move) → move_in ConfirmingLow p call ≡ Some move → BringsBlocks p (went_low p) move
brings_low p (IsRead blocks) move is = brings p (went_low p) blocks move (same_Some _ _ is)
brings_low p call move is = absurd (none-some move is)

brings_high : (p : ProposerIs) (call : ProposerCall) (move : Move) → move_in ConfirmingHigh p call ≡ Some move → BringsBlocks p (went_high p) move
brings_high p (IsRead blocks) move is = brings p (went_high p) blocks move (same_Some _ _ is)
brings_high p call move is = absurd (none-some move is)

same_blocks : {a b : List Block} → Some (Gives a) ≡ Some (Gives b) → a ≡ b
same_blocks e = cc

-- a proposer's move tells the value as decided
pub record TellsValue (es : List ProposerEvent) (m : ℕ) (value : List ℕ) : Type 0 where
  pub moment : ℕ
  pub call : ProposerCall
  pub move : Move
  pub at : slice_get es moment ≡ Some (Calls m call)
  pub is : move_in (state es m moment).phase (state es m moment) call ≡ Some move
  pub tells : move.outcome.next ≡ Decided value

module _ (es : List ProposerEvent) (m : ℕ) (is_mount : m < 16) where
  -- no turn of the mount
  abbrev NoTurn : ℕ → Type 0
  NoTurn k = (x : Turn) → slice_get (turns_of es) k ≡ Some x → x.client ≢ m

  -- a turn of the mount is a move
  moves_at : (t : ℕ) (x : Turn) → slice_get (turns_of es) t ≡ Some x → x.client ≡ m → Moves es m t
  moves_at t x at its = by (changes es m t is_mount)
    where
      by : Changes es m t → Moves es m t
      by (inl s) = absurd (s.not_its x at its)
      by (inr mv) = mv

  -- without turns the proposer stays
  quiet_state : (s t : ℕ) → s ≤ t → ((k : ℕ) → s ≤ k → k < t → NoTurn k) → state es m s ≡ state es m t
  quiet_state s zero le none = let same : s ≡ 0 = omega (arith, le) in ap (state es m) same
  quiet_state s (suc t) le none =
      elim (eq-or-lt_of_le le) [
        | inl same ↦ ap (state es m) same
        | inr less ↦ quiet_state s t (omega (arith, less)) (λ k low high. none k low (omega (arith, high))) ∙ by (changes es m t is_mount) (none t (omega (arith, less)) (omega arith))
      ]
    where
      by : Changes es m t → NoTurn t → state es m t ≡ state es m (suc t)
      by (inl s) none = sym s.same
      by (inr mv) none = absurd (none (turn_of_move m (Some mv.move)) mv.turn refl)

  -- from the ask to its answer the proposer stays
  waits : (asked answered : ℕ) (ask : Ask) (reply : Reply) → AskIsAnswered (turns_of es) m asked answered ask reply → state es m (suc asked) ≡ state es m answered
  waits asked answered ask reply a = quiet_state (suc asked) answered a.later (λ k low high x at. a.no_other k x low high at)

  -- the move of a turn that asks or answers
  read_state : (asked half : ℕ) (x : Turn) → slice_get (turns_of es) asked ≡ Some x → x.client ≡ m → x.ask ≡ Some (AsksRead half) → IsReadingHalf (state es m (suc asked)).phase half
  unfolding AsksHalf
  read_state asked half x at its asks =
      let mv = moves_at asked x at its in
      let same = same_Some _ _ (sym mv.turn ∙ at) in
      subst (λ (p : ProposerIs). IsReadingHalf p.phase half) (sym mv.becomes) (reads_after (state es m asked) half (state es m asked).phase mv.call mv.move mv.is (ap (λ (y : Turn). y.ask) same ∙ asks)).reads

  -- phase 2's last answer, with no greater mbal, tells the value
  tells_at : (t : ℕ) (x : Turn) (blocks : List Block) → slice_get (turns_of es) t ≡ Some x → x.client ≡ m → x.reply ≡ Some (Gives blocks) → (state es m t).phase ≡ ConfirmingHigh → greatest_mbal blocks ≤ (state es m t).own.mbal → TellsValue es m (state es m t).own.value
  tells_at t x blocks at its gives is low =
      let mv = moves_at t x at its in
      let same = same_Some _ _ (sym mv.turn ∙ at) in
      let b = brings_high (state es m t) mv.call mv.move (ap (λ ph. move_in ph (state es m t) mv.call) (sym is) ∙ mv.is) in
      let of_blocks : blocks ≡ b.blocks = same_blocks (sym gives ∙ sym (ap (λ (y : Turn). y.reply) same) ∙ b.reply) in
      record { moment = t; call = mv.call; move = mv.move; at = mv.event; is = mv.is; tells = ap (λ (o : ProposerOutcome). o.next) (b.goes (subst (λ bs. greatest_mbal bs ≤ (state es m t).own.mbal) of_blocks low)) }

  -- the next turn of the mount
  record NextTurn (s t : ℕ) : Type 0 where
    at : ℕ
    after : s < at
    by : at ≤ t
    turn : Turn
    is : slice_get (turns_of es) at ≡ Some turn
    its : turn.client ≡ m
    none : (k : ℕ) → s < k → k < at → NoTurn k

  turn_or_none : (k : ℕ) → NoTurn k ⊎ ((x : Turn) × (slice_get (turns_of es) k ≡ Some x) × (x.client ≡ m))
  turn_or_none k = by (slice_get (turns_of es) k) refl
    where
      by : (o : Option Turn) → slice_get (turns_of es) k ≡ o → NoTurn k ⊎ ((x : Turn) × (slice_get (turns_of es) k ≡ Some x) × (x.client ≡ m))
      by None is = inl (λ x at. absurd (none-some x (sym is ∙ at)))
      by (Some y) is =
          elim (cases_eq y.client m) [
            | inl its ↦ inr (y, is, its)
            | inr apart ↦ inl (λ x at e. apart (ap (λ (z : Turn). z.client) (same_Some _ _ (sym is ∙ at)) ∙ e))
          ]

  scan : (n s : ℕ) → ((k : ℕ) → s < k → k ≤ s + n → NoTurn k) ⊎ NextTurn s (s + n)
  scan zero s = inl (λ k after le. absurd (omega (arith, after, le)))
  scan (suc n) s = more (scan n s) (turn_or_none (s + suc n))
    where
      more : ((k : ℕ) → s < k → k ≤ s + n → NoTurn k) ⊎ NextTurn s (s + n) → NoTurn (s + suc n) ⊎ ((x : Turn) × (slice_get (turns_of es) (s + suc n) ≡ Some x) × (x.client ≡ m)) → ((k : ℕ) → s < k → k ≤ s + suc n → NoTurn k) ⊎ NextTurn s (s + suc n)
      more (inr f) last = inr (record { at = f.at; after = f.after; by = omega (arith, f.by); turn = f.turn; is = f.is; its = f.its; none = f.none })
      more (inl none) (inr here) = inr (record { at = s + suc n; after = omega arith; by = omega arith; turn = here.0; is = here.1; its = here.2; none = λ k after before. none k after (omega (arith, before)) })
      more (inl none) (inl not_here) = inl (λ k after le. elim (cases_eq k (s + suc n)) [
        | inl same ↦ subst NoTurn (sym same) not_here
        | inr apart ↦ none k after (omega (arith, le, apart))
      ])

  next_turn : (s t : ℕ) (x : Turn) → s < t → slice_get (turns_of es) t ≡ Some x → x.client ≡ m → NextTurn s t
  next_turn s (suc t) x less at its = by (scan (suc t - s) s)
    where
      by : ((k : ℕ) → s < k → k ≤ s + (suc t - s) → NoTurn k) ⊎ NextTurn s (s + (suc t - s)) → NextTurn s (suc t)
      by (inl none) = absurd (none (suc t) less (omega (arith, less)) x at its)
      by (inr f) = record { at = f.at; after = f.after; by = omega (arith, f.by, less); turn = f.turn; is = f.is; its = f.its; none = f.none }
  next_turn s zero x less at its = absurd (omega (arith, less))

second_phase : (phase : ProposerPhase) (half : ℕ) → IsReadingHalf phase half → (IsFirst phase → ⊥) → ((half ≡ 0) × (phase ≡ ConfirmingLow)) ⊎ ((half ≡ 1) × (phase ≡ ConfirmingHigh))
second_phase Idle half reads late = absurd reads
second_phase Claiming half reads late = absurd reads
second_phase GatheringLow half reads late = absurd (late tt)
second_phase GatheringHigh half reads late = absurd (late tt)
second_phase Proposing half reads late = absurd reads
second_phase ConfirmingLow half reads late = inl (reads, refl)
second_phase ConfirmingHigh half reads late = inr (reads, refl)

module _ (es : List ProposerEvent) (registers : AreRegisters (turns_of es)) where
  -- while a half is read, the write of the phase was answered
  wrote_any : (m t half : ℕ) → m < 16 → (phase : ProposerPhase) → (state es m t).phase ≡ phase → IsReadingHalf phase half → HasWroteBefore (turns_of es) m t (state es m t).own.mbal
  wrote_any m t half lm Idle is reads = absurd reads
  wrote_any m t half lm Claiming is reads = absurd reads
  wrote_any m t half lm GatheringLow is reads = wrote_low es registers m t lm is
  wrote_any m t half lm GatheringHigh is reads = wrote_high es registers m t lm is
  wrote_any m t half lm Proposing is reads = absurd reads
  wrote_any m t half lm ConfirmingLow is reads = wrote_second_low es m t lm is
  wrote_any m t half lm ConfirmingHigh is reads = wrote_second_high es m t lm is

  module _ (ballot : ℕ) (value : List ℕ) (d : Decides (turns_of es) ballot value) where
    abbrev m : ℕ
    m = d.mount

    -- the proposer is in the ballot's second phase, by its block
    record IsDeciding (t : ℕ) : Type 0 where
      mbal : (state es d.mount t).own.mbal ≡ ballot
      value_is : (state es d.mount t).own.value ≡ value
      late : IsFirst (state es d.mount t).phase → ⊥

    of_low : (t : ℕ) → d.asked < t → (block es d.mount t).mbal ≤ ballot → IsDeciding t
    of_low t after low =
        let at = is_at es d.mount t d.is_mount in
        let decided = decided_block es ballot value d in
        let own = at.own in
        let grown : Grows (block es d.mount (suc d.asked)) (block es d.mount t) = block_grows es d.mount (suc d.asked) t d.is_mount after in
        let mbal : ballot ≤ (block es d.mount t).mbal = omega (arith, grown.mbal, ap (λ (b : Block). b.mbal) decided) in
        let bal : (block es d.mount t).bal ≤ (block es d.mount t).mbal = bal_low es d.mount t d.is_mount in
        let same : ((block es d.mount (suc d.asked)).bal ≡ (block es d.mount t).bal) × ((block es d.mount (suc d.asked)).value ≡ (block es d.mount t).value) = elim grown.bal [
          | inl less ↦ absurd (omega (arith, less, ap (λ (b : Block). b.bal) decided, bal, low))
          | inr kept ↦ kept
        ] in
        record {
          mbal = omega (arith, ap (λ (b : Block). b.mbal) own, mbal, low);
          value_is = ap (λ (b : Block). b.value) own ∙ sym same.1 ∙ ap (λ (b : Block). b.value) decided;
          late = λ first. absurd (omega (arith, at.steady.first first, ap (λ (b : Block). b.mbal) own, ap (λ (b : Block). b.bal) own, same.0, ap (λ (b : Block). b.bal) decided, mbal, low));
        }

    -- where the mount's own block is read with no greater mbal, it is in the ballot
    own_low : (half : ℕ) → (its : IsPlaced d.mount) → its.half ≡ half → (f : FindsNoneAbove (turns_of es) d.mount half d.answered ballot) → (block es d.mount (suc f.asked)).mbal ≤ ballot
    own_low half its same f =
        let reads = read_state es d.mount d.is_mount f.asked half f.read.turn f.read.at f.read.its f.read.asks in
        let w = wrote_any d.mount (suc f.asked) half d.is_mount (state es d.mount (suc f.asked)).phase refl reads in
        let r = reads_new (turns_of es) registers (block_grows es) d.mount d.mount half its.place f.asked f.answered f.blocks (ap (λ h. member h its.place) (sym same) ∙ its.is) its.is_place f.read w.asked w.answered w.block w.wrote (omega (arith, w.before)) in
        let low : (block es d.mount r.at).mbal ≤ ballot = f.none_above its.place (block es d.mount r.at) r.given in
        let claim : (block es d.mount (suc w.asked)).mbal ≡ w.block.mbal = ap (λ (b : Block). b.mbal) (written_block (turns_of es) d.mount w.asked w.answered w.block w.wrote) in
        let grown : (block es d.mount (suc w.asked)).mbal ≤ (block es d.mount r.at).mbal = (block_grows es d.mount (suc w.asked) r.at d.is_mount (omega (arith, r.after))).mbal in
        omega (arith, low, claim, grown, w.is, ap (λ (b : Block). b.mbal) (is_at es d.mount (suc f.asked) d.is_mount).own)

    -- the high half, read in the ballot, tells the value
    high_tells : (f : FindsNoneAbove (turns_of es) d.mount 1 d.answered ballot) → (block es d.mount (suc f.asked)).mbal ≤ ballot → TellsValue es d.mount value
    high_tells f low =
        let x : IsDeciding (suc f.asked) = of_low (suc f.asked) (omega (arith, d.wrote.later, f.after)) low in
        let reads = read_state es d.mount d.is_mount f.asked 1 f.read.turn f.read.at f.read.its f.read.asks in
        let same = waits es d.mount d.is_mount f.asked f.answered (AsksRead 1) (Gives f.blocks) f.read in
        elim (second_phase (state es d.mount (suc f.asked)).phase 1 reads x.late) [
          | inl low ↦ absurd (omega (arith, low.0))
          | inr high ↦
              subst (TellsValue es d.mount) (ap (λ (p : ProposerIs). p.own.value) (sym same) ∙ x.value_is)
              (tells_at es d.mount d.is_mount f.answered f.read.next f.blocks f.read.at_next f.read.its_next f.read.gives (ap (λ (p : ProposerIs). p.phase) (sym same) ∙ high.1)
              (subst (λ (p : ProposerIs). greatest_mbal f.blocks ≤ p.own.mbal) same (omega (arith, greatest_low f.blocks ballot f.none_above, x.mbal))))
        ]

    -- after the low half, the high one is asked
    record AsksHigh (t : ℕ) : Type 0 where
      asks : HasAsked (turns_of es) d.mount (suc t) (AsksRead 1)
      last_is : asks.last ≡ t
      phase : (state es d.mount (suc t)).phase ≡ ConfirmingHigh
      own : (state es d.mount (suc t)).own ≡ (state es d.mount t).own

    low_asks : (f : FindsNoneAbove (turns_of es) d.mount 0 d.answered ballot) → (block es d.mount (suc f.asked)).mbal ≤ ballot → AsksHigh f.answered × IsDeciding f.answered
    low_asks f low =
        let x : IsDeciding (suc f.asked) = of_low (suc f.asked) (omega (arith, d.wrote.later, f.after)) low in
        let reads = read_state es d.mount d.is_mount f.asked 0 f.read.turn f.read.at f.read.its f.read.asks in
        let same = waits es d.mount d.is_mount f.asked f.answered (AsksRead 0) (Gives f.blocks) f.read in
        let here : IsDeciding f.answered = record { mbal = ap (λ (p : ProposerIs). p.own.mbal) (sym same) ∙ x.mbal; value_is = ap (λ (p : ProposerIs). p.own.value) (sym same) ∙ x.value_is; late = subst (λ (p : ProposerIs). IsFirst p.phase → ⊥) same x.late } in
        elim (second_phase (state es d.mount (suc f.asked)).phase 0 reads x.late) [
          | inr high ↦ absurd (omega (arith, high.0))
          | inl at_low ↦
              let mv = moves_at es d.mount d.is_mount f.answered f.read.next f.read.at_next f.read.its_next in
              let turn = same_Some _ _ (sym mv.turn ∙ f.read.at_next) in
              let phase : ConfirmingLow ≡ (state es d.mount f.answered).phase = sym at_low.1 ∙ ap (λ (p : ProposerIs). p.phase) same in
              let b = brings_low (state es d.mount f.answered) mv.call mv.move (ap (λ ph. move_in ph (state es d.mount f.answered) mv.call) phase ∙ mv.is) in
              let of_blocks : f.blocks ≡ b.blocks = same_blocks (sym f.read.gives ∙ sym (ap (λ (y : Turn). y.reply) turn) ∙ b.reply) in
              let goes = b.goes (subst (λ bs. greatest_mbal bs ≤ (state es d.mount f.answered).own.mbal) of_blocks (omega (arith, greatest_low f.blocks ballot f.none_above, here.mbal))) in
              let next : state es d.mount (suc f.answered) ≡ (went_low (state es d.mount f.answered)).proposer = mv.becomes ∙ ap (λ (o : ProposerOutcome). o.proposer) goes in (
                record {
                  asks = record {
                    last = f.answered;
                    turn = turn_of_move d.mount (Some mv.move);
                    at = mv.turn;
                    its = refl;
                    asks = ap (λ (o : ProposerOutcome). ask_of_next o.next) goes;
                    earlier = omega arith;
                    no_other = λ k other after before _. absurd (omega (arith, after, before));
                  };
                  last_is = refl;
                  phase = ap (λ (p : ProposerIs). p.phase) next;
                  own = ap (λ (p : ProposerIs). p.own) next;
                },
                here,
              )
        ]

    -- its answer comes before a later read of the half, so it brings no greater mbal
    later_high : (t : ℕ) → AsksHigh t → IsDeciding t → (g : FindsNoneAbove (turns_of es) d.mount 1 d.answered ballot) → t < g.asked → TellsValue es d.mount value
    later_high t a x g after =
        let n = next_turn es d.mount d.is_mount t g.asked g.read.turn after g.read.at g.read.its in
        let same : state es d.mount (suc t) ≡ state es d.mount n.at = quiet_state es d.mount d.is_mount (suc t) n.at n.after (λ k low high. n.none k low high) in
        let phase : ConfirmingHigh ≡ (state es d.mount n.at).phase = sym a.phase ∙ ap (λ (p : ProposerIs). p.phase) same in
        let mv = moves_at es d.mount d.is_mount n.at n.turn n.is n.its in
        let b = brings_high (state es d.mount n.at) mv.call mv.move (ap (λ ph. move_in ph (state es d.mount n.at) mv.call) phase ∙ mv.is) in
        let turn = same_Some _ _ (sym mv.turn ∙ n.is) in
        let gives : n.turn.reply ≡ Some (Gives b.blocks) = ap (λ (y : Turn). y.reply) (sym turn) ∙ b.reply in
        let read : ClientHasRead (turns_of es) d.mount 1 t n.at b.blocks = record {
          turn = a.asks.turn;
          at = subst (λ k. slice_get (turns_of es) k ≡ Some a.asks.turn) a.last_is a.asks.at;
          its = a.asks.its;
          asks = a.asks.asks;
          next = n.turn;
          at_next = n.is;
          its_next = n.its;
          gives = gives;
          later = n.after;
          no_other = λ k other low high at. n.none k low high other at;
        } in
        let own : (state es d.mount n.at).own ≡ (state es d.mount t).own = ap (λ (p : ProposerIs). p.own) (sym same) ∙ a.own in
        subst (TellsValue es d.mount) (ap (λ (b : Block). b.value) own ∙ x.value_is)
        (tells_at es d.mount d.is_mount n.at n.turn b.blocks n.is n.its gives (sym phase) (omega (arith, greatest_low b.blocks ballot (not_above n.at b.blocks n.by read), ap (λ (b : Block). b.mbal) own, x.mbal)))
      where
        not_above : (at : ℕ) (blocks : List Block) → at ≤ g.asked → ClientHasRead (turns_of es) d.mount 1 t at blocks → (k : ℕ) (b : Block) → slice_get blocks k ≡ Some b → b.mbal ≤ ballot
        not_above at blocks by read k b there =
            let inside : k < 8 = omega (arith, slice_get_within blocks k b there, registers.whole d.mount 1 t at blocks read) in
            let is_mount : member 1 k < 16 = omega (arith, inside) in
            let first = same_Some _ _ (sym there ∙ registers.gives d.mount 1 t at k blocks read inside) in
            let rises = registers.rising d.mount 1 g.asked g.answered k g.blocks g.read inside d.mount t at blocks read by in
            let grown = (block_grows es (member 1 k) (registers.seen at (member 1 k)) (registers.seen g.answered (member 1 k)) is_mount rises).mbal in
            let low = g.none_above k (block es (member 1 k) (registers.seen g.answered (member 1 k))) (registers.gives d.mount 1 g.asked g.answered k g.blocks g.read inside) in
            omega (arith, ap (λ (y : Block). y.mbal) first, grown, low)

    -- so the ballot's value is told
    pub decided_told : TellsValue es d.mount value
    decided_told = by (placed d.mount d.is_mount) (placed d.mount d.is_mount).is_half
      where
        by_order : (AsksHigh d.low.answered × IsDeciding d.low.answered) → (d.low.answered < d.high.asked) ⊎ (d.high.asked ≤ d.low.answered) → TellsValue es d.mount value
        by_order a (inl after) = later_high d.low.answered a.0 a.1 d.high after
        by_order a (inr not_after) =
            let at = is_at es d.mount (suc d.low.answered) d.is_mount in
            let grown = (block_grows es d.mount (suc d.high.asked) (suc d.low.answered) d.is_mount (omega (arith, not_after))).mbal in
            high_tells d.high (omega (arith, grown, ap (λ (b : Block). b.mbal) at.own, ap (λ (b : Block). b.mbal) a.0.own, a.1.mbal))

        by : (its : IsPlaced d.mount) → (its.half ≡ 0) ⊎ (its.half ≡ 1) → TellsValue es d.mount value
        by its (inl low) = by_order (low_asks d.low (own_low 0 its low d.low)) (cases_lt d.low.answered d.high.asked)
        by its (inr high) = high_tells d.high (own_low 1 its high d.high)

-- the same, by the moves of all mounts
pub told_value : (es : List ProposerEvent) → AreRegisters (turns_of es) → (ballot : ℕ) (value : List ℕ) → (d : Decides (turns_of es) ballot value) → ValueIsTold es d.mount value
told_value es registers ballot value d =
    let x = decided_told es registers ballot value d in
    record { moment = x.moment; call = x.call; move = x.move; at = x.at; is = cond-true _ _ _ (lt-ltb d.mount 16 d.is_mount) ∙ x.is; tells = x.tells }
