-- How phase 1 came to the value of phase 2: what was written, read and seen before.
use Rattle.std.proofs.Common.{◌≡◌, ℕ, zero, suc, ◌<◌, ◌≤◌, ◌≢◌, ◌⊎◌, inl, inr, ◌==◌, List, [], Option, Some, None, slice_get, arith, refl, sym, ap, subst, ◌∙◌, eq-or-lt_of_le}
use Rattle.std.specs.Prelude.{unwrap_or}
use Rattle.std.proofs.lemmas.Bool.{cond-true, cond-false, eq-eqb, ne_eqb}
use Rattle.std.proofs.lemmas.Option.{same_Some, slice_get_within}
use Rattle.pf_paxos.specs.declared.block.Block.{Block}
use Rattle.pf_paxos.specs.declared.proposer.ProposerPhase.{ProposerPhase}
use Rattle.pf_paxos.specs.declared.proposer.ProposerPhase.TheVariants.{Idle, Claiming, GatheringLow, GatheringHigh, Proposing, ConfirmingLow, ConfirmingHigh}
use Rattle.pf_paxos.specs.Blocks.{greatest_mbal, best_of}
use Rattle.pf_paxos.specs.Proposers.{ProposerIs, value_of, proposer_claim, proposal_of, started, claimed}
use Rattle.pf_paxos.specs.Registers.{AsksWrite, AsksRead, Written, Gives, Turn, ClientHasRead, member, AreRegisters}
use Rattle.pf_paxos.specs.Runs.{ProposerEvent, Move, turn_of_move, turns_of}
use Rattle.pf_paxos.proofs.ProposerAgreement.{IsPicked}
use Rattle.pf_paxos.proofs.ClientAsks.{HasAsked, HasClaimed, HasWroteBefore, HasGathered, asked_now, answered_now, still_asked, gathered_below}
use Rattle.pf_paxos.proofs.Moments.{state, Stays, Moves, changes}
use Rattle.pf_paxos.proofs.ProposerMoves.{IsFirst, IsMove, gone_low, ByStart, ByClaim, ByLow, ByHigh, ByRest, is_move, mbal_low, IsBest, best_is}
use Rattle.pf_paxos.proofs.Steady.{IsSteady, block, is_at, bal_low}

module _ (es : List ProposerEvent) where
  -- the bal and the value are those of a mount's block at some moment before
  pub record IsSeen (before : ℕ) (b : Block) : Type 0 where
    pub mount : ℕ
    pub is_mount : mount < 16
    pub at : ℕ
    pub earlier : at ≤ before
    pub bal : b.bal ≡ (block es mount at).bal
    pub value : b.value ≡ (block es mount at).value

  seen_after : (t u : ℕ) (b : Block) → t ≤ u → IsSeen t b → IsSeen u b
  seen_after t u b le s = record { mount = s.mount; is_mount = s.is_mount; at = s.at; earlier = omega (arith, s.earlier, le); bal = s.bal; value = s.value }

  -- phase 1 runs since a moment
  abbrev pub RunsSince : (m from t : ℕ) → Type 0
  RunsSince m from t = (s : ℕ) → from < s → s ≤ t → IsFirst (state es m s).phase

  runs_on : (m from t : ℕ) → RunsSince m from t → IsFirst (state es m (suc t)).phase → RunsSince m from (suc t)
  runs_on m from t runs now s after le =
      elim (eq-or-lt_of_le le) [
        | inl same ↦ subst (λ k. IsFirst (state es m k).phase) (sym same) now
        | inr less ↦ runs s after (omega (arith, less))
      ]

  record InClaim (m t : ℕ) (p : ProposerIs) : Type 0 where
    asked : HasAsked (turns_of es) m t (AsksWrite p.own)
    best : p.best ≡ p.own
    runs : RunsSince m asked.last t

  record InLow (m t : ℕ) (p : ProposerIs) : Type 0 where
    claimed : HasClaimed (turns_of es) m p.own.mbal
    runs : RunsSince m claimed.asked t
    asked : HasAsked (turns_of es) m t (AsksRead 0)
    after : claimed.answered ≤ asked.last
    seen : IsSeen t p.best
    low : p.best.bal ≤ p.own.mbal

  pub record InHigh (m t : ℕ) (p : ProposerIs) : Type 0 where
    pub claimed : HasClaimed (turns_of es) m p.own.mbal
    pub runs : RunsSince m claimed.asked t
    pub gathered : HasGathered (turns_of es) m 0 claimed.answered p.best.bal
    pub asked : HasAsked (turns_of es) m t (AsksRead 1)
    pub after : claimed.answered ≤ asked.last
    pub seen : IsSeen t p.best
    pub low : p.best.bal ≤ p.own.mbal

  -- what was done in phase 1 so far
  abbrev Past : ProposerPhase → (m t : ℕ) → ProposerIs → Type 0
  Past Claiming m t p = InClaim m t p
  Past GatheringLow m t p = InLow m t p
  Past GatheringHigh m t p = InHigh m t p
  Past _ m t p = Unit {0}

  -- how a ballot's value was picked, by its write and its two reads
  pub record Picks (m ballot : ℕ) (value : List ℕ) : Type 0 where
    pub picked : IsPicked (block es) m ballot value
    pub claimed : HasClaimed (turns_of es) m ballot
    pub low : HasGathered (turns_of es) m 0 claimed.answered (block es picked.best picked.at).bal
    pub high : HasGathered (turns_of es) m 1 claimed.answered (block es picked.best picked.at).bal
    pub otherwise : (block es picked.best picked.at).bal ≡ 0 → value ≡ unwrap_or (state es m picked.moment).input []

  abbrev PicksIfAny : ℕ → Block → Type 0
  PicksIfAny m b = 0 < b.bal → Picks m b.bal b.value

  record IsKept (m t : ℕ) (p : ProposerIs) : Type 0 where
    past : Past p.phase m t p
    picks : PicksIfAny m p.own

  -- a moment at which nothing happens to the mount
  module _ (m t : ℕ) (quiet : (x : Turn) → slice_get (turns_of es) t ≡ Some x → x.client ≢ m) where
    still_past : (phase : ProposerPhase) (p : ProposerIs) → (IsFirst phase → IsFirst (state es m (suc t)).phase) → Past phase m t p → Past phase m (suc t) p
    unfolding still_asked
    still_past Claiming p first x = record { asked = still_asked (turns_of es) m t quiet _ x.asked; best = x.best; runs = runs_on m x.asked.last t x.runs (first tt) }
    still_past GatheringLow p first x = record { claimed = x.claimed; runs = runs_on m x.claimed.asked t x.runs (first tt); asked = still_asked (turns_of es) m t quiet _ x.asked; after = x.after; seen = seen_after t (suc t) p.best (omega arith) x.seen; low = x.low }
    still_past GatheringHigh p first x = record { claimed = x.claimed; runs = runs_on m x.claimed.asked t x.runs (first tt); gathered = x.gathered; asked = still_asked (turns_of es) m t quiet _ x.asked; after = x.after; seen = seen_after t (suc t) p.best (omega arith) x.seen; low = x.low }
    still_past Idle p first x = tt
    still_past Proposing p first x = tt
    still_past ConfirmingLow p first x = tt
    still_past ConfirmingHigh p first x = tt

  rest_past : (phase : ProposerPhase) (m t : ℕ) (p : ProposerIs) → (IsFirst phase → ⊥) → Past phase m t p
  rest_past Claiming m t p rests = absurd (rests tt)
  rest_past GatheringLow m t p rests = absurd (rests tt)
  rest_past GatheringHigh m t p rests = absurd (rests tt)
  rest_past Idle m t p rests = tt
  rest_past Proposing m t p rests = tt
  rest_past ConfirmingLow m t p rests = tt
  rest_past ConfirmingHigh m t p rests = tt

  module _ (registers : AreRegisters (turns_of es)) where
    -- a block that was read is that of some mount, as it was before
    read_block : (m t half asked k : ℕ) (blocks : List Block) (r : Block) → half < 2 → ClientHasRead (turns_of es) m half asked t blocks → slice_get blocks k ≡ Some r → IsSeen t r × (r.bal ≤ r.mbal)
    read_block m t half asked k blocks r low read at =
        let inside : k < 8 = omega (arith, slice_get_within blocks k r at, registers.whole m half asked t blocks read) in
        let is_mount : member half k < 16 = omega (arith, inside, low) in
        let same : r ≡ block es (member half k) (registers.seen t (member half k)) = same_Some _ _ (sym at ∙ registers.gives m half asked t k blocks read inside) in (
          record {
            mount = member half k;
            is_mount = is_mount;
            at = registers.seen t (member half k);
            earlier = registers.not_late m half asked t k blocks read inside;
            bal = ap (λ (b : Block). b.bal) same;
            value = ap (λ (b : Block). b.value) same;
          },
          subst (λ (b : Block). b.bal ≤ b.mbal) (sym same) (bal_low es (member half k) (registers.seen t (member half k)) is_mount),
        )

    -- so is the best of what was seen before and these
    best_seen : (m t half asked ballot : ℕ) (best : Block) (blocks : List Block) → half < 2 → ClientHasRead (turns_of es) m half asked t blocks → IsSeen t best → best.bal ≤ ballot → greatest_mbal blocks ≤ ballot → (r : Block) → IsBest best blocks r → IsSeen t r × (r.bal ≤ ballot)
    best_seen m t half asked ballot best blocks low read seen not_above none r is =
        elim is.one [
          | inl same ↦ (subst (IsSeen t) (sym same) seen, subst (λ (b : Block). b.bal ≤ ballot) (sym same) not_above)
          | inr there ↦
              let one = read_block m t half asked there.0 blocks r low read there.1 in
              (one.0, omega (arith, one.1, mbal_low blocks there.0 r there.1, none))
        ]

    module _ (m t : ℕ) (is_mount : m < 16) (p : ProposerIs) (steady : IsSteady m p) (own_is : p.own ≡ block es m t) (kept : IsKept m t p) (here : state es m t ≡ p) where
      past_in : (phase : ProposerPhase) → p.phase ≡ phase → Past phase m t p
      past_in phase is = subst (λ ph. Past ph m t p) is kept.past

      from_start : (above : ℕ) (input : Option (List ℕ)) → slice_get (turns_of es) t ≡ Some (record { client = m; reply = None; ask = Some (AsksWrite (proposer_claim p above)) }) → IsFirst (state es m (suc t)).phase → IsKept m (suc t) (started p above input).proposer
      unfolding asked_now
      from_start above input now first = record {
        past = record {
          asked = asked_now (turns_of es) m t _ (AsksWrite (proposer_claim p above)) now refl refl;
          best = refl;
          runs = runs_on m t t (λ k after le. absurd (omega (arith, after, le))) first;
        };
        picks = kept.picks;
      }

      from_claim : p.phase ≡ Claiming → slice_get (turns_of es) t ≡ Some (record { client = m; reply = Some Written; ask = Some (AsksRead 0) }) → IsFirst (state es m (suc t)).phase → IsKept m (suc t) (claimed p).proposer
      unfolding asked_now
      from_claim is now first =
          let x : InClaim m t p = past_in Claiming is in
          let best : p.best ≡ block es m t = x.best ∙ own_is in
          record {
            past = record {
              claimed = record { asked = x.asked.last; answered = t; block = p.own; wrote = answered_now (turns_of es) m t _ (AsksWrite p.own) Written x.asked now refl refl; is = refl };
              runs = runs_on m x.asked.last t x.runs first;
              asked = asked_now (turns_of es) m t _ (AsksRead 0) now refl refl;
              after = omega arith;
              seen = record { mount = m; is_mount = is_mount; at = t; earlier = omega arith; bal = ap (λ (b : Block). b.bal) best; value = ap (λ (b : Block). b.value) best };
              low = omega (arith, ap (λ (b : Block). b.bal) x.best, steady.low);
            };
            picks = kept.picks;
          }

      from_low : p.phase ≡ GatheringLow → (blocks : List Block) → greatest_mbal blocks ≤ p.own.mbal → slice_get (turns_of es) t ≡ Some (record { client = m; reply = Some (Gives blocks); ask = Some (AsksRead 1) }) → IsFirst (state es m (suc t)).phase → IsKept m (suc t) (gone_low p blocks).proposer
      unfolding asked_now
      from_low is blocks none now first =
          let x : InLow m t p = past_in GatheringLow is in
          let read = answered_now (turns_of es) m t _ (AsksRead 0) (Gives blocks) x.asked now refl refl in
          let best = best_is p.best blocks in
          let seen = best_seen m t 0 x.asked.last p.own.mbal p.best blocks (omega arith) read x.seen x.low none (best_of p.best blocks) best in
          record {
            past = record {
              claimed = x.claimed;
              runs = runs_on m x.claimed.asked t x.runs first;
              gathered = record { asked = x.asked.last; answered = t; blocks = blocks; read = read; after = x.after; not_above = best.not_below_these };
              asked = asked_now (turns_of es) m t _ (AsksRead 1) now refl refl;
              after = omega (arith, x.after, x.asked.earlier);
              seen = seen_after t (suc t) (best_of p.best blocks) (omega arith) seen.0;
              low = seen.1;
            };
            picks = kept.picks;
          }

      picked_high : p.phase ≡ GatheringHigh → (blocks : List Block) → greatest_mbal blocks ≤ p.own.mbal → slice_get (turns_of es) t ≡ Some (record { client = m; reply = Some (Gives blocks); ask = Some (AsksWrite (proposal_of p (best_of p.best blocks))) }) → Picks m p.own.mbal (value_of (best_of p.best blocks) p.input)
      picked_high is blocks none now =
          let x : InHigh m t p = past_in GatheringHigh is in
          let read = answered_now (turns_of es) m t _ (AsksRead 1) (Gives blocks) x.asked now refl refl in
          let best = best_is p.best blocks in
          let seen = best_seen m t 1 x.asked.last p.own.mbal p.best blocks (omega arith) read x.seen x.low none (best_of p.best blocks) best in
          record {
            picked = record {
              moment = t;
              before = omega (arith, steady.first (subst IsFirst (sym is) tt), ap (λ (b : Block). b.bal) own_is);
              best = seen.0.mount;
              is_mount = seen.0.is_mount;
              at = seen.0.at;
              earlier = seen.0.earlier;
              not_above = omega (arith, seen.1, seen.0.bal);
              takes = λ some. cond-false ((best_of p.best blocks).bal == 0) (unwrap_or p.input []) (best_of p.best blocks).value (ne_eqb (best_of p.best blocks).bal 0 (λ e. absurd (omega (arith, e, some, seen.0.bal)))) ∙ seen.0.value;
            };
            claimed = x.claimed;
            low = gathered_below (turns_of es) m 0 x.claimed.answered p.best.bal (block es seen.0.mount seen.0.at).bal (omega (arith, best.not_below, seen.0.bal)) x.gathered;
            high = record { asked = x.asked.last; answered = t; blocks = blocks; read = read; after = x.after; not_above = λ k b at. omega (arith, best.not_below_these k b at, seen.0.bal) };
            otherwise = λ none_seen. cond-true ((best_of p.best blocks).bal == 0) (unwrap_or p.input []) (best_of p.best blocks).value (eq-eqb (best_of p.best blocks).bal 0 (seen.0.bal ∙ none_seen)) ∙ ap (λ (q : ProposerIs). unwrap_or q.input []) (sym here);
          }

      kept_next : (move : Move) → slice_get (turns_of es) t ≡ Some (turn_of_move m (Some move)) → state es m (suc t) ≡ move.outcome.proposer → IsMove p move → IsKept m (suc t) move.outcome.proposer
      kept_next _ now becomes (ByStart is above input) = from_start above input now (subst (λ (q : ProposerIs). IsFirst q.phase) (sym becomes) tt)
      kept_next _ now becomes (ByClaim is) = from_claim is now (subst (λ (q : ProposerIs). IsFirst q.phase) (sym becomes) tt)
      kept_next _ now becomes (ByLow is blocks none) = from_low is blocks none now (subst (λ (q : ProposerIs). IsFirst q.phase) (sym becomes) tt)
      kept_next _ now becomes (ByHigh is blocks none) = record { past = tt; picks = λ _. picked_high is blocks none now }
      kept_next move now becomes (ByRest _ rest) = record { past = rest_past move.outcome.proposer.phase m (suc t) move.outcome.proposer rest.rests; picks = subst (PicksIfAny m) (sym rest.own) kept.picks }

    kept_then : (m t : ℕ) → m < 16 → IsKept m t (state es m t) → Stays es m t ⊎ Moves es m t → IsKept m (suc t) (state es m (suc t))
    kept_then m t is_mount kept (inl s) = subst (IsKept m (suc t)) (sym s.same) (record { past = still_past m t s.not_its (state es m t).phase (state es m t) (subst (λ (q : ProposerIs). IsFirst q.phase) (sym s.same)) kept.past; picks = kept.picks })
    kept_then m t is_mount kept (inr mv) =
        let at = is_at es m t is_mount in
        subst (IsKept m (suc t)) (sym mv.becomes) (kept_next m t is_mount (state es m t) at.steady at.own kept refl mv.move mv.turn mv.becomes (is_move (state es m t) (state es m t).phase mv.call mv.move refl mv.is))

    kept_at : (m t : ℕ) → m < 16 → IsKept m t (state es m t)
    kept_at m zero is_mount = record { past = tt; picks = λ some. absurd (omega (arith, some)) }
    kept_at m (suc t) is_mount = kept_then m t is_mount (kept_at m t is_mount) (changes es m t is_mount)

    -- what phase 1 did before its last answer
    pub in_high : (m t : ℕ) → m < 16 → (state es m t).phase ≡ GatheringHigh → InHigh m t (state es m t)
    in_high m t is_mount is = subst (λ ph. Past ph m t (state es m t)) is (kept_at m t is_mount).past

    -- while phase 1 reads, its write was answered
    pub wrote_low : (m t : ℕ) → m < 16 → (state es m t).phase ≡ GatheringLow → HasWroteBefore (turns_of es) m t (state es m t).own.mbal
    wrote_low m t is_mount is =
        let x : InLow m t (state es m t) = subst (λ ph. Past ph m t (state es m t)) is (kept_at m t is_mount).past in
        record { asked = x.claimed.asked; answered = x.claimed.answered; block = x.claimed.block; wrote = x.claimed.wrote; is = x.claimed.is; before = omega (arith, x.after, x.asked.earlier) }

    pub wrote_high : (m t : ℕ) → m < 16 → (state es m t).phase ≡ GatheringHigh → HasWroteBefore (turns_of es) m t (state es m t).own.mbal
    wrote_high m t is_mount is =
        let x = in_high m t is_mount is in
        record { asked = x.claimed.asked; answered = x.claimed.answered; block = x.claimed.block; wrote = x.claimed.wrote; is = x.claimed.is; before = omega (arith, x.after, x.asked.earlier) }

    -- each value was picked
    pub picks_at : (m t : ℕ) → m < 16 → 0 < (block es m t).bal → Picks m (block es m t).bal (block es m t).value
    picks_at m t is_mount some = subst (PicksIfAny m) (is_at es m t is_mount).own (kept_at m t is_mount).picks some
