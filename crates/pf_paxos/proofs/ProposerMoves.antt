-- The moves of a proposer, one by one, and what the best of some blocks is.
use Rattle.std.proofs.Common.{◌≡◌, ℕ, zero, suc, ◌≤◌, ◌⊎◌, inl, inr, true, false, cond, nat_lt, max, List, [], ◌∷◌, Option, Some, None, slice_get, arith, refl, sym, ap, subst, ◌∙◌}
use Rattle.std.proofs.lemmas.Bool.{cases_Bool, cond-true, cond-false, ltb-true, ltb-false}
use Rattle.std.proofs.lemmas.Option.{same_Some}
use Rattle.pf_paxos.specs.declared.block.Block.{Block}
use Rattle.pf_paxos.specs.declared.proposer.Next.TheVariants.{Write, Read, Decided}
use Rattle.pf_paxos.specs.declared.proposer.ProposerPhase.{ProposerPhase}
use Rattle.pf_paxos.specs.declared.proposer.ProposerPhase.TheVariants.{Idle, Claiming, GatheringLow, GatheringHigh, Proposing, ConfirmingLow, ConfirmingHigh}
use Rattle.pf_paxos.specs.Blocks.{greatest_mbal, best_of}
use Rattle.pf_paxos.specs.Proposers.{ProposerIs, ProposerOutcome, started, claimed, proposer_proposed, proposer_aborted, is_outrun, proposal_of}
use Rattle.pf_paxos.specs.Registers.{Written, Gives, asked_or}
use Rattle.pf_paxos.specs.Runs.{ProposerCall, Starts, IsWritten, IsRead, Move, ask_of_next, move_in}

-- phase 1 runs
abbrev pub IsFirst : ProposerPhase → Type 0
IsFirst Claiming = Unit {0}
IsFirst GatheringLow = Unit {0}
IsFirst GatheringHigh = Unit {0}
IsFirst _ = ⊥

-- phase 1 does not run after it, and the own block is what it was
pub record IsRest (p : ProposerIs) (o : ProposerOutcome) : Type 0 where
  pub mount : o.proposer.mount ≡ p.mount
  pub own : o.proposer.own ≡ p.own
  pub no_write : asked_or p.own (ask_of_next o.next) ≡ p.own
  pub rests : IsFirst o.proposer.phase → ⊥

abbrev pub gone_low : ProposerIs → List Block → ProposerOutcome
gone_low p blocks = record { proposer = record p { best = best_of p.best blocks; phase = GatheringHigh }; next = Read 1 }

abbrev pub gone_high : ProposerIs → List Block → ProposerOutcome
gone_high p blocks = record {
  proposer = record p { own = proposal_of p (best_of p.best blocks); best = best_of p.best blocks; phase = Proposing };
  next = Write (proposal_of p (best_of p.best blocks));
}

pub data IsMove (p : ProposerIs) : Move → Type 0 where
  ByStart : p.phase ≡ Idle → (above : ℕ) (input : Option (List ℕ)) → IsMove p (record { reply = None; outcome = started p above input })
  ByClaim : p.phase ≡ Claiming → IsMove p (record { reply = Some Written; outcome = claimed p })
  ByLow : p.phase ≡ GatheringLow → (blocks : List Block) → greatest_mbal blocks ≤ p.own.mbal → IsMove p (record { reply = Some (Gives blocks); outcome = gone_low p blocks })
  ByHigh : p.phase ≡ GatheringHigh → (blocks : List Block) → greatest_mbal blocks ≤ p.own.mbal → IsMove p (record { reply = Some (Gives blocks); outcome = gone_high p blocks })
  ByRest : (move : Move) → IsRest p move.outcome → IsMove p move

-- a read that ends the ballot or lets it go on
by_read : (p : ProposerIs) (blocks : List Block) (on : ProposerOutcome) (move : Move) → record { reply = Some (Gives blocks); outcome = cond (is_outrun p blocks) (proposer_aborted p blocks) on } ≡ move → (greatest_mbal blocks ≤ p.own.mbal → IsMove p (record { reply = Some (Gives blocks); outcome = on })) → IsMove p move
by_read p blocks on move is goes =
    elim (cases_Bool (is_outrun p blocks)) [
      | inl outrun ↦ subst (IsMove p) (ap (λ o. record { reply = Some (Gives blocks); outcome = o }) (sym (cond-true (is_outrun p blocks) (proposer_aborted p blocks) on outrun)) ∙ is) (ByRest (record { reply = Some (Gives blocks); outcome = proposer_aborted p blocks }) (record { mount = refl; own = refl; no_write = refl; rests = λ x. x }))
      | inr first ↦ subst (IsMove p) (ap (λ o. record { reply = Some (Gives blocks); outcome = o }) (sym (cond-false (is_outrun p blocks) (proposer_aborted p blocks) on first)) ∙ is) (goes (ltb-false p.own.mbal (greatest_mbal blocks) first))
    ]

pub is_move : (p : ProposerIs) (phase : ProposerPhase) (call : ProposerCall) (move : Move) → p.phase ≡ phase → move_in phase p call ≡ Some move → IsMove p move
is_move p Idle (Starts above input) move at is = subst (IsMove p) (same_Some _ _ is) (ByStart at above input)
is_move p Claiming IsWritten move at is = subst (IsMove p) (same_Some _ _ is) (ByClaim at)
is_move p GatheringLow (IsRead blocks) move at is = by_read p blocks (gone_low p blocks) move (same_Some _ _ is) (λ low. ByLow at blocks low)
is_move p GatheringHigh (IsRead blocks) move at is = by_read p blocks (gone_high p blocks) move (same_Some _ _ is) (λ low. ByHigh at blocks low)
is_move p Proposing IsWritten move at is = subst (IsMove p) (same_Some _ _ is) (ByRest (record { reply = Some Written; outcome = proposer_proposed p }) (record { mount = refl; own = refl; no_write = refl; rests = λ x. x }))
is_move p ConfirmingLow (IsRead blocks) move at is = by_read p blocks (record { proposer = record p { phase = ConfirmingHigh }; next = Read 1 }) move (same_Some _ _ is) (λ _. ByRest _ (record { mount = refl; own = refl; no_write = refl; rests = λ x. x }))
is_move p ConfirmingHigh (IsRead blocks) move at is = by_read p blocks (record { proposer = record p { phase = Idle }; next = Decided p.own.value }) move (same_Some _ _ is) (λ _. ByRest _ (record { mount = refl; own = refl; no_write = refl; rests = λ x. x }))
is_move p phase call move at is = absurd (grind (arith, is))

-- no mbal is above the greatest
pub mbal_low : (blocks : List Block) (k : ℕ) (b : Block) → slice_get blocks k ≡ Some b → b.mbal ≤ greatest_mbal blocks
mbal_low [] k b is = absurd (grind (arith, is))
mbal_low (x ∷ xs) zero b is = subst (λ y. y.mbal ≤ max x.mbal (greatest_mbal xs)) (same_Some x b is) (omega arith)
mbal_low (x ∷ xs) (suc k) b is = omega (arith, mbal_low xs k b is)

-- the best of a block and some more
pub record IsBest (best : Block) (blocks : List Block) (r : Block) : Type 0 where
  pub not_below : best.bal ≤ r.bal
  pub not_below_these : (k : ℕ) (b : Block) → slice_get blocks k ≡ Some b → b.bal ≤ r.bal
  pub one : (r ≡ best) ⊎ ((k : ℕ) × (slice_get blocks k ≡ Some r))

one_more : (best x : Block) (xs : List Block) → IsBest x xs (best_of x xs) → IsBest best xs (best_of best xs) → IsBest best (x ∷ xs) (best_of (cond (nat_lt best.bal x.bal) x best) xs)
one_more best x xs from_x from_best = more (cases_Bool (nat_lt best.bal x.bal))
  where
    shifted : {r : Block} → (k : ℕ) × (slice_get xs k ≡ Some r) → (k : ℕ) × (slice_get (x ∷ xs) k ≡ Some r)
    shifted p = (suc p.0, p.1)

    these : (r : Block) → x.bal ≤ r.bal → ((k : ℕ) (b : Block) → slice_get xs k ≡ Some b → b.bal ≤ r.bal) → (k : ℕ) (b : Block) → slice_get (x ∷ xs) k ≡ Some b → b.bal ≤ r.bal
    these r low rest zero b is = subst (λ y. y.bal ≤ r.bal) (same_Some x b is) low
    these r low rest (suc k) b is = rest k b is

    more : (nat_lt best.bal x.bal ≡ true) ⊎ (nat_lt best.bal x.bal ≡ false) → IsBest best (x ∷ xs) (best_of (cond (nat_lt best.bal x.bal) x best) xs)
    more (inl greater) =
        let less = ltb-true best.bal x.bal greater in
        subst (λ y. IsBest best (x ∷ xs) (best_of y xs)) (sym (cond-true (nat_lt best.bal x.bal) x best greater)) (record {
          not_below = omega (arith, less, from_x.not_below);
          not_below_these = these (best_of x xs) from_x.not_below from_x.not_below_these;
          one = elim from_x.one [ inl first ↦ inr (0, ap (λ (y : Block). Some y) (sym first)) | inr there ↦ inr (shifted there) ];
        })
    more (inr not_greater) =
        let low = ltb-false best.bal x.bal not_greater in
        subst (λ y. IsBest best (x ∷ xs) (best_of y xs)) (sym (cond-false (nat_lt best.bal x.bal) x best not_greater)) (record {
          not_below = from_best.not_below;
          not_below_these = these (best_of best xs) (omega (arith, low, from_best.not_below)) from_best.not_below_these;
          one = elim from_best.one [ inl same ↦ inl same | inr there ↦ inr (shifted there) ];
        })

pub best_is : (best : Block) (blocks : List Block) → IsBest best blocks (best_of best blocks)
best_is best [] = record { not_below = omega arith; not_below_these = λ k b is. absurd (grind (arith, is)); one = inl refl }
best_is best (x ∷ xs) = one_more best x xs (best_is x xs) (best_is best xs)
