-- What an anchor's part of a phase says of what was asked and answered there.
use Rattle.std.proofs.Common.{◌≡◌, ℕ, suc, ◌<◌, ◌≤◌, ◌≢◌, Bool, true, false, List, Some, None, slice_get, arith, refl, subst}
use Rattle.pf_paxos.specs.declared.block.Block.{Block}
use Rattle.pf_paxos.specs.Blocks.{greatest_mbal, best_of}
use Rattle.pf_paxos.specs.Registers.{AsksWrite, AsksRead, Written, Gives, Turn, HasWritten, ClientHasRead}
use Rattle.pf_paxos.proofs.ClientAsks.{HasAsked, asked_now, answered_now, still_asked}
use Rattle.pf_paxos.proofs.ProposerMoves.{mbal_low, best_is}
use Rattle.pf_paxos.specs.declared.parts.AnchorAsk.{AnchorAsk}
use Rattle.pf_paxos.specs.declared.parts.AnchorAsk.TheVariants.{Nothing, OwnBlock, Half}
use Rattle.pf_paxos.specs.declared.parts.AnchorNext.TheVariants.{Write, Read}
use Rattle.pf_paxos.specs.declared.parts.Stage.{Stage}
use Rattle.pf_paxos.specs.declared.parts.Stage.TheVariants.{Writes, ReadsLow, ReadsHigh, Done}
use Rattle.pf_paxos.specs.Parts.{next_where, part_written, stage_after}

module _ (h : List Turn) (m : ℕ) where
  -- the own block was written
  pub record HasWroteIt (t : ℕ) (own : Block) : Type 0 where
    pub asked : ℕ
    pub answered : ℕ
    pub wrote : HasWritten h m asked answered own
    pub before : answered < t

  -- then a half was read
  pub record HasLooked (t half from ballot best : ℕ) : Type 0 where
    pub asked : ℕ
    pub answered : ℕ
    pub blocks : List Block
    pub read : ClientHasRead h m half asked answered blocks
    pub after : from ≤ asked
    pub before : answered < t
    pub none_above : (k : ℕ) (b : Block) → slice_get blocks k ≡ Some b → b.mbal ≤ ballot
    pub not_above : (k : ℕ) (b : Block) → slice_get blocks k ≡ Some b → b.bal ≤ best

  pub record LowDone (t : ℕ) (own : Block) (best : ℕ) : Type 0 where
    pub wrote : HasWroteIt t own
    pub low : HasLooked t 0 wrote.answered own.mbal best

  pub record AllDone (t : ℕ) (own : Block) (best : ℕ) : Type 0 where
    pub wrote : HasWroteIt t own
    pub low : HasLooked t 0 wrote.answered own.mbal best
    pub high : HasLooked t 1 wrote.answered own.mbal best

  pub record LowAsked (t : ℕ) (own : Block) (half : ℕ) : Type 0 where
    pub wrote : HasWroteIt t own
    pub is : half ≡ 0
    pub asked : HasAsked h m t (AsksRead half)
    pub after : wrote.answered ≤ asked.last

  pub record HighAsked (t : ℕ) (own : Block) (best half : ℕ) : Type 0 where
    pub wrote : HasWroteIt t own
    pub low : HasLooked t 0 wrote.answered own.mbal best
    pub is : half ≡ 1
    pub asked : HasAsked h m t (AsksRead half)
    pub after : wrote.answered ≤ asked.last

  -- by what the part waits for, and what is asked in time
  abbrev pub Kept : (late : Bool) → Stage → AnchorAsk → (t : ℕ) → (own : Block) → (best : ℕ) → Type 0
  Kept true Writes asked t own best = Unit {0}
  Kept true _ asked t own best = ⊥
  Kept false Writes Nothing t own best = Unit {0}
  Kept false Writes OwnBlock t own best = HasAsked h m t (AsksWrite own)
  Kept false Writes (Half half) t own best = ⊥
  Kept false ReadsLow Nothing t own best = HasWroteIt t own
  Kept false ReadsLow (Half half) t own best = LowAsked t own half
  Kept false ReadsLow OwnBlock t own best = ⊥
  Kept false ReadsHigh Nothing t own best = LowDone t own best
  Kept false ReadsHigh (Half half) t own best = HighAsked t own best half
  Kept false ReadsHigh OwnBlock t own best = ⊥
  Kept false Done Nothing t own best = AllDone t own best
  Kept false Done (Half half) t own best = ⊥
  Kept false Done OwnBlock t own best = ⊥

  wrote_still : (t : ℕ) (own : Block) → HasWroteIt t own → HasWroteIt (suc t) own
  wrote_still t own w = record { asked = w.asked; answered = w.answered; wrote = w.wrote; before = omega (arith, w.before) }

  looked_still : (t half from ballot best more : ℕ) → best ≤ more → HasLooked t half from ballot best → HasLooked (suc t) half from ballot more
  looked_still t half from ballot best more le l = record { asked = l.asked; answered = l.answered; blocks = l.blocks; read = l.read; after = l.after; before = omega (arith, l.before); none_above = l.none_above; not_above = λ k b at. omega (arith, l.not_above k b at, le) }

  -- nothing happens to the mount here
  module _ (t : ℕ) (quiet : (x : Turn) → slice_get h t ≡ Some x → x.client ≢ m) (own : Block) (best : ℕ) where
    pub kept_still : (late : Bool) (stage : Stage) (asked : AnchorAsk) → Kept late stage asked t own best → Kept late stage asked (suc t) own best
    unfolding still_asked wrote_still
    kept_still true Writes asked x = tt
    kept_still true ReadsLow asked x = absurd x
    kept_still true ReadsHigh asked x = absurd x
    kept_still true Done asked x = absurd x
    kept_still false Writes Nothing x = tt
    kept_still false Writes OwnBlock x = still_asked h m t quiet _ x
    kept_still false Writes (Half half) x = absurd x
    kept_still false ReadsLow Nothing x = wrote_still t own x
    kept_still false ReadsLow (Half half) x = record { wrote = record { asked = x.wrote.asked; answered = x.wrote.answered; wrote = x.wrote.wrote; before = omega (arith, x.wrote.before) }; is = x.is; asked = still_asked h m t quiet _ x.asked; after = x.after }
    kept_still false ReadsLow OwnBlock x = absurd x
    kept_still false ReadsHigh Nothing x = record { wrote = record { asked = x.wrote.asked; answered = x.wrote.answered; wrote = x.wrote.wrote; before = omega (arith, x.wrote.before) }; low = looked_still t 0 x.wrote.answered own.mbal best best (omega arith) x.low }
    kept_still false ReadsHigh (Half half) x = record { wrote = record { asked = x.wrote.asked; answered = x.wrote.answered; wrote = x.wrote.wrote; before = omega (arith, x.wrote.before) }; low = looked_still t 0 x.wrote.answered own.mbal best best (omega arith) x.low; is = x.is; asked = still_asked h m t quiet _ x.asked; after = x.after }
    kept_still false ReadsHigh OwnBlock x = absurd x
    kept_still false Done Nothing x = record { wrote = record { asked = x.wrote.asked; answered = x.wrote.answered; wrote = x.wrote.wrote; before = omega (arith, x.wrote.before) }; low = looked_still t 0 x.wrote.answered own.mbal best best (omega arith) x.low; high = looked_still t 1 x.wrote.answered own.mbal best best (omega arith) x.high }
    kept_still false Done (Half half) x = absurd x
    kept_still false Done OwnBlock x = absurd x

  -- a write is asked
  pub kept_write : (t : ℕ) (own b : Block) (best : ℕ) → slice_get h t ≡ Some (record { client = m; reply = None; ask = Some (AsksWrite b) }) → (late : Bool) (stage : Stage) (asked : AnchorAsk) → next_where asked stage own ≡ Write b → Kept late stage asked t own best → Kept false stage OwnBlock (suc t) own best
  unfolding asked_now
  kept_write t own b best now late Writes Nothing is x = let same : b ≡ own = cc in subst (λ c. HasAsked h m (suc t) (AsksWrite c)) same (asked_now h m t _ (AsksWrite b) now refl refl)
  kept_write t own b best now late ReadsLow Nothing is x = absurd (grind (arith, is))
  kept_write t own b best now late ReadsHigh Nothing is x = absurd (grind (arith, is))
  kept_write t own b best now late Done Nothing is x = absurd (grind (arith, is))
  kept_write t own b best now late stage OwnBlock is x = absurd (grind (arith, is))
  kept_write t own b best now late stage (Half c) is x = absurd (grind (arith, is))

  -- a read is asked
  pub kept_read : (t : ℕ) (own : Block) (half best : ℕ) → slice_get h t ≡ Some (record { client = m; reply = None; ask = Some (AsksRead half) }) → (late : Bool) (stage : Stage) (asked : AnchorAsk) → next_where asked stage own ≡ Read half → Kept late stage asked t own best → Kept false stage (Half half) (suc t) own best
  unfolding asked_now
  kept_read t own half best now late Writes Nothing is x = absurd (grind (arith, is))
  kept_read t own half best now true ReadsLow Nothing is x = absurd x
  kept_read t own half best now false ReadsLow Nothing is x = record { wrote = record { asked = x.asked; answered = x.answered; wrote = x.wrote; before = omega (arith, x.before) }; is = cc; asked = asked_now h m t _ (AsksRead half) now refl refl; after = omega (arith, x.before) }
  kept_read t own half best now true ReadsHigh Nothing is x = absurd x
  kept_read t own half best now false ReadsHigh Nothing is x = record { wrote = record { asked = x.wrote.asked; answered = x.wrote.answered; wrote = x.wrote.wrote; before = omega (arith, x.wrote.before) }; low = looked_still t 0 x.wrote.answered own.mbal best best (omega arith) x.low; is = cc; asked = asked_now h m t _ (AsksRead half) now refl refl; after = omega (arith, x.wrote.before) }
  kept_read t own half best now late Done Nothing is x = absurd (grind (arith, is))
  kept_read t own half best now late stage OwnBlock is x = absurd (grind (arith, is))
  kept_read t own half best now late stage (Half c) is x = absurd (grind (arith, is))

  -- an answer to an ask of an earlier phase
  pub kept_freed : (t : ℕ) (own : Block) (best : ℕ) (stage : Stage) (asked : AnchorAsk) → Kept true stage asked t own best → Kept true stage Nothing (suc t) own best
  kept_freed t own best Writes asked x = tt
  kept_freed t own best ReadsLow asked x = absurd x
  kept_freed t own best ReadsHigh asked x = absurd x
  kept_freed t own best Done asked x = absurd x

  -- the write is answered
  pub kept_written : (t : ℕ) (own best : Block) → slice_get h t ≡ Some (record { client = m; reply = Some Written; ask = None }) → (late : Bool) (stage : Stage) → Kept late stage OwnBlock t own best.bal → (let part = part_written (record { stage = stage; asked = OwnBlock; is_late = late; best = best }) in Kept part.is_late part.stage part.asked (suc t) own part.best.bal)
  kept_written t own best now true stage x = kept_freed t own best.bal stage OwnBlock x
  kept_written t own best now false Writes x = record { asked = x.last; answered = t; wrote = answered_now h m t _ (AsksWrite own) Written x now refl refl; before = omega arith }
  kept_written t own best now false ReadsLow x = absurd x
  kept_written t own best now false ReadsHigh x = absurd x
  kept_written t own best now false Done x = absurd x

  -- a read is answered in time
  module _ (t : ℕ) (own best : Block) (blocks : List Block) (now : slice_get h t ≡ Some (record { client = m; reply = Some (Gives blocks); ask = None })) (none : greatest_mbal blocks ≤ own.mbal) where
    looked_now : (half wanted from : ℕ) → half ≡ wanted → (a : HasAsked h m t (AsksRead half)) → from ≤ a.last → HasLooked (suc t) wanted from own.mbal (best_of best blocks).bal
    looked_now half wanted from is a after = record {
      asked = a.last;
      answered = t;
      blocks = blocks;
      read = subst (λ k. ClientHasRead h m k a.last t blocks) is (answered_now h m t _ (AsksRead half) (Gives blocks) a now refl refl);
      after = after;
      before = omega arith;
      none_above = λ k b at. omega (arith, mbal_low blocks k b at, none);
      not_above = (best_is best blocks).not_below_these;
    }

    pub kept_advanced : (half : ℕ) (stage : Stage) → Kept false stage (Half half) t own best.bal → Kept false (stage_after stage) Nothing (suc t) own (best_of best blocks).bal
    kept_advanced half Writes x = absurd x
    kept_advanced half ReadsLow x = record { wrote = record { asked = x.wrote.asked; answered = x.wrote.answered; wrote = x.wrote.wrote; before = omega (arith, x.wrote.before) }; low = looked_now half 0 x.wrote.answered x.is x.asked x.after }
    kept_advanced half ReadsHigh x = record { wrote = record { asked = x.wrote.asked; answered = x.wrote.answered; wrote = x.wrote.wrote; before = omega (arith, x.wrote.before) }; low = looked_still t 0 x.wrote.answered own.mbal best.bal (best_of best blocks).bal (best_is best blocks).not_below x.low; high = looked_now half 1 x.wrote.answered x.is x.asked x.after }
    kept_advanced half Done x = absurd x

  -- a part that is done
  pub kept_done : (t : ℕ) (own : Block) (best : ℕ) (late : Bool) (asked : AnchorAsk) → Kept late Done asked t own best → AllDone t own best
  kept_done t own best true asked x = absurd x
  kept_done t own best false Nothing x = x
  kept_done t own best false OwnBlock x = absurd x
  kept_done t own best false (Half half) x = absurd x
