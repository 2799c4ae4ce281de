-- The examples, turn by turn.
use Rattle.std.proofs.Common.{◌≡◌, ℕ, zero, suc, List, [], ◌∷◌, ◌++◌, replicate, Some, None, arith, refl, subst}
use Rattle.std.proofs.lemmas.Option.{none-some}
use Rattle.pf_paxos.specs.declared.block.Block.{Block}
use Rattle.pf_paxos.specs.Blocks.{zero_block}
use Rattle.pf_paxos.specs.Registers.{AsksWrite, AsksRead, Written, Gives, Turn, ClientHasRead, half_before, AreRegisters}
use Rattle.pf_paxos.specs.Examples.{half_with, zero_half, claim, proposal}
use Rattle.pf_paxos.specs.Runs.{idle_turn}
use Rattle.pf_paxos.proofs.Atomic.{of_atomic}
use Rattle.pf_paxos.proofs.WorkedProposers.{not_asked, served, write_is_no_read, none_is_no_read}
use Rattle.pf_paxos.specs.Quorums.{turns_on, AreAllRegisters, IsDecidedOver}
use Rattle.pf_paxos.specs.BallotRuns.{At, GetsRead, anchor_history}
use Rattle.pf_paxos.specs.BallotExamples.{silent_events}
use Rattle.pf_paxos.proofs.BallotTold.{told}

-- the turns of an anchor at which mount 1 does its part of a phase
abbrev part_turns : Block → List Turn
part_turns block =
    record { client = 1; reply = None; ask = Some (AsksWrite block) }
    ∷ record { client = 1; reply = Some Written; ask = None }
    ∷ record { client = 1; reply = None; ask = Some (AsksRead 0) }
    ∷ record { client = 1; reply = Some (Gives (half_with block zero_block)); ask = None }
    ∷ record { client = 1; reply = None; ask = Some (AsksRead 1) }
    ∷ record { client = 1; reply = Some (Gives zero_half); ask = None }
    ∷ []

-- and of one at which nothing happens
abbrev idle_turns : ℕ → List Turn
idle_turns n = replicate n idle_turn

abbrev on_0 : List Turn
on_0 = idle_turns 2 ++ part_turns (claim 17) ++ idle_turns 6 ++ part_turns (proposal 17 (7 ∷ [])) ++ idle_turns 6

abbrev on_1 : List Turn
on_1 = idle_turns 8 ++ part_turns (claim 17) ++ idle_turns 6 ++ part_turns (proposal 17 (7 ∷ []))

abbrev on_2 : List Turn
on_2 = idle_turn ∷ record { client = 1; reply = None; ask = Some (AsksWrite (claim 17)) } ∷ idle_turns 24

present_0 : (client half asked answered : ℕ) (blocks : List Block) → ClientHasRead on_0 client half asked answered blocks → blocks ≡ half_before on_0 half answered
present_0 client half zero answered blocks read = absurd (not_asked on_0 client half 0 answered blocks _ read _ refl refl none_is_no_read)
present_0 client half (suc zero) answered blocks read = absurd (not_asked on_0 client half 1 answered blocks _ read _ refl refl none_is_no_read)
present_0 client half (suc (suc zero)) answered blocks read = absurd (not_asked on_0 client half 2 answered blocks _ read _ refl refl write_is_no_read)
present_0 client half (suc (suc (suc zero))) answered blocks read = absurd (not_asked on_0 client half 3 answered blocks _ read _ refl refl none_is_no_read)
present_0 client half (suc (suc (suc (suc zero)))) answered blocks read = served on_0 4 0 _ _ (half_with (claim 17) zero_block) refl refl refl refl refl refl client half answered blocks read
present_0 client half (suc (suc (suc (suc (suc zero))))) answered blocks read = absurd (not_asked on_0 client half 5 answered blocks _ read _ refl refl none_is_no_read)
present_0 client half (suc (suc (suc (suc (suc (suc zero)))))) answered blocks read = served on_0 6 1 _ _ (zero_half) refl refl refl refl refl refl client half answered blocks read
present_0 client half (suc (suc (suc (suc (suc (suc (suc zero))))))) answered blocks read = absurd (not_asked on_0 client half 7 answered blocks _ read _ refl refl none_is_no_read)
present_0 client half (suc (suc (suc (suc (suc (suc (suc (suc zero)))))))) answered blocks read = absurd (not_asked on_0 client half 8 answered blocks _ read _ refl refl none_is_no_read)
present_0 client half (suc (suc (suc (suc (suc (suc (suc (suc (suc zero))))))))) answered blocks read = absurd (not_asked on_0 client half 9 answered blocks _ read _ refl refl none_is_no_read)
present_0 client half (suc (suc (suc (suc (suc (suc (suc (suc (suc (suc zero)))))))))) answered blocks read = absurd (not_asked on_0 client half 10 answered blocks _ read _ refl refl none_is_no_read)
present_0 client half (suc (suc (suc (suc (suc (suc (suc (suc (suc (suc (suc zero))))))))))) answered blocks read = absurd (not_asked on_0 client half 11 answered blocks _ read _ refl refl none_is_no_read)
present_0 client half (suc (suc (suc (suc (suc (suc (suc (suc (suc (suc (suc (suc zero)))))))))))) answered blocks read = absurd (not_asked on_0 client half 12 answered blocks _ read _ refl refl none_is_no_read)
present_0 client half (suc (suc (suc (suc (suc (suc (suc (suc (suc (suc (suc (suc (suc zero))))))))))))) answered blocks read = absurd (not_asked on_0 client half 13 answered blocks _ read _ refl refl none_is_no_read)
present_0 client half (suc (suc (suc (suc (suc (suc (suc (suc (suc (suc (suc (suc (suc (suc zero)))))))))))))) answered blocks read = absurd (not_asked on_0 client half 14 answered blocks _ read _ refl refl write_is_no_read)
present_0 client half (suc (suc (suc (suc (suc (suc (suc (suc (suc (suc (suc (suc (suc (suc (suc zero))))))))))))))) answered blocks read = absurd (not_asked on_0 client half 15 answered blocks _ read _ refl refl none_is_no_read)
present_0 client half (suc (suc (suc (suc (suc (suc (suc (suc (suc (suc (suc (suc (suc (suc (suc (suc zero)))))))))))))))) answered blocks read = served on_0 16 0 _ _ (half_with (proposal 17 (7 ∷ [])) zero_block) refl refl refl refl refl refl client half answered blocks read
present_0 client half (suc (suc (suc (suc (suc (suc (suc (suc (suc (suc (suc (suc (suc (suc (suc (suc (suc zero))))))))))))))))) answered blocks read = absurd (not_asked on_0 client half 17 answered blocks _ read _ refl refl none_is_no_read)
present_0 client half (suc (suc (suc (suc (suc (suc (suc (suc (suc (suc (suc (suc (suc (suc (suc (suc (suc (suc zero)))))))))))))))))) answered blocks read = served on_0 18 1 _ _ (zero_half) refl refl refl refl refl refl client half answered blocks read
present_0 client half (suc (suc (suc (suc (suc (suc (suc (suc (suc (suc (suc (suc (suc (suc (suc (suc (suc (suc (suc zero))))))))))))))))))) answered blocks read = absurd (not_asked on_0 client half 19 answered blocks _ read _ refl refl none_is_no_read)
present_0 client half (suc (suc (suc (suc (suc (suc (suc (suc (suc (suc (suc (suc (suc (suc (suc (suc (suc (suc (suc (suc zero)))))))))))))))))))) answered blocks read = absurd (not_asked on_0 client half 20 answered blocks _ read _ refl refl none_is_no_read)
present_0 client half (suc (suc (suc (suc (suc (suc (suc (suc (suc (suc (suc (suc (suc (suc (suc (suc (suc (suc (suc (suc (suc zero))))))))))))))))))))) answered blocks read = absurd (not_asked on_0 client half 21 answered blocks _ read _ refl refl none_is_no_read)
present_0 client half (suc (suc (suc (suc (suc (suc (suc (suc (suc (suc (suc (suc (suc (suc (suc (suc (suc (suc (suc (suc (suc (suc zero)))))))))))))))))))))) answered blocks read = absurd (not_asked on_0 client half 22 answered blocks _ read _ refl refl none_is_no_read)
present_0 client half (suc (suc (suc (suc (suc (suc (suc (suc (suc (suc (suc (suc (suc (suc (suc (suc (suc (suc (suc (suc (suc (suc (suc zero))))))))))))))))))))))) answered blocks read = absurd (not_asked on_0 client half 23 answered blocks _ read _ refl refl none_is_no_read)
present_0 client half (suc (suc (suc (suc (suc (suc (suc (suc (suc (suc (suc (suc (suc (suc (suc (suc (suc (suc (suc (suc (suc (suc (suc (suc zero)))))))))))))))))))))))) answered blocks read = absurd (not_asked on_0 client half 24 answered blocks _ read _ refl refl none_is_no_read)
present_0 client half (suc (suc (suc (suc (suc (suc (suc (suc (suc (suc (suc (suc (suc (suc (suc (suc (suc (suc (suc (suc (suc (suc (suc (suc (suc zero))))))))))))))))))))))))) answered blocks read = absurd (not_asked on_0 client half 25 answered blocks _ read _ refl refl none_is_no_read)
present_0 client half (suc (suc (suc (suc (suc (suc (suc (suc (suc (suc (suc (suc (suc (suc (suc (suc (suc (suc (suc (suc (suc (suc (suc (suc (suc (suc n)))))))))))))))))))))))))) answered blocks read = absurd (none-some read.turn read.at)

present_1 : (client half asked answered : ℕ) (blocks : List Block) → ClientHasRead on_1 client half asked answered blocks → blocks ≡ half_before on_1 half answered
present_1 client half zero answered blocks read = absurd (not_asked on_1 client half 0 answered blocks _ read _ refl refl none_is_no_read)
present_1 client half (suc zero) answered blocks read = absurd (not_asked on_1 client half 1 answered blocks _ read _ refl refl none_is_no_read)
present_1 client half (suc (suc zero)) answered blocks read = absurd (not_asked on_1 client half 2 answered blocks _ read _ refl refl none_is_no_read)
present_1 client half (suc (suc (suc zero))) answered blocks read = absurd (not_asked on_1 client half 3 answered blocks _ read _ refl refl none_is_no_read)
present_1 client half (suc (suc (suc (suc zero)))) answered blocks read = absurd (not_asked on_1 client half 4 answered blocks _ read _ refl refl none_is_no_read)
present_1 client half (suc (suc (suc (suc (suc zero))))) answered blocks read = absurd (not_asked on_1 client half 5 answered blocks _ read _ refl refl none_is_no_read)
present_1 client half (suc (suc (suc (suc (suc (suc zero)))))) answered blocks read = absurd (not_asked on_1 client half 6 answered blocks _ read _ refl refl none_is_no_read)
present_1 client half (suc (suc (suc (suc (suc (suc (suc zero))))))) answered blocks read = absurd (not_asked on_1 client half 7 answered blocks _ read _ refl refl none_is_no_read)
present_1 client half (suc (suc (suc (suc (suc (suc (suc (suc zero)))))))) answered blocks read = absurd (not_asked on_1 client half 8 answered blocks _ read _ refl refl write_is_no_read)
present_1 client half (suc (suc (suc (suc (suc (suc (suc (suc (suc zero))))))))) answered blocks read = absurd (not_asked on_1 client half 9 answered blocks _ read _ refl refl none_is_no_read)
present_1 client half (suc (suc (suc (suc (suc (suc (suc (suc (suc (suc zero)))))))))) answered blocks read = served on_1 10 0 _ _ (half_with (claim 17) zero_block) refl refl refl refl refl refl client half answered blocks read
present_1 client half (suc (suc (suc (suc (suc (suc (suc (suc (suc (suc (suc zero))))))))))) answered blocks read = absurd (not_asked on_1 client half 11 answered blocks _ read _ refl refl none_is_no_read)
present_1 client half (suc (suc (suc (suc (suc (suc (suc (suc (suc (suc (suc (suc zero)))))))))))) answered blocks read = served on_1 12 1 _ _ (zero_half) refl refl refl refl refl refl client half answered blocks read
present_1 client half (suc (suc (suc (suc (suc (suc (suc (suc (suc (suc (suc (suc (suc zero))))))))))))) answered blocks read = absurd (not_asked on_1 client half 13 answered blocks _ read _ refl refl none_is_no_read)
present_1 client half (suc (suc (suc (suc (suc (suc (suc (suc (suc (suc (suc (suc (suc (suc zero)))))))))))))) answered blocks read = absurd (not_asked on_1 client half 14 answered blocks _ read _ refl refl none_is_no_read)
present_1 client half (suc (suc (suc (suc (suc (suc (suc (suc (suc (suc (suc (suc (suc (suc (suc zero))))))))))))))) answered blocks read = absurd (not_asked on_1 client half 15 answered blocks _ read _ refl refl none_is_no_read)
present_1 client half (suc (suc (suc (suc (suc (suc (suc (suc (suc (suc (suc (suc (suc (suc (suc (suc zero)))))))))))))))) answered blocks read = absurd (not_asked on_1 client half 16 answered blocks _ read _ refl refl none_is_no_read)
present_1 client half (suc (suc (suc (suc (suc (suc (suc (suc (suc (suc (suc (suc (suc (suc (suc (suc (suc zero))))))))))))))))) answered blocks read = absurd (not_asked on_1 client half 17 answered blocks _ read _ refl refl none_is_no_read)
present_1 client half (suc (suc (suc (suc (suc (suc (suc (suc (suc (suc (suc (suc (suc (suc (suc (suc (suc (suc zero)))))))))))))))))) answered blocks read = absurd (not_asked on_1 client half 18 answered blocks _ read _ refl refl none_is_no_read)
present_1 client half (suc (suc (suc (suc (suc (suc (suc (suc (suc (suc (suc (suc (suc (suc (suc (suc (suc (suc (suc zero))))))))))))))))))) answered blocks read = absurd (not_asked on_1 client half 19 answered blocks _ read _ refl refl none_is_no_read)
present_1 client half (suc (suc (suc (suc (suc (suc (suc (suc (suc (suc (suc (suc (suc (suc (suc (suc (suc (suc (suc (suc zero)))))))))))))))))))) answered blocks read = absurd (not_asked on_1 client half 20 answered blocks _ read _ refl refl write_is_no_read)
present_1 client half (suc (suc (suc (suc (suc (suc (suc (suc (suc (suc (suc (suc (suc (suc (suc (suc (suc (suc (suc (suc (suc zero))))))))))))))))))))) answered blocks read = absurd (not_asked on_1 client half 21 answered blocks _ read _ refl refl none_is_no_read)
present_1 client half (suc (suc (suc (suc (suc (suc (suc (suc (suc (suc (suc (suc (suc (suc (suc (suc (suc (suc (suc (suc (suc (suc zero)))))))))))))))))))))) answered blocks read = served on_1 22 0 _ _ (half_with (proposal 17 (7 ∷ [])) zero_block) refl refl refl refl refl refl client half answered blocks read
present_1 client half (suc (suc (suc (suc (suc (suc (suc (suc (suc (suc (suc (suc (suc (suc (suc (suc (suc (suc (suc (suc (suc (suc (suc zero))))))))))))))))))))))) answered blocks read = absurd (not_asked on_1 client half 23 answered blocks _ read _ refl refl none_is_no_read)
present_1 client half (suc (suc (suc (suc (suc (suc (suc (suc (suc (suc (suc (suc (suc (suc (suc (suc (suc (suc (suc (suc (suc (suc (suc (suc zero)))))))))))))))))))))))) answered blocks read = served on_1 24 1 _ _ (zero_half) refl refl refl refl refl refl client half answered blocks read
present_1 client half (suc (suc (suc (suc (suc (suc (suc (suc (suc (suc (suc (suc (suc (suc (suc (suc (suc (suc (suc (suc (suc (suc (suc (suc (suc zero))))))))))))))))))))))))) answered blocks read = absurd (not_asked on_1 client half 25 answered blocks _ read _ refl refl none_is_no_read)
present_1 client half (suc (suc (suc (suc (suc (suc (suc (suc (suc (suc (suc (suc (suc (suc (suc (suc (suc (suc (suc (suc (suc (suc (suc (suc (suc (suc n)))))))))))))))))))))))))) answered blocks read = absurd (none-some read.turn read.at)

present_2 : (client half asked answered : ℕ) (blocks : List Block) → ClientHasRead on_2 client half asked answered blocks → blocks ≡ half_before on_2 half answered
present_2 client half zero answered blocks read = absurd (not_asked on_2 client half 0 answered blocks _ read _ refl refl none_is_no_read)
present_2 client half (suc zero) answered blocks read = absurd (not_asked on_2 client half 1 answered blocks _ read _ refl refl write_is_no_read)
present_2 client half (suc (suc zero)) answered blocks read = absurd (not_asked on_2 client half 2 answered blocks _ read _ refl refl none_is_no_read)
present_2 client half (suc (suc (suc zero))) answered blocks read = absurd (not_asked on_2 client half 3 answered blocks _ read _ refl refl none_is_no_read)
present_2 client half (suc (suc (suc (suc zero)))) answered blocks read = absurd (not_asked on_2 client half 4 answered blocks _ read _ refl refl none_is_no_read)
present_2 client half (suc (suc (suc (suc (suc zero))))) answered blocks read = absurd (not_asked on_2 client half 5 answered blocks _ read _ refl refl none_is_no_read)
present_2 client half (suc (suc (suc (suc (suc (suc zero)))))) answered blocks read = absurd (not_asked on_2 client half 6 answered blocks _ read _ refl refl none_is_no_read)
present_2 client half (suc (suc (suc (suc (suc (suc (suc zero))))))) answered blocks read = absurd (not_asked on_2 client half 7 answered blocks _ read _ refl refl none_is_no_read)
present_2 client half (suc (suc (suc (suc (suc (suc (suc (suc zero)))))))) answered blocks read = absurd (not_asked on_2 client half 8 answered blocks _ read _ refl refl none_is_no_read)
present_2 client half (suc (suc (suc (suc (suc (suc (suc (suc (suc zero))))))))) answered blocks read = absurd (not_asked on_2 client half 9 answered blocks _ read _ refl refl none_is_no_read)
present_2 client half (suc (suc (suc (suc (suc (suc (suc (suc (suc (suc zero)))))))))) answered blocks read = absurd (not_asked on_2 client half 10 answered blocks _ read _ refl refl none_is_no_read)
present_2 client half (suc (suc (suc (suc (suc (suc (suc (suc (suc (suc (suc zero))))))))))) answered blocks read = absurd (not_asked on_2 client half 11 answered blocks _ read _ refl refl none_is_no_read)
present_2 client half (suc (suc (suc (suc (suc (suc (suc (suc (suc (suc (suc (suc zero)))))))))))) answered blocks read = absurd (not_asked on_2 client half 12 answered blocks _ read _ refl refl none_is_no_read)
present_2 client half (suc (suc (suc (suc (suc (suc (suc (suc (suc (suc (suc (suc (suc zero))))))))))))) answered blocks read = absurd (not_asked on_2 client half 13 answered blocks _ read _ refl refl none_is_no_read)
present_2 client half (suc (suc (suc (suc (suc (suc (suc (suc (suc (suc (suc (suc (suc (suc zero)))))))))))))) answered blocks read = absurd (not_asked on_2 client half 14 answered blocks _ read _ refl refl none_is_no_read)
present_2 client half (suc (suc (suc (suc (suc (suc (suc (suc (suc (suc (suc (suc (suc (suc (suc zero))))))))))))))) answered blocks read = absurd (not_asked on_2 client half 15 answered blocks _ read _ refl refl none_is_no_read)
present_2 client half (suc (suc (suc (suc (suc (suc (suc (suc (suc (suc (suc (suc (suc (suc (suc (suc zero)))))))))))))))) answered blocks read = absurd (not_asked on_2 client half 16 answered blocks _ read _ refl refl none_is_no_read)
present_2 client half (suc (suc (suc (suc (suc (suc (suc (suc (suc (suc (suc (suc (suc (suc (suc (suc (suc zero))))))))))))))))) answered blocks read = absurd (not_asked on_2 client half 17 answered blocks _ read _ refl refl none_is_no_read)
present_2 client half (suc (suc (suc (suc (suc (suc (suc (suc (suc (suc (suc (suc (suc (suc (suc (suc (suc (suc zero)))))))))))))))))) answered blocks read = absurd (not_asked on_2 client half 18 answered blocks _ read _ refl refl none_is_no_read)
present_2 client half (suc (suc (suc (suc (suc (suc (suc (suc (suc (suc (suc (suc (suc (suc (suc (suc (suc (suc (suc zero))))))))))))))))))) answered blocks read = absurd (not_asked on_2 client half 19 answered blocks _ read _ refl refl none_is_no_read)
present_2 client half (suc (suc (suc (suc (suc (suc (suc (suc (suc (suc (suc (suc (suc (suc (suc (suc (suc (suc (suc (suc zero)))))))))))))))))))) answered blocks read = absurd (not_asked on_2 client half 20 answered blocks _ read _ refl refl none_is_no_read)
present_2 client half (suc (suc (suc (suc (suc (suc (suc (suc (suc (suc (suc (suc (suc (suc (suc (suc (suc (suc (suc (suc (suc zero))))))))))))))))))))) answered blocks read = absurd (not_asked on_2 client half 21 answered blocks _ read _ refl refl none_is_no_read)
present_2 client half (suc (suc (suc (suc (suc (suc (suc (suc (suc (suc (suc (suc (suc (suc (suc (suc (suc (suc (suc (suc (suc (suc zero)))))))))))))))))))))) answered blocks read = absurd (not_asked on_2 client half 22 answered blocks _ read _ refl refl none_is_no_read)
present_2 client half (suc (suc (suc (suc (suc (suc (suc (suc (suc (suc (suc (suc (suc (suc (suc (suc (suc (suc (suc (suc (suc (suc (suc zero))))))))))))))))))))))) answered blocks read = absurd (not_asked on_2 client half 23 answered blocks _ read _ refl refl none_is_no_read)
present_2 client half (suc (suc (suc (suc (suc (suc (suc (suc (suc (suc (suc (suc (suc (suc (suc (suc (suc (suc (suc (suc (suc (suc (suc (suc zero)))))))))))))))))))))))) answered blocks read = absurd (not_asked on_2 client half 24 answered blocks _ read _ refl refl none_is_no_read)
present_2 client half (suc (suc (suc (suc (suc (suc (suc (suc (suc (suc (suc (suc (suc (suc (suc (suc (suc (suc (suc (suc (suc (suc (suc (suc (suc zero))))))))))))))))))))))))) answered blocks read = absurd (not_asked on_2 client half 25 answered blocks _ read _ refl refl none_is_no_read)
present_2 client half (suc (suc (suc (suc (suc (suc (suc (suc (suc (suc (suc (suc (suc (suc (suc (suc (suc (suc (suc (suc (suc (suc (suc (suc (suc (suc n)))))))))))))))))))))))))) answered blocks read = absurd (none-some read.turn read.at)

same_0 : on_0 ≡ turns_on 0 (anchor_history 3 2 silent_events)
same_0 = refl

same_1 : on_1 ≡ turns_on 1 (anchor_history 3 2 silent_events)
same_1 = refl

same_2 : on_2 ≡ turns_on 2 (anchor_history 3 2 silent_events)
same_2 = refl

pub silent_registers : AreAllRegisters 3 (anchor_history 3 2 silent_events)
silent_registers zero low = subst AreRegisters same_0 (of_atomic on_0 (record { present = present_0 }))
silent_registers (suc zero) low = subst AreRegisters same_1 (of_atomic on_1 (record { present = present_1 }))
silent_registers (suc (suc zero)) low = subst AreRegisters same_2 (of_atomic on_2 (record { present = present_2 }))
silent_registers (suc (suc (suc n))) low = absurd (omega (arith, low))

pub silent_decided : IsDecidedOver 3 2 (anchor_history 3 2 silent_events) 25 (7 ∷ [])
silent_decided = told 3 2 silent_events 25 1 (At 1 (GetsRead zero_half)) _ (7 ∷ []) refl refl refl
