-- The example, turn by turn.
use Rattle.std.proofs.Common.{◌≡◌, ℕ, zero, suc, ◌<◌, ◌≢◌, ◌⊎◌, inl, inr, List, [], ◌∷◌, Option, Some, None, slice_get, arith, refl, sym, ap, ◌∙◌}
use Rattle.std.proofs.lemmas.Bool.{cases_order}
use Rattle.std.proofs.lemmas.Option.{same_Some, none-some}
use Rattle.pf_paxos.specs.declared.block.Block.{Block}
use Rattle.pf_paxos.specs.Registers.{Ask, AsksWrite, AsksRead, Gives, Turn, ClientHasRead, half_before, IsAtomic, AreRegisters}
use Rattle.pf_paxos.specs.Runs.{IsRead, turns_of}
use Rattle.pf_paxos.specs.Deciding.{IsDecided}
use Rattle.pf_paxos.specs.Examples.{found_events, half_with, zero_half, claim, proposal}
use Rattle.pf_paxos.specs.Blocks.{zero_block}
use Rattle.pf_paxos.proofs.Atomic.{of_atomic}
use Rattle.pf_paxos.proofs.SyncReads.{told}

-- no read was asked at this moment
pub not_asked : (history : List Turn) (client half asked answered : ℕ) (blocks : List Block) (o : Option Ask) → ClientHasRead history client half asked answered blocks → (x : Turn) → slice_get history asked ≡ Some x → x.ask ≡ o → ((h : ℕ) → o ≢ Some (AsksRead h)) → ⊥
not_asked history client half asked answered blocks o read x at is none =
    none half (sym is ∙ ap (λ (t : Turn). t.ask) (same_Some _ _ (sym at ∙ read.at)) ∙ read.asks)

-- the client's next turn follows at once, and is answered with the present blocks
pub served : (history : List Turn) (asked half : ℕ) (x y : Turn) (given : List Block) → slice_get history asked ≡ Some x → x.ask ≡ Some (AsksRead half) → slice_get history (suc asked) ≡ Some y → y.client ≡ x.client → y.reply ≡ Some (Gives given) → given ≡ half_before history half (suc asked) → (client other answered : ℕ) (blocks : List Block) → ClientHasRead history client other asked answered blocks → blocks ≡ half_before history other answered
served history asked half x y given at asks at_next same_client gives present client other answered blocks read =
    let same : x ≡ read.turn = same_Some _ _ (sym at ∙ read.at) in
    let of_client : y.client ≡ client = same_client ∙ ap (λ (t : Turn). t.client) same ∙ read.its in
    let of_half : half ≡ other = same_half (same_Some _ _ (sym asks ∙ ap (λ (t : Turn). t.ask) same ∙ read.asks)) in
    let next : suc asked ≡ answered = follows of_client (cases_order (suc asked) answered) in
    let same_next : y ≡ read.next = same_Some _ _ (sym at_next ∙ ap (slice_get history) next ∙ read.at_next) in
    let of_blocks : given ≡ blocks = same_blocks (same_Some _ _ (sym gives ∙ ap (λ (t : Turn). t.reply) same_next ∙ read.gives)) in
    sym of_blocks ∙ present ∙ ap (λ h. half_before history h (suc asked)) of_half ∙ ap (half_before history other) next
  where
    same_half : {a b : ℕ} → AsksRead a ≡ AsksRead b → a ≡ b
    same_half e = cc

    same_blocks : {a b : List Block} → Gives a ≡ Gives b → a ≡ b
    same_blocks e = cc

    follows : y.client ≡ client → (suc asked ≡ answered) ⊎ ((suc asked < answered) ⊎ (answered < suc asked)) → suc asked ≡ answered
    follows of_client (inl same) = same
    follows of_client (inr (inl before)) = absurd (read.no_other (suc asked) y (omega arith) before at_next of_client)
    follows of_client (inr (inr past)) = absurd (omega (arith, past, read.later))

abbrev found : List Turn
found = turns_of found_events

pub write_is_no_read : {b : Block} → (h : ℕ) → Some (AsksWrite b) ≢ Some (AsksRead h)
write_is_no_read h e = cc

pub none_is_no_read : (h : ℕ) → ◌≢◌ {A = Option Ask} None (Some (AsksRead h))
none_is_no_read h e = cc

found_atomic : IsAtomic found
found_atomic = record { present = present }
  where
    present : (client half asked answered : ℕ) (blocks : List Block) → ClientHasRead found client half asked answered blocks → blocks ≡ half_before found half answered
    present client half zero answered blocks read = absurd (not_asked found client half 0 answered blocks _ read _ refl refl write_is_no_read)
    present client half (suc zero) answered blocks read = served found 1 0 _ _ (half_with (claim 17) zero_block) refl refl refl refl refl refl client half answered blocks read
    present client half (suc (suc zero)) answered blocks read = served found 2 1 _ _ zero_half refl refl refl refl refl refl client half answered blocks read
    present client half (suc (suc (suc zero))) answered blocks read = absurd (not_asked found client half 3 answered blocks _ read _ refl refl write_is_no_read)
    present client half (suc (suc (suc (suc zero)))) answered blocks read = absurd (not_asked found client half 4 answered blocks _ read _ refl refl write_is_no_read)
    present client half (suc (suc (suc (suc (suc zero))))) answered blocks read = served found 5 0 _ _ (half_with (proposal 17 (7 ∷ [])) (claim 18)) refl refl refl refl refl refl client half answered blocks read
    present client half (suc (suc (suc (suc (suc (suc zero)))))) answered blocks read = served found 6 1 _ _ zero_half refl refl refl refl refl refl client half answered blocks read
    present client half (suc (suc (suc (suc (suc (suc (suc zero))))))) answered blocks read = absurd (not_asked found client half 7 answered blocks _ read _ refl refl write_is_no_read)
    present client half (suc (suc (suc (suc (suc (suc (suc (suc zero)))))))) answered blocks read = served found 8 0 _ _ (half_with (proposal 17 (7 ∷ [])) (proposal 18 (7 ∷ []))) refl refl refl refl refl refl client half answered blocks read
    present client half (suc (suc (suc (suc (suc (suc (suc (suc (suc zero))))))))) answered blocks read = served found 9 1 _ _ zero_half refl refl refl refl refl refl client half answered blocks read
    present client half (suc (suc (suc (suc (suc (suc (suc (suc (suc (suc zero)))))))))) answered blocks read = absurd (not_asked found client half 10 answered blocks _ read _ refl refl none_is_no_read)
    present client half (suc (suc (suc (suc (suc (suc (suc (suc (suc (suc (suc n))))))))))) answered blocks read = absurd (none-some read.turn read.at)

pub found_registers : AreRegisters found
found_registers = of_atomic found found_atomic

pub found_decided : IsDecided found 10 (7 ∷ [])
found_decided = told found_events 10 2 (IsRead zero_half) _ (7 ∷ []) refl refl refl
