-- A turn ends, whatever its outcome.
use Rattle.std.proofs.Common.{◌≡◌, ℕ, true, false, Result, Ok, Err, refl, sym, subst}
use Rattle.pf_base.specs.declared.errors.NoMemory.{NoMemory}
use Rattle.pf_protocol.specs.declared.answers.Answer.{Answer}
use Rattle.pf_protocol.specs.declared.answers.Answer.TheVariants.{Refused}
use Rattle.pf_protocol.specs.declared.answers.Refusal.TheVariants.{Halted}
use Rattle.pf_protocol.specs.Servers.{Setup}
use Rattle.pf_protocol.specs.Outcomes.{Outcome}
use Rattle.pf_protocol.specs.Groups.{Group, acted}
use Rattle.pf_protocol.specs.Answers.{ServerTurn}
use Rattle.pf_server_store.specs.Stores.{StoreModel}
use Rattle.pf_server_memory.specs.Outgoing.{Outgoing}
use Rattle.pf_group_network.specs.declared.network.Network.{Network}
use Rattle.pf_group_network.specs.Going.{HasFault}
use Rattle.pf_group_network.specs.Showing.{Shows}
use Rattle.pf_group_network.specs.Turned.{Ends, HasStepped, HasTurned, is_refused}
use Rattle.pf_group_network.proofs.TurnEnds.{ends_refused, ends_whole, ends_without, has_fault, stepped}

module _ {S : Type 0} (model : StoreModel S) (setup : Setup) (g : Group) (i : ℕ) (turn : ServerTurn) (network : Network S) (out : Outgoing) (outcome : Result Answer NoMemory) (t : HasTurned model setup g i turn network out outcome) where
  abbrev at_outcome : Result Answer NoMemory → Type 0
  at_outcome o = HasTurned model setup g i turn network out o

  pub ends_err : (e : NoMemory) → outcome ≡ Err e → Ends model setup g i turn network outcome
  ends_err e is = subst (λ o. Ends model setup g i turn network o) (sym is) (ends_without model setup g i turn network out e (subst at_outcome is t))

  pub ends_refusal : (answer : Answer) → outcome ≡ Ok answer → is_refused answer ≡ true → Ends model setup g i turn network outcome
  ends_refusal answer is refused = subst (λ o. Ends model setup g i turn network o) (sym is) (ends_refused model setup g i turn network out answer (subst at_outcome is t) refused)

  pub ends_step : (answer : Answer) → outcome ≡ Ok answer → is_refused answer ≡ false → (next : Network S) → ((o : Outcome) → HasStepped model setup g i o network out → Shows model setup next (acted g i o)) → Ends model setup g i turn next outcome
  ends_step answer is stands next shows = subst (λ o. Ends model setup g i turn next o) (sym is) (ends_whole model setup g i turn network out answer (subst at_outcome is t) stands next shows)

  pub has_stepped : (answer : Answer) → outcome ≡ Ok answer → is_refused answer ≡ false → (o : Outcome) × HasStepped model setup g i o network out
  has_stepped answer is stands = stepped model setup g i turn network out answer (subst at_outcome is t) stands

  -- a halt has its cause
  pub fault_of : (old next : Network S) → t.before ≡ old.servers.items → next.servers.items ≡ network.servers.items → outcome ≡ Ok (Refused Halted) → HasFault model.rose i old next
  fault_of old next first same is = faults outcome is t first
    where
      faults : (o : Result Answer NoMemory) → o ≡ Ok (Refused Halted) → (x : HasTurned model setup g i turn network out o) → x.before ≡ old.servers.items → HasFault model.rose i old next
      faults o so x begins =
          let moved = subst (λ r. (y : HasTurned model setup g i turn network out r) × (y.before ≡ old.servers.items)) so (x, begins) in
          has_fault model setup g i turn network out (Refused Halted) moved.0 old next moved.1 same refl
