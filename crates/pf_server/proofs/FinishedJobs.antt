-- Jobs that come back.
use Rattle.std.proofs.Common.{◌≡◌, ◌≢◌, ℕ, true, not, ◌==◌, [], if◌then◌else◌, None, refl, sym, ap, subst, ◌∙◌}
use Rattle.std.proofs.lemmas.Bool.{cond-true, eq-eqb, eqb-true, false≢true}
use Rattle.pf_entry.specs.Records.{Durable}
use Rattle.pf_protocol.specs.Answers.{refuse}
use Rattle.std.specs.FinMap
use Rattle.pf_protocol.specs.Outcomes.{Outcome, sends}
use Rattle.pf_protocol.specs.Saving.{on_finish, on_give_back}
use Rattle.pf_protocol.specs.Servers.{Server}
use Rattle.pf_protocol.specs.declared.answers.Answer.{Answer}
use Rattle.pf_protocol.specs.declared.answers.Answer.TheVariants.{Done, Refused}
use Rattle.pf_protocol.specs.declared.answers.Refusal.TheVariants.{Stale}
use Rattle.pf_entry.proofs.Cases.{by_test}
use Rattle.pf_server_store.specs.Stores.{StoreModel}
use Rattle.pf_server_memory.specs.declared.running.Running.{Running}
use Rattle.pf_server_memory.specs.Standing.{server_of, IsCached}
use Rattle.pf_server_restart.specs.declared.seat.Seat.{Seat}
use Rattle.pf_server.specs.declared.state.State.TheVariants.{Runs}
use Rattle.pf_server.specs.Conditions.{IsRunning}
use Rattle.pf_server.specs.Ending.{WasAnswered, quieted}
use Rattle.pf_server.specs.Turns.{ComesInMemory, IsAsBefore, IsSettled, finish_refusal}
use Rattle.pf_server.proofs.Bounds.{same_life}
use Rattle.pf_server.proofs.ServerStands.{quieted_runs, settles}

finish_answer : (s : Server) (life slot : ℕ) → (life == s.life) ≡ true → Done ≡ (on_finish s life slot).answer
unfolding on_finish
finish_answer s life slot same = sym (ap (λ (o : Outcome). o.answer) (cond-true (life == s.life) _ _ same))

give_back_answer : (s : Server) (life slot : ℕ) → Done ≡ (on_give_back s life slot).answer
unfolding on_give_back
give_back_answer s life slot = by_test (life == s.life) (λ b. Done ≡ (if b then sends (record s { in_hand = FinMap.remove s.in_hand slot }) [] else sends s []).answer) (λ _. refl) (λ _. refl)

module _ {S : Type 0} (model : StoreModel S) (seat : Seat) (store : S) (me new : Running) (s : Server) (runs : IsRunning model seat store me s) where
  pub finish_comes : (life slot : ℕ) (answer : Answer) → (life ≢ me.life → (answer ≡ Refused (Stale me.life)) × (new ≡ quieted me)) → (life ≡ me.life → (answer ≡ Done) × ((d : Durable) → IsCached d me → WasAnswered d me new (on_finish (server_of d me) life slot).server))
      → ComesInMemory model seat store (Runs new) s (finish_refusal s life) (on_finish s life slot) answer
  finish_comes life slot answer stale done =
      let its = same_life model seat store me s runs in
      by_test (life == s.life) (λ b. ComesInMemory model seat store (Runs new) s (refuse (not b) (Stale s.life) None) (on_finish s life slot) answer)
      (λ same.
      let end = done (eqb-true life s.life same ∙ sym its) in
      settles model seat store s.durable me new s (on_finish s life slot) answer runs.stands runs.setup
      (subst (λ x. WasAnswered s.durable me new (on_finish x life slot).server) runs.is (end.1 s.durable runs.stands.cached)) (end.0 ∙ finish_answer s life slot same))
      (λ apart.
      let end = stale (λ same. false≢true (sym apart ∙ eq-eqb life s.life (same ∙ its))) in
      record {
        answered = end.0 ∙ ap (λ n. Refused (Stale n)) its;
        kept = subst (λ x. IsAsBefore model seat store (Runs x) s) (sym end.1) (quieted_runs model seat store me s runs);
      })

  pub give_back_comes : (life slot : ℕ) → ((d : Durable) → IsCached d me → WasAnswered d me new (on_give_back (server_of d me) life slot).server) → IsSettled model seat store (Runs new) s (on_give_back s life slot) Done
  give_back_comes life slot end =
      settles model seat store s.durable me new s (on_give_back s life slot) Done runs.stands runs.setup
      (subst (λ x. WasAnswered s.durable me new (on_give_back x life slot).server) runs.is (end s.durable runs.stands.cached)) (give_back_answer s life slot)
