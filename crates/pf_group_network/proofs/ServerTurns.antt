-- What a server did in its turn.
use Rattle.std.proofs.Common.{◌≡◌, ℕ, false, inl, inr, Option, Some, None, Result, Ok, Err, refl, ap, subst, ◌∙◌}
use Rattle.pf_base.specs.declared.errors.NoMemory.{NoMemory}
use Rattle.pf_entry.specs.Records.{Durable}
use Rattle.pf_protocol.specs.declared.answers.Answer.{Answer}
use Rattle.pf_protocol.specs.declared.answers.Answer.TheVariants.{Refused}
use Rattle.pf_protocol.specs.declared.answers.Refusal.{Refusal}
use Rattle.pf_protocol.specs.declared.answers.Refusal.TheVariants.{Down}
use Rattle.pf_protocol.specs.Servers.{Server as ServerIs, Condition, Running as RunningIs, Stopped as StoppedIs, Unformatted as UnformattedIs}
use Rattle.pf_protocol.specs.Outcomes.{Outcome}
use Rattle.pf_protocol.specs.Groups.{reads_after}
use Rattle.pf_protocol.specs.Answers.{ServerTurn}
use Rattle.pf_server_store.specs.Stores.{StoreModel}
use Rattle.pf_server_memory.specs.Outgoing.{Outgoing}
use Rattle.pf_server_restart.specs.declared.seat.Seat.{Seat}
use Rattle.pf_server.specs.declared.server.Server.{Server}
use Rattle.pf_server.specs.declared.state.State.{State}
use Rattle.pf_server.specs.declared.state.State.TheVariants.{Runs, Stopped, Unformatted}
use Rattle.pf_server.specs.Conditions.{Meets, state_runs}
use Rattle.pf_server.specs.Turns.{Comes}
use Rattle.pf_group_network.specs.Turned.{Took, reads_with}

module _ {S : Type 0} (model : StoreModel S) where
  pub stopped_idles : (seat : Seat) (store : S) (state : State) (life : ℕ) (before after : Durable) → Meets model seat store state (StoppedIs life before after) → state_runs state ≡ false
  stopped_idles seat store (Runs me) life before after m = absurd m
  stopped_idles seat store (Stopped its doubt) life before after m = refl
  stopped_idles seat store Unformatted life before after m = refl

  pub unformatted_idles : (seat : Seat) (store : S) (state : State) → Meets model seat store state UnformattedIs → state_runs state ≡ false
  unformatted_idles seat store (Runs me) m = absurd m
  unformatted_idles seat store (Stopped its doubt) m = refl
  unformatted_idles seat store Unformatted m = refl

  module _ (me next : Server S) (out out' : Outgoing) (judged : ServerIs → Option Refusal) (rule : ServerIs → Outcome) where
    -- what the server's own contract says
    abbrev pub Tells : Result Answer NoMemory → Type 0
    Tells result = (s : ServerIs) → Meets model me.seat me.store me.state (RunningIs s) → Comes model me.seat me.store next.store next.state s out out' (judged s) (rule s) result

    abbrev pub IsDown : Result Answer NoMemory → Type 0
    IsDown result = state_runs me.state ≡ false → (result ≡ Ok (Refused Down)) × (next ≡ me)

    pub took_by : (turn : ServerTurn) (outcome : Result Answer NoMemory) → ((s : ServerIs) → judged s ≡ turn.refusal s) → ((s : ServerIs) → rule s ≡ turn.rule s) → Tells outcome → IsDown outcome → (c : Condition) → Meets model me.seat me.store me.state c → Took model turn me next out out' outcome c
    took_by turn outcome same_judged same_rule tells down (RunningIs s) meets =
        subst (λ (r : Outcome). Comes model me.seat me.store next.store next.state s out out' (turn.refusal s) r outcome) (same_rule s)
        (subst (λ (j : Option Refusal). Comes model me.seat me.store next.store next.state s out out' j (rule s) outcome) (same_judged s) (tells s meets))
    took_by turn outcome same_judged same_rule tells down (StoppedIs life before after) meets =
        let d = down (stopped_idles me.seat me.store me.state life before after meets) in (d.1, d.0)
    took_by turn outcome same_judged same_rule tells down UnformattedIs meets =
        let d = down (unformatted_idles me.seat me.store me.state meets) in (d.1, d.0)

-- a turn whose rule answers with no read takes none up
module _ {S : Type 0} (model : StoreModel S) (reads : ℕ) (turn : ServerTurn) (me next : Server S) (out out' : Outgoing) where
  by_judged : (s : ServerIs) (outcome : Result Answer NoMemory) (j : Option Refusal) → reads_after reads (turn.rule s).answer ≡ reads → Comes model me.seat me.store next.store next.state s out out' j (turn.rule s) outcome → reads_with reads outcome ≡ reads
  by_judged s (Err e) j plain took = refl
  by_judged s (Ok answer) None plain took = elim took [ inl whole ↦ ap (reads_after reads) whole.settles.answered ∙ plain | inr cut ↦ ap (reads_after reads) cut.answered ]
  by_judged s (Ok answer) (Some refusal) plain took = ap (reads_after reads) took.0.answered

  pub no_read : (outcome : Result Answer NoMemory) → ((s : ServerIs) → reads_after reads (turn.rule s).answer ≡ reads) → (c : Condition) → Took model turn me next out out' outcome c → reads_with reads outcome ≡ reads
  no_read outcome plain (RunningIs s) took = by_judged s outcome (turn.refusal s) (plain s) took
  no_read outcome plain (StoppedIs life before after) took = ap (reads_with reads) took.1
  no_read outcome plain UnformattedIs took = ap (reads_with reads) took.1
