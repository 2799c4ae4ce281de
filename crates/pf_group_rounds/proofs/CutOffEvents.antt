-- An event that is cut off takes place at a server.
use Rattle.std.proofs.Common.{◌≡◌, ◌<◌, ◌⊎◌, inl, inr, ℕ, Bool, true, false, not, ◌&&◌, if◌then◌else◌, List, [], ◌∷◌, Option, Some, None, slice_get, unwrap_or, refl, sym, ap, subst, ◌∙◌}
use Rattle.std.proofs.lemmas.Bool.{false≢true}
use Rattle.pf_protocol.specs.declared.answers.Answer.{Answer}
use Rattle.pf_protocol.specs.declared.answers.Answer.TheVariants.{Done, Refused}
use Rattle.pf_protocol.specs.declared.answers.Refusal.TheVariants.{Halted, LostPacket}
use Rattle.pf_protocol.specs.declared.events.Event.{Event}
use Rattle.pf_protocol.specs.declared.events.Event.TheVariants.{Submit, Fetch, Deliver, Lose, Elect, Resend, Stop, Restart, Claim, Finish, GiveBack, Checkpoint}
use Rattle.pf_protocol.specs.Servers.{Setup, Condition, Running, Stopped, Unformatted}
use Rattle.pf_protocol.specs.Groups.{Group, Sent, least_claim}
use Rattle.pf_protocol.specs.Answers.{IsAnswer, ServerTurn, answer_at, answer_to, claim_answer, claim_answer_at, deliver_turn, delivery_answer, delivery_halts, elect_turn, fetch_turn, finish_answer, can_halt, is_formatted, loss_answer, may_halt, plain_turn, restart_answer, stop_answer, submit_turn}
use Rattle.pf_protocol.specs.Fitting.{GroupFits}
use Rattle.pf_protocol.specs.Leading.{on_resend}
use Rattle.pf_protocol.specs.Saving.{on_checkpoint}
use Rattle.pf_group.specs.pf_group_network.specs.Going.{acts_at, receiver}
use Rattle.pf_group_rounds.specs.Agreeing.{is_halted}
use Rattle.pf_group_rounds.specs.Telling.{server_at}
use Rattle.pf_group_rounds.proofs.FollowedHistories.{halted_is}

abbrev IsHalted : Answer → Type 0
IsHalted answer = Refused Halted ≡ answer

-- the event was answered so, by the rules or by a failing disk
abbrev MayBeHalted : Answer → Bool → Type 0
MayBeHalted answer may = IsHalted answer ⊎ ((may ≡ true) × IsHalted (Refused Halted))

never : (answer : Answer) → (IsHalted answer → ⊥) → MayBeHalted answer false → ⊥
never answer apart (inl is) = apart is
never answer apart (inr cut) = false≢true cut.0

lost_apart : (lost : Bool) → IsHalted (if lost then Refused LostPacket else Done) → ⊥
lost_apart true is = cc
lost_apart false is = cc

loss_apart : (sent : Option Sent) → IsHalted (loss_answer sent) → ⊥
loss_apart None is = cc
loss_apart (Some sent) is = lost_apart sent.lost is

claim_at_apart : (i : ℕ) (c : Option Condition) (slot : Option ℕ) (rest : Answer) → (IsHalted rest → ⊥) → IsHalted (claim_answer_at i c slot rest) → ⊥
claim_at_apart i (Some (Running s)) (Some slot) rest apart is = cc
claim_at_apart i (Some (Running s)) None rest apart is = apart is
claim_at_apart i (Some (Stopped life before after)) slot rest apart is = apart is
claim_at_apart i (Some Unformatted) slot rest apart is = apart is
claim_at_apart i None slot rest apart is = apart is

claim_apart : (window : ℕ) (g : Group) (servers : List ℕ) → IsHalted (claim_answer window g servers) → ⊥
claim_apart window g [] is = cc
claim_apart window g (i ∷ is) so = claim_at_apart i (slice_get g.servers i) (least_claim window (slice_get g.servers i)) (claim_answer window g is) (claim_apart window g is) so

-- what is refused where there is no server, a server was there for
there : (answer : Option Condition → Answer) (may : Option Condition → Bool) → (IsHalted (answer None) → ⊥) → may None ≡ false → (c : Option Condition) → MayBeHalted (answer c) (may c) → (x : Condition) × (c ≡ Some x)
there answer may apart none (Some x) is = (x, refl)
there answer may apart none None (inl is) = absurd (apart is)
there answer may apart none None (inr cut) = absurd (false≢true (sym none ∙ cut.0))

turned : (turn : ServerTurn) (may : Option Condition → Bool) → may None ≡ false → (c : Option Condition) → MayBeHalted (answer_at c turn) (may c) → (x : Condition) × (c ≡ Some x)
turned turn may none c is = there (λ o. answer_at o turn) may (λ e. cc) none c is

-- the event takes place at a server of the group
abbrev pub TakesPlace : Group → Event → Type 0
TakesPlace g event = (i : ℕ) × (acts_at g event ≡ Some i) × ((x : Condition) × (slice_get g.servers i ≡ Some x))

delivered_at : (setup : Setup) (g : Group) (k : ℕ) (sent : Option Sent) → slice_get g.packets k ≡ sent → MayBeHalted (delivery_answer setup g sent) (delivery_halts setup g sent) → TakesPlace g (Deliver k)
delivered_at setup g k None at may = absurd (never (delivery_answer setup g None) (λ is. cc) may)
delivered_at setup g k (Some sent) at may = (sent.packet.to, ap receiver at, by_loss sent.lost may)
  where
    turn : ServerTurn
    turn = deliver_turn setup g sent

    by_loss : (lost : Bool) → MayBeHalted (if lost then Refused LostPacket else answer_at (slice_get g.servers sent.packet.to) turn) (not lost && can_halt (slice_get g.servers sent.packet.to) turn) → (x : Condition) × (slice_get g.servers sent.packet.to ≡ Some x)
    by_loss true is = absurd (never (Refused LostPacket) (λ e. cc) is)
    by_loss false is = turned turn (λ c. can_halt c turn) refl (slice_get g.servers sent.packet.to) is

pub halted_there : (setup : Setup) (g : Group) (event : Event) → IsAnswer setup g event (Refused Halted) → TakesPlace g event
unfolding answer_to may_halt
halted_there setup g (Submit i op) may = (i, refl, turned (submit_turn setup g op) (λ c. can_halt c (submit_turn setup g op)) refl (slice_get g.servers i) may)
halted_there setup g (Fetch i range) may = (i, refl, turned (fetch_turn setup g range) (λ c. false) refl (slice_get g.servers i) may)
halted_there setup g (Deliver k) may = delivered_at setup g k (slice_get g.packets k) refl may
halted_there setup g (Lose k) may = absurd (never (loss_answer (slice_get g.packets k)) (loss_apart (slice_get g.packets k)) may)
halted_there setup g (Elect i) may = (i, refl, turned (elect_turn g) (λ c. can_halt c (elect_turn g)) refl (slice_get g.servers i) may)
halted_there setup g (Resend i) may = (i, refl, turned (plain_turn g (λ s. on_resend s s.role)) (λ c. false) refl (slice_get g.servers i) may)
halted_there setup g (Stop i) may = (i, refl, there stop_answer (λ c. false) (λ e. cc) refl (slice_get g.servers i) may)
halted_there setup g (Restart i found) may = (i, refl, there restart_answer is_formatted (λ e. cc) refl (slice_get g.servers i) may)
halted_there setup g Claim may = absurd (never (claim_answer setup.window g (0 ∷ 1 ∷ 2 ∷ [])) (claim_apart setup.window g (0 ∷ 1 ∷ 2 ∷ [])) may)
halted_there setup g (Finish i life slot) may = (i, refl, there (λ c. finish_answer c life slot) (λ c. false) (λ e. cc) refl (slice_get g.servers i) may)
halted_there setup g (GiveBack i life slot) may = absurd (never Done (λ e. cc) may)
halted_there setup g (Checkpoint i) may = (i, refl, turned (plain_turn g on_checkpoint) (λ c. can_halt c (plain_turn g on_checkpoint)) refl (slice_get g.servers i) may)

pub halted_somewhere : (setup : Setup) (g : Group) (event : Event) → IsAnswer setup g event (Refused Halted) → (i : ℕ) × (acts_at g event ≡ Some i)
halted_somewhere setup g event is = let at = halted_there setup g event is in (at.0, at.1)

-- of a group that fits, it is one of three
pub halted_at_own : (setup : Setup) (g : Group) (n : ℕ) (event : Event) (answer : Answer) → GroupFits setup n g → IsAnswer setup g event answer → is_halted answer ≡ true → (acts_at g event ≡ Some (server_at g event)) × (server_at g event < 3)
halted_at_own setup g n event answer fits is halted =
    let at = halted_there setup g event (subst (IsAnswer setup g event) (halted_is answer halted) is) in
    let here : server_at g event ≡ at.0 = ap (λ o. unwrap_or o 0) at.1 in
    (at.1 ∙ ap Some (sym here), subst (λ i. i < 3) (sym here) (fits.servers at.0 at.2.0 at.2.1).0)
