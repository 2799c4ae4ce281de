-- What is answered at an anchor is a turn of the journal there.
use Rattle.std.proofs.Common.{◌≡◌, ◌≢◌, ℕ, ◌==◌, Bool, true, false, cond, Option, Some, None, arith, refl, sym, ap, ◌∙◌}
use Rattle.std.proofs.lemmas.Bool.{cond-false, cond-true, eq-eqb, ne_eqb}
use Rattle.pf_base.specs.declared.asks.Reply.{Reply}
use Rattle.pf_base.specs.declared.asks.Reply.TheVariants.{Written, Bytes}
use Rattle.pf_volume.specs.Volumes.{Extent}
use Rattle.pf_paxos.specs.Registers.{Ask as BlockAsk, Reply as BlockReply, Turn}
use Rattle.pf_paxos.specs.Runs.{idle_turn}
use Rattle.pf_paxos.specs.Quorums.{turn_on}
use Rattle.pf_paxos.specs.BallotRuns.{At, Calls, anchor_turn_answered, ballot_turn}
use Rattle.pf_journal.specs.declared.layouts.Layout.{Layout}
use Rattle.pf_law_lists.specs.Journals.{BallotJournal}
use Rattle.pf_law_positions.specs.Homes.{if_asked, turn_or_idle}
use Rattle.pf_law_calls.specs.Doings.{act_of, hears_for, looker, no_doing, reply_of}
use Rattle.pf_law_calls.specs.Lives.{OfBallot, OfPause, OfSuper, OfSync, Waiting}
use Rattle.pf_law_homes.specs.Ports.{PortOwed, ask_on, asks_there, block_reply, port_turn_answered as event_answered}
use Rattle.pf_law_events.proofs.AnchorPending.{AsksAt, Owes, OwesFor}
use Rattle.pf_law_events.proofs.Turns.{acts_is, looks_is, nothing_is, turn_at}

abbrev answering : (client : ℕ) → BlockReply → Turn
answering client reply = record { client = client; reply = Some reply; ask = None }

same_reply : (reply : Reply) → reply_of reply ≡ block_reply reply
same_reply Written = refl
same_reply (Bytes sectors) = refl

-- at another anchor
pub answered_elsewhere : (a q port : ℕ) (o : Option PortOwed) (reply : Reply) → port ≢ a → event_answered a q port o reply ≡ idle_turn
answered_elsewhere a q port None reply apart = refl
answered_elsewhere a q port (Some owed) reply apart =
    ap (λ o. turn_or_idle owed.client (if_asked o (block_reply reply)) None) (cond-false (port == a) (asks_there q owed.matter) None (ne_eqb port a apart))

answers_if : (client : ℕ) (b : Bool) (ask : BlockAsk) (reply : BlockReply) → turn_or_idle client (if_asked (cond b (Some ask) None) reply) None ≡ cond b (answering client reply) idle_turn
answers_if client true ask reply = refl
answers_if client false ask reply = refl

module _ (v : Extent) (its : Layout) (j : BallotJournal) (a q n : ℕ) (reply : Reply) where
  abbrev event_is : PortOwed → Turn
  event_is owed = turn_or_idle owed.client (if_asked (ask_on a q a owed.matter) (block_reply reply)) None

  on_here : (client : ℕ) → turn_on a (anchor_turn_answered client a (reply_of reply)) ≡ answering client (block_reply reply)
  on_here client = cond-true (a == a) (answering client (reply_of reply)) idle_turn (eq-eqb a a refl) ∙ ap (answering client) (same_reply reply)

  here_is : (owed : PortOwed) → ask_on a q a owed.matter ≡ asks_there q owed.matter
  here_is owed = cond-true (a == a) (asks_there q owed.matter) None (eq-eqb a a refl)

  event_at : (u client : ℕ) (owed : PortOwed) → owed.client ≡ client → AsksAt u owed.matter → event_is owed ≡ cond (q == u) (answering client (block_reply reply)) idle_turn
  event_at u client owed same asks =
      ap (λ o. turn_or_idle owed.client (if_asked o (block_reply reply)) None) (here_is owed ∙ asks.1 q)
      ∙ ap (λ k. turn_or_idle k (if_asked (cond (q == u) (Some asks.0) None) (block_reply reply)) None) same
      ∙ answers_if client (q == u) asks.0 (block_reply reply)

  ballot_same : (u : ℕ) (owed : PortOwed) → OwesFor v n (OfBallot u) owed → ballot_turn (j.mounts u) (Calls n (At a (act_of reply))) ≡ anchor_turn_answered n a (reply_of reply) → turn_at j a q (hears_for its n a reply (Some (OfBallot u))) ≡ event_is owed
  ballot_same u owed owes turns =
      acts_is j a q n u a (act_of reply) ∙ ap (λ t. cond (q == u) t idle_turn) (ap (turn_on a) turns ∙ on_here n)
      ∙ sym (event_at u n owed owes.0 owes.1)

  look_same : (u half : ℕ) (owed : PortOwed) → OwesFor v n (OfSync u half) owed → turn_at j a q (hears_for its n a reply (Some (OfSync u half))) ≡ event_is owed
  look_same u half owed owes =
      looks_is j a q u (anchor_turn_answered (looker n) a (reply_of reply)) (omega arith) ∙ ap (λ t. cond (q == u) t idle_turn) (on_here (looker n))
      ∙ sym (event_at u (looker n) owed owes.0 owes.1)

  -- what is asked for no position
  none_same : (owed : PortOwed) → ((p : ℕ) → asks_there p owed.matter ≡ None) → turn_at j a q (no_doing its) ≡ event_is owed
  none_same owed owes = nothing_is j a q its ∙ sym (ap (λ o. turn_or_idle owed.client (if_asked o (block_reply reply)) None) (here_is owed ∙ owes q))

  pub hears_same : (waiting : Option Waiting) (owed : Option PortOwed) → waiting ≢ None → Owes v n waiting owed
      → ((u : ℕ) → waiting ≡ Some (OfBallot u) → ballot_turn (j.mounts u) (Calls n (At a (act_of reply))) ≡ anchor_turn_answered n a (reply_of reply))
      → turn_at j a q (hears_for its n a reply waiting) ≡ event_answered a q a owed reply
  hears_same None owed some owes turns = absurd (some refl)
  hears_same (Some waiting) None some owes turns = absurd owes
  hears_same (Some (OfBallot u)) (Some owed) some owes turns = ballot_same u owed owes (turns u refl)
  hears_same (Some (OfSync u half)) (Some owed) some owes turns = look_same u half owed owes
  hears_same (Some OfPause) (Some owed) some owes turns = none_same owed owes
  hears_same (Some OfSuper) (Some owed) some owes turns = none_same owed owes.0
