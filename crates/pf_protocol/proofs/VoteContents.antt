-- A vote shows what its sender held as it voted.
use Rattle.std.proofs.Common.{◌≡◌, ℕ, ◌<◌, inl, inr, [], ◌∷◌, ◌++◌, Some, slice_get, arith, refl, sym, ap, subst, ◌∙◌}
use Rattle.std.proofs.lemmas.List.{length-map}
use Rattle.std.specs.Option.{option_map}
use Rattle.std.proofs.lemmas.Option.{none-some, slice_get-map, slice_get_within}
use Rattle.pf_entry.proofs.Lists.{every_get, every_of_all}
use Rattle.pf_entry.specs.declared.entries.VoteLog.{VoteLog}
use Rattle.pf_entry.specs.declared.packets.Packet.{Packet}
use Rattle.pf_entry.specs.declared.packets.Body.TheVariants.{Vote}
use Rattle.pf_entry.specs.Records.{vote_of}
use Rattle.pf_protocol.specs.declared.answers.Answer.{Answer}
use Rattle.pf_protocol.specs.declared.events.Event.{Event}
use Rattle.pf_protocol.specs.declared.events.Happening.{Happening}
use Rattle.pf_protocol.specs.Servers.{Setup, Server, Running}
use Rattle.pf_protocol.specs.Groups.{Group, Sent, ending, happens, opening}
use Rattle.pf_protocol.specs.Histories.{History, replay, HasVoted}
use Rattle.pf_protocol.proofs.Moments.{run_longer, whole_prefix, by_events}
use Rattle.pf_protocol.proofs.EntryMakers.{longer}
use Rattle.pf_protocol.proofs.Histories.{told}
use Rattle.pf_protocol.proofs.EventChanges.{packets_of, IsGiven, adds_at, goes}
use Rattle.pf_protocol.proofs.StepLeavings.{IsReadless, Speaks, Plainly, Asks, AsksAgain, Replies, Requests, Grants, does}

-- a vote among what a step sends is its server's own
record IsOwn (s : Server) (p : Packet) (v : VoteLog) : Type 0 where
  from : p.from ≡ s.number
  holds : v ≡ vote_of s.durable
  lower : s.durable.term < p.term

own_vote : (B : ℕ → Type 0) (g : Group) (i : ℕ) (s : Server) (event : Event) (answer : Answer) (after : ℕ) (p : Packet) (v : VoteLog) → p.body ≡ Vote v → Speaks B g i s event answer after p → IsOwn s p v
own_vote B g i s event answer after p v is (Plainly readless) = absurd (subst IsReadless is readless)
own_vote B g i s event answer after p v is (Asks body told) = absurd (grind (arith, is, body))
own_vote B g i s event answer after p v is (AsksAgain n body had) = absurd (grind (arith, is, body))
own_vote B g i s event answer after p v is (Replies k sent n upto_there at to_it probe body to term low) = absurd (grind (arith, is, body))
own_vote B g i s event answer after p v is (Requests base body from le) = absurd (grind (arith, is, body))
own_vote B g i s event answer after p v is (Grants k sent base at to_it request body from to term lower) =
    let same : Vote v ≡ Vote (vote_of s.durable) = sym is ∙ body in
    record { from = from; holds = cc; lower = lower }

abbrev AllVoted : Setup → History → Type 0
AllVoted setup history = (k : ℕ) (p : Packet) (v : VoteLog) → slice_get (packets_of (replay setup history).packets) k ≡ Some p → p.body ≡ Vote v → HasVoted setup history k p.from p.term v

module _ (setup : Setup) (history : History) (h : Happening) (all : AllVoted setup history) where
  abbrev now : Group
  now = happens setup (replay setup history) h.event (ending h.answer)

  voted_longer : (k i term : ℕ) (v : VoteLog) → HasVoted setup history k i term v → HasVoted setup (history ++ h ∷ []) k i term v
  voted_longer k i term v w = record {
    earlier = w.earlier;
    voting = w.voting;
    is_part = longer setup history h (w.earlier ++ w.voting ∷ []) w.is_part;
    unsent = w.unsent;
    was_sent = w.was_sent;
    server = w.server;
    runs = w.runs;
    holds = w.holds;
    lower = w.lower;
  }

  voted_now : (k : ℕ) (p : Packet) (v : VoteLog) → slice_get (packets_of (replay setup (history ++ h ∷ [])).packets) k ≡ Some p → p.body ≡ Vote v → IsGiven setup (replay setup history) h.event now (λ o. o.packets) (packets_of (replay setup history).packets) k p → HasVoted setup (history ++ h ∷ []) k p.from p.term v
  voted_now k p v at is w =
      let d = does setup (replay setup history) w.i w.server h.event w.outcome w.step.rule in
      let said = every_get (Speaks (λ n. n ≡ n) (replay setup history) w.i w.server h.event w.outcome.answer w.outcome.server.durable.term) w.outcome.packets w.place p
      (d.packets (λ n. n ≡ n) (every_of_all (λ r. r.number ≡ r.number) w.server.reads (λ r. refl))) w.there in
      let own = own_vote (λ n. n ≡ n) (replay setup history) w.i w.server h.event w.outcome.answer w.outcome.server.durable.term p v is said in
      let number = ((told setup history).follows.servers w.i (Running w.server) w.step.runs).1.number in
      record {
        earlier = history;
        voting = h;
        is_part = whole_prefix (history ++ h ∷ []);
        unsent = omega (arith, w.behind, length-map (replay setup history).packets (λ (one : Sent). one.packet));
        was_sent = omega (arith, slice_get_within (packets_of (replay setup (history ++ h ∷ [])).packets) k p at, length-map (replay setup (history ++ h ∷ [])).packets (λ (one : Sent). one.packet));
        server = w.server;
        runs = ap (slice_get (replay setup history).servers) (own.from ∙ number) ∙ w.step.runs;
        holds = own.holds;
        lower = own.lower;
      }

  next_voted : AllVoted setup (history ++ h ∷ [])
  next_voted k p v at is =
      elim (adds_at setup (replay setup history) h.event now (λ o. o.packets) (packets_of (replay setup history).packets) (packets_of now.packets) k p
      (ap (λ g. slice_get (packets_of g.packets) k) (sym (run_longer setup (opening setup) history h)) ∙ at) (goes setup (replay setup history) h.event (ending h.answer)).packets) [
        | inl old ↦ voted_longer k p.from p.term v (all k p v old is)
        | inr new ↦ voted_now k p v at is new
      ]

none_voted : (setup : Setup) → AllVoted setup []
unfolding opening
none_voted setup k p v at is = absurd (none-some p at)

pub votes_are_true : (setup : Setup) (history : History) (k : ℕ) (sent : Sent) (v : VoteLog) → slice_get (replay setup history).packets k ≡ Some sent → sent.packet.body ≡ Vote v → HasVoted setup history k sent.packet.from sent.packet.term v
votes_are_true setup history k sent v at is = by_events (AllVoted setup) (none_voted setup) (next_voted setup) history k sent.packet v (slice_get-map (λ (one : Sent). one.packet) (replay setup history).packets k ∙ ap (λ o. option_map (λ (one : Sent). one.packet) o) at) is
