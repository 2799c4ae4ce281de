-- What ports have pending.
use Rattle.std.proofs.Common.{◌≡◌, ℕ, zero, suc, ◌==◌, cond, ◌&&◌, List, [], ◌∷◌, Option, Some, None, sym, subst}
use Rattle.std.proofs.lemmas.Bool.{and_parts, eqb-true}
use Rattle.std.proofs.lemmas.Option.{none-some, same_Some}
use Rattle.pf_base.specs.Asks.{chunk_of}
use Rattle.pf_base.specs.declared.asks.Ask.{Ask}
use Rattle.pf_base.specs.declared.asks.Ask.TheVariants.{Write, Read}
use Rattle.pf_base.specs.declared.asks.Reply.{Reply}
use Rattle.pf_base.specs.declared.asks.Reply.TheVariants.{Written, Bytes}
use Rattle.pf_entry.proofs.Cases.{by_test}
use Rattle.pf_protocol.specs.Groups.{Answered}
use Rattle.pf_volume.specs.Volumes.{Extent}
use Rattle.pf_law_positions.specs.Deeds.{Deed}
use Rattle.pf_law_positions.specs.PortDeeds.{no_deed, port_ask, port_reply}
use Rattle.pf_journal.specs.Layouts.{LayoutIs}
use Rattle.pf_law_homes.specs.Chunks.{AreDeedsAt, IsAskAt, IsDeedAt, IsReplyAt}
use Rattle.pf_law_homes.specs.Ports.{CanHappen, Comes, Goes, Hands, IsOwed, PortOwed, Passes, Pending, PortEvent, deed_answered, deed_at, deed_handed, deed_of, deeds_from, pending_after, pending_with}

-- each pending ask is one that its port may have
abbrev pub AreOwed : LayoutIs → Extent → Pending → Type 0
AreOwed l v pending = (m p : ℕ) (owed : PortOwed) → pending m p ≡ Some owed → IsOwed l v m p owed

module _ (l : LayoutIs) (v : Extent) (pending : Pending) (are : AreOwed l v pending) where
  with_one : (mount port : ℕ) (owed : PortOwed) → IsOwed l v mount port owed → AreOwed l v (pending_with pending mount port (Some owed))
  with_one mount port owed is m p its =
      by_test (m == mount && p == port) (λ b. cond b (Some owed) (pending m p) ≡ Some its → IsOwed l v m p its)
      (λ same at.
      let both = and_parts (m == mount) (p == port) same in
      subst (λ (o : PortOwed). IsOwed l v m p o) (same_Some owed its at)
      (subst (λ i. IsOwed l v i p owed) (sym (eqb-true m mount both.0)) (subst (λ i. IsOwed l v mount i owed) (sym (eqb-true p port both.1)) is)))
      (λ other at. are m p its at)

  without : (mount port : ℕ) → AreOwed l v (pending_with pending mount port None)
  without mount port m p its =
      by_test (m == mount && p == port) (λ b. cond b None (pending m p) ≡ Some its → IsOwed l v m p its)
      (λ same at. absurd (none-some its at))
      (λ other at. are m p its at)

  pub owed_after : (event : PortEvent) → CanHappen l v pending event → AreOwed l v (pending_after pending event)
  owed_after (Goes mount port owed) can = with_one mount port owed can.1
  owed_after (Comes mount port reply epoch by answer) can = without mount port
  owed_after (Hands mount port epoch place) can = are
  owed_after Passes can = are

-- Deeds at a chunk are of this chunk

ask_at : (c : ℕ) (ask : Ask) → chunk_of ask ≡ c → IsAskAt c (Some (port_ask ask))
ask_at c (Write chunk span sectors) same = same
ask_at c (Read chunk span) same = same

reply_at : (c : ℕ) (ask : Ask) (epoch by : ℕ) (answer : Answered) (reply : Reply) → chunk_of ask ≡ c → IsReplyAt c (port_reply ask epoch by answer reply)
reply_at c (Write chunk span sectors) epoch by answer Written same = same
reply_at c (Write chunk span sectors) epoch by answer (Bytes bytes) same = tt
reply_at c (Read chunk span) epoch by answer Written same = tt
reply_at c (Read chunk span) epoch by answer (Bytes bytes) same = same

at_chunk : (c : ℕ) (owed : PortOwed) (deed : Deed) → (chunk_of owed.ask ≡ c → IsDeedAt c deed) → IsDeedAt c (deed_at c owed deed)
at_chunk c owed deed is =
    by_test (chunk_of owed.ask == c) (λ b. IsDeedAt c (cond b deed no_deed)) (λ same. is (eqb-true (chunk_of owed.ask) c same)) (λ other. (tt, tt))

answered_at : (c epoch by : ℕ) (answer : Answered) (owed : Option PortOwed) (reply : Reply) → IsDeedAt c (deed_answered c epoch by answer owed reply)
answered_at c epoch by answer None reply = (tt, tt)
answered_at c epoch by answer (Some owed) reply = at_chunk c owed _ (λ same. (reply_at c owed.ask epoch by answer reply same, tt))

handed_at : (c epoch place : ℕ) (owed : Option PortOwed) → IsDeedAt c (deed_handed c epoch place owed)
handed_at c epoch place None = (tt, tt)
handed_at c epoch place (Some owed) = at_chunk c owed _ (λ same. same)

deed_there : (c : ℕ) (pending : Pending) (event : PortEvent) → IsDeedAt c (deed_of c pending event)
deed_there c pending (Goes mount port owed) = at_chunk c owed _ (λ same. (tt, ask_at c owed.ask same))
deed_there c pending (Comes mount port reply epoch by answer) = answered_at c epoch by answer (pending mount port) reply
deed_there c pending (Hands mount port epoch place) = handed_at c epoch place (pending mount port)
deed_there c pending Passes = (tt, tt)

pub deeds_there : (c : ℕ) (events : List PortEvent) (pending : Pending) → AreDeedsAt c (deeds_from c pending events)
deeds_there c [] pending moment deed at = absurd (none-some deed at)
deeds_there c (event ∷ events) pending zero deed at = subst (λ (d : Deed). IsDeedAt c d) (same_Some (deed_of c pending event) deed at) (deed_there c pending event)
deeds_there c (event ∷ events) pending (suc moment) deed at = deeds_there c events (pending_after pending event) moment deed at
