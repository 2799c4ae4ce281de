-- What a run looks up in a group for a port is what calls of a port would say.
use Rattle.std.proofs.Common.{◌≡◌, ℕ, zero, suc, ◌<◌, Bool, true, false, ◌&&◌, ◌||◌, ◌==◌, cond, List, [], ◌∷◌, Option, Some, None, slice_get, arith, refl, sym, ap, subst, ◌∙◌}
use Rattle.std.specs.Prelude.{◌↔◌, IsTrue}
use Rattle.std.specs.List.{filter, list_any}
use Rattle.std.specs.Option.{option_map}
use Rattle.std.proofs.lemmas.Bool.{eq-eqb, eqb-true, false≢true}
use Rattle.std.proofs.lemmas.Option.{none-some, same_Some}
use Rattle.pf_base.specs.declared.asks.Reply.{Reply}
use Rattle.pf_base.specs.declared.asks.Reply.TheVariants.{Bytes}
use Rattle.pf_protocol.specs.Servers.{Candidate, Condition, Follower, Merging, Role, Running, Server, Serving, Setup, Stopped, Unformatted}
use Rattle.pf_protocol.specs.Groups.{Acked, Answered, Group}
use Rattle.pf_protocol.specs.Histories.{RunsAs, replay}
use Rattle.pf_law_movers.specs.pf_group_network.specs.Showing.{HasAnswer}
use Rattle.pf_law_movers.specs.pf_group_network.specs.Shown.{IsLeader, ServesInTerm, is_acked}
use Rattle.pf_law_movers.specs.pf_group_network.proofs.Shown.{IsGreatest, one_more_leader}
use Rattle.pf_asks.specs.declared.port.Sent.{Sent}
use Rattle.pf_asks.specs.declared.port.Sent.TheVariants.{Slot, Number}
use Rattle.pf_asks.specs.Desks.{DeskCall, Took, WasAcked}
use Rattle.pf_asks.specs.Ports.{LooksFor}
use Rattle.pf_law_movers.specs.pf_law_ports.specs.Calls.{HasAcked, PortPast, PastSays}
use Rattle.pf_law_movers.specs.pf_chunk.specs.Asks.{serving_leader, ask_reply, served_at, served_by_condition, served_in_role}
use Rattle.pf_law_movers.specs.pf_chunk.specs.Waiting.{answers_of_read}

-- The leader

module _ (g : Group) where
  serves_at : (i : ℕ) (x : ℕ × ℕ) → i < 3 → served_at g i ≡ Some x → ServesInTerm g i x.0 × (x.1 ≡ i)
  serves_at i x low is = by (slice_get g.servers i) refl is
    where
      by_role : (s : Server) → RunsAs g i s → (role : Role) → s.role ≡ role → served_in_role s.durable.term i role ≡ Some x → ServesInTerm g i x.0 × (x.1 ≡ i)
      by_role s runs (Serving leader) serves served =
          let same = same_Some (s.durable.term, i) x served in
          (record { low = low; s = s; leader = leader; runs = runs; serves = serves; in_term = ap (λ (p : ℕ × ℕ). p.0) same }, sym (ap (λ (p : ℕ × ℕ). p.1) same))
      by_role s runs Follower serves served = absurd (none-some x served)
      by_role s runs (Candidate own) serves served = absurd (none-some x served)
      by_role s runs (Merging leader) serves served = absurd (none-some x served)

      by : (c : Option Condition) → slice_get g.servers i ≡ c → served_by_condition i c ≡ Some x → ServesInTerm g i x.0 × (x.1 ≡ i)
      by (Some (Running s)) at served = by_role s at s.role refl served
      by (Some (Stopped life before after)) at served = absurd (none-some x served)
      by (Some Unformatted) at served = absurd (none-some x served)
      by None at served = absurd (none-some x served)

  served_when : (i term : ℕ) → ServesInTerm g i term → served_at g i ≡ Some (term, i)
  served_when i term v = ap (served_by_condition i) v.runs ∙ ap (served_in_role v.s.durable.term i) v.serves ∙ ap (λ (t : ℕ). Some (t, i)) v.in_term

  greatest : IsGreatest (served_at g) 3 (serving_leader g)
  greatest =
      let at = served_at g in
      one_more_leader at 2 _ (at 2) refl (one_more_leader at 1 (at 0) (at 1) refl (one_more_leader at 0 None (at 0) refl (λ j low. absurd (omega (arith, low)))))

  as_leader : (leader : Option (ℕ × ℕ)) → IsGreatest (served_at g) 3 leader → IsLeader g leader
  as_leader None none = λ i term serves. none-some (term, i) (sym (none i serves.low) ∙ served_when i term serves)
  as_leader (Some best) b =
      let its = serves_at b.k best b.low b.is in
      (subst (λ n. ServesInTerm g n best.0) (sym its.1) its.0, λ j other serves. b.most j (other, j) serves.low (served_when j other serves))

  pub leader_leads : IsLeader g (serving_leader g)
  leader_leads = as_leader (serving_leader g) greatest

-- Acknowledged slots

module _ (term slot : ℕ) where
  abbrev is_it : Acked → Bool
  is_it a = a.term == term && a.slot == slot

  record IsAt (acked : List Acked) : Type 0 where
    k : ℕ
    there : slice_get acked k ≡ Some (record { term = term; slot = slot })

  both_so : (a b c d : ℕ) → (a == b && c == d) ≡ true → (a ≡ b) × (c ≡ d)
  both_so a b c d both = by (a == b) refl both
    where
      by : (first : Bool) → (a == b) ≡ first → (first && (c == d)) ≡ true → (a ≡ b) × (c ≡ d)
      by true is second = (eqb-true a b is, eqb-true c d second)
      by false is second = absurd (false≢true second)

  or_later : (a : Acked) (acked : List Acked) (b : Bool) → is_it a ≡ b → (list_any is_it acked ≡ true → IsAt acked) → (b || list_any is_it acked) ≡ true → IsAt (a ∷ acked)
  or_later a acked true is later any =
      let same = both_so a.term term a.slot slot is in
      record { k = 0; there = ap (λ (t : ℕ). Some (let x : Acked = record { term = t; slot = a.slot } in x)) same.0 ∙ ap (λ (s : ℕ). Some (let x : Acked = record { term = term; slot = s } in x)) same.1 }
  or_later a acked false is later any = let place = later any in record { k = suc place.k; there = place.there }

  acked_there : (acked : List Acked) → list_any is_it acked ≡ true → IsAt acked
  acked_there [] any = absurd (false≢true any)
  acked_there (a ∷ acked) any = or_later a acked (is_it a) refl (acked_there acked) any

  or_true : (b rest : Bool) → rest ≡ true → (b || rest) ≡ true
  or_true true rest is = refl
  or_true false rest is = is

  there_acked : (acked : List Acked) (k : ℕ) → slice_get acked k ≡ Some (record { term = term; slot = slot }) → list_any is_it acked ≡ true
  there_acked [] k at = absurd (none-some _ at)
  there_acked (a ∷ acked) zero at =
      let same = same_Some a (record { term = term; slot = slot }) at in
      ap (λ b. b || list_any is_it acked) (ap (λ b. b && (a.slot == slot)) (eq-eqb a.term term (ap (λ (x : Acked). x.term) same)) ∙ eq-eqb a.slot slot (ap (λ (x : Acked). x.slot) same))
  there_acked (a ∷ acked) (suc k) at = or_true (is_it a) (list_any is_it acked) (there_acked acked k at)

  pub acked_tells : (g : Group) → IsTrue (is_acked g term slot) ↔ HasAcked g term slot
  acked_tells g = (λ is. (let t = acked_there g.acked is in record { k = t.k; at = t.there }), λ has. there_acked g.acked has.k has.at)

-- Answers of reads

record Passing {X : Type 0} (test : X → Bool) (xs : List X) (x : X) : Type 0 where
  k : ℕ
  there : slice_get xs k ≡ Some x
  passes : test x ≡ true

or_rest : {X : Type 0} → (test : X → Bool) (y : X) (ys : List X) (x : X) (b : Bool) → test y ≡ b → (slice_get (filter test ys) 0 ≡ Some x → Passing test ys x) → slice_get (cond b (y ∷ filter test ys) (filter test ys)) 0 ≡ Some x → Passing test (y ∷ ys) x
or_rest test y ys x true is later at = record { k = 0; there = at; passes = ap test (sym (same_Some y x at)) ∙ is }
or_rest test y ys x false is later at = let place = later at in record { k = suc place.k; there = place.there; passes = place.passes }

first_passes : {X : Type 0} → (test : X → Bool) (xs : List X) (x : X) → slice_get (filter test xs) 0 ≡ Some x → Passing test xs x
first_passes test [] x at = absurd (none-some x at)
first_passes test (y ∷ ys) x at = or_rest test y ys x (test y) refl (first_passes test ys x) at

answer_there : (g : Group) (n : ℕ) (a : Answered) → slice_get (answers_of_read g n) 0 ≡ Some a → HasAnswer g.answered n a.bytes
answer_there g n a at =
    let p = first_passes (λ (x : Answered). x.number == n) g.answered a at in
    record { k = p.k; answer = a; there = p.there; numbered = eqb-true a.number n p.passes; sectors = refl }

-- what a run looks up for an ask that was taken up is what one look of its port tells
pub record Looks (setup : Setup) (past : PortPast) (sent : Sent) (last : ℕ) (reply : Option Reply) : Type 0 where
  pub look : DeskCall
  pub looks : LooksFor sent last look reply
  pub says : PastSays setup past look past

pub looked_up : (setup : Setup) (past : PortPast) (sent : Sent) (last : ℕ) (reply : Option Reply) → ask_reply (replay setup past.history) (Some sent) last ≡ reply → Looks setup past sent last reply
looked_up setup past (Slot slot) last reply is =
    let g = replay setup past.history in
    record { look = WasAcked last slot (is_acked g last slot); looks = (refl, refl, sym is); says = (refl, acked_tells last slot g) }
looked_up setup past (Number n) last reply is = by (slice_get (answers_of_read (replay setup past.history) n) 0) refl is
  where
    by : (found : Option Answered) → slice_get (answers_of_read (replay setup past.history) n) 0 ≡ found → option_map (λ (a : Answered). Bytes a.bytes) found ≡ reply → Looks setup past (Number n) last reply
    by None at told = record { look = Took n None; looks = (refl, sym told); says = refl }
    by (Some a) at told = record { look = Took n (Some a.bytes); looks = (refl, sym told); says = (refl, answer_there (replay setup past.history) n a at) }
