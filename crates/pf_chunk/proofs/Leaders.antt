-- The leader of a group.
use Rattle.std.proofs.Common.{◌≡◌, ℕ, ◌<◌, Option, Some, None, slice_get, arith, refl, sym, ap, subst, ◌∙◌}
use Rattle.std.proofs.lemmas.Option.{none-some, same_Some}
use Rattle.pf_protocol.specs.Servers.{Candidate, Condition, Follower, Merging, Role, Running, Server, Serving, Setup, Stopped, Unformatted}
use Rattle.pf_protocol.specs.Groups.{Group}
use Rattle.pf_protocol.specs.Histories.{History, RunsAs, replay}
use Rattle.pf_protocol.specs.Safety.{OneLeader, is_leading}
use Rattle.pf_protocol.proofs.ForMoments.{whole_prefix}
use Rattle.pf_law_ports.specs.pf_group_network.specs.Shown.{IsLeader, ServesInTerm}
use Rattle.pf_law_ports.specs.pf_group_network.proofs.Shown.{IsGreatest, one_more_leader}
use Rattle.pf_chunk.specs.Asks.{serving_leader, served_at, served_by_condition, served_in_role}

module _ (g : Group) where
  serves_at : (i : ℕ) (x : ℕ × ℕ) → i < 3 → served_at g i ≡ Some x → ServesInTerm g i x.0 × (x.1 ≡ i)
  serves_at i x low is = by (slice_get g.servers i) refl is
    where
      by_role : (s : Server) → RunsAs g i s → (role : Role) → s.role ≡ role → served_in_role s.durable.term i role ≡ Some x → ServesInTerm g i x.0 × (x.1 ≡ i)
      by_role s runs (Serving leader) serves served =
          let same = same_Some (s.durable.term, i) x served in
          (record { low = low; s = s; leader = leader; runs = runs; serves = serves; in_term = ap (λ (p : ℕ × ℕ). p.0) same }, sym (ap (λ (p : ℕ × ℕ). p.1) same))
      by_role s runs Follower serves served = absurd (none-some x served)
      by_role s runs (Candidate own) serves served = absurd (none-some x served)
      by_role s runs (Merging leader) serves served = absurd (none-some x served)

      by : (c : Option Condition) → slice_get g.servers i ≡ c → served_by_condition i c ≡ Some x → ServesInTerm g i x.0 × (x.1 ≡ i)
      by (Some (Running s)) at served = by_role s at s.role refl served
      by (Some (Stopped life before after)) at served = absurd (none-some x served)
      by (Some Unformatted) at served = absurd (none-some x served)
      by None at served = absurd (none-some x served)

  served_when : (i term : ℕ) → ServesInTerm g i term → served_at g i ≡ Some (term, i)
  served_when i term v = ap (served_by_condition i) v.runs ∙ ap (served_in_role v.s.durable.term i) v.serves ∙ ap (λ (t : ℕ). Some (t, i)) v.in_term

  greatest : IsGreatest (served_at g) 3 (serving_leader g)
  greatest =
      let at = served_at g in
      one_more_leader at 2 _ (at 2) refl (one_more_leader at 1 (at 0) (at 1) refl (one_more_leader at 0 None (at 0) refl (λ j low. absurd (omega (arith, low)))))

  as_leader : (leader : Option (ℕ × ℕ)) → IsGreatest (served_at g) 3 leader → IsLeader g leader
  as_leader None none = λ i term serves. none-some (term, i) (sym (none i serves.low) ∙ served_when i term serves)
  as_leader (Some best) b =
      let its = serves_at b.k best b.low b.is in
      (subst (λ n. ServesInTerm g n best.0) (sym its.1) its.0, λ j other serves. b.most j (other, j) serves.low (served_when j other serves))

one_of_two : (setup : Setup) (history : History) → OneLeader setup history → (a b : Option (ℕ × ℕ)) → IsLeader (replay setup history) a → IsLeader (replay setup history) b → a ≡ b
one_of_two setup history one None None x y = refl
one_of_two setup history one None (Some (u, j)) x y = absurd (x j u y.0)
one_of_two setup history one (Some (t, i)) None x y = absurd (y i t x.0)
one_of_two setup history one (Some (t, i)) (Some (u, j)) x y =
    let terms : t ≡ u = omega (arith, x.1 j u y.0, y.1 i t x.0) in
    let here = whole_prefix history in
    let same : i ≡ j = one history history i j x.0.s y.0.s here here x.0.runs y.0.runs (ap is_leading x.0.serves) (ap is_leading y.0.serves) (x.0.in_term ∙ terms ∙ sym y.0.in_term) in
    ap (λ (n : ℕ). Some (n, i)) terms ∙ ap (λ (n : ℕ). Some (u, n)) same

-- whatever tells the leader tells this one: no term has two
pub the_leader : (setup : Setup) (history : History) → OneLeader setup history → (leader : Option (ℕ × ℕ)) → IsLeader (replay setup history) leader → leader ≡ serving_leader (replay setup history)
the_leader setup history one leader is =
    one_of_two setup history one leader (serving_leader (replay setup history)) is (as_leader (replay setup history) (serving_leader (replay setup history)) (greatest (replay setup history)))
