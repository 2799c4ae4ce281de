-- Which servers run, and which of them leads.
use Rattle.std.proofs.Common.{◌≡◌, ℕ, ◌+◌, ◌<◌, ◌≤◌, inl, inr, Bool, true, false, List, Option, Some, None, if◌then◌else◌, nat_lt, slice_get, MatchOption, arith, refl, sym, ap, subst, ◌∙◌}
use Rattle.std.specs.Option.{option_and_then}
use Rattle.std.proofs.lemmas.Bool.{cases_eq, true≢false}
use Rattle.std.proofs.lemmas.Bool.Decides.{nat_tests}
use Rattle.std.proofs.lemmas.Option.{none-some, same_Some}
use Rattle.pf_entry.specs.Records.{Durable}
use Rattle.pf_protocol.specs.Servers.{Setup, Leader, Serving, Server as ServerIs, Condition, Running as RunningIs, Stopped as StoppedIs, Unformatted as UnformattedIs}
use Rattle.pf_protocol.specs.Groups.{Group}
use Rattle.pf_server_store.specs.Stores.{StoreModel}
use Rattle.pf_server_memory.specs.declared.running.Role.{Role}
use Rattle.pf_server_memory.specs.declared.running.Role.TheVariants.{Follower, Candidate, Merging, Serving as ServingHere}
use Rattle.pf_server_memory.specs.declared.running.Running.{Running}
use Rattle.pf_server_memory.specs.Standing.{leader_in_memory, role_in_memory, server_of}
use Rattle.pf_server.specs.declared.server.Server.{Server}
use Rattle.pf_server.specs.declared.state.State.{State}
use Rattle.pf_server.specs.declared.state.State.TheVariants.{Runs as RunsHere, Stopped, Unformatted}
use Rattle.pf_server.specs.Conditions.{Meets, state_runs}
use Rattle.pf_group_network.specs.declared.network.Network.{Network}
use Rattle.pf_group_network.specs.Showing.{Shows}
use Rattle.pf_group_network.specs.Shown.{Idles, IsLeader, IsRunningAt, ServesInTerm, later_of, served_by, served_in, served_of}
use Rattle.pf_group_network.proofs.Elections.{running_there}
use Rattle.pf_group_network.proofs.Lists.{something_there}
use Rattle.pf_group_network.proofs.Members.{member_at}

-- what is known of an option, in other words
pub matched : {X : Type 0} → {A B : Type 0} → {P Q : X → Type 0} → (o : Option X) → (A → B) → ((x : X) → P x → Q x) → MatchOption o A P → MatchOption o B Q
matched None none some m = none m
matched (Some x) none some m = some x m

-- the first n of some leaders: none, or one of the greatest term
pub record HasBest (leaders : ℕ → Option (ℕ × ℕ)) (n : ℕ) (best : ℕ × ℕ) : Type 0 where
  pub k : ℕ
  pub low : k < n
  pub is : leaders k ≡ Some best
  pub most : (j : ℕ) (x : ℕ × ℕ) → j < n → leaders j ≡ Some x → x.0 ≤ best.0

abbrev pub IsGreatest : (leaders : ℕ → Option (ℕ × ℕ)) (n : ℕ) → Option (ℕ × ℕ) → Type 0
IsGreatest leaders n None = (j : ℕ) → j < n → leaders j ≡ None
IsGreatest leaders n (Some best) = HasBest leaders n best

module _ (leaders : ℕ → Option (ℕ × ℕ)) (n : ℕ) where
  none_more : leaders n ≡ None → IsGreatest leaders n None → IsGreatest leaders (n + 1) None
  none_more at none j low = elim (cases_eq j n) [ inl same ↦ ap leaders same ∙ at | inr apart ↦ none j (omega (arith, low, apart)) ]

  first_one : (x : ℕ × ℕ) → leaders n ≡ Some x → IsGreatest leaders n None → HasBest leaders (n + 1) x
  first_one x at none = record {
    k = n;
    low = omega arith;
    is = at;
    most = λ j y low is. elim (cases_eq j n) [
      | inl same ↦ (let e : y.0 ≡ x.0 = ap (λ (p : ℕ × ℕ). p.0) (same_Some y x (sym is ∙ ap leaders same ∙ at)) in omega (arith, e))
      | inr apart ↦ absurd (none-some y (sym (none j (omega (arith, low, apart))) ∙ is))
    ];
  }

  stays_best : (best : ℕ × ℕ) (o : Option (ℕ × ℕ)) → leaders n ≡ o → ((x : ℕ × ℕ) → o ≡ Some x → x.0 ≤ best.0) → HasBest leaders n best → HasBest leaders (n + 1) best
  stays_best best o at most b = record {
    k = b.k;
    low = omega (arith, b.low);
    is = b.is;
    most = λ j y low is. elim (cases_eq j n) [
      | inl same ↦ most y (sym at ∙ ap leaders (sym same) ∙ is)
      | inr apart ↦ b.most j y (omega (arith, low, apart)) is
    ];
  }

  is_better : (best x : ℕ × ℕ) → leaders n ≡ Some x → best.0 < x.0 → HasBest leaders n best → HasBest leaders (n + 1) x
  is_better best x at above b = record {
    k = n;
    low = omega arith;
    is = at;
    most = λ j y low is. elim (cases_eq j n) [
      | inl same ↦ (let e : y.0 ≡ x.0 = ap (λ (p : ℕ × ℕ). p.0) (same_Some y x (sym is ∙ ap leaders same ∙ at)) in omega (arith, e))
      | inr apart ↦ omega (arith, above, b.most j y (omega (arith, low, apart)) is)
    ];
  }

  by_term : (best x : ℕ × ℕ) → leaders n ≡ Some x → HasBest leaders n best → (above : Bool) → nat_lt best.0 x.0 ≡ above → IsGreatest leaders (n + 1) (if above then Some x else Some best)
  by_term best x at b true is = is_better best x at (grind (arith, nat_tests, is)) b
  by_term best x at b false is = stays_best best (Some x) at (λ y same. (let e : x.0 ≡ y.0 = ap (λ (p : ℕ × ℕ). p.0) (same_Some x y same) in let le : x.0 ≤ best.0 = grind (arith, nat_tests, is) in omega (arith, e, le))) b

  -- with one leader more
  pub one_more_leader : (first second : Option (ℕ × ℕ)) → leaders n ≡ second → IsGreatest leaders n first → IsGreatest leaders (n + 1) (later_of first second)
  one_more_leader None None at g = none_more at g
  one_more_leader None (Some x) at g = first_one x at g
  one_more_leader (Some best) None at g = stays_best best None at (λ x same. absurd (none-some x same)) g
  one_more_leader (Some best) (Some x) at g = by_term best x at g (nat_lt best.0 x.0) refl

-- what each of these servers serves
abbrev pub served_at : {S : Type 0} → List (Server S) → ℕ → Option (ℕ × ℕ)
served_at servers j = option_and_then served_by (slice_get servers j)

-- the role of memory is that of the server that it stands for
serving_here : (d : Durable) (me : Running) (s : ServerIs) → server_of d me ≡ s → (l : Leader) → s.role ≡ Serving l → (number : ℕ) → served_in me.term number me.role ≡ Some (me.term, number)
unfolding server_of
serving_here d me s is l serves number = by me.role (ap (λ (x : ServerIs). x.role) is ∙ serves)
  where
    by : (role : Role) → role_in_memory role ≡ Serving l → served_in me.term number role ≡ Some (me.term, number)
    by Follower same = cc
    by (Candidate candidacy) same = cc
    by (Merging leader) same = cc
    by (ServingHere leader) same = refl

role_there : (d : Durable) (me : Running) (s : ServerIs) → server_of d me ≡ s → role_in_memory me.role ≡ s.role
unfolding server_of
role_there d me s is = ap (λ (x : ServerIs). x.role) is

module _ {S : Type 0} (model : StoreModel S) (setup : Setup) (g : Group) (network : Network S) (shows : Shows model setup network g) where
  module _ (i : ℕ) (me : Server S) (here : slice_get network.servers.items i ≡ Some me) where
    -- a server of the network that runs is the group's
    pub is_running_at : (r : Running) → me.state ≡ RunsHere r → IsRunningAt g i r
    is_running_at r is = let m = shows.members i me here in by m.0 m.1 (subst (λ (state : State). Meets model me.seat me.store state m.0) is m.2.meets)
      where
        by : (c : Condition) → slice_get g.servers i ≡ Some c → Meets model me.seat me.store (RunsHere r) c → IsRunningAt g i r
        by (RunningIs s) there meets = record { s = s; runs = there; memory = record { server_is = meets.is; cached = meets.stands.cached } }
        by (StoppedIs life before after) there meets = absurd meets
        by UnformattedIs there meets = absurd meets

    pub idles : state_runs me.state ≡ false → Idles g i
    idles idle s there = true≢false (sym (running_there model me.seat me.store me.state s (member_at model setup network.servers.items g.servers shows.members i me (RunningIs s) here there).meets) ∙ idle)

    its_number : me.seat.number ≡ i
    its_number = ap (λ seat. seat.number) (shows.members i me here).2.seat

    serves_by : (x : ℕ × ℕ) → i < 3 → served_by me ≡ Some x → ServesInTerm g i x.0 × (x.1 ≡ i)
    serves_by x low is = by me.state refl is
      where
        by_role : (r : Running) → IsRunningAt g i r → (role : Role) → r.role ≡ role → served_in r.term me.seat.number role ≡ Some x → ServesInTerm g i x.0 × (x.1 ≡ i)
        by_role r at (ServingHere leader) is served =
            let same = same_Some (r.term, me.seat.number) x served in (
              record {
                low = low;
                s = at.s;
                leader = leader_in_memory leader;
                runs = at.runs;
                serves = sym (role_there at.s.durable r at.s at.memory.server_is) ∙ ap role_in_memory is;
                in_term = sym at.memory.cached.term ∙ ap (λ (p : ℕ × ℕ). p.0) same;
              },
              sym (ap (λ (p : ℕ × ℕ). p.1) same) ∙ its_number,
            )
        by_role r at Follower is served = absurd (none-some x served)
        by_role r at (Candidate candidacy) is served = absurd (none-some x served)
        by_role r at (Merging leader) is served = absurd (none-some x served)

        by : (state : State) → me.state ≡ state → served_of me.seat.number state ≡ Some x → ServesInTerm g i x.0 × (x.1 ≡ i)
        by (RunsHere r) is served = by_role r (is_running_at r is) r.role refl served
        by (Stopped life doubt) is served = absurd (none-some x served)
        by Unformatted is served = absurd (none-some x served)

    served_so : (term : ℕ) → ServesInTerm g i term → served_by me ≡ Some (term, i)
    served_so term serves = by me.state (member_at model setup network.servers.items g.servers shows.members i me (RunningIs serves.s) here serves.runs).meets
      where
        by : (state : State) → Meets model me.seat me.store state (RunningIs serves.s) → served_of me.seat.number state ≡ Some (term, i)
        by (RunsHere r) meets =
            serving_here serves.s.durable r serves.s meets.is serves.leader serves.serves me.seat.number
            ∙ ap (λ (t : ℕ). Some (t, me.seat.number)) (meets.stands.cached.term ∙ serves.in_term) ∙ ap (λ (n : ℕ). Some (term, n)) its_number
        by (Stopped life doubt) meets = absurd meets
        by Unformatted meets = absurd meets

  there : (i : ℕ) → i < 3 → (me : Server S) × (slice_get network.servers.items i ≡ Some me)
  there i low = something_there network.servers.items i (omega (arith, low, shows.three))

  serves_there : (i : ℕ) (x : ℕ × ℕ) → i < 3 → served_at network.servers.items i ≡ Some x → ServesInTerm g i x.0 × (x.1 ≡ i)
  serves_there i x low is = let t = there i low in serves_by i t.0 t.1 x low (sym (ap (option_and_then served_by) t.1) ∙ is)

  served_when : (i term : ℕ) → ServesInTerm g i term → served_at network.servers.items i ≡ Some (term, i)
  served_when i term serves = let t = there i serves.low in ap (option_and_then served_by) t.1 ∙ served_so i t.0 t.1 term serves

  -- the best of the three is the group's leader
  pub is_leader : (leader : Option (ℕ × ℕ)) → IsGreatest (served_at network.servers.items) 3 leader → IsLeader g leader
  is_leader None none = λ i term serves. none-some (term, i) (sym (none i serves.low) ∙ served_when i term serves)
  is_leader (Some best) b =
      let its = serves_there b.k best b.low b.is in
      (subst (λ n. ServesInTerm g n best.0) (sym its.1) its.0, λ j other serves. b.most j (other, j) serves.low (served_when j other serves))
