-- What the network of a group stands for, before an event and after it.
use Rattle.std.proofs.Common.{◌≡◌, ℕ, suc, ◌+◌, ◌<◌, ◌≤◌, ◌^◌, [], ◌∷◌, ◌++◌, length, Bool, false, Option, Some, None, IfSome, IsTrue, Ok, slice_get, arith, refl, sym, ap, subst, ◌∙◌}
use Rattle.std.proofs.lemmas.Bool.{false≢true}
use Rattle.std.proofs.lemmas.List.{length-append}
use Rattle.pf_entry.specs.Records.{Durable}
use Rattle.pf_protocol.specs.Servers.{Setup, Condition, Running, Stopped, Unformatted}
use Rattle.pf_protocol.specs.Groups.{Group, ending, happens, opening}
use Rattle.pf_protocol.specs.Histories.{History, replay}
use Rattle.pf_protocol.specs.Answers.{IsAnswer, IsLegal, IsSetup, MayHappen, claims_after, claims_of}
use Rattle.pf_protocol.specs.declared.answers.Answer.{Answer}
use Rattle.pf_protocol.specs.declared.events.Event.{Event}
use Rattle.pf_protocol.specs.declared.events.Event.TheVariants.{Restart}
use Rattle.pf_protocol.specs.declared.events.Happening.{Happening}
use Rattle.pf_protocol.specs.Fitting.{ConditionFits, DurableFits}
use Rattle.pf_protocol.proofs.ForMoments.{legal_goes_on, replay_goes_on}
use Rattle.pf_protocol.proofs.ForRows.{few_starts}
use Rattle.pf_protocol.proofs.ForHistories.{legal_fits, viable_opening}
use Rattle.pf_server_store.specs.Stores.{StoreModel}
use Rattle.pf_group_network.specs.pf_server.specs.Conditions.{StoppedIsFit, IsHonest}
use Rattle.pf_group_network.specs.pf_server.specs.declared.server.Server.{Server}
use Rattle.pf_group_network.specs.declared.network.Network.{Network}
use Rattle.pf_group_network.specs.Going.{HasBegunSomehow, HasGone, HasStayed, IsHonestAt, IsToldAt}
use Rattle.pf_group_network.specs.Pasts.{GroupPast}
use Rattle.pf_group_network.specs.Showing.{Shows, seat_of}
use Rattle.pf_group_network.proofs.Fits.{durable_fits}
use Rattle.pf_group_network.proofs.Next.{past_after, reached_after, somehow_leads_on}
use Rattle.pf_group.specs.declared.event.GroupEvent.{GroupEvent}
use Rattle.pf_group.specs.declared.event.GroupEvent.TheVariants as asked
use Rattle.pf_group.specs.Reacting.{RestartIsTold}
use Rattle.pf_group.specs.Standing.{AllTell, NetworkStandsFor}
use Rattle.pf_group.proofs.Claims.{claims_more}

-- no restart refuses a server of the replay of a legal history
module _ (setup : Setup) (history : History) (legal : IsLegal setup history) (short : length history ≤ 2 ^ 32) where
  few_elections : suc (replay setup history).elections ≤ 65
  few_elections = omega (arith, (legal_fits setup history legal).elections)

  is_fit : (i : ℕ) (d : Durable) → DurableFits setup (length history) (suc (replay setup history).elections) d → StoppedIsFit (seat_of setup i) d
  is_fit i d f = record {
    n = length history;
    t = suc (replay setup history).elections;
    low = omega (arith, short);
    t_low = omega (arith, few_elections);
    fits = durable_fits setup i (length history) (suc (replay setup history).elections) legal.is_setup.window d f;
    few = omega (arith, few_elections, few_starts (length history) (suc (replay setup history).elections) d.starts f.vote.starts);
  }

  honest : (i : ℕ) (c : Condition) → ConditionFits setup (length history) (suc (replay setup history).elections) c → IsHonest (seat_of setup i) c
  honest i (Running s) f = is_fit i s.durable f.durable
  honest i (Stopped life before after) f = (is_fit i before f.1, is_fit i after f.2)
  honest i Unformatted f = tt

  honest_here : (i : ℕ) (o : Option Condition) → slice_get (replay setup history).servers i ≡ o → IfSome o (IsHonest (seat_of setup i))
  honest_here i (Some c) at = honest i c ((legal_fits setup history legal).servers i c at).1
  honest_here i None at = tt

  pub honest_at : (past : GroupPast) → past.group ≡ replay setup history → (i : ℕ) → IsHonestAt setup past.group i
  honest_at past same i = subst (λ g. IsHonestAt setup g i) (sym same) (honest_here i (slice_get (replay setup history).servers i) refl)

module _ {S : Type 0} (told : S → Bool) where
  pub told_at : (network : Network S) → AllTell told network → (i : ℕ) → IsToldAt told network i
  told_at network tell i = by (slice_get network.servers.items i) refl
    where
      by : (o : Option (Server S)) → slice_get network.servers.items i ≡ o → IfSome o (λ server. IsTrue (told server.store))
      by (Some server) there = tell i server there
      by None there = tt

module _ {S : Type 0} (model : StoreModel S) (tells : Bool) (setup : Setup) where
  -- a new group
  pub stands_opening : (history : History) (network : Network S) → IsSetup (record setup { failed = [] }) → history ≡ [] → Shows model setup network (opening setup) → NetworkStandsFor model tells setup history network
  stands_opening history network is empty shows =
      let its : IsSetup setup = record { few_names = is.few_names; some_sectors = is.some_sectors; few_sectors = is.few_sectors; blocks = is.blocks; format = is.format; window = is.window } in
      subst (λ h. NetworkStandsFor model tells setup h network) (sym empty) (record {
        past = record { group = opening setup; top = 2 ^ 63; count = 2 ^ 63 + 4096; terms = 1 ∷ []; claims = [] };
        reached = record {
          viable = record { is_setup = its; group = viable_opening setup (2 ^ 63) (2 ^ 63 + 4096) };
          short = record { count = omega arith; top = omega arith };
          shows = shows;
        };
        covers = record { count = omega arith; top = omega arith };
        most = omega arith;
        claims = refl;
        replays = λ tell. record { same = refl; legal = record { is_setup = its; legal = tt } };
      })

  module _ (history : History) (old : Network S) (stands : NetworkStandsFor model tells setup history old) where
    -- the network stands for the state after the history
    pub now_shows : IsTrue tells → Shows model setup old (replay setup history)
    now_shows tell = subst (Shows model setup old) (stands.replays tell).same stands.reached.shows

    -- a server that begins again is one that no restart refuses
    pub is_told : IsTrue tells → AllTell model.told old → length history ≤ 2 ^ 32 → (event : GroupEvent) → RestartIsTold model.told setup stands.past.group old event
    is_told tell all short (asked.Submit server range payload) = tt
    is_told tell all short (asked.Mark server) = tt
    is_told tell all short (asked.Fetch server range) = tt
    is_told tell all short (asked.Deliver k) = tt
    is_told tell all short (asked.Lose k) = tt
    is_told tell all short (asked.Elect server) = tt
    is_told tell all short (asked.Resend server) = tt
    is_told tell all short (asked.Stop server) = tt
    is_told tell all short (asked.Restart server) = let r = stands.replays tell in (told_at model.told old all server, honest_at setup history r.legal short stands.past r.same server)
    is_told tell all short asked.Claim = tt
    is_told tell all short (asked.Finish filled) = tt
    is_told tell all short (asked.Checkpoint server) = tt

    module _ (new : Network S) where
      abbrev Went : Group → Event → Answer → Type 0
      Went g event answer = HasGone model setup g event old new answer

      -- after one more event
      pub stands_after : (event : Event) (answer : Answer) (later : History) → later ≡ history ++ record { event = event; answer = answer } ∷ [] → length later ≤ 2 ^ 32 → MayHappen (claims_of [] history) event → Went stands.past.group event answer → NetworkStandsFor model tells setup later new
      stands_after event answer later is low asked gone =
          let h : Happening = record { event = event; answer = answer } in
          let one_more = length-append history (h ∷ []) in
          let short : length (history ++ h ∷ []) ≤ 2 ^ 32 = subst (λ l. length l ≤ 2 ^ 32) is low in
          subst (λ l. NetworkStandsFor model tells setup l new) (sym is) (record {
            past = past_after setup stands.past event answer;
            reached = reached_after model setup stands.past old new stands.reached (omega (arith, stands.most, one_more, short)) event answer (subst (λ claims. MayHappen claims event) (sym stands.claims) asked) gone;
            covers = record { count = omega (arith, stands.covers.count); top = stands.covers.top };
            most = omega (arith, stands.most, one_more);
            claims = ap (λ claims. claims_after claims event answer) stands.claims ∙ sym (claims_more history [] h);
            replays = λ tell.
                let r = stands.replays tell in
                record {
                  same = ap (λ g. happens setup g event (ending answer)) r.same ∙ sym (replay_goes_on setup history h);
                  legal = legal_goes_on setup history h r.legal (record { asked = asked; answered = subst (λ g. IsAnswer setup g event answer) r.same gone.answered });
                };
          })

      -- after a restart over disks that tell nothing
      pub stands_led : tells ≡ false → (i : ℕ) (found : Bool) (answer : Answer) (later : History) → later ≡ history ++ record { event = Restart i found; answer = answer } ∷ [] → length later ≤ 2 ^ 32 → i < 3 → HasBegunSomehow model setup stands.past.group i old new answer → NetworkStandsFor model tells setup later new
      stands_led none i found answer later is low three begun =
          let h : Happening = record { event = Restart i found; answer = answer } in
          let one_more = length-append history (h ∷ []) in
          let short : length (history ++ h ∷ []) ≤ 2 ^ 32 = subst (λ l. length l ≤ 2 ^ 32) is low in
          let led = somehow_leads_on model setup stands.past old new stands.reached (omega (arith, stands.most, one_more, short)) stands.covers i three (Ok (answer, found)) begun in
          subst (λ l. NetworkStandsFor model tells setup l new) (sym is) (record {
            past = led.later;
            reached = led.reached;
            covers = record { count = omega (arith, stands.covers.count, led.least); top = subst (λ t. 2 ^ 63 ≤ t) (sym led.top) stands.covers.top };
            most = omega (arith, stands.most, led.most, one_more);
            claims = led.claims ∙ stands.claims ∙ sym (claims_more history [] h);
            replays = λ tell. absurd (false≢true (sym none ∙ tell));
          })

      -- where there was no memory for it
      pub stands_still : (later : History) → later ≡ history → Shows model setup new stands.past.group → NetworkStandsFor model tells setup later new
      stands_still later is shows = subst (λ l. NetworkStandsFor model tells setup l new) (sym is) (record {
        past = stands.past;
        reached = record { viable = stands.reached.viable; short = stands.reached.short; shows = shows };
        covers = stands.covers;
        most = stands.most;
        claims = stands.claims;
        replays = stands.replays;
      })

      -- what came of an event, said of the state after the history
      pub went_now : IsTrue tells → (event : Event) (answer : Answer) → Went stands.past.group event answer → Went (replay setup history) event answer
      went_now tell event answer gone = subst (λ g. Went g event answer) (stands.replays tell).same gone

      pub stayed_now : IsTrue tells → (own : Option ℕ) → HasStayed model setup stands.past.group own old new → HasStayed model setup (replay setup history) own old new
      stayed_now tell own stayed = subst (λ g. HasStayed model setup g own old new) (stands.replays tell).same stayed
