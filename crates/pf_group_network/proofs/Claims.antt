-- A claim, server by server.
use Rattle.std.proofs.Common.{◌≡◌, ℕ, false, inl, List, [], ◌∷◌, ◌++◌, Option, Some, None, Result, Ok, Err, slice_get, slice_set, refl, sym, ap, subst, ◌∙◌}
use Rattle.std.specs.Vec.{with_item}
use Rattle.std.specs.Option.{option_map}
use Rattle.pf_base.specs.declared.errors.NoMemory.{NoMemory}
use Rattle.pf_entry.specs.Lists.{Every}
use Rattle.pf_entry.specs.declared.ops.Job.{Job}
use Rattle.pf_server_store.specs.Stores.{StoreModel}
use Rattle.pf_protocol.specs.declared.answers.Answer.{Answer}
use Rattle.pf_protocol.specs.declared.answers.Answer.TheVariants.{Job as JobIs, Refused}
use Rattle.pf_protocol.specs.declared.answers.Refusal.TheVariants.{Halted, NoneFree}
use Rattle.pf_protocol.specs.declared.events.Event.TheVariants.{Claim}
use Rattle.pf_protocol.specs.Servers.{Setup, Server as ServerIs, Condition, Running as RunningIs, Stopped as StoppedIs, Unformatted as UnformattedIs}
use Rattle.pf_protocol.specs.Leading.{op_at}
use Rattle.pf_protocol.specs.Saving.{claimable, claimed}
use Rattle.pf_protocol.specs.Groups.{Group, claim_at, least_claim, claim_or, first_claim, happens}
use Rattle.pf_group_network.specs.Pasts.{GroupPast}
use Rattle.pf_protocol.specs.Answers.{answer_to, claim_answer, claim_answer_at}
use Rattle.pf_server.specs.declared.server.Server.{Server}
use Rattle.pf_server.specs.Conditions.{Meets, state_runs}
use Rattle.pf_server.specs.Turns.{Claims}
use Rattle.pf_group_network.specs.declared.network.Network.{Network}
use Rattle.pf_group_network.specs.Claiming.{ClaimsAt, IsClaimedAt}
use Rattle.pf_group_network.specs.Going.{HasGone, IsReached, KeepsStores}
use Rattle.pf_group_network.specs.Showing.{IsMember, Shows, taken_of}
use Rattle.pf_group_network.proofs.Alone.{alone, alone_still}
use Rattle.pf_group_network.proofs.TurnBegins.{its_condition}
use Rattle.pf_group_network.proofs.Laws.{its_number}
use Rattle.pf_group_network.proofs.ServerTurns.{stopped_idles, unformatted_idles}
use Rattle.pf_group_network.proofs.CrashedDisks.{touches_kept}

module _ {S : Type 0} (model : StoreModel S) (setup : Setup) (past : GroupPast) (old : Network S) (reached : IsReached model setup past old) where
  abbrev g : Group
  g = past.group

  module _ (i : ℕ) (me next : Server S) (here : slice_get old.servers.items i ≡ Some me) (seat : next.seat ≡ me.seat) (told_same : model.told next.store ≡ model.told me.store) where
    abbrev new : Network S
    new = record old { servers = with_item old.servers i next }

    member : (was c : Condition) → IsMember model setup i me was → Meets model me.seat next.store next.state c → IsMember model setup i next c
    member was c m meets = record { seat = seat ∙ m.seat; meets = subst (λ s. Meets model s next.store next.state c) (sym seat) meets }

    pub claims_at : (result : Result (Option Job) NoMemory) → ((s : ServerIs) → Meets model me.seat me.store me.state (RunningIs s) → Claims model me.seat next.store next.state s result) → (state_runs me.state ≡ false → (result ≡ Ok None) × (next ≡ me)) → ClaimsAt model setup g i new result
    claims_at result step down =
        let m = its_condition model setup past old reached i me here in
        by m.0 m.1 m.2
      where
        idle : (c : Condition) → slice_get g.servers i ≡ Some c → IsMember model setup i me c → least_claim setup.window (Some c) ≡ None → (result ≡ Ok None) × (next ≡ me) → ClaimsAt model setup g i new result
        idle c there m none d = subst (ClaimsAt model setup g i new) (sym d.0)
            (ap (least_claim setup.window) there ∙ none, alone_still model setup g old reached.shows i next c there (subst (λ (x : Server S). IsMember model setup i x c) (sym d.1) m))

        running : (s : ServerIs) → slice_get g.servers i ≡ Some (RunningIs s) → IsMember model setup i me (RunningIs s) → (r : Result (Option Job) NoMemory) → Claims model me.seat next.store next.state s r → ClaimsAt model setup g i new r
        running s there m (Ok (Some job)) c = record {
          s = s;
          runs = there;
          least = ap (λ w. claimable w s) reached.viable.is_setup.window ∙ c.least;
          job_is = c.job_is ∙ ap (λ (n : ℕ). record { server = n; life = s.life; slot = job.slot; op = op_at s.durable.log job.slot }) (its_number setup past reached.viable i s there);
          shows = alone model setup g old reached.shows i next (RunningIs s) (RunningIs (claimed s job.slot)) there (member (RunningIs s) (RunningIs (claimed s job.slot)) m c.meets);
        }
        running s there m (Ok None) c = (ap (least_claim setup.window) there ∙ ap (λ w. claimable w s) reached.viable.is_setup.window ∙ c.0, alone_still model setup g old reached.shows i next (RunningIs s) there (member (RunningIs s) (RunningIs s) m c.1.meets))
        running s there m (Err e) c = alone_still model setup g old reached.shows i next (RunningIs s) there (member (RunningIs s) (RunningIs s) m c.meets)

        by : (c : Condition) → slice_get g.servers i ≡ Some c → IsMember model setup i me c → ClaimsAt model setup g i new result
        by (RunningIs s) there m = running s there m result (step s m.meets)
        by (StoppedIs its before after) there m = idle (StoppedIs its before after) there m refl (down (stopped_idles model me.seat me.store me.state its before after m.meets))
        by UnformattedIs there m = idle UnformattedIs there m refl (down (unformatted_idles model me.seat me.store me.state m.meets))

  -- the network stands for the same group
  pub still_reached : (later : Network S) → Shows model setup later g → IsReached model setup past later
  still_reached later shows = record { viable = reached.viable; short = reached.short; shows = shows }

skipped : (window i : ℕ) (c : Option Condition) (rest : Answer) → least_claim window c ≡ None → claim_answer_at i c (least_claim window c) rest ≡ rest
skipped window i (Some (RunningIs s)) rest none = ap (λ o. claim_answer_at i (Some (RunningIs s)) o rest) none
skipped window i (Some (StoppedIs life before after)) rest none = refl
skipped window i (Some UnformattedIs) rest none = refl
skipped window i None rest none = refl

abbrev pub HasNone : (window : ℕ) → Group → ℕ → Type 0
HasNone window g i = least_claim window (slice_get g.servers i) ≡ None

none_answer : (window : ℕ) (g : Group) (is : List ℕ) → Every (HasNone window g) is → claim_answer window g is ≡ Refused NoneFree
none_answer window g [] none = refl
none_answer window g (i ∷ is) none = skipped window i (slice_get g.servers i) (claim_answer window g is) none.0 ∙ none_answer window g is none.1

found_answer : (window : ℕ) (g : Group) (before rest : List ℕ) (i : ℕ) (s : ServerIs) (slot : ℕ) → Every (HasNone window g) before → slice_get g.servers i ≡ Some (RunningIs s) → claimable window s ≡ Some slot
    → claim_answer window g (before ++ i ∷ rest) ≡ JobIs (record { server = i; life = s.life; slot = slot; op = op_at s.durable.log slot })
found_answer window g [] rest i s slot none runs_so least =
    ap (λ c. claim_answer_at i c (least_claim window c) (claim_answer window g rest)) runs_so ∙ ap (λ o. claim_answer_at i (Some (RunningIs s)) o (claim_answer window g rest)) least
found_answer window g (j ∷ js) rest i s slot none runs_so least =
    skipped window j (slice_get g.servers j) (claim_answer window g (js ++ i ∷ rest)) none.0 ∙ found_answer window g js rest i s slot none.1 runs_so least

found_group : (window : ℕ) (g : Group) (before rest : List ℕ) (i : ℕ) (s : ServerIs) (slot : ℕ) → Every (HasNone window g) before → slice_get g.servers i ≡ Some (RunningIs s) → claimable window s ≡ Some slot
    → first_claim window g (before ++ i ∷ rest) ≡ record g { servers = slice_set g.servers i (RunningIs (claimed s slot)) }
found_group window g [] rest i s slot none runs_so least =
    ap (λ c. claim_or g i (least_claim window c) (first_claim window g rest)) runs_so ∙ ap (λ o. claim_or g i o (first_claim window g rest)) least ∙ ap (λ c. claim_at g i c (Some slot)) runs_so
found_group window g (j ∷ js) rest i s slot none runs_so least =
    ap (λ o. claim_or g j o (first_claim window g (js ++ i ∷ rest))) none.0 ∙ found_group window g js rest i s slot none.1 runs_so least

module _ {S : Type 0} (model : StoreModel S) (setup : Setup) (g : Group) (old later : Network S) (stores : KeepsStores old later) (taken : taken_of later ≡ taken_of old) where
  -- some server has a job
  pub claims_job : (before rest : List ℕ) (i : ℕ) → before ++ i ∷ rest ≡ 0 ∷ 1 ∷ 2 ∷ [] → Every (HasNone setup.window g) before → (job : Job) → IsClaimedAt model setup g i later job
      → (answer : Answer) → answer ≡ JobIs job → HasGone model setup g Claim old later answer
  unfolding answer_to happens
  claims_job before rest i all none job c answer is =
      subst (HasGone model setup g Claim old later) (sym is) (record {
        answered = inl (ap JobIs c.job_is ∙ sym (ap (claim_answer setup.window g) (sym all) ∙ found_answer setup.window g before rest i c.s job.slot none c.runs c.least));
        shows = subst (Shows model setup later) (sym (ap (first_claim setup.window g) (sym all) ∙ found_group setup.window g before rest i c.s job.slot none c.runs c.least)) c.shows;
        cause = λ halted. absurd (apart halted);
        crash = touches_kept model.was _ _ _ old later stores;
        others = λ i own. stores i;
        quiet = λ quiet. stores;
        tells = λ i. ap (option_map model.told) (stores i);
        taken = taken;
      })
    where
      apart : JobIs job ≡ Refused Halted → ⊥
      apart is = cc

  -- no server has one
  pub claims_none : Every (HasNone setup.window g) (0 ∷ 1 ∷ 2 ∷ []) → Shows model setup later g → HasGone model setup g Claim old later (Refused NoneFree)
  unfolding answer_to happens
  claims_none none shows = record { answered = inl (sym (none_answer setup.window g (0 ∷ 1 ∷ 2 ∷ []) none)); shows = shows; cause = λ halted. absurd (apart halted); crash = touches_kept model.was _ _ _ old later stores; others = λ i own. stores i; quiet = λ quiet. stores; tells = λ i. ap (option_map model.told) (stores i); taken = taken }
    where
      apart : Refused NoneFree ≡ Refused Halted → ⊥
      apart is = cc
