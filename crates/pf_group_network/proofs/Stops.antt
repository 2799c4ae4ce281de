-- A server stops, and begins again.
use Rattle.std.proofs.Common.{◌≡◌, ◌⊎◌, ℕ, suc, Bool, true, false, cond, inl, inr, Some, IfOk, IfSome, IsTrue, Result, Ok, Err, slice_get, slice_set, refl, sym, ap, subst, ◌∙◌}
use Rattle.std.proofs.lemmas.Option.{slice_get_within}
use Rattle.std.proofs.lemmas.Bool.{false≢true}
use Rattle.std.specs.Option.{option_map}
use Rattle.std.specs.Vec.{with_item}
use Rattle.pf_base.specs.declared.errors.NoMemory.{NoMemory}
use Rattle.pf_entry.specs.Records.{Durable}
use Rattle.pf_protocol.specs.declared.answers.Answer.{Answer}
use Rattle.pf_protocol.specs.declared.answers.Answer.TheVariants.{Done, Refused}
use Rattle.pf_protocol.specs.declared.answers.Refusal.TheVariants.{Down, Halted, NotOurs}
use Rattle.pf_protocol.specs.declared.events.Event.TheVariants.{Restart, Stop}
use Rattle.pf_protocol.specs.Servers.{Setup, Server as ServerIs, Condition, Running as RunningIs, Stopped as StoppedIs, Unformatted as UnformattedIs}
use Rattle.pf_protocol.specs.Groups.{CutOff, Group, ending, happens, only_whole, restart, stopped}
use Rattle.pf_protocol.specs.Saving.{renewed, restarted}
use Rattle.pf_server_store.specs.Stores.{StoreModel}
use Rattle.pf_group_network.specs.Pasts.{GroupPast}
use Rattle.pf_protocol.specs.Answers.{answer_to, is_formatted, may_halt, restart_answer, stop_answer}
use Rattle.pf_server.specs.declared.server.Server.{Server}
use Rattle.pf_server.specs.Conditions.{IsHonest, IsKnown, Meets, state_runs}
use Rattle.pf_server.specs.Turns.{Begins, BeginsAgain, BeginsSomehow, StopsUnread, WasBegunIn, next_life, stopped_in}
use Rattle.pf_group_network.specs.declared.network.Network.{Network}
use Rattle.pf_group_network.specs.Going.{GoesBack, GoesSomehow, HasFault, HasGone, IsHonestAt, IsReached, IsToldAt, ShowsSomehow, KeepsOthers, KeepsStores, KeepsTelling, Touches}
use Rattle.pf_group_network.specs.Readings.{taken_after}
use Rattle.pf_group_network.specs.Showing.{IsMember, Shows, seat_of, taken_of}
use Rattle.pf_group_network.proofs.Alone.{alone, alone_still}
use Rattle.pf_group_network.proofs.TurnBegins.{its_condition}
use Rattle.pf_group_network.proofs.Laws.{is_known}
use Rattle.pf_group_network.proofs.Lists.{set_there}
use Rattle.pf_server_restart.specs.Beginning.{ServerHasBegun, setup_of_seat}
use Rattle.pf_group_network.proofs.Stores.{others_kept, stores_kept, telling_kept}
use Rattle.pf_group_network.proofs.ServerTurns.{stopped_idles, unformatted_idles}
use Rattle.pf_group_network.proofs.CrashedDisks.{begun_touches, touches_kept, touches_one}

module _ {S : Type 0} (model : StoreModel S) (setup : Setup) (past : GroupPast) (old : Network S) (reached : IsReached model setup past old) (i : ℕ) (me next : Server S) (here : slice_get old.servers.items i ≡ Some me) (seat : next.seat ≡ me.seat) (told_same : model.told next.store ≡ model.told me.store) where
  abbrev g : Group
  g = past.group

  abbrev new : Network S
  new = record old { servers = with_item old.servers i next }

  member : (was c : Condition) → IsMember model setup i me was → Meets model me.seat next.store next.state c → IsMember model setup i next c
  member was c m meets = record { seat = seat ∙ m.seat; meets = subst (λ s. Meets model s next.store next.state c) (sym seat) meets }

  elsewhere : KeepsOthers (Some i) old new
  elsewhere = others_kept old new i next refl

  telling : KeepsTelling model.told old new
  telling = telling_kept old new i next refl model.told me here told_same

  -- Stop
  module _ (result : Answer) (step : (s : ServerIs) → Meets model me.seat me.store me.state (RunningIs s) → (result ≡ Done) × Meets model me.seat next.store next.state (StoppedIs (suc s.life) s.durable s.durable)) (down : state_runs me.state ≡ false → (result ≡ Refused Down) × (next ≡ me)) (kept : next.store ≡ me.store) where
    stores : KeepsStores old new
    stores = stores_kept old new i next refl me here kept

    -- what the event makes of the group
    comes : (c : Condition) → slice_get g.servers i ≡ Some c → (answer : Answer) → happens setup g (Stop i) (ending answer) ≡ only_whole (ending answer) g (stopped g i (Some c))
    unfolding happens
    comes c there answer = ap (λ x. only_whole (ending answer) g (stopped g i x)) there

    answers : (c : Condition) → slice_get g.servers i ≡ Some c → answer_to setup g (Stop i) ≡ stop_answer (Some c)
    unfolding answer_to
    answers c there = ap stop_answer there

    stays : (c : Condition) → slice_get g.servers i ≡ Some c → IsMember model setup i me c → stop_answer (Some c) ≡ Refused Down → (result ≡ Refused Down) × (next ≡ me) → HasGone model setup g (Stop i) old new result
    stays c there m right d = record {
      answered = inl (d.0 ∙ sym (answers c there ∙ right));
      shows = subst (Shows model setup new) (sym (comes c there result ∙ ap (λ a. only_whole (ending a) g (stopped g i (Some c))) d.0))
          (alone_still model setup g old reached.shows i next c there (subst (λ x. IsMember model setup i x c) (sym d.1) m));
      cause = λ halted. absurd (down_apart (sym d.0 ∙ halted));
      crash = touches_kept model.was _ _ _ old new stores;
      others = elsewhere;
      quiet = λ quiet. stores;
      tells = telling;
      taken = ap (taken_after (taken_of old)) (sym d.0);
    }
      where
        down_apart : Refused Down ≡ Refused Halted → ⊥
        down_apart is = cc

    by_condition : (c : Condition) → slice_get g.servers i ≡ Some c → IsMember model setup i me c → HasGone model setup g (Stop i) old new result
    by_condition (RunningIs s) there m =
        let d = step s m.meets in
        record {
          answered = inl (d.0 ∙ sym (answers (RunningIs s) there));
          shows = subst (Shows model setup new) (sym (comes (RunningIs s) there result ∙ ap (λ a. only_whole (ending a) g (stopped g i (Some (RunningIs s)))) d.0))
              (alone model setup g old reached.shows i next (RunningIs s) (StoppedIs (suc s.life) s.durable s.durable) there (member (RunningIs s) (StoppedIs (suc s.life) s.durable s.durable) m d.1));
          cause = λ halted. absurd (done_apart (sym d.0 ∙ halted));
          crash = touches_kept model.was _ _ _ old new stores;
          others = elsewhere;
          quiet = λ quiet. stores;
          tells = telling;
          taken = ap (taken_after (taken_of old)) (sym d.0);
        }
      where
        done_apart : Done ≡ Refused Halted → ⊥
        done_apart is = cc
    by_condition (StoppedIs life before after) there m = stays (StoppedIs life before after) there m refl (down (stopped_idles model me.seat me.store me.state life before after m.meets))
    by_condition UnformattedIs there m = stays UnformattedIs there m refl (down (unformatted_idles model me.seat me.store me.state m.meets))

    pub stops : HasGone model setup g (Stop i) old new result
    stops = let m = its_condition model setup past old reached i me here in by_condition m.0 m.1 m.2

  -- Restart
  fault : model.rose me.store next.store → HasFault model.rose i old new
  fault risen = record { before = me; after = next; was = here; is = set_there old.servers.items i next (slice_get_within old.servers.items i me here); risen = risen }

  touch : (later : Group) (c : Condition) → slice_get g.servers i ≡ Some c → WasBegunIn model.was me.store next.store c → Touches model.was g later (Some i) old new
  touch later c there left = touches_one model.was g later i old new me next here
      (ap (option_map (λ (x : Server S). x.store)) (set_there old.servers.items i next (slice_get_within old.servers.items i me here))) (begun_touches model.was g later i me.store next.store c there left)

  ways : (life : ℕ) (before after : Durable) (found : Bool) (answer : Answer) → Begins model me.seat me.store next.store next.state life before after found answer
      → ((answer ≡ Done) × Meets model me.seat next.store next.state (RunningIs (restarted me.seat.number (suc life) (renewed (cond found after before))))) ⊎ ((answer ≡ Refused Halted) × Meets model me.seat next.store next.state (StoppedIs (suc life) before after) × model.rose me.store next.store)
  ways life before after found Done b = inl (refl, b)
  ways life before after found (Refused Halted) b = inr (refl, b.0, b.1)
  ways life before after found _ b = absurd b

  restart_comes : (c : Condition) (found : Bool) → slice_get g.servers i ≡ Some c → (answer right : Answer) → answer ≡ right → happens setup g (Restart i found) (ending answer) ≡ restart (ending right) g i found (Some c)
  unfolding happens
  restart_comes c found there answer right is = ap (λ x. restart (ending answer) g i found x) there ∙ ap (λ a. restart (ending a) g i found (Some c)) is

  restart_answers : (c : Condition) (found : Bool) → slice_get g.servers i ≡ Some c → (answer_to setup g (Restart i found) ≡ restart_answer (Some c)) × (may_halt setup g (Restart i found) ≡ is_formatted (Some c))
  unfolding answer_to may_halt
  restart_answers c found there = (ap restart_answer there, ap is_formatted there)

  begins : (c : Condition) (life : ℕ) (before after : Durable) (found : Bool) (answer : Answer) → slice_get g.servers i ≡ Some c → IsMember model setup i me c
      → restart_answer (Some c) ≡ Done → is_formatted (Some c) ≡ true
      → restart (ending Done) g i found (Some c) ≡ record g { servers = slice_set g.servers i (RunningIs (restarted i (suc life) (renewed (cond found after before)))) }
      → restart (ending (Refused Halted)) g i found (Some c) ≡ record g { servers = slice_set g.servers i (StoppedIs (suc life) before after) }
      → Begins model me.seat me.store next.store next.state life before after found answer → WasBegunIn model.was me.store next.store c → HasGone model setup g (Restart i found) old new answer
  begins c life before after found answer there m right formatted whole cut b left = elim (ways life before after found answer b) [
    | inl done ↦ record {
      answered = inl (done.0 ∙ sym ((restart_answers c found there).0 ∙ right));
      shows = subst (Shows model setup new) (sym (restart_comes c found there answer Done done.0 ∙ whole))
          (alone model setup g old reached.shows i next c (RunningIs (restarted i (suc life) (renewed (cond found after before)))) there
          (member c (RunningIs (restarted i (suc life) (renewed (cond found after before)))) m
          (subst (λ k. Meets model me.seat next.store next.state (RunningIs (restarted k (suc life) (renewed (cond found after before))))) (ap (λ x. x.number) m.seat) done.1)));
      cause = λ halted. absurd (done_apart (sym done.0 ∙ halted));
      crash = touch _ c there left;
      others = elsewhere;
      quiet = λ quiet. absurd (false≢true quiet);
      tells = telling;
      taken = ap (taken_after (taken_of old)) (sym done.0);
    }
    | inr halt ↦ record {
      answered = inr ((restart_answers c found there).1 ∙ formatted, halt.0);
      shows = subst (Shows model setup new) (sym (restart_comes c found there answer (Refused Halted) halt.0 ∙ cut))
          (alone model setup g old reached.shows i next c (StoppedIs (suc life) before after) there (member c (StoppedIs (suc life) before after) m halt.1));
      cause = λ halted. (i, refl, fault halt.2);
      crash = touch _ c there left;
      others = elsewhere;
      quiet = λ quiet. absurd (false≢true quiet);
      tells = telling;
      taken = ap (taken_after (taken_of old)) (sym halt.0);
    }
  ]
    where
      done_apart : Done ≡ Refused Halted → ⊥
      done_apart is = cc

  same_found : (found : Bool) (d : Durable) → cond found d d ≡ d
  same_found true d = refl
  same_found false d = refl

  restarts_at : (c : Condition) → slice_get g.servers i ≡ Some c → IsMember model setup i me c → (result : Result (Answer × Bool) NoMemory) → BeginsAgain model me.seat me.store next.store next.state c result → WasBegunIn model.was me.store next.store c → GoesBack model setup g i old new result
  restarts_at c there m (Err e) b left = record { shows = alone_still model setup g old reached.shows i next c there (member c c m (again c b)); crash = touch g c there left; others = elsewhere; tells = telling; taken = refl }
    where
      again : (x : Condition) → BeginsAgain model me.seat me.store next.store next.state x (Err e) → Meets model me.seat next.store next.state x
      again (RunningIs s) is = is
      again (StoppedIs life before after) is = is
      again UnformattedIs is = is
  restarts_at (RunningIs s) there m (Ok (answer, found)) b left =
      begins (RunningIs s) s.life s.durable s.durable found answer there m refl refl (ap (λ d. record g { servers = slice_set g.servers i (RunningIs (restarted i (suc s.life) (renewed d))) }) (sym (same_found found s.durable))) refl b left
  restarts_at (StoppedIs life before after) there m (Ok (answer, found)) b left = begins (StoppedIs life before after) life before after found answer there m refl refl refl refl b left
  restarts_at UnformattedIs there m (Ok (answer, found)) b left = record {
    answered = inl (b.0 ∙ sym (restart_answers UnformattedIs found there).0);
    shows = subst (Shows model setup new) (sym (restart_comes UnformattedIs found there answer (Refused NotOurs) b.0))
        (alone_still model setup g old reached.shows i next UnformattedIs there (member UnformattedIs UnformattedIs m b.1));
    cause = λ halted. absurd (ours_apart (sym b.0 ∙ halted));
    crash = touch _ UnformattedIs there left;
    others = elsewhere;
    quiet = λ quiet. absurd (false≢true quiet);
    tells = telling;
    taken = ap (taken_after (taken_of old)) (sym b.0);
  }
    where
      ours_apart : Refused NotOurs ≡ Refused Halted → ⊥
      ours_apart is = cc

  pub restarts : IsToldAt model.told old i → IsHonestAt setup g i → (result : Result (Answer × Bool) NoMemory) → (IsTrue (model.told me.store) → (c : Condition) → Meets model me.seat me.store me.state c → IsKnown me.seat c → IsHonest me.seat c → BeginsAgain model me.seat me.store next.store next.state c result) → (IsTrue (model.told me.store) → (c : Condition) → Meets model me.seat me.store me.state c → WasBegunIn model.was me.store next.store c) → GoesBack model setup g i old new result
  restarts is_told honest result step left =
      let m = its_condition model setup past old reached i me here in
      let tells : IsTrue (model.told me.store) = subst (λ o. IfSome o (λ (server : Server S). IsTrue (model.told server.store))) here is_told in
      let is_honest : IsHonest (seat_of setup i) m.0 = subst (λ o. IfSome o (IsHonest (seat_of setup i))) m.1 honest in
      restarts_at m.0 m.1 m.2 result (step tells m.0 m.2.meets (subst (λ s. IsKnown s m.0) (sym m.2.seat) (is_known setup past reached.viable reached.short i m.0 m.1)) (subst (λ s. IsHonest s m.0) (sym m.2.seat) is_honest)) (left tells m.0 m.2.meets)

  -- over any disks
  pub somehow : (result : Result (Answer × Bool) NoMemory) → ((c : Condition) → Meets model me.seat me.store me.state c → BeginsSomehow model me.seat next.store next.state c result) → IfOk result (λ r. r.0 ≡ Refused Halted → model.rose me.store next.store) → GoesSomehow model setup g i old new result
  somehow (Err e) step cause =
      let m = its_condition model setup past old reached i me here in
      record { shows = alone_still model setup g old reached.shows i next m.0 m.1 (member m.0 m.0 m.2 (step m.0 m.2.meets)); others = elsewhere; tells = telling; taken = refl }
  somehow (Ok (answer, found)) step cause =
      let m = its_condition model setup past old reached i me here in
      record {
        shows = shows_by m.0 m.1 m.2 answer (step m.0 m.2.meets);
        cause = λ halted. fault (cause halted);
        others = elsewhere;
        tells = telling;
        taken = refl;
      }
    where
      numbered : (c : Condition) → IsMember model setup i me c → (life : ℕ) (d : Durable) → Meets model me.seat next.store next.state (RunningIs (restarted me.seat.number life d)) → Meets model me.seat next.store next.state (RunningIs (restarted i life d))
      numbered c m life d = subst (λ k. Meets model me.seat next.store next.state (RunningIs (restarted k life d))) (ap (λ x. x.number) m.seat)

      unread : (c : Condition) → slice_get g.servers i ≡ Some c → IsMember model setup i me c → StopsUnread model me.seat next.store next.state c c → Shows model setup new (restart CutOff g i false (Some c))
      unread (RunningIs s) there m b = alone model setup g old reached.shows i next (RunningIs s) (StoppedIs (suc s.life) s.durable s.durable) there (member (RunningIs s) (StoppedIs (suc s.life) s.durable s.durable) m b)
      unread (StoppedIs life before after) there m b = alone model setup g old reached.shows i next (StoppedIs life before after) (StoppedIs (suc life) before after) there (member (StoppedIs life before after) (StoppedIs (suc life) before after) m b)
      unread UnformattedIs there m b = absurd b

      -- a running server is stopped
      not_found : (c : Condition) → slice_get g.servers i ≡ Some c → IsMember model setup i me c → Meets model me.seat next.store next.state (stopped_in c) → Shows model setup new (stopped g i (Some c))
      not_found (RunningIs s) there m b = alone model setup g old reached.shows i next (RunningIs s) (StoppedIs (suc s.life) s.durable s.durable) there (member (RunningIs s) (StoppedIs (suc s.life) s.durable s.durable) m b)
      not_found (StoppedIs life before after) there m b = alone_still model setup g old reached.shows i next (StoppedIs life before after) there (member (StoppedIs life before after) (StoppedIs life before after) m b)
      not_found UnformattedIs there m b = alone_still model setup g old reached.shows i next UnformattedIs there (member UnformattedIs UnformattedIs m b)

      shows_by : (c : Condition) → slice_get g.servers i ≡ Some c → IsMember model setup i me c → (its : Answer) → BeginsSomehow model me.seat next.store next.state c (Ok (its, found)) → ShowsSomehow model setup g i new its
      shows_by c there m Done b = record {
        c = c;
        there = there;
        life = b.life;
        next = b.next;
        d = b.d;
        fits = subst (λ x. ServerHasBegun (setup_of_seat x) b.d) m.seat b.fits;
        shows = alone model setup g old reached.shows i next c (RunningIs (restarted i (next_life c) b.d)) there (member c (RunningIs (restarted i (next_life c) b.d)) m (numbered c m (next_life c) b.d b.meets));
      }
      shows_by c there m (Refused Halted) b = elim b [
        | inl over ↦ inl (record {
          c = c;
          there = there;
          life = over.life;
          next = over.next;
          d = over.d;
          fits = subst (λ x. ServerHasBegun (setup_of_seat x) over.d) m.seat over.fits;
          shows = alone model setup g old reached.shows i next c (StoppedIs (next_life c) over.d over.d) there (member c (StoppedIs (next_life c) over.d over.d) m over.meets);
        })
        | inr cut ↦ inr (subst (λ o. Shows model setup new (restart CutOff g i false o)) (sym there) (unread c there m cut))
      ]
      shows_by c there m _ b = (b.0, subst (λ o. Shows model setup new (stopped g i o)) (sym there) (not_found c there m b.1))
