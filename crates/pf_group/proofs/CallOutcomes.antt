-- What came of a call of a network, as it is handed on.
use Rattle.std.proofs.Common.{◌≡◌, ℕ, Bool, false, None, Result, Ok, Err, refl, sym, ap, subst, ◌∙◌}
use Rattle.pf_base.specs.declared.errors.NoMemory.{NoMemory}
use Rattle.pf_protocol.specs.Servers.{Setup}
use Rattle.pf_protocol.specs.Groups.{Group}
use Rattle.pf_protocol.specs.declared.answers.Answer.{Answer}
use Rattle.pf_protocol.specs.declared.events.Event.{Event}
use Rattle.pf_protocol.specs.declared.events.Event.TheVariants.{Restart}
use Rattle.pf_protocol.specs.declared.events.Happening.{Happening}
use Rattle.pf_server_store.specs.Stores.{StoreModel}
use Rattle.pf_group_network.specs.declared.network.Network.{Network}
use Rattle.pf_group_network.specs.Going.{Goes, GoesBack, GoesSomehow, HasStayed}
use Rattle.pf_group_network.specs.Showing.{Shows}
use Rattle.pf_group_network.proofs.CrashedDisks.{touches_none}
use Rattle.pf_group.specs.declared.event.GroupEvent.{GroupEvent}
use Rattle.pf_group.specs.declared.event.GroupEvent.TheVariants as asked
use Rattle.pf_group.specs.Events.{rule_event}
use Rattle.pf_group.specs.Reacting.{Answers, Comes, ComesBack, ComesBackSomehow, Reacts, happened_as, own_of}

module _ {S : Type 0} (model : StoreModel S) (setup : Setup) (g : Group) (old : Network S) where
  -- nothing was called
  pub wants_none : Shows model setup old g → (event : Event) (r : Result Happening NoMemory) (e : NoMemory) → r ≡ Err e → Comes model setup g event old old r
  wants_none shows event r e is = subst (Comes model setup g event old old) (sym is) (record { shows = shows; crash = touches_none model.was g g old old; others = λ i own. refl; tells = λ i. refl; taken = refl })

module _ {S : Type 0} (model : StoreModel S) (setup : Setup) (g : Group) (old new : Network S) where
  abbrev Went : Event → Result Answer NoMemory → Type 0
  Went event called = Goes model setup g event old new called

  abbrev WentBack : ℕ → Result (Answer × Bool) NoMemory → Type 0
  WentBack i called = GoesBack model setup g i old new called

  pub comes_short : (event : Event) (called : Result Answer NoMemory) (e : NoMemory) → called ≡ Err e → Went event called → (r : Result Happening NoMemory) (e' : NoMemory) → r ≡ Err e' → Comes model setup g event old new r
  comes_short event called e failed goes r e' is = subst (Comes model setup g event old new) (sym is) (subst (Went event) failed goes)

  pub comes_answered : (event its : Event) (called : Result Answer NoMemory) (answer : Answer) → called ≡ Ok answer → Went event called → its ≡ event → Answers model setup g event old new (record { event = its; answer = answer })
  comes_answered event its called answer went goes same = record { event_is = same; gone = subst (Went event) went goes }

  pub comes_as : (event : Event) (called : Result Answer NoMemory) → Went event called → (r : Result Happening NoMemory) → r ≡ happened_as event called → Comes model setup g event old new r
  comes_as event (Ok answer) went r is = subst (Comes model setup g event old new) (sym is) (record { event_is = refl; gone = went })
  comes_as event (Err e) went r is = subst (Comes model setup g event old new) (sym is) went

  pub back_short : (i : ℕ) (called : Result (Answer × Bool) NoMemory) (e : NoMemory) → called ≡ Err e → WentBack i called → (r : Result Happening NoMemory) (e' : NoMemory) → r ≡ Err e' → ComesBack model setup g i old new r
  back_short i called e failed goes r e' is = subst (ComesBack model setup g i old new) (sym is) (subst (WentBack i) failed goes)

  pub back_answered : (i : ℕ) (called : Result (Answer × Bool) NoMemory) (answer : Answer) (found : Bool) → called ≡ Ok (answer, found) → WentBack i called → ComesBack model setup g i old new (Ok (record { event = Restart i found; answer = answer }))
  back_answered i called answer found went goes = (found, record { event_is = refl; gone = subst (WentBack i) went goes })

  -- an event as it was asked for: all but a restart come to what the network says
  pub reacts_as : (event its : GroupEvent) → event ≡ its → (e : Event) → ((found : Bool) → rule_event its found ≡ e) → own_of its ≡ None → (r : Result Happening NoMemory) → Comes model setup g e old new r → Reacts model setup g event old new r
  reacts_as event its is e same none (Ok r) comes = (false, subst (λ x. Answers model setup g x old new r) (sym (ap (λ x. rule_event x false) is ∙ same false)) comes)
  reacts_as event its is e same none (Err fault) comes = subst (λ own. HasStayed model setup g own old new) (sym (ap own_of is ∙ none)) comes

  pub reacts_so : (event its : GroupEvent) → event ≡ its → (e : Event) → ((found : Bool) → rule_event its found ≡ e) → own_of its ≡ None → (called : Result Answer NoMemory) → Went e called → (r : Result Happening NoMemory) → r ≡ happened_as e called → Reacts model setup g event old new r
  reacts_so event its is e same none called went r so = reacts_as event its is e same none r (comes_as e called went r so)

  pub reacts_back : (event : GroupEvent) (i : ℕ) → event ≡ asked.Restart i → (r : Result Happening NoMemory) → ComesBack model setup g i old new r → Reacts model setup g event old new r
  reacts_back event i is (Ok r) comes = (comes.0, subst (λ x. Answers model setup g (rule_event x comes.0) old new r) (sym is) comes.1)
  reacts_back event i is (Err fault) comes = subst (λ own. HasStayed model setup g own old new) (sym (ap own_of is)) comes

  -- a restart over any disks
  abbrev WentSomehow : ℕ → Result (Answer × Bool) NoMemory → Type 0
  WentSomehow i called = GoesSomehow model setup g i old new called

  pub somehow_short : (i : ℕ) (called : Result (Answer × Bool) NoMemory) (e : NoMemory) → called ≡ Err e → WentSomehow i called → (r : Result Happening NoMemory) (e' : NoMemory) → r ≡ Err e' → ComesBackSomehow model setup g i old new r
  somehow_short i called e failed goes r e' is = subst (ComesBackSomehow model setup g i old new) (sym is) (subst (WentSomehow i) failed goes)

  pub somehow_answered : (i : ℕ) (called : Result (Answer × Bool) NoMemory) (answer : Answer) (found : Bool) → called ≡ Ok (answer, found) → WentSomehow i called → ComesBackSomehow model setup g i old new (Ok (record { event = Restart i found; answer = answer }))
  somehow_answered i called answer found went goes = record { found = found; event_is = refl; begun = subst (WentSomehow i) went goes }
