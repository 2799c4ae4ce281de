-- The past of a network after one more event, or after a restart over any disks.
use Rattle.std.proofs.Common.{◌≡◌, ℕ, suc, ◌+◌, ◌<◌, ◌^◌, Bool, false, inl, inr, List, Option, Some, None, Result, Ok, Err, slice_get, slice_set, arith, refl, sym, ap, subst}
use Rattle.pf_base.specs.declared.errors.NoMemory.{NoMemory}
use Rattle.pf_entry.specs.Records.{Durable}
use Rattle.pf_protocol.specs.declared.answers.Answer.{Answer}
use Rattle.pf_protocol.specs.declared.answers.Answer.TheVariants.{Done, Refused}
use Rattle.pf_protocol.specs.declared.answers.Refusal.TheVariants.{Halted, NotOurs}
use Rattle.pf_protocol.specs.declared.events.Event.{Event}
use Rattle.pf_protocol.specs.declared.events.Event.TheVariants.{Restart, Stop}
use Rattle.pf_protocol.specs.Servers.{Setup, Condition, Running, Stopped, Unformatted}
use Rattle.pf_protocol.specs.Saving.{restarted}
use Rattle.pf_protocol.specs.Groups.{CutOff, Group, ending, happens, restart, stopped}
use Rattle.pf_protocol.specs.Answers.{IsAnswer, MayHappen, answer_to, claims_after, is_formatted, may_halt, restart_answer, stop_answer}
use Rattle.pf_protocol.specs.Viable.{IsViable, LastLife, MayBeFound}
use Rattle.pf_protocol.proofs.ForHistories.{terms_after, viable_begins, viable_goes, viable_over}
use Rattle.pf_server_store.specs.Stores.{StoreModel}
use Rattle.pf_server_restart.specs.Beginning.{ServerHasBegun, setup_of_seat}
use Rattle.pf_server.specs.Turns.{next_life}
use Rattle.pf_group_network.specs.declared.network.Network.{Network}
use Rattle.pf_group_network.specs.Going.{GoesSomehow, HasBegunSomehow, HasGone, IsReached, LeadsOn}
use Rattle.pf_group_network.specs.Pasts.{CoversRestarts, GroupPast}
use Rattle.pf_group_network.specs.Showing.{Shows, seat_of}
use Rattle.pf_group_network.proofs.Fits.{begun_fits}

-- with one more event
abbrev pub past_after : Setup → GroupPast → Event → Answer → GroupPast
past_after setup past event answer = record {
  group = happens setup past.group event (ending answer);
  top = past.top;
  count = suc past.count;
  terms = terms_after past.group past.terms event (ending answer);
  claims = claims_after past.claims event answer;
}

last_life : (c : Condition) (life : ℕ) → suc life ≡ next_life c → LastLife c life
last_life (Running s) life is = omega (arith, is)
last_life (Stopped its before after) life is = omega (arith, is)
last_life Unformatted life is = omega (arith, is)

-- a restart that was cut off as it read counts as one that is answered so
cut_off_answer : Option Condition → Answer
cut_off_answer (Some (Running s)) = Refused Halted
cut_off_answer (Some (Stopped life before after)) = Refused Halted
cut_off_answer _ = Refused NotOurs

module _ (setup : Setup) (g : Group) (i : ℕ) where
  unread_is : (o : Option Condition) → slice_get g.servers i ≡ o → happens setup g (Restart i false) (ending (cut_off_answer o)) ≡ restart CutOff g i false o
  unfolding happens cut_off_answer
  unread_is (Some (Running s)) at = ap (restart CutOff g i false) at
  unread_is (Some (Stopped life before after)) at = ap (restart CutOff g i false) at
  unread_is (Some Unformatted) at = ap (restart (ending (Refused NotOurs)) g i false) at
  unread_is None at = ap (restart (ending (Refused NotOurs)) g i false) at

  unread_answers : (o : Option Condition) → slice_get g.servers i ≡ o → IsAnswer setup g (Restart i false) (cut_off_answer o)
  unfolding answer_to may_halt cut_off_answer
  unread_answers (Some (Running s)) at = inr (ap is_formatted at, refl)
  unread_answers (Some (Stopped life before after)) at = inr (ap is_formatted at, refl)
  unread_answers (Some Unformatted) at = inl (sym (ap restart_answer at))
  unread_answers None at = inl (sym (ap restart_answer at))

  stops_is : (o : Option Condition) → slice_get g.servers i ≡ o → happens setup g (Stop i) (ending (stop_answer o)) ≡ stopped g i o
  unfolding happens
  stops_is (Some (Running s)) at = ap (stopped g i) at
  stops_is (Some (Stopped life before after)) at = refl
  stops_is (Some Unformatted) at = refl
  stops_is None at = refl

  stop_answers : (o : Option Condition) → slice_get g.servers i ≡ o → IsAnswer setup g (Stop i) (stop_answer o)
  unfolding answer_to
  stop_answers o at = inl (sym (ap stop_answer at))

module _ {S : Type 0} (model : StoreModel S) (setup : Setup) (past : GroupPast) (old new : Network S) (reached : IsReached model setup past old) (room : suc past.count < 2 ^ 63 + 2 ^ 62 + 2 ^ 13) where
  -- where the event was answered as the rules say
  pub reached_after : (event : Event) (answer : Answer) → MayHappen past.claims event → HasGone model setup past.group event old new answer → IsReached model setup (past_after setup past event answer) new
  reached_after event answer asked gone = record {
    viable = record {
      is_setup = reached.viable.is_setup;
      group = viable_goes setup reached.viable.is_setup past.top past.count past.terms past.claims past.group reached.viable.group (record { event = event; answer = answer }) (record { asked = asked; answered = gone.answered });
    };
    short = record { count = room; top = reached.short.top };
    shows = gone.shows;
  }

  -- another group with the same open claims
  leads_to : (g : Group) (terms : List ℕ) → IsViable setup past.top (suc past.count) terms past.claims g → Shows model setup new g → LeadsOn model setup past new
  leads_to g terms viable shows = record {
    later = record { group = g; top = past.top; count = suc past.count; terms = terms; claims = past.claims };
    reached = record { viable = record { is_setup = reached.viable.is_setup; group = viable }; short = record { count = room; top = reached.short.top }; shows = shows };
    claims = refl;
    top = refl;
    least = omega arith;
    most = omega arith;
  }

  leads_still : Shows model setup new past.group → LeadsOn model setup past new
  leads_still shows = record {
    later = past;
    reached = record { viable = reached.viable; short = reached.short; shows = shows };
    claims = refl;
    top = refl;
    least = omega arith;
    most = omega arith;
  }

  module _ (covers : CoversRestarts past) (i : ℕ) (low : i < 3) where
    abbrev there : Option Condition
    there = slice_get past.group.servers i

    may_be_found : (d : Durable) → ServerHasBegun (setup_of_seat (seat_of setup i)) d → MayBeFound setup past.top past.count past.group d
    may_be_found d begun = record {
      fits = begun_fits setup i reached.viable.is_setup.window past.count (suc (past.top + past.group.elections)) covers.count (omega (arith, covers.top)) d begun;
      few = begun.half.few;
    }

    begins_over : (c : Condition) (life : ℕ) (d : Durable) → there ≡ Some c → suc life ≡ next_life c → ServerHasBegun (setup_of_seat (seat_of setup i)) d
        → Shows model setup new (record past.group { servers = slice_set past.group.servers i (Running (restarted i (next_life c) d)) }) → LeadsOn model setup past new
    begins_over c life d at next begun shows =
        leads_to (record past.group { servers = slice_set past.group.servers i (Running (restarted i (next_life c) d)) }) past.terms
        (subst (λ l. IsViable setup past.top (suc past.count) past.terms past.claims (record past.group { servers = slice_set past.group.servers i (Running (restarted i l d)) })) next
        (viable_over setup past.top past.count past.terms past.claims past.group reached.viable.group i c life d at (last_life c life next) (may_be_found d begun)))
        shows

    stops_over : (c : Condition) (life : ℕ) (d : Durable) → there ≡ Some c → suc life ≡ next_life c → ServerHasBegun (setup_of_seat (seat_of setup i)) d
        → Shows model setup new (record past.group { servers = slice_set past.group.servers i (Stopped (next_life c) d d) }) → LeadsOn model setup past new
    stops_over c life d at next begun shows =
        let found = may_be_found d begun in
        leads_to (record past.group { servers = slice_set past.group.servers i (Stopped (next_life c) d d) }) past.terms
        (subst (λ l. IsViable setup past.top (suc past.count) past.terms past.claims (record past.group { servers = slice_set past.group.servers i (Stopped l d d) })) next
        (viable_begins setup past.top past.count past.terms past.claims past.group reached.viable.group i CutOff _
        (record { c = c; there = at; life = life; last = last_life c life next; d = d; before = d; later = d; found = found; first = found; second = found; is = refl })))
        shows

    went : (event : Event) (answer : Answer) (after : Group) → MayHappen past.claims event → claims_after past.claims event answer ≡ past.claims → IsAnswer setup past.group event answer → happens setup past.group event (ending answer) ≡ after
        → Shows model setup new after → LeadsOn model setup past new
    went event answer after asked claims answered is shows =
        leads_to after (terms_after past.group past.terms event (ending answer))
        (subst (λ g. IsViable setup past.top (suc past.count) (terms_after past.group past.terms event (ending answer)) past.claims g) is
        (subst (λ claims. IsViable setup past.top (suc past.count) (terms_after past.group past.terms event (ending answer)) claims (happens setup past.group event (ending answer))) claims
        (viable_goes setup reached.viable.is_setup past.top past.count past.terms past.claims past.group reached.viable.group (record { event = event; answer = answer }) (record { asked = asked; answered = answered }))))
        shows

    cut_unread : Shows model setup new (restart CutOff past.group i false there) → LeadsOn model setup past new
    cut_unread = went (Restart i false) (cut_off_answer there) (restart CutOff past.group i false there) low refl (unread_answers setup past.group i there refl) (unread_is setup past.group i there refl)

    stops : Shows model setup new (stopped past.group i there) → LeadsOn model setup past new
    stops = went (Stop i) (stop_answer there) (stopped past.group i there) low refl (stop_answers setup past.group i there refl) (stops_is setup past.group i there refl)

    begun_leads : (answer : Answer) → HasBegunSomehow model setup past.group i old new answer → LeadsOn model setup past new
    begun_leads Done b = let x = b.shows in begins_over x.c x.life x.d x.there x.next x.fits x.shows
    begun_leads (Refused Halted) b = elim b.shows [ inl x ↦ stops_over x.c x.life x.d x.there x.next x.fits x.shows | inr shows ↦ cut_unread shows ]
    begun_leads _ b = stops b.shows.1

    -- whatever a restart comes to
    pub somehow_leads_on : (result : Result (Answer × Bool) NoMemory) → GoesSomehow model setup past.group i old new result → LeadsOn model setup past new
    somehow_leads_on (Ok (answer, found)) goes = begun_leads answer goes
    somehow_leads_on (Err e) goes = leads_still goes.shows
