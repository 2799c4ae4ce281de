-- Each mount's port into each group is one that was driven over the group's history.
use Rattle.std.proofs.Common.{◌≡◌, ℕ, suc, ◌<◌, ◌≤◌, inl, inr, false, List, [], length, Option, Some, None, arith, refl, sym, ap, subst, ◌∙◌}
use Rattle.std.proofs.lemmas.Bool.{cases_eq}
use Rattle.std.proofs.lemmas.Option.{none-some}
use Rattle.pf_base.specs.declared.asks.Ask.{Ask}
use Rattle.pf_base.specs.declared.asks.Reply.{Reply}
use Rattle.pf_protocol.specs.Histories.{History, IsPrefix}
use Rattle.pf_protocol.specs.Ports.{Submission}
use Rattle.pf_protocol.specs.Servers.{Setup}
use Rattle.pf_asks.specs.Ports.{PortIs, new_port, rehomed}
use Rattle.pf_law_positions.specs.Deeds.{Deed}
use Rattle.pf_law_ports.specs.Calls.{Fetching, PortPast, new_past}
use Rattle.pf_law_ports.specs.Driven.{Begins, IsDriven, Others, Puts, Steps as TakesStep}
use Rattle.pf_law_ports.specs.Rising.{TermsAreRising}
use Rattle.pf_law_ports.proofs.CallGrowth.{grows}
use Rattle.pf_law_ports.proofs.BetweenSteps.{Stands}
use Rattle.pf_law_ports.proofs.PortSteps.{rises, stands}
use Rattle.pf_law_service.specs.Served.{AreLegal, Asks, Grows, Hands, Hears, ChunkIsServed, Moves, Opens, Passes, PortSteps, Switches}
use Rattle.pf_law_service.specs.Services.{Owed, Service, service_asked, but, service_grown, service_moved, last_ask_number, past_of, service_stepped, service_switched}
use Rattle.pf_law_service.proofs.ServiceGrowth.{Goes, asked_goes, grown_goes, moved_goes, moved_once, stepped_goes, switched_goes}
use Rattle.pf_law_service.proofs.OwedAsks.{Owes, owes}
use Rattle.pf_law_service.proofs.Places.{but_here, but_off}
use Rattle.pf_law_service.proofs.PortWork.{Fetches, Works, Writes, worked}

-- A list for each epoch and mount, of which one is another

abbrev pub twice : {A : Type 0} → (ℕ → ℕ → A) → (one two : ℕ) → A → ℕ → ℕ → A
twice f one two a = but f one (but (f one) two a)

pub twice_here : {A : Type 0} → (f : ℕ → ℕ → A) (one two : ℕ) (a : A) → twice f one two a one two ≡ a
twice_here f one two a = ap (λ g. g two) (but_here f one (but (f one) two a) one refl) ∙ but_here (f one) two a two refl

pub twice_off : {A : Type 0} → (f : ℕ → ℕ → A) (one two : ℕ) (a : A) (e m : ℕ) → (e ≡ one → m ≡ two → ⊥) → twice f one two a e m ≡ f e m
twice_off f one two a e m apart = elim (cases_eq e one) [
  | inl is ↦ ap (λ g. g m) (but_here f one (but (f one) two a) e is) ∙ but_off (f one) two a m (apart is) ∙ ap (λ k. f k m) (sym is)
  | inr other ↦ ap (λ g. g m) (but_off f one (but (f one) two a) e other)
]

-- Driven ports

abbrev pub past_at : Service → (e m asks : ℕ) → PortPast
past_at s e m asks = record { history = s.history e; asks = asks; writes = s.writes e m; reads = s.reads e m }

-- the port that a mount has into this group now: its asks are those that are owed, where one pends
pub record Now (s : Service) (e m : ℕ) : Type 0 where
  pub asks : ℕ
  pub low : asks ≤ last_ask_number (s.owed m)
  pub same : (ask : Ask) → (s.port m).ask ≡ Some ask → asks ≡ last_ask_number (s.owed m)
  pub is : IsDriven (s.setup e) (past_at s e m asks) (s.port m)

-- the one that it had into an earlier group
pub record Was (s : Service) (e m : ℕ) : Type 0 where
  pub asks : ℕ
  pub port : PortIs
  pub is : IsDriven (s.setup e) (past_at s e m asks) port

pub record AreDriven (s : Service) : Type 0 where
  pub now : (m : ℕ) → Now s s.epoch m
  pub was : (e m : ℕ) → e < s.epoch → Was s e m
  pub none : (e m : ℕ) → s.epoch < e → (s.writes e m ≡ []) × (s.reads e m ≡ [])

driven_later : (setup : Setup) (past : PortPast) (port : PortIs) (now : History) → IsPrefix past.history now → IsDriven setup past port → IsDriven setup (record past { history = now }) port
driven_later setup past port now p driven = subst (λ h. IsDriven setup (record past { history = h }) port) p.whole (Others past port p.rest driven)

carried : (s after : Service) (e m asks : ℕ) (port : PortIs) → after.setup e ≡ s.setup e → IsPrefix (s.history e) (after.history e) → after.writes e m ≡ s.writes e m → after.reads e m ≡ s.reads e m → IsDriven (s.setup e) (past_at s e m asks) port → IsDriven (after.setup e) (past_at after e m asks) port
carried s after e m asks port setup history writes reads driven =
    subst (λ (z : Setup). IsDriven z (past_at after e m asks) port) (sym setup)
    (subst (λ (w : List Submission). IsDriven (s.setup e) (record { history = after.history e; asks = asks; writes = w; reads = after.reads e m }) port) (sym writes)
    (subst (λ (r : List Fetching). IsDriven (s.setup e) (record { history = after.history e; asks = asks; writes = s.writes e m; reads = r }) port) (sym reads)
    (driven_later (s.setup e) (past_at s e m asks) port (after.history e) history driven)))

was_carried : (s after : Service) (e m : ℕ) → Goes s after → e ≤ s.epoch → after.writes e m ≡ s.writes e m → after.reads e m ≡ s.reads e m → Was s e m → Was after e m
was_carried s after e m goes low writes reads x = record { asks = x.asks; port = x.port; is = carried s after e m x.asks x.port (goes.setup e low) (goes.history e low) writes reads x.is }

now_carried : (s after : Service) (e m : ℕ) → Goes s after → e ≤ s.epoch → after.writes e m ≡ s.writes e m → after.reads e m ≡ s.reads e m → after.owed m ≡ s.owed m → after.port m ≡ s.port m → Now s e m → Now after e m
now_carried s after e m goes low writes reads owed port x = record {
  asks = x.asks;
  low = subst (λ o. x.asks ≤ last_ask_number o) (sym owed) x.low;
  same = λ ask pends. x.same ask (ap (λ (p : PortIs). p.ask) (sym port) ∙ pends) ∙ ap last_ask_number (sym owed);
  is = carried s after e m x.asks (after.port m) (goes.setup e low) (goes.history e low) writes reads (subst (IsDriven (s.setup e) (past_at s e m x.asks)) (sym port) x.is);
}

-- where a port's ask pends, its past is the one that the service tells
pub driven_now : (s : Service) (m : ℕ) (ask : Ask) → AreDriven s → (s.port m).ask ≡ Some ask → IsDriven (s.setup s.epoch) (past_of s m) (s.port m)
driven_now s m ask x pends = let now = x.now m in subst (λ n. IsDriven (s.setup s.epoch) (past_at s s.epoch m n) (s.port m)) (now.same ask pends) now.is

-- a step of the port, whose asks stay those that are owed
after_step : (s : Service) (mount : ℕ) (owed : Owed) (reply : Option Reply) (new : PortPast) (next : PortIs) → PortSteps s mount owed reply new next → new.asks ≡ last_ask_number (s.owed mount) → AreDriven s → AreDriven (service_stepped s mount new next)
after_step s mount owed reply new next step asks x =
    let after : Service = service_stepped s mount new next in
    let setup : Setup = s.setup s.epoch in
    let goes : Goes s after = stepped_goes s mount new next (grows (s.setup s.epoch) (past_of s mount) step.step.calls new step.step.say) in
    let driven : IsDriven setup new next = TakesStep (past_of s mount) new (s.port mount) next owed.ask reply step.step (driven_now s mount owed.ask x step.step.pending) in
    let there : IsDriven setup (past_at after s.epoch mount new.asks) (after.port mount) =
    subst (IsDriven setup (past_at after s.epoch mount new.asks)) (sym (but_here s.port mount next mount refl))
    (subst (λ (h : History). IsDriven setup (record { history = h; asks = new.asks; writes = after.writes s.epoch mount; reads = after.reads s.epoch mount }) next) (sym (but_here s.history s.epoch new.history s.epoch refl))
    (subst (λ (w : List Submission). IsDriven setup (record { history = new.history; asks = new.asks; writes = w; reads = after.reads s.epoch mount }) next) (sym (twice_here s.writes s.epoch mount new.writes))
    (subst (λ (r : List Fetching). IsDriven setup (record { history = new.history; asks = new.asks; writes = new.writes; reads = r }) next) (sym (twice_here s.reads s.epoch mount new.reads)) driven))) in
    let here : Now after s.epoch mount = record { asks = new.asks; low = omega (arith, asks); same = λ ask pends. asks; is = there } in
    record {
      now = λ m. elim (cases_eq m mount) [
        | inl is ↦ subst (Now after s.epoch) (sym is) here
        | inr apart ↦
            now_carried s after s.epoch m goes (omega arith) (twice_off s.writes s.epoch mount new.writes s.epoch m (λ _ is. apart is)) (twice_off s.reads s.epoch mount new.reads s.epoch m (λ _ is. apart is)) refl
            (but_off s.port mount next m apart) (x.now m)
      ];
      was = λ e m before.
          was_carried s after e m goes (omega (arith, before)) (twice_off s.writes s.epoch mount new.writes e m (λ is _. omega (arith, is, before))) (twice_off s.reads s.epoch mount new.reads e m (λ is _. omega (arith, is, before))) (x.was e m before);
      none = λ e m past. (
        twice_off s.writes s.epoch mount new.writes e m (λ is _. omega (arith, is, past)) ∙ (x.none e m past).0,
        twice_off s.reads s.epoch mount new.reads e m (λ is _. omega (arith, is, past)) ∙ (x.none e m past).1,
      );
    }

-- nothing of the ports changes
same_driven : (s after : Service) → Goes s after → after.epoch ≡ s.epoch → ((e m : ℕ) → after.writes e m ≡ s.writes e m) → ((e m : ℕ) → after.reads e m ≡ s.reads e m) → ((m : ℕ) → after.owed m ≡ s.owed m) → ((m : ℕ) → after.port m ≡ s.port m) → AreDriven s → AreDriven after
same_driven s after goes last writes reads owed port x = record {
  now = λ m. subst (λ e. Now after e m) (sym last) (now_carried s after s.epoch m goes (omega arith) (writes s.epoch m) (reads s.epoch m) (owed m) (port m) (x.now m));
  was = λ e m before. was_carried s after e m goes (omega (arith, before, last)) (writes e m) (reads e m) (x.was e m (omega (arith, before, last)));
  none = λ e m past. let none = x.none e m (omega (arith, past, last)) in (writes e m ∙ none.0, reads e m ∙ none.1);
}

works_asks : (old new : PortPast) (ask : Ask) → Works old ask new → new.asks ≡ old.asks
works_asks old new ask (Writes chunk server span sectors answer of is) = ap (λ (p : PortPast). p.asks) is
works_asks old new ask (Fetches chunk server span answer of is) = ap (λ (p : PortPast). p.asks) is

module _ (chunk : ℕ) where
  after_ask : (s : Service) (ds : List Deed) (mount client : ℕ) (ask : Ask) → (s.port mount).ask ≡ None → Owes chunk s ds → AreDriven s → AreDriven (service_asked s mount client (length ds) ask)
  after_ask s ds mount client ask none owed x =
      let p : PortIs = s.port mount in
      let asking : PortIs = record p { ask = Some ask; sent = None } in
      let o : Owed = record { client = client; moment = length ds; ask = ask } in
      let after : Service = service_asked s mount client (length ds) ask in
      let goes : Goes s after = asked_goes s mount client (length ds) ask in
      let old = x.now mount in
      let low = old.low in
      let number : last_ask_number (after.owed mount) ≡ suc (length ds) = ap last_ask_number (but_here s.owed mount (Some o) mount refl) in
      let above : old.asks < suc (length ds) = omega (arith, low, bound (s.owed mount) refl) in
      let here : Now after s.epoch mount = record {
        asks = suc (length ds);
        low = omega (arith, number);
        same = λ its pends. sym number;
        is = subst (IsDriven (s.setup s.epoch) (past_at s s.epoch mount (suc (length ds)))) (sym (but_here s.port mount asking mount refl))
            (Puts (past_at s s.epoch mount old.asks) (s.port mount) ask (suc (length ds)) above none old.is);
      } in
      record {
        now = λ m. elim (cases_eq m mount) [
          | inl is ↦ subst (Now after s.epoch) (sym is) here
          | inr apart ↦ now_carried s after s.epoch m goes (omega arith) refl refl (but_off s.owed mount (Some o) m apart) (but_off s.port mount asking m apart) (x.now m)
        ];
        was = λ e m before. was_carried s after e m goes (omega (arith, before)) refl refl (x.was e m before);
        none = x.none;
      }
    where
      bound : (its : Option Owed) → s.owed mount ≡ its → last_ask_number its ≤ length ds
      bound None is = omega arith
      bound (Some o) is = let within = (owed.owed mount o is).within in omega (arith, within)

  -- at a new group each port begins anew
  after_move : (s : Service) (ds : List Deed) (setup : Setup) (history : History) → s.moving ≡ false → Owes chunk s ds → AreDriven s → AreDriven (service_moved s setup history)
  after_move s ds setup history rests owed x =
      let after : Service = service_moved s setup history in
      let goes : Goes s after = moved_goes s setup history rests in
      record {
        now = λ m. anew m (s.port m).ask refl;
        was = λ e m before. elim (cases_eq e s.epoch) [
          | inl is ↦ subst (λ k. Was after k m) (sym is) (was_carried s after s.epoch m goes (omega arith) refl refl (let now = x.now m in record { asks = now.asks; port = s.port m; is = now.is }))
          | inr apart ↦ was_carried s after e m goes (omega (arith, before)) refl refl (x.was e m (omega (arith, before, apart)))
        ];
        none = λ e m past. x.none e m (omega (arith, past));
      }
    where
      begun : (m asks : ℕ) → IsDriven setup (record (new_past history) { asks = asks }) (rehomed (s.port m)) → IsDriven ((service_moved s setup history).setup (suc s.epoch)) (past_at (service_moved s setup history) (suc s.epoch) m asks) (rehomed (s.port m))
      begun m asks driven =
          let after : Service = service_moved s setup history in
          let none = x.none (suc s.epoch) m (omega arith) in
          subst (λ (z : Setup). IsDriven z (past_at after (suc s.epoch) m asks) (rehomed (s.port m))) (sym (but_here s.setup (suc s.epoch) setup (suc s.epoch) refl))
          (subst (λ (h : History). IsDriven setup (record { history = h; asks = asks; writes = s.writes (suc s.epoch) m; reads = s.reads (suc s.epoch) m }) (rehomed (s.port m))) (sym (but_here s.history (suc s.epoch) history (suc s.epoch) refl))
          (subst (λ (w : List Submission). IsDriven setup (record { history = history; asks = asks; writes = w; reads = s.reads (suc s.epoch) m }) (rehomed (s.port m))) (sym none.0)
          (subst (λ (r : List Fetching). IsDriven setup (record { history = history; asks = asks; writes = []; reads = r }) (rehomed (s.port m))) (sym none.1) driven)))

      anew : (m : ℕ) (its : Option Ask) → (s.port m).ask ≡ its → Now (service_moved s setup history) (suc s.epoch) m
      anew m None is = record {
        asks = 0;
        low = omega arith;
        same = λ ask pends. absurd (none-some ask (sym is ∙ pends));
        is = begun m 0 (subst (λ o. IsDriven setup (new_past history) (record { ask = o; sent = None; last = 0 })) (sym is) (Begins history));
      }
      anew m (Some ask) is =
          let p = owed.pends m ask is in
          let some : last_ask_number (s.owed m) ≡ suc p.owed.moment = ap last_ask_number p.is in record {
            asks = last_ask_number (s.owed m);
            low = omega arith;
            same = λ its pends. refl;
            is = begun m (last_ask_number (s.owed m)) (subst (λ o. IsDriven setup (record (new_past history) { asks = last_ask_number (s.owed m) }) (record { ask = o; sent = None; last = 0 })) (sym is)
                (Puts (new_past history) new_port ask (last_ask_number (s.owed m)) (omega (arith, some)) refl (Begins history)));
          }

  pub driven : (s : Service) (ds : List Deed) → ChunkIsServed chunk s ds → AreDriven s
  driven _ _ (Opens setup history) = record {
    now = λ m. record { asks = 0; low = omega arith; same = λ ask pends. absurd (none-some ask pends); is = Begins history };
    was = λ e m before. absurd (omega (arith, before));
    none = λ e m past. (refl, refl);
  }
  driven _ _ (Grows s ds epoch more served) = same_driven s (service_grown s epoch more) (grown_goes s epoch more) refl (λ e m. refl) (λ e m. refl) (λ m. refl) (λ m. refl) (driven s ds served)
  driven _ _ (Passes s ds served) = driven s ds served
  driven _ _ (Asks s ds mount client ask of at none served) = after_ask s ds mount client ask none (owes chunk s ds served) (driven s ds served)
  driven _ _ (Hands s ds mount owed new next step one served) =
      after_step s mount owed None new next step (works_asks (past_of s mount) new owed.ask (worked (s.setup s.epoch) (past_of s mount) (s.port mount) owed.ask next new step.step one)) (driven s ds served)
  driven _ _ (Hears s ds mount owed reply answer next step by served) = after_step s mount owed (Some reply) (past_of s mount) next step refl (driven s ds served)
  driven _ _ (Moves s ds setup history rests served) = after_move s ds setup history rests (owes chunk s ds served) (driven s ds served)
  driven _ _ (Switches s ds moving served) =
      same_driven s (service_switched s) (switched_goes s moving (moved_once chunk s ds served moving)) refl (λ e m. refl) (λ e m. refl) (λ m. refl) (λ m. refl) (driven s ds served)

-- So each port stands

pub record Stood (s : Service) (e m : ℕ) : Type 0 where
  pub asks : ℕ
  pub port : PortIs
  pub stands : Stands (s.setup e) (past_at s e m asks) port
  pub rises : TermsAreRising (s.setup e) (s.writes e m)

pub stood : (s : Service) → AreDriven s → AreLegal s → (e m : ℕ) → e ≤ s.epoch → Stood s e m
stood s x legal e m low = elim (cases_eq e s.epoch) [
  | inl is ↦ subst (λ k. Stood s k m) (sym is) (let now = x.now m in of_driven s.epoch now.asks (s.port m) (omega arith) now.is)
  | inr apart ↦ let was = x.was e m (omega (arith, low, apart)) in of_driven e was.asks was.port low was.is
]
  where
    of_driven : (k asks : ℕ) (port : PortIs) → k ≤ s.epoch → IsDriven (s.setup k) (past_at s k m asks) port → Stood s k m
    of_driven k asks port within is = record {
      asks = asks;
      port = port;
      stands = stands (s.setup k) (past_at s k m asks) port is (legal k within);
      rises = rises (s.setup k) (past_at s k m asks) port is (legal k within);
    }
