-- What mounts' ports were asked: each ask is a deed of a client of the mount, and pends among the deeds while it pends in the port.
use Rattle.std.proofs.Common.{◌≡◌, ℕ, ◌<◌, inl, inr, List, [], ◌∷◌, ◌++◌, length, Option, Some, None, arith, refl, sym, ap, subst, ◌∙◌}
use Rattle.std.proofs.lemmas.Bool.{cases_eq}
use Rattle.std.proofs.lemmas.Option.{none-some, same_Some}
use Rattle.pf_base.specs.Asks.{chunk_of}
use Rattle.pf_base.specs.declared.asks.Ask.{Ask}
use Rattle.pf_asks.specs.Ports.{PortIs}
use Rattle.pf_law_positions.specs.Deeds.{Deed, DeedIsPending, PortAsk, PortReply, Takes}
use Rattle.pf_law_positions.specs.PortDeeds.{no_deed, port_ask, port_reply}
use Rattle.pf_law_ports.specs.Calls.{PortPast}
use Rattle.pf_law_service.specs.Served.{Asks, Grows, Hands, Hears, IsClientOfAsk, ChunkIsServed, Moves, Opens, Passes, PortSteps, Switches, hands_deed}
use Rattle.pf_law_service.specs.Services.{Owed, Service, service_asked, service_grown, service_moved, past_of, service_stepped, service_switched}
use Rattle.pf_law_service.proofs.Places.{IsOlder, IsQuiet, but_each, but_here, but_off, no_client, one_longer, pending_cases, pending_next, pending_now, same_mount}
use Rattle.pf_law_service.proofs.PortWork.{goes_on, replied}

module _ (chunk : ℕ) where
  pub record IsOwed (ds : List Deed) (m : ℕ) (o : Owed) : Type 0 where
    pub client : IsClientOfAsk m o.client o.ask
    pub of : chunk_of o.ask ≡ chunk
    pub within : o.moment < length ds

  -- the ask that pends in the port
  pub record Pends (s : Service) (ds : List Deed) (m : ℕ) (ask : Ask) : Type 0 where
    pub owed : Owed
    pub is : s.owed m ≡ Some owed
    pub same : owed.ask ≡ ask
    pub pending : DeedIsPending ds owed.client owed.moment (length ds) (port_ask ask)

  -- the port in which a client's ask pends
  pub record PendsIn (s : Service) (client asked : ℕ) (ask : PortAsk) : Type 0 where
    pub m : ℕ
    pub owed : Owed
    pub is : s.owed m ≡ Some owed
    pub pends : (s.port m).ask ≡ Some owed.ask
    pub own : owed.client ≡ client
    pub at : owed.moment ≡ asked
    pub same : port_ask owed.ask ≡ ask

  pub record Owes (s : Service) (ds : List Deed) : Type 0 where
    pub owed : (m : ℕ) (o : Owed) → s.owed m ≡ Some o → IsOwed ds m o
    pub pends : (m : ℕ) (ask : Ask) → (s.port m).ask ≡ Some ask → Pends s ds m ask
    pub all : (client asked : ℕ) (ask : PortAsk) → DeedIsPending ds client asked (length ds) ask → PendsIn s client asked ask

  owed_later : (ds : List Deed) (d : Deed) (m : ℕ) (o : Owed) → IsOwed ds m o → IsOwed (ds ++ d ∷ []) m o
  owed_later ds d m o x = let within = x.within in record { client = x.client; of = x.of; within = omega (arith, within, one_longer ds d) }

  pends_next : (s after : Service) (ds : List Deed) (d : Deed) (m : ℕ) (ask : Ask) (p : Pends s ds m ask) → after.owed m ≡ s.owed m → IsQuiet p.owed.client d → Pends after (ds ++ d ∷ []) m ask
  pends_next s after ds d m ask p same quiet = record { owed = p.owed; is = same ∙ p.is; same = p.same; pending = pending_next ds d p.owed.client p.owed.moment (port_ask ask) quiet p.pending }

  -- a deed that is no turn with an ask changes nothing of what is owed, but for its own client
  older : (ds : List Deed) (d : Deed) (client asked : ℕ) (ask : PortAsk) → ((reply : Option PortReply) → d ≡ Takes client reply (Some ask) → ⊥) → DeedIsPending (ds ++ d ∷ []) client asked (length (ds ++ d ∷ [])) ask → IsOlder ds d client asked ask
  older ds d client asked ask never p = elim (pending_cases ds d client asked ask p) [ inl now ↦ absurd (never now.1.reply now.1.is) | inr old ↦ old ]

  no_ask : (client its : ℕ) (reply other : Option PortReply) (ask : PortAsk) → Takes client reply None ≡ Takes its other (Some ask) → ⊥
  no_ask client its reply other ask is = let none : ◌≡◌ {A = Option PortAsk} None (Some ask) = cc in none-some ask none

  -- the port hands its ask on, and it still pends there
  after_hand : (s : Service) (ds : List Deed) (mount : ℕ) (owed : Owed) (new : PortPast) (next : PortIs) → PortSteps s mount owed None new next → Owes s ds → Owes (service_stepped s mount new next) (ds ++ hands_deed chunk s owed ∷ [])
  after_hand s ds mount owed new next step x =
      let d = hands_deed chunk s owed in
      let kept : next.ask ≡ (s.port mount).ask = (goes_on (s.setup s.epoch) (past_of s mount) (s.port mount) owed.ask next new step.step).still in
      record {
        owed = λ m o is. owed_later ds d m o (x.owed m o is);
        pends = λ m ask is.
            let before : (s.port m).ask ≡ Some ask = but_each (λ (p : PortIs). p.ask ≡ Some ask → (s.port m).ask ≡ Some ask) s.port mount next m (λ same its. ap (λ k. (s.port k).ask) same ∙ sym kept ∙ its) (λ apart its. its) is in
            pends_next s (service_stepped s mount new next) ds d m ask (x.pends m ask before) refl (λ its other same. cc);
        all = λ client asked ask p.
            let old = older ds d client asked ask (λ reply same. cc) p in
            let before = x.all client asked ask old.pending in record {
              m = before.m;
              owed = before.owed;
              is = before.is;
              pends = but_each (λ (p : PortIs). p.ask ≡ Some before.owed.ask) s.port mount next before.m (λ same. kept ∙ ap (λ k. (s.port k).ask) (sym same) ∙ before.pends) (λ apart. before.pends);
              own = before.own;
              at = before.at;
              same = before.same;
            };
      }

  -- the port gives its reply, and nothing pends there
  after_reply : (s : Service) (ds : List Deed) (mount : ℕ) (owed : Owed) (past : PortPast) (next : PortIs) (reply : Option PortReply) → next.ask ≡ None → s.owed mount ≡ Some owed → Owes s ds → Owes (service_stepped s mount past next) (ds ++ Takes owed.client reply None ∷ [])
  after_reply s ds mount owed past next reply none owes x =
      record {
        owed = λ m o is. owed_later ds (Takes owed.client reply None) m o (x.owed m o is);
        pends = λ m ask is. elim (cases_eq m mount) [
          | inl same ↦ absurd (none-some ask (sym none ∙ ap (λ (p : PortIs). p.ask) (sym (but_here s.port mount next m same)) ∙ is))
          | inr apart ↦
              let before : (s.port m).ask ≡ Some ask = ap (λ (p : PortIs). p.ask) (sym (but_off s.port mount next m apart)) ∙ is in
              let p = x.pends m ask before in
              pends_next s (service_stepped s mount past next) ds (Takes owed.client reply None) m ask p refl
              (λ its other same.
              let one : owed.client ≡ p.owed.client = cc in
              apart (same_mount m mount p.owed.client p.owed.ask owed.ask (x.owed m p.owed p.is).client (subst (λ c. IsClientOfAsk mount c owed.ask) one (x.owed mount owed owes).client)))
        ];
        all = λ client asked ask p.
            let old = older ds (Takes owed.client reply None) client asked ask (λ its same. no_ask owed.client client reply its ask same) p in
            let before = x.all client asked ask old.pending in
            let apart : before.m ≡ mount → ⊥ = λ same.
            let its : before.owed ≡ owed = same_Some before.owed owed (sym before.is ∙ ap s.owed same ∙ owes) in
            let own : owed.client ≡ client = ap (λ (o : Owed). o.client) (sym its) ∙ before.own in
            old.quiet reply None (ap (λ c. Takes c reply None) own)
            in record {
              m = before.m;
              owed = before.owed;
              is = before.is;
              pends = ap (λ (p : PortIs). p.ask) (but_off s.port mount next before.m apart) ∙ before.pends;
              own = before.own;
              at = before.at;
              same = before.same;
            };
      }

  -- a client asks by a mount's port that has nothing to ask
  after_ask : (s : Service) (ds : List Deed) (mount client : ℕ) (ask : Ask) → IsClientOfAsk mount client ask → chunk_of ask ≡ chunk → (s.port mount).ask ≡ None → Owes s ds → Owes (service_asked s mount client (length ds) ask) (ds ++ Takes client None (Some (port_ask ask)) ∷ [])
  after_ask s ds mount client ask of at none x =
      let o : Owed = record { client = client; moment = length ds; ask = ask } in
      let p : PortIs = s.port mount in
      let asking : PortIs = record p { ask = Some ask; sent = None } in
      let d : Deed = Takes client None (Some (port_ask ask)) in
      let after : Service = service_asked s mount client (length ds) ask in
      record {
        owed = λ m its is. elim (cases_eq m mount) [
          | inl same ↦
              let one : o ≡ its = same_Some o its (sym (but_here s.owed mount (Some o) m same) ∙ is) in
              subst (IsOwed (ds ++ d ∷ []) m) one (record { client = subst (λ k. IsClientOfAsk k client ask) (sym same) of; of = at; within = omega (arith, one_longer ds d) })
          | inr apart ↦ owed_later ds d m its (x.owed m its (sym (but_off s.owed mount (Some o) m apart) ∙ is))
        ];
        pends = λ m its is. elim (cases_eq m mount) [
          | inl same ↦
              let one : ask ≡ its = same_Some ask its (ap (λ (p : PortIs). p.ask) (sym (but_here s.port mount asking m same)) ∙ is) in
              subst (Pends after (ds ++ d ∷ []) m) one (record { owed = o; is = but_here s.owed mount (Some o) m same; same = refl; pending = pending_now ds client None (port_ask ask) })
          | inr apart ↦
              let before : (s.port m).ask ≡ Some its = ap (λ (p : PortIs). p.ask) (sym (but_off s.port mount asking m apart)) ∙ is in
              let old = x.pends m its before in
              pends_next s after ds d m its old (but_off s.owed mount (Some o) m apart)
              (λ reply other same.
              let one : client ≡ old.owed.client = cc in
              apart (same_mount m mount old.owed.client old.owed.ask ask (x.owed m old.owed old.is).client (subst (λ c. IsClientOfAsk mount c ask) one of)))
        ];
        all = λ its moment other pending. elim (pending_cases ds d its moment other pending) [
          | inl now ↦
              let same : Takes client None (Some (port_ask ask)) ≡ Takes its now.1.reply (Some other) = now.1.is in record {
                m = mount;
                owed = o;
                is = but_here s.owed mount (Some o) mount refl;
                pends = ap (λ (p : PortIs). p.ask) (but_here s.port mount asking mount refl);
                own = cc;
                at = sym now.0;
                same = cc;
              }
          | inr old ↦
              let before = x.all its moment other old.pending in
              let apart : before.m ≡ mount → ⊥ = λ same. none-some before.owed.ask (sym none ∙ ap (λ k. (s.port k).ask) (sym same) ∙ before.pends) in record {
                m = before.m;
                owed = before.owed;
                is = but_off s.owed mount (Some o) before.m apart ∙ before.is;
                pends = ap (λ (p : PortIs). p.ask) (but_off s.port mount asking before.m apart) ∙ before.pends;
                own = before.own;
                at = before.at;
                same = before.same;
              }
        ];
      }

  same_owes : (s after : Service) (ds : List Deed) → ((m : ℕ) → after.owed m ≡ s.owed m) → ((m : ℕ) → (after.port m).ask ≡ (s.port m).ask) → Owes s ds → Owes after ds
  same_owes s after ds owed port x = record {
    owed = λ m o is. x.owed m o (sym (owed m) ∙ is);
    pends = λ m ask is. let p = x.pends m ask (sym (port m) ∙ is) in record { owed = p.owed; is = owed m ∙ p.is; same = p.same; pending = p.pending };
    all = λ client asked ask p.
        let b = x.all client asked ask p in record { m = b.m; owed = b.owed; is = owed b.m ∙ b.is; pends = port b.m ∙ b.pends; own = b.own; at = b.at; same = b.same };
  }

  pub owes : (s : Service) (ds : List Deed) → ChunkIsServed chunk s ds → Owes s ds
  owes _ _ (Opens setup history) = record {
    owed = λ m o is. absurd (none-some o is);
    pends = λ m ask is. absurd (none-some ask is);
    all = λ client asked ask p. absurd (none-some _ p.at);
  }
  owes _ _ (Grows s ds epoch more served) = same_owes s (service_grown s epoch more) ds (λ m. refl) (λ m. refl) (owes s ds served)
  owes _ _ (Passes s ds served) =
      let x = owes s ds served in
      record {
        owed = λ m o is. owed_later ds no_deed m o (x.owed m o is);
        pends = λ m ask is.
            let p = x.pends m ask is in
            pends_next s s ds no_deed m ask p refl (λ its other same. no_client m p.owed.client p.owed.ask (x.owed m p.owed p.is).client (of_nobody p.owed.client its other same));
        all = λ client asked ask p. x.all client asked ask (older ds no_deed client asked ask (λ its same. no_ask 33 client None its ask same) p).pending;
      }
    where
      of_nobody : (client : ℕ) (its : Option PortReply) (other : Option PortAsk) → no_deed ≡ Takes client its other → client ≡ 33
      of_nobody client its other same = let both : Takes 33 None None ≡ Takes client its other = same in cc
  owes _ _ (Asks s ds mount client ask of at none served) = after_ask s ds mount client ask of at none (owes s ds served)
  owes _ _ (Hands s ds mount owed new next step one served) = after_hand s ds mount owed new next step (owes s ds served)
  owes _ _ (Hears s ds mount owed reply answer next step by served) =
      after_reply s ds mount owed (past_of s mount) next (port_reply owed.ask s.epoch (length (s.history s.epoch)) answer reply)
      (replied (s.setup s.epoch) (past_of s mount) (s.port mount) owed.ask next (past_of s mount) reply step.step) step.owes (owes s ds served)
  owes _ _ (Moves s ds setup history rests served) = same_owes s (service_moved s setup history) ds (λ m. refl) (λ m. refl) (owes s ds served)
  owes _ _ (Switches s ds moving served) = same_owes s (service_switched s) ds (λ m. refl) (λ m. refl) (owes s ds served)
