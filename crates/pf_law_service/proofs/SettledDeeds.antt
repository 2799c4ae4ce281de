-- All replies of a service are its groups', and a client's next turn after a write was asked answers it.
use Rattle.std.proofs.Common.{◌≡◌, ℕ, suc, ◌≤◌, ◌⊎◌, inl, inr, List, [], ◌∷◌, ◌++◌, length, Option, Some, None, slice_get, arith, refl, sym, ap, subst, ◌∙◌}
use Rattle.std.proofs.lemmas.Option.{none-some, same_Some, slice_get_within}
use Rattle.pf_base.specs.declared.asks.Ask.{Ask}
use Rattle.pf_base.specs.declared.asks.Ask.TheVariants.{Write, Read}
use Rattle.pf_base.specs.declared.asks.Reply.{Reply}
use Rattle.pf_entry.specs.declared.ops.Op.{Op}
use Rattle.pf_protocol.specs.Groups.{Answered}
use Rattle.pf_protocol.specs.Ports.{Submission}
use Rattle.pf_protocol.proofs.ForMoments.{whole_prefix}
use Rattle.pf_asks.specs.Ports.{PortIs}
use Rattle.pf_law_positions.specs.Deeds.{Acks, BringsBy, Deed, Got, DeedIsPending, PortAsk, PortReply, Put, Puts, Reads, Submits, Takes}
use Rattle.pf_law_positions.specs.PortDeeds.{no_deed, port_ask, port_reply}
use Rattle.pf_law_ports.specs.Calls.{PortPast, submission_of}
use Rattle.pf_law_ports.specs.pf_group_network.proofs.Lists.{at_front, end_cases}
use Rattle.pf_law_ports.proofs.CallGrowth.{grows}
use Rattle.pf_law_service.specs.Served.{AreLegal, Asks, Grows, Hands, Hears, IsAskAnsweredBy, IsClientOfAsk, ChunkIsServed, Moves, Opens, Passes, PortSteps, Switches, group_by_now, hands_deed, hears_deed}
use Rattle.pf_law_service.specs.Services.{Owed, Service, service_asked, service_grown, service_moved, last_ask_number, past_of, service_stepped, service_switched}
use Rattle.pf_law_service.proofs.ClientAnswers.{IsGot, IsPut, given_is, got_later, got_more, got_now, kind, put_later, put_more, put_now, write_reply, written_is}
use Rattle.pf_law_service.proofs.DrivenPorts.{driven}
use Rattle.pf_law_service.proofs.ServiceGrowth.{Goes, asked_goes, grown_goes, legal_then, moved_goes, moved_once, serving_low, stepped_goes, switched_goes}
use Rattle.pf_law_service.proofs.HandedDeeds.{handed, own_write, pends_owed, same_lists, twice_cases, twice_stays}
use Rattle.pf_law_service.proofs.OwedAsks.{Owes, owes}
use Rattle.pf_law_service.proofs.Places.{no_client, pending_shorter, same_mount}
use Rattle.pf_law_service.proofs.DeedOrder.{Told, told}
use Rattle.pf_law_service.proofs.PortWork.{Fetches, Works, Writes, worked}

-- two turns that are one deed are one client's, and have one reply
same_turn : (client its : ℕ) (reply other : Option PortReply) (ask next : Option PortAsk) → Takes client reply ask ≡ Takes its other next → (client ≡ its) × (reply ≡ other)
same_turn client its reply other ask next is = (cc, cc)

module _ (chunk : ℕ) where
  -- a turn's reply, where it is the first one after a write was asked
  abbrev pub Acknowledges : Op → Option PortReply → Type 0
  Acknowledges op reply = (epoch : ℕ) × (by : ℕ) × (reply ≡ Some (Put chunk epoch by op))

  pub record AreAnswered (s : Service) (ds : List Deed) : Type 0 where
    pub put : (i client e by : ℕ) (op : Op) (ask : Option PortAsk) → slice_get ds i ≡ Some (Takes client (Some (Put chunk e by op)) ask) → IsPut chunk s ds e client i by op
    pub got : (i client e by : ℕ) (read : Answered) (ask : Option PortAsk) → slice_get ds i ≡ Some (Takes client (Some (Got chunk e by read)) ask) → IsGot chunk s ds e client i by read
    pub waits : (client asked i : ℕ) (op : Op) (reply : Option PortReply) (next : Option PortAsk) → DeedIsPending ds client asked i (Puts chunk op) → slice_get ds i ≡ Some (Takes client reply next) → Acknowledges op reply

  -- As the service goes on

  answered_next : (s after : Service) (ds : List Deed) → Goes s after → ((i e by : ℕ) (deed : Deed) → slice_get ds i ≡ Some deed → BringsBy chunk e by deed → e ≤ s.epoch)
      → ((e m k : ℕ) (a : Submission) → slice_get (s.writes e m) k ≡ Some a → slice_get (after.writes e m) k ≡ Some a)
      → ((i client e by : ℕ) (op : Op) (ask : Option PortAsk) → slice_get ds i ≡ Some (Takes client (Some (Put chunk e by op)) ask) → (p : IsPut chunk s ds e client i by op) → (j : ℕ) (b : Submission) → slice_get (after.writes e client) j ≡ Some b → b.write ≡ suc p.asked → slice_get (s.writes e client) j ≡ Some b)
      → AreAnswered s ds → AreAnswered after ds
  answered_next s after ds goes low stays same x = record {
    put = λ i client e by op ask at.
        let p = x.put i client e by op ask at in
        put_later chunk s after ds e client i by op goes (low i e by (Takes client (Some (Put chunk e by op)) ask) at (Acks client op ask)) p (stays e client) (same i client e by op ask at p);
    got = λ i client e by read ask at.
        got_later chunk s after ds e client i by read goes (low i e by (Takes client (Some (Got chunk e by read)) ask) at (Reads client read ask)) (x.got i client e by read ask at);
    waits = x.waits;
  }

  -- One more deed

  record IsSettled (s : Service) (ds : List Deed) (d : Deed) : Type 0 where
    put : (client e by : ℕ) (op : Op) (ask : Option PortAsk) → d ≡ Takes client (Some (Put chunk e by op)) ask → IsPut chunk s ds e client (length ds) by op
    got : (client e by : ℕ) (read : Answered) (ask : Option PortAsk) → d ≡ Takes client (Some (Got chunk e by read)) ask → IsGot chunk s ds e client (length ds) by read
    waits : (client asked : ℕ) (op : Op) (reply : Option PortReply) (next : Option PortAsk) → DeedIsPending ds client asked (length ds) (Puts chunk op) → d ≡ Takes client reply next → Acknowledges op reply

  answered_more : (s : Service) (ds : List Deed) (d : Deed) → IsSettled s ds d → AreAnswered s ds → AreAnswered s (ds ++ d ∷ [])
  answered_more s ds d now x = record {
    put = λ i client e by op ask at. elim (end_cases ds d i (Takes client (Some (Put chunk e by op)) ask) at) [
      | inl old ↦
          let low = slice_get_within ds i (Takes client (Some (Put chunk e by op)) ask) old in
          put_more chunk s ds d e client i by op (omega (arith, low)) (x.put i client e by op ask old)
      | inr new ↦ subst (λ n. IsPut chunk s (ds ++ d ∷ []) e client n by op) (sym new.0) (put_more chunk s ds d e client (length ds) by op (omega arith) (now.put client e by op ask new.1))
    ];
    got = λ i client e by read ask at. elim (end_cases ds d i (Takes client (Some (Got chunk e by read)) ask) at) [
      | inl old ↦
          let low = slice_get_within ds i (Takes client (Some (Got chunk e by read)) ask) old in
          got_more chunk s ds d e client i by read (omega (arith, low)) (x.got i client e by read ask old)
      | inr new ↦ subst (λ n. IsGot chunk s (ds ++ d ∷ []) e client n by read) (sym new.0) (got_more chunk s ds d e client (length ds) by read (omega arith) (now.got client e by read ask new.1))
    ];
    waits = λ client asked i op reply next p at. elim (end_cases ds d i (Takes client reply next) at) [
      | inl old ↦
          let low = slice_get_within ds i (Takes client reply next) old in
          x.waits client asked i op reply next (pending_shorter ds (d ∷ []) client asked i (Puts chunk op) (omega (arith, low)) p) old
      | inr new ↦
          let end = new.0 in
          now.waits client asked op reply next
          (subst (λ n. DeedIsPending ds client asked n (Puts chunk op)) new.0 (pending_shorter ds (d ∷ []) client asked i (Puts chunk op) (omega (arith, end)) p)) new.1
    ];
  }

  -- a deed without a reply, at which no write pends for its client
  silent : (s : Service) (ds : List Deed) (client : ℕ) (ask : Option PortAsk) → ((asked : ℕ) (its : PortAsk) → DeedIsPending ds client asked (length ds) its → ⊥) → IsSettled s ds (Takes client None ask)
  silent s ds client ask none = record {
    put = λ its e by op next is. absurd (no_reply client its ask next (Put chunk e by op) is);
    got = λ its e by read next is. absurd (no_reply client its ask next (Got chunk e by read) is);
    waits = λ its asked op reply next p is. absurd (none asked (Puts chunk op) (subst (λ c. DeedIsPending ds c asked (length ds) (Puts chunk op)) (sym (same_turn client its None reply ask next is).0) p));
  }
    where
      no_reply : (client its : ℕ) (ask next : Option PortAsk) (reply : PortReply) → Takes client None ask ≡ Takes its (Some reply) next → ⊥
      no_reply client its ask next reply is = none-some reply (same_turn client its None (Some reply) ask next is).1

  handing : (s : Service) (ds : List Deed) (client its e place : ℕ) → IsSettled s ds (Submits client its e place)
  handing s ds client its e place = record {
    put = λ other epoch by op ask is. absurd (cc);
    got = λ other epoch by read ask is. absurd (cc);
    waits = λ other asked op reply next p is. absurd (cc);
  }

  -- nothing pends for client 33, nor for the clients of a port that has nothing to ask
  nobody : (s : Service) (ds : List Deed) → Owes chunk s ds → (asked : ℕ) (its : PortAsk) → DeedIsPending ds 33 asked (length ds) its → ⊥
  nobody s ds o asked its p =
      let b = o.all 33 asked its p in
      no_client b.m b.owed.client b.owed.ask (o.owed b.m b.owed b.is).client b.own

  idle : (s : Service) (ds : List Deed) (mount client : ℕ) (ask : Ask) → IsClientOfAsk mount client ask → (s.port mount).ask ≡ None → Owes chunk s ds → (asked : ℕ) (its : PortAsk) → DeedIsPending ds client asked (length ds) its → ⊥
  idle s ds mount client ask of none o asked its p =
      let b = o.all client asked its p in
      let same = same_mount b.m mount client b.owed.ask ask (subst (λ c. IsClientOfAsk b.m c b.owed.ask) b.own (o.owed b.m b.owed b.is).client) of in
      none-some b.owed.ask (sym none ∙ ap (λ k. (s.port k).ask) (sym same) ∙ b.pends)

  module _ (s : Service) (ds : List Deed) (mount : ℕ) (owed : Owed) (reply : Reply) (answer : Answered) (next : PortIs) (served : ChunkIsServed chunk s ds) (legal : AreLegal s) (step : PortSteps s mount owed (Some reply) (past_of s mount) next) (by : IsAskAnsweredBy (s.port mount).sent (group_by_now s) reply answer) where
    o : Owes chunk s ds
    o = owes chunk s ds served

    client : IsClientOfAsk mount owed.client owed.ask
    client = (o.owed mount owed step.owes).client

    -- a reply to a write is the write's, and a reply to a read is the read's
    put_so : (its e since : ℕ) (op : Op) (ask : Option PortAsk) → hears_deed s owed answer reply ≡ Takes its (Some (Put chunk e since op)) ask → IsPut chunk s ds e its (length ds) since op
    put_so its e since op ask is =
        let now = length (s.history s.epoch) in
        let both = same_turn owed.client its (port_reply owed.ask s.epoch now answer reply) (Some (Put chunk e since op)) None ask is in
        let w = written_is owed.ask s.epoch now answer reply chunk e since op both.1 in
        let own : owed.client ≡ mount = own_write chunk mount owed.client chunk w.span w.sectors owed.ask w.asked client in
        subst (λ n. IsPut chunk s ds e n (length ds) since op) (sym own ∙ both.0)
        (subst (λ n. IsPut chunk s ds n mount (length ds) since op) (sym w.first)
        (subst (λ n. IsPut chunk s ds s.epoch mount (length ds) n op) w.since
        (subst (IsPut chunk s ds s.epoch mount (length ds) now) (sym w.same)
        (put_now chunk s ds mount owed reply answer next (driven chunk s ds served) legal step o w.span w.sectors w.asked w.replied own))))

    got_so : (its e since : ℕ) (read : Answered) (ask : Option PortAsk) → hears_deed s owed answer reply ≡ Takes its (Some (Got chunk e since read)) ask → IsGot chunk s ds e its (length ds) since read
    got_so its e since read ask is =
        let now = length (s.history s.epoch) in
        let both = same_turn owed.client its (port_reply owed.ask s.epoch now answer reply) (Some (Got chunk e since read)) None ask is in
        let w = given_is owed.ask s.epoch now answer reply chunk e since read both.1 in
        subst (λ n. IsGot chunk s ds e n (length ds) since read) both.0
        (subst (λ n. IsGot chunk s ds n owed.client (length ds) since read) (sym w.first)
        (subst (λ n. IsGot chunk s ds s.epoch owed.client (length ds) n read) w.since
        (subst (IsGot chunk s ds s.epoch owed.client (length ds) now) w.same
        (got_now chunk s ds mount owed reply answer next (driven chunk s ds served) legal step o (handed chunk s ds served) by w.span w.sectors w.asked w.replied))))

    -- the turn answers the write that pends
    waits_so : (its asked : ℕ) (op : Op) (other : Option PortReply) (ask : Option PortAsk) → DeedIsPending ds its asked (length ds) (Puts chunk op) → hears_deed s owed answer reply ≡ Takes its other ask → Acknowledges op other
    waits_so its asked op other ask p is =
        let now = length (s.history s.epoch) in
        let b = o.all its asked (Puts chunk op) p in
        let both = same_turn owed.client its (port_reply owed.ask s.epoch now answer reply) other None ask is in
        let own : b.owed.client ≡ owed.client = b.own ∙ sym both.0 in
        let same : b.m ≡ mount = same_mount b.m mount owed.client b.owed.ask owed.ask (subst (λ c. IsClientOfAsk b.m c b.owed.ask) own (o.owed b.m b.owed b.is).client) client in
        let one : b.owed ≡ owed = same_Some b.owed owed (sym b.is ∙ ap s.owed same ∙ step.owes) in (
          s.epoch,
          now,
          sym both.1
              ∙ write_reply owed.ask s.epoch now answer reply chunk op (ap (λ (x : Owed). port_ask x.ask) (sym one) ∙ b.same)
              (kind chunk s mount owed reply next (driven chunk s ds served) legal step),
        )

    hearing : IsSettled s ds (hears_deed s owed answer reply)
    hearing = record { put = put_so; got = got_so; waits = waits_so }

  -- What is handed on is no write that was answered before

  works_stay : (old new : PortPast) (ask : Ask) → Works old ask new → (k : ℕ) (a : Submission) → slice_get old.writes k ≡ Some a → slice_get new.writes k ≡ Some a
  works_stay old new ask (Writes k server span sectors answer of is) i a at = ap (λ (p : PortPast). slice_get p.writes i) is ∙ at_front old.writes (submission_of old server span sectors answer ∷ []) i a at
  works_stay old new ask (Fetches k server span answer of is) i a at = ap (λ (p : PortPast). slice_get p.writes i) is ∙ at

  -- a write that a step adds is of the ask that pends
  works_add : (old new : PortPast) (ask : Ask) → Works old ask new → (k : ℕ) (a : Submission) → slice_get new.writes k ≡ Some a → (slice_get old.writes k ≡ Some a) ⊎ ((a.write ≡ old.asks) × ((its : ℕ) × (op : Op) × (port_ask ask ≡ Puts its op)))
  works_add old new ask (Writes k server span sectors answer of is) i a at =
      elim (end_cases old.writes (submission_of old server span sectors answer) i a (ap (λ (p : PortPast). slice_get p.writes i) (sym is) ∙ at)) [
        | inl before ↦ inl before
        | inr end ↦ inr (ap (λ (x : Submission). x.write) (sym end.1), (k, _, ap port_ask of))
      ]
  works_add old new ask (Fetches k server span answer of is) i a at = inl (ap (λ (p : PortPast). slice_get p.writes i) (sym is) ∙ at)

  -- no ask for a write is of a client that only reads
  own_put : (m client k : ℕ) (op : Op) (ask : Ask) → port_ask ask ≡ Puts k op → IsClientOfAsk m client ask → client ≡ m
  own_put m client k op (Write its span sectors) is of = own_write chunk m client its span sectors (Write its span sectors) refl of
  own_put m client k op (Read its span) is of = absurd (cc)

  hand_same : (s : Service) (ds : List Deed) (mount : ℕ) (owed : Owed) (new : PortPast) (next : PortIs) → ChunkIsServed chunk s ds → PortSteps s mount owed None new next → Works (past_of s mount) owed.ask new
      → (i client e by : ℕ) (op : Op) (ask : Option PortAsk) → slice_get (ds ++ hands_deed chunk s owed ∷ []) i ≡ Some (Takes client (Some (Put chunk e by op)) ask) → (p : IsPut chunk s (ds ++ hands_deed chunk s owed ∷ []) e client i by op)
      → (j : ℕ) (b : Submission) → slice_get ((service_stepped s mount new next).writes e client) j ≡ Some b → b.write ≡ suc p.asked → slice_get (s.writes e client) j ≡ Some b
  hand_same s ds mount owed new next served step works i client e by op ask at p j b there is = elim (twice_cases s.writes s.epoch mount new.writes e client j b there) [
    | inl old ↦ old
    | inr here ↦ elim (works_add (past_of s mount) new owed.ask works j b here.2) [
      | inl old ↦ ap (λ n. slice_get (s.writes n client) j) here.0 ∙ ap (λ n. slice_get (s.writes s.epoch n) j) here.1 ∙ old
      | inr added ↦
          let o = owes chunk s ds served in
          let put = added.1 in
          let own : owed.client ≡ mount = own_put mount owed.client put.0 put.1 owed.ask put.2 (o.owed mount owed step.owes).client in
          let pending = pends_owed chunk s ds mount owed owed.ask o step.owes step.step.pending in
          let number : last_ask_number (s.owed mount) ≡ suc owed.moment = ap last_ask_number step.owes in
          let write = added.0 in
          let earlier = p.pending.earlier in
          elim (end_cases ds (hands_deed chunk s owed) i (Takes client (Some (Put chunk e by op)) ask) at) [
            | inl old ↦
                let within = slice_get_within ds i (Takes client (Some (Put chunk e by op)) ask) old in
                absurd (pending.no_other i (Some (Put chunk e by op)) ask (omega (arith, write, number, is, earlier)) within (old ∙ ap (λ n. Some (Takes n (Some (Put chunk e by op)) ask)) (here.1 ∙ sym own)))
            | inr end ↦ absurd (no_turn owed.client s.epoch (length (s.history s.epoch)) client (Some (Put chunk e by op)) ask end.1)
          ]
    ]
  ]
    where
      no_turn : (client e place its : ℕ) (reply : Option PortReply) (ask : Option PortAsk) → Submits client chunk e place ≡ Takes its reply ask → ⊥
      no_turn client e place its reply ask is = cc

  -- All

  -- what was brought is of no epoch to come
  low : (s : Service) (ds : List Deed) → Told chunk s ds → (i e by : ℕ) (deed : Deed) → slice_get ds i ≡ Some deed → BringsBy chunk e by deed → e ≤ s.epoch
  low s ds t i e by deed at is = let served = (t.brought i e by deed at is).served in let under = serving_low s in omega (arith, served, under)

  -- a step that hands on no write
  quiet : (s after : Service) (ds : List Deed) → Goes s after → ((e m : ℕ) → after.writes e m ≡ s.writes e m) → ((i e by : ℕ) (deed : Deed) → slice_get ds i ≡ Some deed → BringsBy chunk e by deed → e ≤ s.epoch) → AreAnswered s ds → AreAnswered after ds
  quiet s after ds goes writes under x = answered_next s after ds goes under
      (λ e m k a at. ap (λ (l : List Submission). slice_get l k) (writes e m) ∙ at)
      (λ i client e by op ask at p j b there is. ap (λ (l : List Submission). slice_get l j) (sym (writes e client)) ∙ there) x

  pub answered : (s : Service) (ds : List Deed) → ChunkIsServed chunk s ds → AreLegal s → AreAnswered s ds
  answered _ _ (Opens setup history) legal = record {
    put = λ i client e by op ask at. absurd (none-some _ at);
    got = λ i client e by read ask at. absurd (none-some _ at);
    waits = λ client asked i op reply next p at. absurd (none-some _ at);
  }
  answered _ _ (Grows s ds epoch more served) legal =
      quiet s (service_grown s epoch more) ds (grown_goes s epoch more) (λ e m. refl) (low s ds (told chunk s ds served)) (answered s ds served (legal_then s (service_grown s epoch more) (grown_goes s epoch more) legal))
  answered _ _ (Passes s ds served) legal = answered_more s ds no_deed (silent s ds 33 None (nobody s ds (owes chunk s ds served))) (answered s ds served legal)
  answered _ _ (Asks s ds mount client ask of at none served) legal =
      let after : Service = service_asked s mount client (length ds) ask in
      let goes : Goes s after = asked_goes s mount client (length ds) ask in
      quiet s after (ds ++ Takes client None (Some (port_ask ask)) ∷ []) goes (λ e m. refl) (low after (ds ++ Takes client None (Some (port_ask ask)) ∷ []) (told chunk after (ds ++ Takes client None (Some (port_ask ask)) ∷ []) (Asks s ds mount client ask of at none served)))
      (answered_more s ds (Takes client None (Some (port_ask ask))) (silent s ds client (Some (port_ask ask)) (idle s ds mount client ask of none (owes chunk s ds served))) (answered s ds served (legal_then s after goes legal)))
  answered _ _ (Hands s ds mount owed new next step one served) legal =
      let after : Service = service_stepped s mount new next in
      let goes : Goes s after = stepped_goes s mount new next (grows (s.setup s.epoch) (past_of s mount) step.step.calls new step.step.say) in
      let works = worked (s.setup s.epoch) (past_of s mount) (s.port mount) owed.ask next new step.step one in
      answered_next s after (ds ++ hands_deed chunk s owed ∷ []) goes (low after (ds ++ hands_deed chunk s owed ∷ []) (told chunk after (ds ++ hands_deed chunk s owed ∷ []) (Hands s ds mount owed new next step one served)))
      (twice_stays s.writes s.epoch mount new.writes (works_stay (past_of s mount) new owed.ask works))
      (hand_same s ds mount owed new next served step works)
      (answered_more s ds (hands_deed chunk s owed) (handing s ds owed.client chunk s.epoch (length (s.history s.epoch))) (answered s ds served (legal_then s after goes legal)))
  answered _ _ (Hears s ds mount owed reply answer next step by served) legal =
      let after : Service = service_stepped s mount (past_of s mount) next in
      let goes : Goes s after = stepped_goes s mount (past_of s mount) next (whole_prefix (s.history s.epoch)) in
      let before : AreLegal s = legal_then s after goes legal in
      quiet s after (ds ++ hears_deed s owed answer reply ∷ []) goes (same_lists chunk s.writes s.epoch mount) (low after (ds ++ hears_deed s owed answer reply ∷ []) (told chunk after (ds ++ hears_deed s owed answer reply ∷ []) (Hears s ds mount owed reply answer next step by served)))
      (answered_more s ds (hears_deed s owed answer reply) (hearing s ds mount owed reply answer next served before step by) (answered s ds served before))
  answered _ _ (Moves s ds setup history rests served) legal =
      let goes = moved_goes s setup history rests in
      quiet s (service_moved s setup history) ds goes (λ e m. refl) (low s ds (told chunk s ds served)) (answered s ds served (legal_then s (service_moved s setup history) goes legal))
  answered _ _ (Switches s ds moving served) legal =
      let goes = switched_goes s moving (moved_once chunk s ds served moving) in
      quiet s (service_switched s) ds goes (λ e m. refl) (low s ds (told chunk s ds served)) (answered s ds served (legal_then s (service_switched s) goes legal))
