-- Deeds in their order: what they hand on and bring is of the epoch that serves then, and of no moment before.
use Rattle.std.proofs.Common.{◌≡◌, ℕ, ◌<◌, ◌≤◌, inl, inr, true, false, List, [], ◌∷◌, ◌++◌, length, Option, Some, None, slice_get, arith, refl, sym, subst, ◌∙◌}
use Rattle.std.proofs.lemmas.Option.{none-some, slice_get_within}
use Rattle.pf_base.specs.declared.asks.Ask.{Ask}
use Rattle.pf_base.specs.declared.asks.Ask.TheVariants.{Write, Read}
use Rattle.pf_base.specs.declared.asks.Reply.{Reply}
use Rattle.pf_base.specs.declared.asks.Reply.TheVariants.{Written, Bytes}
use Rattle.pf_protocol.specs.Groups.{Answered}
use Rattle.pf_protocol.proofs.ForMoments.{whole_prefix}
use Rattle.pf_law_positions.specs.Deeds.{Acks, Brings, BringsBy, Deed, Got, Hands as HandsOn, IsOfEpoch, PortAsk, Put, Reads, Submits, Takes}
use Rattle.pf_law_positions.specs.PortDeeds.{no_deed, port_ask, port_reply}
use Rattle.pf_law_ports.specs.pf_group_network.proofs.Lists.{end_cases}
use Rattle.pf_law_ports.proofs.CallGrowth.{grows}
use Rattle.pf_law_service.specs.Served.{Asks, Grows, Hands, Hears, ChunkIsServed, Moves, Opens, Passes, Switches, hands_deed, hears_deed}
use Rattle.pf_law_service.specs.Services.{Owed, Service, service_asked, service_grown, service_moved, past_of, epoch_of_now, service_stepped, service_switched}
use Rattle.pf_law_service.proofs.ServiceGrowth.{Goes, asked_goes, grown_goes, moved_goes, moved_once, serving_before, serving_low, serving_now, stays_so, stepped_goes, switched_goes}
use Rattle.pf_law_service.proofs.Places.{but_each, but_here, prefix_long}

module _ (chunk : ℕ) where
  -- what was handed on, or brought, of a service by now
  pub record IsHandedTo (s : Service) (its epoch place : ℕ) : Type 0 where
    pub of : its ≡ chunk
    pub served : epoch ≤ epoch_of_now s
    pub since : s.since epoch ≤ place
    pub within : place < length (s.history epoch)

  pub record IsBroughtOf (s : Service) (epoch by : ℕ) : Type 0 where
    pub served : epoch ≤ epoch_of_now s
    pub within : by ≤ length (s.history epoch)
    pub left : epoch < s.epoch → by ≤ s.left epoch

  pub record Told (s : Service) (ds : List Deed) : Type 0 where
    pub began : (epoch : ℕ) → epoch ≤ epoch_of_now s → s.since epoch ≤ length (s.history epoch)
    pub handed : (i client its epoch place : ℕ) → slice_get ds i ≡ Some (Submits client its epoch place) → IsHandedTo s its epoch place
    pub brought : (i epoch by : ℕ) (deed : Deed) → slice_get ds i ≡ Some deed → BringsBy chunk epoch by deed → IsBroughtOf s epoch by
    pub places : (moment later epoch client other place next : ℕ) → moment < later → slice_get ds moment ≡ Some (Submits client chunk epoch place) → slice_get ds later ≡ Some (Submits other chunk epoch next) → place < next
    pub rises : (moment later epoch client by place : ℕ) (deed : Deed) → moment < later → slice_get ds moment ≡ Some deed → BringsBy chunk epoch by deed → slice_get ds later ≡ Some (Submits client chunk epoch place) → by ≤ place
    pub goes_on : (moment later epoch other : ℕ) (deed next : Deed) → moment < later → slice_get ds moment ≡ Some deed → IsOfEpoch chunk epoch deed → slice_get ds later ≡ Some next → IsOfEpoch chunk other next → epoch ≤ other

  -- As the service goes on

  handed_later : (s after : Service) (its epoch place : ℕ) → Goes s after → IsHandedTo s its epoch place → IsHandedTo after its epoch place
  handed_later s after its epoch place goes h =
      let served = h.served in
      let low = serving_low s in
      let serves = goes.serves in
      let since = goes.since epoch served in
      let its_since = h.since in
      let within = h.within in
      let longer = prefix_long (s.history epoch) (after.history epoch) (goes.history epoch (omega (arith, served, low))) in
      record { of = h.of; served = omega (arith, served, serves); since = omega (arith, since, its_since); within = omega (arith, within, longer) }

  brought_later : (s after : Service) (epoch by : ℕ) → Goes s after → IsBroughtOf s epoch by → IsBroughtOf after epoch by
  brought_later s after epoch by goes b =
      let served = b.served in
      let low = serving_low s in
      let serves = goes.serves in
      let within = b.within in
      let longer = prefix_long (s.history epoch) (after.history epoch) (goes.history epoch (omega (arith, served, low))) in
      record {
        served = omega (arith, served, serves);
        within = omega (arith, within, longer);
        left = λ before. goes.left epoch by (omega (arith, served, low)) before within b.left;
      }

  -- what began to serve in the meantime has to be told
  told_later : (s after : Service) (ds : List Deed) → Goes s after → ((epoch : ℕ) → epoch ≤ epoch_of_now after → after.since epoch ≤ length (after.history epoch)) → Told s ds → Told after ds
  told_later s after ds goes began t = record {
    began = began;
    handed = λ i client its epoch place at. handed_later s after its epoch place goes (t.handed i client its epoch place at);
    brought = λ i epoch by deed at is. brought_later s after epoch by goes (t.brought i epoch by deed at is);
    places = t.places;
    rises = t.rises;
    goes_on = t.goes_on;
  }

  -- where the same epoch serves, each group began as it did
  began_later : (s after : Service) (ds : List Deed) → Goes s after → epoch_of_now after ≡ epoch_of_now s → Told s ds → (epoch : ℕ) → epoch ≤ epoch_of_now after → after.since epoch ≤ length (after.history epoch)
  began_later s after ds goes same t epoch low =
      let served : epoch ≤ epoch_of_now s = omega (arith, same, low) in
      let under = serving_low s in
      let since = goes.since epoch served in
      let began = t.began epoch served in
      let longer = prefix_long (s.history epoch) (after.history epoch) (goes.history epoch (omega (arith, served, under))) in
      omega (arith, since, began, longer)

  -- One more deed

  -- a deed that is done now hands on and brings only what is of the last epoch
  record IsDone (s : Service) (d : Deed) : Type 0 where
    hands : (client its epoch place : ℕ) → d ≡ Submits client its epoch place → (its ≡ chunk) × (s.moving ≡ false) × (epoch ≡ s.epoch) × (place ≡ length (s.history s.epoch))
    brings : (epoch by : ℕ) → BringsBy chunk epoch by d → (s.moving ≡ false) × (epoch ≡ s.epoch) × (by ≡ length (s.history s.epoch))

  of_last : (s : Service) (d : Deed) → IsDone s d → (epoch : ℕ) → IsOfEpoch chunk epoch d → epoch_of_now s ≡ epoch
  of_last s _ done epoch (HandsOn client place) = let h = done.hands client chunk epoch place refl in serving_now s h.1 ∙ sym h.2
  of_last s _ done epoch (Brings by deed is) = let b = done.brings epoch by is in serving_now s b.0 ∙ sym b.1

  pub served_by : (s : Service) (ds : List Deed) → Told s ds → (i epoch : ℕ) (deed : Deed) → slice_get ds i ≡ Some deed → IsOfEpoch chunk epoch deed → epoch ≤ epoch_of_now s
  served_by s ds t i epoch _ at (HandsOn client place) = (t.handed i client chunk epoch place at).served
  served_by s ds t i epoch _ at (Brings by deed is) = (t.brought i epoch by deed at is).served

  -- the service after the deed has the place that it hands on
  told_more : (s after : Service) (ds : List Deed) (d : Deed) → Goes s after → epoch_of_now after ≡ epoch_of_now s → IsDone s d → ((client its epoch place : ℕ) → d ≡ Submits client its epoch place → length (s.history s.epoch) < length (after.history s.epoch)) → s.epoch ≡ after.epoch → Told s ds → Told after (ds ++ d ∷ [])
  told_more s after ds d goes same done longer last t =
      let later = told_later s after ds goes (began_later s after ds goes same t) t in
      record {
        began = later.began;
        handed = λ i client its epoch place at. elim (end_cases ds d i (Submits client its epoch place) at) [
          | inl old ↦ later.handed i client its epoch place old
          | inr new ↦
              let h = done.hands client its epoch place new.1 in
              let now = serving_now s h.1 in
              let is = h.2 in
              let place_is = h.3 in
              let more = longer client its epoch place new.1 in
              let began = t.began s.epoch (omega (arith, now)) in
              let since = goes.since s.epoch (omega (arith, now)) in
              record {
                of = h.0;
                served = omega (arith, is, now, same);
                since = subst (λ e. after.since e ≤ place) (sym is) (omega (arith, since, began, place_is));
                within = subst (λ e. place < length (after.history e)) (sym is) (omega (arith, place_is, more));
              }
        ];
        brought = λ i epoch by deed at is. elim (end_cases ds d i deed at) [
          | inl old ↦ later.brought i epoch by deed old is
          | inr new ↦
              let b = done.brings epoch by (subst (BringsBy chunk epoch by) (sym new.1) is) in
              let now = serving_now s b.0 in
              let its = b.1 in
              let by_is = b.2 in
              let more = prefix_long (s.history s.epoch) (after.history s.epoch) (goes.history s.epoch (omega arith)) in
              record {
                served = omega (arith, its, now, same);
                within = subst (λ e. by ≤ length (after.history e)) (sym its) (omega (arith, by_is, more));
                left = λ before. absurd (omega (arith, before, its, last));
              }
        ];
        places = λ moment i epoch client other place next low at there. elim (end_cases ds d i (Submits other chunk epoch next) there) [
          | inl old ↦ elim (end_cases ds d moment (Submits client chunk epoch place) at) [
            | inl first ↦ t.places moment i epoch client other place next low first old
            | inr new ↦ let within = slice_get_within ds i (Submits other chunk epoch next) old in let end = new.0 in absurd (omega (arith, within, low, end))
          ]
          | inr new ↦ elim (end_cases ds d moment (Submits client chunk epoch place) at) [
            | inl first ↦
                let h = done.hands other chunk epoch next new.1 in
                let within = (t.handed moment client chunk epoch place first).within in
                let is = h.2 in
                let place_is = h.3 in
                let its : place < length (s.history s.epoch) = subst (λ e. place < length (s.history e)) is within in
                omega (arith, its, place_is)
            | inr also ↦ let end = new.0 in let its_end = also.0 in absurd (omega (arith, low, end, its_end))
          ]
        ];
        rises = λ moment i epoch client by place deed low at is there. elim (end_cases ds d i (Submits client chunk epoch place) there) [
          | inl old ↦ elim (end_cases ds d moment deed at) [
            | inl first ↦ t.rises moment i epoch client by place deed low first is old
            | inr new ↦ let within = slice_get_within ds i (Submits client chunk epoch place) old in let end = new.0 in absurd (omega (arith, within, low, end))
          ]
          | inr new ↦ elim (end_cases ds d moment deed at) [
            | inl first ↦
                let h = done.hands client chunk epoch place new.1 in
                let within = (t.brought moment epoch by deed first is).within in
                let its = h.2 in
                let place_is = h.3 in
                let there : by ≤ length (s.history s.epoch) = subst (λ e. by ≤ length (s.history e)) its within in
                omega (arith, there, place_is)
            | inr also ↦ let end = new.0 in let its_end = also.0 in absurd (omega (arith, low, end, its_end))
          ]
        ];
        goes_on = λ moment i epoch other deed next low at is there that. elim (end_cases ds d i next there) [
          | inl old ↦ elim (end_cases ds d moment deed at) [
            | inl first ↦ t.goes_on moment i epoch other deed next low first is old that
            | inr new ↦ let within = slice_get_within ds i next old in let end = new.0 in absurd (omega (arith, within, low, end))
          ]
          | inr new ↦ elim (end_cases ds d moment deed at) [
            | inl first ↦
                let served = served_by s ds t moment epoch deed first is in
                let now = of_last s d done other (subst (IsOfEpoch chunk other) (sym new.1) that) in
                omega (arith, served, now)
            | inr also ↦ let end = new.0 in let its_end = also.0 in absurd (omega (arith, low, end, its_end))
          ]
        ];
      }

  -- Kinds of deeds

  nothing_brought : (client epoch by : ℕ) (ask : Option PortAsk) (d : Deed) → d ≡ Takes client None ask → BringsBy chunk epoch by d → ⊥
  nothing_brought client epoch by ask _ is (Acks its op next) = let both : Takes its (Some (Put chunk epoch by op)) next ≡ Takes client None ask = is in let none : Some (Put chunk epoch by op) ≡ None = cc in none-some (Put chunk epoch by op) (sym none)
  nothing_brought client epoch by ask _ is (Reads its read next) = let both : Takes its (Some (Got chunk epoch by read)) next ≡ Takes client None ask = is in let none : Some (Got chunk epoch by read) ≡ None = cc in none-some (Got chunk epoch by read) (sym none)

  silent : (s : Service) (client : ℕ) (ask : Option PortAsk) → IsDone s (Takes client None ask)
  silent s client ask = record {
    hands = λ its of epoch place is. absurd (cc);
    brings = λ epoch by is. absurd (nothing_brought client epoch by ask (Takes client None ask) refl is);
  }

  handing : (s : Service) (owed : Owed) → s.moving ≡ false → IsDone s (hands_deed chunk s owed)
  handing s owed rests = record {
    hands = λ client its epoch place is. (cc, rests, cc, cc);
    brings = λ epoch by is. absurd (no_bring owed.client s.epoch (length (s.history s.epoch)) epoch by (hands_deed chunk s owed) refl is);
  }
    where
      no_bring : (client last place epoch by : ℕ) (d : Deed) → d ≡ Submits client chunk last place → BringsBy chunk epoch by d → ⊥
      no_bring client last place epoch by _ is (Acks its op next) = cc
      no_bring client last place epoch by _ is (Reads its read next) = cc

  -- a reply is of the last epoch, by now
  reply_by : (ask : Ask) (epoch by : ℕ) (answer : Answered) (reply : Reply) (client its since : ℕ) (d : Deed) → d ≡ Takes client (port_reply ask epoch by answer reply) None → BringsBy chunk its since d → (its ≡ epoch) × (since ≡ by)
  reply_by (Write k span sectors) epoch by answer Written client its since _ is (Acks other op next) = (cc, cc)
  reply_by (Write k span sectors) epoch by answer Written client its since _ is (Reads other read next) = absurd (cc)
  reply_by (Read k span) epoch by answer (Bytes sectors) client its since _ is (Acks other op next) = absurd (cc)
  reply_by (Read k span) epoch by answer (Bytes sectors) client its since _ is (Reads other read next) = (cc, cc)
  reply_by (Write k span sectors) epoch by answer (Bytes bytes) client its since d is brings = absurd (nothing_brought client its since None d is brings)
  reply_by (Read k span) epoch by answer Written client its since d is brings = absurd (nothing_brought client its since None d is brings)

  hearing : (s : Service) (owed : Owed) (answer : Answered) (reply : Reply) → s.moving ≡ false → IsDone s (hears_deed s owed answer reply)
  hearing s owed answer reply rests = record {
    hands = λ client its epoch place is. absurd (cc);
    brings = λ epoch by is.
        let both = reply_by owed.ask s.epoch (length (s.history s.epoch)) answer reply owed.client epoch by (hears_deed s owed answer reply) refl is in
        (rests, both.0, both.1);
  }

  -- All

  pub told : (s : Service) (ds : List Deed) → ChunkIsServed chunk s ds → Told s ds
  told _ _ (Opens setup history) = record {
    began = λ epoch low. omega arith;
    handed = λ i client its epoch place at. absurd (none-some _ at);
    brought = λ i epoch by deed at is. absurd (none-some _ at);
    places = λ moment later epoch client other place next low at there. absurd (none-some _ at);
    rises = λ moment later epoch client by place deed low at is there. absurd (none-some _ at);
    goes_on = λ moment later epoch other deed next low at is there that. absurd (none-some _ at);
  }
  told _ _ (Grows s ds epoch more served) =
      let t = told s ds served in
      told_later s (service_grown s epoch more) ds (grown_goes s epoch more) (began_later s (service_grown s epoch more) ds (grown_goes s epoch more) refl t) t
  told _ _ (Passes s ds served) = told_more s s ds no_deed (stays_so s) refl (silent s 33 None) (λ client its epoch place is. absurd (cc)) refl (told s ds served)
  told _ _ (Asks s ds mount client ask of at none served) =
      told_more s (service_asked s mount client (length ds) ask) ds (Takes client None (Some (port_ask ask))) (asked_goes s mount client (length ds) ask) refl (silent s client (Some (port_ask ask)))
      (λ its other epoch place is. absurd (cc)) refl (told s ds served)
  told _ _ (Hands s ds mount owed new next step one served) =
      told_more s (service_stepped s mount new next) ds (hands_deed chunk s owed) (stepped_goes s mount new next (grows (s.setup s.epoch) (past_of s mount) step.step.calls new step.step.say)) refl (handing s owed step.serves)
      (λ client its epoch place is. subst (λ (h : _). length (s.history s.epoch) < length h) (sym (but_here s.history s.epoch new.history s.epoch refl)) (omega (arith, one))) refl (told s ds served)
  told _ _ (Hears s ds mount owed reply answer next step by served) =
      told_more s (service_stepped s mount (past_of s mount) next) ds (hears_deed s owed answer reply) (stepped_goes s mount (past_of s mount) next (whole_prefix (s.history s.epoch))) refl (hearing s owed answer reply step.serves)
      (λ client its epoch place is. absurd (cc)) refl (told s ds served)
  told _ _ (Moves s ds setup history rests served) =
      let t = told s ds served in
      let now = serving_now s rests in
      told_later s (service_moved s setup history) ds (moved_goes s setup history rests) (began_later s (service_moved s setup history) ds (moved_goes s setup history rests) (sym now) t) t
  told _ _ (Switches s ds moving served) =
      let t = told s ds served in
      let goes = switched_goes s moving (moved_once chunk s ds served moving) in
      told_later s (service_switched s) ds goes (begins s t moving) t
    where
      begins : (s : Service) → Told s ds → s.moving ≡ true → (epoch : ℕ) → epoch ≤ s.epoch → (service_switched s).since epoch ≤ length (s.history epoch)
      begins s t moving epoch low =
          let was = serving_before s moving in
          but_each (λ n. n ≤ length (s.history epoch)) s.since s.epoch (length (s.history s.epoch)) epoch
          (λ is. subst (λ e. length (s.history e) ≤ length (s.history epoch)) is (omega arith))
          (λ apart. t.began epoch (omega (arith, low, apart, was)))
