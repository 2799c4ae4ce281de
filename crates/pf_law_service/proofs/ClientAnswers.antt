-- What clients were answered: each reply is the group's to what pended, and stays so.
use Rattle.std.proofs.Common.{◌≡◌, ℕ, suc, ◌<◌, ◌≤◌, List, [], ◌∷◌, ◌++◌, length, take, Some, slice_get, arith, refl, sym, ap, subst, ◌∙◌}
use Rattle.std.proofs.lemmas.List.{take_all}
use Rattle.std.proofs.lemmas.Option.{none-some, same_Some, slice_get_within}
use Rattle.pf_base.specs.Asks.{Answers}
use Rattle.pf_base.specs.Span.{Span}
use Rattle.pf_base.specs.declared.asks.Ask.{Ask}
use Rattle.pf_base.specs.declared.asks.Ask.TheVariants.{Write, Read}
use Rattle.pf_base.specs.declared.asks.Reply.{Reply}
use Rattle.pf_base.specs.declared.asks.Reply.TheVariants.{Written, Bytes}
use Rattle.pf_entry.specs.Ops.{Sector}
use Rattle.pf_entry.specs.declared.ops.Op.{Op}
use Rattle.pf_entry.specs.declared.ops.Op.TheVariants as ops
use Rattle.pf_protocol.specs.declared.answers.Answer.TheVariants as answers
use Rattle.pf_protocol.specs.declared.events.Event.TheVariants.{Fetch}
use Rattle.pf_protocol.specs.Answers.{IsLegal}
use Rattle.pf_protocol.specs.Groups.{Answered}
use Rattle.pf_protocol.specs.Histories.{History, replay}
use Rattle.pf_protocol.specs.Ports.{IsTarget, Submission}
use Rattle.pf_protocol.specs.Servers.{Setup}
use Rattle.pf_asks.specs.declared.port.Sent.TheVariants.{Number}
use Rattle.pf_asks.specs.Ports.{PortIs}
use Rattle.pf_law_positions.specs.Deeds.{Deed, Gets, Got, DeedIsPending, Put, Puts, Submits, Takes}
use Rattle.pf_law_positions.specs.PortDeeds.{port_ask, port_reply}
use Rattle.pf_law_positions.proofs.TakenReads.{answered_taken_up}
use Rattle.pf_law_positions.proofs.WorkedDeeds.{next_there}
use Rattle.pf_law_ports.specs.Calls.{fetching}
use Rattle.pf_law_ports.specs.Replies.{IsReplied, AskWasWritten}
use Rattle.pf_law_ports.specs.pf_group_network.proofs.Lists.{at_front}
use Rattle.pf_law_ports.proofs.BetweenSteps.{IsLastRead, IsSent}
use Rattle.pf_law_ports.proofs.PortSteps.{answers as port_answers, stands}
use Rattle.pf_law_service.specs.Served.{AreLegal, IsAskAnsweredBy, IsNumbered, PortSteps, group_by_now}
use Rattle.pf_law_service.specs.Services.{Owed, Service, last_ask_number, past_of}
use Rattle.pf_law_service.proofs.DrivenPorts.{AreDriven, driven_now}
use Rattle.pf_law_service.proofs.ServiceGrowth.{Goes}
use Rattle.pf_law_service.proofs.HandedDeeds.{AreHanded, pends_owed}
use Rattle.pf_law_service.proofs.ReplyCounts.{in_kind}
use Rattle.pf_law_service.proofs.OwedAsks.{Owes}
use Rattle.pf_law_service.proofs.Places.{pending_longer, prefix_get, prefix_long, prefix_part}

-- Replies by their kinds

-- a write that was acknowledged
pub record IsWritten (ask : Ask) (now by : ℕ) (reply : Reply) (chunk epoch its : ℕ) (op : Op) : Type 0 where
  pub span : Span
  pub sectors : List Sector
  pub asked : ask ≡ Write chunk span sectors
  pub replied : reply ≡ Written
  pub first : epoch ≡ now
  pub since : by ≡ its
  pub same : op ≡ ops.Write span sectors

pub written_is : (ask : Ask) (now by : ℕ) (answer : Answered) (reply : Reply) (chunk epoch its : ℕ) (op : Op) → port_reply ask now by answer reply ≡ Some (Put chunk epoch its op) → IsWritten ask now by reply chunk epoch its op
written_is (Write k span sectors) now by answer Written chunk epoch its op is = record { span = span; sectors = sectors; asked = ap (λ i. Write i span sectors) (cc); replied = refl; first = cc; since = cc; same = cc }
written_is (Write k span sectors) now by answer (Bytes read) chunk epoch its op is = absurd (none-some (Put chunk epoch its op) is)
written_is (Read k span) now by answer Written chunk epoch its op is = absurd (none-some (Put chunk epoch its op) is)
written_is (Read k span) now by answer (Bytes read) chunk epoch its op is = absurd (cc)

-- a read that was answered
pub record IsGiven (ask : Ask) (now by : ℕ) (answer : Answered) (reply : Reply) (chunk epoch its : ℕ) (read : Answered) : Type 0 where
  pub span : Span
  pub sectors : List Sector
  pub asked : ask ≡ Read chunk span
  pub replied : reply ≡ Bytes sectors
  pub first : epoch ≡ now
  pub since : by ≡ its
  pub same : answer ≡ read

pub given_is : (ask : Ask) (now by : ℕ) (answer : Answered) (reply : Reply) (chunk epoch its : ℕ) (read : Answered) → port_reply ask now by answer reply ≡ Some (Got chunk epoch its read) → IsGiven ask now by answer reply chunk epoch its read
given_is (Read k span) now by answer (Bytes sectors) chunk epoch its read is = record { span = span; sectors = sectors; asked = ap (λ i. Read i span) (cc); replied = refl; first = cc; since = cc; same = cc }
given_is (Read k span) now by answer Written chunk epoch its read is = absurd (none-some (Got chunk epoch its read) is)
given_is (Write k span sectors) now by answer (Bytes bytes) chunk epoch its read is = absurd (none-some (Got chunk epoch its read) is)
given_is (Write k span sectors) now by answer Written chunk epoch its read is = absurd (cc)

-- a write is answered as one
pub write_reply : (ask : Ask) (now by : ℕ) (answer : Answered) (reply : Reply) (k : ℕ) (op : Op) → port_ask ask ≡ Puts k op → Answers ask reply → port_reply ask now by answer reply ≡ Some (Put k now by op)
write_reply (Write chunk span sectors) now by answer Written k op is kind =
    ap (λ i. Some (Put i now by (ops.Write span sectors))) (let same : chunk ≡ k = cc in same) ∙ ap (λ o. Some (Put k now by o)) (let same : ops.Write span sectors ≡ op = cc in same)
write_reply (Write chunk span sectors) now by answer (Bytes bytes) k op is kind = absurd kind
write_reply (Read chunk span) now by answer reply k op is kind = absurd (cc)

module _ (chunk : ℕ) where
  -- What a client was told

  pub record IsPut (s : Service) (ds : List Deed) (e m moment by : ℕ) (op : Op) : Type 0 where
    pub small : m < 16
    pub asked : ℕ
    pub pending : DeedIsPending ds m asked moment (Puts chunk op)
    pub k : ℕ
    pub submission : Submission
    pub there : slice_get (s.writes e m) k ≡ Some submission
    pub number : submission.write ≡ suc asked
    pub is_last : (j : ℕ) (b : Submission) → slice_get (s.writes e m) j ≡ Some b → b.write ≡ suc asked → j ≤ k
    pub slot : ℕ
    pub took_slot : submission.answer ≡ answers.Slot slot
    pub term : ℕ
    pub in_term : (x : IsTarget (s.setup e) submission) → x.server.durable.term ≡ term
    pub within : by ≤ length (s.history e)
    pub n : ℕ
    pub acked : slice_get (replay (s.setup e) (take by (s.history e))).acked n ≡ Some (record { term = term; slot = slot })

  pub record IsGot (s : Service) (ds : List Deed) (e client moment by : ℕ) (read : Answered) : Type 0 where
    pub asked : ℕ
    pub range : Span
    pub pending : DeedIsPending ds client asked moment (Gets chunk range)
    pub handed : ℕ
    pub after : asked < handed
    pub place : ℕ
    pub at : slice_get ds handed ≡ Some (Submits client chunk e place)
    pub server : ℕ
    pub taken : slice_get (s.history e) place ≡ Some (record { event = Fetch server range; answer = answers.Read read.number })
    pub within : by ≤ length (s.history e)
    pub k : ℕ
    pub answered : slice_get (replay (s.setup e) (take by (s.history e))).answered k ≡ Some read

  -- the same once the service went on
  pub put_later : (s after : Service) (ds : List Deed) (e m moment by : ℕ) (op : Op) → Goes s after → e ≤ s.epoch → (p : IsPut s ds e m moment by op)
      → ((k : ℕ) (a : Submission) → slice_get (s.writes e m) k ≡ Some a → slice_get (after.writes e m) k ≡ Some a)
      → ((j : ℕ) (b : Submission) → slice_get (after.writes e m) j ≡ Some b → b.write ≡ suc p.asked → slice_get (s.writes e m) j ≡ Some b)
      → IsPut after ds e m moment by op
  put_later s after ds e m moment by op goes low p stays same =
      let more = goes.history e low in
      let within = p.within in
      let longer = prefix_long (s.history e) (after.history e) more in record {
        small = p.small;
        asked = p.asked;
        pending = p.pending;
        k = p.k;
        submission = p.submission;
        there = stays p.k p.submission p.there;
        number = p.number;
        is_last = λ j b at is. p.is_last j b (same j b at is) is;
        slot = p.slot;
        took_slot = p.took_slot;
        term = p.term;
        in_term = subst (λ (z : Setup). (x : IsTarget z p.submission) → x.server.durable.term ≡ p.term) (sym (goes.setup e low)) p.in_term;
        within = omega (arith, within, longer);
        n = p.n;
        acked =
            ap (λ (z : Setup). slice_get (replay z (take by (after.history e))).acked p.n) (goes.setup e low)
            ∙ ap (λ (h : History). slice_get (replay (s.setup e) h).acked p.n) (prefix_part (s.history e) (after.history e) more by p.within)
            ∙ p.acked;
      }

  pub put_more : (s : Service) (ds : List Deed) (d : Deed) (e m moment by : ℕ) (op : Op) → moment ≤ length ds → IsPut s ds e m moment by op → IsPut s (ds ++ d ∷ []) e m moment by op
  put_more s ds d e m moment by op low p = record {
    small = p.small;
    asked = p.asked;
    pending = pending_longer ds (d ∷ []) m p.asked moment (Puts chunk op) low p.pending;
    k = p.k;
    submission = p.submission;
    there = p.there;
    number = p.number;
    is_last = p.is_last;
    slot = p.slot;
    took_slot = p.took_slot;
    term = p.term;
    in_term = p.in_term;
    within = p.within;
    n = p.n;
    acked = p.acked;
  }

  pub got_later : (s after : Service) (ds : List Deed) (e client moment by : ℕ) (read : Answered) → Goes s after → e ≤ s.epoch → IsGot s ds e client moment by read → IsGot after ds e client moment by read
  got_later s after ds e client moment by read goes low p =
      let more = goes.history e low in
      let within = p.within in
      let inside = slice_get_within (s.history e) p.place (record { event = Fetch p.server p.range; answer = answers.Read read.number }) p.taken in
      let longer = prefix_long (s.history e) (after.history e) more in record {
        asked = p.asked;
        range = p.range;
        pending = p.pending;
        handed = p.handed;
        after = p.after;
        place = p.place;
        at = p.at;
        server = p.server;
        taken = prefix_get (s.history e) (after.history e) more p.place inside ∙ p.taken;
        within = omega (arith, within, longer);
        k = p.k;
        answered =
            ap (λ (z : Setup). slice_get (replay z (take by (after.history e))).answered p.k) (goes.setup e low)
            ∙ ap (λ (h : History). slice_get (replay (s.setup e) h).answered p.k) (prefix_part (s.history e) (after.history e) more by p.within)
            ∙ p.answered;
      }

  pub got_more : (s : Service) (ds : List Deed) (d : Deed) (e client moment by : ℕ) (read : Answered) → moment ≤ length ds → IsGot s ds e client moment by read → IsGot s (ds ++ d ∷ []) e client moment by read
  got_more s ds d e client moment by read low p = record {
    asked = p.asked;
    range = p.range;
    pending = pending_longer ds (d ∷ []) client p.asked moment (Gets chunk p.range) low p.pending;
    handed = p.handed;
    after = p.after;
    place = p.place;
    at = at_front ds (d ∷ []) p.handed (Submits client chunk e p.place) p.at;
    server = p.server;
    taken = p.taken;
    within = p.within;
    k = p.k;
    answered = p.answered;
  }

  -- A reply

  module _ (s : Service) (mount : ℕ) (owed : Owed) (reply : Reply) (next : PortIs) (x : AreDriven s) (legal : AreLegal s) (step : PortSteps s mount owed (Some reply) (past_of s mount) next) where
    replied_so : IsReplied (s.setup s.epoch) (past_of s mount) owed.ask reply
    replied_so = port_answers (s.setup s.epoch) (past_of s mount) (past_of s mount) (s.port mount) next owed.ask reply (driven_now s mount owed.ask x step.step.pending) step.step (legal s.epoch (omega arith))

    pub kind : Answers owed.ask reply
    kind = in_kind (s.setup s.epoch) (past_of s mount) owed.ask reply (legal s.epoch (omega arith)) replied_so

  module _ (s : Service) (ds : List Deed) (mount : ℕ) (owed : Owed) (reply : Reply) (answer : Answered) (next : PortIs) (x : AreDriven s) (legal : AreLegal s) (step : PortSteps s mount owed (Some reply) (past_of s mount) next) where
    abbrev its_setup : Setup
    its_setup = s.setup s.epoch

    abbrev history : History
    history = s.history s.epoch

    now_legal : IsLegal its_setup history
    now_legal = legal s.epoch (omega arith)

    last_read : (number k : ℕ) (span : Span) → (s.port mount).sent ≡ Some (Number number) → owed.ask ≡ Read k span → IsLastRead (past_of s mount) span number
    last_read number k span told is =
        let st = stands its_setup (past_of s mount) (s.port mount) (driven_now s mount owed.ask x step.step.pending) now_legal in
        subst (IsSent its_setup (past_of s mount) (s.port mount).last (Some (Read k span))) told
        (subst (λ o. IsSent its_setup (past_of s mount) (s.port mount).last o (s.port mount).sent) (step.step.pending ∙ ap (λ a. Some a) is) st.sent)

    -- the read of the ask, as it was answered
    record Given (k : ℕ) (span : Span) (sectors : List Sector) : Type 0 where
      numbered : IsNumbered (s.port mount).sent (group_by_now s) sectors answer
      last : IsLastRead (past_of s mount) span answer.number
      taken : slice_get history (length last.final.before) ≡ Some (record { event = Fetch last.final.server span; answer = answers.Read answer.number })

    given : (k : ℕ) (span : Span) (sectors : List Sector) → owed.ask ≡ Read k span → reply ≡ Bytes sectors → IsAskAnsweredBy (s.port mount).sent (group_by_now s) reply answer → Given k span sectors
    given k span sectors is gives by =
        let numbered : IsNumbered (s.port mount).sent (group_by_now s) sectors answer = subst (λ (r : Reply). IsAskAnsweredBy (s.port mount).sent (group_by_now s) r answer) gives by in
        let last = last_read answer.number k span numbered.told is in
        record {
          numbered = numbered;
          last = last;
          taken =
              (next_there last.final.before history (fetching last.final) last.happened).0
              ∙ ap (λ (r : Span). Some (record { event = Fetch last.final.server r; answer = last.final.answer })) last.asked
              ∙ ap (λ z. Some (record { event = Fetch last.final.server span; answer = z })) last.numbered;
        }

    -- no write is answered with bytes, and no read without
    pub range : (k : ℕ) (span : Span) → IsAskAnsweredBy (s.port mount).sent (group_by_now s) reply answer → owed.ask ≡ Read k span → answer.range ≡ span
    range k span by is = of_reply reply refl
      where
        of_reply : (its : Reply) → reply ≡ its → answer.range ≡ span
        of_reply Written same = absurd (subst (λ (r : Reply). Answers (Read k span) r) same (subst (λ (a : Ask). Answers a reply) is (kind s mount owed reply next x legal step)))
        of_reply (Bytes sectors) same =
            let g = given k span sectors is same by in
            (answered_taken_up its_setup history (length g.last.final.before) g.last.final.server g.numbered.k span answer now_legal g.taken g.numbered.at).same_range

    module _ (o : Owes chunk s ds) where
      pends : DeedIsPending ds owed.client owed.moment (length ds) (port_ask owed.ask)
      pends = pends_owed chunk s ds mount owed owed.ask o step.owes step.step.pending

      -- the write that was answered
      pub put_now : (span : Span) (sectors : List Sector) → owed.ask ≡ Write chunk span sectors → reply ≡ Written → owed.client ≡ mount → IsPut s ds s.epoch mount (length ds) (length history) (ops.Write span sectors)
      put_now span sectors is replied own =
          let w : AskWasWritten its_setup (past_of s mount) span sectors = subst (λ (r : Reply). IsReplied its_setup (past_of s mount) (Write chunk span sectors) r) replied (subst (λ (a : Ask). IsReplied its_setup (past_of s mount) a reply) is (replied_so s mount owed reply next x legal step)) in
          let number : last_ask_number (s.owed mount) ≡ suc owed.moment = ap last_ask_number step.owes in record {
            small = step.small;
            asked = owed.moment;
            pending = subst (DeedIsPending ds mount owed.moment (length ds)) (ap port_ask is) (subst (λ c. DeedIsPending ds c owed.moment (length ds) (port_ask owed.ask)) own pends);
            k = w.ended.m;
            submission = w.ended.final;
            there = w.ended.at;
            number = w.ended.same ∙ number;
            is_last = λ j b at its. w.ended.no_later j b at (its ∙ sym number);
            slot = w.slot;
            took_slot = w.took_slot;
            term = w.term;
            in_term = w.in_term;
            within = omega arith;
            n = w.acked.k;
            acked = ap (λ (h : History). slice_get (replay its_setup h).acked w.acked.k) (take_all (length history) history (omega arith)) ∙ w.acked.at;
          }

      pub got_now : AreHanded chunk s ds → IsAskAnsweredBy (s.port mount).sent (group_by_now s) reply answer → (span : Span) (sectors : List Sector) → owed.ask ≡ Read chunk span → reply ≡ Bytes sectors → IsGot s ds s.epoch owed.client (length ds) (length history) answer
      got_now h by span sectors is replied =
          let g = given chunk span sectors is replied by in
          let last = g.last in
          let r = h.read s.epoch mount last.m last.final last.at in
          let number : last_ask_number (s.owed mount) ≡ suc owed.moment = ap last_ask_number step.owes in
          let r_number = r.number in
          let same = last.same in
          let turn : r.asked ≡ owed.moment = omega (arith, number, r_number, same) in
          let both : Takes r.client r.pending.reply (Some (Gets chunk last.final.range)) ≡ Takes owed.client pends.reply (Some (port_ask owed.ask)) =
          same_Some (Takes r.client r.pending.reply (Some (Gets chunk last.final.range))) (Takes owed.client pends.reply (Some (port_ask owed.ask))) (sym r.pending.at ∙ ap (slice_get ds) turn ∙ pends.at) in
          let client : r.client ≡ owed.client = cc in
          let earlier = r.pending.earlier in record {
            asked = owed.moment;
            range = span;
            pending = subst (DeedIsPending ds owed.client owed.moment (length ds)) (ap port_ask is) pends;
            handed = r.moment;
            after = omega (arith, turn, earlier);
            place = length last.final.before;
            at = r.at ∙ ap (λ c. Some (Submits c chunk s.epoch (length last.final.before))) client;
            server = last.final.server;
            taken = g.taken;
            within = omega arith;
            k = g.numbered.k;
            answered = ap (λ (hs : History). slice_get (replay its_setup hs).answered g.numbered.k) (take_all (length history) history (omega arith)) ∙ g.numbered.at;
          }
