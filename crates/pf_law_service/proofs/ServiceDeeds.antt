-- The deeds of a service fit its groups.
use Rattle.std.proofs.Common.{◌≡◌, ℕ, suc, pred, ◌<◌, ◌≤◌, inl, inr, if◌then◌else◌, List, [], ◌∷◌, ◌++◌, length, map, take, Some, slice_get, arith, sym, ap, subst, ◌∙◌, length-append}
use Rattle.std.proofs.lemmas.Bool.{cases_lt, le-ltb, lt-ltb}
use Rattle.std.proofs.lemmas.Option.{none-some, same_Some}
use Rattle.pf_entry.specs.declared.ops.Op.{Op}
use Rattle.pf_protocol.specs.declared.answers.Answer.{Answer}
use Rattle.pf_protocol.specs.declared.events.Event.TheVariants.{Fetch, Submit}
use Rattle.pf_protocol.specs.declared.events.Happening.{Happening}
use Rattle.pf_protocol.specs.Groups.{Answered, ending}
use Rattle.pf_protocol.specs.Histories.{IsPrefix}
use Rattle.pf_protocol.specs.Ports.{IsTarget, Submission, submitting}
use Rattle.pf_law_positions.specs.Deeds.{Deed, DeedsFit, Groups, WriteIsHanded, DeedIsPending, IsPort, Puts, Submits, WasGot, WasPut}
use Rattle.pf_law_positions.proofs.WorkedDeeds.{next_there}
use Rattle.pf_law_ports.specs.Calls.{fetching}
use Rattle.pf_law_registers.specs.Firsts.{IsPorts}
use Rattle.pf_law_registers.proofs.Lists.{got_mapped}
use Rattle.pf_law_service.specs.Served.{AreLegal, ChunkIsServed}
use Rattle.pf_law_service.specs.Services.{Service, by_moment, groups_of, writes_of}
use Rattle.pf_law_service.proofs.ClientAnswers.{IsGot, IsPut}
use Rattle.pf_law_service.proofs.DrivenPorts.{Stood, driven, stood}
use Rattle.pf_law_service.proofs.ServiceGrowth.{serving_low}
use Rattle.pf_law_service.proofs.HandedDeeds.{AreHanded, ByRead, ByWrite, Hand, handed}
use Rattle.pf_law_service.proofs.Places.{map_get}
use Rattle.pf_law_service.proofs.SettledDeeds.{answered}
use Rattle.pf_law_service.proofs.DeedOrder.{served_by, told}

-- the writes of a client that writes, and of any other
small_writes : (s : Service) (e m : ℕ) → m < 16 → writes_of s e m ≡ map by_moment (s.writes e m)
small_writes s e m small = ap (λ b. if b then map by_moment (s.writes e m) else []) (lt-ltb m 16 small)

no_writes : (s : Service) (e m : ℕ) → 16 ≤ m → writes_of s e m ≡ []
no_writes s e m past = ap (λ b. if b then map by_moment (s.writes e m) else []) (le-ltb m 16 past)

module _ (chunk : ℕ) (s : Service) (ds : List Deed) (moved : (chunk epoch : ℕ) → List Submission) (h : AreHanded chunk s ds) where
  abbrev g : Groups
  g = groups_of s moved

  -- Ports

  module _ (e m : ℕ) (small : m < 16) (x : Stood s e m) where
    of_list : (k : ℕ) (a : Submission) → slice_get (writes_of s e m) k ≡ Some a → (b : Submission) × (slice_get (s.writes e m) k ≡ Some b) × (by_moment b ≡ a)
    of_list k a at = got_mapped by_moment (s.writes e m) k a (ap (λ (l : List Submission). slice_get l k) (sym (small_writes s e m small)) ∙ at)

    in_front : (k : ℕ) (a b : Submission) → slice_get (writes_of s e m) k ≡ Some a → slice_get (writes_of s e m) (suc k) ≡ Some b → length a.before < length b.before
    in_front k a b at its =
        let p = of_list k a at in
        let q = of_list (suc k) b its in
        let first = x.stands.rule.in_order k (suc k) p.0 q.0 p.1 q.1 (omega arith) in
        let a_long : length p.0.before ≡ length a.before = ap (λ (z : Submission). length z.before) p.2 in
        let b_long : length q.0.before ≡ length b.before = ap (λ (z : Submission). length z.before) q.2 in
        let whole = ap length first.whole in
        omega (arith, whole, a_long, b_long, length-append (p.0.before ++ submitting p.0 ∷ []) first.rest, length-append p.0.before (submitting p.0 ∷ []))

    handed_on : (k : ℕ) (a : Submission) → slice_get (s.writes e m) k ≡ Some a → WriteIsHanded ds chunk e m (by_moment a)
    handed_on k a at =
        let w = h.write e m k a at in
        record { moment = w.moment; at = w.at; pending = subst (λ n. DeedIsPending ds m n w.moment (Puts chunk a.op)) (sym (ap pred w.number)) w.pending }

    same_write : (j k : ℕ) (a b : Submission) → slice_get (s.writes e m) j ≡ Some a → slice_get (s.writes e m) k ≡ Some b → pred a.write ≡ pred b.write → a.write ≡ b.write
    same_write j k a b at its same =
        let a_number = (h.write e m j a at).number in
        let b_number = (h.write e m k b its).number in
        a_number ∙ ap suc (sym (ap pred a_number) ∙ same ∙ ap pred b_number) ∙ sym b_number

    port_of : IsPort g ds chunk e m
    port_of = record {
      happened = λ k a at.
          let p = of_list k a at in
          subst (λ (z : Submission). IsPrefix (z.before ++ submitting z ∷ []) (s.history e)) p.2 (h.write e m k p.0 p.1).happened;
      handed = λ k a at. let p = of_list k a at in subst (WriteIsHanded ds chunk e m) p.2 (handed_on k p.0 p.1);
      in_order = in_front;
      term = x.rises.term;
      in_term = λ k a at.
          let p = of_list k a at in
          subst (λ (z : Submission). (t : IsTarget (s.setup e) z) → t.server.durable.term ≡ x.rises.term k) p.2
          (λ t. x.rises.in_term k p.0 p.1 (record { server = t.server; leader = t.leader; runs = t.runs; serves = t.serves }));
      no_lower = λ k a b at its. let p = of_list k a at in let q = of_list (suc k) b its in x.rises.no_lower k (suc k) p.0 q.0 p.1 q.1 (omega arith);
      again = λ k a b at its same how.
          let p = of_list k a at in
          let q = of_list (suc k) b its in
          let one = same_write k (suc k) p.0 q.0 p.1 q.1 (ap (λ (z : Submission). z.write) p.2 ∙ same ∙ sym (ap (λ (z : Submission). z.write) q.2)) in
          x.rises.again k (suc k) p.0 q.0 p.1 q.1 (omega arith) one (ap (λ (z : Submission). ending z.answer) p.2 ∙ how);
    }

  no_port : (e m : ℕ) → 16 ≤ m → IsPort g ds chunk e m
  no_port e m past = record {
    happened = λ k a at. absurd (nothing k a at);
    handed = λ k a at. absurd (nothing k a at);
    in_order = λ k a b at its. absurd (nothing k a at);
    term = λ k. 0;
    in_term = λ k a at. absurd (nothing k a at);
    no_lower = λ k a b at its. absurd (nothing k a at);
    again = λ k a b at its same how. absurd (nothing k a at);
  }
    where
      nothing : (k : ℕ) (a : Submission) → slice_get (writes_of s e m) k ≡ Some a → ⊥
      nothing k a at = none-some a (ap (λ (l : List Submission). slice_get l k) (sym (no_writes s e m past)) ∙ at)

  every_port : (e m : ℕ) → Stood s e m → IsPort g ds chunk e m
  every_port e m x = elim (cases_lt m 16) [
    | inl small ↦ port_of e m small x
    | inr past ↦ no_port e m past
  ]

  -- Replies

  was_put : (e m moment by : ℕ) (op : Op) → IsPut chunk s ds e m moment by op → WasPut g ds chunk e m moment by op
  was_put e m moment by op p = record {
    asked = p.asked;
    pending = p.pending;
    k = p.k;
    submission = by_moment p.submission;
    there = ap (λ (l : List Submission). slice_get l p.k) (small_writes s e m p.small) ∙ map_get by_moment (s.writes e m) p.k p.submission p.there;
    is_it = ap pred p.number;
    is_last = λ j z at same.
        let q = got_mapped by_moment (s.writes e m) j z (ap (λ (l : List Submission). slice_get l j) (sym (small_writes s e m p.small)) ∙ at) in
        let number = (h.write e m j q.0 q.1).number in
        p.is_last j q.0 q.1 (number ∙ ap suc (sym (ap pred number) ∙ ap (λ (y : Submission). y.write) q.2 ∙ same));
    slot = p.slot;
    took_slot = p.took_slot;
    term = p.term;
    in_term = λ t. p.in_term (record { server = t.server; leader = t.leader; runs = t.runs; serves = t.serves });
    n = p.n;
    acked = p.acked;
  }

  was_got : (e client moment by : ℕ) (read : Answered) → IsGot chunk s ds e client moment by read → WasGot g ds chunk e client moment by read
  was_got e client moment by read p = record {
    asked = p.asked;
    range = p.range;
    pending = p.pending;
    handed = p.handed;
    after = p.after;
    place = p.place;
    at = p.at;
    server = p.server;
    taken = p.taken;
    k = p.k;
    answered = p.answered;
  }

  -- a deed handed on what it is
  hand_is : (client e place server : ℕ) (op : Op) (answer : Answer) → Hand chunk s client e place → slice_get (s.history e) place ≡ Some (record { event = Submit server op; answer = answer }) → IsPorts (writes_of s e client) (take place (s.history e)) server op answer
  hand_is client e place server op answer (ByWrite k a small at is) there =
      let n = next_there a.before (s.history e) (submitting a) (h.write e client k a at).happened in
      let same : submitting a ≡ record { event = Submit server op; answer = answer } = same_Some (submitting a) (record { event = Submit server op; answer = answer }) (sym n.0 ∙ ap (slice_get (s.history e)) is ∙ there) in
      let event : Submit a.server a.op ≡ Submit server op = ap (λ (x : Happening). x.event) same in record {
        k = k;
        submission = by_moment a;
        there = ap (λ (l : List Submission). slice_get l k) (small_writes s e client small) ∙ map_get by_moment (s.writes e client) k a at;
        at_moment = sym n.1 ∙ ap (λ i. take i (s.history e)) is;
        to = cc;
        has_op = cc;
        has_answer = ap (λ (x : Happening). x.answer) same;
      }
  hand_is client e place server op answer (ByRead m k f at is) there =
      let n = next_there f.before (s.history e) (fetching f) (h.read e m k f at).happened in
      let same : fetching f ≡ record { event = Submit server op; answer = answer } = same_Some (fetching f) (record { event = Submit server op; answer = answer }) (sym n.0 ∙ ap (slice_get (s.history e)) is ∙ there) in
      let event : Fetch f.server f.range ≡ Submit server op = ap (λ (x : Happening). x.event) same in
      absurd (cc)

pub handed_of_ports : (chunk epoch moment client place server : ℕ) (s : Service) (ds : List Deed) (op : Op) (answer : Answer) → ChunkIsServed chunk s ds → slice_get ds moment ≡ Some (Submits client chunk epoch place)
    → slice_get (s.history epoch) place ≡ Some (record { event = Submit server op; answer = answer }) → IsPorts (writes_of s epoch client) (take place (s.history epoch)) server op answer
handed_of_ports chunk epoch moment client place server s ds op answer served at there =
    let h = handed chunk s ds served in
    hand_is chunk s ds (λ k e. []) h client epoch place server op answer (h.hand moment client chunk epoch place at) there

pub fits : (chunk : ℕ) (s : Service) (ds : List Deed) (moved : (chunk epoch : ℕ) → List Submission) → ChunkIsServed chunk s ds → AreLegal s → DeedsFit (groups_of s moved) ds chunk
fits chunk s ds moved served legal =
    let t = told chunk s ds served in
    let h = handed chunk s ds served in
    let x = driven chunk s ds served in
    let a = answered chunk s ds served legal in
    let low = serving_low s in record {
      places = t.places;
      rises = t.rises;
      goes_on = t.goes_on;
      reached = served_by chunk s ds t;
      port = λ epoch client within. every_port chunk s ds moved h epoch client (stood s x legal epoch client (omega (arith, low, within)));
      waits = a.waits;
      put = λ client moment epoch by op ask at. was_put chunk s ds moved h epoch client moment by op (a.put moment client epoch by op ask at);
      got = λ client moment epoch by read ask at. was_got chunk s ds moved h epoch client moment by read (a.got moment client epoch by read ask at);
    }
