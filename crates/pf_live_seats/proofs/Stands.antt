-- What became of a host by one call of the seat that submits.
use Rattle.std.proofs.Common.{◌≡◌, ◌≢◌, ℕ, zero, suc, ◌+◌, ◌-◌, ◌<◌, Bool, IsTrue, true, false, cond, ◌==◌, eq-eqb, eqb-true, List, [], ◌∷◌, ◌++◌, Contains, length, replicate, Option, Some, None, Result, Ok, Err, slice_get, append_assoc, append-nil, length-append, arith, refl, sym, ap, ◌∙◌, subst}
use mathlib.Core.Logic.{dite}
use native.Mathlib.Decide.{ℕ_discrete}
use Rattle.std.proofs.lemmas.List.{length-replicate}
use Rattle.pf_base.specs.Span.{IsWritable, Span}
use Rattle.pf_entry.specs.Lists.{Every}
use Rattle.pf_entry.specs.declared.ops.Op.{Op}
use Rattle.pf_entry.specs.declared.ops.Op.TheVariants.{Write}
use Rattle.pf_turn.specs.Lists.{Begins}
use Rattle.pf_turn.specs.Own.{EachOf}
use Rattle.pf_turn.proofs.Own.{each_longer, each_snoc}
use Rattle.pf_protocol.specs.Servers.{Condition, Running, Stopped, Unformatted, Server}
use Rattle.pf_protocol.specs.Answers.{IsSubmitted}
use Rattle.pf_protocol.specs.Groups.{Acked, Group}
use Rattle.pf_protocol.specs.declared.answers.Answer.{Answer}
use Rattle.pf_protocol.specs.declared.answers.Answer.TheVariants as answers
use Rattle.pf_protocol.specs.declared.events.Event.TheVariants.{Submit}
use Rattle.pf_shared.specs.pf_group.specs.declared.errors.Down.{Down}
use Rattle.pf_shared.specs.pf_group.specs.GroupIs.{GroupIs}
use Rattle.pf_shared.specs.pf_group.specs.Readers.{ServerTells}
use Rattle.pf_rings.specs.Passes.{put_by, taken_by}
use Rattle.pf_rings.specs.declared.view.Request.{Request}
use Rattle.pf_shared.specs.declared.moment.SeatMoment.{SeatMoment}
use Rattle.pf_shared.specs.declared.moment.SeatMoment.TheVariants.{Happened, Look}
use Rattle.pf_shared.specs.Calls.{Adds, Finds, SeatSteps}
use Rattle.pf_shared.specs.Moments.{entry}
use Rattle.pf_shared.specs.Since.{state_by_now}
use Rattle.pf_shared.specs.pf_group_network.specs.Shown.{is_acked}
use Rattle.pf_live_seats.specs.declared.plan.LinePlan.{LinePlan}
use Rattle.pf_live_seats.specs.declared.serving.Served.{Served}
use Rattle.pf_live_seats.specs.declared.serving.Standing.{Standing}
use Rattle.pf_live_seats.specs.declared.serving.Standing.TheVariants.{Asked, Placed, Settled}
use Rattle.pf_live_seats.specs.Deliveries.{LiveTrace}
use Rattle.pf_live_seats.specs.Submissions.{IsNextWrite, is_told, is_write_of, number_with, write_numbers, slot_at, slot_got, slot_with, slots_of_host}
use Rattle.pf_live_seats.specs.Submitters.{AllTold, AreAnswered, AreWithin, IsServedCounted, IsFed, RequestIsHanded, ServesOn, SubmitterStands, Submits, SubmitsAlone, SubmitsNone, standing_after}
use Rattle.pf_live_seats.specs.Writes.{byte_of, first_requests, op_of_request, request_of, write_for}
use Rattle.pf_live_seats.proofs.Submissions.{all_told_later, alone_before, cond_false, cond_true, every_more, every_snoc, numbered, numbers_snoc, others_quiet, slots_snoc, submits_none, told_later}

pub begins_on : (xs ys zs : LiveTrace) → Begins xs ys → Begins ys zs → Begins xs zs
begins_on xs ys zs p q = (p.0 ++ q.0, sym (append_assoc xs p.0 q.0) ∙ (ap (λ l. l ++ q.0) p.1 ∙ q.1))

-- the last members of two lists
snoc_last : {A : Type 0} → (xs ys : List A) (x y : A) → xs ++ x ∷ [] ≡ ys ++ y ∷ [] → (xs ≡ ys) × (x ≡ y)
snoc_last [] [] x y is = (refl, cc)
snoc_last [] (z ∷ []) x y is = absurd cc
snoc_last [] (z ∷ (w ∷ zs)) x y is = absurd cc
snoc_last (z ∷ []) [] x y is = absurd cc
snoc_last (z ∷ (w ∷ zs)) [] x y is = absurd cc
snoc_last (z ∷ zs) (w ∷ ws) x y is = let tails : zs ++ x ∷ [] ≡ ws ++ y ∷ [] = cc in let heads : z ≡ w = cc in let both = snoc_last zs ws x y tails in (let t = both.0 in cc, both.1)

told_on : (root : GroupIs) (h : ℕ) (seen new : LiveTrace) → Begins seen new → slots_of_host root h new ≡ slots_of_host root h seen → AllTold root seen (slots_of_host root h seen) → AllTold root new (slots_of_host root h new)
told_on root h seen new p same t = subst (AllTold root new) (sym same) (all_told_later root seen new p (slots_of_host root h seen) t)

-- others added entries
module _ (root : GroupIs) (h : ℕ) (seen new : LiveTrace) (p : Begins seen new) (same : SubmitsNone root h seen new) where
  within_on : (taken : ℕ) → AreWithin root h seen taken → AreWithin root h new taken
  within_on taken w = subst (Every (λ j. j < taken)) (sym same.numbers) w

  pub stands_on : (taken : ℕ) (standing : Standing) → SubmitterStands root h seen taken standing → SubmitterStands root h new taken standing
  stands_on taken Settled s = (ap length same.slots ∙ s.0, told_on root h seen new p same.slots s.1, within_on taken s.2)
  stands_on taken (Asked request) s = (ap (λ l. length l + 1) same.slots ∙ s.0, told_on root h seen new p same.slots s.1, within_on taken s.2)
  stands_on taken (Placed term slot request) s = (ap length same.slots ∙ s.0, s.1, s.2 ∙ sym same.slots, all_told_later root seen new p s.1 s.3, within_on taken s.4)

-- the writes that are submitted are among those that were taken
pub stands_within : (root : GroupIs) (h : ℕ) (list : LiveTrace) (taken : ℕ) (standing : Standing) → SubmitterStands root h list taken standing → AreWithin root h list taken
stands_within root h list taken Settled s = s.2
stands_within root h list taken (Asked request) s = s.2
stands_within root h list taken (Placed term slot request) s = s.4

-- and all that were taken are submitted, if the last one is that has no slot
pub all_submitted : (root : GroupIs) (h : ℕ) (list : LiveTrace) (taken : ℕ) (standing : Standing) → SubmitterStands root h list taken standing → ((request : Request) → standing ≡ Asked request → Contains (write_numbers root h list) (taken - 1)) → (j : ℕ) → j < taken → Contains (write_numbers root h list) j
all_submitted root h list taken Settled s last j low = numbered root h list j (let count = s.0 in omega (arith, low, count))
all_submitted root h list taken (Placed term slot request) s last j low = numbered root h list j (let count = s.0 in omega (arith, low, count))
all_submitted root h list taken (Asked request) s last j low = let count = s.0 in dite (ℕ_discrete j (length (slots_of_host root h list)))
    (λ is. let here : taken - 1 ≡ j = omega (arith, is, count) in subst (Contains (write_numbers root h list)) here (last request refl))
    (λ other. numbered root h list j (omega (arith, low, other, count)))

stands_as : (root : GroupIs) (h : ℕ) (list : LiveTrace) (a b : Served) → b.taken ≡ a.taken → b.standing ≡ a.standing → SubmitterStands root h list a.taken a.standing → SubmitterStands root h list b.taken b.standing
stands_as root h list a b t st s = subst (λ x. SubmitterStands root h list x b.standing) (sym t) (subst (λ y. SubmitterStands root h list a.taken y) (sym st) s)

-- the request that has no slot yet is the host's next one
pub request_is : (plan : LinePlan) (h m : ℕ) (a : Served) (request : Request) → IsServedCounted plan a → IsFed plan.sectors h a → a.standing ≡ Asked request → m + 1 ≡ a.taken → request ≡ request_of plan.sectors h m
request_is plan h m a request counted fed st count =
    let last : put_by a.answers ++ request ∷ [] ≡ taken_by a.pass = subst (AreAnswered (put_by a.answers) (taken_by a.pass)) st counted.answered in
    let now : a.taken ≡ suc m = omega arith in
    (snoc_last (put_by a.answers) (first_requests plan.sectors h m) request (request_of plan.sectors h m) (last ∙ (fed ∙ ap (first_requests plan.sectors h) now))).1

-- and its op is that of the request
asks_is : (sectors h m : ℕ) (request : Request) → request ≡ request_of sectors h m → write_for request ≡ op_of_request (request_of sectors h m)
asks_is sectors h m request is = ap write_for is

pub is_own : (h k : ℕ) → k ≡ h → (byte_of h == byte_of k) ≡ true
is_own h k is = eq-eqb (byte_of h) (byte_of k) (omega arith)

is_other : (h k : ℕ) → k ≢ h → (byte_of h == byte_of k) ≡ false
is_other h k other = by (byte_of h == byte_of k) refl
  where
    by : (b : Bool) → (byte_of h == byte_of k) ≡ b → (byte_of h == byte_of k) ≡ false
    by true e = absurd (other (let x = eqb-true (byte_of h) (byte_of k) e in omega arith))
    by false e = e

cond_none : {A : Type 0} → (b : Bool) (x : List A) → x ≡ [] → cond b x [] ≡ []
cond_none true x is = is
cond_none false x is = refl

-- a server that does not run gives no slot
down_slot : (o : Option Condition) (slot : ℕ) → ((s : Server) → o ≡ Some (Running s) → ⊥) → slot_at o slot ≡ []
down_slot None slot down = refl
down_slot (Some (Running s)) slot down = absurd (down s refl)
down_slot (Some (Stopped life before after)) slot down = refl
down_slot (Some Unformatted) slot down = refl

-- what a submission that was told so got
module _ (g : Group) (server : ℕ) (op : Op) (request : Request) where
  abbrev GotAs : Answer → Standing → Type 0
  GotAs answer Settled = ⊥
  GotAs answer (Asked r) = (r ≡ request) × (slot_got g (Submit server op) answer ≡ [])
  GotAs answer (Placed term slot r) = slot_got g (Submit server op) answer ≡ record { term = term; slot = slot } ∷ []

  got : (told : Result ℕ Down) (answer : Answer) → ServerTells g server told (λ term s. term ≡ s.durable.term) → GotAs answer (standing_after told answer request)
  got (Ok term) (answers.Slot slot) t = ap (λ o. slot_at o slot) t.1 ∙ ap (λ x. record { term = x; slot = slot } ∷ []) (sym t.2)
  got (Err down) (answers.Slot slot) t = (refl, down_slot (slice_get g.servers server) slot t)
  got (Ok term) answers.Done t = (refl, refl)
  got (Err down) answers.Done t = (refl, refl)
  got (Ok term) (answers.Term x) t = (refl, refl)
  got (Err down) (answers.Term x) t = (refl, refl)
  got (Ok term) (answers.Read x) t = (refl, refl)
  got (Err down) (answers.Read x) t = (refl, refl)
  got (Ok term) (answers.Base x) t = (refl, refl)
  got (Err down) (answers.Base x) t = (refl, refl)
  got (Ok term) (answers.Job x) t = (refl, refl)
  got (Err down) (answers.Job x) t = (refl, refl)
  got (Ok term) (answers.Refused x) t = (refl, refl)
  got (Err down) (answers.Refused x) t = (refl, refl)

module _ (plan : LinePlan) (root : GroupIs) (n h : ℕ) (a b : Served) (alone : Type 0) (seen new : LiveTrace) where
  fed_kept : b.pass ≡ a.pass → b.taken ≡ a.taken → IsFed plan.sectors h b → IsFed plan.sectors h a
  fed_kept p t f = ap taken_by (sym p) ∙ (f ∙ ap (first_requests plan.sectors h) t)

  module _ (f : Finds n alone seen new) (begun : LiveTrace) (begins : Begins begun seen) (al : SubmitsAlone n begun new) where
    pub none_found : (k : ℕ) → SubmitsNone root k seen new
    none_found k = submits_none root k seen f.begins.0 new f.begins.1 (others_quiet n begun seen new begins f.begins f.own al)

  -- it made no entry
  pub serves_kept : Finds n alone seen new → b.pass ≡ a.pass → b.taken ≡ a.taken → b.standing ≡ a.standing → ServesOn plan root n h a seen b new
  serves_kept f p t st begun begins = record {
    begins = f.begins;
    fed = fed_kept p t;
    steps = λ al fed each s. each_longer n (Submits plan root) seen new f.begins f.own each;
    stands = λ told al fed s. stands_as root h new a b t st (stands_on root h seen new f.begins (none_found f begun begins al h) a.taken a.standing s);
    others = λ told al fed s k other. none_found f begun begins al k;
  }

  module _ (what : SeatMoment) (adds : Adds n alone seen what new) (begun : LiveTrace) (begins : Begins begun seen) where
    to_found : Begins begun adds.found
    to_found = begins_on begun seen adds.found begins adds.finds.begins

    found_on : Begins adds.found new
    found_on = (entry n what ∷ [], sym adds.listed)

    pub begins_new : Begins seen new
    begins_new = begins_on seen adds.found new adds.finds.begins found_on

    module _ (al : SubmitsAlone n begun new) where
      alone_there : SubmitsAlone n begun adds.found
      alone_there = alone_before n begun adds.found new to_found found_on al

      none_there : (k : ℕ) → SubmitsNone root k seen adds.found
      none_there k = submits_none root k seen adds.finds.begins.0 adds.found adds.finds.begins.1 (others_quiet n begun seen adds.found begins adds.finds.begins adds.finds.own alone_there)

      slots_own : (k : ℕ) → slots_of_host root k new ≡ slots_of_host root k seen ++ slot_with (state_by_now root adds.found) k what
      slots_own k = ap (slots_of_host root k) adds.listed ∙ (slots_snoc root k adds.found (entry n what) ∙ ap (λ l. l ++ slot_with (state_by_now root adds.found) k what) (none_there k).slots)

      numbers_own : (k : ℕ) → write_numbers root k new ≡ write_numbers root k seen ++ number_with k (length (slots_of_host root k seen)) what
      numbers_own k = let same = none_there k in ap (write_numbers root k) adds.listed ∙ (numbers_snoc root k adds.found (entry n what) ∙ (ap (λ l. write_numbers root k adds.found ++ number_with k (length l) what) same.slots ∙ ap (λ l. l ++ number_with k (length (slots_of_host root k seen)) what) same.numbers))

      slots_same : (k : ℕ) → slot_with (state_by_now root adds.found) k what ≡ [] → slots_of_host root k new ≡ slots_of_host root k seen
      slots_same k none = slots_own k ∙ (ap (λ l. slots_of_host root k seen ++ l) none ∙ append-nil (slots_of_host root k seen))

      no_more : (k : ℕ) → slot_with (state_by_now root adds.found) k what ≡ [] → number_with k (length (slots_of_host root k seen)) what ≡ [] → SubmitsNone root k seen new
      no_more k none fresh = record { slots = slots_same k none; numbers = numbers_own k ∙ (ap (λ l. write_numbers root k seen ++ l) fresh ∙ append-nil (write_numbers root k seen)) }

    each_on : EachOf n (Submits plan root) seen → Submits plan root adds.found what → EachOf n (Submits plan root) new
    each_on each here = subst (EachOf n (Submits plan root)) (sym adds.listed) (each_snoc n (Submits plan root) adds.found what (each_longer n (Submits plan root) seen adds.found adds.finds.begins adds.finds.own each) here)

  -- it looked
  pub serves_look : Adds n alone seen (Look None) new → b.pass ≡ a.pass → b.taken ≡ a.taken → b.standing ≡ a.standing → ServesOn plan root n h a seen b new
  serves_look adds p t st begun begins = record {
    begins = begins_new (Look None) adds begun begins;
    fed = fed_kept p t;
    steps = λ al fed each s. each_on (Look None) adds begun begins each refl;
    stands = λ told al fed s. stands_as root h new a b t st (stands_on root h seen new (begins_new (Look None) adds begun begins) (no_more (Look None) adds begun begins al h refl refl) a.taken a.standing s);
    others = λ told al fed s k other. no_more (Look None) adds begun begins al k refl refl;
  }

  -- and found that its slot is acknowledged, where the disks tell their content
  pub serves_told : (term slot : ℕ) (request : Request) (adds : Adds n alone seen (Look None) new) → (IsTrue root.told → is_acked (state_by_now root adds.found) term slot ≡ true) → a.standing ≡ Placed term slot request → b.pass ≡ a.pass → b.taken ≡ a.taken → b.standing ≡ Settled → ServesOn plan root n h a seen b new
  serves_told term slot request adds acked was p t st begun begins = record {
    begins = begins_new (Look None) adds begun begins;
    fed = fed_kept p t;
    steps = λ al fed each s. each_on (Look None) adds begun begins each refl;
    stands = λ told al fed s. subst (λ y. SubmitterStands root h new b.taken y) (sym st) (settles told al (subst (λ y. SubmitterStands root h seen a.taken y) was s));
    others = λ told al fed s k other. no_more (Look None) adds begun begins al k refl refl;
  }
    where
      settles : IsTrue root.told → SubmitsAlone n begun new → SubmitterStands root h seen a.taken (Placed term slot request) → SubmitterStands root h new b.taken Settled
      settles told al s = let same = no_more (Look None) adds begun begins al h refl refl in (
        ap length same.slots ∙ (s.0 ∙ sym t),
        subst (AllTold root new) (s.2 ∙ sym same.slots) (every_snoc (λ (x : Acked). is_told (state_by_now root new) x ≡ true) s.1 (record { term = term; slot = slot })
            (all_told_later root seen new (begins_new (Look None) adds begun begins) s.1 s.3)
            (told_later root adds.found new (found_on (Look None) adds begun begins) (record { term = term; slot = slot }) (acked told))),
        subst (AreWithin root h new) (sym t) (within_on root h seen new (begins_new (Look None) adds begun begins) same a.taken s.4),
      )

  -- and answered the host, or could not
  pub serves_answered : (term slot : ℕ) (request : Request) (adds : Adds n alone seen (Look None) new) → (IsTrue root.told → is_acked (state_by_now root adds.found) term slot ≡ true) → a.standing ≡ Placed term slot request → b.pass ≡ a.pass → b.taken ≡ a.taken → (answered : Bool) → (answered ≡ true → b.standing ≡ Settled) → (answered ≡ false → b.standing ≡ a.standing) → ServesOn plan root n h a seen b new
  serves_answered term slot request adds acked was p t true put full = serves_told term slot request adds acked was p t (put refl)
  serves_answered term slot request adds acked was p t false put full = serves_look adds p t (full refl)

  -- it handed a request to a server
  module _ (server : ℕ) (request : Request) (told : Result ℕ Down) (answer : Answer) (op : Op) (op_is : op ≡ write_for request) (steps : SeatSteps root n alone seen (Submit server op) answer new)
      (tells : IsTrue root.told → ServerTells (state_by_now root steps.adds.found) server told (λ term s. term ≡ s.durable.term)) (low : h < plan.hosts) (counted : IsServedCounted plan a) (was : a.standing ≡ Asked request)
      (p : b.pass ≡ a.pass) (t : b.taken ≡ a.taken) (st : b.standing ≡ standing_after told answer request) where
    abbrev what : SeatMoment
    what = Happened (record { event = Submit server op; answer = answer })

    -- the request is the last one that was taken
    asked_last : put_by a.answers ++ request ∷ [] ≡ taken_by a.pass
    asked_last = subst (AreAnswered (put_by a.answers) (taken_by a.pass)) was counted.answered

    abbrev m : ℕ
    m = length (put_by a.answers)

    one_less : m + 1 ≡ a.taken
    one_less = sym (length-append (put_by a.answers) (request ∷ [])) ∙ (ap length asked_last ∙ counted.count)

    op_next : IsFed plan.sectors h b → op ≡ op_of_request (request_of plan.sectors h m)
    op_next fed = op_is ∙ asks_is plan.sectors h m request (request_is plan h m a request counted (fed_kept p t fed) was one_less)

    next_write : (begun : LiveTrace) (begins : Begins begun seen) → SubmitsAlone n begun new → IsFed plan.sectors h b → (IsTrue root.told → SubmitterStands root h seen a.taken (Asked request)) → IsNextWrite plan root steps.adds.found (Submit server op)
    next_write begun begins al fed s = let same = (none_there what steps.adds begun begins al h).slots in record {
      h = h;
      low = low;
      number = m;
      few = let few = counted.few in let less = one_less in omega arith;
      server = server;
      is = ap (Submit server) (op_next fed);
      next = λ told. let c = ap length same in let is = (s told).0 in let less = one_less in omega arith;
      acked = λ told. subst (AllTold root steps.adds.found) (sym same) (all_told_later root seen steps.adds.found steps.adds.finds.begins (slots_of_host root h seen) (s told).1);
    }

    module _ (begun : LiveTrace) (begins : Begins begun seen) (al : SubmitsAlone n begun new) (fed : IsFed plan.sectors h b) (s : SubmitterStands root h seen a.taken (Asked request)) where
      writes_as : (k : ℕ) → is_write_of k (Submit server op) ≡ (byte_of h == byte_of k)
      writes_as k = ap (λ o. is_write_of k (Submit server o)) (op_next fed)

      none_else : (k : ℕ) → k ≢ h → SubmitsNone root k seen new
      none_else k other = let no = writes_as k ∙ is_other h k other in no_more what steps.adds begun begins al k (cond_false (is_write_of k (Submit server op)) (slot_got (state_by_now root steps.adds.found) (Submit server op) answer) [] no) (cond_false (is_write_of k (Submit server op)) (length (slots_of_host root k seen) ∷ []) [] no)

      -- its number is that of the last one that was taken
      within_then : AreWithin root h new a.taken
      within_then = let next : ℕ = length (slots_of_host root h seen) in let count = s.0 in
          subst (Every (λ j. j < a.taken)) (sym (numbers_own what steps.adds begun begins al h ∙ ap (λ l. write_numbers root h seen ++ l) (cond_true (is_write_of h (Submit server op)) (next ∷ []) [] (writes_as h ∙ is_own h h refl))))
          (every_snoc (λ (j : ℕ). j < a.taken) (write_numbers root h seen) next s.2 (omega (arith, count)))

      stands_then : (standing : Standing) → GotAs (state_by_now root steps.adds.found) server op request answer standing → SubmitterStands root h new a.taken standing
      stands_then Settled g = absurd g
      stands_then (Asked r) g = let same = slots_same what steps.adds begun begins al h (cond_none (is_write_of h (Submit server op)) _ g.1) in
          (ap (λ l. length l + 1) same ∙ s.0, told_on root h seen new (begins_new what steps.adds begun begins) same s.1, within_then)
      stands_then (Placed term slot r) g =
          let more : slots_of_host root h seen ++ record { term = term; slot = slot } ∷ [] ≡ slots_of_host root h new
          = ap (λ l. slots_of_host root h seen ++ l) (sym (cond_true (is_write_of h (Submit server op)) (slot_got (state_by_now root steps.adds.found) (Submit server op) answer) [] (writes_as h ∙ is_own h h refl) ∙ g)) ∙ sym (slots_own what steps.adds begun begins al h) in (
            ap length (sym more) ∙ (length_snoc (slots_of_host root h seen) (record { term = term; slot = slot }) ∙ s.0),
            slots_of_host root h seen,
            more,
            all_told_later root seen new (begins_new what steps.adds begun begins) (slots_of_host root h seen) s.1,
            within_then,
          )
        where
          length_snoc : (xs : List Acked) (x : Acked) → length (xs ++ x ∷ []) ≡ length xs + 1
          length_snoc xs x = length-append xs (x ∷ [])

    pub serves_handed : ServesOn plan root n h a seen b new
    serves_handed begun begins = record {
      begins = begins_new what steps.adds begun begins;
      fed = fed_kept p t;
      steps = λ al fed each s. each_on what steps.adds begun begins each (next_write begun begins al fed (λ told. subst (λ y. SubmitterStands root h seen a.taken y) was (s told)));
      stands = λ yes al fed s. subst (λ x. SubmitterStands root h new x b.standing) (sym t) (subst (λ y. SubmitterStands root h new a.taken y) (sym st)
          (stands_then begun begins al fed (subst (λ y. SubmitterStands root h seen a.taken y) was s) (standing_after told answer request) (got (state_by_now root steps.adds.found) server op request told answer (tells yes))));
      others = λ yes al fed s k other. none_else begun begins al fed (subst (λ y. SubmitterStands root h seen a.taken y) was s) k other;
    }

  -- it took the host's next request
  pub serves_taken : (request : Request) → new ≡ seen → a.standing ≡ Settled → taken_by b.pass ≡ taken_by a.pass ++ request ∷ [] → b.taken ≡ a.taken + 1 → b.standing ≡ Asked request → ServesOn plan root n h a seen b new
  serves_taken request is was p t st begun begins = record {
    begins = ([], append-nil seen ∙ sym is);
    fed = λ f. let now : b.taken ≡ suc a.taken = omega arith in (snoc_last (taken_by a.pass) (first_requests plan.sectors h a.taken) request (request_of plan.sectors h a.taken) (sym p ∙ (f ∙ ap (first_requests plan.sectors h) now))).0;
    steps = λ al fed each s. subst (EachOf n (Submits plan root)) (sym is) each;
    stands = λ told al fed s. subst (λ y. SubmitterStands root h new b.taken y) (sym st) (asked (subst (λ y. SubmitterStands root h seen a.taken y) was s));
    others = λ told al fed s k other. record { slots = ap (slots_of_host root k) is; numbers = ap (write_numbers root k) is };
  }
    where
      asked : SubmitterStands root h seen a.taken Settled → SubmitterStands root h new b.taken (Asked request)
      asked s = subst (λ l. SubmitterStands root h l b.taken (Asked request)) (sym is) (omega (arith, s.0, t), s.1, every_more a.taken b.taken (omega (arith, t)) (write_numbers root h seen) s.2)

all_alike : {X : Type 0} → (P : X → Type 0) (n : ℕ) (x : X) → P x → Every P (replicate n x)
all_alike P zero x is = tt
all_alike P (suc n) x is = (is, all_alike P n x is)

-- a write of sectors that are all alike may be submitted
pub may_submit : (range : Span) (byte : ℕ) (payload : List (List ℕ)) → IsWritable range.first range.count → payload ≡ replicate range.count (replicate 512 byte) → IsSubmitted (Write range payload)
may_submit range byte payload writable is = (
  writable,
  ap length is ∙ length-replicate range.count (replicate 512 byte),
  subst (Every (λ (bytes : List ℕ). length bytes ≡ 512)) (sym is) (all_alike (λ (bytes : List ℕ). length bytes ≡ 512) range.count (replicate 512 byte) (length-replicate 512 byte)),
)

abbrev spanned : ℕ → ℕ → Span
spanned first count = record { first = first; count = count }

pub span_as : (range : Span) (first count : ℕ) → first ≡ range.first → count ≡ range.count → record { first = first; count = count } ≡ range
span_as range first count is also = ap (λ x. spanned x count) is ∙ ap (spanned range.first) also

pub asks_as : (range : Span) (request : Request) (payload : List (List ℕ)) → range ≡ request.range → payload ≡ replicate range.count (replicate 512 request.byte) → Write range payload ≡ write_for request
asks_as range request payload is bytes = ap (Write range) bytes ∙ ap (λ (r : Span). Write r (replicate r.count (replicate 512 request.byte))) is

-- the submission stands in the list
pub handed_as : (n : ℕ) (alone : Type 0) (seen new : LiveTrace) (server : ℕ) (request : Request) (answer : Answer) (op : Op) → op ≡ write_for request → Adds n alone seen (Happened (record { event = Submit server op; answer = answer })) new → RequestIsHanded n alone seen server request (Some answer) new
handed_as n alone seen new server request answer op is adds = subst (λ o. Adds n alone seen (Happened (record { event = Submit server o; answer = answer })) new) is adds
