-- Slots of hosts' writes, as a list goes on.
use Rattle.std.proofs.Common.{◌≡◌, ◌≢◌, ℕ, zero, suc, ◌+◌, ◌<◌, ◌≤◌, Bool, true, false, cond, ◌&&◌, ◌||◌, ◌==◌, eqb, eq-eqb, List, [], ◌∷◌, ◌++◌, Contains, length, length-append, Option, None, Some, slice_get, slice_index_or, append_assoc, append-nil, arith, refl, sym, ap, ◌∙◌, subst}
use mathlib.Core.Logic.{dite}
use native.Mathlib.Decide.{ℕ_discrete}
use Rattle.std.proofs.lemmas.List.Elements.{Contains-append_left, Contains-append_right, Contains-push}
use Rattle.std.specs.List.{list_any}
use Rattle.pf_entry.specs.Lists.{Every}
use Rattle.pf_turn.specs.declared.log.Stamped.{Stamped}
use Rattle.pf_turn.specs.Lists.{Begins, entries_of}
use Rattle.pf_turn.proofs.Lists.{entries-append, nothing_more}
use Rattle.pf_protocol.specs.Servers.{Condition, Running, Setup, Stopped, Unformatted}
use Rattle.pf_protocol.specs.Groups.{Acked, Group, ending}
use Rattle.pf_protocol.specs.Histories.{History, run}
use Rattle.pf_protocol.specs.declared.answers.Answer.{Answer}
use Rattle.pf_protocol.specs.declared.answers.Answer.TheVariants.{Slot}
use Rattle.pf_protocol.specs.declared.events.Event.{Event}
use Rattle.pf_protocol.specs.declared.events.Event.TheVariants.{Submit, Fetch, Deliver, Lose, Elect, Resend, Stop, Restart, Claim, Finish, GiveBack, Checkpoint}
use Rattle.pf_protocol.proofs.ForMoments.{acks_of, adds_stay, goes}
use Rattle.pf_shared.specs.pf_group.specs.GroupIs.{GroupIs}
use Rattle.pf_shared.specs.declared.moment.SeatMoment.{SeatMoment}
use Rattle.pf_shared.specs.declared.moment.SeatMoment.TheVariants.{Happened, Look}
use Rattle.pf_shared.specs.Moments.{entry, happenings}
use Rattle.pf_shared.specs.Since.{rest_after, state_by_now}
use Rattle.pf_shared.proofs.Since.{rest_of_all}
use Rattle.pf_live_seats.specs.Deliveries.{LiveTrace}
use Rattle.pf_live_seats.specs.Submissions.{gathered, is_told, is_write_of, number_with, write_numbers, slot_at, slot_got, slot_with, slots_of_host}
use Rattle.pf_live_seats.specs.Submitters.{AllTold, SubmitsAlone, SubmitsNone, is_submit, moment_submits}
use Rattle.pf_live_seats.proofs.Happenings.{state_more}

-- what was acknowledged stays so
pub record IsThere (p : Acked → Bool) (acked : List Acked) : Type 0 where
  pub k : ℕ
  pub a : Acked
  pub at : slice_get acked k ≡ Some a
  pub is : p a ≡ true

there_is : (p : Acked → Bool) (acked : List Acked) → list_any p acked ≡ true → IsThere p acked
there_is p [] h = absurd cc
there_is p (x ∷ xs) h = by (p x) refl (there_is p xs) h
  where
    by : (b : Bool) → p x ≡ b → (list_any p xs ≡ true → IsThere p xs) → (b || list_any p xs) ≡ true → IsThere p (x ∷ xs)
    by true e rest h = record { k = 0; a = x; at = refl; is = e }
    by false e rest h = let t = rest h in record { k = suc t.k; a = t.a; at = t.at; is = t.is }

any_or : (b c : Bool) → c ≡ true → (b || c) ≡ true
any_or true c is = refl
any_or false c is = is

any_is : (p : Acked → Bool) (acked : List Acked) (k : ℕ) (a : Acked) → slice_get acked k ≡ Some a → p a ≡ true → list_any p acked ≡ true
any_is p [] k a at is = absurd cc
any_is p (x ∷ xs) zero a at is = let same : x ≡ a = cc in ap (λ b. b || list_any p xs) (ap p same ∙ is)
any_is p (x ∷ xs) (suc k) a at is = any_or (p x) (list_any p xs) (any_is p xs k a at is)

acks_stay : (setup : Setup) (history : History) (g : Group) (k : ℕ) (a : Acked) → slice_get g.acked k ≡ Some a → slice_get (run setup g history).acked k ≡ Some a
acks_stay setup [] g k a at = at
acks_stay setup (x ∷ xs) g k a at = acks_stay setup xs _ k a (adds_stay setup g x.event _ acks_of g.acked _ k a at (goes setup g x.event (ending x.answer)).acked)

run_acks : (p : Acked → Bool) (setup : Setup) (history : History) (g : Group) → list_any p g.acked ≡ true → list_any p (run setup g history).acked ≡ true
run_acks p setup history g h = let t = there_is p g.acked h in any_is p (run setup g history).acked t.k t.a (acks_stay setup history g t.k t.a t.at) t.is

module _ (root : GroupIs) where
  pub told_later : (seen new : LiveTrace) → Begins seen new → (a : Acked) → is_told (state_by_now root seen) a ≡ true → is_told (state_by_now root new) a ≡ true
  told_later seen new p a h = subst (λ (g : Group). is_told g a ≡ true) (state_more root seen p.0 new p.1) (run_acks (λ (x : Acked). (x.term == a.term) && (x.slot == a.slot)) root.setup (happenings p.0) (state_by_now root seen) h)

  pub all_told_later : (seen new : LiveTrace) → Begins seen new → (slots : List Acked) → AllTold root seen slots → AllTold root new slots
  all_told_later seen new p [] h = tt
  all_told_later seen new p (a ∷ slots) h = (told_later seen new p a h.0, all_told_later seen new p slots h.1)

pub every_snoc : {A : Type 0} → (P : A → Type 0) (xs : List A) (x : A) → Every P xs → P x → Every P (xs ++ x ∷ [])
every_snoc P [] x h p = (p, tt)
every_snoc P (y ∷ ys) x h p = (h.0, every_snoc P ys x h.1 p)

pub every_front : {A : Type 0} → (P : A → Type 0) (xs ys : List A) → Every P (xs ++ ys) → Every P ys
every_front P [] ys h = h
every_front P (x ∷ xs) ys h = every_front P xs ys h.1

pub cond_true : {A : Type 0} → (b : Bool) (x y : A) → b ≡ true → cond b x y ≡ x
cond_true true x y is = refl
cond_true false x y is = absurd cc

pub cond_false : {A : Type 0} → (b : Bool) (x y : A) → b ≡ false → cond b x y ≡ y
cond_false true x y is = absurd cc
cond_false false x y is = refl

-- what submits nothing is a write of no host
no_write : (h : ℕ) (event : Event) → is_submit event ≡ false → is_write_of h event ≡ false
no_write h (Submit server op) is = absurd cc
no_write h (Fetch server range) is = refl
no_write h (Deliver k) is = refl
no_write h (Lose k) is = refl
no_write h (Elect server) is = refl
no_write h (Resend server) is = refl
no_write h (Stop server) is = refl
no_write h (Restart server found) is = refl
no_write h Claim is = refl
no_write h (Finish server life slot) is = refl
no_write h (GiveBack server life slot) is = refl
no_write h (Checkpoint server) is = refl

no_slot : (g : Group) (h : ℕ) (what : SeatMoment) → moment_submits what ≡ false → slot_with g h what ≡ []
no_slot g h (Happened x) is = cond_false (is_write_of h x.event) (slot_got g x.event x.answer) [] (no_write h x.event is)
no_slot g h (Look read) is = refl

no_number : (h next : ℕ) (what : SeatMoment) → moment_submits what ≡ false → number_with h next what ≡ []
no_number h next (Happened x) is = cond_false (is_write_of h x.event) (next ∷ []) [] (no_write h x.event is)
no_number h next (Look read) is = refl

module _ {A : Type 0} (f : LiveTrace → SeatMoment → List A) where
  gathered-append : (before xs ys : LiveTrace) → gathered f before (xs ++ ys) ≡ gathered f before xs ++ gathered f (before ++ xs) ys
  gathered-append before [] ys = ap (λ b. gathered f b ys) (sym (append-nil before))
  gathered-append before (x ∷ xs) ys = ap (λ l. f before x.what ++ l) (gathered-append (before ++ x ∷ []) xs ys ∙ ap (λ b. gathered f (before ++ x ∷ []) xs ++ gathered f b ys) (append_assoc before (x ∷ []) xs))
      ∙ sym (append_assoc (f before x.what) (gathered f (before ++ x ∷ []) xs) (gathered f (before ++ x ∷ xs) ys))

  gathered-snoc : (list : LiveTrace) (e : Stamped SeatMoment) → gathered f [] (list ++ e ∷ []) ≡ gathered f [] list ++ f list e.what
  gathered-snoc list e = gathered-append [] list (e ∷ []) ∙ ap (λ l. gathered f [] list ++ l) (append-nil (f list e.what))

  module _ (none : (before : LiveTrace) (what : SeatMoment) → moment_submits what ≡ false → f before what ≡ []) where
    gathered_none : (before ys : LiveTrace) → Every (λ (e : Stamped SeatMoment). moment_submits e.what ≡ false) ys → gathered f before ys ≡ []
    gathered_none before [] quiet = refl
    gathered_none before (e ∷ es) quiet = ap (λ l. l ++ gathered f (before ++ e ∷ []) es) (none before e.what quiet.0) ∙ gathered_none (before ++ e ∷ []) es quiet.1

    gathered_quiet : (seen rest new : LiveTrace) → seen ++ rest ≡ new → Every (λ (e : Stamped SeatMoment). moment_submits e.what ≡ false) rest → gathered f [] new ≡ gathered f [] seen
    gathered_quiet seen rest new is quiet = ap (gathered f []) (sym is) ∙ (gathered-append [] seen rest ∙ (ap (λ l. gathered f [] seen ++ l) (gathered_none seen rest quiet) ∙ append-nil (gathered f [] seen)))

few_at : (o : Option Condition) (slot : ℕ) → length (slot_at o slot) ≤ 1
few_at None slot = omega arith
few_at (Some (Running s)) slot = omega arith
few_at (Some (Stopped life before after)) slot = omega arith
few_at (Some Unformatted) slot = omega arith

-- one slot at most comes at a time
few_got : (g : Group) (event : Event) (answer : Answer) → length (slot_got g event answer) ≤ 1
few_got g (Submit server op) (Slot slot) = few_at (slice_get g.servers server) slot
few_got g event answer = omega arith

-- an entry that submits write j, or one after which it is still to come
number_here : (g : Group) (h next j : ℕ) (what : SeatMoment) (rest : List ℕ) → next ≤ j → (next + length (slot_with g h what) ≤ j → Contains rest j) → Contains (number_with h next what ++ rest) j
number_here g h next j (Look read) rest low then = then (omega (arith, low))
number_here g h next j (Happened x) rest low then = by (is_write_of h x.event) then
  where
    by : (b : Bool) → (next + length (cond b (slot_got g x.event x.answer) []) ≤ j → Contains rest j) → Contains (cond b (next ∷ []) [] ++ rest) j
    by true on = dite (ℕ_discrete next j) (λ is. (0, omega arith, is)) (λ other. Contains-append_right (next ∷ []) rest j (on (let few = few_got g x.event x.answer in omega (arith, low, other, few))))
    by false on = on (omega (arith, low))

module _ (root : GroupIs) (h : ℕ) where
  abbrev slots_by : LiveTrace → SeatMoment → List Acked
  slots_by before what = slot_with (state_by_now root before) h what

  abbrev numbers_by : LiveTrace → SeatMoment → List ℕ
  numbers_by before what = number_with h (length (slots_of_host root h before)) what

  pub slots_snoc : (list : LiveTrace) (e : Stamped SeatMoment) → slots_of_host root h (list ++ e ∷ []) ≡ slots_of_host root h list ++ slot_with (state_by_now root list) h e.what
  slots_snoc list e = gathered-snoc slots_by list e

  pub numbers_snoc : (list : LiveTrace) (e : Stamped SeatMoment) → write_numbers root h (list ++ e ∷ []) ≡ write_numbers root h list ++ number_with h (length (slots_of_host root h list)) e.what
  numbers_snoc list e = gathered-snoc numbers_by list e

  -- nobody submitted
  pub submits_none : (seen rest new : LiveTrace) → seen ++ rest ≡ new → Every (λ (e : Stamped SeatMoment). moment_submits e.what ≡ false) rest → SubmitsNone root h seen new
  submits_none seen rest new is quiet = record {
    slots = gathered_quiet slots_by (λ before what none. no_slot (state_by_now root before) h what none) seen rest new is quiet;
    numbers = gathered_quiet numbers_by (λ before what none. no_number h (length (slots_of_host root h before)) what none) seen rest new is quiet;
  }

  -- a write that is submitted is so in a longer list
  pub submitted_later : (seen new : LiveTrace) → Begins seen new → (j : ℕ) → Contains (write_numbers root h seen) j → Contains (write_numbers root h new) j
  submitted_later seen new p j is =
      subst (λ l. Contains l j) (sym (gathered-append numbers_by [] seen p.0) ∙ ap (write_numbers root h) p.1) (Contains-append_left (write_numbers root h seen) (gathered numbers_by seen p.0) j is)

  -- each slot came by the submission of its write
  numbered_after : (before list : LiveTrace) (j : ℕ) → length (slots_of_host root h before) ≤ j → j < length (slots_of_host root h (before ++ list)) → Contains (gathered numbers_by before list) j
  numbered_after before [] j low high = absurd (let same : length (slots_of_host root h (before ++ [])) ≡ length (slots_of_host root h before) = ap (λ l. length (slots_of_host root h l)) (append-nil before) in omega (arith, low, high, same))
  numbered_after before (e ∷ es) j low high =
      number_here (state_by_now root before) h (length (slots_of_host root h before)) j e.what (gathered numbers_by (before ++ e ∷ []) es) low
      (λ more. numbered_after (before ++ e ∷ []) es j
      (let count : length (slots_of_host root h (before ++ e ∷ [])) ≡ length (slots_of_host root h before) + length (slot_with (state_by_now root before) h e.what) = ap length (slots_snoc before e) ∙ length-append (slots_of_host root h before) (slot_with (state_by_now root before) h e.what) in omega (arith, more, count))
      (subst (λ l. j < length (slots_of_host root h l)) (sym (append_assoc before (e ∷ []) es)) high))

  pub numbered : (list : LiveTrace) (j : ℕ) → j < length (slots_of_host root h list) → Contains (write_numbers root h list) j
  numbered list j high = numbered_after [] list j (omega arith) high

  -- the last entry submits the next write
  pub number_last : (list : LiveTrace) (n : ℕ) (event : Event) (answer : Answer) → is_write_of h event ≡ true → Contains (write_numbers root h (list ++ entry n (Happened (record { event = event; answer = answer })) ∷ [])) (length (slots_of_host root h list))
  number_last list n event answer is = let next : ℕ = length (slots_of_host root h list) in
      subst (λ l. Contains l next) (sym (numbers_snoc list (entry n (Happened (record { event = event; answer = answer }))) ∙ ap (λ l. write_numbers root h list ++ l) (cond_true (is_write_of h event) (next ∷ []) [] is))) (Contains-push (write_numbers root h list) next)

-- numbers that are all below a bound
pub every_more : (m n : ℕ) → m ≤ n → (xs : List ℕ) → Every (λ j. j < m) xs → Every (λ j. j < n) xs
every_more m n more [] all = tt
every_more m n more (x ∷ xs) all = (let low = all.0 in omega (arith, more, low), every_more m n more xs all.1)

pub every_at : (n : ℕ) (xs : List ℕ) → Every (λ j. j < n) xs → (j : ℕ) → Contains xs j → j < n
every_at n xs all j is = at xs is.0 all is.1 is.2
  where
    at : (ys : List ℕ) (k : ℕ) → Every (λ i. i < n) ys → k < length ys → slice_index_or ys k j ≡ j → j < n
    at [] k all low is = absurd (omega (arith, low))
    at (y ∷ ys) zero all low is = subst (λ i. i < n) is all.0
    at (y ∷ ys) (suc k) all low is = at ys k all.1 (omega (arith, low)) is

-- none of these entries is of the seat
none_of : (n : ℕ) (ys : LiveTrace) → entries_of n ys ≡ [] → Every (λ (e : Stamped SeatMoment). e.seat ≢ n) ys
none_of n [] is = tt
none_of n (e ∷ es) is = let parts = by (eqb e.seat n) refl is in (parts.0, none_of n es parts.1)
  where
    by : (b : Bool) → eqb e.seat n ≡ b → cond b (e ∷ entries_of n es) (entries_of n es) ≡ [] → (e.seat ≢ n) × (entries_of n es ≡ [])
    by true t h = absurd cc
    by false t h = (λ same. absurd (let x = eq-eqb e.seat n same in cc), h)

both : (n : ℕ) (ys : LiveTrace) → Every (λ (e : Stamped SeatMoment). e.seat ≢ n) ys → Every (λ (e : Stamped SeatMoment). e.seat ≢ n → moment_submits e.what ≡ false) ys → Every (λ (e : Stamped SeatMoment). moment_submits e.what ≡ false) ys
both n [] h k = tt
both n (e ∷ es) h k = (k.0 h.0, both n es h.1 k.1)

every_head : {A : Type 0} → (P : A → Type 0) (xs ys : List A) → Every P (xs ++ ys) → Every P xs
every_head P [] ys h = tt
every_head P (x ∷ xs) ys h = (h.0, every_head P xs ys h.1)

module _ (n : ℕ) (begun : LiveTrace) where
  -- it submitted alone up to an earlier moment too
  pub alone_before : (seen new : LiveTrace) → Begins begun seen → Begins seen new → SubmitsAlone n begun new → SubmitsAlone n begun seen
  alone_before seen new b p is =
      subst (Every (λ (e : Stamped SeatMoment). e.seat ≢ n → moment_submits e.what ≡ false)) (sym (ap (rest_after begun) (sym b.1) ∙ rest_of_all begun b.0))
      (every_head (λ (e : Stamped SeatMoment). e.seat ≢ n → moment_submits e.what ≡ false) b.0 p.0 (subst (Every (λ (e : Stamped SeatMoment). e.seat ≢ n → moment_submits e.what ≡ false)) (rest_is seen new b p) is))
    where
      rest_is : (seen new : LiveTrace) (b : Begins begun seen) (p : Begins seen new) → rest_after begun new ≡ b.0 ++ p.0
      rest_is seen new b p = ap (rest_after begun) (sym p.1 ∙ (ap (λ l. l ++ p.0) (sym b.1) ∙ append_assoc begun b.0 p.0)) ∙ rest_of_all begun (b.0 ++ p.0)

  -- what others added has no submission
  pub others_quiet : (seen new : LiveTrace) → Begins begun seen → (p : Begins seen new) → entries_of n new ≡ entries_of n seen → SubmitsAlone n begun new → Every (λ (e : Stamped SeatMoment). moment_submits e.what ≡ false) p.0
  others_quiet seen new b p own is =
      both n p.0 (none_of n p.0 (nothing_more (entries_of n seen) (entries_of n p.0) (sym (entries-append n seen p.0) ∙ (ap (entries_of n) p.1 ∙ own))))
      (every_front (λ (e : Stamped SeatMoment). e.seat ≢ n → moment_submits e.what ≡ false) b.0 p.0 (subst (Every (λ (e : Stamped SeatMoment). e.seat ≢ n → moment_submits e.what ≡ false)) rest_is is))
    where
      rest_is : rest_after begun new ≡ b.0 ++ p.0
      rest_is = ap (rest_after begun) (sym p.1 ∙ (ap (λ l. l ++ p.0) (sym b.1) ∙ append_assoc begun b.0 p.0)) ∙ rest_of_all begun (b.0 ++ p.0)
