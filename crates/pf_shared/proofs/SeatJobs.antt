-- A job that is in a seat's hand by its own entries is in that hand by the whole list, and its claim is open.
use Rattle.std.proofs.Common.{◌≡◌, ◌≢◌, ℕ, zero, suc, Bool, true, false, true≢false, cond, eqb, eq-eqb, ne_eqb, eqb-true, not, ◌&&◌, ◌==◌, List, [], ◌∷◌, ◌++◌, Option, Some, None, slice_get, sym, refl, ap, ◌∙◌, subst}
use Rattle.std.specs.List.{filter}
use Rattle.std.proofs.lemmas.Bool.{and_parts, and_from}
use Rattle.std.proofs.lemmas.Option.{none-some, same_Some}
use mathlib.Core.Logic.{dite}
use native.Mathlib.Decide.{ℕ_discrete}
use Rattle.pf_turn.specs.Lists.{entries_of}
use Rattle.pf_turn.specs.declared.log.Stamped.{Stamped}
use Rattle.pf_entry.specs.declared.ops.Op.{Op}
use Rattle.pf_entry.specs.declared.ops.Job.{Job}
use Rattle.pf_protocol.specs.declared.answers.Answer.{Answer}
use Rattle.pf_protocol.specs.declared.answers.Answer.TheVariants.{Job as JobIs}
use Rattle.pf_protocol.specs.declared.events.Event.{Event}
use Rattle.pf_protocol.specs.declared.events.Event.TheVariants.{Claim, Finish, GiveBack}
use Rattle.pf_protocol.specs.Answers.{Claimed, claims_after, claims_of, is_claim}
use Rattle.pf_shared.specs.declared.moment.SeatMoment.{SeatMoment}
use Rattle.pf_shared.specs.declared.moment.SeatMoment.TheVariants.{Happened, Look}
use Rattle.pf_shared.specs.Moments.{happenings, with_moment}
use Rattle.pf_shared.specs.Hands.{Key, key, is_key_of, Hand, hand, hand_by, hand_after, hand_of, HasInHand, is_hand_free, is_held_by, may_by, may_do, is_tidy}

-- what of the hand is the seat's
abbrev pub mine : ℕ → Option Hand → Option Hand
mine n None = None
mine n (Some h) = cond (eqb h.seat n) (Some h) None

pub free_is_none : (o : Option Hand) → is_hand_free o ≡ true → o ≡ None
free_is_none None e = refl
free_is_none (Some h) e = absurd (true≢false (sym e))

not_mine : (n : ℕ) (h : Hand) → h.seat ≢ n → mine n (Some h) ≡ None
not_mine n h other = ap (λ b. cond b (Some h) None) (ne_eqb h.seat n other)

is_mine : (n : ℕ) (op : Op) → mine n (Some (hand n op)) ≡ Some (hand n op)
is_mine n op = ap (λ b. cond b (Some (hand n op)) None) (eq-eqb n n refl)

of_other : (n m : ℕ) (o : Option Hand) → m ≢ n → is_held_by m o ≡ true → mine n o ≡ None
of_other n m None other e = absurd (true≢false (sym e))
of_other n m (Some h) other e = dite (ℕ_discrete h.seat n) (λ is. absurd (other (sym (eqb-true h.seat m e) ∙ is))) (λ not. not_mine n h not)

-- an entry of the seat moves its part of the hand as it moves the hand
own_by : (k : Key) (n : ℕ) (o : Option Hand) (event : Event) (answer : Answer) → hand_by k (mine n o) n event answer ≡ mine n (hand_by k o n event answer)
own_by k n o Claim (JobIs job) = elim (is_key_of k job.server job.life job.slot) as (λ b. cond b (Some (hand n job.op)) (mine n o) ≡ mine n (cond b (Some (hand n job.op)) o)) [ true ↦ sym (is_mine n job.op) | false ↦ refl ]
own_by k n o (Finish server life slot) answer = elim (is_key_of k server life slot) as (λ b. cond b None (mine n o) ≡ mine n (cond b None o)) [ true ↦ refl | false ↦ refl ]
own_by k n o (GiveBack server life slot) answer = elim (is_key_of k server life slot) as (λ b. cond b None (mine n o) ≡ mine n (cond b None o)) [ true ↦ refl | false ↦ refl ]
own_by k n o event answer = refl

own_step : (k : Key) (n : ℕ) (o : Option Hand) (what : SeatMoment) → hand_after k (mine n o) n what ≡ mine n (hand_after k o n what)
own_step k n o (Happened h) = own_by k n o h.event h.answer
own_step k n o (Look read) = refl

-- an entry of another seat leaves it alone
other_by : (k : Key) (n m : ℕ) (o : Option Hand) → m ≢ n → (event : Event) (answer : Answer) → may_by k o m event answer ≡ true → mine n o ≡ mine n (hand_by k o m event answer)
other_by k n m o other Claim (JobIs job) = elim (is_key_of k job.server job.life job.slot) as (λ b. cond b (is_hand_free o) true ≡ true → mine n o ≡ mine n (cond b (Some (hand m job.op)) o)) [
  | true ↦ λ e. ap (mine n) (free_is_none o e) ∙ sym (not_mine n (hand m job.op) other)
  | false ↦ λ e. refl
]
other_by k n m o other (Finish server life slot) answer = elim (is_key_of k server life slot) as (λ b. cond b (is_held_by m o) true ≡ true → mine n o ≡ mine n (cond b None o)) [ true ↦ λ e. of_other n m o other e | false ↦ λ e. refl ]
other_by k n m o other (GiveBack server life slot) answer = elim (is_key_of k server life slot) as (λ b. cond b (is_held_by m o) true ≡ true → mine n o ≡ mine n (cond b None o)) [ true ↦ λ e. of_other n m o other e | false ↦ λ e. refl ]
other_by k n m o other event answer = λ e. refl

other_step : (k : Key) (n m : ℕ) (o : Option Hand) (what : SeatMoment) → m ≢ n → may_do k o m what ≡ true → mine n o ≡ mine n (hand_after k o m what)
other_step k n m o (Happened h) other = other_by k n m o other h.event h.answer
other_step k n m o (Look read) other = λ e. refl

pub own_hand : (k : Key) (n : ℕ) (o : Option Hand) (list : List (Stamped SeatMoment)) → is_tidy k o list ≡ true → hand_of k (mine n o) (entries_of n list) ≡ mine n (hand_of k o list)
own_hand k n o [] ok = refl
own_hand k n o (e ∷ es) ok = let o' : Option Hand = hand_after k o e.seat e.what in let parts = and_parts (may_do k o e.seat e.what) (is_tidy k o' es) ok in
    let ih = own_hand k n o' es parts.1 in dite (ℕ_discrete e.seat n)
    (λ is. ap (λ b. hand_of k (mine n o) (cond b (e ∷ entries_of n es) (entries_of n es))) (eq-eqb e.seat n is)
    ∙ (ap (λ a. hand_of k a (entries_of n es)) (subst (λ m. hand_after k (mine n o) m e.what ≡ mine n (hand_after k o m e.what)) (sym is) (own_step k n o e.what)) ∙ ih))
    (λ other. ap (λ b. hand_of k (mine n o) (cond b (e ∷ entries_of n es) (entries_of n es))) (ne_eqb e.seat n other)
    ∙ (ap (λ a. hand_of k a (entries_of n es)) (other_step k n e.seat o e.what other parts.0) ∙ ih))

mine_is : (n : ℕ) (o : Option Hand) (h : Hand) → mine n o ≡ Some h → o ≡ Some h
mine_is n None h e = cc
mine_is n (Some g) h e = dite (ℕ_discrete g.seat n) (λ is. sym (ap (λ b. cond b (Some g) None) (eq-eqb g.seat n is)) ∙ e) (λ not. let f : None ≡ Some h = sym (not_mine n g not) ∙ e in cc)

-- what is in a seat's hand by its own entries is in its hand
pub in_hand : (k : Key) (n : ℕ) (op : Op) (list : List (Stamped SeatMoment)) → is_tidy k None list ≡ true → HasInHand n k op list → hand_of k None list ≡ Some (hand n op)
in_hand k n op list ok has = mine_is n (hand_of k None list) (hand n op) (sym (own_hand k n None list ok) ∙ has)

pub hand-append : (k : Key) (o : Option Hand) (xs ys : List (Stamped SeatMoment)) → hand_of k o (xs ++ ys) ≡ hand_of k (hand_of k o xs) ys
hand-append k o [] ys = refl
hand-append k o (x ∷ xs) ys = hand-append k (hand_after k o x.seat x.what) xs ys

pub tidy_snoc : (k : Key) (o : Option Hand) (xs : List (Stamped SeatMoment)) (x : Stamped SeatMoment) → is_tidy k o xs ≡ true → may_do k (hand_of k o xs) x.seat x.what ≡ true → is_tidy k o (xs ++ x ∷ []) ≡ true
tidy_snoc k o [] x ok allowed = and_from _ _ allowed refl
tidy_snoc k o (y ∷ ys) x ok allowed = let p = and_parts (may_do k o y.seat y.what) (is_tidy k (hand_after k o y.seat y.what) ys) ok in
    and_from _ _ p.0 (tidy_snoc k (hand_after k o y.seat y.what) ys x p.1 allowed)

-- the claim of a job in hand is open
abbrev claim_at : Key → Op → Claimed
claim_at k op = record { server = k.server; life = k.life; slot = k.slot; op = op }

abbrev IsThere : Key → Option Hand → List Claimed → Type 0
IsThere k o claims = (h : Hand) → o ≡ Some h → (j : ℕ) × (slice_get claims j ≡ Some (claim_at k h.op))

same_key : (k : Key) (server life slot : ℕ) → is_key_of k server life slot ≡ true → (k.server ≡ server) × (k.life ≡ life) × (k.slot ≡ slot)
same_key k server life slot is = let a = and_parts (k.server == server && k.life == life) (k.slot == slot) is in let b = and_parts (k.server == server) (k.life == life) a.0 in
    (eqb-true k.server server b.0, eqb-true k.life life b.1, eqb-true k.slot slot a.1)

pub key_is : (k : Key) (server life slot : ℕ) → is_key_of k server life slot ≡ true → k ≡ key server life slot
key_is k server life slot is = let s = same_key k server life slot is in λ i. record { server = s.0 i; life = s.1 i; slot = s.2 i }

filter_there : {X : Type 0} → (f : X → Bool) (xs : List X) (j : ℕ) (x : X) → slice_get xs j ≡ Some x → f x ≡ true → (i : ℕ) × (slice_get (filter f xs) i ≡ Some x)
filter_there f [] j x there passes = absurd (none-some x there)
filter_there f (y ∷ ys) zero x there passes = let same : y ≡ x = same_Some y x there in
    (0, ap (λ b. slice_get (cond b (y ∷ filter f ys) (filter f ys)) 0) (ap f same ∙ passes) ∙ ap Some same)
filter_there f (y ∷ ys) (suc j) x there passes = let ih = filter_there f ys j x there passes in
    elim (f y) as (λ b. (i : ℕ) × (slice_get (cond b (y ∷ filter f ys) (filter f ys)) i ≡ Some x)) [ true ↦ (suc ih.0, ih.1) | false ↦ ih ]

still_there : (k : Key) (o : Option Hand) (claims : List Claimed) (server life slot : ℕ) → IsThere k o claims → IsThere k (cond (is_key_of k server life slot) None o) (filter (λ c. not (is_claim server life slot c)) claims)
still_there k o claims server life slot there h is = by (is_key_of k server life slot) refl is
  where
    by : (b : Bool) → is_key_of k server life slot ≡ b → cond b None o ≡ Some h → (j : ℕ) × (slice_get (filter (λ c. not (is_claim server life slot c)) claims) j ≡ Some (claim_at k h.op))
    by true e none = absurd (none-some h none)
    by false e here = let t = there h here in filter_there (λ c. not (is_claim server life slot c)) claims t.0 (claim_at k h.op) t.1 (ap not e)

claim_there : (k : Key) (o : Option Hand) (claims : List Claimed) (seat : ℕ) (job : Job) → IsThere k o claims → IsThere k (hand_by k o seat Claim (JobIs job)) (claims_after claims Claim (JobIs job))
claim_there k o claims seat job there h is = by (is_key_of k job.server job.life job.slot) refl is
  where
    by : (b : Bool) → is_key_of k job.server job.life job.slot ≡ b → cond b (Some (hand seat job.op)) o ≡ Some h → (j : ℕ) × (slice_get (claims_after claims Claim (JobIs job)) j ≡ Some (claim_at k h.op))
    by true e now = let same = same_key k job.server job.life job.slot e in let op : job.op ≡ h.op = ap (λ (x : Hand). x.op) (same_Some (hand seat job.op) h now) in (0, cc)
    by false e here = let t = there h here in (suc t.0, t.1)

there_by : (k : Key) (o : Option Hand) (claims : List Claimed) (seat : ℕ) (event : Event) (answer : Answer) → IsThere k o claims → IsThere k (hand_by k o seat event answer) (claims_after claims event answer)
there_by k o claims seat Claim (JobIs job) there = claim_there k o claims seat job there
there_by k o claims seat (Finish server life slot) answer there = still_there k o claims server life slot there
there_by k o claims seat (GiveBack server life slot) answer there = still_there k o claims server life slot there
there_by k o claims seat event answer there = there

there_first : (k : Key) (o : Option Hand) (claims : List Claimed) (seat : ℕ) (what : SeatMoment) (es : List (Stamped SeatMoment)) → IsThere k o claims
    → ((o' : Option Hand) (claims' : List Claimed) → IsThere k o' claims' → IsThere k (hand_of k o' es) (claims_of claims' (happenings es)))
    → IsThere k (hand_of k (hand_after k o seat what) es) (claims_of claims (with_moment what (happenings es)))
there_first k o claims seat (Happened h) es there ih = ih (hand_by k o seat h.event h.answer) (claims_after claims h.event h.answer) (there_by k o claims seat h.event h.answer there)
there_first k o claims seat (Look read) es there ih = ih o claims there

is_there : (k : Key) (o : Option Hand) (claims : List Claimed) (list : List (Stamped SeatMoment)) → IsThere k o claims → IsThere k (hand_of k o list) (claims_of claims (happenings list))
is_there k o claims [] there = there
is_there k o claims (e ∷ es) there = there_first k o claims e.seat e.what es there (λ o' claims' t. is_there k o' claims' es t)

pub hand_is_open : (k : Key) (h : Hand) (list : List (Stamped SeatMoment)) → hand_of k None list ≡ Some h → (j : ℕ) × (slice_get (claims_of [] (happenings list)) j ≡ Some (claim_at k h.op))
hand_is_open k h list is = is_there k None [] list (λ g e. absurd (none-some g e)) h is
