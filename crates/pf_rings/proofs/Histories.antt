-- Histories of a ring.
use Rattle.std.proofs.Common.{◌≡◌, ℕ, suc, ◌+◌, ◌<◌, ◌≤◌, Bool, true, false, true≢false, List, [], ◌∷◌, ◌++◌, sym, refl, ap, ◌∙◌, subst, append_assoc, append-nil, arith}
use Rattle.std.specs.Prelude.{not}
use Rattle.pf_rings.specs.declared.count.RingCall.{RingCall}
use Rattle.pf_rings.specs.declared.count.RingCall.TheVariants.{Put, Full, Take, Empty}
use Rattle.pf_rings.specs.Counted.{AllOf, CallsLead, CallsWentOn, is_host, puts_in, takes_in}

pub leads_on : (n k m : ℕ) (s t : List RingCall) → CallsLead n s k → CallsLead k t m → CallsLead n (s ++ t) m
leads_on n k m [] t a b = subst (λ i. CallsLead i t m) (sym a) b
leads_on n k m (Put ∷ s) t a b = (a.0, leads_on (suc n) k m s t a.1 b)
leads_on n k m (Full ∷ s) t a b = (a.0, leads_on n k m s t a.1 b)
leads_on n k m (Take ∷ s) t a b = (a.0, a.1, leads_on a.0 k m s t a.2 b)
leads_on n k m (Empty ∷ s) t a b = (a.0, leads_on n k m s t a.1 b)

pub leads_split : (n m : ℕ) (s t : List RingCall) → CallsLead n (s ++ t) m → (k : ℕ) × CallsLead n s k × CallsLead k t m
leads_split n m [] t a = (n, refl, a)
leads_split n m (Put ∷ s) t a = let r = leads_split (suc n) m s t a.1 in (r.0, (a.0, r.1), r.2)
leads_split n m (Full ∷ s) t a = let r = leads_split n m s t a.1 in (r.0, (a.0, r.1), r.2)
leads_split n m (Take ∷ s) t a = let r = leads_split a.0 m s t a.2 in (r.0, (a.0, a.1, r.1), r.2)
leads_split n m (Empty ∷ s) t a = let r = leads_split n m s t a.1 in (r.0, (a.0, r.1), r.2)

-- what was put was taken or stands
pub leads_counts : (n m : ℕ) (s : List RingCall) → CallsLead n s m → n + puts_in s ≡ takes_in s + m
leads_counts n m [] a = omega arith
leads_counts n m (Put ∷ s) a = let r = leads_counts (suc n) m s a.1 in omega arith
leads_counts n m (Full ∷ s) a = leads_counts n m s a.1
leads_counts n m (Take ∷ s) a = let r = leads_counts a.0 m s a.2 in let e : n ≡ suc a.0 = a.1 in omega arith
leads_counts n m (Empty ∷ s) a = leads_counts n m s a.1

pub leads_one : (n k m : ℕ) (s : List RingCall) → CallsLead n s k → CallsLead n s m → k ≡ m
leads_one n k m s a b = let p = leads_counts n k s a in let q = leads_counts n m s b in omega arith

pub puts-append : (s t : List RingCall) → puts_in (s ++ t) ≡ puts_in s + puts_in t
puts-append [] t = omega arith
puts-append (Put ∷ s) t = let r = puts-append s t in omega arith
puts-append (Full ∷ s) t = puts-append s t
puts-append (Take ∷ s) t = puts-append s t
puts-append (Empty ∷ s) t = puts-append s t

pub takes-append : (s t : List RingCall) → takes_in (s ++ t) ≡ takes_in s + takes_in t
takes-append [] t = omega arith
takes-append (Put ∷ s) t = takes-append s t
takes-append (Full ∷ s) t = takes-append s t
takes-append (Take ∷ s) t = let r = takes-append s t in omega arith
takes-append (Empty ∷ s) t = takes-append s t

no_puts : (s : List RingCall) → AllOf false s → puts_in s ≡ 0
no_puts [] all = refl
no_puts (Put ∷ s) all = absurd (true≢false all.0)
no_puts (Full ∷ s) all = absurd (true≢false all.0)
no_puts (Take ∷ s) all = no_puts s all.1
no_puts (Empty ∷ s) all = no_puts s all.1

no_takes : (s : List RingCall) → AllOf true s → takes_in s ≡ 0
no_takes [] all = refl
no_takes (Put ∷ s) all = no_takes s all.1
no_takes (Full ∷ s) all = no_takes s all.1
no_takes (Take ∷ s) all = absurd (true≢false (sym all.0))
no_takes (Empty ∷ s) all = absurd (true≢false (sym all.0))

-- the other side puts nothing, and takes nothing
pub puts_stay : (old new : List RingCall) → CallsWentOn true old new → puts_in new ≡ puts_in old
puts_stay old new went = let a = puts-append old went.0 in let b = no_puts went.0 went.2 in let c = ap puts_in went.1 in omega arith

pub takes_stay : (old new : List RingCall) → CallsWentOn false old new → takes_in new ≡ takes_in old
takes_stay old new went = let a = takes-append old went.0 in let b = no_takes went.0 went.2 in let c = ap takes_in went.1 in omega arith

pub takes_rise : (host : Bool) (old new : List RingCall) → CallsWentOn host old new → takes_in old ≤ takes_in new
takes_rise host old new went = let a = takes-append old went.0 in let c = ap takes_in went.1 in omega arith

pub puts_rise : (host : Bool) (old new : List RingCall) → CallsWentOn host old new → puts_in old ≤ puts_in new
puts_rise host old new went = let a = puts-append old went.0 in let c = ap puts_in went.1 in omega arith

-- the server thread lowers what stands, and the host raises it
pub stand_fewer : (old new : List RingCall) (k n : ℕ) → CallsWentOn true old new → CallsLead 0 old k → CallsLead 0 new n → n ≤ k
stand_fewer old new k n went before now =
    let a = leads_counts 0 k old before in let b = leads_counts 0 n new now in let c = puts_stay old new went in let d = takes_rise true old new went in omega arith

pub stand_more : (old new : List RingCall) (k n : ℕ) → CallsWentOn false old new → CallsLead 0 old k → CallsLead 0 new n → k ≤ n
stand_more old new k n went before now =
    let a = leads_counts 0 k old before in let b = leads_counts 0 n new now in let c = takes_stay old new went in let d = puts_rise false old new went in omega arith

pub all_on : (host : Bool) (s t : List RingCall) → AllOf host s → AllOf host t → AllOf host (s ++ t)
all_on host [] t a b = b
all_on host (x ∷ s) t a b = (a.0, all_on host s t a.1 b)

pub went_nowhere : (host : Bool) (calls : List RingCall) → CallsWentOn host calls calls
went_nowhere host calls = ([], append-nil calls, tt)

pub went_further : (host : Bool) (old mid new : List RingCall) → CallsWentOn host old mid → CallsWentOn host mid new → CallsWentOn host old new
went_further host old mid new a b = (a.0 ++ b.0, sym (append_assoc old a.0 b.0) ∙ ap (λ l. l ++ b.0) a.1 ∙ b.1, all_on (not host) a.0 b.0 a.2 b.2)

pub went_one : (host : Bool) (calls : List RingCall) (call : RingCall) → is_host call ≡ not host → CallsWentOn host calls (calls ++ call ∷ [])
went_one host calls call is = (call ∷ [], refl, (is, tt))

pub leads_low : (n m : ℕ) (s : List RingCall) → n ≤ 8 → CallsLead n s m → m ≤ 8
leads_low n m [] low a = let e : n ≡ m = a in omega arith
leads_low n m (Put ∷ s) low a = let h : n < 8 = a.0 in leads_low (suc n) m s (omega arith) a.1
leads_low n m (Full ∷ s) low a = leads_low n m s low a.1
leads_low n m (Take ∷ s) low a = let e : n ≡ suc a.0 = a.1 in leads_low a.0 m s (omega arith) a.2
leads_low n m (Empty ∷ s) low a = leads_low n m s low a.1
