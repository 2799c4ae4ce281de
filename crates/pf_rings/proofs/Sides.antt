-- What a call adds to the history that its side has seen.
use Rattle.std.proofs.Common.{◌≡◌, ◌≢◌, ℕ, ◌+◌, ◌≤◌, Bool, true, false, cond, List, [], ◌∷◌, ◌++◌, refl, sym, ap, subst, ◌∙◌, arith}
use Rattle.std.specs.Prelude.{◌==◌}
use Rattle.std.proofs.lemmas.Bool.Decides.{nat_tests}
use Rattle.pf_rings.specs.declared.count.RingCall.{RingCall}
use Rattle.pf_rings.specs.declared.count.RingCall.TheVariants.{Put, Full, Take, Empty}
use Rattle.pf_rings.specs.Counted.{Called, CallsLead, CallsWentOn, puts_in, takes_in}
use Rattle.pf_rings.proofs.Histories.{leads_counts, leads_on, leads_split, puts-append, puts_rise, puts_stay, takes-append, takes_rise, takes_stay}

pub found_full : (old log new : List RingCall) (r : ℕ) → CallsWentOn true old log → CallsLead 0 log r → new ≡ cond (r == 8) (log ++ Full ∷ []) log → r ≡ 8 → Called true old Full new
found_full old log new r went leads is eight =
    let last : new ≡ log ++ Full ∷ [] = is ∙ ap (λ n. cond (n == 8) (log ++ Full ∷ []) log) eight in
    record { before = log; others = went; last = last; standing = 8; legal = subst (λ l. CallsLead 0 l 8) (sym last) (leads_on 0 8 8 log (Full ∷ []) (subst (CallsLead 0 log) eight leads) (refl, refl)) }

pub found_empty : (old log new : List RingCall) (r : ℕ) → CallsWentOn false old log → CallsLead 0 log r → new ≡ cond (r == 0) (log ++ Empty ∷ []) log → r ≡ 0 → Called false old Empty new
found_empty old log new r went leads is none =
    let last : new ≡ log ++ Empty ∷ [] = is ∙ ap (λ n. cond (n == 0) (log ++ Empty ∷ []) log) none in
    record { before = log; others = went; last = last; standing = 0; legal = subst (λ l. CallsLead 0 l 0) (sym last) (leads_on 0 0 0 log (Empty ∷ []) (subst (CallsLead 0 log) none leads) (refl, refl)) }

pub found_other : (log more new : List RingCall) (r k : ℕ) → new ≡ cond (r == k) more log → r ≢ k → new ≡ log
found_other log more new r k is other = let no : (r == k) ≡ false = grind (arith, nat_tests) in is ∙ ap (λ b. cond b more log) no

pub puts_one : (old new : List RingCall) → Called true old Put new → puts_in new ≡ puts_in old + 1
puts_one old new c = let a = puts_stay old c.before c.others in let b = puts-append c.before (Put ∷ []) in let e = ap puts_in c.last in omega arith

pub puts_none : (old new : List RingCall) → Called true old Full new → puts_in new ≡ puts_in old
puts_none old new c = let a = puts_stay old c.before c.others in let b = puts-append c.before (Full ∷ []) in let e = ap puts_in c.last in omega arith

pub takes_one : (old new : List RingCall) → Called false old Take new → takes_in new ≡ takes_in old + 1
takes_one old new c = let a = takes_stay old c.before c.others in let b = takes-append c.before (Take ∷ []) in let e = ap takes_in c.last in omega arith

pub takes_none : (old new : List RingCall) → Called false old Empty new → takes_in new ≡ takes_in old
takes_none old new c = let a = takes_stay old c.before c.others in let b = takes-append c.before (Empty ∷ []) in let e = ap takes_in c.last in omega arith

pub takes_more : (host : Bool) (old new : List RingCall) (call : RingCall) → Called host old call new → takes_in old ≤ takes_in new
takes_more host old new call c = let a = takes_rise host old c.before c.others in let b = takes-append c.before (call ∷ []) in let e = ap takes_in c.last in omega arith

pub puts_more : (host : Bool) (old new : List RingCall) (call : RingCall) → Called host old call new → puts_in old ≤ puts_in new
puts_more host old new call c = let a = puts_rise host old c.before c.others in let b = puts-append c.before (call ∷ []) in let e = ap puts_in c.last in omega arith

-- at a full answer eight stand, and at an empty one none
pub eight_stand : (old new : List RingCall) → Called true old Full new → puts_in new ≡ takes_in new + 8
eight_stand old new c =
    let parts = leads_split 0 c.standing c.before (Full ∷ []) (subst (λ l. CallsLead 0 l c.standing) c.last c.legal) in
    let all = leads_counts 0 c.standing new c.legal in
    let eight : parts.0 ≡ 8 = parts.2.0 in
    let same : parts.0 ≡ c.standing = parts.2.1 in
    omega arith

pub none_stand : (old new : List RingCall) → Called false old Empty new → puts_in new ≡ takes_in new
none_stand old new c =
    let parts = leads_split 0 c.standing c.before (Empty ∷ []) (subst (λ l. CallsLead 0 l c.standing) c.last c.legal) in
    let all = leads_counts 0 c.standing new c.legal in
    let none : parts.0 ≡ 0 = parts.2.0 in
    let same : parts.0 ≡ c.standing = parts.2.1 in
    omega arith
