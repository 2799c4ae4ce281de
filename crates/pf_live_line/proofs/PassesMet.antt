-- The first requests of a host, and passes that have met.
use Rattle.std.proofs.Common.{◌≡◌, ℕ, zero, suc, ◌+◌, ◌-◌, ◌<◌, ◌≤◌, List, [], ◌∷◌, ◌++◌, length, length-append, Some, slice_get, append_assoc, append-nil, arith, refl, sym, ap, ◌∙◌, subst}
use Rattle.pf_live_crew.specs.Places.{Pairs}
use Rattle.pf_turn.specs.Lists.{Begins}
use Rattle.pf_turn.proofs.Lists.{begins_antisym, begins_both, begins_refl, begins_trans}
use Rattle.pf_rings.specs.declared.view.Request.{Request}
use Rattle.pf_live_seats.specs.declared.hosting.HostSeat.{HostSeat}
use Rattle.pf_live_seats.specs.declared.line.HostRings.{HostRings}
use Rattle.pf_live_seats.specs.declared.plan.LinePlan.{LinePlan}
use Rattle.pf_live_seats.specs.declared.serving.Served.{Served}
use Rattle.pf_live_seats.specs.pf_group.specs.GroupIs.{GroupIs}
use Rattle.pf_live_seats.specs.Deliveries.{LiveTrace}
use Rattle.pf_live_seats.specs.Submitters.{AllFed, AllStand, IsFed, SubmitterStands}
use Rattle.pf_live_seats.specs.Writes.{first_requests, request_of}
use Rattle.pf_live_line.specs.Meeting.{AreMet, IsMet, IsSameServed}
use Rattle.pf_live_line.specs.Mustered.{AreHosts, HostsAreServed}

firsts_count : (sectors h n : ℕ) → length (first_requests sectors h n) ≡ n
firsts_count sectors h zero = refl
firsts_count sectors h (suc n) = length-append (first_requests sectors h n) (request_of sectors h n ∷ []) ∙ (let rest = firsts_count sectors h n in omega (arith, rest))

firsts_begin : (sectors h m d : ℕ) → Begins (first_requests sectors h m) (first_requests sectors h (d + m))
firsts_begin sectors h m zero = subst (λ n. Begins (first_requests sectors h m) (first_requests sectors h n)) (sym (Rattle.std.proofs.Common.zero-add m)) (begins_refl (first_requests sectors h m))
firsts_begin sectors h m (suc d) = let shifted : suc (d + m) ≡ suc d + m = omega arith in subst (λ n. Begins (first_requests sectors h m) (first_requests sectors h n)) shifted
    (begins_trans (first_requests sectors h m) (first_requests sectors h (d + m)) (first_requests sectors h (suc (d + m))) (firsts_begin sectors h m d) (request_of sectors h (d + m) ∷ [], refl))

firsts_longer : (sectors h m n : ℕ) → m ≤ n → Begins (first_requests sectors h m) (first_requests sectors h n)
firsts_longer sectors h m n low = let sum : (n - m) + m ≡ n = omega arith in subst (λ x. Begins (first_requests sectors h m) (first_requests sectors h x)) sum (firsts_begin sectors h m (n - m))

-- a beginning of a host's first requests is so many of them
pub firsts_taken : (sectors h n : ℕ) (xs : List Request) → Begins xs (first_requests sectors h n) → xs ≡ first_requests sectors h (length xs)
firsts_taken sectors h n xs p = let count : length (first_requests sectors h (length xs)) ≡ length xs = firsts_count sectors h (length xs) in let most : length (first_requests sectors h n) ≡ n = firsts_count sectors h n in
    let sum : length xs + length p.0 ≡ length (first_requests sectors h n) = sym (length-append xs p.0) ∙ ap length p.1 in
    let on : Begins (first_requests sectors h (length xs)) (first_requests sectors h n) = firsts_longer sectors h (length xs) n (omega arith) in
    begins_antisym xs (first_requests sectors h (length xs)) (begins_both xs (first_requests sectors h (length xs)) (first_requests sectors h n) p on (omega arith)) (begins_both (first_requests sectors h (length xs)) xs (first_requests sectors h n) on p (omega arith))

-- one more
pub met_snoc : (plan : LinePlan) (rings : List HostRings) (end h : ℕ) (xs : List HostSeat) (ss : List Served) (a : HostSeat) (s : Served) → AreMet plan rings end h xs ss → IsMet plan rings end a s → AreMet plan rings (end + 1) h (xs ++ a ∷ []) (ss ++ s ∷ [])
met_snoc plan rings end h [] [] a s are is = (subst (λ m. IsMet plan rings m a s) (sym are) is, ap (λ m. m + 1) are)
met_snoc plan rings end h [] (t ∷ ts) a s are is = absurd are
met_snoc plan rings end h (b ∷ bs) [] a s are is = absurd are
met_snoc plan rings end h (b ∷ bs) (t ∷ ts) a s are is = (are.0, met_snoc plan rings end (h + 1) bs ts a s are.1 is)

pub met_fed : (plan : LinePlan) (rings : List HostRings) (end h : ℕ) (xs : List HostSeat) (ss : List Served) → AreMet plan rings end h xs ss → (j : ℕ) (s : Served) → slice_get ss j ≡ Some s → IsFed plan.sectors (h + j) s
met_fed plan rings end h [] [] are j s there = absurd cc
met_fed plan rings end h [] (t ∷ ts) are j s there = absurd are
met_fed plan rings end h (b ∷ bs) [] are j s there = absurd are
met_fed plan rings end h (b ∷ bs) (t ∷ ts) are zero s there = let same : t ≡ s = cc in subst (λ x. IsFed plan.sectors (h + 0) x) same (subst (λ m. IsFed plan.sectors m t) (sym (Rattle.std.proofs.Common.add-zero h)) are.0.fed)
met_fed plan rings end h (b ∷ bs) (t ∷ ts) are (suc j) s there = let shifted : (h + 1) + j ≡ h + suc j = omega arith in subst (λ m. IsFed plan.sectors m s) shifted (met_fed plan rings end (h + 1) bs ts are.1 j s there)

pub all_fed : (plan : LinePlan) (rings : List HostRings) (end : ℕ) (xs : List HostSeat) (ss : List Served) → AreMet plan rings end 0 xs ss → AllFed plan ss
all_fed plan rings end xs ss are h s there = subst (λ m. IsFed plan.sectors m s) (Rattle.std.proofs.Common.zero-add h) (met_fed plan rings end 0 xs ss are h s there)

pub met_hosts : (plan : LinePlan) (rings : List HostRings) (end h : ℕ) (xs : List HostSeat) (ss : List Served) → AreMet plan rings end h xs ss → AreHosts plan rings end h xs
met_hosts plan rings end h [] [] are = are
met_hosts plan rings end h [] (t ∷ ts) are = absurd are
met_hosts plan rings end h (b ∷ bs) [] are = absurd are
met_hosts plan rings end h (b ∷ bs) (t ∷ ts) are = (are.0.number, are.0.host, met_hosts plan rings end (h + 1) bs ts are.1)

pub met_served : (plan : LinePlan) (rings : List HostRings) (end h : ℕ) (xs : List HostSeat) (ss : List Served) → AreMet plan rings end h xs ss → HostsAreServed plan rings end h ss
met_served plan rings end h [] [] are = are
met_served plan rings end h [] (t ∷ ts) are = absurd are
met_served plan rings end h (b ∷ bs) [] are = absurd are
met_served plan rings end h (b ∷ bs) (t ∷ ts) are = (are.0.served, met_served plan rings end (h + 1) bs ts are.1)

-- the same of those that they were before
same_fed : (sectors h : ℕ) (s t : Served) → IsSameServed s t → IsFed sectors h t → IsFed sectors h s
same_fed sectors h s t same fed = sym same.0 ∙ (fed ∙ ap (first_requests sectors h) same.1)

pub fed_before : (plan : LinePlan) (h : ℕ) (ss ts : List Served) → Pairs IsSameServed ss ts → ((j : ℕ) (t : Served) → slice_get ts j ≡ Some t → IsFed plan.sectors (h + j) t) → (j : ℕ) (s : Served) → slice_get ss j ≡ Some s → IsFed plan.sectors (h + j) s
fed_before plan h [] ts same fed j s there = absurd cc
fed_before plan h (x ∷ xs) [] same fed j s there = absurd same
fed_before plan h (x ∷ xs) (y ∷ ys) same fed zero s there = let is : x ≡ s = cc in subst (λ z. IsFed plan.sectors (h + 0) z) is (same_fed plan.sectors (h + 0) x y same.0 (fed 0 y refl))
fed_before plan h (x ∷ xs) (y ∷ ys) same fed (suc j) s there = let shifted : (h + 1) + j ≡ h + suc j = omega arith in subst (λ m. IsFed plan.sectors m s) shifted
    (fed_before plan (h + 1) xs ys same.1 (λ i t at. let shift : h + suc i ≡ (h + 1) + i = omega arith in subst (λ m. IsFed plan.sectors m t) shift (fed (suc i) t at)) j s there)

pub fed_again : (plan : LinePlan) (rings : List HostRings) (end : ℕ) (hs : List HostSeat) (ss ts : List Served) → AreMet plan rings end 0 hs ts → Pairs IsSameServed ss ts → AllFed plan ss
fed_again plan rings end hs ss ts are same h s there = subst (λ m. IsFed plan.sectors m s) (Rattle.std.proofs.Common.zero-add h)
    (fed_before plan 0 ss ts same (λ j t at. subst (λ m. IsFed plan.sectors m t) (sym (Rattle.std.proofs.Common.zero-add j)) (all_fed plan rings end hs ts are j t at)) h s there)

-- and how they stand is the same
stands_same : (root : GroupIs) (list : LiveTrace) (h : ℕ) (s t : Served) → IsSameServed s t → SubmitterStands root h list s.taken s.standing → SubmitterStands root h list t.taken t.standing
stands_same root list h s t same is = subst (λ n. SubmitterStands root h list n t.standing) (sym same.1) (subst (λ y. SubmitterStands root h list s.taken y) (sym same.2) is)

pub stand_same : (root : GroupIs) (list : LiveTrace) (h : ℕ) (ss ts : List Served) → Pairs IsSameServed ss ts → ((j : ℕ) (s : Served) → slice_get ss j ≡ Some s → SubmitterStands root (h + j) list s.taken s.standing) → (j : ℕ) (t : Served) → slice_get ts j ≡ Some t → SubmitterStands root (h + j) list t.taken t.standing
stand_same root list h [] [] same stand j t there = absurd cc
stand_same root list h [] (y ∷ ys) same stand j t there = absurd same
stand_same root list h (x ∷ xs) [] same stand j t there = absurd same
stand_same root list h (x ∷ xs) (y ∷ ys) same stand zero t there = let is : y ≡ t = cc in subst (λ z. SubmitterStands root (h + 0) list z.taken z.standing) is (stands_same root list (h + 0) x y same.0 (stand 0 x refl))
stand_same root list h (x ∷ xs) (y ∷ ys) same stand (suc j) t there = let shifted : (h + 1) + j ≡ h + suc j = omega arith in subst (λ m. SubmitterStands root m list t.taken t.standing) shifted
    (stand_same root list (h + 1) xs ys same.1 (λ i s at. let shift : h + suc i ≡ (h + 1) + i = omega arith in subst (λ m. SubmitterStands root m list s.taken s.standing) shift (stand (suc i) s at)) j t there)

pub all_stand_same : (root : GroupIs) (list : LiveTrace) (ss ts : List Served) → Pairs IsSameServed ss ts → AllStand root list ss → AllStand root list ts
all_stand_same root list ss ts same stand h t there = subst (λ m. SubmitterStands root m list t.taken t.standing) (Rattle.std.proofs.Common.zero-add h)
    (stand_same root list 0 ss ts same (λ j s at. subst (λ m. SubmitterStands root m list s.taken s.standing) (sym (Rattle.std.proofs.Common.zero-add j)) (stand j s at)) h t there)
