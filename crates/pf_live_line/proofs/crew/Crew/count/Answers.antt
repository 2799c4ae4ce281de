use Rattle.std.proofs.Common.{◌≡◌, ◌-◌, true, ◌<◌, ◌≤◌, Some, length, get_or, slice_get, nat_lt, false, ltb-true, arith, refl, sym, ap, ◌∙◌, subst}
use Rattle.std.proofs.lemmas.Option.{slice_get_read}
use Rattle.pf_live_seats.specs.pf_shared.specs.Seats.{root_in, seen_by}
use Rattle.pf_live_seats.specs.declared.serving.Standing.TheVariants.{Asked, Placed, Settled}
use Rattle.pf_live_seats.specs.Submitters.{SubmitterStands}
use Rattle.pf_live_line.specs.Judging.{HasCount}
use Rattle.pf_live_line.proofs.JudgedEnds.{asked_some, count_asked, count_placed, count_settled, count_told, met_count, met_counted, met_few, not_below}
use Rattle.pf_live_line.proofs.crew.Crew.count.Goals as goal

pub unreachable-requires : goal.unreachable-requires
unreachable-requires g c = let a = c.args.self.now in let line = c.args.line.now in let n = met_count line.plan line.rings.items line.plan.hosts 0 a.hosts.items a.served.items c.requires.crew.met in
    not_below c.args.host (length a.served.items) (omega (arith, n, c.requires.host)) (subst (λ xs. false ≡ nat_lt c.args.host (length xs)) c.deref.ensures.value c.in_default.ensures.lookup.0)

pub overflow_sub-result : goal.overflow_sub-result
overflow_sub-result g c = let a = c.args.self.now in let line = c.args.line.now in let items = a.served.items in let i = c.args.host in let s = c.in-Some.served.now in
    let low : i < length items = subst (λ xs. i < length xs) c.deref.ensures.value (ltb-true i (length c.deref.result.now) (sym c.in-Some.ensures.lookup.0)) in
    let there : slice_get items i ≡ Some s = slice_get_read items (length items) i s refl low (c.in-Some.ensures.lookup.1 ∙ ap (λ xs. get_or xs i s) c.deref.ensures.value) in
    asked_some line.plan s c.in-Asked.field-0 (met_counted line.plan line.rings.items line.plan.hosts a.hosts.items items c.requires.crew.met i s there) c.in-Asked.is

pub returns-in-Settled-clause-count : goal.returns-in-Settled-clause-count
returns-in-Settled-clause-count g c told = let a = c.args.self.now in let line = c.args.line.now in let items = a.served.items in let i = c.args.host in let s = c.in-Some.served.now in
    let low : i < length items = subst (λ xs. i < length xs) c.deref.ensures.value (ltb-true i (length c.deref.result.now) (sym c.in-Some.ensures.lookup.0)) in
    let there : slice_get items i ≡ Some s = slice_get_read items (length items) i s refl low (c.in-Some.ensures.lookup.1 ∙ ap (λ xs. get_or xs i s) c.deref.ensures.value) in
    let few : s.taken ≤ line.plan.writes = met_few line.plan line.rings.items line.plan.hosts a.hosts.items items c.requires.crew.met i s there in
    let root = root_in line.group in let stands : SubmitterStands root i (seen_by a.seat) s.taken (Settled) = subst (λ y. SubmitterStands root i (seen_by a.seat) s.taken y) c.in-Settled.is (c.requires.crew.stand told i s there) in
    count_settled line.plan root i (seen_by a.seat) s.taken few c.args.refused stands

pub returns-in-Asked-clause-count : goal.returns-in-Asked-clause-count
returns-in-Asked-clause-count g c told = let a = c.args.self.now in let line = c.args.line.now in let items = a.served.items in let i = c.args.host in let s = c.in-Some.served.now in
    let low : i < length items = subst (λ xs. i < length xs) c.deref.ensures.value (ltb-true i (length c.deref.result.now) (sym c.in-Some.ensures.lookup.0)) in
    let there : slice_get items i ≡ Some s = slice_get_read items (length items) i s refl low (c.in-Some.ensures.lookup.1 ∙ ap (λ xs. get_or xs i s) c.deref.ensures.value) in
    let few : s.taken ≤ line.plan.writes = met_few line.plan line.rings.items line.plan.hosts a.hosts.items items c.requires.crew.met i s there in
    let root = root_in line.group in let stands : SubmitterStands root i (seen_by a.seat) s.taken (Asked c.in-Asked.field-0) = subst (λ y. SubmitterStands root i (seen_by a.seat) s.taken y) c.in-Asked.is (c.requires.crew.stand told i s there) in
    count_asked line.plan root i (seen_by a.seat) s.taken few c.in-Asked.field-0 c.args.refused (λ e. c.requires.refused e told i s c.in-Asked.field-0 c.requires.host there c.in-Asked.is) stands

pub returns-then-branch-clause-count : goal.returns-then-branch-clause-count
returns-then-branch-clause-count g c told = let a = c.args.self.now in let line = c.args.line.now in let items = a.served.items in let i = c.args.host in let s = c.in-Some.served.now in
    let low : i < length items = subst (λ xs. i < length xs) c.deref.ensures.value (ltb-true i (length c.deref.result.now) (sym c.in-Some.ensures.lookup.0)) in
    let there : slice_get items i ≡ Some s = slice_get_read items (length items) i s refl low (c.in-Some.ensures.lookup.1 ∙ ap (λ xs. get_or xs i s) c.deref.ensures.value) in
    let few : s.taken ≤ line.plan.writes = met_few line.plan line.rings.items line.plan.hosts a.hosts.items items c.requires.crew.met i s there in
    let root = root_in line.group in let l = c.in_ok-is_acked-in-Placed.ensures in let b = c.is_acked.new.self in let k = l.looked in
    let there_now : slice_get b.served.items i ≡ Some s = ap (λ v. slice_get v.items i) k.served ∙ there in
    let stands : SubmitterStands root i (seen_by b.seat) s.taken (Placed c.in-Placed.term c.in-Placed.slot c.in-Placed.request) = subst (λ y. SubmitterStands root i (seen_by b.seat) s.taken y) c.in-Placed.is (k.is.stand told i s there_now) in
    count_told line.plan root i (seen_by b.seat) s.taken few c.args.refused c.in-Placed.term c.in-Placed.slot c.in-Placed.request (sym (l.acked told) ∙ c.if-branch.true) stands

pub returns-else-branch-clause-count : goal.returns-else-branch-clause-count
returns-else-branch-clause-count g c told = let a = c.args.self.now in let line = c.args.line.now in let items = a.served.items in let i = c.args.host in let s = c.in-Some.served.now in
    let low : i < length items = subst (λ xs. i < length xs) c.deref.ensures.value (ltb-true i (length c.deref.result.now) (sym c.in-Some.ensures.lookup.0)) in
    let there : slice_get items i ≡ Some s = slice_get_read items (length items) i s refl low (c.in-Some.ensures.lookup.1 ∙ ap (λ xs. get_or xs i s) c.deref.ensures.value) in
    let few : s.taken ≤ line.plan.writes = met_few line.plan line.rings.items line.plan.hosts a.hosts.items items c.requires.crew.met i s there in
    let root = root_in line.group in let l = c.in_ok-is_acked-in-Placed.ensures in let b = c.is_acked.new.self in let k = l.looked in
    let there_now : slice_get b.served.items i ≡ Some s = ap (λ v. slice_get v.items i) k.served ∙ there in
    let stands : SubmitterStands root i (seen_by b.seat) s.taken (Placed c.in-Placed.term c.in-Placed.slot c.in-Placed.request) = subst (λ y. SubmitterStands root i (seen_by b.seat) s.taken y) c.in-Placed.is (k.is.stand told i s there_now) in
    let less : s.taken - 1 ≡ c.saturating_sub.result = omega (arith, c.saturating_sub.ensures) in
    subst (λ n. HasCount line.plan root (seen_by b.seat) i c.args.refused (n, true)) less (count_placed line.plan root i (seen_by b.seat) s.taken few c.args.refused c.in-Placed.term c.in-Placed.slot c.in-Placed.request (sym (l.acked told) ∙ c.if-branch.false) stands)
