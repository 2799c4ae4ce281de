use Rattle.std.proofs.Common.{◌≡◌, ◌+◌, ◌-◌, ◌++◌, ◌∷◌, [], suc, None, List, sym, ap, subst, ◌∙◌, append-nil, arith, rules, vec_len}
use Rattle.std.proofs.lemmas.List.{map-append}
use Rattle.pf_group_copy.specs.declared.work.CopyWork.{CopyWork}
use Rattle.pf_group.specs.GroupIs.{GroupIs}
use Rattle.pf_group_rounds.specs.Adding.{Adds, GroupHasClaimed, HasReturned}
use Rattle.pf_group_rounds.specs.Open.{AreOpen, jobs_of}
use Rattle.pf_group_rounds.proofs.HistoryParts.{adds_refl}
use Rattle.pf_group_rounds.proofs.Begun.{claims_returned, returned_refl}
use Rattle.pf_group_rounds.proofs.RunRounds.{ClaimsSoFar, all_claims, last_claim, no_claims, one_claim, still_none}
use Rattle.pf_group_rounds.proofs.RoundSteps.{claim_adds, claim_opens, claimed_so, none_adds, none_opens}
use Rattle.pf_group_rounds.proofs.claiming.claim_all.Goals as goal

pub loop-init : goal.loop-init
loop-init g c =
    let now = c.args.group.now in
    let none : vec_len c.args.works.now ≡ 0 = search rules in
    record {
      adds = subst (λ n. Adds now now n 0) (sym none) (adds_refl now);
      hand = subst (λ (works : List CopyWork). AreOpen now.history (jobs_of works)) (sym c.requires.works) (record { claims = c.requires.none; apart = tt });
      counted = none;
      run = subst (λ (works : List CopyWork). ClaimsSoFar now now (jobs_of works) 12289) (sym c.requires.works) (no_claims now);
    }

-- no memory for a claim

only_claimed : (old now : GroupIs) (n : _) → Adds old now n 0 → HasReturned old now
only_claimed old now n adds = claims_returned old now now n adds (returned_refl now)

pub returns-in_default-clause-short : goal.returns-in_default-clause-short
returns-in_default-clause-short g c =
    let old = c.args.group.now in let now = c.loop.group in let jobs = jobs_of c.loop.works.items in
    subst (λ (new : GroupIs). HasReturned old new × AreOpen new.history (jobs ++ [])) (sym c.in_default.ensures.err)
    (only_claimed old now _ c.loop.invariant.adds, subst (AreOpen now.history) (sym (append-nil jobs)) c.loop.invariant.hand)

-- none is free

pub returns-in_default-claimed-clause-adds : goal.returns-in_default-claimed-clause-adds
returns-in_default-claimed-clause-adds g c =
    let old = c.args.group.now in let now = c.loop.group in let new = c.claim.new.self in
    none_adds old now new _ (subst (λ o. GroupHasClaimed now o new) c.in_default-claimed.is (claimed_so now new _ c.in-Ok.ensures.went)) c.loop.invariant.adds

pub returns-in_default-claimed-clause-hand : goal.returns-in_default-claimed-clause-hand
returns-in_default-claimed-clause-hand g c =
    let now = c.loop.group in let new = c.claim.new.self in
    none_opens now new (jobs_of c.loop.works.items) (subst (λ o. GroupHasClaimed now o new) c.in_default-claimed.is (claimed_so now new _ c.in-Ok.ensures.went)) c.loop.invariant.hand

pub returns-in_default-claimed-clause-run : goal.returns-in_default-claimed-clause-run
returns-in_default-claimed-clause-run g c =
    let old = c.args.group.now in let now = c.loop.group in let new = c.claim.new.self in let jobs = jobs_of c.loop.works.items in
    let claimed = subst (λ o. GroupHasClaimed now o new) c.in_default-claimed.is (claimed_so now new _ c.in-Ok.ensures.went) in
    let left : 12289 - c.loop.counter ≡ suc (12288 - c.loop.counter) = omega arith in
    last_claim old now new jobs (12288 - c.loop.counter) claimed (subst (ClaimsSoFar old now jobs) left c.loop.invariant.run)

pub returns-in_default-claimed-clause-applied : goal.returns-in_default-claimed-clause-applied
returns-in_default-claimed-clause-applied g c told few =
    let now = c.loop.group in let new = c.claim.new.self in
    still_none now new (subst (λ o. GroupHasClaimed now o new) c.in_default-claimed.is (claimed_so now new _ c.in-Ok.ensures.went)) told

-- no place for its job

pub returns-in_default-reserve-clause-short : goal.returns-in_default-reserve-clause-short
returns-in_default-reserve-clause-short g c =
    let old = c.args.group.now in let now = c.loop.group in let new = c.claim.new.self in let job = c.in-Some.job in let jobs = jobs_of c.loop.works.items in
    let claimed = subst (λ o. GroupHasClaimed now o new) c.in-Some.is (claimed_so now new _ c.in-Ok.ensures.went) in (
      only_claimed old new _ (claim_adds old now new job _ claimed c.loop.invariant.adds),
      subst (λ (works : List CopyWork). AreOpen new.history (jobs_of works ++ job ∷ [])) (sym {A = List CopyWork} c.reserve.ensures.items) (claim_opens now new jobs job claimed c.loop.invariant.hand),
    )

pub loop-preserved : goal.loop-preserved
loop-preserved g c =
    let old = c.args.group.now in let now = c.loop.group in let new = c.claim.new.self in let job = c.in-Some.job in let jobs = jobs_of c.loop.works.items in
    let claimed = subst (λ o. GroupHasClaimed now o new) c.in-Some.is (claimed_so now new _ c.in-Ok.ensures.went) in
    let grown : c.push.new.self.items ≡ c.loop.works.items ++ record { job = job; filled = None } ∷ [] = search rules in
    let longer : vec_len c.push.new.self ≡ vec_len c.loop.works + 1 = search rules in
    let more : jobs_of c.push.new.self.items ≡ jobs ++ job ∷ [] = ap jobs_of grown ∙ map-append (λ (w : CopyWork). w.job) c.loop.works.items (record { job = job; filled = None } ∷ []) in
    let left : 12289 - c.loop.counter ≡ suc (12289 - (c.loop.counter + 1)) = omega arith in
    record {
      adds = subst (λ n. Adds old new n 0) (sym longer) (claim_adds old now new job (vec_len c.loop.works) claimed c.loop.invariant.adds);
      hand = subst (AreOpen new.history) (sym more) (claim_opens now new jobs job claimed c.loop.invariant.hand);
      counted = longer ∙ ap (λ n. n + 1) c.loop.invariant.counted;
      run = subst (λ js. ClaimsSoFar old new js (12289 - (c.loop.counter + 1))) (sym more) (one_claim old now new jobs job (12289 - (c.loop.counter + 1)) claimed (subst (ClaimsSoFar old now jobs) left c.loop.invariant.run));
    }

pub returns-clause-run : goal.returns-clause-run
returns-clause-run g c =
    let left : 12289 - c.loop.counter ≡ 0 = omega arith in
    all_claims c.args.group.now c.loop.group (jobs_of c.loop.works.items) (subst (ClaimsSoFar c.args.group.now c.loop.group (jobs_of c.loop.works.items)) left c.loop.invariant.run)
