use Rattle.std.proofs.Common.{◌≡◌, ◌+◌, ℕ, add-zero, append-nil, sym, ap, subst, ◌∙◌, vec_len, arith}
use Rattle.std.proofs.lemmas.Bool.{eqb-false, eqb-true}
use Rattle.std.proofs.lemmas.List.{length-map}
use Rattle.pf_group_copy.specs.declared.work.CopyWork.{CopyWork}
use Rattle.pf_group_rounds.specs.Adding.{Adds}
use Rattle.pf_group_rounds.specs.Following.{IsFinished, IsRound}
use Rattle.pf_group_rounds.specs.Open.{AreOpen, jobs_of}
use Rattle.pf_group_rounds.proofs.HistoryParts.{adds_goes, adds_trans, goes_on}
use Rattle.pf_group_rounds.proofs.Begun.{claims_returned, returned_goes, returned_trans}
use Rattle.pf_group_rounds.proofs.ClaimLists.{none_left, same_count}
use Rattle.pf_group_rounds.proofs.RunRounds.{empty_round, one_round}
use Rattle.pf_group_rounds.proofs.applying.round.Goals as goal

pub give_all_back-requires : goal.give_all_back-requires
give_all_back-requires g c = c.in-Err.ensures.short.1

pub returns-in-Err-clause-goes : goal.returns-in-Err-clause-goes
returns-in-Err-clause-goes g c = returned_goes c.args.group.now c.give_all_back.new.group (returned_trans c.args.group.now c.claim_all.new.group c.give_all_back.new.group c.in-Err.ensures.short.0 c.give_all_back.ensures.returned)

pub returns-in-Err-clause-returned : goal.returns-in-Err-clause-returned
returns-in-Err-clause-returned g c = returned_trans c.args.group.now c.claim_all.new.group c.give_all_back.new.group c.in-Err.ensures.short.0 c.give_all_back.ensures.returned

pub returns-then-is_empty-clause-adds : goal.returns-then-is_empty-clause-adds
returns-then-is_empty-clause-adds g c =
    let none = eqb-true (vec_len c.claim_all.new.works) 0 (sym c.is_empty.ensures ∙ c.if-is_empty.true) in
    subst (λ (n : ℕ). Adds c.args.group.now c.claim_all.new.group n 0) none c.in_default.ensures.adds

pub returns-then-is_empty-clause-run : goal.returns-then-is_empty-clause-run
returns-then-is_empty-clause-run g c =
    let works = c.claim_all.new.works in
    let none = eqb-true (vec_len works) 0 (sym c.is_empty.ensures ∙ c.if-is_empty.true) in
    empty_round c.args.group.now c.claim_all.new.group (jobs_of works.items) (ap jobs_of (none_left (vec_len works) works.items none works.ok.0)) c.in_default.ensures.run

pub returns-then-is_empty-clause-applied : goal.returns-then-is_empty-clause-applied
returns-then-is_empty-clause-applied g c zero told =
    let none = eqb-true (vec_len c.claim_all.new.works) 0 (sym c.is_empty.ensures ∙ c.if-is_empty.true) in
    c.in_default.ensures.applied told (omega (arith, none))

pub give_all_back-requires-in-Err-copy_all : goal.give_all_back-requires-in-Err-copy_all
give_all_back-requires-in-Err-copy_all g c =
    let history = c.claim_all.new.group.history in
    subst (AreOpen history) (sym (append-nil (jobs_of c.copy_all.new.works.items))) (subst (AreOpen history) (sym c.copy_all.ensures.jobs) c.in_default.ensures.hand)

pub returns-in-Err-copy_all-clause-goes : goal.returns-in-Err-copy_all-clause-goes
returns-in-Err-copy_all-clause-goes g c =
    let mid = c.claim_all.new.group in let new = c.give_all_back-in-Err-copy_all.new.group in
    goes_on c.args.group.now mid new _ 0 c.in_default.ensures.adds (returned_goes mid new c.give_all_back-in-Err-copy_all.ensures.returned)

pub returns-in-Err-copy_all-clause-returned : goal.returns-in-Err-copy_all-clause-returned
returns-in-Err-copy_all-clause-returned g c =
    claims_returned c.args.group.now c.claim_all.new.group c.give_all_back-in-Err-copy_all.new.group _ c.in_default.ensures.adds c.give_all_back-in-Err-copy_all.ensures.returned

pub returns-clause-goes : goal.returns-clause-goes
returns-clause-goes g c =
    let mid = c.claim_all.new.group in let new = c.finish_all.new.group in
    goes_on c.args.group.now mid new _ 0 c.in_default.ensures.adds (adds_goes mid new 0 _ c.finish_all.ensures.adds)

pub returns-clause-adds : goal.returns-clause-adds
returns-clause-adds g c =
    let old = c.args.group.now in let mid = c.claim_all.new.group in let new = c.finish_all.new.group in
    let ws = c.claim_all.new.works in let vs = c.copy_all.new.works in
    let same = same_count (vec_len ws) (vec_len vs) ws.items vs.items ws.ok.0 vs.ok.0 c.copy_all.ensures.jobs in
    let claimed : vec_len ws + 0 ≡ c.len-count.result = add-zero (vec_len ws) ∙ (same ∙ sym c.len-count.ensures) in
    let finished : 0 + vec_len vs ≡ c.len-count.result = omega (arith, c.len-count.ensures) in
    subst (λ (n : ℕ). Adds old new c.len-count.result n) finished
    (subst (λ (n : ℕ). Adds old new n (0 + vec_len vs)) claimed (adds_trans old mid new (vec_len ws) 0 0 (vec_len vs) c.in_default.ensures.adds c.finish_all.ensures.adds))

pub returns-clause-few : goal.returns-clause-few
returns-clause-few g c =
    let ws = c.claim_all.new.works in let vs = c.copy_all.new.works in
    let same = same_count (vec_len ws) (vec_len vs) ws.items vs.items ws.ok.0 vs.ok.0 c.copy_all.ensures.jobs in
    omega (arith, same, c.len-count.ensures, c.claim_all.ensures.few)

pub returns-clause-run : goal.returns-clause-run
returns-clause-run g c =
    let old = c.args.group.now in let mid = c.claim_all.new.group in let new = c.finish_all.new.group in
    let ws = c.claim_all.new.works in let vs = c.copy_all.new.works in
    let same = same_count (vec_len ws) (vec_len vs) ws.items vs.items ws.ok.0 vs.ok.0 c.copy_all.ensures.jobs in
    let count = length-map ws.items (λ (w : CopyWork). w.job) ∙ (sym ws.ok.0 ∙ (same ∙ sym c.len-count.ensures)) in
    subst (IsRound old new) count
    (one_round old mid new (jobs_of ws.items) c.in_default.ensures.run (adds_goes mid new 0 (vec_len vs) c.finish_all.ensures.adds) (subst (IsFinished mid new) c.copy_all.ensures.jobs c.finish_all.ensures.run))

pub returns-clause-applied : goal.returns-clause-applied
returns-clause-applied g c none told =
    let ws = c.claim_all.new.works in let vs = c.copy_all.new.works in
    let same = same_count (vec_len ws) (vec_len vs) ws.items vs.items ws.ok.0 vs.ok.0 c.copy_all.ensures.jobs in
    absurd (eqb-false (vec_len ws) 0 (sym c.is_empty.ensures ∙ c.if-is_empty.false) (same ∙ (sym c.len-count.ensures ∙ none)))
