use Rattle.std.proofs.Common.{◌≡◌, [], ◌∷◌, None, Ok, Err, Result, refl, sym, ap, subst, ◌∙◌}
use Rattle.std.proofs.lemmas.Result.{err_from_is_err_and}
use Rattle.std.specs.Option.{option_map}
use Rattle.pf_base.specs.declared.errors.NoMemory.{NoMemory}
use Rattle.pf_protocol.specs.Groups.{Group}
use Rattle.pf_protocol.specs.declared.answers.Answer.{Answer}
use Rattle.pf_protocol.specs.declared.answers.Answer.TheVariants.{Job as JobIs}
use Rattle.pf_protocol.specs.declared.events.Event.TheVariants.{Claim}
use Rattle.pf_server_store.specs.Stores.{StoreModel}
use Rattle.pf_group_network.specs.declared.network.Network.{Network}
use Rattle.pf_group_network.specs.Showing.{Shows, taken_of}
use Rattle.pf_group_network.proofs.CrashedDisks.{touches_none}
use Rattle.pf_protocol.specs.Servers.{Setup}
use Rattle.pf_group_network.specs.Claiming.{ClaimsAt}
use Rattle.pf_group_network.specs.Going.{Goes, KeepsStores}
use Rattle.pf_group_network.proofs.Claims.{claims_job, claims_none, still_reached}
use Rattle.pf_group_network.proofs.network.Network.claim.Goals as goal

pub returns-in-Some : goal.returns-in-Some
returns-in-Some g c setup past reached =
    let r0 = reached in
    claims_job g.S.Store.model setup past.group c.args.self.now c.claim_at.new.self c.claim_at.ensures.stores c.claim_at.ensures.taken [] (1 ∷ 2 ∷ []) 0 refl tt c.in-Some.job
    (subst (ClaimsAt g.S.Store.model setup past.group 0 c.claim_at.new.self) (c.in_ok-job.was ∙ ap Ok c.in-Some.is) (c.claim_at.ensures.step setup past r0))
    (JobIs c.in-Some.job) refl

pub returns-in-Some-2 : goal.returns-in-Some-2
returns-in-Some-2 g c setup past reached =
    let r0 = reached in
    let n0 : ClaimsAt g.S.Store.model setup past.group 0 c.claim_at.new.self (Ok None) = subst (ClaimsAt g.S.Store.model setup past.group 0 c.claim_at.new.self) (c.in_ok-job.was ∙ ap Ok c.in_default.is) (c.claim_at.ensures.step setup past r0) in
    let r1 = still_reached g.S.Store.model setup past c.args.self.now r0 c.claim_at.new.self n0.1 in
    claims_job g.S.Store.model setup past.group c.args.self.now c.claim_at-2.new.self (λ i. c.claim_at-2.ensures.stores i ∙ c.claim_at.ensures.stores i) (c.claim_at-2.ensures.taken ∙ c.claim_at.ensures.taken) (0 ∷ []) (2 ∷ []) 1 refl (n0.0, tt) c.in-Some-2.job
    (subst (ClaimsAt g.S.Store.model setup past.group 1 c.claim_at-2.new.self) (c.in_ok-job-2.was ∙ ap Ok c.in-Some-2.is) (c.claim_at-2.ensures.step setup past r1))
    (JobIs c.in-Some-2.job) refl

pub returns-in-Some-3 : goal.returns-in-Some-3
returns-in-Some-3 g c setup past reached =
    let r0 = reached in
    let n0 : ClaimsAt g.S.Store.model setup past.group 0 c.claim_at.new.self (Ok None) = subst (ClaimsAt g.S.Store.model setup past.group 0 c.claim_at.new.self) (c.in_ok-job.was ∙ ap Ok c.in_default.is) (c.claim_at.ensures.step setup past r0) in
    let r1 = still_reached g.S.Store.model setup past c.args.self.now r0 c.claim_at.new.self n0.1 in
    let n1 : ClaimsAt g.S.Store.model setup past.group 1 c.claim_at-2.new.self (Ok None) = subst (ClaimsAt g.S.Store.model setup past.group 1 c.claim_at-2.new.self) (c.in_ok-job-2.was ∙ ap Ok c.in_default-2.is) (c.claim_at-2.ensures.step setup past r1) in
    let r2 = still_reached g.S.Store.model setup past c.claim_at.new.self r1 c.claim_at-2.new.self n1.1 in
    claims_job g.S.Store.model setup past.group c.args.self.now c.claim_at-3.new.self (λ i. c.claim_at-3.ensures.stores i ∙ c.claim_at-2.ensures.stores i ∙ c.claim_at.ensures.stores i) (c.claim_at-3.ensures.taken ∙ c.claim_at-2.ensures.taken ∙ c.claim_at.ensures.taken) (0 ∷ 1 ∷ []) [] 2 refl (n0.0, (n1.0, tt)) c.in-Some-3.job
    (subst (ClaimsAt g.S.Store.model setup past.group 2 c.claim_at-3.new.self) (c.in_ok-job-3.was ∙ ap Ok c.in-Some-3.is) (c.claim_at-3.ensures.step setup past r2))
    (JobIs c.in-Some-3.job) refl

pub returns : goal.returns
returns g c setup past reached =
    let r0 = reached in
    let n0 : ClaimsAt g.S.Store.model setup past.group 0 c.claim_at.new.self (Ok None) = subst (ClaimsAt g.S.Store.model setup past.group 0 c.claim_at.new.self) (c.in_ok-job.was ∙ ap Ok c.in_default.is) (c.claim_at.ensures.step setup past r0) in
    let r1 = still_reached g.S.Store.model setup past c.args.self.now r0 c.claim_at.new.self n0.1 in
    let n1 : ClaimsAt g.S.Store.model setup past.group 1 c.claim_at-2.new.self (Ok None) = subst (ClaimsAt g.S.Store.model setup past.group 1 c.claim_at-2.new.self) (c.in_ok-job-2.was ∙ ap Ok c.in_default-2.is) (c.claim_at-2.ensures.step setup past r1) in
    let r2 = still_reached g.S.Store.model setup past c.claim_at.new.self r1 c.claim_at-2.new.self n1.1 in
    let n2 : ClaimsAt g.S.Store.model setup past.group 2 c.claim_at-3.new.self (Ok None) = subst (ClaimsAt g.S.Store.model setup past.group 2 c.claim_at-3.new.self) (c.in_ok-job-3.was ∙ ap Ok c.in_default-3.is) (c.claim_at-3.ensures.step setup past r2) in
    let r3 = still_reached g.S.Store.model setup past c.claim_at-2.new.self r2 c.claim_at-3.new.self n2.1 in
    claims_none g.S.Store.model setup past.group c.args.self.now c.claim_at-3.new.self (λ i. c.claim_at-3.ensures.stores i ∙ c.claim_at-2.ensures.stores i ∙ c.claim_at.ensures.stores i) (c.claim_at-3.ensures.taken ∙ c.claim_at-2.ensures.taken ∙ c.claim_at.ensures.taken) (n0.0, (n1.0, (n2.0, tt))) n2.1

-- where memory ran out
short : {S : Type 0} → (model : StoreModel S) (setup : Setup) (g : Group) (old new : Network S) → Shows model setup new g → KeepsStores old new → taken_of new ≡ taken_of old
    → (result : Result Answer NoMemory) → (e : NoMemory) → result ≡ Err e → Goes model setup g Claim old new result
short model setup g old new shows stores taken result e is =
    subst (Goes model setup g Claim old new) (sym is) (record { shows = shows; crash = touches_none model.was g g old new; others = λ i own. stores i; tells = λ i. ap (option_map model.told) (stores i); taken = taken })

pub returns-in_err-job : goal.returns-in_err-job
returns-in_err-job g c setup past reached =
    let shows = subst (ClaimsAt g.S.Store.model setup past.group 0 c.claim_at.new.self) c.in_err-job.was (c.claim_at.ensures.step setup past reached) in
    let err = err_from_is_err_and c.from_residual.result c.from_residual.ensures.1 in
    short g.S.Store.model setup past.group c.args.self.now c.claim_at.new.self shows c.claim_at.ensures.stores c.claim_at.ensures.taken c.from_residual.result err.0 err.1

pub returns-in_err-job-2 : goal.returns-in_err-job-2
returns-in_err-job-2 g c setup past reached =
    let n0 : ClaimsAt g.S.Store.model setup past.group 0 c.claim_at.new.self (Ok None) = subst (ClaimsAt g.S.Store.model setup past.group 0 c.claim_at.new.self) (c.in_ok-job.was ∙ ap Ok c.in_default.is) (c.claim_at.ensures.step setup past reached) in
    let r1 = still_reached g.S.Store.model setup past c.args.self.now reached c.claim_at.new.self n0.1 in
    let shows = subst (ClaimsAt g.S.Store.model setup past.group 1 c.claim_at-2.new.self) c.in_err-job-2.was (c.claim_at-2.ensures.step setup past r1) in
    let err = err_from_is_err_and c.from_residual-in_err-job-2.result c.from_residual-in_err-job-2.ensures.1 in
    short g.S.Store.model setup past.group c.args.self.now c.claim_at-2.new.self shows (λ i. c.claim_at-2.ensures.stores i ∙ c.claim_at.ensures.stores i) (c.claim_at-2.ensures.taken ∙ c.claim_at.ensures.taken)
    c.from_residual-in_err-job-2.result err.0 err.1

pub claim_at-requires-3-clause-reached : goal.claim_at-requires-3-clause-reached
claim_at-requires-3-clause-reached g c =
    let setup = c.requires.0 in
    let past = c.requires.1.0 in
    let n0 : ClaimsAt g.S.Store.model setup past.group 0 c.claim_at.new.self (Ok None) = subst (ClaimsAt g.S.Store.model setup past.group 0 c.claim_at.new.self) (c.in_ok-job.was ∙ ap Ok c.in_default.is) (c.claim_at.ensures.step setup past c.requires.1.1) in
    let r1 = still_reached g.S.Store.model setup past c.args.self.now c.requires.1.1 c.claim_at.new.self n0.1 in
    let n1 : ClaimsAt g.S.Store.model setup past.group 1 c.claim_at-2.new.self (Ok None) = subst (ClaimsAt g.S.Store.model setup past.group 1 c.claim_at-2.new.self) (c.in_ok-job-2.was ∙ ap Ok c.in_default-2.is) (c.claim_at-2.ensures.step setup past r1) in
    (setup, (past, still_reached g.S.Store.model setup past c.claim_at.new.self r1 c.claim_at-2.new.self n1.1))

pub returns-in_err-job-3 : goal.returns-in_err-job-3
returns-in_err-job-3 g c setup past reached =
    let n0 : ClaimsAt g.S.Store.model setup past.group 0 c.claim_at.new.self (Ok None) = subst (ClaimsAt g.S.Store.model setup past.group 0 c.claim_at.new.self) (c.in_ok-job.was ∙ ap Ok c.in_default.is) (c.claim_at.ensures.step setup past reached) in
    let r1 = still_reached g.S.Store.model setup past c.args.self.now reached c.claim_at.new.self n0.1 in
    let n1 : ClaimsAt g.S.Store.model setup past.group 1 c.claim_at-2.new.self (Ok None) = subst (ClaimsAt g.S.Store.model setup past.group 1 c.claim_at-2.new.self) (c.in_ok-job-2.was ∙ ap Ok c.in_default-2.is) (c.claim_at-2.ensures.step setup past r1) in
    let r2 = still_reached g.S.Store.model setup past c.claim_at.new.self r1 c.claim_at-2.new.self n1.1 in
    let shows = subst (ClaimsAt g.S.Store.model setup past.group 2 c.claim_at-3.new.self) c.in_err-job-3.was (c.claim_at-3.ensures.step setup past r2) in
    let err = err_from_is_err_and c.from_residual-in_err-job-3.result c.from_residual-in_err-job-3.ensures.1 in
    short g.S.Store.model setup past.group c.args.self.now c.claim_at-3.new.self shows (λ i. c.claim_at-3.ensures.stores i ∙ c.claim_at-2.ensures.stores i ∙ c.claim_at.ensures.stores i) (c.claim_at-3.ensures.taken ∙ c.claim_at-2.ensures.taken ∙ c.claim_at.ensures.taken)
    c.from_residual-in_err-job-3.result err.0 err.1
