use Rattle.std.proofs.Common.{◌≡◌, ◌⊎◌, ◌∙◌, ap, subst, sym}
use Rattle.std.specs.Option.{option_map}
use Rattle.std.proofs.lemmas.Result.{on_err_weaker, on_ok_weaker}
use Rattle.pf_server_restart.specs.Beginning.{IsBegun}
use Rattle.pf_server_restart.specs.Reviving.{IsImageFor}
use Rattle.pf_server_restart.proofs.NextImages.{renewed_first, renewed_second}
use Rattle.pf_server_restart.proofs.halves.renew.Goals as goal

pub returns-in-None-clause-saved : goal.returns-in-None-clause-saved
returns-in-None-clause-saved g c = λ d seat life made begun.
    let second = subst (IsImageFor c.args.me.now (g.S.Store.model.format c.args.store.now)) (ap (option_map (λ body. body.items)) c.in-None.is) c.requires.image in
    subst (λ e. IsBegun g.S.Store.model e c.args.store.now c.args.me.now seat life) (renewed_second d (λ one. second (begun.stands.half ∙ one))) begun

pub save_anew-requires-clause-body : goal.save_anew-requires-clause-body
save_anew-requires-clause-body g c =
    let first = subst (IsImageFor c.args.me.now (g.S.Store.model.format c.args.store.now)) (ap (option_map (λ body. body.items)) c.in-Some.is) c.requires.image in
    λ d lives. c.deref.ensures.value ∙ first.1 d lives

pub returns-in-Some-clause-saved : goal.returns-in-Some-clause-saved
returns-in-Some-clause-saved g c =
    let first = subst (IsImageFor c.args.me.now (g.S.Store.model.format c.args.store.now)) (ap (option_map (λ body. body.items)) c.in-Some.is) c.requires.image in
    on_ok_weaker c.save_anew.result
    (λ saved d seat life made begun. subst (λ e. IsBegun g.S.Store.model e c.save_anew.new.store c.save_anew.new.me seat life) (renewed_first d (sym begun.stands.half ∙ first.0)) (saved d seat life made begun))
    c.save_anew.ensures.saved

pub returns-in-Some-clause-halted : goal.returns-in-Some-clause-halted
returns-in-Some-clause-halted g c =
    let first = subst (IsImageFor c.args.me.now (g.S.Store.model.format c.args.store.now)) (ap (option_map (λ body. body.items)) c.in-Some.is) c.requires.image in
    on_err_weaker c.save_anew.result
    (λ halted d recorded lives half. subst (g.S.Store.model.holds c.save_anew.new.store d) (renewed_first d (sym half ∙ first.0)) (halted d recorded lives))
    c.save_anew.ensures.halted

pub returns-in-Some-clause-any_moment : goal.returns-in-Some-clause-any_moment
returns-in-Some-clause-any_moment g c = λ d recorded lives half.
    let first = subst (IsImageFor c.args.me.now (g.S.Store.model.format c.args.store.now)) (ap (option_map (λ body. body.items)) c.in-Some.is) c.requires.image in
    subst (λ e. (c.save_anew.new.store ≡ c.args.store.now) ⊎ g.S.Store.model.was c.args.store.now c.save_anew.new.store d e) (renewed_first d (sym half ∙ first.0)) (c.save_anew.ensures.any_moment d recorded lives)
