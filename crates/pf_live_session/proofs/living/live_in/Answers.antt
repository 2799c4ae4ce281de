use Rattle.std.proofs.Common.{◌≡◌, sym, ap, subst, ◌∙◌}
use Rattle.std.specs.Prelude.{IfOk, IsTrue, OnErr}
use Rattle.pf_protocol.specs.Answers.{IsLegal}
use Rattle.pf_chunk.specs.pf_group.specs.GroupIs.{GroupIs}
use Rattle.pf_live_session.specs.GroupSessions.{HasLived, LineHasStopped}
use Rattle.pf_chunk.specs.Lending.{HasTold, with_group}
use Rattle.pf_chunk.specs.Telling.{now_taken}
use Rattle.pf_chunk.specs.Views.{ChunkIs, IsListed, ChunkIsReady}
use Rattle.pf_live_session.specs.Steps.{HasHeld, ChunkHasNotLived}
use Rattle.pf_live_session.proofs.HeldSessions.{has_held}
use Rattle.pf_live_session.proofs.Results.{ok_of}
use Rattle.pf_live_session.proofs.StoppedSessions.{stopped_so, untold_so}
use Rattle.pf_live_session.proofs.Taken.{listed_back}
use Rattle.pf_live_session.proofs.living.live_in.Goals as goal

pub returns-in_default-clause-err : goal.returns-in_default-clause-err
returns-in_default-clause-err g c =
    let lent = c.lend-group.result.1 in
    let was = c.lend-group.result.0 in
    let is = c.live-group.result.0 in
    let legal = subst (λ (x : ChunkIs). IsTrue x.group.told → IsLegal x.group.setup x.group.history) c.back-chunk.ensures c.laws.ensures.legal in
    let stopped = subst (λ r. OnErr r (LineHasStopped c.args.plan was is)) c.in_default.is c.live-group.ensures.stopped in
    subst (λ (x : ChunkIs). ChunkHasNotLived c.args.plan x c.back-chunk.result) c.lend-group.ensures.same
    (subst (ChunkHasNotLived c.args.plan (with_group lent was)) (sym c.back-chunk.ensures) (stopped_so c.args.plan (with_group lent was) (with_group lent is) legal stopped))

pub returns-then-is_err-clause-err : goal.returns-then-is_err-clause-err
returns-then-is_err-clause-err g c =
    let lent = c.lend-group.result.1 in
    let was = c.lend-group.result.0 in
    let is = c.live-group.result.0 in
    let new = c.tell.new.self in
    let legal = subst (λ (x : ChunkIs). IsTrue x.group.told → IsLegal x.group.setup x.group.history) c.back-chunk.ensures c.laws.ensures.legal in
    let lived = subst (λ r. IfOk r (λ its. HasLived c.args.plan was its is)) c.in-Ok.is c.live-group.ensures.lived in
    let taken : new.group ≡ now_taken is new.group.taken = ap (λ (x : ChunkIs). x.group) c.tell.ensures.same ∙ ap (λ (x : ChunkIs). now_taken x.group new.group.taken) c.back-chunk.ensures in
    subst (λ (x : ChunkIs). ChunkHasNotLived c.args.plan x new) c.lend-group.ensures.same
    (untold_so c.args.plan (with_group lent was) new (subst (λ (x : GroupIs). IsTrue x.told → IsLegal x.setup x.history) (sym taken) legal) c.in-Ok.lived is lived taken)

pub returns-clause-went : goal.returns-clause-went
returns-clause-went g c =
    let lent = c.lend-group.result.1 in
    let was = c.lend-group.result.0 in
    let is = c.live-group.result.0 in
    let new = c.tell.new.self in
    let out = c.args.out.now.items in
    let put = c.tell.new.out.items in
    let legal = subst (λ (x : ChunkIs). IsTrue x.group.told → IsLegal x.group.setup x.group.history) c.back-chunk.ensures c.laws.ensures.legal in
    let lived = subst (λ r. IfOk r (λ its. HasLived c.args.plan was its is)) c.in-Ok.is c.live-group.ensures.lived in
    let told = ok_of c.tell.result _ (sym c.is_err.ensures.value ∙ c.if-is_err.false) c.tell.ensures.told in
    let same : new ≡ record (with_group lent was) { group = now_taken is new.group.taken; waiting = new.waiting } =
    c.tell.ensures.same ∙ ap (λ (x : ChunkIs). record x { group = now_taken x.group new.group.taken; waiting = new.waiting }) c.back-chunk.ensures in
    subst (λ (x : ChunkIs). HasHeld c.args.plan x out c.in-Ok.lived put new) c.lend-group.ensures.same
    (has_held c.args.plan (with_group lent was) new c.in-Ok.lived is lived out put (subst (λ (x : ChunkIs). HasTold x out put new) c.back-chunk.ensures told) same (subst ChunkIsReady (sym c.lend-group.ensures.same) c.requires.ready) legal)

pub tell-requires : goal.tell-requires
tell-requires g c =
    let lent = c.lend-group.result.1 in
    let was = c.lend-group.result.0 in
    let is = c.live-group.result.0 in
    let lived = subst (λ r. IfOk r (λ its. HasLived c.args.plan was its is)) c.in-Ok.is c.live-group.ensures.lived in
    let ready = subst ChunkIsReady (sym c.lend-group.ensures.same) c.requires.ready in
    record {
      listed =
          subst (λ (x : ChunkIs). IsListed x.group.taken x.waiting) (sym c.back-chunk.ensures)
          (listed_back c.args.plan was is c.in-Ok.lived lived lent.waiting ready.kept.listed);
    }
