use Rattle.std.proofs.Common.{inr, replicate, true≢false, refl, sym, ap, subst, ◌∙◌}
use Rattle.pf_base.specs.Span.{IsWritable, Span}
use Rattle.pf_entry.specs.declared.ops.Op.TheVariants.{Write}
use Rattle.pf_protocol.specs.Answers.{IsAnswer}
use Rattle.pf_protocol.specs.declared.events.Event.TheVariants.{Submit}
use Rattle.pf_shared.specs.Seats.{IsAlone, number_of, root_in, seen_by}
use Rattle.pf_shared.specs.Since.{state_by_now}
use Rattle.pf_live_seats.specs.Submitters.{IsSettledBy}
use Rattle.pf_live_seats.proofs.SettledSubmissions.{settled}
use Rattle.pf_live_seats.proofs.Stands.{asks_as, handed_as, may_submit, serves_handed, serves_kept, span_as}
use Rattle.pf_live_seats.proofs.serving.Served.hand.Goals as goal

pub submit-requires-clause-write : goal.submit-requires-clause-write
submit-requires-clause-write g c = let range = c.in-Ok.ensures.range in
    may_submit c.in-Ok.range c.args.request.byte c.in_ok-payload.payload (subst (λ (s : Span). IsWritable s.first s.count) (sym range) (c.in-Ok.ensures.exact.0 refl))
    (c.in_ok-payload.ensures ∙ (c.in_ok-data.ensures ∙ ap (λ n. replicate n (replicate 512 c.args.request.byte)) c.count-2.ensures))

pub returns-in_err-term-clause-serves : goal.returns-in_err-term-clause-serves
returns-in_err-term-clause-serves g c = let a = c.args.self.now in let s = c.args.seat.now in let line = c.args.line.now in
    serves_kept line.plan (root_in line.group) (number_of s) c.args.host a a (IsAlone s) (seen_by s) (seen_by c.submit.new.seat) c.in_err-term.ensures.err refl refl refl

pub returns-clause-serves : goal.returns-clause-serves
returns-clause-serves g c = let a = c.args.self.now in let s = c.args.seat.now in let line = c.args.line.now in let request = c.args.request in let h = c.in_ok-term.ensures.submits in
    serves_handed line.plan (root_in line.group) (number_of s) c.args.host a (record a { standing = c.standing_after-self.result; moves = c.args.target.moves }) (IsAlone s) (seen_by s) (seen_by c.submit.new.seat)
    c.args.target.server request c.in_ok-term.term c.in_ok-term.answer (Write c.in-Ok.range c.in_ok-payload.payload)
    (asks_as c.in-Ok.range request c.in_ok-payload.payload (c.in-Ok.ensures.range ∙ span_as request.range c.first.result c.count.result c.first.ensures c.count.ensures)
    (c.in_ok-payload.ensures ∙ (c.in_ok-data.ensures ∙ ap (λ n. replicate n (replicate 512 request.byte)) c.count-2.ensures)))
    h.0 h.1 c.requires.host c.requires.counted c.requires.asked refl refl c.standing_after-self.ensures

pub returns-in_default-clause-handed : goal.returns-in_default-clause-handed
returns-in_default-clause-handed g c = let range = c.args.request.range in (
  λ w. true≢false (sym (c.in_default.ensures.exact.1 (subst (λ x. IsWritable x c.count.result) (sym c.first.ensures) (subst (λ x. IsWritable range.first x) (sym c.count.ensures) w)))),
  refl,
)

pub returns-clause-handed : goal.returns-clause-handed
returns-clause-handed g c = let request = c.args.request in let h = c.in_ok-term.ensures.submits in
    handed_as (number_of c.args.seat.now) (IsAlone c.args.seat.now) (seen_by c.args.seat.now) (seen_by c.submit.new.seat) c.args.target.server request c.in_ok-term.answer (Write c.in-Ok.range c.in_ok-payload.payload)
    (asks_as c.in-Ok.range request c.in_ok-payload.payload (c.in-Ok.ensures.range ∙ span_as request.range c.first.result c.count.result c.first.ensures c.count.ensures)
    (c.in_ok-payload.ensures ∙ (c.in_ok-data.ensures ∙ ap (λ n. replicate n (replicate 512 request.byte)) c.count-2.ensures)))
    h.0.adds

pub returns-clause-settled : goal.returns-clause-settled
returns-clause-settled g c told = let root = root_in c.args.line.now.group in let server = c.args.target.server in let answer = c.in_ok-term.answer in let op = Write c.in-Ok.range c.in_ok-payload.payload in
    let h = c.in_ok-term.ensures.submits in let a = h.0.answered in let g_then = state_by_now root h.0.adds.found in
    subst (IsSettledBy answer) (sym c.standing_after-self.ensures)
    (settled c.args.request root.setup g_then server op c.in_ok-term.term answer (h.1 told) (subst (λ x. IsAnswer root.setup x (Submit server op) answer) (a.same told) (a.answered (inr tt))))
