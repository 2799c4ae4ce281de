use Rattle.std.proofs.Common.{◌≡◌, false, true≢false, Some, length, nat_lt, slice_get, lt-ltb, inr, inl, refl, sym, ◌∙◌, subst}
use Rattle.std.proofs.lemmas.Option.{slice_get_within}
use Rattle.pf_shared.specs.Looks.{Looks}
use Rattle.pf_shared.specs.Seats.{IsAlone, number_of, root_in, seen_by}
use Rattle.pf_shared.specs.pf_group_network.specs.Shown.{is_acked}
use Rattle.pf_live_seats.specs.Submitters.{HostIsServed}
use Rattle.pf_live_seats.proofs.Pairs.{pair_at}
use Rattle.pf_live_seats.proofs.Stands.{serves_answered, serves_kept, serves_look}
use Rattle.pf_live_seats.proofs.SubmitterTurns.{finds_turn, look_answers, looks_turn}
use Rattle.pf_live_seats.proofs.serving.Served.look.Goals as goal

pub unreachable-requires : goal.unreachable-requires
unreachable-requires g c = let rings = c.args.line.now.rings.items in let i = c.args.host in
    let past : false ≡ nat_lt i (length rings) = subst (λ xs. false ≡ nat_lt i (length xs)) c.deref.ensures.value c.in_default.ensures.lookup.0 in
    true≢false (sym (lt-ltb i (length rings) (slice_get_within rings i c.requires.is.pair c.requires.is.there)) ∙ sym past)

pub answer-requires-clause-is : goal.answer-requires-clause-is
answer-requires-clause-is g c = let rings = c.args.line.now.rings.items in let i = c.args.host in let pair = c.in-Some.rings.now in let is = c.requires.is in
    let there : slice_get rings i ≡ Some pair = pair_at rings c.deref.result.now i pair c.deref.ensures.value c.in-Some.ensures.lookup.0 c.in-Some.ensures.lookup.1 in
    let was : slice_get rings i ≡ Some is.pair = is.there in let same : is.pair ≡ pair = cc in
    subst (λ p. HostIsServed c.args.line.now.plan p c.args.self.now) same is.is

pub returns-in_err-is_acked-clause-serves : goal.returns-in_err-is_acked-clause-serves
returns-in_err-is_acked-clause-serves g c = let a = c.args.self.now in let s = c.args.seat.now in let line = c.args.line.now in
    serves_kept line.plan (root_in line.group) (number_of s) c.args.host a a (IsAlone s) (seen_by s) (seen_by c.is_acked.new.seat) c.in_err-is_acked.ensures.err refl refl refl

pub returns-then-is_acked-clause-is : goal.returns-then-is_acked-clause-is
returns-then-is_acked-clause-is g c = record {
  pair = c.in-Some.rings.now;
  there = pair_at c.args.line.now.rings.items c.deref.result.now c.args.host c.in-Some.rings.now c.deref.ensures.value c.in-Some.ensures.lookup.0 c.in-Some.ensures.lookup.1;
  is = c.answer.ensures.is;
}

pub returns-then-is_acked-clause-answered : goal.returns-then-is_acked-clause-answered
returns-then-is_acked-clause-answered g c = let a = c.args.self.now in let s = c.args.seat.now in let root = root_in c.args.line.now.group in let e = c.answer.ensures in
    look_answers (number_of s) (IsAlone s) (seen_by s) (seen_by c.is_acked.new.seat) root c.args.moves c.args.term c.args.slot c.args.request a c.answer.new.self
    (subst (λ x. Looks root (number_of s) (IsAlone s) (seen_by s) (λ y. x ≡ is_acked y c.args.term c.args.slot) (seen_by c.is_acked.new.seat)) c.if-is_acked.true c.in_ok-is_acked.ensures.look)
    c.answer.result (λ put. (e.answered put).0) (λ full. (e.full full).0)

pub returns-then-is_acked-clause-serves : goal.returns-then-is_acked-clause-serves
returns-then-is_acked-clause-serves g c = let a = c.args.self.now in let s = c.args.seat.now in let line = c.args.line.now in let l = c.in_ok-is_acked.ensures.look in let e = c.answer.ensures in
    serves_answered line.plan (root_in line.group) (number_of s) c.args.host a c.answer.new.self (IsAlone s) (seen_by s) (seen_by c.is_acked.new.seat) c.args.term c.args.slot c.args.request l.adds (λ told. sym (l.shown told) ∙ c.if-is_acked.true) c.requires.placed e.same.0 e.same.1
    c.answer.result (λ put. (e.answered put).1) (λ full. (e.full full).1)

pub returns-clause-is : goal.returns-clause-is
returns-clause-is g c = let i = c.requires.is in let e = i.is.counted in record { pair = i.pair; there = i.there; is = record { pass = i.is.pass; answers = i.is.answers; counted = record { count = e.count; few = e.few; answered = e.answered } } }

pub returns-clause-answered : goal.returns-clause-answered
returns-clause-answered g c = let s = c.args.seat.now in let root = root_in c.args.line.now.group in (
  refl,
  inr (inl (subst (λ x. Looks root (number_of s) (IsAlone s) (seen_by s) (λ y. x ≡ is_acked y c.args.term c.args.slot) (seen_by c.is_acked.new.seat)) c.if-is_acked.false c.in_ok-is_acked.ensures.look)),
)

pub returns-clause-serves : goal.returns-clause-serves
returns-clause-serves g c = let a = c.args.self.now in let s = c.args.seat.now in let line = c.args.line.now in
    serves_look line.plan (root_in line.group) (number_of s) c.args.host a (record a { moves = c.args.moves }) (IsAlone s) (seen_by s) (seen_by c.is_acked.new.seat) c.in_ok-is_acked.ensures.look.adds refl refl refl

pub returns-in_err-is_acked-clause-looks : goal.returns-in_err-is_acked-clause-looks
returns-in_err-is_acked-clause-looks g c = let s = c.args.seat.now in finds_turn (number_of s) (IsAlone s) (seen_by s) (seen_by c.is_acked.new.seat) c.in_err-is_acked.ensures.err

pub returns-then-is_acked-clause-looks : goal.returns-then-is_acked-clause-looks
returns-then-is_acked-clause-looks g c = let s = c.args.seat.now in looks_turn (number_of s) (IsAlone s) (seen_by s) (seen_by c.is_acked.new.seat) (root_in c.args.line.now.group) (λ x. c.in_ok-is_acked.is_acked ≡ is_acked x c.args.term c.args.slot) c.in_ok-is_acked.ensures.look

pub returns-clause-looks : goal.returns-clause-looks
returns-clause-looks g c = let s = c.args.seat.now in looks_turn (number_of s) (IsAlone s) (seen_by s) (seen_by c.is_acked.new.seat) (root_in c.args.line.now.group) (λ x. c.in_ok-is_acked.is_acked ≡ is_acked x c.args.term c.args.slot) c.in_ok-is_acked.ensures.look
