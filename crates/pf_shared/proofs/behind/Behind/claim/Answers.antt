use Rattle.std.proofs.Common.{◌≡◌, [], ◌∷◌, ◌++◌, ap, ◌∙◌, length, refl, rules, arith, sym, subst}
use Rattle.pf_group_rounds.specs.pf_group.specs.GroupIs.{GroupIs}
use Rattle.std.proofs.Math.Logic.{∥∥₁_map}
use Rattle.pf_protocol.specs.Histories.{History}
use Rattle.pf_protocol.specs.declared.events.Event.TheVariants.{Claim}
use Rattle.pf_protocol.specs.declared.events.Happening.{Happening}
use Rattle.pf_protocol.specs.Answers.{claims_of}
use Rattle.pf_shared.specs.declared.moment.Did.TheVariants.{Acted}
use Rattle.pf_group_rounds.specs.pf_group.specs.Roots.{root_of}
use Rattle.pf_group_rounds.specs.pf_group.specs.Steps.{AnswerIsNew}
use Rattle.pf_group_rounds.specs.pf_group.proofs.Chains.{by_both, by_step}
use Rattle.pf_group_rounds.proofs.FaultCounts.{pays_trans, step_pays}
use Rattle.pf_shared.specs.Since.{happened_since, whole_history}
use Rattle.pf_shared.specs.Woven.{woven}
use Rattle.pf_shared.proofs.Since.{begun_more, since_more}
use Rattle.pf_shared.proofs.WovenLists.{did}
use Rattle.pf_shared.proofs.SeatEvents.{claims_on, counted_on, ends_within, handed_on, more_claims, tidy_on}
use Rattle.pf_shared.proofs.SeatClaims.{tidy_claim}
use Rattle.pf_shared.proofs.TurnEffects.{acts, whole_is, told_now}
use Rattle.pf_shared.proofs.behind.Behind.claim.Goals as goal

pub invariant_of-self-2 : goal.invariant_of-self-2
invariant_of-self-2 g c = let s = c.in_ok-answer.ensures.went in let b = c.make_room.new.self in let ds = b.turns.items in let hs = happened_since b.start b.group in let answer = c.in_ok-answer.answer in
    let h : Happening = record { event = Claim; answer = answer } in
    let grown : c.push.new.self.items ≡ ds ++ did c.args.seat Acted ∷ [] = search rules in
    let more : c.step.new.self.history ≡ b.group.history ++ h ∷ [] = ap (λ x. x.history) s.steps.recorded in
    let next = happened_since b.start c.step.new.self in let longer : next ≡ hs ++ h ∷ [] = since_more b.start b.group b.begun c.step.new.self h more in
    let same : whole_history b.start (woven ds hs) ≡ b.group.history = whole_is b in
    let new = subst (λ (l : History). AnswerIsNew (claims_of [] l) (length b.group.taken) answer) (sym same) s.steps.fresh in
    let claims = claims_on ds hs b.counted c.args.seat h c.push.new.self.items grown next longer in
    let few = more_claims (claims_of [] hs) b.open_ends answer b.ends in let within = ends_within b.open_ends answer in record {
      begun = begun_more b.start b.group b.begun c.step.new.self h more;
      same_root = ap root_of s.steps.recorded ∙ b.same_root;
      same_told = ap (λ (x : GroupIs). x.told) s.steps.recorded ∙ b.same_told;
      paid = λ told. ∥∥₁_map (b.paid told) (λ p. pays_trans b.start b.group c.step.new.self p (step_pays b.group c.step.new.self Claim answer s.steps (told_now b told)));
      by = ∥∥₁_map b.by (λ w. by_both b.start b.group c.step.new.self w (by_step b.group c.step.new.self Claim answer s.steps));
      none_open = b.none_open;
      counted = counted_on ds hs b.counted c.args.seat h c.push.new.self.items grown next longer;
      tidy = λ k. tidy_on ds hs b.counted c.args.seat h c.push.new.self.items grown next longer k (tidy_claim b.start.history (woven ds hs) c.args.seat (length b.group.taken) answer b.none_open new k (b.tidy k));
      handed = handed_on ds hs b.counted c.args.seat h c.push.new.self.items grown next longer b.start.taken b.group.taken c.step.new.self.taken b.handed (ap (λ x. x.taken) s.steps.recorded);
      ends = let e = ap length claims in let n = c.ends_after-self.ensures in omega arith;
      room = let n = c.ends_after-self.ensures in search rules;
    }

pub returns-clause-ok : goal.returns-clause-ok
returns-clause-ok g c = let s = c.in_ok-answer.ensures.went in let b = c.make_room.new.self in
    let grown : c.push.new.self.items ≡ b.turns.items ++ did c.args.seat Acted ∷ [] = search rules in
    acts c.args.self.now b _ c.make_room.ensures.group c.make_room.ensures.turns c.args.seat Claim c.in_ok-answer.answer grown refl s.steps
