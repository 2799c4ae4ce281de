use Rattle.std.proofs.Common.{◌≡◌, [], ◌∷◌, ◌++◌, ap, ◌∙◌, slice_get, length, refl, rules, arith}
use Rattle.pf_group_rounds.specs.pf_group.specs.GroupIs.{GroupIs}
use Rattle.std.proofs.Math.Logic.{∥∥₁_map}
use Rattle.pf_protocol.specs.declared.events.Event.TheVariants.{Finish}
use Rattle.pf_protocol.specs.declared.events.Happening.{Happening}
use Rattle.pf_protocol.specs.Answers.{claims_of}
use Rattle.pf_shared.specs.declared.moment.Did.TheVariants.{Acted}
use Rattle.pf_group_rounds.specs.pf_group.specs.Roots.{root_of}
use Rattle.pf_group_rounds.specs.pf_group.proofs.Chains.{by_both, by_step}
use Rattle.pf_group_rounds.proofs.FaultCounts.{pays_trans, step_pays}
use Rattle.pf_shared.specs.Since.{happened_since}
use Rattle.pf_shared.specs.Woven.{woven}
use Rattle.pf_shared.proofs.Since.{begun_more, since_more}
use Rattle.pf_shared.proofs.WovenLists.{did}
use Rattle.pf_shared.proofs.SeatEvents.{claims_on, counted_on, handed_on, tidy_on}
use Rattle.pf_shared.proofs.SeatClaims.{open_claim, tidy_finish}
use Rattle.pf_group_rounds.specs.pf_group.proofs.Claims.{one_closed}
use Rattle.pf_shared.proofs.TurnEffects.{acts, all_claims, open_any, told_now}
use Rattle.pf_shared.proofs.behind.Behind.finish.Goals as goal

pub step-requires : goal.step-requires
step-requires g c = let b = c.args.self.now in let f = c.args.filled in let r = c.requires in
    let there = open_claim b.turns.items (happened_since b.start b.group) b.counted c.args.seat f.server f.life f.slot r.op r.in_hand in record { op = r.op; k = there.0; claim = ap (λ l. slice_get l there.0) (all_claims b) ∙ there.1; brought = r.brought }

pub invariant_of-self : goal.invariant_of-self
invariant_of-self g c = let s = c.in-Ok.ensures.went in let b = c.args.self.now in let ds = b.turns.items in let hs = happened_since b.start b.group in let f = c.args.filled in let r = c.requires in
    let h : Happening = record { event = Finish f.server f.life f.slot; answer = c.in-Ok.answer } in
    let fewer = one_closed f.server f.life f.slot (claims_of [] hs) (open_any ds hs b.counted c.args.seat f.server f.life f.slot r.op r.in_hand) in let few = b.ends in
    let grown : c.push.new.self.items ≡ ds ++ did c.args.seat Acted ∷ [] = search rules in
    let more : c.step.new.self.history ≡ b.group.history ++ h ∷ [] = ap (λ x. x.history) s.steps.recorded in
    let next = happened_since b.start c.step.new.self in let longer : next ≡ hs ++ h ∷ [] = since_more b.start b.group b.begun c.step.new.self h more in
    let claims = claims_on ds hs b.counted c.args.seat h c.push.new.self.items grown next longer in record {
      begun = begun_more b.start b.group b.begun c.step.new.self h more;
      same_root = ap root_of s.steps.recorded ∙ b.same_root;
      same_told = ap (λ (x : GroupIs). x.told) s.steps.recorded ∙ b.same_told;
      paid = λ told. ∥∥₁_map (b.paid told) (λ p. pays_trans b.start b.group c.step.new.self p (step_pays b.group c.step.new.self (Finish f.server f.life f.slot) c.in-Ok.answer s.steps (told_now b told)));
      by = ∥∥₁_map b.by (λ w. by_both b.start b.group c.step.new.self w (by_step b.group c.step.new.self (Finish f.server f.life f.slot) c.in-Ok.answer s.steps));
      none_open = b.none_open;
      counted = counted_on ds hs b.counted c.args.seat h c.push.new.self.items grown next longer;
      tidy = λ k. tidy_on ds hs b.counted c.args.seat h c.push.new.self.items grown next longer k (tidy_finish c.args.seat f.server f.life f.slot r.op c.in-Ok.answer (woven ds hs) r.in_hand k (b.tidy k));
      handed = handed_on ds hs b.counted c.args.seat h c.push.new.self.items grown next longer b.start.taken b.group.taken c.step.new.self.taken b.handed (ap (λ x. x.taken) s.steps.recorded);
      ends = let e = ap length claims in omega arith;
      room = search rules;
    }

pub returns : goal.returns
returns g c = let s = c.in-Ok.ensures.went in let b = c.args.self.now in let f = c.args.filled in let r = c.requires in
    let fewer = one_closed f.server f.life f.slot (claims_of [] (happened_since b.start b.group)) (open_any b.turns.items (happened_since b.start b.group) b.counted c.args.seat f.server f.life f.slot r.op r.in_hand) in let few = b.ends in
    let grown : c.push.new.self.items ≡ b.turns.items ++ did c.args.seat Acted ∷ [] = search rules in
    acts b b _ (refl, refl) refl c.args.seat (Finish f.server f.life f.slot) c.in-Ok.answer grown refl s.steps

pub overflow_sub-self : goal.overflow_sub-self
overflow_sub-self g c = let b = c.args.self.now in let f = c.args.filled in let r = c.requires in let hs = happened_since b.start b.group in
    let fewer = one_closed f.server f.life f.slot (claims_of [] hs) (open_any b.turns.items hs b.counted c.args.seat f.server f.life f.slot r.op r.in_hand) in let few = b.ends in omega arith
