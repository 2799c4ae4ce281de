use Rattle.std.proofs.Common.{◌≡◌, [], ◌∷◌, ◌++◌, None, ap, ◌∙◌, length, refl, sym, rules, arith}
use Rattle.std.proofs.Math.Logic.{∥∥₁_map}
use Rattle.pf_protocol.specs.declared.events.Happening.{Happening}
use Rattle.pf_protocol.specs.Answers.{claims_of}
use Rattle.pf_group_rounds.specs.pf_group.specs.Events.{rule_event}
use Rattle.pf_group_rounds.specs.pf_group.specs.GroupIs.{GroupIs}
use Rattle.pf_shared.specs.declared.moment.Did.TheVariants.{Acted}
use Rattle.pf_group_rounds.specs.pf_group.specs.Roots.{root_of}
use Rattle.pf_group_rounds.specs.pf_group.proofs.Chains.{by_both, by_left, by_step}
use Rattle.pf_group_rounds.proofs.FaultCounts.{left_pays, only_faults, pays_trans, step_pays}
use Rattle.pf_shared.specs.Since.{happened_since}
use Rattle.pf_shared.specs.Woven.{woven}
use Rattle.pf_shared.specs.Hands.{is_tidy}
use Rattle.pf_shared.specs.Moments.{handed_out}
use Rattle.pf_shared.proofs.Since.{begun_more, begun_same, since_more, since_same}
use Rattle.pf_shared.proofs.WovenLists.{did}
use Rattle.pf_shared.proofs.SeatEvents.{claims_on, counted_on, handed_on, step_claims, tidy_on, tidy_step}
use Rattle.pf_shared.proofs.TurnEffects.{acts, told_now}
use Rattle.pf_shared.proofs.behind.Behind.step.Goals as goal

-- there was no memory for the event, and only what the group tells of its disks may be others
pub invariant_of-self : goal.invariant_of-self
invariant_of-self g c = let b = c.make_room.new.self in let ds = b.turns.items in let after = c.step.new.self in let left = c.in_err-answer.ensures.err in
    let is = only_faults b.group c.args.event after left in
    let kept : after.history ≡ b.group.history = ap (λ (x : GroupIs). x.history) is in
    let same = since_same b.start b.group b.begun after kept in record {
      begun = begun_same b.start b.group b.begun after kept;
      same_root = ap root_of is ∙ b.same_root;
      same_told = ap (λ (x : GroupIs). x.told) is ∙ b.same_told;
      paid = λ told. ∥∥₁_map (b.paid told) (λ p. pays_trans b.start b.group after p (left_pays b.group c.args.event after (told_now b told) left));
      by = ∥∥₁_map b.by (λ w. by_both b.start b.group after w (by_left b.group c.args.event after left));
      none_open = b.none_open;
      counted = b.counted ∙ sym (ap length same);
      tidy = λ k. ap (λ l. is_tidy k None (woven ds l)) same ∙ b.tidy k;
      handed = ap (λ (x : GroupIs). x.taken) is ∙ (b.handed ∙ sym (ap (λ l. handed_out b.start.taken (woven ds l)) same));
      ends = let few = b.ends in let claims = ap (λ l. length (claims_of [] l)) same in omega arith;
      room = search rules;
    }

pub invariant_of-self-2 : goal.invariant_of-self-2
invariant_of-self-2 g c = let s = c.in_ok-answer.ensures.went in let b = c.make_room.new.self in let ds = b.turns.items in let hs = happened_since b.start b.group in
    let h : Happening = record { event = rule_event c.args.event s.found; answer = c.in_ok-answer.answer } in
    let grown : c.push.new.self.items ≡ ds ++ did c.args.seat Acted ∷ [] = search rules in
    let more : c.step.new.self.history ≡ b.group.history ++ h ∷ [] = ap (λ x. x.history) s.steps.recorded in
    let next = happened_since b.start c.step.new.self in let longer : next ≡ hs ++ h ∷ [] = since_more b.start b.group b.begun c.step.new.self h more in
    let claims = claims_on ds hs b.counted c.args.seat h c.push.new.self.items grown next longer ∙ step_claims c.args.event s.found c.in_ok-answer.answer (claims_of [] hs) c.requires in record {
      begun = begun_more b.start b.group b.begun c.step.new.self h more;
      same_root = ap root_of s.steps.recorded ∙ b.same_root;
      same_told = ap (λ (x : GroupIs). x.told) s.steps.recorded ∙ b.same_told;
      paid = λ told. ∥∥₁_map (b.paid told) (λ p. pays_trans b.start b.group c.step.new.self p (step_pays b.group c.step.new.self (rule_event c.args.event s.found) c.in_ok-answer.answer s.steps (told_now b told)));
      by = ∥∥₁_map b.by (λ w. by_both b.start b.group c.step.new.self w (by_step b.group c.step.new.self (rule_event c.args.event s.found) c.in_ok-answer.answer s.steps));
      none_open = b.none_open;
      counted = counted_on ds hs b.counted c.args.seat h c.push.new.self.items grown next longer;
      tidy = λ k. tidy_on ds hs b.counted c.args.seat h c.push.new.self.items grown next longer k (tidy_step c.args.event s.found c.in_ok-answer.answer c.args.seat (woven ds hs) c.requires k (b.tidy k));
      handed = handed_on ds hs b.counted c.args.seat h c.push.new.self.items grown next longer b.start.taken b.group.taken c.step.new.self.taken b.handed (ap (λ x. x.taken) s.steps.recorded);
      ends = let e = ap length claims in let was = b.ends in omega arith;
      room = search rules;
    }

pub returns-clause-ok : goal.returns-clause-ok
returns-clause-ok g c = let s = c.in_ok-answer.ensures.went in let b = c.make_room.new.self in
    let grown : c.push.new.self.items ≡ b.turns.items ++ did c.args.seat Acted ∷ [] = search rules in record {
      found = s.found;
      acts = acts c.args.self.now b _ c.make_room.ensures.group c.make_room.ensures.turns c.args.seat (rule_event c.args.event s.found) c.in_ok-answer.answer grown refl s.steps;
    }
