use Rattle.std.proofs.Common.{◌≡◌, [], ◌∷◌, ◌++◌, ap, ◌∙◌, subst, sym, true, length, refl, rules, arith}
use Rattle.pf_group_rounds.specs.pf_group.specs.GroupIs.{GroupIs}
use Rattle.std.proofs.Math.Logic.{∥∥₁_map}
use Rattle.pf_protocol.specs.declared.answers.Answer.TheVariants.{Done}
use Rattle.pf_protocol.specs.declared.events.Event.TheVariants.{GiveBack}
use Rattle.pf_protocol.specs.declared.events.Happening.{Happening}
use Rattle.pf_protocol.specs.Answers.{claims_of, is_claim}
use Rattle.std.specs.List.{list_any}
use Rattle.pf_shared.specs.declared.moment.Did.TheVariants.{Acted}
use Rattle.pf_group_rounds.specs.pf_group.specs.Roots.{root_of}
use Rattle.pf_group_rounds.specs.pf_group.proofs.Chains.{by_both, by_step}
use Rattle.pf_group_rounds.proofs.FaultCounts.{pays_trans, step_pays}
use Rattle.pf_shared.specs.Since.{happened_since}
use Rattle.pf_shared.specs.Woven.{woven}
use Rattle.pf_shared.proofs.Since.{begun_more, since_more}
use Rattle.pf_shared.proofs.WovenLists.{did}
use Rattle.pf_shared.proofs.SeatEvents.{claims_on, counted_on, handed_on, tidy_on}
use Rattle.pf_shared.proofs.SeatClaims.{tidy_return}
use Rattle.pf_group_rounds.specs.pf_group.proofs.Claims.{one_closed}
use Rattle.pf_shared.proofs.TurnEffects.{acts, all_claims, open_any, told_now}
use Rattle.pf_shared.proofs.behind.Behind.give_back.Goals as goal

pub give_back-requires : goal.give_back-requires
give_back-requires g c = let b = c.args.self.now in let j = c.args.job in subst (λ l. list_any (is_claim j.server j.life j.slot) l ≡ true) (sym (all_claims b)) (open_any b.turns.items (happened_since b.start b.group) b.counted c.args.seat j.server j.life j.slot j.op c.requires)

pub invariant_of-self : goal.invariant_of-self
invariant_of-self g c = let s = c.give_back.ensures.went in let b = c.args.self.now in let ds = b.turns.items in let hs = happened_since b.start b.group in let j = c.args.job in
    let h : Happening = record { event = GiveBack j.server j.life j.slot; answer = Done } in
    let fewer = one_closed j.server j.life j.slot (claims_of [] hs) (open_any ds hs b.counted c.args.seat j.server j.life j.slot j.op c.requires) in let few = b.ends in
    let grown : c.push.new.self.items ≡ ds ++ did c.args.seat Acted ∷ [] = search rules in
    let more : c.give_back.new.self.history ≡ b.group.history ++ h ∷ [] = ap (λ x. x.history) s.recorded in
    let next = happened_since b.start c.give_back.new.self in let longer : next ≡ hs ++ h ∷ [] = since_more b.start b.group b.begun c.give_back.new.self h more in
    let claims = claims_on ds hs b.counted c.args.seat h c.push.new.self.items grown next longer in record {
      begun = begun_more b.start b.group b.begun c.give_back.new.self h more;
      same_root = ap root_of s.recorded ∙ b.same_root;
      same_told = ap (λ (x : GroupIs). x.told) s.recorded ∙ b.same_told;
      paid = λ told. ∥∥₁_map (b.paid told) (λ p. pays_trans b.start b.group c.give_back.new.self p (step_pays b.group c.give_back.new.self (GiveBack j.server j.life j.slot) Done s (told_now b told)));
      by = ∥∥₁_map b.by (λ w. by_both b.start b.group c.give_back.new.self w (by_step b.group c.give_back.new.self (GiveBack j.server j.life j.slot) Done s));
      none_open = b.none_open;
      counted = counted_on ds hs b.counted c.args.seat h c.push.new.self.items grown next longer;
      tidy = λ k. tidy_on ds hs b.counted c.args.seat h c.push.new.self.items grown next longer k (tidy_return c.args.seat j.server j.life j.slot j.op Done (woven ds hs) c.requires k (b.tidy k));
      handed = handed_on ds hs b.counted c.args.seat h c.push.new.self.items grown next longer b.start.taken b.group.taken c.give_back.new.self.taken b.handed (ap (λ x. x.taken) s.recorded);
      ends = let e = ap length claims in omega arith;
      room = search rules;
    }

pub returns : goal.returns
returns g c = let b = c.args.self.now in let j = c.args.job in
    let fewer = one_closed j.server j.life j.slot (claims_of [] (happened_since b.start b.group)) (open_any b.turns.items (happened_since b.start b.group) b.counted c.args.seat j.server j.life j.slot j.op c.requires) in let few = b.ends in
    let grown : c.push.new.self.items ≡ b.turns.items ++ did c.args.seat Acted ∷ [] = search rules in
    acts b b _ (refl, refl) refl c.args.seat (GiveBack j.server j.life j.slot) Done grown refl c.give_back.ensures.went

pub overflow_sub-self : goal.overflow_sub-self
overflow_sub-self g c = let b = c.args.self.now in let j = c.args.job in let hs = happened_since b.start b.group in
    let fewer = one_closed j.server j.life j.slot (claims_of [] hs) (open_any b.turns.items hs b.counted c.args.seat j.server j.life j.slot j.op c.requires) in let few = b.ends in omega arith
