use Rattle.std.proofs.Common.{◌≡◌, ◌≤◌, ◌∙◌, ◌++◌, [], None, ap, append-nil, length, sym, subst, arith, rules}
use Rattle.pf_group_rounds.specs.pf_group.specs.Going.{Stays, WentBy}
use Rattle.pf_group_rounds.specs.pf_group.specs.GroupIs.{GroupIs}
use Rattle.pf_group_rounds.specs.pf_group.specs.Roots.{root_of}
use Rattle.pf_group_rounds.specs.Growing.{Pays}
use Rattle.pf_group_rounds.proofs.FaultCounts.{pays_refl}
use Rattle.pf_protocol.specs.Answers.{claims_of}
use Rattle.pf_shared.specs.Since.{happened_since}
use Rattle.pf_shared.specs.Woven.{steps_in, woven}
use Rattle.pf_shared.specs.Hands.{is_tidy}
use Rattle.pf_shared.specs.Moments.{handed_out}
use Rattle.pf_shared.proofs.Since.{nothing_since}
use Rattle.pf_shared.proofs.behind.Behind.new.Goals as goal

pub invariant_of-result : goal.invariant_of-result
invariant_of-result g c = let b : GroupIs = c.args.group in let e = c.of-start.ensures in let none_since : happened_since b b ≡ [] = nothing_since b.history in let bare = c.new.ensures.items in record {
  begun = subst (λ (s : GroupIs). s.history ++ happened_since s b ≡ b.history) (sym e) (ap (λ l. b.history ++ l) none_since ∙ append-nil b.history);
  same_root = ap root_of (sym e);
  same_told = ap (λ (x : GroupIs). x.told) (sym e);
  paid = λ told. subst (λ (s : GroupIs). ∥ Pays s b ∥₁) (sym e) ∣ pays_refl b ∣₁;
  by = subst (λ (s : GroupIs). ∥ WentBy s b ∥₁) (sym e) ∣ Stays ∣₁;
  none_open = subst (λ (s : GroupIs). claims_of [] s.history ≡ []) (sym e) c.requires.none;
  counted = subst (λ (s : GroupIs). steps_in c.new.result.items ≡ length (happened_since s b)) (sym e) (ap steps_in bare ∙ sym (ap length none_since));
  tidy = λ k. ap (λ l. is_tidy k None (woven l (happened_since c.of-start.result b))) bare;
  handed = ap (λ (s : GroupIs). s.taken) (sym e) ∙ sym (ap (λ l. handed_out c.of-start.result.taken (woven l (happened_since c.of-start.result b))) bare);
  ends = subst (λ (s : GroupIs). length (claims_of [] (happened_since s b)) ≤ 0) (sym e) (subst (λ l. length (claims_of [] l) ≤ 0) (sym none_since) (omega arith));
  room = search rules;
}
