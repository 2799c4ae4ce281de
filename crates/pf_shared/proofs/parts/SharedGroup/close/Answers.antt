use Rattle.std.proofs.Common.{◌≡◌, [], None, ap, ◌∙◌, subst, sym}
use Rattle.pf_turn.specs.Lists.{entries_of}
use Rattle.pf_protocol.specs.Answers.{claims_of}
use Rattle.pf_group_rounds.specs.pf_group.specs.GroupIs.{GroupIs}
use Rattle.pf_group_rounds.specs.pf_group.specs.Roots.{root_of}
use Rattle.pf_group_rounds.specs.Growing.{HasGrown}
use Rattle.pf_shared.specs.Behinds.{list_of}
use Rattle.pf_shared.specs.Seats.{root_in, seen_by}
use Rattle.pf_shared.specs.Hands.{is_tidy}
use Rattle.pf_shared.specs.Moments.{handed_out}
use Rattle.pf_shared.specs.Since.{whole_history}
use Rattle.pf_shared.proofs.NoOpenClaims.{all_closed}
use Rattle.pf_shared.proofs.TurnEffects.{whole_is}
use Rattle.pf_shared.proofs.GroupGrowth.{has_grown}
use Rattle.pf_shared.proofs.parts.SharedGroup.close.Goals as goal

pub returns-clause-root : goal.returns-clause-root
returns-clause-root g c = let b = c.close.result in ap root_of c.into_group.ensures ∙ (b.same_root ∙ ap root_of c.close.ensures.root)

pub returns-clause-history : goal.returns-clause-history
returns-clause-history g c = let b = c.close.result in
    ap (λ x. x.history) c.into_group.ensures ∙ (sym (whole_is b) ∙ (ap (λ (x : GroupIs). whole_history x (list_of b)) c.close.ensures.root ∙ ap (whole_history (root_in c.args.self)) c.close.ensures.seen))

pub returns-clause-taken : goal.returns-clause-taken
returns-clause-taken g c = let b = c.close.result in
    ap (λ x. x.taken) c.into_group.ensures ∙ (b.handed ∙ (ap (λ (x : GroupIs). handed_out x.taken (list_of b)) c.close.ensures.root ∙ ap (handed_out (root_in c.args.self).taken) c.close.ensures.seen))

pub returns-clause-strangers : goal.returns-clause-strangers
returns-clause-strangers g c n above = ap (entries_of n) (sym c.close.ensures.seen) ∙ c.close.ensures.strangers n above

pub returns-clause-grown : goal.returns-clause-grown
returns-clause-grown g c = let b = c.close.result in
    subst (HasGrown (root_in c.args.self)) (sym c.into_group.ensures) (subst (λ (x : GroupIs). HasGrown x b.group) c.close.ensures.root (has_grown b))

pub returns-clause-tidy : goal.returns-clause-tidy
returns-clause-tidy g c k = ap (is_tidy k None) (sym c.close.ensures.seen) ∙ c.close.result.tidy k

pub returns-clause-claims : goal.returns-clause-claims
returns-clause-claims g c none = let b = c.close.result in let root : GroupIs = root_in c.args.self in
    let bare : claims_of [] root.history ≡ [] = ap (λ (x : GroupIs). claims_of [] x.history) (sym c.close.ensures.root) ∙ b.none_open in
    ap (claims_of []) (returns-clause-history g c) ∙ all_closed root.history (seen_by c.args.seat) bare (returns-clause-tidy g c) none
