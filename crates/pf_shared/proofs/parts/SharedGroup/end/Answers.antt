use Rattle.std.proofs.Common.{IsTrue, ap, ◌∙◌, subst, sym}
use Rattle.pf_group_rounds.specs.pf_group.specs.GroupIs.{GroupIs}
use Rattle.pf_shared.specs.Behinds.{list_of}
use Rattle.pf_shared.specs.Seats.{root_in, seen_by}
use Rattle.pf_shared.specs.Since.{whole_history}
use Rattle.pf_shared.proofs.TurnEffects.{told_now, whole_is}
use Rattle.pf_shared.proofs.SeatCalls.{history_is}
use Rattle.pf_shared.proofs.parts.SharedGroup.end.Goals as goal

pub returns-clause-history : goal.returns-clause-history
returns-clause-history g c = let b = c.args.turn.value in let root : GroupIs = root_in c.args.self.now in
    history_is root b.group.setup (seen_by record { seat = c.give.new.seat }) b.group.history (ap (λ r. r.setup) b.same_root ∙ ap (λ (x : GroupIs). x.setup) c.requires.root)
    (ap (whole_history root) c.give.ensures.seen ∙ (ap (λ (x : GroupIs). whole_history x (list_of b)) (sym c.requires.root) ∙ whole_is b)) (λ told. c.laws.ensures.legal (told_now b (subst (λ (x : GroupIs). IsTrue x.told) (sym c.requires.root) told))) c.laws.ensures.sound
