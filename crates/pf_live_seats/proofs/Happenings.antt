-- What happened up to a longer list.
use Rattle.std.proofs.Common.{◌≡◌, [], ◌∷◌, ◌++◌, append_assoc, refl, sym, ap, ◌∙◌}
use Rattle.pf_turn.specs.declared.log.Stamped.{Stamped}
use Rattle.pf_turn.specs.Lists.{Begins}
use Rattle.pf_protocol.specs.Histories.{History, replay, run}
use Rattle.pf_protocol.proofs.ForMoments.{run_parts}
use Rattle.pf_shared.specs.pf_group.specs.GroupIs.{GroupIs}
use Rattle.pf_shared.specs.declared.moment.SeatMoment.{SeatMoment}
use Rattle.pf_shared.specs.declared.moment.SeatMoment.TheVariants.{Happened, Look}
use Rattle.pf_shared.specs.Moments.{happenings, with_moment}
use Rattle.pf_shared.specs.Since.{state_by_now, whole_history}
use Rattle.pf_live_seats.specs.Deliveries.{LiveTrace}

with-append : (what : SeatMoment) (xs ys : History) → with_moment what (xs ++ ys) ≡ with_moment what xs ++ ys
with-append (Happened h) xs ys = refl
with-append (Look read) xs ys = refl

pub happenings-append : (xs ys : LiveTrace) → happenings (xs ++ ys) ≡ happenings xs ++ happenings ys
happenings-append [] ys = refl
happenings-append (x ∷ xs) ys = ap (with_moment x.what) (happenings-append xs ys) ∙ with-append x.what (happenings xs) (happenings ys)

pub begins_snoc : (seen found new : LiveTrace) (e : Stamped SeatMoment) → Begins seen found → new ≡ found ++ e ∷ [] → Begins seen new
begins_snoc seen found new e p is = (p.0 ++ e ∷ [], sym (append_assoc seen p.0 (e ∷ [])) ∙ (ap (λ l. l ++ e ∷ []) p.1 ∙ sym is))

pub whole_more : (root : GroupIs) (seen rest new : LiveTrace) → seen ++ rest ≡ new → whole_history root seen ++ happenings rest ≡ whole_history root new
whole_more root seen rest new is = append_assoc root.history (happenings seen) (happenings rest) ∙ (ap (λ l. root.history ++ l) (sym (happenings-append seen rest)) ∙ ap (whole_history root) is)

pub state_more : (root : GroupIs) (seen rest new : LiveTrace) → seen ++ rest ≡ new → run root.setup (state_by_now root seen) (happenings rest) ≡ state_by_now root new
state_more root seen rest new is = sym (run_parts root.setup _ (whole_history root seen) (happenings rest)) ∙ ap (λ l. replay root.setup l) (whole_more root seen rest new is)
