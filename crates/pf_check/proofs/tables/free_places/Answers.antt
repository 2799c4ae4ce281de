use Rattle.std.proofs.Common.{◌≡◌, ◌∙◌, ap, ℕ, List, Option, None, replicate, arith}
use Rattle.pf_check.proofs.tables.free_places.Goals as goal

places : {T : Type 0} → ℕ → List (Option T)
places n = replicate n None

all_made : {T : Type 0} → (v : List (Option T)) (n : ℕ) → v ≡ replicate n None → n ≡ 65536 → v ≡ replicate 65536 None
unfolding places
all_made v n made e = made ∙ ap places e

pub returns : goal.returns
returns g c = all_made c.loop-number.places.items c.loop-number.number c.loop-number.invariant (omega arith)
