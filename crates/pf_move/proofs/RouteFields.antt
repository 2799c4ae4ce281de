-- Routes as the fields of `Routes` hold them.
use Rattle.std.proofs.Common.{◌≡◌, ◌↔◌, ℕ, ◌<◌, ◌≤◌, nat_eq, IsTrue, List, length, take, slice_get, Option, Some, None, refl, sym, ◌∙◌, ap, inl, inr, subst, get_or, set, arith}
use Rattle.std.proofs.lemmas.Option.{slice_get-get_or}
use Rattle.std.proofs.lemmas.List.{get_or-take, length-take-le}
use Rattle.std.proofs.Math.Seq.{take-set-lt}
use Rattle.pf_move.specs.declared.routes.Moving.{Moving}
use Rattle.pf_move.specs.declared.routes.Route.{Route}
use Rattle.std.proofs.lemmas.Bool.{cases_eq}
use Rattle.pf_move.specs.Routes.{IsMoving, RoutesIs, Switches, group_routed, risen, group_serving_in}

pub is_moved : (r : RoutesIs) (o : Option Moving) (m : Moving) (chunk : ℕ) → o ≡ r.moving → o ≡ Some m → IsTrue (nat_eq m.chunk chunk) ↔ IsMoving r chunk
is_moved r o m chunk same is = (
  (λ h. let eq : m.chunk ≡ chunk = grind arith in
      (m.to, sym same ∙ is ∙ ap (λ (c : ℕ). let moving : Moving = record { chunk = c; to = m.to } in Some moving) eq)),
  (λ h. grind (arith, h.1, same, is)),
)

abbrev pub none : Route
none = record { group = 0; epoch = 0 }

pub found_in : (all routes : List Route) (n chunk : ℕ) → n ≤ length all → chunk < n → take n all ≡ routes → slice_get routes chunk ≡ Some (get_or all chunk none)
found_in all routes n chunk fits low same =
    let lt : chunk < length (take n all) = rw (length-take-le n all fits) low in
    let P : List Route → Type 0 = λ rs. slice_get rs chunk ≡ Some (get_or all chunk none) in
    subst P same (slice_get-get_or (take n all) chunk none lt ∙ ap (λ (r : Route). Some r) (get_or-take n all chunk none low))

pub switches : (old : RoutesIs) (all : List Route) (n : ℕ) (m : Moving) (epoch : ℕ) → n ≤ length all → m.chunk < n → take n all ≡ old.routes → old.moving ≡ Some m → epoch ≡ risen (get_or all m.chunk none).epoch →
    Switches old (record { routes = take n (set all m.chunk (record { group = m.to; epoch = epoch })); moving = None })
switches old all n m epoch fits low same moving rose =
    let R : ℕ → Route = λ e. record { group = m.to; epoch = e } in
    record {
      moved = m;
      was = get_or all m.chunk none;
      moving = moving;
      found = found_in all old.routes n m.chunk fits low same;
      routes =
          take-set-lt n all m.chunk (R epoch) low
          ∙ ap (λ (rs : List Route). set rs m.chunk (R epoch)) same
          ∙ ap (λ (e : ℕ). set old.routes m.chunk (R e)) rose;
      none = refl;
    }

pub served_unmoved : (routes : List Route) (moving : Option Moving) (chunk : ℕ) → (IsMoving (record { routes = routes; moving = moving }) chunk → ⊥) → group_serving_in routes moving chunk ≡ group_routed routes chunk
served_unmoved routes None chunk not = refl
served_unmoved routes (Some m) chunk not =
    elim (cases_eq m.chunk chunk) [
      | inl same ↦ absurd (not (m.to, ap (λ (c : ℕ). let moving : Moving = record { chunk = c; to = m.to } in Some moving) same))
      | inr other ↦ grind (arith, other)
    ]
