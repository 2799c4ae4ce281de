-- The two rings of a host, among those of all.
use Rattle.std.proofs.Common.{◌≡◌, ℕ, ◌<◌, true, List, length, Some, get_or, nat_lt, slice_get, ltb-true, refl, sym, ap, ◌∙◌, subst}
use Rattle.std.proofs.lemmas.Option.{slice_get_read}
use Rattle.pf_live_seats.specs.declared.line.HostRings.{HostRings}

-- they were looked up
pub pair_at : (rings read : List HostRings) (host : ℕ) (pair : HostRings) → read ≡ rings → true ≡ nat_lt host (length read) → pair ≡ get_or read host pair → slice_get rings host ≡ Some pair
pair_at rings read host pair is low found =
    slice_get_read rings (length rings) host pair refl (subst (λ xs. host < length xs) is (ltb-true host (length read) (sym low))) (found ∙ ap (λ xs. get_or xs host pair) is)
