-- Each call that has a number can be spelled, where each that begins can.
use Rattle.std.proofs.Common.{◌≡◌, ℕ, zero, suc, ◌==◌, Bool, true, false, IfSome, if◌then◌else◌, List, [], ◌∷◌, Option, Some, None, slice_get, subst}
use Rattle.std.specs.List.{cons_option}
use Rattle.std.proofs.lemmas.Option.{none-some}
use Rattle.pf_tree.specs.Calls.{FileCall}
use Rattle.pf_law_calls.specs.Lives.{AreShort, Asks, Begins, Hears, Input, IsShortInput, MountTold}
use Rattle.pf_law_plans.specs.Spelled.{CanBeSpelled}
use Rattle.pf_law_calls.specs.Spelled.{CanAllBeSpelled, CanInputBeSpelled}
use Rattle.pf_law_calls.specs.Trees.{call_begun, call_in_input, call_named, calls_of}

spelled_if : (test : Bool) (input : Input) (call : FileCall) → CanInputBeSpelled input → (if test then call_in_input input else None) ≡ Some call → CanBeSpelled call
spelled_if true input call can is = subst (λ (begun : Option FileCall). IfSome begun CanBeSpelled) is can
spelled_if false input call can is = absurd (none-some call is)

abbrev AreSpelled : List FileCall → Type 0
AreSpelled calls = (k : ℕ) (call : FileCall) → slice_get calls k ≡ Some call → CanBeSpelled call

first_spelled : (calls : List FileCall) → AreSpelled calls → (begun : Option FileCall) → ((call : FileCall) → begun ≡ Some call → CanBeSpelled call) → AreSpelled (cons_option begun calls)
first_spelled calls rest None first k call is = rest k call is
first_spelled calls rest (Some begun) first zero call is = first call is
first_spelled calls rest (Some begun) first (suc k) call is = rest k call is

all_spelled : (told : List MountTold) (m : ℕ) → CanAllBeSpelled told → AreSpelled (calls_of told m)
all_spelled [] m can = λ k call is. absurd (none-some call is)
all_spelled (t ∷ told) m can = first_spelled (calls_of told m) (all_spelled told m can.1) (call_begun m t) (λ call is. spelled_if (m == t.mount) t.input call can.0 is)

pub named_spelled : (told : List MountTold) (m number : ℕ) (call : FileCall) → CanAllBeSpelled told → call_named told m number ≡ Some call → CanBeSpelled call
named_spelled told m zero call can is = absurd (none-some call is)
named_spelled told m (suc before) call can is = all_spelled told m can before call is

-- so their names are short

input_short : (input : Input) → CanInputBeSpelled input → IsShortInput input
input_short (Begins call) can = can.short
input_short (Asks port) can = tt
input_short (Hears port reply) can = tt

pub are_short : (told : List MountTold) → CanAllBeSpelled told → AreShort told
are_short [] can = tt
are_short (t ∷ told) can = (input_short t.input can.0, are_short told can.1)
