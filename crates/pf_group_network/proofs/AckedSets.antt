-- Which slots were acknowledged: the set of them follows the list.
use Rattle.std.proofs.Common.{◌≡◌, refl, ℕ, ◌==◌, ◌&&◌, ◌||◌, cond, if◌then◌else◌, Bool, true, false, List, [], ◌∷◌, ◌++◌, map, ap, sym, ◌∙◌}
use Rattle.std.specs.Prelude.{IsOk, OnOk, Result, Ok, Err, is_ok}
use Rattle.std.specs.List.{list_any}
use Rattle.std.proofs.lemmas.Bool.{false≢true}
use Rattle.std.proofs.lemmas.List.Folds.{list_any-append}
use Rattle.pf_protocol.specs.Groups.{Acked as AckedIs}
use Rattle.pf_group_network.specs.Showing.{acked_entry}
use Rattle.pf_group_network.specs.declared.kept.Acked.{Acked}
use Rattle.pf_group_network.specs.AckedSlots.{is_acked_at}

or_false : (b : Bool) → (b || false) ≡ b
or_false true = refl
or_false false = refl

either : (a b : Bool) → cond a true b ≡ (b || a)
either true true = refl
either true false = refl
either false true = refl
either false false = refl

-- the last one counts too
pub last_too : (term slot : ℕ) (list : List Acked) (a : Acked) (known : Bool) → known ≡ list_any (is_acked_at term slot) list
    → cond (a.term == term && a.slot == slot) true known ≡ list_any (is_acked_at term slot) (list ++ a ∷ [])
last_too term slot list a known is =
    either (is_acked_at term slot a) known
    ∙ (ap (λ b. b || is_acked_at term slot a) is
    ∙ (ap (λ b. list_any (is_acked_at term slot) list || b) (sym (or_false (is_acked_at term slot a)))
    ∙ sym (list_any-append (is_acked_at term slot) list (a ∷ []))))

pub of_ok : {T E P : Type 0} (r : Result T E) → IsOk r → OnOk r P → P
of_ok (Ok x) is p = p
of_ok (Err e) is p = absurd (false≢true is)

pub pushed : {X E Y : Type 0} (r : Result X E) (old more now : List Y) → IsOk r → now ≡ (if is_ok r then old ++ more else old) → now ≡ old ++ more
pushed (Ok x) old more now ok is = is
pushed (Err e) old more now ok is = absurd (false≢true ok)

-- it is found among those that a network keeps where the group has it
pub found_alike : (term slot : ℕ) (xs : List AckedIs) → list_any (is_acked_at term slot) (map acked_entry xs) ≡ list_any (λ a. a.term == term && a.slot == slot) xs
found_alike term slot [] = refl
found_alike term slot (x ∷ xs) = ap (λ b. (x.term == term && x.slot == slot) || b) (found_alike term slot xs)
