-- The fields of a value, which it gives back.
use Rattle.std.specs.Prelude.{◌≡◌, ℕ, List, length, take}
use Rattle.std.proofs.Common.{ap, ◌∙◌}
use Rattle.pf_base.specs.Values.{value_padded, IsPadded}
use Rattle.pf_base.specs.declared.value.Value.TheInside.{Inside}

abbrev value_fields : List ℕ → ℕ → Inside
value_fields bytes len = record { bytes = bytes; len = len }

pub value_given_back : (a : Inside) → IsPadded a.bytes a.len → record { bytes = value_padded (take a.len a.bytes); len = length (take a.len a.bytes) } ≡ a
value_given_back a h = ap (λ (bytes : List ℕ). value_fields bytes (length (take a.len a.bytes))) h.zeros ∙ ap (value_fields a.bytes) h.there
