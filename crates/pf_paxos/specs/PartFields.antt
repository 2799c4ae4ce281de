-- The fields of parts, which they give back.
use Rattle.std.specs.Prelude.{◌≡◌, ℕ, List, length, take}
use Rattle.std.proofs.Common.{ap, ◌∙◌}
use Rattle.pf_paxos.specs.declared.parts.Part.{Part}
use Rattle.pf_paxos.specs.declared.parts.Parts.TheInside.{Inside}
use Rattle.pf_paxos.specs.Parts.{parts_padded, ArePadded}

abbrev part_fields : List Part → ℕ → Inside
part_fields field count = record { field = field; count = count }

pub parts_given_back : (a : Inside) → ArePadded a.field a.count → record { field = parts_padded (take a.count a.field); count = length (take a.count a.field) }
    ≡ a
parts_given_back a h = ap (λ (field : List Part). part_fields field (length (take a.count a.field))) h.rest ∙ ap (part_fields a.field) h.there
