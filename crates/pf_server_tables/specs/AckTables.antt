-- Who acknowledged which slot.
use Rattle.std.specs.Prelude.{◌≡◌, ℕ, suc, Bool, List, [], ◌∷◌, length, All, if◌then◌else◌, refl}
use Rattle.std.specs.Coded.{Coded, code_by, coded×, coded_ℕ}
use Rattle.std.specs.FinMap
use Rattle.pf_entry.specs.Maps.{Map, Numbers}
use Rattle.pf_entry.specs.Sets
use Rattle.pf_protocol.specs.Leading.{members}

-- whether the server has acknowledged the slot
abbrev pub table_has_acked : Map Numbers → (server slot : ℕ) → Bool
table_has_acked acks server slot = Sets.contains (members (FinMap.get acks slot)) server

-- slots that follow each other, each with the servers that acknowledged it
pub record AckTable : Type 0 where
  pub base : ℕ  -- the slot before the first
  pub count : ℕ
  pub acks : Map Numbers
  pub spare : ℕ  -- how many more there is room for

-- the servers from this number on whose places are true
abbrev pub servers_from : ℕ → List Bool → Numbers
servers_from n [] = Sets.empty
servers_from n (b ∷ bs) = if b then Sets.insert (servers_from (suc n) bs) n else servers_from (suc n) bs

abbrev pub acks_of : ℕ → List (List Bool) → Map Numbers
acks_of base [] = FinMap.empty
acks_of base (row ∷ rows) = FinMap.insert (acks_of (suc base) rows) (suc base) (servers_from 0 row)

-- each slot has a place for each of the three servers
abbrev pub AreTriples : List (List Bool) → Type 0
AreTriples rows = All (λ row. length row ≡ 3) rows

-- how these values are told apart
abbrev pub ack_table_code : Coded AckTable
ack_table_code =
    code_by (ℕ × (ℕ × (Map Numbers × ℕ))) (coded× coded_ℕ (coded× coded_ℕ (coded× (FinMap.code coded_ℕ Sets.code) coded_ℕ)))
    (λ t. (t.base, (t.count, (t.acks, t.spare))))
    (λ p. record { base = p.0; count = p.1.0; acks = p.1.1.0; spare = p.1.1.1 })
    (λ _. refl)
