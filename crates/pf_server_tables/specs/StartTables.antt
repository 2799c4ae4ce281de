-- Starts, with room for more.
use Rattle.std.specs.Prelude.{ℕ, refl}
use Rattle.std.specs.Coded.{Coded, code_by, coded×, coded_ℕ}
use Rattle.std.specs.FinMap
use Rattle.pf_entry.specs.Maps.{Map}

-- the starts, and how many more there is room for
pub record StartRoom : Type 0 where
  pub starts : Map ℕ
  pub spare : ℕ

-- how these values are told apart
abbrev pub room_code : Coded StartRoom
room_code = code_by (Map ℕ × ℕ) (coded× (FinMap.code coded_ℕ coded_ℕ) coded_ℕ) (λ t. (t.starts, t.spare)) (λ p. record { starts = p.0; spare = p.1 })
    (λ _. refl)
