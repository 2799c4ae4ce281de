-- Answers of reads, and room for more.
use Rattle.std.specs.Prelude.{ℕ, ◌+◌, ◌≤◌, List, length, All, refl}
use Rattle.std.specs.Coded.{Coded, code_by, coded×, coded_ℕ, coded_list}
use Rattle.pf_entry.specs.Ops.{Sector}

pub record Replying : Type 0 where
  pub rooms : ℕ
  pub answers : List (ℕ × List Sector)

-- how these values are told apart
abbrev pub replying_code : Coded Replying
replying_code =
    code_by (ℕ × List (ℕ × List Sector)) (coded× coded_ℕ (coded_list (coded× coded_ℕ (coded_list (coded_list coded_ℕ)))))
    (λ r. (r.rooms, r.answers))
    (λ p. record { rooms = p.0; answers = p.1 })
    (λ _. refl)

-- each room is for eight sectors, and there is a place for the answer of each
pub record HasRooms (rooms : List ℕ) (len capacity : ℕ) : Type 0 where
  pub each : All (λ room. 8 ≤ room) rooms
  pub places : len + length rooms ≤ capacity
