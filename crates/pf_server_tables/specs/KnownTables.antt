-- What is known of each server.
use Rattle.std.specs.Prelude.{ℕ, suc, List, [], ◌∷◌, Option, Some, None}
use Rattle.std.specs.FinMap
use Rattle.pf_entry.specs.Maps.{Map}

abbrev pub with_place : ℕ → Option ℕ → Map ℕ → Map ℕ
with_place server None known = known
with_place server (Some upto) known = FinMap.insert known server upto

-- the servers from this number on
abbrev pub known_from : ℕ → List (Option ℕ) → Map ℕ
known_from n [] = FinMap.empty
known_from n (place ∷ places) = with_place n place (known_from (suc n) places)

abbrev pub known_of : List (Option ℕ) → Map ℕ
known_of places = known_from 0 places
