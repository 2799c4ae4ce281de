-- The halves of a pair, and their heads.
use Rattle.std.specs.Prelude.{ℕ, List, [], ◌∷◌, slice_index}
use Rattle.pf_image.specs.declared.halves.Half.{Half}
use Rattle.pf_image.specs.declared.halves.Half.TheVariants.{Zero, One}

abbrev pub half_number : Half → ℕ
half_number Zero = 0
half_number One = 1

abbrev pub other : Half → Half
other Zero = One
other One = Zero

-- what belongs to a half
abbrev pub of_half : {X : Type 0} → Half → X → X → X
of_half Zero zero one = zero
of_half One zero one = one

-- the four bytes of the magic, the format, the group, the server and the half
abbrev pub half_head : List ℕ → ℕ → Half → List ℕ
half_head head format half =
    slice_index head 0 ∷ slice_index head 1 ∷ slice_index head 2 ∷ slice_index head 3 ∷ format ∷ slice_index head 5 ∷ slice_index head 6 ∷ half_number half ∷ []
