-- Where the workers of a run are, and what became of them.
use Rattle.std.specs.Prelude.{◌≡◌, List, [], ◌∷◌}
use Rattle.pf_live_crew.specs.declared.crew.Place.{Place}
use Rattle.pf_live_crew.specs.declared.crew.Place.TheVariants.{There, Here}
use Rattle.pf_live_crew.specs.declared.works.Works as Works

-- the lists are as long as each other, and so are their members, one by one
abbrev pub Pairs : {A B : Type 0} → (A → B → Type 0) → List A → List B → Type 0
Pairs P [] [] = Unit {0}
Pairs P [] (y ∷ ys) = ⊥
Pairs P (x ∷ xs) [] = ⊥
Pairs P (x ∷ xs) (y ∷ ys) = P x y × Pairs P xs ys

-- so is each member
abbrev pub Each : {A : Type 0} → (A → Type 0) → List A → Type 0
Each P [] = Unit {0}
Each P (x ∷ xs) = P x × Each P xs

module _ {T C : Type 0} (w : Works.Ghosts T C) where
  -- x has become y by turns, which may take another
  abbrev pub Became : C → T → T → Type 0
  Became c x y = w.fits c y × w.goes c x y

  -- the worker x, or what has become of it, is here, or in a thread whose result is what became of it
  abbrev pub IsPlace : C → T → Place C T → Type 0
  IsPlace c x (There h) = (h.promise.context.value ≡ c) × (h.promise.was.value ≡ x)
  IsPlace c x (Here y) = Became c x y

  abbrev pub ArePlaces : C → List T → List (Place C T) → Type 0
  ArePlaces c xs ys = Pairs (IsPlace c) xs ys
