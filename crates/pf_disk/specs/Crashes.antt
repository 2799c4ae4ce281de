-- What a crash may leave of a file between two syncs.
use Rattle.std.specs.Prelude.{ℕ, ◌≤◌, ◌<◌, ◌≡◌, ◌⊎◌, min, max, List, length, slice_index}

-- what a crash may leave
abbrev pub Images : Type 1
Images = List ℕ → Type 0

-- A write to a range that a crash cuts short: any bytes in the range and past the old end, the same elsewhere.
pub record Torn (from to : ℕ) (old new : List ℕ) : Type 0 where
  pub no_shorter : length old ≤ length new
  pub no_longer : length new ≤ max (length old) to
  pub same : (k : ℕ) → k < length old → (k < from) ⊎ (to ≤ k) → slice_index new k ≡ slice_index old k

-- A cut of a file that ended at `end`: any end between. One that shortens changes no byte; one that lengthens is a write to the range past the end.
pub record Cut (end len : ℕ) (old new : List ℕ) : Type 0 where
  pub no_shorter : min (length old) len ≤ length new
  pub no_longer : length new ≤ max (length old) len
  pub same : (k : ℕ) → k < length old → k < length new → (k < end) ⊎ (len ≤ k) → slice_index new k ≡ slice_index old k

-- each image of the second comes from one of the first by a step
abbrev pub ImagesFollow : (List ℕ → List ℕ → Type 0) → Images → Images → Type 0
ImagesFollow step old new = (c : List ℕ) → new c → (d : List ℕ) × old d × step d c

-- no image is new
abbrev pub KeepsImages : Images → Images → Type 0
KeepsImages old new = (c : List ℕ) → new c → old c

-- a crash leaves this file and nothing else
abbrev pub Only : List ℕ → Images → Type 0
Only file images = (c : List ℕ) → images c → c ≡ file

-- Time goes on: a crash since t might have left what it might have left before, or what it may leave now.
pub record Elapses (before now : ℕ) (past since : ℕ → Images) (may_leave : Images) : Type 0 where
  pub later : before ≤ now
  pub nothing_else : (t : ℕ) (c : List ℕ) → t ≤ before → since t c → past t c ⊎ may_leave c
  pub keeps : (t : ℕ) (c : List ℕ) → t ≤ before → past t c → since t c
