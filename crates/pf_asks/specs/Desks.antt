-- What a desk was asked, and what it said.
use Rattle.std.specs.Prelude.{◌≡◌, ℕ, Bool, List, [], ◌∷◌, Option, None}
use Rattle.pf_base.specs.Span.{Span}

-- a call of a desk, with its answer
pub data DeskCall : Type 0 where
  -- the term in which a server serves, the greatest, and the number of the server
  Led : (leader : Option (ℕ × ℕ)) → DeskCall
  -- the slot of a write, unless it was refused or halted
  Submitted : (server : ℕ) (range : Span) (sectors : List (List ℕ)) (slot : Option ℕ) → DeskCall
  -- the number of a read, unless it was refused
  Fetched : (server : ℕ) (range : Span) (number : Option ℕ) → DeskCall
  -- whether a write was acknowledged
  WasAcked : (term slot : ℕ) (is : Bool) → DeskCall
  -- the answer of a read, unless there is none yet or it was taken before
  Took : (number : ℕ) (answer : Option (List (List ℕ))) → DeskCall

-- nothing is written or read by it
abbrev pub CallIsLook : DeskCall → Type 0
CallIsLook (Led leader) = Unit {0}
CallIsLook (WasAcked term slot is) = Unit {0}
CallIsLook (Took number None) = Unit {0}
CallIsLook _ = ⊥

-- calls that follow each other, with nothing of anybody else between them
abbrev pub CallsLead : {K : Type 0} → (says : K → DeskCall → K → Type 0) → (old : K) → List DeskCall → (new : K) → Type 0
CallsLead says old [] new = new ≡ old
CallsLead {K} says old (call ∷ calls) new = (mid : K) × says old call mid × CallsLead says mid calls new
