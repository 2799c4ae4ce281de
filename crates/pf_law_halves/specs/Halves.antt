-- A history of a position as two histories side by side, one of each half. So each half may be known by deeds of its own, as where the two
-- lie in two chunks.
use Rattle.std.specs.Prelude.{◌≡◌, ◌≢◌, ℕ, ◌/◌, ◌<◌, ◌==◌, ◌⊎◌, if◌then◌else◌, List, [], ◌∷◌, Option, Some, None, slice_get}
use Rattle.pf_paxos.specs.Registers.{Ask, AsksWrite, AsksRead, AskIsAnswered, Reply, Turn}
use Rattle.pf_paxos.specs.Runs.{idle_turn}

-- an ask is of the half that it reads, or that has the client's block. Nobody, to whom idle turns are, asks nothing
abbrev pub IsAskOfHalf : (half client : ℕ) → Option Ask → Type 0
IsAskOfHalf half client None = Unit {0}
IsAskOfHalf half client (Some (AsksWrite block)) = (client / 8 ≡ half) × (client ≢ 16)
IsAskOfHalf half client (Some (AsksRead other)) = (other ≡ half) × (client ≢ 16)

abbrev pub AreOfHalf : (half : ℕ) → List Turn → Type 0
AreOfHalf half [] = Unit {0}
AreOfHalf half (turn ∷ turns) = IsAskOfHalf half turn.client turn.ask × AreOfHalf half turns

-- at each moment it is a turn of one half, and nobody's in the other
abbrev pub IsEither : (turn low high : Turn) → Type 0
IsEither turn low high = ((low ≡ turn) × (high ≡ idle_turn)) ⊎ ((low ≡ idle_turn) × (high ≡ turn))

abbrev pub AreBeside : (whole low high : List Turn) → Type 0
AreBeside [] [] [] = Unit {0}
AreBeside (turn ∷ turns) (low ∷ lows) (high ∷ highs) = IsEither turn low high × AreBeside turns lows highs
AreBeside whole low high = ⊥

abbrev pub turns_of_half : (low high : List Turn) → (half : ℕ) → List Turn
turns_of_half low high half = if half == 0 then low else high

-- An answer is of the half of its ask. (A reply does not say of which half it is)
abbrev pub AreAnsweredThere : (whole low high : List Turn) → Type 0
AreAnsweredThere whole low high =
    (half client asked answered : ℕ) (ask : Ask) (reply : Reply)
    → half < 2
    → IsAskOfHalf half client (Some ask)
    → (a : AskIsAnswered whole client asked answered ask reply)
    → slice_get (turns_of_half low high half) answered ≡ Some a.next

-- the history of a position is that of its two halves
pub record IsOfHalves (whole low high : List Turn) : Type 0 where
  pub of_low : AreOfHalf 0 low
  pub of_high : AreOfHalf 1 high
  pub beside : AreBeside whole low high
  pub answered : AreAnsweredThere whole low high
