-- Packets that are left.
use Rattle.std.specs.Prelude.{◌≡◌, ◌⊎◌, ℕ, ◌<◌, ◌≤◌, ◌-◌, Bool, true, false, length, find, Option, slice_get}
use Rattle.std.specs.List.{range_with_len}
use Rattle.pf_protocol.specs.Groups.{Group}
use Rattle.pf_protocol.specs.declared.answers.Answer.{Answer}
use Rattle.pf_protocol.specs.declared.answers.Answer.TheVariants.{Refused}
use Rattle.pf_protocol.specs.declared.answers.Refusal.{Refusal}
use Rattle.pf_protocol.specs.declared.answers.Refusal.TheVariants.{LogFull, PacketsFull}
use Rattle.pf_group.specs.Readers.{is_left}

abbrev pub is_left_in : Group → ℕ → Bool
is_left_in g k = is_left (slice_get g.packets k)

-- the least packet from this one on that is left
abbrev pub least_from : (first : ℕ) → Group → Option ℕ
least_from first g = find (is_left_in g) (range_with_len first (length g.packets - first))

-- no packet from the first up to this one is left, and this one is, unless there are no more
pub record IsFirstLeft (g : Group) (first k : ℕ) : Type 0 where
  pub above : first ≤ k
  pub sent : first ≤ length g.packets → k ≤ length g.packets
  pub none : (j : ℕ) → first ≤ j → j < k → is_left_in g j ≡ false
  pub here : k < length g.packets → is_left_in g k ≡ true

-- of the packets below this one those that are left were passed over, and none was from it on
pub record IsPassedUpTo (g : Group) (passed : ℕ → Bool) (next : ℕ) : Type 0 where
  pub below : (k : ℕ) → passed k ≡ true → k < next
  pub all : (k : ℕ) → k < next → is_left_in g k ≡ true → passed k ≡ true

-- packets are left no more once they are not
abbrev pub NoneComesBack : (before now : Group) → Type 0
NoneComesBack before now = (k : ℕ) → is_left_in now k ≡ true → (is_left_in before k ≡ true) ⊎ (length before.packets ≤ k)

-- a delivery that was refused since its record or its packets did not fit
abbrev pub is_want_of_room : Refusal → Bool
is_want_of_room LogFull = true
is_want_of_room PacketsFull = true
is_want_of_room refusal = false

abbrev pub is_refused_for_room : Answer → Bool
is_refused_for_room (Refused refusal) = is_want_of_room refusal
is_refused_for_room answer = false
