-- What a client asked and was answered, in any history.
use Rattle.std.proofs.Common.{◌≡◌, ℕ, suc, ◌<◌, ◌≤◌, ◌≢◌, inl, inr, List, Some, slice_get, arith, subst}
use Rattle.std.proofs.lemmas.Bool.{cases_eq}
use Rattle.pf_paxos.specs.declared.block.Block.{Block}
use Rattle.pf_paxos.specs.Registers.{Ask, Reply, Turn, AskIsAnswered, HasWritten, ClientHasRead}

-- the client asked this in its last turn before the moment
pub record HasAsked (history : List Turn) (m t : ℕ) (ask : Ask) : Type 0 where
  pub last : ℕ
  pub turn : Turn
  pub at : slice_get history last ≡ Some turn
  pub its : turn.client ≡ m
  pub asks : turn.ask ≡ Some ask
  pub earlier : last < t
  pub no_other : (k : ℕ) (other : Turn) → last < k → k < t → slice_get history k ≡ Some other → other.client ≢ m

-- phase 1's write of the ballot was answered
pub record HasClaimed (history : List Turn) (m ballot : ℕ) : Type 0 where
  pub asked : ℕ
  pub answered : ℕ
  pub block : Block
  pub wrote : HasWritten history m asked answered block
  pub is : block.mbal ≡ ballot

-- phase 1 read a half, after its write, and saw no greater bal than this
pub record HasGathered (history : List Turn) (m half from best : ℕ) : Type 0 where
  pub asked : ℕ
  pub answered : ℕ
  pub blocks : List Block
  pub read : ClientHasRead history m half asked answered blocks
  pub after : from ≤ asked
  pub not_above : (k : ℕ) (b : Block) → slice_get blocks k ≡ Some b → b.bal ≤ best

module _ (history : List Turn) (m t : ℕ) where
  -- at this moment the client asks this
  unfoldable pub asked_now : (x : Turn) (ask : Ask) → slice_get history t ≡ Some x → x.client ≡ m → x.ask ≡ Some ask → HasAsked history m (suc t) ask
  asked_now x ask at its asks = record { last = t; turn = x; at = at; its = its; asks = asks; earlier = omega arith; no_other = λ k other after before _. absurd (omega (arith, after, before)) }

  -- at this moment it is answered what it asked last
  pub answered_now : (x : Turn) (ask : Ask) (reply : Reply) → (a : HasAsked history m t ask) → slice_get history t ≡ Some x → x.client ≡ m → x.reply ≡ Some reply → AskIsAnswered history m a.last t ask reply
  answered_now x ask reply a at its gives = record {
    turn = a.turn;
    at = a.at;
    its = a.its;
    asks = a.asks;
    next = x;
    at_next = at;
    its_next = its;
    gives = gives;
    later = a.earlier;
    no_other = a.no_other;
  }

  -- at this moment it is quiet
  unfoldable pub still_asked : ((x : Turn) → slice_get history t ≡ Some x → x.client ≢ m) → (ask : Ask) → HasAsked history m t ask → HasAsked history m (suc t) ask
  still_asked quiet ask a = record {
    last = a.last;
    turn = a.turn;
    at = a.at;
    its = a.its;
    asks = a.asks;
    earlier = omega (arith, a.earlier);
    no_other = λ k other after before at. elim (cases_eq k t) [
      | inl now ↦ quiet other (subst (λ j. slice_get history j ≡ Some other) now at)
      | inr apart ↦ a.no_other k other after (omega (arith, before, apart)) at
    ];
  }

-- a greater bound
pub gathered_below : (history : List Turn) (m half from best more : ℕ) → best ≤ more → HasGathered history m half from best → HasGathered history m half from more
gathered_below history m half from best more le g = record { asked = g.asked; answered = g.answered; blocks = g.blocks; read = g.read; after = g.after; not_above = λ k b at. omega (arith, g.not_above k b at, le) }

-- a write with this mbal was answered before the moment
pub record HasWroteBefore (history : List Turn) (m t mbal : ℕ) : Type 0 where
  pub asked : ℕ
  pub answered : ℕ
  pub block : Block
  pub wrote : HasWritten history m asked answered block
  pub is : block.mbal ≡ mbal
  pub before : answered < t
