-- How a port brings an ask to a leader.
use Rattle.std.specs.Prelude.{◌≡◌, ℕ, ◌≤◌, ◌∷◌, Bool, true, false, cond, nat_le, nat_lt, List, [], Option, Some, None}
use Rattle.std.specs.Option.{option_map}
use Rattle.pf_base.specs.declared.asks.Ask.{Ask}
use Rattle.pf_base.specs.declared.asks.Ask.TheVariants.{Write, Read}
use Rattle.pf_base.specs.declared.asks.Reply.{Reply}
use Rattle.pf_base.specs.declared.asks.Reply.TheVariants.{Written, Bytes}
use Rattle.pf_asks.specs.declared.port.Sent.{Sent}
use Rattle.pf_asks.specs.declared.port.Sent.TheVariants.{Slot, Number}
use Rattle.pf_asks.specs.Desks.{DeskCall, Led, Submitted, Fetched, WasAcked, Took}

pub record PortIs : Type 0 where
  pub ask : Option Ask  -- the one that is pending
  pub sent : Option Sent  -- what tells its answer, where its last submission was taken up
  pub last : ℕ  -- the term of the last leader of its group to which it submitted, 0 where it never did

abbrev pub new_port : PortIs
new_port = record { ask = None; sent = None; last = 0 }

-- at another group: the pending ask counts as not submitted, and no leader of that group was submitted to
abbrev pub rehomed : PortIs → PortIs
rehomed port = record port { sent = None; last = 0 }

-- A pending ask goes to the leader of this term: one that was not taken up where the term is not below the port's last, and one that
-- was where it is above.
abbrev pub goes_to : Option Sent → (last term : ℕ) → Bool
goes_to None last term = nat_le last term
goes_to (Some sent) last term = nat_lt last term

-- the call that hands the ask to a server, and what tells its answer then
abbrev pub Hands : Ask → (server : ℕ) → DeskCall → Option Sent → Type 0
Hands (Write chunk span sectors) server (Submitted i range payload slot) sent =
    (i ≡ server) × (range ≡ span) × (payload ≡ sectors) × (sent ≡ option_map Slot slot)
Hands (Read chunk span) server (Fetched i range number) sent = (i ≡ server) × (range ≡ span) × (sent ≡ option_map Number number)
Hands ask server call sent = ⊥

-- handed to this server: where that was refused, it counts as not submitted
pub record AskIsHanded (old : PortIs) (ask : Ask) (term server : ℕ) (calls : List DeskCall) (new : PortIs) : Type 0 where
  pub call : DeskCall
  pub once : calls ≡ call ∷ []
  pub sent : Option Sent
  pub hands : Hands ask server call sent
  pub is : new ≡ record old { sent = sent; last = term }

pub record PortStays (old : PortIs) (calls : List DeskCall) (new : PortIs) : Type 0 where
  pub none : calls ≡ []
  pub same : new ≡ old

abbrev pub PortGoes : (old : PortIs) → Ask → Option (ℕ × ℕ) → List DeskCall → (new : PortIs) → Type 0
PortGoes old ask None calls new = PortStays old calls new
PortGoes old ask (Some (term, server)) calls new = cond (goes_to old.sent old.last term) (AskIsHanded old ask term server calls new) (PortStays old calls new)

-- an ask that is not answered: the leader is asked for, and it goes there or stays
pub record IsLed (old : PortIs) (ask : Ask) (calls : List DeskCall) (new : PortIs) : Type 0 where
  pub leader : Option (ℕ × ℕ)
  pub rest : List DeskCall
  pub asked : calls ≡ Led leader ∷ rest
  pub goes : PortGoes old ask leader rest new

abbrev pub reply_if : Bool → Option Reply
reply_if true = Some Written
reply_if false = None

-- the call that looks for the answer, and what it gives
abbrev pub LooksFor : Sent → (term : ℕ) → DeskCall → Option Reply → Type 0
LooksFor (Slot slot) term (WasAcked t s is) reply = (t ≡ term) × (s ≡ slot) × (reply ≡ reply_if is)
LooksFor (Number number) term (Took n answer) reply = (n ≡ number) × (reply ≡ option_map Bytes answer)
LooksFor sent term call reply = ⊥

-- an answered ask is pending no more
abbrev pub ask_answered : PortIs → PortIs
ask_answered port = record port { ask = None; sent = None }

abbrev pub reply_heard : Option Reply → PortIs → PortIs
reply_heard (Some reply) port = ask_answered port
reply_heard None port = port

-- the answer of an ask that was taken up is looked for by one call
pub record IsHeard (old : PortIs) (sent : Sent) (calls : List DeskCall) (reply : Option Reply) (new : PortIs) : Type 0 where
  pub look : DeskCall
  pub once : calls ≡ look ∷ []
  pub looks : LooksFor sent old.last look reply
  pub is : new ≡ reply_heard reply old

abbrev pub HearsFrom : Option Sent → (old : PortIs) → List DeskCall → Option Reply → (new : PortIs) → Type 0
HearsFrom None old calls reply new = (reply ≡ None) × PortStays old calls new
HearsFrom (Some sent) old calls reply new = IsHeard old sent calls reply new

-- A port hears its reply, if there is one, by these calls of the desk: none where nothing was taken up
abbrev pub Hears : (old : PortIs) → List DeskCall → Option Reply → (new : PortIs) → Type 0
Hears old calls reply new = HearsFrom old.sent old calls reply new

abbrev pub PortGoesOn : Option Reply → (old : PortIs) → Ask → List DeskCall → (new : PortIs) → Type 0
PortGoesOn (Some reply) old ask calls new = (calls ≡ []) × (new ≡ ask_answered old)
PortGoesOn None old ask calls new = IsLed old ask calls new

-- an ask that was taken up: its answer is looked for first
pub record IsLooked (old : PortIs) (ask : Ask) (sent : Sent) (calls : List DeskCall) (reply : Option Reply) (new : PortIs) : Type 0 where
  pub look : DeskCall
  pub rest : List DeskCall
  pub asked : calls ≡ look ∷ rest
  pub looks : LooksFor sent old.last look reply
  pub goes : PortGoesOn reply old ask rest new

abbrev pub DrivesFrom : Option Sent → (old : PortIs) → Ask → List DeskCall → Option Reply → (new : PortIs) → Type 0
DrivesFrom None old ask calls reply new = (reply ≡ None) × IsLed old ask calls new
DrivesFrom (Some sent) old ask calls reply new = IsLooked old ask sent calls reply new

-- one step of a port with a pending ask, by these calls of the desk
abbrev pub Drives : (old : PortIs) → Ask → List DeskCall → Option Reply → (new : PortIs) → Type 0
Drives old ask calls reply new = DrivesFrom old.sent old ask calls reply new

-- what tells the answer of a write is a slot, of a read a number
abbrev pub IsSentOf : Option Ask → Option Sent → Type 0
IsSentOf ask None = Unit {0}
IsSentOf (Some (Write chunk span sectors)) (Some (Slot slot)) = Unit {0}
IsSentOf (Some (Read chunk span)) (Some (Number number)) = Unit {0}
IsSentOf ask sent = ⊥

-- where a read was taken up, its number was asked for as many sectors as the range has
abbrev pub ReadIsCounted : (counts : ℕ → ℕ → Type 0) → Option Sent → Option Ask → Type 0
ReadIsCounted counts (Some (Number number)) (Some (Read chunk span)) = counts number span.count
ReadIsCounted counts sent ask = Unit {0}

-- the reply is of the ask's kind
abbrev pub IsOfKind : Ask → Reply → Type 0
IsOfKind (Write chunk span sectors) Written = Unit {0}
IsOfKind (Read chunk span) (Bytes sectors) = Unit {0}
IsOfKind ask reply = ⊥

-- this server was named as the leader of a term that is not below the last
abbrev pub IsLedBy : Option (ℕ × ℕ) → (last server : ℕ) → Type 0
IsLedBy None last server = ⊥
IsLedBy (Some (term, leader)) last server = (server ≡ leader) × (last ≤ term)

-- each submission among the calls goes to the leader that was named last before it, whose term is not below the last
abbrev pub NeverLower : (last : ℕ) (leader : Option (ℕ × ℕ)) → List DeskCall → Type 0
NeverLower last leader [] = Unit {0}
NeverLower last leader (Led now ∷ calls) = NeverLower last now calls
NeverLower last leader (Submitted server range sectors slot ∷ calls) = IsLedBy leader last server × NeverLower last leader calls
NeverLower last leader (Fetched server range number ∷ calls) = IsLedBy leader last server × NeverLower last leader calls
NeverLower last leader (_ ∷ calls) = NeverLower last leader calls
