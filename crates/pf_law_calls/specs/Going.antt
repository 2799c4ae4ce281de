-- How the file data of a mount's call have gone.
use Rattle.std.specs.Prelude.{◌≡◌, ◌⊎◌, IfSome, ℕ, suc, true, List, [], take, Option, Some, None, slice_get}
use Rattle.pf_base.specs.declared.asks.Ask.{Ask}
use Rattle.pf_volume.specs.Volumes.{Extent}
use Rattle.pf_tree.specs.Held.{Held, data_of}
use Rattle.pf_txn.specs.Reading.{txn_in}
use Rattle.pf_file_calls.specs.Calls.{is_txn_of, planned, size_in}
use Rattle.pf_file_calls.specs.Moving.{data_moves}
use Rattle.pf_file_calls.specs.declared.answers.CallAnswer.{CallAnswer}
use Rattle.pf_file_calls.specs.declared.answers.CallAnswer.TheVariants.{Refused}
use Rattle.pf_file_calls.specs.declared.answers.CallFault.{CallFault}
use Rattle.pf_file_calls.specs.declared.answers.CallFault.TheVariants.{JournalFull}
use Rattle.pf_file_calls.specs.declared.calls.Pending.{Pending}
use Rattle.pf_file_calls.specs.declared.calls.Planned.{Planned}
use Rattle.pf_file_calls.specs.declared.calls.Planned.TheVariants.{Refuses, Proposes, Goes}
use Rattle.pf_file_calls.specs.declared.moving.Moved.{Moved}
use Rattle.pf_file_calls.specs.declared.moving.Moved.TheVariants.{Asks}
use Rattle.pf_file_calls.specs.declared.moving.DataMoving.{DataMoving}
use Rattle.pf_law_plans.specs.Exchanges.{Exchange}
use Rattle.pf_law_contents.specs.Stored.{GoesSo, DataGoesTo}
use Rattle.pf_mount.specs.Mounts.{MountIs, tables_held}
use Rattle.pf_mount.specs.declared.work.MountNext.{MountNext}
use Rattle.pf_mount.specs.declared.work.MountNext.TheVariants.{Done}
use Rattle.pf_mount.specs.declared.work.MountWork.{MountWork}
use Rattle.pf_mount.specs.declared.work.MountWork.TheVariants.{Moves}
use Rattle.pf_law_calls.specs.Lives.{tables_from}

-- a call is refused as its plan is; or it has changes to propose, and the journal is full
abbrev pub IsRefusedAs : Planned → CallFault → Type 0
IsRefusedAs (Refuses its) fault = its ≡ fault
IsRefusedAs (Proposes txn) fault = fault ≡ JournalFull
IsRefusedAs (Goes step) fault = ⊥

-- the ask is still to be put at the port for file data, or it is pending there
abbrev pub IsDataAsked : (last next : Option Ask) → Ask → Type 0
IsDataAsked last (Some next) ask = (last ≡ None) × (next ≡ ask)
IsDataAsked last None ask = last ≡ Some ask

-- the port for file data has no ask, pending or next, and nothing came there for the call that is pending
abbrev pub HasAskedNone : (its : List Exchange) → (last next : Option Ask) → Option Pending → Type 0
HasAskedNone its last next q = (last ≡ None) × (next ≡ None) × IfSome q (λ p. its ≡ [])

-- of mount m of a volume, where the list has these values
module _ (list : List (List ℕ)) (m : ℕ) (v : Extent) where
  abbrev pub plan_at : Held → Pending → Planned
  plan_at h p = planned m v (data_of h.first h.tables) h.tables p

  -- the call changes no tables, and its file data go at once
  pub record IsLookedUp (h : Held) (p : Pending) (size : ℕ) : Type 0 where
    pub size_is : size ≡ size_in h.tables p.call
    pub plan : plan_at h p ≡ Goes (data_moves v h.tables size p.call)

  -- the value of the list right below the mount spells the call's transaction, and the size is from before it
  pub record HasChanged (upto : ℕ) (p : Pending) (size : ℕ) : Type 0 where
    pub position : ℕ
    pub last : upto ≡ suc position
    pub value : List ℕ
    pub there : slice_get list position ≡ Some value
    pub own : is_txn_of m p.number (txn_in value) ≡ true
    pub size_is : size ≡ size_in (tables_from v (take position list)) p.call

  -- the file data of the call go so from the step with which they begin, on the tables that the mount has
  pub record HasGone (upto : ℕ) (h : Held) (p : Pending) (GoFrom : Moved → Type 0) : Type 0 where
    pub size : ℕ
    pub begun : IsLookedUp h p size ⊎ HasChanged upto p size
    pub goes : GoFrom (data_moves v h.tables size p.call)

  -- up to this step, with these exchanges
  abbrev pub HasGoneTo : (its : List Exchange) → (upto : ℕ) → Held → Pending → Moved → Type 0
  HasGoneTo its upto h p now = HasGone upto h p (λ first. DataGoesTo v h.tables first its now)

  -- to the end, and the call has this answer
  abbrev pub HasGoneSo : (its : List Exchange) → (upto : ℕ) → Held → Pending → CallAnswer → Type 0
  HasGoneSo its upto h p answer = HasGone upto h p (λ first. GoesSo v h.tables first its answer)

  -- the call is refused as it is planned, and asked for no data
  abbrev pub IsRefusedSo : (its : List Exchange) → Held → Pending → CallAnswer → Type 0
  IsRefusedSo its h p answer = (fault : CallFault) × (answer ≡ Refused fault) × IsRefusedAs (plan_at h p) fault × (its ≡ [])

  abbrev pub MovesAt : (its : List Exchange) → (last next : Option Ask) → (upto : ℕ) → Held → Option Pending → DataMoving → Type 0
  MovesAt its last next upto h None moving = ⊥
  MovesAt its last next upto h (Some p) moving = (ask : Ask) × IsDataAsked last next ask × HasGoneTo its upto h p (Asks ask moving)

  -- with this call, the last ask at the port for file data, and the next, at this work
  abbrev pub GoesAt : (its : List Exchange) → (last next : Option Ask) → (upto : ℕ) → Held → Option Pending → MountWork → Type 0
  GoesAt its last next upto h q (Moves moving) = MovesAt its last next upto h q moving
  GoesAt its last next upto h q work = HasAskedNone its last next q

  abbrev pub EndsIn : (its : List Exchange) → (upto : ℕ) → Held → Option Pending → CallAnswer → Type 0
  EndsIn its upto h None answer = ⊥
  EndsIn its upto h (Some p) answer = IsRefusedSo its h p answer ⊎ HasGoneSo its upto h p answer

  -- where the call ends, it ends so
  abbrev pub EndsBy : (its : List Exchange) → (upto : ℕ) → Held → Option Pending → Option MountNext → Type 0
  EndsBy its upto h q (Some (Done answer)) = EndsIn its upto h q answer
  EndsBy its upto h q next = Unit {0}

module _ (list : List (List ℕ)) where
  -- Since its call began this came to the mount at its port for file data, where this ask is pending. Unless file data are what it is at work on,
  -- it has asked for none. Else they have gone so far as planned, and the step that is next has been asked or is what it asks next
  abbrev pub HaveGoneSoFar : (its : List Exchange) → (last : Option Ask) → MountIs → Type 0
  HaveGoneSoFar its last x =
      GoesAt list x.files.mount x.files.volume its last x.task.ask x.upto (tables_held x.files) x.files.pending x.task.work

  -- after an input of a mount with this call
  pub record GoOnSo (its : List Exchange) (last : Option Ask) (q : Option Pending) (x : MountIs) (next : Option MountNext) : Type 0 where
    pub far : HaveGoneSoFar its last x
    pub ends : EndsBy list x.files.mount x.files.volume its x.upto (tables_held x.files) q next

-- the tables after the first values of the list, with the first block of file data
abbrev pub held_at : (list : List (List ℕ)) → Extent → (first upto : ℕ) → Held
held_at list v first upto = record { first = first; tables = tables_from v (take upto list) }

-- How the call of mount m ends at a position of the list, with this answer: it is refused, as it is planned on the tables there, and asked for no
-- data; or its file data went as planned, on the tables there, to the end
pub record HasEndedSo (list : List (List ℕ)) (m : ℕ) (v : Extent) (first upto : ℕ) (its : List Exchange) (q : Option Pending)
    (answer : CallAnswer) : Type 0 where
  pub call : Pending
  pub was : q ≡ Some call
  pub is :
      IsRefusedSo list m v its (held_at list v first upto) call answer
      ⊎ HasGoneSo list m v its upto (held_at list v first upto) call answer
