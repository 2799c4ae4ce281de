-- What comes of adding a record, and of saving an image.
use Rattle.std.specs.Prelude.{◌≡◌, ℕ, ◌+◌, ◌<◌, ◌≤◌, true, Result, Ok, Err}
use Rattle.pf_base.specs.Sizes.{half_bytes}
use Rattle.pf_entry.specs.Records.{Durable, stored}
use Rattle.pf_entry.specs.Sizes.{body_size, empty_half}
use Rattle.pf_entry.specs.declared.records.Record.{Record}
use Rattle.pf_protocol.specs.Answers.{has_stored}
use Rattle.pf_protocol.specs.declared.answers.Refusal.{Refusal}
use Rattle.pf_protocol.specs.declared.answers.Refusal.TheVariants.{LogFull}
use Rattle.pf_server_store.specs.Stores.{StoreModel}
use Rattle.pf_server_memory.specs.declared.faults.StepFault.{StepFault}
use Rattle.pf_server_memory.specs.declared.faults.StepFault.TheVariants.{NoMemory, Refused, Halted}

module _ {S : Type 0} (model : StoreModel S) (d : Durable) (r : Record) (size its : ℕ) (store store' : S) where
  -- the current half has this size and its format
  pub record IsStored : Type 0 where
    pub fits : size ≤ half_bytes
    pub recorded : model.holds store' (stored d r) (stored d r)
    pub used_is : model.used store' ≡ size
    pub format_is : model.format store' ≡ its
    pub told_same : model.told store' ≡ model.told store
    pub crash : model.was store store' d (stored d r)

  pub record IsFull (refusal : Refusal) : Type 0 where
    pub is : refusal ≡ LogFull
    pub beyond : half_bytes < size
    pub same : store' ≡ store

  -- a disk failed: a restart finds the state without the record, or with it
  pub record IsInDoubt : Type 0 where
    pub fits : size ≤ half_bytes
    pub moved : has_stored d (stored d r) ≡ true
    pub either : model.holds store' d (stored d r)
    pub told_same : model.told store' ≡ model.told store
    pub crash : model.was store store' d (stored d r)
    pub cause : model.rose store store'

  -- the record is stored, or there is a reason why it is not
  abbrev pub Keeps : {X : Type 0} → Result X StepFault → Type 0
  Keeps (Ok x) = IsStored
  Keeps (Err NoMemory) = store' ≡ store
  Keeps (Err (Refused refusal)) = IsFull refusal
  Keeps (Err Halted) = IsInDoubt

module _ {S : Type 0} (model : StoreModel S) (d : Durable) (r : Record) (store store' : S) where
  -- behind the other records of the current half
  abbrev pub Stores : {X : Type 0} → Result X StepFault → Type 0
  Stores result = Keeps model d r (d.used + body_size r) (model.format store) store store' result

  -- as the image of the other half
  abbrev pub Saves : {X : Type 0} → Result X StepFault → Type 0
  Saves result = Keeps model d r (empty_half + body_size r) 2 store store' result
