-- What is tested of the state that was read.
use Rattle.std.specs.Prelude.{◌≡◌, ℕ, ◌<◌, ◌≤◌, ◌^◌, ◌⊎◌, Bool, true, false, List, [], Option, Some, None, length, map}
use Rattle.std.specs.FinMap
use Rattle.pf_base.specs.Sizes.{half_bytes}
use Rattle.pf_entry.specs.Lists.{Every}
use Rattle.pf_entry.specs.Maps.{Map, Numbers}
use Rattle.pf_entry.specs.Sets
use Rattle.pf_entry.specs.Records.{Durable}
use Rattle.pf_entry.specs.Tables.{ascends}
use Rattle.pf_entry.specs.declared.entries.Entry.{Entry}
use Rattle.pf_entry.specs.declared.entries.Named.{Named}
use Rattle.pf_protocol.specs.Servers.{Setup}
use Rattle.pf_protocol.specs.Fitting.{NameFits, OpFits, SectorsFit}
use Rattle.pf_server_store.specs.Stores.{StoreModel}
use Rattle.pf_server_restart.specs.Beginning.{ServerHasBegun, MayBegin}
use Rattle.pf_server_restart.specs.Recovering.{SlotIsPlaced}

-- a term and a first slot are at least 1 and below 2^63
pub record TermIsLow (term first : ℕ) : Type 0 where
  pub term_is : 1 ≤ term
  pub term_low : term < 2 ^ 63
  pub first_is : 1 ≤ first
  pub first_low : first < 2 ^ 63

-- the names of an entry of this slot
pub record LookPasses (setup : Setup) (slot : ℕ) (look : List Named) : Type 0 where
  pub few : length look ≤ setup.names
  pub named : Every (NameFits setup slot) look
  pub ascending : ascends (map (λ m. m.slot) look) ≡ true

-- an entry whose slot has a place passes
pub record EntryPasses (setup : Setup) (e : Entry) : Type 0 where
  pub low : TermIsLow e.term e.first
  pub merged : e.slot < e.first → e.look ≡ []
  pub look : LookPasses setup e.slot e.look
  pub op : OpFits setup e.op

-- what is held at a slot, if anything, is of this slot and passes
abbrev pub IsSoundAt : Setup → (slot : ℕ) → Option Entry → Type 0
IsSoundAt setup slot None = Unit {0}
IsSoundAt setup slot (Some e) = (e.slot ≡ slot) × EntryPasses setup e

-- it stands under its own slot, which has a place
pub record EntryIsInPlace (setup : Setup) (base slot : ℕ) (e : Entry) : Type 0 where
  pub in_slot : e.slot ≡ slot
  pub placed : SlotIsPlaced base slot
  pub sound : EntryPasses setup e

abbrev pub AreInPlace : Setup → (base : ℕ) → Map Entry → Type 0
AreInPlace setup base log = (slot : ℕ) (e : Entry) → FinMap.get log slot ≡ Some e → EntryIsInPlace setup base slot e

pub record AreStarts (starts : Map ℕ) : Type 0 where
  pub few : FinMap.len starts ≤ 65
  pub low : (term first : ℕ) → FinMap.get starts term ≡ Some first → TermIsLow term first

-- numbers that a server may begin with
pub record AreNumbers (setup : Setup) (d : Durable) : Type 0 where
  pub format : (d.format ≡ 2) ⊎ (d.format ≡ setup.format)
  pub within : d.used ≤ half_bytes
  pub generation : d.generation < 2 ^ 63
  pub term : 1 ≤ d.term
  pub term_low : d.term < 2 ^ 63
  pub base : d.base < 2 ^ 63

abbrev pub AreApplied : (base : ℕ) → Numbers → Type 0
AreApplied base slots = (slot : ℕ) → Sets.contains slots slot ≡ true → SlotIsPlaced base slot

-- the rest, but for the starts
pub record IsContent (setup : Setup) (d : Durable) : Type 0 where
  pub log : AreInPlace setup d.base d.log
  pub saved : AreApplied d.base d.saved
  pub sectors : SectorsFit setup d.sectors

-- a state that passes
pub record StatePasses (setup : Setup) (d : Durable) : Type 0 where
  pub numbers : AreNumbers setup d
  pub content : IsContent setup d
  pub starts : AreStarts d.starts

-- the store has one of the two states, which does not pass
pub record HasUnfit {S : Type 0} (model : StoreModel S) (setup : Setup) (before after : Durable) (store : S) : Type 0 where
  pub d : Durable
  pub either : (d ≡ before) ⊎ (d ≡ after)
  pub there : model.holds store d d
  pub unfit : StatePasses setup d → ⊥

-- a server may begin from the state, and no state fails from which it may, nor one that passes
pub record JudgesState (setup : Setup) (d : Durable) (passes : Bool) : Type 0 where
  pub fits : passes ≡ true → ServerHasBegun setup d × (d.generation < 2 ^ 63)
  pub ours : MayBegin setup d → passes ≡ true
  pub unfit : passes ≡ false → StatePasses setup d → ⊥
