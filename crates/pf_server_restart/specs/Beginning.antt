-- A server that begins again from its records.
use Rattle.std.specs.Prelude.{◌≡◌, ◌⊎◌, ℕ, suc, ◌+◌, ◌<◌, ◌≤◌, ◌^◌, []}
use Rattle.std.specs.FinMap
use Rattle.pf_base.specs.Sizes.{half_bytes}
use Rattle.pf_entry.specs.Records.{Durable}
use Rattle.pf_protocol.specs.Servers.{Setup}
use Rattle.pf_protocol.specs.Saving.{renewed, restarted}
use Rattle.pf_protocol.specs.Fitting.{DurableFits}
use Rattle.pf_protocol.specs.Answers.{IsSetup}
use Rattle.pf_server_store.specs.Stores.{StoreModel}
use Rattle.pf_server_memory.specs.declared.running.Running.{Running}
use Rattle.pf_server_memory.specs.Standing.{server_of, setup_of, Stands}
use Rattle.pf_server_restart.specs.declared.reading.HalfReading.{HalfReading}
use Rattle.pf_server_restart.specs.declared.seat.Seat.{Seat}

-- as the rules see it
abbrev pub setup_of_seat : Seat → Setup
setup_of_seat seat = record { names = seat.names; window = 4096; chunk = seat.sectors; format = seat.format; failed = [] }

pub record IsSeat (seat : Seat) : Type 0 where
  pub number : seat.number < 3
  pub setup : IsSetup (setup_of_seat seat)

-- a half has the volume's format or the second, and few starts
pub record IsHalf (setup : Setup) (d : Durable) : Type 0 where
  pub format : (d.format ≡ 2) ⊎ (d.format ≡ setup.format)
  pub few : FinMap.len d.starts ≤ 65
  pub within : d.used ≤ half_bytes

-- a state that no restart refuses
pub record MayBegin (setup : Setup) (d : Durable) : Type 0 where
  pub n : ℕ
  pub t : ℕ
  pub low : suc n < 2 ^ 63
  pub t_low : t < 2 ^ 63
  pub fits : DurableFits setup n t d
  pub half : IsHalf setup d

-- a state from which a server has begun: its slots are at most 4,096 above a checkpoint below 2^63
pub record ServerHasBegun (setup : Setup) (d : Durable) : Type 0 where
  pub fits : DurableFits setup (2 ^ 63 + 4096) (2 ^ 63) d
  pub half : IsHalf setup d

-- the used bytes and the generation of this state were read
pub record StateIsRead (r : HalfReading) (d : Durable) : Type 0 where
  pub used : r.used ≡ d.used
  pub generation : r.generation ≡ d.generation

-- the store still has some of these two states
pub record HasSome {S : Type 0} (model : StoreModel S) (before after : Durable) (store : S) : Type 0 where
  pub x : Durable
  pub y : Durable
  pub has : model.holds store x y
  pub first : (x ≡ before) ⊎ (x ≡ after)
  pub second : (y ≡ before) ⊎ (y ≡ after)

-- What became of the store in a restart: it was read, and then what was read was saved anew or not. A crash at any moment left one of the
-- two states, or the one that was read saved anew.
pub record WasBegun {S : Type 0} (was : S → S → Durable → Durable → Type 0) (before after : Durable) (old new : S) : Type 0 where
  pub between : S
  pub read : was old between before after
  pub saved : (new ≡ between) ⊎ ((d : Durable) × ((d ≡ before) ⊎ (d ≡ after)) × was between new d (renewed d))

module _ {S : Type 0} (model : StoreModel S) where
  -- the server begins this life over this state
  pub record IsBegun (d : Durable) (store : S) (me : Running) (seat : Seat) (life : ℕ) : Type 0 where
    pub stands : Stands model d store me
    pub is : server_of d me ≡ restarted seat.number life d
    pub setup : setup_of me ≡ setup_of_seat seat
    pub begun : ServerHasBegun (setup_of_seat seat) d

  -- a state that was there is there still, in the same half
  pub record IsThere (d : Durable) (store : S) : Type 0 where
    pub recorded : model.holds store d d
    pub used_is : model.used store ≡ d.used
    pub half : model.format store ≡ d.format
