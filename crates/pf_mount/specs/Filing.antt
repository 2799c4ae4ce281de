-- The file data and the transactions of a mount's call.
use Rattle.std.specs.Prelude.{◌≡◌, ℕ, List, length, Option, Some, None}
use Rattle.pf_base.specs.declared.asks.Reply.{Reply}
use Rattle.pf_base.specs.declared.asks.Reply.TheVariants.{Written, Bytes}
use Rattle.pf_tree_tables.specs.Tables.{Tables}
use Rattle.pf_txn.specs.Reading.{txn_in}
use Rattle.pf_txn.specs.Spelling.{CanSpell, IsShortCall}
use Rattle.pf_file_calls.specs.Calls.{value_applied}
use Rattle.pf_file_calls.specs.declared.calls.Pending.{Pending}
use Rattle.pf_file_calls.specs.declared.calls.Planned.{Planned}
use Rattle.pf_file_calls.specs.declared.calls.Planned.TheVariants.{Proposes}
use Rattle.pf_file_calls.specs.declared.moving.DataMoving.{DataMoving}
use Rattle.pf_file_calls.specs.declared.moving.DataMoving.TheVariants.{Fetches, Stores, Gathers}

-- what an ask for file data may be answered
abbrev pub AnswersMoving : DataMoving → Reply → Type 0
AnswersMoving (Stores fill index) Written = Unit {0}
AnswersMoving (Fetches fill index) (Bytes sectors) = length sectors ≡ 8
AnswersMoving (Gathers inode offset to index bytes) (Bytes sectors) = length sectors ≡ 8
AnswersMoving moving reply = ⊥

-- the last names of the pending call are short
abbrev pub IsShortFor : Option Pending → Type 0
IsShortFor None = Unit {0}
IsShortFor (Some p) = IsShortCall p.call

-- what is to be proposed has a spelling
abbrev pub CanPropose : Planned → Type 0
CanPropose (Proposes txn) = CanSpell txn
CanPropose p = Unit {0}

-- a decided value changes the tables by the transaction that it spells, if it spells one
abbrev pub tables_by : Tables → Option (List ℕ) → Tables
tables_by tables None = tables
tables_by tables (Some value) = value_applied tables (txn_in value)
