-- A file with a record of its calls.
use Rattle.std.specs.Prelude.{ℕ, ◌+◌, ◌≡◌, ◌&&◌, nat_le, nat_lt, Bool, List, [], ◌∷◌, ◌++◌, vec_len}
use Rattle.pf_disk.specs.Files.{end_of_write}
use Rattle.pf_disk.specs.Recorded.{State, replayed, settled}
use Rattle.pf_disk.specs.declared.tape.TapeRecord.{TapeRecord}
use Rattle.pf_disk.specs.declared.tape.Tape.{Tape}

-- the disk model's state after its calls
abbrev pub state_of_tape : Tape → State
state_of_tape tape = replayed (settled tape.base.items) tape.records.items tape.written.items

-- whether there is room for the record of one call more, for a write, and for a cut
abbrev pub has_place : Tape → Bool
has_place tape = nat_lt (vec_len tape.records) tape.places

abbrev pub fits_write : Tape → ℕ → ℕ → Bool
fits_write tape at count = nat_le (end_of_write at count) tape.room && nat_le (vec_len tape.written + count) tape.room && has_place tape

abbrev pub fits_cut : Tape → ℕ → Bool
fits_cut tape len = nat_le len tape.room && has_place tape

-- one record more, with the bytes that it wrote
pub record Adds (old new : Tape) (last : TapeRecord) (bytes : List ℕ) : Type 0 where
  pub records : new.records.items ≡ old.records.items ++ last ∷ []
  pub written : new.written.items ≡ old.written.items ++ bytes
  pub base : new.base.items ≡ old.base.items
  pub room : new.room ≡ old.room
  pub places : new.places ≡ old.places
