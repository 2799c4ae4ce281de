-- What the tests of a tape tell.
use Rattle.std.proofs.Common.{ℕ, ◌+◌, ◌<◌, ◌≤◌, IsTrue, vec_len, arith}
use Rattle.std.proofs.lemmas.Bool.Decides.{nat_tests}
use Rattle.pf_disk.specs.Files.{end_of_write}
use Rattle.pf_disk.specs.declared.tape.Tape.{Tape}
use Rattle.pf_disk.specs.Tapes.{has_place, fits_write, fits_cut}

pub record Room (tape : Tape) (end count : ℕ) : Type 0 where
  pub ends : end ≤ tape.room
  pub spends : vec_len tape.written + count ≤ tape.room
  pub place : vec_len tape.records < tape.places

pub place_told : (tape : Tape) → IsTrue (has_place tape) → vec_len tape.records < tape.places
place_told tape told = grind (arith, nat_tests)

pub write_told : (tape : Tape) (at count : ℕ) → IsTrue (fits_write tape at count) → Room tape (end_of_write at count) count
write_told tape at count told = record { ends = grind (arith, nat_tests); spends = grind (arith, nat_tests); place = grind (arith, nat_tests) }

pub cut_told : (tape : Tape) (len : ℕ) → IsTrue (fits_cut tape len) → Room tape len 0
cut_told tape len told = record { ends = grind (arith, nat_tests); spends = omega (arith, tape.spent); place = grind (arith, nat_tests) }
