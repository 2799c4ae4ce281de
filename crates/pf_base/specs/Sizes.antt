-- Sizes on which several crates agree.
use Rattle.std.specs.Prelude.{ℕ}

-- so many bytes of a half of a server's chunk log are used at most, with its head and the gate that ends its records
abbrev pub half_bytes : ℕ
half_bytes = 67108864

-- a file has at most so many bytes: 48 blocks of 4,096
abbrev pub most_file_bytes : ℕ
most_file_bytes = 196608

-- the first block of file data, of eight sectors, in a volume that has the journal at one place
abbrev pub first_data_block : ℕ
first_data_block = 513
