-- How the file of a disk is opened.
use Rattle.std.specs.Prelude.{true}
use Rattle.std.specs.Fs.{new_options, with_create, with_read, with_write}
use Rattle.std.specs.declared.fs.options.OpenOptions.{OpenOptions}

-- for reads and writes, and made where it is missing: nothing is cut off, and nothing appended
abbrev pub disk_options : OpenOptions
disk_options = with_create (with_write (with_read new_options true) true) true
