-- The names of calls.
use Rattle.pf_base.specs.declared.calls.Call.{Call}
use Rattle.pf_base.specs.declared.calls.Call.TheVariants as calls
use Rattle.pf_base.specs.declared.calls.CallName.{CallName}
use Rattle.pf_base.specs.declared.calls.CallName.TheVariants.{Mkdir, Create, Write, Read, Truncate, Rename, Unlink, Rmdir, Stat, List as Lists}

-- whatever its paths are
abbrev pub call_name_of : {P : Type 0} → Call P → CallName
call_name_of (calls.Mkdir path) = Mkdir
call_name_of (calls.Create path) = Create
call_name_of (calls.Write path offset byte count) = Write
call_name_of (calls.Read path offset count) = Read
call_name_of (calls.Truncate path size) = Truncate
call_name_of (calls.Rename from to) = Rename
call_name_of (calls.Unlink path) = Unlink
call_name_of (calls.Rmdir path) = Rmdir
call_name_of (calls.Stat path) = Stat
call_name_of (calls.List path) = Lists
