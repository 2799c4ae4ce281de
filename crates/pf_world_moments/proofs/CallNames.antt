-- The names of calls.
use Rattle.std.proofs.Common.{◌≡◌, ℕ, List, refl}
use Rattle.pf_base.specs.declared.calls.Call.{Call}
use Rattle.pf_base.specs.declared.calls.Call.TheVariants as calls
use Rattle.pf_base.specs.CallNames.{call_name_of}
use Rattle.pf_base.specs.CallNames.{call_name_of}
use Rattle.pf_tree.specs.Calls.{FileCall}
use Rattle.pf_layout.specs.Calls.{IsReadAs}

-- the words of a call have its name
pub named_as : (call : Call (List ℕ)) (file : FileCall) → IsReadAs call file → call_name_of file ≡ call_name_of call
named_as (calls.Mkdir w) (calls.Mkdir p) read = refl
named_as (calls.Create w) (calls.Create p) read = refl
named_as (calls.Write w at byte count) (calls.Write p offset value many) read = refl
named_as (calls.Read w at count) (calls.Read p offset many) read = refl
named_as (calls.Truncate w size) (calls.Truncate p to) read = refl
named_as (calls.Rename from to) (calls.Rename p q) read = refl
named_as (calls.Unlink w) (calls.Unlink p) read = refl
named_as (calls.Rmdir w) (calls.Rmdir p) read = refl
named_as (calls.Stat w) (calls.Stat p) read = refl
named_as (calls.List w) (calls.List p) read = refl
named_as call file read = absurd read
