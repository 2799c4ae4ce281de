-- The calls that lines ask of a mount.
use Rattle.std.specs.Prelude.{ℕ, nat_lt, nat_le, Bool, true, ◌&&◌, List}
use Rattle.pf_base.specs.Sizes.{most_file_bytes}
use Rattle.pf_base.specs.declared.calls.Call.{Call}
use Rattle.pf_base.specs.declared.calls.Call.TheVariants as calls
use Rattle.pf_script.specs.declared.call_forms.PathVerb.{PathVerb}
use Rattle.pf_script.specs.declared.call_forms.PathVerb.TheVariants as verbs
use Rattle.pf_script.specs.declared.call_forms.CallForm.{CallForm}
use Rattle.pf_script.specs.declared.call_forms.CallForm.TheVariants as forms

-- the call that asks this of a path
abbrev pub path_call : PathVerb → List ℕ → Call (List ℕ)
path_call verbs.Mkdir path = calls.Mkdir path
path_call verbs.Create path = calls.Create path
path_call verbs.Unlink path = calls.Unlink path
path_call verbs.Rmdir path = calls.Rmdir path
path_call verbs.Stat path = calls.Stat path
path_call verbs.List path = calls.List path

-- the call of a form, whatever its numbers
abbrev pub call_from : CallForm → Call (List ℕ)
call_from (forms.OfPath verb path) = path_call verb path
call_from (forms.Truncate path size) = calls.Truncate path size
call_from (forms.Rename from to) = calls.Rename from to
call_from (forms.Write path offset byte count) = calls.Write path offset byte count
call_from (forms.Read path offset count) = calls.Read path offset count

-- whether the numbers of a call lie in their ranges
abbrev pub fits_call : Call (List ℕ) → Bool
fits_call (calls.Write path offset byte count) = nat_lt offset 4294967296 && nat_le count most_file_bytes
fits_call (calls.Read path offset count) = nat_lt offset 4294967296 && nat_le count most_file_bytes
fits_call (calls.Truncate path size) = nat_lt size 4294967296
fits_call call = true
