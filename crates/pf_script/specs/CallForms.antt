-- The forms of a line that asks a mount for a call, after its first word.
use Rattle.std.specs.Prelude.{ℕ, List, [], ◌∷◌, Option, Some, None, Result, Ok, Err, if◌then◌else◌, codes}
use Rattle.std.specs.Str.{bytes_eq}
use Rattle.pf_script.specs.declared.command.LineFault.{LineFault}
use Rattle.pf_script.specs.declared.command.LineFault.TheVariants.{BadWord}
use Rattle.pf_script.specs.declared.call_forms.PathVerb.{PathVerb}
use Rattle.pf_script.specs.declared.call_forms.PathVerb.TheVariants as paths
use Rattle.pf_script.specs.declared.call_forms.CallVerb.{CallVerb}
use Rattle.pf_script.specs.declared.call_forms.CallVerb.TheVariants as verbs
use Rattle.pf_script.specs.declared.call_forms.CallForm.TheVariants as calls
use Rattle.pf_script.specs.declared.form.Form.{Form}
use Rattle.pf_script.specs.declared.form.Form.TheVariants as forms
use Rattle.pf_script.specs.Values.{◌>>=◌, number_value, byte_value}

-- call m VERB P
abbrev pub path_call_form : PathVerb → List ℕ → List (List ℕ) → Result Form LineFault
path_call_form verb mount (path ∷ []) = do
  m ← number_value mount
  Ok (forms.Call m (calls.OfPath verb path))
path_call_form verb mount words = Err BadWord

-- call m truncate P size
abbrev pub truncate_form : List ℕ → List (List ℕ) → Result Form LineFault
truncate_form mount (path ∷ size ∷ []) = do
  m ← number_value mount
  s ← number_value size
  Ok (forms.Call m (calls.Truncate path s))
truncate_form mount words = Err BadWord

-- call m rename P P
abbrev pub rename_form : List ℕ → List (List ℕ) → Result Form LineFault
rename_form mount (from ∷ to ∷ []) = do
  m ← number_value mount
  Ok (forms.Call m (calls.Rename from to))
rename_form mount words = Err BadWord

-- call m write P offset byte count
abbrev pub write_form : List ℕ → List (List ℕ) → Result Form LineFault
write_form mount (path ∷ offset ∷ filler ∷ count ∷ []) = do
  m ← number_value mount
  o ← number_value offset
  b ← byte_value filler
  c ← number_value count
  Ok (forms.Call m (calls.Write path o b c))
write_form mount words = Err BadWord

-- call m read P offset count
abbrev pub read_form : List ℕ → List (List ℕ) → Result Form LineFault
read_form mount (path ∷ offset ∷ count ∷ []) = do
  m ← number_value mount
  o ← number_value offset
  c ← number_value count
  Ok (forms.Call m (calls.Read path o c))
read_form mount words = Err BadWord

-- the names of calls
abbrev pub call_verb_of : List ℕ → Option CallVerb
call_verb_of word =
    if bytes_eq word (codes "mkdir") then Some (verbs.OfPath paths.Mkdir)
    else if bytes_eq word (codes "create") then Some (verbs.OfPath paths.Create)
    else if bytes_eq word (codes "write") then Some verbs.Write
    else if bytes_eq word (codes "read") then Some verbs.Read
    else if bytes_eq word (codes "truncate") then Some verbs.Truncate
    else if bytes_eq word (codes "rename") then Some verbs.Rename
    else if bytes_eq word (codes "unlink") then Some (verbs.OfPath paths.Unlink)
    else if bytes_eq word (codes "rmdir") then Some (verbs.OfPath paths.Rmdir)
    else if bytes_eq word (codes "stat") then Some (verbs.OfPath paths.Stat)
    else if bytes_eq word (codes "list") then Some (verbs.OfPath paths.List)
    else None

-- the form of a line that asks this mount for a call of this name
abbrev pub call_after : Option CallVerb → List ℕ → List (List ℕ) → Result Form LineFault
call_after (Some (verbs.OfPath verb)) mount words = path_call_form verb mount words
call_after (Some verbs.Truncate) mount words = truncate_form mount words
call_after (Some verbs.Rename) mount words = rename_form mount words
call_after (Some verbs.Write) mount words = write_form mount words
call_after (Some verbs.Read) mount words = read_form mount words
call_after None mount words = Err BadWord

-- call m NAME ..
abbrev pub call_form : List (List ℕ) → Result Form LineFault
call_form (mount ∷ name ∷ words) = call_after (call_verb_of name) mount words
call_form words = Err BadWord
