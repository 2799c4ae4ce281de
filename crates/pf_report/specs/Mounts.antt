-- The texts of mounts and of their calls.
use Rattle.std.specs.Prelude.{ℕ, Bool, if◌then◌else◌, List, [], ◌∷◌, ◌++◌, codes, unwrap_or}
use Rattle.std.specs.List.{flat_map, join_with_byte}
use Rattle.std.specs.Fmt.{decimal}
use Rattle.pf_text.specs.Runs.{runs_text}
use Rattle.pf_file_calls.specs.declared.answers.CallAnswer.{CallAnswer}
use Rattle.pf_file_calls.specs.declared.answers.CallAnswer.TheVariants.{Fine, Bytes, Directory, File, Names, Refused}
use Rattle.pf_base.specs.declared.calls.CallName.{CallName}
use Rattle.pf_base.specs.declared.calls.CallName.TheVariants.{Mkdir, Create, Write, Read, Truncate, Rename, Unlink, Rmdir, Stat, List as Lists}
use Rattle.pf_file_calls.specs.Faults.{fault_number}
use Rattle.pf_tree.specs.declared.listing.Listed.{Listed}
use Rattle.pf_report.specs.Refusals.{refusal_text}
use Rattle.pf_report.specs.Texts.{event_line, spaced}

-- a mount was made
abbrev pub mount_text : (mount : ℕ) → List ℕ
mount_text mount = codes "mount " ++ decimal mount

abbrev pub started_text : List ℕ
started_text = codes "started"

-- it is ready
abbrev pub ready_text : (mount : ℕ) → List ℕ
ready_text mount = codes "mount " ++ decimal mount ++ codes " ok"

abbrev pub name_text : CallName → List ℕ
name_text Mkdir = codes "mkdir"
name_text Create = codes "create"
name_text Write = codes "write"
name_text Read = codes "read"
name_text Truncate = codes "truncate"
name_text Rename = codes "rename"
name_text Unlink = codes "unlink"
name_text Rmdir = codes "rmdir"
name_text Stat = codes "stat"
name_text Lists = codes "list"

-- names with a space between each two, or `none`
abbrev pub names_text : List (List ℕ) → List ℕ
names_text [] = codes "none"
names_text (name ∷ names) = join_with_byte 32 (name ∷ names)

abbrev pub call_answer_text : CallAnswer → List ℕ
call_answer_text Fine = codes "ok"
call_answer_text (Bytes bytes) = runs_text bytes
call_answer_text Directory = codes "dir"
call_answer_text (File size) = codes "file " ++ decimal size
call_answer_text (Names names) = names_text names
call_answer_text (Refused fault) = unwrap_or (refusal_text (fault_number fault)) []

-- a call ends
abbrev pub call_text : (mount : ℕ) → CallName → CallAnswer → List ℕ
call_text mount name answer = codes "call " ++ decimal mount ++ codes " " ++ name_text name ++ codes " " ++ call_answer_text answer

-- how far a mount is
abbrev pub state_text : (mount upto : ℕ) → (pending : Bool) → List ℕ
state_text mount upto pending = codes "mount " ++ decimal mount ++ codes " upto" ++ spaced upto ++ (if pending then codes " pending" else codes " idle")

-- a path of a tree, and what stands there: a directory, or a file of so many bytes
abbrev pub listed_text : Listed → List ℕ
listed_text row = row.path ++ (if row.is_dir then codes " d" else codes " f" ++ spaced row.size)

-- a line for each path of a tree
abbrev pub tree_lines : List Listed → List ℕ
tree_lines rows = flat_map (λ row. event_line (listed_text row)) rows
