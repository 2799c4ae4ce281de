-- The numbers of what refuses a call.
use Rattle.std.specs.Prelude.{ℕ, ◌==◌, if◌then◌else◌}
use Rattle.pf_tree.specs.declared.faults.TreeRefusal.{TreeRefusal}
use Rattle.pf_tree.specs.declared.faults.TreeRefusal.TheVariants.{NoEntry, Exists, NotDir, IsDir, NotEmpty, NoSpace, TooLarge, IntoItself}
use Rattle.pf_tree.specs.Faults.{refusal_number}
use Rattle.pf_file_calls.specs.declared.answers.CallFault.{CallFault}
use Rattle.pf_file_calls.specs.declared.answers.CallFault.TheVariants.{BadSuper, Tree, JournalFull}

abbrev pub fault_number : CallFault → ℕ
fault_number BadSuper = 81
fault_number (Tree refusal) = refusal_number refusal
fault_number JournalFull = 90

-- the refusal of the tree with this number, 82 to 89
abbrev pub refusal_of : ℕ → TreeRefusal
refusal_of number =
    if number == 82 then NoEntry
    else if number == 83 then Exists
    else if number == 84 then NotDir
    else if number == 85 then IsDir
    else if number == 86 then NotEmpty
    else if number == 87 then NoSpace
    else if number == 88 then TooLarge
    else IntoItself

abbrev pub call_fault_of : ℕ → CallFault
call_fault_of number = Tree (refusal_of number)
