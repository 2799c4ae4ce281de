-- Which groups a line made.
use Rattle.std.proofs.Common.{◌≡◌, ℕ, List, [], Result, Ok, Err, OnErr, OnOk, length, arith, refl, sym}
use Rattle.std.proofs.lemmas.Option.{none-some, slice_get_within}
use Rattle.pf_script.specs.declared.command.Command.{Command}
use Rattle.pf_script.specs.declared.command.Command.TheVariants as commands
use Rattle.pf_world.specs.Making.{HasMadeMore}
use Rattle.pf_world.specs.Steps.{LineHasFailed, HasRun, MakesGroups, moves_after}
use Rattle.pf_world.specs.Views.{WorldIs, WorldOn}

-- none
pub none_made : {D : Type 0} (faults : D → ℕ) (old new : WorldOn D) → new.spare ≡ old.spare → length new.world.chunks ≡ length old.world.chunks → HasMadeMore faults old new
none_made faults old new spare same = record {
  sixes = [];
  given = sym spare;
  count = omega (arith, same);
  numbers = λ k c above there. absurd (omega (arith, above, same, slice_get_within new.world.chunks k c there));
  each = λ k six c at there. absurd (none-some six at);
}

groups_same : (command : Command) (n was is : ℕ) → moves_after n command ≡ n → MakesGroups command was is → is ≡ was
groups_same (commands.Move chunk) n was is stays makes = absurd (omega (arith, stays))
groups_same command n was is stays makes = makes

count_by : {T E : Type 0} (result : Result T E) (old new : WorldIs) (number n : ℕ) (command : Command) (before after : List ℕ) → moves_after n command ≡ n → OnOk result (HasRun old number command before after new) → OnErr result (LineHasFailed old number command new) → length new.chunks ≡ length old.chunks
count_by (Ok x) old new number n command before after stays ran failed = groups_same command n (length old.chunks) (length new.chunks) stays ran.runs.groups
count_by (Err e) old new number n command before after stays ran failed = groups_same command n (length old.chunks) (length new.chunks) stays failed.groups

-- a line that moves no chunk makes none, whether it was run or wanted memory
pub line_makes_none : {D T E : Type 0} (faults : D → ℕ) (result : Result T E) (old new : WorldOn D) (number n : ℕ) (command : Command) (before after : List ℕ) → moves_after n command ≡ n → new.spare ≡ old.spare
    → OnOk result (HasRun old.world number command before after new.world) → OnErr result (LineHasFailed old.world number command new.world) → HasMadeMore faults old new
line_makes_none faults result old new number n command before after stays spare ran failed =
    none_made faults old new spare (count_by result old.world new.world number n command before after stays ran failed)

pub not_move : (n : ℕ) (command : Command) → ((chunk : ℕ) → command ≡ commands.Move chunk → ⊥) → moves_after n command ≡ n
not_move n (commands.Move chunk) not = absurd (not chunk refl)
not_move n command not = refl
