-- When a verdict on tables is right.
use Rattle.std.specs.Prelude.{◌≡◌, ◌<◌, ℕ, length}
use Rattle.pf_tree.specs.Trees.{Tree}
use Rattle.pf_check.specs.declared.judging.Verdict.{Verdict}
use Rattle.pf_check.specs.declared.judging.Verdict.TheVariants.{Clean, Broken}
use Rattle.pf_check.specs.Raw.{RawTables}
use Rattle.pf_check.specs.Kinds.{KeepsRule, KindShows, IsLeastShown}
use Rattle.pf_check.specs.Standing.{StandsAs}

-- the rules of all kinds below this one are kept
abbrev pub AllKeepBelow : RawTables → (kind : ℕ) → Type 0
AllKeepBelow t kind = (k n : ℕ) → k < kind → KeepsRule k t n

-- no kind below this one is shown anywhere
abbrev pub NoneShowsBelow : RawTables → (kind : ℕ) → Type 0
NoneShowsBelow t kind = (k n : ℕ) → k < kind → KindShows k t n → ⊥

-- tables that are clean stand for a tree of as many paths; else the kind is the least that is shown, and the number the least that shows it
abbrev pub IsRight : RawTables → Verdict → Type 0
IsRight t (Clean paths) = (tree : Tree) × StandsAs t tree × (paths ≡ length tree)
IsRight t (Broken kind number) = NoneShowsBelow t kind × IsLeastShown kind t number
