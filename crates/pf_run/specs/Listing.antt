-- How the listing of a server's records ends.
use Rattle.std.specs.Prelude.{ℕ, ◌≡◌, ◌⊎◌, List, [], Option}
use Rattle.std.specs.Io.KnownBytes.{Appends}
use Rattle.pf_disk.specs.Crashes.{Images}
use Rattle.pf_run_listing.specs.Disks.{AreRead, HasListed}
use Rattle.pf_run_lines.specs.declared.status.Status.{Status}
use Rattle.pf_run_lines.specs.declared.status.Status.TheVariants as statuses
use Rattle.pf_run_lines.specs.Ends.{AppendsFront}

module _ {D : Type 0} (seen : D → Option (List ℕ)) (may_leave : D → Images) (faults : D → ℕ) (group server : ℕ) where
  -- the two disks of the server were read, or none was
  abbrev pub AreLeftAlone : (before after : List D) → Type 0
  AreLeftAlone before after = (after ≡ before) ⊎ AreRead seen may_leave faults group server before after

  -- the text lists what the two disks told, and this of it was taken
  pub record IsListed (Took : List ℕ → Type 0) (before after : List D) : Type 0 where
    pub text : List ℕ
    pub listed : HasListed seen may_leave faults group server before after text
    pub took : Took text

  -- A status of `log`: what the sink had and has taken, whether its faults rose, and the disks before and after.
  abbrev pub ListEnds : Status → (taken now : Option (List ℕ)) → (full : Type 0) → (before after : List D) → Type 0
  ListEnds statuses.Ok taken now full before after = IsListed (Appends taken now) before after
  ListEnds statuses.NoMemory taken now full before after = Appends taken now [] × AreLeftAlone before after
  ListEnds statuses.WriteFault taken now full before after = full × IsListed (AppendsFront taken now) before after
  ListEnds status taken now full before after = ⊥
