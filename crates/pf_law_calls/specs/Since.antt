-- What a mount asked and was answered at its port for file data since its last call began.
use Rattle.std.specs.Prelude.{ℕ, ◌==◌, if◌then◌else◌, List, [], ◌∷◌, ◌++◌, Option, None}
use Rattle.pf_base.specs.declared.asks.Ask.{Ask}
use Rattle.pf_volume.specs.Volumes.{Extent}
use Rattle.pf_file_calls.specs.declared.calls.Pending.{Pending}
use Rattle.pf_law_plans.specs.Exchanges.{Exchange}
use Rattle.pf_journal.specs.declared.layouts.Layout.{Layout}
use Rattle.pf_mount.specs.Mounts.{MountIs, having_started}
use Rattle.pf_law_calls.specs.Lives.{Asks, Begins, Hears, Input, Life, MountTold, all_opened, lived}
use Rattle.pf_law_calls.specs.Exchanges.{exchanged, pends_in}

-- the call that is pending as an input comes
abbrev pub called : MountIs → Input → Option Pending
called x (Begins call) = (having_started x call).files.pending
called x (Asks port) = x.files.pending
called x (Hears port reply) = x.files.pending

-- The ask that is pending at the port for file data of mount m

abbrev pub pends_from : (ℕ → Life) → (m : ℕ) → (last : Option Ask) → List MountTold → Option Ask
pends_from lives m last [] = last
pends_from lives m last (t ∷ told) = pends_from (lived lives t) m (pends_in m (lives m).mount last t) told

abbrev pub pends : Layout → Extent → List MountTold → (m : ℕ) → Option Ask
pends layout v told m = pends_from (all_opened layout v) m None told

-- What came there since its last call began

abbrev pub since_after : MountIs → (last : Option Ask) → (its : List Exchange) → Input → List Exchange
since_after x last its (Begins call) = []
since_after x last its (Asks port) = its
since_after x last its (Hears port reply) = its ++ exchanged x last (Hears port reply)

abbrev pub since_in : (m : ℕ) → MountIs → (last : Option Ask) → (its : List Exchange) → MountTold → List Exchange
since_in m x last its t = if m == t.mount then since_after x last its t.input else its

abbrev pub since_from : (ℕ → Life) → (m : ℕ) → (last : Option Ask) → (its : List Exchange) → List MountTold → List Exchange
since_from lives m last its [] = its
since_from lives m last its (t ∷ told) =
    let x = (lives m).mount in since_from (lived lives t) m (pends_in m x last t) (since_in m x last its t) told

abbrev pub exchanges_since : Layout → Extent → List MountTold → (m : ℕ) → List Exchange
exchanges_since layout v told m = since_from (all_opened layout v) m None [] told
