-- What a mount asked and was answered at its port for file data.
use Rattle.std.specs.Prelude.{ℕ, ◌==◌, if◌then◌else◌, List, [], ◌∷◌, ◌++◌, Option, Some, None}
use Rattle.pf_base.specs.declared.asks.Ask.{Ask}
use Rattle.pf_base.specs.declared.asks.Reply.{Reply}
use Rattle.pf_volume.specs.Volumes.{Extent}
use Rattle.pf_law_plans.specs.Exchanges.{Exchange}
use Rattle.pf_journal.specs.declared.layouts.Layout.{Layout}
use Rattle.pf_mount_errands.specs.Positions.{anchors_of}
use Rattle.pf_mount.specs.Mounts.{MountIs, ask_at}
use Rattle.pf_law_calls.specs.Lives.{Asks, Begins, Hears, Input, Life, MountTold, all_opened, lived}

-- The port behind those to the anchors is that for file data. An ask that goes out is pending there until something is heard

abbrev pub pends_with : (last : Option Ask) → Option Ask → Option Ask
pends_with last None = last
pends_with last (Some ask) = Some ask

abbrev pub pends_after : MountIs → (last : Option Ask) → Input → Option Ask
pends_after x last (Begins call) = last
pends_after x last (Asks port) = if port == anchors_of x.position then pends_with last (ask_at x port) else last
pends_after x last (Hears port reply) = if port == anchors_of x.position then None else last

-- what is heard is the reply to the pending ask
abbrev pub exchange : Option Ask → Reply → List Exchange
exchange None reply = []
exchange (Some ask) reply = (ask, reply) ∷ []

abbrev pub exchanged : MountIs → (last : Option Ask) → Input → List Exchange
exchanged x last (Begins call) = []
exchanged x last (Asks port) = []
exchanged x last (Hears port reply) = if port == anchors_of x.position then exchange last reply else []

-- so for mount m, which stands so then, by what was told of any mount

abbrev pub pends_in : (m : ℕ) → MountIs → (last : Option Ask) → MountTold → Option Ask
pends_in m x last t = if m == t.mount then pends_after x last t.input else last

abbrev pub exchanged_in : (m : ℕ) → MountIs → (last : Option Ask) → MountTold → List Exchange
exchanged_in m x last t = if m == t.mount then exchanged x last t.input else []

abbrev pub exchanges_from : (ℕ → Life) → (m : ℕ) → (last : Option Ask) → List MountTold → List Exchange
exchanges_from lives m last [] = []
exchanges_from lives m last (t ∷ told) = exchanged_in m (lives m).mount last t ++ exchanges_from (lived lives t) m (pends_in m (lives m).mount last t) told

-- what mount m asked and was answered there, in order
abbrev pub exchanges : Layout → Extent → List MountTold → (m : ℕ) → List Exchange
exchanges layout v told m = exchanges_from (all_opened layout v) m None told
