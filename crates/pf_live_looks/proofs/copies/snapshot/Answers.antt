use Rattle.std.proofs.Common.{◌≡◌, ℕ, Option, Some, None, List, slice_get, refl, sym, ap, ◌∙◌}
use Rattle.std.specs.FinMap
use Rattle.pf_entry.specs.Ops.{Sector}
use Rattle.pf_protocol.specs.Servers.{Condition, Running, Stopped, Unformatted}
use Rattle.pf_shared.specs.pf_group.specs.GroupIs.{state_of}
use Rattle.pf_shared.specs.pf_group.specs.Readers.{snapshot_in}
use Rattle.pf_shared.specs.pf_group.proofs.Shown.{its_snapshots}
use Rattle.pf_live_looks.proofs.copies.snapshot.Goals as goal

-- a server that does not run keeps none
none_down : (o : Option Condition) (slot : ℕ) → ((s : _) → o ≡ Some (Running s) → ⊥) → ◌≡◌ {A = Option (List Sector)} None (snapshot_in o slot)
none_down (Some (Running s)) slot down = absurd (down s refl)
none_down (Some (Stopped life before after)) slot down = refl
none_down (Some Unformatted) slot down = refl
none_down None slot down = refl

pub returns-in_ok-copied-in-Some : goal.returns-in_ok-copied-in-Some
returns-in_ok-copied-in-Some g c told =
    let at = c.in-Ok.ensures told in
    ap Some c.in_ok-copied-in-Some.ensures ∙ sym c.in-Some.ensures ∙ ap (λ snapshots. FinMap.get snapshots c.args.slot) (its_snapshots c.in-Ok.me.now at.0 at.2) ∙ ap (λ o. snapshot_in o c.args.slot) (sym at.1)

pub returns-in-None : goal.returns-in-None
returns-in-None g c told =
    let at = c.in-Ok.ensures told in
    sym c.in-None.ensures ∙ ap (λ snapshots. FinMap.get snapshots c.args.slot) (its_snapshots c.in-Ok.me.now at.0 at.2) ∙ ap (λ o. snapshot_in o c.args.slot) (sym at.1)

pub returns-in-Err : goal.returns-in-Err
returns-in-Err g c told = none_down (slice_get (state_of c.args.group.now).servers c.args.server) c.args.slot (c.in-Err.ensures told)
