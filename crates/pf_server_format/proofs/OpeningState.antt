-- The opening state of a group.
use Rattle.std.proofs.Common.{◌≡◌, ℕ, zero, suc, ◌<◌, Some, slice_get, arith, refl}
use Rattle.pf_protocol.specs.Servers.{Setup}
use Rattle.pf_protocol.specs.Groups.{opening, unless_failed}
use Rattle.pf_server_format.specs.Opening.{opening_server}

-- its servers are these, but for those whose disks failed
pub opening_at : (setup : Setup) (i : ℕ) → i < 3 → slice_get (opening setup).servers i ≡ Some (unless_failed setup i (opening_server setup i))
unfolding opening
opening_at setup zero below = refl
opening_at setup (suc zero) below = refl
opening_at setup (suc (suc zero)) below = refl
opening_at setup (suc (suc (suc i))) below = absurd (omega arith)
