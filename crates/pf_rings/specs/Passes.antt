-- A pass of a ring, as its caller sees it.
use Rattle.std.specs.Prelude.{◌≡◌, ◌≤◌, ◌⊎◌, true, List, [], length}
use Rattle.crossbeam_queue.specs.Passes.{view, IsPassOf}
use Rattle.pf_rings.specs.Counted.{puts_in, takes_in}
use Rattle.pf_rings.specs.Relayed.{Begins}
use Rattle.pf_rings.specs.declared.count.RingCall.{RingCall}
use Rattle.pf_rings.specs.declared.ring.Ring.{Ring}
use Rattle.pf_rings.specs.declared.ring.RingPass.{RingPass}
use Rattle.pf_rings.specs.declared.view.Request.{Request}

-- of the host's pass: what it put, in order; of the server thread's: a beginning of that
abbrev pub put_by : RingPass → List Request
put_by p = (view p.pass).sent

-- of the server thread's pass: what it took, in order; of the host's: a beginning of that
abbrev pub taken_by : RingPass → List Request
taken_by p = (view p.pass).got

-- the calls that the host's pass has seen: all that it made, and of the server thread's a beginning
abbrev pub seen_by_host : RingPass → List RingCall
seen_by_host p = p.seat.me.0.host

-- the calls that the server thread's pass has seen: all that it made, and of the host's a beginning
abbrev pub seen_by_server : RingPass → List RingCall
seen_by_server p = p.seat.me.0.server

-- a pass of this ring
abbrev pub IsPassOfRing : Ring → RingPass → Type 0
IsPassOfRing ring p = IsPassOf ring.queue p.pass × (p.seat.table_id ≡ ring.count.shared.table_id) × (p.seat.me.1 ≡ [])

-- the host's: each request that it put is one of its calls
pub record IsHostOf (ring : Ring) (p : RingPass) : Type 0 where
  pub pass : IsPassOfRing ring p
  pub puts : (view p.pass).puts ≡ true
  pub side : p.seat.me.0.puts ≡ true
  pub put : length (put_by p) ≡ puts_in (seen_by_host p)
  pub taken : length (taken_by p) ≤ takes_in (seen_by_host p)

-- the server thread's: each request that it took is one of its calls
pub record IsServerOf (ring : Ring) (p : RingPass) : Type 0 where
  pub pass : IsPassOfRing ring p
  pub takes : (view p.pass).takes ≡ true
  pub side : p.seat.me.0.takes ≡ true
  pub taken : length (taken_by p) ≡ takes_in (seen_by_server p)
  pub put : length (put_by p) ≤ puts_in (seen_by_server p)
  pub order : Begins (put_by p) (taken_by p) ⊎ Begins (taken_by p) (put_by p)
