-- What a mount asks next, beside what is pending.
use Rattle.std.specs.Prelude.{ℕ, suc, ◌+◌, ◌*◌, Bool, true, false, not, ◌&&◌, ◌==◌, nat_le, if◌then◌else◌, List, Option, Some, None}
use Rattle.std.specs.List.{list_any}
use Rattle.pf_base.specs.declared.asks.Ask.{Ask}
use Rattle.pf_base.specs.Asks.{chunk_of, span_of}
use Rattle.pf_volume.specs.Volumes.{Extent}
use Rattle.pf_mount_errands.specs.Positions.{anchors_of}
use Rattle.pf_mount.specs.Mounts.{MountIs, ask_at, mount_asked}

-- those to the anchors, and that for file data
abbrev pub ports_of : MountIs → ℕ
ports_of m = suc (anchors_of m.position)

-- the sector of the volume at which an ask begins
abbrev pub first_of_ask : Extent → Ask → ℕ
first_of_ask v ask = v.sectors * chunk_of ask + (span_of ask).first

-- File data begin at their first block. Tables that stand for no tree may have a file's block before it; an ask for such a block is never put
abbrev pub is_data_ask : MountIs → Ask → Bool
is_data_ask m ask = nat_le (8 * m.files.first) (first_of_ask m.files.volume ask)

abbrev pub is_in_chunk : (chunk : ℕ) → Option ℕ → Bool
is_in_chunk chunk None = false
is_in_chunk chunk (Some its) = its == chunk

-- the chunks of the asks that are pending at its ports have this one
abbrev pub is_busy : (busy : List (Option ℕ)) → (chunk : ℕ) → Bool
is_busy busy chunk = list_any (is_in_chunk chunk) busy

abbrev pub may_go : MountIs → (busy : List (Option ℕ)) → (port : ℕ) → Ask → Bool
may_go m busy port ask = (if port == anchors_of m.position then is_data_ask m ask else true) && not (is_busy busy (chunk_of ask))

abbrev pub going : MountIs → (busy : List (Option ℕ)) → (port : ℕ) → Option Ask → Option Ask
going m busy port None = None
going m busy port (Some ask) = if may_go m busy port ask then Some ask else None

-- what it asks at a port now, unless an ask for the same chunk is pending
abbrev pub next_ask : MountIs → (busy : List (Option ℕ)) → (port : ℕ) → Option Ask
next_ask m busy port = going m busy port (ask_at m port)

-- the mount then
abbrev pub having_put : MountIs → (port : ℕ) → Option Ask → MountIs
having_put m port None = m
having_put m port (Some ask) = mount_asked m port
