-- An image that is to be saved.
use Rattle.std.specs.Prelude.{◌≡◌, ℕ, ◌<◌, ◌≤◌, true, length, nat_lt}
use Rattle.std.specs.FinMap
use Rattle.pf_entry.specs.Sets
use Rattle.pf_entry.specs.Records.{image_of}
use Rattle.pf_entry.specs.Canonical.{IsCanonicalRecord}
use Rattle.pf_codec.specs.Fitting.{RecordFits}
use Rattle.pf_codec.specs.Spelling.{body_bytes}
use Rattle.pf_server_memory.specs.declared.running.Running.{Running}
use Rattle.pf_server_memory.specs.Images.{imaged}
use Rattle.pf_server_follower.specs.declared.images.NewHalf.{NewHalf}

-- the body is that of the state with this checkpoint, whose slots are all applied, and no job is in hand
pub record IsNewHalf (me : Running) (term base : ℕ) (half : NewHalf) : Type 0 where
  pub body : half.body.items ≡ body_bytes (image_of (imaged me term base (Sets.retain half.applied.slots (nat_lt base)) half.sectors))
  pub canonical : IsCanonicalRecord 2 (image_of (imaged me term base (Sets.retain half.applied.slots (nat_lt base)) half.sectors))
  pub fits : RecordFits (image_of (imaged me term base (Sets.retain half.applied.slots (nat_lt base)) half.sectors))
  pub prefix : (slot : ℕ) → 0 < slot → slot ≤ base → Sets.contains half.applied.slots slot ≡ true
  pub size : length half.sectors ≡ length me.sectors
  pub in_hand : half.in_hand ≡ FinMap.empty
  pub rooms : half.rooms ≡ FinMap.empty
