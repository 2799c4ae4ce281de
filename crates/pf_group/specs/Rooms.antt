-- The memory of a group that is to be made.
use Rattle.std.specs.Prelude.{◌≡◌, ℕ, ◌≤◌, Bool, true, false, List, [], ◌∷◌, vec_capacity, vec_len}
use Rattle.pf_protocol.specs.declared.answers.Answer.{Answer}
use Rattle.pf_protocol.specs.declared.answers.Answer.TheVariants.{Refused}
use Rattle.pf_server_format.specs.Opening.{first_body}
use Rattle.pf_server_format.specs.Rooms.{ServerPlace}
use Rattle.pf_group_network.specs.declared.network.Network.{Network}
use Rattle.pf_group.specs.declared.making.GroupPlan.{GroupPlan}
use Rattle.pf_group.specs.Making.{setup_with}
use Rattle.pf_group.specs.Pasts.{PastIsSound}

-- no servers yet, and room for three, and for all packets
pub record NetworkIsEmpty {S : Type 0} (network : Network S) : Type 0 where
  pub servers : network.servers.items ≡ []
  pub none : vec_len network.servers ≡ 0
  pub three : 3 ≤ vec_capacity network.servers
  pub packets : network.packets.items ≡ []
  pub places : 65536 ≤ vec_capacity network.packets
  pub bytes : network.byte_room ≡ 134217728
  pub acked : network.acked.list.items ≡ []
  pub readings : network.readings.items ≡ []
  pub elections : network.elections ≡ 0

abbrev pub place_at : (group sectors names format i : ℕ) → ServerPlace
place_at group sectors names format i = record { group = group; seat = record { number = i; sectors = sectors; names = names; format = format } }

-- all is there but the disks
pub record IsGroupPlan {D : Type 0} (plan : GroupPlan D) : Type 0 where
  pub zero : plan.zero ≡ place_at plan.number plan.sectors plan.names plan.format 0
  pub one : plan.one ≡ place_at plan.number plan.sectors plan.names plan.format 1
  pub two : plan.two ≡ place_at plan.number plan.sectors plan.names plan.format 2
  pub image : plan.image.items ≡ first_body (setup_with plan.sectors plan.names plan.format [])
  pub failed : plan.failed.items ≡ []
  pub none : vec_len plan.failed ≡ 0
  pub three : 3 ≤ vec_capacity plan.failed
  pub network : NetworkIsEmpty plan.network
  pub history : plan.past.happenings ≡ []
  pub past : PastIsSound plan.past

-- it is to be made with these numbers
pub record IsPlanOf {D : Type 0} (number sectors names format : ℕ) (plan : GroupPlan D) : Type 0 where
  pub number_is : plan.number ≡ number
  pub sectors_is : plan.sectors ≡ sectors
  pub names_is : plan.names ≡ names
  pub format_is : plan.format ≡ format

abbrev pub halted_of : Answer → Bool
halted_of (Refused refusal) = true
halted_of _ = false

abbrev pub picked : Bool → ℕ → List ℕ
picked true i = i ∷ []
picked false i = []
