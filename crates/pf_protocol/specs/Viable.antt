-- Groups in which a restart may have begun from any state that fits its server: what is left of them is that no number, list or packet is
-- too large for its type, that reads and jobs are as servers need them, and that packets have room.
use Rattle.std.specs.Prelude.{◌≡◌, ℕ, suc, ◌+◌, ◌<◌, ◌≤◌, List, length, Some, slice_get, sum_by}
use Rattle.std.specs.FinMap
use Rattle.pf_entry.specs.Lists.{Every}
use Rattle.pf_entry.specs.Records.{Durable}
use Rattle.pf_entry.specs.Sizes.{packet_size}
use Rattle.pf_protocol.specs.Servers.{Setup, Server, Condition, Running, Stopped, Unformatted}
use Rattle.pf_protocol.specs.Groups.{Ending, Group, server_begun}
use Rattle.pf_protocol.specs.Histories.{RunsAs}
use Rattle.pf_protocol.specs.Answers.{Claimed, ClaimIsOpen, most_packets, most_packet_bytes}
use Rattle.pf_protocol.specs.Asked.{Asks}
use Rattle.pf_protocol.specs.Elected.{GroupKeeps}
use Rattle.pf_protocol.specs.Fitting.{DurableFits, FitsFrom}

pub record IsViable (setup : Setup) (top n : ℕ) (terms : List ℕ) (claims : List Claimed) (g : Group) : Type 0 where
  pub fits : FitsFrom setup top n g
  pub keeps : GroupKeeps terms g
  pub elected : length terms ≤ suc g.elections
  pub asks : (i : ℕ) (s : Server) → RunsAs g i s → Asks setup.chunk g.reads s
  pub opened : Every (ClaimIsOpen g.servers) claims
  pub low : Every (λ c. c.server < 3) claims
  pub answered : Every (λ a. a.number < g.reads) g.answered
  pub count : length g.packets ≤ most_packets
  pub bytes : sum_by (λ sent. packet_size sent.packet) g.packets ≤ most_packet_bytes

-- the life that a server was in last
abbrev pub LastLife : Condition → ℕ → Type 0
LastLife (Running s) life = life ≡ s.life
LastLife (Stopped its before after) life = life ≡ its
LastLife Unformatted life = ⊥

-- a state from which a server of the group may begin, or stop over
pub record MayBeFound (setup : Setup) (top n : ℕ) (g : Group) (d : Durable) : Type 0 where
  pub fits : DurableFits setup n (suc (top + g.elections)) d
  pub few : FinMap.len d.starts ≤ 65

-- a restart of server i that found some state, or was cut off over some
pub record BeginsAnew (setup : Setup) (top n : ℕ) (g : Group) (i : ℕ) (how : Ending) (after : Group) : Type 0 where
  pub c : Condition
  pub there : slice_get g.servers i ≡ Some c
  pub life : ℕ
  pub last : LastLife c life
  pub d : Durable
  pub before : Durable
  pub later : Durable
  pub found : MayBeFound setup top n g d
  pub first : MayBeFound setup top n g before
  pub second : MayBeFound setup top n g later
  pub is : after ≡ server_begun how g i life d before later
