-- What a group keeps also where a restart began from any state that fits its server: whatever a server or a packet has of terms is of
-- the state from which the server began, or a term in which somebody stood for election.
use Rattle.std.specs.Prelude.{◌≡◌, ◌⊎◌, ℕ, ◌<◌, ◌≤◌, false, List, [], ◌∷◌, length, Some, slice_get}
use Rattle.std.specs.FinMap
use Rattle.pf_entry.specs.Maps.{Map}
use Rattle.pf_entry.specs.Lists.{Every}
use Rattle.pf_entry.specs.Records.{Durable}
use Rattle.pf_entry.specs.declared.ops.Op.{Op}
use Rattle.pf_entry.specs.declared.entries.Entry.{Entry}
use Rattle.pf_entry.specs.declared.packets.Body.{Body}
use Rattle.pf_entry.specs.declared.packets.Body.TheVariants.{Vote, Accept}
use Rattle.pf_protocol.specs.Servers.{Leader, Role, Follower, Candidate, Merging, Serving, Server, Condition, Running, Stopped, Unformatted, has_applied}
use Rattle.pf_protocol.specs.Groups.{Group}

abbrev pub IsTermAmong : ℕ → List ℕ → Type 0
IsTermAmong t [] = ⊥
IsTermAmong t (x ∷ xs) = (t ≡ x) ⊎ IsTermAmong t xs

-- but for at most 65 of them, starts are of these terms
pub record FewBeside (terms : List ℕ) (starts : Map ℕ) : Type 0 where
  pub others : List ℕ
  pub few : length others ≤ 65
  pub each : (t first : ℕ) → FinMap.get starts t ≡ Some first → IsTermAmong t others ⊎ IsTermAmong t terms

-- only a follower may be in a term in which nobody stood
abbrev pub IsElected : List ℕ → (term : ℕ) → Role → Type 0
IsElected terms term Follower = Unit {0}
IsElected terms term (Candidate own) = IsTermAmong term terms × FewBeside terms own.starts
IsElected terms term (Merging l) = IsTermAmong term terms
IsElected terms term (Serving l) = IsTermAmong term terms

-- what a leader holds above its checkpoint and below its next slot is of its term
abbrev pub HoldsOwn : Durable → Leader → Type 0
HoldsOwn d l = (slot : ℕ) (e : Entry) → d.base < slot → slot < l.next → FinMap.get d.log slot ≡ Some e → e.term ≡ d.term

pub record KeepsTerms (terms : List ℕ) (i : ℕ) (s : Server) : Type 0 where
  pub number : s.number ≡ i
  pub few : FewBeside terms s.durable.starts
  pub elected : IsElected terms s.durable.term s.role
  pub own : (l : Leader) → (s.role ≡ Merging l) ⊎ (s.role ≡ Serving l) → HoldsOwn s.durable l
  -- a job in hand is of a slot that is not applied
  pub unapplied : (slot : ℕ) (op : Op) → FinMap.get s.in_hand slot ≡ Some op → has_applied s slot ≡ false

abbrev pub ConditionKeeps : List ℕ → (i : ℕ) → Condition → Type 0
ConditionKeeps terms i (Running s) = KeepsTerms terms i s
ConditionKeeps terms i (Stopped life before after) = FewBeside terms before.starts × FewBeside terms after.starts
ConditionKeeps terms i Unformatted = Unit {0}

abbrev pub BodyKeeps : List ℕ → Body → Type 0
BodyKeeps terms (Vote v) = FewBeside terms v.starts
BodyKeeps terms (Accept e) = IsTermAmong e.term terms
BodyKeeps terms _ = Unit {0}

pub record GroupKeeps (terms : List ℕ) (g : Group) : Type 0 where
  pub servers : (i : ℕ) (c : Condition) → slice_get g.servers i ≡ Some c → ConditionKeeps terms i c
  pub packets : Every (λ sent. BodyKeeps terms sent.packet.body) g.packets
