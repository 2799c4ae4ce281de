-- What holds of every history.
use Rattle.std.specs.Prelude.{◌≡◌, ℕ, ◌<◌, Bool, true, false, Some, slice_get}
use Rattle.std.specs.FinMap
use Rattle.pf_entry.specs.Sets
use Rattle.pf_entry.specs.declared.ops.Op.{Op}
use Rattle.pf_entry.specs.declared.entries.Entry.{Entry}
use Rattle.pf_protocol.specs.Servers.{Setup, Leader, Role, Serving, Merging, Server, has_applied}
use Rattle.pf_protocol.specs.Groups.{Acked}
use Rattle.pf_protocol.specs.Histories.{History, IsPrefix, replay, RunsAs, IsChosen, AreFolds}

abbrev pub is_leading : Role → Bool
is_leading (Merging l) = true
is_leading (Serving l) = true
is_leading _ = false

-- in each term at most one server merges or serves, at whatever moments
abbrev pub OneLeader : Setup → History → Type 0
OneLeader setup history = (a b : History) (i j : ℕ) (s z : Server) → IsPrefix a history → IsPrefix b history → RunsAs (replay setup a) i s
    → RunsAs (replay setup b) j z → is_leading s.role ≡ true → is_leading z.role ≡ true → s.durable.term ≡ z.durable.term → i ≡ j

-- one op to a slot, and each running server's committed ops are those
pub record Agrees (setup : Setup) (history : History) : Type 0 where
  pub one_op : (slot t u : ℕ) (a b : Op) → IsChosen setup history slot t a → IsChosen setup history slot u b → a ≡ b
  pub committed : (i : ℕ) (s : Server) (slot : ℕ) → RunsAs (replay setup history) i s → Sets.contains s.committed slot ≡ true
      → (e : Entry) × (FinMap.get s.durable.log slot ≡ Some e) × ((t : ℕ) × IsChosen setup history slot t e.op)

-- each applied slot has a chosen op, and each sector is what these ops leave in slot order
pub record AppliesInOrder (setup : Setup) (history : History) : Type 0 where
  pub chosen : (i : ℕ) (s : Server) (slot : ℕ) → RunsAs (replay setup history) i s → 0 < slot → has_applied s slot ≡ true
      → (t : ℕ) × ((op : Op) × IsChosen setup history slot t op)
  pub sectors : (i : ℕ) (s : Server) → RunsAs (replay setup history) i s → AreFolds setup history (has_applied s) s.sectors

-- what was acknowledged in an earlier term is under a serving server's checkpoint, or committed in its log with this op
pub record KeepsAcknowledged (setup : Setup) (history : History) : Type 0 where
  pub chosen : (k : ℕ) (a : Acked) → slice_get (replay setup history).acked k ≡ Some a → (op : Op) × IsChosen setup history a.slot a.term op
  pub kept : (k : ℕ) (a : Acked) (op : Op) (i : ℕ) (s : Server) (l : Leader) → slice_get (replay setup history).acked k ≡ Some a
      → IsChosen setup history a.slot a.term op → RunsAs (replay setup history) i s → s.role ≡ Serving l → a.term < s.durable.term → s.durable.base < a.slot
      → (e : Entry) × (FinMap.get s.durable.log a.slot ≡ Some e) × (Sets.contains s.committed a.slot ≡ true) × (e.op ≡ op)

-- the three together, at one moment
pub record IsSafeNow (setup : Setup) (history : History) : Type 0 where
  pub agrees : Agrees setup history
  pub in_order : AppliesInOrder setup history
  pub acknowledged : KeepsAcknowledged setup history

-- at every moment of the history
abbrev pub IsSafe : Setup → History → Type 0
IsSafe setup history = (earlier : History) → IsPrefix earlier history → IsSafeNow setup earlier
