-- A sector holds what its last writer wrote.
use Rattle.std.proofs.Common.{◌≡◌, ℕ, zero, suc, ◌-◌, ◌<◌, ◌≤◌, ◌⊎◌, inl, inr, Bool, true, false, List, [], ◌∷◌, Option, Some, None, slice_get, slice_index_or, arith, refl, sym, ap, subst, ◌∙◌}
use Rattle.std.proofs.lemmas.Bool.{cases_lt, cond-true, false≢true}
use Rattle.std.proofs.lemmas.Option.{same_Some, none-some}
use Rattle.pf_entry.specs.Maps.{Numbers}
use Rattle.pf_entry.specs.declared.ops.Op.{Op}
use Rattle.pf_entry.specs.declared.ops.Op.TheVariants.{Write, Noop, Mark}
use Rattle.pf_entry.specs.Ops.{Sector, writes, written, zero_sector}
use Rattle.pf_entry.specs.Applying.{is_applied, after_op, fold_to}
use Rattle.pf_entry.specs.Records.{Durable}
use Rattle.pf_entry.specs.declared.packets.Body.TheVariants.{Image}
use Rattle.pf_protocol.specs.Servers.{Setup, Server, has_applied}
use Rattle.pf_protocol.specs.Groups.{Sent}
use Rattle.pf_protocol.specs.Histories.{History, replay, RunsAs, IsChosen}
use Rattle.pf_protocol.specs.Kept.{MayHold, IsCovered}
use Rattle.pf_protocol.specs.LastWriters.{bytes_for, HoldLastWrites}
use Rattle.pf_protocol.proofs.Histories.{one_chosen_op}
use Rattle.pf_protocol.proofs.Facts.{servers_covered, disks_covered, images_covered}
use Rattle.pf_entry.proofs.Folds.{applied_bound, fold_above}

found_there : (xs : List Sector) (k : ℕ) (x old : Sector) → slice_get xs k ≡ Some x → slice_index_or xs k old ≡ x
found_there [] k x old is = absurd (none-some x is)
found_there (y ∷ ys) zero x old is = same_Some y x is
found_there (y ∷ ys) (suc k) x old is = found_there ys k x old is

wrote : (op : Op) (x : ℕ) (its old : Sector) → bytes_for op x ≡ Some its → written op x old ≡ its
unfolding bytes_for written
wrote (Write range payload) x its old is = found_there payload (x - range.first) its old is
wrote Noop x its old is = absurd (none-some its is)
wrote Mark x its old is = absurd (none-some its is)

-- the last slot that writes the sector settles what it holds
last_slot : (ops : ℕ → Option Op) (done : ℕ → Bool) (x : ℕ) (zeros its : Sector) (slot n : ℕ) (op : Op) → 0 < slot → slot ≤ n → done slot ≡ true → ops slot ≡ Some op → writes op x ≡ true → bytes_for op x ≡ Some its → ((a : ℕ) → slot < a → done a ≡ true → (other : Op) → ops a ≡ Some other → writes other x ≡ false) → fold_to ops done x zeros n ≡ its
last_slot ops done x zeros its zero n op above low did is does has quiet = absurd (omega (arith, above))
last_slot ops done x zeros its (suc k) n op above low did is does has quiet =
    fold_above ops done x zeros (suc k) quiet n low
    ∙ cond-true (done (suc k)) _ _ did
    ∙ ap (λ o. after_op o x (fold_to ops done x zeros k)) is
    ∙ cond-true (writes op x) _ _ does
    ∙ wrote op x its (fold_to ops done x zeros k) has

module _ (setup : Setup) (history : History) (term : ℕ) (done : ℕ → Bool) (sectors : List Sector) (cover : IsCovered setup history term done sectors) (bound : ℕ) (bounded : (slot : ℕ) → done slot ≡ true → slot ≤ bound) where
  -- the op that is chosen in each applied slot
  picked : (slot : ℕ) (c : Bool) → done slot ≡ c → Option Op
  picked slot false isnt = None
  picked slot true is = elim (cases_lt 0 slot) [
    | inl above ↦ Some (cover.chosen slot above is).0
    | inr zero_slot ↦ None
  ]

  ops : ℕ → Option Op
  ops slot = picked slot (done slot) refl

  has_picked : (slot : ℕ) (c : Bool) (is : done slot ≡ c) → 0 < slot → c ≡ true → (op : Op) × (picked slot c is ≡ Some op) × ((t : ℕ) × IsChosen setup history slot t op)
  unfolding picked
  has_picked slot false is above yes_true = absurd (false≢true yes_true)
  has_picked slot true is above yes_true = by_place (cases_lt 0 slot)
    where
      by_place : (place : (0 < slot) ⊎ (slot ≤ 0)) → (op : Op) × ((elim place [ inl above ↦ Some (cover.chosen slot above is).0 | inr zero_slot ↦ None ]) ≡ Some op) × ((t : ℕ) × IsChosen setup history slot t op)
      by_place (inl it) = let c = cover.chosen slot it is in (c.0, refl, (c.1.0, c.1.2))
      by_place (inr low) = absurd (omega (arith, above, low))

  are_chosen : (slot : ℕ) → 0 < slot → done slot ≡ true → (op : Op) × (ops slot ≡ Some op) × ((t : ℕ) × IsChosen setup history slot t op)
  unfolding ops
  are_chosen slot above is = has_picked slot (done slot) refl above is

  folded : (x : ℕ) (bytes : Sector) → slice_get sectors x ≡ Some bytes → bytes ≡ fold_to ops done x zero_sector bound
  folded x bytes at = cover.folded x bound bytes ops at bounded are_chosen

  op_is : (slot t : ℕ) (op : Op) → 0 < slot → done slot ≡ true → IsChosen setup history slot t op → ops slot ≡ Some op
  op_is slot t op above is c =
      let o = are_chosen slot above is in
      o.1 ∙ ap Some (one_chosen_op setup history slot o.2.0 t o.0 op o.2.1 c)

  hold_last : HoldLastWrites setup history done sectors
  hold_last = record {
    written = λ x slot op bytes its at w has. folded x bytes at
        ∙ last_slot ops done x zero_sector its slot bound op w.above (bounded slot w.applied) w.applied (op_is slot w.chosen.0 op w.above w.applied w.chosen.1) w.writes_it has
        (λ a later did other is. let o = are_chosen a (omega (arith, later)) did in w.is_last a o.2.0 other later did (subst (IsChosen setup history a o.2.0) (same_Some o.0 other (sym o.1 ∙ is)) o.2.1));
    untouched = λ x bytes at none. folded x bytes at
        ∙ fold_above ops done x zero_sector 0 (λ a above did other is. let o = are_chosen a above did in none a o.2.0 other above did (subst (IsChosen setup history a o.2.0) (same_Some o.0 other (sym o.1 ∙ is)) o.2.1)) bound (omega arith);
  }

module _ (setup : Setup) (history : History) where
  pub servers_hold : (i : ℕ) (s : Server) → RunsAs (replay setup history) i s → HoldLastWrites setup history (has_applied s) s.sectors
  servers_hold i s at = let n = applied_bound s.durable.base s.applied in hold_last setup history s.durable.term (has_applied s) s.sectors (servers_covered setup history i s at) n.0 n.1

  pub disks_hold : (i : ℕ) (d : Durable) → MayHold (replay setup history) i d → HoldLastWrites setup history (is_applied d.base d.saved) d.sectors
  disks_hold i d at = let n = applied_bound d.base d.saved in hold_last setup history d.term (is_applied d.base d.saved) d.sectors (disks_covered setup history i d at) n.0 n.1

  pub images_hold : (k : ℕ) (sent : Sent) (base : ℕ) (applied : Numbers) (sectors : List Sector) → slice_get (replay setup history).packets k ≡ Some sent → sent.packet.body ≡ Image base applied sectors → HoldLastWrites setup history (is_applied base applied) sectors
  images_hold k sent base applied sectors at is = let n = applied_bound base applied in hold_last setup history sent.packet.term (is_applied base applied) sectors (images_covered setup history k sent base applied sectors at is) n.0 n.1
