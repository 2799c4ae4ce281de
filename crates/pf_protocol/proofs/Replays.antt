-- How a history is replayed event by event: what each event makes of a group, given the outcome of its rule.
use Rattle.std.proofs.Common.{◌≡◌, ℕ, zero, suc, ◌+◌, ◌-◌, ◌<◌, ◌≤◌, Bool, true, false, cond, List, [], ◌∷◌, ◌++◌, map, Option, Some, None, refl, sym, ap, subst, ◌∙◌, nat_lt, arith, inl, inr, Equal}
use Rattle.std.specs.Prelude.{slice_get, slice_set}
use Rattle.std.specs.List.{find, range_with_len}
use Rattle.std.specs.Ordering.{nat_cmp, eq_by_cmp}
use Rattle.std.proofs.lemmas.Bool.Decides.{nat_tests}
use Rattle.std.proofs.lemmas.Bool.{or_cases, false≢true}
use Rattle.std.specs.FinMap
use Rattle.std.specs.Cmp.{nat_cmp_total}
use Rattle.std.specs.FinMap.{len-entries, len-empty, get-empty, get-retain_keys, same_map, nat_cmp-IsAntisymmetric}
use Rattle.std.specs.Prelude.{is_some}
use Rattle.pf_entry.specs.Maps.{Numbers}
use Rattle.pf_entry.specs.Sets
use Rattle.pf_entry.proofs.Sets.{contains-insert}
use Rattle.pf_entry.specs.declared.entries.Entry.{Entry}
use Rattle.pf_entry.specs.declared.ops.Op.{Op}
use Rattle.pf_entry.specs.declared.packets.Packet.{Packet}
use Rattle.pf_protocol.specs.Servers.{Setup, Server, Running}
use Rattle.pf_protocol.specs.Outcomes.{Outcome}
use Rattle.pf_protocol.specs.declared.events.Event.TheVariants.{Submit, Fetch, Deliver, Elect, Claim, Finish}
use Rattle.pf_protocol.specs.Leading.{on_submit, on_fetch, on_elect}
use Rattle.pf_protocol.specs.Saving.{claimable, claimed, is_claimable, on_finish}
use Rattle.pf_protocol.specs.Rows.{on_packet}
use Rattle.pf_protocol.specs.Histories.{History, run}
use Rattle.pf_protocol.specs.declared.events.Happening.{Happening}
use Rattle.pf_protocol.specs.Groups.{ending, least_claim, Group, Whole, acted, with_sent, happens}

pub no_rows : {A : Type 0} (es : List A) → 0 ≡ Rattle.std.proofs.Common.length es → es ≡ []
no_rows [] e = refl
no_rows (x ∷ es) e = absurd (omega arith)

-- an empty map has no rows
pub empty_rows : (X : Type 0) → FinMap.entries {X = X} {R = nat_cmp} FinMap.empty ≡ []
empty_rows X = no_rows _ (sym (sym (len-entries FinMap.empty) ∙ len-empty nat_cmp X))

pub submits : (setup : Setup) (g : Group) (i : ℕ) (op : Op) (s : Server) (o : Outcome) → slice_get g.servers i ≡ Some (Running s) → on_submit setup s op s.role ≡ o → happens setup g (Submit i op) Whole ≡ acted g i o
unfolding happens
submits setup g i op s o at is = rw at (ap (acted g i) is)

pub fetches : (setup : Setup) (g : Group) (i : ℕ) (range : Rattle.pf_base.specs.Span.Span) (s : Server) (o : Outcome) → slice_get g.servers i ≡ Some (Running s) → on_fetch s range g.reads s.role ≡ o → happens setup g (Fetch i range) Whole ≡ acted g i o
unfolding happens
fetches setup g i range s o at is = rw at (ap (acted g i) is)

pub delivers : (setup : Setup) (g : Group) (k : ℕ) (packet : Packet) (before : Bool) (s : Server) (o : Outcome) → slice_get g.packets k ≡ Some (record { packet = packet; delivered = before; lost = false }) → slice_get g.servers packet.to ≡ Some (Running s) → on_packet setup s packet ≡ o → happens setup g (Deliver k) Whole ≡ acted (with_sent g k (record { packet = packet; delivered = true; lost = false })) packet.to o
unfolding happens
delivers setup g k packet before s o sent at is = rw (sent, at) (ap (acted (with_sent g k (record { packet = packet; delivered = true; lost = false })) packet.to) is)

pub elects : (setup : Setup) (g : Group) (i : ℕ) (s : Server) (o : Outcome) → slice_get g.servers i ≡ Some (Running s) → on_elect s ≡ o → happens setup g (Elect i) Whole ≡ acted (record g { elections = suc g.elections }) i o
unfolding happens
elects setup g i s o at is = rw at (ap (acted (record g { elections = suc g.elections }) i) is)

pub finishes : (setup : Setup) (g : Group) (i life slot : ℕ) (s : Server) (o : Outcome) → slice_get g.servers i ≡ Some (Running s) → on_finish s life slot ≡ o → happens setup g (Finish i life slot) Whole ≡ acted g i o
unfolding happens
finishes setup g i life slot s o at is = rw at (ap (acted g i) is)

-- a claim, at the least server that has a slot to apply
pub claims_at_0 : (setup : Setup) (g : Group) (s : Server) (slot : ℕ) → slice_get g.servers 0 ≡ Some (Running s) → claimable setup.window s ≡ Some slot → happens setup g Claim Whole ≡ record g { servers = slice_set g.servers 0 (Running (claimed s slot)) }
unfolding happens
claims_at_0 setup g s slot at is = rw (at, is, at) refl

pub claims_at_1 : (setup : Setup) (g : Group) → least_claim setup.window (slice_get g.servers 0) ≡ None → (s : Server) (slot : ℕ) → slice_get g.servers 1 ≡ Some (Running s) → claimable setup.window s ≡ Some slot → happens setup g Claim Whole ≡ record g { servers = slice_set g.servers 1 (Running (claimed s slot)) }
unfolding happens
claims_at_1 setup g none s slot at is = rw (none, at, is, at) refl

pub claims_at_2 : (setup : Setup) (g : Group) → least_claim setup.window (slice_get g.servers 0) ≡ None → least_claim setup.window (slice_get g.servers 1) ≡ None → (s : Server) (slot : ℕ) → slice_get g.servers 2 ≡ Some (Running s) → claimable setup.window s ≡ Some slot → happens setup g Claim Whole ≡ record g { servers = slice_set g.servers 2 (Running (claimed s slot)) }
unfolding happens
claims_at_2 setup g none nor s slot at is = rw (none, nor, at, is, at) refl

abbrev can_claim : Server → ℕ → Bool
can_claim s slot = is_claimable s (FinMap.get s.durable.log slot) slot

-- the first slot that can be claimed
pub first_is : (s : Server) (n : ℕ) → can_claim s (suc s.durable.base) ≡ true → claimable (suc n) s ≡ Some (suc s.durable.base)
unfolding claimable
first_is s n is = rw is refl

found_at : (p : ℕ → Bool) (n k : ℕ) → p k ≡ true → find p (range_with_len k (suc n)) ≡ Some k
found_at p n k is = rw is refl

passed : (p : ℕ → Bool) (n k slot : ℕ) → p k ≡ false → find p (range_with_len (k + 1) n) ≡ Some slot → find p (range_with_len k (suc n)) ≡ Some slot
passed p n k slot here rest = rw here rest

pub second_is : (s : Server) (n : ℕ) → s.durable.base ≡ 0 → can_claim s 1 ≡ false → can_claim s 2 ≡ true → claimable (suc (suc n)) s ≡ Some 2
unfolding claimable
second_is s n base here is = subst (λ b. find (can_claim s) (range_with_len (suc b) (suc (suc n))) ≡ Some 2) (sym base) (passed (can_claim s) (suc n) 1 2 here (found_at (can_claim s) n 2 is))

pub third_is : (s : Server) (n : ℕ) → s.durable.base ≡ 0 → can_claim s 1 ≡ false → can_claim s 2 ≡ false → can_claim s 3 ≡ true → claimable (suc (suc (suc n))) s ≡ Some 3
unfolding claimable
third_is s n base here next is = subst (λ b. find (can_claim s) (range_with_len (suc b) (suc (suc (suc n)))) ≡ Some 3) (sym base) (passed (can_claim s) (suc (suc n)) 1 3 here (passed (can_claim s) (suc n) 2 3 next (found_at (can_claim s) n 3 is)))

pub fourth_is : (s : Server) (n : ℕ) → s.durable.base ≡ 0 → can_claim s 1 ≡ false → can_claim s 2 ≡ false → can_claim s 3 ≡ false → can_claim s 4 ≡ true → claimable (suc (suc (suc (suc n)))) s ≡ Some 4
unfolding claimable
fourth_is s n base here next then is = subst (λ b. find (can_claim s) (range_with_len (suc b) (suc (suc (suc (suc n))))) ≡ Some 4) (sym base) (passed (can_claim s) (suc (suc (suc n))) 1 4 here (passed (can_claim s) (suc (suc n)) 2 4 next (passed (can_claim s) (suc n) 3 4 then (found_at (can_claim s) n 4 is))))

none_from : (p : ℕ → Bool) (n k : ℕ) → ((slot : ℕ) → p slot ≡ false) → find p (range_with_len k n) ≡ None
none_from p zero k none = refl
none_from p (suc n) k none = rw none (none_from p n (k + 1) none)

-- no slot can be claimed
pub none_is : (s : Server) (n : ℕ) → ((slot : ℕ) → can_claim s slot ≡ false) → claimable n s ≡ None
unfolding claimable
none_is s n none = none_from (can_claim s) n (suc s.durable.base) none

-- only a committed slot can be claimed
not_marked : (s : Server) (held : Option Entry) (slot : ℕ) → Sets.contains s.committed slot ≡ false → is_claimable s held slot ≡ false
not_marked s None slot is = refl
not_marked s (Some e) slot is = rw is refl

pub none_marked : (s : Server) (n : ℕ) → ((slot : ℕ) → Sets.contains s.committed slot ≡ true → can_claim s slot ≡ false) → claimable n s ≡ None
none_marked s n none = none_is s n (λ slot. by_test slot (Sets.contains s.committed slot) refl)
  where
    by_test : (slot : ℕ) (b : Bool) → Sets.contains s.committed slot ≡ b → can_claim s slot ≡ false
    by_test slot true is = none slot is
    by_test slot false is = not_marked s (FinMap.get s.durable.log slot) slot is

tied : (q k : ℕ) → eq_by_cmp nat_cmp q k ≡ true → nat_cmp q k ≡ Equal
tied q k e = grind (arith, nat_tests)

-- what fails at each number of a set
pub none_of : (p : ℕ → Bool) (slot : ℕ) → Sets.contains Sets.empty slot ≡ true → p slot ≡ false
none_of p slot is = absurd (false≢true (sym (ap is_some (get-empty nat_cmp slot)) ∙ is))

pub nor_of : (p : ℕ → Bool) (set : Numbers) (n : ℕ) → p n ≡ false → ((slot : ℕ) → Sets.contains set slot ≡ true → p slot ≡ false) → (slot : ℕ) → Sets.contains (Sets.insert set n) slot ≡ true → p slot ≡ false
nor_of p set n here rest slot is =
    elim (or_cases _ _ (sym (contains-insert set n slot) ∙ is)) [
      | inl same ↦ subst (λ k. p k ≡ false) (sym (nat_cmp-IsAntisymmetric slot n (tied slot n same))) here
      | inr among ↦ rest slot among
    ]

-- a history goes on from what its first event makes of the group
pub follows : (setup : Setup) (g later last : Group) (h : Happening) (hs : History) → happens setup g h.event (ending h.answer) ≡ later → run setup later hs ≡ last → run setup g (h ∷ hs) ≡ last
follows setup g later last h hs now rest = ap (λ x. run setup x hs) now ∙ rest

-- a set of which nothing is kept
pub retains_none : (set : Numbers) (p : ℕ → Bool) → ((slot : ℕ) → Sets.contains set slot ≡ true → p slot ≡ false) → Sets.retain set p ≡ Sets.empty
retains_none set p none =
    same_map nat_cmp_total nat_cmp-IsAntisymmetric (Sets.retain set p) Sets.empty
    (λ q. get-retain_keys set p q (λ x tied. ap p (sym (nat_cmp-IsAntisymmetric q x tied))) ∙ nothing q (FinMap.get set q) refl ∙ sym (get-empty nat_cmp q))
  where
    nothing : (q : ℕ) (found : Option (Unit {0})) → FinMap.get set q ≡ found → cond (p q) found None ≡ None
    nothing q None is = same (p q)
      where
        same : (b : Bool) → cond {A = Option (Unit {0})} b None None ≡ None
        same true = refl
        same false = refl
    nothing q (Some u) is = rw (none q (ap is_some is)) refl
