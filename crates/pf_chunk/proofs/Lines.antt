-- What lines show of a group.
use Rattle.std.proofs.Common.{◌≡◌, Bor, ℕ, Bool, true, false, ◌&&◌, IfNone, IfSome, MatchOption, List, [], ◌∷◌, ◌++◌, codes, map, nat_lt, Option, Some, None, slice_get, arith, refl, sym, ap, subst, ◌∙◌}
use Rattle.std.specs.Fmt.{decimal}
use Rattle.std.specs.Prelude.{IsTrue}
use Rattle.std.specs.FinMap
use Rattle.std.specs.List.{flat_map}
use Rattle.std.specs.declared.cmp.Ordering.TheVariants.{Equal}
use Rattle.std.specs.Ordering.{nat_cmp}
use Rattle.std.proofs.lemmas.Bool.Decides.{nat_tests}
use Rattle.pf_entry.specs.Maps.{Numbers}
use Rattle.pf_entry.specs.Sets
use Rattle.pf_entry.proofs.Sets.{contains-retain, same_set}
use Rattle.pf_entry.specs.Ops.{Sector}
use Rattle.pf_holes.specs.HoleLogs.{Holes}
use Rattle.pf_protocol.specs.Servers.{Server}
use Rattle.pf_protocol.specs.Groups.{Acked as AckedIs, Group}
use Rattle.pf_law_ports.specs.pf_group_network.specs.declared.kept.Acked.{Acked}
use Rattle.pf_law_ports.specs.pf_group_network.specs.Showing.{acked_entry}
use Rattle.pf_law_ports.specs.pf_group_network.specs.Shown.{IsMemoryOf}
use Rattle.pf_server_memory.specs.declared.running.Running.{Running as Memory}
use Rattle.pf_group_rounds.specs.pf_group.specs.Readers.{IsAppliedOf, OfRunning}
use Rattle.pf_group_rounds.specs.pf_group.proofs.Shown.{its_applied, its_holes, its_sectors, its_snapshots}
use Rattle.pf_report.specs.Texts.{applied_text, slots_held, report_line, log_text, no_snapshot_text, sectors_text, snapshot_text, spaced}
use Rattle.pf_chunk.specs.Showing.{LineIsShown, applied_shown, if_runs, log_shown, mark_shown, sectors_shown, snapshot_shown}

tied : (x q : ℕ) → nat_cmp q x ≡ Equal → x ≡ q
tied x q t = grind (arith, nat_tests)

and_twice : (a b : Bool) → ((a && b) && b) ≡ (a && b)
and_twice true true = refl
and_twice true false = refl
and_twice false true = refl
and_twice false false = refl

-- what passes a test passes it again
retained_twice : (set : Numbers) (p : ℕ → Bool) → Sets.retain (Sets.retain set p) p ≡ Sets.retain set p
retained_twice set p = same_set _ _ (λ q.
    contains-retain (Sets.retain set p) p q (λ x t. ap p (tied x q t))
    ∙ ap (λ b. b && p q) (contains-retain set p q (λ x t. ap p (tied x q t)))
    ∙ and_twice (Sets.contains set q) (p q)
    ∙ sym (contains-retain set p q (λ x t. ap p (tied x q t))))

text_of : ℕ → Numbers → List ℕ
text_of base above = codes "applied " ++ decimal base ++ flat_map spaced (Sets.items above)

same_text : (slots : Numbers) (s : Server) → IsAppliedOf slots s → applied_text s.durable.base slots ≡ applied_shown s
unfolding text_of
same_text slots s is =
    let above : ℕ → Bool = nat_lt s.durable.base in
    ap (text_of s.durable.base) (sym (retained_twice slots above) ∙ ap (λ (set : Numbers). Sets.retain set above) is.above)

-- what a running server has in memory, as lines show it
module _ (g : Group) (i : ℕ) (me : Memory) (at : OfRunning g i (IsMemoryOf me)) where
  pub log_is : log_text me.term me.log.base (slots_held me.log) ≡ if_runs (slice_get g.servers i) log_shown
  log_is =
      ap (λ term. log_text term me.log.base (slots_held me.log)) at.2.cached.term
      ∙ ap (λ (log : Holes). log_text at.0.durable.term log.base (slots_held log)) (its_holes me at.0 at.2)
      ∙ ap (λ c. if_runs c log_shown) (sym at.1)

  -- the slots above its checkpoint
  pub applied_is : (base : ℕ) → base ≡ me.log.base → applied_text base me.applied.slots ≡ if_runs (slice_get g.servers i) applied_shown
  applied_is base is =
      ap (λ base. applied_text base me.applied.slots) (is ∙ at.2.cached.base)
      ∙ same_text me.applied.slots at.0 (its_applied me at.0 at.2)
      ∙ ap (λ c. if_runs c applied_shown) (sym at.1)

  pub sectors_are : sectors_text me.sectors ≡ if_runs (slice_get g.servers i) sectors_shown
  sectors_are = ap sectors_text (its_sectors me at.0 at.2) ∙ ap (λ c. if_runs c sectors_shown) (sym at.1)

  pub mark_is : (slot : ℕ) → snapshot_shown slot (FinMap.get me.snapshots slot) ≡ if_runs (slice_get g.servers i) (mark_shown slot)
  mark_is slot = ap (λ snapshots. snapshot_shown slot (FinMap.get snapshots slot)) (its_snapshots me at.0 at.2) ∙ ap (λ c. if_runs c (mark_shown slot)) (sym at.1)

-- a snapshot that was looked up was put
pub mark_put : (found : Option (Bor (List Sector))) (there : Option (List Sector)) (slot : ℕ) (Put : List ℕ → Type 0) → MatchOption found (there ≡ None) (λ x. there ≡ Some x.now)
    → IfNone found (Put (no_snapshot_text slot)) → IfSome found (λ x. Put (snapshot_text slot x.now)) → Put (snapshot_shown slot there)
mark_put (Some x) there slot Put is none some = subst (λ o. Put (snapshot_shown slot o)) (sym is) some
mark_put None there slot Put is none some = subst (λ o. Put (snapshot_shown slot o)) (sym is) none

-- the slots that were acknowledged
pub same_slots : (acked : List AckedIs) → map (λ (a : Acked). a.slot) (map acked_entry acked) ≡ map (λ (a : AckedIs). a.slot) acked
same_slots [] = refl
same_slots (a ∷ rest) = ap (λ slots. a.slot ∷ slots) (same_slots rest)

-- a line was put that shows this, where the disks tell their content
pub shown_so : (told : Bool) (number : ℕ) (text shown before after : List ℕ) → after ≡ before ++ report_line number text → (IsTrue told → text ≡ shown) → LineIsShown told number shown before after
shown_so told number text shown before after put same = record { text = text; put = put; same = same }
