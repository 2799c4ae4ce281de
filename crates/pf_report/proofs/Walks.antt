-- The text of a log that is walked from slot to slot.
use Rattle.std.proofs.Common.{◌≡◌, ℕ, zero, suc, ◌+◌, ◌-◌, ◌<◌, ◌≤◌, inl, inr, true, false, List, [], ◌∷◌, ◌++◌, map, Some, arith, refl, sym, ap, subst, ◌∙◌, append_assoc, append-nil}
use Rattle.std.specs.FinMap
use Rattle.std.proofs.lemmas.Bool.{cases_lt}
use Rattle.std.specs.List.{flat_map}
use Rattle.pf_entry.specs.declared.entries.Entry.{Entry}
use Rattle.pf_entry.specs.Maps.{Map}
use Rattle.pf_entry.specs.EntryMaps.{entry_rows, log_of}
use Rattle.pf_entry.proofs.MapLists.{log_rows}
use Rattle.pf_holes.specs.HoleLogs.{Holes, IsNextSlot}
use Rattle.pf_holes.specs.Windows.{SlotsAreWithin}
use Rattle.pf_holes.proofs.Found.{none_or}
use Rattle.pf_holes.proofs.LogCopies.{IsCopied, copied_none, copied_hole, copied_more, copied_all}
use Rattle.pf_protocol.specs.Shown.{LogRow}
use Rattle.pf_report.specs.Texts.{held_text, line_in, slots_held}

abbrev pub lines : Holes → List Entry → List LogRow
lines log rows = map (line_in log) (entry_rows rows)

-- the entries up to a slot, whose texts were put
pub record IsWalked (log : Holes) (after : ℕ) (before now : List ℕ) : Type 0 where
  pub rows : List Entry
  pub copied : IsCopied log.entries after rows
  pub text : now ≡ before ++ flat_map held_text (lines log rows)

pub walked_none : (log : Holes) (base : ℕ) (out : List ℕ) → SlotsAreWithin base log.entries → IsWalked log base out out
walked_none log base out within = record { rows = []; copied = copied_none log.entries base [] within refl; text = sym (append-nil out) }

skipped : (entries : Map Entry) (after n : ℕ) (rows : List Entry) → IsCopied entries after rows
    → ((q : ℕ) → after < q → q ≤ after + n → FinMap.contains_key entries q ≡ false) → IsCopied entries (after + n) rows
skipped entries after zero rows copied none = let same : after ≡ after + 0 = omega arith in subst (λ (k : ℕ). IsCopied entries k rows) same copied
skipped entries after (suc n) rows copied none =
    let before = skipped entries after n rows copied (λ q above upto. none q above (omega arith)) in
    let next : after + n + 1 ≡ after + suc n = omega arith in
    subst (λ (k : ℕ). IsCopied entries k rows) next
    (copied_hole entries (after + n) rows before (none_or (FinMap.get entries (after + n + 1)) (λ some. let gone = none (after + n + 1) (omega arith) (omega arith) in (cc))))

lines_more : (log : Holes) (rows : List Entry) (e : Entry) → flat_map held_text (lines log (rows ++ e ∷ [])) ≡ flat_map held_text (lines log rows) ++ held_text (line_in log (e.slot, e))
lines_more log [] e = append-nil (held_text (line_in log (e.slot, e)))
lines_more log (x ∷ rows) e =
    ap (λ (l : List ℕ). held_text (line_in log (x.slot, x)) ++ l) (lines_more log rows e)
    ∙ sym (append_assoc (held_text (line_in log (x.slot, x))) (flat_map held_text (lines log rows)) (held_text (line_in log (e.slot, e))))

pub walked_more : (log : Holes) (after slot : ℕ) (before mid now : List ℕ) (e : Entry) → IsWalked log after before mid → IsNextSlot log.entries after slot
    → FinMap.get log.entries slot ≡ Some e → e.slot ≡ slot → now ≡ mid ++ held_text (line_in log (e.slot, e)) → IsWalked log slot before now
walked_more log after slot before mid now e walked next held own put =
    let n = slot - after - 1 in
    let is : after + n + 1 ≡ slot = omega (arith, next.above) in
    let near = skipped log.entries after n walked.rows walked.copied (λ q above upto. next.first q above (omega (arith, is))) in
    let rows = walked.rows ++ e ∷ [] in
    let one = held_text (line_in log (e.slot, e)) in
    record {
      rows = rows;
      copied = subst (λ (k : ℕ). IsCopied log.entries k rows) is
          (copied_more log.entries (after + n) walked.rows rows e near (ap (FinMap.get log.entries) is ∙ held) (own ∙ sym is) refl);
      text = put ∙ ap (λ (l : List ℕ). l ++ one) walked.text
          ∙ append_assoc before (flat_map held_text (lines log walked.rows)) one
          ∙ ap (λ (l : List ℕ). before ++ l) (sym (lines_more log walked.rows e));
    }

pub walked_all : (log : Holes) (after : ℕ) (before now : List ℕ) → IsWalked log after before now
    → ((q : ℕ) → after < q → FinMap.contains_key log.entries q ≡ false) → now ≡ before ++ flat_map held_text (slots_held log)
walked_all log after before now walked none =
    let rows = walked.rows in
    let whole : log_of rows ≡ log.entries = copied_all log.entries after after rows walked.copied (omega arith) upto in
    let entries : FinMap.entries log.entries ≡ entry_rows rows = ap (λ (m : Map Entry). FinMap.entries m) (sym whole) ∙ log_rows rows walked.copied.ascending in
    walked.text ∙ ap (λ (l : List (ℕ × Entry)). before ++ flat_map held_text (map (line_in log) l)) (sym entries)
  where
    upto : (q : ℕ) → FinMap.contains_key log.entries q ≡ true → q ≤ after
    upto q has = elim (cases_lt after q) [
      | inl high ↦ let gone = none q high in absurd (cc)
      | inr low ↦ low
    ]
