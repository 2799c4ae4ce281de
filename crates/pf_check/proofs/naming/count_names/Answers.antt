use Rattle.std.proofs.Common.{◌≡◌, ◌≤◌, ◌∙◌, refl, ap, sym, take, get_or, length, replicate, min, List, ℕ, arith}
use Rattle.std.proofs.lemmas.List.{length-replicate, get_or-replicate, take_all}
use Rattle.pf_tree_tables.specs.declared.tables.DirectoryEntry.{DirectoryEntry}
use Rattle.pf_tree_tables.specs.Tables.{names_in}
use Rattle.pf_check.specs.Raw.{RawTables}
use Rattle.pf_check.specs.Walks.{BlocksAreCounted, all_counted, counted}
use Rattle.pf_check.proofs.Namings.{all_counted_is, all_counted_more}
use Rattle.pf_check.proofs.naming.count_names.Goals as goal

whole : (t : RawTables) (begun : List ℕ) (n m : ℕ) → begun ≡ replicate m 0 → m ≡ 65536 → length t.entries ≤ n → (counts : List ℕ) → counts ≡ all_counted begun (take n t.entries) → length counts ≡ 65536 → BlocksAreCounted t counts
whole t begun n m e size over counts is places = record {
  places = places;
  each = λ i low.
      let l = ap length e in
      let r = length-replicate {A = ℕ} m 0 in
      let z : get_or begun i 0 ≡ min 2 0 = ap (λ (xs : List ℕ). get_or xs i 0) e ∙ get_or-replicate m i 0 0 (omega (arith, low, size)) ∙ omega arith in
      ap (λ (xs : List ℕ). get_or xs i 0) (is ∙ ap (all_counted begun) (take_all n t.entries over))
      ∙ all_counted_is t.entries begun i 0 (omega (arith, l, r, low, size)) z ∙ ap (min 2) (omega arith);
}

pub returns : goal.returns
returns c =
    let raw = c.numbers-number-end.ensures.raw.entries in
    let count = c.numbers-number-end.ensures.count in
    whole c.args.tables.now c.in_ok-counts.counts.items c.loop-number.number 65536 c.in_ok-counts.ensures refl (omega (arith, raw, count))
    c.loop-number.counts.items c.loop-number.invariant.counts c.loop-number.invariant.places

pub loop-number-preserved : goal.loop-number-preserved
loop-number-preserved c =
    let raw = c.numbers-number-end.ensures.raw.entries in
    let count = c.numbers-number-end.ensures.count in
    let k = c.loop-number.number in
    let es = c.args.tables.now.entries in
    let begun = c.in_ok-counts.counts.items in
    record {
      counts =
          c.count_rows.ensures.counts
          ∙ ap (λ (rows : List DirectoryEntry). counted c.loop-number.counts.items rows) c.names_in.ensures
          ∙ ap (λ (xs : List ℕ). counted xs (names_in es k)) c.loop-number.invariant.counts
          ∙ sym (all_counted_more begun es k (omega arith));
      places = c.count_rows.ensures.places;
    }
