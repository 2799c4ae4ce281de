use Rattle.std.proofs.Common.{◌≡◌, ◌<◌, ◌∙◌, ap, sym, subst, inl, inr, take, get_or, ℕ, arith}
use Rattle.std.proofs.lemmas.Bool.{cases_eq}
use Rattle.std.proofs.lemmas.List.{get_or_default}
use Rattle.pf_tree_tables.specs.declared.tables.DirectoryEntry.{DirectoryEntry}
use Rattle.pf_check.specs.Walks.{Front, front_of, front_reaches, reach_all}
use Rattle.pf_check.proofs.Fronts.{reach_more}
use Rattle.pf_check.proofs.reaching.reach_all.Goals as goal

pub loop-row-preserved : goal.loop-row-preserved
loop-row-preserved c =
    let row = c.row-item.result in
    let k = c.loop-row.row-index in
    let rows = c.args.rows.now in
    let begun = front_of c.args.seen.now.items c.args.queue.now.items in
    record {
      front =
          c.in_ok-reach.ensures.front
          ∙ ap (λ (f : Front). front_reaches f row.inode) c.loop-row.invariant.front
          ∙ ap (λ (x : DirectoryEntry). front_reaches (reach_all begun (take k rows)) x.inode) c.row-item.is
          ∙ sym (reach_more begun rows k row c.loop-row-test.true);
      places = c.in_ok-reach.ensures.places;
      low = λ j x before. elim (cases_eq j k) [
        | inl same ↦
            let is : row ≡ get_or rows j x = c.row-item.is ∙ get_or_default rows k row x c.loop-row-test.true ∙ ap (λ (i : ℕ). get_or rows i x) (sym same) in
            subst (λ (r : DirectoryEntry). r.inode < 65536) is c.in_ok-reach.ensures.low
        | inr apart ↦ c.loop-row.invariant.low j x (omega (arith, before, apart))
      ];
    }
