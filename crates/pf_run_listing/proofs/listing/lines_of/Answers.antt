use Rattle.std.proofs.Common.{◌≡◌, ◌+◌, [], ◌∷◌, ◌++◌, ℕ, List, take, sym, ap, ◌∙◌}
use Rattle.std.proofs.lemmas.List.{take_all, take_more}
use Rattle.pf_entry.specs.declared.records.Record.{Record}
use Rattle.pf_report.specs.Records.{record_line}
use Rattle.pf_run_listing.specs.Listing.{records_text}
use Rattle.pf_run_listing.proofs.Listings.{text_more}
use Rattle.pf_run_listing.proofs.listing.lines_of.Goals as goal

pub loop-record-preserved : goal.loop-record-preserved
loop-record-preserved c =
    let records = c.args.records.now in
    let i = c.loop-record.record-index in
    let record_now : Record = c.record-item.result in
    let taken : take (i + 1) records ≡ take i records ++ record_now ∷ [] = take_more records i record_now c.loop-record-test.true ∙ ap (λ (x : Record). take i records ++ x ∷ []) (sym c.record-item.is) in
    c.in_ok-put_record.ensures.ok ∙ ap (λ (l : List ℕ). l ++ record_line record_now) c.loop-record.invariant ∙ sym (text_more (take i records) record_now) ∙ ap records_text (sym taken)

pub returns : goal.returns
returns c = c.loop-record.invariant ∙ ap records_text (take_all c.loop-record.record-index c.args.records.now c.loop-record-test.false)
