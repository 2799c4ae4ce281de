use Rattle.std.proofs.Common.{ap, ◌∙◌}
use Rattle.pf_chunklog.proofs.Steps.{if_some, other_err, told}
use Rattle.pf_image.specs.Pairs.{format_of}
use Rattle.pf_run_listing.specs.Listing.{records_text}
use Rattle.pf_run_listing.proofs.FoundPairs.{found_records}
use Rattle.pf_run_listing.proofs.listing.found_lines.Goals as goal

pub returns-in_ok-lines_of-in-Ok-clause-found : goal.returns-in_ok-lines_of-in-Ok-clause-found
returns-in_ok-lines_of-in-Ok-clause-found g c =
    let text = c.in_ok-lines_of-in-Ok.field-0.items in
    found_records g.D.Disk.seen g.D.Disk.may_leave g.met.D.Disk.among c.args.pair.now c.reload.new.self c.reload.ensures.head c.reload.ensures.zero c.reload.ensures.one c.in-Ok.read.raws text c.in-Ok.ensures.whole
    (record { records = c.in-Ok.read.records.items; spelled = c.in-Ok.ensures.spelled; text_is = c.in_ok-lines_of-in-Ok.ensures ∙ ap records_text c.deref.ensures.value })

pub returns-in_ok-lines_of-in-Ok-clause-recoverable : goal.returns-in_ok-lines_of-in-Ok-clause-recoverable
returns-in_ok-lines_of-in-Ok-clause-recoverable g c = record {
  content = (format_of c.reload.new.self, c.in-Ok.read.raws);
  found = c.in-Ok.ensures.recoverable;
  told = record { records = c.in-Ok.read.records.items; spelled = c.in-Ok.ensures.spelled; text_is = c.in_ok-lines_of-in-Ok.ensures ∙ ap records_text c.deref.ensures.value };
}

pub returns-in-Err-clause-none : goal.returns-in-Err-clause-none
returns-in-Err-clause-none g c = if_some (g.D.Disk.seen c.args.pair.now.zero.disk) _ (λ a is_a. if_some (g.D.Disk.seen c.args.pair.now.one.disk) _ (λ b is_b is half records found.
    told _ b _ is_b (told _ a _ is_a c.in-Err.ensures.not_ours) (other_err _ _ is) half records found))
