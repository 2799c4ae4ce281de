use Rattle.std.proofs.Common.{inr, subst}
use Rattle.std.specs.Io.KnownBytes.{Appends}
use Rattle.pf_io.specs.Causes.{Rose}
use Rattle.pf_run_lines.specs.Ends.{AppendsFront}
use Rattle.pf_run_lines.proofs.Taken.{appends_none}
use Rattle.pf_run_lines.proofs.WriteFaults.{done_of, failed_of}
use Rattle.pf_run_listing.specs.Listing.{listed_text}
use Rattle.pf_run.proofs.list.list.Goals as goal

pub returns-in_default : goal.returns-in_default
returns-in_default g c = (appends_none (g.K.Sink.taken c.args.sink.now), inr c.list_server.ensures.read)

pub returns-then-is_err : goal.returns-then-is_err
returns-then-is_err g c =
    let taken = g.K.Sink.taken in
    let full = Rose (g.K.Sink.faults c.args.sink.now) (g.K.Sink.faults c.write_all.new.sink) in (
      failed_of c.write_all.result full c.if-is_err.ensures.value c.write_all.ensures.cause,
      record {
        text = listed_text c.in-Ok.listed;
        listed = c.in-Ok.ensures.listed;
        took = subst (AppendsFront (taken c.args.sink.now) (taken c.write_all.new.sink)) c.text.ensures
            (failed_of c.write_all.result (AppendsFront (taken c.args.sink.now) (taken c.write_all.new.sink) c.text.result.now) c.if-is_err.ensures.value c.write_all.ensures.front);
      },
    )

pub returns : goal.returns
returns g c =
    let taken = g.K.Sink.taken in
    record {
      text = listed_text c.in-Ok.listed;
      listed = c.in-Ok.ensures.listed;
      took = subst (Appends (taken c.args.sink.now) (taken c.write_all.new.sink)) c.text.ensures
          (done_of c.write_all.result (Appends (taken c.args.sink.now) (taken c.write_all.new.sink) c.text.result.now) c.if-is_err.ensures.value c.write_all.ensures.ok);
    }
