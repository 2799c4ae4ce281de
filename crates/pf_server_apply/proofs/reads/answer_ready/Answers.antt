use Rattle.std.proofs.Common.{◌≤◌, ◌++◌, ◌∙◌, append-nil, List, length, map, ap, arith, subst, sym}
use Rattle.std.specs.List.{filter}
use Rattle.pf_entry.specs.Sets as set
use Rattle.pf_election.specs.Reads.{confirmed_in, is_read_ready}
use Rattle.pf_election.specs.declared.probes.ProbedRead.{ProbedRead as ReadHere}
use Rattle.pf_server_memory.specs.Replying.{Replying}
use Rattle.pf_server_apply.specs.Reads.{read_reply}
use Rattle.pf_server_apply.proofs.AnsweredReads.{none_ready, taken_answers, taken_confirmed, taken_count, taken_fits, taken_left, taken_len, taken_rest}
use Rattle.pf_server_apply.proofs.reads.answer_ready.Goals as goal

pub answer-requires : goal.answer-requires
answer-requires c =
    let ready = is_read_ready (set.contains c.args.applied.now.slots) in
    let chunk = length c.args.sectors.now in
    let asked = c.loop-read.invariant.asked in
    let t = c.in-Some.ensures.least in
    record {
      room = omega (arith, c.loop-read.invariant.room, taken_confirmed (set.contains c.args.applied.now.slots) c.loop-read.reads c.take_ready.new.self c.in-Some.read.0 c.in-Some.read.1 t);
      count = taken_count chunk ready c.loop-read.reads c.take_ready.new.self c.in-Some.read.0 c.in-Some.read.1 t asked;
      fits = taken_fits chunk ready c.loop-read.reads c.take_ready.new.self c.in-Some.read.0 c.in-Some.read.1 t asked;
    }

pub loop-read-preserved : goal.loop-read-preserved
loop-read-preserved c =
    let ready = is_read_ready (set.contains c.args.applied.now.slots) in
    let sectors = c.args.sectors.now in
    let chunk = length sectors in
    let asked = c.loop-read.invariant.asked in
    let t = c.in-Some.ensures.least in
    let rest = c.take_ready.new.self in
    record {
      asked = taken_rest chunk ready c.loop-read.reads rest c.in-Some.read.0 c.in-Some.read.1 t asked;
      left = taken_left chunk ready c.loop-read.reads rest c.in-Some.read.0 c.in-Some.read.1 t asked ∙ c.loop-read.invariant.left;
      answers =
          ap (λ (r : Replying). r.answers ++ map (read_reply sectors) (filter ready rest)) c.answer.ensures
          ∙ taken_answers chunk ready c.loop-read.reads rest c.in-Some.read.0 c.in-Some.read.1 t asked sectors c.loop-read.replies.answers
          ∙ c.loop-read.invariant.answers;
      room = omega (arith, ap (λ (r : Replying). r.rooms) c.answer.ensures, c.loop-read.invariant.room, taken_confirmed (set.contains c.args.applied.now.slots) c.loop-read.reads rest c.in-Some.read.0 c.in-Some.read.1 t);
    }

pub loop-read-smaller : goal.loop-read-smaller
loop-read-smaller c =
    omega (arith, taken_len (length c.args.sectors.now) (is_read_ready (set.contains c.args.applied.now.slots)) c.loop-read.reads c.take_ready.new.self c.in-Some.read.0 c.in-Some.read.1 c.in-Some.ensures.least c.loop-read.invariant.asked)

pub returns : goal.returns
returns c =
    let ready = is_read_ready (set.contains c.args.applied.now.slots) in
    let none = none_ready ready c.loop-read.reads c.in_default.ensures.least in
    let same = c.in_default.ensures.same in
    record {
      left = same ∙ sym none.1 ∙ c.loop-read.invariant.left;
      answers = sym (append-nil c.loop-read.replies.answers) ∙ ap (λ reads. c.loop-read.replies.answers ++ map (read_reply c.args.sectors.now) reads) (sym none.0) ∙ c.loop-read.invariant.answers;
      room = subst (λ (reads : List ReadHere). confirmed_in reads ≤ c.loop-read.replies.rooms) (sym same) c.loop-read.invariant.room;
    }
