use Rattle.std.proofs.Common.{◌++◌, ◌∙◌, ap, length, map, refl}
use Rattle.pf_protocol.specs.Rows.{settled}
use Rattle.pf_server_memory.specs.Standing.{read_in_memory, server_of, setup_of}
use Rattle.pf_server_apply.proofs.AnsweredReads.{answers_alike, left_alike}
use Rattle.pf_server_apply.proofs.reads.settle.Goals as goal

pub returns-clause-after : goal.returns-clause-after
unfolding server_of setup_of settled
returns-clause-after c = λ d cached.
    let me = c.args.me.now in
    record {
      server_is = ap (λ reads. record (server_of d me) { reads = reads }) (ap (map read_in_memory) c.answer_ready.ensures.left ∙ left_alike d me cached (length me.sectors) me.reads c.requires.asked.each);
      setup_same = refl;
      cached = record {
        number = cached.number;
        term = cached.term;
        generation = cached.generation;
        base = cached.base;
        starts = cached.starts;
        log = cached.log;
        format = cached.format;
        prefix = cached.prefix;
        role = cached.role;
        jobs = cached.jobs;
        places = cached.places;
        rooms = cached.rooms;
        near = cached.near;
        replies = c.answer_ready.ensures.room;
      };
    }

pub returns-clause-answers : goal.returns-clause-answers
unfolding server_of
returns-clause-answers c = λ d cached.
    let me = c.args.me.now in
    c.answer_ready.ensures.answers ∙ ap (λ answers. me.replies.answers ++ answers) (answers_alike d me cached (length me.sectors) me.reads c.requires.asked.each)
