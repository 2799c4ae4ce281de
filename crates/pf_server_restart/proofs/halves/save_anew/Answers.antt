use Rattle.std.proofs.Common.{inr}
use Rattle.pf_entry.specs.Records.{image_of}
use Rattle.pf_server_restart.specs.Reviving.{anew}
use Rattle.pf_server_restart.proofs.NextImages.{begun_lives, image_here, room_here, saved_begun}
use Rattle.pf_server_restart.proofs.halves.save_anew.Goals as goal

pub save-requires-clause-whole : goal.save-requires-clause-whole
save-requires-clause-whole g c =
    let d = c.requires.lives.0 in
    let l = c.requires.lives.2 in
    (d, c.requires.lives.1, (image_of (anew d), image_here d c.args.me.now l.seat l.life l.made l.revived l.early c.args.body.now (c.requires.body d l)))

pub save-requires-clause-room : goal.save-requires-clause-room
save-requires-clause-room g c =
    let d = c.requires.lives.0 in
    let l = c.requires.lives.2 in
    room_here d c.args.me.now l.seat l.life l.made l.revived l.early c.args.body.now (c.requires.body d l)

pub returns-in-Err-clause-halted : goal.returns-in-Err-clause-halted
returns-in-Err-clause-halted g c = λ d recorded l. c.in-Err.ensures.err d (image_of (anew d)) recorded (image_here d c.args.me.now l.seat l.life l.made l.revived l.early c.args.body.now (c.requires.body d l))

pub returns-in-Err-clause-any_moment : goal.returns-in-Err-clause-any_moment
returns-in-Err-clause-any_moment g c = λ d recorded l. inr (c.in-Err.ensures.any_moment d (image_of (anew d)) recorded (image_here d c.args.me.now l.seat l.life l.made l.revived l.early c.args.body.now (c.requires.body d l)))

pub returns-in-Ok-clause-any_moment : goal.returns-in-Ok-clause-any_moment
returns-in-Ok-clause-any_moment g c = λ d recorded l. inr (c.in-Ok.ensures.any_moment d (image_of (anew d)) recorded (image_here d c.args.me.now l.seat l.life l.made l.revived l.early c.args.body.now (c.requires.body d l)))

pub returns-in-Ok-clause-saved : goal.returns-in-Ok-clause-saved
returns-in-Ok-clause-saved g c = λ d seat life made begun.
    let l = begun_lives g.S.Store.model d c.requires.lives.0 c.args.store.now c.args.me.now seat life made begun c.requires.lives.2 in
    let is = image_here d c.args.me.now seat life made l.revived l.early c.args.body.now (c.requires.body d l) in
    saved_begun g.S.Store.model d c.args.me.now seat life made l.revived l.early c.save.new.self c.args.body.now is (c.in-Ok.ensures.ok d (image_of (anew d)) begun.stands.recorded is) c.in-Ok.ensures.used c.in-Ok.ensures.format
