use Rattle.pf_entry.specs.declared.packets.Body.TheVariants.{RequestVote, Vote, Accept, Ack, Nack, Commit, Probe, ProbeOk, Image}
use Rattle.pf_protocol.specs.Following.{on_request_vote, on_accept, on_nack, on_commit, on_probe, on_image}
use Rattle.pf_protocol.specs.Leading.{on_vote, on_ack, on_probe_ok}
use Rattle.pf_protocol.specs.Rows.{on_message, on_packet}
use Rattle.pf_server_memory.specs.Standing.{server_of, setup_of}
use Rattle.pf_server_memory.proofs.StepEnds.{reworded}
use Rattle.pf_server.proofs.Packets.{same_row}
use Rattle.pf_server.proofs.receiving.take_packet.Goals as goal

pub returns-in-RequestVote : goal.returns-in-RequestVote
unfolding on_message
returns-in-RequestVote g c = λ d stands.
    let me = c.args.me.now in
    let s = server_of d me in
    let p = c.args.packet in
    let w = c.in-RequestVote in
    reworded g.S.Store.model d c.args.store.now c.request_vote.new.store me c.request_vote.new.me c.args.out.now c.request_vote.new.out (on_request_vote s p.from p.term w.base) (on_packet (setup_of me) s p) c.request_vote.result
    (same_row (setup_of me) s p (RequestVote w.base) w.is) (c.request_vote.ensures.step d stands)

pub returns-in-Vote : goal.returns-in-Vote
unfolding on_message
returns-in-Vote g c = λ d stands.
    let me = c.args.me.now in
    let s = server_of d me in
    let p = c.args.packet in
    let w = c.in-Vote in
    reworded g.S.Store.model d c.args.store.now c.vote.new.store me c.vote.new.me c.args.out.now c.vote.new.out (on_vote s p.term w.log s.role) (on_packet (setup_of me) s p) c.vote.result
    (same_row (setup_of me) s p (Vote w.log) w.is) (c.vote.ensures.step d stands)

pub returns-in-Accept : goal.returns-in-Accept
unfolding on_message
returns-in-Accept g c = λ d stands.
    let me = c.args.me.now in
    let s = server_of d me in
    let p = c.args.packet in
    let w = c.in-Accept in
    reworded g.S.Store.model d c.args.store.now c.accept.new.store me c.accept.new.me c.args.out.now c.accept.new.out (on_accept (setup_of me) s p.from w.entry) (on_packet (setup_of me) s p) c.accept.result
    (same_row (setup_of me) s p (Accept w.entry) w.is) (c.accept.ensures.step d stands)

pub returns-in-Ack : goal.returns-in-Ack
unfolding on_message
returns-in-Ack g c = λ d stands.
    let me = c.args.me.now in
    let s = server_of d me in
    let p = c.args.packet in
    let w = c.in-Ack in
    reworded g.S.Store.model d c.args.store.now c.args.store.now me c.ack.new.me c.args.out.now c.ack.new.out (on_ack s p.from p.term w.slot w.upto s.role) (on_packet (setup_of me) s p) c.ack.result
    (same_row (setup_of me) s p (Ack w.slot w.upto) w.is) (c.ack.ensures.step d stands)

pub returns-in-Nack : goal.returns-in-Nack
unfolding on_message
returns-in-Nack g c = λ d stands.
    let me = c.args.me.now in
    let s = server_of d me in
    let p = c.args.packet in
    let w = c.in-Nack in
    reworded g.S.Store.model d c.args.store.now c.nack.new.store me c.nack.new.me c.args.out.now c.args.out.now (on_nack s p.term) (on_packet (setup_of me) s p) c.nack.result
    (same_row (setup_of me) s p (Nack) w.is) (c.nack.ensures.step d c.args.out.now stands c.requires.fresh)

pub returns-in-Commit : goal.returns-in-Commit
unfolding on_message
returns-in-Commit g c = λ d stands.
    let me = c.args.me.now in
    let s = server_of d me in
    let p = c.args.packet in
    let w = c.in-Commit in
    reworded g.S.Store.model d c.args.store.now c.args.store.now me c.commit.new.me c.args.out.now c.args.out.now (on_commit s p.term w.slot) (on_packet (setup_of me) s p) c.commit.result
    (same_row (setup_of me) s p (Commit w.slot) w.is) (c.commit.ensures.step d c.args.out.now stands c.requires.fresh)

pub returns-in-Probe : goal.returns-in-Probe
unfolding on_message
returns-in-Probe g c = λ d stands.
    let me = c.args.me.now in
    let s = server_of d me in
    let p = c.args.packet in
    let w = c.in-Probe in
    reworded g.S.Store.model d c.args.store.now c.args.store.now me me c.args.out.now c.probe.new.out (on_probe s p.from p.term w.number) (on_packet (setup_of me) s p) c.probe.result
    (same_row (setup_of me) s p (Probe w.number) w.is) (c.probe.ensures.step d stands)

pub returns-in-ProbeOk : goal.returns-in-ProbeOk
unfolding on_message
returns-in-ProbeOk g c = λ d stands.
    let me = c.args.me.now in
    let s = server_of d me in
    let p = c.args.packet in
    let w = c.in-ProbeOk in
    reworded g.S.Store.model d c.args.store.now c.args.store.now me c.probe_ok.new.me c.args.out.now c.args.out.now (on_probe_ok s p.from p.term w.number w.upto s.role) (on_packet (setup_of me) s p) c.probe_ok.result
    (same_row (setup_of me) s p (ProbeOk w.number w.upto) w.is) (c.probe_ok.ensures.step d c.args.out.now stands c.requires.fresh)

pub returns-in-Image : goal.returns-in-Image
unfolding on_message
returns-in-Image g c = λ d stands.
    let me = c.args.me.now in
    let s = server_of d me in
    let p = c.args.packet in
    let w = c.in-Image in
    reworded g.S.Store.model d c.args.store.now c.image.new.store me c.image.new.me c.args.out.now c.image.new.out (on_image s p.from p.term w.base w.applied w.sectors) (on_packet (setup_of me) s p) c.image.result
    (same_row (setup_of me) s p (Image w.base w.applied w.sectors) w.is) (c.image.ensures.step d stands)
