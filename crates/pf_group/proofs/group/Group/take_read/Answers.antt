use Rattle.std.proofs.Common.{◌≡◌, IfNone, IfSome, IsTrue, length, sym, ap, subst, ◌∙◌}
use Rattle.std.proofs.lemmas.List.{length-map}
use Rattle.pf_protocol.specs.Histories.{replay}
use Rattle.pf_disk_store.specs.declared.kept.Kept.{Kept}
use Rattle.pf_group_network.specs.declared.network.Network.{Network}
use Rattle.pf_group_network.specs.Going.{store_at}
use Rattle.pf_group_network.specs.Readings.{is_taken}
use Rattle.pf_disk_store.specs.Model.{kept_model}
use Rattle.pf_group.specs.GroupIs.{GroupIs, state_of}
use Rattle.pf_group.specs.Inside.{HaveHeads, group_of, setup_in}
use Rattle.pf_group.specs.Readers.{GroupHasTaken, LacksAnswer}
use Rattle.pf_group.proofs.Since.{since_still}
use Rattle.pf_group.proofs.Shown.{has_taken, if_none, lacks_answer}
use Rattle.pf_group.proofs.NetworkStands.{now_shows}
use Rattle.pf_group.proofs.group.Group.take_read.Goals as goal

pub invariant_of-self : goal.invariant_of-self
invariant_of-self g c = record {
  stands = record {
    past = c.self.invariant.stands.past;
    reached = record {
      viable = c.self.invariant.stands.reached.viable;
      short = c.self.invariant.stands.reached.short;
      shows = c.take_read.ensures.shows (setup_in c.self.inside) c.self.invariant.stands.past.group c.self.invariant.stands.reached.shows;
    };
    covers = c.self.invariant.stands.covers;
    most = c.self.invariant.stands.most;
    claims = c.self.invariant.stands.claims;
    replays = c.self.invariant.stands.replays;
  };
  heads = λ tell. subst (HaveHeads c.self.inside.number) (sym c.take_read.ensures.same) (c.self.invariant.heads tell);
  past = c.self.invariant.past;
  after = c.self.invariant.after;
  last = c.self.invariant.last;
  since = λ tell. since_still g.D.Disk.seen g.D.Disk.may_leave g.D.Disk.faults g.D.Disk.moment g.D.Disk.left_since g.D.Disk.tells g.D.Disk.tells_moments (replay (setup_in c.self.inside) c.self.inside.began.happenings.value) (replay (setup_in c.self.inside) c.self.invariant.after) c.self.inside.began.network.value c.self.inside.network c.take_read.new.self (λ i apart. ap (λ (x : Network (Kept g.row.D.Denot)). store_at x i) c.take_read.ensures.same) (c.self.invariant.since tell);
}

pub returns-clause-taken : goal.returns-clause-taken
returns-clause-taken g c =
    let setup = setup_in c.self.inside in
    let history = c.self.inside.past.happenings in
    let stands = c.self.invariant.stands in
    subst (λ (v : GroupIs). IfSome c.take_read.result (λ bytes. GroupHasTaken v c.args.number bytes (group_of g.D.Disk.tells g.D.Disk.faults g.D.Disk.moment c.self.inside.number setup c.self.inside.began.happenings.value c.self.inside.began.network.value history c.take_read.new.self))) c.self.view_is
    (has_taken g.D.Disk.tells g.D.Disk.faults g.D.Disk.moment c.self.inside.number setup c.self.inside.began.happenings.value c.self.inside.began.network.value history c.self.inside.network c.take_read.new.self stands.past.group (λ tell. (stands.replays tell).same) c.args.number c.take_read.ensures.same c.take_read.result (c.take_read.ensures.taken setup stands.past.group stands.reached.shows))

pub returns-clause-none : goal.returns-clause-none
returns-clause-none g c =
    let setup = setup_in c.self.inside in
    let history = c.self.inside.past.happenings in
    let stands = c.self.invariant.stands in
    subst (λ (v : GroupIs). IfNone c.take_read.result (LacksAnswer v c.args.number)) c.self.view_is
    (lacks_answer g.D.Disk.tells g.D.Disk.faults g.D.Disk.moment c.self.inside.number setup c.self.inside.began.happenings.value c.self.inside.began.network.value history c.self.inside.network c.take_read.new.self stands.past.group (λ tell. (stands.replays tell).same) c.args.number c.take_read.ensures.same c.take_read.result (c.take_read.ensures.taken setup stands.past.group stands.reached.shows))

pub returns-clause-same : goal.returns-clause-same
returns-clause-same g c =
    if_none c.take_read.result (λ same. ap (group_of g.D.Disk.tells g.D.Disk.faults g.D.Disk.moment c.self.inside.number (setup_in c.self.inside) c.self.inside.began.happenings.value c.self.inside.began.network.value c.self.inside.past.happenings) same ∙ c.self.view_is) c.take_read.ensures.none

pub returns-clause-numbered : goal.returns-clause-numbered
returns-clause-numbered g c told =
    subst (λ (v : GroupIs). length v.taken ≡ (state_of v).reads) c.self.view_is
    (length-map c.self.inside.network.readings.items is_taken ∙ (let shows = now_shows (kept_model g.D.Disk.seen g.D.Disk.may_leave g.D.Disk.faults g.D.Disk.moment g.D.Disk.left_since g.D.Disk.tells_moments) g.D.Disk.tells (setup_in c.self.inside) c.self.inside.past.happenings c.self.inside.network c.self.invariant.stands (subst (λ (v : GroupIs). IsTrue v.told) (sym c.self.view_is) told) in shows.reads))
