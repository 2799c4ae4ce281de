use Rattle.std.proofs.Common.{◌≡◌, ◌∙◌, refl, subst, sym}
use Rattle.std.proofs.lemmas.List.{nil_from_length}
use Rattle.pf_entry.specs.Records.{recovered}
use Rattle.pf_server_restart.specs.Recovering.{FirstRecordBegins, RecordFollows, IsFollowed, state_in}
use Rattle.pf_server_restart.proofs.RecordReads.{all_read, but_used, begins_with, image_unplaced, later_images, next_unplaced, state_goes_on, used_same}
use Rattle.pf_server_restart.proofs.recovery.recover.Goals as goal

pub returns-in_default-2 : goal.returns-in_default-2
returns-in_default-2 c = λ d stands window.
    image_unplaced c.args.found d c.in-Some.image c.pop_front.new.self.items (sym c.from_vec-records.ensures.items ∙ c.in-Some.ensures.items) stands (subst (FirstRecordBegins c.args.found.format c.args.found.used c.in-Some.image) c.in_default-2.is c.in_ok-tables.ensures) window

pub read_image-requires : goal.read_image-requires
read_image-requires c = (begins_with c.args.found.records.items c.in-Some.image c.pop_front.new.self.items (sym c.from_vec-records.ensures.items ∙ c.in-Some.ensures.items) c.requires).0

pub loop-next-init : goal.loop-next-init
loop-next-init c = record {
  rest = (begins_with c.args.found.records.items c.in-Some.image c.pop_front.new.self.items (sym c.from_vec-records.ensures.items ∙ c.in-Some.ensures.items) c.requires).1;
  state = refl;
  used = refl;
  unmarked = refl;
}

pub follow-requires : goal.follow-requires
follow-requires c = (later_images c.loop-next.records.items c.in-Some-pop_front.next c.pop_front-in-loop-next.new.self.items c.in-Some-pop_front.ensures.items c.loop-next.invariant.rest).0

pub returns-then-not-branch : goal.returns-then-not-branch
returns-then-not-branch c =
    let next = c.in-Some-pop_front.next in
    let later = c.pop_front-in-loop-next.new.self.items in
    let is = c.in-Some-pop_front.ensures.items in
    next_unplaced c.args.found c.in-Some.image c.pop_front.new.self.items (sym c.from_vec-records.ensures.items ∙ c.in-Some.ensures.items) c.in-Some-2.tables (subst (FirstRecordBegins c.args.found.format c.args.found.used c.in-Some.image) c.in-Some-2.is c.in_ok-tables.ensures)
    c.loop-next.tables next later (later_images c.loop-next.records.items next later is c.loop-next.invariant.rest).1
    (subst (λ rs. but_used (recovered (state_in c.loop-next.tables) rs) ≡ but_used (recovered (state_in c.in-Some-2.tables) c.pop_front.new.self.items)) is c.loop-next.invariant.state)
    (subst (RecordFollows c.loop-next.tables next c.follow.new.tables) c.if-not-branch.true c.in_ok-follow.ensures)

pub loop-next-preserved : goal.loop-next-preserved
loop-next-preserved c =
    let next = c.in-Some-pop_front.next in
    let later = c.pop_front-in-loop-next.new.self.items in
    let is = c.in-Some-pop_front.ensures.items in
    let followed_so : IsFollowed c.loop-next.tables next c.follow.new.tables = subst (RecordFollows c.loop-next.tables next c.follow.new.tables) c.if-not-branch.false c.in_ok-follow.ensures in
    record {
      rest = (later_images c.loop-next.records.items next later is c.loop-next.invariant.rest).1;
      state = state_goes_on c.loop-next.tables c.follow.new.tables next later _ (subst (λ rs. but_used (recovered (state_in c.loop-next.tables) rs) ≡ but_used (recovered (state_in c.in-Some-2.tables) c.pop_front.new.self.items)) is c.loop-next.invariant.state) followed_so;
      used = used_same c.loop-next.tables next c.follow.new.tables followed_so ∙ c.loop-next.invariant.used;
      unmarked = followed_so.unmarked ∙ c.loop-next.invariant.unmarked;
    }

pub returns : goal.returns
returns c =
    all_read c.args.found c.in-Some.image c.pop_front.new.self.items (sym c.from_vec-records.ensures.items ∙ c.in-Some.ensures.items) c.in-Some-2.tables (subst (FirstRecordBegins c.args.found.format c.args.found.used c.in-Some.image) c.in-Some-2.is c.in_ok-tables.ensures)
    c.loop-next.tables c.loop-next.records.items (nil_from_length c.loop-next.records.items (sym c.loop-next.records.ok.0 ∙ c.in_default-pop_front.ensures.cases.0)) c.loop-next.invariant.state c.loop-next.invariant.used c.loop-next.invariant.unmarked
