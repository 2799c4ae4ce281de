use Rattle.std.proofs.Common.{◌≡◌, ap, refl, slice_index, subst, sym, ℕ, List, ◌∙◌}
use Rattle.pf_entry.specs.Records.{image_of}
use Rattle.pf_disk_store.specs.Kept.{IsFirstImage}
use Rattle.pf_disk_store.specs.Model.{kept_model}
use Rattle.pf_server.specs.Conditions.{IsRunning}
use Rattle.pf_server_restart.specs.Beginning.{setup_of_seat}
use Rattle.pf_server_restart.specs.declared.seat.Seat.{Seat}
use Rattle.pf_server_format.specs.Opening.{first_body, opening_server, seat_in}
use Rattle.pf_server_format.specs.Rooms.{ServerPlace}
use Rattle.pf_server_format.proofs.Begun.{disk_of}
use Rattle.pf_server_format.proofs.NewServers.{first_fits, is_first, meets_opening}
use Rattle.pf_server_format.proofs.room.ServerRoom.open.Goals as goal

-- the record of this seat
spelled_at : (image : List ℕ) (there seat : Seat) → seat ≡ there → image ≡ first_body (setup_of_seat there) → image ≡ first_body (setup_of_seat seat)
spelled_at image there seat same spelled = spelled ∙ ap (λ (s : Seat). first_body (setup_of_seat s)) (sym same)

pub new-requires-clause-first : goal.new-requires-clause-first
new-requires-clause-first g c =
    let seat = c.self.inside.seat in
    let format : slice_index c.head_of-head.result 4 ≡ seat.format = ap (λ (head : List ℕ). slice_index head 4) c.head_of-head.ensures in
    (image_of (disk_of seat), subst (λ f. IsFirstImage f (image_of (disk_of seat)) c.args.image.now) (sym format) (is_first seat c.self.inside.me c.args.image.now c.self.invariant (spelled_at c.args.image.now c.args.self.seat c.self.inside.seat (ap (λ (p : ServerPlace). p.seat) c.self.view_is) c.requires) c.args.image.now refl))

pub new-requires-clause-fits : goal.new-requires-clause-fits
new-requires-clause-fits g c = first_fits c.self.inside.seat c.self.inside.me c.args.image.now c.self.invariant (spelled_at c.args.image.now c.args.self.seat c.self.inside.seat (ap (λ (p : ServerPlace). p.seat) c.self.view_is) c.requires) c.args.image.now refl

pub returns-in-Ok-clause-opened : goal.returns-in-Ok-clause-opened
returns-in-Ok-clause-opened g c = λ _ setup.
    let model = kept_model g.D.Disk.seen g.D.Disk.may_leave g.D.Disk.faults g.D.Disk.moment g.D.Disk.left_since g.D.Disk.tells_moments in
    let seat = c.self.inside.seat in
    subst (λ (p : Seat). p ≡ seat_in setup p.number → IsRunning model seat c.in-Ok.store c.self.inside.me (opening_server setup p.number))
    (ap (λ (p : ServerPlace). p.seat) c.self.view_is)
    (meets_opening seat c.self.inside.me c.args.image.now c.self.invariant (spelled_at c.args.image.now c.args.self.seat c.self.inside.seat (ap (λ (p : ServerPlace). p.seat) c.self.view_is) c.requires) model c.in-Ok.store c.args.image.now refl (slice_index c.head_of-head.result 4)
    (ap (λ (head : List ℕ). slice_index head 4) c.head_of-head.ensures) c.in-Ok.ensures.holds c.in-Ok.ensures.used c.in-Ok.ensures.format setup)
