use Rattle.std.proofs.Common.{map, slice_get, sym, subst}
use Rattle.pf_group_network.specs.Readings.{is_taken}
use Rattle.pf_group_network.specs.Shown.{TakesRead}
use Rattle.pf_group_network.specs.Unread.{without_answer_in}
use Rattle.pf_group_network.specs.Showing.{taken_of}
use Rattle.pf_group_network.proofs.Taken.{shows_taken, takes_at}
use Rattle.pf_group_network.proofs.network.Network.take_read.Goals as goal

pub returns-clause-taken : goal.returns-clause-taken
returns-clause-taken g c setup grp shows =
    let readings = c.args.self.now.readings.items in
    let number = c.args.number in
    subst (λ xs. TakesRead grp number (taken_of c.args.self.now) (map is_taken xs) c.take.result) (sym c.take.ensures.left)
    (subst (TakesRead grp number (taken_of c.args.self.now) (map is_taken (without_answer_in readings number (slice_get readings number)))) (sym c.take.ensures.answer)
    (takes_at grp readings shows.traffic.readings number))

pub returns-clause-shows : goal.returns-clause-shows
returns-clause-shows g c setup grp shows = shows_taken g.S.Store.model setup grp c.args.self.now c.args.number _ c.take.ensures.left shows
