use Rattle.std.proofs.Common.{◌≡◌, ◌<◌, IsTrue, Option, None, Some, IfSome, length, slice_get, arith, refl, ap}
use Rattle.std.proofs.lemmas.Option.{slice_get_read}
use Rattle.std.specs.Vec.{with_item}
use Rattle.pf_live_seats.specs.pf_group_network.proofs.Lists.{set_elsewhere}
use Rattle.pf_protocol.specs.declared.answers.Answer.{Answer}
use Rattle.pf_live_seats.specs.declared.serving.Served.{Served}
use Rattle.pf_live_seats.specs.declared.serving.Standing.{Standing}
use Rattle.pf_live_seats.specs.declared.serving.Standing.TheVariants.{Asked}
use Rattle.pf_live_seats.specs.Submitters.{IsSettledBy}
use Rattle.pf_live_seats.specs.pf_shared.specs.Seats.{IsAlone, number_of, root_in, seen_by}
use Rattle.pf_live_line.proofs.HandedRequests.{hands_over, judged_by, judged_refl, none_asked, settled_by, submitted_by, submitted_idle}
use Rattle.pf_live_line.proofs.JudgedEnds.{met_count, met_counted}
use Rattle.pf_live_line.proofs.crew.Crew.hand.Goals as goal

some_now : (T : Type 0) (o : Option Answer) (standing : Standing) → IfSome o (λ x. T → IsSettledBy x standing) → T → IfSome o (λ x. IsSettledBy x standing)
some_now T None standing is told = tt
some_now T (Some x) standing is told = is told

pub index-requires : goal.index-requires
index-requires g c = let a = c.args.self.now in let line = c.args.line.now in let n = met_count line.plan line.rings.items line.plan.hosts 0 a.hosts.items a.served.items c.requires.crew.met in omega (arith, n, c.requires.host, a.served.ok.0)

pub index_mut-requires : goal.index_mut-requires
index_mut-requires g c = let a = c.args.self.now in let line = c.args.line.now in let n = met_count line.plan line.rings.items line.plan.hosts 0 a.hosts.items a.served.items c.requires.crew.met in omega (arith, n, c.requires.host, a.served.ok.0)

pub returns-in_default : goal.returns-in_default
returns-in_default g c = let a = c.args.self.now in let line = c.args.line.now in let i = c.args.host in let items = a.served.items in let s = c.index.result.now in let n = met_count line.plan line.rings.items line.plan.hosts 0 a.hosts.items items c.requires.crew.met in
    let low : i < length items = omega (arith, n, c.requires.host) in let there : slice_get items i ≡ Some s = slice_get_read items (length items) i s refl low c.index.ensures in record {
      judged = judged_refl line.group line.cell line.plan line.rings.items a c.requires.crew;
      others = λ h other. refl;
      refused = λ told. none_asked line.plan (root_in line.group) (seen_by a.seat) c.args.server items i s there c.in_default.not-Asked;
      submitted = submitted_idle line.group line.cell line.plan line.rings.items a c.requires.crew i s there c.in_default.not-Asked;
    }

pub hand-requires-clause-counted : goal.hand-requires-clause-counted
hand-requires-clause-counted g c = let a = c.args.self.now in let line = c.args.line.now in let i = c.args.host in let items = a.served.items in let s = c.index_mut.result.now in let n = met_count line.plan line.rings.items line.plan.hosts 0 a.hosts.items items c.requires.crew.met in
    let low : i < length items = omega (arith, n, c.requires.host) in let there : slice_get items i ≡ Some s = slice_get_read items (length items) i s refl low c.index_mut.ensures.value in
    met_counted line.plan line.rings.items line.plan.hosts a.hosts.items items c.requires.crew.met i s there

pub hand-requires-clause-asked : goal.hand-requires-clause-asked
hand-requires-clause-asked g c = let a = c.args.self.now in let line = c.args.line.now in let i = c.args.host in let items = a.served.items in let s = c.index_mut.result.now in let n = met_count line.plan line.rings.items line.plan.hosts 0 a.hosts.items items c.requires.crew.met in
    let low : i < length items = omega (arith, n, c.requires.host) in let there : slice_get items i ≡ Some s = slice_get_read items (length items) i s refl low c.index_mut.ensures.value in
    let was = c.index.result.now in let there_too : slice_get items i ≡ Some was = slice_get_read items (length items) i was refl low c.index.ensures in let same : s ≡ was = cc in let stands = ap (λ (x : Served). x.standing) same in cc

pub returns-in_err-_told-clause-judged : goal.returns-in_err-_told-clause-judged
returns-in_err-_told-clause-judged g c = let a = c.args.self.now in let line = c.args.line.now in let i = c.args.host in let items = a.served.items in let s = c.index_mut.result.now in let n = met_count line.plan line.rings.items line.plan.hosts 0 a.hosts.items items c.requires.crew.met in
    let low : i < length items = omega (arith, n, c.requires.host) in let there : slice_get items i ≡ Some s = slice_get_read items (length items) i s refl low c.index_mut.ensures.value in let e = c.hand.ensures in
    judged_by line.group line.cell line.plan line.rings.items a c.requires.crew (record a { seat = c.hand.new.seat; served = with_item a.served i c.hand.new.self }) e.seat.0 e.seat.1 i c.args.server c.in-Asked.request s c.hand.new.self there refl e.passes (met_counted line.plan line.rings.items line.plan.hosts a.hosts.items items c.requires.crew.met i s there) e.counted e.serves
    (hands_over (number_of a.seat) (IsAlone a.seat) (seen_by a.seat) (seen_by c.hand.new.seat) c.args.server c.in-Asked.request c.requires.crew.seat.at.1 c.hand.result e.handed e.err) refl refl refl refl refl refl

pub returns-in_err-_told-clause-others : goal.returns-in_err-_told-clause-others
returns-in_err-_told-clause-others g c h other = set_elsewhere c.args.self.now.served.items c.args.host h c.hand.new.self other

pub returns : goal.returns
returns g c = let a = c.args.self.now in let line = c.args.line.now in let i = c.args.host in let items = a.served.items in let s = c.index_mut.result.now in let n = met_count line.plan line.rings.items line.plan.hosts 0 a.hosts.items items c.requires.crew.met in
    let low : i < length items = omega (arith, n, c.requires.host) in let there : slice_get items i ≡ Some s = slice_get_read items (length items) i s refl low c.index_mut.ensures.value in let e = c.hand.ensures in record {
      judged = judged_by line.group line.cell line.plan line.rings.items a c.requires.crew (record a { seat = c.hand.new.seat; served = with_item a.served i c.hand.new.self }) e.seat.0 e.seat.1 i c.args.server c.in-Asked.request s c.hand.new.self there refl e.passes (met_counted line.plan line.rings.items line.plan.hosts a.hosts.items items c.requires.crew.met i s there) e.counted e.serves
          (hands_over (number_of a.seat) (IsAlone a.seat) (seen_by a.seat) (seen_by c.hand.new.seat) c.args.server c.in-Asked.request c.requires.crew.seat.at.1 c.hand.result e.handed e.err) refl refl refl refl refl refl;
      others = λ h other. set_elsewhere items i h c.hand.new.self other;
      refused = λ tells. let was = c.index.result.now in let there_too : slice_get items i ≡ Some was = slice_get_read items (length items) i was refl low c.index.ensures in let same : s ≡ was = cc in let stands = ap (λ (x : Served). x.standing) same in let asked : s.standing ≡ Asked c.in-Asked.request = cc in
          settled_by line.group line.cell line.plan line.rings.items a c.requires.crew (record a { seat = c.hand.new.seat; served = with_item a.served i c.hand.new.self }) e.seat.0 e.seat.1 i c.args.server c.in-Asked.request s c.hand.new.self there refl e.passes (met_counted line.plan line.rings.items line.plan.hosts a.hosts.items items c.requires.crew.met i s there) e.counted e.serves
          (hands_over (number_of a.seat) (IsAlone a.seat) (seen_by a.seat) (seen_by c.hand.new.seat) c.args.server c.in-Asked.request c.requires.crew.seat.at.1 c.hand.result e.handed e.err) tells asked c.in_ok-_told._told c.in_ok-_told.ensures.handed (some_now (IsTrue (root_in line.group).told) c.in_ok-_told._told c.hand.new.self.standing c.in_ok-_told.ensures.settled tells);
      submitted = let was = c.index.result.now in let there_too : slice_get items i ≡ Some was = slice_get_read items (length items) i was refl low c.index.ensures in let same : s ≡ was = cc in let stands = ap (λ (x : Served). x.standing) same in let asked : s.standing ≡ Asked c.in-Asked.request = cc in
          submitted_by line.group line.cell line.plan line.rings.items a c.requires.crew (record a { seat = c.hand.new.seat; served = with_item a.served i c.hand.new.self }) e.seat.0 e.seat.1 i c.args.server c.in-Asked.request s c.hand.new.self there refl e.passes (met_counted line.plan line.rings.items line.plan.hosts a.hosts.items items c.requires.crew.met i s there) e.counted e.serves
          (hands_over (number_of a.seat) (IsAlone a.seat) (seen_by a.seat) (seen_by c.hand.new.seat) c.args.server c.in-Asked.request c.requires.crew.seat.at.1 c.hand.result e.handed e.err) asked c.in_ok-_told._told c.in_ok-_told.ensures.handed;
    }
