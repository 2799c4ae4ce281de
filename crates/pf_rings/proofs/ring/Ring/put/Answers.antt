use Rattle.std.proofs.Common.{suc, ◌≤◌, ◌∷◌, [], ◌++◌, true, rules, length, length-append, refl, sym, ap, subst, ◌∙◌, arith}
use Rattle.pf_rings.specs.declared.count.RingCall.TheVariants.{Put, Full}
use Rattle.pf_rings.specs.declared.count.RingSight.{RingSight}
use Rattle.pf_rings.specs.declared.view.RingView.{RingView}
use Rattle.pf_rings.specs.Counted.{Called, CallsLead, CallsWentOn}
use Rattle.pf_rings.proofs.Counts.{looks_for_place, raise}
use Rattle.pf_rings.proofs.Histories.{leads_low, went_further}
use Rattle.pf_rings.proofs.Sides.{eight_stand, found_full, found_other, puts_none, puts_one, takes_more}
use Rattle.pf_rings.proofs.ring.Ring.put.Goals as goal

pub load-requires : goal.load-requires
load-requires g c = (search rules, search rules, looks_for_place _ _ _ c.requires.side)

pub returns-then-load-clause-called : goal.returns-then-load-clause-called
returns-then-load-clause-called g c = let f = c.load.ensures.2 in found_full _ f.1 _ c.load.result f.2 f.3 (ap (λ (v : RingSight). v.host) f.4) c.if-load.true

pub returns-then-load-clause-pass : goal.returns-then-load-clause-pass
returns-then-load-clause-pass g c =
    let f = c.load.ensures.2 in
    let called : Called true c.args.pass.now.seat.me.0.host Full c.load.new.seat.me.0.host = found_full _ f.1 _ c.load.result f.2 f.3 (ap (λ (v : RingSight). v.host) f.4) c.if-load.true in (
      record {
        pass = (c.requires.pass.0, c.load.ensures.0 ∙ c.requires.pass.1, f.0 ∙ c.requires.pass.2);
        puts = c.requires.puts;
        side = ap (λ (v : RingSight). v.puts) f.4 ∙ c.requires.side;
        put = c.requires.put ∙ sym (puts_none _ _ called);
        taken = omega (arith, c.requires.taken, takes_more true _ _ Full called);
      },
      refl,
    )

pub returns-then-load-clause-full : goal.returns-then-load-clause-full
returns-then-load-clause-full g c =
    let f = c.load.ensures.2 in
    let called : Called true c.args.pass.now.seat.me.0.host Full c.load.new.seat.me.0.host = found_full _ f.1 _ c.load.result f.2 f.3 (ap (λ (v : RingSight). v.host) f.4) c.if-load.true in
    omega (arith, c.requires.put, c.requires.taken, puts_none _ _ called, takes_more true _ _ Full called, eight_stand _ _ called)

pub fetch_add-requires : goal.fetch_add-requires
fetch_add-requires g c =
    let f = c.load.ensures.2 in
    let r = c.load.result in
    let mid = found_other f.1 (f.1 ++ Full ∷ []) c.load.new.seat.me.0.host r 8 (ap (λ (v : RingSight). v.host) f.4) c.if-load.false in
    let few : r ≤ 8 = leads_low 0 r f.1 (omega arith) f.3 in
    (search rules, search rules, raise _ _ _ r (ap (λ (v : RingSight). v.puts) f.4 ∙ c.requires.side) (subst (λ l. CallsLead 0 l r) (sym mid) f.3) (omega (arith, few, c.if-load.false)))

pub returns-clause-called : goal.returns-clause-called
returns-clause-called g c =
    let f = c.load.ensures.2 in
    let mid = found_other f.1 (f.1 ++ Full ∷ []) c.load.new.seat.me.0.host c.load.result 8 (ap (λ (v : RingSight). v.host) f.4) c.if-load.false in
    let a = c.fetch_add.ensures.2 in
    let last = ap (λ (v : RingSight). v.host) a.4 in
    let old = c.args.pass.now.seat.me.0.host in
    record {
      before = a.1;
      others = went_further true old c.load.new.seat.me.0.host a.1 (subst (CallsWentOn true old) (sym mid) f.2) a.2;
      last = last;
      standing = suc c.fetch_add.result;
      legal = subst (λ l. CallsLead 0 l (suc c.fetch_add.result)) (sym last) a.3;
    }

pub returns-clause-pass : goal.returns-clause-pass
returns-clause-pass g c =
    let f = c.load.ensures.2 in
    let mid = found_other f.1 (f.1 ++ Full ∷ []) c.load.new.seat.me.0.host c.load.result 8 (ap (λ (v : RingSight). v.host) f.4) c.if-load.false in
    let a = c.fetch_add.ensures.2 in
    let last = ap (λ (v : RingSight). v.host) a.4 in
    let old = c.args.pass.now.seat.me.0.host in
    let called : Called true old Put c.fetch_add.new.seat.me.0.host = record {
      before = a.1;
      others = went_further true old c.load.new.seat.me.0.host a.1 (subst (CallsWentOn true old) (sym mid) f.2) a.2;
      last = last;
      standing = suc c.fetch_add.result;
      legal = subst (λ l. CallsLead 0 l (suc c.fetch_add.result)) (sym last) a.3;
    } in
    let p = c.push.ensures in
    let sent = c.args.pass.now.pass.me.0.client.sent in (
      record {
        pass = ((p.0.0 ∙ c.requires.pass.0.0, p.0.2 ∙ c.requires.pass.0.1), c.fetch_add.ensures.0 ∙ c.load.ensures.0 ∙ c.requires.pass.1, a.0 ∙ f.0 ∙ c.requires.pass.2);
        puts = ap (λ (v : RingView). v.puts) p.1 ∙ c.requires.puts;
        side = ap (λ (v : RingSight). v.puts) a.4 ∙ ap (λ (v : RingSight). v.puts) f.4 ∙ c.requires.side;
        put = omega (arith, ap (λ (v : RingView). length v.sent) p.1, length-append sent (c.args.request ∷ []), c.requires.put, puts_one _ _ called);
        taken = omega (arith, ap (λ (v : RingView). length v.got) p.1, c.requires.taken, takes_more true _ _ Put called);
      },
      ap (λ (v : RingView). v.got) p.1,
    )
