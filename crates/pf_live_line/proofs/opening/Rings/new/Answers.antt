use Rattle.std.proofs.Common.{◌+◌, [], ◌∷◌, ◌++◌, length, length-append, arith, refl, sym, ap, ◌∙◌, subst}
use Rattle.pf_entry.specs.Lists.{Every}
use Rattle.pf_live_seats.specs.declared.hosting.HostSeat.{HostSeat}
use Rattle.pf_live_seats.specs.declared.line.HostRings.{HostRings}
use Rattle.pf_live_seats.specs.declared.serving.Served.{Served}
use Rattle.pf_live_seats.specs.declared.serving.Standing.TheVariants.{Settled}
use Rattle.pf_live_seats.proofs.Submissions.{every_snoc}
use Rattle.pf_live_line.specs.Meeting.{AreMet}
use Rattle.pf_live_line.specs.Opening.{ServedIsNew}
use Rattle.pf_live_line.proofs.OpenedLines.{more_rings, new_met}
use Rattle.pf_live_line.proofs.PassesMet.{met_snoc}
use Rattle.pf_live_line.proofs.opening.Rings.new.Goals as goal

pub loop-host-preserved : goal.loop-host-preserved
loop-host-preserved c = let was = c.loop-host.invariant in let plan = c.args.plan.now in let made = c.loop-host.made in let h = c.loop-host.host in let r = c.in_ok-requests in let k = c.in_ok-answers in let p = c.push_reserved.ensures in let q = c.push_reserved-in-loop-host.ensures in let t = c.push_reserved-in-loop-host-2.ensures in
    let pair : HostRings = record { requests = r.requests; answers = k.answers; bell = c.new-bell.result } in
    let a : HostSeat = record { pass = r.asks; answers = k.hears; host = h; next = 0; acked = 0 } in
    let s : Served = record { pass = r.serves; answers = k.tells; taken = 0; standing = Settled; moves = 18446744073709551615 } in (
      subst (λ l. AreMet plan l (h + 1) 0 c.push_reserved-in-loop-host.new.self.items c.push_reserved-in-loop-host-2.new.self.items) (sym p.items)
          (subst (λ l. AreMet plan (made.rings.items ++ pair ∷ []) (h + 1) 0 l c.push_reserved-in-loop-host-2.new.self.items) (sym q.items)
          (subst (λ l. AreMet plan (made.rings.items ++ pair ∷ []) (h + 1) 0 (made.hosts.items ++ a ∷ []) l) (sym t.items)
          (met_snoc plan (made.rings.items ++ pair ∷ []) h 0 made.hosts.items made.served.items a s (more_rings plan made.rings.items pair h 0 made.hosts.items made.served.items was.0)
          (new_met plan made.rings.items pair h a s was.2 refl c.loop-host-test.true (refl, refl) r.ensures.passes k.ensures.passes (r.ensures.host.0, r.ensures.server.1) (k.ensures.host.0, k.ensures.server.1) (refl, refl))))),
      subst (Every ServedIsNew) (sym t.items) (every_snoc ServedIsNew made.served.items s was.1 (refl, refl)),
      ap length p.items ∙ (length-append made.rings.items (pair ∷ []) ∙ ap (λ n. n + 1) was.2),
      omega (arith, was.3, p.len),
      omega (arith, was.4, q.len),
      omega (arith, was.5, t.len),
      omega (arith, was.6, p.capacity),
      omega (arith, was.7, q.capacity),
      omega (arith, was.8, t.capacity),
    )
