use Rattle.std.specs.Vec.{with_items}
use Rattle.std.proofs.Common.{◌≡◌, ℕ, ◌≤◌, ◌++◌, List, length, map, slice_set, take, drop, sym, ap, subst, ◌∙◌, arith, append-nil, rules}
use Rattle.std.proofs.lemmas.List.{take_all, drop_all, with_items_is, places}
use Rattle.std.proofs.lemmas.List.Edits.{map_over_more}
use Rattle.pf_asks.specs.Ports.{PortIs, rehomed}
use Rattle.pf_chunk.specs.Runs.{new_ports}
use Rattle.pf_chunk.specs.Views.{ChunkIs, ChunkIsReady}
use Rattle.pf_chunk.proofs.RehomedPorts.{left_ready, taking_ready}
use Rattle.pf_chunk.proofs.chunk.ChunkGroup.hand_ports.Goals as goal

-- once each was gone through
all_mapped : (xs ys : List PortIs) (i : ℕ) → length xs ≤ i → ys ≡ map rehomed (take i xs) ++ drop i xs → ys ≡ map rehomed xs
all_mapped xs ys i all is = is ∙ ap (λ (zs : List PortIs). map rehomed zs ++ drop i xs) (take_all i xs all) ∙ ap (λ (zs : List PortIs). map rehomed xs ++ zs) (drop_all i xs all) ∙ append-nil (map rehomed xs)

pub loop-port-preserved : goal.loop-port-preserved
loop-port-preserved g c =
    ap (slice_set c.loop-port.port-items c.loop-port.port-index) (c.rehome.ensures ∙ ap rehomed (sym c.port-item.is))
    ∙ map_over_more rehomed c.deref_mut-port-items.result.now c.loop-port.port-items c.loop-port.port-index c.port-item.result (omega arith) c.loop-port.invariant c.port-item.is

pub returns-clause-ready : goal.returns-clause-ready
returns-clause-ready g c =
    let left : c.swap.new.x.items ≡ new_ports = search rules in
    let had : c.deref_mut-port-items.result.now ≡ c.args.self.now.ports = search rules in
    let items : (with_items c.swap.new.y c.loop-port.port-items).items ≡ c.loop-port.port-items = with_items_is c.swap.new.y c.loop-port.port-items (search (rules, places)) in
    let took : (with_items c.swap.new.y c.loop-port.port-items).items ≡ map rehomed c.args.self.now.ports =
    items ∙ all_mapped c.deref_mut-port-items.result.now c.loop-port.port-items c.loop-port.port-index c.loop-port-test.false c.loop-port.invariant ∙ ap (map rehomed) had in (
      subst (λ (v : ChunkIs). ChunkIsReady (record v { ports = c.swap.new.x.items })) (sym c.self.view_is)
          (subst (λ (ports : List PortIs). ChunkIsReady (record c.args.self.now { ports = ports })) (sym left) (left_ready c.args.self.now c.requires.from)),
      subst (λ (v : ChunkIs). ChunkIsReady (record v { ports = (with_items c.swap.new.y c.loop-port.port-items).items })) (sym c.next.view_is)
          (subst (λ (ports : List PortIs). ChunkIsReady (record c.args.next.now { ports = ports })) (sym took) (taking_ready c.args.self.now c.args.next.now c.requires.from c.requires.to)),
    )
