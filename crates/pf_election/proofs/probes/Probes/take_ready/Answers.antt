use Rattle.std.proofs.Common.{◌-◌, List, length, refl, sym, ap, subst, ◌∙◌}
use Rattle.std.specs.List.{remove}
use Rattle.pf_entry.specs.Sets as set
use Rattle.pf_election.specs.Reads.{AreKept, IsReadAt, IsLeastAt, is_read_ready}
use Rattle.std.proofs.lemmas.Bool.{and_parts}
use Rattle.pf_election.specs.declared.probes.ProbedRead.{ProbedRead}
use Rattle.pf_election.proofs.ConfirmedCounts.{kept_less}
use Rattle.pf_election.proofs.probes.Probes.take_ready.Goals as goal

pub returns-clause-least : goal.returns-clause-least
returns-clause-least c =
    let test = is_read_ready (set.contains c.args.applied.now.slots) in
    let place = c.in_ok-place.place in
    let read = c.in_ok-read.read in
    record {
      place = place;
      read = read;
      least = subst (λ reads. IsLeastAt test reads (length reads) place) c.self.view_is c.in_ok-place.ensures;
      at = subst (λ reads. IsReadAt reads place read) c.self.view_is (sym c.in_ok-read.ensures.value);
      number_is = refl;
      range_is = refl;
      others = c.in_ok-read.ensures.items ∙ ap (λ reads. remove reads place) c.self.view_is;
    }

pub invariant_of-self : goal.invariant_of-self
invariant_of-self c = subst (λ rs. AreKept rs.items c.self.inside.confirmed c.self.inside.in_order) (sym c.in_err-read.ensures.unchanged) c.self.invariant

pub invariant_of-self-2 : goal.invariant_of-self-2
invariant_of-self-2 c =
    let reads = c.self.inside.reads.items in
    let place = c.in_ok-place.place in
    let read = c.in_ok-read.read in
    let test = is_read_ready (set.contains c.args.applied.now.slots) in
    let least = c.in_ok-place.ensures in
    let at : IsReadAt reads place read = sym c.in_ok-read.ensures.value in
    subst (λ (rs : List ProbedRead). AreKept rs (c.self.inside.confirmed - 1) c.self.inside.in_order) (sym c.in_ok-read.ensures.items)
    (kept_less reads place read c.self.inside.confirmed c.self.inside.in_order c.self.invariant least.inside (ap (λ (r : ProbedRead). r.confirmed) at ∙ (and_parts _ _ (least.here read at)).0))
