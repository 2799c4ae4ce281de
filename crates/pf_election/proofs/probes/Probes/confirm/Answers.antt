use Rattle.std.proofs.Common.{rules, ◌≡◌, ◌<◌, true, List, length, map, arith, refl, sym, ap, subst, ◌∙◌}
use Rattle.std.proofs.lemmas.List.Sorted.{answers_always}
use Rattle.pf_election.specs.declared.probes.ProbedRead.{ProbedRead}
use Rattle.pf_election.specs.Reads.{confirm_by_number}
use Rattle.pf_election.proofs.ConfirmedReads.{confirmed_already, confirmed_at, found_at, none_found}
use Rattle.pf_election.proofs.ConfirmedCounts.{kept_set}
use Rattle.pf_election.proofs.Least.{same_at}
use Rattle.pf_election.proofs.probes.Probes.confirm.Goals as goal

pub invariant_of-self : goal.invariant_of-self
invariant_of-self c =
    let reads = c.self.inside.reads.items in
    let x = c.index_mut.result.now in
    let within : c.in-Ok.place < length reads = omega (arith, c.in-Ok.ensures.bound, c.self.inside.reads.ok.0) in
    let one = same_at reads c.in-Ok.place c.index.result.now x c.index.result.now within (sym c.index.ensures) (sym c.index_mut.ensures.value) in
    kept_set reads c.in-Ok.place x (record x { confirmed = true }) c.self.inside.confirmed c.self.inside.in_order c.self.invariant within c.index_mut.ensures.value refl
    (ap (λ (r : ProbedRead). r.confirmed) one ∙ c.if-not-index.true) refl

pub returns-then-not-index : goal.returns-then-not-index
returns-then-not-index c =
    let reads = c.self.inside.reads.items in
    let number = c.args.number in
    let x = c.index_mut.result.now in
    let rising = c.self.invariant.order c.if-not-self.false in
    let within : c.in-Ok.place < length reads = omega (arith, c.in-Ok.ensures.bound, c.self.inside.reads.ok.0) in
    let found = c.in-Ok.ensures.position (λ (r : ProbedRead). r.number) (answers_always _ _ _ (λ f a r g called. search rules)) in
    confirmed_at number reads rising c.in-Ok.place x within c.index_mut.ensures.value (found_at number reads rising c.in-Ok.place x c.index_mut.ensures.value found)
    ∙ ap (map (confirm_by_number number)) c.self.view_is

pub returns-else-not-index : goal.returns-else-not-index
returns-else-not-index c =
    let reads = c.self.inside.reads.items in
    let number = c.args.number in
    let x = c.index.result.now in
    let rising = c.self.invariant.order c.if-not-self.false in
    let within : c.in-Ok.place < length reads = omega (arith, c.in-Ok.ensures.bound, c.self.inside.reads.ok.0) in
    let found = c.in-Ok.ensures.position (λ (r : ProbedRead). r.number) (answers_always _ _ _ (λ f a r g called. search rules)) in
    subst (λ (rs : List ProbedRead). rs ≡ map (confirm_by_number number) rs) c.self.view_is
    (confirmed_already number reads rising c.in-Ok.place x within c.index.ensures (found_at number reads rising c.in-Ok.place x c.index.ensures found) c.if-not-index.false)

pub returns-in_default : goal.returns-in_default
returns-in_default c =
    let reads = c.self.inside.reads.items in
    let number = c.args.number in
    let rising = c.self.invariant.order c.if-not-self.false in
    let none = c.in_default.ensures.position (λ (r : ProbedRead). r.number) (answers_always _ _ _ (λ f a r g called. search rules)) in
    subst (λ (rs : List ProbedRead). rs ≡ map (confirm_by_number number) rs) c.self.view_is (none_found number reads rising c.in_default.field-0 none)
