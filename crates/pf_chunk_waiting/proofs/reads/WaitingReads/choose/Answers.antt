use Rattle.std.proofs.Common.{List, ap, filter, ◌∙◌, Vec}
use Rattle.std.specs.Global.{Global}
use Rattle.std.proofs.lemmas.Result.{IfOk-weaker}
use Rattle.pf_entry.specs.Tables.{ascends}
use Rattle.pf_chunk_waiting.specs.declared.waiting.Waiting.{Waiting}
use Rattle.pf_chunk_waiting.specs.declared.places.ReadPlace.{ReadPlace}
use Rattle.pf_chunk_waiting.specs.Waiters.{WaitingAre, has, waiting_numbers}
use Rattle.pf_chunk_waiting.specs.Places.{place_numbers, those_waiting}
use Rattle.pf_chunk_waiting.proofs.ChosenReads.{all_chosen, chosen_by_number}
use Rattle.pf_chunk_waiting.proofs.reads.WaitingReads.choose.Goals as goal

pub reads_among-requires : goal.reads_among-requires
reads_among-requires c =
    ap (λ (ps : List ReadPlace). ascends (place_numbers ps)) c.deref.ensures.value
    ∙ c.self.invariant.ordered (ap (λ (w : WaitingAre). ascends (waiting_numbers w.items)) c.self.view_is ∙ c.requires)

pub returns-then-are_in : goal.returns-then-are_in
returns-then-are_in c =
    let numbers = c.args.numbers.now in
    IfOk-weaker _ _ _ (λ (chosen : Vec Waiting Global) are. chosen_by_number c.args.terms.now numbers c.args.self.now.items chosen.items (c.are_in.ensures c.if-are_in.true)
    (are ∙ ap (λ (ps : List ReadPlace). filter (λ (w : Waiting). has numbers w.number) (those_waiting ps)) c.deref.ensures.value
    ∙ ap (λ (w : WaitingAre). filter (λ (x : Waiting). has numbers x.number) w.items) c.self.view_is)) c.reads_among.ensures

pub returns-else-are_in : goal.returns-else-are_in
returns-else-are_in c =
    IfOk-weaker _ _ _ (λ (chosen : Vec Waiting Global) are. all_chosen c.args.terms.now c.args.numbers.now c.args.self.now.items chosen.items
    (are ∙ ap those_waiting c.deref-else-are_in.ensures.value ∙ ap (λ (w : WaitingAre). w.items) c.self.view_is)) c.all_reads.ensures
