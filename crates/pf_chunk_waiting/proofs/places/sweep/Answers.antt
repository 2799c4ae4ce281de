use Rattle.std.proofs.Common.{rules}
use Rattle.std.proofs.lemmas.Fn.{filter_same}
use Rattle.pf_chunk_waiting.specs.declared.places.ReadPlace.{ReadPlace}
use Rattle.pf_chunk_waiting.proofs.places.sweep.Goals as goal

pub returns-clause-waiting : goal.returns-clause-waiting
returns-clause-waiting c = filter_same _ (λ (p : ReadPlace). p.waits) _ (λ x b f' k. search rules) _ _ c.retain.ensures.filtered
