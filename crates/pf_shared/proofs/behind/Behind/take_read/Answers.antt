use Rattle.std.proofs.Common.{◌≡◌, ◌∙◌, [], ◌∷◌, ◌++◌, ap, subst, refl, length, rules, arith}
use Rattle.std.proofs.Math.Logic.{∥∥₁_map}
use Rattle.std.specs.Bool.{then_some}
use Rattle.pf_protocol.specs.Answers.{claims_of}
use Rattle.pf_shared.specs.declared.moment.Did.TheVariants.{Looked}
use Rattle.pf_group_rounds.specs.pf_group.specs.GroupIs.{GroupIs, state_of}
use Rattle.pf_group_rounds.specs.pf_group.proofs.Chains.{by_both}
use Rattle.pf_group_rounds.proofs.FaultCounts.{pays_trans}
use Rattle.pf_shared.specs.Looks.{HandsOut, read_handed_out}
use Rattle.pf_shared.proofs.LookEntries.{has_looked, looked_counted, looked_handed, looked_tidy, read_is, took}
use Rattle.pf_shared.specs.Since.{happened_since}
use Rattle.pf_shared.proofs.Since.{begun_same, since_same}
use Rattle.pf_shared.proofs.WovenLists.{did}
use Rattle.pf_shared.proofs.behind.Behind.take_read.Goals as goal

pub invariant_of-self : goal.invariant_of-self
invariant_of-self g c = let b = c.make_room.new.self in let ds = b.turns.items in let hs = happened_since b.start b.group in let answer = c.take_read-answer.result in let read = read_handed_out c.args.number answer in
    let e = c.take_read-answer.ensures in let t = took c.args.number answer b.group c.take_read-answer.new.self e.taken e.none e.same in
    let named : c.then_some-read.result ≡ read = c.then_some-read.ensures ∙ (ap (λ i. then_some i c.args.number) c.is_some.ensures ∙ read_is c.args.number answer) in
    let pushed : c.push.new.self.items ≡ ds ++ did c.args.seat (Looked c.then_some-read.result) ∷ [] = search rules in
    let grown : c.push.new.self.items ≡ ds ++ did c.args.seat (Looked read) ∷ [] = pushed ∙ ap (λ r. ds ++ did c.args.seat (Looked r) ∷ []) named in
    let after = c.take_read-answer.new.self in let next = happened_since b.start after in let same : next ≡ hs = since_same b.start b.group b.begun after t.history in record {
      begun = begun_same b.start b.group b.begun after t.history;
      same_root = t.root ∙ b.same_root;
      same_told = t.told ∙ b.same_told;
      paid = λ told. ∥∥₁_map (b.paid told) (λ p. pays_trans b.start b.group after p t.pays);
      by = ∥∥₁_map b.by (λ w. by_both b.start b.group after w t.by);
      none_open = b.none_open;
      counted = looked_counted ds hs b.counted c.args.seat read c.push.new.self.items grown next same;
      tidy = λ k. looked_tidy ds hs b.counted c.args.seat read c.push.new.self.items grown next same k (b.tidy k);
      handed = looked_handed ds hs b.counted c.args.seat read c.push.new.self.items grown next same b.start.taken b.group.taken after.taken b.handed t.taken;
      ends = let few = b.ends in let claims = ap (λ l. length (claims_of [] l)) same in omega arith;
      room = search rules;
    }

pub returns-clause-ok : goal.returns-clause-ok
returns-clause-ok g c = let b = c.make_room.new.self in let ds = b.turns.items in let answer = c.take_read-answer.result in let read = read_handed_out c.args.number answer in
    let e = c.take_read-answer.ensures in let t = took c.args.number answer b.group c.take_read-answer.new.self e.taken e.none e.same in
    let named : c.then_some-read.result ≡ read = c.then_some-read.ensures ∙ (ap (λ i. then_some i c.args.number) c.is_some.ensures ∙ read_is c.args.number answer) in
    let pushed : c.push.new.self.items ≡ ds ++ did c.args.seat (Looked c.then_some-read.result) ∷ [] = search rules in
    let grown : c.push.new.self.items ≡ ds ++ did c.args.seat (Looked read) ∷ [] = pushed ∙ ap (λ r. ds ++ did c.args.seat (Looked r) ∷ []) named in
    has_looked c.args.self.now b _ c.make_room.ensures.group c.make_room.ensures.turns c.args.seat read grown t.history refl

pub returns-clause-handed : goal.returns-clause-handed
returns-clause-handed g c = let e = c.take_read-answer.ensures in
    let t = took c.args.number c.take_read-answer.result c.make_room.new.self.group c.take_read-answer.new.self e.taken e.none e.same in
    subst (λ (x : GroupIs). HandsOut x.told (state_of x) x.taken c.args.number c.take_read-answer.result) c.make_room.ensures.group.0 t.handed
