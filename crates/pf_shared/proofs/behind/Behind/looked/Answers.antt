use Rattle.std.proofs.Common.{◌≡◌, [], ◌∷◌, ◌++◌, None, refl, rules}
use Rattle.pf_shared.specs.declared.moment.Did.TheVariants.{Looked}
use Rattle.pf_shared.proofs.LookEntries.{has_looked, looked_counted, looked_handed, looked_tidy}
use Rattle.pf_shared.specs.Since.{happened_since}
use Rattle.pf_shared.proofs.WovenLists.{did}
use Rattle.pf_shared.proofs.behind.Behind.looked.Goals as goal

pub invariant_of-self : goal.invariant_of-self
invariant_of-self g c = let b = c.make_room.new.self in let ds = b.turns.items in let hs = happened_since b.start b.group in
    let grown : c.push.new.self.items ≡ ds ++ did c.args.seat (Looked None) ∷ [] = search rules in record {
      begun = b.begun;
      same_root = b.same_root;
      same_told = b.same_told;
      paid = b.paid;
      by = b.by;
      none_open = b.none_open;
      counted = looked_counted ds hs b.counted c.args.seat None c.push.new.self.items grown hs refl;
      tidy = λ k. looked_tidy ds hs b.counted c.args.seat None c.push.new.self.items grown hs refl k (b.tidy k);
      handed = looked_handed ds hs b.counted c.args.seat None c.push.new.self.items grown hs refl b.start.taken b.group.taken b.group.taken b.handed refl;
      ends = b.ends;
      room = search rules;
    }

pub returns-clause-ok : goal.returns-clause-ok
returns-clause-ok g c = let b = c.make_room.new.self in
    let grown : c.push.new.self.items ≡ b.turns.items ++ did c.args.seat (Looked None) ∷ [] = search rules in
    has_looked c.args.self.now b _ c.make_room.ensures.group c.make_room.ensures.turns c.args.seat None grown refl refl
